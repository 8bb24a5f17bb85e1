use Rattle.std.proofs.Common.{ap}
use Rattle.scale_info_types.proofs.Contents.{through, and_same, same_list, same_path}
use Rattle.scale_info_types.proofs.Contents.{same_parameter}
use Rattle.scale_info_types.proofs.laws.equal_contents.Goals as goal

pub returns : goal.returns
returns g c = λ a b.
    through
    (and_same _ _ (same_path g.T.Ty.PartialEq.eq g.T.String.PartialEq.eq g.T.Form.reference g.T.Form.text g.met.T.Form.reference_equal g.met.T.Form.text_equal a.path b.path)
    (and_same _ _ (same_list _ _ (same_parameter g.T.Ty.PartialEq.eq g.T.String.PartialEq.eq g.T.Form.reference g.T.Form.text g.met.T.Form.reference_equal g.met.T.Form.text_equal) a.type_params b.type_params)
    (and_same _ _ (c.equal_definitions.ensures a.type_def b.type_def) (same_list _ _ g.met.T.Form.text_equal a.docs b.docs))))
    (λ e. λ i. record { path = e.0 i; type_params = e.1.0 i; type_def = e.1.1.0 i; docs = e.1.1.1 i })
    (λ e. (ap (λ d. d.path) e, (ap (λ d. d.type_params) e, (ap (λ d. d.type_def) e, ap (λ d. d.docs) e))))
