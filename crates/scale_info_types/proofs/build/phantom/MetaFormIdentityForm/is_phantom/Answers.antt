use Rattle.std.specs.Cmp.{both_ways}
use Rattle.scale_info_types.specs.MetaDescriptions.{type_term}
use Rattle.scale_info_types.specs.Phantoms.{is_phantom, phantom_term}
use Rattle.scale_info_types.proofs.Phantoms.{term_eq_is}
use Rattle.scale_info_types.proofs.build.phantom.MetaFormIdentityForm.is_phantom.Goals as goal

pub returns : goal.returns
returns c =
    let found = c.is_phantom.ensures in
    let same = term_eq_is (type_term c.args.ty.now) phantom_term in
    both_ways c.is_phantom.result (is_phantom (type_term c.args.ty.now))
    (λ h. same.1 (found.0 h)) (λ h. found.1 (same.0 h))
