use Rattle.scale_info_bytes.proofs.Steps.{no_prefix_through}
use Rattle.scale_info_borrowed_form.proofs.form.BorrowedFormDecodeForm.decode_type.Goals as goal

pub returns-in-None-clause-none : goal.returns-in-None-clause-none
returns-in-None-clause-none c = no_prefix_through (λ v. v.id) c.in-None.ensures.none
