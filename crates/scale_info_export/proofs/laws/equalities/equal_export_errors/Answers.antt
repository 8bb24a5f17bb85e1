use Rattle.std.proofs.Common.{rules}
use Rattle.scale_info_export.specs.declared.export.ExportError.TheVariants as error
use Rattle.scale_info_export.proofs.laws.equalities.equal_export_errors.Goals as goal

pub returns : goal.returns
returns c =
    elim [
      | error.Undescribed a ↦ elim [ error.Undescribed b ↦ c.equal_type_ids.ensures a b | _ ↦ ((λ h. cc), (λ h. absurd h)) ]
      | error.Full ↦ elim [ error.Full ↦ search rules | _ ↦ ((λ h. cc), (λ h. absurd h)) ]
      | error.TooLong ↦ elim [ error.TooLong ↦ search rules | _ ↦ ((λ h. cc), (λ h. absurd h)) ]
      | error.Memory ↦ elim [ error.Memory ↦ search rules | _ ↦ ((λ h. cc), (λ h. absurd h)) ]
    ]
