-- Bytes encode one table.
use Rattle.std.specs.Prelude.{ℕ, List, []}
use Rattle.std.specs.Coded.{Coded-set}
use Rattle.std.proofs.Math.Logic.{∥∥₁_prop, ∥∥₁_elim}
use mathlib.Core.HLevel.{Σ_prop_path}
use Rattle.scale_info_table.specs.TableEncodingLaws.{registry_law}
use Rattle.scale_info_table.specs.contracts.portable.PortableRegistry as tables
use Rattle.scale_info_table_view.specs.Views.{IsTableView}
use Rattle.std.proofs.Common.{refl}

-- the table of a view is the one that its bytes encode
pub view_prop : (bytes offsets : List ℕ) → IsProp (IsTableView bytes offsets)
view_prop bytes offsets = λ u v.
    Σ_prop_path (λ t. ∥∥₁_prop)
    (∥∥₁_elim u.1 (Coded-set tables.the_row.coded u.0 v.0)
    (λ a. ∥∥₁_elim v.1 (Coded-set tables.the_row.coded u.0 v.0)
    (λ b. (registry_law.prefix_free u.0 v.0 bytes bytes [] [] a.encodes b.encodes refl).1)))
