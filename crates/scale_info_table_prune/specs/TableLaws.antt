-- Bytes encode one table.
use Rattle.std.specs.Prelude.{ℕ, List, []}
use Rattle.std.specs.Coded.{Coded-set, coded_list}
use Rattle.std.proofs.Common.{refl}
use Rattle.std.proofs.Math.Logic.{∥∥₁_prop, ∥∥₁_elim}
use mathlib.Core.HLevel.{Σ_prop_path}
use Rattle.scale_info_bytes.specs.PartLaws.{list_law}
use Rattle.scale_info_grammar.specs.TyLaws.{portable_type_law}
use Rattle.scale_info_types.specs.contracts.ty.PortableType as entries
use Rattle.scale_info_table_prune.specs.TableIndexes.{IsEncodedTable}

-- the table that bytes encode is one
pub table_prop : (bytes : List ℕ) → IsProp (IsEncodedTable bytes)
table_prop bytes = λ u v.
    Σ_prop_path (λ t. ∥∥₁_prop)
    (∥∥₁_elim u.1 (Coded-set (coded_list entries.the_row.coded) u.0 v.0)
    (λ a. ∥∥₁_elim v.1 (Coded-set (coded_list entries.the_row.coded) u.0 v.0)
    (λ b. ((list_law portable_type_law).prefix_free u.0 v.0 bytes bytes [] [] a b refl).1)))
