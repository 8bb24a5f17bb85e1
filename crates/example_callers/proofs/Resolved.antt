-- What `resolve` finds in closed tables.
use Rattle.std.proofs.Common.{◌≡◌, ◌<◌, ℕ, zero, suc, List, [], ◌∷◌, ◌++◌, length, Option, Some}
use Rattle.std.proofs.Common.{None, IsSome, Bor, All, option_map, slice_get, ap, sym, ◌∙◌, subst}
use Rattle.std.proofs.Common.{rules, arith}
use Rattle.std.proofs.lemmas.Bool.{false≢true}
use Rattle.std.proofs.lemmas.Grind.{common_steps}
use Rattle.std.proofs.lemmas.List.Elements.{All-head, All-tail}
use Rattle.std.specs.Option.{option_copied}
use Rattle.scale_info.specs.Portable.{Description, TypeDefSequence}
use Rattle.scale_info.specs.References.{references, definition_references, parameter_references}
use Rattle.scale_info.specs.Types.{PortableType}
use Rattle.scale_info.specs.TypeDefs as def
use Rattle.scale_info.specs.Types.{PortableRegistry}
use Rattle.scale_info.specs.ClosedTables.{AreBelow, IsClosed}
use Rattle.scale_info.proofs.Below.{all_appended}

all_at : {X : Type 0} (P : X → Type 0) (xs : List X) (i : ℕ) (x : X) → slice_get xs i ≡ Some x → All P xs → P x
all_at P [] i x at all = absurd (cc)
all_at P (y ∷ xs) zero x at all = subst P (search (rules, at)) (All-head P y xs all)
all_at P (y ∷ xs) (suc i) x at all = all_at P xs i x at (All-tail P y xs all)

there_below : {X : Type 0} (xs : List X) (i : ℕ) → i < length xs → IsSome (slice_get xs i)
there_below [] i below = absurd (omega (arith, below))
there_below (x ∷ xs) zero below = search rules
there_below (x ∷ xs) (suc i) below = there_below xs i (omega (arith, below))

-- in a closed table the type of a sequence's items is the index of an entry
pub items_resolve : (table : PortableRegistry) (index : ℕ) (entry : PortableType) (sequence : TypeDefSequence) → IsClosed table
    → slice_get table.types index ≡ Some entry → entry.ty.type_def ≡ def.Sequence sequence
    → IsSome (slice_get table.types sequence.type_param.id)
items_resolve table index entry sequence closed at is_sequence =
    let all = all_at (λ e. AreBelow (length table.types) (references e.ty)) table.types index entry at closed.1 in
    let of_definition = ((all_appended (λ symbol. symbol.id < length table.types) (parameter_references entry.ty.type_params) (definition_references entry.ty.type_def)).0 all).1 in
    let of_sequence = rw is_sequence at of_definition in
    there_below table.types sequence.type_param.id
    (All-head (λ symbol. symbol.id < length table.types) sequence.type_param [] of_sequence)

-- the description that was found is that of the entry
pub found_is_entry : (types : List PortableType) (index : ℕ) (entry : PortableType) (result : Option (Bor Description)) (found : Bor Description)
    → option_copied result ≡ option_map (λ e. e.ty) (slice_get types index) → result ≡ Some found
    → slice_get types index ≡ Some entry → found.now ≡ entry.ty
found_is_entry types index entry result found returns is_found at =
    let same : Some found.now ≡ Some entry.ty = ap option_copied (sym is_found) ∙ returns ∙ ap (option_map (λ e. e.ty)) at in
    search (rules, same)

-- what is there is returned
pub some_is_returned : {X Y : Type 0} (f : X → Y) (there : Option X) (result : Option (Bor Y))
    → option_copied result ≡ option_map f there → IsSome there → IsSome result
some_is_returned f None result returns is_there = absurd (false≢true is_there)
some_is_returned f (Some x) None returns is_there = absurd (cc)
some_is_returned f (Some x) (Some y) returns is_there = is_there

-- the encoding that was read and the one that was written begin the same bytes
pub same_bytes : (input read rest bytes before written : List ℕ) → input ≡ read ++ rest → input ≡ bytes
    → bytes ≡ before ++ written → before ≡ [] → read ++ rest ≡ written ++ []
same_bytes input read rest bytes before written is_read is_input is_written is_empty = grind (arith, common_steps)
