-- Decoders in turn, where the values are seen as others.
use Rattle.std.proofs.Common.{◌≡◌, ℕ, ◌+◌, ◌-◌, ◌<◌, List, [], ◌∷◌, ◌++◌, map, length, drop, get_or, sym, subst, ◌∙◌, ap}
use Rattle.std.proofs.Common.{drop-cons, add-one, Option, Some, None, option_map, refl}
use Rattle.std.proofs.lemmas.List.{map-append}
use Rattle.std.specs.Borrow.{Bor}
use Rattle.std.specs.Option.{option_copied}
use Rattle.scale_info_types.specs.Portable.{Text, Field}
use Rattle.scale_info_types.specs.Shapes.{map_field}
use Rattle.scale_info_table.specs.declared.portable.PortableRegistry.{PortableRegistry}
use Rattle.scale_info_value.specs.Outcomes.{Outcome, decoded, Decoder, in_turn, outcome_map}
use Rattle.scale_info_value.specs.Readings.{part_within, value_within}
use Rattle.scale_info_value.specs.ValueDefinitions.{field}
use Rattle.scale_info_value_borrowed.specs.declared.borrowed.ValueRef.{ValueRef}
use Rattle.scale_info_value_borrowed.specs.BorrowedValues.{owned_value, field_of}
use Rattle.scale_info_value.proofs.InOrder.{preceded, Done, done_more, reads_one}

-- one more of so many is done
pub one_more_done :
    {A B : Type 0} (f : B → A) (count : ℕ) (read : Decoder A) (input : List ℕ) (k : ℕ) (done : List B) (rest : List ℕ)
    (value : B) (after : List ℕ)
    → k < count → Done count read input k (map f done) rest → read rest ≡ decoded (f value) after
    → Done count read input (k + 1) (map f (done ++ value ∷ [])) after
one_more_done f count read input k done rest value after h e g =
    subst (λ vs. Done count read input (k + 1) vs after) (sym (map-append f done (value ∷ [])))
    (done_more count read input k (map f done) rest (f value) after h e g)

-- one more of several is read
pub one_more_read :
    {A B : Type 0} (f : B → A) (whole : Outcome (List A)) (done : List B) (first : Decoder A) (more : List (Decoder A))
    (rest : List ℕ) (value : B) (after : List ℕ)
    → whole ≡ preceded (map f done) (in_turn (first ∷ more) rest) → first rest ≡ decoded (f value) after
    → whole ≡ preceded (map f (done ++ value ∷ [])) (in_turn more after)
one_more_read f whole done first more rest value after e g =
    e ∙ reads_one (map f done) first more rest (f value) after g
    ∙ ap (λ vs. preceded vs (in_turn more after)) (sym (map-append f done (value ∷ [])))

-- of a list from a place on, the first, and the others
pub first_of :
    {A : Type 0} (l : List A) (j : ℕ) (d : A) → j < length l → d ≡ get_or l j d → drop j l ≡ d ∷ drop (j + 1) l
first_of l j d h e = drop-cons l j d h ∙ (λ i. sym e i ∷ drop (sym (add-one j) i) l)

-- a name stays as it is
same_text : (o : Option Text) → option_map (λ t. t) o ≡ o
same_text None = refl
same_text (Some t) = refl

-- a field's value under the field's name
pub named_value :
    (left : ℕ) (table : PortableRegistry) (f : Field) (input : List ℕ) (name : Option (Bor Text)) (value : ValueRef)
    (after : List ℕ)
    → option_copied name ≡ f.name → value_within (left - 1) table f.ty.id input ≡ decoded (owned_value value) after
    → field (map_field {G = Unit {0}} (part_within left table) (λ t. t) f) input ≡ decoded (field_of (name, value)) after
named_value left table f input name value after h e =
    ap (λ o. outcome_map (λ v. (option_map (λ t. t) f.name, v)) o) e
    ∙ ap (λ n. decoded (n, owned_value value) after) (same_text f.name ∙ sym h)
