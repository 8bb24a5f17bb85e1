-- Fields and variants.
use Rattle.std.proofs.Common.{◌≡◌, ℕ, ◌+◌, ◌==◌, Bool, true, false, List, [], ◌∷◌, ◌++◌, map, find, cond}
use Rattle.std.proofs.Common.{Option, Some, None, option_map, refl, ap, sym, ◌∙◌}
use Rattle.std.proofs.lemmas.Slice.Eq.{bytes_eq-Decides}
use Rattle.std.specs.Prelude.{if◌then◌else◌}
use Rattle.std.specs.Option.{option_eq}
use Rattle.std.specs.Str.{bytes_eq}
use Rattle.std.specs.List.{AllByRecursion}
use Rattle.scale_info_bytes.specs.Encodings.{HasPrefix, IsByte}
use Rattle.scale_info_types.specs.Portable.{Id, Text, Field, Variant}
use Rattle.scale_info_types.specs.declared.ty.fields.Field.{Field as AnyField}
use Rattle.scale_info_types.specs.declared.ty.variant.Variant.{Variant as AnyVariant}
use Rattle.scale_info_types.specs.Shapes.{map_field, map_variant}
use Rattle.scale_info_value.specs.declared.value.Value.{Value, out-Value}
use Rattle.scale_info_value.specs.declared.value.Value.TheVariants as Values
use Rattle.scale_info_value.specs.Outcomes.{Decoder, decoded, outcome_map}
use Rattle.scale_info_value.specs.ValueDefinitions as values
use Rattle.scale_info_value.specs.ValueDefinitions.{Part}
use Rattle.scale_info_value_encode.specs.Writers.{Writer, written, refused, mismatch, followed_by, step_to, in_turn}
use Rattle.scale_info_value_encode.specs.DefinitionWriters.{Writers, held, field, fields, fields_of, chosen_variant, variant_in}
use Rattle.scale_info_value_encode.proofs.Inverse.{IsInverse, by_kind, unmapped, parted, parts_read_back, none_in_turn, one_in_turn}
use Rattle.scale_info_value_encode.proofs.ValueKinds.{Chosen, chosen, variants}

-- The decoders and the writers that a reference stands for are inverse to one another. Those of
-- compact integers are so as values.
pub record AreInverse (part : Part) (writers : Writers) : Type 0 where
  pub value : IsInverse part.value writers.value
  pub inner : IsInverse part.inner writers.inner
  pub compact : IsInverse (λ input. outcome_map Values.Unsigned (part.compact input)) writers.compact

-- the first that passes a test, of what things are made into, is made of the first that passes so
pub first_made :
    {X Y : Type 0} (make : X → Y) (test : Y → Bool) (xs : List X)
    → find test (map make xs) ≡ option_map make (find (λ x. test (make x)) xs)
first_made make test [] = refl
first_made {X} {Y} make test (x ∷ xs) = here (test (make x)) _ _ (first_made make test xs)
  where
    here :
        (passes : Bool) (rest : Option X) (other : Option Y) → other ≡ option_map make rest
        → cond passes (Some (make x)) other ≡ option_map make (cond passes (Some x) rest)
    here true rest other e = refl
    here false rest other e = e

-- names that test as equal are equal
equal_names : (a b : Option Text) → option_eq bytes_eq a b ≡ true → a ≡ b
equal_names None None e = refl
equal_names None (Some b) e = cc
equal_names (Some a) None e = cc
equal_names (Some a) (Some b) e = ap Some ((bytes_eq-Decides a b).0 e)

-- a name tests as equal to itself
own_name : (a : Option Text) → option_eq bytes_eq a a ≡ true
own_name None = refl
own_name (Some a) = (bytes_eq-Decides a a).1 refl

-- a writer that goes by a test
tested :
    {A : Type 0} (test : Bool) (write : Writer A) (value : A) (b : List ℕ)
    → (if test then write value else refused mismatch) ≡ written b → (test ≡ true) × (write value ≡ written b)
tested true write value b e = (refl, e)
tested false write value b e = cc

-- a value under a name is read and written
under_name :
    (name : Option Text) (read : Decoder Value) (write : Writer Value) → IsInverse read write
    → IsInverse (λ input. outcome_map (λ value. (name, value)) (read input))
    (λ (named : Option Text × Value). if option_eq bytes_eq name named.0 then write named.1 else refused mismatch)
under_name name read write inverse = record {
  back = λ named b rest e.
      let t = tested (option_eq bytes_eq name named.0) write named.1 b e in
      ap (outcome_map (λ value. (name, value))) (inverse.back named.1 b rest t.1)
      ∙ ap (λ n. decoded (n, named.1) rest) (equal_names name named.0 t.0);
  forth = λ input named rest all e.
      let p = unmapped (λ value. (name, value)) (read input) named rest e in
      let q = inverse.forth input p.0 rest all p.1 in
      record {
        encoding = q.encoding;
        encodes =
            ap (λ (n : Option Text × Value). if option_eq bytes_eq name n.0 then write n.1 else refused mismatch) (sym p.2)
            ∙ ap (λ t. if t then write p.0 else refused mismatch) (own_name name) ∙ q.encodes;
        parts = q.parts;
      };
}

module _ (part : Id → Part) (writers : Id → Writers) (inverse : (r : Id) → AreInverse (part r) (writers r)) where
  -- a field whose type stands for its decoders
  abbrev read_field : Field → AnyField (Unit {0}) Part Text
  read_field f = map_field part (λ t. t) f

  -- a field whose type stands for its writers
  abbrev written_field : Field → AnyField (Unit {0}) Writers Text
  written_field f = map_field writers (λ t. t) f

  -- a variant whose types stand for their decoders
  abbrev read_variant : Variant → AnyVariant (Unit {0}) Part Text
  read_variant v = map_variant part (λ t. t) v

  -- a variant whose types stand for their writers
  abbrev written_variant : Variant → AnyVariant (Unit {0}) Writers Text
  written_variant v = map_variant writers (λ t. t) v

  -- the fields from a place on, in order, are read and written
  fields_from :
      (place : ℕ) (all : List Field)
      → IsInverse (values.fields (map read_field all)) (in_turn place (map field (map written_field all)))
  fields_from place [] = none_in_turn place
  fields_from place (f ∷ all) =
      let name = option_map (λ t. t) f.name in
      one_in_turn place (values.field (read_field f)) (field (written_field f)) (map values.field (map read_field all))
      (map field (map written_field all))
      (parts_read_back (λ (named : Option Text × Value). step_to place named.0)
      (λ input. outcome_map (λ value. (name, value)) ((part f.ty).value input))
      (λ (named : Option Text × Value). if option_eq bytes_eq name named.0 then (writers f.ty).value named.1 else refused mismatch)
      (under_name name (part f.ty).value (writers f.ty).value (inverse f.ty).value))
      (fields_from (place + 1) all)

  -- the fields in order are read and written
  pub fields_read_back :
      (all : List Field) → IsInverse (values.fields (map read_field all)) (fields (map written_field all))
  fields_read_back all = fields_from 0 all

  -- the first variant with an index, by its decoders and by its writers
  Alike : Option (AnyVariant (Unit {0}) Part Text) → Option (AnyVariant (Unit {0}) Writers Text) → Type 0
  Alike None None = Unit {0}
  Alike None (Some w) = ⊥
  Alike (Some v) None = ⊥
  Alike (Some v) (Some w) = (v.name ≡ w.name) × IsInverse (values.fields v.fields) (fields w.fields)

  -- it is one variant
  first_alike :
      (i : ℕ) (vs : List Variant)
      → Alike (find (λ v. v.index == i) (map read_variant vs)) (find (λ v. v.index == i) (map written_variant vs))
  unfolding Alike
  first_alike i [] = tt
  first_alike i (v ∷ vs) =
      by_test (v.index == i) (find (λ w. w.index == i) (map read_variant vs))
      (find (λ w. w.index == i) (map written_variant vs)) (first_alike i vs)
    where
      by_test :
          (here : Bool) (o : Option (AnyVariant (Unit {0}) Part Text)) (p : Option (AnyVariant (Unit {0}) Writers Text))
          → Alike o p → Alike (cond here (Some (read_variant v)) o) (cond here (Some (written_variant v)) p)
      by_test true o p later = (refl, fields_read_back v.fields)
      by_test false o p later = later

  -- the fields that were written of a variant are read under its name
  fields_back :
      (o : Option (AnyVariant (Unit {0}) Part Text)) (p : Option (AnyVariant (Unit {0}) Writers Text)) → Alike o p
      → (x : Chosen) (b rest : List ℕ) → fields_of p x.0 x.2 ≡ written b
      → values.fields_of x.1 o (b ++ rest) ≡ decoded (chosen x) rest
  unfolding Alike
  fields_back None None same x b rest e = cc
  fields_back None (Some w) same x b rest e = absurd same
  fields_back (Some v) None same x b rest e = absurd same
  fields_back (Some v) (Some w) same x b rest e =
      let t = tested (bytes_eq w.name x.0) (fields w.fields) x.2 b e in
      let name : v.name ≡ x.0 = same.0 ∙ (bytes_eq-Decides w.name x.0).0 t.0 in
      ap (outcome_map (λ values. Values.Variant v.name x.1 values)) (same.1.back x.2 b rest t.1)
      ∙ ap (λ n. decoded (Values.Variant n x.1 x.2) rest) name

  -- the fields that were read of a variant are written under its name
  fields_forth :
      (o : Option (AnyVariant (Unit {0}) Part Text)) (p : Option (AnyVariant (Unit {0}) Writers Text)) → Alike o p
      → (index : ℕ) (input rest : List ℕ) (x : Chosen) → AllByRecursion IsByte input
      → values.fields_of index o input ≡ decoded (chosen x) rest
      → (index ≡ x.1) × HasPrefix (λ b. fields_of p x.0 x.2 ≡ written b) input rest
  unfolding Alike
  fields_forth None p same index input rest x all e = cc
  fields_forth (Some v) None same index input rest x all e = absurd same
  fields_forth (Some v) (Some w) same index input rest x all e =
      let u = unmapped (λ values. Values.Variant v.name index values) (values.fields v.fields input) (chosen x) rest e in
      let one : Some (v.name, index, u.0) ≡ Some x =
      sym (variants.found (v.name, index, u.0)) ∙ ap (λ d. variant_in (out-Value d)) u.2 ∙ variants.found x in
      let parts : (v.name, index, u.0) ≡ x = cc in
      let q = same.1.forth input u.0 rest all u.1 in
      let name : w.name ≡ x.0 = sym same.0 ∙ ap (λ c. c.0) parts in (
        ap (λ c. c.1) parts,
        record {
          encoding = q.encoding;
          encodes =
              ap (λ t. if t then fields w.fields x.2 else refused mismatch) ((bytes_eq-Decides w.name x.0).1 name)
              ∙ ap (fields w.fields) (sym (ap (λ c. c.2) parts)) ∙ q.encodes;
          parts = q.parts;
        },
      )

  -- what is read as a variant is one
  is_variant :
      (o : Option (AnyVariant (Unit {0}) Part Text)) (index : ℕ) (input rest : List ℕ) (value : Value)
      → values.fields_of index o input ≡ decoded value rest → (x : Chosen) × (value ≡ chosen x)
  is_variant None index input rest value e = cc
  is_variant (Some v) index input rest value e =
      let u = unmapped (λ values. Values.Variant v.name index values) (values.fields v.fields input) value rest e in
      ((v.name, index, u.0), sym u.2)

  -- values of an enum are read and written
  pub variants_read_back :
      (all : List Variant)
      → IsInverse (values.chosen_variant (map read_variant all))
      (held variant_in (chosen_variant (map written_variant all)))
  variants_read_back all =
      by_kind chosen variant_in (values.chosen_variant (map read_variant all)) (chosen_variant (map written_variant all))
      variants gives back forth
    where
      gives :
          (input : List ℕ) (value : Value) (rest : List ℕ)
          → values.chosen_variant (map read_variant all) input ≡ decoded value rest → (x : Chosen) × (value ≡ chosen x)
      gives [] value rest e = cc
      gives (index ∷ input) value rest e =
          is_variant (find (λ v. v.index == index) (map read_variant all)) index input rest value e

      back :
          (x : Chosen) (b rest : List ℕ) → chosen_variant (map written_variant all) x ≡ written b
          → values.chosen_variant (map read_variant all) (b ++ rest) ≡ decoded (chosen x) rest
      back x b rest e =
          let o = find (λ v. v.index == x.1) (map read_variant all) in
          let p = find (λ v. v.index == x.1) (map written_variant all) in
          let q = parted (written (x.1 ∷ [])) (fields_of p x.0 x.2) b e in
          let first : x.1 ∷ [] ≡ q.0 = cc in
          ap (λ c. values.chosen_variant (map read_variant all) (c ++ rest)) (q.4 ∙ ap (λ c. c ++ q.1) (sym first))
          ∙ fields_back o p (first_alike x.1 all) x q.1 rest q.3

      forth :
          (input : List ℕ) (x : Chosen) (rest : List ℕ) → AllByRecursion IsByte input
          → values.chosen_variant (map read_variant all) input ≡ decoded (chosen x) rest
          → HasPrefix (λ b. chosen_variant (map written_variant all) x ≡ written b) input rest
      forth [] x rest bytes e = cc
      forth (index ∷ input) x rest bytes e =
          let o = find (λ v. v.index == index) (map read_variant all) in
          let p = find (λ v. v.index == index) (map written_variant all) in
          let q = fields_forth o p (first_alike index all) index input rest x bytes.1 e in
          let fields_written = q.1 in
          record {
            encoding = index ∷ fields_written.encoding;
            encodes =
                ap (λ i. followed_by (written (i ∷ []))
                (fields_of (find (λ v. v.index == i) (map written_variant all)) x.0 x.2)) (sym q.0)
                ∙ ap (followed_by (written (index ∷ []))) fields_written.encodes;
            parts = ap (λ c. index ∷ c) fields_written.parts;
          }
