-- Lists of bytes and fields, one level.
use Rattle.std.proofs.Common.{◌≡◌, ℕ, suc, ◌-◌, ◌<◌, ◌≤◌, ◌^◌, Bool, true, false, List, [], ◌∷◌, map, length}
use Rattle.std.proofs.Common.{Option, Some, None, option_map, refl, ap, sym, ◌∙◌, arith, get_or}
use Rattle.std.proofs.lemmas.Bool.{lt-ltb}
use Rattle.std.proofs.lemmas.List.{length-map}
use Rattle.std.specs.Prelude.{if◌then◌else◌}
use Rattle.hex.specs.Hex.{IsBytes, decode_of}
use Rattle.hex.specs.declared.error.FromHexError.{FromHexError}
use Rattle.std.proofs.Common.{Result, Ok, Err}
use Rattle.hex.proofs.HexLemmas.{decode_of-ok}
use Rattle.std.specs.Result.{result_ok}
use Rattle.serde_json.specs.Data.{Data, number, unsigned, string}
use Rattle.scale_info_types.specs.Portable.{Id, Text, Field, TypeDef, TypeDefComposite, Description}
use Rattle.scale_info_types.specs.declared.ty.TypeDef.TheVariants as def
use Rattle.scale_info_types.specs.Shapes.{map_definition, map_field}
use Rattle.scale_info_primitives.specs.declared.primitive.TypeDefPrimitive.TheVariants as kind
use Rattle.scale_info_table.specs.declared.portable.PortableRegistry.{PortableRegistry}
use Rattle.scale_info_value.specs.declared.value.Value.{Value}
use Rattle.scale_info_value.specs.declared.value.Value.TheVariants as Values
use Rattle.scale_info_value.specs.Readings.{type_at}
use Rattle.scale_info_value_visit.specs.Events.{definition_at, is_byte, names}
use Rattle.scale_info_value_json.specs.Takers.{Refusal, taken, refused, mismatch, too_deep, taken_map, if_found}
use Rattle.scale_info_hexadecimal.specs.Digits.{bytes_by_digits, without_mark}
use Rattle.scale_info_value_json.specs.TreeParts.{list_in, items_in, is_object_of}
use Rattle.scale_info_value_json.specs.DefinitionTakers.{Takers, value_by, each, counted, compact_field}
use Rattle.scale_info_value_json.specs.Takings.{value_within, compact_within, compact_definition_within}
use Rattle.scale_info_value_json.specs.Takings.{part_within, items_within, is_count_of}
use Rattle.scale_info_value_json.proofs.AsLevels.{takings}
use Rattle.scale_info_value_json.specs.Takings.{fields_within, object_fields_within, array_fields_within}
use Rattle.scale_info_value.proofs.Levels.{levels_end, levels_known, both_at}
use Rattle.scale_info_value_json.proofs.SoFar.{then_more}

-- ---- bytes

-- a number below 256 is a byte, by the definition of bytes
byte_by :
    (part : Id → Takers) (d : TypeDef) (n : ℕ) → is_byte (Some d) ≡ true → n < 256
    → value_by (map_definition {G = Unit {0}} part (λ t. t) d) (number (unsigned n)) ≡ taken (Values.Unsigned n)
byte_by part (def.Primitive kind.U8) n is h =
    ap (λ (t : Bool). if_found (if t then Some n else None) (λ n. taken (Values.Unsigned n))) (lt-ltb n (2 ^ 8) (omega arith))
byte_by part (def.Primitive _) n is h = cc
byte_by part _ n is h = cc

-- by a type
pub byte_taken :
    (left : ℕ) (table : PortableRegistry) (id n : ℕ) → 1 ≤ left → is_byte (definition_at table id) ≡ true → n < 256
    → value_within left table id (number (unsigned n)) ≡ taken (Values.Unsigned n)
unfolding takings value_within compact_within
byte_taken left table id n level is h = by_type (type_at table id) refl is
  where
    by_type :
        (o : Option Description) → type_at table id ≡ o → is_byte (option_map (λ d. d.type_def) o) ≡ true
        → value_within left table id (number (unsigned n)) ≡ taken (Values.Unsigned n)
    by_type None e f = cc
    by_type (Some d) e f =
        (both_at (levels_known takings left table id d.type_def level (ap (option_map (λ t. t.type_def)) e)) (number (unsigned n))).0
        ∙ byte_by (part_within left table) d.type_def n f h

-- bytes that a text writes are bytes
written_bytes : (t bytes : List ℕ) → bytes_by_digits t ≡ Some bytes → IsBytes bytes
written_bytes t bytes e = by_result (decode_of (without_mark t)) refl e
  where
    by_result : (r : Result (List ℕ) FromHexError) → decode_of (without_mark t) ≡ r → result_ok r ≡ Some bytes → IsBytes bytes
    by_result (Ok b) is f =
        let same : b ≡ bytes = cc in
        (decode_of-ok (without_mark t) bytes (is ∙ ap Ok same)).3
    by_result (Err x) is f = cc

-- the numbers of bytes are taken as bytes
each_byte :
    (left : ℕ) (table : PortableRegistry) (id : ℕ) (bytes : List ℕ) → 1 ≤ left → is_byte (definition_at table id) ≡ true
    → IsBytes bytes
    → each (value_within left table id) (map (λ n. number (unsigned n)) bytes) ≡ taken (map Values.Unsigned bytes)
each_byte left table id [] level is all = refl
each_byte left table id (n ∷ bytes) level is all =
    ap (λ o. then_more o (each (value_within left table id) (map (λ n. number (unsigned n)) bytes)))
    (byte_taken left table id n level is (all 0))
    ∙ ap (taken_map (λ vs. Values.Unsigned n ∷ vs)) (each_byte left table id bytes level is (λ i. all (suc i)))

module _ (left : ℕ) (table : PortableRegistry) (ty : Id) (count : Option ℕ) (text : List ℕ)
    (of_bytes : is_byte (definition_at table ty.id) ≡ true) where
  -- a text that writes bytes is the list of their numbers
  pub bytes_are :
      (bytes : List ℕ) → bytes_by_digits text ≡ Some bytes
      → items_within left table ty count (string text)
      ≡ taken_map Values.List (counted (is_count_of count) (value_within (left - 1) table ty.id) (map (λ n. number (unsigned n)) bytes))
  bytes_are bytes e =
      ap (λ t. taken_map Values.List (if_found (list_in t (string text)) (counted (is_count_of count) (value_within (left - 1) table ty.id))))
      of_bytes
      ∙ ap (λ o. taken_map Values.List (if_found (option_map (map (λ n. number (unsigned n))) o)
      (counted (is_count_of count) (value_within (left - 1) table ty.id)))) e

  -- a text that writes none is refused
  pub no_bytes :
      (why : Refusal) → if_found (bytes_by_digits text) taken ≡ refused why → items_within left table ty count (string text) ≡ refused why
  no_bytes why e = by_bytes (bytes_by_digits text) refl e
    where
      by_bytes :
          (o : Option (List ℕ)) → bytes_by_digits text ≡ o → if_found o taken ≡ refused why
          → items_within left table ty count (string text) ≡ refused why
      by_bytes None is f =
          let same : mismatch ≡ why = cc in
          ap (λ t. taken_map Values.List (if_found (list_in t (string text)) (counted (is_count_of count) (value_within (left - 1) table ty.id))))
          of_bytes
          ∙ ap (λ o. taken_map Values.List (if_found (option_map (map (λ n. number (unsigned n))) o)
          (counted (is_count_of count) (value_within (left - 1) table ty.id)))) is
          ∙ ap refused same
      by_bytes (Some bytes) is f = cc

  -- by the test of how many there are
  bytes_tested :
      (bytes : List ℕ) (test : Bool) → bytes_by_digits text ≡ Some bytes → is_count_of count (length bytes) ≡ test
      → items_within left table ty count (string text)
      ≡ taken_map Values.List
      (if test then each (value_within (left - 1) table ty.id) (map (λ n. number (unsigned n)) bytes) else refused mismatch)
  bytes_tested bytes test e is =
      bytes_are bytes e
      ∙ ap (λ (t : Bool). taken_map Values.List
      (if t then each (value_within (left - 1) table ty.id) (map (λ n. number (unsigned n)) bytes) else refused mismatch))
      (ap (is_count_of count) (length-map bytes (λ n. number (unsigned n))) ∙ is)

  -- as many as there are to be
  pub bytes_counted :
      (bytes : List ℕ) → bytes_by_digits text ≡ Some bytes → is_count_of count (length bytes) ≡ true
      → items_within left table ty count (string text)
      ≡ taken_map Values.List (each (value_within (left - 1) table ty.id) (map (λ n. number (unsigned n)) bytes))
  bytes_counted bytes e fits = bytes_tested bytes true e fits

  -- another number of bytes is none of the type
  pub bytes_miscounted :
      (bytes : List ℕ) → bytes_by_digits text ≡ Some bytes → is_count_of count (length bytes) ≡ false
      → items_within left table ty count (string text) ≡ refused mismatch
  bytes_miscounted bytes e fits = bytes_tested bytes false e fits

  -- where no level is left for them, bytes are too deep
  pub bytes_too_deep :
      (bytes : List ℕ) → bytes_by_digits text ≡ Some bytes → is_count_of count (length bytes) ≡ true → left ≡ 1 → 0 < length bytes
      → items_within left table ty count (string text) ≡ refused too_deep
  unfolding takings value_within compact_within
  bytes_too_deep [] e fits last some = absurd (omega arith)
  bytes_too_deep (n ∷ bytes) e fits last some =
      bytes_counted (n ∷ bytes) e fits
      ∙ ap (λ o. taken_map Values.List (then_more o (each (value_within (left - 1) table ty.id) (map (λ n. number (unsigned n)) bytes))))
      (both_at (levels_end takings (left - 1) table ty.id (omega arith)) (number (unsigned n))).0

  -- else they are taken
  pub bytes_taken :
      (bytes : List ℕ) (values : List Value) → bytes_by_digits text ≡ Some bytes → is_count_of count (length bytes) ≡ true
      → 2 ≤ left → values ≡ map Values.Unsigned bytes
      → items_within left table ty count (string text) ≡ taken (Values.List values)
  bytes_taken bytes values e fits level is =
      bytes_counted bytes e fits
      ∙ ap (taken_map Values.List) (each_byte (left - 1) table ty.id bytes (omega arith) of_bytes (written_bytes text bytes e))
      ∙ ap (λ vs. taken (Values.List vs)) (sym is)

  -- no bytes are taken at each level
  pub no_bytes_taken :
      (bytes : List ℕ) (values : List Value) → bytes_by_digits text ≡ Some bytes → is_count_of count (length bytes) ≡ true
      → length bytes ≡ 0 → values ≡ map Values.Unsigned bytes
      → items_within left table ty count (string text) ≡ taken (Values.List values)
  no_bytes_taken [] values e fits none is = bytes_counted [] e fits ∙ ap (λ vs. taken (Values.List vs)) (sym is)
  no_bytes_taken (n ∷ bytes) values e fits none is = absurd (omega arith)

-- ---- compact integers

-- a composite of one field has the compact integers of that field
pub compact_of_field :
    (left : ℕ) (table : PortableRegistry) (d : TypeDef) (composite : TypeDefComposite) (fields : List Field) (f : Field)
    → d ≡ def.Composite composite → fields ≡ composite.fields → 1 ≤ length fields → length fields < 2 → f ≡ get_or fields 0 f
    → (tree : Data) → compact_definition_within left table d tree ≡ compact_within (left - 1) table f.ty.id tree
compact_of_field left table d composite [] f is e long short at tree = absurd (omega arith)
compact_of_field left table d composite (g ∷ []) f is e long short at tree =
    ap (λ x. compact_definition_within left table x tree) is
    ∙ ap (λ fs. compact_field (map (map_field {G = Unit {0}} (λ r. compact_within (left - 1) table r.id) (λ t. t)) fs) tree) (sym e)
    ∙ ap (λ x. compact_within (left - 1) table x.ty.id tree) (sym at)
compact_of_field left table d composite (g ∷ h ∷ more) f is e long short at tree = absurd (omega arith)

-- ---- fields

-- names that are read as they are
name_stays : (name : Option Text) → option_map (λ (t : Text). t) name ≡ name
name_stays None = refl
name_stays (Some t) = refl

module _ (left : ℕ) (table : PortableRegistry) (all : List Field) where
  -- the names of fields stay where references stand for takers
  names_stay : (fs : List Field) → map (λ f. f.name) (map (map_field {G = Unit {0}} (part_within left table) (λ t. t)) fs) ≡ names fs
  names_stay [] = refl
  names_stay (f ∷ fs) = λ i. name_stays f.name i ∷ names_stay fs i

  -- fields by the test of their names
  by_names :
      (tree : Data) (test : Bool) → is_object_of (names all) ≡ test
      → fields_within left table all tree
      ≡ (if test then object_fields_within left table all tree else if_found (items_in tree) (array_fields_within left table all))
  by_names tree test e =
      ap (λ (t : Bool).
      if t then object_fields_within left table all tree else if_found (items_in tree) (array_fields_within left table all))
      (ap is_object_of (names_stay all) ∙ e)

  -- fields that are the members of an object
  pub object_is :
      (tree : Data) → is_object_of (names all) ≡ true → fields_within left table all tree ≡ object_fields_within left table all tree
  object_is tree e = by_names tree true e

  -- fields that are the items of an array
  pub array_is :
      (tree : Data) → is_object_of (names all) ≡ false
      → fields_within left table all tree ≡ if_found (items_in tree) (array_fields_within left table all)
  array_is tree e = by_names tree false e

  -- of these items
  pub array_items_are :
      (tree : Data) (trees : List Data) → is_object_of (names all) ≡ false → Some trees ≡ items_in tree
      → fields_within left table all tree ≡ array_fields_within left table all trees
  array_items_are tree trees e f = array_is tree e ∙ ap (λ o. if_found o (array_fields_within left table all)) (sym f)

  -- there are none
  pub no_array :
      (tree : Data) → is_object_of (names all) ≡ false → None ≡ items_in tree → fields_within left table all tree ≡ refused mismatch
  no_array tree e f = array_is tree e ∙ ap (λ o. if_found o (array_fields_within left table all)) (sym f)
