-- Fields that are taken back from the text.
use Rattle.std.proofs.Common.{◌≡◌, ℕ, ◌+◌, Bool, true, false, ◌&&◌, ◌||◌, List, [], ◌∷◌, ◌++◌, map, Option, Some, None, option_map}
use Rattle.std.proofs.Common.{refl, ap, sym, ◌∙◌, subst}
use Rattle.std.proofs.lemmas.Bool.{and_parts, eq-eqb}
use Rattle.std.proofs.lemmas.Grind.{flat_map-append}
use Rattle.std.proofs.lemmas.List.{length-map}
use Rattle.std.proofs.lemmas.Slice.Eq.{bytes_eq-Decides}
use Rattle.std.specs.List.{flat_map, AllByRecursion}
use Rattle.std.specs.Option.{option_eq}
use Rattle.std.specs.Prelude.{if◌then◌else◌, not}
use Rattle.std.specs.Str.{bytes_eq}
use Rattle.json.specs.Token as token
use Rattle.json.specs.Token.{Token}
use Rattle.serde_json.specs.Data.{Data, array, object, Members, no_members, put}
use Rattle.scale_info_types.specs.Portable.{Id, Text, Field}
use Rattle.scale_info_types.specs.declared.ty.fields.Field.{Field as AnyField}
use Rattle.scale_info_types.specs.Shapes.{map_field}
use Rattle.scale_info_table.specs.declared.portable.PortableRegistry.{PortableRegistry}
use Rattle.scale_info_value.specs.declared.value.Value.{Value}
use Rattle.scale_info_value_encode.specs.Writers as writing
use Rattle.scale_info_value_encode.specs.Writers.{Writer, written, step_to}
use Rattle.scale_info_value_encode.specs.DefinitionWriters as writers
use Rattle.scale_info_value_encode.specs.DefinitionWriters.{Writers}
use Rattle.scale_info_value_encode.proofs.Inverse.{parted, part_written}
use Rattle.scale_info_bytes.specs.Encodings.{IsByte}
use Rattle.scale_info_value_visit.specs.Events.{definition_at, all_named, keys, names}
use Rattle.scale_info_value_visit.specs.Visits.{placed, field_by}
use Rattle.scale_info_value_text.specs.ValueTexts.{event_tokens, field_opening, opening, closing}
use Rattle.scale_info_value_json.specs.Takers.{Taker, refused, mismatch, taken_map, if_found, all_taken, in_turn}
use Rattle.scale_info_value_json.specs.DefinitionTakers as takers
use Rattle.scale_info_value_json.specs.DefinitionTakers.{Takers, object_fields, named_field}
use Rattle.scale_info_value_json.specs.TreeParts.{items_in, has_name, are_distinct, is_object_of}
use Rattle.scale_info_value_json.specs.TreesOfTexts.{own_names, has_own_names}
use Rattle.scale_info_value_json.proofs.OwnNames.{fields_own}
use Rattle.scale_info_value_json.proofs.Shown.{IsShown, AreShown, AreMembersShown, none_shown, one_shown, array_shown}
use Rattle.scale_info_value_json.proofs.Shown.{no_members_shown, one_member_shown, object_shown, named_all, names_of}
use Rattle.scale_info_value_json.proofs.SoFar.{then_more}
use Rattle.scale_info_value_json.proofs.ShownParts.{tokens_by, PartIsTakenBack, passed_test, shown_map, parted_bytes}

-- names that test as equal are equal
equal_names : (a b : Option Text) → option_eq bytes_eq a b ≡ true → a ≡ b
equal_names None None e = refl
equal_names None (Some b) e = cc
equal_names (Some a) None e = cc
equal_names (Some a) (Some b) e = ap Some ((bytes_eq-Decides a b).0 e)

-- a name that is read as it is
name_stays : (name : Option Text) → option_map (λ (t : Text). t) name ≡ name
name_stays None = refl
name_stays (Some t) = refl

-- a test that fails, of names
not_passed : (a b : Bool) → (not a || b) ≡ true → a ≡ true → b ≡ true
not_passed true b e h = e
not_passed false b e h = cc

-- the first of distinct names is not among the others
apart : (name : Option Text) (names : List (Option Text)) → are_distinct (name ∷ names) ≡ true
    → (has_name name names ≡ false) × (are_distinct names ≡ true)
apart name names e =
    let p = and_parts (not (has_name name names)) (are_distinct names) e in (turned (has_name name names) p.0, p.1)
  where
    turned : (b : Bool) → not b ≡ true → b ≡ false
    turned true h = cc
    turned false h = refl

-- a name is there
some_name : (name : Option Text) (more : List (Option Text)) → all_named (name ∷ more) ≡ true
    → (t : Text) × (name ≡ Some t) × (all_named more ≡ true)
some_name None more e = cc
some_name (Some t) more e = (t, refl, e)

-- in an array nothing stands before a field's value
nothing_before : (name : Option Text) → field_opening name false ≡ []
nothing_before None = refl
nothing_before (Some t) = refl

-- fields by their names and takers
abbrev named_takers : {F : Type 0} → List (AnyField F Takers Text) → List (Option Text × Taker (Option Text × Value))
named_takers fs = map (λ f. (f.name, takers.field f)) fs

-- their values are those of the named fields
named_takers_are :
    {F : Type 0} (tree : Data) (fs : List (AnyField F Takers Text))
    → all_taken (map (named_field tree) fs) ≡ named_all tree (named_takers fs)
named_takers_are tree [] = refl
named_takers_are tree (f ∷ fs) = ap (then_more (named_field tree f)) (named_takers_are tree fs)

module _ (table : PortableRegistry) (writers_of : Id → Writers) (takers_of : Id → Takers)
    (back : (r : Id) → PartIsTakenBack table (definition_at table r.id) (writers_of r) (takers_of r)) where
  -- a field whose type stands for its writers
  abbrev pub written_field : Field → AnyField (Unit {0}) Writers Text
  written_field f = map_field writers_of (λ t. t) f

  -- a field whose type stands for its takers
  abbrev pub taken_field : Field → AnyField (Unit {0}) Takers Text
  taken_field f = map_field takers_of (λ t. t) f

  -- a field that is written has its name
  field_parts :
      (place : ℕ) (f : Field) (named : Option Text × Value) (b : List ℕ)
      → writers.field (written_field f) place named ≡ written b
      → (f.name ≡ named.0) × ((writers_of f.ty).value named.1 ≡ written b)
  field_parts place f named b e =
      let p =
      passed_test (option_eq bytes_eq (option_map (λ t. t) f.name) named.0) (writers_of f.ty).value named.1 b
      (part_written (step_to place named.0) _ b e) in
      (sym (name_stays f.name) ∙ equal_names (option_map (λ t. t) f.name) named.0 p.0, p.1)

  -- the fields from a place on, in order
  abbrev written_from : ℕ → List Field → Writer (List (Option Text × Value))
  written_from place all values = writing.in_turn place (map writers.field (map written_field all)) values

  -- fields that are written have their names
  pub written_keys :
      (place : ℕ) (all : List Field) (values : List (Option Text × Value)) (b : List ℕ)
      → written_from place all values ≡ written b → keys values ≡ names all
  written_keys place [] [] b e = refl
  written_keys place [] (v ∷ values) b e = cc
  written_keys place (f ∷ all) [] b e = cc
  written_keys place (f ∷ all) (v ∷ values) b e =
      let p = parted (writers.field (written_field f) place v) (written_from (place + 1) all values) b e in
      λ i. sym (field_parts place f v p.0 p.2).0 i ∷ written_keys (place + 1) all values p.1 p.3 i

  -- a field's value is taken back under its name
  field_back :
      (place : ℕ) (f : Field) (named : Option Text × Value) (b : List ℕ)
      → writers.field (written_field f) place named ≡ written b → AllByRecursion IsByte b → has_own_names named.1 ≡ true
      → IsShown (tokens_by table (definition_at table f.ty.id) named.1) (takers.field (taken_field f)) named
  field_back place f named b e bytes own =
      let p = field_parts place f named b e in
      let s = (back f.ty).value named.1 b p.1 bytes own in
      subst (λ (n : Option Text). IsShown {A = Option Text × Value} (tokens_by table (definition_at table f.ty.id) named.1)
      (λ tree. taken_map (λ value. (option_map (λ t. t) f.name, value)) ((takers_of f.ty).value tree)) (n, named.1))
      (name_stays f.name ∙ p.0)
      (shown_map (λ value. (option_map (λ t. t) f.name, value)) _ (takers_of f.ty).value named.1 s)

  -- the tokens of fields of which the first is this
  tokens_of_first :
      (named : Bool) (v : Option Text × Value) (f : Field) (all : List Field) (values : List (Option Text × Value))
      → flat_map event_tokens (placed (field_by table named) (map Some (f ∷ all)) (v ∷ values))
      ≡ (field_opening v.0 named ++ tokens_by table (definition_at table f.ty.id) v.1)
      ++ flat_map event_tokens (placed (field_by table named) (map Some all) values)
  tokens_of_first named v f all values =
      flat_map-append event_tokens (field_by table named v (Some f))
      (placed (field_by table named) (map Some all) values)

  -- fields in an array are taken back
  array_back :
      (place : ℕ) (all : List Field) (values : List (Option Text × Value)) (b : List ℕ)
      → written_from place all values ≡ written b → AllByRecursion IsByte b → fields_own values ≡ true
      → AreShown (flat_map event_tokens (placed (field_by table false) (map Some all) values))
      (in_turn (map takers.field (map taken_field all))) values
  array_back place [] [] b e bytes own = none_shown (in_turn []) refl
  array_back place [] (v ∷ values) b e bytes own = cc
  array_back place (f ∷ all) [] b e bytes own = cc
  array_back place (f ∷ all) (v ∷ values) b e bytes own =
      let p = parted_bytes (writers.field (written_field f) place v) (written_from (place + 1) all values) b e bytes in
      let o = and_parts (has_own_names v.1) (fields_own values) own in
      let ts = tokens_by table (definition_at table f.ty.id) v.1 in
      let us = flat_map event_tokens (placed (field_by table false) (map Some all) values) in
      let take = in_turn (map takers.field (map taken_field (f ∷ all))) in
      subst (λ all_tokens. AreShown all_tokens take (v ∷ values))
      (sym (tokens_of_first false v f all values ∙ ap (λ first. (first ++ ts) ++ us) (nothing_before v.0)))
      (one_shown ts us (takers.field (taken_field f)) (in_turn (map takers.field (map taken_field all))) take v values
      (λ tree trees. refl) (field_back place f v p.0 p.2 p.4 o.0) (array_back (place + 1) all values p.1 p.3 p.5 o.1))

  -- fields stand for takers under their names
  taken_names : (all : List Field) → names_of (named_takers (map taken_field all)) ≡ names all
  taken_names [] = refl
  taken_names (f ∷ all) = λ i. name_stays f.name i ∷ taken_names all i

  -- the names of fields whose types stand for takers
  names_stay : (all : List Field) → map (λ f. f.name) (map taken_field all) ≡ names all
  names_stay [] = refl
  names_stay (f ∷ all) = λ i. name_stays f.name i ∷ names_stay all i

  -- fields under their names, put to others that were found before, are taken back
  members_back :
      (place : ℕ) (all : List Field) (values : List (Option Text × Value)) (b : List ℕ) (found : Members)
      → written_from place all values ≡ written b → AllByRecursion IsByte b → fields_own values ≡ true
      → all_named (names all) ≡ true → are_distinct (names all) ≡ true
      → AreMembersShown (flat_map event_tokens (placed (field_by table true) (map Some all) values)) found
      (named_takers (map taken_field all)) values
  members_back place [] [] b found e bytes own named distinct = no_members_shown found
  members_back place [] (v ∷ values) b found e bytes own named distinct = cc
  members_back place (f ∷ all) [] b found e bytes own named distinct = cc
  members_back place (f ∷ all) (v ∷ values) b found e bytes own named distinct =
      let p = parted_bytes (writers.field (written_field f) place v) (written_from (place + 1) all values) b e bytes in
      let o = and_parts (has_own_names v.1) (fields_own values) own in
      let n = some_name f.name (names all) named in
      let d = apart f.name (names all) distinct in
      let name = n.0 in
      let ts = tokens_by table (definition_at table f.ty.id) v.1 in
      let us = flat_map event_tokens (placed (field_by table true) (map Some all) values) in
      let s = field_back place f v p.0 p.2 p.4 o.0 in
      let rest = members_back (place + 1) all values p.1 (put name s.tree found) p.3 p.5 o.1 n.2 d.1 in
      let alone : has_name (Some name) (names_of (named_takers (map taken_field all))) ≡ false =
      (λ i. has_name (sym n.1 i) (taken_names all i)) ∙ d.0 in
      let under : v.0 ≡ Some name = sym (field_parts place f v p.0 p.2).0 ∙ n.1 in
      let first : option_map (λ (t : Text). t) f.name ≡ Some name = name_stays f.name ∙ n.1 in
      subst (λ all_tokens. AreMembersShown all_tokens found (named_takers (map taken_field (f ∷ all))) (v ∷ values))
      (sym (tokens_of_first true v f all values ∙ ap (λ key. (field_opening key true ++ ts) ++ us) under))
      (subst (λ key. AreMembersShown (token.key name ∷ (ts ++ us)) found
      ((key, takers.field (taken_field f)) ∷ named_takers (map taken_field all)) (v ∷ values)) (sym first)
      (one_member_shown name ts us (takers.field (taken_field f)) (named_takers (map taken_field all)) found v values alone s rest))

  -- fields are taken back, with what begins and ends them
  pub fields_back :
      (all : List Field) (values : List (Option Text × Value)) (b : List ℕ)
      → writers.fields (map written_field all) values ≡ written b → AllByRecursion IsByte b → (own_names (keys values) && fields_own values) ≡ true
      → IsShown
      (opening (keys values)
      ∷ (flat_map event_tokens (placed (field_by table (all_named (keys values))) (map Some all) values)
      ++ closing (keys values) ∷ []))
      (takers.fields (map taken_field all)) values
  fields_back all values b e bytes own =
      let o = and_parts (own_names (keys values)) (fields_own values) own in
      let same = written_keys 0 all values b e in
      by_names (all_named (keys values)) refl same (not_passed (all_named (keys values)) (are_distinct (keys values)) o.0) o.1
    where
      by_names :
          (named : Bool) → all_named (keys values) ≡ named → keys values ≡ names all
          → (all_named (keys values) ≡ true → are_distinct (keys values) ≡ true) → fields_own values ≡ true
          → IsShown
          ((if named then token.begin_object else token.begin_array)
          ∷ (flat_map event_tokens (placed (field_by table named) (map Some all) values)
          ++ (if named then token.end_object else token.end_array) ∷ []))
          (takers.fields (map taken_field all)) values
      by_names true is same distinct own =
          let are_named : all_named (names all) ≡ true = ap all_named (sym same) ∙ is in
          let are_apart : are_distinct (names all) ≡ true = ap are_distinct (sym same) ∙ distinct is in
          let object_of : is_object_of (map (λ f. f.name) (map taken_field all)) ≡ true =
          ap is_object_of (names_stay all) ∙ (λ i. are_named i && are_apart i) in
          object_shown (flat_map event_tokens (placed (field_by table true) (map Some all) values))
          (named_takers (map taken_field all)) values (takers.fields (map taken_field all)) values
          (λ found h count.
          ap (λ (t : Bool). if t then object_fields (map taken_field all) (object found)
          else if_found (items_in (object found)) (in_turn (map takers.field (map taken_field all)))) object_of
          ∙ ap (λ (t : Bool). if t then all_taken (map (named_field (object found)) (map taken_field all)) else refused mismatch)
          (eq-eqb _ _ (count ∙ length-map (map taken_field all) (λ f. (f.name, takers.field f))))
          ∙ named_takers_are (object found) (map taken_field all) ∙ h)
          (members_back 0 all values b no_members e bytes own are_named are_apart)
      by_names false is same distinct own =
          let array_of : is_object_of (map (λ f. f.name) (map taken_field all)) ≡ false =
          ap is_object_of (names_stay all) ∙ ap (λ (t : Bool). t && are_distinct (names all)) (ap all_named (sym same) ∙ is) in
          array_shown (flat_map event_tokens (placed (field_by table false) (map Some all) values))
          (in_turn (map takers.field (map taken_field all))) values (takers.fields (map taken_field all)) values
          (λ trees h count.
          ap (λ (t : Bool). if t then object_fields (map taken_field all) (array trees)
          else if_found (items_in (array trees)) (in_turn (map takers.field (map taken_field all)))) array_of
          ∙ h)
          (array_back 0 all values b e bytes own)
