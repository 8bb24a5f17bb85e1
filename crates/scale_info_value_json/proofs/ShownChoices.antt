-- Values of enums that are taken back from the text.
use Rattle.std.proofs.Common.{◌≡◌, ℕ, ◌<◌, ◌^◌, ◌==◌, Bool, true, false, ◌&&◌, List, [], ◌∷◌, ◌++◌, map, find}
use Rattle.std.proofs.Common.{Option, Some, None, option_map, refl, ap, sym, ◌∙◌, subst, arith, decimal, append_assoc}
use Rattle.std.proofs.lemmas.Bool.{lt-ltb, eqb-true}
use Rattle.std.proofs.lemmas.Grind.{flat_map-append}
use Rattle.std.proofs.lemmas.Slice.Eq.{bytes_eq-Decides}
use Rattle.std.specs.List.{flat_map, AllByRecursion}
use Rattle.std.specs.Prelude.{if◌then◌else◌, nat_lt, option_and_then}
use Rattle.std.specs.Str.{bytes_eq}
use Rattle.json.specs.Token as token
use Rattle.json.specs.Token.{Token}
use Rattle.serde_json.specs.Data.{Data, array, object, string, number, unsigned, no_items, item, no_members, member}
use Rattle.scale_info_bytes.specs.Encodings.{IsByte}
use Rattle.scale_info_types.specs.Portable.{Id, Text, Field, Variant, TypeDefVariant}
use Rattle.scale_info_types.specs.declared.ty.fields.Field.{Field as AnyField}
use Rattle.scale_info_types.specs.declared.ty.variant.Variant.{Variant as AnyVariant}
use Rattle.scale_info_types.specs.declared.ty.TypeDef.TheVariants as def
use Rattle.scale_info_types.specs.Shapes.{map_field, map_variant}
use Rattle.scale_info_table.specs.declared.portable.PortableRegistry.{PortableRegistry}
use Rattle.scale_info_value.specs.declared.value.Value.{Value}
use Rattle.scale_info_value.specs.declared.value.Value.TheVariants as Values
use Rattle.scale_info_value_encode.specs.Writers.{written}
use Rattle.scale_info_value_encode.specs.DefinitionWriters as writers
use Rattle.scale_info_value_encode.specs.DefinitionWriters.{Writers, held, variant_in, chosen_variant}
use Rattle.scale_info_value_encode.proofs.ValueKinds.{variants}
use Rattle.scale_info_value_encode.proofs.ValueKinds as kinds
use Rattle.scale_info_value_visit.specs.Events.{definition_at, all_named, keys, begin_variant, end_variant, known_in}
use Rattle.scale_info_value_visit.specs.Events as event
use Rattle.scale_info_value_visit.specs.Visits.{placed, field_by, bracketed}
use Rattle.scale_info_value_visit.proofs.Events.{variant_typed}
use Rattle.scale_info_value_text.specs.ValueTexts.{event_tokens, opening, closing, variant_opening, variant_closing}
use Rattle.scale_info_value_json.specs.Takers.{taken, refused, mismatch, taken_map, if_found}
use Rattle.scale_info_value_json.specs.DefinitionTakers.{Takers, variant_fields, is_shared, chosen, variant_of, variant}
use Rattle.scale_info_value_json.specs.TreeParts.{index_and_fields}
use Rattle.scale_info_value_json.specs.TreesOfTexts.{own_names, has_own_names}
use Rattle.scale_info_value_json.proofs.OwnNames.{fields_own, variant_own}
use Rattle.scale_info_value_json.proofs.Shown.{IsShown}
use Rattle.scale_info_value_json.proofs.ShownFields.{fields_back}
use Rattle.scale_info_value_json.proofs.ShownParts.{tokens_by, AreTakenBack, PartIsTakenBack, held_parts, passed_test, parted_bytes}
use Rattle.scale_info_value_json.proofs.ShownSingle.{ReadsAs, reads_as, shown_as, string_reads, number_reads, single_reads, one_reads, two_read}
use Rattle.scale_info_value_json.proofs.ShownVariants.{first_with_index, first_with_name, shared_alike, found_by_name, found_passes}

-- the tokens of fields with these names, with what begins and ends them
abbrev enclosed : List (Option Text) → List Token → List Token
enclosed names inner = opening names ∷ (inner ++ closing names ∷ [])

-- What stands for the fields of a variant: the tokens of the variant around it, and the tree.
data Content (inner : List Token) : List (Option Text) → Option Data → Type 0 where
  nothing : inner ≡ [] → Content inner [] None
  something : {n : Option Text} {names : List (Option Text)} {tree : Data} → ReadsAs (enclosed (n ∷ names) inner) tree
      → Content inner (n ∷ names) (Some tree)

-- a variant whose name no other has
alone_tree : Text → Option Data → Data
alone_tree name None = string name
alone_tree name (Some tree) = object (member name tree no_members)

-- one whose name is shared
shared_tree : Text → ℕ → Option Data → Data
shared_tree name index None = object (member name (array (item (number (unsigned index)) no_items)) no_members)
shared_tree name index (Some tree) =
    object (member name (array (item (number (unsigned index)) (item tree no_items))) no_members)

-- the tokens of a variant, by those of its fields
abbrev variant_tokens : Bool → Text → ℕ → List (Option Text) → List Token → List Token
variant_tokens shared name index names inner =
    variant_opening shared name index names ++ (inner ++ (variant_closing shared names ++ []))

-- they read as its tree
alone_reads :
    (name : Text) (index : ℕ) (inner : List Token) (names : List (Option Text)) (content : Option Data)
    → Content inner names content → ReadsAs (variant_tokens false name index names inner) (alone_tree name content)
unfolding alone_tree
alone_reads name index inner [] None (nothing e) =
    subst (λ ts. ReadsAs (token.string name ∷ (ts ++ [])) (string name)) (sym e) (string_reads name)
alone_reads name index inner [] (Some tree) c = elim c [ ]
alone_reads name index inner (n ∷ names) None c = elim c [ ]
alone_reads name index inner (n ∷ names) (Some tree) (something r) =
    subst (λ ts. ReadsAs (token.begin_object ∷ token.key name ∷ opening (n ∷ names) ∷ ts) (object (member name tree no_members)))
    (append_assoc inner (closing (n ∷ names) ∷ []) (token.end_object ∷ []))
    (single_reads name (enclosed (n ∷ names) inner) tree r)

-- they read as its tree
shared_reads :
    (name : Text) (index : ℕ) (inner : List Token) (names : List (Option Text)) (content : Option Data) → index < 256
    → Content inner names content → ReadsAs (variant_tokens true name index names inner) (shared_tree name index content)
unfolding shared_tree
shared_reads name index inner [] None h (nothing e) =
    subst (λ ts. ReadsAs
    (token.begin_object ∷ token.key name ∷ token.begin_array ∷ token.number (decimal index) ∷ (ts ++ token.end_array ∷ token.end_object ∷ []))
    (object (member name (array (item (number (unsigned index)) no_items)) no_members))) (sym e)
    (single_reads name (token.begin_array ∷ token.number (decimal index) ∷ token.end_array ∷ [])
    (array (item (number (unsigned index)) no_items))
    (one_reads (token.number (decimal index) ∷ []) (number (unsigned index)) (number_reads index h)))
shared_reads name index inner [] (Some tree) h c = elim c [ ]
shared_reads name index inner (n ∷ names) None h c = elim c [ ]
shared_reads name index inner (n ∷ names) (Some tree) h (something r) =
    let us = enclosed (n ∷ names) inner in
    subst (λ ts. ReadsAs
    (token.begin_object ∷ token.key name ∷ token.begin_array ∷ token.number (decimal index) ∷ opening (n ∷ names) ∷ ts)
    (object (member name (array (item (number (unsigned index)) (item tree no_items))) no_members)))
    (append_assoc (inner ++ closing (n ∷ names) ∷ []) (token.end_array ∷ []) (token.end_object ∷ [])
    ∙ append_assoc inner (closing (n ∷ names) ∷ []) (token.end_array ∷ token.end_object ∷ []))
    (single_reads name (token.begin_array ∷ token.number (decimal index) ∷ (us ++ token.end_array ∷ []))
    (array (item (number (unsigned index)) (item tree no_items)))
    (two_read (token.number (decimal index) ∷ []) us (number (unsigned index)) tree (number_reads index h) r))

-- what was found has the index
has_index : (i : ℕ) (v : Variant) (vs : List Variant) → find (λ w. w.index == i) vs ≡ Some v → v.index ≡ i
has_index i v vs e = eqb-true v.index i (found_passes (λ w. w.index == i) v vs e)

module _ (table : PortableRegistry) (writers_of : Id → Writers) (takers_of : Id → Takers)
    (back : (r : Id) → PartIsTakenBack table (definition_at table r.id) (writers_of r) (takers_of r)) where
  -- a variant whose types stand for their writers
  abbrev written_variant : Variant → AnyVariant (Unit {0}) Writers Text
  written_variant v = map_variant writers_of (λ t. t) v

  -- a variant whose types stand for their takers
  abbrev taken_variant : Variant → AnyVariant (Unit {0}) Takers Text
  taken_variant v = map_variant takers_of (λ t. t) v

  -- a field whose type stands for its writers
  abbrev fields_written : List Field → List (AnyField (Unit {0}) Writers Text)
  fields_written all = map (map_field {G = Unit {0}} writers_of (λ t. t)) all

  -- a field whose type stands for its takers
  abbrev fields_taken : List Field → List (AnyField (Unit {0}) Takers Text)
  fields_taken all = map (map_field {G = Unit {0}} takers_of (λ t. t)) all

  -- what stands for the fields of a variant, and what is taken from it
  record FieldsBack (fs : List Field) (values : List (Option Text × Value)) : Type 0 where
    content : Option Data
    reads :
        Content (flat_map event_tokens (placed (field_by table (all_named (keys values))) (map Some fs) values))
        (keys values) content
    is : variant_fields (fields_taken fs) content ≡ taken values

  -- the fields of a variant are taken back
  variant_fields_back :
      (fs : List Field) (values : List (Option Text × Value)) (b : List ℕ)
      → writers.fields (fields_written fs) values ≡ written b → AllByRecursion IsByte b
      → (own_names (keys values) && fields_own values) ≡ true → FieldsBack fs values
  variant_fields_back [] [] b e all own = record { content = None; reads = nothing refl; is = refl }
  variant_fields_back [] (v ∷ values) b e all own = cc
  variant_fields_back (f ∷ fs) [] b e all own = cc
  variant_fields_back (f ∷ fs) (v ∷ values) b e all own =
      let s = fields_back table writers_of takers_of back (f ∷ fs) (v ∷ values) b e all own in
      record { content = Some s.tree; reads = something (reads_as _ _ _ s); is = s.is }

  module _ (d : TypeDefVariant) (name : Text) (index : ℕ) (values : List (Option Text × Value)) (v : Variant)
      (first : find (λ w. w.index == index) d.variants ≡ Some v) (same : bytes_eq v.name name ≡ true)
      (content : Option Data) (taken_of : variant_fields (fields_taken v.fields) content ≡ taken values) where
    -- the variant that is meant is the first with the index
    chosen_back : variant_of name index content (find (λ w. w.index == index) (map taken_variant d.variants)) ≡ taken (Values.Variant name index values)
    chosen_back =
        ap (variant_of name index content) (first_with_index takers_of index d.variants ∙ ap (option_map taken_variant) first)
        ∙ ap (λ (t : Bool). if t then taken_map (λ vs. Values.Variant v.name index vs) (variant_fields (fields_taken v.fields) content)
        else refused mismatch) same
        ∙ ap (taken_map (λ vs. Values.Variant v.name index vs)) taken_of
        ∙ ap (λ n. taken (Values.Variant n index values)) ((bytes_eq-Decides v.name name).0 same)

    -- an alone name is taken back
    alone_taken : is_shared d.variants name ≡ false → variant (map taken_variant d.variants) (alone_tree name content) ≡ taken (Values.Variant name index values)
    unfolding alone_tree
    alone_taken alone = by_content content refl
      where
        meant : chosen (map taken_variant d.variants) name content ≡ Some (index, content)
        meant =
            ap (λ (t : Bool). if t then option_and_then index_and_fields content
            else option_map (λ w. (w.index, content)) (find (λ w. bytes_eq w.name name) (map taken_variant d.variants)))
            (shared_alike takers_of name d.variants ∙ alone)
            ∙ ap (option_map (λ w. (w.index, content)))
            (first_with_name takers_of name d.variants
            ∙ ap (option_map taken_variant) (found_by_name name index v d.variants first same alone))
            ∙ ap (λ i. Some (i, content)) (has_index index v d.variants first)

        go_on : if_found (chosen (map taken_variant d.variants) name content) (λ c.
            variant_of name c.0 c.1 (find (λ w. w.index == c.0) (map taken_variant d.variants))) ≡ taken (Values.Variant name index values)
        go_on =
            ap (λ o. if_found o (λ c. variant_of name c.0 c.1 (find (λ w. w.index == c.0) (map taken_variant d.variants)))) meant
            ∙ chosen_back

        by_content : (o : Option Data) → content ≡ o
            → variant (map taken_variant d.variants) (alone_tree name content) ≡ taken (Values.Variant name index values)
        by_content None is =
            ap (λ c. variant (map taken_variant d.variants) (alone_tree name c)) is
            ∙ ap (λ c. if_found (chosen (map taken_variant d.variants) name c) (λ c.
            variant_of name c.0 c.1 (find (λ w. w.index == c.0) (map taken_variant d.variants)))) (sym is)
            ∙ go_on
        by_content (Some tree) is =
            ap (λ c. variant (map taken_variant d.variants) (alone_tree name c)) is
            ∙ ap (λ c. if_found (chosen (map taken_variant d.variants) name c) (λ c.
            variant_of name c.0 c.1 (find (λ w. w.index == c.0) (map taken_variant d.variants)))) (sym is)
            ∙ go_on

    -- a shared name is taken back
    shared_taken :
        is_shared d.variants name ≡ true → index < 256
        → variant (map taken_variant d.variants) (shared_tree name index content) ≡ taken (Values.Variant name index values)
    unfolding shared_tree
    shared_taken shared small = by_content content refl
      where
        -- where this array stands under the name, the index is meant
        meant : (under : Data) → index_and_fields under ≡ Some (index, content)
            → if_found (chosen (map taken_variant d.variants) name (Some under)) (λ c.
            variant_of name c.0 c.1 (find (λ w. w.index == c.0) (map taken_variant d.variants))) ≡ taken (Values.Variant name index values)
        meant under is =
            ap (λ (t : Bool). if_found (if t then option_and_then index_and_fields (Some under)
            else option_map (λ w. (w.index, Some under)) (find (λ w. bytes_eq w.name name) (map taken_variant d.variants))) (λ c.
            variant_of name c.0 c.1 (find (λ w. w.index == c.0) (map taken_variant d.variants))))
            (shared_alike takers_of name d.variants ∙ shared)
            ∙ ap (λ o. if_found o (λ c. variant_of name c.0 c.1 (find (λ w. w.index == c.0) (map taken_variant d.variants)))) is
            ∙ chosen_back

        fits : (if nat_lt index (2 ^ 8) then Some index else None) ≡ Some index
        fits = ap (λ (t : Bool). if t then Some index else None) (lt-ltb index (2 ^ 8) (omega arith))

        by_content : (o : Option Data) → content ≡ o
            → variant (map taken_variant d.variants) (shared_tree name index content) ≡ taken (Values.Variant name index values)
        by_content None is =
            ap (λ c. variant (map taken_variant d.variants) (shared_tree name index c)) is
            ∙ meant (array (item (number (unsigned index)) no_items)) (ap (option_map (λ i. (i, None))) fits ∙ ap (λ c. Some (index, c)) (sym is))
        by_content (Some tree) is =
            ap (λ c. variant (map taken_variant d.variants) (shared_tree name index c)) is
            ∙ meant (array (item (number (unsigned index)) (item tree no_items)))
            (ap (option_map (λ i. (i, Some tree))) fits ∙ ap (λ c. Some (index, c)) (sym is))

  -- values of an enum are taken back
  pub variant_back :
      (d : TypeDefVariant)
      → AreTakenBack (held variant_in (chosen_variant (map written_variant d.variants)))
      (tokens_by table (Some (def.Variant d))) (variant (map taken_variant d.variants))
  variant_back d value bytes e all own =
      let x = held_parts kinds.chosen variant_in (chosen_variant (map written_variant d.variants)) variants value bytes e in
      let name = x.0.0 in
      let index = x.0.1 in
      let values = x.0.2 in
      let p =
      parted_bytes (written (index ∷ []))
      (writers.fields_of (find (λ v. v.index == index) (map written_variant d.variants)) name values) bytes x.2 all in
      let first : index ∷ [] ≡ p.0 = cc in
      let small : IsByte index = (subst (AllByRecursion IsByte) (sym first) p.4).0 in
      let own_fields : (own_names (keys values) && fields_own values) ≡ true =
      sym (variant_own name index values) ∙ ap has_own_names (sym x.1) ∙ own in
      let is_written : writers.fields_of (option_map written_variant (find (λ v. v.index == index) d.variants)) name values ≡ written p.1 =
      ap (λ o. writers.fields_of o name values) (sym (first_with_index writers_of index d.variants)) ∙ p.3 in
      subst (λ v. IsShown (tokens_by table (Some (def.Variant d)) v) (variant (map taken_variant d.variants)) v) (sym x.1)
      (by_first name index values p.1 (find (λ v. v.index == index) d.variants) refl is_written small p.5 own_fields)
    where
      by_first :
          (name : Text) (index : ℕ) (values : List (Option Text × Value)) (b : List ℕ) (o : Option Variant)
          → find (λ v. v.index == index) d.variants ≡ o
          → writers.fields_of (option_map written_variant o) name values ≡ written b → index < 256
          → AllByRecursion IsByte b → (own_names (keys values) && fields_own values) ≡ true
          → IsShown (tokens_by table (Some (def.Variant d)) (Values.Variant name index values))
          (variant (map taken_variant d.variants)) (Values.Variant name index values)
      by_first name index values b None first e small all own = cc
      by_first name index values b (Some v) first e small all own =
          let q = passed_test (bytes_eq v.name name) (writers.fields (fields_written v.fields)) values b e in
          let c = variant_fields_back v.fields values b q.1 all own in
          let named = all_named (keys values) in
          let inner = flat_map event_tokens (placed (field_by table named) (map Some v.fields) values) in
          let type = Some (def.Variant d) in
          let shared = event.is_shared d.variants name in
          let begins = begin_variant name index (keys values) shared in
          let ends = end_variant name index (keys values) shared in
          let shows : tokens_by table type (Values.Variant name index values)
          ≡ variant_tokens shared name index (keys values) inner =
          ap (flat_map event_tokens) (variant_typed table type name index values)
          ∙ ap (λ o.
          let c : Option (List Variant × Variant) = option_map (λ w. (d.variants, w)) o in
          flat_map event_tokens (bracketed (begins c) (placed (field_by table named) (known_in c)) (ends c) values)) first
          ∙ ap (λ ts. event_tokens (begins (Some (d.variants, v))) ++ ts)
          (flat_map-append event_tokens (placed (field_by table named) (map Some v.fields) values) (ends (Some (d.variants, v)) ∷ [])) in
          subst (λ ts. IsShown ts (variant (map taken_variant d.variants)) (Values.Variant name index values)) (sym shows)
          (by_shared name index values v first q.0 c.content c.is c.reads small (is_shared d.variants name) refl)
        where
          by_shared :
              (name : Text) (index : ℕ) (values : List (Option Text × Value)) (v : Variant)
              → find (λ w. w.index == index) d.variants ≡ Some v → bytes_eq v.name name ≡ true → (content : Option Data)
              → variant_fields (fields_taken v.fields) content ≡ taken values
              → Content (flat_map event_tokens (placed (field_by table (all_named (keys values))) (map Some v.fields) values))
              (keys values) content
              → index < 256 → (shared : Bool) → is_shared d.variants name ≡ shared
              → IsShown
              (variant_tokens shared name index (keys values)
              (flat_map event_tokens (placed (field_by table (all_named (keys values))) (map Some v.fields) values)))
              (variant (map taken_variant d.variants)) (Values.Variant name index values)
          by_shared name index values v first same content is reads small true shared =
              shown_as _ (shared_tree name index content) (variant (map taken_variant d.variants)) (Values.Variant name index values)
              (shared_taken d name index values v first same content is shared small)
              (shared_reads name index _ (keys values) content small reads)
          by_shared name index values v first same content is reads small false shared =
              shown_as _ (alone_tree name content) (variant (map taken_variant d.variants)) (Values.Variant name index values)
              (alone_taken d name index values v first same content is shared)
              (alone_reads name index _ (keys values) content reads)
