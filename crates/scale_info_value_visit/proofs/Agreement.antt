-- What is read of bytes is what is decoded of them.
use Rattle.std.proofs.Common.{◌≡◌, ◌≤◌, ℕ, zero, suc, ◌-◌, ◌==◌, Bool, true, false, List, [], ◌∷◌, ◌++◌, length, map, replicate}
use Rattle.std.proofs.Common.{Option, Some, None, option_map, find, refl, ap, sym, subst, ◌∙◌, arith}
use Rattle.scale_info_types.specs.Portable.{Id, Field, Variant, TypeDef, TypeDefVariant}
use Rattle.scale_info_types.specs.Shapes.{map_field, map_variant}
use Rattle.scale_info_types.specs.declared.ty.TypeDef.TheVariants as def
use Rattle.scale_info_primitives.specs.declared.primitive.TypeDefPrimitive.{TypeDefPrimitive}
use Rattle.scale_info_table.specs.declared.portable.PortableRegistry.{PortableRegistry}
use Rattle.scale_info_value.specs.declared.value.Value.{Value}
use Rattle.scale_info_value.specs.declared.value.Value.TheVariants as Values
use Rattle.scale_info_value.specs.Outcomes.{Outcome, decoded, failed, Decoder, and_then, outcome_map, in_turn, too_deep}
use Rattle.scale_info_value.specs.IntegerDecoders as integer
use Rattle.scale_info_value.specs.IntegerDecoders.{byte, count}
use Rattle.scale_info_value.specs.ValueDefinitions.{Part, field, primitive, fields_of}
use Rattle.scale_info_value.specs.Readings.{value_within, compact_within, part_within, definition_within, variant_within}
use Rattle.scale_info_value.specs.Readings.{fields_within, pair_within, members_within}
use Rattle.scale_info_value.proofs.InOrder.{alike, all_fail}
use Rattle.scale_info_value.proofs.Steps.{nothing_left, no_type, type_known, variant_found, variant_missing}
use Rattle.scale_info_value_visit.specs.Events as event
use Rattle.scale_info_value_visit.specs.Events.{Event, begin_list, end_list, begin_fields, end_fields, begin_of, end_of, field_of}
use Rattle.scale_info_value_visit.specs.Events.{events_by, events_of, definition_at, pair_of, is_byte, all_named, names, bytes, unsigned, list_events}
use Rattle.scale_info_value_visit.specs.Reads.{Read, Reader, shows, after, then_read, followed_by, with_value, each, between}
use Rattle.scale_info_value_visit.specs.Reads.{items_read, list_read, field_read, fields_read, chosen_read, variant_read}
use Rattle.scale_info_value_visit.specs.Reads.{members_read, record_read, tuple_read, kind_read, value_read}
use Rattle.scale_info_value_visit.specs.Visits.{bracketed, placed, value_by, field_by}
use Rattle.scale_info_value_visit.proofs.Bytes.{bytes_decoded}
use Rattle.scale_info_value_visit.proofs.Events.{unsigned_by}
use Rattle.scale_info_value_visit.proofs.OneLevel.{empty_list}
use Rattle.scale_info_value_visit.proofs.Lists.{fields_by, items_by, members_by, list_by, same_text, record_same, variant_same, found_itself, found_index}
use Rattle.scale_info_value_visit.proofs.Lists.{sequence_same, array_same, tuple_same, map_same, items_same, bytes_same, many_members}
use Rattle.scale_info_value_visit.proofs.Primitives.{no_parts}
use Rattle.scale_info_value_visit.proofs.Turns.{so_many}

-- a value is read with its events and the rest, and else the failure is read
abbrev pub Agrees : {A : Type 0} → (A → List Event) → Outcome A → Read → Type 0
Agrees shown (decoded value rest) read = read ≡ shows (shown value) rest
Agrees shown (failed why) read = read.end ≡ failed why

-- what is equal agrees
both_same :
    {A : Type 0} (shown : A → List Event) {o p : Outcome A} {read other : Read}
    → o ≡ p → read ≡ other → Agrees shown p other → Agrees shown o read
both_same shown {o} {p} {read} {other} e f h =
    subst (λ r. Agrees shown o r) (sym f) (subst (λ q. Agrees shown q other) (sym e) h)

-- so it does where values have other events that are the same
shown_alike :
    {A : Type 0} (shown inner : A → List Event) (o : Outcome A) (read : Read)
    → ((value : A) (rest : List ℕ) → o ≡ decoded value rest → shown value ≡ inner value)
    → Agrees inner o read → Agrees shown o read
shown_alike shown inner (decoded value rest) read same h = h ∙ ap (λ es. shows es rest) (sym (same value rest refl))
shown_alike shown inner (failed why) read same h = h

-- a value made of another
made :
    {A B : Type 0} (f : A → B) (shown : B → List Event) (o : Outcome A) (read : Read)
    → Agrees (λ value. shown (f value)) o read → Agrees shown (outcome_map f o) read
made f shown (decoded value rest) read h = h
made f shown (failed why) read h = h

-- what comes after a value that shows nothing
valued :
    {A B : Type 0} (shown : B → List Event) (o : Outcome A) (next : A → Decoder B) (more : A → Reader)
    → ((value : A) (rest : List ℕ) → Agrees shown (next value rest) (more value rest))
    → Agrees shown (and_then o next) (with_value o more)
valued shown (decoded value rest) next more h = h value rest
valued shown (failed why) next more h = refl

-- the others, after the first of some parts
others_agree :
    {A : Type 0} (alone : A → List Event) (all others : List A → List Event)
    → ((v : A) (vs : List A) → all (v ∷ vs) ≡ alone v ++ others vs)
    → (v : A) (o : Outcome (List A)) (read : Read) → Agrees others o read
    → Agrees all (outcome_map (λ vs. v ∷ vs) o) (after (alone v) read)
others_agree alone all others parts v (decoded vs rest) read h =
    ap (after (alone v)) h ∙ ap (λ es. shows es rest) (sym (parts v vs))
others_agree alone all others parts v (failed why) read h = h

-- one part more
one_more :
    {A : Type 0} (alone : A → List Event) (all others : List A → List Event)
    → ((v : A) (vs : List A) → all (v ∷ vs) ≡ alone v ++ others vs)
    → (o : Outcome A) (read : Read) (next : Decoder (List A)) (more : Reader)
    → Agrees alone o read → ((rest : List ℕ) → Agrees others (next rest) (more rest))
    → Agrees all (and_then o (λ v rest. outcome_map (λ vs. v ∷ vs) (next rest))) (followed_by read more)
one_more alone all others parts (decoded v rest) read next more h k =
    subst (λ r. Agrees all (outcome_map (λ vs. v ∷ vs) (next rest)) (followed_by r more)) (sym h)
    (others_agree alone all others parts v (next rest) (more rest) (k rest))
one_more alone all others parts (failed why) read next more h k = ap (λ o. (then_read read.events o more).end) h

-- what stands between two events
bracketed_agrees :
    {A : Type 0} (first last : Event) (inner : A → List Event) (o : Outcome A) (reader : Reader) (input : List ℕ)
    → Agrees inner o (reader input) → Agrees (bracketed first inner last) o (between first reader last input)
bracketed_agrees first last inner (decoded value rest) reader input h =
    ap (λ read. after (first ∷ []) (followed_by read (shows (last ∷ [])))) h
bracketed_agrees first last inner (failed why) reader input h =
    ap (λ o. (then_read (reader input).events o (shows (last ∷ []))).end) h

-- so many parts of one kind
repeated :
    {A T : Type 0} (part : A → Option T → List Event) (t : Option T) (read : Decoder A) (reader : Reader)
    → ((input : List ℕ) → Agrees (λ v. part v t) (read input) (reader input))
    → (n : ℕ) (input : List ℕ)
    → Agrees (placed part (replicate n t)) (in_turn (replicate n read) input) (each (replicate n reader) input)
repeated part t read reader h zero input = refl
repeated part t read reader h (suc n) input =
    one_more (λ v. part v t) (placed part (replicate (suc n) t)) (placed part (replicate n t)) (λ v vs. refl) (read input)
    (reader input) (in_turn (replicate n read)) (each (replicate n reader)) (h input) (repeated part t read reader h n)

-- a part of each kind in order
listed :
    {A T K P : Type 0} (part : A → Option T → List Event) (t : K → Option T) (read : P → Decoder A) (of : K → P)
    (reader : K → Reader)
    → ((k : K) (input : List ℕ) → Agrees (λ v. part v (t k)) (read (of k) input) (reader k input))
    → (ks : List K) (input : List ℕ)
    → Agrees (placed part (map t ks)) (in_turn (map read (map of ks)) input) (each (map reader ks) input)
listed part t read of reader h [] input = refl
listed part t read of reader h (k ∷ ks) input =
    one_more (λ v. part v (t k)) (placed part (map t (k ∷ ks))) (placed part (map t ks)) (λ v vs. refl) (read (of k) input)
    (reader k input) (in_turn (map read (map of ks))) (each (map reader ks)) (h k input)
    (listed part t read of reader h ks)

-- a field's value, after the field
field_agrees :
    (table : PortableRegistry) (named : Bool) (f : Field) (o : Outcome Value) (read : Read)
    → Agrees (events_by table (definition_at table f.ty.id)) o read
    → Agrees (λ v. field_by table named v (Some f)) (outcome_map (λ value. (option_map (λ t. t) f.name, value)) o)
    (after (field_of named f ∷ []) read)
field_agrees table named f (decoded value rest) read h =
    ap (after (field_of named f ∷ [])) h
    ∙ ap (λ name. shows (event.field name named (Some f) ∷ events_by table (definition_at table f.ty.id) value) rest)
    (sym (same_text f.name))
field_agrees table named f (failed why) read h = h

-- a value of a primitive
primitive_agrees :
    (table : PortableRegistry) (type : Option TypeDef) (p : TypeDefPrimitive) (input : List ℕ) (o : Outcome Value)
    → primitive p input ≡ o
    → Agrees (events_by table type) o (with_value o (λ value rest. shows (events_of value) rest))
primitive_agrees table type p input (decoded value rest) e =
    ap (λ es. shows es rest) (sym (no_parts p input value rest e table type))
primitive_agrees table type p input (failed why) e = refl

-- a compact integer
compact_agrees :
    (table : PortableRegistry) (type : Option TypeDef) (o : Outcome ℕ)
    → Agrees (events_by table type) (outcome_map Values.Unsigned o) (with_value o (λ n rest. shows (unsigned n ∷ []) rest))
compact_agrees table type (decoded n rest) = ap (λ es. shows es rest) (sym (unsigned_by table type n))
compact_agrees table type (failed why) = refl

-- bytes at once
bytes_agree :
    (table : PortableRegistry) (d : TypeDef) (n : ℕ) → is_byte (Some d) ≡ true → (o : Outcome (List ℕ))
    → Agrees (list_by table (Some d) n) (outcome_map (λ all. map Values.Unsigned all) o)
    (with_value o (λ all rest. shows (bytes all ∷ []) rest))
bytes_agree table d n byte_sized (decoded all rest) =
    ap (λ es. shows es rest) (sym (bytes_same table d n all byte_sized))
bytes_agree table d n byte_sized (failed why) = refl

-- What is read at a level agrees, where what is read of the parts does: `n` levels are left for these.
module _ (table : PortableRegistry) (n : ℕ)
    (values : (id : ℕ) (input : List ℕ) → Agrees (events_by table (definition_at table id))
    (value_within (suc n - 1) table id input) (value_read n table (definition_at table id) input))
    (pairs : (key value : Id) (input : List ℕ) → Agrees (events_by table (Some (pair_of key value)))
    (pair_within (suc n) table key value input) (value_read n table (Some (pair_of key value)) input)) where
  -- what is read of a part
  abbrev part : Option TypeDef → Reader
  part type input = value_read n table type input

  -- the fields of a record or a variant
  fields_agree :
      (named : Bool) (all : List Field) (input : List ℕ)
      → Agrees (fields_by table named all) (fields_within (suc n) table all input) (fields_read table part named all input)
  fields_agree named all input =
      listed (field_by table named) Some field (map_field {G = Unit {0}} (part_within (suc n) table) (λ t. t))
      (field_read table part named)
      (λ f bytes. field_agrees table named f (value_within (suc n - 1) table f.ty.id bytes)
      (part (definition_at table f.ty.id) bytes) (values f.ty.id bytes)) all input

  -- so many items that are no bytes
  items_agree :
      (id : ℕ) (d : TypeDef) → definition_at table id ≡ Some d → is_byte (Some d) ≡ false → (m : ℕ) (input : List ℕ)
      → Agrees (list_by table (Some d) m) (in_turn (replicate m (value_within (suc n - 1) table id)) input)
      (items_read false m (part (Some d)) input)
  items_agree id d is other m input =
      let read = value_within (suc n - 1) table id in
      shown_alike (list_by table (Some d) m) (bracketed (begin_list m) (items_by table (Some d) m) end_list)
      (in_turn (replicate m read) input) (items_read false m (part (Some d)) input)
      (λ vs rest e. items_same table d m vs other (so_many m read input vs rest e))
      (bracketed_agrees (begin_list m) end_list (items_by table (Some d) m) (in_turn (replicate m read) input)
      (each (replicate m (part (Some d)))) input
      (repeated (value_by table) (Some d) read (part (Some d))
      (λ bytes. subst (λ t. Agrees (events_by table t) (read bytes) (part t bytes)) is (values id bytes)) m input))

  -- items that have a type, as a list
  known_items_agree :
      (id : ℕ) (d : TypeDef) → definition_at table id ≡ Some d → 1 ≤ n → (m : ℕ) (input : List ℕ)
      → Agrees (list_by table (Some d) m) (in_turn (replicate m (value_within (suc n - 1) table id)) input)
      (items_read (is_byte (Some d)) m (part (Some d)) input)
  known_items_agree id d is level m input = by_kind (is_byte (Some d)) refl
    where
      by_kind :
          (b : Bool) → is_byte (Some d) ≡ b
          → Agrees (list_by table (Some d) m) (in_turn (replicate m (value_within (suc n - 1) table id)) input)
          (items_read b m (part (Some d)) input)
      by_kind false e = items_agree id d is e m input
      by_kind true e =
          both_same (list_by table (Some d) m)
          (alike m input (λ bytes. (type_known (suc n - 1) table id bytes d (omega arith) is).0)
          ∙ bytes_decoded (suc n - 1) table d m input e refl) refl
          (bytes_agree table d m e (integer.bytes m input))

  -- a list
  list_agrees :
      (id m : ℕ) (input : List ℕ)
      → Agrees (list_by table (definition_at table id) m) (in_turn (replicate m (value_within (suc n - 1) table id)) input)
      (list_read n part (definition_at table id) m input)
  list_agrees id m input = by_type m n refl (definition_at table id) refl
    where
      by_type :
          (m k : ℕ) → n ≡ k → (type : Option TypeDef) → definition_at table id ≡ type
          → Agrees (list_by table type m) (in_turn (replicate m (value_within (suc n - 1) table id)) input)
          (list_read k part type m input)
      by_type zero k e type is = empty_list (is_byte type) (part type) input
      by_type (suc m) zero e type is =
          both_same (list_by table type (suc m))
          (all_fail (suc m) (value_within (suc n - 1) table id) input too_deep (omega arith)
          (nothing_left (suc n - 1) table id input (omega arith)).0) refl refl
      by_type (suc m) (suc k) e None is =
          both_same (list_by table None (suc m))
          (all_fail (suc m) (value_within (suc n - 1) table id) input _ (omega arith)
          (no_type (suc n - 1) table id input (omega arith) is).0) refl refl
      by_type (suc m) (suc k) e (Some d) is = known_items_agree id d is (omega arith) (suc m) input

  -- a value of each type in order
  members_agree :
      (ids : List Id) (input : List ℕ)
      → Agrees (members_by table ids) (members_within (suc n) table ids input) (members_read table part ids input)
  members_agree ids input =
      listed (value_by table) (λ (t : Id). definition_at table t.id) (λ (p : Part). p.value) (part_within (suc n) table)
      (λ (t : Id). part (definition_at table t.id)) (λ t bytes. values t.id bytes) ids input

  -- a variant
  variant_agrees :
      (choice : TypeDefVariant) (input : List ℕ)
      → Agrees (events_by table (Some (def.Variant choice))) (variant_within (suc n) table choice.variants input)
      (variant_read table part choice.variants input)
  variant_agrees choice input = by_byte (byte input) refl
    where
      chosen_agrees :
          (index : ℕ) (rest : List ℕ) → byte input ≡ decoded index rest
          → (o : Option Variant) → find (λ v. v.index == index) choice.variants ≡ o
          → Agrees (events_by table (Some (def.Variant choice))) (variant_within (suc n) table choice.variants input)
          (chosen_read table part choice.variants o rest)
      chosen_agrees index rest e None none =
          both_same (events_by table (Some (def.Variant choice)))
          (variant_missing (suc n) table choice.variants input rest index e none) refl refl
      chosen_agrees index rest e (Some v) some =
          let named = all_named (names v.fields) in
          let read = fields_within (suc n) table v.fields rest in
          both_same (events_by table (Some (def.Variant choice)))
          (variant_found (suc n) table choice.variants input rest index v v.fields e some refl
          ∙ ap (λ i. outcome_map (λ values. Values.Variant v.name i values) read) (found_index index choice.variants v some)) refl
          (made (λ values. Values.Variant v.name v.index values) (events_by table (Some (def.Variant choice))) read
          (chosen_read table part choice.variants (Some v) rest)
          (shown_alike (λ values. events_by table (Some (def.Variant choice)) (Values.Variant v.name v.index values))
          (bracketed (begin_of choice.variants v) (fields_by table named v.fields) (end_of choice.variants v)) read
          (chosen_read table part choice.variants (Some v) rest)
          (variant_same (suc n) table choice v rest (found_itself index choice.variants v some))
          (bracketed_agrees (begin_of choice.variants v) (end_of choice.variants v) (fields_by table named v.fields) read
          (fields_read table part named v.fields) rest (fields_agree named v.fields rest))))

      by_byte :
          (o : Outcome ℕ) → byte input ≡ o
          → Agrees (events_by table (Some (def.Variant choice))) (variant_within (suc n) table choice.variants input)
          (with_value o (λ index rest. chosen_read table part choice.variants (find (λ v. v.index == index) choice.variants) rest))
      by_byte (decoded index rest) e = chosen_agrees index rest e (find (λ v. v.index == index) choice.variants) refl
      by_byte (failed why) e =
          let variants = map (map_variant {G = Unit {0}} (part_within (suc n) table) (λ t. t)) choice.variants in
          both_same (events_by table (Some (def.Variant choice)))
          (ap (λ o. and_then o (λ index rest. fields_of index (find (λ v. v.index == index) variants) rest)) e) refl refl

  -- a value of each kind of definition
  kind_agrees :
      (d : TypeDef) (input : List ℕ)
      → Agrees (events_by table (Some d)) (definition_within (suc n) table d input) (kind_read n table part d input)
  kind_agrees (def.Composite d) input =
      let named = all_named (names d.fields) in
      let read = fields_within (suc n) table d.fields input in
      made Values.Record (events_by table (Some (def.Composite d))) read (record_read table part d.fields input)
      (shown_alike (λ fs. events_by table (Some (def.Composite d)) (Values.Record fs))
      (bracketed (begin_fields d.fields) (fields_by table named d.fields) (end_fields d.fields)) read (record_read table part d.fields input)
      (record_same (suc n) table d input)
      (bracketed_agrees (begin_fields d.fields) (end_fields d.fields) (fields_by table named d.fields) read
      (fields_read table part named d.fields) input (fields_agree named d.fields input)))
  kind_agrees (def.Variant d) input = variant_agrees d input
  kind_agrees (def.Sequence d) input =
      let read = value_within (suc n - 1) table d.type_param.id in
      let type = definition_at table d.type_param.id in
      let shown : List Value → List Event = λ vs. events_by table (Some (def.Sequence d)) (Values.List vs) in
      made Values.List (events_by table (Some (def.Sequence d))) (and_then (count input) (λ m rest. in_turn (replicate m read) rest))
      (with_value (count input) (λ m rest. list_read n part type m rest))
      (valued shown (count input) (λ m rest. in_turn (replicate m read) rest) (λ m rest. list_read n part type m rest)
      (λ m rest.
      shown_alike shown (list_by table type m) (in_turn (replicate m read) rest) (list_read n part type m rest)
      (λ vs left e. sequence_same table d m vs (so_many m read rest vs left e)) (list_agrees d.type_param.id m rest)))
  kind_agrees (def.Array d) input =
      let read = value_within (suc n - 1) table d.type_param.id in
      let type = definition_at table d.type_param.id in
      made Values.List (events_by table (Some (def.Array d))) (in_turn (replicate d.len read) input) (list_read n part type d.len input)
      (shown_alike (λ vs. events_by table (Some (def.Array d)) (Values.List vs)) (list_by table type d.len)
      (in_turn (replicate d.len read) input) (list_read n part type d.len input)
      (λ vs left e. array_same table d vs (so_many d.len read input vs left e)) (list_agrees d.type_param.id d.len input))
  kind_agrees (def.Tuple d) input =
      let read = members_within (suc n) table d.fields input in
      made Values.List (events_by table (Some (def.Tuple d))) read (tuple_read table part d.fields input)
      (shown_alike (λ vs. events_by table (Some (def.Tuple d)) (Values.List vs))
      (bracketed (begin_list (length d.fields)) (members_by table d.fields) end_list) read (tuple_read table part d.fields input)
      (λ vs left e. tuple_same table d vs (many_members (suc n) table d.fields input vs left e))
      (bracketed_agrees (begin_list (length d.fields)) end_list (members_by table d.fields) read
      (members_read table part d.fields) input (members_agree d.fields input)))
  kind_agrees (def.Primitive p) input = primitive_agrees table (Some (def.Primitive p)) p input (primitive p input) refl
  kind_agrees (def.Compact d) input =
      compact_agrees table (Some (def.Compact d)) (compact_within (suc n) table d.type_param.id input)
  kind_agrees (def.BitSequence d) input = refl
  kind_agrees (def.Map d) input =
      let read = pair_within (suc n) table d.key d.value in
      let type : Option TypeDef = Some (pair_of d.key d.value) in
      let shown : List Value → List Event = λ vs. events_by table (Some (def.Map d)) (Values.List vs) in
      made Values.List (events_by table (Some (def.Map d))) (and_then (count input) (λ m rest. in_turn (replicate m read) rest))
      (with_value (count input) (λ m rest. between (begin_list m) (each (replicate m (part type))) end_list rest))
      (valued shown (count input) (λ m rest. in_turn (replicate m read) rest)
      (λ m rest. between (begin_list m) (each (replicate m (part type))) end_list rest)
      (λ m rest.
      shown_alike shown (bracketed (begin_list m) (items_by table type m) end_list) (in_turn (replicate m read) rest)
      (between (begin_list m) (each (replicate m (part type))) end_list rest)
      (λ vs left e. map_same table d m vs (so_many m read rest vs left e))
      (bracketed_agrees (begin_list m) end_list (items_by table type m) (in_turn (replicate m read) rest)
      (each (replicate m (part type))) rest
      (repeated (value_by table) type read (part type) (pairs d.key d.value) m rest))))

module _ (table : PortableRegistry) where
  -- where no level is left
  ended_agrees :
      (id : ℕ) (input : List ℕ)
      → Agrees (events_by table (definition_at table id)) (value_within zero table id input)
      (value_read zero table (definition_at table id) input)
  unfolding value_read
  ended_agrees id input =
      both_same (events_by table (definition_at table id)) (nothing_left zero table id input refl).0 refl refl

  -- by the definition of the type, where that agrees
  typed_agrees :
      (n : ℕ)
      → ((d : TypeDef) (input : List ℕ)
      → Agrees (events_by table (Some d)) (definition_within (suc n) table d input) (value_read (suc n) table (Some d) input))
      → (id : ℕ) (input : List ℕ) (type : Option TypeDef) → definition_at table id ≡ type
      → Agrees (events_by table type) (value_within (suc n) table id input) (value_read (suc n) table type input)
  unfolding value_read
  typed_agrees n h id input None is =
      both_same (events_by table None) (no_type (suc n) table id input (omega arith) is).0 refl refl
  typed_agrees n h id input (Some d) is =
      both_same (events_by table (Some d)) (type_known (suc n) table id input d (omega arith) is).0 refl (h d input)

  -- a pair, where no level is left for it
  ended_pairs :
      (key value : Id) (input : List ℕ)
      → Agrees (events_by table (Some (pair_of key value))) (pair_within (suc zero) table key value input)
      (value_read zero table (Some (pair_of key value)) input)
  unfolding value_read
  ended_pairs key value input =
      let second = value_within (suc zero - 2) table value.id in
      both_same (events_by table (Some (pair_of key value)))
      (ap (λ o. outcome_map Values.List (and_then o (λ v rest. outcome_map (λ vs. v ∷ vs) (in_turn (second ∷ []) rest))))
      (nothing_left (suc zero - 2) table key.id input (omega arith)).0) refl refl

  -- a pair is decoded as a tuple of two
  pair_is_tuple :
      (n : ℕ) (key value : Id) (input : List ℕ)
      → pair_within (suc (suc n)) table key value input ≡ definition_within (suc n) table (pair_of key value) input
  pair_is_tuple n key value input =
      let e : suc (suc n) - 2 ≡ suc n - 1 = omega arith in
      λ i. outcome_map Values.List (in_turn (value_within (e i) table key.id ∷ value_within (e i) table value.id ∷ []) input)

  -- by definitions, on each level
  definition_agrees :
      (n : ℕ) (d : TypeDef) (input : List ℕ)
      → Agrees (events_by table (Some d)) (definition_within (suc n) table d input) (value_read (suc n) table (Some d) input)
  unfolding value_read
  definition_agrees zero d input =
      let e : zero ≡ suc zero - 1 = omega arith in
      kind_agrees table zero
      (λ id bytes. subst (λ m. Agrees (events_by table (definition_at table id)) (value_within m table id bytes)
      (value_read zero table (definition_at table id) bytes)) e (ended_agrees id bytes)) ended_pairs d input
  definition_agrees (suc n) d input =
      let e : suc n ≡ suc (suc n) - 1 = omega arith in
      kind_agrees table (suc n)
      (λ id bytes. subst (λ m. Agrees (events_by table (definition_at table id)) (value_within m table id bytes)
      (value_read (suc n) table (definition_at table id) bytes)) e
      (typed_agrees n (definition_agrees n) id bytes (definition_at table id) refl))
      (λ key value bytes.
      both_same (events_by table (Some (pair_of key value))) (pair_is_tuple n key value bytes) refl
      (definition_agrees n (pair_of key value) bytes)) d input

  -- what is read by an id is what is decoded by it
  pub value_agrees :
      (left id : ℕ) (input : List ℕ)
      → Agrees (events_by table (definition_at table id)) (value_within left table id input)
      (value_read left table (definition_at table id) input)
  value_agrees zero id input = ended_agrees id input
  value_agrees (suc n) id input = typed_agrees n (definition_agrees n) id input (definition_at table id) refl
