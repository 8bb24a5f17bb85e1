-- Values of each number of levels are taken back from the text.
use Rattle.std.proofs.Common.{◌≡◌, ℕ, zero, suc, ◌-◌, ◌<◌, ◌^◌, Bool, true, false, List, Option, Some, None, option_map}
use Rattle.std.proofs.Common.{refl, ap, sym, ◌∙◌, subst, arith}
use Rattle.std.proofs.lemmas.Bool.{lt-ltb, ltb-true}
use Rattle.std.specs.Int.{w8}
use Rattle.std.specs.List.{AllByRecursion}
use Rattle.std.specs.Prelude.{nat_lt, if◌then◌else◌}
use Rattle.json.specs.Lex.{tokens}
use Rattle.json.specs.Print.{print}
use Rattle.json.specs.Tree.{json_tokens}
use Rattle.json.proofs.Printed.Tokens.{tokens-print}
use Rattle.json.proofs.Printed.Trees.{ArePrintable-json_tokens}
use Rattle.serde_json.specs.Data.{Data}
use Rattle.scale_info_bytes.specs.Encodings.{HasPrefix, IsByte}
use Rattle.scale_info_types.specs.Portable.{Id, TypeDef, Description}
use Rattle.scale_info_types.specs.declared.ty.TypeDef.TheVariants as def
use Rattle.scale_info_types.specs.Shapes.{map_definition}
use Rattle.scale_info_primitives.specs.declared.primitive.TypeDefPrimitive.TheVariants as kind
use Rattle.scale_info_table.specs.declared.portable.PortableRegistry.{PortableRegistry}
use Rattle.scale_info_value.specs.declared.value.Value.{Value}
use Rattle.scale_info_value.specs.declared.value.Value.TheVariants as Values
use Rattle.scale_info_value.specs.Outcomes.{decoded}
use Rattle.scale_info_value.specs.Readings.{type_at, reading}
use Rattle.scale_info_value_encode.specs.Writers as writing
use Rattle.scale_info_value_encode.specs.Writers.{Writer, written, refused}
use Rattle.scale_info_value_encode.specs.DefinitionWriters as writers
use Rattle.scale_info_value_encode.specs.DefinitionWriters.{Writers, unsigned_in}
use Rattle.scale_info_value_encode.specs.Writings as written_values
use Rattle.scale_info_value_encode.proofs.Inverse.{first_bytes}
use Rattle.scale_info_value_encode.proofs.Levels.{written_as_read}
use Rattle.scale_info_value_encode.proofs.ValueKinds.{unsigned_integers}
use Rattle.scale_info_value_visit.specs.Events.{definition_at, is_byte}
use Rattle.scale_info_value_json.specs.Takers.{Taker, taken, refused as not_taken, too_deep, if_found}
use Rattle.scale_info_value_json.specs.DefinitionTakers as takers
use Rattle.scale_info_value_json.specs.DefinitionTakers.{Takers}
use Rattle.serde_json.specs.Read.{read}
use Rattle.scale_info_value_text.specs.ValueTexts.{value_text}
use Rattle.scale_info_value_json.proofs.OneTree.{read_as}
use Rattle.scale_info_value_json.specs.Takings.{taking, value_within, compact_within, value_by_type}
use Rattle.scale_info_value_json.specs.Takings.{compact_by_type}
use Rattle.scale_info_value_json.specs.TreesOfTexts.{has_own_names, IsTakenFrom}
use Rattle.scale_info_value_json.proofs.ShownDefinitions.{values_back, compacts_back}
use Rattle.scale_info_value_json.proofs.ShownParts.{tokens_by, AreTakenBack, PartIsTakenBack, IsByteBack, held_parts}

-- compact integers by a description are taken back
compacts_by_type :
    (table : PortableRegistry) (type : Option TypeDef) (write : ℕ → Writer Value) (take : ℕ → Taker Value)
    → ((id : ℕ) → AreTakenBack (write id) (tokens_by table type) (take id)) → (o : Option Description)
    → AreTakenBack (written_values.compact_by_type write o) (tokens_by table type) (compact_by_type take o)
compacts_by_type table type write take back None = λ value bytes e all own. cc
compacts_by_type table type write take back (Some d) =
    compacts_back table type (λ r. write r.id) (λ r. take r.id) (λ r. back r.id) d.type_def

-- compact integers are taken back, however many levels are left
compacts_within :
    (left : ℕ) (table : PortableRegistry) (id : ℕ) (type : Option TypeDef)
    → AreTakenBack (written_values.compact_within left table id) (tokens_by table type) (compact_within left table id)
unfolding compact_within written_values.compact_within
compacts_within zero table id type = λ value bytes e all own. cc
compacts_within (suc left) table id type =
    compacts_by_type table type (written_values.compact_within left table) (compact_within left table)
    (λ id. compacts_within left table id type) (type_at table id)

-- values by a description are taken back
values_by_type :
    (table : PortableRegistry) (part : ℕ → Writers) (takers_of : ℕ → Takers)
    → ((id : ℕ) → PartIsTakenBack table (definition_at table id) (part id) (takers_of id)) → (o : Option Description)
    → AreTakenBack (written_values.value_by_type part o) (tokens_by table (option_map (λ d. d.type_def) o))
    (value_by_type takers_of o)
values_by_type table part takers_of back None = λ value bytes e all own. cc
values_by_type table part takers_of back (Some d) =
    values_back table (λ r. part r.id) (λ r. takers_of r.id) (λ r. back r.id) d.type_def

-- a byte by its definition
byte_by :
    (write : Id → Writers) (take : Id → Takers) (d : TypeDef) → is_byte (Some d) ≡ true → (value : Value) (b : List ℕ)
    → writers.value_by (map_definition {G = Unit {0}} write (λ t. t) d) value ≡ written b
    → IsByteBack (writers.value_by (map_definition {G = Unit {0}} write (λ t. t) d))
    (takers.value_by (map_definition {G = Unit {0}} take (λ t. t) d)) value
byte_by write take (def.Primitive kind.U8) is value b e =
    let x = held_parts Values.Unsigned unsigned_in (writers.unsigned w8) unsigned_integers value b e in
    let less : x.0 < 2 ^ 8 = fits x.0 _ b (nat_lt x.0 (2 ^ 8)) refl x.2 in
    record {
      byte = x.0;
      is = x.1;
      small = omega arith;
      taken_of =
          ap (λ (t : Bool). if_found (if t then Some x.0 else None) (λ n. taken (Values.Unsigned n))) (lt-ltb x.0 (2 ^ 8) less)
          ∙ ap taken (sym x.1);
    }
  where
    fits : (n : ℕ) (c b : List ℕ) (test : Bool) → nat_lt n (2 ^ 8) ≡ test → writing.if_fits test c ≡ written b → n < 2 ^ 8
    fits n c b true f g = ltb-true n (2 ^ 8) f
    fits n c b false f g = cc
byte_by write take (def.Primitive _) is value b e = cc
byte_by write take _ is value b e = cc

-- a byte by a description
byte_by_type :
    (part : ℕ → Writers) (takers_of : ℕ → Takers) (o : Option Description) → is_byte (option_map (λ d. d.type_def) o) ≡ true
    → (value : Value) (b : List ℕ) → written_values.value_by_type part o value ≡ written b
    → IsByteBack (written_values.value_by_type part o) (value_by_type takers_of o) value
byte_by_type part takers_of None is value b e = cc
byte_by_type part takers_of (Some d) is value b e = byte_by (λ r. part r.id) (λ r. takers_of r.id) d.type_def is value b e

-- the writers that an id stands for at the last level, and its takers
abbrev last_writers : PortableRegistry → ℕ → Writers
last_writers table r = record {
  value = λ v. refused writing.too_deep;
  inner = λ v. refused writing.too_deep;
  compact = written_values.compact_within 1 table r;
}

abbrev last_takers : PortableRegistry → ℕ → Takers
last_takers table r = record {
  value = λ t. not_taken too_deep;
  inner = λ t. not_taken too_deep;
  compact = compact_within 1 table r;
  is_byte = is_byte (definition_at table r);
}

-- before the last level
abbrev more_writers : ℕ → PortableRegistry → ℕ → Writers
more_writers left table r = record {
  value = written_values.value_within (suc left) table r;
  inner = written_values.value_within left table r;
  compact = written_values.compact_within (suc (suc left)) table r;
}

abbrev more_takers : ℕ → PortableRegistry → ℕ → Takers
more_takers left table r = record {
  value = value_within (suc left) table r;
  inner = value_within left table r;
  compact = compact_within (suc (suc left)) table r;
  is_byte = is_byte (definition_at table r);
}

-- a byte, however many levels are left
bytes_within :
    (left : ℕ) (table : PortableRegistry) (id : ℕ) → is_byte (definition_at table id) ≡ true → (value : Value) (b : List ℕ)
    → written_values.value_within left table id value ≡ written b
    → IsByteBack (written_values.value_within left table id) (value_within left table id) value
unfolding value_within written_values.value_within
bytes_within zero table id is value b e = cc
bytes_within (suc zero) table id is value b e = byte_by_type (last_writers table) (last_takers table) (type_at table id) is value b e
bytes_within (suc (suc left)) table id is value b e =
    byte_by_type (more_writers left table) (more_takers left table) (type_at table id) is value b e

-- values are taken back, however many levels are left
pub values_within :
    (left : ℕ) (table : PortableRegistry) (id : ℕ)
    → AreTakenBack (written_values.value_within left table id) (tokens_by table (definition_at table id))
    (value_within left table id)
unfolding value_within written_values.value_within
values_within zero table id = λ value bytes e all own. cc
values_within (suc zero) table id =
    values_by_type table (last_writers table) (last_takers table)
    (λ r. record {
      value = λ value bytes e all own. cc;
      inner = λ value bytes e all own. cc;
      compact = compacts_within 1 table r;
      is_byte = refl;
      bytes = λ is value b e. cc;
    })
    (type_at table id)
values_within (suc (suc left)) table id =
    values_by_type table (more_writers left table) (more_takers left table)
    (λ r. record {
      value = values_within (suc left) table r;
      inner = values_within left table r;
      compact = compacts_within (suc (suc left)) table r;
      is_byte = refl;
      bytes = bytes_within (suc left) table r;
    })
    (type_at table id)

-- the text of a value that is written is that of a tree, from which the value is taken
pub written_taken_back :
    (table : PortableRegistry) (id depth : ℕ) (value : Value) (bytes : List ℕ)
    → written_values.writing table id depth value ≡ written bytes → AllByRecursion IsByte bytes → has_own_names value ≡ true
    → IsTakenFrom table id depth value
written_taken_back table id depth value bytes e all own =
    let s = values_within (129 - depth) table id value bytes e all own in
    record {
      tree = s.tree;
      of_text =
          record {
            json = s.json;
            written =
                ap (λ ts. tokens (print ts)) s.prints
                ∙ tokens-print (json_tokens s.json) (ArePrintable-json_tokens s.json s.numbers);
            read = s.reads;
          };
      is = s.is;
    }

-- so is that of a value that was read
pub read_taken_back :
    (table : PortableRegistry) (id depth : ℕ) (input : List ℕ) (value : Value) (rest : List ℕ) → AllByRecursion IsByte input
    → reading table id depth input ≡ decoded value rest → has_own_names value ≡ true → IsTakenFrom table id depth value
read_taken_back table id depth input value rest all e own =
    let p = written_as_read table id depth input value rest all e in
    let bytes = first_bytes p.encoding rest (subst (AllByRecursion IsByte) p.parts all) in
    written_taken_back table id depth value p.encoding p.encodes bytes own

-- what is read of the text of a value that was read is taken as that value, which has the bytes that were read
pub json_and_bytes :
    (table : PortableRegistry) (id depth : ℕ) (input : List ℕ) (value : Value) (rest : List ℕ) (tree : Data)
    → AllByRecursion IsByte input → reading table id depth input ≡ decoded value rest → has_own_names value ≡ true
    → read (value_text table id value) ≡ Some tree
    → (taking table id depth tree ≡ taken value)
    × HasPrefix (λ bytes. written_values.writing table id depth value ≡ written bytes) input rest
json_and_bytes table id depth input value rest tree all e own r =
    let t = read_taken_back table id depth input value rest all e own in (
      ap (taking table id depth) (read_as (value_text table id value) t.tree tree t.of_text r) ∙ t.is,
      written_as_read table id depth input value rest all e,
    )
