-- Values of each number of levels.
use Rattle.std.proofs.Common.{◌≡◌, ℕ, zero, suc, ◌-◌, List, [], ◌++◌, Option, Some, None, ap, sym, ◌∙◌}
use Rattle.std.specs.List.{AllByRecursion}
use Rattle.scale_info_bytes.specs.Encodings.{HasPrefix, IsByte}
use Rattle.scale_info_types.specs.Portable.{Description}
use Rattle.scale_info_table.specs.declared.portable.PortableRegistry.{PortableRegistry}
use Rattle.scale_info_value.specs.declared.value.Value.{Value}
use Rattle.scale_info_value.specs.declared.value.Value.TheVariants as Values
use Rattle.scale_info_value.specs.Outcomes.{Decoder, decoded, outcome_map}
use Rattle.scale_info_value.specs.Outcomes as outcomes
use Rattle.scale_info_value.specs.Readings.{type_at, compact_by_type, value_by_type}
use Rattle.scale_info_value.specs.Readings.{reading, value_within, compact_within}
use Rattle.scale_info_value_encode.specs.Writers.{Refusal, Writer, written, refused, no_such_type, too_deep}
use Rattle.scale_info_value_encode.specs.Writings as writings
use Rattle.scale_info_value_encode.specs.Writings.{writing}
use Rattle.scale_info_value_encode.proofs.Definitions.{values_read_back, compacts_read_back}
use Rattle.scale_info_value_encode.proofs.Inverse.{IsInverse, nothing}

-- compact integers by a description are read and written
compacts_by_type :
    (read : ℕ → Decoder ℕ) (write : ℕ → Writer Value)
    → ((id : ℕ) → IsInverse (λ input. outcome_map Values.Unsigned (read id input)) (write id)) → (o : Option Description)
    → IsInverse (λ input. outcome_map Values.Unsigned (compact_by_type read o input)) (writings.compact_by_type write o)
compacts_by_type read write inverse None = nothing outcomes.no_such_type no_such_type
compacts_by_type read write inverse (Some d) =
    compacts_read_back (λ r. read r.id) (λ r. write r.id) (λ r. inverse r.id) d.type_def

-- compact integers are read and written, however many levels are left
pub compacts_inverse :
    (left : ℕ) (table : PortableRegistry) (id : ℕ)
    → IsInverse (λ input. outcome_map Values.Unsigned (compact_within left table id input))
    (writings.compact_within left table id)
unfolding compact_within writings.compact_within
compacts_inverse zero table id = nothing outcomes.too_deep too_deep
compacts_inverse (suc left) table id =
    compacts_by_type (compact_within left table) (writings.compact_within left table) (compacts_inverse left table)
    (type_at table id)

-- values by a description are read and written
values_by_type :
    (read read_inner : ℕ → Decoder Value) (read_compact : ℕ → Decoder ℕ) (write write_inner write_compact : ℕ → Writer Value)
    → ((id : ℕ) → IsInverse (read id) (write id)) → ((id : ℕ) → IsInverse (read_inner id) (write_inner id))
    → ((id : ℕ) → IsInverse (λ input. outcome_map Values.Unsigned (read_compact id input)) (write_compact id))
    → (o : Option Description)
    → IsInverse
    (value_by_type (λ r. record { value = read r; inner = read_inner r; compact = read_compact r }) o)
    (writings.value_by_type (λ r. record { value = write r; inner = write_inner r; compact = write_compact r }) o)
values_by_type read read_inner read_compact write write_inner write_compact value inner compact None =
    nothing outcomes.no_such_type no_such_type
values_by_type read read_inner read_compact write write_inner write_compact value inner compact (Some d) =
    values_read_back
    (λ r. record { value = read r.id; inner = read_inner r.id; compact = read_compact r.id })
    (λ r. record { value = write r.id; inner = write_inner r.id; compact = write_compact r.id })
    (λ r. record { value = value r.id; inner = inner r.id; compact = compact r.id })
    d.type_def

-- values are read and written, however many levels are left
pub values_inverse :
    (left : ℕ) (table : PortableRegistry) (id : ℕ)
    → IsInverse (value_within left table id) (writings.value_within left table id)
unfolding value_within writings.value_within
values_inverse zero table id = nothing outcomes.too_deep too_deep
values_inverse (suc zero) table id =
    values_by_type _ _ (compact_within 1 table) _ _ (writings.compact_within 1 table) (λ r. nothing outcomes.too_deep too_deep)
    (λ r. nothing outcomes.too_deep too_deep) (compacts_inverse 1 table) (type_at table id)
values_inverse (suc (suc left)) table id =
    values_by_type _ _ (compact_within (suc (suc left)) table) _ _ (writings.compact_within (suc (suc left)) table)
    (values_inverse (suc left) table) (values_inverse left table) (compacts_inverse (suc (suc left)) table) (type_at table id)

-- the bytes of a value are read as that value, whatever follows them
pub read_back :
    (table : PortableRegistry) (id depth : ℕ) (value : Value) (bytes : List ℕ)
    → writing table id depth value ≡ written bytes → (rest : List ℕ)
    → reading table id depth (bytes ++ rest) ≡ decoded value rest
read_back table id depth value bytes e rest = (values_inverse (129 - depth) table id).back value bytes rest e

-- a value that was read has the bytes that it was read from
pub written_as_read :
    (table : PortableRegistry) (id depth : ℕ) (input : List ℕ) (value : Value) (rest : List ℕ)
    → AllByRecursion IsByte input → reading table id depth input ≡ decoded value rest
    → HasPrefix (λ bytes. writing table id depth value ≡ written bytes) input rest
written_as_read table id depth input value rest all e =
    (values_inverse (129 - depth) table id).forth input value rest all e

-- two inputs that are read as one value with nothing left are equal
pub one_reading :
    (table : PortableRegistry) (id depth : ℕ) (input other : List ℕ) (value : Value)
    → AllByRecursion IsByte input → AllByRecursion IsByte other → reading table id depth input ≡ decoded value []
    → reading table id depth other ≡ decoded value [] → input ≡ other
one_reading table id depth input other value all all_other e f =
    let p = written_as_read table id depth input value [] all e in
    let q = written_as_read table id depth other value [] all_other f in
    let same : written p.encoding ≡ written q.encoding = sym p.encodes ∙ q.encodes in
    let bytes : p.encoding ≡ q.encoding = cc in
    p.parts ∙ ap (λ b. b ++ []) bytes ∙ sym q.parts

-- a value that has no bytes is read from none
pub never_read :
    (table : PortableRegistry) (id depth : ℕ) (value : Value) (why : Refusal) (input rest : List ℕ)
    → writing table id depth value ≡ refused why → AllByRecursion IsByte input
    → reading table id depth input ≡ decoded value rest → ⊥
never_read table id depth value why input rest e all f =
    let p = written_as_read table id depth input value rest all f in
    let both : refused why ≡ written p.encoding = sym e ∙ p.encodes in cc
