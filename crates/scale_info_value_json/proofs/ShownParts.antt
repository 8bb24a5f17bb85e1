-- Values that are written as bytes and as text, and taken back from the text.
use Rattle.std.proofs.Common.{◌≡◌, ℕ, ◌<◌, Bool, true, false, List, Option, Some, None, refl, ap, subst}
use Rattle.std.specs.List.{flat_map, AllByRecursion}
use Rattle.std.specs.Prelude.{if◌then◌else◌}
use Rattle.json.specs.Token.{Token}
use Rattle.scale_info_bytes.specs.Encodings.{IsByte}
use Rattle.serde_json.specs.Data.{number, unsigned}
use Rattle.scale_info_types.specs.Portable.{TypeDef}
use Rattle.scale_info_table.specs.declared.portable.PortableRegistry.{PortableRegistry}
use Rattle.scale_info_value.specs.declared.value.Value.{Value, out-Value}
use Rattle.scale_info_value.specs.declared.value.Value.TheOpen.{Value-F}
use Rattle.scale_info_value.specs.declared.value.Value.TheVariants as Values
use Rattle.scale_info_value_encode.specs.declared.path.Step.TheVariants as step
use Rattle.scale_info_value_encode.specs.Writers.{Writer, Written, written, refused, mismatch, followed_by, item}
use Rattle.scale_info_value_encode.specs.DefinitionWriters.{Writers, held, if_found}
use Rattle.scale_info_value_encode.proofs.Inverse.{parted, part_written, first_bytes, rest_bytes}
use Rattle.scale_info_value_encode.proofs.ValueKinds.{IsKind}
use Rattle.scale_info_value_visit.specs.Events as event
use Rattle.scale_info_value_visit.specs.Events.{events_by}
use Rattle.scale_info_value_text.specs.ValueTexts.{event_tokens}
use Rattle.scale_info_value_json.specs.Takers.{Taker, taken, taken_map}
use Rattle.scale_info_value_json.specs.DefinitionTakers.{Takers}
use Rattle.scale_info_value_json.specs.TreesOfTexts.{has_own_names}
use Rattle.scale_info_value_json.proofs.Shown.{IsShown}

-- the tokens of a value of a type with this definition
abbrev pub tokens_by : PortableRegistry → Option TypeDef → Value → List Token
tokens_by table type value = flat_map event_tokens (events_by table type value)

-- a value that is written is taken from the tree of its tokens
abbrev pub AreTakenBack : Writer Value → (Value → List Token) → Taker Value → Type 0
AreTakenBack write tokens take =
    (value : Value) (bytes : List ℕ) → write value ≡ written bytes → AllByRecursion IsByte bytes
    → has_own_names value ≡ true → IsShown (tokens value) take value

-- so is one that is written as an item
pub items_taken :
    (write : Writer Value) (tokens : Value → List Token) (take : Taker Value) → AreTakenBack write tokens take → (place : ℕ)
    → AreTakenBack (item write place) tokens take
items_taken write tokens take back place value bytes e =
    back value bytes (part_written (step.Index place) (write value) bytes e)

-- a value that is written is a byte, and is taken from its number
pub record IsByteBack (write : Writer Value) (take : Taker Value) (value : Value) : Type 0 where
  pub byte : ℕ
  pub is : value ≡ Values.Unsigned byte
  pub small : byte < 256
  pub taken_of : take (number (unsigned byte)) ≡ taken value

-- what a reference stands for where values are written, and where they are taken
pub record PartIsTakenBack (table : PortableRegistry) (type : Option TypeDef) (writers : Writers) (takers : Takers) :
    Type 0 where
  pub value : AreTakenBack writers.value (tokens_by table type) takers.value
  pub inner : AreTakenBack writers.inner (tokens_by table type) takers.inner
  pub compact : (any : Option TypeDef) → AreTakenBack writers.compact (tokens_by table any) takers.compact
  pub is_byte : takers.is_byte ≡ event.is_byte type
  pub bytes :
      event.is_byte type ≡ true → (value : Value) (b : List ℕ) → writers.value value ≡ written b
      → IsByteBack writers.value takers.value value

-- nothing is written
pub nothing_back : (why : _) (tokens : Value → List Token) (take : Taker Value) → AreTakenBack (λ value. refused why) tokens take
nothing_back why tokens take value bytes e all own = cc

-- a value of a kind is written by what it holds
pub held_parts :
    {A : Type 0} (make : A → Value) (kind : Value-F Value → Option A) (write : Writer A) → IsKind make kind
    → (value : Value) (bytes : List ℕ) → held kind write value ≡ written bytes
    → (x : A) × (value ≡ make x) × (write x ≡ written bytes)
held_parts {A} make kind write k value bytes e = by_found (kind (out-Value value)) refl e
  where
    by_found :
        (o : Option A) → kind (out-Value value) ≡ o → if_found write o ≡ written bytes
        → (x : A) × (value ≡ make x) × (write x ≡ written bytes)
    by_found None is f = cc
    by_found (Some x) is f = (x, k.made value x is, f)

-- what is taken, with a function applied to it
pub shown_map :
    {A B : Type 0} (f : A → B) (ts : List Token) (take : Taker A) (value : A) → IsShown ts take value
    → IsShown ts (λ tree. taken_map f (take tree)) (f value)
shown_map f ts take value s =
    record {
      json = s.json;
      tree = s.tree;
      prints = s.prints;
      numbers = s.numbers;
      reads = s.reads;
      is = ap (taken_map f) s.is;
    }

-- what a test lets through
pub passed_test :
    {A : Type 0} (test : Bool) (write : Writer A) (value : A) (b : List ℕ)
    → (if test then write value else refused mismatch) ≡ written b → (test ≡ true) × (write value ≡ written b)
passed_test true write value b e = (refl, e)
passed_test false write value b e = cc

-- what two values, one after the other, are made of: bytes of both
pub parted_bytes :
    (first second : Written) (bytes : List ℕ) → followed_by first second ≡ written bytes → AllByRecursion IsByte bytes
    → (b : List ℕ) × (c : List ℕ) × (first ≡ written b) × (second ≡ written c) × AllByRecursion IsByte b
    × AllByRecursion IsByte c
parted_bytes first second bytes e all =
    let p = parted first second bytes e in
    let both = subst (AllByRecursion IsByte) p.4 all in
    (p.0, p.1, p.2, p.3, first_bytes p.0 p.1 both, rest_bytes p.0 p.1 both)
