-- Values appended to a list of bytes.
use Rattle.std.proofs.Common.{◌≡◌, ℕ, Bool, true, false, List, Option, refl, ap, ◌∙◌}
use Rattle.std.proofs.Common.{length}
use Rattle.std.specs.Prelude.{nat_lt, ◌^◌}
use Rattle.std.specs.Str.{is_utf8}
use Rattle.scale_info_bytes.specs.Encodings.{AppendsEncoding, HasNoEncoding}
use Rattle.scale_info_bytes.specs.Strings.{EncodesText}
use Rattle.scale_info_value.specs.declared.value.Value.{Value}
use Rattle.scale_info_value.specs.declared.value.Value.TheOpen.{Value-F}
use Rattle.scale_info_value_encode.specs.Writers.{Writer, written, refused, mismatch, if_fits, followed_by}
use Rattle.scale_info_value_encode.specs.IntegerWriters.{compact_bytes}
use Rattle.scale_info_value_encode.specs.DefinitionWriters.{held, if_found, text}
use Rattle.scale_info_value_encode.proofs.Texts.{text_encodes}
use Rattle.scale_info_value_encode.proofs.ValueKinds.{IsKind}

-- what was appended is an encoding of another kind, where all that are of one are of the other
pub appends_map :
    {P Q : List ℕ → Type 0} {a c : List ℕ} → ((b : List ℕ) → P b → Q b) → AppendsEncoding P a c
    → AppendsEncoding Q a c
appends_map f p = record { encoding = p.encoding; encodes = f p.encoding p.encodes; parts = p.parts }

-- a value of a kind is written by what it holds
pub is_held :
    {A : Type 0} (make : A → Value) (kind : Value-F Value → Option A) (write : Writer A) → IsKind make kind
    → (value : Value) (x : A) → value ≡ make x → held kind write value ≡ write x
is_held make kind write k value x e = ap (held kind write) e ∙ ap (if_found write) (k.found x)

-- a text that has no encoding is none of the type
pub no_text : (t : List ℕ) → HasNoEncoding (EncodesText t) → text t ≡ refused mismatch
no_text t none =
    by_tests (nat_lt (length t) (2 ^ 32)) (is_utf8 t) (λ b e. none.none b (text_encodes t b e))
  where
    by_tests :
        (short utf8 : Bool)
        → ((b : List ℕ) → followed_by (if_fits short (compact_bytes (length t))) (if_fits utf8 t) ≡ written b → ⊥)
        → followed_by (if_fits short (compact_bytes (length t))) (if_fits utf8 t) ≡ refused mismatch
    by_tests true true h = absurd (h _ refl)
    by_tests true false h = refl
    by_tests false utf8 h = refl
