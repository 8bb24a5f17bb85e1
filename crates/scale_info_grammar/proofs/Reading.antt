-- Options and pairs at the start of the input, in the forms that a tactic applies.
use Rattle.std.proofs.Common.{◌≡◌, ℕ, ◌≤◌, List, length, get_or}
use Rattle.scale_info_bytes.specs.Encodings.{HasNoPrefix}
use Rattle.scale_info_bytes.specs.Parts.{EncodesOption}
use Rattle.scale_info_bytes.proofs.Index.{begins, no_prefix_some, after}
use Rattle.scale_info_bytes.proofs.Steps.{no_prefix_first}

-- after a first byte 1, no encoding of a value: the input begins with no encoding of an option
pub no_option :
    {A : Type 0} {S : A → List ℕ → Type 0} {input : List ℕ} → 1 ≤ length input
    → get_or input 0 0 ≡ 1 → HasNoPrefix S (after input) → HasNoPrefix (EncodesOption S) input
no_option {input = input} l e n = no_prefix_some (begins 1 input l e) n

-- what is said of an input that begins with no option, or with no pair
pub ruleset not_read = (no_option, no_prefix_first)
