-- What is read under the keys of an object.
use Rattle.std.proofs.Common.{◌≡◌, ℕ, ◌<◌, ◌-◌, List, ◌∷◌, Option, Some, sym, subst}
use Rattle.json.specs.Token as spec
use Rattle.json.specs.Reads.{token_of}
use Rattle.json.specs.declared.token.Token.{Token}
use Rattle.json.specs.declared.token.Token.TheVariants as token
use Rattle.serde_json.specs.Data.{Data, Members, put, object}
use Rattle.serde_json.proofs.Views.{get_member-put}
use Rattle.scale_info_json_text.specs.declared.member.Member.{Member}
use Rattle.scale_info_json_text.specs.Readings.{IsMeant, Reads, ReadsMembers}
use Rattle.scale_info_json_text.specs.Members.{HoldsAt, HoldsOne}
use Rattle.scale_info_json_text.proofs.Trees.{object_reads}

-- what was read under a key is what the key then has
pub put_here :
    {A : Type 0} (M : Data → A → Type 0) (k key : List ℕ) (tree : Data) (ms : Members)
    (found : Member A) → key ≡ k → HoldsAt M found (Some tree) → HoldsOne k M found (put key tree ms)
put_here M k key tree ms found e h =
    subst (λ l. HoldsOne k M found (put l tree ms)) (sym e)
    (subst (λ o. HoldsAt M found o) (sym (get_member-put k tree ms)) h)

-- an object whose members are read is what they mean
pub members_read :
    {A : Type 0} {P : Members → Type 0} (M : Data → A → Type 0) (depth : ℕ) (k : Token)
    (ts r : List spec.Token) (found : Option A) → k ≡ token.BeginObject → 0 < depth
    → ((ms : Members) → P ms → IsMeant (M (object ms)) found) → ReadsMembers P (depth - 1) ts r
    → Reads (λ tree. IsMeant (M tree) found) depth (token_of k ∷ ts) r
members_read M depth k ts r found is some f h =
    subst (λ t. Reads (λ tree. IsMeant (M tree) found) depth (token_of t ∷ ts) r) (sym is)
    (object_reads depth ts r some f h)
