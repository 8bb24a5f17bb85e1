-- What is read under one key stays, where another key comes.
use Rattle.std.specs.Prelude.{◌≡◌, ℕ, List}
use Rattle.std.proofs.Common.{sym, subst}
use Rattle.serde_json.specs.Data.{Data, Members, put}
use Rattle.serde_json.proofs.Views.{get_member-put_other}
use Rattle.scale_info_json_text.specs.declared.member.Member.{Member}
use Rattle.scale_info_json_text.specs.Members.{HoldsAt, HoldsOne}

-- what was read under another key stays
pub put_elsewhere :
    {A : Type 0} (M : Data → A → Type 0) (k key : List ℕ) (tree : Data) (ms : Members)
    (found : Member A) → (k ≡ key → ⊥) → HoldsOne k M found ms
    → HoldsOne k M found (put key tree ms)
put_elsewhere M k key tree ms found e h =
    subst (λ o. HoldsAt M found o) (sym (get_member-put_other k key tree ms e)) h
