-- The tree of a whole text.
use Rattle.std.proofs.Common.{◌≡◌, ℕ, List, [], ◌∷◌, Some, None, ap, ◌∙◌, subst}
use Rattle.json.specs.Token.{Token}
use Rattle.json.specs.Json.{value}
use Rattle.json.specs.Lex.{tokens}
use Rattle.serde_json.specs.Data.{Data}
use Rattle.serde_json.specs.Read.{read, of_json, converted}
use Rattle.scale_info_json_text.specs.Readings.{Reads, HasNoTree}
use Rattle.scale_info_json_text.proofs.Converted.{whole_read, whole_and_more, whole_refused}

module _ (text : List ℕ) (ts : List Token) (is : ts ≡ tokens text) where
  -- where a tree is read and nothing follows, it is the tree of the text
  pub text_read :
      {P : Data → Type 0} (r : List Token) → Reads P 127 ts r → r ≡ []
      → (tree : Data) × (read text ≡ Some tree) × P tree
  text_read r h end =
      let all : converted of_json (value 127 (tokens text)) ≡ Some (h.tree, []) =
      subst (λ x. converted of_json (value 127 x) ≡ Some (h.tree, [])) is (h.begins ∙ ap (λ x. Some (h.tree, x)) end) in
      (h.tree, whole_read (value 127 (tokens text)) h.tree all, h.is)

  -- where something follows the tree, the text is none
  pub text_and_more :
      {P : Data → Type 0} (r : List Token) (t : Token) (more : List Token) → Reads P 127 ts r
      → r ≡ t ∷ more → read text ≡ None
  text_and_more r t more h end =
      let all : converted of_json (value 127 (tokens text)) ≡ Some (h.tree, t ∷ more) =
      subst (λ x. converted of_json (value 127 x) ≡ Some (h.tree, t ∷ more)) is (h.begins ∙ ap (λ x. Some (h.tree, x)) end) in
      whole_and_more (value 127 (tokens text)) h.tree t more all

  -- where no tree is read, the text is none
  pub text_refused : HasNoTree 127 ts → read text ≡ None
  text_refused h = whole_refused (value 127 (tokens text)) (subst (λ x. HasNoTree 127 x) is h)
