-- The tokens of objects, row by row.
use Rattle.std.proofs.Common.{◌≡◌, ℕ, List, [], ◌∷◌, ◌++◌, Some, None, ◌∙◌, ap, refl}
use Rattle.std.proofs.Common.{append_assoc}
use Rattle.json.specs.Token.{Token, key, begin_object, end_object}
use Rattle.json.specs.Tree.{members_tokens}
use Rattle.serde_json.specs.Written.{members_outline}
use Rattle.scale_info_json_trees.specs.Steps.{after_rows, append_row, tokens_of}
use Rattle.scale_info_json_trees.specs.Written.{Row, members_of}

-- rows written one after another append the tokens of their members
pub text_rows :
    (rows : List Row) (s : List ℕ × List Token)
    → (after_rows append_row rows s).1 ++ end_object ∷ [] ≡ s.1 ++ members_tokens (members_outline (members_of rows))
text_rows [] s = refl
text_rows ((k, None) ∷ rows) s = text_rows rows s
text_rows ((k, Some d) ∷ rows) s =
    text_rows rows (s.0, s.1 ++ key k ∷ tokens_of d) ∙ append_assoc s.1 (key k ∷ tokens_of d) _

-- rows written one after another keep the bytes before
pub text_before :
    (rows : List Row) (s : List ℕ × List Token) → (after_rows append_row rows s).0 ≡ s.0
text_before [] s = refl
text_before ((k, None) ∷ rows) s = text_before rows s
text_before ((k, Some d) ∷ rows) s = text_before rows (s.0, s.1 ++ key k ∷ tokens_of d)

-- the tokens of an object are those of its rows between the brackets
pub object_text :
    (rows : List Row) (old begun new : List Token) (b : List ℕ) (given : List ℕ × List Token)
    → begun ≡ old ++ begin_object ∷ [] → given ≡ after_rows append_row rows (b, begun)
    → new ≡ given.1 ++ end_object ∷ []
    → new ≡ old ++ begin_object ∷ members_tokens (members_outline (members_of rows))
object_text rows old begun new b given p q e =
    e ∙ ap (λ s. s.1 ++ end_object ∷ []) q ∙ text_rows rows (b, begun) ∙ ap (λ ts. ts ++ members_tokens (members_outline (members_of rows))) p ∙ append_assoc old (begin_object ∷ []) _
