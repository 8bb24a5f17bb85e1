-- The text of a tree.
use Rattle.std.proofs.Common.{◌≡◌, ℕ, List, [], ◌++◌, ap, ◌∙◌}
use Rattle.json.specs.Token.{Token}
use Rattle.json.specs.Print.{print}
use Rattle.serde_json.specs.Data.{Data}
use Rattle.serde_json.specs.Written.{compact_text}
use Rattle.serde_json.proofs.Texts.{print-outline}
use Rattle.scale_info_json_trees.specs.Steps.{tokens_of}

-- the tokens of a tree are printed as its compact text
pub whole_text :
    (bytes out start before : List ℕ) (old new : List Token) (d : Data)
    → bytes ≡ before ++ print new → before ≡ start → start ≡ out → new ≡ old ++ tokens_of d
    → old ≡ []
    → bytes ≡ out ++ compact_text d
whole_text bytes out start before old new d e b s n o =
    e ∙ ap (λ t. t ++ print new) (b ∙ s) ∙ ap (λ ts. out ++ print ts) (n ∙ ap (λ ts. ts ++ tokens_of d) o) ∙ ap (λ t. out ++ t) (print-outline d)
