-- A text is that of one tree.
use Rattle.std.proofs.Common.{◌≡◌, ℕ, ◌+◌, ◌≤◌, List, [], ◌∷◌, ◌++◌, Option, Some, None, option_map, refl, ap, sym, ◌∙◌, arith, append-nil}
use Rattle.std.specs.Prelude.{option_and_then}
use Rattle.json.specs.Token.{Token}
use Rattle.json.specs.Json as json
use Rattle.json.specs.Json.{Json}
use Rattle.json.specs.Lex.{tokens}
use Rattle.json.specs.Tree.{json_tokens, depth}
use Rattle.json.proofs.Printed.Trees.{value-json_tokens}
use Rattle.json.proofs.Unique.Spelling.{value-json_tokens_back}
use Rattle.serde_json.specs.Data.{Data}
use Rattle.serde_json.specs.Read.{of_json, read, max_depth}
use Rattle.scale_info_value_json.specs.TreesOfTexts.{IsTreeOf}

-- JSON with the same tokens is the same
same_json : (j k : Json) → json_tokens j ≡ json_tokens k → j ≡ k
same_json j k e =
    let n = depth j + depth k in
    let a = value-json_tokens j n [] (omega arith) in
    let b = value-json_tokens k n [] (omega arith) in
    let both : Some j ≡ Some k =
    ap (option_map (λ p. p.0)) (sym a ∙ ap (λ ts. json.value n (ts ++ [])) e ∙ b) in
    cc

-- JSON of which a text is read
read_json :
    (o : Option (Json × List Token)) (d : Data)
    → option_and_then of_json (option_and_then (λ p. json.if_last p.0 p.1) o) ≡ Some d
    → (j : Json) × (o ≡ Some (j, [])) × (of_json j ≡ Some d)
read_json None d e = cc
read_json (Some (j, [])) d e = (j, refl, e)
read_json (Some (j, t ∷ ts)) d e = cc

-- where a text is read as a tree, it is that of no other
pub read_as :
    (text : List ℕ) (tree other : Data) → IsTreeOf text tree → read text ≡ Some other → other ≡ tree
read_as text tree other t e =
    let r = read_json (json.value max_depth (tokens text)) other e in
    let back = value-json_tokens_back max_depth (tokens text) [] r.0 r.1 in
    let same = same_json t.json r.0 (sym t.written ∙ back ∙ append-nil (json_tokens r.0)) in
    let both : Some other ≡ Some tree = sym r.2 ∙ ap of_json (sym same) ∙ t.read in
    cc

-- a text that nests as deep as is read is read as its tree
pub shallow_read : (text : List ℕ) (tree : Data) → (t : IsTreeOf text tree) → depth t.json ≤ max_depth → read text ≡ Some tree
shallow_read text tree t h =
    ap (λ o. option_and_then of_json (option_and_then (λ p. json.if_last p.0 p.1) o))
    (ap (json.value max_depth) (t.written ∙ sym (append-nil (json_tokens t.json))) ∙ value-json_tokens t.json max_depth [] h)
    ∙ t.read

-- a text is that of one tree
pub one_tree : (text : List ℕ) (tree other : Data) → IsTreeOf text tree → IsTreeOf text other → tree ≡ other
one_tree text tree other t u =
    let same = same_json t.json u.json (sym t.written ∙ u.written) in
    let both : Some tree ≡ Some other = sym t.read ∙ ap of_json same ∙ u.read in
    cc
