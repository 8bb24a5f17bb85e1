-- The tokens of lists, value by value.
use Rattle.std.proofs.Common.{◌≡◌, ℕ, ◌+◌, List, [], ◌∷◌, ◌++◌, map, refl, sym, ap, ◌∙◌}
use Rattle.std.proofs.Common.{append_assoc, length-append}
use Rattle.std.proofs.lemmas.List.{append-nil}
use Rattle.json.specs.Token.{Token, begin_array, end_array}
use Rattle.json.specs.Tree.{items_tokens}
use Rattle.serde_json.specs.Data.{Data}
use Rattle.serde_json.specs.View.{items_of}
use Rattle.serde_json.specs.Written.{items_outline}
use Rattle.scale_info_bytes.proofs.Lists.{prefix_list}
use Rattle.scale_info_bytes.proofs.Steps.{prefix_item}
use Rattle.scale_info_bytes.specs.Encodings.{HasPrefix}
use Rattle.scale_info_bytes.specs.Integers.{EncodesCompact}
use Rattle.scale_info_json_trees.specs.Steps.{tokens_of}
use Rattle.scale_info_json_trees.specs.Written.{list_tree}
use Rattle.scale_info_json_bytes.specs.Transcodings.{tokens_of_each, WritesItems, WritesList}

module _ {A : Type 0} (W : A → Data) where
  -- the tokens of one more tree
  tokens_on :
      (vs : List A) (v : A)
      → tokens_of_each W (vs ++ v ∷ []) ≡ tokens_of_each W vs ++ tokens_of (W v)
  tokens_on [] v = append-nil (tokens_of (W v))
  tokens_on (w ∷ vs) v =
      ap (λ t. tokens_of (W w) ++ t) (tokens_on vs v)
      ∙ sym (append_assoc (tokens_of (W w)) (tokens_of_each W vs) (tokens_of (W v)))

  -- the trees' tokens and the closing bracket are those of the items of an array
  closed :
      (vs : List A)
      → items_tokens (items_outline (items_of (map W vs))) ≡ tokens_of_each W vs ++ end_array ∷ []
  closed [] = refl
  closed (v ∷ vs) =
      ap (λ t. tokens_of (W v) ++ t) (closed vs)
      ∙ sym (append_assoc (tokens_of (W v)) (tokens_of_each W vs) (end_array ∷ []))

  -- brackets around the trees' tokens make those of the array
  pub array_tokens :
      (vs : List A) (old opened filled new : List Token) → opened ≡ old ++ begin_array ∷ []
      → filled ≡ opened ++ tokens_of_each W vs → new ≡ filled ++ end_array ∷ []
      → new ≡ old ++ tokens_of (list_tree W vs)
  array_tokens vs old opened filled new o f e =
      let each = tokens_of_each W vs in
      e ∙ ap (λ t. t ++ end_array ∷ []) (f ∙ ap (λ t. t ++ each) o)
      ∙ append_assoc (old ++ begin_array ∷ []) each (end_array ∷ [])
      ∙ append_assoc old (begin_array ∷ []) (each ++ end_array ∷ [])
      ∙ ap (λ t. old ++ begin_array ∷ t) (sym (closed vs))

module _ {A : Type 0} (S : A → List ℕ → Type 0) (W : A → Data) where
  -- nothing was read yet
  pub no_items : (a : List ℕ) (old : List Token) → WritesItems S W 0 a a old old
  no_items a old = record {
    values = [];
    counted = refl;
    read = record { encoding = []; encodes = refl; parts = refl };
    tokens = sym (append-nil old);
  }

  -- one more value is read, and its tree is written
  pub next_item :
      (n : ℕ) (v : A) (a b c : List ℕ) (old before now : List Token)
      → WritesItems S W n a b old before → HasPrefix (S v) b c → now ≡ before ++ tokens_of (W v)
      → WritesItems S W (n + 1) a c old now
  next_item n v a b c old before now p q e = record {
    values = p.values ++ v ∷ [];
    counted = length-append p.values (v ∷ []) ∙ ap (λ k. k + 1) p.counted;
    read = prefix_item S p.values (p.values ++ v ∷ []) v a b c refl p.read q;
    tokens =
        e ∙ ap (λ t. t ++ tokens_of (W v)) p.tokens
        ∙ append_assoc old (tokens_of_each W p.values) (tokens_of (W v))
        ∙ ap (λ t. old ++ t) (sym (tokens_on W p.values v));
  }

  -- a count, so many items, and brackets around their tokens
  pub whole_list :
      (n : ℕ) (a b c : List ℕ) (old opened filled now : List Token) → HasPrefix (EncodesCompact n) a b
      → WritesItems S W n b c opened filled → opened ≡ old ++ begin_array ∷ []
      → now ≡ filled ++ end_array ∷ []
      → WritesList S W a c old now
  whole_list n a b c old opened filled now count items o e = record {
    values = items.values;
    read = prefix_list S items.values n a b c items.counted count items.read;
    tokens = array_tokens W items.values old opened filled now o items.tokens e;
  }
