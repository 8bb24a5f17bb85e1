-- Lists at the start of the input.
use Rattle.std.proofs.Common.{◌≡◌, ℕ, List, length, sym, subst}
use Rattle.scale_info_bytes.specs.Encodings.{HasPrefix, HasNoPrefix}
use Rattle.scale_info_bytes.specs.Integers.{EncodesCompact}
use Rattle.scale_info_bytes.specs.CompactLaws.{compact_law}
use Rattle.scale_info_bytes.specs.Parts.{EncodesItems, EncodesList}
use Rattle.scale_info_bytes.proofs.Steps.{prefix_both, split_prefix, same_prefix}

module _ {A : Type 0} (S : A → List ℕ → Type 0) where
  -- a count, and then so many items, make a list
  pub prefix_list :
      (vs : List A) (n : ℕ) (a b c : List ℕ) → length vs ≡ n → HasPrefix (EncodesCompact n) a b
      → HasPrefix (EncodesItems S vs) b c → HasPrefix (EncodesList S vs) a c
  prefix_list vs n a b c e p q =
      prefix_both (subst (λ k. HasPrefix (EncodesCompact k) a b) (sym e) p) q

  -- an input that begins with no count begins with no list
  pub no_count : (a : List ℕ) → HasNoPrefix EncodesCompact a → HasNoPrefix (EncodesList S) a
  no_count a n = record { none = λ vs rest p. let h = split_prefix p in n.none (length vs) h.0 h.1 }

  -- a count, and fewer items than that after it: no list begins the input
  pub no_items_after :
      (n : ℕ) (a b : List ℕ) → HasPrefix (EncodesCompact n) a b
      → ((vs : List A) (rest : List ℕ) → length vs ≡ n → HasPrefix (EncodesItems S vs) b rest → ⊥)
      → HasNoPrefix (EncodesList S) a
  no_items_after n a b f none = record {
    none = λ vs rest p.
        let h = split_prefix p in
        let e = same_prefix compact_law (length vs) n a h.0 b h.1 f in
        none vs rest e.0 (subst (λ t. HasPrefix (EncodesItems S vs) t rest) e.1 h.2);
  }
