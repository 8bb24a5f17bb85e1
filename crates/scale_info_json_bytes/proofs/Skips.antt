-- What comes after values that are skipped.
use Rattle.std.proofs.Common.{◌≡◌, ℕ, ◌+◌, ◌-◌, ◌<◌, ◌≤◌, List, [], ◌∷◌, ◌++◌, length, take, drop}
use Rattle.std.proofs.Common.{sym, ap, subst, ◌∙◌, arith, Option, Some, None}
use Rattle.std.proofs.lemmas.List.{take_rest}
use Rattle.std.proofs.Math.Seq.{drop-append_seam}
use Rattle.scale_info_bytes.specs.CompactLaws.{compact_law}
use Rattle.scale_info_bytes.specs.Encodings.{IsEncoding, HasPrefix, HasNoPrefix}
use Rattle.scale_info_bytes.specs.Integers.{EncodesCompact}
use Rattle.scale_info_bytes.specs.Parts.{EncodesItems, EncodesList, EncodesOption, EncodesPair}
use Rattle.scale_info_bytes.specs.Parts.{IsConcatenation}
use Rattle.scale_info_bytes.specs.Strings.{EncodesText}
use Rattle.scale_info_bytes.proofs.Index.{BeginsWith, prefix_past_index, after}
use Rattle.scale_info_bytes.proofs.Steps.{same_prefix, split_prefix}
use Rattle.scale_info_json_bytes.specs.Skips.{IsOnlyRest, IsOnlyRestOfItems}
use Rattle.scale_info_bytes.specs.Parts.{HasNoItems}

-- what was read is followed by no other rest
pub only_rest :
    {A : Type 0} {S : A → List ℕ → Type 0} {v : A} {a b : List ℕ} → IsEncoding S
    → HasPrefix (S v) a b → IsOnlyRest S a b
only_rest {v = v} {a} {b} s p = record {
  same = λ w other q. (same_prefix s w v a other b q p).1;
}

-- what was skipped is what was read
pub read_again :
    {A : Type 0} {S : A → List ℕ → Type 0} {a b : List ℕ} (v : A) (c : List ℕ)
    → IsOnlyRest S a b → HasPrefix (S v) a c → HasPrefix (S v) a b
read_again {S = S} {a} v c p q = subst (λ t. HasPrefix (S v) a t) (p.same v c q) q

-- the rest after the parts of a value is that after the value
pub rest_through :
    {A B : Type 0} {S : B → List ℕ → Type 0} {a b : List ℕ} (parts : A → B) → IsOnlyRest S a b
    → IsOnlyRest (λ v x. S (parts v) x) a b
rest_through parts p = record { same = λ v other q. p.same (parts v) other q }

-- a count, and then so many bytes
pub rest_of_text :
    (n : ℕ) (a b : List ℕ) → HasPrefix (EncodesCompact n) a b
    → IsOnlyRest EncodesText a (take (length b - n) (drop n b))
rest_of_text n a b f = record {
  same = λ v other p.
      let h =
      split_prefix
      (record { encoding = p.encoding; encodes = p.encodes.counted; parts = p.parts }) in
      let e = same_prefix compact_law (length v) n a h.0 b h.1 f in
      let parts : b ≡ v ++ other =
      sym e.1 ∙ h.2.parts ∙ ap (λ t. t ++ other) h.2.encodes in
      sym (take_rest b n ∙ ap (drop n) parts ∙ ap (λ k. drop k (v ++ other)) (sym e.0)
      ∙ drop-append_seam v other);
}

module _ {A B : Type 0} {S : A → List ℕ → Type 0} {R : B → List ℕ → Type 0} where
  open_pair :
      {v : A × B} {a c : List ℕ} → HasPrefix (EncodesPair S R v) a c
      → HasPrefix (IsConcatenation (S v.0) (R v.1)) a c
  open_pair p = record { encoding = p.encoding; encodes = p.encodes.both; parts = p.parts }

  -- the first part, and then the second
  pub rest_of_pair :
      {a b c : List ℕ} → IsOnlyRest S a b → IsOnlyRest R b c → IsOnlyRest (EncodesPair S R) a c
  rest_of_pair p q = record {
    same = λ v other h.
        let t = split_prefix (open_pair h) in
        q.same v.1 other (subst (λ x. HasPrefix (R v.1) x other) (p.same v.0 t.0 t.1) t.2);
  }

  -- the first part, and no second part after it
  pub no_second_part :
      {a b : List ℕ} → IsOnlyRest S a b → HasNoPrefix R b → HasNoPrefix (EncodesPair S R) a
  no_second_part p n = record {
    none = λ v other h.
        let t = split_prefix (open_pair h) in
        n.none v.1 other (subst (λ x. HasPrefix (R v.1) x other) (p.same v.0 t.0 t.1) t.2);
  }

module _ {A : Type 0} {S : A → List ℕ → Type 0} where
  some_same :
      {a c : List ℕ} → BeginsWith 1 a → IsOnlyRest S (after a) c → (v : Option A) (other : List ℕ)
      → HasPrefix (EncodesOption S v) a other → other ≡ c
  some_same {a} b q None other p =
      let e : 1 ∷ after a ≡ 0 ∷ other = sym b.is ∙ p.parts ∙ ap (λ t. t ++ other) p.encodes in
      absurd cc
  some_same b q (Some v) other p = q.same v other (prefix_past_index b p).1

  -- the byte 1, and then the value
  pub rest_of_some :
      {a c : List ℕ} → BeginsWith 1 a → IsOnlyRest S (after a) c
      → IsOnlyRest (EncodesOption S) a c
  rest_of_some b q = record { same = some_same b q }

module _ {A : Type 0} (S : A → List ℕ → Type 0) where
  -- where the input begins with so many items, n of them come before this rest and the others
  -- after it
  pub record AreLeft (count n : ℕ) (input rest : List ℕ) : Type 0 where
    pub later :
        (values : List A) (other : List ℕ) → length values ≡ count
        → HasPrefix (EncodesItems S values) input other
        → (left : List A) × (length left + n ≡ count) × HasPrefix (EncodesItems S left) rest other

  pub all_left : (count : ℕ) (a : List ℕ) → AreLeft count 0 a a
  all_left count a = record { later = λ values other k p. (values, omega (arith, k), p) }

  -- one more was skipped
  one_less :
      (count n : ℕ) (rest next other : List ℕ) → n < count → IsOnlyRest S rest next
      → (left : List A) → length left + n ≡ count → HasPrefix (EncodesItems S left) rest other
      → (fewer : List A) × (length fewer + (n + 1) ≡ count)
      × HasPrefix (EncodesItems S fewer) next other
  one_less count n rest next other l q [] k p = absurd (omega (arith, l, k))
  one_less count n rest next other l q (v ∷ left) k p =
      let t = split_prefix p in (
        left,
        omega (arith, k),
        subst (λ x. HasPrefix (EncodesItems S left) x other) (q.same v t.0 t.1) t.2,
      )

  pub less_left :
      (count n : ℕ) (a rest next : List ℕ) → n < count → AreLeft count n a rest
      → IsOnlyRest S rest next → AreLeft count (n + 1) a next
  less_left count n a rest next l p q = record {
    later = λ values other k h.
        let t = p.later values other k h in
        one_less count n rest next other l q t.0 t.1 t.2;
  }

  none_next :
      (count n : ℕ) (rest other : List ℕ) → n < count → HasNoPrefix S rest
      → (left : List A) → length left + n ≡ count → HasPrefix (EncodesItems S left) rest other → ⊥
  none_next count n rest other l q [] k p = omega (arith, l, k)
  none_next count n rest other l q (v ∷ left) k p = let t = split_prefix p in q.none v t.0 t.1

  -- one more was to come, and there is none
  pub no_items_left :
      (count n : ℕ) (a rest : List ℕ) → n < count → AreLeft count n a rest → HasNoPrefix S rest
      → HasNoItems S count a
  no_items_left count n a rest l p q = record {
    none = λ values other k h.
        let t = p.later values other k h in
        none_next count n rest other l q t.0 t.1 t.2;
  }

  none_left :
      (count n : ℕ) (rest other : List ℕ) → count ≤ n → (left : List A) → length left + n ≡ count
      → HasPrefix (EncodesItems S left) rest other → other ≡ rest
  none_left count n rest other l [] k p = sym (p.parts ∙ ap (λ t. t ++ other) p.encodes)
  none_left count n rest other l (v ∷ left) k p = absurd (omega (arith, l, k))

  -- all were skipped
  pub rest_of_items :
      (count n : ℕ) (a rest : List ℕ) → count ≤ n → AreLeft count n a rest
      → IsOnlyRestOfItems S count a rest
  rest_of_items count n a rest l p = record {
    same = λ values other k h.
        let t = p.later values other k h in none_left count n rest other l t.0 t.1 t.2;
  }

  -- a count, and then so many items
  pub rest_of_list :
      (n : ℕ) (a b c : List ℕ) → HasPrefix (EncodesCompact n) a b → IsOnlyRestOfItems S n b c
      → IsOnlyRest (EncodesList S) a c
  rest_of_list n a b c f p = record {
    same = λ values other q.
        let h = split_prefix q in
        let e = same_prefix compact_law (length values) n a h.0 b h.1 f in
        p.same values other e.0 (subst (λ t. HasPrefix (EncodesItems S values) t other) e.1 h.2);
  }
