-- The laws of encodings of values that are made of other values.
use Rattle.std.specs.Prelude.{◌≡◌, ℕ, List, [], ◌∷◌, ◌++◌, length, Option, Some, None, refl}
use Rattle.std.proofs.Common.{sym, ◌∙◌, ap, arith, append_assoc, lit<}
use Rattle.std.specs.List.{AllByRecursion}
use Rattle.std.proofs.lemmas.List.{append_cancel_left}
use Rattle.scale_info_bytes.specs.Encodings.{IsEncoding, IsByte}
use Rattle.scale_info_bytes.specs.CompactLaws.{compact_law}
use Rattle.scale_info_bytes.specs.Parts.{IsConcatenation, HasIndex, EncodesPair, EncodesOption}
use Rattle.scale_info_bytes.specs.Parts.{EncodesItems, EncodesList}

-- the concatenation of two lists of bytes is a list of bytes
pub all_bytes :
    (b c : List ℕ) → AllByRecursion IsByte b → AllByRecursion IsByte c
    → AllByRecursion IsByte (b ++ c)
all_bytes [] c p q = q
all_bytes (n ∷ b) c p q = (p.0, all_bytes b c p.1 q)

-- two encodings, one after the other
pub concatenation :
    {P Q : List ℕ → Type 0} (x y : List ℕ) → P x → Q y → IsConcatenation P Q (x ++ y)
concatenation x y p q =
    record { first = x; second = y; encodes_first = p; encodes_second = q; parts = refl }

-- two concatenations, each with some rest after it
module _ {P Q P' Q' : List ℕ → Type 0} {b c : List ℕ} (p : IsConcatenation P Q b)
    (q : IsConcatenation P' Q' c) where
  -- the same bytes by parts
  pub by_parts :
      (x y : List ℕ) → b ++ x ≡ c ++ y → p.first ++ (p.second ++ x) ≡ q.first ++ (q.second ++ y)
  by_parts x y e =
      sym (append_assoc p.first p.second x) ∙ sym (ap (λ t. t ++ x) p.parts) ∙ e
      ∙ ap (λ t. t ++ y) q.parts ∙ append_assoc q.first q.second y

  -- the same bytes after the same first part
  pub after_first :
      (x y : List ℕ) → b ++ x ≡ c ++ y → p.first ≡ q.first → p.second ++ x ≡ q.second ++ y
  after_first x y e f =
      append_cancel_left p.first _ _ (by_parts x y e ∙ sym (ap (λ t. t ++ (q.second ++ y)) f))

  -- the same parts make the same bytes
  pub of_parts : p.first ≡ q.first → p.second ≡ q.second → b ≡ c
  of_parts f g = p.parts ∙ ap (λ t. t ++ p.second) f ∙ ap (λ t. q.first ++ t) g ∙ sym q.parts

-- two values, one after the other
module _ {A B : Type 0} {S : A → List ℕ → Type 0} {R : B → List ℕ → Type 0} (s : IsEncoding S)
    (r : IsEncoding R) where
  both_one :
      (v : A) (w : B) (b c : List ℕ) → IsConcatenation (S v) (R w) b → IsConcatenation (S v) (R w) c
      → b ≡ c
  both_one v w b c p q =
      of_parts p q (s.one v _ _ p.encodes_first q.encodes_first)
      (r.one w _ _ p.encodes_second q.encodes_second)

  both_prefix_free :
      (v v' : A) (w w' : B) (b c x y : List ℕ) → IsConcatenation (S v) (R w) b
      → IsConcatenation (S v') (R w') c → b ++ x ≡ c ++ y → (b ≡ c) × (v ≡ v') × (w ≡ w')
  both_prefix_free v v' w w' b c x y p q e =
      let f = s.prefix_free v v' _ _ _ _ p.encodes_first q.encodes_first (by_parts p q _ _ e) in
      let g =
      r.prefix_free w w' _ _ _ _ p.encodes_second q.encodes_second (after_first p q _ _ e f.0) in
      (of_parts p q f.0 g.0, f.1, g.1)

  both_bytes :
      (v : A) (w : B) (b : List ℕ) → IsConcatenation (S v) (R w) b → AllByRecursion IsByte b
  both_bytes v w b p =
      rw p.parts
      (all_bytes p.first p.second (s.bytes v _ p.encodes_first) (r.bytes w _ p.encodes_second))

  -- EncodesPair is an encoding of pairs, if each value of a pair has one
  pub pair_law : IsEncoding (EncodesPair S R)
  pair_law = record {
    one = λ v b c p q. both_one v.0 v.1 b c p.both q.both;
    prefix_free = λ v w b c x y p q e.
        let h = both_prefix_free v.0 w.0 v.1 w.1 b c x y p.both q.both e in
        (h.0, λ i. (h.1 i, h.2 i));
    bytes = λ v b p. both_bytes v.0 v.1 b p.both;
  }

-- a value that is given by its parts
pub through_law :
    {A B : Type 0} {S : B → List ℕ → Type 0} (parts : A → B)
    → ((v w : A) → parts v ≡ parts w → v ≡ w) → IsEncoding S → IsEncoding (λ v b. S (parts v) b)
through_law parts same s = record {
  one = λ v b c p q. s.one (parts v) b c p q;
  prefix_free = λ v w b c x y p q e.
      let h = s.prefix_free (parts v) (parts w) b c x y p q e in (h.0, same v w h.1);
  bytes = λ v b p. s.bytes (parts v) b p;
}

module _ {A : Type 0} {S : A → List ℕ → Type 0} (s : IsEncoding S) where
  -- encodings after index bytes that begin one list are equal, and so are their values
  pub index_prefix_free :
      (i j : ℕ) (v w : A) (b c x y : List ℕ) → HasIndex i (S v) b → HasIndex j (S w) c
      → b ++ x ≡ c ++ y → (b ≡ c) × (v ≡ w)
  index_prefix_free i j v w b c x y p q e =
      let h : i ∷ (p.rest ++ x) ≡ j ∷ (q.rest ++ y) =
      sym (ap (λ t. t ++ x) p.parts) ∙ e ∙ ap (λ t. t ++ y) q.parts in
      let ij : i ≡ j = cc in
      let t : p.rest ++ x ≡ q.rest ++ y = cc in
      let f = s.prefix_free v w _ _ _ _ p.encodes_rest q.encodes_rest t in
      (p.parts ∙ ap (λ n. n ∷ p.rest) ij ∙ ap (λ t. j ∷ t) f.0 ∙ sym q.parts, f.1)

  option_one : (v : Option A) (b c : List ℕ) → EncodesOption S v b → EncodesOption S v c → b ≡ c
  option_one None b c p q = p ∙ sym q
  option_one (Some v) b c p q =
      p.parts ∙ ap (λ t. 1 ∷ t) (s.one v _ _ p.encodes_rest q.encodes_rest) ∙ sym q.parts

  option_prefix_free :
      (v w : Option A) (b c x y : List ℕ) → EncodesOption S v b → EncodesOption S w c
      → b ++ x ≡ c ++ y → (b ≡ c) × (v ≡ w)
  option_prefix_free None None b c x y p q e = (p ∙ sym q, refl)
  option_prefix_free None (Some w) b c x y p q e =
      let h : 0 ∷ x ≡ 1 ∷ (q.rest ++ y) = sym (ap (λ t. t ++ x) p) ∙ e ∙ ap (λ t. t ++ y) q.parts in
      absurd cc
  option_prefix_free (Some v) None b c x y p q e =
      let h : 1 ∷ (p.rest ++ x) ≡ 0 ∷ y = sym (ap (λ t. t ++ x) p.parts) ∙ e ∙ ap (λ t. t ++ y) q in
      absurd cc
  option_prefix_free (Some v) (Some w) b c x y p q e =
      let h = index_prefix_free 1 1 v w b c x y p q e in (h.0, ap Some h.1)

  option_bytes : (v : Option A) (b : List ℕ) → EncodesOption S v b → AllByRecursion IsByte b
  option_bytes None b p = rw p (lit< tt, tt)
  option_bytes (Some v) b p = rw p.parts (lit< tt, s.bytes v _ p.encodes_rest)

  -- EncodesOption is an encoding of options, if the values have one
  pub option_law : IsEncoding (EncodesOption S)
  option_law = record { one = option_one; prefix_free = option_prefix_free; bytes = option_bytes }

  items_one : (v : List A) (b c : List ℕ) → EncodesItems S v b → EncodesItems S v c → b ≡ c
  items_one [] b c p q = p ∙ sym q
  items_one (v ∷ vs) b c p q =
      of_parts p q (s.one v _ _ p.encodes_first q.encodes_first)
      (items_one vs _ _ p.encodes_second q.encodes_second)

  -- lists of the same length
  items_prefix_free :
      (v w : List A) (b c x y : List ℕ) → length v ≡ length w → EncodesItems S v b
      → EncodesItems S w c → b ++ x ≡ c ++ y → (b ≡ c) × (v ≡ w)
  items_prefix_free [] [] b c x y n p q e = (p ∙ sym q, refl)
  items_prefix_free [] (w ∷ ws) b c x y n p q e = absurd (omega arith)
  items_prefix_free (v ∷ vs) [] b c x y n p q e = absurd (omega arith)
  items_prefix_free (v ∷ vs) (w ∷ ws) b c x y n p q e =
      let f = s.prefix_free v w _ _ _ _ p.encodes_first q.encodes_first (by_parts p q _ _ e) in
      let g =
      items_prefix_free vs ws _ _ _ _ (omega arith) p.encodes_second q.encodes_second
      (after_first p q _ _ e f.0) in
      (of_parts p q f.0 g.0, ap (λ a. a ∷ vs) f.1 ∙ ap (λ t. w ∷ t) g.1)

  items_bytes : (v : List A) (b : List ℕ) → EncodesItems S v b → AllByRecursion IsByte b
  items_bytes [] b p = rw p tt
  items_bytes (v ∷ vs) b p =
      rw p.parts
      (all_bytes p.first p.second (s.bytes v _ p.encodes_first)
      (items_bytes vs _ p.encodes_second))

  list_prefix_free :
      (v w : List A) (b c x y : List ℕ) → EncodesList S v b → EncodesList S w c → b ++ x ≡ c ++ y
      → (b ≡ c) × (v ≡ w)
  list_prefix_free v w b c x y p q e =
      let f =
      compact_law.prefix_free _ _ _ _ _ _ p.encodes_first q.encodes_first (by_parts p q _ _ e) in
      let g =
      items_prefix_free v w _ _ _ _ f.1 p.encodes_second q.encodes_second (after_first p q _ _ e f.0) in
      (of_parts p q f.0 g.0, g.1)

  list_one : (v : List A) (b c : List ℕ) → EncodesList S v b → EncodesList S v c → b ≡ c
  list_one v b c p q =
      of_parts p q (compact_law.one _ _ _ p.encodes_first q.encodes_first)
      (items_one v _ _ p.encodes_second q.encodes_second)

  list_bytes : (v : List A) (b : List ℕ) → EncodesList S v b → AllByRecursion IsByte b
  list_bytes v b p =
      rw p.parts
      (all_bytes p.first p.second (compact_law.bytes _ _ p.encodes_first)
      (items_bytes v _ p.encodes_second))

  -- EncodesList is an encoding of lists, if the items have one
  pub list_law : IsEncoding (EncodesList S)
  list_law = record { one = list_one; prefix_free = list_prefix_free; bytes = list_bytes }
