-- Writing and reading parts one after another.
use Rattle.std.proofs.Common.{◌≡◌, ℕ, zero, suc, ◌<◌, List, [], ◌∷◌, ◌++◌, length, get_or, refl}
use Rattle.std.proofs.Common.{sym, ap, subst, ◌∙◌, arith, append_assoc}
use Rattle.std.proofs.lemmas.List.{append_cancel_left, append-nil}
use Rattle.scale_info_bytes.specs.Encodings.{IsEncoding, AppendsEncoding, HasPrefix, HasNoPrefix}
use Rattle.scale_info_bytes.specs.Encodings.{HasNoEncoding}
use Rattle.scale_info_bytes.specs.PartLaws.{after_first, by_parts, concatenation}
use Rattle.scale_info_bytes.specs.Parts.{IsConcatenation, EncodesPair, EncodesItems}

-- ---- writing

-- two encodings appended in turn append their concatenation
pub appends_both :
    {P Q : List ℕ → Type 0} {a b c : List ℕ} → AppendsEncoding P a b → AppendsEncoding Q b c
    → AppendsEncoding (IsConcatenation P Q) a c
appends_both {P} {Q} {a} p q = record {
  encoding = p.encoding ++ q.encoding;
  encodes = concatenation _ _ p.encodes q.encodes;
  parts = q.parts ∙ ap (λ t. t ++ q.encoding) p.parts ∙ append_assoc a p.encoding q.encoding;
}

-- ---- reading

-- a prefix that is a P is one that is a Q, where each P is a Q
pub prefix_map :
    {P Q : List ℕ → Type 0} {a c : List ℕ} → ((b : List ℕ) → P b → Q b) → HasPrefix P a c
    → HasPrefix Q a c
prefix_map f p = record { encoding = p.encoding; encodes = f p.encoding p.encodes; parts = p.parts }

-- a prefix, and then a prefix of the rest, make a prefix that is their concatenation
pub prefix_both :
    {P Q : List ℕ → Type 0} {a b c : List ℕ} → HasPrefix P a b → HasPrefix Q b c
    → HasPrefix (IsConcatenation P Q) a c
prefix_both {P} {Q} {a} {b} {c} p q = record {
  encoding = p.encoding ++ q.encoding;
  encodes = concatenation _ _ p.encodes q.encodes;
  parts = p.parts ∙ ap (λ t. p.encoding ++ t) q.parts ∙ sym (append_assoc p.encoding q.encoding c);
}

-- the first part of a prefix, and then the second
pub split_prefix :
    {P Q : List ℕ → Type 0} {a c : List ℕ} → HasPrefix (IsConcatenation P Q) a c
    → (b : List ℕ) × HasPrefix P a b × HasPrefix Q b c
split_prefix {P} {Q} {a} {c} p = (
  p.encodes.second ++ c,
  record {
    encoding = p.encodes.first;
    encodes = p.encodes.encodes_first;
    parts =
        p.parts ∙ ap (λ t. t ++ c) p.encodes.parts
        ∙ append_assoc p.encodes.first p.encodes.second c;
  },
  record { encoding = p.encodes.second; encodes = p.encodes.encodes_second; parts = refl },
)

-- an input begins with one encoding only
pub same_prefix :
    {A : Type 0} {S : A → List ℕ → Type 0} → IsEncoding S → (v w : A) (a b c : List ℕ)
    → HasPrefix (S v) a b → HasPrefix (S w) a c → (v ≡ w) × (b ≡ c)
same_prefix s v w a b c p q =
    let h =
    s.prefix_free v w p.encoding q.encoding b c p.encodes q.encodes (sym p.parts ∙ q.parts) in
    (h.1, append_cancel_left p.encoding b c (sym p.parts ∙ q.parts ∙ sym (ap (λ t. t ++ c) h.0)))

-- ---- pairs

module _ {A B : Type 0} {S : A → List ℕ → Type 0} {R : B → List ℕ → Type 0} {v : A × B} where
  -- the encodings of the two values appended in turn append an encoding of the pair
  pub appends_pair :
      {a b c : List ℕ} → AppendsEncoding (S v.0) a b → AppendsEncoding (R v.1) b c
      → AppendsEncoding (EncodesPair S R v) a c
  appends_pair p q =
      let h = appends_both p q in
      record { encoding = h.encoding; encodes = record { both = h.encodes }; parts = h.parts }

  -- an input that begins with the first value, and then with the second, begins with the pair
  pub prefix_pair :
      {a b c : List ℕ} → HasPrefix (S v.0) a b → HasPrefix (R v.1) b c
      → HasPrefix (EncodesPair S R v) a c
  prefix_pair p q = prefix_map (λ b e. record { both = e }) (prefix_both p q)

  -- a pair whose first value has no encoding has none
  pub no_first_part : HasNoEncoding (S v.0) → HasNoEncoding (EncodesPair S R v)
  no_first_part n = record { none = λ text p. n.none p.both.first p.both.encodes_first }

  -- a pair whose second value has no encoding has none
  pub no_second_part : HasNoEncoding (R v.1) → HasNoEncoding (EncodesPair S R v)
  no_second_part n = record { none = λ text p. n.none p.both.second p.both.encodes_second }

module _ {A B : Type 0} {S : A → List ℕ → Type 0} {R : B → List ℕ → Type 0} where
  open_prefix :
      {v : A × B} {a c : List ℕ} → HasPrefix (EncodesPair S R v) a c
      → HasPrefix (IsConcatenation (S v.0) (R v.1)) a c
  open_prefix p = prefix_map (λ b e. e.both) p

  -- an input that begins with no first value begins with no pair
  pub no_prefix_first : {a : List ℕ} → HasNoPrefix S a → HasNoPrefix (EncodesPair S R) a
  no_prefix_first n = record {
    none = λ v rest p. let h = split_prefix (open_prefix p) in n.none v.0 h.0 h.1;
  }

  -- an input with no second value after the first begins with no pair
  pub no_prefix_second :
      {a b : List ℕ} {v : A} → IsEncoding S → HasPrefix (S v) a b → HasNoPrefix R b
      → HasNoPrefix (EncodesPair S R) a
  no_prefix_second {a} {b} {v} s f n = record {
    none = λ w rest p.
        let h = split_prefix (open_prefix p) in
        let e = same_prefix s v w.0 a b h.0 f h.1 in
        n.none w.1 rest (subst (λ t. HasPrefix (R w.1) t rest) (sym e.1) h.2);
  }

-- ---- items

module _ {A : Type 0} (S : A → List ℕ → Type 0) where
  -- one more item
  pub items_on :
      (xs : List A) (x : A) (b c : List ℕ) → EncodesItems S xs b → S x c
      → EncodesItems S (xs ++ x ∷ []) (b ++ c)
  items_on [] x b c p q = record {
    first = c;
    second = [];
    encodes_first = q;
    encodes_second = refl;
    parts = ap (λ t. t ++ c) p ∙ sym (append-nil c);
  }
  items_on (y ∷ ys) x b c p q = record {
    first = p.first;
    second = p.second ++ c;
    encodes_first = p.encodes_first;
    encodes_second = items_on ys x p.second c p.encodes_second q;
    parts = ap (λ t. t ++ c) p.parts ∙ append_assoc p.first p.second c;
  }

  -- one more item at the end
  pub appends_item :
      (xs ys : List A) (x : A) (a b c : List ℕ) → ys ≡ xs ++ x ∷ []
      → AppendsEncoding (EncodesItems S xs) a b → AppendsEncoding (S x) b c
      → AppendsEncoding (EncodesItems S ys) a c
  appends_item xs ys x a b c e p q = record {
    encoding = p.encoding ++ q.encoding;
    encodes =
        subst (λ t. EncodesItems S t (p.encoding ++ q.encoding)) (sym e)
        (items_on xs x p.encoding q.encoding p.encodes q.encodes);
    parts = q.parts ∙ ap (λ t. t ++ q.encoding) p.parts ∙ append_assoc a p.encoding q.encoding;
  }

  -- an input that begins with items, and then with one more, begins with the longer list
  pub prefix_item :
      (xs ys : List A) (x : A) (a b c : List ℕ) → ys ≡ xs ++ x ∷ []
      → HasPrefix (EncodesItems S xs) a b → HasPrefix (S x) b c → HasPrefix (EncodesItems S ys) a c
  prefix_item xs ys x a b c e p q = record {
    encoding = p.encoding ++ q.encoding;
    encodes =
        subst (λ t. EncodesItems S t (p.encoding ++ q.encoding)) (sym e)
        (items_on xs x p.encoding q.encoding p.encodes q.encodes);
    parts =
        p.parts ∙ ap (λ t. p.encoding ++ t) q.parts ∙ sym (append_assoc p.encoding q.encoding c);
  }

  no_items :
      (xs : List A) (i : ℕ) (x : A) → i < length xs → x ≡ get_or xs i x → HasNoEncoding (S x)
      → (text : List ℕ) → EncodesItems S xs text → ⊥
  no_items [] i x l e n text p = absurd (omega arith)
  no_items (y ∷ ys) zero x l e n text p =
      n.none p.first (subst (λ t. S t p.first) (sym e) p.encodes_first)
  no_items (y ∷ ys) (suc i) x l e n text p =
      no_items ys i x (omega arith) e n p.second p.encodes_second

  -- an item that nothing encodes
  pub no_item :
      (xs : List A) (i : ℕ) (x : A) → i < length xs → x ≡ get_or xs i x → HasNoEncoding (S x)
      → HasNoEncoding (EncodesItems S xs)
  no_item xs i x l e n = record { none = no_items xs i x l e n }

  -- the input begins with an item
  pub record HasNextItem (input : List ℕ) : Type 0 where
    pub item : A
    pub rest : List ℕ
    pub prefix : HasPrefix (S item) input rest

  -- where some items were read, and a longer list begins the same input, an item is next
  module _ (s : IsEncoding S) where
    -- the rest after the shorter list begins with an item of the longer one
    pub next_item :
        (xs ys : List A) (b c : List ℕ) (r t : List ℕ) → length xs < length ys → EncodesItems S xs b
        → EncodesItems S ys c → b ++ r ≡ c ++ t → HasNextItem r
    next_item [] [] b c r t l p q e = absurd (omega arith)
    next_item [] (y ∷ ys) b c r t l p q e =
        record {
          item = y;
          rest = q.second ++ t;
          prefix = record {
            encoding = q.first;
            encodes = q.encodes_first;
            parts =
                ap (λ k. k ++ r) (sym p) ∙ e ∙ ap (λ k. k ++ t) q.parts
                ∙ append_assoc q.first q.second t;
          };
        }
    next_item (x ∷ xs) [] b c r t l p q e = absurd (omega arith)
    next_item (x ∷ xs) (y ∷ ys) b c r t l p q e =
        let f = s.prefix_free x y _ _ _ _ p.encodes_first q.encodes_first (by_parts p q _ _ e) in
        next_item xs ys p.second q.second r t (omega arith) p.encodes_second q.encodes_second
        (after_first p q _ _ e f.0)

    -- where no item is next, no list of the wanted length begins the input
    pub no_next :
        (xs : List A) (a r : List ℕ) (n : ℕ) → length xs < n → HasPrefix (EncodesItems S xs) a r
        → HasNoPrefix S r → (ys : List A) (t : List ℕ) → length ys ≡ n
        → HasPrefix (EncodesItems S ys) a t → ⊥
    no_next xs a r n l p none ys t k q =
        let h =
        next_item xs ys p.encoding q.encoding r t (omega arith) p.encodes q.encodes
        (sym p.parts ∙ q.parts) in
        none.none h.item h.rest h.prefix

-- ---- a value given by its parts

-- an input with no prefix for the parts has none for the value that they give
pub no_prefix_through :
    {A B : Type 0} {S : B → List ℕ → Type 0} {a : List ℕ} (parts : A → B) → HasNoPrefix S a
    → HasNoPrefix (λ v b. S (parts v) b) a
no_prefix_through parts n = record { none = λ v rest p. n.none (parts v) rest p }
