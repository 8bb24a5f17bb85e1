-- Objects that are written row by row.
use Rattle.std.proofs.Common.{◌≡◌, ℕ, List, [], ◌∷◌, ◌++◌, Some, Result, Ok, Err}
use Rattle.std.proofs.Common.{refl, sym, ap, subst, ◌∙◌, append_assoc}
use Rattle.std.specs.Prelude.{OnOk}
use Rattle.json.specs.Token.{Token, begin_object, end_object, key}
use Rattle.json.specs.Written.{Written, Writes}
use Rattle.serde_json.specs.Data.{Data}
use Rattle.scale_info_bytes.proofs.Steps.{prefix_map, same_prefix, split_prefix}
use Rattle.scale_info_bytes.specs.CompactLaws.{compact_law}
use Rattle.scale_info_bytes.specs.Encodings.{HasPrefix}
use Rattle.scale_info_bytes.specs.Integers.{EncodesCompact}
use Rattle.scale_info_bytes.specs.Parts.{EncodesList}
use Rattle.scale_info_bytes.proofs.Lists.{prefix_list}
use Rattle.scale_info_json_trees.proofs.Objects.{object_text, text_before}
use Rattle.scale_info_json_trees.specs.Steps.{after_rows, append_row, tokens_of}
use Rattle.scale_info_json_trees.specs.Written.{Row, list_tree, object_tree, unless_empty}
use Rattle.scale_info_json_bytes.specs.Transcodings.{state_of, AppendsRow, WritesOne, WritesRow}
use Rattle.scale_info_json_bytes.specs.Transcodings.{WritesRows}

-- a key and the tokens of a tree are a row
pub member_row :
    {E : Type 0} (k : List ℕ) (d : Data) {old keyed new : Written}
    → Writes {E = E} (Ok tt) old keyed (key k) → new.before ≡ keyed.before
    → new.tokens ≡ keyed.tokens ++ tokens_of d
    → AppendsRow (k, Some d) old new
member_row k d {old} {keyed} {new} w b t =
    let before : new.before ≡ old.before = b ∙ w.room.0 in
    let tokens : new.tokens ≡ old.tokens ++ key k ∷ tokens_of d =
    t ∙ ap (λ ts. ts ++ tokens_of d) w.ok ∙ append_assoc old.tokens (key k ∷ []) (tokens_of d) in
    record { state = λ i. (before i, tokens i) }

-- a key and a token that is a whole tree are a row, where the token was written
pub token_row :
    {E F : Type 0} (k : List ℕ) (d : Data) {t : Token} {old keyed new : Written}
    (r : Result (Unit {0}) F) → Writes {E = E} (Ok tt) old keyed (key k) → Writes r keyed new t
    → tokens_of d ≡ t ∷ []
    → OnOk r (AppendsRow (k, Some d) old new)
token_row k d {t} {old} {keyed} {new} (Ok u) v w e =
    member_row k d v w.room.0 (w.ok ∙ ap (λ ts. keyed.tokens ++ ts) (sym e))
token_row k d (Err e) v w q = tt

-- one row
pub one_row :
    {r : Row} {a b : Written} → AppendsRow r a b
    → state_of b ≡ after_rows append_row (r ∷ []) (state_of a)
one_row p = p.state

-- two rows, one after another
pub two_rows :
    {r s : Row} {a b c : Written} → AppendsRow r a b → AppendsRow s b c
    → state_of c ≡ after_rows append_row (r ∷ s ∷ []) (state_of a)
two_rows {s = s} p q = q.state ∙ ap (append_row s) p.state

-- four rows, one after another
pub four_rows :
    {r s t u : Row} {a b c d e : Written} → AppendsRow r a b → AppendsRow s b c → AppendsRow t c d
    → AppendsRow u d e
    → state_of e ≡ after_rows append_row (r ∷ s ∷ t ∷ u ∷ []) (state_of a)
four_rows {t = t} {u} p q v w =
    two_rows v w ∙ ap (λ x. append_row u (append_row t x)) (two_rows p q)

-- the first bytes stay, and the tree of a value that the input begins with was written
pub record WroteObject {A : Type 0} (S : A → List ℕ → Type 0) (R : A → List Row)
    (input rest : List ℕ) (old new : Written) : Type 0 where
  pub before : new.before ≡ old.before
  pub ok : WritesOne S (λ v. object_tree (R v)) input rest old.tokens new.tokens

-- a bracket, the value's rows and a bracket
pub whole_object :
    {A : Type 0} {E : Type 0} (S : A → List ℕ → Type 0) (R : A → List Row) (v : A)
    {input rest : List ℕ} {old begun given new : Written} → HasPrefix (S v) input rest
    → Writes {E = E} (Ok tt) old begun begin_object
    → state_of given ≡ after_rows append_row (R v) (state_of begun)
    → Writes {E = E} (Ok tt) given new end_object
    → WroteObject S R input rest old new
whole_object S R v {old = old} {begun} {given} {new} p b rows e = record {
  before = e.room.0 ∙ ap (λ s. s.0) rows ∙ text_before (R v) (state_of begun) ∙ b.room.0;
  ok = record {
    value = v;
    read = p;
    tokens =
        object_text (R v) old.tokens begun.tokens new.tokens begun.before (state_of given) b.ok rows
        e.ok;
  };
}

-- the rows of a value that is made of another
pub rows_into :
    {A B : Type 0} {S : B → List ℕ → Type 0} {T : A → List ℕ → Type 0} {Q : B → List Row}
    {R : A → List Row} {a b : List ℕ} {old new : Written} (make : B → A)
    → ((p : B) (x : List ℕ) → S p x → T (make p) x) → ((p : B) → Q p ≡ R (make p))
    → WritesRows S Q a b old new → WritesRows T R a b old new
rows_into {old = old} make k e p = record {
  value = make p.value;
  read = prefix_map (k p.value) p.read;
  append = p.append ∙ ap (λ rows. after_rows append_row rows (state_of old)) (e p.value);
}

-- the one row of a value that is made of another
pub row_alone :
    {A B : Type 0} {S : B → List ℕ → Type 0} {T : A → List ℕ → Type 0} {Q : B → Row}
    {R : A → List Row} {a b : List ℕ} {old new : Written} (make : B → A)
    → ((p : B) (x : List ℕ) → S p x → T (make p) x) → ((p : B) → Q p ∷ [] ≡ R (make p))
    → WritesRow S Q a b old new → WritesRows T R a b old new
row_alone {old = old} make k e p = record {
  value = make p.value;
  read = prefix_map (k p.value) p.read;
  append = one_row p.appends ∙ ap (λ rows. after_rows append_row rows (state_of old)) (e p.value);
}

-- a row of a value that is made of another
pub row_into :
    {A B : Type 0} {S : B → List ℕ → Type 0} {T : A → List ℕ → Type 0} {Q : B → Row} {R : A → Row}
    {a b : List ℕ} {old new : Written} (make : B → A)
    → ((p : B) (x : List ℕ) → S p x → T (make p) x) → ((p : B) → Q p ≡ R (make p))
    → WritesRow S Q a b old new → WritesRow T R a b old new
row_into {old = old} {new} make k e p = record {
  value = make p.value;
  read = prefix_map (k p.value) p.read;
  appends = subst (λ r. AppendsRow r old new) (e p.value) p.appends;
}

module _ {A : Type 0} (S : A → List ℕ → Type 0) (W : A → Data) where
  -- the count 0: the list is empty, and its row is left out
  pub no_row :
      (n : ℕ) (k a b : List ℕ) (w : Written) → n ≡ 0 → HasPrefix (EncodesCompact n) a b
      → WritesRow (EncodesList S) (λ vs. (k, unless_empty W vs)) a b w w
  no_row n k a b w z p = record {
    value = [];
    read =
        prefix_list S [] n a b b (sym z) p
        (record { encoding = []; encodes = refl; parts = refl });
    appends = record { state = refl };
  }

  not_empty :
      (n : ℕ) (vs : List A) (a b c : List ℕ) → (n ≡ 0 → ⊥) → HasPrefix (EncodesCompact n) a b
      → HasPrefix (EncodesList S vs) a c → Some (list_tree W vs) ≡ unless_empty W vs
  not_empty n [] a b c some p q =
      let h = split_prefix q in absurd (some (same_prefix compact_law n 0 a b h.0 p h.1).0)
  not_empty n (v ∷ vs) a b c some p q = refl

  -- another count: the list is not empty, and its row is written
  pub some_row :
      (n : ℕ) (k a b c : List ℕ) (old new : Written) → (n ≡ 0 → ⊥)
      → HasPrefix (EncodesCompact n) a b
      → WritesRow (EncodesList S) (λ vs. (k, Some (list_tree W vs))) a c old new
      → WritesRow (EncodesList S) (λ vs. (k, unless_empty W vs)) a c old new
  some_row n k a b c old new some p q = record {
    value = q.value;
    read = q.read;
    appends =
        subst (λ o. AppendsRow (k, o) old new) (not_empty n q.value a b c some p q.read) q.appends;
  }
