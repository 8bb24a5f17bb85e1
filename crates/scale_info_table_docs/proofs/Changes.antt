-- Parts, lists and pairs that are written again with something changed.
use Rattle.std.proofs.Common.{◌≡◌, ℕ, ◌+◌, List, [], ◌∷◌, ◌++◌, length, map, refl, sym, ap, subst}
use Rattle.std.proofs.Common.{◌∙◌, arith, append_assoc, Result}
use Rattle.std.proofs.lemmas.List.{append-nil, length-append, length-map, map-append}
use Rattle.std.specs.Prelude.{IfErr}
use Rattle.scale_info_bytes.specs.declared.error.DecodeError.{DecodeError}
use Rattle.scale_info_bytes.specs.Encodings.{AppendsEncoding, HasNoPrefix, HasPrefix, IfMalformed}
use Rattle.scale_info_bytes.specs.Encodings.{IsPrefix}
use Rattle.scale_info_bytes.specs.Integers.{EncodesCompact, in_one}
use Rattle.scale_info_bytes.specs.PartLaws.{concatenation}
use Rattle.scale_info_bytes.specs.Parts.{EncodesList, EncodesPair}
use Rattle.scale_info_bytes.proofs.Lists.{prefix_list}
use Rattle.scale_info_bytes.proofs.Results.{malformed_in}
use Rattle.scale_info_bytes.proofs.Steps.{appends_both, appends_item, appends_pair, prefix_item}
use Rattle.scale_info_bytes.proofs.Steps.{no_prefix_through, prefix_map, prefix_pair}
use Rattle.scale_info_passes.specs.Pieces.{HasSomePrefix}
use Rattle.scale_info_table_docs.specs.Changes.{AppendsChanged, AppendsChangedItems}

module _ {A : Type 0} (S : A → List ℕ → Type 0) (f : A → A) where
  -- no item was read, and nothing written
  pub no_items : (a old : List ℕ) → AppendsChangedItems S f 0 a a old old
  no_items a old = record {
    values = [];
    counted = refl;
    prefix = record { encoding = []; encodes = refl; parts = refl };
    appends = record { encoding = []; encodes = refl; parts = sym (append-nil old) };
  }

  -- one more item is read, and written again
  pub next_item :
      {n : ℕ} {a b c old before now : List ℕ} → AppendsChangedItems S f n a b old before
      → AppendsChanged S f b c before now → AppendsChangedItems S f (n + 1) a c old now
  next_item p q = record {
    values = p.values ++ q.value ∷ [];
    counted = length-append p.values (q.value ∷ []) ∙ ap (λ k. k + 1) p.counted;
    prefix = prefix_item S p.values _ q.value _ _ _ refl p.prefix q.prefix;
    appends =
        appends_item S (map f p.values) _ (f q.value) _ _ _ (map-append f p.values (q.value ∷ []))
        p.appends q.appends;
  }

  -- a count and so many items, and the same count and the items written again
  pub whole_list :
      {n : ℕ} {a b c old counted now : List ℕ} → HasPrefix (EncodesCompact n) a b
      → AppendsEncoding (EncodesCompact n) old counted → AppendsChangedItems S f n b c counted now
      → AppendsChanged (EncodesList S) (map f) a c old now
  whole_list {n} {a} {b} {c} {old} {counted} count written items =
      let same : n ≡ length (map f items.values) =
      sym (length-map items.values f ∙ items.counted) in
      record {
        value = items.values;
        prefix = prefix_list S items.values n a b c items.counted count items.prefix;
        appends =
            appends_both (subst (λ k. AppendsEncoding (EncodesCompact k) old counted) same written)
            items.appends;
      }

-- two values are read one after the other, and each is written again
pub both :
    {A B : Type 0} {S : A → List ℕ → Type 0} {R : B → List ℕ → Type 0} {f : A → A} {g : B → B}
    {a b c old between now : List ℕ} → AppendsChanged S f a b old between
    → AppendsChanged R g b c between now
    → AppendsChanged (EncodesPair S R) (λ v. (f v.0, g v.1)) a c old now
both {A} {B} {S} {R} {f} {g} p q = record {
  value = (p.value, q.value);
  prefix = prefix_pair {S = S} {R = R} {v = (p.value, q.value)} p.prefix q.prefix;
  appends = appends_pair {S = S} {R = R} {v = (f p.value, g q.value)} p.appends q.appends;
}

-- what was written is an encoding of something else too
pub appends_map :
    {P Q : List ℕ → Type 0} {old now : List ℕ} → ((b : List ℕ) → P b → Q b)
    → AppendsEncoding P old now → AppendsEncoding Q old now
appends_map g p = record { encoding = p.encoding; encodes = g p.encoding p.encodes; parts = p.parts }

-- what is made of its parts is written again as they are
pub made :
    {A B : Type 0} {S : A → List ℕ → Type 0} {R : B → List ℕ → Type 0} {f : A → A} {g : B → B}
    {a c old now : List ℕ} (of_parts : A → B)
    → ((v : A) (b : List ℕ) → S v b → R (of_parts v) b)
    → ((v : A) → of_parts (f v) ≡ g (of_parts v)) → AppendsChanged S f a c old now
    → AppendsChanged R g a c old now
made {A} {B} {S} {R} {f} {g} {a} {c} {old} {now} of_parts encodes same p = record {
  value = of_parts p.value;
  prefix = prefix_map (encodes p.value) p.prefix;
  appends =
      subst (λ v. AppendsEncoding (R v) old now) (same p.value)
      (appends_map (encodes (f p.value)) p.appends);
}

-- where no prefix is the parts of a value, none is the value
pub no_parts :
    {A B X : Type 0} (S : B → List ℕ → Type 0) (input : List ℕ) (r : Result X DecodeError)
    (parts : A → B) → IfErr r (IfMalformed (HasNoPrefix S input))
    → IfErr r (IfMalformed (HasNoPrefix (λ v b. S (parts v) b) input))
no_parts S input r parts = malformed_in r (λ n. no_prefix_through parts n)

-- lines of docs are read, and no line is written
pub no_docs :
    {A : Type 0} {S : A → List ℕ → Type 0} {a c old now : List ℕ}
    → HasSomePrefix (EncodesList S) a c → now ≡ old ++ 0 ∷ []
    → AppendsChanged (EncodesList S) (λ docs. []) a c old now
no_docs p e = record {
  value = p.value;
  prefix = p.prefix;
  appends = record {
    encoding = 0 ∷ [];
    encodes = concatenation (0 ∷ []) [] (in_one (omega arith) refl) refl;
    parts = e;
  };
}

-- what was appended to is still at the start
pub kept_after :
    {P : List ℕ → Type 0} {a b c : List ℕ} → AppendsEncoding P a b → IsPrefix b c → IsPrefix a c
kept_after {a = a} p q = record {
  rest = p.encoding ++ q.rest;
  parts = q.parts ∙ ap (λ t. t ++ q.rest) p.parts ∙ append_assoc a p.encoding q.rest;
}
