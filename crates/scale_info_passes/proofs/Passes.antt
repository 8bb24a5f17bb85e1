-- Passes over the parts of a value.
use Rattle.std.proofs.Common.{◌≡◌, ℕ, ◌+◌, List, [], ◌∷◌, ◌++◌, length, map, Option, Some, None}
use Rattle.std.proofs.Common.{refl, sym, ap, subst, ◌∙◌, arith, length-append}
use Rattle.std.specs.Prelude.{option_map, option_to_list, IfNone, IsSome}
use Rattle.std.specs.List.{flat_map}
use Rattle.std.proofs.lemmas.Grind.{flat_map-append}
use Rattle.std.proofs.lemmas.List.{append-nil, map-append, length-map}
use Rattle.scale_info_types.specs.Portable.{Id}
use Rattle.scale_info_bytes.specs.Encodings.{HasPrefix}
use Rattle.scale_info_bytes.specs.Integers.{EncodesCompact}
use Rattle.scale_info_bytes.specs.Parts.{EncodesPair, EncodesOption, EncodesItems, EncodesList}
use Rattle.scale_info_passes.specs.PieceLaws.{references_append, split_pieces}
use Rattle.scale_info_passes.specs.Pieces.{Piece, verbatim, reference, references_in, ArePiecesOf}
use Rattle.scale_info_passes.specs.Pieces.{HasVisitedSome, HasVisitedItems}
use Rattle.scale_info_bytes.proofs.Steps.{prefix_both, prefix_pair, prefix_item, items_on}
use Rattle.scale_info_types.specs.Portable as portable
use Rattle.scale_info_grammar.specs.Ty.{EncodesTypeDefWithIndex, EncodesTypeDef}
use Rattle.scale_info_grammar.proofs.Definitions.{prefix_definition}
use Rattle.scale_info_bytes.proofs.Index.{BeginsWith, prefix_from_index, after}

-- ---- the pieces of values

-- bytes that hold no reference
pub pieces_of_verbatim :
    {A : Type 0} {S : A → List ℕ → Type 0} {references_of : A → List Id} {on : (Id → Id) → A → A}
    (v : A) (t : List ℕ)
    → S v t → references_of v ≡ [] → ((f : Id → Id) → on f v ≡ v)
    → ArePiecesOf S references_of on v (verbatim t ∷ [])
pieces_of_verbatim {S = S} v t s r o = record {
  references = sym r;
  encodes =
      λ f b w. subst (λ x. S x b) (sym (o f)) (subst (S v) (sym (w.parts ∙ ap (λ x. x ++ w.second) w.encodes_first ∙ ap (λ x. t ++ x) w.encodes_second ∙ append-nil t)) s);
}

-- a reference
pub pieces_of_reference :
    (v : Id)
    → ArePiecesOf (λ i t. EncodesCompact i.id t) (λ i. i ∷ []) (λ f i. f i) v (reference v ∷ [])
pieces_of_reference v = record {
  references = refl;
  encodes =
      λ f b w. subst (EncodesCompact (f v).id) (sym (w.parts ∙ ap (λ x. w.first ++ x) w.encodes_second ∙ append-nil w.first)) w.encodes_first;
}

module _ {A B : Type 0} {S : A → List ℕ → Type 0} {R : B → List ℕ → Type 0}
    {references_of : A → List Id} {references_of' : B → List Id} {on : (Id → Id) → A → A}
    {on' : (Id → Id) → B → B} where
  -- the pieces of the first part, then those of the second
  pub pieces_of_pair :
      (v : A × B) (ps qs : List Piece)
      → ArePiecesOf S references_of on v.0 ps → ArePiecesOf R references_of' on' v.1 qs
      → ArePiecesOf (EncodesPair S R) (λ p. references_of p.0 ++ references_of' p.1) (λ f p. (on f p.0, on' f p.1)) v (ps ++ qs)
  pieces_of_pair v ps qs p q = record {
    references =
        references_append ps qs
        ∙ ap (λ t. t ++ references_in qs) p.references
        ∙ ap (λ t. references_of v.0 ++ t) q.references;
    encodes = λ f b w.
        let h = split_pieces f ps qs b w in
        record {
          both = record {
            first = h.first;
            second = h.second;
            encodes_first = p.encodes f h.first h.encodes_first;
            encodes_second = q.encodes f h.second h.encodes_second;
            parts = h.parts;
          };
        };
  }

module _ {A : Type 0} (S : A → List ℕ → Type 0) (references_of : A → List Id)
    (on : (Id → Id) → A → A) where
  -- the byte 0 of None
  pub pieces_of_none :
      ArePiecesOf (EncodesOption S) (λ v. flat_map references_of (option_to_list v)) (λ f v. option_map (on f) v) None (verbatim (0 ∷ []) ∷ [])
  pieces_of_none = pieces_of_verbatim None (0 ∷ []) refl refl (λ f. refl)

  -- the byte 1, then the pieces of the value
  pub pieces_of_some :
      (v : A) (ps : List Piece)
      → ArePiecesOf S references_of on v ps
      → ArePiecesOf (EncodesOption S) (λ v. flat_map references_of (option_to_list v)) (λ f v. option_map (on f) v) (Some v) (verbatim (1 ∷ []) ∷ ps)
  pieces_of_some v ps p = record {
    references = p.references ∙ sym (append-nil (references_of v));
    encodes =
        λ f b w. record { rest = w.second; encodes_rest = p.encodes f w.second w.encodes_second; parts = w.parts ∙ ap (λ x. x ++ w.second) w.encodes_first };
  }

  -- the pieces of one more item
  pub pieces_of_items :
      (vs : List A) (v : A) (ps qs : List Piece)
      → ArePiecesOf (EncodesItems S) (flat_map references_of) (λ f. map (on f)) vs ps
      → ArePiecesOf S references_of on v qs
      → ArePiecesOf (EncodesItems S) (flat_map references_of) (λ f. map (on f)) (vs ++ v ∷ []) (ps ++ qs)
  pieces_of_items vs v ps qs p q = record {
    references =
        references_append ps qs
        ∙ ap (λ t. t ++ references_in qs) p.references
        ∙ ap (λ t. flat_map references_of vs ++ t) (q.references ∙ sym (append-nil (references_of v)))
        ∙ sym (flat_map-append references_of vs (v ∷ []));
    encodes = λ f b w.
        let h = split_pieces f ps qs b w in
        let k =
        items_on S (map (on f) vs) (on f v) h.first h.second
        (p.encodes f h.first h.encodes_first) (q.encodes f h.second h.encodes_second) in
        subst (λ t. EncodesItems S t b) (sym (map-append (on f) vs (v ∷ [])))
        (subst (EncodesItems S (map (on f) vs ++ on f v ∷ [])) (sym h.parts) k);
  }

  -- the count, then the pieces of the items
  pub pieces_of_list :
      (vs : List A) (t : List ℕ) (ps : List Piece)
      → EncodesCompact (length vs) t
      → ArePiecesOf (EncodesItems S) (flat_map references_of) (λ f. map (on f)) vs ps
      → ArePiecesOf (EncodesList S) (flat_map references_of) (λ f. map (on f)) vs (verbatim t ∷ ps)
  pieces_of_list vs t ps c p = record {
    references = p.references;
    encodes = λ f b w. record {
      first = w.first;
      second = w.second;
      encodes_first =
          subst (λ n. EncodesCompact n w.first) (sym (length-map vs (on f)))
          (subst (EncodesCompact (length vs)) (sym w.encodes_first) c);
      encodes_second = p.encodes f w.second w.encodes_second;
      parts = w.parts;
    };
  }

-- ---- what was visited, where pieces are visited one after another

module _ {V : Type 0} {Visited : List Piece → V → V → Type 0} where
  -- bytes that hold no reference
  pub visited_verbatim :
      {A : Type 0} {S : A → List ℕ → Type 0} {references_of : A → List Id} {on : (Id → Id) → A → A}
      {a b : List ℕ} {s t : V} (v : A)
      → HasPrefix (S v) a b → ((x : List ℕ) → a ≡ x ++ b → Visited (verbatim x ∷ []) s t)
      → references_of v ≡ [] → ((f : Id → Id) → on f v ≡ v)
      → HasVisitedSome S references_of on Visited a b s t
  visited_verbatim v p k r o = record { value = v; by = record { pieces = verbatim p.encoding ∷ []; prefix = p; are_pieces = pieces_of_verbatim v p.encoding p.encodes r o; visited = k p.encoding p.parts } }

  -- a value of a kind that has no references
  pub visited_alone :
      {A : Type 0} (S : A → List ℕ → Type 0) {a b : List ℕ} {s t : V} (v : A)
      → HasPrefix (S v) a b → ((x : List ℕ) → a ≡ x ++ b → Visited (verbatim x ∷ []) s t)
      → HasVisitedSome S (λ _. []) (λ _ w. w) Visited a b s t
  visited_alone S v p k = visited_verbatim v p k refl (λ f. refl)

  module _
      (append : (ps qs : List Piece) (a b c : V) → Visited ps a b → Visited qs b c → Visited (ps ++ qs) a c) where
    -- the first part was visited, then the second
    pub visited_pair :
        {A B : Type 0} {S : A → List ℕ → Type 0} {R : B → List ℕ → Type 0}
        {references_of : A → List Id} {references_of' : B → List Id} {on : (Id → Id) → A → A}
        {on' : (Id → Id) → B → B} {a b c : List ℕ} {s t u : V}
        → HasVisitedSome S references_of on Visited a b s t
        → HasVisitedSome R references_of' on' Visited b c t u
        → HasVisitedSome (EncodesPair S R) (λ p. references_of p.0 ++ references_of' p.1) (λ f p. (on f p.0, on' f p.1)) Visited a c s u
    visited_pair {s = s} {t} {u} p q = record {
      value = (p.value, q.value);
      by = record {
        pieces = p.by.pieces ++ q.by.pieces;
        prefix = prefix_pair p.by.prefix q.by.prefix;
        are_pieces =
            pieces_of_pair
            (p.value, q.value) p.by.pieces q.by.pieces p.by.are_pieces q.by.are_pieces;
        visited = append p.by.pieces q.by.pieces s t u p.by.visited q.by.visited;
      };
    }

    -- the byte 1 was visited, then the value
    pub visited_some :
        {A : Type 0} {S : A → List ℕ → Type 0} {references_of : A → List Id}
        {on : (Id → Id) → A → A} {a c : List ℕ} {s t u : V}
        → BeginsWith 1 a → ((x : List ℕ) → a ≡ x ++ after a → Visited (verbatim x ∷ []) s t)
        → HasVisitedSome S references_of on Visited (after a) c t u
        → HasVisitedSome (EncodesOption S) (λ v. flat_map references_of (option_to_list v)) (λ f v. option_map (on f) v) Visited a c s u
    visited_some {S = S} {references_of} {on} {s = s} {t} {u} b k q = record {
      value = Some q.value;
      by = record {
        pieces = verbatim (1 ∷ []) ∷ q.by.pieces;
        prefix = prefix_from_index b q.by.prefix;
        are_pieces = pieces_of_some S references_of on q.value q.by.pieces q.by.are_pieces;
        visited = append (verbatim (1 ∷ []) ∷ []) q.by.pieces s t u (k (1 ∷ []) b.is) q.by.visited;
      };
    }

    -- one more item was visited
    pub visited_item :
        {A : Type 0} {S : A → List ℕ → Type 0} {references_of : A → List Id}
        {on : (Id → Id) → A → A} {n : ℕ} {a b c : List ℕ} {s t u : V}
        → HasVisitedItems S references_of on Visited n a b s t
        → HasVisitedSome S references_of on Visited b c t u
        → HasVisitedItems S references_of on Visited (n + 1) a c s u
    visited_item {S = S} {references_of} {on} {s = s} {t} {u} p q = record {
      values = p.values ++ q.value ∷ [];
      count = omega (arith, p.count, length-append p.values (q.value ∷ []));
      by = record {
        pieces = p.by.pieces ++ q.by.pieces;
        prefix = prefix_item S _ _ _ _ _ _ refl p.by.prefix q.by.prefix;
        are_pieces =
            pieces_of_items S references_of on p.values q.value p.by.pieces q.by.pieces p.by.are_pieces q.by.are_pieces;
        visited = append p.by.pieces q.by.pieces s t u p.by.visited q.by.visited;
      };
    }

    -- the count was visited, then so many items
    pub visited_list :
        {A : Type 0} {S : A → List ℕ → Type 0} {references_of : A → List Id}
        {on : (Id → Id) → A → A} (n : ℕ) {a b c : List ℕ} {s t u : V}
        → HasPrefix (EncodesCompact n) a b
        → ((x : List ℕ) → a ≡ x ++ b → Visited (verbatim x ∷ []) s t)
        → HasVisitedItems S references_of on Visited n b c t u
        → HasVisitedSome (EncodesList S) (flat_map references_of) (λ f. map (on f)) Visited a c s u
    visited_list {S = S} {references_of} {on} n {a} {b} {s = s} {t} {u} p k q =
        let f : HasPrefix (EncodesCompact (length q.values)) a b =
        subst (λ m. HasPrefix (EncodesCompact m) a b) (sym q.count) p in
        record {
          value = q.values;
          by = record {
            pieces = verbatim f.encoding ∷ q.by.pieces;
            prefix = prefix_both f q.by.prefix;
            are_pieces =
                pieces_of_list S references_of on q.values f.encoding q.by.pieces f.encodes q.by.are_pieces;
            visited =
                append (verbatim f.encoding ∷ []) q.by.pieces s t u
                (k f.encoding f.parts) q.by.visited;
          };
        }

-- no items: nothing was visited
pub visited_no_items :
    {A V : Type 0} {S : A → List ℕ → Type 0} {references_of : A → List Id} {on : (Id → Id) → A → A}
    {Visited : List Piece → V → V → Type 0} {a : List ℕ} {s : V}
    → Visited [] s s → HasVisitedItems S references_of on Visited 0 a a s s
visited_no_items {a = a} k = record {
  values = [];
  count = refl;
  by = record { pieces = []; prefix = record { encoding = []; encodes = refl; parts = refl }; are_pieces = record { references = refl; encodes = λ f b w. w }; visited = k };
}

-- ---- what is said of an option

-- a value is there, where its absence is impossible
pub some_unless : {X : Type 0} {P : Type 0} (r : Option X) → (P → ⊥) → IfNone r P → IsSome r
some_unless None impossible p = absurd (impossible p)
some_unless (Some x) impossible p = refl

-- ---- values that hold other values

-- a value made of one that was visited
pub visited_into :
    {A B V : Type 0} {S : B → List ℕ → Type 0} {R : A → List ℕ → Type 0}
    {references_of : B → List Id} {references_of' : A → List Id} {on : (Id → Id) → B → B}
    {on' : (Id → Id) → A → A} {Visited : List Piece → V → V → Type 0} {a b : List ℕ} {s t : V}
    (make : B → A)
    → ((p : B) (x : List ℕ) → S p x → R (make p) x)
    → ((p : B) → references_of p ≡ references_of' (make p))
    → ((f : Id → Id) (p : B) → on' f (make p) ≡ make (on f p))
    → HasVisitedSome S references_of on Visited a b s t
    → HasVisitedSome R references_of' on' Visited a b s t
visited_into {R = R} {on = on} make k r o p = record {
  value = make p.value;
  by = record {
    pieces = p.by.pieces;
    prefix = record { encoding = p.by.prefix.encoding; encodes = k p.value p.by.prefix.encoding p.by.prefix.encodes; parts = p.by.prefix.parts };
    are_pieces = record {
      references = p.by.are_pieces.references ∙ r p.value;
      encodes =
          λ f x w.
          subst (λ v. R v x) (sym (o f p.value))
          (k (on f p.value) x (p.by.are_pieces.encodes f x w));
    };
    visited = p.by.visited;
  };
}

-- ---- the references of parts

-- parts that hold no references
pub no_references : {A : Type 0} (xs : List A) → flat_map {X = A} {A = Id} (λ _. []) xs ≡ []
no_references [] = refl
no_references (x ∷ xs) = no_references xs

-- the references of references are themselves
pub own_references : (xs : List Id) → flat_map (λ i. i ∷ []) xs ≡ xs
own_references [] = refl
own_references (x ∷ xs) = ap (λ t. x ∷ t) (own_references xs)

-- ---- definitions

-- the index byte was visited, then the parts
pub visited_definition :
    {V : Type 0} {Visited : List Piece → V → V → Type 0}
    {references_of : portable.TypeDef → List Id}
    {on : (Id → Id) → portable.TypeDef → portable.TypeDef} {a c : List ℕ} {s t u : V}
    (append : (ps qs : List Piece) (a b c : V) → Visited ps a b → Visited qs b c → Visited (ps ++ qs) a c)
    (i : ℕ)
    → BeginsWith i a → ((x : List ℕ) → a ≡ x ++ after a → Visited (verbatim x ∷ []) s t)
    → HasVisitedSome (EncodesTypeDefWithIndex i) references_of on Visited (after a) c t u
    → HasVisitedSome EncodesTypeDef references_of on Visited a c s u
visited_definition {s = s} {t} {u} append i b k q = record {
  value = q.value;
  by = record {
    pieces = verbatim (i ∷ []) ∷ q.by.pieces;
    prefix = prefix_definition i b q.by.prefix;
    are_pieces = record {
      references = q.by.are_pieces.references;
      encodes =
          λ f x w. record { index = i; indexed = record { rest = w.second; encodes_rest = q.by.are_pieces.encodes f w.second w.encodes_second; parts = w.parts ∙ ap (λ y. y ++ w.second) w.encodes_first } };
    };
    visited = append (verbatim (i ∷ []) ∷ []) q.by.pieces s t u (k (i ∷ []) b.is) q.by.visited;
  };
}
