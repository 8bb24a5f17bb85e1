-- What an edit of one chunk does to all chunks one after another.
use Rattle.std.proofs.Common.{◌≡◌, ◌≢◌, ◌<◌, ℕ, zero, suc, List, [], ◌∷◌, ◌++◌, Some, None}
use Rattle.std.proofs.Common.{length, map, take, drop, slice_get, sym, ap, refl, ◌∙◌, append_assoc}
use Rattle.std.proofs.Common.{append-nil, get_or, set, subst, arith}
use Rattle.std.specs.List.{All, concat, insert, remove}
use Rattle.std.proofs.lemmas.Option.{same_Some, slice_get_read}
use Rattle.std.proofs.lemmas.List.{take-append-drop}
use Rattle.std.proofs.lemmas.List.Elements.{All-cons, All-head, All-tail}
use Rattle.scale_info_interner.specs.ElementOrders.{before, after}
use Rattle.scale_info_interner.proofs.Orders.{drop_at}

-- V is what holds a chunk, and row its indices
module _ {V : Type 0} (row : V → List ℕ) where
  -- a chunk with one more index at a place
  pub insert_joined :
      (vs : List V) (c at index : ℕ) (v w : V) → slice_get vs c ≡ Some v
      → row w ≡ insert (row v) at index
      → concat (map row (set vs c w)) ≡ before (map row vs) c at ++ index ∷ after (map row vs) c at
  insert_joined [] c at index v w p e = cc
  insert_joined (u ∷ vs) zero at index v w p e =
      let rest = concat (map row vs) in
      let same : row w ≡ insert (row u) at index =
      e ∙ ap (λ x. insert (row x) at index) (sym (same_Some u v p)) in
      ap (λ t. t ++ rest) same ∙ append_assoc (take at (row u)) (index ∷ drop at (row u)) rest
  insert_joined (u ∷ vs) (suc c) at index v w p e =
      ap (λ t. row u ++ t) (insert_joined vs c at index v w p e)
      ∙ sym (append_assoc (row u) (before (map row vs) c at) (index ∷ after (map row vs) c at))

  -- one more chunk, of one index, at the end
  pub push_joined :
      (vs : List V) (c at index : ℕ) (w : V) → slice_get vs c ≡ None → row w ≡ index ∷ []
      → concat (map row (vs ++ w ∷ [])) ≡ before (map row vs) c at ++ index ∷ after (map row vs) c at
  push_joined [] c at index w p e = append-nil (row w) ∙ e
  push_joined (u ∷ vs) zero at index w p e = cc
  push_joined (u ∷ vs) (suc c) at index w p e =
      ap (λ t. row u ++ t) (push_joined vs c at index w p e)
      ∙ sym (append_assoc (row u) (before (map row vs) c at) (index ∷ after (map row vs) c at))

  -- a chunk with the same indices
  pub same_rows :
      (vs : List V) (c : ℕ) (v w : V) → slice_get vs c ≡ Some v → row w ≡ row v
      → map row (set vs c w) ≡ map row vs
  same_rows [] c v w p e = cc
  same_rows (u ∷ vs) zero v w p e =
      ap (λ t. t ∷ map row vs) (e ∙ ap row (sym (same_Some u v p)))
  same_rows (u ∷ vs) (suc c) v w p e = ap (λ t. row u ∷ t) (same_rows vs c v w p e)

  -- a chunk without the index at a place
  pub remove_joined :
      (vs : List V) (c at index : ℕ) (rest : List ℕ) (v w : V) (i : ℕ) → slice_get vs c ≡ Some v
      → slice_get (row v) at ≡ Some i
      → row w ≡ remove (row v) at
      → after (map row vs) c at ≡ index ∷ rest
      → concat (map row (set vs c w)) ≡ before (map row vs) c at ++ rest
  remove_joined [] c at index rest v w i p q e f = cc
  remove_joined (u ∷ vs) zero at index rest v w i p q e f =
      let more = concat (map row vs) in
      let same : row w ≡ remove (row u) at = e ∙ ap (λ x. remove (row x) at) (sym (same_Some u v p)) in
      let here : slice_get (row u) at ≡ Some i =
      ap (λ x. slice_get (row x) at) (same_Some u v p) ∙ q in
      let split : i ∷ (drop (suc at) (row u) ++ more) ≡ index ∷ rest =
      ap (λ t. t ++ more) (sym (drop_at (row u) at i here)) ∙ f in
      let tail : drop (suc at) (row u) ++ more ≡ rest = cc in
      ap (λ t. t ++ more) same
      ∙ append_assoc (take at (row u)) (drop (suc at) (row u)) more
      ∙ ap (λ t. take at (row u) ++ t) tail
  remove_joined (u ∷ vs) (suc c) at index rest v w i p q e f =
      ap (λ t. row u ++ t) (remove_joined vs c at index rest v w i p q e f)
      ∙ sym (append_assoc (row u) (before (map row vs) c at) rest)

  -- an empty chunk taken out
  pub dropped_joined :
      (vs : List V) (c : ℕ) (w : V) → row w ≡ []
      → concat (map row (remove (set vs c w) c)) ≡ concat (map row (set vs c w))
  dropped_joined [] zero w e = refl
  dropped_joined [] (suc c) w e = refl
  dropped_joined (u ∷ vs) zero w e = ap (λ t. t ++ concat (map row vs)) (sym e)
  dropped_joined (u ∷ vs) (suc c) w e = ap (λ t. row u ++ t) (dropped_joined vs c w e)

  -- a chunk split in two
  pub split_joined :
      (vs : List V) (c half : ℕ) (v w z : V) → slice_get vs c ≡ Some v → row w ≡ take half (row v)
      → row z ≡ drop half (row v)
      → concat (map row (set (insert vs (suc c) z) c w)) ≡ concat (map row vs)
  split_joined [] c half v w z p e f = cc
  split_joined (u ∷ vs) zero half v w z p e f =
      let rest = concat (map row vs) in
      let whole : row w ++ row z ≡ row u =
      ap (λ t. t ++ row z) e
      ∙ ap (λ t. take half (row v) ++ t) f
      ∙ take-append-drop half (row v)
      ∙ ap row (sym (same_Some u v p)) in
      sym (append_assoc (row w) (row z) rest) ∙ ap (λ t. t ++ rest) whole
  split_joined (u ∷ vs) (suc c) half v w z p e f =
      ap (λ t. row u ++ t) (split_joined vs c half v w z p e f)

  -- two chunks joined in one
  pub merge_joined :
      (vs : List V) (c : ℕ) (v w z : V) → slice_get vs c ≡ Some v → slice_get vs (suc c) ≡ Some z
      → row w ≡ row v ++ row z
      → concat (map row (set (remove vs (suc c)) c w)) ≡ concat (map row vs)
  merge_joined [] c v w z p q e = cc
  merge_joined (u ∷ []) zero v w z p q e = cc
  merge_joined (u ∷ y ∷ vs) zero v w z p q e =
      let rest = concat (map row vs) in
      ap (λ t. t ++ rest) (e ∙ ap (λ t. t ++ row z) (ap row (sym (same_Some u v p))) ∙ ap (λ t. row u ++ row t) (sym (same_Some y z q)))
      ∙ append_assoc (row u) (row y) rest
  merge_joined (u ∷ vs) (suc c) v w z p q e =
      ap (λ t. row u ++ t) (merge_joined vs c v w z p q e)

  -- ---- what holds of each chunk

  module _ (P : List ℕ → Type 0) where
    -- of a chunk that is written
    pub set_filled :
        (vs : List V) (c : ℕ) (w : V) → P (row w) → All P (map row vs)
        → All P (map row (set vs c w))
    set_filled [] c w h all = all
    set_filled (u ∷ vs) zero w h all =
        All-cons P (row w) (map row vs) h (All-tail P (row u) (map row vs) all)
    set_filled (u ∷ vs) (suc c) w h all =
        All-cons P (row u) (map row (set vs c w)) (All-head P (row u) (map row vs) all)
        (set_filled vs c w h (All-tail P (row u) (map row vs) all))

    -- of those that stay where one is taken out
    pub dropped_filled :
        (vs : List V) (c : ℕ) (w : V) → All P (map row vs)
        → All P (map row (remove (set vs c w) c))
    dropped_filled [] zero w all = all
    dropped_filled [] (suc c) w all = all
    dropped_filled (u ∷ vs) zero w all = All-tail P (row u) (map row vs) all
    dropped_filled (u ∷ vs) (suc c) w all =
        All-cons P (row u) (map row (remove (set vs c w) c)) (All-head P (row u) (map row vs) all)
        (dropped_filled vs c w (All-tail P (row u) (map row vs) all))

    -- of a chunk at a place
    pub filled_at :
        (vs : List V) (c : ℕ) (v : V) → All P (map row vs) → slice_get vs c ≡ Some v → P (row v)
    filled_at [] c v all p = cc
    filled_at (u ∷ vs) zero v all p =
        subst (λ x. P (row x)) (same_Some u v p) (All-head P (row u) (map row vs) all)
    filled_at (u ∷ vs) (suc c) v all p =
        filled_at vs c v (All-tail P (row u) (map row vs) all) p

    -- of one that is written where the next is taken out
    pub merge_filled :
        (vs : List V) (c : ℕ) (w : V) → P (row w) → All P (map row vs)
        → All P (map row (set (remove vs (suc c)) c w))
    merge_filled [] c w h all = all
    merge_filled (u ∷ []) zero w h all = set_filled (u ∷ []) zero w h all
    merge_filled (u ∷ y ∷ vs) zero w h all =
        All-cons P (row w) (map row vs) h
        (All-tail P (row y) (map row vs) (All-tail P (row u) (row y ∷ map row vs) all))
    merge_filled (u ∷ vs) (suc c) w h all =
        All-cons P (row u) (map row (set (remove vs (suc c)) c w))
        (All-head P (row u) (map row vs) all)
        (merge_filled vs c w h (All-tail P (row u) (map row vs) all))

    -- of both halves of one that is split
    pub split_filled :
        (vs : List V) (c : ℕ) (w z : V) → P (row w) → P (row z) → All P (map row vs)
        → c < length vs
        → All P (map row (set (insert vs (suc c) z) c w))
    split_filled [] c w z h k all l = absurd (omega (arith, l))
    split_filled (u ∷ vs) zero w z h k all l =
        All-cons P (row w) (row z ∷ map row vs) h
        (All-cons P (row z) (map row vs) k (All-tail P (row u) (map row vs) all))
    split_filled (u ∷ vs) (suc c) w z h k all l =
        All-cons P (row u) (map row (set (insert vs (suc c) z) c w))
        (All-head P (row u) (map row vs) all)
        (split_filled vs c w z h k (All-tail P (row u) (map row vs) all) (omega (arith, l)))

-- a list with one more element is not empty
pub filled_insert : {X : Type 0} (xs : List X) (x : X) (ys : List X) → xs ++ x ∷ ys ≢ []
filled_insert [] x ys h = cc
filled_insert (y ∷ xs) x ys h = cc

-- a row by its place among the rows
pub row_at :
    {V : Type 0} (row : V → List ℕ) (vs : List V) (c : ℕ) (v : V) (chunk : List ℕ)
    → slice_get vs c ≡ Some v
    → slice_get (map row vs) c ≡ Some chunk
    → chunk ≡ row v
row_at row [] c v chunk p q = cc
row_at row (u ∷ vs) zero v chunk p q = sym (same_Some (row u) chunk q) ∙ ap row (same_Some u v p)
row_at row (u ∷ vs) (suc c) v chunk p q = row_at row vs c v chunk p q

-- a place among the rows is one among what holds them
pub row_within :
    {V : Type 0} (row : V → List ℕ) (vs : List V) (c : ℕ) (chunk : List ℕ)
    → slice_get (map row vs) c ≡ Some chunk
    → c < length vs
row_within row [] c chunk q = cc
row_within row (u ∷ vs) zero chunk q = omega arith
row_within row (u ∷ vs) (suc c) chunk q = let l = row_within row vs c chunk q in omega (arith, l)

-- where there is a row, there is what holds it
pub row_there :
    {V : Type 0} (row : V → List ℕ) (vs : List V) (c : ℕ) (v : V) → slice_get vs c ≡ Some v
    → slice_get (map row vs) c ≡ Some (row v)
row_there row [] c v p = cc
row_there row (u ∷ vs) zero v p = ap (λ x. Some (row x)) (same_Some u v p)
row_there row (u ∷ vs) (suc c) v p = row_there row vs c v p

-- a chunk without the index at a place that is among the rows
pub removed_joined :
    {V : Type 0} (row : V → List ℕ) (vs : List V) (c at index i : ℕ) (rest chunk : List ℕ) (v w : V)
    → slice_get (map row vs) c ≡ Some chunk
    → at < length chunk
    → v ≡ get_or vs c v
    → i ≡ get_or (row v) at i
    → row w ≡ remove (row v) at
    → after (map row vs) c at ≡ index ∷ rest
    → concat (map row (set vs c w)) ≡ before (map row vs) c at ++ rest
removed_joined row vs c at index i rest chunk v w there within read read_index made first =
    let held : slice_get vs c ≡ Some v =
    slice_get_read vs (length vs) c v refl (row_within row vs c chunk there) read in
    let short : at < length (row v) =
    subst (λ t. at < length t) (row_at row vs c v chunk held there) within in
    let here : slice_get (row v) at ≡ Some i =
    slice_get_read (row v) (length (row v)) at i refl short read_index in
    remove_joined row vs c at index rest v w i held here made first

-- a list of some length is not
pub some_items : {X : Type 0} (xs : List X) → 0 < length xs → xs ≢ []
some_items [] l e = omega (arith, l)
some_items (x ∷ xs) l e = cc

-- a list that begins with one that is not empty is not
pub filled_before : {X : Type 0} (xs ys : List X) → xs ≢ [] → xs ++ ys ≢ []
filled_before [] ys some h = some refl
filled_before (x ∷ xs) ys some h = cc
