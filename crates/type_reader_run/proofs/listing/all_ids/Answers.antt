use Rattle.std.proofs.Common.{◌≡◌, ◌+◌, ◌++◌, ◌∙◌, ◌∷◌, ℕ, Bool, true, false, not, zero, suc, [], cond}
use Rattle.std.proofs.Common.{add-one, ap, append-nil, arith, filter, length, length-take, refl, sym, take}
use Rattle.std.proofs.lemmas.List.Elements.{filter-append}
use Rattle.std.specs.List.{range_with_len}
use Rattle.scale_info_types.specs.declared.ty.PortableType.{PortableType}
use Rattle.type_reader_run.specs.Listings.{has_path, ids_below}
use Rattle.type_reader_run.proofs.listing.all_ids.Goals as goal
use Rattle.type_reader_run.proofs.listing.all_ids.Goals.{then-has_path+in_ok-push, else-has_path+in_ok-push-2}

-- one number more, at the end
range_last : (a n b : ℕ) → a + n ≡ b → range_with_len a (suc n) ≡ range_with_len a n ++ b ∷ []
range_last a zero b is = let same : a ≡ b = omega arith in ap (λ k. k ∷ []) same
range_last a (suc n) b is = ap (λ l. a ∷ l) (range_last (a + 1) n b (omega arith))

-- so one number more is looked at
one_more :
    (p : ℕ → Bool) (n : ℕ)
    → filter p (range_with_len 0 (n + 1)) ≡ filter p (range_with_len 0 n) ++ filter p (n ∷ [])
one_more p n =
    ap (λ k. filter p (range_with_len 0 k)) (add-one n) ∙ ap (filter p) (range_last 0 n n (omega arith))
    ∙ filter-append p (range_with_len 0 n) (n ∷ [])

-- a number that passes is kept, and one that does not is left out
kept : (p : ℕ → Bool) (n : ℕ) → p n ≡ true → filter p (n ∷ []) ≡ n ∷ []
kept p n is = ap (λ b. cond b (n ∷ []) []) is

left_out : (p : ℕ → Bool) (n : ℕ) → p n ≡ false → filter p (n ∷ []) ≡ []
left_out p n is = ap (λ b. cond b (n ∷ []) []) is

pub loop-index-preserved : goal.loop-index-preserved
loop-index-preserved c =
    let n = c.loop-index.index in
    let p = has_path c.args.table.now.types in
    let q : ℕ → Bool = λ id. not (p id) in
    let named = one_more p n in
    let others = one_more q n in
    elim c.if-has_path.branch [
      | then-has_path+in_ok-push w ↦ (
        (let is = sym c.has_path.ensures ∙ w.if-has_path.true in
            ap (λ v. v.items) w.ids-is ∙ w.in_ok-push.ensures.items
            ∙ ap (λ l. l ++ n ∷ []) c.loop-index.invariant.0
            ∙ ap (λ l. filter p (range_with_len 0 n) ++ l) (sym (kept p n is)) ∙ sym named),
        (let is = ap not (sym c.has_path.ensures ∙ w.if-has_path.true) in
            ap (λ v. v.items) w.others-is ∙ c.loop-index.invariant.1 ∙ sym (append-nil _)
            ∙ ap (λ l. filter q (range_with_len 0 n) ++ l) (sym (left_out q n is)) ∙ sym others),
      )
      | else-has_path+in_ok-push-2 w ↦ (
        (let is = sym c.has_path.ensures ∙ w.if-has_path.false in
            ap (λ v. v.items) w.ids-is ∙ c.loop-index.invariant.0 ∙ sym (append-nil _)
            ∙ ap (λ l. filter p (range_with_len 0 n) ++ l) (sym (left_out p n is)) ∙ sym named),
        (let is = ap not (sym c.has_path.ensures ∙ w.if-has_path.false) in
            ap (λ v. v.items) w.others-is ∙ w.in_ok-push-2.ensures.items
            ∙ ap (λ l. l ++ n ∷ []) c.loop-index.invariant.1
            ∙ ap (λ l. filter q (range_with_len 0 n) ++ l) (sym (kept q n is)) ∙ sym others),
      )
    ]

pub returns : goal.returns
returns c =
    let types = c.args.table.now.types in
    let p = has_path types in
    let q : ℕ → Bool = λ id. not (p id) in
    let all : c.loop-index.index ≡ length (take 4294967296 types) =
    omega (arith, length-take {A = PortableType}) in
    c.in_ok-extend_from_slice.ensures.items
    ∙ ap (λ l. l ++ c.deref.result.now) (c.loop-index.invariant.0 ∙ ap (λ n. filter p (range_with_len 0 n)) all)
    ∙ ap (λ l. filter p (ids_below types) ++ l)
    (c.deref.ensures.value ∙ c.loop-index.invariant.1 ∙ ap (λ n. filter q (range_with_len 0 n)) all)
