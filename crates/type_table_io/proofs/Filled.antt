-- What a read and a write add to what is done.
use Rattle.std.proofs.Common.{◌≡◌, ℕ, ◌+◌, ◌-◌, List, Option, length, take, drop, sym, ap, subst, ◌∙◌}
use Rattle.std.proofs.Math.Seq.{take-add}
use Rattle.std.proofs.lemmas.List.{take_rest}
use Rattle.std.specs.Io.KnownBytes.{Appends, Consumes, Keeps}
use Rattle.std.proofs.KnownBytes.{Appends-trans, Appends-kept, Consumes-trans, Consumes-kept}

-- n bytes more were read after the first f
pub reads_more : (a b c : Option (List ℕ)) (xs ys : List ℕ) (f n m : ℕ) → m ≡ f + n → take f ys ≡ take f xs
    → Consumes a b (take f xs) → Consumes b c (take n (drop f ys)) → Consumes a c (take m ys)
reads_more a b c xs ys f n m is prefix before read =
    subst (Consumes a c) (sym (ap (λ k. take k ys) is ∙ take-add f n ys)) (Consumes-trans a b c _ _ (subst (Consumes a b) (sym prefix) before) read)

-- nothing more was read
pub reads_none : (a b c : Option (List ℕ)) (xs ys : List ℕ) (f m : ℕ) → m ≡ f → take f ys ≡ take f xs
    → Consumes a b (take f xs) → Keeps b c → Consumes a c (take m ys)
reads_none a b c xs ys f m is prefix before kept =
    subst (Consumes a c) (ap (λ k. take k ys) (sym is)) (Consumes-kept a b c _ (subst (Consumes a b) (sym prefix) before) kept)

-- n bytes more were written, of those after the first f
pub writes_more : (a b c : Option (List ℕ)) (xs : List ℕ) (f n m : ℕ) → m ≡ f + n
    → Appends a b (take f xs) → Appends b c (take n (take (length xs - f) (drop f xs))) → Appends a c (take m xs)
writes_more a b c xs f n m is before written =
    let all : take n (take (length xs - f) (drop f xs)) ≡ take n (drop f xs) = ap (take n) (take_rest xs f) in
    subst (Appends a c) (sym (ap (λ k. take k xs) is ∙ take-add f n xs)) (Appends-trans a b c _ _ before (subst (Appends b c) all written))

-- nothing more was written
pub writes_none : (a b c : Option (List ℕ)) (xs : List ℕ) (f m : ℕ) → m ≡ f → Appends a b (take f xs) → Keeps b c → Appends a c (take m xs)
writes_none a b c xs f m is before kept = subst (Appends a c) (ap (λ k. take k xs) (sym is)) (Appends-kept a b c _ before kept)
