-- What is written of a line, part by part.
use Rattle.std.proofs.Common.{◌≡◌, ℕ, zero, suc, List, [], ◌∷◌, ◌++◌, Option, length, ◌+◌, take, refl, sym, ap, ◌∙◌, subst, OnOk, Result, Ok, Err}
use Rattle.std.proofs.Math.Seq.{take-append-add}
use Rattle.std.proofs.KnownBytes.{Appends-trans}
use Rattle.std.specs.Io.KnownBytes.{Appends}
use Rattle.type_table_io.specs.Reports.{AppendsPrefix}

-- a prefix of the first part is a prefix of the whole
shorter : (xs ys : List ℕ) (n : ℕ) → (m : ℕ) × (take m (xs ++ ys) ≡ take n xs)
shorter xs ys zero = (0, refl)
shorter [] ys (suc n) = (0, refl)
shorter (x ∷ xs) ys (suc n) = let r = shorter xs ys n in (suc r.0, ap (λ zs. x ∷ zs) r.1)

-- a prefix of the first part was written, and nothing else
pub part_of_first : (a b : Option (List ℕ)) (bytes first rest : List ℕ) → bytes ≡ first → AppendsPrefix a b bytes → AppendsPrefix a b (first ++ rest)
part_of_first a b bytes first rest is p =
    let m = shorter first rest p.count in
    record {
      count = m.0;
      appends = subst (Appends a b) (ap (take p.count) is ∙ sym m.1) p.appends;
    }

-- the first part was written, and then a prefix of the rest
pub first_and_part : (a b c : Option (List ℕ)) (bytes first rest : List ℕ) → bytes ≡ first → Appends a b bytes → AppendsPrefix b c rest → AppendsPrefix a c (first ++ rest)
first_and_part a b c bytes first rest is x p =
    record {
      count = length first + p.count;
      appends =
          subst (Appends a c) (sym (take-append-add first rest p.count))
          (Appends-trans a b c first (take p.count rest) (subst (Appends a b) is x) p.appends);
    }

-- the first part was written, and, on an Ok, then the rest
pub first_and_rest : {A E : Type 0} (a b c : Option (List ℕ)) (bytes first rest : List ℕ) (r : Result A E) → bytes ≡ first → Appends a b bytes
    → OnOk r (Appends b c rest) → OnOk r (Appends a c (first ++ rest))
first_and_rest a b c bytes first rest (Ok x) is y z = Appends-trans a b c first rest (subst (Appends a b) is y) z
first_and_rest a b c bytes first rest (Err e) is y z = tt
