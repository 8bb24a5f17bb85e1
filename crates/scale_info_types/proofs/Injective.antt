-- Equal definitions of one kind have equal parts.
use Rattle.std.proofs.Common.{◌≡◌, ap}

-- equal values of an injective constructor have equal parts
pub part_in :
    {A B C : Type 0} (make : A → B) (part : A → C) → ((a b : A) → make a ≡ make b → a ≡ b)
    → {a b : A} → make a ≡ make b → part a ≡ part b
part_in make part injective e = ap part (injective _ _ e)
