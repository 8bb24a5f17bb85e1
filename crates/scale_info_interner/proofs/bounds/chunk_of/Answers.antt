use Rattle.std.proofs.Common.{◌≡◌, ◌≢◌, ◌≤◌, ◌<◌, ◌+◌, ◌*◌, ◌-◌, ◌%◌, ◌^◌, ◌↔◌, ℕ, suc, Bool, true}
use Rattle.std.proofs.Common.{false, IsTrue, List, None, slice_get, arith, subst, ap, refl, ◌∙◌}
use Rattle.std.proofs.Math.Pow.{pow_mono}
use Rattle.std.proofs.Math.Nat.{pow-suc}
use Rattle.std.proofs.lemmas.Nat.{one_shl, pow_pos}
use Rattle.std.proofs.lemmas.Option.{slice_get_past}
use Rattle.std.specs.Option.{option_map, unwrap_or}
use Rattle.std.specs.declared.cmp.Ordering.{Ordering}
use Rattle.std.specs.declared.cmp.Ordering.TheVariants.{Greater}
use Rattle.scale_info_interner.specs.ElementOrders.{against}
use Rattle.scale_info_interner.proofs.bounds.chunk_of.Goals as goal
use mathlib.Core.Bool.{not}
use mir.Val.{bool_byte}

-- two to the power of one bit more
double : (bits : ℕ) → 2 ^ (bits + 1) ≡ 2 * 2 ^ bits
double bits =
    let next : bits + 1 ≡ suc bits = omega arith in
    let twice = pow-suc 2 bits in
    ap (λ k. 2 ^ k) next ∙ omega (arith, twice)

pub loop-bits-init : goal.loop-bits-init
loop-bits-init g c =
    let bits = c.ilog2-bits.result in
    let below = c.ilog2-bits.ensures.bound in
    let few = c.ilog2-bits.ensures.next_power_gt in
    let more = double bits in
    let all : 2 ^ (bits + 1) ≤ 2 ^ 64 = pow_mono {i = bits + 1} {j = 64} (omega (arith, below)) in
    let last = 0 + (2 ^ (bits + 1) - 1) in
    let none : slice_get c.args.bounds.now last ≡ None =
    slice_get_past c.args.bounds.now last (omega (arith, few, more)) in (
      omega (arith, below),
      omega (arith, all),
      (λ i e. absurd (omega (arith, e))),
      ap (λ v. unwrap_or (option_map (λ y. g.T.Ord.cmp y c.args.value.now) v) Greater) none,
    )

half : (bits : ℕ) → 0 < bits → 2 ^ bits ≡ 2 * 2 ^ (bits - 1)
half bits some =
    let next : bits ≡ bits - 1 + 1 = omega (arith, some) in
    ap (λ k. 2 ^ k) next ∙ double (bits - 1)

pub overflow_add-number : goal.overflow_add-number
overflow_add-number g c =
    let bits = c.loop-bits.bits in
    let some = c.loop-bits-test.true in
    let few = c.loop-bits.invariant.0 in
    let room = c.loop-bits.invariant.1 in
    let one = one_shl (bits - 1) 64 (omega (arith, some, few)) in
    let twice = half bits some in
    let pos = pow_pos (bits - 1) in
    omega (arith, one, room, twice, pos)

-- one step, which tests whether the bound in the middle is above x
step :
    {T : Type 0} (cmp : T → T → Ordering) (bounds : List T) (x : T) (number bits : ℕ) (past : Bool)
    → 0 < bits
    → bits ≤ 64
    → number + 2 ^ bits ≤ 2 ^ 64
    → ((i : ℕ) → number ≡ i + 1 → against cmp bounds x i ≢ Greater)
    → against cmp bounds x (number + (2 ^ bits - 1)) ≡ Greater
    → (IsTrue past ↔ (against cmp bounds x (number + (1 * 2 ^ (bits - 1) % 2 ^ 64 - 1)) ≡ Greater))
    → (bits - 1 ≤ 64)
    × (number + bool_byte (not past) * 2 ^ (bits - 1) % 2 ^ 64 + 2 ^ (bits - 1) ≤ 2 ^ 64)
    × ((i : ℕ) → number + bool_byte (not past) * 2 ^ (bits - 1) % 2 ^ 64 ≡ i + 1
    → against cmp bounds x i ≢ Greater)
    × (against cmp bounds x
    (number + bool_byte (not past) * 2 ^ (bits - 1) % 2 ^ 64 + (2 ^ (bits - 1) - 1)) ≡ Greater)
step cmp bounds x number bits true some few room upto above test =
    let one = one_shl (bits - 1) 64 (omega (arith, some, few)) in
    let twice = half bits some in
    let zero : 0 * 2 ^ (bits - 1) ≡ 0 = omega arith in
    let none : 0 * 2 ^ (bits - 1) % 2 ^ 64 ≡ 0 = ap (λ n. n % 2 ^ 64) zero in
    let same : number + (1 * 2 ^ (bits - 1) % 2 ^ 64 - 1) ≡ number + 0 * 2 ^ (bits - 1) % 2 ^ 64 + (2 ^ (bits - 1) - 1) =
    omega (arith, one, none) in (
      omega (arith, few),
      omega (arith, room, twice, none),
      (λ i e. upto i (omega (arith, e, none))),
      subst (λ n. against cmp bounds x n ≡ Greater) same (test.0 refl),
    )
step cmp bounds x number bits false some few room upto above test =
    let one = one_shl (bits - 1) 64 (omega (arith, some, few)) in
    let twice = half bits some in
    let pos = pow_pos (bits - 1) in
    let same : number + (2 ^ bits - 1) ≡ number + 1 * 2 ^ (bits - 1) % 2 ^ 64 + (2 ^ (bits - 1) - 1) =
    omega (arith, one, twice, pos) in (
      omega (arith, few),
      omega (arith, room, one, twice),
      (λ i e reached.
          let middle : i ≡ number + (1 * 2 ^ (bits - 1) % 2 ^ 64 - 1) = omega (arith, e, one, pos) in
          let no = test.1 (subst (λ n. against cmp bounds x n ≡ Greater) middle reached) in
          cc),
      subst (λ n. against cmp bounds x n ≡ Greater) same above,
    )

pub loop-bits-preserved : goal.loop-bits-preserved
loop-bits-preserved g c =
    let kept = c.loop-bits.invariant in
    step g.T.Ord.cmp c.args.bounds.now c.args.value.now c.loop-bits.number c.loop-bits.bits
    c.is_above-is_past.result c.loop-bits-test.true kept.0 kept.1 kept.2 kept.3
    c.is_above-is_past.ensures
