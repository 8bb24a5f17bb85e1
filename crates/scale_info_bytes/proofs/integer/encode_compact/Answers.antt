use Rattle.std.proofs.Common.{◌≡◌, ℕ, List, ◌∷◌, ◌*◌, ap, ◌∙◌, [], ◌++◌, arith, refl, get_or}
use Rattle.std.specs.Int.{w32, to_le_bytes}
use Rattle.scale_info_bytes.specs.Encodings.{AppendsEncoding}
use Rattle.scale_info_bytes.specs.Integers.{in_one, in_two, in_four, in_five}
use Rattle.scale_info_bytes.proofs.integer.encode_compact.Goals as goal

pub returns-in_ok-push-clause-ok : goal.returns-in_ok-push-clause-ok
returns-in_ok-push-clause-ok c = record {
  encoding = 4 * c.args.integer ∷ [];
  encodes = in_one c.if-integer-lt64.true refl;
  parts = c.in_ok-push.ensures.items;
}

-- what was appended is an encoding
appended :
    {S : List ℕ → Type 0} {old new given encoding : List ℕ} → new ≡ old ++ given → given ≡ encoding
    → S encoding → AppendsEncoding S old new
appended {old = old} {encoding = encoding} more is encodes =
    record { encoding = encoding; encodes = encodes; parts = more ∙ ap (λ t. old ++ t) is }

pub returns-in_ok-extend_from_slice-clause-ok : goal.returns-in_ok-extend_from_slice-clause-ok
returns-in_ok-extend_from_slice-clause-ok c =
    appended c.in_ok-extend_from_slice.ensures.items c.to_le_bytes.ensures
    (in_two c.if-integer-lt64.false c.if-integer-lt16384.true refl)

pub returns-in_ok-extend_from_slice-2-clause-ok : goal.returns-in_ok-extend_from_slice-2-clause-ok
returns-in_ok-extend_from_slice-2-clause-ok c =
    appended c.in_ok-extend_from_slice-2.ensures.items
    c.to_le_bytes-then-integer-lt1073741824.ensures
    (in_four c.if-integer-lt16384.false c.if-integer-lt1073741824.true refl)

pub returns-in_ok-extend_from_slice-3-clause-ok : goal.returns-in_ok-extend_from_slice-3-clause-ok
returns-in_ok-extend_from_slice-3-clause-ok c =
    let h = c.in_ok-extend_from_slice-3.ensures.items in
    let k = c.to_le_bytes-else-integer-lt1073741824.ensures in
    record {
      encoding = 3 ∷ to_le_bytes w32 c.args.integer;
      encodes = in_five c.if-integer-lt1073741824.false (omega arith) refl;
      parts =
          h
          ∙ ap
          (λ t.
          c.args.out.now.items
          ++ 3 ∷ get_or t 0 0 ∷ get_or t 1 0 ∷ get_or t 2 0 ∷ get_or t 3 0 ∷ [])
          k;
    }
