use Rattle.std.proofs.Common.{arith}
use Rattle.scale_info_value.proofs.Bounds.{one_more_fits}
use Rattle.scale_info_value.proofs.Integers.{half_fits}
use Rattle.scale_info_value.proofs.integer.+little_endian.Goals as goal

pub overflow_mul-result : goal.overflow_mul-result
overflow_mul-result t c =
    let h = half_fits _ _ c.little_endian-in_default-bytes.ensures.bound (omega arith) in omega arith

pub overflow_add-result : goal.overflow_add-result
overflow_add-result t c =
    let low = half_fits _ _ c.little_endian.ensures.bound (omega arith) in
    let high = half_fits _ _ c.little_endian-in_default-bytes.ensures.bound (omega arith) in
    omega arith

pub overflow_mul-result-in-len1-up : goal.overflow_mul-result-in-len1-up
overflow_mul-result-in-len1-up t c =
    let h = one_more_fits _ _ c.little_endian-in-len1-up.ensures.bound (omega arith) in omega arith

pub overflow_add-result-in-len1-up : goal.overflow_add-result-in-len1-up
overflow_add-result-in-len1-up t c =
    let h = one_more_fits _ _ c.little_endian-in-len1-up.ensures.bound (omega arith) in grind arith
