use Rattle.std.proofs.Common.{arith, refl, rules, ◌≡◌, ◌<◌, length, subst}
use Rattle.scale_info_table_diff.proofs.entries.EntryReader.of.Goals as goal

pub invariant_of-result : goal.invariant_of-result
invariant_of-result c =
    let long : length c.resize.new.self.items ≡ c.len.result = search rules in
    record {
      zero = λ k d within.
          c.in_ok-resize.ensures.by_index.1 k d refl (omega (arith, c.new-zeros.ensures.len))
          (subst (λ n. k < n) long within);
    }
