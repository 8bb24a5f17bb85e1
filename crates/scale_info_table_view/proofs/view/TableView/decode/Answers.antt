use Rattle.std.proofs.Common.{ap, take, rules, ◌≡◌, ◌-◌, length}
use Rattle.scale_info_table_view.proofs.Viewed.{decoded, viewed}
use Rattle.scale_info_table_view.proofs.view.TableView.decode.Goals as goal

pub invariant_of-view-inside : goal.invariant_of-view-inside
invariant_of-view-inside c = (
  viewed c.args.input.now c.in_ok-offsets.rest.now _ _ c.in_ok-offsets.ensures.ok
      (ap (λ n. take n c.args.input.now) c.saturating_sub.ensures),
  tt,
)

pub returns-clause-ok : goal.returns-clause-ok
returns-clause-ok c =
    let begins = c.in_ok-offsets.ensures.ok in
    let before : take c.saturating_sub.result c.args.input.now ≡ take (length c.args.input.now - length c.in_ok-offsets.rest.now) c.args.input.now =
    ap (λ n. take n c.args.input.now) c.saturating_sub.ensures in
    search (rules, decoded)
