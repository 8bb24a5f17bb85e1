use Rattle.std.proofs.Common.{◌≡◌, ◌<◌, ◌++◌, ◌∷◌, [], inl, inr, length, refl, rules, arith, slice_get, Some}
use Rattle.std.proofs.lemmas.Grind.{common_steps}
use Rattle.std.proofs.lemmas.Option.{slice_get_read, slice_get_within}
use Rattle.scale_info_table_diff.proofs.AddedIds.{row_at, row_pushed, row_set, was_known, was_new}
use Rattle.scale_info_table_diff.proofs.paths.add_id.Goals as goal
use Rattle.scale_info_table_diff.proofs.paths.add_id.Goals.{Else-is_new}

pub returns-then-is_new : goal.returns-then-is_new
returns-then-is_new c =
    let said =
    was_new c.args.paths.now c.intern_or_get.new.self c.args.path c.in-Ok.found.0 c.in-Ok.found.1.id
    (λ i at. let r = c.in-Ok.ensures.known i at in (r.1.0, r.1.1, r.2))
    (λ new. c.in-Ok.ensures.new new) c.if-is_new.true in
    inr (
      said.0,
      said.1,
      row_pushed (λ row. row.items) c.args.ids.now.items c.push.new.self.items c.in_ok-first.first
          (c.args.id ∷ []) c.in_ok-push.ensures.items (search rules),
    )

-- a path that is not new stands at its index
said :
    (c : Else-is_new)
    → (slice_get c.args.paths.now c.in-Ok.found.1.id ≡ Some c.args.path)
    × (c.intern_or_get.new.self ≡ c.args.paths.now)
said c =
    was_known c.args.paths.now c.intern_or_get.new.self c.args.path c.in-Ok.found.0 c.in-Ok.found.1.id
    (λ i at. let r = c.in-Ok.ensures.known i at in (r.1.0, r.1.1, r.2))
    (λ new. c.in-Ok.ensures.new new) c.if-is_new.false

-- so there is a row at it
below : (c : Else-is_new) → c.in-Ok.found.1.id < length c.args.ids.now.items
below c =
    let within = slice_get_within c.args.paths.now c.in-Ok.found.1.id c.args.path (said c).0 in
    let long : length c.args.ids.now.items ≡ length c.args.paths.now = c.requires.rows in
    omega arith

pub index_mut-requires : goal.index_mut-requires
index_mut-requires c =
    let inside = below (goal.at.index_mut-requires c).Else-is_new in
    grind (arith, common_steps)

pub returns : goal.returns
returns c =
    let known = said (goal.at.returns c).Else-is_new in
    inl (
      c.in-Ok.found.1.id,
      c.index_mut.result.now.items,
      known.0,
      row_at (λ row. row.items) c.args.ids.now.items c.in-Ok.found.1.id c.index_mut.result.now
          (slice_get_read c.args.ids.now.items (length c.args.ids.now.items) c.in-Ok.found.1.id
          c.index_mut.result.now refl (below (goal.at.returns c).Else-is_new) (search rules)),
      known.1,
      row_set (λ row. row.items) c.args.ids.now.items c.in-Ok.found.1.id c.push-2.new.self
          (c.index_mut.result.now.items ++ c.args.id ∷ []) c.in_ok-push-2.ensures.items,
    )
