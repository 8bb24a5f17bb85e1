use Rattle.std.proofs.Common.{map, take, ◌≡◌}
use Rattle.scale_info_borrowed_form.proofs.owned.ItemsTryToOwned.try_to_owned.Given as goal

abbrev pub invariant-loop-item : goal.invariant-loop-item
invariant-loop-item g l = l.copies ≡ map (g.T.Part.portable g.F.IdForm.id_of) (take l.item-index l.item-items)
