use Rattle.std.proofs.Common.{sym, ap, option_map}
use Rattle.scale_info_references.specs.Conversions.{ids_in}
use Rattle.scale_info_table_view.proofs.Viewed.{some_entry}
use Rattle.scale_info_table_view.proofs.ViewReferences.{references_found}
use Rattle.scale_info_table_view.proofs.view.TableView.references.Goals as goal

pub returns-in_default : goal.returns-in_default
returns-in_default c = ap (option_map (λ entry. ids_in entry.ty)) (sym c.in_default.ensures.none)

pub returns : goal.returns
returns c =
    references_found c.args.self.now.types c.args.id c.in-Some.bytes.now _ _ c.in-Some-2.ids.items c.in-Some.ensures.some
    c.new.ensures.items (rw c.in-Some-2.is at c.in_ok-ids.ensures.some)

pub unreachable-requires : goal.unreachable-requires
unreachable-requires c =
    some_entry c.args.self.now.types c.args.id c.in-Some.bytes.now c.in-Some.ensures.some
    (rw c.in-None.is at c.in_ok-ids.ensures.none)
