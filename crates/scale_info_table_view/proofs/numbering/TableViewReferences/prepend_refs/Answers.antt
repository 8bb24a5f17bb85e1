use Rattle.scale_info_table_view.proofs.ViewReferences.{prepended}
use Rattle.scale_info_table_view.proofs.numbering.TableViewReferences.prepend_refs.Goals as goal

pub returns-clause-refs : goal.returns-clause-refs
returns-clause-refs c =
    prepended c.args.self.now.types c.args.id c.in-Some.ids.items c.deref.result.now c.args.refs.now c.prepend.new.self
    c.prepend.result (rw c.in-Some.is at c.in_ok-ids.ensures) c.deref.ensures.value c.prepend.ensures.ok
