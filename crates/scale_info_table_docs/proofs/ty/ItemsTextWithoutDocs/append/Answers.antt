use Rattle.scale_info_table_docs.proofs.Changes.{no_docs}
use Rattle.scale_info_table_docs.proofs.ty.ItemsTextWithoutDocs.append.Goals as goal

pub returns-in_ok-push-in-Some-clause-ok : goal.returns-in_ok-push-in-Some-clause-ok
returns-in_ok-push-in-Some-clause-ok c =
    no_docs c.in-Some.ensures.some c.in_ok-push-in-Some.ensures.items
