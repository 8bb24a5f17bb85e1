use Rattle.scale_info_bytes.proofs.Lists.{no_count, no_items_after}
use Rattle.scale_info_table_docs.proofs.Changes.{whole_list}
use Rattle.scale_info_bytes.proofs.Results.{ok_on, malformed_in}
use Rattle.scale_info_table_docs.proofs.list.ItemsWithoutDocs.append.Goals as goal

pub returns-in_ok-encode_compact-in-Some-clause-ok :
    goal.returns-in_ok-encode_compact-in-Some-clause-ok
returns-in_ok-encode_compact-in-Some-clause-ok g c =
    ok_on c.append_items.result
    (λ rest p. whole_list g.T.WithoutDocs.encodes g.T.WithoutDocs.without_docs
    c.in-Some.ensures.some c.in_ok-encode_compact-in-Some.ensures.ok p) c.append_items.ensures.ok

pub returns-in_ok-encode_compact-in-Some-clause-malformed :
    goal.returns-in_ok-encode_compact-in-Some-clause-malformed
returns-in_ok-encode_compact-in-Some-clause-malformed g c =
    malformed_in c.append_items.result
    (λ n. no_items_after g.T.WithoutDocs.encodes _ _ _ c.in-Some.ensures.some n.none)
    c.append_items.ensures.malformed

pub returns-in-None-clause-malformed : goal.returns-in-None-clause-malformed
returns-in-None-clause-malformed g c =
    no_count g.T.WithoutDocs.encodes _ c.in-None.ensures.none
