use Rattle.std.proofs.Common.{rules, ◌≡◌, ◌≢◌}
use Rattle.std.proofs.lemmas.Iterator.{YieldsList-from_slice, cases_from_all}
use Rattle.std.proofs.lemmas.Iterator.Consumers.{YieldsList-from_enumerate}
use borrow.Author.Tests.{tests}
use Rattle.scale_info_table.proofs.IndexedEntries.{decides_all}
use Rattle.scale_info_table.proofs.portable.closed.has_indices_as_ids.Goals as goal

pub returns : goal.returns
returns c =
    decides_all (λ indexed. indexed.1.id ≡ indexed.0) (λ indexed. indexed.1.id ≢ indexed.0)
    (λ x same differs. differs same) _ _
    (cases_from_all _ _ _ (λ indexed. indexed.1.id ≡ indexed.0) (λ indexed. indexed.1.id ≢ indexed.0) c.all.ensures.ran
    (YieldsList-from_enumerate (YieldsList-from_slice c.args.entries.now (cc)) (cc))
    (λ x q k. search (rules, tests)) (λ x q k. search (rules, tests)))
