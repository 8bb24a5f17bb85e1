use Rattle.scale_info_bytes.proofs.Errors.{passed_malformed}
use Rattle.scale_info_bytes.proofs.Steps.{no_prefix_first, no_prefix_second}
use Rattle.scale_info_table_docs.proofs.Changes.{both}
use Rattle.scale_info_bytes.proofs.Results.{ok_on, malformed_in}
use Rattle.scale_info_table_docs.proofs.pair.Tuple2WithoutDocs.append.Goals as goal

pub returns-in_err-rest-clause-malformed : goal.returns-in_err-rest-clause-malformed
returns-in_err-rest-clause-malformed g c =
    passed_malformed c.from_residual.result c.in_err-rest.field-0.0 c.from_residual.ensures.1
    no_prefix_first c.in_err-rest.ensures.malformed

pub returns-clause-ok : goal.returns-clause-ok
returns-clause-ok g c =
    ok_on c.append-2.result (λ rest p. both c.in_ok-rest.ensures.ok p) c.append-2.ensures.ok

pub returns-clause-malformed : goal.returns-clause-malformed
returns-clause-malformed g c =
    malformed_in c.append-2.result
    (λ n. no_prefix_second g.met.A.WithoutDocs.law c.in_ok-rest.ensures.ok.prefix n)
    c.append-2.ensures.malformed
