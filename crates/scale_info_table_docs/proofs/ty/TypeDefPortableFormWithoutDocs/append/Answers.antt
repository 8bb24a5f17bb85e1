use Rattle.std.proofs.Common.{arith, refl}
use Rattle.scale_info_bytes.proofs.Index.{begins}
use Rattle.scale_info_bytes.proofs.Steps.{no_prefix_through}
use Rattle.scale_info_grammar.proofs.Definitions.{at_composite, at_variant, no_parts}
use Rattle.scale_info_grammar.proofs.Definitions.{no_prefix_definition}
use Rattle.scale_info_grammar.specs.Ty.{composite, variant}
use Rattle.scale_info_types.specs.declared.ty.TypeDef.TheVariants as def
use Rattle.scale_info_table_docs.proofs.Definitions.{with_index}
use Rattle.scale_info_bytes.proofs.Results.{ok_on, malformed_in}
use Rattle.scale_info_table_docs.proofs.ty.TypeDefPortableFormWithoutDocs.append.Goals as goal

pub returns-in_ok-push-in-0-clause-ok : goal.returns-in_ok-push-in-0-clause-ok
returns-in_ok-push-in-0-clause-ok c =
    ok_on c.append.result
    (λ rest p. with_index 0 (λ v. def.Composite (record { fields = v })) (λ v b e. composite e) (λ v. refl)
    (begins 0 c.args.input.now (omega arith) (omega arith)) c.in_ok-push-in-0.ensures.items p)
    c.append.ensures.ok

pub returns-in_ok-push-in-0-clause-malformed : goal.returns-in_ok-push-in-0-clause-malformed
returns-in_ok-push-in-0-clause-malformed c =
    malformed_in c.append.result
    (λ n. no_prefix_definition _ (begins 0 c.args.input.now (omega arith) (omega arith))
    (no_parts at_composite refl (no_prefix_through (λ d. d.fields) n))) c.append.ensures.malformed

pub returns-in_ok-push-in-1-clause-ok : goal.returns-in_ok-push-in-1-clause-ok
returns-in_ok-push-in-1-clause-ok c =
    ok_on c.append-in-1.result
    (λ rest p. with_index 1 (λ v. def.Variant (record { variants = v })) (λ v b e. variant e) (λ v. refl)
    (begins 1 c.args.input.now (omega arith) (omega arith)) c.in_ok-push-in-1.ensures.items p)
    c.append-in-1.ensures.ok

pub returns-in_ok-push-in-1-clause-malformed : goal.returns-in_ok-push-in-1-clause-malformed
returns-in_ok-push-in-1-clause-malformed c =
    malformed_in c.append-in-1.result
    (λ n. no_prefix_definition _ (begins 1 c.args.input.now (omega arith) (omega arith))
    (no_parts at_variant refl (no_prefix_through (λ d. d.variants) n))) c.append-in-1.ensures.malformed
