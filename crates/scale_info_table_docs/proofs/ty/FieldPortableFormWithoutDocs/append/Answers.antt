use Rattle.std.proofs.Common.{refl}
use Rattle.scale_info_bytes.proofs.Results.{ok_on}
use Rattle.scale_info_grammar.specs.Ty.{field_parts}
use Rattle.scale_info_table_docs.proofs.Changes.{made, no_parts}
use Rattle.scale_info_table_docs.proofs.OfParts.{field_of}
use Rattle.scale_info_table_docs.proofs.ty.FieldPortableFormWithoutDocs.append.Goals as goal

pub returns-clause-ok : goal.returns-clause-ok
returns-clause-ok c =
    ok_on c.append.result (λ rest p. made field_of (λ v b e. e) (λ v. refl) p) c.append.ensures.ok

pub returns-clause-malformed : goal.returns-clause-malformed
returns-clause-malformed c = no_parts _ _ _ field_parts c.append.ensures.malformed
