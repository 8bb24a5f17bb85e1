use Rattle.std.proofs.Common.{◌≡◌, ◌++◌, ◌∙◌, ℕ, List, [], map, ap, subst, sym}
use Rattle.scale_info_table_docs.specs.Changes.{AppendsChanged}
use Rattle.scale_info_table_docs.specs.WithoutDocs.{entry_without_docs}
use Rattle.scale_info_grammar.specs.Ty.{EncodesTypes}
use Rattle.type_reader_run.proofs.Tables.{encodes_whole}
use Rattle.type_reader_run.specs.Outputs.{IsStripped}
use Rattle.type_reader_run.specs.Tables.{IsOneTable}
use Rattle.type_reader_run.proofs.strip.stripped.Goals as goal

-- what is appended to nothing is the whole table without docs
is_stripped :
    (table rest old new : List ℕ)
    → IsOneTable table → old ≡ []
    → AppendsChanged EncodesTypes (map entry_without_docs) table rest old new → IsStripped table new
is_stripped table rest old new is none changed = record {
  types = changed.value;
  encodes = encodes_whole changed.value table rest is changed.prefix;
  without_docs =
      subst (EncodesTypes (map entry_without_docs changed.value))
      (sym (changed.appends.parts ∙ ap (λ l. l ++ changed.appends.encoding) none))
      changed.appends.encodes;
}

pub returns-in-Ok-clause-ok : goal.returns-in-Ok-clause-ok
returns-in-Ok-clause-ok c =
    is_stripped c.args.table.now _ _ _ c.requires c.new-output.ensures.items c.in-Ok.ensures.ok
