use Rattle.std.proofs.Common.{List, ℕ, subst, sym, ◌∙◌}
use Rattle.std.proofs.lemmas.Result.{IfOk-weaker}
use Rattle.scale_info_segments.specs.TypePaths.{AreDeclared, IsFirstInvalidIndex}
use Rattle.scale_info_segments.proofs.TypePaths.{replaced_by_none}
use Rattle.scale_info_types.proofs.ty.path.Path+MetaForm.new.Goals as goal

pub returns-clause-ok : goal.returns-clause-ok
returns-clause-ok c =
    IfOk-weaker c.new_with_replace.result _ _
    (λ path known. (
      subst (λ (all : List (List ℕ)). AreDeclared c.args.ident.now c.args.module_path.now all)
          (sym (known.2 ∙ replaced_by_none known.0)) known.1,
      known.3,
    ))
    c.new_with_replace.ensures.ok

pub returns-clause-invalid : goal.returns-clause-invalid
returns-clause-invalid c =
    λ segment is.
    let known = c.new_with_replace.ensures.invalid segment is in
    (known.0, known.1, subst (λ (all : List (List ℕ)). IsFirstInvalidIndex all segment) (replaced_by_none known.0) known.2)
