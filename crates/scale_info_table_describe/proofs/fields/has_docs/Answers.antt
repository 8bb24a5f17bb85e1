use Rattle.std.proofs.Common.{◌≡◌, ◌∙◌, ◌+◌, ◌||◌, ◌↔◌, ◌∷◌, Bool, true, false, List, [], ap, drop, refl, sym}
use Rattle.std.specs.Prelude.{IsTrue}
use Rattle.std.proofs.lemmas.Bool.{false≢true}
use Rattle.std.proofs.lemmas.List.{drop_more}
use Rattle.scale_info_types.specs.Portable.{Text}
use Rattle.scale_info_table_describe.specs.TypeDeclarations.{has_docs, is_documented}
use Rattle.scale_info_table_describe.proofs.fields.has_docs.Goals as goal

documented :
    (docs : List Text) (b : Bool)
    → IsTrue b ↔ (docs ≡ []) → b ≡ false → is_documented docs ≡ true
documented [] b is lacks = absurd (false≢true (sym lacks ∙ is.1 refl))
documented (line ∷ docs) b is lacks = refl

pub returns-then-not-is_empty : goal.returns-then-not-is_empty
returns-then-not-is_empty c =
    let fields = c.args.fields.now in
    let field = c.field-item.result in
    let rest = drop (c.loop-field.field-index + 1) fields in
    sym
    (c.loop-field.invariant
    ∙ ap has_docs (drop_more fields c.loop-field.field-index field c.loop-field-test.true)
    ∙ ap (λ f. has_docs (f ∷ rest)) (sym c.field-item.is)
    ∙ ap (λ b. b || has_docs rest) (documented field.docs c.is_empty.result c.is_empty.ensures c.if-not-is_empty.true))
