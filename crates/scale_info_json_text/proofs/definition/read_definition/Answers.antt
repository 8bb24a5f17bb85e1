use Rattle.std.proofs.Common.{◌≡◌, refl, sym, subst}
use Rattle.std.proofs.lemmas.Result.{IfOk-weaker}
use Rattle.std.specs.Prelude.{codes}
use Rattle.serde_json.specs.Data.{Data}
use Rattle.scale_info_types.specs.Portable as portable
use Rattle.scale_info_types.specs.declared.ty.TypeDef.TheVariants as def
use Rattle.scale_info_json_trees.specs.Meaning.{MeansList}
use Rattle.scale_info_json_trees.specs.PartTrees.{MeansId}
use Rattle.scale_info_json_trees.specs.DefinitionTrees as under
use Rattle.scale_info_json_trees.specs.DefinitionTrees.{MeansUnder, MeansComposite, MeansVariantType, MeansSequence, MeansArray}
use Rattle.scale_info_json_trees.specs.DefinitionTrees.{MeansPrimitive, MeansCompact, MeansBitSequence, MeansMap}
use Rattle.scale_info_json_text.specs.Definitions.{MeansFrom}
use Rattle.scale_info_json_text.proofs.Definitions.{kind_read}
use Rattle.scale_info_json_text.proofs.definition.read_definition.Goals as goal

composite_part : (t : Data) (d : portable.TypeDef) → MeansUnder (codes "composite") t d → MeansFrom MeansComposite (λ v d. d ≡ def.Composite v) t d
composite_part t d (MeansUnder.composite m) = (_, m, refl)

pub returns-in-composite-clause-ok : goal.returns-in-composite-clause-ok
returns-in-composite-clause-ok c =
    IfOk-weaker c.read_kind.result _ _
    (λ found h. kind_read (codes "composite") (λ t d m. subst (λ x. MeansUnder (codes "composite") t x) (sym m.2) (under.composite m.1)) composite_part c.args.key.now c.in-composite.is _ _ _ found h) c.read_kind.ensures.ok

variant_part : (t : Data) (d : portable.TypeDef) → MeansUnder (codes "variant") t d → MeansFrom MeansVariantType (λ v d. d ≡ def.Variant v) t d
variant_part t d (MeansUnder.variant m) = (_, m, refl)

pub returns-in-variant-clause-ok : goal.returns-in-variant-clause-ok
returns-in-variant-clause-ok c =
    IfOk-weaker c.read_kind-in-variant.result _ _
    (λ found h. kind_read (codes "variant") (λ t d m. subst (λ x. MeansUnder (codes "variant") t x) (sym m.2) (under.variant m.1)) variant_part c.args.key.now c.in-variant.is _ _ _ found h) c.read_kind-in-variant.ensures.ok

sequence_part : (t : Data) (d : portable.TypeDef) → MeansUnder (codes "sequence") t d → MeansFrom MeansSequence (λ v d. d ≡ def.Sequence v) t d
sequence_part t d (MeansUnder.sequence m) = (_, m, refl)

pub returns-in-sequence-clause-ok : goal.returns-in-sequence-clause-ok
returns-in-sequence-clause-ok c =
    IfOk-weaker c.read_kind-in-sequence.result _ _
    (λ found h. kind_read (codes "sequence") (λ t d m. subst (λ x. MeansUnder (codes "sequence") t x) (sym m.2) (under.sequence m.1)) sequence_part c.args.key.now c.in-sequence.is _ _ _ found h) c.read_kind-in-sequence.ensures.ok

array_part : (t : Data) (d : portable.TypeDef) → MeansUnder (codes "array") t d → MeansFrom MeansArray (λ v d. d ≡ def.Array v) t d
array_part t d (MeansUnder.array m) = (_, m, refl)

pub returns-in-array-clause-ok : goal.returns-in-array-clause-ok
returns-in-array-clause-ok c =
    IfOk-weaker c.read_kind-in-array.result _ _
    (λ found h. kind_read (codes "array") (λ t d m. subst (λ x. MeansUnder (codes "array") t x) (sym m.2) (under.array m.1)) array_part c.args.key.now c.in-array.is _ _ _ found h) c.read_kind-in-array.ensures.ok

tuple_part : (t : Data) (d : portable.TypeDef) → MeansUnder (codes "tuple") t d → MeansFrom (λ t v. MeansList MeansId t v.fields) (λ v d. d ≡ def.Tuple v) t d
tuple_part t d (MeansUnder.tuple m) = (_, m, refl)

pub returns-in-tuple-clause-ok : goal.returns-in-tuple-clause-ok
returns-in-tuple-clause-ok c =
    IfOk-weaker c.read_kind-in-tuple.result _ _
    (λ found h. kind_read (codes "tuple") (λ t d m. subst (λ x. MeansUnder (codes "tuple") t x) (sym m.2) (under.tuple m.1)) tuple_part c.args.key.now c.in-tuple.is _ _ _ found h) c.read_kind-in-tuple.ensures.ok

primitive_part : (t : Data) (d : portable.TypeDef) → MeansUnder (codes "primitive") t d → MeansFrom MeansPrimitive (λ v d. d ≡ def.Primitive v) t d
primitive_part t d (MeansUnder.primitive m) = (_, m, refl)

pub returns-in-primitive-clause-ok : goal.returns-in-primitive-clause-ok
returns-in-primitive-clause-ok c =
    IfOk-weaker c.read_kind-in-primitive.result _ _
    (λ found h. kind_read (codes "primitive") (λ t d m. subst (λ x. MeansUnder (codes "primitive") t x) (sym m.2) (under.primitive m.1)) primitive_part c.args.key.now c.in-primitive.is _ _ _ found h) c.read_kind-in-primitive.ensures.ok

compact_part : (t : Data) (d : portable.TypeDef) → MeansUnder (codes "compact") t d → MeansFrom MeansCompact (λ v d. d ≡ def.Compact v) t d
compact_part t d (MeansUnder.compact m) = (_, m, refl)

pub returns-in-compact-clause-ok : goal.returns-in-compact-clause-ok
returns-in-compact-clause-ok c =
    IfOk-weaker c.read_kind-in-compact.result _ _
    (λ found h. kind_read (codes "compact") (λ t d m. subst (λ x. MeansUnder (codes "compact") t x) (sym m.2) (under.compact m.1)) compact_part c.args.key.now c.in-compact.is _ _ _ found h) c.read_kind-in-compact.ensures.ok

bitsequence_part : (t : Data) (d : portable.TypeDef) → MeansUnder (codes "bitsequence") t d → MeansFrom MeansBitSequence (λ v d. d ≡ def.BitSequence v) t d
bitsequence_part t d (MeansUnder.bit_sequence m) = (_, m, refl)

pub returns-in-bitsequence-clause-ok : goal.returns-in-bitsequence-clause-ok
returns-in-bitsequence-clause-ok c =
    IfOk-weaker c.read_kind-in-bitsequence.result _ _
    (λ found h. kind_read (codes "bitsequence") (λ t d m. subst (λ x. MeansUnder (codes "bitsequence") t x) (sym m.2) (under.bit_sequence m.1)) bitsequence_part c.args.key.now c.in-bitsequence.is _ _ _ found h) c.read_kind-in-bitsequence.ensures.ok

map_part : (t : Data) (d : portable.TypeDef) → MeansUnder (codes "map") t d → MeansFrom MeansMap (λ v d. d ≡ def.Map v) t d
map_part t d (MeansUnder.map m) = (_, m, refl)

pub returns-in-map-clause-ok : goal.returns-in-map-clause-ok
returns-in-map-clause-ok c =
    IfOk-weaker c.read_kind-in-map.result _ _
    (λ found h. kind_read (codes "map") (λ t d m. subst (λ x. MeansUnder (codes "map") t x) (sym m.2) (under.map m.1)) map_part c.args.key.now c.in-map.is _ _ _ found h) c.read_kind-in-map.ensures.ok
