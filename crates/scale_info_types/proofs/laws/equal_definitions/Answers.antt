use Rattle.std.proofs.Common.{ap, rules}
use denote.Enum.Bare.{same_true, true_same}
use Rattle.scale_info_primitives.specs.contracts.primitive.TypeDefPrimitive.{the_type}
use Rattle.scale_info_types.specs.declared.ty.TypeDef.TheVariants as def
use Rattle.scale_info_types.proofs.Contents.{through, and_same, same_list, same_number, same_field}
use Rattle.scale_info_types.proofs.Contents.{same_variant}
use Rattle.scale_info_types.proofs.Injective.{part_in}
use Rattle.scale_info_types.proofs.laws.equal_definitions.Goals as goal

-- definitions of two kinds are unequal
pub returns : goal.returns
returns g c =
    let type_law = g.met.T.Form.reference_equal in
    elim [
      | def.Composite a ↦ elim [ def.Composite b ↦ through (same_list _ _ (same_field g.T.Ty.PartialEq.eq g.T.String.PartialEq.eq g.T.Form.reference g.T.Form.text g.met.T.Form.reference_equal g.met.T.Form.text_equal) a.fields b.fields) (λ e. λ i. def.Composite (record { fields = e i })) (part_in def.Composite (λ d. d.fields) (λ a b e. cc)) | _ ↦ ((λ h. cc), (λ h. cc)) ]
      | def.Variant a ↦ elim [ def.Variant b ↦ through (same_list _ _ (same_variant g.T.Ty.PartialEq.eq g.T.String.PartialEq.eq g.T.Form.reference g.T.Form.text g.met.T.Form.reference_equal g.met.T.Form.text_equal) a.variants b.variants) (λ e. λ i. def.Variant (record { variants = e i })) (part_in def.Variant (λ d. d.variants) (λ a b e. cc)) | _ ↦ ((λ h. cc), (λ h. cc)) ]
      | def.Sequence a ↦ elim [ def.Sequence b ↦ through (type_law a.type_param b.type_param) (λ e. λ i. def.Sequence (record { type_param = e i; form = tt })) (part_in def.Sequence (λ d. d.type_param) (λ a b e. cc)) | _ ↦ ((λ h. cc), (λ h. cc)) ]
      | def.Array a ↦ elim [ def.Array b ↦ through (and_same _ _ (same_number a.len b.len) (type_law a.type_param b.type_param)) (λ e. λ i. def.Array (record { len = e.0 i; type_param = e.1 i; form = tt })) (λ e. (part_in def.Array (λ d. d.len) (λ a b e. cc) e, part_in def.Array (λ d. d.type_param) (λ a b e. cc) e)) | _ ↦ ((λ h. cc), (λ h. cc)) ]
      | def.Tuple a ↦ elim [ def.Tuple b ↦ through (same_list _ _ type_law a.fields b.fields) (λ e. λ i. def.Tuple (record { fields = e i; form = tt })) (part_in def.Tuple (λ d. d.fields) (λ a b e. cc)) | _ ↦ ((λ h. cc), (λ h. cc)) ]
      | def.Primitive a ↦ elim [ def.Primitive b ↦ ((λ h. ap def.Primitive (same_true the_type (search rules) a b h)), (λ e. true_same the_type a b cc)) | _ ↦ ((λ h. cc), (λ h. cc)) ]
      | def.Compact a ↦ elim [ def.Compact b ↦ through (type_law a.type_param b.type_param) (λ e. λ i. def.Compact (record { type_param = e i; form = tt })) (part_in def.Compact (λ d. d.type_param) (λ a b e. cc)) | _ ↦ ((λ h. cc), (λ h. cc)) ]
      | def.BitSequence a ↦ elim [ def.BitSequence b ↦ through (and_same _ _ (type_law a.bit_store_type b.bit_store_type) (type_law a.bit_order_type b.bit_order_type)) (λ e. λ i. def.BitSequence (record { bit_store_type = e.0 i; bit_order_type = e.1 i; form = tt })) (λ e. (part_in def.BitSequence (λ d. d.bit_store_type) (λ a b e. cc) e, part_in def.BitSequence (λ d. d.bit_order_type) (λ a b e. cc) e)) | _ ↦ ((λ h. cc), (λ h. cc)) ]
      | def.Map a ↦ elim [ def.Map b ↦ through (and_same _ _ (type_law a.key b.key) (type_law a.value b.value)) (λ e. λ i. def.Map (record { key = e.0 i; value = e.1 i; form = tt })) (λ e. (part_in def.Map (λ d. d.key) (λ a b e. cc) e, part_in def.Map (λ d. d.value) (λ a b e. cc) e)) | _ ↦ ((λ h. cc), (λ h. cc)) ]
    ]
