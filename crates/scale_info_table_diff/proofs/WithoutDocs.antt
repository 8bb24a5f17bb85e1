-- Docs have no references.
use Rattle.std.proofs.Common.{◌≡◌, ◌∙◌, ◌++◌, ◌∷◌, ◌≤◌, ℕ, List, [], Contains, map, slice_get}
use Rattle.std.proofs.Common.{ap, sym, subst, refl}
use Rattle.std.proofs.lemmas.List.{length-map}
use Rattle.std.proofs.lemmas.Option.{slice_get-map}
use Rattle.std.specs.List.{flat_map}
use Rattle.scale_info_table_docs.specs.WithoutDocs.{definition_without_docs, description_without_docs}
use Rattle.scale_info_table_docs.specs.WithoutDocs.{entry_without_docs, field_without_docs}
use Rattle.scale_info_table_docs.specs.WithoutDocs.{variant_without_docs}
use Rattle.scale_info_references.specs.Conversions.{ids_in}
use Rattle.scale_info_types.specs.Portable.{Description, Field, Id, TypeDef, Variant}
use Rattle.scale_info_types.specs.References.{definition_references, field_references}
use Rattle.scale_info_types.specs.References.{parameter_references}
use Rattle.scale_info_types.specs.declared.ty.PortableType.{PortableType}
use Rattle.scale_info_types.specs.declared.ty.TypeDef.TheVariants as def
use Rattle.scale_info_table_diff.proofs.Encoded.{mapped_some}
use Rattle.scale_info_table_diff.specs.TableChanges.{IsDangling}

-- ---- references

of_fields :
    (fields : List Field)
    → field_references (map field_without_docs fields) ≡ field_references fields
of_fields [] = refl
of_fields (field ∷ fields) = ap (λ ids. field.ty ∷ ids) (of_fields fields)

of_variants :
    (variants : List Variant)
    → flat_map (λ (v : Variant). field_references v.fields) (map variant_without_docs variants)
    ≡ flat_map (λ (v : Variant). field_references v.fields) variants
of_variants [] = refl
of_variants (variant ∷ variants) =
    ap (λ (ids : List Id). ids ++ flat_map (λ (v : Variant). field_references v.fields) (map variant_without_docs variants))
    (of_fields variant.fields)
    ∙ ap (λ (ids : List Id). field_references variant.fields ++ ids) (of_variants variants)

of_definition :
    (d : TypeDef) → definition_references (definition_without_docs d) ≡ definition_references d
of_definition (def.Composite d) = of_fields d.fields
of_definition (def.Variant d) = of_variants d.variants
of_definition d = refl

same_references : (d : Description) → ids_in (description_without_docs d) ≡ ids_in d
same_references d =
    ap (λ (ids : List Id). map (λ (r : Id). r.id) (parameter_references d.type_params ++ ids))
    (of_definition d.type_def)

-- an id that dangles without docs dangles with them
pub dangling_with_docs :
    (types : List PortableType) (id : ℕ)
    → IsDangling (map entry_without_docs types) id → IsDangling types id
dangling_with_docs types id h =
    let at =
    mapped_some entry_without_docs (slice_get types h.index) h.entry
    (sym (slice_get-map entry_without_docs types h.index) ∙ h.found) in
    record {
      index = h.index;
      entry = at.0;
      found = at.1;
      refers =
          subst (λ (ids : List ℕ). Contains ids id) (same_references at.0.ty)
          (subst (λ (entry : PortableType). Contains (ids_in entry.ty) id) (sym at.2) h.refers);
      outside = subst (λ n. n ≤ id) (length-map types entry_without_docs) h.outside;
    }
