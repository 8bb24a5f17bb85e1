-- What the types that this library knows are described as. A line for each type, or for types that
-- share it, in the order of the table of descriptions in docs/FORMATS.md. In a line for a type with
-- a parameter `T`, the term of the identity of `T` stands where the type speaks of `T`.
use Rattle.std.specs.Borrow.{Bor}
use Rattle.std.specs.Prelude.{ℕ, List, [], ◌∷◌, ◌++◌, Option, Some, None, codes, nat_le}
use Rattle.std.specs.Prelude.{if◌then◌else◌}
use Rattle.scale_info_identities.specs.TypeIds.{Term}
use Rattle.scale_info_type_ids.specs.StandardTerms.{primitive_term, slice_term, tuple_term}
use Rattle.scale_info_types.specs.MetaDescriptions.{MetaContent, type_term}
use Rattle.scale_info_types.specs.Phantoms.{is_phantom, without_phantoms}
use Rattle.scale_info_types.specs.Shapes.{map_field, map_parameter, map_variant}
use Rattle.scale_info_types.specs.declared.form.MetaForm.{MetaForm}
use Rattle.scale_info_types.specs.declared.meta_type.MetaType.{MetaType}
use Rattle.scale_info_types.specs.declared.ty.TypeParameter.{TypeParameter}
use Rattle.scale_info_types.specs.declared.ty.fields.Field.{Field}
use Rattle.scale_info_types.specs.declared.ty.variant.Variant.{Variant}
use Rattle.scale_info_types.specs.declared.ty.TypeDef.{TypeDef}
use Rattle.scale_info_types.specs.declared.ty.TypeDef.TheVariants as def
use Rattle.scale_info_primitives.specs.declared.primitive.TypeDefPrimitive.{TypeDefPrimitive}
use Rattle.scale_info_primitives.specs.declared.primitive.TypeDefPrimitive.TheVariants as kind

-- a description of the definition alone: path, parameters and docs are empty
abbrev pub defined : TypeDef (Unit {0}) Term (List ℕ) → MetaContent
defined d =
    record {
      path = record { segments = []; form = tt };
      type_params = [];
      type_def = d;
      docs = [];
    }

-- a field by its contents
abbrev pub ContentField : Type 0
ContentField = Field (Unit {0}) Term (List ℕ)

-- a parameter by its contents
abbrev pub ContentParameter : Type 0
ContentParameter = TypeParameter (Unit {0}) Term (List ℕ)

-- a variant by its contents
abbrev pub ContentVariant : Type 0
ContentVariant = Variant (Unit {0}) Term (List ℕ)

-- the contents of a field
abbrev pub meta_field : Field MetaForm MetaType (Bor (List ℕ)) → ContentField
meta_field f = map_field type_term (λ text. text.now) f

-- the contents of a parameter
abbrev pub meta_parameter : TypeParameter MetaForm MetaType (Bor (List ℕ)) → ContentParameter
meta_parameter p = map_parameter type_term (λ text. text.now) p

-- the contents of a variant
abbrev pub meta_variant : Variant MetaForm MetaType (Bor (List ℕ)) → ContentVariant
meta_variant v = map_variant type_term (λ text. text.now) v

-- a description with a path of this one segment
abbrev pub documented :
    List ℕ
    → List ContentParameter → TypeDef (Unit {0}) Term (List ℕ) → List (List ℕ) → MetaContent
documented name parameters d docs =
    record {
      path = record { segments = name ∷ []; form = tt };
      type_params = parameters;
      type_def = d;
      docs = docs;
    }

-- such a description without docs
abbrev pub standard :
    List ℕ → List ContentParameter → TypeDef (Unit {0}) Term (List ℕ) → MetaContent
standard name parameters d = documented name parameters d []

-- a composite with these fields
abbrev pub composite : List ContentField → TypeDef (Unit {0}) Term (List ℕ)
composite fields = def.Composite (record { fields = fields })

-- a parameter that is given this type
abbrev pub given : List ℕ → Term → ContentParameter
given name t = record { name = name; ty = Some t }

-- a field without name, type name and docs
abbrev pub unnamed : Term → ContentField
unnamed t = record { name = None; ty = t; type_name = None; docs = [] }

-- the field, unless its type is a `PhantomData`
abbrev pub kept : ContentField → List ContentField
kept f = if is_phantom f.ty then [] else f ∷ []

-- a variant without docs
abbrev pub variant : List ℕ → List ContentField → ℕ → ContentVariant
variant name fields index = record { name = name; fields = fields; index = index; docs = [] }

-- `bool`, `char`, `u8` to `u128`, `i8` to `i128`
abbrev pub primitive_description : TypeDefPrimitive → Option MetaContent
primitive_description p = Some (defined (def.Primitive p))

-- `StrType`, `String`, `&str`
abbrev pub str_description : Option MetaContent
str_description = Some (defined (def.Primitive kind.Str))

-- the ten NonZero types, by the name and by the term of the number type
abbrev pub non_zero_description : List ℕ → Term → Option MetaContent
non_zero_description name t = Some (standard name [] (composite (kept (unnamed t))))

-- `Duration`: seconds and nanoseconds
abbrev pub duration_description : Option MetaContent
duration_description =
    Some (standard (codes "Duration") [] (composite (
    kept (record {
      name = None;
      ty = primitive_term (codes "u64");
      type_name = Some (codes "u64");
      docs = [];
    }) ++ kept (record {
      name = None;
      ty = primitive_term (codes "u32");
      type_name = Some (codes "u32");
      docs = [];
    }))))

-- `[T; N]`; none where the length takes more than 32 bits
abbrev pub array_description : ℕ → Term → Option MetaContent
array_description n t =
    if nat_le n 4294967295
    then Some (defined (def.Array (record { len = n; type_param = t; form = tt })))
    else None

-- tuples of 0 to 20 members, by the terms of the identities of the members
abbrev pub tuple_description : List Term → Option MetaContent
tuple_description members =
    Some (defined (def.Tuple (record { fields = without_phantoms members; form = tt })))

-- `SliceOf<T>`, `Vec<T>`, `VecDeque<T>`, `&[T]`
abbrev pub slice_description : Term → Option MetaContent
slice_description t = Some (defined (def.Sequence (record { type_param = t; form = tt })))

-- `Compact<T>`
abbrev pub compact_description : Term → Option MetaContent
compact_description t = Some (defined (def.Compact (record { type_param = t; form = tt })))

-- `Box<T>`, `Rc<T>`, `&T`, `&mut T`, by the description of `T`
abbrev pub pointer_description : Option MetaContent → Option MetaContent
pointer_description description = description

-- `PhantomData<T>`
abbrev pub phantom_data_description : Option MetaContent
phantom_data_description =
    Some (documented (codes "PhantomData") [] (composite [])
    (codes "PhantomData placeholder, this type should be filtered out" ∷ []))

-- `Option<T>`
abbrev pub option_description : Term → Option MetaContent
option_description t =
    Some (standard (codes "Option") (given (codes "T") t ∷ []) (def.Variant (record {
      variants =
          variant (codes "None") [] 0 ∷ variant (codes "Some") (kept (unnamed t)) 1 ∷ [];
    })))

-- `Result<T, E>`
abbrev pub result_description : Term → Term → Option MetaContent
result_description t e =
    Some (standard (codes "Result") (given (codes "T") t ∷ given (codes "E") e ∷ [])
    (def.Variant (record {
      variants =
          variant (codes "Ok") (kept (unnamed t)) 0
          ∷ variant (codes "Err") (kept (unnamed e)) 1 ∷ [];
    })))

-- `Cow<'static, T>`
abbrev pub cow_description : Term → Option MetaContent
cow_description t =
    Some (standard (codes "Cow") (given (codes "T") t ∷ []) (composite (kept (unnamed t))))

-- `BTreeMap<K, V>`: a sequence of pairs, whose own term takes the own terms of `K` and `V`
abbrev pub b_tree_map_description : Term → Term → Term → Term → Option MetaContent
b_tree_map_description k v own_k own_v =
    Some (standard (codes "BTreeMap") (given (codes "K") k ∷ given (codes "V") v ∷ [])
    (composite (kept (unnamed (slice_term (tuple_term (own_k ∷ own_v ∷ [])))))))

-- `BTreeSet<T>`, `BinaryHeap<T>`, by the name: a sequence, whose own term takes the own term of `T`
abbrev pub list_description : List ℕ → Term → Term → Option MetaContent
list_description name own t =
    Some (standard name (given (codes "T") t ∷ []) (composite (kept (unnamed (slice_term own)))))

-- `Range<Idx>`, `RangeInclusive<Idx>`, by the name
abbrev pub range_description : List ℕ → Term → Option MetaContent
range_description name t =
    Some (standard name (given (codes "Idx") t ∷ []) (composite (
    kept (record {
      name = Some (codes "start");
      ty = t;
      type_name = Some (codes "Idx");
      docs = [];
    }) ++ kept (record {
      name = Some (codes "end");
      ty = t;
      type_name = Some (codes "Idx");
      docs = [];
    }))))
