-- The entries of a table, and their parts.
use Rattle.std.proofs.Common.{◌≡◌, ◌∙◌, ◌<◌, ◌∷◌, ℕ, List, [], All, Some, length, map}
use Rattle.std.proofs.Common.{ap, get_or, sym, subst, refl, slice_get}
use Rattle.std.proofs.lemmas.List.Elements.{All-head, All-tail}
use Rattle.std.proofs.lemmas.Option.{get_or_from_slice_get, slice_get-get_or, slice_get_within}
use Rattle.scale_info_bytes.proofs.Steps.{same_prefix}
use Rattle.scale_info_grammar.specs.Ty.{EncodesDescription}
use Rattle.scale_info_grammar.specs.TyLaws.{description_law}
use Rattle.scale_info_passes.specs.Visits.{AppendsReferences, AppendsRenumbered, renumbered}
use Rattle.scale_info_table_prune.specs.TableIndexes.{BeginsWithDescription}
use Rattle.scale_info_references.proofs.Replaced.{join_description, references_replaced}
use Rattle.scale_info_references.specs.Conversions.{ids_in, symbol}
use Rattle.scale_info_types.proofs.Inverses.{portable_content}
use Rattle.scale_info_types.proofs.ShapeAndReferences as agreement
use Rattle.scale_info_types.specs.Portable as portable
use Rattle.scale_info_types.specs.References.{references}
use Rattle.scale_info_types.specs.Shapes.{map_description, shape}
use Rattle.scale_info_types.specs.declared.form.PortableForm.{PortableForm}
use Rattle.scale_info_types.specs.declared.ty.PortableType.{PortableType}
use Rattle.scale_info_table_diff.specs.Differing.{HasParts}

-- a list that was filled with one value has no other
pub resized :
    {A : Type 0} (xs : List A) (n : ℕ) (v : A) → length xs ≡ n
    → ((k : ℕ) (d : A) → k < n → get_or xs k d ≡ v)
    → (k : ℕ) (x : A) → slice_get xs k ≡ Some x → x ≡ v
resized xs n v long all k x e =
    sym (get_or_from_slice_get xs k x x e)
    ∙ all k x (subst (λ m. k < m) long (slice_get_within xs k x e))

-- where each number of a list is 0, so is the one at a place
pub zero_at :
    (zeros : List ℕ) → All (λ number. number ≡ 0) zeros → (id number : ℕ)
    → slice_get zeros id ≡ Some number → number ≡ 0
zero_at zeros all id number e =
    sym (get_or_from_slice_get zeros id number number e) ∙ all id number (slice_get_within zeros id number e)

-- ---- the parts of an entry

-- references replaced by other ids don't change the shape
same_shape :
    (f : portable.Id → portable.Id) (ty : portable.Description)
    → shape (λ text. text) (map_description {G = PortableForm} f (λ text. text) ty) ≡ shape (λ text. text) ty
same_shape f ty =
    join_description PortableForm PortableForm (Unit {0}) (λ _. tt) f (λ _. tt)
    (λ text. text) (λ text. text) (λ text. text) (λ _. refl) (λ _. refl) ty

module _ (zeros : List ℕ) (are_zero : (id number : ℕ) → slice_get zeros id ≡ Some number → number ≡ 0) where
  -- ids that have a zero are replaced by 0
  zero_ids :
      (rs : List portable.Id) → All (λ id. id < length zeros) (map (λ (r : portable.Id). r.id) rs)
      → map (λ (r : portable.Id). r.id) (map (renumbered zeros) rs)
      ≡ map (λ (r : portable.Id). r.id) (map (λ (_ : portable.Id). symbol 0) rs)
  zero_ids [] below = refl
  zero_ids (r ∷ rs) below =
      let ids = map (λ (r : portable.Id). r.id) rs in
      let here : get_or zeros r.id r.id ≡ 0 =
      are_zero r.id (get_or zeros r.id r.id)
      (slice_get-get_or zeros r.id r.id (All-head (λ id. id < length zeros) r.id ids below)) in
      let rest = zero_ids rs (All-tail (λ id. id < length zeros) r.id ids below) in
      λ i. here i ∷ rest i

  -- so is each reference of a description
  zero_references :
      (ty : portable.Description) → All (λ id. id < length zeros) (ids_in ty)
      → map_description {G = PortableForm} (renumbered zeros) (λ text. text) ty
      ≡ map_description {G = PortableForm} (λ _. symbol 0) (λ text. text) ty
  zero_references ty below =
      let a : portable.Description = map_description (renumbered zeros) (λ text. text) ty in
      let b : portable.Description = map_description (λ _. symbol 0) (λ text. text) ty in
      portable_content a b
      ((agreement.shape_and_references (λ symbol. symbol.id) (λ symbol. symbol.id) (λ text. text) a b).1 (
        same_shape (renumbered zeros) ty ∙ sym (same_shape (λ _. symbol 0) ty),
        ap (map (λ (r : portable.Id). r.id)) (references_replaced PortableForm PortableForm (renumbered zeros) (λ text. text) ty)
            ∙ zero_ids (references ty) below
            ∙ sym (ap (map (λ (r : portable.Id). r.id)) (references_replaced PortableForm PortableForm (λ _. symbol 0) (λ text. text) ty)),
      ))

-- the parts of the entry whose description the bytes begin with
pub parts_at :
    (types : List PortableType) (zeros : List ℕ) (id : ℕ)
    (description rest other_rest ids contents : List ℕ)
    → BeginsWithDescription types id description → All (λ number. number ≡ 0) zeros
    → AppendsReferences EncodesDescription references description rest [] ids
    → All (λ id. id < length zeros) ids
    → AppendsRenumbered EncodesDescription (λ f v. map_description f (λ text. text) v) (renumbered zeros)
    description other_rest [] contents
    → HasParts types id contents ids
parts_at types zeros id description rest other_rest ids contents begins are_zero gathered below written =
    let entry = begins.entry in
    let first = (same_prefix description_law gathered.value entry.ty description rest begins.rest gathered.prefix begins.prefix).0 in
    let second = (same_prefix description_law written.value entry.ty description other_rest begins.rest written.prefix begins.prefix).0 in
    let are : ids ≡ ids_in entry.ty = gathered.appends ∙ ap ids_in first in
    record {
      refers = record { entry = entry; found = begins.found; are_references = are };
      encodes =
          subst (EncodesDescription (map_description (λ _. symbol 0) (λ text. text) entry.ty)) (sym written.appends.parts)
          (subst (λ ty. EncodesDescription ty written.appends.encoding)
          (ap (map_description (renumbered zeros) (λ text. text)) second
          ∙ zero_references zeros (zero_at zeros are_zero) entry.ty (subst (All (λ id. id < length zeros)) are below))
          written.appends.encodes);
    }
