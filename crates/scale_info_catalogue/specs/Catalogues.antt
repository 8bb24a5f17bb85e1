-- A catalogue as a finite map from terms to descriptions.
use Rattle.std.specs.Prelude.{◌≡◌, ◌≢◌, ℕ, suc, List, [], ◌∷◌, Option, Some, None, option_map}
use Rattle.std.specs.BTreeMap.{btree_map_len, get}
use Rattle.scale_info_identities.specs.TypeIds.{Term, Terms, term, no_terms, more_terms}
use Rattle.scale_info_identities.specs.contracts.type_id.TypeIdOrd.TheImpl.{ghosts}
use Rattle.scale_info_identities.specs.declared.type_id.TypeId.{TypeId}
use Rattle.scale_info_identities.specs.declared.type_id.TypeId.TheViews.{roll-TypeId}
use Rattle.scale_info_types.specs.MetaDescriptions.{MetaContent, MetaDescription, meta_content}
use Rattle.scale_info_type_info.specs.declared.type_info.InfoError.{InfoError}
use Rattle.scale_info_type_info.specs.declared.type_info.InfoError.TheVariants as info_error
use Rattle.scale_info_catalogue.specs.declared.catalogue.Catalogue.{Catalogue}
use Rattle.scale_info_catalogue.specs.declared.catalogue.CatalogueError.{CatalogueError}
use Rattle.scale_info_catalogue.specs.declared.catalogue.CatalogueError.TheVariants as error

-- An identity with this term. Others with the term have their texts elsewhere in memory; a
-- catalogue doesn't tell them apart.
unfoldable mutual
  pub identity_of : Term → TypeId
  identity_of (term head nums args) =
      roll-TypeId (record {
        head = record { ref_ptr = (0, 0); now = head };
        nums = nums;
        args = identities_of args;
      })

  pub identities_of : Terms → List TypeId
  identities_of no_terms = []
  identities_of (more_terms t ts) = identity_of t ∷ identities_of ts

-- the description of a term
abbrev pub described : Catalogue → Term → Option MetaDescription
described c t = get ghosts.cmp c.entries (identity_of t)

-- the contents of the description of a term
abbrev pub contents_of : Catalogue → Term → Option MetaContent
contents_of c t = option_map meta_content (described c t)

-- the number of terms with a description
abbrev pub size : Catalogue → ℕ
size c = btree_map_len c.entries

-- both catalogues describe the same terms, and each by the same description
pub record AreSame (old new : Catalogue) : Type 0 where
  pub descriptions : (t : Term) → described new t ≡ described old t
  pub count : size new ≡ size old

-- a term that had no description now has this one, and every other one stays as it was
pub record HasOneMore (old new : Catalogue) (t : Term) (d : MetaDescription) : Type 0 where
  pub absent : described old t ≡ None
  pub there : described new t ≡ Some d
  pub others : (other : Term) → other ≢ t → described new other ≡ described old other
  pub count : size new ≡ suc (size old)

-- the term has a description, and its contents are others than these
pub record HasOther (c : Catalogue) (t : Term) (contents : MetaContent) : Type 0 where
  pub known : MetaContent
  pub there : contents_of c t ≡ Some known
  pub apart : known ≢ contents

-- why a type could not be added, where it could not be described
abbrev pub catalogue_error : InfoError → CatalogueError
catalogue_error info_error.TooLong = error.TooLong
catalogue_error info_error.Memory = error.Memory
