-- What visitors do with pieces.
use Rattle.std.specs.Prelude.{◌≡◌, ℕ, List, ◌++◌, get_or, map, Bool, false}
use Rattle.scale_info_types.specs.Portable.{Id}
use Rattle.scale_info_bytes.specs.Encodings.{HasPrefix, AppendsEncoding, IsPrefix}
use Rattle.scale_info_passes.specs.Pieces.{Piece, EncodesPieces, references_in}

-- the reference by its new number; a reference that has none stays
abbrev pub renumbered : List ℕ → Id → Id
renumbered numbers i = record { id = get_or numbers i.id i.id; marker = i.marker }

-- the numbers of these references
abbrev pub ids_of : List Id → List ℕ
ids_of references = map (λ i. i.id) references

-- unless an allocation failed, new is old followed by the pieces, each reference replaced; new
-- begins with old in any case
pub record RenumbersPieces (f : Id → Id) (ps : List Piece) (failed failed' : Bool)
    (old new : List ℕ) : Type 0 where
  pub keeps : IsPrefix old new
  pub unfailed : failed' ≡ false → failed ≡ false
  pub appends : failed' ≡ false → AppendsEncoding (EncodesPieces f ps) old new

-- unless an allocation failed, new is old followed by the numbers of the pieces' references
pub record GathersPieces (ps : List Piece) (failed failed' : Bool) (old new : List ℕ) : Type 0 where
  pub unfailed : failed' ≡ false → failed ≡ false
  pub appends : failed' ≡ false → new ≡ old ++ ids_of (references_in ps)

-- some value's encoding is a prefix of the input, and new is old followed by an encoding of that
-- value with each reference replaced
pub record AppendsRenumbered {A : Type 0} (S : A → List ℕ → Type 0)
    (map_references : (Id → Id) → A → A) (f : Id → Id)
    (input rest old new : List ℕ) : Type 0 where
  pub value : A
  pub prefix : HasPrefix (S value) input rest
  pub appends : AppendsEncoding (S (map_references f value)) old new

-- some value's encoding is a prefix of the input, and new is old followed by the numbers of that
-- value's references
pub record AppendsReferences {A : Type 0} (S : A → List ℕ → Type 0) (references_of : A → List Id)
    (input rest old new : List ℕ) : Type 0 where
  pub value : A
  pub prefix : HasPrefix (S value) input rest
  pub appends : new ≡ old ++ ids_of (references_of value)
