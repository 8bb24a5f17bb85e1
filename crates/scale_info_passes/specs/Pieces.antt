-- An encoding in pieces: the references, and the bytes between them.
use Rattle.std.specs.Prelude.{◌≡◌, ℕ, List, [], ◌∷◌, length, map}
use Rattle.std.specs.List.{flat_map}
use Rattle.scale_info_types.specs.Portable.{Id}
use Rattle.scale_info_bytes.specs.Encodings.{HasPrefix}
use Rattle.scale_info_bytes.specs.Integers.{EncodesCompact}
use Rattle.scale_info_bytes.specs.Parts.{IsConcatenation, EncodesItems}

-- bytes that hold no reference, or a reference
pub data Piece : Type 0 where
  verbatim : List ℕ → Piece
  reference : Id → Piece

-- the references among the pieces
abbrev pub references_in : List Piece → List Id
references_in [] = []
references_in (verbatim bytes ∷ ps) = references_in ps
references_in (reference id ∷ ps) = id ∷ references_in ps

-- the pieces one after another, each reference replaced by its image under f
abbrev pub EncodesPieces : (Id → Id) → List Piece → List ℕ → Type 0
EncodesPieces f [] b = b ≡ []
EncodesPieces f (verbatim bytes ∷ ps) b = IsConcatenation (λ c. c ≡ bytes) (EncodesPieces f ps) b
EncodesPieces f (reference id ∷ ps) b =
    IsConcatenation (EncodesCompact (f id).id) (EncodesPieces f ps) b

-- some value's encoding is a prefix of the input, and this is the rest
pub record HasSomePrefix {A : Type 0} (S : A → List ℕ → Type 0) (input rest : List ℕ) : Type 0 where
  pub value : A
  pub prefix : HasPrefix (S value) input rest

-- S encodes values; `references_of` are a value's references, and `map_references` replaces them
module _ {A : Type 0} (S : A → List ℕ → Type 0) (references_of : A → List Id)
    (map_references : (Id → Id) → A → A) where
  -- the pieces of a value: their references are the value's, and with each reference replaced they
  -- are an encoding of the value with each reference replaced
  pub record ArePiecesOf (v : A) (ps : List Piece) : Type 0 where
    pub references : references_in ps ≡ references_of v
    pub encodes : (f : Id → Id) (b : List ℕ) → EncodesPieces f ps b → S (map_references f v) b

  -- `Visited pieces old new` says what the pieces do to a visitor
  module _ {V : Type 0} (Visited : List Piece → V → V → Type 0) where
    -- this value's encoding is a prefix of the input, and its pieces were visited
    pub record HasVisited (v : A) (input rest : List ℕ) (old new : V) : Type 0 where
      pub pieces : List Piece
      pub prefix : HasPrefix (S v) input rest
      pub are_pieces : ArePiecesOf v pieces
      pub visited : Visited pieces old new

    -- some value's encoding is a prefix of the input, and its pieces were visited
    pub record HasVisitedSome (input rest : List ℕ) (old new : V) : Type 0 where
      pub value : A
      pub by : HasVisited value input rest old new

-- the encodings of n values are a prefix of the input, and their pieces were visited
pub record HasVisitedItems {A V : Type 0} (S : A → List ℕ → Type 0) (references_of : A → List Id)
    (map_references : (Id → Id) → A → A) (Visited : List Piece → V → V → Type 0)
    (n : ℕ) (input rest : List ℕ) (old new : V) : Type 0 where
  pub values : List A
  pub count : length values ≡ n
  pub by : HasVisited (EncodesItems S) (flat_map references_of) (λ f. map (map_references f))
      Visited values input rest old new
