-- The first lines in which the declarations of two tables' types differ.
use Rattle.std.specs.Prelude.{◌≡◌, ◌≢◌, ◌<◌, ◌⊎◌, ◌++◌, ℕ, List, [], ◌∷◌, Option, None, Some}
use Rattle.std.specs.Prelude.{MatchOption, ◌==◌, codes, if◌then◌else◌, option_map, slice_get}
use Rattle.std.specs.Prelude.{unwrap_or}
use Rattle.std.specs.List.{repeat}
use Rattle.std.specs.Str.Lines.{lines}
use Rattle.scale_info_table_describe.specs.TypeDeclarations.{description_at}
use Rattle.scale_info_table_describe.specs.TypeNames.{type_at}
use Rattle.scale_info_segments.specs.TypePaths.{joined}
use Rattle.scale_info_table.specs.declared.portable.PortableRegistry.{PortableRegistry}
use Rattle.scale_info_table_prune.specs.Prunes.{IsOrderFrom, IsTypesPruneError}
use Rattle.scale_info_table_prune.specs.declared.prune.PruneError.{PruneError}
use Rattle.scale_info_types.specs.Portable.{Text, Description}
use Rattle.scale_info_types.specs.declared.ty.PortableType.{PortableType}

-- the line at a place; past the last one it is empty
abbrev pub line_at : List Text → ℕ → Text
line_at texts place = unwrap_or (slice_get texts place) []

-- at no place have both texts lines that differ
abbrev pub AreLinesAlike : List Text → List Text → Type 0
AreLinesAlike texts others = (i : ℕ) → line_at texts i ≡ line_at others i

-- this stands in a line after its indentation, which is four blanks for each level
pub record IsIndented (line text : Text) : Type 0 where
  pub levels : ℕ
  pub spelled : line ≡ repeat levels (codes "    ") ++ text
  pub whole : (rest : Text) → text ≢ codes "    " ++ rest

-- the change of a line: the line, an arrow and the other line, both without their indentation
pub record IsChangeOf (line other change : Text) : Type 0 where
  pub text : Text
  pub other_text : Text
  pub indented : IsIndented line text
  pub other_indented : IsIndented other other_text
  pub is : change ≡ text ++ (codes " -> " ++ other_text)

-- this is the change of the first line that differs
pub record IsLineChange (texts others : List Text) (change : Text) : Type 0 where
  pub place : ℕ
  pub below : (i : ℕ) → i < place → line_at texts i ≡ line_at others i
  pub differ : line_at texts place ≢ line_at others place
  pub is : IsChangeOf (line_at texts place) (line_at others place) change

-- the lines of the declaration of the type with an id; none, where the id is no index
abbrev pub lines_at : PortableRegistry → ℕ → List Text
lines_at table id = lines (unwrap_or (description_at table id) [])

-- the lines of the declaration of the type whose id stands at a place of an order; none, past its end
abbrev pub lines_in : PortableRegistry → (order : List ℕ) → (place : ℕ) → List Text
lines_in table order place = unwrap_or (option_map (lines_at table) (slice_get order place)) []

-- a path, a colon and a blank; nothing, where there is no segment
abbrev pub path_before : List Text → Text
path_before [] = []
path_before (segment ∷ segments) = joined (segment ∷ segments) ++ codes ": "

-- the same of a type; nothing, where there is none
abbrev pub type_before : Option Description → Text
type_before None = []
type_before (Some ty) = path_before ty.path.segments

-- the same of the type whose id stands at a place of an order; nothing of the first one, which is
-- that of the least given id
abbrev pub place_before : PortableRegistry → (order : List ℕ) → (place : ℕ) → Text
place_before table order place =
    if place == 0 then []
    else unwrap_or (option_map (λ id. type_before (type_at table id)) (slice_get order place)) []

-- Two tables, each with an order of ids of its types.
module _ (table : PortableRegistry) (order : List ℕ) (other : PortableRegistry) (other_order : List ℕ) where
  -- at this place of both orders are types that are declared by the same lines
  abbrev pub AreAlikeAt : ℕ → Type 0
  AreAlikeAt place = AreLinesAlike (lines_in table order place) (lines_in other other_order place)

  -- at no place are types that are declared by lines that differ
  abbrev pub AreDeclaredAlike : Type 0
  AreDeclaredAlike = (place : ℕ) → AreAlikeAt place

  -- the text is the change of the first line in which the first type that is declared by other lines
  -- in the other table differs, after the path of that type, unless it has the least given id
  pub record IsDeclaredChange (text : Text) : Type 0 where
    pub place : ℕ
    pub below : (p : ℕ) → p < place → AreAlikeAt p
    pub change : Text
    pub first : IsLineChange (lines_in table order place) (lines_in other other_order place) change
    pub is : text ≡ place_before table order place ++ change

-- what two tables declare otherwise first, each from its ids on, in depth-first order of discovery;
-- or that it is nothing
pub record TellsDeclaredChange (types : List PortableType) (ids : List ℕ) (others : List PortableType)
    (other_ids : List ℕ) (found : Option Text) : Type 0 where
  pub order : List ℕ
  pub other_order : List ℕ
  pub reached : IsOrderFrom types ids order
  pub other_reached : IsOrderFrom others other_ids other_order
  pub tells :
      MatchOption found
      (AreDeclaredAlike (record { types = types }) order (record { types = others }) other_order)
      (IsDeclaredChange (record { types = types }) order (record { types = others }) other_order)

-- why nothing is told of two tables: the old one can't be gone over from its ids; or it can, and the
-- new one can't
abbrev pub IsDeclaredChangeError : (types : List PortableType) → (ids : List ℕ)
    → (others : List PortableType) → (other_ids : List ℕ) → PruneError → Type 0
IsDeclaredChangeError types ids others other_ids error =
    IsTypesPruneError types ids error
    ⊎ (((order : List ℕ) × IsOrderFrom types ids order) × IsTypesPruneError others other_ids error)
