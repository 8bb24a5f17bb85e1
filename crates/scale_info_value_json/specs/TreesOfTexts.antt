-- The texts of values as trees.
use Rattle.std.specs.Prelude.{◌≡◌, ℕ, ◌&&◌, ◌||◌, Bool, true, not, List, [], ◌∷◌, Option, Some}
use Rattle.json.specs.Json.{Json}
use Rattle.json.specs.Lex.{tokens}
use Rattle.json.specs.Tree.{json_tokens}
use Rattle.serde_json.specs.Data.{Data}
use Rattle.serde_json.specs.Read.{of_json}
use Rattle.scale_info_types.specs.Portable.{Text}
use Rattle.scale_info_table.specs.declared.portable.PortableRegistry.{PortableRegistry}
use Rattle.scale_info_value.specs.declared.value.Value.{Value}
use Rattle.scale_info_value.specs.declared.value.Value.TheOpen.{Value-F}
use Rattle.scale_info_value.specs.declared.value.Value.TheOpen as layer
use Rattle.scale_info_value.specs.declared.value.Value.TheFolds.{fold-Value}
use Rattle.scale_info_value_visit.specs.Events.{all_named, keys}
use Rattle.scale_info_value_text.specs.ValueTexts.{value_text}
use Rattle.scale_info_value_json.specs.Takers.{taken}
use Rattle.scale_info_value_json.specs.Takings.{taking}
use Rattle.scale_info_value_json.specs.TreeParts.{are_distinct}

-- The text is that of JSON, which `serde_json` reads as the tree. Its reader from text takes arrays
-- and objects that nest up to 127 deep; this is said of every text.
pub record IsTreeOf (text : Text) (tree : Data) : Type 0 where
  pub json : Json
  pub written : tokens text ≡ json_tokens json
  pub read : of_json json ≡ Some tree

-- whether no name comes twice, where all names are there
abbrev pub own_names : List (Option Text) → Bool
own_names names = not (all_named names) || are_distinct names

-- whether all hold
abbrev pub all_hold : List Bool → Bool
all_hold [] = true
all_hold (b ∷ bs) = b && all_hold bs

-- whether all fields hold
abbrev pub fields_hold : List (Option Text × Bool) → Bool
fields_hold [] = true
fields_hold (f ∷ fs) = f.1 && fields_hold fs

-- whether names of fields come once in a value, where they do in its parts
abbrev pub own_names_step : Value-F Bool → Bool
own_names_step (layer.List items) = all_hold items
own_names_step (layer.Record fields) = own_names (keys fields) && fields_hold fields
own_names_step (layer.Variant name index fields) =
    own_names (keys fields) && fields_hold fields
own_names_step _ = true

-- Whether each name comes once among the fields of each record and of each variant in a value. The
-- Rust compiler writes no other type, but a table may come from elsewhere.
abbrev pub has_own_names : Value → Bool
has_own_names value = fold-Value Bool own_names_step value

-- The text of the value of the type with that id is that of a tree, from which the value is taken.
pub record IsTakenFrom (table : PortableRegistry) (id depth : ℕ) (value : Value) : Type 0 where
  pub tree : Data
  pub of_text : IsTreeOf (value_text table id value) tree
  pub is : taking table id depth tree ≡ taken value
