-- What some types of a table reach, as a graph in the DOT language.
use Rattle.std.specs.Prelude.{◌≡◌, ◌<◌, ◌≤◌, ◌++◌, ◌==◌, ◌||◌, ℕ, List, [], ◌∷◌, ⊤, length, codes}
use Rattle.std.specs.Prelude.{decimal, if◌then◌else◌}
use Rattle.std.specs.List.{flat_map}
use Rattle.scale_info_table_describe.specs.TypeNames.{name_at}
use Rattle.scale_info_table_dot.specs.declared.error.GraphError.{GraphError}
use Rattle.scale_info_table_dot.specs.declared.error.GraphError.TheVariants.{Dangling, TooManyTypes}
use Rattle.scale_info_table_dot.specs.declared.error.GraphError.TheVariants.{Memory}
use Rattle.scale_info_numberings.specs.Numberings.{IsNumbering}
use Rattle.scale_info_numberings.specs.Systems.{IsFirstOutside, refs_in}
use Rattle.scale_info_table.specs.declared.portable.PortableRegistry.{PortableRegistry}
use Rattle.scale_info_walk.specs.TypeSystems.{types_system}

-- a byte in a label: before a quote and before a backslash stands a backslash
abbrev pub label_byte : ℕ → List ℕ
label_byte b = if (b == 34) || (b == 92) then 92 ∷ b ∷ [] else b ∷ []

-- a text in a label
abbrev pub label_text : List ℕ → List ℕ
label_text text = flat_map label_byte text

-- the line of the node with this name, whose label is the node's name and the type's
abbrev pub node_line : List ℕ → List ℕ → List ℕ
node_line node name =
    codes "    " ++ node ++ codes " [label=\"" ++ node ++ codes " " ++ label_text name
    ++ codes "\"];\n"

-- the line of an edge from the node with this name to the node of an id
abbrev pub edge_line : List ℕ → ℕ → List ℕ
edge_line node id = codes "    " ++ node ++ codes " -> " ++ decimal id ++ codes ";\n"

-- the lines of a type: its node, which has the id as its name, and an edge for each of its
-- references, in order
abbrev pub type_lines : PortableRegistry → ℕ → List ℕ
type_lines table id =
    node_line (decimal id) (name_at table id)
    ++ flat_map (edge_line (decimal id)) (refs_in (types_system table.types id))

-- the lines of the types with these ids, in order
abbrev pub types_lines : PortableRegistry → List ℕ → List ℕ
types_lines table ids = flat_map (type_lines table) ids

-- the graph of the types with these ids, in order
abbrev pub graph_text : PortableRegistry → List ℕ → List ℕ
graph_text table ids = codes "digraph types {\n" ++ types_lines table ids ++ codes "}\n"

-- new is old followed by the graph of what the chosen ids reach, in the order of their numbering,
-- which is depth first
pub record AppendsGraph (table : PortableRegistry) (chosen old new : List ℕ) : Type 0 where
  pub order : List ℕ
  pub numbering : IsNumbering (types_system table.types) chosen order
  pub appended : new ≡ old ++ graph_text table order

-- new is old, and perhaps more
pub record GoesOn (old new : List ℕ) : Type 0 where
  pub more : List ℕ
  pub parts : new ≡ old ++ more

-- why there is no graph of what the chosen ids reach: an id is met that is no index, and it is the
-- first such; there are more than 4294967295 entries; or an allocation failed
abbrev pub IsGraphError : PortableRegistry → List ℕ → GraphError → Type 0
IsGraphError table chosen (Dangling id) =
    IsFirstOutside (types_system table.types) [] chosen id × (length table.types ≤ id)
IsGraphError table chosen TooManyTypes = 4294967295 < length table.types
IsGraphError table chosen Memory = ⊤
