-- What the program's types are described as.
use Rattle.std.specs.Prelude.{ℕ, List, [], ◌∷◌, Option, Some, codes}
use Rattle.scale_info.specs.TypeIds.{Term}
use Rattle.scale_info.specs.MetaDescriptions.{MetaContent}
use Rattle.scale_info.specs.StandardTerms.{named, primitive_term, slice_term}
use Rattle.scale_info.specs.Types.{TypeDef}
use Rattle.scale_info.specs.TypeDefs as def
use Rattle.scale_info.specs.Types.{Field}
use Rattle.scale_info.specs.Types.{Variant}

-- the term of the program's type `Point`
abbrev pub point_term : Term
point_term = named (codes "tutorial::Point")

-- the term of `Shape`
abbrev pub shape_term : Term
shape_term = named (codes "tutorial::Shape")

-- the term of `Tree`
abbrev pub tree_term : Term
tree_term = named (codes "tutorial::Tree")

-- a field with a name and a type, and the name of the type as the source writes it
abbrev pub source_field : List ℕ → Term → List ℕ → Field (Unit {0}) Term (List ℕ)
source_field name ty type_name =
    record { name = Some name; ty = ty; type_name = Some type_name; docs = [] }

-- a variant with an index and fields
abbrev pub source_variant :
    List ℕ → ℕ → List (Field (Unit {0}) Term (List ℕ)) → Variant (Unit {0}) Term (List ℕ)
source_variant name index fields = record { name = name; fields = fields; index = index; docs = [] }

-- a type of the module `tutorial` with this name and definition
abbrev pub tutorial_description : List ℕ → TypeDef (Unit {0}) Term (List ℕ) → Option MetaContent
tutorial_description name definition =
    Some (record {
      path = record { segments = codes "tutorial" ∷ name ∷ []; form = tt };
      type_params = [];
      type_def = definition;
      docs = [];
    })

-- a struct of the module `tutorial` with this name and fields
abbrev pub struct_description :
    List ℕ → List (Field (Unit {0}) Term (List ℕ)) → Option MetaContent
struct_description name fields =
    tutorial_description name (def.Composite (record { fields = fields }))

-- `struct Point { x: u32, y: u32 }`
abbrev pub point_description : Option MetaContent
point_description =
    struct_description (codes "Point")
    (source_field (codes "x") (primitive_term (codes "u32")) (codes "u32")
    ∷ source_field (codes "y") (primitive_term (codes "u32")) (codes "u32")
    ∷ [])

-- `enum Shape { Empty, Circle { center: Point, radius: u32 } }`
abbrev pub shape_description : Option MetaContent
shape_description =
    tutorial_description (codes "Shape")
    (def.Variant (record {
      variants =
          source_variant (codes "Empty") 0 []
          ∷ source_variant (codes "Circle") 1
          (source_field (codes "center") point_term (codes "Point")
          ∷ source_field (codes "radius") (primitive_term (codes "u32")) (codes "u32")
          ∷ [])
          ∷ [];
    }))

-- `struct Tree { shape: Shape, branches: Vec<Tree> }`
abbrev pub tree_description : Option MetaContent
tree_description =
    struct_description (codes "Tree")
    (source_field (codes "shape") shape_term (codes "Shape")
    ∷ source_field (codes "branches") (slice_term tree_term) (codes "Vec<Tree>")
    ∷ [])
