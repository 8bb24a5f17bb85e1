-- A catalogue as a reference system, whose nodes are terms.
use Rattle.std.specs.Prelude.{option_map, map}
use Rattle.scale_info_identities.specs.TypeIds.{Term}
use Rattle.scale_info_numberings.specs.Systems.{Entry, System}
use Rattle.scale_info_types.specs.References.{references}
use Rattle.scale_info_types.specs.Shapes.{Shape, shape}
use Rattle.scale_info_catalogue.specs.Catalogues.{described}
use Rattle.scale_info_types.specs.MetaDescriptions.{MetaDescription, type_term}
use Rattle.scale_info_catalogue.specs.declared.catalogue.Catalogue.{Catalogue}

-- the shape of a description, and the terms of the types that it refers to, in order
abbrev pub catalogue_entry : MetaDescription → Entry Shape Term
catalogue_entry d =
    record { shape = shape (λ text. text.now) d; refs = map type_term (references d) }

-- the entry of each term that has a description
abbrev pub catalogue_system : Catalogue → System Shape Term
catalogue_system c t = option_map catalogue_entry (described c t)
