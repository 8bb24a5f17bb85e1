-- Encodings of tables.
use Rattle.std.specs.Prelude.{ℕ, List}
use Rattle.scale_info_bytes.specs.Parts.{EncodesList}
use Rattle.scale_info_grammar.specs.Ty.{EncodesTypes}
use Rattle.scale_info_grammar.specs.WithoutMaps.{EncodesPortableTypeWithoutMaps}
use Rattle.scale_info_table.specs.declared.portable.PortableRegistry.{PortableRegistry}

-- a table is the list of its entries
abbrev pub EncodesRegistry : PortableRegistry → List ℕ → Type 0
EncodesRegistry table bytes = EncodesTypes table.types bytes

-- the same by the grammar without maps
abbrev pub EncodesRegistryWithoutMaps : PortableRegistry → List ℕ → Type 0
EncodesRegistryWithoutMaps table bytes =
    EncodesList EncodesPortableTypeWithoutMaps table.types bytes
