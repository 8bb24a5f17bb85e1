-- Tables of which every reference leads to an entry.
use Rattle.std.specs.Prelude.{◌≡◌, ℕ, ◌<◌, List, length, All}
use Rattle.std.specs.List.{enumerate_from}
use Rattle.scale_info_identities.specs.declared.type_id.TypeId.{TypeId}
use Rattle.scale_info_identities.specs.declared.symbol.UntrackedSymbol.{UntrackedSymbol}
use Rattle.scale_info_types.specs.References.{references}
use Rattle.scale_info_types.specs.declared.ty.PortableType.{PortableType}
use Rattle.scale_info_table.specs.declared.portable.PortableRegistry.{PortableRegistry}

-- each id is the index of an entry, where there are count entries
abbrev pub AreBelow : ℕ → List (UntrackedSymbol TypeId) → Type 0
AreBelow count ids = All (λ symbol. symbol.id < count) ids

-- the `id` of each entry is its index
abbrev pub HasIndicesAsIds : List PortableType → Type 0
HasIndicesAsIds entries = All (λ indexed. indexed.1.id ≡ indexed.0) (enumerate_from 0 entries)

-- each reference of each entry is the index of an entry, where there are count entries
abbrev pub HasReferencesBelow : ℕ → List PortableType → Type 0
HasReferencesBelow count entries = All (λ entry. AreBelow count (references entry.ty)) entries

-- the `id` of each entry is its index, and each reference is the index of an entry
abbrev pub IsClosed : PortableRegistry → Type 0
IsClosed table = HasIndicesAsIds table.types × HasReferencesBelow (length table.types) table.types
