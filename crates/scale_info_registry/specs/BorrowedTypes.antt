-- Descriptions that stay in a catalogue, with the ids that identities give their types.
use Rattle.std.specs.Borrow.{Bor}
use Rattle.std.specs.Prelude.{ℕ, List, map}
use Rattle.scale_info_identities.specs.contracts.type_id.TypeIdPartialEq.TheImpl.{ghosts as equals}
use Rattle.scale_info_identities.specs.declared.type_id.TypeId.{TypeId}
use Rattle.scale_info_references.specs.Conversions.{with_ids}
use Rattle.scale_info_registry.specs.Registrations.{index_in}
use Rattle.scale_info_types.specs.MetaDescriptions.{MetaDescription}
use Rattle.scale_info_types.specs.Portable as portable
use Rattle.scale_info_types.specs.declared.meta_type.MetaType.{MetaType}

-- the id that identities give a type: the index of its own
abbrev pub id_in : List TypeId → MetaType → ℕ
id_in ids ty = index_in equals.eq ids ty.identity

-- the description with these ids in place of its types
abbrev pub with_ids_in : List TypeId → MetaDescription → portable.Description
with_ids_in ids d = with_ids (id_in ids) (λ text. text.now) d

-- the descriptions with these ids, in order
abbrev pub all_with_ids_in : List TypeId → List (Bor MetaDescription) → List portable.Description
all_with_ids_in ids descriptions = map (λ d. with_ids_in ids d.now) descriptions
