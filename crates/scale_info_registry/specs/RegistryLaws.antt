-- Equality of registries is an equivalence.
use Rattle.std.specs.Cmp.{IsEquivalence, IsPartialEquivalence, and_equiv, and_per, on_equiv, on_per}
use Rattle.std.specs.Cmp.Lexicographic.{lists_equiv, lists_per}
use Rattle.scale_info_identities.specs.contracts.type_id.TypeIdEq.TheImpl.Laws as identities_alike
use Rattle.scale_info_identities.specs.contracts.type_id.TypeIdPartialEq.TheImpl.Laws as identities
use Rattle.scale_info_types.specs.Portable.{Description}
use Rattle.scale_info_types.specs.contracts.ty.PortableTypeEq.TheImpl.Laws as entries_alike
use Rattle.scale_info_types.specs.contracts.ty.PortableTypePartialEq.TheImpl.Laws as entries
use Rattle.scale_info_types.specs.declared.ty.PortableType.{PortableType}
use Rattle.std.specs.Ordering.{eq_of_both, on}
use Rattle.std.specs.Cmp.Lexicographic.{pointwise}
use Rattle.std.specs.Prelude.{Bool}
use Rattle.scale_info_identities.specs.contracts.type_id.TypeIdPartialEq.TheImpl.{ghosts as equals}
use Rattle.scale_info_types.specs.contracts.ty.PortableTypePartialEq.TheImpl.{ghosts as same}
use Rattle.scale_info_registry.specs.Registrations.{Registered}

-- descriptions are compared as entries with one id are
abbrev pub described_eq : Description → Description → Bool
described_eq a b = same.eq (record { id = 0; ty = a }) (record { id = 0; ty = b })

-- the comparison of registries: identities and descriptions, in order
abbrev pub registered_eq : Registered → Registered → Bool
registered_eq =
    eq_of_both (on (λ (r : Registered). r.identities) (pointwise equals.eq))
    (on (λ (r : Registered). r.types) (pointwise described_eq))

abbrev entry : Description → PortableType
entry ty = record { id = 0; ty = ty }

-- it holds both ways round, and along a chain
pub registered_per : IsPartialEquivalence registered_eq
registered_per =
    and_per (on_per (λ (r : Registered). r.identities) (lists_per identities.laws-law))
    (on_per (λ (r : Registered). r.types) (lists_per (on_per entry entries.laws-law)))

-- it holds of a registry and itself
pub registered_equiv : IsEquivalence registered_eq
registered_equiv =
    and_equiv (on_equiv (λ (r : Registered). r.identities) (lists_equiv identities_alike.laws-law))
    (on_equiv (λ (r : Registered). r.types) (lists_equiv (on_equiv entry entries_alike.laws-law)))
