-- Registrations, one after another, under a catalogue that only grows.
use Rattle.std.specs.Prelude.{List, [], ◌∷◌, ⊤, flat_map}
use Rattle.scale_info_numberings.specs.Systems.{System, Grows}
use Rattle.scale_info_numberings.specs.Extensions.{IsExtension}

-- one registration: the catalogue at that time, what is registered, and the numbered nodes
-- afterwards
pub record Registration (Sh N : Type 0) : Type 0 where
  pub catalogue : System Sh N
  pub roots : List N
  pub numbered : List N

-- after the first registration each one's catalogue holds the one before unchanged, and its
-- numbered nodes extend those before by its roots
abbrev pub AreRegistrations :
    {Sh N : Type 0}
    → Registration Sh N → List (Registration Sh N) → Type 0
AreRegistrations x [] = ⊤
AreRegistrations x (y ∷ ys) =
    Grows x.catalogue y.catalogue
    × IsExtension y.catalogue x.numbered y.roots y.numbered
    × AreRegistrations y ys

-- the last registration, where x is the first
abbrev pub last_registration :
    {Sh N : Type 0}
    → Registration Sh N → List (Registration Sh N) → Registration Sh N
last_registration x [] = x
last_registration x (y ∷ ys) = last_registration y ys

-- the roots of all registrations, joined in order
abbrev pub all_roots : {Sh N : Type 0} → List (Registration Sh N) → List N
all_roots xs = flat_map (λ x. x.roots) xs
