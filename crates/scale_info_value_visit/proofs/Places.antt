-- Parts with the definitions at their places.
use Rattle.std.proofs.Common.{◌≡◌, suc, List, [], ◌∷◌, length, map, Option, None, refl, ap}
use Rattle.scale_info_value_visit.specs.Events.{in_place}

-- parts that are made of others
pub in_place_map :
    {Q P T A : Type 0} (f : P → Option T → A) (g : Q → P) (parts : List Q) (types : List (Option T))
    → in_place f (map g parts) types ≡ in_place (λ q t. f (g q) t) parts types
in_place_map f g [] types = refl
in_place_map f g (p ∷ parts) [] = ap (λ es. f (g p) None ∷ es) (in_place_map f g parts [])
in_place_map f g (p ∷ parts) (t ∷ types) = ap (λ es. f (g p) t ∷ es) (in_place_map f g parts types)

-- there are as many as parts
pub length_in_place :
    {P T A : Type 0} (f : P → Option T → A) (parts : List P) (types : List (Option T))
    → length (in_place f parts types) ≡ length parts
length_in_place f [] types = refl
length_in_place f (p ∷ parts) [] = ap suc (length_in_place f parts [])
length_in_place f (p ∷ parts) (t ∷ types) = ap suc (length_in_place f parts types)
