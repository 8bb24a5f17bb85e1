-- An extension of an extension.
use Rattle.std.proofs.Common.{List, [], ap, append-nil, append_assoc, arith, cond, inl, inr}
use Rattle.std.proofs.Common.{le_refl, length, ltb, subst, sym, ℕ, ◌++◌, ◌+◌, ◌<◌, ◌∙◌}
use Rattle.std.proofs.Common.{◌∷◌, ◌≡◌, ◌≤◌}
use Rattle.std.proofs.lemmas.Bool.{cases_lt, le-ltb, lt-ltb}
use Rattle.scale_info_numberings.proofs.Extensions.{extension_grows, extension_of_numbering}
use Rattle.scale_info_numberings.proofs.Extensions.{numbering_of_extension}
use Rattle.scale_info_numberings.proofs.Places.{begins_at, begins_from, begins_long}
use Rattle.scale_info_numberings.proofs.Walking.{EndsFrom, join_walks, move_walk}
use Rattle.scale_info_numberings.specs.Extensions.{IsExtension, IsExtensionWith}
use Rattle.scale_info_numberings.specs.Numberings.{IsNumbering, Walks}
use Rattle.scale_info_numberings.specs.RegistrationLists.{AreRegistrations, Registration, all_roots}
use Rattle.scale_info_numberings.specs.RegistrationLists.{last_registration}
use Rattle.scale_info_numberings.specs.Systems.{System}

-- the ends of the first below a place, and those of the second from there on
ends_by : ℕ → (ℕ → ℕ) → (ℕ → ℕ) → ℕ → ℕ
ends_by at f g i = cond (ltb i at) (f i) (g i)

ends_low : (at : ℕ) (f g : ℕ → ℕ) (i : ℕ) → i < at → f i ≡ ends_by at f g i
unfolding ends_by
ends_low at f g i h = ap (λ b. cond b (f i) (g i)) (sym (lt-ltb i at h))

ends_high : (at : ℕ) (f g : ℕ → ℕ) (i : ℕ) → at ≤ i → g i ≡ ends_by at f g i
unfolding ends_by
ends_high at f g i h = ap (λ b. cond b (f i) (g i)) (sym (le-ltb i at h))

module _ {Sh N : Type 0} (S : System Sh N) (K R L Q M : List N) (f g : ℕ → ℕ)
    (x : IsExtensionWith S K R L f) (y : IsExtensionWith S L Q M g) where
  joined_ends : ℕ → ℕ
  joined_ends = ends_by (length L) f g

  -- walks from a place on stay walks of the joined ends
  abbrev Moves : List N → (ℕ → ℕ) → ℕ → Type 0
  Moves X ends base =
      (rs : List N) (a c : ℕ) → base ≤ a → Walks X ends rs a c → Walks M joined_ends rs a c

  move_first : Moves L f (length K)
  unfolding joined_ends
  move_first =
      move_walk L f (length K) x.above M joined_ends (begins_at L M y.begins)
      (λ i b h. ends_low (length L) f g i h)

  move_second : Moves M g (length L)
  unfolding joined_ends
  move_second =
      move_walk M g (length L) y.above M joined_ends (λ i n e. e)
      (λ i b h. ends_high (length L) f g i b)

  join_begins : (new : List N) × (K ++ new ≡ M)
  join_begins =
      (x.begins.0 ++ y.begins.0, sym (append_assoc K x.begins.0 y.begins.0) ∙ (ap (λ zs. zs ++ y.begins.0) x.begins.1 ∙ y.begins.1))

  join_above : (i : ℕ) → length K ≤ i → i < length M → i < joined_ends i
  unfolding joined_ends
  join_above i b h =
      elim (cases_lt i (length L)) [
        | inl low ↦ subst (λ z. i < z) (ends_low (length L) f g i low) (x.above i b low)
        | inr high ↦ subst (λ z. i < z) (ends_high (length L) f g i high) (y.above i high h)
      ]

  join_within : (i : ℕ) → length K ≤ i → i < length M → joined_ends i ≤ length M
  unfolding joined_ends
  join_within i b h =
      elim (cases_lt i (length L)) [
        | inl low ↦
            let long = begins_long L M y.begins in
            let p = x.within i b low in
            subst (λ z. z ≤ length M) (ends_low (length L) f g i low)
            (let q : f i ≤ length M = omega arith in q)
        | inr high ↦ subst (λ z. z ≤ length M) (ends_high (length L) f g i high) (y.within i high h)
      ]

  join_nodes : EndsFrom S M joined_ends (length K)
  unfolding joined_ends
  join_nodes i n b e =
      elim (cases_lt i (length L)) [
        | inl low ↦
            let d = x.nodes i n b (begins_from L M y.begins i n low e) in
            (d.0, d.1, subst (λ z. Walks M joined_ends d.0.refs (i + 1) z) (ends_low (length L) f g i low) (move_first d.0.refs (i + 1) (f i) (omega arith) d.2))
        | inr high ↦
            let d = y.nodes i n high e in
            (d.0, d.1, subst (λ z. Walks M joined_ends d.0.refs (i + 1) z) (ends_high (length L) f g i high) (move_second d.0.refs (i + 1) (g i) (omega arith) d.2))
      ]

  -- with the joined ends
  pub extension_joined : IsExtension S K (R ++ Q) M
  extension_joined = (
    joined_ends,
    record {
      begins = join_begins;
      distinct = y.distinct;
      above = join_above;
      within = join_within;
      from_roots =
          join_walks M joined_ends R Q (length K) (length L) (length M)
          (move_first R (length K) (length L) (le_refl (length K)) x.from_roots)
          (move_second Q (length L) (length M) (le_refl (length L)) y.from_roots);
      nodes = join_nodes;
    },
  )

-- an extension of an extension is one by both lists of roots
pub extension_composes :
    {Sh N : Type 0} (S : System Sh N) (K R L Q M : List N)
    → IsExtension S K R L → IsExtension S L Q M → IsExtension S K (R ++ Q) M
extension_composes S K R L Q M x y = extension_joined S K R L Q M x.0 y.0 x.1 y.1

-- an extension of a numbering is a numbering from both lists of roots
pub numbering_extends :
    {Sh N : Type 0} (S : System Sh N) (R L Q M : List N)
    → IsNumbering S R L → IsExtension S L Q M → IsNumbering S (R ++ Q) M
numbering_extends S R L Q M x y =
    numbering_of_extension S (R ++ Q) M
    (extension_composes S [] R L Q M (extension_of_numbering S R L x) y)

registrations_from :
    {Sh N : Type 0} (R : List N) (x : Registration Sh N) (ys : List (Registration Sh N))
    → IsExtension x.catalogue [] R x.numbered
    → AreRegistrations x ys
    → IsExtension (last_registration x ys).catalogue [] (R ++ all_roots ys) (last_registration x ys).numbered
registrations_from R x [] e h =
    subst (λ rs. IsExtension x.catalogue [] rs x.numbered) (sym (append-nil R)) e
registrations_from R x (y ∷ ys) e h =
    let now =
    extension_composes y.catalogue [] R x.numbered y.roots y.numbered
    (extension_grows x.catalogue y.catalogue [] R x.numbered h.0 e) h.1 in
    subst
    (λ rs. IsExtension (last_registration y ys).catalogue [] rs (last_registration y ys).numbered)
    (append_assoc R y.roots (all_roots ys))
    (registrations_from (R ++ y.roots) y ys now h.2)

-- registrations from nothing number the last catalogue from all roots
pub any_registrations :
    {Sh N : Type 0} (x : Registration Sh N) (ys : List (Registration Sh N))
    → IsExtension x.catalogue [] x.roots x.numbered
    → AreRegistrations x ys
    → IsNumbering (last_registration x ys).catalogue (all_roots (x ∷ ys)) (last_registration x ys).numbered
any_registrations x ys e h =
    numbering_of_extension (last_registration x ys).catalogue (all_roots (x ∷ ys))
    (last_registration x ys).numbered (registrations_from x.roots x ys e h)
