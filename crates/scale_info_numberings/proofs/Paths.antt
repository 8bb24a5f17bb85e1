-- What is reached, by steps and by paths.
use Rattle.std.proofs.Common.{Contains, List, Some, [], ap, arith, inl, inr, length, refl}
use Rattle.std.proofs.Common.{slice_get, slice_index_or, subst, suc, sym, zero, ℕ, ◌++◌, ◌+◌, ◌<◌}
use Rattle.std.proofs.Common.{◌↔◌, ◌∙◌, ◌∷◌, ◌≡◌}
use Rattle.std.proofs.lemmas.Bool.{cases_lt}
use Rattle.std.proofs.lemmas.List.{length_push}
use Rattle.std.proofs.lemmas.List.Elements.{All-contains, All-nil, All-push}
use Rattle.std.proofs.lemmas.Option.{none-some, same_Some, slice_get_within}
use Rattle.scale_info_numberings.proofs.Places.{at_left, at_seam, contains_at, element_at}
use Rattle.scale_info_numberings.proofs.Places.{from_left, place_of}
use Rattle.scale_info_numberings.specs.Paths.{IsPath, IsPathPast}
use Rattle.scale_info_numberings.specs.Systems.{Entry, IsReached, IsReachedPast, System, next, root}

module _ {Sh N : Type 0} (S : System Sh N) (known roots : List N) where
  path_more :
      (names : List N) (m n : N) (d : Entry Sh N)
      → IsPathPast S known roots names m
      → S m ≡ Some d
      → Contains d.refs n
      → ¬ (Contains known n)
      → IsPathPast S known roots (names ++ n ∷ []) n
  path_more names m n d p s c u =
      record {
        path = record {
          begins =
              (p.path.begins.0, p.path.begins.1, at_left names (n ∷ []) 0 p.path.begins.0 p.path.begins.2);
          ends = (names, refl);
          steps = λ i a b e f.
              let push : length (names ++ n ∷ []) ≡ length names + 1 = length_push names n in
              let inside : i + 1 < length (names ++ n ∷ []) =
              slice_get_within (names ++ n ∷ []) (i + 1) b f in
              let here : slice_get names i ≡ Some a =
              from_left names (n ∷ []) i a (omega arith) e in
              elim (cases_lt (i + 1) (length names)) [
                | inl low ↦ p.path.steps i a b here (from_left names (n ∷ []) (i + 1) b low f)
                | inr high ↦
                    let front = p.path.ends.0 in
                    let long : length names ≡ length front + 1 =
                    ap (λ zs. length zs) p.path.ends.1 ∙ length_push front m in
                    let last : i ≡ length front = omega arith in
                    let over : length names ≡ i + 1 = omega arith in
                    let from : slice_get (front ++ m ∷ []) (length front) ≡ Some a =
                    subst (λ z. slice_get (front ++ m ∷ []) z ≡ Some a) last
                    (subst (λ zs. slice_get zs i ≡ Some a) p.path.ends.1 here) in
                    let to : n ≡ b =
                    same_Some n b
                    (sym (at_seam names [] n) ∙ (ap (λ z. slice_get (names ++ n ∷ []) z) over ∙ f)) in
                    let same : m ≡ a = same_Some m a (sym (at_seam front [] m) ∙ from) in
                    (d, subst (λ z. S z ≡ Some d) same s, subst (λ z. Contains d.refs z) to c)
              ];
        };
        unknown = All-push (λ name. ¬ (Contains known name)) names n p.unknown u;
      }

  -- a path to what is reached
  pub path_of :
      (n : N)
      → IsReachedPast S known roots n → (names : List N) × IsPathPast S known roots names n
  path_of n (root m c u) = (
    n ∷ [],
    record {
      path = record {
        begins = (n, c, refl);
        ends = ([], refl);
        steps =
            λ i a b e f.
            absurd
            (let h : i + 1 < length (n ∷ []) = slice_get_within (n ∷ []) (i + 1) b f in omega arith);
      };
      unknown =
          All-push (λ name. ¬ (Contains known name)) [] n
          (All-nil (λ name. ¬ (Contains known name))) u;
    },
  )
  path_of n (next m k d h s c u) =
      let p = path_of m h in (p.0 ++ n ∷ [], path_more p.0 m n d p.1 s c u)

  module _ (names : List N) (n : N) (p : IsPathPast S known roots names n) where
    avoided : (i : ℕ) (m : N) → slice_get names i ≡ Some m → ¬ (Contains known m)
    avoided i m e =
        All-contains (λ name. ¬ (Contains known name)) names m p.unknown (contains_at names m i e)

    reached_at : (i : ℕ) (m : N) → slice_get names i ≡ Some m → IsReachedPast S known roots m
    reached_at zero m e =
        let r = p.path.begins in
        root m (subst (λ z. Contains roots z) (same_Some r.0 m (sym r.2 ∙ e)) r.1)
        (avoided zero m e)
    reached_at (suc i) m e =
        let inside : suc i < length names = slice_get_within names (suc i) m e in
        let a = element_at names i (omega arith) in
        let after : suc i ≡ i + 1 = omega arith in
        let s = p.path.steps i a.0 m a.1 (subst (λ z. slice_get names z ≡ Some m) after e) in
        next a.0 m s.0 (reached_at i a.0 a.1) s.1 s.2 (avoided (suc i) m e)

    -- the end of a path is reached
    pub reached_by : IsReachedPast S known roots n
    reached_by =
        let front = p.path.ends.0 in
        reached_at (length front) n
        (subst (λ zs. slice_get zs (length front) ≡ Some n) (sym p.path.ends.1) (at_seam front [] n))

-- what is reached past known names is what a path past them leads to
pub reached_by_path_past :
    {Sh N : Type 0} (S : System Sh N) (known roots : List N) (n : N)
    → IsReachedPast S known roots n ↔ ((names : List N) × IsPathPast S known roots names n)
reached_by_path_past S known roots n =
    (path_of S known roots n, λ p. reached_by S known roots p.0 n p.1)

-- what is reached is what a path leads to
pub reached_by_path :
    {Sh N : Type 0} (S : System Sh N) (roots : List N) (n : N)
    → IsReached S roots n ↔ ((names : List N) × IsPath S roots names n)
reached_by_path {Sh} {N} S roots n = (
  λ h. let p = path_of S [] roots n h in (p.0, p.1.path),
  λ p.
      reached_by S [] roots p.0 n
      (record { path = p.1; unknown = λ k d h c. let at = place_of [] (slice_index_or p.0 k d) c in none-some (slice_index_or p.0 k d) at.1 }),
)
