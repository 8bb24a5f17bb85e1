-- Paths of which some are known to have changed.
use Rattle.std.proofs.Common.{◌≡◌, ◌≢◌, ◌∙◌, ◌++◌, ◌∷◌, ℕ, zero, suc, Bool, true, false, List, [], All, Some, get_or, length, slice_get}
use Rattle.std.proofs.Common.{◌+◌, ◌<◌, ap, append_assoc, arith, drop, refl, subst, sym}
use Rattle.std.proofs.lemmas.Bool.{false≢true}
use Rattle.std.proofs.lemmas.List.{drop_more}
use Rattle.std.proofs.lemmas.List.Elements.{All-head, All-tail}
use Rattle.std.specs.List.{AllZip, flat_map}
use Rattle.scale_info_types.specs.Portable.{Text}
use Rattle.scale_info_types.specs.declared.ty.PortableType.{PortableType}
use Rattle.scale_info_table_diff.proofs.Listed.{one_removed}
use Rattle.scale_info_table_diff.specs.Comparisons.{AddsOldChanges, TellsSame, removed_by}
use Rattle.scale_info_table_diff.specs.Differing.{AreMarks, marked_by, marked_changes, unmarked}
use Rattle.scale_info_table_diff.specs.TableChanges.{AreSame, IsOldChange, changed}
use Rattle.scale_info_table_diff.specs.TypesByPath.{ids_of}
use Rattle.scale_info_table_diff.specs.declared.change.Change.{Change}
use Rattle.scale_info_table_diff.specs.declared.change.Change.TheVariants.{Changed}

module _ (types others : List PortableType) where
  all_marked :
      (paths : List Text) (marks : List Bool)
      → All (λ path. ids_of path others ≢ [] → AreSame types others path) (unmarked paths marks)
      → AreMarks types others paths marks
      → (parts : List (List Change)) × AllZip (IsOldChange types others) paths parts
      × (marked_changes others paths marks ≡ flat_map (λ part. part) parts)
  all_marked [] [] same are = ([], tt, refl)
  all_marked [] (mark ∷ marks) same are = absurd are
  all_marked (path ∷ paths) [] same are = absurd are
  all_marked (path ∷ paths) (true ∷ marks) same are =
      let known = are.0 refl in
      let rest = all_marked paths marks same are.1 in (
        (Changed path ∷ []) ∷ rest.0,
        (changed path known.some known.differs, rest.1),
        ap (λ cs. Changed path ∷ cs) rest.2,
      )
  all_marked (path ∷ paths) (false ∷ marks) same are =
      let P : Text → Type 0 = λ p. ids_of p others ≢ [] → AreSame types others p in
      let here = one_removed types others path (ids_of path others) refl (All-head P path (unmarked paths marks) same) in
      let rest = all_marked paths marks (All-tail P path (unmarked paths marks) same) are.1 in
      let mine = removed_by (ids_of path others) path in
      (mine ∷ rest.0, (here, rest.1), ap (λ cs. mine ++ cs) rest.2)

  -- where no path without a mark has changed, what became of the paths is which have a mark, and
  -- which others are removed
  pub adds_marked :
      (paths : List Text) (marks : List Bool) (old new : List Change)
      → TellsSame types others (unmarked paths marks) true → AreMarks types others paths marks
      → new ≡ old ++ marked_changes others paths marks
      → AddsOldChanges types others paths old new
  adds_marked paths marks old new tells are is =
      let all = all_marked paths marks (tells.all refl) are in
      record { parts = all.0; each = all.1; added = is ∙ ap (λ cs. old ++ cs) all.2 }

  -- one path has changed, where it has a mark, or the comparison of those without says so
  pub one_has_changed :
      (path : Text) (mark : Bool)
      → TellsSame types others (unmarked (path ∷ []) (mark ∷ [])) false
      → AreMarks types others (path ∷ []) (mark ∷ [])
      → ids_of path others ≢ [] → ¬ (AreSame types others path)
  one_has_changed path true tells are some = (are.0 refl).differs
  one_has_changed path false tells are some = tells.one refl path refl some

  -- what became of one path, where it has changed
  pub one_path :
      (paths : List Text) (marks : List Bool) (path d : Text) (old new : List Change)
      → length paths ≡ 1 → length marks ≡ length paths → path ≡ get_or paths 0 d
      → TellsSame types others (unmarked paths marks) false → AreMarks types others paths marks
      → ((ids_of path others ≢ [] → ¬ (AreSame types others path)) → AddsOldChanges types others (path ∷ []) old new)
      → AddsOldChanges types others paths old new
  one_path [] marks path d old new one long is tells are adds = absurd (omega (arith, one))
  one_path (p ∷ []) [] path d old new one long is tells are adds = absurd (omega (arith, long))
  one_path (p ∷ []) (mark ∷ []) path d old new one long is tells are adds =
      subst (λ q. AddsOldChanges types others (q ∷ []) old new) is
      (adds (subst (λ q. ids_of q others ≢ [] → ¬ (AreSame types others q)) (sym is) (one_has_changed p mark tells are)))
  one_path (p ∷ []) (mark ∷ other ∷ marks) path d old new one long is tells are adds = absurd (omega (arith, long))
  one_path (p ∷ q ∷ paths) marks path d old new one long is tells are adds = absurd (omega (arith, one))

  -- paths and marks that are passed on
  pub given_marks :
      (paths given : List Text) (marks given_marks : List Bool)
      → given ≡ paths → given_marks ≡ marks
      → AreMarks types others paths marks → AreMarks types others given given_marks
  given_marks paths given marks ms is are z =
      subst (λ ps. AreMarks types others ps ms) (sym is)
      (subst (λ bs. AreMarks types others paths bs) (sym are) z)

  -- where there are no marks, nothing is known
  pub no_marks : (paths : List Text) (marks : List Bool) → length marks ≡ length paths
      → ((i : ℕ) (mark : Bool) → slice_get marks i ≡ Some mark → mark ≡ false)
      → AreMarks types others paths marks
  no_marks [] [] long none = tt
  no_marks [] (mark ∷ marks) long none = absurd (omega (arith, long))
  no_marks (path ∷ paths) [] long none = absurd (omega (arith, long))
  no_marks (path ∷ paths) (mark ∷ marks) long none = (
    λ yes. absurd (false≢true (sym (none zero mark refl) ∙ yes)),
    no_marks paths marks (omega (arith, long)) (λ i b e. none (suc i) b e),
  )

-- one more path, with or without a mark
pub one_more_marked :
    (others : List PortableType) (paths : List Text) (marks : List Bool) (i : ℕ) (d : Text) (e : Bool)
    (changes after all : List Change)
    → i < length paths → length marks ≡ length paths
    → after ≡ changes ++ marked_by (get_or marks i e) (ids_of (get_or paths i d) others) (get_or paths i d)
    → changes ++ marked_changes others (drop i paths) (drop i marks) ≡ all
    → after ++ marked_changes others (drop (i + 1) paths) (drop (i + 1) marks) ≡ all
one_more_marked others paths marks i d e changes after all within long is before =
    let rest = marked_changes others (drop (i + 1) paths) (drop (i + 1) marks) in
    let here = marked_by (get_or marks i e) (ids_of (get_or paths i d) others) (get_or paths i d) in
    let inside : i < length marks = omega arith in
    ap (λ cs. cs ++ rest) is
    ∙ append_assoc changes here rest
    ∙ ap (λ cs. changes ++ cs)
    (sym (ap (λ ps. marked_changes others ps (drop i marks)) (drop_more paths i d within)
    ∙ ap (λ ms. marked_changes others (get_or paths i d ∷ drop (i + 1) paths) ms) (drop_more marks i e inside)))
    ∙ before
