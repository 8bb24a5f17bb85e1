-- Lists of changes.
use Rattle.std.proofs.Common.{◌≡◌, ◌≢◌, ◌∙◌, ◌++◌, ◌∷◌, ℕ, Bool, true, List, [], All, length, take, drop, map, zero, suc}
use Rattle.std.proofs.Common.{ap, sym, subst, refl, arith, append_assoc}
use Rattle.std.proofs.lemmas.Bool.{false≢true}
use Rattle.std.proofs.lemmas.Grind.{flat_map-append}
use Rattle.std.proofs.lemmas.List.{take-append-drop, take-map, drop-map}
use Rattle.std.proofs.lemmas.List.Elements.{All-nil}
use Rattle.std.specs.List.{AllZip, flat_map}
use Rattle.scale_info_types.specs.Portable.{Text}
use Rattle.scale_info_types.specs.declared.ty.PortableType.{PortableType}
use Rattle.scale_info_table_diff.specs.TableChanges.{AreChanges, AreSame, IsOldChange, added_by, changed, new_change, removed, unchanged}
use Rattle.scale_info_table_diff.specs.Comparisons.{AddsOldChanges, TellsSame, removed_by}
use Rattle.scale_info_table_diff.specs.Differing.{unmarked}
use Rattle.scale_info_table_diff.specs.TypesByPath.{AreIdsByPath, ids_of, paths_of}
use Rattle.scale_info_table_diff.specs.declared.change.Change.{Change}
use Rattle.scale_info_table_diff.specs.declared.change.Change.TheVariants.{Changed, Removed}

cons_some : {A : Type 0} (x : A) (xs : List A) → (x ∷ xs) ≡ [] → ⊥
cons_some x xs e = absurd (omega (arith, ap length e))

-- what holds place by place of two lists and of what follows them holds of all
pub join_zip :
    {A B : Type 0} (P : A → B → Type 0) (xs more : List A) (ys others : List B)
    → AllZip P xs ys → AllZip P more others → AllZip P (xs ++ more) (ys ++ others)
join_zip P [] more [] others z w = w
join_zip P [] more (y ∷ ys) others z w = absurd z
join_zip P (x ∷ xs) more [] others z w = absurd z
join_zip P (x ∷ xs) more (y ∷ ys) others z w = (z.0, join_zip P xs more ys others z.1 w)

module _ (types others : List PortableType) where
  -- a path that has not changed, by the ids that it has in the new table
  pub one_removed :
      (path : Text) (ids : List ℕ) → ids_of path others ≡ ids
      → (ids_of path others ≢ [] → AreSame types others path)
      → IsOldChange types others path (removed_by ids path)
  one_removed path [] is same = removed path is
  one_removed path (id ∷ ids) is same =
      let some : ids_of path others ≢ [] = λ none. cons_some id ids (sym is ∙ none) in
      unchanged path some (same some)

  -- a path that the new table has not
  pub adds_one_removed :
      (path : Text) (old new : List Change) → ids_of path others ≡ []
      → new ≡ old ++ Removed path ∷ [] → AddsOldChanges types others (path ∷ []) old new
  adds_one_removed path old new none is =
      record { parts = (Removed path ∷ []) ∷ []; each = (removed path none, tt); added = is }

  -- a path whose types are not the same
  pub adds_one_changed :
      (path : Text) (old new : List Change) → ids_of path others ≢ []
      → ¬ (AreSame types others path)
      → new ≡ old ++ Changed path ∷ [] → AddsOldChanges types others (path ∷ []) old new
  adds_one_changed path old new some differs is =
      record {
        parts = (Changed path ∷ []) ∷ [];
        each = (changed path some differs, tt);
        added = is;
      }

  -- the first paths, and then the others
  pub adds_both :
      (n : ℕ) (paths : List Text) (old middle new : List Change)
      → AddsOldChanges types others (take n paths) old middle
      → AddsOldChanges types others (drop n paths) middle new
      → AddsOldChanges types others paths old new
  adds_both n paths old middle new first second =
      record {
        parts = first.parts ++ second.parts;
        each =
            subst (λ ps. AllZip (IsOldChange types others) ps (first.parts ++ second.parts)) (take-append-drop n paths)
            (join_zip (IsOldChange types others) (take n paths) (drop n paths) first.parts second.parts first.each second.each);
        added =
            second.added ∙ ap (λ cs. cs ++ flat_map (λ part. part) second.parts) first.added
            ∙ append_assoc old (flat_map (λ part. part) first.parts) (flat_map (λ part. part) second.parts)
            ∙ ap (λ cs. old ++ cs) (sym (flat_map-append (λ part. part) first.parts second.parts));
      }

  -- all changes
  pub are_changes :
      (middle new : List Change)
      → AddsOldChanges types others (paths_of types) [] middle
      → new ≡ middle ++ flat_map (new_change types) (paths_of others)
      → AreChanges types others new
  are_changes middle new old is =
      record {
        of_old = old.parts;
        each = old.each;
        listed = is ∙ ap (λ cs. cs ++ flat_map (new_change types) (paths_of others)) old.added;
      }

-- where ids are, nothing is removed or added
pub none_removed : (ids : List ℕ) (path : Text) → ids ≢ [] → removed_by ids path ≡ []
none_removed [] path some = absurd (some refl)
none_removed (id ∷ ids) path some = refl

-- a path that the old table has is not added
pub none_added : (ids : List ℕ) (path : Text) → ids ≢ [] → added_by ids path ≡ []
none_added [] path some = absurd (some refl)
none_added (id ∷ ids) path some = refl

-- ---- the first rows and the others

-- what holds place by place holds so of the first ones, and of the others
zip_parts :
    {A B : Type 0} (P : A → B → Type 0) (n : ℕ) (xs : List A) (ys : List B)
    → AllZip P xs ys → AllZip P (take n xs) (take n ys) × AllZip P (drop n xs) (drop n ys)
zip_parts P zero xs ys z = (tt, z)
zip_parts P (suc n) [] [] z = (tt, tt)
zip_parts P (suc n) [] (y ∷ ys) z = absurd z
zip_parts P (suc n) (x ∷ xs) [] z = absurd z
zip_parts P (suc n) (x ∷ xs) (y ∷ ys) z =
    let parts = zip_parts P n xs ys z.1 in ((z.0, parts.0), parts.1)

-- of the first ones
pub take_zip :
    {A B : Type 0} (P : A → B → Type 0) (n : ℕ) (xs : List A) (ys : List B)
    → AllZip P xs ys → AllZip P (take n xs) (take n ys)
take_zip P n xs ys z = (zip_parts P n xs ys z).0

-- of the others
pub drop_zip :
    {A B : Type 0} (P : A → B → Type 0) (n : ℕ) (xs : List A) (ys : List B)
    → AllZip P xs ys → AllZip P (drop n xs) (drop n ys)
drop_zip P n xs ys z = (zip_parts P n xs ys z).1

module _ {V : Type 0} (row : V → List ℕ) (types : List PortableType) (n : ℕ) (paths : List Text) (vs : List V)
    (z : AreIdsByPath types paths (map row vs)) where
  -- the first rows are those of the first paths
  pub take_rows : AreIdsByPath types (take n paths) (map row (take n vs))
  take_rows =
      subst (λ rows. AreIdsByPath types (take n paths) rows) (take-map row n vs)
      (take_zip (λ path ids. ids ≡ ids_of path types) n paths (map row vs) z)

  -- the others are those of the other paths
  pub drop_rows : AreIdsByPath types (drop n paths) (map row (drop n vs))
  drop_rows =
      subst (λ rows. AreIdsByPath types (drop n paths) rows) (drop-map row n vs)
      (drop_zip (λ path ids. ids ≡ ids_of path types) n paths (map row vs) z)

-- no paths have changed
pub same_none :
    (types others : List PortableType) (paths : List Text) (marks : List Bool) → paths ≡ []
    → TellsSame types others (unmarked paths marks) true
same_none types others paths marks none =
    record {
      all = λ e.
          subst (λ ps. All (λ path. ids_of path others ≢ [] → AreSame types others path) (unmarked ps marks)) (sym none)
          (All-nil (λ path. ids_of path others ≢ [] → AreSame types others path));
      one = λ e. absurd (false≢true (sym e));
    }

-- what both halves add in turn is what all paths add
pub adds_halves :
    (types others : List PortableType) (n : ℕ) (paths first second : List Text) (old middle new : List Change)
    → first ≡ take n paths → second ≡ drop n paths
    → AddsOldChanges types others first old middle → AddsOldChanges types others second middle new
    → AddsOldChanges types others paths old new
adds_halves types others n paths first second old middle new is are x y =
    adds_both types others n paths old middle new
    (subst (λ ps. AddsOldChanges types others ps old middle) is x)
    (subst (λ ps. AddsOldChanges types others ps middle new) are y)
