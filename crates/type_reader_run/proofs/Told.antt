-- Changes and paths, gone through one by one.
use Rattle.std.proofs.Common.{◌≡◌, ◌⊎◌, ◌<◌, ◌+◌, ◌++◌, ◌∙◌, ℕ, List, [], ◌∷◌, true, false, ap}
use Rattle.std.proofs.Common.{append-nil, append_assoc, cond, drop, flat_map, get_or, inl, inr}
use Rattle.std.proofs.Common.{length, map, refl, subst, sym, take, take-append-drop}
use Rattle.std.proofs.lemmas.Grind.{flat_map-append}
use Rattle.std.proofs.lemmas.List.{drop_more, map-append}
use Rattle.std.proofs.lemmas.List.Elements.{All-append, All-cons, All-nil}
use Rattle.std.specs.List.{All, filter}
use Rattle.scale_info_table_diff.specs.declared.change.Change.{Change}
use Rattle.scale_info_table_diff.specs.TypesByPath.{ids_of}
use Rattle.scale_info_types.specs.declared.ty.PortableType.{PortableType}
use Rattle.type_reader_io.specs.declared.error.ReaderError.{ReaderError}
use Rattle.type_reader_io.specs.declared.error.ReaderError.TheVariants as errors
use Rattle.type_reader_run.specs.Differences.{AppendsChange, AreLinesOf, HasReason, IsInEither}
use Rattle.type_reader_run.specs.Differences.{IsPathError, ToldChange, is_of, told_line}

-- what is left from an index on
pub next_of :
    {A : Type 0} (items : List A) (i : ℕ) (item : A)
    → i < length items → item ≡ get_or items i item → drop i items ≡ item ∷ drop (i + 1) items
next_of items i item within is =
    drop_more items i item within ∙ ap (λ t. t ∷ drop (i + 1) items) (sym is)

-- some first changes were gone over: those of these paths are there, each with its reason
pub record IsSoFar (old new : List PortableType) (paths : List (List ℕ))
    (changes left : List Change) (text : List ℕ) : Type 0 where
  pub told : List ToldChange
  pub whole :
      map (λ one. one.0) told ++ filter (is_of paths) left ≡ filter (is_of paths) changes
  pub reasons : All (λ one. HasReason old new one.0 one.1) told
  pub lines : text ≡ flat_map told_line told

-- before the first change
pub none_told :
    (old new : List PortableType) (paths : List (List ℕ)) (changes : List Change)
    → IsSoFar old new paths changes changes []
none_told old new paths changes = record {
  told = [];
  whole = refl;
  reasons = All-nil (λ one. HasReason old new one.0 one.1);
  lines = refl;
}

module _ {old new : List PortableType} {paths : List (List ℕ)} {changes : List Change}
    {text : List ℕ} (i : ℕ) (change : Change) (within : i < length changes)
    (at : change ≡ get_or changes i change)
    (so_far : IsSoFar old new paths changes (drop i changes) text) where
  -- what was gone over before the change at the index, and what is left from it on
  at_next : IsSoFar old new paths changes (change ∷ drop (i + 1) changes) text
  at_next =
      subst (λ left. IsSoFar old new paths changes left text) (next_of changes i change within at)
      so_far

  -- a change of no such path
  pub not_told :
      is_of paths change ≡ false
      → IsSoFar old new paths changes (drop (i + 1) changes) text
  not_told isnt =
      let x = at_next in
      let left = filter (is_of paths) (drop (i + 1) changes) in
      record {
        told = x.told;
        whole =
            ap (λ b. map (λ one. one.0) x.told ++ cond b (change ∷ left) left) (sym isnt)
            ∙ x.whole;
        reasons = x.reasons;
        lines = x.lines;
      }

  -- a change of such a path
  pub one_told :
      {after : List ℕ} → is_of paths change ≡ true
      → AppendsChange old new change text after
      → IsSoFar old new paths changes (drop (i + 1) changes) after
  one_told is y =
      let x = at_next in
      let left = filter (is_of paths) (drop (i + 1) changes) in
      let one : ToldChange = (change, y.0) in
      record {
        told = x.told ++ one ∷ [];
        whole =
            ap (λ cs. cs ++ left) (map-append (λ (t : ToldChange). t.0) x.told (one ∷ []))
            ∙ append_assoc (map (λ (t : ToldChange). t.0) x.told) (change ∷ []) left
            ∙ ap (λ b. map (λ one. one.0) x.told ++ cond b (change ∷ left) left) (sym is)
            ∙ x.whole;
        reasons =
            All-append (λ (t : ToldChange). HasReason old new t.0 t.1) x.told (one ∷ []) x.reasons
            (All-cons (λ (t : ToldChange). HasReason old new t.0 t.1) one [] y.1
            (All-nil (λ (t : ToldChange). HasReason old new t.0 t.1)));
        lines =
            y.2 ∙ ap (λ l. l ++ told_line one) x.lines
            ∙ ap (λ l. flat_map told_line x.told ++ l) (sym (append-nil (told_line one)))
            ∙ sym (flat_map-append told_line x.told (one ∷ []));
      }

-- after the last change
pub all_told :
    {old new : List PortableType} {paths : List (List ℕ)} {changes left : List Change}
    {text : List ℕ}
    → left ≡ [] → IsSoFar old new paths changes left text
    → AreLinesOf old new (filter (is_of paths) changes) text
all_told {paths = paths} none x = record {
  told = x.told;
  reasoned = record {
    of =
        sym (append-nil (map (λ (t : ToldChange). t.0) x.told))
        ∙ ap (λ cs. map (λ (t : ToldChange). t.0) x.told ++ filter (is_of paths) cs) (sym none)
        ∙ x.whole;
    reasons = x.reasons;
  };
  lines = x.lines;
}

-- the first path that neither table has
pub unknown_path :
    (old new : List PortableType) (paths : List (List ℕ)) (i : ℕ) (path : List ℕ)
    (error : ReaderError)
    → i < length paths → path ≡ get_or paths i path
    → All (IsInEither old new) (take i paths) → ids_of path old ≡ [] → ids_of path new ≡ []
    → (error ≡ errors.NoSuchPath path) ⊎ (error ≡ errors.Memory)
    → IsPathError paths old new error
unknown_path old new paths i path error within is so_far not_old not_new (inl no_such) =
    subst (IsPathError paths old new) (sym no_such)
    (record {
      before = take i paths;
      after = drop (i + 1) paths;
      parts =
          sym (take-append-drop i paths)
          ∙ ap (λ l. take i paths ++ l) (next_of paths i path within is);
      known = so_far;
      not_old = not_old;
      not_new = not_new;
    })
unknown_path old new paths i path error within is so_far not_old not_new (inr memory) =
    subst (IsPathError paths old new) (sym memory) tt
