-- Paths and ids, type by type.
use Rattle.std.proofs.Common.{◌≡◌, ◌≢◌, ◌∙◌, ◌+◌, ◌++◌, ◌∷◌, ◌⊎◌, ◌≤◌, inl, inr, ℕ, zero, suc, Bool, true, false, not, List, []}
use Rattle.std.proofs.Common.{map, option_map, Some, Contains, length, slice_get, slice_set, ap, sym, subst, refl, arith}
use Rattle.std.proofs.Common.{append-nil, append_assoc, length-append}
use Rattle.std.specs.Bool.{Decides}
use Rattle.std.specs.List.{AllZip}
use Rattle.std.specs.Str.{bytes_eq}
use Rattle.std.proofs.lemmas.Bool.{false≢true}
use Rattle.std.proofs.lemmas.Bool.Decides.{Decides-like, Decides-not, Decides-or}
use Rattle.std.proofs.lemmas.List.{length-set, map-set, map_push}
use Rattle.std.proofs.lemmas.List.Elements.{Contains-append_left, Contains-append_right}
use Rattle.std.proofs.lemmas.Option.{none-some, same_Some, slice_get-map, slice_get_within}
use Rattle.std.proofs.lemmas.Slice.Eq.{bytes_eq-Decides}
use Rattle.scale_info_table_describe.specs.PathSearches.{indices_from}
use Rattle.scale_info_interner.specs.Interned.{IsIndexOf, IsKnown, IsNew}
use Rattle.scale_info_numberings.proofs.Zip.{zip_at}
use Rattle.scale_info_numberings.proofs.Places.{contains_at, contains_cases, contains_head, contains_tail, place_of}
use Rattle.scale_info_segments.specs.TypePaths.{joined}
use Rattle.scale_info_types.specs.Portable.{Text}
use Rattle.scale_info_types.specs.declared.ty.PortableType.{PortableType}
use Rattle.scale_info_walk.proofs.Visiting.{same_or_not, set_at, set_other}
use Rattle.scale_info_table_diff.proofs.Pushed.{both_pushed_at, pushed_at}
use Rattle.scale_info_table_diff.proofs.Reaches.{decided, not_in_none, refuted}
use Rattle.scale_info_table_diff.specs.NamedTables.{AreTypesByPath}
use Rattle.scale_info_table_diff.specs.TypesByPath.{AddsId, AreIdsByPath, has_path, ids_of, is_among, is_new, new_paths, paths_of}

-- ---- the tests

unequal : (s t : Text) → s ≢ t → bytes_eq s t ≡ false
unequal s t other = refuted (bytes_eq s t) (bytes_eq-Decides s t) other

among-Decides : (known : List Text) (path : Text) → Decides (is_among known path) (Contains known path)
among-Decides [] path = (λ e. absurd (false≢true e), λ c. absurd (not_in_none path c))
among-Decides (p ∷ known) path =
    Decides-like (is_among (p ∷ known) path)
    (λ either.
    elim either [
      | inl same ↦ subst (λ x. Contains (p ∷ known) x) (sym same) (contains_head p known)
      | inr later ↦ contains_tail p known path later
    ])
    (λ c.
    elim (contains_cases p known path c) [
      | inl same ↦ inl (sym same)
      | inr later ↦ inr later
    ])
    (Decides-or (bytes_eq path p) (is_among known path) (bytes_eq-Decides path p) (among-Decides known path))

known_or_new : (known : List Text) (p : Text) → Contains known p ⊎ (Contains known p → ⊥)
known_or_new known p = decided _ (among-Decides known p)

test_is : (path : Text) (segments : List Text) → segments ≢ [] → has_path path segments ≡ bytes_eq path (joined segments)
test_is path [] some = absurd (some refl)
test_is path (s ∷ ss) some = refl

new_is : (known segments : List Text) → segments ≢ [] → is_new known segments ≡ not (is_among known (joined segments))
new_is known [] some = absurd (some refl)
new_is known (s ∷ ss) some = refl

-- ---- one type more

module _ (e : PortableType) (es : List PortableType) where
  abbrev path : Text
  path = joined e.ty.path.segments

  paths_unnamed : (known : List Text) → e.ty.path.segments ≡ [] → new_paths known (e ∷ es) ≡ new_paths known es
  paths_unnamed known none = rw none refl

  paths_known :
      (known : List Text) → e.ty.path.segments ≢ [] → Contains known path
      → new_paths known (e ∷ es) ≡ new_paths known es
  paths_known known some c =
      let isnt = new_is known e.ty.path.segments some ∙ ap not ((among-Decides known path).1 c) in
      rw isnt refl

  paths_new :
      (known : List Text) → e.ty.path.segments ≢ [] → (Contains known path → ⊥)
      → new_paths known (e ∷ es) ≡ path ∷ new_paths (known ++ path ∷ []) es
  paths_new known some c =
      let is = new_is known e.ty.path.segments some ∙ (Decides-not (is_among known path) (among-Decides known path)).1 c in
      rw is refl

  ids_unnamed :
      (n : ℕ) (p : Text) → e.ty.path.segments ≡ []
      → indices_from n (has_path p) (e ∷ es) ≡ indices_from (n + 1) (has_path p) es
  ids_unnamed n p none = rw none refl

  ids_here :
      (n : ℕ) (p : Text) → e.ty.path.segments ≢ [] → p ≡ path
      → indices_from n (has_path p) (e ∷ es) ≡ n ∷ indices_from (n + 1) (has_path p) es
  ids_here n p some same =
      let is = test_is p e.ty.path.segments some ∙ (bytes_eq-Decides p path).1 same in
      rw is refl

  ids_other :
      (n : ℕ) (p : Text) → e.ty.path.segments ≢ [] → p ≢ path
      → indices_from n (has_path p) (e ∷ es) ≡ indices_from (n + 1) (has_path p) es
  ids_other n p some other =
      let isnt = test_is p e.ty.path.segments some ∙ unequal p path other in
      rw isnt refl

-- ---- a path that is none of a table's has no types

seen_later :
    (known : List Text) (e : PortableType) (es : List PortableType) (p : Text)
    → (Contains (known ++ new_paths known (e ∷ es)) p → ⊥)
    → (later : List Text) → known ++ new_paths known (e ∷ es) ≡ later → (Contains later p → ⊥)
seen_later known e es p new later is = subst (λ (ps : List Text). Contains ps p → ⊥) is new

no_or_some : (segments : List Text) → (segments ≡ []) ⊎ (segments ≢ [])
no_or_some [] = inl refl
no_or_some (s ∷ ss) = inr (λ e. absurd (omega (arith, ap length e)))

-- a path that is none of those that were listed has no id
pub unlisted :
    (n : ℕ) (known : List Text) (es : List PortableType) (p : Text)
    → (Contains (known ++ new_paths known es) p → ⊥) → indices_from n (has_path p) es ≡ []
unlisted n known [] p new = refl
unlisted n known (e ∷ es) p new =
    elim (no_or_some e.ty.path.segments) [
      | inl none ↦
          ids_unnamed e es n p none
          ∙ unlisted (n + 1) known es p
          (seen_later known e es p new (known ++ new_paths known es) (ap (λ ps. known ++ ps) (paths_unnamed e es known none)))
      | inr some ↦
          elim (known_or_new known (joined e.ty.path.segments)) [
            | inl c ↦
                ids_other e es n p some (λ same. new (Contains-append_left known (new_paths known (e ∷ es)) p (subst (λ z. Contains known z) (sym same) c)))
                ∙ unlisted (n + 1) known es p
                (seen_later known e es p new (known ++ new_paths known es) (ap (λ ps. known ++ ps) (paths_known e es known some c)))
            | inr c ↦
                let path = joined e.ty.path.segments in
                let is = paths_new e es known some c in
                ids_other e es n p some
                (λ same. new
                (subst (λ (ps : List Text). Contains (known ++ ps) p) (sym is)
                (subst (λ z. Contains (known ++ path ∷ new_paths (known ++ path ∷ []) es) z) (sym same)
                (Contains-append_right known (path ∷ new_paths (known ++ path ∷ []) es) path (contains_head path (new_paths (known ++ path ∷ []) es))))))
                ∙ unlisted (n + 1) (known ++ path ∷ []) es p
                (seen_later known e es p new ((known ++ path ∷ []) ++ new_paths (known ++ path ∷ []) es)
                (ap (λ ps. known ++ ps) is ∙ sym (append_assoc known (path ∷ []) (new_paths (known ++ path ∷ []) es))))
          ]
    ]

-- ---- what was gathered of types before es, the first of which has the index n

-- some first entries were gone over
pub record IsSoFar (types : List PortableType) (n : ℕ) (es : List PortableType) (paths : List Text)
    (rows : List (List ℕ)) : Type 0 where
  pub listed : paths ++ new_paths paths es ≡ paths_of types
  pub long : length rows ≡ length paths
  pub few : length paths ≤ n
  pub distinct : (i j : ℕ) (p : Text) → slice_get paths i ≡ Some p → slice_get paths j ≡ Some p → i ≡ j
  pub known :
      (k : ℕ) (p : Text) (row : List ℕ) → slice_get paths k ≡ Some p → slice_get rows k ≡ Some row
      → row ++ indices_from n (has_path p) es ≡ ids_of p types
  pub unknown : (p : Text) → (Contains paths p → ⊥) → indices_from n (has_path p) es ≡ ids_of p types

-- before the first entry
pub at_start : (types : List PortableType) → IsSoFar types 0 types [] []
at_start types =
    record {
      listed = refl;
      long = refl;
      few = omega arith;
      distinct = λ i j p e h. absurd (none-some p e);
      known = λ k p row e h. absurd (none-some p e);
      unknown = λ p new. refl;
    }

-- at the end
pub at_end :
    (types : List PortableType) (n : ℕ) (es : List PortableType) (paths : List Text) (rows : List (List ℕ))
    → es ≡ [] → IsSoFar types n es paths rows → (paths ≡ paths_of types) × AreIdsByPath types paths rows
at_end types n es paths rows none x = (
  sym (append-nil paths) ∙ ap (λ ts. paths ++ new_paths paths ts) (sym none) ∙ x.listed,
  all_at paths rows (sym x.long) (λ k p row e h. sym (append-nil row)
      ∙ ap (λ ts. row ++ indices_from n (has_path p) ts) (sym none) ∙ x.known k p row e h),
)
  where
    all_at :
        (ps : List Text) (rs : List (List ℕ)) → length ps ≡ length rs
        → ((k : ℕ) (p : Text) (row : List ℕ) → slice_get ps k ≡ Some p → slice_get rs k ≡ Some row → row ≡ ids_of p types)
        → AllZip (λ p row. row ≡ ids_of p types) ps rs
    all_at [] [] long is = tt
    all_at [] (r ∷ rs) long is = absurd (omega (arith, long))
    all_at (p ∷ ps) [] long is = absurd (omega (arith, long))
    all_at (p ∷ ps) (r ∷ rs) long is =
        (is zero p r refl refl, all_at ps rs (omega (arith, long)) (λ k q row e h. is (suc k) q row e h))

module _ (types : List PortableType) (n : ℕ) (e : PortableType) (es : List PortableType)
    (paths : List Text) (rows : List (List ℕ)) (x : IsSoFar types n (e ∷ es) paths rows) where
  -- a type without a path
  pub after_unnamed : e.ty.path.segments ≡ [] → IsSoFar types (n + 1) es paths rows
  after_unnamed none =
      record {
        listed = ap (λ ps. paths ++ ps) (sym (paths_unnamed e es paths none)) ∙ x.listed;
        long = x.long;
        few = omega (arith, x.few);
        distinct = x.distinct;
        known = λ k p row s h. ap (λ is. row ++ is) (sym (ids_unnamed e es n p none)) ∙ x.known k p row s h;
        unknown = λ p new. sym (ids_unnamed e es n p none) ∙ x.unknown p new;
      }

  -- a type with a known path
  after_known :
      (k : ℕ) (row : List ℕ) (rows_after : List (List ℕ)) → e.ty.path.segments ≢ []
      → slice_get paths k ≡ Some (joined e.ty.path.segments) → slice_get rows k ≡ Some row
      → rows_after ≡ slice_set rows k (row ++ n ∷ [])
      → IsSoFar types (n + 1) es paths rows_after
  after_known k row rows_after some there at is =
      let path = joined e.ty.path.segments in
      let inside = contains_at paths path k there in
      record {
        listed = ap (λ ps. paths ++ ps) (sym (paths_known e es paths some inside)) ∙ x.listed;
        long = ap length is ∙ length-set rows k (row ++ n ∷ []) ∙ x.long;
        few = omega (arith, x.few);
        distinct = x.distinct;
        known = λ j p other s h.
            elim (same_or_not j k) [
              | inl same ↦
                  let is_path : p ≡ path =
                  same_Some p path (sym s ∙ ap (λ i. slice_get paths i) same ∙ there) in
                  let is_row : other ≡ row ++ n ∷ [] =
                  same_Some other (row ++ n ∷ [])
                  (sym h ∙ ap (λ rs. slice_get rs j) is ∙ ap (λ i. slice_get (slice_set rows k (row ++ n ∷ [])) i) same
                  ∙ set_at rows k (row ++ n ∷ []) (slice_get_within rows k row at)) in
                  ap (λ r. r ++ indices_from (n + 1) (has_path p) es) is_row
                  ∙ append_assoc row (n ∷ []) (indices_from (n + 1) (has_path p) es)
                  ∙ ap (λ is. row ++ is) (sym (ids_here e es n p some is_path))
                  ∙ x.known j p row s (ap (λ i. slice_get rows i) same ∙ at)
              | inr another ↦
                  let isnt : p ≢ path =
                  λ same. another (x.distinct j k path (s ∙ ap Some same) there) in
                  ap (λ is. other ++ is) (sym (ids_other e es n p some isnt))
                  ∙ x.known j p other s (sym (set_other rows k j (row ++ n ∷ []) another) ∙ ap (λ rs. slice_get rs j) (sym is) ∙ h)
            ];
        unknown = λ p new.
            let isnt : p ≢ path = λ same. new (subst (λ z. Contains paths z) (sym same) inside) in
            sym (ids_other e es n p some isnt) ∙ x.unknown p new;
      }

  -- a type with a new path
  after_new :
      (paths_after : List Text) (rows_after : List (List ℕ)) → e.ty.path.segments ≢ []
      → (Contains paths (joined e.ty.path.segments) → ⊥)
      → paths_after ≡ paths ++ joined e.ty.path.segments ∷ []
      → rows_after ≡ rows ++ (n ∷ []) ∷ []
      → IsSoFar types (n + 1) es paths_after rows_after
  after_new paths_after rows_after some new is is_rows =
      let path = joined e.ty.path.segments in
      subst (λ ps. IsSoFar types (n + 1) es ps rows_after) (sym is)
      (subst (λ rs. IsSoFar types (n + 1) es (paths ++ path ∷ []) rs) (sym is_rows)
      (record {
        listed =
            append_assoc paths (path ∷ []) (new_paths (paths ++ path ∷ []) es)
            ∙ ap (λ ps. paths ++ ps) (sym (paths_new e es paths some new)) ∙ x.listed;
        long =
            length-append rows ((n ∷ []) ∷ []) ∙ ap (λ k. k + 1) x.long ∙ sym (length-append paths (path ∷ []));
        few = omega (arith, x.few, length-append paths (path ∷ []));
        distinct = λ i j p s h.
            elim (pushed_at paths path i p s) [
              | inl a ↦
                  elim (pushed_at paths path j p h) [
                    | inl b ↦ x.distinct i j p a b
                    | inr b ↦ absurd (new (subst (λ z. Contains paths z) b.1 (contains_at paths p i a)))
                  ]
              | inr a ↦
                  elim (pushed_at paths path j p h) [
                    | inl b ↦ absurd (new (subst (λ z. Contains paths z) a.1 (contains_at paths p j b)))
                    | inr b ↦ a.0 ∙ sym b.0
                  ]
            ];
        known = λ k p row s h.
            elim (both_pushed_at paths rows path (n ∷ []) k p row (sym x.long) s h) [
              | inl a ↦
                  let isnt : p ≢ path =
                  λ same. new (subst (λ z. Contains paths z) same (contains_at paths p k a.0)) in
                  ap (λ is. row ++ is) (sym (ids_other e es n p some isnt))
                  ∙ x.known k p row a.0 a.1
              | inr a ↦
                  ap (λ r. r ++ indices_from (n + 1) (has_path p) es) a.2
                  ∙ sym (ids_here e es n p some a.1)
                  ∙ x.unknown p (λ c. new (subst (λ z. Contains paths z) a.1 c))
            ];
        unknown = λ p isnew.
            let isnt : p ≢ path =
            λ same. isnew (subst (λ z. Contains (paths ++ path ∷ []) z) (sym same) (Contains-append_right paths (path ∷ []) path (contains_head path []))) in
            sym (ids_other e es n p some isnt) ∙ x.unknown p (λ c. isnew (Contains-append_left paths (path ∷ []) p c));
      }))

  -- a type with a path
  pub after_named :
      (paths_after : List Text) (rows_after : List (List ℕ)) → e.ty.path.segments ≢ []
      → AddsId (joined e.ty.path.segments) n paths rows paths_after rows_after
      → IsSoFar types (n + 1) es paths_after rows_after
  after_named paths_after rows_after some (inl a) =
      subst (λ ps. IsSoFar types (n + 1) es ps rows_after) (sym a.4)
      (after_known a.0 a.1 rows_after some a.2 a.3 a.5)
  after_named paths_after rows_after some (inr a) = after_new paths_after rows_after some a.0 a.1 a.2

-- ---- the ids of a path that is looked up

module _ (types : List PortableType) (paths : List Text) (rows : List (List ℕ))
    (x : AreTypesByPath types paths rows) where
  -- a path that is none of the table's
  pub no_ids : (p : Text) → (Contains paths p → ⊥) → [] ≡ ids_of p types
  no_ids p new =
      sym (unlisted 0 [] types p (λ c. new (subst (λ (ps : List Text). Contains ps p) (sym x.are_paths) c)))

  -- one that is
  pub ids_at :
      (k : ℕ) (p : Text) (row : List ℕ)
      → slice_get paths k ≡ Some p → slice_get rows k ≡ Some row → row ≡ ids_of p types
  ids_at k p row s h = zip_at (λ p row. row ≡ ids_of p types) paths rows x.are_ids k p row s h

-- a path that equals an element is that
pub same_path : (p q : Text) → bytes_eq p q ≡ true → p ≡ q
same_path p q e = (bytes_eq-Decides p q).0 e

-- an element is known
pub is_known : (paths : List Text) (p : Text) → Contains paths p → IsKnown bytes_eq paths p
is_known paths p c = let at = place_of paths p c in (at.0, (p, at.1, (bytes_eq-Decides p p).1 refl))

-- ---- what an interner says of a path

module _ (paths after : List Text) (p : Text) (is_new : Bool) (id : ℕ)
    (when_known : (i : ℕ) → IsIndexOf bytes_eq paths p i → (is_new ≡ false) × (id ≡ i) × (after ≡ paths))
    (when_new : IsNew bytes_eq paths p → (is_new ≡ true) × (id ≡ length paths) × (after ≡ paths ++ p ∷ [])) where
  no_element : (Contains paths p → ⊥) → IsNew bytes_eq paths p
  no_element new known =
      let at = known.1 in
      new (subst (λ z. Contains paths z) (sym (same_path p at.0 at.2)) (contains_at paths at.0 known.0 at.1))

  pub was_new : is_new ≡ true → (Contains paths p → ⊥) × (after ≡ paths ++ p ∷ [])
  was_new holds =
      let new : Contains paths p → ⊥ = λ c.
      let known = is_known paths p c in
      false≢true (sym (when_known known.0 known.1).0 ∙ holds) in
      (new, (when_new (no_element new)).2)

  pub was_known : is_new ≡ false → (slice_get paths id ≡ Some p) × (after ≡ paths)
  was_known isnt =
      elim (known_or_new paths p) [
        | inl c ↦
            let at = place_of paths p c in
            let said = when_known at.0 (p, at.1, (bytes_eq-Decides p p).1 refl) in
            (ap (λ i. slice_get paths i) said.1 ∙ at.1, said.2)
        | inr new ↦ absurd (false≢true (sym isnt ∙ (when_new (no_element new)).0))
      ]

-- ---- rows of a list of lists

module _ {V : Type 0} (row : V → List ℕ) where
  pub row_pushed :
      (vs ws : List V) (v : V) (r : List ℕ) → ws ≡ vs ++ v ∷ [] → row v ≡ r → map row ws ≡ map row vs ++ r ∷ []
  row_pushed vs ws v r is same =
      ap (map row) is ∙ map_push row vs v ∙ ap (λ x. map row vs ++ x ∷ []) same

  pub row_at : (vs : List V) (k : ℕ) (v : V) → slice_get vs k ≡ Some v → slice_get (map row vs) k ≡ Some (row v)
  row_at vs k v at = slice_get-map row vs k ∙ ap (option_map row) at

  pub row_set :
      (vs : List V) (k : ℕ) (v : V) (r : List ℕ) → row v ≡ r → map row (slice_set vs k v) ≡ slice_set (map row vs) k r
  row_set vs k v r same = map-set row vs k v ∙ ap (λ x. slice_set (map row vs) k x) same
