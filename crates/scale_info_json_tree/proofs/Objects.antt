-- Objects, member by member.
use Rattle.std.proofs.Common.{◌≡◌, ℕ, List, [], ◌∷◌, true, false, Option, Some, None}
use Rattle.std.proofs.Common.{Ordering, Less, Equal, Greater, sym, ◌∙◌, ap, subst, refl}
use Rattle.std.proofs.Common.{rules}
use Rattle.std.proofs.lemmas.Bool.{and_parts}
use Rattle.std.specs.Ordering.{nat_cmp, match_ordering}
use Rattle.std.specs.Cmp.Lexicographic.{slice_cmp}
use Rattle.serde_json.specs.Data.{Data, null, Members, no_members, member, put}
use Rattle.serde_json.specs.Find.{get_member}
use Rattle.serde_json.specs.View.{view}
use Rattle.serde_json.specs.declared.value.Value.{Null, the_lemmas}
use Rattle.std.specs.Prelude.{option_map, IfSome}
use Rattle.scale_info_json_trees.specs.Meaning.{HasValue, MeansRequired, MeansOrEmpty, MeansOrNone}
use Rattle.scale_info_json_trees.specs.Meaning.{HasList, HasOption, MeansList}
use Rattle.scale_info_json_trees.specs.Written.{Row, members_of, object_tree, list_tree}
use Rattle.scale_info_json_trees.specs.Written.{unless_empty}
use Rattle.scale_info_json_trees.specs.Written.{or_null}
use Rattle.scale_info_json_trees.specs.Steps.{after_rows, put_row, is_above}
use Rattle.scale_info_json_trees.specs.Steps.{are_above, in_order}

pub view-Null : view Null ≡ null
view-Null = search (rules, the_lemmas)

-- ---- trees

abbrev join : Members → Members → Members
join no_members ns = ns
join (member k d ms) ns = member k d (join ms ns)

join_assoc : (a b c : Members) → join (join a b) c ≡ join a (join b c)
join_assoc no_members b c = refl
join_assoc (member k d ms) b c = ap (member k d) (join_assoc ms b c)

join_nothing : (a : Members) → join a no_members ≡ a
join_nothing no_members = refl
join_nothing (member k d ms) = ap (member k d) (join_nothing ms)

abbrev IsPast : List ℕ → Members → Type 0
IsPast k no_members = Unit {0}
IsPast k (member l d ms) = (slice_cmp nat_cmp k l ≡ Greater) × IsPast k ms

abbrev ArePast : List Row → Members → Type 0
ArePast [] ms = Unit {0}
ArePast (row ∷ rows) ms = IsPast row.0 ms × ArePast rows ms

is_greater : (o : Ordering) → match_ordering o false false true ≡ true → o ≡ Greater
is_greater Less h = absurd cc
is_greater Equal h = absurd cc
is_greater Greater h = refl

goes_last :
    (k : List ℕ) (d : Data) (ms : Members) → IsPast k ms
    → put k d ms ≡ join ms (member k d no_members)
goes_last k d no_members h = refl
goes_last k d (member l e ms) h = rw h.0 (ap (member l e) (goes_last k d ms h.1))

past_one_more :
    (q k : List ℕ) (d : Data) (ms : Members) → IsPast q ms → slice_cmp nat_cmp q k ≡ Greater
    → IsPast q (join ms (member k d no_members))
past_one_more q k d no_members h e = (e, tt)
past_one_more q k d (member l c ms) h e = (h.0, past_one_more q k d ms h.1 e)

rows_past :
    (rows : List Row) (k : List ℕ) (d : Data) (ms : Members) → ArePast rows ms
    → are_above k rows ≡ true → ArePast rows (join ms (member k d no_members))
rows_past [] k d ms h e = tt
rows_past (row ∷ rows) k d ms h e =
    let p = and_parts (is_above row.0 k) (are_above k rows) e in
    (past_one_more row.0 k d ms h.0 (is_greater (slice_cmp nat_cmp row.0 k) p.0), rows_past rows k d ms h.1 p.1)

put_all :
    (rows : List Row) (ms : Members) → in_order rows ≡ true → ArePast rows ms
    → after_rows put_row rows ms ≡ join ms (members_of rows)
put_all [] ms o h = sym (join_nothing ms)
put_all ((k, None) ∷ rows) ms o h =
    put_all rows ms (and_parts (are_above k rows) (in_order rows) o).1 h.1
put_all ((k, Some d) ∷ rows) ms o h =
    let p = and_parts (are_above k rows) (in_order rows) o in
    ap (after_rows put_row rows) (goes_last k d ms h.0) ∙ put_all rows (join ms (member k d no_members)) p.1 (rows_past rows k d ms h.1 p.0) ∙ join_assoc ms (member k d no_members) (members_of rows)

all_past : (rows : List Row) → ArePast rows no_members
all_past [] = tt
all_past (row ∷ rows) = (tt, all_past rows)

-- keys that are put in order stand in order
pub put_rows :
    (rows : List Row) → in_order rows ≡ true → after_rows put_row rows no_members ≡ members_of rows
put_rows rows o = put_all rows no_members o (all_past rows)

-- ---- what is found under a key

-- the second one, unless only the first is there
abbrev pub last_of : Option Data → Option Data → Option Data
last_of None o = o
last_of (Some e) None = Some e
last_of (Some e) (Some d) = Some d

-- what the rows have under a key
abbrev pub row_at : List ℕ → List Row → Option Data
row_at k [] = None
row_at k (row ∷ rows) = match_ordering (slice_cmp nat_cmp k row.0) (row_at k rows) (last_of (row_at k rows) row.1) (row_at k rows)

behind_none : (o : Option Data) → last_of o None ≡ o
behind_none None = refl
behind_none (Some d) = refl

behind_some : (o : Option Data) (d : Data) → last_of o (Some d) ≡ Some d
behind_some None d = refl
behind_some (Some e) d = refl

none_here :
    (o : Ordering) (rest : Option Data) → match_ordering o rest (last_of rest None) rest ≡ rest
none_here Less rest = refl
none_here Equal rest = behind_none rest
none_here Greater rest = refl

some_here :
    (o : Ordering) (rest : Option Data) (d : Data)
    → match_ordering o rest (last_of rest (Some d)) rest ≡ match_ordering o rest (Some d) rest
some_here Less rest d = refl
some_here Equal rest d = behind_some rest d
some_here Greater rest d = refl

-- what a key has among the members of rows is what its row has
pub found : (k : List ℕ) (rows : List Row) → get_member k (members_of rows) ≡ row_at k rows
found k [] = refl
found k ((l, None) ∷ rows) = found k rows ∙ sym (none_here (slice_cmp nat_cmp k l) (row_at k rows))
found k ((l, Some d) ∷ rows) =
    ap (λ o. match_ordering (slice_cmp nat_cmp k l) o (Some d) o) (found k rows)
    ∙ sym (some_here (slice_cmp nat_cmp k l) (row_at k rows) d)

-- ---- what is written under a key means what it was written for

-- a required key of a row has what the row has
pub at_row :
    {A : Type 0} (M : Data → A → Type 0) (k : List ℕ) (rows : List Row) (d : Data) (v : A)
    → row_at k rows ≡ Some d → M d v → HasValue k M (object_tree rows) v
at_row M k rows d v e m = subst (λ o. MeansRequired M o v) (sym (found k rows ∙ e)) m

items_row_on :
    {A : Type 0} (M : Data → A → Type 0) (W : A → Data) (vs : List A)
    → MeansList M (list_tree W vs) vs → MeansOrEmpty M (unless_empty W vs) vs
items_row_on M W [] m = refl
items_row_on M W (v ∷ vs) m = m

-- the key of a list that is left out if empty means the list
pub items_row :
    {A : Type 0} (M : Data → A → Type 0) (W : A → Data) (k : List ℕ) (rows : List Row) (vs : List A)
    → row_at k rows ≡ unless_empty W vs → MeansList M (list_tree W vs) vs
    → HasList k M (object_tree rows) vs
items_row M W k rows vs e m =
    subst (λ o. MeansOrEmpty M o vs) (sym (found k rows ∙ e)) (items_row_on M W vs m)

option_row_on :
    {A : Type 0} (M : Data → A → Type 0) (W : A → Data) (v : Option A) → IfSome v (λ x. M (W x) x)
    → MeansOrNone M (option_map W v) v
option_row_on M W None m = refl
option_row_on M W (Some v) m = m

-- the key of a value that may be left out means the option
pub option_row :
    {A : Type 0} (M : Data → A → Type 0) (W : A → Data) (k : List ℕ) (rows : List Row) (v : Option A)
    → row_at k rows ≡ option_map W v → IfSome v (λ x. M (W x) x)
    → HasOption k M (object_tree rows) v
option_row M W k rows v e m =
    subst (λ o. MeansOrNone M o v) (sym (found k rows ∙ e)) (option_row_on M W v m)

nullable_row_on :
    {A : Type 0} (M : Data → A → Type 0) (W : A → Data) (v : Option A) → IfSome v (λ x. M (W x) x)
    → MeansOrNone M (Some (or_null W v)) v
nullable_row_on M W None m = refl
nullable_row_on M W (Some v) m = m

-- the key of a value that may be null means the option
pub nullable_row :
    {A : Type 0} (M : Data → A → Type 0) (W : A → Data) (k : List ℕ) (rows : List Row) (v : Option A)
    → row_at k rows ≡ Some (or_null W v) → IfSome v (λ x. M (W x) x)
    → HasOption k M (object_tree rows) v
nullable_row M W k rows v e m =
    subst (λ o. MeansOrNone M o v) (sym (found k rows ∙ e)) (nullable_row_on M W v m)
