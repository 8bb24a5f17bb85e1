-- The types of the standard library that this library knows, and its own three: the own term of
-- each, by the own terms of its parameters. A line for each type, or for types that share it, in
-- the order of the table of identities in docs/FORMATS.md.
use Rattle.std.specs.Prelude.{ℕ, List, [], ◌∷◌, codes}
use Rattle.scale_info_identities.specs.TypeIds.{Term, term, terms, no_terms, more_terms}

-- a type without parameters: its head alone
abbrev pub named : List ℕ → Term
named head = term head [] no_terms

-- a type with one parameter: its head and the parameter's own term
abbrev pub applied : List ℕ → Term → Term
applied head t = term head [] (more_terms t no_terms)

-- a type with two parameters: its head and the parameters' own terms
abbrev pub applied_to_two : List ℕ → Term → Term → Term
applied_to_two head a b = term head [] (terms (a ∷ b ∷ []))

-- `bool`, `char`, `u8` to `u128`, `i8` to `i128`, by the name that Rust gives the type
abbrev pub primitive_term : List ℕ → Term
primitive_term name = named name

-- the ten NonZero types and `Duration`, by the name that Rust gives the type
abbrev pub standard_term : List ℕ → Term
standard_term name = named name

-- `[T; N]`
abbrev pub array_term : ℕ → Term → Term
array_term n t = term (codes "array") (n ∷ []) (more_terms t no_terms)

-- tuples of 0 to 20 members, by the terms of the members in order
abbrev pub tuple_term : List Term → Term
tuple_term members = term (codes "tuple") [] (terms members)

-- `SliceOf<T>`
abbrev pub slice_term : Term → Term
slice_term t = applied (codes "slice") t

-- `StrType`
abbrev pub str_term : Term
str_term = named (codes "str")

-- `Vec<T>`
abbrev pub vec_term : Term → Term
vec_term t = applied (codes "Vec") t

-- `VecDeque<T>`
abbrev pub vec_deque_term : Term → Term
vec_deque_term t = applied (codes "VecDeque") t

-- `String`
abbrev pub string_term : Term
string_term = named (codes "String")

-- `Box<T>`
abbrev pub box_term : Term → Term
box_term t = applied (codes "Box") t

-- `Rc<T>`
abbrev pub rc_term : Term → Term
rc_term t = applied (codes "Rc") t

-- `&T`; of `&[T]` by the own term of `SliceOf<T>`, of `&str` by that of `StrType`
abbrev pub reference_term : Term → Term
reference_term t = applied (codes "&") t

-- `&mut T`
abbrev pub mutable_reference_term : Term → Term
mutable_reference_term t = applied (codes "&mut") t

-- `PhantomData<T>`
abbrev pub phantom_data_term : Term → Term
phantom_data_term t = applied (codes "PhantomData") t

-- `Option<T>`
abbrev pub option_term : Term → Term
option_term t = applied (codes "Option") t

-- `Result<T, E>`
abbrev pub result_term : Term → Term → Term
result_term t e = applied_to_two (codes "Result") t e

-- `Cow<'static, T>`
abbrev pub cow_term : Term → Term
cow_term t = applied (codes "Cow") t

-- `BTreeMap<K, V>`
abbrev pub b_tree_map_term : Term → Term → Term
b_tree_map_term k v = applied_to_two (codes "BTreeMap") k v

-- `BTreeSet<T>`
abbrev pub b_tree_set_term : Term → Term
b_tree_set_term t = applied (codes "BTreeSet") t

-- `BinaryHeap<T>`
abbrev pub binary_heap_term : Term → Term
binary_heap_term t = applied (codes "BinaryHeap") t

-- `Range<Idx>`
abbrev pub range_term : Term → Term
range_term t = applied (codes "Range") t

-- `RangeInclusive<Idx>`
abbrev pub range_inclusive_term : Term → Term
range_inclusive_term t = applied (codes "RangeInclusive") t

-- `Compact<T>`
abbrev pub compact_term : Term → Term
compact_term t = applied (codes "Compact") t
