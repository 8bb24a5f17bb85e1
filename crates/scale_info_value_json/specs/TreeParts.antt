-- What a tree holds.
use Rattle.std.specs.Prelude.{ℕ, ◌==◌, ◌^◌, ◌&&◌, ◌||◌, ◌∷◌, Bool, true, false, not, List, []}
use Rattle.std.specs.Prelude.{length, map, drop, ℤ, pos, negsuc, neg_ℤ, Option, Some, None}
use Rattle.std.specs.Prelude.{option_map}
use Rattle.std.specs.Prelude.{if◌then◌else◌, nat_lt, slice_index}
use Rattle.std.specs.Char.{digit_value}
use Rattle.std.specs.Option.{option_eq}
use Rattle.std.specs.Str.{bytes_eq}
use Rattle.std.specs.Str.Parse.{digits_value}
use Rattle.serde_json.specs.Data.{Data, number, string, array, object}
use Rattle.serde_json.specs.Data.{unsigned, Items, no_items, item, no_members, member}
use Rattle.serde_json.specs.Events.{members_len}
use Rattle.serde_json.specs.Find.{get, as_array, as_u64, as_integer}
use Rattle.scale_info_hexadecimal.specs.Digits.{bytes_by_digits}
use Rattle.scale_info_types.specs.Portable.{Text}
use Rattle.scale_info_value_visit.specs.Events.{all_named}

-- ---- integers

-- whether all these bytes are decimal digits
abbrev pub are_digits : List ℕ → Bool
are_digits [] = true
are_digits (c ∷ cs) = nat_lt (digit_value c) 10 && are_digits cs

-- the integer that a text of one decimal digit or more writes; zeros may lead
abbrev pub decimal_in : Text → Option ℕ
decimal_in text =
    if nat_lt 0 (length text) && are_digits text then Some (digits_value 10 text) else None

-- the integer that such digits write, also after a minus sign
abbrev pub signed_decimal_in : Text → Option ℤ
signed_decimal_in text =
    if slice_index text 0 == 45 then option_map (λ n. neg_ℤ (pos n)) (decimal_in (drop 1 text))
    else option_map pos (decimal_in text)

-- an integer without a sign: a number, or a string of its decimal digits
abbrev pub natural_in : Data → Option ℕ
natural_in (number n) = as_u64 n
natural_in (string text) = decimal_in text
natural_in _ = None

-- an integer that may have a sign: a number, or a string of its decimal digits
abbrev pub integer_in : Data → Option ℤ
integer_in (number n) = as_integer n
integer_in (string text) = signed_decimal_in text
integer_in _ = None

-- an integer, if it is below the limit
abbrev pub below : ℕ → Option ℕ → Option ℕ
below limit None = None
below limit (Some n) = if nat_lt n limit then Some n else None

-- whether an integer is at least the negative limit, and below the limit
abbrev pub is_within : ℕ → ℤ → Bool
is_within limit (pos n) = nat_lt n limit
is_within limit (negsuc n) = nat_lt n limit

-- an integer with a sign, if it is within the limit
abbrev pub within : ℕ → Option ℤ → Option ℤ
within limit None = None
within limit (Some z) = if is_within limit z then Some z else None

-- ---- texts and lists

-- a text: a string
abbrev pub text_in : Data → Option Text
text_in (string text) = Some text
text_in _ = None

-- the trees of an array, in order
abbrev pub listed : Items → List Data
listed no_items = []
listed (item tree trees) = tree ∷ listed trees

-- the trees of the items of a list: those of an array
abbrev pub items_in : Data → Option (List Data)
items_in tree = option_map listed (as_array tree)

-- the trees of the items of a list of bytes: those of an array, or the bytes that a string writes,
-- as numbers
abbrev pub byte_items_in : Data → Option (List Data)
byte_items_in (string text) = option_map (map (λ byte. number (unsigned byte))) (bytes_by_digits text)
byte_items_in (array trees) = Some (listed trees)
byte_items_in _ = None

-- the trees of the items of a list, of which it is known whether it is one of bytes
abbrev pub list_in : Bool → Data → Option (List Data)
list_in of_bytes tree = if of_bytes then byte_items_in tree else items_in tree

-- ---- fields and variants

-- whether a name is among these
abbrev pub has_name : Option Text → List (Option Text) → Bool
has_name name [] = false
has_name name (other ∷ names) = option_eq bytes_eq other name || has_name name names

-- whether no two of these names are the same
abbrev pub are_distinct : List (Option Text) → Bool
are_distinct [] = true
are_distinct (name ∷ names) = not (has_name name names) && are_distinct names

-- whether fields with these names are the members of an object: each has a name of its own
abbrev pub is_object_of : List (Option Text) → Bool
is_object_of names = all_named names && are_distinct names

-- whether the tree is an object with so many members
abbrev pub has_members : ℕ → Data → Bool
has_members count (object members) = members_len members == count
has_members count _ = false

-- the tree under a name, if there are both
abbrev pub member_in : Option Text → Data → Option Data
member_in None tree = None
member_in (Some name) tree = get name tree

-- the name of a variant, and what stands under it: a string is the name alone, and an object has
-- it as its one key
abbrev pub variant_in : Data → Option (Text × Option Data)
variant_in (string name) = Some (name, None)
variant_in (object (member name content no_members)) = Some (name, Some content)
variant_in _ = None

-- whether nothing stands for the fields of a variant, which has none: an empty array may
abbrev pub is_nothing : Option Data → Bool
is_nothing None = true
is_nothing (Some (array no_items)) = true
is_nothing _ = false

-- an index of a variant
abbrev pub index_in : Data → Option ℕ
index_in tree = below (2 ^ 8) (natural_in tree)

-- an index, and what stands for the fields, if anything does: an array of both
abbrev pub index_and_fields : Data → Option (ℕ × Option Data)
index_and_fields (array (item index no_items)) = option_map (λ i. (i, None)) (index_in index)
index_and_fields (array (item index (item content no_items))) =
    option_map (λ i. (i, Some content)) (index_in index)
index_and_fields _ = None
