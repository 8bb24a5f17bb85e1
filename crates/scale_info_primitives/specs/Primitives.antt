-- The names of primitives, and the order in which they are declared.
use Rattle.std.specs.Prelude.{ℕ, List, codes}
use Rattle.scale_info_primitives.specs.declared.primitive.TypeDefPrimitive.{TypeDefPrimitive}
use Rattle.scale_info_primitives.specs.declared.primitive.TypeDefPrimitive.TheVariants as kind

-- the name of a primitive, as Rust writes it where Rust has the type
abbrev pub primitive_name : TypeDefPrimitive → List ℕ
primitive_name kind.Bool = codes "bool"
primitive_name kind.Char = codes "char"
primitive_name kind.Str = codes "str"
primitive_name kind.U8 = codes "u8"
primitive_name kind.U16 = codes "u16"
primitive_name kind.U32 = codes "u32"
primitive_name kind.U64 = codes "u64"
primitive_name kind.U128 = codes "u128"
primitive_name kind.U256 = codes "u256"
primitive_name kind.I8 = codes "i8"
primitive_name kind.I16 = codes "i16"
primitive_name kind.I32 = codes "i32"
primitive_name kind.I64 = codes "i64"
primitive_name kind.I128 = codes "i128"
primitive_name kind.I256 = codes "i256"

-- the index of a primitive, counted from 0
abbrev pub primitive_index : TypeDefPrimitive → ℕ
primitive_index kind.Bool = 0
primitive_index kind.Char = 1
primitive_index kind.Str = 2
primitive_index kind.U8 = 3
primitive_index kind.U16 = 4
primitive_index kind.U32 = 5
primitive_index kind.U64 = 6
primitive_index kind.U128 = 7
primitive_index kind.U256 = 8
primitive_index kind.I8 = 9
primitive_index kind.I16 = 10
primitive_index kind.I32 = 11
primitive_index kind.I64 = 12
primitive_index kind.I128 = 13
primitive_index kind.I256 = 14
