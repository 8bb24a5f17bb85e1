-- Values that borrow, with what is borrowed copied.
use Rattle.std.specs.Prelude.{map, Option}
use Rattle.std.specs.Option.{option_copied}
use Rattle.std.specs.Borrow.{Bor}
use Rattle.scale_info_types.specs.Portable.{Text}
use Rattle.scale_info_value.specs.declared.value.Value.{Value}
use Rattle.scale_info_value.specs.declared.value.Value.TheVariants as Values
use Rattle.scale_info_value_borrowed.specs.declared.borrowed.ValueRef.{ValueRef}
use Rattle.scale_info_value_borrowed.specs.declared.borrowed.ValueRef.TheOpen.{ValueRef-F}
use Rattle.scale_info_value_borrowed.specs.declared.borrowed.ValueRef.TheOpen as layer
use Rattle.scale_info_value_borrowed.specs.declared.borrowed.ValueRef.TheFolds.{fold-ValueRef}
use Rattle.scale_info_value_borrowed.specs.declared.borrowed.Item.{Item}
use Rattle.scale_info_value_borrowed.specs.declared.borrowed.Item.TheVariants as item
use Rattle.scale_info_value_borrowed.specs.IntegerLists.{integers_of}

-- a field, its name copied
abbrev pub named : {A : Type 0} → Option (Bor Text) × A → Option Text × A
named f = (option_copied f.0, f.1)

-- a value by the values of its parts
abbrev pub owned_step : ValueRef-F Value → Value
owned_step (layer.Bool b) = Values.Bool b
owned_step (layer.Unsigned n) = Values.Unsigned n
owned_step (layer.Signed n) = Values.Signed n
owned_step (layer.Text t) = Values.Text t.now
owned_step (layer.Bytes b) = Values.List (map Values.Unsigned b.now)
owned_step (layer.Integers list) = Values.List (integers_of list)
owned_step (layer.List items) = Values.List items
owned_step (layer.Record fields) = Values.Record (map named fields)
owned_step (layer.Variant name index fields) = Values.Variant name.now index (map named fields)

-- the value with all that it borrows copied
abbrev pub owned_value : ValueRef → Value
owned_value = fold-ValueRef Value owned_step

-- a field with all that it borrows copied
abbrev pub field_of : Option (Bor Text) × ValueRef → Option Text × Value
field_of f = (option_copied f.0, owned_value f.1)

-- the value of an item
abbrev pub value_of : Item → Value
value_of (item.Held value) = owned_value value.now
value_of (item.Read value) = owned_value value
