-- Descriptions whose strings are borrowed, with these strings owned.
use Rattle.std.specs.Borrow.{Bor}
use Rattle.scale_info_borrowed_form.specs.declared.form.BorrowedForm.{BorrowedForm}
use Rattle.scale_info_types.specs.Portable as portable
use Rattle.scale_info_types.specs.Portable.{Id, Text}
use Rattle.scale_info_types.specs.Shapes.{map_description}
use Rattle.scale_info_types.specs.declared.ty.Description.{Description}

-- a description whose strings are borrowed
abbrev pub BorrowedDescription : Type 0
BorrowedDescription = Description BorrowedForm Id (Bor Text)

-- the description with its strings owned
abbrev pub owned_description : BorrowedDescription → portable.Description
owned_description ty = map_description (λ id. id) (λ text. text.now) ty
