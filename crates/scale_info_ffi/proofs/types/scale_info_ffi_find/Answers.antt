use Rattle.std.proofs.Common.{refl}
use Rattle.scale_info_calls.specs.declared.error.CallError.TheVariants as errors
use Rattle.scale_info_ffi.proofs.Statuses.{error_at}
use Rattle.scale_info_ffi.proofs.types.scale_info_ffi_find.Goals as goal

pub returns-clause-no_room : goal.returns-clause-no_room
returns-clause-no_room c is =
    (error_at _ c.find.result c.answer.result c.answer.new.count 6 (errors.NoRoom c.answer.new.count)
    refl
    (record { has_status = c.answer.ensures.status; has_count = c.answer.ensures.count })
    c.find.ensures.err is).0
