use Rattle.std.proofs.Common.{sym, subst}
use Rattle.scale_info_segments.specs.Identifiers.{IsPlainIdentifier}
use Rattle.scale_info_segments.proofs.Identifiers.{identifier_from_trimmed}
use Rattle.scale_info_segments.proofs.utils.is_rust_identifier.Goals as goal

pub returns : goal.returns
returns c =
    let trimmed =
    identifier_from_trimmed c.args.text.now c.trim_start_matches.result.now
    c.trim_start_matches.ensures.matches in
    let same = c.as_bytes.ensures.value in (
      λ yes. trimmed.0 (subst IsPlainIdentifier same (c.is_plain_identifier.ensures.0 yes)),
      λ is. c.is_plain_identifier.ensures.1 (subst IsPlainIdentifier (sym same) (trimmed.1 is)),
    )
