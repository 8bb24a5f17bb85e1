use Rattle.example_callers.proofs.Resolved.{same_bytes}
use Rattle.std.proofs.Common.{[]}
use Rattle.example_callers.proofs.facts.written_and_read.Goals as goal

pub returns : goal.returns
returns c =
    let written = c.in_ok-encode.ensures.ok in
    let read = c.in_ok-read.ensures.ok in
    (c.one_text.ensures.prefix_free _ _ read.encoding written.encoding _ [] read.encodes written.encodes
    (same_bytes _ read.encoding _ _ _ written.encoding read.parts c.deref.ensures.value written.parts c.new-bytes.ensures.items)).1
