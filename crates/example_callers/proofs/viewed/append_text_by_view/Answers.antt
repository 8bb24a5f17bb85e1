use Rattle.std.proofs.Common.{sym, ◌∙◌}
use Rattle.scale_info.specs.LoadedLaws.{alone_reached}
use Rattle.example_callers.proofs.viewed.append_text_by_view.Goals as goal

pub returns : goal.returns
returns c =
    let alike = c.in_ok-types.ensures.alike c.args.id (alone_reached c.args.view.now c.args.id) in
    let appended = c.in_ok-rest.ensures.ok in
    record {
      value = appended.value;
      read = sym (alike.reads 1 c.args.input.now) ∙ appended.read;
      appended = rw (sym (alike.shows appended.value)) appended.appended;
    }
