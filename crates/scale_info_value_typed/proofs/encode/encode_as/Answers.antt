use Rattle.std.proofs.Common.{rules, ◌≡◌, ℕ, List, [], Option, Some, ap, sym, ◌∙◌}
use Rattle.std.specs.Prelude.{OnOk}
use Rattle.std.proofs.lemmas.List.{append-nil}
use Rattle.std.proofs.lemmas.Result.{on_ok_weaker}
use Rattle.scale_info_table.specs.declared.portable.PortableRegistry.{PortableRegistry}
use Rattle.scale_info_value.specs.declared.value.Value.{Value}
use Rattle.scale_info_value.specs.Outcomes.{decoded, outcome_map}
use Rattle.scale_info_value.specs.Readings.{reading}
use Rattle.scale_info_value_encode.specs.Writers.{written, Appends}
use Rattle.scale_info_value_encode.specs.Writings.{writing}
use Rattle.scale_info_value_encode.proofs.Levels.{read_back}
use Rattle.scale_info_value_typed.proofs.encode.encode_as.Goals as goal

-- the bytes of a value are read as what the value is
read_as :
    {A : Type 0} (meant : Value → Option A) (table : PortableRegistry) (id : ℕ) (value : Value) (bytes : List ℕ) (x : A)
    → writing table id 1 value ≡ written bytes → meant value ≡ Some x
    → outcome_map meant (reading table id 1 bytes) ≡ decoded (Some x) []
read_as meant table id value bytes x e h =
    ap (λ b. outcome_map meant (reading table id 1 b)) (sym (append-nil bytes))
    ∙ ap (outcome_map meant) (read_back table id 1 value bytes e []) ∙ (λ i. decoded (h i) [])

pub returns-clause-read : goal.returns-clause-read
returns-clause-read g c =
    let value = c.in_ok-standing.standing in
    let appended : OnOk c.map_err.result
    (Appends (writing (g.D.Definitions.table c.args.table.now) c.args.id 1 value) c.args.out.now.items c.encode_value.new.out.items) =
    search rules
    in
    on_ok_weaker c.map_err.result
    (λ a. record {
      encoding = a.encoding;
      encodes =
          read_as g.T.Shown.meant (g.D.Definitions.table c.args.table.now) c.args.id value a.encoding (g.T.Shown.seen c.args.value.now)
          a.encodes (search rules);
      parts = a.parts;
    })
    appended
