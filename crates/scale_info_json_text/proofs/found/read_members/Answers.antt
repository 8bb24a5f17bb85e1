use Rattle.std.proofs.Common.{◌≡◌, Some, arith}
use Rattle.json.specs.Json.{read_key}
use Rattle.json.proofs.Grammar.{read_key-shorter}
use Rattle.scale_info_json_text.proofs.Stops.{passed_syntax, syntax_anyway}
use Rattle.scale_info_json_text.proofs.Trees.{reads_shorter, members_start, members_next, members_no_key, members_stop, members_done}
use Rattle.scale_info_json_text.proofs.found.read_members.Goals as goal

pub members-init : goal.members-init
members-init g c = members_start _ c.args.depth c.args.source.now.reader (c.nothing-found.ensures c.args.keys)

pub returns-in_err-key-clause-syntax : goal.returns-in_err-key-clause-syntax
returns-in_err-key-clause-syntax g c =
    syntax_anyway c.from_residual.result
    (members_no_key c.args.depth c.args.source.now.reader c.members.source.reader c.members.invariant c.in_err-key.ensures.value)

pub members-smaller : goal.members-smaller
members-smaller g c =
    let s = c.next_key.new.self in
    let k = c.in-Some.key.now in
    let named : read_key c.members.source.reader ≡ Some (Some k, s) = grind arith in
    let less = read_key-shorter c.members.source.reader (Some k) s named in
    let lesser = reads_shorter c.args.depth s c.read_or_pass.new.source.reader c.in_ok-read_or_pass.ensures.ok in
    omega (arith, less, lesser)

pub members-preserved : goal.members-preserved
members-preserved g c =
    let s = c.next_key.new.self in
    let k = c.in-Some.key.now in
    let named : read_key c.members.source.reader ≡ Some (Some k, s) = grind arith in
    members_next c.args.depth c.args.source.now.reader c.members.source.reader s c.read_or_pass.new.source.reader k c.members.invariant named c.in_ok-read_or_pass.ensures.ok (λ ms d p q. q ms p)

pub returns-in_err-read_or_pass-clause-syntax : goal.returns-in_err-read_or_pass-clause-syntax
returns-in_err-read_or_pass-clause-syntax g c =
    let s = c.next_key.new.self in
    let k = c.in-Some.key.now in
    let named : read_key c.members.source.reader ≡ Some (Some k, s) = grind arith in
    passed_syntax c.from_residual-in_err-read_or_pass.result c.in_err-read_or_pass.field-0.0 c.from_residual-in_err-read_or_pass.ensures.1
    (λ e. members_stop c.args.depth c.args.source.now.reader c.members.source.reader s k c.members.invariant named e)
    c.in_err-read_or_pass.ensures.syntax

pub returns-clause-ok : goal.returns-clause-ok
returns-clause-ok g c =
    members_done c.args.depth c.args.source.now.reader c.members.source.reader c.next_key.new.self c.members.invariant (grind arith)
