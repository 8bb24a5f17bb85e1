use Rattle.std.proofs.Common.{◌≡◌, refl, inl, inr, [], ◌∷◌, Some, None, sym, ap, arith, subst, option_map}
use Rattle.std.proofs.lemmas.Result.{on_ok_weaker}
use Rattle.std.specs.Prelude.{⊤}
use Rattle.json.specs.Token.{Token}
use Rattle.json.specs.Json.{after_end_array, read_key}
use Rattle.json.specs.Reads.{token_of}
use Rattle.json.proofs.Grammar.{read_key-shorter}
use Rattle.serde_json.specs.Data.{Data, boolean, number, string, null}
use Rattle.serde_json.specs.Find.{as_u64}
use Rattle.serde_json.specs.Read.{number_of}
use Rattle.scale_info_json_text.specs.Readings.{Reads, HasNoTree}
use Rattle.scale_info_json_text.proofs.Stops.{passed_syntax, syntax_anyway, syntax_weaker}
use Rattle.scale_info_json_text.proofs.Trees.{reads_shorter, alone, begins_none, some_number, alone_reads, none_begins, none_in_nothing}
use Rattle.scale_info_json_text.proofs.Trees.{no_depth, array_reads, no_array, object_reads, no_object}
use Rattle.scale_info_json_text.proofs.Trees.{items_start, items_next, items_stop, items_done}
use Rattle.scale_info_json_text.proofs.Trees.{members_start, members_next, members_no_key, members_stop, members_done}
use Rattle.scale_info_json_text.proofs.pass.+pass.Goals as goal

pub pass_items-items-init : goal.pass_items-items-init
pass_items-items-init t c = items_start (λ _. ⊤) c.args.depth c.args.reader.now tt

pub pass_items-items-smaller : goal.pass_items-items-smaller
pass_items-items-smaller t c =
    let going : (after_end_array c.items.reader ≡ None) × (c.take_end_array.new.self ≡ c.items.reader) = grind arith in
    rw going.1 at (reads_shorter c.args.depth c.take_end_array.new.self c.pass_value.new.reader c.in_ok-pass_value.ensures.ok)

pub pass_items-items-preserved : goal.pass_items-items-preserved
pass_items-items-preserved t c =
    let going : (after_end_array c.items.reader ≡ None) × (c.take_end_array.new.self ≡ c.items.reader) = grind arith in
    items_next c.args.depth c.args.reader.now c.items.reader c.pass_value.new.reader c.items.invariant going.0 (rw going.1 at c.in_ok-pass_value.ensures.ok) (λ ds d p q. tt)

pub pass_items-returns-in_err-pass_value-clause-syntax : goal.pass_items-returns-in_err-pass_value-clause-syntax
pass_items-returns-in_err-pass_value-clause-syntax t c =
    let going : (after_end_array c.items.reader ≡ None) × (c.take_end_array.new.self ≡ c.items.reader) = grind arith in
    passed_syntax c.from_residual.result c.in_err-pass_value.field-0.0 c.from_residual.ensures.1
    (λ e. items_stop c.args.depth c.args.reader.now c.items.reader c.items.invariant going.0 (rw going.1 at e))
    c.in_err-pass_value.ensures.syntax

pub pass_items-returns-clause-ok : goal.pass_items-returns-clause-ok
pass_items-returns-clause-ok t c = items_done c.args.depth c.args.reader.now c.items.reader c.take_end_array.new.self c.items.invariant (grind arith)

pub pass_members-members-init : goal.pass_members-members-init
pass_members-members-init t c = members_start (λ _. ⊤) c.args.depth c.args.reader.now tt

pub pass_members-returns-in_err-next_key-clause-syntax : goal.pass_members-returns-in_err-next_key-clause-syntax
pass_members-returns-in_err-next_key-clause-syntax t c =
    syntax_anyway c.from_residual.result
    (members_no_key c.args.depth c.args.reader.now c.members.reader c.members.invariant c.in_err-next_key.ensures.value)

pub pass_members-members-smaller : goal.pass_members-members-smaller
pass_members-members-smaller t c =
    let s = c.next_key.new.self in
    let k = c.in-Some.field-0.now in
    let named : read_key c.members.reader ≡ Some (Some k, s) = grind arith in
    let less = read_key-shorter c.members.reader (Some k) s named in
    let lesser = reads_shorter c.args.depth s c.pass_value.new.reader c.in_ok-pass_value.ensures.ok in
    omega (arith, less, lesser)

pub pass_members-members-preserved : goal.pass_members-members-preserved
pass_members-members-preserved t c =
    let s = c.next_key.new.self in
    let k = c.in-Some.field-0.now in
    let named : read_key c.members.reader ≡ Some (Some k, s) = grind arith in
    members_next c.args.depth c.args.reader.now c.members.reader s c.pass_value.new.reader k c.members.invariant named c.in_ok-pass_value.ensures.ok (λ ms d p q. tt)

pub pass_members-returns-in_err-pass_value-clause-syntax : goal.pass_members-returns-in_err-pass_value-clause-syntax
pass_members-returns-in_err-pass_value-clause-syntax t c =
    let s = c.next_key.new.self in
    let k = c.in-Some.field-0.now in
    let named : read_key c.members.reader ≡ Some (Some k, s) = grind arith in
    passed_syntax c.from_residual-in_err-pass_value.result c.in_err-pass_value.field-0.0 c.from_residual-in_err-pass_value.ensures.1
    (λ e. members_stop c.args.depth c.args.reader.now c.members.reader s k c.members.invariant named e)
    c.in_err-pass_value.ensures.syntax

pub pass_members-returns-clause-ok : goal.pass_members-returns-clause-ok
pass_members-returns-clause-ok t c = members_done c.args.depth c.args.reader.now c.members.reader c.next_key.new.self c.members.invariant (grind arith)

pub pass_rest-returns-in_err-unsigned-in-Number-clause-syntax : goal.pass_rest-returns-in_err-unsigned-in-Number-clause-syntax
pass_rest-returns-in_err-unsigned-in-Number-clause-syntax t c =
    passed_syntax c.from_residual.result c.in_err-unsigned-in-Number.field-0.0 c.from_residual.ensures.1
    (λ e. subst (λ k. HasNoTree c.args.depth (token_of k ∷ c.args.reader.now)) (sym c.in-Number.is) (none_begins c.args.depth (Token.number c.in-Number.text.now) c.args.reader.now e))
    c.in_err-unsigned-in-Number.ensures.syntax

pub pass_rest-returns-in-String-clause-ok : goal.pass_rest-returns-in-String-clause-ok
pass_rest-returns-in-String-clause-ok t c =
    let reads : (k : Token) (tree : Data) → token_of c.args.token ≡ k → alone k ≡ Some tree → Reads (λ _. ⊤) c.args.depth (token_of c.args.token ∷ c.args.reader.now) c.args.reader.now =
    λ k tree e a. subst (λ h. Reads (λ _. ⊤) c.args.depth (h ∷ c.args.reader.now) c.args.reader.now) (sym e) (alone_reads (λ _. ⊤) c.args.depth k tree c.args.reader.now a tt) in
    elim c.in-String.is [
      | inl s ↦ reads (Token.string s.0.now) (string s.0.now) (ap token_of s.1) refl
      | inr rest ↦ elim rest [
        | inl b ↦ reads (Token.boolean b.0) (boolean b.0) (ap token_of b.1) refl
        | inr n ↦ reads Token.null null (ap token_of n) refl
      ]
    ]

pub pass_rest-returns-in_ok-unsigned-in-Number-clause-ok : goal.pass_rest-returns-in_ok-unsigned-in-Number-clause-ok
pass_rest-returns-in_ok-unsigned-in-Number-clause-ok t c =
    let n = some_number as_u64 (number_of c.in-Number.text.now) c.in_ok-unsigned-in-Number.field-0 c.in_ok-unsigned-in-Number.ensures.ok in
    subst (λ k. Reads (λ _. ⊤) c.args.depth (token_of k ∷ c.args.reader.now) c.args.reader.now) (sym c.in-Number.is)
    (alone_reads (λ _. ⊤) c.args.depth (Token.number c.in-Number.text.now) (number n.0) c.args.reader.now (ap (option_map number) n.1) tt)

pub pass_rest-returns-in-EndObject-clause-syntax : goal.pass_rest-returns-in-EndObject-clause-syntax
pass_rest-returns-in-EndObject-clause-syntax t c =
    let none : (k : Token) → token_of c.args.token ≡ k → begins_none k → HasNoTree c.args.depth (token_of c.args.token ∷ c.args.reader.now) =
    λ k e a. subst (λ h. HasNoTree c.args.depth (h ∷ c.args.reader.now)) (sym e) (none_begins c.args.depth k c.args.reader.now a) in
    elim c.in-EndObject.is [
      | inl o ↦ none Token.end_object (ap token_of o) tt
      | inr rest ↦ elim rest [
        | inl a ↦ none Token.end_array (ap token_of a) tt
        | inr more ↦ elim more [
          | inl k ↦ none (Token.key k.0.now) (ap token_of k.1) tt
          | inr b ↦ none Token.bad (ap token_of b) tt
        ]
      ]
    ]

pub pass_rest-returns-then-depth-eq0-clause-syntax : goal.pass_rest-returns-then-depth-eq0-clause-syntax
pass_rest-returns-then-depth-eq0-clause-syntax t c =
    subst (λ k. HasNoTree c.args.depth (token_of k ∷ c.args.reader.now)) (sym c.in-BeginArray.is) (no_depth c.args.depth Token.begin_array c.args.reader.now (omega arith) tt)

pub pass_rest-returns-else-depth-eq0-clause-ok : goal.pass_rest-returns-else-depth-eq0-clause-ok
pass_rest-returns-else-depth-eq0-clause-ok t c =
    on_ok_weaker c.pass_items.result
    (λ h. subst (λ k. Reads (λ _. ⊤) c.args.depth (token_of k ∷ c.args.reader.now) c.pass_items.new.reader) (sym c.in-BeginArray.is)
    (array_reads c.args.depth c.args.reader.now c.pass_items.new.reader (omega arith) (λ ds p. tt) h))
    c.pass_items.ensures.ok

pub pass_rest-returns-else-depth-eq0-clause-syntax : goal.pass_rest-returns-else-depth-eq0-clause-syntax
pass_rest-returns-else-depth-eq0-clause-syntax t c =
    syntax_weaker c.pass_items.result
    (λ e. subst (λ k. HasNoTree c.args.depth (token_of k ∷ c.args.reader.now)) (sym c.in-BeginArray.is) (no_array c.args.depth c.args.reader.now (omega arith) e))
    c.pass_items.ensures.syntax

pub pass_rest-returns-then-depth-eq0-2-clause-syntax : goal.pass_rest-returns-then-depth-eq0-2-clause-syntax
pass_rest-returns-then-depth-eq0-2-clause-syntax t c =
    subst (λ k. HasNoTree c.args.depth (token_of k ∷ c.args.reader.now)) (sym c.in-BeginObject.is) (no_depth c.args.depth Token.begin_object c.args.reader.now (omega arith) tt)

pub pass_rest-returns-else-depth-eq0-2-clause-ok : goal.pass_rest-returns-else-depth-eq0-2-clause-ok
pass_rest-returns-else-depth-eq0-2-clause-ok t c =
    on_ok_weaker c.pass_members.result
    (λ h. subst (λ k. Reads (λ _. ⊤) c.args.depth (token_of k ∷ c.args.reader.now) c.pass_members.new.reader) (sym c.in-BeginObject.is)
    (object_reads c.args.depth c.args.reader.now c.pass_members.new.reader (omega arith) (λ ms p. tt) h))
    c.pass_members.ensures.ok

pub pass_rest-returns-else-depth-eq0-2-clause-syntax : goal.pass_rest-returns-else-depth-eq0-2-clause-syntax
pass_rest-returns-else-depth-eq0-2-clause-syntax t c =
    syntax_weaker c.pass_members.result
    (λ e. subst (λ k. HasNoTree c.args.depth (token_of k ∷ c.args.reader.now)) (sym c.in-BeginObject.is) (no_object c.args.depth c.args.reader.now (omega arith) e))
    c.pass_members.ensures.syntax

pub pass_value-returns-in_err-token-clause-syntax : goal.pass_value-returns-in_err-token-clause-syntax
pass_value-returns-in_err-token-clause-syntax t c =
    let empty : c.args.reader.now ≡ [] = grind arith in
    syntax_anyway c.from_residual.result (subst (λ ts. HasNoTree c.args.depth ts) (sym empty) (none_in_nothing c.args.depth))
