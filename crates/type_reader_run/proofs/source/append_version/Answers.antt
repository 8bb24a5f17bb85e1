use Rattle.std.proofs.Common.{◌≡◌, ◌++◌, ◌∙◌, ℕ, List, Err, Ok, OnOk, Result, ap, append_assoc, codes}
use Rattle.std.proofs.Common.{decimal, if◌then◌else◌, is_ok, string_bytes}
use Rattle.type_reader_run.proofs.source.append_version.Goals as goal

-- one text was appended, and then, on an Ok, another
appended :
    {T E : Type 0} (result : Result T E) (old middle new first second text : List ℕ)
    → middle ≡ old ++ first → new ≡ (if is_ok result then middle ++ second else middle)
    → second ≡ text → OnOk result (new ≡ old ++ (first ++ text))
appended (Ok value) old middle new first second text one two same =
    two ∙ ap (λ l. l ++ second) one ∙ append_assoc old first second
    ∙ ap (λ t. old ++ (first ++ t)) same
appended (Err error) old middle new first second text one two same = tt

pub returns : goal.returns
returns c =
    appended c.push_str-2.result (string_bytes c.args.out.now) (string_bytes c.push_str.new.self)
    (string_bytes c.push_str-2.new.self) (codes "metadata of version ") c.format.result.now
    (decimal c.args.version) c.in_ok-push_str.ensures.bytes c.push_str-2.ensures.bytes
    c.format.ensures.text
