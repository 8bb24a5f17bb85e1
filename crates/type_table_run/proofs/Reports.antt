-- What a line on the writer for errors says.
use Rattle.std.proofs.Common.{◌≡◌, ℕ, zero, suc, ◌+◌, ◌*◌, ◌<◌, ◌≤◌, ◌^◌, List, [], ◌∷◌, ◌++◌}
use Rattle.std.proofs.Common.{Option, None, Some, Bool, true, false, get_or, if◌then◌else◌, ◌==◌}
use Rattle.std.proofs.Common.{refl, sym, ap, ◌∙◌, arith, append-nil, append_assoc, take, drop}
use Rattle.std.proofs.Common.{take-append-drop, codes, subst}
use Rattle.std.proofs.lemmas.Bool.{false≢true}
use Rattle.std.proofs.lemmas.Fmt.{decimal_injective, decimal_is_IsNumeral}
use Rattle.std.proofs.lemmas.List.{append_cancel_left}
use Rattle.std.specs.Char.{digit_value}
use Rattle.std.specs.Fmt.{decimal}
use Rattle.std.specs.Str.Parse.{AllDigits}
use Rattle.type_table_io.specs.Commands.{HasCommand}
use Rattle.type_table_io.specs.declared.error.RunError.{RunError}
use Rattle.type_table_io.specs.declared.error.RunError.TheVariants.{Malformed, TrailingBytes}
use Rattle.type_table_io.specs.declared.error.RunError.TheVariants.{NoSuchType, Dangling, Memory}
use Rattle.type_table_io.specs.declared.error.RunError.TheVariants.{Input, Output}
use Rattle.type_table_io.specs.Lines.{HasSmallId, line_of, usage_line}
use Rattle.type_table_run.specs.Refusals.{Explains, Refuses}
use Rattle.type_table_io.specs.Reports.{AppendsPrefix, Reported}

-- an error without its id
abbrev kind_of : RunError → RunError
kind_of Malformed = Malformed
kind_of TrailingBytes = TrailingBytes
kind_of (NoSuchType id) = NoSuchType 0
kind_of (Dangling id) = Dangling 0
kind_of Memory = Memory
kind_of Input = Input
kind_of Output = Output

-- two places of a line at which no two kinds of lines agree
abbrev mark : List ℕ → ℕ
mark line = get_or line 12 0 + 1000 * get_or line 15 0

abbrev kind_at : ℕ → RunError
kind_at n =
    if n == mark (line_of Malformed) then Malformed
    else if n == mark (line_of TrailingBytes) then TrailingBytes
    else if n == mark (line_of (NoSuchType 0)) then NoSuchType 0
    else if n == mark (line_of (Dangling 0)) then Dangling 0
    else if n == mark (line_of Memory) then Memory
    else if n == mark (line_of Input) then Input
    else Output

-- a line of an error by its two places, which stay where more comes after them, and by its first
-- character
line_places : (error : RunError) (rest : List ℕ)
    → (kind_at (mark (line_of error)) ≡ kind_of error)
    × (mark (line_of error ++ rest) ≡ mark (line_of error))
    × (get_or (line_of error ++ rest) 0 0 ≡ 116)
line_places Malformed rest = (refl, refl, refl)
line_places TrailingBytes rest = (refl, refl, refl)
line_places (NoSuchType id) rest = (refl, refl, refl)
line_places (Dangling id) rest = (refl, refl, refl)
line_places Memory rest = (refl, refl, refl)
line_places Input rest = (refl, refl, refl)
line_places Output rest = (refl, refl, refl)

-- a line of an error begins with that of an error only where they are of one kind
same_kind : (f g : RunError) (rest : List ℕ) → line_of f ≡ line_of g ++ rest → kind_of f ≡ kind_of g
same_kind f g rest e =
    sym (line_places f rest).0
    ∙ ap kind_at (ap mark e ∙ (line_places g rest).1)
    ∙ (line_places g rest).0

-- a line feed is no digit
no_digit : (c : ℕ) → c ≡ 10 → digit_value c < 10 → ⊥
no_digit c is h = let fed : digit_value 10 < 10 = subst (λ d. digit_value d < 10) is h in omega (arith, fed)

-- digits that end before the same line feed are the same
same_digits : (ds es rest : List ℕ) → AllDigits 10 ds → AllDigits 10 es → ds ++ 10 ∷ [] ≡ es ++ 10 ∷ rest → ds ≡ es
same_digits [] [] rest d e is = refl
same_digits [] (y ∷ es) rest d e is = absurd (no_digit y (sym (ap (λ l. get_or l 0 0) is)) e.0)
same_digits (x ∷ ds) [] rest d e is = absurd (no_digit x (ap (λ l. get_or l 0 0) is) d.0)
same_digits (x ∷ ds) (y ∷ es) rest d e is =
    let head : x ≡ y = ap (λ l. get_or l 0 0) is in
    let tail = same_digits ds es rest d.1 e.1 (ap (drop 1) is) in
    ap (λ z. z ∷ ds) head ∙ ap (λ zs. y ∷ zs) tail

-- lines of one text that end with an id are of one id, where one begins the other
same_id : (text : List ℕ) (m n : ℕ) (rest : List ℕ) → m ≤ 4294967295 → n ≤ 4294967295
    → text ++ (decimal m ++ codes "\n") ≡ (text ++ (decimal n ++ codes "\n")) ++ rest → m ≡ n
same_id text m n rest few few' e =
    let after : decimal m ++ codes "\n" ≡ decimal n ++ (codes "\n" ++ rest) =
    append_cancel_left text _ _ (e ∙ append_assoc text (decimal n ++ codes "\n") rest ∙ ap (λ l. text ++ l) (append_assoc (decimal n) (codes "\n") rest)) in
    let small : m < 2 ^ 64 = omega arith in
    let small' : n < 2 ^ 64 = omega arith in
    decimal_injective m n small small'
    (same_digits (decimal m) (decimal n) rest (decimal_is_IsNumeral m small).0.1 (decimal_is_IsNumeral n small').0.1 after)

abbrev id_of : RunError → ℕ
id_of Malformed = 0
id_of TrailingBytes = 0
id_of (NoSuchType id) = id
id_of (Dangling id) = id
id_of Memory = 0
id_of Input = 0
id_of Output = 0

abbrev with_id : RunError → ℕ → RunError
with_id Malformed id = Malformed
with_id TrailingBytes id = TrailingBytes
with_id (NoSuchType old) id = NoSuchType id
with_id (Dangling old) id = Dangling id
with_id Memory id = Memory
with_id Input id = Input
with_id Output id = Output

with_id-kind : (error : RunError) → with_id (kind_of error) (id_of error) ≡ error
with_id-kind Malformed = refl
with_id-kind TrailingBytes = refl
with_id-kind (NoSuchType id) = refl
with_id-kind (Dangling id) = refl
with_id-kind Memory = refl
with_id-kind Input = refl
with_id-kind Output = refl

abbrev has_id : RunError → Bool
has_id Malformed = false
has_id TrailingBytes = false
has_id (NoSuchType id) = true
has_id (Dangling id) = true
has_id Memory = false
has_id Input = false
has_id Output = false

no_id : (g : RunError) → false ≡ has_id (kind_of g) → 0 ≡ id_of g
no_id Malformed e = refl
no_id TrailingBytes e = refl
no_id (NoSuchType id) e = absurd (false≢true e)
no_id (Dangling id) e = absurd (false≢true e)
no_id Memory e = refl
no_id Input e = refl
no_id Output e = refl

abbrev is_dangling : RunError → Bool
is_dangling (Dangling id) = true
is_dangling e = false

same_id_of : (f g : RunError) (rest : List ℕ) → HasSmallId f → HasSmallId g → kind_of f ≡ kind_of g → line_of f ≡ line_of g ++ rest → id_of f ≡ id_of g
same_id_of Malformed g rest sf sg k e = no_id g (ap has_id k)
same_id_of TrailingBytes g rest sf sg k e = no_id g (ap has_id k)
same_id_of Memory g rest sf sg k e = no_id g (ap has_id k)
same_id_of Input g rest sf sg k e = no_id g (ap has_id k)
same_id_of Output g rest sf sg k e = no_id g (ap has_id k)
same_id_of (NoSuchType m) (NoSuchType n) rest sf sg k e = same_id (codes "type_table: no such type ") m n rest sf sg e
same_id_of (NoSuchType m) (Dangling n) rest sf sg k e = absurd (false≢true (ap is_dangling k))
same_id_of (NoSuchType m) Malformed rest sf sg k e = absurd (false≢true (sym (ap has_id k)))
same_id_of (NoSuchType m) TrailingBytes rest sf sg k e = absurd (false≢true (sym (ap has_id k)))
same_id_of (NoSuchType m) Memory rest sf sg k e = absurd (false≢true (sym (ap has_id k)))
same_id_of (NoSuchType m) Input rest sf sg k e = absurd (false≢true (sym (ap has_id k)))
same_id_of (NoSuchType m) Output rest sf sg k e = absurd (false≢true (sym (ap has_id k)))
same_id_of (Dangling m) (Dangling n) rest sf sg k e = same_id (codes "type_table: dangling id ") m n rest sf sg e
same_id_of (Dangling m) (NoSuchType n) rest sf sg k e = absurd (false≢true (sym (ap is_dangling k)))
same_id_of (Dangling m) Malformed rest sf sg k e = absurd (false≢true (sym (ap has_id k)))
same_id_of (Dangling m) TrailingBytes rest sf sg k e = absurd (false≢true (sym (ap has_id k)))
same_id_of (Dangling m) Memory rest sf sg k e = absurd (false≢true (sym (ap has_id k)))
same_id_of (Dangling m) Input rest sf sg k e = absurd (false≢true (sym (ap has_id k)))
same_id_of (Dangling m) Output rest sf sg k e = absurd (false≢true (sym (ap has_id k)))

-- a line of an error begins with that of an error only where they are one
same_error : (f g : RunError) (rest : List ℕ) → HasSmallId f → HasSmallId g → line_of f ≡ line_of g ++ rest → f ≡ g
same_error f g rest sf sg e =
    let k = same_kind f g rest e in
    sym (with_id-kind f) ∙ ap (λ x. with_id x (id_of f)) k ∙ ap (with_id (kind_of g)) (same_id_of f g rest sf sg k e) ∙ with_id-kind g

-- what was reported begins the text of which a prefix was written
reported_prefix : (old new : Option (List ℕ)) (line text : List ℕ) (a : AppendsPrefix old new text) → Reported old new line → text ≡ line ++ drop a.count text
reported_prefix None new line text a reported = let known = reported.is_known in cc
reported_prefix (Some x) None line text a reported = absurd a.appends
reported_prefix (Some x) (Some y) line text a reported =
    sym (take-append-drop a.count text) ∙ ap (λ l. l ++ drop a.count text) (sym (append_cancel_left x line (take a.count text) (sym reported.appends ∙ a.appends)))

-- the line that was reported is that of the error of which a prefix was written
reported_error : (old new : Option (List ℕ)) (f g : RunError) → HasSmallId f → HasSmallId g → Reported old new (line_of g) → AppendsPrefix old new (line_of f) → f ≡ g
reported_error old new f g sf sg reported a = same_error f g (drop a.count (line_of f)) sf sg (reported_prefix old new (line_of g) (line_of f) a reported)

-- a prefix of the usage line reports no error
usage_reports_none : (old new : Option (List ℕ)) (g : RunError) → Reported old new (line_of g) → AppendsPrefix old new usage_line → ⊥
usage_reports_none old new g reported a =
    let first : 117 ≡ get_or (line_of g ++ drop a.count usage_line) 0 0 = ap (λ l. get_or l 0 0) (reported_prefix old new (line_of g) usage_line a reported) in
    omega (arith, (line_places g (drop a.count usage_line)).2)

-- a writer that is as before reports no error
unchanged_reports_none : (old : Option (List ℕ)) (g : RunError) → Reported old old (line_of g) → ⊥
unchanged_reports_none None g reported = let known = reported.is_known in cc
unchanged_reports_none (Some x) g reported =
    let none : line_of g ≡ [] = append_cancel_left x (line_of g) [] (sym reported.appends ∙ sym (append-nil x)) in
    let first : get_or (line_of g ++ []) 0 0 ≡ 0 = ap (λ l. get_or (l ++ []) 0 0) none in
    omega (arith, (line_places g []).2)

-- an error whose line was reported explains what the command did, by what is known of each status
pub explained : {F : Type 0} (contents : F → Option (List ℕ)) (errors_old errors_new : F) (status : ℕ) (arguments : List (List ℕ)) (input output_old output_new : Option (List ℕ)) (g : RunError)
    → HasSmallId g
    → status ≤ 2
    → (status ≡ 0 → errors_new ≡ errors_old)
    → (status ≡ 1 → HasCommand arguments (λ command. Refuses command input output_old output_new (contents errors_old) (contents errors_new)))
    → (status ≡ 2 → AppendsPrefix (contents errors_old) (contents errors_new) usage_line)
    → Reported (contents errors_old) (contents errors_new) (line_of g)
    → HasCommand arguments (λ command. Explains command input output_old output_new g)
explained contents errors_old errors_new zero arguments input output_old output_new g small bound done refused usage reported =
    absurd (unchanged_reports_none (contents errors_old) g (subst (λ new. Reported (contents errors_old) (contents new) (line_of g)) (done refl) reported))
explained contents errors_old errors_new (suc zero) arguments input output_old output_new g small bound done refused usage reported =
    let it = refused refl in
    let same = reported_error (contents errors_old) (contents errors_new) it.holds.error g it.holds.small small reported it.holds.reports in
    record {
      command = it.command;
      names = it.names;
      holds = subst (Explains it.command input output_old output_new) same it.holds.explains;
    }
explained contents errors_old errors_new (suc (suc zero)) arguments input output_old output_new g small bound done refused usage reported =
    absurd (usage_reports_none (contents errors_old) (contents errors_new) g reported (usage refl))
explained contents errors_old errors_new (suc (suc (suc n))) arguments input output_old output_new g small bound done refused usage reported =
    absurd (omega (arith, bound))
