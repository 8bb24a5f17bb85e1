-- Of which error a line is.
use Rattle.std.proofs.Common.{◌≡◌, ◌+◌, ◌*◌, ◌<◌, ◌≤◌, ◌^◌, ◌++◌, ◌∙◌, ◌==◌, ◌||◌, ℕ, List, [], ◌∷◌}
use Rattle.std.proofs.Common.{Bool, true, false, ap, append-nil, append_assoc, arith, codes, decimal}
use Rattle.std.proofs.Common.{drop, eqb, get_or, if◌then◌else◌, leb, leb-true, ne_eqb, not, refl, subst, sym}
use Rattle.std.proofs.Common.{take, take-append-drop}
use Rattle.std.proofs.lemmas.Fmt.{decimal_injective, decimal_is_IsNumeral}
use Rattle.std.proofs.lemmas.List.{append_cancel_left}
use Rattle.std.proofs.lemmas.List.Elements.{All-from_get_or}
use Rattle.std.proofs.lemmas.List.Splits.{slice_split_at}
use Rattle.std.proofs.lemmas.Str.Parse.{digit_at}
use Rattle.std.specs.List.{slice_split}
use Rattle.std.specs.Str.Parse.{AllDigits}
use Rattle.type_reader_io.specs.declared.error.ReaderError.{ReaderError}
use Rattle.type_reader_io.specs.declared.error.ReaderError.TheVariants as errors
use Rattle.type_reader_io.specs.declared.error.ValueFault.{ValueFault}
use Rattle.type_reader_io.specs.declared.error.ValueFault.TheVariants as faults
use Rattle.type_reader_io.specs.Inputs.{IsWithoutFeed}
use Rattle.type_reader_io.specs.Lines.{HasSmallNumber, IsPathStart, IsReportedAs, fault_text}
use Rattle.type_reader_io.specs.Lines.{line_of}
use Rattle.type_table_io.specs.Lines.{line_with}

-- an error without what it holds
abbrev kind_of : ReaderError → ReaderError
kind_of errors.Malformed = errors.Malformed
kind_of errors.TrailingBytes = errors.TrailingBytes
kind_of (errors.Version version) = errors.Version 0
kind_of (errors.NoSuchType id) = errors.NoSuchType 0
kind_of (errors.NoSuchPath path) = errors.NoSuchPath []
kind_of (errors.SharedPath path) = errors.SharedPath []
kind_of (errors.NoValue fault) = errors.NoValue faults.NoDigits
kind_of (errors.Dangling id) = errors.Dangling 0
kind_of errors.Memory = errors.Memory
kind_of errors.Input = errors.Input
kind_of errors.Output = errors.Output

-- places of a line at which no two kinds of lines agree
abbrev mark : List ℕ → ℕ
mark line =
    get_or line 13 0 + 1000 * get_or line 14 0 + 1000000 * get_or line 16 0
    + 1000000000 * get_or line 21 0

abbrev kind_at : ℕ → ReaderError
kind_at n =
    if n == mark (line_of errors.Malformed) then errors.Malformed
    else if n == mark (line_of errors.TrailingBytes) then errors.TrailingBytes
    else if n == mark (line_of (errors.Version 0)) then errors.Version 0
    else if n == mark (line_of (errors.NoSuchType 0)) then errors.NoSuchType 0
    else if n == mark (line_of (errors.NoSuchPath [])) then errors.NoSuchPath []
    else if n == mark (line_of (errors.SharedPath [])) then errors.SharedPath []
    else if n == mark (line_of (errors.NoValue faults.NoDigits)) then errors.NoValue faults.NoDigits
    else if n == mark (line_of (errors.Dangling 0)) then errors.Dangling 0
    else if n == mark (line_of errors.Memory) then errors.Memory
    else if n == mark (line_of errors.Input) then errors.Input
    else errors.Output

-- What a line shows in its first places: the kind of an error, and the name of the program; whether
-- the word after the name begins with a small letter, whether with an `l`, and whether an `r` comes
-- second where a `t` comes first.
record Signs : Type 0 where
  kind : ReaderError
  name : List ℕ
  small : Bool
  line : Bool
  trailing : Bool

abbrev signs : List ℕ → Signs
signs line = record {
  kind = kind_at (mark line);
  name = take 13 line;
  small = leb 97 (get_or line 13 0);
  line = eqb (get_or line 13 0) 108;
  trailing = not (eqb (get_or line 13 0) 116) || eqb (get_or line 14 0) 114;
}

-- what the line of an error shows
abbrev signs_of : ReaderError → Signs
signs_of error = record {
  kind = kind_of error;
  name = codes "type_reader: ";
  small = true;
  line = false;
  trailing = true;
}

-- it shows that also where more comes after it
shown_before :
    (error : ReaderError) (rest : List ℕ) → signs (line_of error ++ rest) ≡ signs_of error
shown_before errors.Malformed rest = refl
shown_before error rest = refl

shown : (error : ReaderError) → signs (line_of error) ≡ signs_of error
shown error = ap signs (sym (append-nil (line_of error))) ∙ shown_before error []

-- the word after the name begins with a small letter
pub small_letter : (error : ReaderError) → 97 ≤ get_or (line_of error) 13 0
small_letter error = leb-true 97 (get_or (line_of error) 13 0) (ap (λ s. s.small) (shown error))

-- it is none of `line`
pub no_line : (error : ReaderError) → eqb (get_or (line_of error) 13 0) 108 ≡ false
no_line error = ap (λ s. s.line) (shown error)

-- and `trailing` if it begins with its first letter
pub trailing :
    (error : ReaderError)
    → (not (eqb (get_or (line_of error) 13 0) 116) || eqb (get_or (line_of error) 14 0) 114) ≡ true
trailing error = ap (λ s. s.trailing) (shown error)

-- a line of an error begins with the name of the program
pub named :
    (error : ReaderError) → line_of error ≡ codes "type_reader: " ++ drop 13 (line_of error)
named error =
    sym (take-append-drop 13 (line_of error))
    ∙ ap (λ s. s.name ++ drop 13 (line_of error)) (shown error)

-- a line of an error begins with that of an error only where they are of one kind
same_kind :
    (f g : ReaderError) (rest : List ℕ) → line_of f ≡ line_of g ++ rest → kind_of f ≡ kind_of g
same_kind f g rest e =
    ap (λ s. s.kind) (sym (shown f) ∙ ap signs e ∙ shown_before g rest)

-- what an error holds
abbrev number_of : ReaderError → ℕ
number_of (errors.Version version) = version
number_of (errors.NoSuchType id) = id
number_of (errors.Dangling id) = id
number_of error = 0

abbrev path_of : ReaderError → List ℕ
path_of (errors.NoSuchPath path) = path
path_of (errors.SharedPath path) = path
path_of error = []

abbrev fault_of : ReaderError → ValueFault
fault_of (errors.NoValue fault) = fault
fault_of error = faults.NoDigits

abbrev made_of : ReaderError → ℕ → List ℕ → ValueFault → ReaderError
made_of (errors.Version v) number path fault = errors.Version number
made_of (errors.NoSuchType id) number path fault = errors.NoSuchType number
made_of (errors.Dangling id) number path fault = errors.Dangling number
made_of (errors.NoSuchPath p) number path fault = errors.NoSuchPath path
made_of (errors.SharedPath p) number path fault = errors.SharedPath path
made_of (errors.NoValue f) number path fault = errors.NoValue fault
made_of error number path fault = error

made_again :
    (error : ReaderError)
    → made_of (kind_of error) (number_of error) (path_of error) (fault_of error) ≡ error
made_again errors.Malformed = refl
made_again error = refl

-- an error of this kind
of_kind :
    (f g : ReaderError) → kind_of f ≡ kind_of g
    → f ≡ made_of (kind_of g) (number_of f) (path_of f) (fault_of f)
of_kind f g same =
    sym (made_again f) ∙ ap (λ k. made_of k (number_of f) (path_of f) (fault_of f)) same

-- no digit is a line feed
digits_without_feed : (digits : List ℕ) → AllDigits 10 digits → IsWithoutFeed digits
digits_without_feed digits all =
    All-from_get_or (λ byte. (byte == 10) ≡ false) digits 0
    (λ i few.
    let from : 48 ≤ get_or digits i 0 = (digit_at digits i all few).0 in
    ne_eqb (get_or digits i 0) 10 (λ is. omega (arith, is, from)))

-- digits before a line feed are the first part
first_part :
    (digits rest : List ℕ) → AllDigits 10 digits
    → get_or (slice_split (λ b. b == 10) (digits ++ 10 ∷ rest)) 0 [] ≡ digits
first_part digits rest all =
    ap (λ parts. get_or parts 0 [])
    (slice_split_at (λ b. b == 10) digits 10 rest (digits_without_feed digits all) refl)

-- digits that end before the same line feed are the same
same_digits :
    (ds es rest : List ℕ) → AllDigits 10 ds → AllDigits 10 es → ds ++ 10 ∷ [] ≡ es ++ 10 ∷ rest
    → ds ≡ es
same_digits ds es rest d e is =
    sym (first_part ds [] d)
    ∙ ap (λ l. get_or (slice_split (λ b. b == 10) l) 0 []) is
    ∙ first_part es rest e

-- what comes after the same text
after_text :
    (text a b rest : List ℕ) → line_with text a ≡ line_with text b ++ rest
    → a ++ codes "\n" ≡ (b ++ codes "\n") ++ rest
after_text text a b rest e =
    append_cancel_left text _ _ (e ∙ append_assoc text (b ++ codes "\n") rest)

-- lines of one text that end with a number are of one number, where one begins the other
same_number :
    (text : List ℕ) (m n : ℕ) (rest : List ℕ) → m ≤ 4294967295 → n ≤ 4294967295
    → line_with text (decimal m) ≡ line_with text (decimal n) ++ rest → m ≡ n
same_number text m n rest few few' e =
    let after =
    after_text text (decimal m) (decimal n) rest e ∙ append_assoc (decimal n) (codes "\n") rest in
    let small : m < 2 ^ 64 = omega arith in
    let small' : n < 2 ^ 64 = omega arith in
    decimal_injective m n small small'
    (same_digits (decimal m) (decimal n) rest (decimal_is_IsNumeral m small).0.1
    (decimal_is_IsNumeral n small').0.1 after)

-- places of the words of a fault at which no two agree
abbrev fault_mark : List ℕ → ℕ
fault_mark line = get_or line 0 0 + 1000 * get_or line 1 0 + 1000000 * get_or line 3 0

abbrev fault_at : ℕ → ValueFault
fault_at n =
    if n == fault_mark (fault_text faults.NoDigits) then faults.NoDigits
    else if n == fault_mark (fault_text faults.NoJson) then faults.NoJson
    else if n == fault_mark (fault_text faults.NoSuchType) then faults.NoSuchType
    else if n == fault_mark (fault_text faults.Unsupported) then faults.Unsupported
    else if n == fault_mark (fault_text faults.TooDeep) then faults.TooDeep
    else if n == fault_mark (fault_text faults.Malformed) then faults.Malformed
    else if n == fault_mark (fault_text faults.TrailingBytes) then faults.TrailingBytes
    else faults.Mismatch

fault_places : (fault : ValueFault) (rest : List ℕ) → fault_at (fault_mark (fault_text fault ++ rest)) ≡ fault
fault_places faults.NoDigits rest = refl
fault_places fault rest = refl

same_fault :
    (a b : ValueFault) (rest : List ℕ)
    → fault_text a ++ codes "\n" ≡ (fault_text b ++ codes "\n") ++ rest → a ≡ b
same_fault a b rest e =
    sym (fault_places a (codes "\n"))
    ∙ ap (λ l. fault_at (fault_mark l)) (e ∙ append_assoc (fault_text b) (codes "\n") rest)
    ∙ fault_places b (codes "\n" ++ rest)

-- a line of an error begins with that of an error only where it is reported as that
pub same_error :
    (f g : ReaderError) (rest : List ℕ) → HasSmallNumber f → HasSmallNumber g
    → line_of f ≡ line_of g ++ rest → IsReportedAs g f
same_error f g rest sf sg e = at g sg (of_kind f g (same_kind f g rest e)) e
  where
    of_number :
        (make : ℕ → ReaderError) (text : List ℕ) (n : ℕ) → number_of f ≤ 4294967295
        → n ≤ 4294967295 → f ≡ make (number_of f)
        → line_with text (decimal (number_of f)) ≡ line_with text (decimal n) ++ rest → f ≡ make n
    of_number make text n few few' is lines =
        is ∙ ap make (same_number text (number_of f) n rest few few' lines)

    of_path :
        (make : List ℕ → ReaderError) (text start : List ℕ) → f ≡ make (path_of f)
        → line_with text (path_of f) ≡ line_with text start ++ rest
        → (path : List ℕ) × (f ≡ make path) × IsPathStart start path
    of_path make text start is lines =
        (path_of f, is, (rest, after_text text (path_of f) start rest lines))

    at :
        (g : ReaderError) → HasSmallNumber g
        → f ≡ made_of (kind_of g) (number_of f) (path_of f) (fault_of f)
        → line_of f ≡ line_of g ++ rest → IsReportedAs g f
    at errors.Malformed sg is e = is
    at errors.TrailingBytes sg is e = is
    at errors.Memory sg is e = is
    at errors.Input sg is e = is
    at errors.Output sg is e = is
    at (errors.Version n) sg is e =
        let few : number_of f ≤ 255 = subst HasSmallNumber is sf in
        of_number (λ m. errors.Version m) (codes "type_reader: metadata of version ") n
        (omega (arith, few)) (omega (arith, sg)) is (sym (ap line_of is) ∙ e)
    at (errors.NoSuchType n) sg is e =
        of_number (λ m. errors.NoSuchType m) (codes "type_reader: no such type ") n
        (subst HasSmallNumber is sf) sg is (sym (ap line_of is) ∙ e)
    at (errors.Dangling n) sg is e =
        of_number (λ m. errors.Dangling m) (codes "type_reader: dangling id ") n
        (subst HasSmallNumber is sf) sg is (sym (ap line_of is) ∙ e)
    at (errors.NoSuchPath start) sg is e =
        of_path (λ p. errors.NoSuchPath p) (codes "type_reader: no such path ") start is
        (sym (ap line_of is) ∙ e)
    at (errors.SharedPath start) sg is e =
        of_path (λ p. errors.SharedPath p) (codes "type_reader: several types with path ") start is
        (sym (ap line_of is) ∙ e)
    at (errors.NoValue fault) sg is e =
        is
        ∙ ap (λ x. errors.NoValue x)
        (same_fault (fault_of f) fault rest
        (after_text (codes "type_reader: no value: ") (fault_text (fault_of f)) (fault_text fault) rest
        (sym (ap line_of is) ∙ e)))
