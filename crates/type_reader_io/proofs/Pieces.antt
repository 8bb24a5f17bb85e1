-- A line that was reported exactly, where several texts were reported, each in part or whole.
use Rattle.std.proofs.Common.{◌≡◌, ◌⊎◌, ◌≤◌, ◌++◌, ◌∙◌, ℕ, zero, suc, List, [], ◌∷◌, Option, None, Some, ap}
use Rattle.std.proofs.Common.{append-nil, append_assoc, arith, codes, decimal, drop, get_or, inl, inr, refl}
use Rattle.std.proofs.Common.{subst, sym, take, take-append-drop}
use Rattle.std.proofs.Common.{eqb, not, ◌||◌, eqb-true, eq-eqb, true, true≢false}
use Rattle.std.proofs.lemmas.List.{append_cancel_left}
use Rattle.type_reader_io.proofs.OneError.{named, no_line, same_error, small_letter, trailing}
use Rattle.type_reader_io.specs.declared.error.ReaderError.{ReaderError}
use Rattle.type_reader_io.specs.declared.error.ValueFault.{ValueFault}
use Rattle.type_reader_io.specs.Lines.{HasSmallNumber, IsReportedAs, bad_line, fault_text, line_of}
use Rattle.type_table_io.specs.Lines.{line_with}
use Rattle.type_reader_io.specs.Reports.{ReportsEach}
use Rattle.type_table_io.specs.Reports.{AppendsPrefix, Reported}

-- the bytes are a start of each text, one after another
abbrev pub Pieces : List ℕ → List (List ℕ) → Type 0
Pieces bytes [] = bytes ≡ []
Pieces bytes (text ∷ texts) =
    (count : ℕ) × (rest : List ℕ) × (bytes ≡ take count text ++ rest) × Pieces rest texts

pieces_from :
    (known : List ℕ) (new : Option (List ℕ)) (texts : List (List ℕ))
    → ReportsEach AppendsPrefix (Some known) new texts
    → (bytes : List ℕ) × (new ≡ Some (known ++ bytes)) × Pieces bytes texts
pieces_from known new [] same = ([], same ∙ ap Some (sym (append-nil known)), refl)
pieces_from known new (text ∷ texts) h =
    at (λ longer more. pieces_from longer new texts more) h.0 h.1 h.2
  where
    at :
        ((longer : List ℕ) → ReportsEach AppendsPrefix (Some longer) new texts
        → (bytes : List ℕ) × (new ≡ Some (longer ++ bytes)) × Pieces bytes texts)
        → (middle : Option (List ℕ)) → AppendsPrefix (Some known) middle text
        → ReportsEach AppendsPrefix middle new texts
        → (bytes : List ℕ) × (new ≡ Some (known ++ bytes)) × Pieces bytes (text ∷ texts)
    at from None p more = absurd p.appends
    at from (Some longer) p more =
        let rest = from longer more in (
          take p.count text ++ rest.0,
          rest.1
              ∙ ap (λ l. Some (l ++ rest.0)) p.appends
              ∙ ap Some (append_assoc known (take p.count text) rest.0),
          (p.count, rest.0, refl, rest.2),
        )

abbrev unwrap : Option (List ℕ) → List ℕ
unwrap None = []
unwrap (Some bytes) = bytes

-- a line that was reported exactly is made of starts of the texts
pub reported_pieces :
    (old new : Option (List ℕ)) (texts : List (List ℕ)) (line : List ℕ)
    → ReportsEach AppendsPrefix old new texts → Reported old new line → Pieces line texts
reported_pieces None new texts line each reported = let known = reported.is_known in cc
reported_pieces (Some x) None texts line each reported = absurd reported.appends
reported_pieces (Some x) (Some y) texts line each reported =
    let pieces = pieces_from x (Some y) texts each in
    let same : line ≡ pieces.0 =
    append_cancel_left x line pieces.0 (sym reported.appends ∙ ap unwrap pieces.1) in
    subst (λ l. Pieces l texts) (sym same) pieces.2

-- a text that begins with the name of the program
abbrev IsNamed : List ℕ → Type 0
IsNamed text = (rest : List ℕ) × (text ≡ codes "type_reader: " ++ rest)

abbrev AreNamed : List (List ℕ) → Type 0
AreNamed [] = Unit {0}
AreNamed (text ∷ texts) = IsNamed text × AreNamed texts

-- how starts of such texts begin: 116 and 121 are the first two letters of the name
record Begins (bytes : List ℕ) : Type 0 where
  first : (get_or bytes 0 0 ≡ 0) ⊎ (get_or bytes 0 0 ≡ 116)
  second : (get_or bytes 1 0 ≡ 0) ⊎ ((get_or bytes 1 0 ≡ 116) ⊎ (get_or bytes 1 0 ≡ 121))

begins : (bytes : List ℕ) (texts : List (List ℕ)) → AreNamed texts → Pieces bytes texts → Begins bytes
begins bytes [] named none = subst Begins (sym none) (record { first = inl refl; second = inl refl })
begins bytes (text ∷ texts) names h = at h.0 h.1 h.2 (begins h.1 texts names.1 h.3)
  where
    at :
        (count : ℕ) (rest : List ℕ) → bytes ≡ take count text ++ rest → Begins rest → Begins bytes
    at zero rest is begin = subst Begins (sym is) begin
    at (suc zero) rest is begin =
        let whole = is ∙ ap (λ t. take 1 t ++ rest) names.0.1 in
        let next : get_or bytes 1 0 ≡ get_or rest 0 0 = ap (λ l. get_or l 1 0) whole in
        record {
          first = inr (ap (λ l. get_or l 0 0) whole);
          second = second_of begin.first next;
        }
      where
        second_of :
            (get_or rest 0 0 ≡ 0) ⊎ (get_or rest 0 0 ≡ 116) → get_or bytes 1 0 ≡ get_or rest 0 0
            → (get_or bytes 1 0 ≡ 0) ⊎ ((get_or bytes 1 0 ≡ 116) ⊎ (get_or bytes 1 0 ≡ 121))
        second_of (inl e) next = inl (next ∙ e)
        second_of (inr e) next = inr (inl (next ∙ e))
    at (suc (suc count)) rest is begin =
        let whole = is ∙ ap (λ t. take (suc (suc count)) t ++ rest) names.0.1 in
        record {
          first = inr (ap (λ l. get_or l 0 0) whole);
          second = inr (inr (ap (λ l. get_or l 1 0) whole));
        }

-- a letter of the name but the first is no beginning
no_first : (n letter : ℕ) → letter ≡ n → (n ≡ 0) ⊎ (n ≡ 116) → (letter ≡ 0 → ⊥) → (letter ≡ 116 → ⊥) → ⊥
no_first n letter is (inl e) nought no_t = nought (is ∙ e)
no_first n letter is (inr e) nought no_t = no_t (is ∙ e)

-- a start of a report of a bad line is no start of the line of an error, whatever comes after it
no_start :
    (error : ReaderError) (count : ℕ) (tail rest : List ℕ) → Begins rest
    → line_of error ≡ take (suc count) (codes "type_reader: line " ++ tail) ++ rest → ⊥
no_start error count tail rest begin is = at count (sym (named error) ∙ is) is
  where
    -- the letter after the start
    no_letter : (letter : ℕ) → letter ≡ get_or rest 0 0 → (letter ≡ 0 → ⊥) → (letter ≡ 116 → ⊥) → ⊥
    no_letter letter e = no_first (get_or rest 0 0) letter e begin.first

    after_t :
        (first second : ℕ) → first ≡ 116
        → (not (eqb first 116) || eqb second 114) ≡ true → second ≡ 114
    after_t first second is h =
        eqb-true second 114
        (ap (λ b. not b || eqb second 114) (sym (eq-eqb first 116 is)) ∙ h)

    no_second : (n : ℕ) → (n ≡ 0) ⊎ ((n ≡ 116) ⊎ (n ≡ 121)) → n ≡ 114 → ⊥
    no_second n (inl e) is = omega (arith, e, is)
    no_second n (inr (inl e)) is = omega (arith, e, is)
    no_second n (inr (inr e)) is = omega (arith, e, is)

    at_end :
        (first second : ℕ) → first ≡ get_or rest 0 0 → second ≡ get_or rest 1 0
        → 97 ≤ first → (not (eqb first 116) || eqb second 114) ≡ true → ⊥
    at_end first second one two letter trailing =
        no_letter first one (λ e. omega (arith, e, letter))
        (λ t. no_second (get_or rest 1 0) begin.second (sym two ∙ after_t first second t trailing))

    at :
        (count : ℕ)
        → codes "type_reader: " ++ drop 13 (line_of error)
        ≡ take (suc count) (codes "type_reader: line " ++ tail) ++ rest
        → line_of error ≡ take (suc count) (codes "type_reader: line " ++ tail) ++ rest → ⊥
    at zero e is =
        no_letter 121 (ap (λ l. get_or l 1 0) e) (λ h. omega (arith, h)) (λ h. omega (arith, h))
    at (suc zero) e is =
        no_letter 112 (ap (λ l. get_or l 2 0) e) (λ h. omega (arith, h)) (λ h. omega (arith, h))
    at (suc (suc zero)) e is =
        no_letter 101 (ap (λ l. get_or l 3 0) e) (λ h. omega (arith, h)) (λ h. omega (arith, h))
    at (suc (suc (suc zero))) e is =
        no_letter 95 (ap (λ l. get_or l 4 0) e) (λ h. omega (arith, h)) (λ h. omega (arith, h))
    at (suc (suc (suc (suc zero)))) e is =
        no_letter 114 (ap (λ l. get_or l 5 0) e) (λ h. omega (arith, h)) (λ h. omega (arith, h))
    at (suc (suc (suc (suc (suc zero))))) e is =
        no_letter 101 (ap (λ l. get_or l 6 0) e) (λ h. omega (arith, h)) (λ h. omega (arith, h))
    at (suc (suc (suc (suc (suc (suc zero)))))) e is =
        no_letter 97 (ap (λ l. get_or l 7 0) e) (λ h. omega (arith, h)) (λ h. omega (arith, h))
    at (suc (suc (suc (suc (suc (suc (suc zero))))))) e is =
        no_letter 100 (ap (λ l. get_or l 8 0) e) (λ h. omega (arith, h)) (λ h. omega (arith, h))
    at (suc (suc (suc (suc (suc (suc (suc (suc zero)))))))) e is =
        no_letter 101 (ap (λ l. get_or l 9 0) e) (λ h. omega (arith, h)) (λ h. omega (arith, h))
    at (suc (suc (suc (suc (suc (suc (suc (suc (suc zero))))))))) e is =
        no_letter 114 (ap (λ l. get_or l 10 0) e) (λ h. omega (arith, h)) (λ h. omega (arith, h))
    at (suc (suc (suc (suc (suc (suc (suc (suc (suc (suc zero)))))))))) e is =
        no_letter 58 (ap (λ l. get_or l 11 0) e) (λ h. omega (arith, h)) (λ h. omega (arith, h))
    at (suc (suc (suc (suc (suc (suc (suc (suc (suc (suc (suc zero))))))))))) e is =
        no_letter 32 (ap (λ l. get_or l 12 0) e) (λ h. omega (arith, h)) (λ h. omega (arith, h))
    at (suc (suc (suc (suc (suc (suc (suc (suc (suc (suc (suc (suc zero)))))))))))) e is =
        at_end (get_or (line_of error) 13 0) (get_or (line_of error) 14 0)
        (ap (λ l. get_or l 13 0) is) (ap (λ l. get_or l 14 0) is)
        (small_letter error) (trailing error)
    at (suc (suc (suc (suc (suc (suc (suc (suc (suc (suc (suc (suc (suc count))))))))))))) e is =
        true≢false
        (sym (eq-eqb (get_or (line_of error) 13 0) 108 (ap (λ l. get_or l 13 0) is))
        ∙ no_line error)

-- a report of a bad line
abbrev pub IsBadLine : List ℕ → Type 0
IsBadLine text = (number : ℕ) × (fault : ValueFault) × (text ≡ bad_line number fault)

-- reports of bad lines
abbrev pub AreBadLines : List (List ℕ) → Type 0
AreBadLines [] = Unit {0}
AreBadLines (text ∷ texts) = IsBadLine text × AreBadLines texts

-- what comes after `line ` in such a report
abbrev tail_of : ℕ → ValueFault → List ℕ
tail_of number fault = decimal number ++ line_with (codes ": no value: ") (fault_text fault)

bad_named : (texts : List (List ℕ)) → AreBadLines texts → AreNamed texts
bad_named [] are = tt
bad_named (text ∷ texts) are = (
  (codes "line " ++ tail_of are.0.0 are.0.1, are.0.2),
  bad_named texts are.1,
)

named_and :
    (texts : List (List ℕ)) (error : ReaderError) → AreBadLines texts
    → AreNamed (texts ++ line_of error ∷ [])
named_and [] error are = ((drop 13 (line_of error), named error), tt)
named_and (text ∷ texts) error are = (
  (codes "line " ++ tail_of are.0.0 are.0.1, are.0.2),
  named_and texts error are.1,
)

-- a start of a report of a bad line is empty, where it begins the line of an error
no_piece :
    (error : ReaderError) (text : List ℕ) (count : ℕ) (rest : List ℕ) → IsBadLine text → Begins rest
    → line_of error ≡ take (suc count) text ++ rest → ⊥
no_piece error text count rest bad begin is =
    no_start error count (tail_of bad.0 bad.1) rest begin
    (is ∙ ap (λ t. take (suc count) t ++ rest) bad.2)

-- a line of an error is no starts of reports of bad lines
pub not_bad_lines :
    (error : ReaderError) (texts : List (List ℕ)) → AreBadLines texts → Pieces (line_of error) texts → ⊥
not_bad_lines error [] are none =
    omega (arith, small_letter error, ap (λ l. get_or l 13 0) none)
not_bad_lines error (text ∷ texts) are h =
    at (λ pieces. not_bad_lines error texts are.1 pieces) h.0 h.1 h.2 h.3
  where
    at :
        (Pieces (line_of error) texts → ⊥) → (count : ℕ) (rest : List ℕ)
        → line_of error ≡ take count text ++ rest → Pieces rest texts → ⊥
    at not zero rest is more = not (subst (λ l. Pieces l texts) (sym is) more)
    at not (suc count) rest is more =
        no_piece error text count rest are.0 (begins rest texts (bad_named texts are.1) more) is

-- where it is starts of such reports and of the line of one error at the end, it is one of that line
pub start_of_last :
    (error cause : ReaderError) (texts : List (List ℕ)) → AreBadLines texts
    → Pieces (line_of error) (texts ++ line_of cause ∷ [])
    → (count : ℕ) × (line_of error ≡ take count (line_of cause))
start_of_last error cause [] are h =
    (h.0, h.2 ∙ ap (λ l. take h.0 (line_of cause) ++ l) h.3 ∙ append-nil (take h.0 (line_of cause)))
start_of_last error cause (text ∷ texts) are h =
    at (λ pieces. start_of_last error cause texts are.1 pieces) h.0 h.1 h.2 h.3
  where
    at :
        (Pieces (line_of error) (texts ++ line_of cause ∷ [])
        → (count : ℕ) × (line_of error ≡ take count (line_of cause)))
        → (count : ℕ) (rest : List ℕ) → line_of error ≡ take count text ++ rest
        → Pieces rest (texts ++ line_of cause ∷ [])
        → (count : ℕ) × (line_of error ≡ take count (line_of cause))
    at start zero rest is more =
        start (subst (λ l. Pieces l (texts ++ line_of cause ∷ [])) (sym is) more)
    at start (suc count) rest is more =
        absurd
        (no_piece error text count rest are.0
        (begins rest (texts ++ line_of cause ∷ []) (named_and texts cause are.1) more) is)

-- the line that was reported is that of the last error
pub last_reported :
    (error cause : ReaderError) (texts : List (List ℕ)) → HasSmallNumber cause
    → HasSmallNumber error → AreBadLines texts
    → Pieces (line_of error) (texts ++ line_of cause ∷ []) → IsReportedAs error cause
last_reported error cause texts small_cause small are h =
    let start = start_of_last error cause texts are h in
    same_error cause error (drop start.0 (line_of cause)) small_cause small
    (sym (take-append-drop start.0 (line_of cause))
    ∙ ap (λ l. l ++ drop start.0 (line_of cause)) (sym start.1))

-- a text that begins with another letter has no line of an error as its start
pub not_of_letter :
    (error : ReaderError) (text : List ℕ) → (get_or text 0 0 ≡ 116 → ⊥)
    → Pieces (line_of error) (text ∷ []) → ⊥
not_of_letter error text other h =
    at text other h.0 (h.2 ∙ ap (λ l. take h.0 text ++ l) h.3 ∙ append-nil (take h.0 text))
  where
    first : 116 ≡ get_or (line_of error) 0 0
    first = sym (ap (λ l. get_or l 0 0) (named error))

    at :
        (text : List ℕ) → (get_or text 0 0 ≡ 116 → ⊥) → (count : ℕ)
        → line_of error ≡ take count text → ⊥
    at text other zero is = omega (arith, first, ap (λ l. get_or l 0 0) is)
    at [] other (suc count) is = omega (arith, first, ap (λ l. get_or l 0 0) is)
    at (letter ∷ text) other (suc count) is =
        other (sym (first ∙ ap (λ l. get_or l 0 0) is))

-- no line of an error was reported where nothing was
pub not_nothing : (error : ReaderError) → Pieces (line_of error) [] → ⊥
not_nothing error none = not_bad_lines error [] tt none
