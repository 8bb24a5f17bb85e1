-- Decoders one after another.
use Rattle.std.proofs.Common.{◌≡◌, ℕ, zero, suc, ◌+◌, ◌-◌, ◌<◌, ◌≤◌, List, [], ◌∷◌, ◌++◌, replicate}
use Rattle.std.proofs.Common.{refl, ap}
use Rattle.std.proofs.Common.{sym, ◌∙◌, append_assoc, arith}
use Rattle.std.proofs.lemmas.List.{append-nil}
use Rattle.scale_info_value.specs.declared.value.Failure.{Failure}
use Rattle.scale_info_value.specs.declared.value.ValueError.{ValueError}
use Rattle.scale_info_value.specs.declared.value.ValueError.TheVariants as error
use Rattle.scale_info_value.specs.Outcomes.{Outcome, decoded, failed, Decoder, and_then}
use Rattle.scale_info_value.specs.Outcomes.{outcome_map, in_turn, IsErrorOf}

-- the outcome, where its list begins with what was decoded before
abbrev pub preceded : {A : Type 0} → List A → Outcome (List A) → Outcome (List A)
preceded done outcome = outcome_map (λ values. done ++ values) outcome

-- before the first decoder nothing was decoded
pub nothing_before : {A : Type 0} (outcome : Outcome (List A)) → outcome ≡ preceded [] outcome
nothing_before (decoded values rest) = refl
nothing_before (failed why) = refl

one_more :
    {A : Type 0} (done : List A) (value : A) (outcome : Outcome (List A))
    → preceded done (outcome_map (λ values. value ∷ values) outcome) ≡ preceded (done ++ value ∷ []) outcome
one_more done value (decoded values rest) = ap (λ vs. decoded vs rest) (sym (append_assoc done (value ∷ []) values))
one_more done value (failed why) = refl

-- one decoder goes on
pub reads_one :
    {A : Type 0} (done : List A) (first : Decoder A) (more : List (Decoder A)) (input : List ℕ) (value : A)
    (rest : List ℕ)
    → first input ≡ decoded value rest
    → preceded done (in_turn (first ∷ more) input) ≡ preceded (done ++ value ∷ []) (in_turn more rest)
reads_one done first more input value rest e =
    ap (λ o. preceded done (and_then o (λ v r. outcome_map (λ vs. v ∷ vs) (in_turn more r)))) e
    ∙ one_more done value (in_turn more rest)

-- no decoder is left
pub reads_none : {A : Type 0} (done : List A) (input : List ℕ) → preceded done (in_turn [] input) ≡ decoded done input
reads_none done input = ap (λ vs. decoded vs input) (append-nil done)

-- a failure of a part is the failure of the whole
pub passes :
    {A B : Type 0} (outcome : Outcome A) (whole : Outcome B) (e : ValueError) → ((why : Failure) → outcome
    ≡ failed why → whole ≡ failed why) → IsErrorOf outcome e → IsErrorOf whole e
passes outcome whole error.Memory f h = tt
passes outcome whole e f h = f _ h

-- a decoder fails, and so do all
pub first_fails :
    {A : Type 0} (done : List A) (first : Decoder A) (more : List (Decoder A)) (input : List ℕ) (why : Failure)
    → first input ≡ failed why
    → preceded done (in_turn (first ∷ more) input) ≡ failed why
first_fails done first more input why e = ap (λ o. preceded done
    (and_then o (λ v r. outcome_map (λ vs. v ∷ vs) (in_turn more r)))) e

-- of n - k decoders of one kind the first, and the others
pub take_next : {A : Type 0} (n k : ℕ) (x : A) → k < n → replicate (n - k) x ≡ x ∷ replicate (n - (k + 1)) x
take_next n k x h = let e : n - k ≡ suc (n - (k + 1)) = omega arith in ap (λ m. replicate m x) e

-- where one decoder fails, so do as many of it as one or more
pub all_fail :
    {A : Type 0} (n : ℕ) (read : Decoder A) (input : List ℕ) (why : Failure)
    → 0 < n → read input ≡ failed why → in_turn (replicate n read) input ≡ failed why
all_fail zero read input why h e = absurd (omega arith)
all_fail (suc n) read input why h e =
    nothing_before (in_turn (replicate (suc n) read) input) ∙ first_fails [] read (replicate n read) input why e

-- so many decoders of one kind, where each gives what another gives
pub alike :
    {A : Type 0} {read other : Decoder A} (n : ℕ) (input : List ℕ) → ((bytes : List ℕ) → read bytes ≡ other bytes)
    → in_turn (replicate n read) input ≡ in_turn (replicate n other) input
alike n input same = ap (λ d. in_turn (replicate n d) input) (λ i bytes. same bytes i)

-- of so many decoders of one kind, so many were done
abbrev pub Done : {A : Type 0} → ℕ → Decoder A → List ℕ → ℕ → List A → List ℕ → Type 0
Done count read input k done rest =
    in_turn (replicate count read) input ≡ preceded done (in_turn (replicate (count - k) read) rest)

-- one more is done
pub done_more :
    {A : Type 0} (count : ℕ) (read : Decoder A) (input : List ℕ) (k : ℕ) (done : List A) (rest : List ℕ) (value : A)
    (after : List ℕ)
    → k < count → Done count read input k done rest → read rest ≡ decoded value after
    → Done count read input (k + 1) (done ++ value ∷ []) after
done_more count read input k done rest value after h e f =
    e
    ∙ ap (λ rs. preceded done (in_turn rs rest)) (take_next count k read h)
    ∙ reads_one done read (replicate (count - (k + 1)) read) rest value after f

-- the next one fails, and so do all
pub done_fails :
    {A : Type 0} (count : ℕ) (read : Decoder A) (input : List ℕ) (k : ℕ) (done : List A) (rest : List ℕ)
    (why : Failure)
    → k < count → Done count read input k done rest → read rest ≡ failed why
    → in_turn (replicate count read) input ≡ failed why
done_fails count read input k done rest why h e f =
    e
    ∙ ap (λ rs. preceded done (in_turn rs rest)) (take_next count k read h)
    ∙ first_fails done read (replicate (count - (k + 1)) read) rest why f

-- all are done
pub done_all :
    {A : Type 0} (count : ℕ) (read : Decoder A) (input : List ℕ) (k : ℕ) (done : List A) (rest : List ℕ)
    → count ≤ k → Done count read input k done rest → in_turn (replicate count read) input ≡ decoded done rest
done_all count read input k done rest h e =
    let none : count - k ≡ 0 = omega arith in
    e ∙ ap (λ n. preceded done (in_turn (replicate n read) rest)) none ∙ reads_none done rest
