-- Values taken one after another.
use Rattle.std.proofs.Common.{◌≡◌, List, [], ◌∷◌, ◌++◌, refl, ap, sym, ◌∙◌, subst, append_assoc}
use Rattle.std.proofs.Common.{Result, Ok, Err}
use Rattle.std.proofs.lemmas.List.{append-nil}
use Rattle.std.specs.Prelude.{IfErr}
use Rattle.std.specs.Result.{IsErrAnd}
use Rattle.scale_info_value_json.specs.declared.error.ValueJsonError.{ValueJsonError}
use Rattle.scale_info_value_json.specs.declared.error.ValueJsonError.TheVariants as error
use Rattle.scale_info_value_json.specs.Takers.{Refusal, Taken, taken, refused, taken_map, and_then, IsErrorOf}

-- what is taken, where these values come before
abbrev pub preceded : {A : Type 0} → List A → Taken (List A) → Taken (List A)
preceded done outcome = taken_map (λ values. done ++ values) outcome

-- one value, and then others
abbrev pub then_more : {A : Type 0} → Taken A → Taken (List A) → Taken (List A)
then_more first more = and_then first (λ value. taken_map (λ values. value ∷ values) more)

-- of a whole some values are done, and this is left
pub record SoFar {A : Type 0} (whole left : Taken (List A)) (done : List A) : Type 0 where
  pub is : whole ≡ preceded done left

-- nothing is done before the first
nothing_before : {A : Type 0} (outcome : Taken (List A)) → outcome ≡ preceded [] outcome
nothing_before (taken values) = refl
nothing_before (refused why) = refl

-- at the start the whole is left
pub starts : {A : Type 0} (whole left : Taken (List A)) → whole ≡ left → SoFar whole left []
starts whole left e = record { is = e ∙ nothing_before left }

one_more :
    {A : Type 0} (done : List A) (value : A) (outcome : Taken (List A))
    → preceded done (taken_map (λ values. value ∷ values) outcome) ≡ preceded (done ++ value ∷ []) outcome
one_more done value (taken values) = ap taken (sym (append_assoc done (value ∷ []) values))
one_more done value (refused why) = refl

-- one more is done
pub goes_on :
    {A : Type 0} (whole left more : Taken (List A)) (first : Taken A) (done : List A) (value : A)
    → SoFar whole left done → left ≡ then_more first more → first ≡ taken value
    → SoFar whole more (done ++ value ∷ [])
goes_on whole left more first done value s e f =
    record {
      is = s.is ∙ ap (preceded done) (e ∙ ap (λ o. then_more o more) f) ∙ one_more done value more;
    }

-- all are done
pub ends : {A : Type 0} (whole left : Taken (List A)) (done : List A) → SoFar whole left done → left ≡ taken [] → whole ≡ taken done
ends whole left done s e = s.is ∙ ap (preceded done) e ∙ ap taken (append-nil done)

-- a refusal of what is left is one of the whole
pub stops : {A : Type 0} (whole left : Taken (List A)) (done : List A) (why : Refusal) → SoFar whole left done → left ≡ refused why → whole ≡ refused why
stops whole left done why s e = s.is ∙ ap (preceded done) e

-- an error of a part is one of the whole, where its refusal is
pub passes :
    {A B : Type 0} (part : Taken A) (whole : Taken B) (e : ValueJsonError)
    → ((why : Refusal) → part ≡ refused why → whole ≡ refused why) → IsErrorOf part e → IsErrorOf whole e
passes part whole error.Memory f h = tt
passes part whole _ f h = f _ h

-- an error of the next is one of the whole
pub fails :
    {A : Type 0} (whole left more : Taken (List A)) (first : Taken A) (done : List A) (e : ValueJsonError)
    → SoFar whole left done → left ≡ then_more first more → IsErrorOf first e → IsErrorOf whole e
fails whole left more first done e s is h =
    passes first whole e (λ why r. stops whole left done why s (is ∙ ap (λ o. then_more o more) r)) h

-- what holds of an error that is passed on
pub passed_on : {X E : Type 0} (r : Result X E) (e : E) (P : E → Type 0) → IsErrAnd r (λ d. d ≡ e) → P e → IfErr r P
passed_on (Ok x) e P h p = tt
passed_on (Err d) e P h p = subst P (sym h) p

-- an error that is passed on
pub passed :
    {A X : Type 0} (r : Result X ValueJsonError) (e : ValueJsonError) (whole : Taken A) → IsErrAnd r (λ d. d ≡ e)
    → IsErrorOf whole e → IfErr r (IsErrorOf whole)
passed r e whole h p = passed_on r e (IsErrorOf whole) h p
