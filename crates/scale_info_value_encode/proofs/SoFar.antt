-- Values appended one after another.
use Rattle.std.proofs.Common.{◌≡◌, ℕ, List, [], ◌∷◌, ◌++◌, refl, ap, sym, ◌∙◌, append_assoc, subst}
use Rattle.std.proofs.Common.{Result, Ok, Err}
use Rattle.std.specs.Prelude.{IfErr, OnOk, OnErr}
use Rattle.std.specs.Result.{IsErrAnd}
use Rattle.std.proofs.lemmas.List.{append-nil}
use Rattle.scale_info_bytes.specs.Encodings.{IsPrefix}
use Rattle.scale_info_value_encode.specs.declared.error.EncodeValueError.{EncodeValueError}
use Rattle.scale_info_value_encode.specs.declared.error.EncodeValueError.TheVariants as error
use Rattle.scale_info_value_encode.specs.declared.path.Step.{Step}
use Rattle.scale_info_value_encode.specs.declared.failure.PartError.{PartError}
use Rattle.scale_info_value_encode.specs.Writers.{Written, written, refused, followed_by, of_part, Appends, IsErrorOf}
use Rattle.scale_info_value_encode.specs.Failures.{Fails, error_of}

-- of a whole some bytes were appended, and this is left to be written
pub record SoFar (whole left : Written) (old new : List ℕ) : Type 0 where
  pub done : List ℕ
  pub parts : new ≡ old ++ done
  pub is : whole ≡ followed_by (written done) left

-- nothing was appended
nothing_first : (left : Written) → left ≡ followed_by (written []) left
nothing_first (written b) = refl
nothing_first (refused why) = refl

-- at the start the whole is left
pub starts : (whole left : Written) (old new : List ℕ) → whole ≡ left → new ≡ old → SoFar whole left old new
starts whole left old new e same =
    record { done = []; parts = same ∙ sym (append-nil old); is = e ∙ nothing_first left }

-- three after one another
regroup :
    (b c : List ℕ) (left : Written)
    → followed_by (written b) (followed_by (written c) left) ≡ followed_by (written (b ++ c)) left
regroup b c (written d) = ap written (sym (append_assoc b c d))
regroup b c (refused why) = refl

-- one more was appended
pub goes_on :
    (whole left first more : Written) (old mid new : List ℕ) → SoFar whole left old mid → left ≡ followed_by first more
    → Appends first mid new → SoFar whole more old new
goes_on whole left first more old mid new s e a = record {
  done = s.done ++ a.encoding;
  parts = a.parts ∙ ap (λ b. b ++ a.encoding) s.parts ∙ append_assoc old s.done a.encoding;
  is =
      s.is ∙ ap (followed_by (written s.done)) (e ∙ ap (λ w. followed_by w more) a.encodes)
      ∙ regroup s.done a.encoding more;
}

-- the last was appended
pub ends :
    (whole left : Written) (old mid new : List ℕ) → SoFar whole left old mid → Appends left mid new
    → Appends whole old new
ends whole left old mid new s a = record {
  encoding = s.done ++ a.encoding;
  encodes = s.is ∙ ap (followed_by (written s.done)) a.encodes;
  parts = a.parts ∙ ap (λ b. b ++ a.encoding) s.parts ∙ append_assoc old s.done a.encoding;
}

-- an error of what is left is one of the whole
pub fails :
    (whole left : Written) (old new : List ℕ) (e : EncodeValueError) → SoFar whole left old new → IsErrorOf left e
    → IsErrorOf whole e
fails whole left old new error.Memory s h = tt
fails whole left old new _ s h = s.is ∙ ap (followed_by (written s.done)) h

-- an error of the first is one of both
pub first_fails :
    (first more : Written) (e : EncodeValueError) → IsErrorOf first e → IsErrorOf (followed_by first more) e
first_fails first more error.Memory h = tt
first_fails first more _ h = ap (λ w. followed_by w more) h

-- an error of the next is one of the whole
pub next_fails :
    (whole left first more : Written) (old new : List ℕ) (e : EncodeValueError) → SoFar whole left old new
    → left ≡ followed_by first more → IsErrorOf first e → IsErrorOf whole e
next_fails whole left first more old new e s next h =
    fails whole left old new e s (subst (λ w. IsErrorOf w e) (sym next) (first_fails first more e h))

-- what was appended of a part by itself was appended of it as a part
pub part_appended : (s : Step) (w : Written) (old new : List ℕ) → Appends w old new → Appends (of_part s w) old new
part_appended s w old new a =
    record { encoding = a.encoding; encodes = ap (of_part s) a.encodes; parts = a.parts }

-- what was there is kept
pub keeps : (whole left : Written) (old mid new : List ℕ) → SoFar whole left old mid → IsPrefix mid new → IsPrefix old new
keeps whole left old mid new s p = record {
  rest = s.done ++ p.rest;
  parts = p.parts ∙ ap (λ b. b ++ p.rest) s.parts ∙ append_assoc old s.done p.rest;
}

-- one byte was appended
pub appended : (byte : ℕ) (old new : List ℕ) → new ≡ old ++ byte ∷ [] → Appends (written (byte ∷ [])) old new
appended byte old new e = record { encoding = byte ∷ []; encodes = refl; parts = e }

-- ---- results of calls

-- what holds of what was there holds where a call failed
pub on_err : {X E P : Type 0} (r : Result X E) → P → OnErr r P
on_err (Ok x) p = tt
on_err (Err e) p = p

-- what holds where a call succeeds holds where it did
pub done : {X E P : Type 0} (r : Result X E) (x : X) → Ok x ≡ r → OnOk r P → P
done {P = P} r x e h = subst (λ q. OnOk q P) (sym e) h

-- a failure that is passed on
pub passed :
    {X : Type 0} (r : Result X PartError) (why : PartError) (whole : Written) (steps : List Step) → IsErrAnd r (λ d. d ≡ why)
    → Fails whole steps why → IfErr r (Fails whole steps)
passed (Ok x) why whole steps h p = tt
passed (Err d) why whole steps h p = subst (Fails whole steps) (sym h) p

module _ {X : Type 0} (r : Result X PartError) (whole first second : Written) (old mid new : List ℕ)
    (e : whole ≡ followed_by first second) (a : Appends first old mid) where
  -- where the first was appended, the second is left
  second_left : SoFar whole second old mid
  second_left = goes_on whole whole first second old old mid (starts whole whole old old refl refl) e a

  -- both were appended
  both_ok : OnOk r (Appends second mid new) → OnOk r (Appends whole old new)
  both_ok h = on_ok r (λ b. ends whole second old mid new second_left b) h
    where
      on_ok : {P Q : Type 0} (r : Result X PartError) → (P → Q) → OnOk r P → OnOk r Q
      on_ok (Ok x) f h = f h
      on_ok (Err d) f h = tt

  -- an error of the second is one of both
  both_err : (steps : List Step) → IfErr r (Fails second steps) → IfErr r (Fails whole steps)
  both_err steps h = if_err r (λ d p. fails whole second old mid (error_of steps d) second_left p) h
    where
      if_err :
          {P Q : PartError → Type 0} (r : Result X PartError) → ((d : PartError) → P d → Q d)
          → IfErr r P → IfErr r Q
      if_err (Ok x) f h = tt
      if_err (Err d) f h = f d h

  -- what was there is kept
  both_kept : OnErr r (IsPrefix mid new) → OnErr r (IsPrefix old new)
  both_kept h = err_map r (λ p. keeps whole second old mid new second_left p) h
    where
      err_map : {P Q : Type 0} (r : Result X PartError) → (P → Q) → OnErr r P → OnErr r Q
      err_map (Ok x) f h = tt
      err_map (Err d) f h = f h

  -- all of these, where the second was tried
  pub both :
      (steps : List Step) → OnOk r (Appends second mid new) → IfErr r (Fails second steps) → OnErr r (IsPrefix mid new)
      → OnOk r (Appends whole old new) × IfErr r (Fails whole steps) × OnErr r (IsPrefix old new)
  both steps ok err kept = (both_ok ok, both_err steps err, both_kept kept)
