-- Texts that were reported, one after another.
use Rattle.std.proofs.Common.{◌≡◌, ◌++◌, ◌∙◌, ℕ, List, [], ◌∷◌, Option, ap, refl, subst}
use Rattle.type_reader_io.specs.Reports.{ReportsEach}
use Rattle.type_reader_io.specs.declared.reporter.ErrorWriter.{ErrorWriter}
use Rattle.type_table_io.specs.Reports.{AppendsPrefix}

-- these, and then those
pub each_then :
    {T : Type 0} (reported : T → T → List ℕ → Type 0) (old middle new : T)
    (first second : List (List ℕ))
    → ReportsEach reported old middle first → ReportsEach reported middle new second
    → ReportsEach reported old new (first ++ second)
each_then reported old middle new [] second a b =
    subst (λ t. ReportsEach reported t new second) a b
each_then reported old middle new (text ∷ first) second a b =
    (a.0, a.1, each_then reported a.0 middle new first second a.2 b)

-- one more
pub each_and :
    {T : Type 0} (reported : T → T → List ℕ → Type 0) (old middle new : T)
    (texts : List (List ℕ)) (text : List ℕ)
    → ReportsEach reported old middle texts → reported middle new text
    → ReportsEach reported old new (texts ++ text ∷ [])
each_and reported old middle new texts text a b =
    each_then reported old middle new texts (text ∷ []) a (new, b, refl)

-- by another word for what was reported
each_by :
    {T U : Type 0} (reported : T → T → List ℕ → Type 0) (told : U → U → List ℕ → Type 0)
    (seen : T → U)
    → ((old new : T) (text : List ℕ) → reported old new text → told (seen old) (seen new) text)
    → (old new : T) (texts : List (List ℕ)) → ReportsEach reported old new texts
    → ReportsEach told (seen old) (seen new) texts
each_by reported told seen by old new [] same = ap seen same
each_by reported told seen by old new (text ∷ texts) h = (
  seen h.0,
  by old h.0 text h.1,
  each_by reported told seen by h.0 new texts h.2,
)

-- a reporter that keeps a name has it at the end
each_keeps :
    {T N : Type 0} (reported : T → T → List ℕ → Type 0) (name : T → N)
    → ((old new : T) (text : List ℕ) → reported old new text → name new ≡ name old)
    → (old new : T) (texts : List (List ℕ)) → ReportsEach reported old new texts
    → name new ≡ name old
each_keeps reported name keeps old new [] same = ap name same
each_keeps reported name keeps old new (text ∷ texts) h =
    each_keeps reported name keeps h.0 new texts h.2 ∙ keeps old h.0 text h.1

-- what a writer holds at the end
ends_at :
    {F : Type 0} (contents : F → Option (List ℕ)) (told : Option (List ℕ)) (now last : F)
    (texts : List (List ℕ)) → now ≡ last → ReportsEach AppendsPrefix told (contents now) texts
    → ReportsEach AppendsPrefix told (contents last) texts
ends_at contents told now last texts same each =
    subst (λ f. ReportsEach AppendsPrefix told (contents f) texts) same each

-- what the writer for errors was given stands in it: of each text a prefix, or all of it
pub each_written :
    {F : Type 0} (reported : ErrorWriter F → ErrorWriter F → List ℕ → Type 0)
    (contents : F → Option (List ℕ)) (old new : ErrorWriter F) (last : F)
    → ((before after : ErrorWriter F) (text : List ℕ) → reported before after text
    → (after.errors.ghost_name ≡ before.errors.ghost_name)
    × AppendsPrefix (contents before.errors.now) (contents after.errors.now) text)
    → (new.errors.ghost_name ≡ old.errors.ghost_name → new.errors.now ≡ last)
    → (texts : List (List ℕ)) → ReportsEach reported old new texts
    → ReportsEach AppendsPrefix (contents old.errors.now) (contents last) texts
each_written reported contents old new last by ends texts h =
    let named =
    each_keeps reported (λ w. w.errors.ghost_name) (λ old new text r. (by old new text r).0) old
    new texts h in
    ends_at contents (contents old.errors.now) new.errors.now last texts (ends named)
    (each_by reported AppendsPrefix (λ w. contents w.errors.now)
    (λ old new text r. (by old new text r).1) old new texts h)
