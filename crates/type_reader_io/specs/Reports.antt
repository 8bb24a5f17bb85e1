-- What a run reports, text after text.
use Rattle.std.specs.Prelude.{◌≡◌, ℕ, List, [], ◌∷◌, None, Some}
use Rattle.std.specs.declared.option.Option.{Option}

-- the reporter was given these texts, one after another; where there is none, it is as it was
abbrev pub ReportsEach : {T : Type 0} → (T → T → List ℕ → Type 0) → (old new : T) → List (List ℕ)
    → Type 0
ReportsEach reported old new [] = new ≡ old
ReportsEach {T} reported old new (text ∷ texts) =
    (middle : T) × reported old middle text × ReportsEach reported middle new texts

-- the text of notes; none, where there are no notes
abbrev pub texts_of : (notes : List ℕ) → List (List ℕ)
texts_of [] = []
texts_of (byte ∷ notes) = (byte ∷ notes) ∷ []

-- the text of a message that was kept; nothing, where there was none
abbrev pub kept_text : {M : Type 0} → (M → List ℕ) → Option M → List ℕ
kept_text text_of None = []
kept_text text_of (Some message) = text_of message
