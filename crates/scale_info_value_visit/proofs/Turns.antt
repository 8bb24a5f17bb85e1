-- What is decoded by decoders in turn.
use Rattle.std.proofs.Common.{◌≡◌, ℕ, suc, List, [], ◌∷◌, length, replicate}
use Rattle.std.proofs.Common.{refl, ap, sym, ◌∙◌}
use Rattle.std.proofs.lemmas.List.{length-replicate}
use Rattle.scale_info_value.specs.Outcomes.{Outcome, decoded, failed, Decoder, and_then, outcome_map, in_turn}

-- what is decoded by a function of a value is that of a value that was decoded
pub mapped_from :
    {A B : Type 0} (f : A → B) (o : Outcome A) (value : B) (rest : List ℕ)
    → outcome_map f o ≡ decoded value rest → (x : A) × (o ≡ decoded x rest) × (value ≡ f x)
mapped_from f (decoded x s) value rest e =
    let p : f x ≡ value = cc in
    let q : s ≡ rest = cc in
    (x, (λ i. decoded x (q i)), sym p)
mapped_from f (failed why) value rest e = cc

-- the parts of what is decoded in turn
abbrev pub Parts : {A : Type 0} → Outcome A → List (Decoder A) → List A → List ℕ → Type 0
Parts {A} o more vs rest =
    (v : A) × (r : List ℕ) × (ws : List A) × (o ≡ decoded v r) × (in_turn more r ≡ decoded ws rest) × (vs ≡ v ∷ ws)

-- what the first decoder and the others give
pub with_first :
    {A : Type 0} (o : Outcome A) (more : List (Decoder A)) (vs : List A) (rest : List ℕ)
    → and_then o (λ v r. outcome_map (λ ws. v ∷ ws) (in_turn more r)) ≡ decoded vs rest → Parts o more vs rest
with_first (decoded v r) more vs rest e =
    let p = mapped_from (λ ws. v ∷ ws) (in_turn more r) vs rest e in (v, r, p.0, refl, p.1, p.2)
with_first (failed why) more vs rest e = cc

-- as many values are decoded as there are decoders
pub as_many :
    {A : Type 0} (ds : List (Decoder A)) (input : List ℕ) (vs : List A) (rest : List ℕ)
    → in_turn ds input ≡ decoded vs rest → length vs ≡ length ds
as_many [] input [] rest e = refl
as_many [] input (v ∷ vs) rest e = cc
as_many (d ∷ ds) input vs rest e =
    let p = with_first (d input) ds vs rest e in
    ap length p.5 ∙ ap suc (as_many ds p.1 p.2 rest p.4)

-- as many as the count says
pub so_many :
    {A : Type 0} (n : ℕ) (d : Decoder A) (input : List ℕ) (vs : List A) (rest : List ℕ)
    → in_turn (replicate n d) input ≡ decoded vs rest → length vs ≡ n
so_many n d input vs rest e = as_many (replicate n d) input vs rest e ∙ length-replicate n d
