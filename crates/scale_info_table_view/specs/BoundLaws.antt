-- References that are below a count, piece by piece.
use Rattle.std.specs.Prelude.{◌≡◌, ◌↔◌, ◌<◌, ℕ, List, [], ◌++◌, Bool, IsTrue}
use Rattle.std.proofs.Common.{◌∙◌, subst}
use Rattle.std.proofs.lemmas.List.Elements.{All-nil}
use Rattle.scale_info_passes.specs.PieceLaws.{references_append}
use Rattle.scale_info_passes.specs.Pieces.{Piece, references_in}
use Rattle.scale_info_table.proofs.Below.{all_appended}
use Rattle.scale_info_table.specs.ClosedTables.{AreBelow}

-- no pieces have no reference
pub bounded_none :
    (count : ℕ) (before : Bool) → (IsTrue before ↔ (IsTrue before × AreBelow count []))
bounded_none count before =
    (λ yes. (yes, All-nil (λ symbol. symbol.id < count)), λ both. both.0)

-- the references of pieces, and then those of others, are below the count
pub bounded_append :
    (ps qs : List Piece) (n m k : ℕ) (a b c : Bool)
    → ((m ≡ n) × (IsTrue b ↔ (IsTrue a × AreBelow n (references_in ps))))
    → ((k ≡ m) × (IsTrue c ↔ (IsTrue b × AreBelow m (references_in qs))))
    → ((k ≡ n) × (IsTrue c ↔ (IsTrue a × AreBelow n (references_in (ps ++ qs)))))
bounded_append ps qs n m k a b c first second =
    let both =
    all_appended (λ symbol. symbol.id < n) (references_in ps) (references_in qs) in
    let then : IsTrue c ↔ (IsTrue b × AreBelow n (references_in qs)) =
    subst (λ x. IsTrue c ↔ (IsTrue b × AreBelow x (references_in qs))) first.0 second.1 in (
      second.0 ∙ first.0,
      rw (references_append ps qs) (
        (λ yes. let t = then.0 yes in let f = first.1.0 t.0 in (f.0, both.1 (f.1, t.1))),
        (λ all. let t = both.0 all.1 in then.1 (first.1.1 (all.0, t.0), t.1)),
      ),
    )
