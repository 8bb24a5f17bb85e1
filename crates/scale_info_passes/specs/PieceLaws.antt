-- Pieces one after another.
use Rattle.std.specs.Prelude.{◌≡◌, ℕ, List, [], ◌∷◌, ◌++◌}
use Rattle.std.proofs.Common.{refl, sym, ap, subst, ◌∙◌, append_assoc}
use Rattle.scale_info_types.specs.Portable.{Id}
use Rattle.scale_info_bytes.specs.PartLaws.{concatenation}
use Rattle.scale_info_bytes.specs.Parts.{IsConcatenation}
use Rattle.scale_info_passes.specs.Pieces.{Piece, verbatim, reference, references_in, EncodesPieces}

-- the references of pieces one after another are those of the first, then those of the second
pub references_append :
    (ps qs : List Piece)
    → references_in (ps ++ qs) ≡ references_in ps ++ references_in qs
references_append [] qs = refl
references_append (verbatim t ∷ ps) qs = references_append ps qs
references_append (reference i ∷ ps) qs = ap (λ t. i ∷ t) (references_append ps qs)

module _ {P Q R : List ℕ → Type 0} where
  -- a second part that is itself two: the first of them joins the first part
  regroup :
      {S : List ℕ → Type 0} {b : List ℕ} (w : IsConcatenation P S b)
      → IsConcatenation Q R w.second → IsConcatenation (IsConcatenation P Q) R b
  regroup w k = record {
    first = w.first ++ k.first;
    second = k.second;
    encodes_first = concatenation _ _ w.encodes_first k.encodes_first;
    encodes_second = k.encodes_second;
    parts = w.parts ∙ ap (λ x. w.first ++ x) k.parts ∙ sym (append_assoc w.first k.first k.second);
  }

  -- bytes added at the end go to the second part
  extend :
      {b : List ℕ} (c : List ℕ) (w : IsConcatenation P Q b)
      → R (w.second ++ c) → IsConcatenation P R (b ++ c)
  extend c w x = record {
    first = w.first;
    second = w.second ++ c;
    encodes_first = w.encodes_first;
    encodes_second = x;
    parts = ap (λ t. t ++ c) w.parts ∙ append_assoc w.first w.second c;
  }

-- an encoding of pieces one after another is an encoding of the first, then one of the second
pub split_pieces :
    (f : Id → Id) (ps qs : List Piece) (b : List ℕ)
    → EncodesPieces f (ps ++ qs) b → IsConcatenation (EncodesPieces f ps) (EncodesPieces f qs) b
split_pieces f [] qs b w = concatenation _ _ refl w
split_pieces f (verbatim t ∷ ps) qs b w = regroup w (split_pieces f ps qs w.second w.encodes_second)
split_pieces f (reference i ∷ ps) qs b w =
    regroup w (split_pieces f ps qs w.second w.encodes_second)

-- an encoding of pieces followed by one of other pieces is an encoding of both
pub join_pieces :
    (f : Id → Id) (ps qs : List Piece) (b c : List ℕ)
    → EncodesPieces f ps b → EncodesPieces f qs c → EncodesPieces f (ps ++ qs) (b ++ c)
join_pieces f [] qs b c w x = subst (EncodesPieces f qs) (sym (ap (λ t. t ++ c) w)) x
join_pieces f (verbatim t ∷ ps) qs b c w x =
    extend c w (join_pieces f ps qs w.second c w.encodes_second x)
join_pieces f (reference i ∷ ps) qs b c w x =
    extend c w (join_pieces f ps qs w.second c w.encodes_second x)
