-- The laws of what visitors do: no pieces do nothing, and pieces are visited one after another.
use Rattle.std.specs.Prelude.{◌≡◌, ℕ, List, [], ◌++◌, Bool}
use Rattle.std.proofs.Common.{refl, sym, ap, subst, ◌∙◌, append_assoc, append-nil}
use Rattle.std.proofs.lemmas.List.{map-append}
use Rattle.scale_info_types.specs.Portable.{Id}
use Rattle.scale_info_bytes.specs.Encodings.{IsPrefix}
use Rattle.scale_info_passes.specs.Pieces.{Piece, references_in, EncodesPieces}
use Rattle.scale_info_passes.specs.PieceLaws.{references_append, join_pieces}
use Rattle.scale_info_passes.specs.Visits.{renumbered, ids_of, RenumbersPieces, GathersPieces}

-- a prefix of a prefix is a prefix
pub prefix_of_prefix : {a b c : List ℕ} → IsPrefix a b → IsPrefix b c → IsPrefix a c
prefix_of_prefix {a} p q = record {
  rest = p.rest ++ q.rest;
  parts = q.parts ∙ ap (λ t. t ++ q.rest) p.parts ∙ append_assoc a p.rest q.rest;
}

-- no pieces were renumbered
pub renumbers_none :
    (f : Id → Id) (failed : Bool) (a : List ℕ)
    → RenumbersPieces f [] failed failed a a
renumbers_none f failed a = record {
  keeps = record { rest = []; parts = sym (append-nil a) };
  unfailed = λ e. e;
  appends = λ e. record { encoding = []; encodes = refl; parts = sym (append-nil a) };
}

-- pieces were renumbered, and then others by the same numbers
pub renumbers_append :
    (n m : List ℕ) (ps qs : List Piece) (r s t : Bool) (a b c : List ℕ)
    → m ≡ n → RenumbersPieces (renumbered n) ps r s a b → RenumbersPieces (renumbered m) qs s t b c
    → RenumbersPieces (renumbered n) (ps ++ qs) r t a c
renumbers_append n m ps qs r s t a b c e p q = record {
  keeps = prefix_of_prefix p.keeps q.keeps;
  unfailed = λ k. p.unfailed (q.unfailed k);
  appends = λ k.
      let x = p.appends (q.unfailed k) in
      let y = q.appends k in
      record {
        encoding = x.encoding ++ y.encoding;
        encodes =
            join_pieces (renumbered n) ps qs x.encoding y.encoding x.encodes
            (subst (λ l. EncodesPieces (renumbered l) qs y.encoding) e y.encodes);
        parts = y.parts ∙ ap (λ z. z ++ y.encoding) x.parts ∙ append_assoc a x.encoding y.encoding;
      };
}

-- the references of no pieces were gathered
pub gathers_none : (failed : Bool) (a : List ℕ) → GathersPieces [] failed failed a a
gathers_none failed a = record { unfailed = λ e. e; appends = λ e. sym (append-nil a) }

-- the references of pieces were gathered, and then those of others
pub gathers_append :
    (ps qs : List Piece) (r s t : Bool) (a b c : List ℕ)
    → GathersPieces ps r s a b → GathersPieces qs s t b c → GathersPieces (ps ++ qs) r t a c
gathers_append ps qs r s t a b c p q = record {
  unfailed = λ k. p.unfailed (q.unfailed k);
  appends = λ k.
      q.appends k
      ∙ ap (λ x. x ++ ids_of (references_in qs)) (p.appends (q.unfailed k))
      ∙ append_assoc a (ids_of (references_in ps)) (ids_of (references_in qs))
      ∙ ap (λ x. a ++ x)
      (sym (map-append (λ i. i.id) (references_in ps) (references_in qs))
      ∙ ap ids_of (sym (references_append ps qs)));
}
