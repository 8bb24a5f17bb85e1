-- Lemmas on texts that are cut at `::`, on replaced segments and on the first segment that is
-- no identifier.
use Rattle.std.proofs.Common.{◌≡◌, ◌++◌, ◌∷◌, ◌+◌, ◌<◌, ◌≤◌, ℕ, true, false, Option, Some, None}
use Rattle.std.proofs.Common.{List, [], MatchOption, length, take, drop, get_or, map, sym, ap}
use Rattle.std.proofs.Common.{subst, refl, ◌∙◌, append_assoc, length-append, inl, inr, arith}
use Rattle.std.specs.Str.{bytes_eq}
use Rattle.std.specs.Str.Pattern.{FindsText, SplitsAroundMatch}
use Rattle.std.proofs.lemmas.Bool.{cases_lt}
use Rattle.std.proofs.lemmas.List.{drop_at, drop_more, drop_all, take_all, take-append-drop}
use Rattle.std.proofs.lemmas.List.{map-append, map_push, map_more, length-map, length-take-le}
use Rattle.std.proofs.lemmas.List.{flat_map_more, take_more, take_at, append_cancel_left}
use Rattle.std.proofs.lemmas.List.Elements.{All-same, All-push}
use Rattle.std.specs.List.{All}
use Rattle.scale_info_segments.specs.Identifiers.{IsIdentifier}
use Rattle.scale_info_segments.specs.TypePaths.{AreDeclared, StaticTexts, HasNoSeparator}
use Rattle.scale_info_segments.specs.TypePaths.{IsAroundFirstSeparator, IsFirstInvalidIndex, IsPieces}
use Rattle.scale_info_segments.specs.TypePaths.{cut, joined, replaced, whole, separator, texts}
use Rattle.scale_info_segments.specs.TypePaths.{text_pairs}
use denote.Ref.{Bor}

-- what is left of a text after a prefix of it
after_front : (text front rest : List ℕ) → text ≡ front ++ rest → drop (length front) text ≡ rest
after_front text front rest e = ap (drop (length front)) e ∙ drop_at front rest (length front) refl

front_fits : (text front rest : List ℕ) → text ≡ front ++ rest → length front ≤ length text
front_fits text front rest e = let sizes = ap length e ∙ length-append front rest in omega arith

-- the clause of `split_once` at `::`
pub split_at_separator :
    (text : List ℕ) (r : Option (Bor (List ℕ) × Bor (List ℕ)))
    → MatchOption r (FindsText separator text None) (λ x. SplitsAroundMatch (FindsText separator) text x.0.now x.1.now)
    → MatchOption r (HasNoSeparator text) (λ x. IsAroundFirstSeparator text x.0.now x.1.now)
split_at_separator text None lacks =
    record {
      none =
          λ front back e.
          lacks (length front) (front_fits text front (separator ++ back) e) back
          (after_front text front (separator ++ back) e);
    }
split_at_separator text (Some x) (i, j, finds, before_is, after_is, ordered, before_len, _) =
    record {
      parts =
          sym (take-append-drop i text)
          ∙ ap (λ t. take i text ++ t) finds.1.split
          ∙ ap (λ t. t ++ (separator ++ drop j text)) (sym before_is)
          ∙ ap (λ t. x.0.now ++ (separator ++ t)) (sym after_is);
      first =
          λ front back e. elim (cases_lt (length front) (length x.0.now)) [
            | inl less ↦ absurd (finds.0 (length front) (omega arith) back (after_front text front (separator ++ back) e))
            | inr ok ↦ ok
          ];
    }

-- what comes after the first `::` is shorter than the text
pub after_is_shorter :
    (text before after : List ℕ)
    → IsAroundFirstSeparator text before after → length after < length text
after_is_shorter text before after cut_here =
    let sizes =
    ap length cut_here.parts
    ∙ length-append before (separator ++ after)
    ∙ ap (λ n. length before + n) (length-append separator after) in
    omega arith

-- a text cut as far as `rest`: with the pieces of `rest`, what was done makes the pieces of the
-- text, replaced
abbrev pub IsCutTo : List (List ℕ × List ℕ) → List ℕ → StaticTexts → List ℕ → Type 0
IsCutTo pairs text done rest =
    (more : List (List ℕ))
    → IsPieces rest more
    → (pieces : List (List ℕ)) × IsPieces text pieces
    × (texts done ++ map (replaced pairs) more ≡ map (replaced pairs) pieces)

-- at the start nothing is cut, and the rest is the whole text
pub cut_none : (pairs : List (List ℕ × List ℕ)) (text : List ℕ) → IsCutTo pairs text [] text
cut_none pairs text more is = (more, is, refl)

-- one more piece is cut off the rest at its first `::` and replaced
pub cut_more :
    (pairs : List (List ℕ × List ℕ)) (text rest before after : List ℕ) (done : StaticTexts)
    (new : Bor (List ℕ)) (longer : StaticTexts)
    → IsCutTo pairs text done rest
    → IsAroundFirstSeparator rest before after
    → new.now ≡ replaced pairs before
    → longer ≡ done ++ new ∷ []
    → IsCutTo pairs text longer after
cut_more pairs text rest before after done new longer so_far around is_new e more is =
    let all = so_far (before ∷ more) (cut rest before after more around is) in (
      all.0,
      all.1,
      ap (λ ts. texts ts ++ map (replaced pairs) more) e
          ∙ ap (λ t. t ++ map (replaced pairs) more) (map_push (λ t. t.now) done new)
          ∙ append_assoc (texts done) (new.now ∷ []) (map (replaced pairs) more)
          ∙ ap (λ t. texts done ++ (t ∷ map (replaced pairs) more)) is_new
          ∙ all.2,
    )

-- a rest without `::` is the last piece, and then all pieces are replaced
pub cut_all :
    (pairs : List (List ℕ × List ℕ)) (text rest : List ℕ) (done : StaticTexts) (new : Bor (List ℕ))
    (longer : StaticTexts)
    → IsCutTo pairs text done rest
    → HasNoSeparator rest
    → new.now ≡ replaced pairs rest
    → longer ≡ done ++ new ∷ []
    → (pieces : List (List ℕ)) × IsPieces text pieces × (texts longer ≡ map (replaced pairs) pieces)
cut_all pairs text rest done new longer so_far lacks is_new e =
    let all = so_far (rest ∷ []) (whole rest lacks) in (
      all.0,
      all.1,
      ap texts e ∙ map_push (λ t. t.now) done new ∙ ap (λ t. texts done ++ (t ∷ [])) is_new ∙ all.2,
    )

-- the text, where the pairs before the i-th replace it by nothing else
module _ (pairs : List (Bor (List ℕ) × Bor (List ℕ))) (i : ℕ) (d : Bor (List ℕ) × Bor (List ℕ))
    (text : List ℕ) (within : i < length pairs)
    (so_far : replaced (text_pairs pairs) text ≡ replaced (text_pairs (drop i pairs)) text) where
  replaced_from :
      replaced (text_pairs pairs) text
      ≡ replaced (text_pairs (get_or pairs i d ∷ drop (i + 1) pairs)) text
  replaced_from = so_far ∙ ap (λ ps. replaced (text_pairs ps) text) (drop_more pairs i d within)

  -- one more pair
  pub replaced_here :
      bytes_eq (get_or pairs i d).0.now text ≡ true
      → (get_or pairs i d).1.now ≡ replaced (text_pairs pairs) text
  replaced_here same =
      let here : replaced (text_pairs (get_or pairs i d ∷ drop (i + 1) pairs)) text ≡ (get_or pairs i d).1.now = rw same refl in
      sym (replaced_from ∙ here)

  -- a pair whose first text is another one is passed over
  pub replaced_later :
      bytes_eq (get_or pairs i d).0.now text ≡ false
      → replaced (text_pairs pairs) text ≡ replaced (text_pairs (drop (i + 1) pairs)) text
  replaced_later differs =
      let here : replaced (text_pairs (get_or pairs i d ∷ drop (i + 1) pairs)) text ≡ replaced (text_pairs (drop (i + 1) pairs)) text = rw differs refl in
      replaced_from ∙ here

-- past the last pair the text is its own replacement
pub replaced_never :
    (pairs : List (Bor (List ℕ) × Bor (List ℕ))) (i : ℕ) (text : List ℕ)
    → length pairs ≤ i
    → replaced (text_pairs pairs) text ≡ replaced (text_pairs (drop i pairs)) text
    → text ≡ replaced (text_pairs pairs) text
replaced_never pairs i text past so_far =
    sym (so_far ∙ ap (λ ps. replaced (text_pairs ps) text) (drop_all i pairs past))

-- without pairs nothing is replaced
pub replaced_by_none : (segments : List (List ℕ)) → map (replaced []) segments ≡ segments
replaced_by_none [] = refl
replaced_by_none (segment ∷ more) = ap (λ t. segment ∷ t) (replaced_by_none more)

-- the identifiers so far
pub identifiers_more :
    (strings : StaticTexts) (i : ℕ) (d : Bor (List ℕ))
    → i < length strings
    → All IsIdentifier (texts (take i strings))
    → IsIdentifier (get_or strings i d).now
    → All IsIdentifier (texts (take (i + 1) strings))
identifiers_more strings i d within so_far is =
    All-same IsIdentifier _ _ (map_more (λ t. t.now) strings i d within)
    (All-push IsIdentifier _ _ so_far is)

-- past the last text all of them are identifiers
pub identifiers_all :
    (strings : StaticTexts) (i : ℕ)
    → length strings ≤ i
    → All IsIdentifier (texts (take i strings))
    → All IsIdentifier (texts strings)
identifiers_all strings i past so_far =
    All-same IsIdentifier _ _ (ap texts (sym (take_all i strings past))) so_far

-- after identifiers alone, a text that is none is the first invalid one
pub bad_here :
    (strings : StaticTexts) (i : ℕ) (d : Bor (List ℕ))
    → i < length strings
    → All IsIdentifier (texts (take i strings))
    → ¬ (IsIdentifier (get_or strings i d).now)
    → IsFirstInvalidIndex (texts strings) i
bad_here strings i d within so_far bad =
    record {
      front = texts (take i strings);
      bad = (get_or strings i d).now;
      back = texts (drop (i + 1) strings);
      parts =
          ap texts (sym (take-append-drop i strings))
          ∙ map-append (λ t. t.now) (take i strings) (drop i strings)
          ∙ ap (λ ts. texts (take i strings) ++ texts ts) (drop_more strings i d within);
      before = length-map (take i strings) (λ t. t.now) ∙ length-take-le i strings (omega arith);
      identifiers = so_far;
      no_identifier = bad;
    }

-- the module path's pieces and the name, each replaced
pub declared_more :
    (pairs : List (List ℕ × List ℕ)) (name module_path : List ℕ) (done : StaticTexts)
    (new : Bor (List ℕ)) (all : StaticTexts)
    → (pieces : List (List ℕ)) × IsPieces module_path pieces
    × (texts done ≡ map (replaced pairs) pieces)
    → new.now ≡ replaced pairs name
    → all ≡ done ++ new ∷ []
    → (declared : List (List ℕ)) × AreDeclared name module_path declared
    × (texts all ≡ map (replaced pairs) declared)
declared_more pairs name module_path done new all (pieces, is, so_far) is_new e = (
  pieces ++ name ∷ [],
  record { modules = pieces; cut = is; order = refl },
  ap texts e
      ∙ map_push (λ t. t.now) done new
      ∙ ap (λ t. texts done ++ (t ∷ [])) is_new
      ∙ ap (λ t. t ++ replaced pairs name ∷ []) so_far
      ∙ sym (map_push (replaced pairs) pieces name),
)

-- one more segment of a joined path
pub joined_more :
    (first : List ℕ) (others : List (List ℕ)) (i : ℕ) (segment shown : List ℕ)
    → i < length others
    → segment ≡ get_or others i segment
    → shown ≡ segment
    → joined (first ∷ take i others) ++ (separator ++ shown) ≡ joined (first ∷ take (i + 1) others)
joined_more first others i segment shown within is same =
    ap (λ t. joined (first ∷ take i others) ++ (separator ++ t)) (same ∙ is)
    ∙ flat_map_more (λ t. separator ++ t) first (take i others) (get_or others i segment)
    ∙ ap (λ ts. joined (first ∷ ts)) (sym (take_more others i segment within))

-- past the last segment the path is joined whole
pub joined_all :
    (all others : List (List ℕ)) (first : List ℕ) (i : ℕ)
    → all ≡ first ∷ others
    → length others ≤ i
    → joined (first ∷ take i others) ≡ joined all
joined_all all others first i e past =
    ap (λ ts. joined (first ∷ ts)) (take_all i others past) ∙ ap joined (sym e)

-- equal lists of strings have the same texts
pub texts_same :
    (strings all : StaticTexts) (segments : List (List ℕ))
    → strings ≡ all → texts all ≡ segments → texts strings ≡ segments
texts_same strings all segments e is = ap texts e ∙ is

-- a text has its first `::` in one way alone
same_cut :
    (text before after other rest : List ℕ)
    → IsAroundFirstSeparator text before after
    → IsAroundFirstSeparator text other rest
    → (before ≡ other) × (after ≡ rest)
same_cut text before after other rest a b =
    let low = a.first other rest b.parts in
    let high = b.first before after a.parts in
    let same : length before ≡ length other = omega arith in
    let fronts : before ≡ other =
    sym (take_at before (separator ++ after) (length other) same)
    ∙ ap (take (length other)) (sym a.parts ∙ b.parts)
    ∙ take_at other (separator ++ rest) (length other) refl in (
      fronts,
      append_cancel_left separator after rest
          (append_cancel_left other (separator ++ after) (separator ++ rest)
          (ap (λ t. t ++ (separator ++ after)) (sym fronts) ∙ sym a.parts ∙ b.parts)),
    )

-- a text has its pieces in one way alone
pub same_pieces :
    (text : List ℕ) (pieces others : List (List ℕ))
    → IsPieces text pieces
    → IsPieces text others
    → pieces ≡ others
same_pieces _ _ _ (whole text none) (whole _ also) = refl
same_pieces _ _ _ (whole text none) (cut _ before after more around is) =
    absurd (none.none before after around.parts)
same_pieces _ _ _ (cut text before after more around is) (whole _ none) =
    absurd (none.none before after around.parts)
same_pieces _ _ _ (cut text before after more around is) (cut _ other rest left also are) =
    let same = same_cut text before after other rest around also in
    ap (λ t. t ∷ more) same.0
    ∙ ap (λ ts. other ∷ ts) (same_pieces after more left is (subst (λ t. IsPieces t left) (sym same.1) are))
