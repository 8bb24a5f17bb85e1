-- Decoders and the writers that are their inverses.
use Rattle.std.proofs.Common.{◌≡◌, ℕ, zero, suc, ◌+◌, List, [], ◌∷◌, ◌++◌, length, replicate, Option, Some, None}
use Rattle.std.proofs.Common.{refl, ap, sym, ◌∙◌, append_assoc, subst}
use Rattle.std.specs.List.{AllByRecursion}
use Rattle.scale_info_bytes.specs.Encodings.{HasPrefix, IsByte}
use Rattle.scale_info_bytes.specs.Parts.{IsConcatenation}
use Rattle.scale_info_bytes.proofs.Steps.{prefix_map, prefix_both}
use Rattle.scale_info_value.specs.declared.value.Failure.{Failure}
use Rattle.scale_info_value.specs.Outcomes.{Decoder, Outcome, decoded, failed, and_then, outcome_map}
use Rattle.scale_info_value.specs.Outcomes as outcomes
use Rattle.scale_info_value.specs.declared.value.Value.{Value, out-Value}
use Rattle.scale_info_value.specs.declared.value.Value.TheOpen.{Value-F}
use Rattle.scale_info_value_encode.specs.declared.path.Step.{Step}
use Rattle.scale_info_value_encode.specs.declared.path.Step.TheVariants as step
use Rattle.scale_info_value_encode.specs.Writers.{Refusal, Written, Writer, written, refused, followed_by, of_part, item, in_turn}
use Rattle.scale_info_value_encode.specs.DefinitionWriters.{if_found, held}
use Rattle.scale_info_value_encode.proofs.ValueKinds.{IsKind}

-- The writer gives the bytes that the decoder reads: each value is read from its bytes, whatever
-- follows them; and a value that was read has the bytes that it was read from.
pub record IsInverse {A : Type 0} (read : Decoder A) (write : Writer A) : Type 0 where
  pub back :
      (value : A) (bytes rest : List ℕ) → write value ≡ written bytes
      → read (bytes ++ rest) ≡ decoded value rest
  pub forth :
      (input : List ℕ) (value : A) (rest : List ℕ) → AllByRecursion IsByte input
      → read input ≡ decoded value rest
      → HasPrefix (λ bytes. write value ≡ written bytes) input rest

-- what is left of bytes is bytes
pub rest_bytes : (b c : List ℕ) → AllByRecursion IsByte (b ++ c) → AllByRecursion IsByte c
rest_bytes [] c all = all
rest_bytes (n ∷ b) c all = rest_bytes b c all.1

-- bytes are made of bytes
pub first_bytes : (b c : List ℕ) → AllByRecursion IsByte (b ++ c) → AllByRecursion IsByte b
first_bytes [] c all = tt
first_bytes (n ∷ b) c all = (all.0, first_bytes b c all.1)

-- nothing is read, and nothing is written
pub nothing : {A : Type 0} (fails : Failure) (why : Refusal) → IsInverse {A = A} (λ input. failed fails) (λ value. refused why)
nothing fails why = record {
  back = λ value bytes rest e. cc;
  forth = λ input value rest all e. cc;
}

-- where a decoder reads as another does, it has the same inverse
pub read_alike :
    {A : Type 0} (read other : Decoder A) (write : Writer A) → ((input : List ℕ) → read input ≡ other input)
    → IsInverse read write → IsInverse other write
read_alike read other write same inverse = subst (λ r. IsInverse r write) (λ i input. same input i) inverse

-- an outcome that is mapped twice
pub twice :
    {A B C : Type 0} (f : A → B) (g : B → C) (o : Outcome A)
    → outcome_map g (outcome_map f o) ≡ outcome_map (λ x. g (f x)) o
twice f g (decoded x rest) = refl
twice f g (failed why) = refl

-- what a mapped outcome came from
pub unmapped :
    {A B : Type 0} (f : A → B) (o : Outcome A) (value : B) (rest : List ℕ) → outcome_map f o ≡ decoded value rest
    → (x : A) × (o ≡ decoded x rest) × (f x ≡ value)
unmapped f (decoded x r) value rest e =
    let same : f x ≡ value = cc in
    let left : r ≡ rest = cc in
    (x, ap (decoded x) left, same)
unmapped f (failed why) value rest e = cc

-- Values of one kind, by what they hold: all that is read is of the kind, and reading and writing are
-- inverse to one another at what the values hold.
pub by_kind :
    {A : Type 0} (make : A → Value) (kind : Value-F Value → Option A) (read : Decoder Value) (write : Writer A)
    → IsKind make kind
    → ((input : List ℕ) (value : Value) (rest : List ℕ) → read input ≡ decoded value rest → (x : A) × (value ≡ make x))
    → ((x : A) (bytes rest : List ℕ) → write x ≡ written bytes → read (bytes ++ rest) ≡ decoded (make x) rest)
    → ((input : List ℕ) (x : A) (rest : List ℕ) → AllByRecursion IsByte input → read input ≡ decoded (make x) rest
    → HasPrefix (λ bytes. write x ≡ written bytes) input rest)
    → IsInverse read (held kind write)
by_kind {A = A} make kind read write k gives back forth = record {
  back = λ value bytes rest e. by_found value bytes rest (kind (out-Value value)) refl e;
  forth = λ input value rest all e.
      let p = gives input value rest e in
      let q = forth input p.0 rest all (e ∙ ap (λ v. decoded v rest) p.1) in
      let whole : held kind write value ≡ written q.encoding =
      ap (held kind write) p.1 ∙ ap (if_found write) (k.found p.0) ∙ q.encodes in
      record { encoding = q.encoding; encodes = whole; parts = q.parts };
}
  where
    by_found :
        (value : Value) (bytes rest : List ℕ) (o : Option A) → kind (out-Value value) ≡ o → if_found write o ≡ written bytes
        → read (bytes ++ rest) ≡ decoded value rest
    by_found value bytes rest None is e = cc
    by_found value bytes rest (Some x) is e =
        back x bytes rest e ∙ ap (λ v. decoded v rest) (sym (k.made value x is))

-- values of one kind that are made of what is read
pub of_kind :
    {A : Type 0} (make : A → Value) (kind : Value-F Value → Option A) (read : Decoder A) (write : Writer A)
    → IsKind make kind → IsInverse read write → IsInverse (λ input. outcome_map make (read input)) (held kind write)
of_kind {A = A} make kind read write k inverse =
    by_kind make kind (λ input. outcome_map make (read input)) write k
    (λ input value rest e. let p = unmapped make (read input) value rest e in (p.0, sym p.2))
    (λ x bytes rest e. ap (outcome_map make) (inverse.back x bytes rest e))
    (λ input x rest all e.
    let p = unmapped make (read input) (make x) rest e in
    let same : p.0 ≡ x = injective p.0 x p.2 in
    inverse.forth input x rest all (p.1 ∙ ap (λ y. decoded y rest) same))
  where
    injective : (x y : A) → make x ≡ make y → x ≡ y
    injective x y e =
        let h : Some x ≡ Some y = sym (k.found x) ∙ ap (λ v. kind (out-Value v)) e ∙ k.found y in cc

-- what two values, one after the other, are made of
pub parted :
    (first second : Written) (bytes : List ℕ) → followed_by first second ≡ written bytes
    → (b : List ℕ) × (c : List ℕ) × (first ≡ written b) × (second ≡ written c) × (bytes ≡ b ++ c)
parted (written b) (written c) bytes e = (b, c, refl, refl, cc)
parted (written b) (refused why) bytes e = cc
parted (refused why) second bytes e = cc

-- the bytes of two values, one after the other
joined :
    (first second : Written) (bytes : List ℕ)
    → IsConcatenation (λ b. first ≡ written b) (λ c. second ≡ written c) bytes
    → followed_by first second ≡ written bytes
joined first second bytes both =
    (λ i. followed_by (both.encodes_first i) (both.encodes_second i)) ∙ ap written (sym both.parts)

-- what decoders one after the other gave
pub sequenced :
    {A B : Type 0} (o : Outcome A) (next : A → Decoder B) (value : B) (rest : List ℕ)
    → and_then o next ≡ decoded value rest
    → (x : A) × (r : List ℕ) × (o ≡ decoded x r) × (next x r ≡ decoded value rest)
sequenced (decoded x r) next value rest e = (x, r, refl, e)
sequenced (failed why) next value rest e = cc

-- One value, and then another by it. `tag` finds the first in the second.
pub followed :
    {A B : Type 0} (tag : B → A) (read : Decoder A) (write : Writer A) (next : A → Decoder B) (more : A → Writer B)
    → IsInverse read write → ((x : A) → IsInverse (next x) (more x))
    → ((x : A) (value : B) (bytes : List ℕ) → more x value ≡ written bytes → tag value ≡ x)
    → IsInverse (λ input. and_then (read input) next) (λ value. followed_by (write (tag value)) (more (tag value) value))
followed tag read write next more first second tagged = record {
  back = λ value bytes rest e.
      let p = parted (write (tag value)) (more (tag value) value) bytes e in
      let whole : bytes ++ rest ≡ p.0 ++ (p.1 ++ rest) = ap (λ b. b ++ rest) p.4 ∙ append_assoc p.0 p.1 rest in
      ap (λ b. and_then (read b) next) whole
      ∙ ap (λ o. and_then o next) (first.back (tag value) p.0 (p.1 ++ rest) p.2)
      ∙ (second (tag value)).back value p.1 rest p.3;
  forth = λ input value rest all e.
      let p = sequenced (read input) next value rest e in
      let q = first.forth input p.0 p.1 all p.2 in
      let left = rest_bytes q.encoding p.1 (subst (AllByRecursion IsByte) q.parts all) in
      let r = (second p.0).forth p.1 value rest left p.3 in
      let same : tag value ≡ p.0 = tagged p.0 value r.encoding r.encodes in
      let whole = ap (λ x. followed_by (write x) (more x value)) same in
      prefix_map (λ bytes both. whole ∙ joined (write p.0) (more p.0 value) bytes both) (prefix_both q r);
}

-- a part has the bytes that it has by itself
pub part_written : (s : Step) (w : Written) (bytes : List ℕ) → of_part s w ≡ written bytes → w ≡ written bytes
part_written s (written b) bytes e = e
part_written s (refused why) bytes e = cc

-- parts, to which steps lead, are read and written as they are by themselves
pub parts_read_back :
    {A : Type 0} (to : A → Step) (read : Decoder A) (write : Writer A) → IsInverse read write
    → IsInverse read (λ value. of_part (to value) (write value))
parts_read_back to read write inverse = record {
  back = λ value bytes rest e. inverse.back value bytes rest (part_written (to value) (write value) bytes e);
  forth = λ input value rest all e.
      let q = inverse.forth input value rest all e in
      record { encoding = q.encoding; encodes = ap (of_part (to value)) q.encodes; parts = q.parts };
}

-- so are items
pub items_at :
    {A : Type 0} (read : Decoder A) (write : Writer A) → IsInverse read write → (place : ℕ)
    → IsInverse read (item write place)
items_at read write inverse place = parts_read_back (λ value. step.Index place) read write inverse

-- no decoder and no writer
pub none_in_turn : {A : Type 0} (place : ℕ) → IsInverse {A = List A} (outcomes.in_turn []) (in_turn place [])
none_in_turn {A} place = record { back = back; forth = forth }
  where
    back :
        (values : List A) (bytes rest : List ℕ) → in_turn place [] values ≡ written bytes
        → outcomes.in_turn [] (bytes ++ rest) ≡ decoded values rest
    back [] bytes rest e = let none : [] ≡ bytes = cc in ap (λ b. decoded [] (b ++ rest)) (sym none)
    back (value ∷ values) bytes rest e = cc

    forth :
        (input : List ℕ) (values : List A) (rest : List ℕ) → AllByRecursion IsByte input
        → outcomes.in_turn [] input ≡ decoded values rest
        → HasPrefix (λ bytes. in_turn place [] values ≡ written bytes) input rest
    forth input [] rest all e = let same : input ≡ rest = cc in record { encoding = []; encodes = refl; parts = same }
    forth input (value ∷ values) rest all e = cc

-- one decoder and its writer, and then others
pub one_in_turn :
    {A : Type 0} (place : ℕ) (first : Decoder A) (write : ℕ → Writer A) (more : List (Decoder A))
    (writers : List (ℕ → Writer A)) → IsInverse first (write place)
    → IsInverse (outcomes.in_turn more) (in_turn (place + 1) writers)
    → IsInverse (outcomes.in_turn (first ∷ more)) (in_turn place (write ∷ writers))
one_in_turn {A} place first write more writers one others = record { back = back; forth = forth }
  where
    back :
        (values : List A) (bytes rest : List ℕ) → in_turn place (write ∷ writers) values ≡ written bytes
        → outcomes.in_turn (first ∷ more) (bytes ++ rest) ≡ decoded values rest
    back [] bytes rest e = cc
    back (value ∷ values) bytes rest e =
        let p = parted (write place value) (in_turn (place + 1) writers values) bytes e in
        let whole : bytes ++ rest ≡ p.0 ++ (p.1 ++ rest) = ap (λ b. b ++ rest) p.4 ∙ append_assoc p.0 p.1 rest in
        ap (outcomes.in_turn (first ∷ more)) whole
        ∙ ap (λ o. and_then o (λ v r. outcome_map (λ vs. v ∷ vs) (outcomes.in_turn more r)))
        (one.back value p.0 (p.1 ++ rest) p.2)
        ∙ ap (outcome_map (λ vs. value ∷ vs)) (others.back values p.1 rest p.3)

    forth :
        (input : List ℕ) (values : List A) (rest : List ℕ) → AllByRecursion IsByte input
        → outcomes.in_turn (first ∷ more) input ≡ decoded values rest
        → HasPrefix (λ bytes. in_turn place (write ∷ writers) values ≡ written bytes) input rest
    forth input values rest all e =
        let p = sequenced (first input) (λ v r. outcome_map (λ vs. v ∷ vs) (outcomes.in_turn more r)) values rest e in
        let u = unmapped (λ vs. p.0 ∷ vs) (outcomes.in_turn more p.1) values rest p.3 in
        let q = one.forth input p.0 p.1 all p.2 in
        let left = rest_bytes q.encoding p.1 (subst (AllByRecursion IsByte) q.parts all) in
        let r = others.forth p.1 u.0 rest left u.1 in
        let whole = ap (in_turn place (write ∷ writers)) (sym u.2) in
        prefix_map (λ bytes both. whole ∙ joined (write place p.0) (in_turn (place + 1) writers u.0) bytes both)
        (prefix_both q r)

-- so many decoders and writers of one kind
pub repeated :
    {A : Type 0} (n place : ℕ) (read : Decoder A) (write : ℕ → Writer A) → ((k : ℕ) → IsInverse read (write k))
    → IsInverse (outcomes.in_turn (replicate n read)) (in_turn place (replicate n write))
repeated zero place read write one = none_in_turn place
repeated (suc n) place read write one =
    one_in_turn place read write (replicate n read) (replicate n write) (one place)
    (repeated n (place + 1) read write one)

-- as many values are written as there are writers
pub as_many :
    {A : Type 0} (n place : ℕ) (write : ℕ → Writer A) (values : List A) (bytes : List ℕ)
    → in_turn place (replicate n write) values ≡ written bytes → length values ≡ n
as_many zero place write [] bytes e = refl
as_many zero place write (value ∷ values) bytes e = cc
as_many (suc n) place write [] bytes e = cc
as_many (suc n) place write (value ∷ values) bytes e =
    let p = parted (write place value) (in_turn (place + 1) (replicate n write) values) bytes e in
    ap suc (as_many n (place + 1) write values p.1 p.3)
