-- Values that the first token says.
use Rattle.std.proofs.Common.{◌≡◌, ℕ, ◌<◌, List, ◌∷◌, Option, Some, None, Bool, refl, sym, ap, ◌∙◌, subst, Bor}
use Rattle.std.specs.Prelude.{⊤, option_map, IfSome, IfNone}
use Rattle.json.specs.Token as spec
use Rattle.json.specs.Reads.{token_of}
use Rattle.json.specs.declared.token.Token.{Token}
use Rattle.json.specs.declared.token.Token.TheVariants as token
use Rattle.serde_json.specs.Data.{Data, Num, null, boolean, number, string, array, object, unsigned, negative, float}
use Rattle.serde_json.specs.Find.{as_u64}
use Rattle.serde_json.specs.Read.{number_of}
use Rattle.scale_info_json_trees.specs.Meaning.{IsMeaningless, MeansNumber, MeansText, MeansOrNull}
use Rattle.scale_info_json_trees.specs.DefinitionTrees.{MeansPrimitive}
use Rattle.scale_info_primitives.specs.Primitives.{primitive_name}
use Rattle.scale_info_primitives.specs.declared.primitive.TypeDefPrimitive.{TypeDefPrimitive}
use Rattle.scale_info_json_text.specs.Readings.{IsMeant, Reads}
use Rattle.scale_info_json_text.proofs.Trees.{Fits, first_fits, alone_reads, some_number}

-- the kinds of trees
pub data Kind : Type 0 where
  null_kind : Kind
  boolean_kind : Kind
  number_kind : Kind
  string_kind : Kind
  array_kind : Kind
  object_kind : Kind

-- the kind of a tree
abbrev pub kind_of : Data → Kind
kind_of null = null_kind
kind_of (boolean b) = boolean_kind
kind_of (number n) = number_kind
kind_of (string s) = string_kind
kind_of (array ds) = array_kind
kind_of (object ms) = object_kind

-- trees of the kind begin with the token
abbrev pub Begins : Kind → Token → Type 0
Begins null_kind k = k ≡ token.Null
Begins boolean_kind k = (b : Bool) × (k ≡ token.Bool b)
Begins number_kind k = (x : Bor (List ℕ)) × (k ≡ token.Number x)
Begins string_kind k = (x : Bor (List ℕ)) × (k ≡ token.String x)
Begins array_kind k = k ≡ token.BeginArray
Begins object_kind k = k ≡ token.BeginObject

-- a tree that begins with a number is one
pub fits_number :
    (s : List ℕ) (tree : Data) → Fits (spec.number s) tree
    → (n : Num) × (tree ≡ number n) × (number_of s ≡ Some n)
fits_number s tree f =
    let n = some_number number (number_of s) tree f in
    let g : Some (number n.0) ≡ Some tree = ap (option_map number) (sym n.1) ∙ f in
    let same : tree ≡ number n.0 = cc in
    (n.0, same, n.1)

-- a tree is of a kind that begins with its first token
begins : (k : Token) (tree : Data) → Fits (token_of k) tree → Begins (kind_of tree) k
begins token.BeginObject tree f = subst (λ d. Begins (kind_of d) token.BeginObject) (sym f.1) refl
begins token.EndObject tree f = absurd f
begins token.BeginArray tree f = subst (λ d. Begins (kind_of d) token.BeginArray) (sym f.1) refl
begins token.EndArray tree f = absurd f
begins (token.Key x) tree f = absurd f
begins (token.String x) tree f = subst (λ d. Begins (kind_of d) (token.String x)) (sym f) (x, refl)
begins (token.Number x) tree f =
    subst (λ d. Begins (kind_of d) (token.Number x)) (sym (fits_number x.now tree f).1) (x, refl)
begins (token.Bool b) tree f = subst (λ d. Begins (kind_of d) (token.Bool b)) (sym f) (b, refl)
begins token.Null tree f = subst (λ d. Begins (kind_of d) token.Null) (sym f) refl
begins token.Bad tree f = absurd f

-- what the first token says of the tree
pub reads_fitting :
    {P Q : Data → Type 0} (depth : ℕ) (k : Token) (ts r : List spec.Token)
    → ((tree : Data) → Fits (token_of k) tree → P tree → Q tree) → Reads P depth (token_of k ∷ ts) r
    → Reads Q depth (token_of k ∷ ts) r
reads_fitting depth k ts r f h = record {
  tree = h.tree;
  begins = h.begins;
  is = f h.tree (first_fits depth (token_of k) ts r h.tree h.begins) h.is;
}

module _ (depth : ℕ) (k : Token) (ts r : List spec.Token) where
  -- a string is a text
  pub text_read :
      (s : Bor (List ℕ)) (v : List ℕ) → k ≡ token.String s → v ≡ s.now
      → Reads (λ tree. IsMeant (MeansText tree) (Some v)) depth (token_of k ∷ ts) ts
  text_read s v e f =
      subst (λ t. Reads (λ tree. IsMeant (MeansText tree) (Some v)) depth (token_of t ∷ ts) ts) (sym e)
      (alone_reads (λ tree. IsMeant (MeansText tree) (Some v)) depth (spec.string s.now) (string s.now) ts refl (record { is = ap string (sym f) }))

  -- where the first token begins no trees of a kind, nothing is meant that only these mean
  pub not_kind :
      {A : Type 0} (M : Data → A → Type 0) (kind : Kind)
      → ((tree : Data) (v : A) → M tree v → kind_of tree ≡ kind) → (Begins kind k → ⊥)
      → Reads (λ _. ⊤) depth (token_of k ∷ ts) r
      → Reads (λ tree. IsMeant (M tree) None) depth (token_of k ∷ ts) r
  not_kind M kind only none h = reads_fitting depth k ts r
      (λ tree f p. record {
        none = λ v m. none (subst (λ x. Begins x k) (only tree v m) (begins k tree f));
      }) h

  -- null means None
  pub null_read :
      {A : Type 0} (M : Data → A → Type 0) → k ≡ token.Null
      → Reads (λ tree. IsMeant (MeansOrNull M tree) (Some None)) depth (token_of k ∷ ts) ts
  null_read M e =
      subst (λ t. Reads (λ tree. IsMeant (MeansOrNull M tree) (Some None)) depth (token_of t ∷ ts) ts) (sym e)
      (alone_reads (λ tree. IsMeant (MeansOrNull M tree) (Some None)) depth spec.null null ts refl refl)

  -- a value that is not null is what it means
  pub not_null_read :
      {A : Type 0} (M : Data → A → Type 0) (v : A)
      → Reads (λ tree. IsMeant (M tree) (Some v)) depth (token_of k ∷ ts) r
      → Reads (λ tree. IsMeant (MeansOrNull M tree) (Some (Some v))) depth (token_of k ∷ ts) r
  not_null_read M v h = record { tree = h.tree; begins = h.begins; is = h.is }

  -- a tree that is not null and means nothing means no option
  or_null : {A : Type 0} (M : Data → A → Type 0) (tree : Data) (v : Option A) → (tree ≡ null → ⊥) → IsMeaningless (M tree) → MeansOrNull M tree v → ⊥
  or_null M tree None none n m = none m
  or_null M tree (Some v) none n m = n.none v m

  -- a value that is not null and means nothing
  pub not_null_none :
      {A : Type 0} (M : Data → A → Type 0) → (k ≡ token.Null → ⊥)
      → Reads (λ tree. IsMeant (M tree) None) depth (token_of k ∷ ts) r
      → Reads (λ tree. IsMeant (MeansOrNull M tree) None) depth (token_of k ∷ ts) r
  not_null_none M none h = reads_fitting depth k ts r
      (λ tree f p. record {
        none = λ v m.
            or_null M tree v (λ e. none (subst (λ d. Begins (kind_of d) k) e (begins k tree f))) p m;
      }) h

-- a number that is seen as an integer is that integer
as_unsigned : (n : Num) (v : ℕ) → as_u64 n ≡ Some v → n ≡ unsigned v
as_unsigned (unsigned m) v e = let same : m ≡ v = cc in ap unsigned same
as_unsigned (negative z) v e = absurd cc
as_unsigned (float x) v e = absurd cc

-- the number that the text of a number is
number_seen :
    (s : List ℕ) (found : Option ℕ) → option_map as_u64 (number_of s) ≡ Some found
    → (n : Num) × (number_of s ≡ Some n) × (as_u64 n ≡ found)
number_seen s found e =
    let n = some_number as_u64 (number_of s) found e in
    let g : Some (as_u64 n.0) ≡ Some found = ap (option_map as_u64) (sym n.1) ∙ e in
    let same : as_u64 n.0 ≡ found = cc in
    (n.0, n.1, same)

module _ (limit depth : ℕ) (k : Token) (s : Bor (List ℕ)) (ts : List spec.Token) (is : k ≡ token.Number s) where
  -- an integer below the limit
  pub number_read :
      (v : ℕ) → option_map as_u64 (number_of s.now) ≡ Some (Some v) → v < limit
      → Reads (λ tree. IsMeant (MeansNumber limit tree) (Some v)) depth (token_of k ∷ ts) ts
  number_read v e below =
      let n = number_seen s.now (Some v) e in
      subst (λ t. Reads (λ tree. IsMeant (MeansNumber limit tree) (Some v)) depth (token_of t ∷ ts) ts) (sym is)
      (alone_reads (λ tree. IsMeant (MeansNumber limit tree) (Some v)) depth (spec.number s.now) (number n.0) ts (ap (option_map number) n.1)
      (record { fits = below; is = ap number (as_unsigned n.0 v n.2) }))

  -- another number
  number_none :
      (found : Option ℕ) → option_map as_u64 (number_of s.now) ≡ Some found
      → ((v : ℕ) → found ≡ Some v → v < limit → ⊥)
      → Reads (λ tree. IsMeant (MeansNumber limit tree) None) depth (token_of k ∷ ts) ts
  number_none found e none =
      let n = number_seen s.now found e in
      subst (λ t. Reads (λ tree. IsMeant (MeansNumber limit tree) None) depth (token_of t ∷ ts) ts) (sym is)
      (alone_reads (λ tree. IsMeant (MeansNumber limit tree) None) depth (spec.number s.now) (number n.0) ts (ap (option_map number) n.1)
      (record {
        none = λ v m.
            let same : number n.0 ≡ number (unsigned v) = m.is in
            let other : n.0 ≡ unsigned v = cc in
            none v (sym n.2 ∙ ap as_u64 other) m.fits;
      }))

  -- an integer that is too large
  pub number_above :
      (v : ℕ) → option_map as_u64 (number_of s.now) ≡ Some (Some v) → (v < limit → ⊥)
      → Reads (λ tree. IsMeant (MeansNumber limit tree) None) depth (token_of k ∷ ts) ts
  number_above v e above =
      number_none (Some v) e (λ w same below. let is : v ≡ w = cc in above (subst (λ x. x < limit) (sym is) below))

  -- a number that is no integer of the wanted kind
  pub number_other :
      option_map as_u64 (number_of s.now) ≡ Some None
      → Reads (λ tree. IsMeant (MeansNumber limit tree) None) depth (token_of k ∷ ts) ts
  number_other e = number_none None e (λ w same below. absurd cc)

module _ (depth : ℕ) (k : Token) (ts r : List spec.Token) where
  -- a string means the primitive that it names, if there is one
  primitive_of :
      (name : List ℕ) (found : Option TypeDefPrimitive) → IfSome found (λ p. name ≡ primitive_name p)
      → IfNone found (IsMeaningless (λ p. name ≡ primitive_name p)) → IsMeant (MeansPrimitive (string name)) found
  primitive_of name None some none = record {
    none = λ v m.
        let h : string name ≡ string (primitive_name v) = m.is in
        let same : name ≡ primitive_name v = cc in
        none.none v same;
  }
  primitive_of name (Some p) some none = record { is = ap string some }

  -- a string is the primitive that it names, if there is one
  pub primitive_read :
      (s : Bor (List ℕ)) (found : Option TypeDefPrimitive) → k ≡ token.String s
      → IfSome found (λ p. s.now ≡ primitive_name p) → IfNone found (IsMeaningless (λ p. s.now ≡ primitive_name p))
      → Reads (λ tree. IsMeant (MeansPrimitive tree) found) depth (token_of k ∷ ts) ts
  primitive_read s found e some none =
      subst (λ t. Reads (λ tree. IsMeant (MeansPrimitive tree) found) depth (token_of t ∷ ts) ts) (sym e)
      (alone_reads (λ tree. IsMeant (MeansPrimitive tree) found) depth (spec.string s.now) (string s.now) ts refl (primitive_of s.now found some none))
