-- Facts of all elements of lists that are made of other lists.
use Rattle.std.proofs.Common.{◌≡◌, ◌↔◌, ◌<◌, ℕ, List, [], ◌∷◌, ◌++◌, Option, Some, None, Bool, true}
use Rattle.std.proofs.Common.{false, IsTrue, sym, ◌∙◌, map, All, IfSome}
use Rattle.std.proofs.lemmas.Bool.{false≢true}
use Rattle.std.specs.List.{flat_map}
use Rattle.std.specs.Option.{option_to_list}
use Rattle.std.proofs.lemmas.List.Elements.{All-nil, All-cons, All-head, All-tail, All-append}
use Rattle.std.proofs.lemmas.List.Elements.{All-map, All-weaker}
use Rattle.scale_info_types.specs.Portable.{Description, Field, Id, Variant, TypeParameter, TypeDef}
use Rattle.scale_info_types.specs.References.{references, definition_references, field_references}
use Rattle.scale_info_types.specs.References.{parameter_references}
use Rattle.scale_info_table.specs.ClosedTables.{AreBelow}

all_of_first : {X : Type 0} (P : X → Type 0) (xs ys : List X) → All P (xs ++ ys) → All P xs
all_of_first P [] ys all = All-nil P
all_of_first P (x ∷ xs) ys all =
    All-cons P x xs (All-head P x (xs ++ ys) all)
    (all_of_first P xs ys (All-tail P x (xs ++ ys) all))

all_of_second : {X : Type 0} (P : X → Type 0) (xs ys : List X) → All P (xs ++ ys) → All P ys
all_of_second P [] ys all = all
all_of_second P (x ∷ xs) ys all = all_of_second P xs ys (All-tail P x (xs ++ ys) all)

-- of two lists, one after the other
pub all_appended :
    {X : Type 0} (P : X → Type 0) (xs ys : List X)
    → All P (xs ++ ys) ↔ (All P xs × All P ys)
all_appended P xs ys =
    (λ all. (all_of_first P xs ys all, all_of_second P xs ys all), λ both. All-append P xs ys both.0 both.1)

all_from_mapped :
    {X Y : Type 0} (P : X → Type 0) (f : Y → X) (ys : List Y)
    → All P (map f ys) → All (λ y. P (f y)) ys
all_from_mapped P f [] all = All-nil (λ y. P (f y))
all_from_mapped P f (y ∷ ys) all =
    All-cons (λ y. P (f y)) y ys (All-head P (f y) (map f ys) all)
    (all_from_mapped P f ys (All-tail P (f y) (map f ys) all))

-- of the images of a list
pub all_mapped :
    {X Y : Type 0} (P : X → Type 0) (f : Y → X) (ys : List Y)
    → All P (map f ys) ↔ All (λ y. P (f y)) ys
all_mapped P f ys = (all_from_mapped P f ys, All-map P f ys)

all_from_flat :
    {X Y : Type 0} (P : X → Type 0) (f : Y → List X) (ys : List Y)
    → All P (flat_map f ys) → All (λ y. All P (f y)) ys
all_from_flat P f [] all = All-nil (λ y. All P (f y))
all_from_flat P f (y ∷ ys) all =
    All-cons (λ y. All P (f y)) y ys (all_of_first P (f y) (flat_map f ys) all)
    (all_from_flat P f ys (all_of_second P (f y) (flat_map f ys) all))

all_to_flat :
    {X Y : Type 0} (P : X → Type 0) (f : Y → List X) (ys : List Y)
    → All (λ y. All P (f y)) ys → All P (flat_map f ys)
all_to_flat P f [] all = All-nil P
all_to_flat P f (y ∷ ys) all =
    All-append P (f y) (flat_map f ys) (All-head (λ y. All P (f y)) y ys all)
    (all_to_flat P f ys (All-tail (λ y. All P (f y)) y ys all))

all_from_option :
    {X : Type 0} (P : X → Type 0) (o : Option X)
    → All P (option_to_list o) → IfSome o P
all_from_option P None all = tt
all_from_option P (Some x) all = All-head P x [] all

all_to_option : {X : Type 0} (P : X → Type 0) (o : Option X) → IfSome o P → All P (option_to_list o)
all_to_option P None fact = All-nil P
all_to_option P (Some x) fact = All-cons P x [] fact (All-nil P)

-- the fields' types are below n
pub fields_below :
    (n : ℕ) (fields : List Field)
    → AreBelow n (field_references fields) ↔ All (λ field. field.ty.id < n) fields
fields_below n fields = all_mapped (λ symbol. symbol.id < n) (λ field. field.ty) fields

-- the types of the variants' fields are below n
pub variants_below : (n : ℕ) (variants : List Variant)
    → AreBelow n (flat_map (λ v. field_references v.fields) variants)
    ↔ All (λ v. All (λ field. field.ty.id < n) v.fields) variants
variants_below n variants = (
  λ below. All-weaker _ _ (λ v. (fields_below n v.fields).0) variants
      (all_from_flat (λ symbol. symbol.id < n) (λ v. field_references v.fields) variants below),
  λ each. all_to_flat (λ symbol. symbol.id < n) (λ v. field_references v.fields) variants
      (All-weaker _ _ (λ v. (fields_below n v.fields).1) variants each),
)

-- the parameters' types are below n
pub parameters_below : (n : ℕ) (params : List TypeParameter)
    → AreBelow n (parameter_references params)
    ↔ All (λ p. IfSome p.ty (λ symbol. symbol.id < n)) params
parameters_below n params = (
  λ below. All-weaker _ _ (λ p. all_from_option (λ symbol. symbol.id < n) p.ty) params
      (all_from_flat (λ symbol. symbol.id < n) (λ p. option_to_list p.ty) params below),
  λ each. all_to_flat (λ symbol. symbol.id < n) (λ p. option_to_list p.ty) params
      (All-weaker _ _ (λ p. all_to_option (λ symbol. symbol.id < n) p.ty) params each),
)

-- a test of what a definition holds, of which its references are made, goes by its references
pub definition_below :
    {X : Type 0} {P : List X → Type 0} {n : ℕ} (R : List X → List Id)
    → ((held : List X) → AreBelow n (R held) ↔ P held)
    → (definition : TypeDef) (held given : List X) (answer : Bool)
    → definition_references definition ≡ R held → held ≡ given → (IsTrue answer ↔ P given)
    → (IsTrue answer ↔ AreBelow n (definition_references definition))
definition_below R below definition held given answer made same tests =
    rw made
    (rw same
    ((λ yes. (below given).1 (tests.0 yes)), (λ all. tests.1 ((below given).0 all))))

-- where the parameters' types are below n, the references of the description go by its definition
pub described_by_definition :
    (n : ℕ) (ty : Description) (params : List TypeParameter) (first second : Bool)
    → params ≡ ty.type_params → first ≡ true
    → (IsTrue first ↔ All (λ p. IfSome p.ty (λ symbol. symbol.id < n)) params)
    → (IsTrue second ↔ AreBelow n (definition_references ty.type_def))
    → (IsTrue second ↔ AreBelow n (references ty))
described_by_definition n ty params first second has_params is_first tests_first tests_second =
    let both =
    all_appended (λ symbol. symbol.id < n) (parameter_references ty.type_params)
    (definition_references ty.type_def) in
    let below =
    (parameters_below n ty.type_params).1 (rw (sym has_params) (tests_first.0 is_first)) in
    ((λ yes. both.1 (below, tests_second.0 yes)), (λ all. tests_second.1 (both.0 all).1))

-- where some parameter's type is not below n, some reference of the description is not
pub described_by_parameters :
    (n : ℕ) (ty : Description) (params : List TypeParameter) (first : Bool)
    → params ≡ ty.type_params → first ≡ false
    → (IsTrue first ↔ All (λ p. IfSome p.ty (λ symbol. symbol.id < n)) params)
    → (IsTrue first ↔ AreBelow n (references ty))
described_by_parameters n ty params first has_params is_first tests_first =
    let both =
    all_appended (λ symbol. symbol.id < n) (parameter_references ty.type_params) (definition_references ty.type_def) in (
      (λ yes. absurd (false≢true (sym is_first ∙ yes))),
      (λ all. tests_first.1 (rw has_params ((parameters_below n ty.type_params).0 (both.0 all).0))),
    )
