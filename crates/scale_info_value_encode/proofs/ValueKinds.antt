-- The kinds of values.
use Rattle.std.proofs.Common.{◌≡◌, ℕ, ℤ, Bool, List, Option, Some, refl, ap, sym, ◌∙◌}
use Rattle.scale_info_types.specs.Portable.{Text}
use Rattle.scale_info_value.specs.declared.value.Value.{Value, out-Value}
use Rattle.scale_info_value.specs.declared.value.Value.TheOpen.{Value-F}
use Rattle.scale_info_value.specs.declared.value.Value.TheOpen as layer
use Rattle.scale_info_value.specs.declared.value.Value.TheVariants as Values
use Rattle.scale_info_value.specs.declared.value.Value.TheVariants.{outs-Bool, outs-Unsigned, outs-Signed, outs-Text}
use Rattle.scale_info_value.specs.declared.value.Value.TheVariants.{outs-List, outs-Record, outs-Variant}
use Rattle.scale_info_value.specs.declared.value.Value.TheVariants.{rolls-Bool, rolls-Unsigned, rolls-Signed, rolls-Text}
use Rattle.scale_info_value.specs.declared.value.Value.TheVariants.{rolls-List, rolls-Record, rolls-Variant}
use Rattle.scale_info_value.specs.declared.value.Value.TheViews.{roll-Value, roll-out-Value}
use Rattle.scale_info_value_encode.specs.DefinitionWriters.{truth_in, unsigned_in, signed_in, text_in, list_in, record_in, variant_in}

-- the outermost part of a value of each kind
pub ruleset outs = (outs-Bool, outs-Unsigned, outs-Signed, outs-Text, outs-List, outs-Record, outs-Variant)

-- `make` makes the values of one kind, and `kind` finds what they were made of
pub record IsKind {A : Type 0} (make : A → Value) (kind : Value-F Value → Option A) : Type 0 where
  pub found : (x : A) → kind (out-Value (make x)) ≡ Some x
  pub made : (value : Value) (x : A) → kind (out-Value value) ≡ Some x → value ≡ make x

-- a kind, by what the outermost part of its values is
by_parts :
    {A : Type 0} (make : A → Value) (part : A → Value-F Value) (kind : Value-F Value → Option A)
    → ((x : A) → out-Value (make x) ≡ part x) → ((x : A) → roll-Value (part x) ≡ make x)
    → ((x : A) → kind (part x) ≡ Some x) → ((o : Value-F Value) (x : A) → kind o ≡ Some x → o ≡ part x)
    → IsKind make kind
by_parts make part kind outs rolls found known = record {
  found = λ x. ap kind (outs x) ∙ found x;
  made = λ value x e. sym (roll-out-Value value) ∙ ap roll-Value (known (out-Value value) x e) ∙ rolls x;
}

-- where a truth value is found, it is the outermost part
truth_part : (o : Value-F Value) (b : Bool) → truth_in o ≡ Some b → o ≡ layer.Bool b
truth_part (layer.Bool x) b e = cc
truth_part _ b e = cc

-- truth values are a kind
pub truths : IsKind Values.Bool truth_in
truths = by_parts Values.Bool layer.Bool truth_in outs-Bool rolls-Bool (λ x. refl) truth_part

-- where an integer of an unsigned type is found, it is the outermost part
unsigned_part : (o : Value-F Value) (n : ℕ) → unsigned_in o ≡ Some n → o ≡ layer.Unsigned n
unsigned_part (layer.Unsigned x) n e = cc
unsigned_part _ n e = cc

-- integers of unsigned types are a kind
pub unsigned_integers : IsKind Values.Unsigned unsigned_in
unsigned_integers = by_parts Values.Unsigned layer.Unsigned unsigned_in outs-Unsigned rolls-Unsigned (λ x. refl) unsigned_part

-- where an integer of a signed type is found, it is the outermost part
signed_part : (o : Value-F Value) (n : ℤ) → signed_in o ≡ Some n → o ≡ layer.Signed n
signed_part (layer.Signed x) n e = cc
signed_part _ n e = cc

-- integers of signed types are a kind
pub signed_integers : IsKind Values.Signed signed_in
signed_integers = by_parts Values.Signed layer.Signed signed_in outs-Signed rolls-Signed (λ x. refl) signed_part

-- where a text is found, it is the outermost part
text_part : (o : Value-F Value) (t : Text) → text_in o ≡ Some t → o ≡ layer.Text t
text_part (layer.Text x) t e = cc
text_part _ t e = cc

-- texts are a kind
pub texts : IsKind Values.Text text_in
texts = by_parts Values.Text layer.Text text_in outs-Text rolls-Text (λ x. refl) text_part

-- where a list is found, it is the outermost part
list_part : (o : Value-F Value) (values : List Value) → list_in o ≡ Some values → o ≡ layer.List values
list_part (layer.List x) values e = cc
list_part _ values e = cc

-- lists are a kind
pub lists : IsKind Values.List list_in
lists = by_parts Values.List layer.List list_in outs-List rolls-List (λ x. refl) list_part

-- where a record is found, it is the outermost part
record_part : (o : Value-F Value) (values : List (Option Text × Value)) → record_in o ≡ Some values → o ≡ layer.Record values
record_part (layer.Record x) values e = cc
record_part _ values e = cc

-- records are a kind
pub records : IsKind Values.Record record_in
records = by_parts Values.Record layer.Record record_in outs-Record rolls-Record (λ x. refl) record_part

-- what a variant is made of: its name, its index and its fields
abbrev pub Chosen : Type 0
Chosen = Text × ℕ × List (Option Text × Value)

-- the variant that is made of this
abbrev pub chosen : Chosen → Value
chosen v = Values.Variant v.0 v.1 v.2

-- where a variant is found, it is the outermost part
variant_part :
    (o : Value-F Value) (v : Chosen) → variant_in o ≡ Some v → o ≡ layer.Variant v.0 v.1 v.2
variant_part (layer.Variant name index values) v e =
    let same : (name, index, values) ≡ v = cc in λ i. layer.Variant (same i).0 (same i).1 (same i).2
variant_part _ v e = cc

-- variants are a kind
pub variants : IsKind chosen variant_in
variants =
    by_parts chosen (λ v. layer.Variant v.0 v.1 v.2) variant_in (λ v. outs-Variant v.0 v.1 v.2)
    (λ v. rolls-Variant v.0 v.1 v.2) (λ v. refl) variant_part
