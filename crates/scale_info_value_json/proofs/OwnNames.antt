-- Names of fields that come once, by the parts of a value.
use Rattle.std.proofs.Common.{◌≡◌, ℕ, Bool, ◌&&◌, List, [], ◌∷◌, map, Option, refl, ap, sym, ◌∙◌}
use Rattle.scale_info_types.specs.Portable.{Text}
use Rattle.scale_info_value.specs.declared.value.Value.{Value}
use Rattle.scale_info_value.specs.declared.value.Value.TheOpen as layer
use Rattle.scale_info_value.specs.declared.value.Value.TheVariants as Values
use Rattle.scale_info_value.specs.declared.value.Value.TheVariants.{rolls-List, rolls-Record, rolls-Variant}
use Rattle.scale_info_value.specs.declared.value.Value.TheFolds.{fold-roll-Value}
use Rattle.scale_info_value_visit.specs.Events.{keys}
use Rattle.scale_info_value_json.specs.TreesOfTexts.{own_names, all_hold, fields_hold, own_names_step, has_own_names}

-- whether names come once in each of these values
abbrev pub all_own : List Value → Bool
all_own values = all_hold (map has_own_names values)

-- whether names come once in the value of each of these fields
abbrev pub fields_own : List (Option Text × Value) → Bool
fields_own fields = fields_hold (map (λ f. (f.0, has_own_names f.1)) fields)

-- the names of fields stay
keys_stay : (fields : List (Option Text × Value)) → keys (map (λ f. (f.0, has_own_names f.1)) fields) ≡ keys fields
keys_stay [] = refl
keys_stay (f ∷ fields) = ap (λ names. f.0 ∷ names) (keys_stay fields)

-- a list
pub list_own : (values : List Value) → has_own_names (Values.List values) ≡ all_own values
list_own values = ap has_own_names (sym (rolls-List values)) ∙ fold-roll-Value Bool own_names_step (layer.List values)

-- a record
pub record_own : (fields : List (Option Text × Value)) → has_own_names (Values.Record fields) ≡ (own_names (keys fields) && fields_own fields)
record_own fields =
    ap has_own_names (sym (rolls-Record fields))
    ∙ fold-roll-Value Bool own_names_step (layer.Record fields)
    ∙ ap (λ names. own_names names && fields_own fields) (keys_stay fields)

-- a variant
pub variant_own :
    (name : Text) (index : ℕ) (fields : List (Option Text × Value))
    → has_own_names (Values.Variant name index fields) ≡ (own_names (keys fields) && fields_own fields)
variant_own name index fields =
    ap has_own_names (sym (rolls-Variant name index fields))
    ∙ fold-roll-Value Bool own_names_step (layer.Variant name index fields)
    ∙ ap (λ names. own_names names && fields_own fields) (keys_stay fields)
