-- A table is an object with one member.
use Rattle.std.proofs.Common.{◌≡◌, List, [], ◌∷◌, ◌++◌, ap, ◌∙◌, append_assoc}
use Rattle.std.specs.Prelude.{codes}
use Rattle.json.specs.Token.{Token, begin_object, end_object, key}
use Rattle.scale_info_json_trees.specs.Steps.{tokens_of}
use Rattle.scale_info_json_trees.specs.EntryTrees.{entry_rows, types_tree}
use Rattle.scale_info_json_trees.specs.Written.{list_tree, object_tree}
use Rattle.scale_info_types.specs.declared.ty.PortableType.{PortableType}

-- a key and the entries' array between braces are the tokens of the table's tree
pub types_tokens :
    (types : List PortableType) (old opened keyed filled now : List Token)
    → opened ≡ old ++ begin_object ∷ [] → keyed ≡ opened ++ key (codes "types") ∷ []
    → filled ≡ keyed ++ tokens_of (list_tree (λ e. object_tree (entry_rows e)) types)
    → now ≡ filled ++ end_object ∷ [] → now ≡ old ++ tokens_of (types_tree types)
types_tokens types old opened keyed filled now o k f e =
    let array = tokens_of (list_tree (λ e. object_tree (entry_rows e)) types) in
    let name = key (codes "types") ∷ [] in
    e
    ∙ ap (λ t. t ++ end_object ∷ []) (f ∙ ap (λ t. t ++ array) (k ∙ ap (λ t. t ++ name) o))
    ∙ append_assoc ((old ++ begin_object ∷ []) ++ name) array (end_object ∷ [])
    ∙ append_assoc (old ++ begin_object ∷ []) name (array ++ end_object ∷ [])
    ∙ append_assoc old (begin_object ∷ []) (name ++ array ++ end_object ∷ [])
