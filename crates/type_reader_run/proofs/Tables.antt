-- Tables that are the whole input of a reader.
use Rattle.std.proofs.Common.{ℕ, List, [], ◌∙◌, append-nil, subst, sym}
use Rattle.scale_info_bytes.specs.Encodings.{HasPrefix, IsEncoding}
use Rattle.scale_info_bytes.specs.PartLaws.{list_law}
use Rattle.scale_info_grammar.specs.Ty.{EncodesTypes}
use Rattle.scale_info_grammar.specs.TyLaws.{portable_type_law}
use Rattle.scale_info_types.specs.declared.ty.PortableType.{PortableType}
use Rattle.type_reader_run.specs.Tables.{IsOneTable}

-- where the whole input is an encoding, no other one is its prefix
whole_of :
    {A : Type 0} {S : A → List ℕ → Type 0} → IsEncoding S → (v w : A) (input rest : List ℕ)
    → S v input → HasPrefix (S w) input rest → S w input
whole_of {A} {S} law v w input rest is p =
    let same =
    law.prefix_free v w input p.encoding [] rest is p.encodes (append-nil input ∙ p.parts) in
    subst (S w) (sym same.0) p.encodes

-- the types that a prefix of a table encodes are those of the table
pub encodes_whole :
    (types : List PortableType) (table rest : List ℕ)
    → IsOneTable table → HasPrefix (EncodesTypes types) table rest → EncodesTypes types table
encodes_whole types table rest is p =
    whole_of (list_law portable_type_law) is.types types table rest is.encodes p
