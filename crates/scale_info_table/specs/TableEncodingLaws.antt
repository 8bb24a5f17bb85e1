-- The law of encodings of tables.
use Rattle.scale_info_bytes.specs.Encodings.{IsEncoding}
use Rattle.scale_info_bytes.specs.PartLaws.{through_law, list_law}
use Rattle.scale_info_grammar.specs.TyLaws.{portable_type_law}
use Rattle.scale_info_table.specs.TableEncoding.{EncodesRegistry}

-- a table has at most one encoding, and no encoding is a proper prefix of another
pub registry_law : IsEncoding EncodesRegistry
registry_law =
    through_law (λ v. v.types) (λ v w e i. record { types = e i }) (list_law portable_type_law)
