use Rattle.scale_info_bytes.proofs.Steps.{same_prefix}
use Rattle.scale_info_table.specs.TableEncodingLaws.{registry_law}
use Rattle.scale_info_table_view.proofs.laws.viewed_is_decoded.Goals as goal

pub returns-clause-shown : goal.returns-clause-shown
returns-clause-shown c = λ input rest table there none. none.none table rest there

pub returns-clause-same : goal.returns-clause-same
returns-clause-same c = λ input rest other table viewed there shown.
    same_prefix registry_law viewed table input other rest shown there
