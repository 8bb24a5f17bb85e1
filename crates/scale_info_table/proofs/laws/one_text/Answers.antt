use Rattle.scale_info_table.specs.TableEncodingLaws.{registry_law}
use Rattle.scale_info_table.proofs.laws.one_text.Goals as goal

pub returns-clause-one : goal.returns-clause-one
returns-clause-one c = registry_law.one

pub returns-clause-prefix_free : goal.returns-clause-prefix_free
returns-clause-prefix_free c = registry_law.prefix_free
