use Rattle.scale_info_table_describe.proofs.PathTests.{in_a_row, whole_path}
use Rattle.scale_info_table_describe.proofs.laws.found_paths.Goals as goal

pub returns : goal.returns
returns c = record { whole = whole_path; in_a_row = in_a_row }
