use Rattle.scale_info_segments.specs.TypePaths.{texts}
use Rattle.scale_info_table_view.specs.Views.{HasPathAtNone}
use Rattle.scale_info_table_view.proofs.view.TableView.find_by_path.Given as goal

abbrev pub invariant-loop-index : goal.invariant-loop-index
invariant-loop-index l = HasPathAtNone l.index l.self.types (texts l.path)
