-- Lemmas that callers cite.
pub use Rattle.scale_info_numberings.proofs.Extensions
pub use Rattle.scale_info_numberings.proofs.Tables
pub use Rattle.scale_info_numberings.proofs.Pruned
pub use Rattle.scale_info_numberings.proofs.Places
pub use Rattle.scale_info_bytes.proofs.Steps
pub use Rattle.scale_info_bytes.proofs.Errors
pub use Rattle.scale_info_types.proofs.Iterators
pub use Rattle.scale_info_table.proofs.Interned
pub use Rattle.scale_info_table.proofs.Below
pub use Rattle.scale_info_table_prune.proofs.SameTables
pub use Rattle.scale_info_export.proofs.Exported
