-- Widths in texts, and instances of tables, as lemmas. This module is for other crates' proofs; nothing else of this folder is.
pub use Rattle.dslx_total.proofs.OnInstances.Found.{of_its_key}
pub use Rattle.dslx_total.proofs.OnTables.Widths.{names_have_widths}
