-- What a proc mentions in its `config`. This module is for other crates' proofs; nothing else of this folder is.
pub use Rattle.dslx.proofs.OnOrder.OnMentions.{Within, config_within, mentioned_proc, proc_of}
