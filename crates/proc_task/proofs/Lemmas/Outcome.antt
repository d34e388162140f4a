-- The procs at the ends of channels, as lemmas for other crates' proofs. Nothing else of this folder is for them.
pub use Rattle.proc_task.proofs.OnOutcome.Found.{place_passes, sends_site, receives_site, sender_is, receiver_is}
