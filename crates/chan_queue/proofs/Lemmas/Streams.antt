-- The laws of streams, as lemmas for other crates' proofs. Nothing else of this folder is for them.
pub use Rattle.chan_queue.proofs.OnStreams.Within.{chan_there, inner_words, inner_room, received_by, final_in_trace}
pub use Rattle.chan_queue.proofs.OnStreams.Within.{sends_within, receives_within}
pub use Rattle.chan_queue.proofs.OnStreams.Moves.{begins, before, ends_next, sends_go, receives_go}
pub use Rattle.chan_queue.proofs.OnStreams.Stopped.{counted, come_to_the_end, input_words}
