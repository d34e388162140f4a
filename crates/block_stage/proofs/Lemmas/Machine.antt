-- The laws of pipelined hardware, as lemmas by the names of the functions of `laws` that state them. This module is for
-- other crates' proofs; nothing else of this folder is.
pub use Rattle.block_stage.proofs.OnMachine.Prefixes.{sent_words_are_a_prefix, received_words_are_the_traces}
pub use Rattle.block_stage.proofs.OnMachine.Offers.{what_stalls_stays_asserted}
pub use Rattle.block_stage.proofs.OnMachine.Offered.{untaken_words_stay_valid}
pub use Rattle.block_stage.proofs.OnMachine.Asserts.{one_site_asserts_valid, one_site_asserts_ready}
pub use Rattle.block_stage.proofs.OnMachine.Meeting.{nothing_is_asked_without_an_activation}
pub use Rattle.block_stage.proofs.OnMachine.Exact.{always_fed_words_move_in_their_cycle, words_move_once_fed}
pub use Rattle.block_stage.proofs.OnMachine.InTime.{the_next_event_is_asserted_in_time}
pub use Rattle.block_stage.proofs.OnMachine.Handshakes.{sent_words_go_where_there_is_room, received_words_go_where_ready, nothing_is_received_without_a_site}
-- sums over lists of events
pub use Rattle.block_stage.proofs.OnMachine.Lefts.{words_sent-append, count_received-append}
-- the places of a stage
pub use Rattle.block_stage.proofs.OnMachine.Stages.{stage_at, first_grows}
