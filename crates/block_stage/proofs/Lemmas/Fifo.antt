-- The laws of FIFOs, as lemmas by the names of the functions of `laws` that state them. This module is for other crates'
-- proofs; nothing else of this folder is.
pub use Rattle.block_stage.proofs.OnFifo.Lists.{given_words_are_a_prefix, given_words_were_put_before, words_fit_the_depth, put_is_all, fits_on}
pub use Rattle.block_stage.proofs.OnFifo.Rows.{row_word, row_first, row_room, row_cycle}
pub use Rattle.block_stage.proofs.OnFifo.Rings.{ring_word, ring_first, ring_room, ring_cycle}
