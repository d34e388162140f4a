-- For other crates' proofs: what is lowered, said otherwise and behind more nodes.
pub use Rattle.ir_lower_nodes.proofs.OnWords.OnWords.{from_word, from_words, read_word, lowers_as, lowers_behind, lowers_value, lowered_later, number_type}
