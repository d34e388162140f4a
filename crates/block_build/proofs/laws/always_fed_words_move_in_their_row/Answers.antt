use Rattle.block_build.proofs.Exact.{fed_words_move_in_their_row}
use Rattle.block_build.proofs.laws.always_fed_words_move_in_their_row.Goals as goal

pub returns : goal.returns
returns c = fed_words_move_in_their_row
