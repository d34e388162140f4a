use Rattle.block_stage.proofs.OnFifo.Rows.{row_word, row_first, row_room, row_cycle}
use Rattle.block_stage.proofs.fifo.laws.rows_are_fifos.Goals as goal

pub returns-clause-word : goal.returns-clause-word
returns-clause-word c = row_word

pub returns-clause-first : goal.returns-clause-first
returns-clause-first c = row_first

pub returns-clause-room : goal.returns-clause-room
returns-clause-room c = row_room

pub returns-clause-after : goal.returns-clause-after
returns-clause-after c = row_cycle
