use Rattle.block_stage.proofs.OnFifo.Rings.{ring_word, ring_first, ring_room, ring_cycle}
use Rattle.block_stage.proofs.fifo.laws.rings_are_fifos.Goals as goal

pub returns-clause-word : goal.returns-clause-word
returns-clause-word c = ring_word

pub returns-clause-first : goal.returns-clause-first
returns-clause-first c = ring_first

pub returns-clause-room : goal.returns-clause-room
returns-clause-room c = ring_room

pub returns-clause-after : goal.returns-clause-after
returns-clause-after c = ring_cycle
