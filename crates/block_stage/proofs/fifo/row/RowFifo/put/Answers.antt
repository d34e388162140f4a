use Rattle.block_stage.proofs.OnFifo.Slots.{one_behind, none_behind}
use Rattle.block_stage.proofs.fifo.row.RowFifo.put.Goals as goal

pub returns-then-self : goal.returns-then-self
returns-then-self g c = one_behind g.row.N c.self.inside.count c.self.inside.slots c.args.self.now c.args.word c.self.told c.if-self.true c.self.view_is

pub returns-else-self : goal.returns-else-self
returns-else-self g c = none_behind g.row.N c.self.inside.count c.self.inside.slots c.args.self.now c.args.word c.self.told c.if-self.false c.self.view_is
