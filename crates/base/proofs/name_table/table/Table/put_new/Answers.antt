use Rattle.std.proofs.Common.{◌∙◌, sym, ap}
use Rattle.std.specs.Prelude.{is_some}
use Rattle.base.specs.NameTable.Found.{found}
use Rattle.base.proofs.OnNameTable.Texts.{stays, comes}
use Rattle.base.proofs.name_table.table.Table.put_new.Goals as goal

pub returns-in-Some : goal.returns-in-Some
returns-in-Some g c = stays (found c.args.self.now) c.args.name.now c.args.value (ap is_some (sym c.get.ensures ∙ c.in-Some.is))

pub returns-in_ok-put-in-None : goal.returns-in_ok-put-in-None
returns-in_ok-put-in-None g c = comes (found c.args.self.now) (found c.put.new.self) c.args.name.now c.args.value (ap is_some (sym c.get.ensures ∙ c.in-None.is)) c.in_ok-put-in-None.ensures
