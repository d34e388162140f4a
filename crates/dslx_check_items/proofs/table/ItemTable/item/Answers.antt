use Rattle.std.proofs.Common.{sym, ◌∙◌}
use Rattle.dslx_check_items.proofs.OnItems.Numbered.{numbered, unnumbered}
use Rattle.dslx_check_items.proofs.table.ItemTable.item.Goals as goal

pub get-requires : goal.get-requires
get-requires c = (numbered c.args.name.now c.args.self.now.text.now.items c.in-Some.item (sym c.find.ensures ∙ c.in-Some.is)).inside

pub returns-in-Some : goal.returns-in-Some
returns-in-Some c = sym c.get.ensures ∙ (numbered c.args.name.now c.args.self.now.text.now.items c.in-Some.item (sym c.find.ensures ∙ c.in-Some.is)).is

pub returns-in-None : goal.returns-in-None
returns-in-None c = sym (unnumbered c.args.name.now c.args.self.now.text.now.items (sym c.find.ensures ∙ c.in-None.is))
