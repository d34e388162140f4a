use Rattle.std.proofs.Common.{◌≡◌, ◌∙◌, Some, None, sym, ap}
use Rattle.std.specs.Option.{option_copied}
use Rattle.dslx_check_facts.proofs.OnBindings.Ends.{placed}
use Rattle.dslx_check_facts.proofs.bindings.Bindings.at.Goals as goal

pub returns-in-Some : goal.returns-in-Some
returns-in-Some g c =
    placed c.self.inside.entries.items _ c.args.self.now c.args.at (Some c.in-Some.binding.now) c.self.view_is c.as_slice.ensures.value (sym (ap option_copied c.in-Some.is) ∙ c.binding_at.ensures)

pub returns-in-None : goal.returns-in-None
returns-in-None g c =
    placed c.self.inside.entries.items _ c.args.self.now c.args.at None c.self.view_is c.as_slice.ensures.value (sym (ap option_copied c.in-None.is) ∙ c.binding_at.ensures)
