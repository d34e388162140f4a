use Rattle.std.proofs.Common.{◌∙◌, ap, sym, reverse}
use Rattle.std.proofs.lemmas.List.{reverse-reverse}
use Rattle.base.proofs.stacks.stack.Stack.into_items.Goals as goal

pub returns : goal.returns
returns g c = sym (reverse-reverse c.self.inside.items.items) ∙ ap reverse c.self.view_is
