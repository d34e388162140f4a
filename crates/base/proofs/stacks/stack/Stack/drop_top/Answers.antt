use Rattle.std.proofs.Common.{◌≡◌, ◌∙◌, ◌-◌, ℕ, List, ap, sym, drop, reverse, take, length, arith}
use Rattle.base.proofs.OnStacks.Tails.{left_is}
use Rattle.base.proofs.stacks.stack.Stack.drop_top.Goals as goal

pub returns : goal.returns
returns g c =
    let at : c.saturating_sub-left.result ≡ length c.self.inside.items.items - c.args.count = omega arith in
    ap reverse c.truncate.ensures.items ∙ ap (λ (m : ℕ). reverse (take m c.self.inside.items.items)) at
    ∙ sym (left_is c.args.count c.self.inside.items.items) ∙ ap (λ (v : List g.row.T.Denot). drop c.args.count v) c.self.view_is
