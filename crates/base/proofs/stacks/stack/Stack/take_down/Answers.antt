use Rattle.std.proofs.Common.{◌≡◌, ◌∙◌, ◌-◌, ℕ, List, ap, sym, drop, reverse, take, length, arith}
use Rattle.base.proofs.OnStacks.Tails.{taken_down_is, left_is}
use Rattle.base.proofs.stacks.stack.Stack.take_down.Goals as goal

pub returns-clause-taken : goal.returns-clause-taken
returns-clause-taken g c =
    let at : c.saturating_sub-at.result ≡ length c.self.inside.items.items - c.args.count = omega arith in
    c.reverse.ensures.items ∙ ap reverse ((c.in_ok-top.ensures {u = tt}).tail ∙ ap (λ (m : ℕ). drop m c.self.inside.items.items) at)
    ∙ sym (taken_down_is c.args.count c.self.inside.items.items) ∙ ap (λ (v : List g.row.T.Denot). take c.args.count v) c.self.view_is

pub returns-clause-rest : goal.returns-clause-rest
returns-clause-rest g c =
    let at : c.saturating_sub-at.result ≡ length c.self.inside.items.items - c.args.count = omega arith in
    ap reverse (c.in_ok-top.ensures {u = tt}).items ∙ ap (λ (m : ℕ). reverse (take m c.self.inside.items.items)) at
    ∙ sym (left_is c.args.count c.self.inside.items.items) ∙ ap (λ (v : List g.row.T.Denot). drop c.args.count v) c.self.view_is
