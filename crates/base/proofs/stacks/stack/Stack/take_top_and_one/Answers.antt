use Rattle.std.proofs.Common.{◌≡◌, ◌∙◌, ◌-◌, ℕ, List, ap, sym, drop, reverse, take, length, arith}
use Rattle.base.specs.Stacks.Tops.{top_or}
use Rattle.base.proofs.OnStacks.Tails.{cons_both, taken_is, left_is}
use Rattle.base.proofs.stacks.stack.Stack.take_top_and_one.Goals as goal

pub returns-clause-taken : goal.returns-clause-taken
returns-clause-taken g c =
    let at : c.saturating_sub-at.result ≡ length c.self.inside.items.items - c.args.count = omega arith in
    let left = ap reverse (c.in_ok-top.ensures {u = tt}).items ∙ ap (λ (m : ℕ). reverse (take m c.self.inside.items.items)) at
    ∙ sym (left_is c.args.count c.self.inside.items.items) ∙ ap (λ (v : List g.row.T.Denot). drop c.args.count v) c.self.view_is in
    let top = (c.in_ok-top.ensures {u = tt}).tail ∙ ap (λ (m : ℕ). drop m c.self.inside.items.items) at
    ∙ sym (taken_is c.args.count c.self.inside.items.items) ∙ ap (λ (v : List g.row.T.Denot). reverse (take c.args.count v)) c.self.view_is in
    (c.in_ok-insert.ensures {u = tt}).items
    ∙ cons_both (c.pop_or-first.ensures.top ∙ ap (λ (v : List g.row.T.Denot). top_or c.args.other v) left) top

pub returns-clause-rest : goal.returns-clause-rest
returns-clause-rest g c =
    let at : c.saturating_sub-at.result ≡ length c.self.inside.items.items - c.args.count = omega arith in
    c.pop_or-first.ensures.rest
    ∙ ap (λ (v : List g.row.T.Denot). drop 1 v) (ap reverse (c.in_ok-top.ensures {u = tt}).items ∙ ap (λ (m : ℕ). reverse (take m c.self.inside.items.items)) at
    ∙ sym (left_is c.args.count c.self.inside.items.items) ∙ ap (λ (v : List g.row.T.Denot). drop c.args.count v) c.self.view_is)
