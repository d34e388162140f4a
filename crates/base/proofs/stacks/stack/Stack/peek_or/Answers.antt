use Rattle.std.proofs.Common.{◌≡◌, ◌∙◌, ◌-◌, ℕ, List, ap, sym, drop, reverse, length, get_or, arith}
use Rattle.base.specs.Stacks.Tops.{top_or}
use Rattle.base.proofs.OnStacks.Tails.{peeked_past, peeked_within}
use Rattle.base.proofs.stacks.stack.Stack.peek_or.Goals as goal

pub returns-then-below-count : goal.returns-then-below-count
returns-then-below-count g c =
    let same : c.len-count.result ≡ length c.self.inside.items.items = omega arith in
    peeked_within c.self.inside.items.items c.args.below c.args.other c.index.result.now (omega arith)
    (c.index.ensures ∙ ap (λ (n : ℕ). get_or c.self.inside.items.items (n - 1 - c.args.below) c.index.result.now) same)
    ∙ ap (λ (v : List g.row.T.Denot). top_or c.args.other (drop c.args.below v)) c.self.view_is
