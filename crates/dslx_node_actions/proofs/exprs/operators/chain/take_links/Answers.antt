use Rattle.std.proofs.Common.{◌≡◌, ◌∙◌, ◌++◌, ◌∷◌, [], ap, drop}
use Rattle.dslx_node_actions.proofs.OnExprs.OnOperators.Chains.{link_on_top, links_on, links_step, rest_step, without_links}
use Rattle.dslx_node_actions.proofs.exprs.operators.chain.take_links.Goals as goal

pub takes-preserved : goal.takes-preserved
takes-preserved c =
    let left : c.pop_boxed.new.parts ≡ without_links 1 c.takes.parts =
    c.in_ok-span.ensures.rest
    ∙ ap (λ signs. record c.takes.parts { operators = signs; expr_spans = drop 1 c.takes.parts.expr_spans; exprs = drop 1 c.takes.parts.exprs }) c.pop_or-operator.ensures.rest in
    let one : c.push.new.self.items ≡ c.takes.links.items ++ link_on_top c.takes.parts ∷ [] =
    c.in_ok-push.ensures.items
    ∙ (λ i. c.takes.links.items ++ record { operator = c.pop_or-operator.ensures.top i; operand = record { span = (c.in_ok-span.ensures.top i).0; expr = (c.in_ok-span.ensures.top i).1 } } ∷ []) in
    record {
      links = links_step c.args.count c.takes.counter (links_on c.args.count c.args.parts.now) c.takes.parts c.pop_boxed.new.parts c.takes.links.items c.push.new.self.items c.takes-test.true c.takes.invariant.links left one;
      rest = rest_step c.takes.counter c.args.parts.now c.takes.parts c.pop_boxed.new.parts c.takes.invariant.rest left;
    }
