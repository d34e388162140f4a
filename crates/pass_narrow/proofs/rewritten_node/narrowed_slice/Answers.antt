use Rattle.std.proofs.Common.{sym, ◌∙◌}
use Rattle.pass_narrow.proofs.Determined.{further_in}
use Rattle.pass_narrow.proofs.rewritten_node.narrowed_slice.Goals as goal

pub parts-preserved : goal.parts-preserved
parts-preserved c =
    let within = rw c.in-Some.is at c.inner_slice.ensures.within in (
      (λ n h. within n (c.parts.invariant.0 n h)),
      further_in c.args.state.now c.args.nodes.now c.parts.within c.in-Some.inner c.requires (sym c.in-Some.is ∙ c.inner_slice.ensures.is) ∙ c.parts.invariant.1,
    )
