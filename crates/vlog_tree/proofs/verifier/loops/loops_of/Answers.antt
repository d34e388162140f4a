use Rattle.std.proofs.Common.{subst, sym}
use Rattle.vlog_tree.specs.Verifier.Inner.Firsts.{AreNeeds}
use Rattle.vlog_tree.proofs.OnVerifier.Looping.{needs_closed, loops_by}
use Rattle.vlog_tree.proofs.verifier.loops.loops_of.Goals as goal

pub needing_themselves-requires-clause-closed : goal.needing_themselves-requires-clause-closed
needing_themselves-requires-clause-closed c = needs_closed c.args.design.now c.deref.result.now (subst (AreNeeds c.args.design.now) (sym c.deref.ensures.value) c.in_ok-needs.ensures)

pub returns : goal.returns
returns c =
    loops_by c.args.design.now c.deref.result.now c.in_ok-loops.loops.items (subst (AreNeeds c.args.design.now) (sym c.deref.ensures.value) c.in_ok-needs.ensures) c.in_ok-loops.ensures.size c.in_ok-loops.ensures.loops
