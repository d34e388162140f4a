use Rattle.std.proofs.Common.{refl}
use Rattle.std.proofs.lemmas.Result.{IfOk-weaker}
use Rattle.pass_narrow.specs.Narrowing.{Narrows}
use Rattle.pass_narrow.specs.KeepsNormal.{KeepsNormal}
use Rattle.pass_narrow.specs.declared.rewritten_node.RewrittenNode.TheVariants as rewritten_node
use Rattle.pass_narrow.proofs.Lemmas.{node_follows}
use Rattle.ir_rebuild.specs.Normal.Normal.{AreNormal}
use Rattle.pass_narrow.specs.Narrowings.{narrowing_of, IsNarrowing}
use Rattle.ir_passes.specs.Simplified.{settle_answer, IsGrown}
use Rattle.ir_passes.proofs.Exact.{simplifies, by_narrowing}
use Rattle.ir_passes.proofs.Simplifying.{node_simplifies, with_premise}
use Rattle.ir_passes.proofs.rules.simplified.Goals as goal

pub returns-in-Operand-clause-simplifies : goal.returns-in-Operand-clause-simplifies
returns-in-Operand-clause-simplifies c = λ none.
    let state = c.args.state.now in
    let old = c.args.nodes.now.items in
    let mid = c.narrowed.new.nodes.items in
    let n = c.args.node in
    let o = c.in-Operand.operand in
    let is : IsNarrowing mid (rewritten_node.Operand o) (narrowing_of state old n) = rw c.in-Operand.is at c.in_ok-operand.ensures.is in
    simplifies state old mid n o (by_narrowing state old mid mid n (rewritten_node.Operand o) o none is (refl, refl)) (λ h. (c.in_ok-operand.ensures.normal h).0)

pub returns-in-Node-clause-rewrites : goal.returns-in-Node-clause-rewrites
returns-in-Node-clause-rewrites c =
    let state = c.args.state.now in
    let old = c.args.nodes.now.items in
    let mid = c.narrowed.new.nodes.items in
    let new = c.settled.new.nodes.items in
    let n = c.args.node in
    let m = c.in-Node.node in
    let narrows : Narrows state old mid n (rewritten_node.Node m) = rw c.in-Node.is at c.in_ok-operand.ensures.narrows in
    IfOk-weaker c.settled.result _ _ (λ o r. node_follows state old mid new n m o narrows (r state narrows.built narrows.stands.fits_at narrows.stands.plain)) c.settled.ensures.rewrites

pub returns-in-Node-clause-simplifies : goal.returns-in-Node-clause-simplifies
returns-in-Node-clause-simplifies c = λ none.
    let state = c.args.state.now in
    let old = c.args.nodes.now.items in
    let mid = c.narrowed.new.nodes.items in
    let new = c.settled.new.nodes.items in
    let n = c.args.node in
    let m = c.in-Node.node in
    let narrows : Narrows state old mid n (rewritten_node.Node m) = rw c.in-Node.is at c.in_ok-operand.ensures.narrows in
    let keeps : KeepsNormal state old mid n (rewritten_node.Node m) = rw c.in-Node.is at c.in_ok-operand.ensures.normal in
    let is : IsNarrowing mid (rewritten_node.Node m) (narrowing_of state old n) = rw c.in-Node.is at c.in_ok-operand.ensures.is in
    IfOk-weaker c.settled.result _ _
    (λ o folded.
    simplifies state old new n o (by_narrowing state old mid new n (rewritten_node.Node m) o none is folded)
    (λ h. node_simplifies state old mid new n m o c.requires.fits_at c.requires.undecided narrows keeps folded h))
    c.settled.ensures.folded

pub returns-in-Extended-clause-simplifies : goal.returns-in-Extended-clause-simplifies
returns-in-Extended-clause-simplifies c = λ none.
    let state = c.args.state.now in
    let old = c.args.nodes.now.items in
    let mid = c.narrowed.new.nodes.items in
    let new = c.settled_longer.new.nodes.items in
    let n = c.args.node in
    let m = c.in-Extended.node in
    let w = c.in-Extended.width in
    let narrows : Narrows state old mid n (rewritten_node.Extended m w) = rw c.in-Extended.is at c.in_ok-operand.ensures.narrows in
    let keeps : KeepsNormal state old mid n (rewritten_node.Extended m w) = rw c.in-Extended.is at c.in_ok-operand.ensures.normal in
    let is : IsNarrowing mid (rewritten_node.Extended m w) (narrowing_of state old n) = rw c.in-Extended.is at c.in_ok-operand.ensures.is in
    IfOk-weaker c.settled_longer.result _ _
    (λ o both_parts. simplifies state old new n o (by_narrowing state old mid new n (rewritten_node.Extended m w) o none is both_parts.0) both_parts.1)
    (with_premise {A = AreNormal state old} (λ o. IsGrown new o (settle_answer mid (rewritten_node.Extended m w))) (λ o. AreNormal state new) c.settled_longer.result c.settled_longer.ensures.is (λ h. c.settled_longer.ensures.normal state old n narrows keeps h))
