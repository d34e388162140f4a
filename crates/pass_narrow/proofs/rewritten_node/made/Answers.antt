use Rattle.std.proofs.Common.{IfOk, max, sym, subst}
use Rattle.std.specs.Prelude.{nat_lt}
use Rattle.ir_tree.specs.declared.node.Node.{Node}
use Rattle.pass_narrow.specs.Narrowing.{Narrows}
use Rattle.ir_rebuild.specs.Normal.Normal.{AreNormal}
use Rattle.pass_narrow.specs.KeepsNormal.{KeepsNormal}
use Rattle.pass_narrow.specs.Inner.Meant.{IsReplacement, IsOperation, IsComparison}
use Rattle.pass_narrow.specs.Inner.Bare.{AreBare, IsNormalSide, row_test}
use Rattle.pass_narrow.specs.Narrowings.{made_of, IsNarrowing}
use Rattle.pass_narrow.proofs.Standing.{zero_stands, extension_stands}
use Rattle.pass_narrow.proofs.NormalSides.{pair_keeps}
use Rattle.pass_narrow.proofs.rewritten_node.made.Goals as goal

pub returns-in-Zero-clause-narrows : goal.returns-in-Zero-clause-narrows
returns-in-Zero-clause-narrows c =
    let nodes = c.args.nodes.now.items in
    subst (λ r. IfOk c.zero_of.result (λ x. (n : Node) → IsReplacement c.args.state.now nodes n c.args.total r → Narrows c.args.state.now nodes nodes n x)) (sym c.in-Zero.is)
    (zero_stands c.zero_of.result c.args.state.now nodes c.args.total c.requires c.zero_of.ensures)

pub returns-in-Extension-clause-narrows : goal.returns-in-Extension-clause-narrows
returns-in-Extension-clause-narrows c =
    let nodes = c.args.nodes.now.items in
    subst (λ r. IfOk c.extension_of.result (λ x. (n : Node) → IsReplacement c.args.state.now nodes n c.args.total r → Narrows c.args.state.now nodes nodes n x)) (sym c.in-Extension.is)
    (extension_stands c.extension_of.result c.args.state.now nodes c.in-Extension.kind c.in-Extension.a c.args.total c.requires c.extension_of.ensures)

pub returns-in-Operation-clause-narrows : goal.returns-in-Operation-clause-narrows
returns-in-Operation-clause-narrows c =
    let nodes = c.args.nodes.now.items in
    subst (λ r. IfOk c.operation_of.result (λ x. (n : Node) → IsReplacement c.args.state.now nodes n c.args.total r → Narrows c.args.state.now nodes c.operation_of.new.nodes.items n x)) (sym c.in-Operation.is)
    c.operation_of.ensures.narrows

pub returns-in-Comparison-clause-narrows : goal.returns-in-Comparison-clause-narrows
returns-in-Comparison-clause-narrows c =
    let nodes = c.args.nodes.now.items in
    subst (λ r. IfOk c.comparison_of.result (λ x. (n : Node) → IsReplacement c.args.state.now nodes n c.args.total r → Narrows c.args.state.now nodes c.comparison_of.new.nodes.items n x)) (sym c.in-Comparison.is)
    c.comparison_of.ensures.narrows

pub returns-in-Operation-clause-normal : goal.returns-in-Operation-clause-normal
returns-in-Operation-clause-normal c =
    let state = c.args.state.now in
    let nodes = c.args.nodes.now.items in
    let new = c.operation_of.new.nodes.items in
    let p = c.in-Operation in
    subst (λ r. IfOk c.operation_of.result (λ x. (n : Node) → IsReplacement state nodes n c.args.total r → (AreNormal state nodes → IsNormalSide state nodes c.args.total r) → KeepsNormal state nodes new n x)) (sym c.in-Operation.is)
    (pair_keeps c.operation_of.result state nodes new (λ n. IsOperation state nodes n p.op p.a p.b p.least c.args.total) (AreBare state nodes p.a p.b (row_test p.op p.least)) c.operation_of.ensures.normal)

pub returns-in-Comparison-clause-normal : goal.returns-in-Comparison-clause-normal
returns-in-Comparison-clause-normal c =
    let state = c.args.state.now in
    let nodes = c.args.nodes.now.items in
    let new = c.comparison_of.new.nodes.items in
    let p = c.in-Comparison in
    subst (λ r. IfOk c.comparison_of.result (λ x. (n : Node) → IsReplacement state nodes n c.args.total r → (AreNormal state nodes → IsNormalSide state nodes c.args.total r) → KeepsNormal state nodes new n x)) (sym c.in-Comparison.is)
    (pair_keeps c.comparison_of.result state nodes new (λ n. IsComparison state nodes n p.op p.a p.b p.least) (AreBare state nodes p.a p.b (λ u v. nat_lt (max u v) p.least)) c.comparison_of.ensures.normal)

pub returns-in-Comparison-clause-made : goal.returns-in-Comparison-clause-made
returns-in-Comparison-clause-made c =
    subst (λ r. IfOk c.comparison_of.result (λ x. IsNarrowing c.comparison_of.new.nodes.items x (made_of c.args.state.now c.args.nodes.now.items c.args.total r))) (sym c.in-Comparison.is)
    (c.comparison_of.ensures.made c.args.total)
