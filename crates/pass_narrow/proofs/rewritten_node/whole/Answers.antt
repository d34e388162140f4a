use Rattle.std.proofs.Common.{sym}
use Rattle.pass_narrow.proofs.Standing.{whole_stands, whole_merged, whole_extended}
use Rattle.pass_narrow.proofs.NormalSides.{whole_merged_narrow, whole_extended_narrow}
use Rattle.pass_narrow.proofs.rewritten_node.whole.Goals as goal

pub returns-then-width-total-clause-stands : goal.returns-then-width-total-clause-stands
returns-then-width-total-clause-stands c = λ state n built. whole_stands state c.args.nodes.now n c.args.operand c.args.width c.args.total c.if-width-total.true

pub returns-in-Some-clause-stands : goal.returns-in-Some-clause-stands
returns-in-Some-clause-stands c = whole_merged c.extension_of.result c.args.nodes.now c.args.operand c.in-Some.a c.args.width c.args.total c.in-Some.ensures c.extension_of.ensures

pub returns-in-Some-clause-normal : goal.returns-in-Some-clause-normal
returns-in-Some-clause-normal c = whole_merged_narrow c.extension_of.result c.args.nodes.now c.args.operand c.in-Some.a c.args.width c.args.total c.in-Some.ensures c.extension_of.ensures

pub returns-in-None-clause-stands : goal.returns-in-None-clause-stands
returns-in-None-clause-stands c = whole_extended c.extension_of-in-None.result c.args.nodes.now c.args.operand c.args.width c.args.total c.extension_of-in-None.ensures

pub returns-in-None-clause-normal : goal.returns-in-None-clause-normal
returns-in-None-clause-normal c = whole_extended_narrow c.extension_of-in-None.result c.args.nodes.now c.args.operand c.args.width c.args.total c.if-width-total.false (sym c.in-None.ensures) c.extension_of-in-None.ensures
