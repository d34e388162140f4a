use Rattle.std.proofs.Common.{◌≡◌, length, sym, ap, subst}
use Rattle.std.proofs.lemmas.Result.{IfOk-weaker}
use Rattle.delay_model.specs.declared.op.Extend.TheVariants as extend
use Rattle.ir_tree.specs.declared.node.Node.{Node}
use Rattle.ir_rebuild.specs.Built.{Rewrites, FitsAt, is_plain_op}
use Rattle.pass_fold.specs.Settled.{IsFolded}
use Rattle.pass_narrow.specs.Nodes.{extension_node}
use Rattle.pass_narrow.proofs.Lemmas.{extension_placed, extension_follows}
use Rattle.ir_passes.proofs.Simplifying.{longer_simplifies}
use Rattle.ir_passes.proofs.Exact.{extended_grown}
use Rattle.ir_passes.proofs.rules.settled_longer.Goals as goal

pub returns-clause-rewrites : goal.returns-clause-rewrites
returns-clause-rewrites c = λ state old n narrows.
    let mid = c.args.nodes.now.items in
    let one = c.settled.new.nodes.items in
    let all = c.settled-2.new.nodes.items in
    let m = c.args.node in
    let w = c.args.width in
    let o = c.in_ok-operand.operand in
    let x = extension_node extend.Zero o w in
    let first : Rewrites state mid one m o = c.in_ok-operand.ensures.rewrites state narrows.built narrows.stands.fits_at narrows.stands.plain in
    let fits_at : FitsAt state one (length one) x = extension_placed state old mid one n m w o narrows first in
    let eq : c.in_ok-longer.longer ≡ x = c.in_ok-longer.ensures in
    IfOk-weaker c.settled-2.result _ _
    (λ p r.
    extension_follows state old mid one all n m w o p narrows first
    (subst (λ y. Rewrites state one all y p) eq (r state first.built (subst (FitsAt state one (length one)) (sym eq) fits_at) (ap (λ (y : Node). is_plain_op y.op) eq))))
    c.settled-2.ensures.rewrites

pub returns-clause-normal : goal.returns-clause-normal
returns-clause-normal c = λ state old n narrows keeps h.
    let mid = c.args.nodes.now.items in
    let one = c.settled.new.nodes.items in
    let all = c.settled-2.new.nodes.items in
    let m = c.args.node in
    let w = c.args.width in
    let o = c.in_ok-operand.operand in
    let x = extension_node extend.Zero o w in
    let first : Rewrites state mid one m o = c.in_ok-operand.ensures.rewrites state narrows.built narrows.stands.fits_at narrows.stands.plain in
    let fits_at : FitsAt state one (length one) x = extension_placed state old mid one n m w o narrows first in
    IfOk-weaker c.settled-2.result _ _
    (λ p folded. longer_simplifies state old mid one all n m w o p narrows keeps first.built fits_at c.in_ok-operand.ensures.folded (subst (λ y. IsFolded one all y p) c.in_ok-longer.ensures folded) h)
    c.settled-2.ensures.folded

pub returns-clause-is : goal.returns-clause-is
returns-clause-is c =
    IfOk-weaker c.settled-2.result _ _
    (λ p second.
    extended_grown c.args.nodes.now.items c.settled.new.nodes.items c.settled-2.new.nodes.items c.args.node c.in_ok-longer.longer c.args.width c.in_ok-operand.operand p c.in_ok-operand.ensures.folded c.in_ok-longer.ensures second)
    c.settled-2.ensures.folded
