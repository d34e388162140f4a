use Rattle.std.proofs.Common.{IfOk, subst, sym}
use Rattle.dslx_meaning.specs.declared.names.sites.Act.{Act}
use Rattle.dslx_meaning.specs.Names.Sites.Acts.{act_shown}
use Rattle.dslx_next.specs.Opening.Works.{BodyMakes, opened_at}
use Rattle.dslx_next.proofs.opening.open.open_act.Goals as goal

pub returns-in-Receive : goal.returns-in-Receive
returns-in-Receive c =
    subst (λ (a : Act). IfOk c.open_receive.result (λ o. BodyMakes c.args.known c.args.work (opened_at c.args.known c.args.work (act_shown a) c.args.expr.now) o))
    (sym c.in-Receive.is) c.open_receive.ensures

pub returns-in-ReceiveIf : goal.returns-in-ReceiveIf
returns-in-ReceiveIf c =
    subst (λ (a : Act). IfOk c.open_receive_if.result (λ o. BodyMakes c.args.known c.args.work (opened_at c.args.known c.args.work (act_shown a) c.args.expr.now) o))
    (sym c.in-ReceiveIf.is) c.open_receive_if.ensures

pub returns-in-Send : goal.returns-in-Send
returns-in-Send c =
    subst (λ (a : Act). IfOk c.open_send.result (λ o. BodyMakes c.args.known c.args.work (opened_at c.args.known c.args.work (act_shown a) c.args.expr.now) o))
    (sym c.in-Send.is) c.open_send.ensures

pub returns-in-SendIf : goal.returns-in-SendIf
returns-in-SendIf c =
    subst (λ (a : Act). IfOk c.open_send_if.result (λ o. BodyMakes c.args.known c.args.work (opened_at c.args.known c.args.work (act_shown a) c.args.expr.now) o))
    (sym c.in-SendIf.is) c.open_send_if.ensures

pub returns-in-Compute : goal.returns-in-Compute
returns-in-Compute c =
    subst (λ (a : Act). IfOk c.open_compute.result (λ o. BodyMakes c.args.known c.args.work (opened_at c.args.known c.args.work (act_shown a) c.args.expr.now) o))
    (sym c.in-Compute.is) c.open_compute.ensures
