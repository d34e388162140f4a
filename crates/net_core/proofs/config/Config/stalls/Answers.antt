use Rattle.std.proofs.Common.{◌<◌, ◌≤◌, ◌∙◌, ap, sym, List, ◌++◌, ◌∷◌, [], length, take, arith, Option}
use Rattle.std.proofs.lemmas.List.{take_all}
use Rattle.net_core.specs.declared.outcome.Stall.{Stall}
use Rattle.net_core.specs.Outcomes.{stall_in}
use Rattle.base.specs.Lists.Indexed.{indexed}
use Rattle.base.proofs.Lemmas.Lists.Indexed.{indexed_more}
use Rattle.std.proofs.lemmas.Option.{get_or_from_slice_get}
use Rattle.net_core.proofs.Bodies.{behavior_there, count_behaviors}
use Rattle.net_core.proofs.config.Config.stalls.Goals as goal

pub stall-requires : goal.stall-requires
stall-requires g c =
    let r = c.requires in
    (r.0, r.1, r.2, behavior_there g.B.Body.behavior r.0 c.args.bodies.now c.loop-p.p c.index-bodies-p.result r.3 c.loop-p-test.true c.index-bodies-p.is)

pub loop-p-preserved : goal.loop-p-preserved
loop-p-preserved g c run cut sh e =
    let is = behavior_there g.B.Body.behavior run c.args.bodies.now c.loop-p.p c.index-bodies-p.result e c.loop-p-test.true c.index-bodies-p.is in
    let stall = c.in_ok-stall.ensures run cut sh is in
    let count = count_behaviors g.B.Body.behavior run c.args.bodies.now e in
    let within : c.loop-p.p < length run.procs = omega (arith, count, c.loop-p-test.true) in
    let done : List (Option Stall) = indexed (stall_in run cut) 0 (take c.loop-p.p run.procs) in
    c.in_ok-push.ensures.items
    ∙ (ap (λ (xs : List (Option Stall)). xs ++ c.in_ok-stall.field-0 ∷ []) (c.loop-p.invariant run cut sh e)
    ∙ (ap (λ (x : Option Stall). done ++ x ∷ []) stall
    ∙ sym (indexed_more (stall_in run cut) run.procs c.loop-p.p is.0 within (sym (get_or_from_slice_get run.procs c.loop-p.p is.0 is.0 is.1)))))

pub returns : goal.returns
returns g c run cut sh e =
    let count = count_behaviors g.B.Body.behavior run c.args.bodies.now e in
    let all : length run.procs ≤ c.loop-p.p = omega (arith, count, c.loop-p-test.false) in
    c.loop-p.invariant run cut sh e ∙ ap (λ procs. indexed (stall_in run cut) 0 procs) (take_all c.loop-p.p run.procs all)
