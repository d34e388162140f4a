use Rattle.std.proofs.Common.{◌≡◌, ◌+◌, ◌<◌, subst, sym, arith, length, MatchBool}
use Rattle.std.proofs.lemmas.Bool.{MatchBool-at_true, MatchBool-at_false}
use Rattle.net_core.specs.Shows.{events_left}
use Rattle.net_core.proofs.Lemmas.{behavior_there}
use Rattle.net_run.specs.Rounds.{AllAdvance, Advances}
use Rattle.net_run.proofs.Going.{passes_some, passes_moved, passes_stayed, falls_on, falls_same}
use Rattle.net_run.proofs.run.round.Goals as goal
use Rattle.net_run.proofs.run.round.Goals.{then-branch, else-branch}

pub advance-requires : goal.advance-requires
advance-requires g c =
    let r = c.requires in
    let at = passes_some r.0 r.1 c.loop-p.p c.loop-p.config c.loop-p.moved (c.loop-p.invariant.0 r.0 r.1 r.2 r.3) in
    (r.0, at.0, at.1, behavior_there g.B.Body.behavior r.0 c.args.bodies.now c.loop-p.p c.index-bodies-p.result r.3 c.loop-p-test.true c.index-bodies-p.is)

pub loop-p-preserved : goal.loop-p-preserved
loop-p-preserved g c =
    elim c.if-branch.branch [
      | then-branch w ↦ (
        (λ run cut sh e.
            let is = behavior_there g.B.Body.behavior run c.args.bodies.now c.loop-p.p c.index-bodies-p.result e c.loop-p-test.true c.index-bodies-p.is in
            subst (λ m. AllAdvance run cut (c.loop-p.p + 1) c.advance.new.config m) (sym w.moved-is)
            (passes_moved run cut c.loop-p.p (c.loop-p.p + 1) c.loop-p.config c.advance.new.config c.loop-p.moved (c.loop-p.invariant.0 run cut sh e)
            (λ r shown. subst (λ m. Advances run r c.loop-p.p c.advance.new.config m) w.if-branch.true (c.in_ok-advance.ensures.advances run r shown is)))),
        subst (λ m. MatchBool m (events_left c.advance.new.config < events_left c.args.config.now) (events_left c.advance.new.config ≡ events_left c.args.config.now)) (sym w.moved-is)
            (falls_on c.loop-p.moved _ _ _ c.loop-p.invariant.1 (MatchBool-at_true _ _ w.if-branch.true c.in_ok-advance.ensures.falls)),
      )
      | else-branch w ↦ (
        (λ run cut sh e.
            let is = behavior_there g.B.Body.behavior run c.args.bodies.now c.loop-p.p c.index-bodies-p.result e c.loop-p-test.true c.index-bodies-p.is in
            subst (λ m. AllAdvance run cut (c.loop-p.p + 1) c.advance.new.config m) (sym w.moved-is)
            (passes_stayed run cut c.loop-p.p c.loop-p.config c.advance.new.config c.loop-p.moved (c.loop-p.invariant.0 run cut sh e)
            (λ r shown. subst (λ m. Advances run r c.loop-p.p c.advance.new.config m) w.if-branch.false (c.in_ok-advance.ensures.advances run r shown is)))),
        subst (λ m. MatchBool m (events_left c.advance.new.config < events_left c.args.config.now) (events_left c.advance.new.config ≡ events_left c.args.config.now)) (sym w.moved-is)
            (falls_same c.loop-p.moved _ _ _ c.loop-p.invariant.1 (MatchBool-at_false _ _ w.if-branch.false c.in_ok-advance.ensures.falls)),
      )
    ]

pub returns-clause-passes : goal.returns-clause-passes
returns-clause-passes g c run cut sh e =
    let all : c.loop-p.p ≡ length c.args.bodies.now = omega arith in
    subst (λ count. AllAdvance run cut count c.loop-p.config c.loop-p.moved) all (c.loop-p.invariant.0 run cut sh e)
