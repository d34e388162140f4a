use Rattle.std.proofs.lemmas.Bool.{MatchBool-at_true, MatchBool-at_false}
use Rattle.std.proofs.Common.{refl, sym, ◌∙◌}
use Rattle.net_core.specs.Machine.{stepped}
use Rattle.net_run.proofs.Going.{shows_some, events_same, falls_on, falls_same, advances_end}
use Rattle.net_run.proofs.run.advance.Goals as goal

pub loop-kept-init : goal.loop-kept-init
loop-kept-init g c = (
  λ run cut sh is. sh,
  refl,
  λ progress e. g.met.B.Body.begins c.args.body.now c.new-kept.result progress.state progress.got progress.done c.new-kept.ensures,
)

pub loop-kept-preserved : goal.loop-kept-preserved
loop-kept-preserved g c = (
  λ run cut sh is.
      let since = shows_some run cut c.loop-kept.config c.loop-kept.went (c.loop-kept.invariant.0 run cut sh is) in
      let made = c.in_ok-step.ensures.ok run since.0 since.1 is in
      (stepped run since.0 c.args.p, made.1),
  falls_on c.loop-kept.went _ _ _ c.loop-kept.invariant.1 (MatchBool-at_true _ _ c.if-branch.true c.in_ok-step.ensures.falls),
  c.step.ensures.keeps,
)

pub returns-clause-advances : goal.returns-clause-advances
returns-clause-advances g c run cut sh is =
    let same = MatchBool-at_false _ _ c.if-branch.false c.in_ok-step.ensures.falls in
    advances_end run cut c.args.p c.loop-kept.config c.step.new.self c.loop-kept.went (c.loop-kept.invariant.0 run cut sh is)
    (λ r shown. let made = c.in_ok-step.ensures.ok run r shown is in (sym c.if-branch.false ∙ made.0, made.1)) same

pub returns-clause-falls : goal.returns-clause-falls
returns-clause-falls g c =
    let same = MatchBool-at_false _ _ c.if-branch.false c.in_ok-step.ensures.falls in
    falls_same c.loop-kept.went _ _ _ c.loop-kept.invariant.1 (events_same c.loop-kept.config c.step.new.self same)
