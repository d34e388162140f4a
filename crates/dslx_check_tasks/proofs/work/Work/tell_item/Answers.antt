use Rattle.std.proofs.Common.{◌≡◌, refl, subst, sym}
use Rattle.std.specs.Prelude.{MatchBool}
use Rattle.std.proofs.lemmas.Result.{on_ok_weaker}
use Rattle.dslx_check_declarations.specs.Work.Learnt.{LearnsItem}
use Rattle.dslx_check_tasks.proofs.work.Work.tell_item.Goals as goal

pub returns-then-learns : goal.returns-then-learns
returns-then-learns c = on_ok_weaker c.learn_item.result
    (λ l. record {
      is = c.in_ok-reaches.reaches;
      faults = c.in_ok-reaches.ensures.faults;
      reached = c.in_ok-reaches.ensures.reached;
      put = c.in_ok-put_there.ensures;
      learnt = subst (λ b. MatchBool b (LearnsItem c.args.self.now.facts c.learn_item.new.f c.args.item c.args.seen) (c.learn_item.new.f ≡ c.args.self.now.facts)) (sym c.if-learns.true) l;
      rest = refl;
    })
    c.learn_item.ensures

pub returns-else-learns : goal.returns-else-learns
returns-else-learns c = record {
  is = c.in_ok-reaches.reaches;
  faults = c.in_ok-reaches.ensures.faults;
  reached = c.in_ok-reaches.ensures.reached;
  put = c.in_ok-put_there.ensures;
  learnt = subst (λ b. MatchBool b (LearnsItem c.args.self.now.facts c.args.self.now.facts c.args.item c.args.seen) (c.args.self.now.facts ≡ c.args.self.now.facts)) (sym c.if-learns.false) refl;
  rest = refl;
}
