use Rattle.std.proofs.Common.{refl, subst, sym}
use Rattle.std.proofs.lemmas.Result.{on_ok_weaker}
use Rattle.dslx_check_tasks.specs.Told.{LearnsSums}
use Rattle.dslx_check_tasks.proofs.work.Work.tell_instance.Goals as goal

pub returns-in-None : goal.returns-in-None
returns-in-None c = record {
  is = c.in_ok-reaches.reaches;
  faults_are = c.in_ok-reaches.ensures.faults;
  reached = c.in_ok-reaches.ensures.reached;
  put = c.in_ok-put_there.ensures;
  learnt = subst (LearnsSums c.args.self.now.facts c.args.self.now.facts c.args.instance) (sym c.in-None.is) refl;
  rest = refl;
}

pub returns-in-Some : goal.returns-in-Some
returns-in-Some c = on_ok_weaker c.learn_instance.result
    (λ l. record {
      is = c.in_ok-reaches.reaches;
      faults_are = c.in_ok-reaches.ensures.faults;
      reached = c.in_ok-reaches.ensures.reached;
      put = c.in_ok-put_there.ensures;
      learnt = subst (LearnsSums c.args.self.now.facts c.learn_instance.new.f c.args.instance) (sym c.in-Some.is) l;
      rest = refl;
    })
    c.learn_instance.ensures
