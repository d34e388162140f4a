use Rattle.std.proofs.Common.{◌∙◌, ap, sym}
use Rattle.std.specs.Option.{option_copied}
use Rattle.std.proofs.lemmas.Result.{on_ok_weaker}
use Rattle.dslx_check_facts.specs.Walks.{shown}
use Rattle.dslx_check_tasks.specs.Standing.{text_in}
use Rattle.dslx_check_tasks.proofs.Lemmas.Standing.{stays}
use Rattle.dslx_check.proofs.OnOutside.{met_more, none_added, own_added}
use Rattle.dslx_check.proofs.outside.add_own.Goals as goal

pub returns-then-has_own_instance : goal.returns-then-has_own_instance
returns-then-has_own_instance c = record {
  goes = on_ok_weaker c.add_instance.result (λ m. met_more c.what_is_known_stays.ensures.goes_on c.args.work.now c.add_instance.new.w m.grows) c.add_instance.ensures;
  adds = on_ok_weaker c.add_instance.result
      (λ m. own_added (text_in c.args.work.now) (shown c.args.work.now.walk) (shown c.add_instance.new.w) c.args.item c.in-Some.definition.now (sym c.definition.ensures ∙ ap option_copied c.in-Some.is) c.args.own.now.items c.add_instance.new.own.items
      (sym c.has_own_instance.ensures ∙ c.if-has_own_instance.true) m)
      c.add_instance.ensures;
}

pub returns-else-has_own_instance : goal.returns-else-has_own_instance
returns-else-has_own_instance c = record {
  goes = stays c.args.work.now;
  adds = none_added (text_in c.args.work.now) (shown c.args.work.now.walk) c.args.item c.in-Some.definition.now (sym c.definition.ensures ∙ ap option_copied c.in-Some.is) c.args.own.now.items
      (sym c.has_own_instance.ensures ∙ c.if-has_own_instance.false);
}
