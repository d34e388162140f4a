use Rattle.std.proofs.Common.{◌∙◌, ap, sym, refl}
use Rattle.std.specs.Option.{option_copied}
use Rattle.dslx_check_facts.specs.Known.{at_place}
use Rattle.dslx_check.specs.Finds.{with_new}
use Rattle.dslx_check.proofs.found.judge_reached.Goals as goal

pub returns-in_ok-add_all-in-Some : goal.returns-in_ok-add_all-in-Some
returns-in_ok-add_all-in-Some c = record {
  goes = c.in_ok-settle.ensures;
  found = λ right. record {
    is = c.in-Some.reaches.now;
    found = (c.in_ok-settle.ensures.right right).found.instances_are c.args.instance c.in-Some.reaches.now
        (ap (λ l. at_place l c.args.instance) (sym c.as_slice-judged.ensures.value) ∙ sym c.there.ensures ∙ ap option_copied c.in-Some.is);
    faults_are = refl;
    added = c.in_ok-add_all-in-Some.ensures ∙ ap (with_new c.args.all.now.keys) c.as_slice-more.ensures.value;
  };
}
