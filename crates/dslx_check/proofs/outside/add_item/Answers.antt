use Rattle.std.proofs.Common.{◌∙◌, ap, sym}
use Rattle.std.specs.Option.{option_copied}
use Rattle.std.proofs.lemmas.Result.{on_ok_weaker}
use Rattle.dslx_check_facts.specs.Known.{at_place}
use Rattle.dslx_check.proofs.OnOutside.{item_added}
use Rattle.dslx_check.proofs.outside.add_item.Goals as goal

pub returns-in-Some : goal.returns-in-Some
returns-in-Some c = on_ok_weaker c.add_to.result
    (λ adds. item_added c.args.work.now c.args.item c.args.all.now c.add_to.new.all c.in-Some.reaches.now
    (ap (λ l. at_place l c.args.item) (sym c.as_slice-judged.ensures.value) ∙ sym c.there.ensures ∙ ap option_copied c.in-Some.is) adds)
    c.add_to.ensures
