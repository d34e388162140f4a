use Rattle.std.proofs.Common.{◌≡◌, ◌∙◌, sym}
use Rattle.dslx_check_facts.proofs.Lemmas.Firsts.{at_mapped, meant, number_within}
use Rattle.dslx_check_facts.proofs.facts.Facts.item.Goals as goal

pub get-requires : goal.get-requires
get-requires c = number_within c.args.name.now c.args.self.now.kept.items.text.now.items c.in-Some.item (sym c.find.ensures ∙ c.in-Some.is)

pub returns-in-Some : goal.returns-in-Some
returns-in-Some c =
    meant c.args.self.now c.args.name.now c.in-Some.item c.get.result.now c.unmarked-text.ensures (sym c.find.ensures ∙ c.in-Some.is)
    (sym (at_mapped c.args.self.now.kept.items.text.now.items c.in-Some.item) ∙ c.get.ensures)
