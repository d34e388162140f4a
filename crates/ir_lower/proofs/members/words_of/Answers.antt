use Rattle.std.proofs.Common.{◌∙◌, ◌+◌, ◌≡◌, get_or, sym, ap, subst, take, map, Some}
use Rattle.std.proofs.lemmas.List.{take_all, take_more}
use Rattle.ir_lower.specs.Deep.{word_type}
use Rattle.ir_lower.proofs.OnLists.{results_more}
use Rattle.ir_lower.proofs.members.words_of.Goals as goal

pub members-preserved : goal.members-preserved
members-preserved c =
    subst (λ ts. map (word_type c.args.chans.now) (take (c.members.member-index + 1) c.args.members.now) ≡ map Some ts) (sym c.in_ok-push.ensures.items)
    (results_more (word_type c.args.chans.now) (take c.members.member-index c.args.members.now) (take (c.members.member-index + 1) c.args.members.now) (get_or c.args.members.now c.members.member-index 0) c.members.words.items c.in_ok-word_of.field-0
    (take_more c.args.members.now c.members.member-index 0 c.members-test.true) c.members.invariant c.in_ok-word_of.ensures)

pub returns : goal.returns
returns c = ap (map (word_type c.args.chans.now)) (sym (take_all c.members.member-index c.args.members.now c.members-test.false)) ∙ c.members.invariant
