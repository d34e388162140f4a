use Rattle.std.proofs.Common.{◌∙◌, sym}
use Rattle.std.proofs.lemmas.Result.{IfOk-weaker}
use Rattle.dslx_check_judge.proofs.OnItems.OnMembers.{number_walked, other_walked}
use Rattle.dslx_check_judge.proofs.items.members.member_seen.Goals as goal

pub returns-in-Some : goal.returns-in-Some
returns-in-Some c = IfOk-weaker c.number_member.result _ _ (λ m h. number_walked c.args.base c.args.member.now c.in-Some.number (sym c.in-Some.is ∙ c.untyped_of.ensures) h) c.number_member.ensures

pub returns-in-None : goal.returns-in-None
returns-in-None c = IfOk-weaker c.constant_member.result _ _ (λ m h. other_walked c.args.base c.args.member.now (sym c.in-None.is ∙ c.untyped_of.ensures) h) c.constant_member.ensures
