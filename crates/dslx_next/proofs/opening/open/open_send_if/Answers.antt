use Rattle.std.proofs.Common.{◌∙◌, List, Option, Some, ap, subst, sym}
use Rattle.dslx_core.specs.Lowering.Functions.{CoreInstance}
use Rattle.dslx_core.specs.Lowering.Steps.{CoreMember, member_in}
use Rattle.dslx_next.specs.Opening.Opened.{conditional, sending}
use Rattle.dslx_next.specs.Opening.Works.{BodyMakes, outer_at, scope_at}
use Rattle.dslx_next.specs.declared.opening.opened.OpenStep.{OpenStep}
use Rattle.dslx_next.specs.declared.opening.work.Conditional.{Conditional}
use Rattle.dslx_next.proofs.OnOpening.Sequels.{at_member, conditional_then, makes_value, without_member}
use Rattle.dslx_next.proofs.opening.open.open_send_if.Goals as goal

abbrev opens : Conditional → CoreMember → Option OpenStep
opens b m = sending m (Some b.condition.core) b.value

pub returns-in_default : goal.returns-in_default
returns-in_default c =
    without_member c.args.known c.args.work (λ (t : List CoreInstance). member_in (outer_at c.args.known c.args.work t) c.args.known.ends.now c.args.name.now)
    (λ m t. conditional_then opens c.args.condition.now c.args.word.now (scope_at c.args.known c.args.work t) m) (λ t. sym c.in_default.is ∙ c.in_ok-member.ensures t)

pub returns-in-Some-2 : goal.returns-in-Some-2
returns-in-Some-2 c =
    at_member c.args.known c.args.work (λ (t : List CoreInstance). member_in (outer_at c.args.known c.args.work t) c.args.known.ends.now c.args.name.now) c.in-Some.member
    (λ m t. conditional_then opens c.args.condition.now c.args.word.now (scope_at c.args.known c.args.work t) m) (Some (c.send.result, c.in-Some-2.work)) (λ t. sym c.in-Some.is ∙ c.in_ok-member.ensures t)
    (makes_value c.args.known c.args.work c.in-Some-2.work (λ t. conditional c.in-Some.member.word c.args.condition.now c.args.word.now (scope_at c.args.known c.args.work t)) (λ b. opens b c.in-Some.member)
    c.in-Some-2.both c.send.result
    (subst (BodyMakes c.args.known c.args.work (λ t. conditional c.in-Some.member.word c.args.condition.now c.args.word.now (scope_at c.args.known c.args.work t))) c.in-Some-2.is
    (subst (λ (m : CoreMember). BodyMakes c.args.known c.args.work (λ t. conditional m.word c.args.condition.now c.args.word.now (scope_at c.args.known c.args.work t)) c.in_ok-both.field-0) c.get.ensures c.in_ok-both.ensures))
    (ap (opens c.in-Some-2.both) (sym c.into_inner.ensures) ∙ sym c.send.ensures))
