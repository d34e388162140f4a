use Rattle.std.proofs.Common.{◌∙◌, List, None, Some, ap, subst, sym}
use Rattle.dslx_meaning.specs.Lists.{and_then}
use Rattle.dslx_core.specs.Lowering.Functions.{CoreInstance}
use Rattle.dslx_core.specs.Lowering.Steps.{CoreMember, member_in}
use Rattle.dslx_core.specs.Lowering.Trees.{lower_expression, of_type}
use Rattle.dslx_next.specs.Opening.Opened.{sending}
use Rattle.dslx_next.specs.Opening.Works.{BodyMakes, outer_at, scope_at}
use Rattle.dslx_next.proofs.OnOpening.Sequels.{at_member, makes_value, without_member}
use Rattle.dslx_next.proofs.opening.open.open_send.Goals as goal

pub returns-in_default : goal.returns-in_default
returns-in_default c =
    without_member c.args.known c.args.work (λ (t : List CoreInstance). member_in (outer_at c.args.known c.args.work t) c.args.known.ends.now c.args.name.now)
    (λ m t. and_then (of_type m.word (lower_expression c.args.word.now (scope_at c.args.known c.args.work t))) (sending m None)) (λ t. sym c.in_default.is ∙ c.in_ok-member.ensures t)

pub returns-in-Some-2 : goal.returns-in-Some-2
returns-in-Some-2 c =
    at_member c.args.known c.args.work (λ (t : List CoreInstance). member_in (outer_at c.args.known c.args.work t) c.args.known.ends.now c.args.name.now) c.in-Some.member
    (λ m t. and_then (of_type m.word (lower_expression c.args.word.now (scope_at c.args.known c.args.work t))) (sending m None)) (Some (c.send.result, c.in-Some-2.work)) (λ t. sym c.in-Some.is ∙ c.in_ok-member.ensures t)
    (makes_value c.args.known c.args.work c.in-Some-2.work (λ t. of_type c.in-Some.member.word (lower_expression c.args.word.now (scope_at c.args.known c.args.work t))) (sending c.in-Some.member None) c.in-Some-2.word c.send.result
    (subst (BodyMakes c.args.known c.args.work (λ t. of_type c.in-Some.member.word (lower_expression c.args.word.now (scope_at c.args.known c.args.work t)))) c.in-Some-2.is
    (subst (λ (m : CoreMember). BodyMakes c.args.known c.args.work (λ t. of_type m.word (lower_expression c.args.word.now (scope_at c.args.known c.args.work t))) c.in_ok-word.field-0) c.get.ensures c.in_ok-word.ensures))
    (ap (λ (m : CoreMember). sending m None c.in-Some-2.word) (sym c.into_inner.ensures) ∙ sym c.send.ensures))
