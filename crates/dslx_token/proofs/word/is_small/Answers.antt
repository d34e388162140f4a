use Rattle.std.proofs.Common.{◌∙◌, subst, ◌<◌, ◌^◌}
use Rattle.std.specs.Str.Parse.{digits_value}
use Rattle.dslx_token.proofs.Digits.{plain_value, small_yes, small_no, small_none}
use Rattle.dslx_token.proofs.word.is_small.Goals as goal

pub returns-then-value-ge1 : goal.returns-then-value-ge1
returns-then-value-ge1 c = small_yes c.in-Some.value (digits_value 10 c.args.digits.now) ((c.in-Some.ensures {u = tt}).1 ∙ plain_value c.args.digits.now c.requires) c.if-value-ge1.true

pub returns-else-value-ge1 : goal.returns-else-value-ge1
returns-else-value-ge1 c = small_no c.in-Some.value (digits_value 10 c.args.digits.now) ((c.in-Some.ensures {u = tt}).1 ∙ plain_value c.args.digits.now c.requires) c.if-value-ge1.false

pub returns-in-None : goal.returns-in-None
returns-in-None c = small_none (digits_value 10 c.args.digits.now) (subst (λ v. v < 2 ^ 128 → ⊥) (plain_value c.args.digits.now c.requires) (c.in-None.ensures {u = tt}))
