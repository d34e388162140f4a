use Rattle.std.proofs.Common.{◌∙◌, ◌&&◌, ◌||◌, ◌++◌, ◌∷◌, [], Some, ap, refl}
use Rattle.dslx_check_facts.specs.Keys.{values_or_none}
use Rattle.dslx_check_facts.specs.Walks.{shown}
use Rattle.dslx_check_uses.proofs.OnArguments.{prefixes_grow}
use Rattle.dslx_check_uses.proofs.parametrics.ParametricArgs.put.Goals as goal

pub returns : goal.returns
returns c = record {
  grows = prefixes_grow (shown c.args.w.now) _ c.in_ok-prefix.ensures.grows;
  reached = refl;
  values = c.in_ok-push.ensures.items ∙ ap (λ v. c.args.self.now.values.items ++ v ∷ []) c.value_of-value.ensures;
  prefix = λ before at. c.in_ok-prefix.ensures.list ∙ (λ i. Some ((c.in_ok-last.ensures ∙ c.value_of-value.ensures) i ∷ values_or_none (at i)));
  known = c.both-self.ensures ∙ ap (λ b. c.args.self.now.are_known && b) c.is_number-is_known.ensures;
  wrong = c.either-self.ensures ∙ ap (λ b. c.args.self.now.is_wrong || b) c.is_wrong_value-is_wrong.ensures;
  rest = refl;
}
