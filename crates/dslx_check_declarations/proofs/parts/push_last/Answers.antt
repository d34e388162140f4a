use Rattle.std.proofs.Common.{◌∙◌, ◌++◌, ◌∷◌, [], refl, ap}
use Rattle.dslx_check_facts.specs.Walks.{shown}
use Rattle.dslx_check_declarations.proofs.OnParts.{longer_list}
use Rattle.dslx_check_declarations.proofs.parts.push_last.Goals as goal

pub returns-in_ok-push-in-Some : goal.returns-in_ok-push-in-Some
returns-in_ok-push-in-Some c = (
  c.in-Some.ensures.0,
  longer_list (shown c.args.w.now).prefixes c.args.values.now.items _ c.args.number _ _ _ c.in-Some.ensures.1
      (c.in_ok-push-in-Some.ensures.items ∙ ap (λ v. c.args.values.now.items ++ v ∷ []) c.in_ok-value-in-Some.ensures) refl,
)
