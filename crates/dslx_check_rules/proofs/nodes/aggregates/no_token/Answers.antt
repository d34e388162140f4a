use Rattle.std.proofs.Common.{◌∙◌, ◌∷◌, [], None, refl, sym, ap, subst}
use Rattle.dslx_meaning.specs.Rules.TypeEnvs.{Judgement, breaks}
use Rattle.dslx_meaning.specs.Rules.RuleNumbers as rule
use Rattle.dslx_check_rules.specs.Nodes.Nodes.Aggregates.{holds_token_if}
use Rattle.dslx_check_rules.specs.Nodes.Parts.{IsPart}
use Rattle.dslx_check_rules.proofs.Lemmas.Nodes.Settled.{token_passed, token_refused}
use Rattle.dslx_check_rules.proofs.nodes.aggregates.no_token.Goals as goal

pub returns-then-is_token_held : goal.returns-then-is_token_held
returns-then-is_token_held c = record {
  typed = λ names later distinct p x part.
      let holds = sym (ap holds_token_if part.ty) ∙ sym (c.is_token_held.ensures names later p part.row) ∙ c.if-is_token_held.true in
      subst (λ (y : Judgement). IsPart names c.args.types.now later (record { ty = None; faults = c.and.result; size = c.args.value.size }) y) (sym (token_refused c.args.span x holds))
      (record { row = tt; ty = refl; faults = c.and.ensures x.faults (breaks rule.EFFECT_STANDS_ALONE c.args.span ∷ []) part.faults c.breaks.ensures; size = part.size });
}

pub returns-else-is_token_held : goal.returns-else-is_token_held
returns-else-is_token_held c = record {
  typed = λ names later distinct p x part.
      let holds = sym (ap holds_token_if part.ty) ∙ sym (c.is_token_held.ensures names later p part.row) ∙ c.if-is_token_held.false in
      subst (λ (y : Judgement). IsPart names c.args.types.now later c.args.value y) (sym (token_passed c.args.span x holds)) part;
}
