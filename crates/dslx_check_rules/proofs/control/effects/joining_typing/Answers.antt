use Rattle.std.proofs.Common.{◌∙◌, List, Some, refl, ap}
use Rattle.dslx_meaning.specs.declared.ty.DslxType as ty
use Rattle.dslx_meaning.specs.Rules.TypeEnvs.{Judgement, faults_of_all, one_and, reached_of_all, size_of_all, types_of}
use Rattle.dslx_meaning.specs.Rules.AggregateRules.{when_all}
use Rattle.dslx_check_rules.specs.declared.table.row.TypeRow.TheVariants as row
use Rattle.dslx_check_rules.specs.Nodes.Parts.{judgements}
use Rattle.dslx_check_rules.specs.Nodes.Nodes.Lists.{IsList}
use Rattle.dslx_check_rules.proofs.Lemmas.Nodes.Lists.{with_row_kept}
use Rattle.dslx_check_rules.proofs.control.effects.joining_typing.Goals as goal

pub returns-clause-typed : goal.returns-clause-typed
returns-clause-typed c = record {
  typed = λ names later distinct p xs parts.
      let js : List Judgement = judgements xs in
      let all : IsList c.all_typings-all.result js = c.all_typings-all.ensures names c.args.types.now later xs parts in
      c.settle.ensures.typed names later p (c.when_all-ty.ensures.there c.token.new.self c.in_ok-token.ensures.there) (when_all (types_of js) (Some ty.Token)) (faults_of_all js) (reached_of_all js)
      (one_and (size_of_all js))
      (c.when_all-ty.ensures.is names later js all ∙ ap (λ t. when_all (types_of js) (Some t)) (c.in_ok-token.ensures.is names later p))
      all.faults (c.one_and-size.ensures (size_of_all js) all.size);
}

pub returns-clause-items : goal.returns-clause-items
returns-clause-items c = with_row_kept c.args.types.now c.token.new.self row.Token refl c.in_ok-token.ensures.rows
