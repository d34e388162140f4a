use Rattle.std.proofs.Common.{◌∙◌, ◌++◌, [], List, ap}
use Rattle.std.specs.Prelude.{if◌then◌else◌}
use Rattle.xb_span.specs.declared.fault.Fault.{Fault}
use Rattle.dslx_meaning.specs.Rules.TypeEnvs.{Judgement, breaks_if, faults_of_all, one_and, plus_size, size_of_all, types_of}
use Rattle.dslx_meaning.specs.Rules.AggregateRules.{when_all}
use Rattle.dslx_meaning.specs.Rules.RuleNumbers as rule
use Rattle.dslx_check_rules.specs.Seen.{seen}
use Rattle.dslx_check_rules.specs.Nodes.Parts.{judgements}
use Rattle.dslx_check_rules.specs.Nodes.Nodes.Lists.{IsList}
use Rattle.dslx_check_rules.specs.Control.Calls.{misfits}
use Rattle.dslx_check_rules.proofs.OnControl.OnCalls.{unless_refused}
use Rattle.dslx_check_rules.proofs.control.calls.right_call_typing.Goals as goal

pub returns : goal.returns
returns c = record {
  typed = λ names later distinct p fs reached k xs given is parts.
      let js : List Judgement = judgements xs in
      let cyclic : List Fault = breaks_if k.is_cyclic rule.NO_ITEM_REACHES_ITSELF c.args.span in
      let declared : List Fault = if k.is_cyclic then [] else if k.is_wrong then [] else k.declared in
      let wrong : List Fault = breaks_if k.is_wrong rule.ARGUMENTS_FIT c.args.span in
      let fitting : List Fault = if k.is_wrong then [] else misfits k.arguments xs in
      let all : IsList c.all_typings-all.result js = c.all_typings-all.ensures names c.args.types.now later xs parts in
      c.settle.ensures.typed names later p (c.when_all-ty.ensures.there c.args.types.now is.row) (when_all (types_of js) k.result)
      (fs ++ faults_of_all js ++ cyclic ++ k.parametrics ++ declared ++ wrong ++ fitting) reached (one_and (plus_size (size_of_all js) k.size))
      (c.when_all-ty.ensures.is names later js all ∙ ap (when_all (types_of js)) is.result)
      (c.and-faults.ensures (fs ++ faults_of_all js ++ cyclic ++ k.parametrics ++ declared ++ wrong) fitting (c.and-3.ensures (fs ++ faults_of_all js ++ cyclic ++ k.parametrics ++ declared) wrong
      (c.and-2.ensures (fs ++ faults_of_all js ++ cyclic ++ k.parametrics) declared (c.and-before.ensures (fs ++ faults_of_all js ++ cyclic) k.parametrics
      (c.and.ensures (fs ++ faults_of_all js) cyclic (c.and-parts.ensures fs (faults_of_all js) given all.faults)
      (c.breaks_if-cyclic.ensures ∙ ap (λ b. seen (breaks_if b rule.NO_ITEM_REACHES_ITSELF c.args.span)) is.cyclic)) is.parametrics)
      (c.declared_faults-declared.ensures ∙ (λ i. if is.cyclic i then seen [] else if is.wrong i then seen [] else is.declared i) ∙ unless_refused k.is_cyclic k.is_wrong k.declared))
      (c.breaks_if-wrong.ensures ∙ ap (λ b. seen (breaks_if b rule.ARGUMENTS_FIT c.args.span)) is.wrong))
      (c.fitting_faults-fitting.ensures names later k xs distinct p is parts))
      (c.one_and-size.ensures (plus_size (size_of_all js) k.size) (c.plus_size.ensures (size_of_all js) k.size all.size is.size));
}
