use Rattle.std.proofs.Common.{◌≡◌, ◌∙◌, ◌++◌, List, Option, length, map, ap, subst}
use Rattle.xb_span.specs.declared.fault.Fault.{Fault}
use Rattle.dslx_meaning.specs.Lists.{and_then}
use Rattle.dslx_meaning.specs.declared.ty.DslxType.{DslxType}
use Rattle.dslx_meaning.specs.Rules.TypeEnvs.{Judgement, faults_of_all, one_and, reached_of_all, size_of_all, types_of}
use Rattle.dslx_meaning.specs.Rules.AggregateRules.{array_in, element_type, when_all}
use Rattle.dslx_check_rules.specs.Seen.{seen}
use Rattle.dslx_check_rules.specs.Interned.{type_if}
use Rattle.dslx_check_rules.specs.Nodes.Nodes.Lists.{IsList}
use Rattle.dslx_check_rules.specs.Nodes.Nodes.Arrays.{IsElement, count_faults, element_seen}
use Rattle.dslx_check_rules.proofs.Lemmas.Nodes.Lists.{pairs_long}
use Rattle.dslx_check_rules.proofs.nodes.arrays.typed_array_typing.Goals as goal

pub returns : goal.returns
returns c = record {
  typed = λ names later distinct p t xs w elements.
      let part : Option DslxType = element_type (and_then t.ty array_in) in
      let js : List Judgement = map (element_seen part) xs in
      let own : List Fault = count_faults c.args.span t.ty (length xs) c.args.dots in
      let is : type_if names later c.element_type-part.result ≡ part =
      c.element_type-part.ensures.is names later p w.row ∙ ap (λ o. element_type (and_then o array_in)) w.ty in
      let all : IsList c.all_elements-all.result js = subst (λ o. IsList c.all_elements-all.result (map (element_seen o) xs)) is
      (c.all_elements-all.ensures names later xs distinct p (c.element_type-part.ensures.there w.row) elements) in
      let count : length c.args.elements.now ≡ length xs = pairs_long (IsElement names c.args.types.now later) c.args.elements.now xs elements in
      c.settle.ensures.typed names later p (c.when_all-ty.ensures.there c.args.types.now w.row) (when_all (types_of js) t.ty)
      (t.faults ++ faults_of_all js ++ own) (t.reached ++ reached_of_all js) (one_and (size_of_all js))
      (c.when_all-ty.ensures.is names later js all ∙ ap (when_all (types_of js)) w.ty)
      (c.and-faults.ensures (t.faults ++ faults_of_all js) own (c.and-parts.ensures t.faults (faults_of_all js) w.faults all.faults)
      (c.count_faults-own.ensures names later (c.array_size-size.ensures names later p w.row) ∙ (λ i. seen (count_faults c.args.span (w.ty i) (count i) c.args.dots))))
      (c.one_and-nodes.ensures (size_of_all js) all.size);
}
