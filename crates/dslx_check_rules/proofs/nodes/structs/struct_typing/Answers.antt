use Rattle.std.proofs.Common.{◌∙◌, ◌++◌, ◌∷◌, List, Option, map, sym, ap, subst}
use Rattle.xb_span.specs.declared.fault.Fault.{Fault}
use Rattle.dslx_meaning.specs.declared.ty.DslxType.{DslxType}
use Rattle.dslx_meaning.specs.Rules.TypeEnvs.{Judgement, breaks_if, faults_of_all, one_and, plus_size, reached_of_all, size_of_all, types_of}
use Rattle.dslx_meaning.specs.Rules.AggregateRules.{when_all}
use Rattle.dslx_meaning.specs.Rules.RuleNumbers as rule
use Rattle.dslx_check_rules.specs.Nodes.Parts.{IsPart}
use Rattle.dslx_check_rules.specs.Nodes.Nodes.Lists.{IsList}
use Rattle.dslx_check_rules.specs.Nodes.Nodes.Structs.{field_of, others_of}
use Rattle.dslx_check_rules.proofs.Lemmas.Nodes.Settled.{row_behind, type_behind}
use Rattle.dslx_check_rules.proofs.Lemmas.Nodes.Lists.{when_first}
use Rattle.dslx_check_rules.proofs.nodes.structs.struct_typing.Goals as goal

pub returns : goal.returns
returns c = record {
  typed = λ names later distinct p row t us es xs o is unknown uneven fields others.
      let js : List Judgement = map field_of xs in
      let rest : Judgement = others_of t o in
      let cyclic : List Fault = breaks_if c.args.parts.now.is_cyclic rule.NO_ITEM_REACHES_ITSELF c.args.parts.now.name in
      let all : IsList c.all_fields-all.result js = c.all_fields-all.ensures names later xs distinct p fields in
      let given : IsPart names c.args.types.now later c.others_typing-others.result rest =
      subst (λ (u : Option DslxType). IsPart names c.args.types.now later c.others_typing-others.result (others_of u o)) is (c.others_typing-others.ensures names later o distinct p row others) in
      let whole = c.when_all-whole.ensures.is names later js all ∙ ap (when_all (types_of js)) is in
      c.settle.ensures.typed names later p
      (row_behind c.args.types.now c.others_typing-others.result.ty c.when_all-whole.result c.if_there-ty.result c.if_there-ty.ensures (c.when_all-whole.ensures.there c.args.types.now row))
      (when_all (rest.ty ∷ types_of js) t) (cyclic ++ faults_of_all js ++ rest.faults ++ us ++ es) (reached_of_all js ++ rest.reached) (one_and (plus_size (size_of_all js) rest.size))
      (type_behind names later c.others_typing-others.result.ty c.when_all-whole.result c.if_there-ty.result rest.ty (when_all (types_of js) t) c.if_there-ty.ensures given.ty whole
      ∙ sym (when_first rest.ty (types_of js) t))
      (c.and-faults.ensures (cyclic ++ faults_of_all js ++ rest.faults ++ us) es (c.and-2.ensures (cyclic ++ faults_of_all js ++ rest.faults) us
      (c.and-values.ensures (cyclic ++ faults_of_all js) rest.faults (c.and.ensures cyclic (faults_of_all js) c.breaks_if-cyclic.ensures all.faults) given.faults) unknown) uneven)
      (c.one_and-size.ensures (plus_size (size_of_all js) rest.size) (c.plus_size.ensures (size_of_all js) rest.size all.size given.size));
}
