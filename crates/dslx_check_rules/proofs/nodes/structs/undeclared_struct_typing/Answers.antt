use Rattle.std.proofs.Common.{◌++◌, ◌∷◌, [], List, None, map, refl}
use Rattle.dslx_meaning.specs.Rules.TypeEnvs.{Judgement, breaks, faults_of_all, one_and, plus_size, reached_of_all, size_of_all}
use Rattle.dslx_meaning.specs.Rules.RuleNumbers as rule
use Rattle.dslx_check_rules.specs.Nodes.Parts.{IsPart}
use Rattle.dslx_check_rules.specs.Nodes.Nodes.Lists.{IsList}
use Rattle.dslx_check_rules.specs.Nodes.Nodes.Structs.{field_of, others_of}
use Rattle.dslx_check_rules.proofs.nodes.structs.undeclared_struct_typing.Goals as goal

pub returns : goal.returns
returns c = record {
  typed = λ names later distinct p xs o fields others.
      let js : List Judgement = map field_of xs in
      let rest : Judgement = others_of None o in
      let all : IsList c.all_fields-all.result js = c.all_fields-all.ensures names later xs distinct p fields in
      let given : IsPart names c.args.types.now later c.others_typing-others.result rest = c.others_typing-others.ensures names later o distinct p tt others in
      c.settle.ensures.typed names later p tt None (breaks rule.NAME_IS_DECLARED c.args.name ∷ faults_of_all js ++ rest.faults) (reached_of_all js ++ rest.reached)
      (one_and (plus_size (size_of_all js) rest.size)) refl
      (c.and-faults.ensures (breaks rule.NAME_IS_DECLARED c.args.name ∷ []) (faults_of_all js ++ rest.faults) c.breaks-own.ensures
      (c.and-values.ensures (faults_of_all js) rest.faults all.faults given.faults))
      (c.one_and-size.ensures (plus_size (size_of_all js) rest.size) (c.plus_size.ensures (size_of_all js) rest.size all.size given.size));
}
