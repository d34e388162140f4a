use Rattle.std.proofs.Common.{◌∙◌, List, map, Some, sym, ap}
use Rattle.base.specs.Lists.Prefix.{IsPrefix}
use Rattle.base.proofs.Lemmas.Lists.Prefixes.{IsPrefix-trans}
use Rattle.dslx_meaning.specs.Lists.{all_some, and_then}
use Rattle.dslx_meaning.specs.declared.ty.DslxType as ty
use Rattle.dslx_meaning.specs.Rules.TypeEnvs.{Judgement, faults_of_all, one_and, reached_of_all, size_of_all, types_of}
use Rattle.dslx_check_rules.specs.Nodes.Nodes.Lists.{IsList, element_of}
use Rattle.dslx_check_rules.proofs.Lemmas.Nodes.Lists.{types_inside}
use Rattle.dslx_check_rules.proofs.nodes.arrays.tuple_typing.Goals as goal

pub returns-clause-typed : goal.returns-clause-typed
returns-clause-typed c = record {
  typed = λ names later distinct p xs parts.
      let js : List Judgement = map element_of xs in
      let q : IsPrefix c.args.types.now later = IsPrefix-trans c.args.types.now c.tuple_of.new.types later c.in_ok-ty.ensures.grows p in
      let all : IsList c.element_typings-all.result js = c.element_typings-all.ensures names later xs distinct q parts in
      c.settle.ensures.typed names later p c.in_ok-ty.ensures.there (and_then (all_some (types_of js)) (λ ts. Some (ty.Tuple ts))) (faults_of_all js) (reached_of_all js) (one_and (size_of_all js))
      (c.in_ok-ty.ensures.is names later xs p parts ∙ ap (λ os. and_then (all_some os) (λ ts. Some (ty.Tuple ts))) (sym (types_inside xs)))
      all.faults (c.one_and-size.ensures (size_of_all js) all.size);
}
