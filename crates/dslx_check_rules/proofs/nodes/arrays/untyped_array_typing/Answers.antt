use Rattle.std.proofs.Common.{◌≡◌, ◌∙◌, ◌++◌, ◌||◌, ℕ, List, Option, length, map, Some, sym, ap}
use Rattle.base.specs.Lists.Prefix.{IsPrefix}
use Rattle.base.proofs.Lemmas.Lists.Prefixes.{IsPrefix-trans}
use Rattle.xb_span.specs.declared.fault.Fault.{Fault}
use Rattle.dslx_meaning.specs.Lists.{and_then}
use Rattle.dslx_meaning.specs.declared.ty.DslxType.{DslxType}
use Rattle.dslx_meaning.specs.declared.ty.DslxType as ty
use Rattle.dslx_meaning.specs.Rules.TypeEnvs.{Judgement, breaks_if, faults_of_all, one_and, reached_of_all, size_of_all, types_of}
use Rattle.dslx_meaning.specs.Rules.ConstantRules.{is_empty}
use Rattle.dslx_meaning.specs.Rules.AggregateRules.{first_type_of, when_all}
use Rattle.dslx_meaning.specs.Rules.RuleNumbers as rule
use Rattle.dslx_check_rules.specs.Seen.{seen}
use Rattle.dslx_check_rules.specs.Interned.{type_if}
use Rattle.dslx_check_rules.specs.Nodes.Parts.{IsPlaced}
use Rattle.dslx_check_rules.specs.Nodes.Nodes.Lists.{IsList, element_of}
use Rattle.dslx_check_rules.specs.Nodes.Nodes.Arrays.{unlike}
use Rattle.dslx_check_rules.proofs.Lemmas.Nodes.Lists.{pairs_long, types_inside}
use Rattle.dslx_check_rules.proofs.Lemmas.Nodes.Parts.{empty_alike, when_then}
use Rattle.dslx_check_rules.proofs.nodes.arrays.untyped_array_typing.Goals as goal

pub returns-clause-typed : goal.returns-clause-typed
returns-clause-typed c = record {
  typed = λ names later distinct p xs parts.
      let js : List Judgement = map element_of xs in
      let first : Option DslxType = first_type_of (types_of js) in
      let own : List Fault = breaks_if (c.args.dots || is_empty xs) rule.ARRAY_ELEMENT_COUNT c.args.span in
      let q : IsPrefix c.args.types.now later = IsPrefix-trans c.args.types.now c.array_of.new.types later c.in_ok-ty.ensures.grows p in
      let all : IsList c.element_typings-all.result js = c.element_typings-all.ensures names later xs distinct q parts in
      let is : type_if names later c.first_type-first.result ≡ first =
      c.first_type-first.ensures.is names c.args.types.now later xs parts ∙ ap first_type_of (sym (types_inside xs)) in
      let count : length c.args.elements.now ≡ length xs = pairs_long (IsPlaced names c.args.types.now later) c.args.elements.now xs parts in
      c.settle.ensures.typed names later p c.in_ok-ty.ensures.there (when_all (types_of js) (and_then first (λ t. Some (ty.Array t (length xs)))))
      (faults_of_all js ++ unlike first xs ++ own) (reached_of_all js) (one_and (size_of_all js))
      (c.in_ok-ty.ensures.is names later p
      ∙ ap (λ o. and_then o (λ u. Some (ty.Array u (length c.args.elements.now)))) (c.when_all-part.ensures.is names later js all ∙ ap (when_all (types_of js)) is)
      ∙ when_then (types_of js) first (λ u. Some (ty.Array u (length c.args.elements.now)))
      ∙ ap (λ (n : ℕ). when_all (types_of js) (and_then first (λ t. Some (ty.Array t n)))) count)
      (c.and-faults.ensures (faults_of_all js ++ unlike first xs) own (c.and-parts.ensures (faults_of_all js) (unlike first xs) all.faults
      (c.unlike_faults-unlike.ensures names later xs distinct q (c.first_type-first.ensures.there names c.args.types.now later xs parts) parts ∙ ap (λ t. seen (unlike t xs)) is))
      (c.breaks_if-own.ensures ∙ ap (λ b. seen (breaks_if b rule.ARRAY_ELEMENT_COUNT c.args.span))
      (c.either-is_odd.ensures ∙ ap (λ b. c.args.dots || b) (c.is_empty.ensures ∙ empty_alike (IsPlaced names c.args.types.now later) c.args.elements.now xs parts))))
      (c.one_and-size.ensures (size_of_all js) all.size);
}
