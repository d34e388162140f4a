use Rattle.std.proofs.Common.{◌≡◌, ◌∙◌, ◌++◌, List, Option, ap}
use Rattle.base.specs.Lists.Prefix.{IsPrefix}
use Rattle.base.proofs.Lemmas.Lists.Prefixes.{IsPrefix-trans}
use Rattle.xb_span.specs.declared.fault.Fault.{Fault}
use Rattle.dslx_meaning.specs.Lists.{and_then}
use Rattle.dslx_meaning.specs.declared.ty.DslxType.{DslxType}
use Rattle.dslx_meaning.specs.Rules.TypeEnvs.{Judgement, faults_of_all, one_and, plus_size, reached_of_all, size_of_all, types_of}
use Rattle.dslx_meaning.specs.Rules.AggregateRules.{when_all}
use Rattle.dslx_meaning.specs.Rules.CallRules.{site_faults, word_of}
use Rattle.dslx_check_rules.specs.Seen.{seen}
use Rattle.dslx_check_rules.specs.Interned.{type_if}
use Rattle.dslx_check_rules.specs.Nodes.Parts.{judgements}
use Rattle.dslx_check_rules.specs.Nodes.Nodes.Lists.{IsList}
use Rattle.dslx_check_rules.specs.Control.Effects.{given_type, other_faults}
use Rattle.dslx_check_rules.proofs.Lemmas.Nodes.Settled.{row_behind, type_behind}
use Rattle.dslx_check_rules.proofs.control.effects.effect_typing.Goals as goal

pub returns-clause-typed : goal.returns-clause-typed
returns-clause-typed c = record {
  typed = λ names later distinct p context t k xs token channel others.
      let js : List Judgement = judgements xs in
      let q : IsPrefix c.args.types.now later = IsPrefix-trans c.args.types.now c.given_type.new.types later c.in_ok-given.ensures.grows p in
      let more : List Fault = other_faults (word_of k) xs in
      let site : List Fault = site_faults c.args.span context c.args.direction k in
      let given : Option DslxType = given_type c.args.direction (word_of k) in
      let all : IsList c.all_typings-all.result js = c.all_typings-all.ensures names c.args.types.now later xs others in
      let whole : type_if names later c.when_all-whole.result ≡ when_all (types_of js) given =
      c.when_all-whole.ensures.is names later js all ∙ ap (when_all (types_of js)) (c.in_ok-given.ensures.is names later p ∙ ap (given_type c.args.direction) channel.word) in
      let row = c.when_all-whole.ensures.there c.given_type.new.types c.in_ok-given.ensures.there in
      c.settle.ensures.typed names later p (row_behind c.given_type.new.types c.args.token.ty c.when_all-whole.result c.if_there-ty.result c.if_there-ty.ensures row)
      (and_then t.ty (λ u. when_all (types_of js) given)) (t.faults ++ k.judgement.faults ++ faults_of_all js ++ more ++ site) (t.reached ++ k.judgement.reached ++ reached_of_all js)
      (one_and (plus_size t.size (plus_size k.judgement.size (size_of_all js))))
      (type_behind names later c.args.token.ty c.when_all-whole.result c.if_there-ty.result t.ty (when_all (types_of js) given) c.if_there-ty.ensures token.ty whole)
      (c.and-faults.ensures (t.faults ++ k.judgement.faults ++ faults_of_all js ++ more) site (c.and-2.ensures (t.faults ++ k.judgement.faults ++ faults_of_all js) more
      (c.and.ensures (t.faults ++ k.judgement.faults) (faults_of_all js) (c.and-parts.ensures t.faults k.judgement.faults token.faults channel.part.faults) all.faults)
      (c.other_faults-more.ensures names later xs distinct q channel.row others ∙ ap (λ w. seen (other_faults w xs)) channel.word))
      (c.site_faults-site.ensures names c.args.types.now later context k channel))
      (c.one_and-size.ensures (plus_size t.size (plus_size k.judgement.size (size_of_all js))) (c.plus_size.ensures t.size (plus_size k.judgement.size (size_of_all js)) token.size
      (c.plus_size-rest.ensures k.judgement.size (size_of_all js) channel.part.size all.size)));
}
