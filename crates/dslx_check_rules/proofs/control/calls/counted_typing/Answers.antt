use Rattle.std.proofs.Common.{◌∙◌, ◌++◌, ap}
use Rattle.base.specs.Lists.Prefix.{IsPrefix}
use Rattle.base.proofs.Lemmas.Lists.Prefixes.{IsPrefix-trans}
use Rattle.dslx_meaning.specs.Lists.{and_then}
use Rattle.dslx_meaning.specs.Rules.TypeEnvs.{one_and}
use Rattle.dslx_meaning.specs.Rules.OperatorRules.{is_bits, unless_type}
use Rattle.dslx_meaning.specs.Rules.RuleNumbers as rule
use Rattle.dslx_check_rules.specs.Seen.{seen}
use Rattle.dslx_check_rules.specs.Control.Calls.{counted_type}
use Rattle.dslx_check_rules.proofs.Lemmas.Nodes.Settled.{row_behind, type_behind}
use Rattle.dslx_check_rules.proofs.control.calls.counted_typing.Goals as goal

pub returns-clause-typed : goal.returns-clause-typed
returns-clause-typed c = record {
  typed = λ names later distinct p x a.
      let q : IsPrefix c.args.types.now later = IsPrefix-trans c.args.types.now c.counted_type.new.types later c.in_ok-given.ensures.grows p in
      let own = unless_type is_bits rule.BUILTIN_OPERANDS c.args.operand.span x.ty in
      c.settle.ensures.typed names later p (row_behind c.counted_type.new.types c.args.operand.typing.ty c.in_ok-given.given c.if_there-ty.result c.if_there-ty.ensures (c.in_ok-given.ensures.there a.row))
      (and_then x.ty (λ t. counted_type c.args.gives_bool x.ty)) (x.faults ++ own) x.reached (one_and x.size)
      (type_behind names later c.args.operand.typing.ty c.in_ok-given.given c.if_there-ty.result x.ty (counted_type c.args.gives_bool x.ty) c.if_there-ty.ensures a.ty
      (c.in_ok-given.ensures.is names later p ∙ ap (counted_type c.args.gives_bool) a.ty))
      (c.and-faults.ensures x.faults own a.faults (c.unless_bits-own.ensures names later q a.row ∙ ap (λ t. seen (unless_type is_bits rule.BUILTIN_OPERANDS c.args.operand.span t)) a.ty))
      (c.one_and-size.ensures x.size a.size);
}
