use Rattle.std.proofs.Common.{refl}
use Rattle.dslx_meaning.specs.Rules.AggregateRules.{wanted_faults}
use Rattle.dslx_check_rules.specs.Interned.{type_if}
use Rattle.dslx_check_facts.specs.Known.{item_names}
use Rattle.std.proofs.lemmas.Result.{IfOk-weaker}
use Rattle.dslx_check_uses.proofs.parametrics.given_value.Goals as goal

pub returns : goal.returns
returns c =
    let names = item_names c.args.f.now in
    IfOk-weaker c.of_type.result _ _ (λ r g. record {
      value = g;
      faults = λ later fs distinct p h own e. c.and-seen.ensures fs (wanted_faults c.args.given.now.span (type_if names later c.args.ty) (type_if names later c.args.given.now.constant.typing.ty)) e (c.wanted_faults-own.ensures names later distinct p h own);
      rest = refl;
    }) c.of_type.ensures
