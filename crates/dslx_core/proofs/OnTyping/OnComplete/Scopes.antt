-- The text of an item, outside all blocks, as a place where the type environment is well typed.
use Rattle.std.proofs.Common.{List, [], Some, None, refl, sym, subst}
use Rattle.dslx_meaning.specs.Environment.{Env, Given}
use Rattle.dslx_meaning.specs.Lists.{or_else}
use Rattle.dslx_meaning.specs.Values.{type_of_value}
use Rattle.dslx_meaning.specs.Rules.ItemRules.{item_type_env}
use Rattle.dslx_meaning.specs.Rules.TypeEnvs.{GlobalEnv}
use Rattle.dslx_core.specs.Typing.Typed.Complete.{IsComplete}
use Rattle.dslx_core.specs.Typing.Typed.Given.{GivesOf}
use Rattle.dslx_core.specs.Typing.Typed.Numbers.{AreOwn}
use Rattle.dslx_core.specs.Typing.Typed.WellTyped.{IsWellTypedEnv}
use Rattle.dslx_core.proofs.Lemmas.Typing.Typed.{none_some}
use Rattle.dslx_core.specs.Typing.Complete.HasValue.{AreTyped}
use Rattle.std.proofs.Common.{ℕ}

-- what is bound in the text of an item: parametrics alone
abbrev pub item_env : GlobalEnv → List Given → Env
item_env known parametric_args = record { items = known.items; bound = parametric_args }

pub item_typed : (known : GlobalEnv) → IsComplete known → AreTyped known → (owner : List ℕ) (parametric_args : List Given) → AreOwn known.items.type_named parametric_args → IsWellTypedEnv (item_type_env known owner parametric_args) (item_env known parametric_args)
item_typed known complete typed owner parametric_args own = record {
  locals = λ name t e. none_some (Some t) e;
  parametric_args = λ name v e q. record { is = q; gives = subst (GivesOf known.items.type_named (type_of_value v)) (sym q) (own name v q) };
  constants = λ name v e q c. record {
    is = λ i. or_else (q i) (c i);
    gives = subst (GivesOf known.items.type_named (type_of_value v)) (λ i. or_else (sym q i) (sym c i)) (typed.constants name v c);
  };
  members = typed.members;
  kinds = λ name. refl;
  typed = λ name e. none_some None e;
  valued = refl;
  place = record { others = λ name e. refl; hides = λ name c. refl };
  items = refl;
  known = complete;
}

-- outside of functions and procs nothing is bound
pub none_own : (known : GlobalEnv) → AreOwn known.items.type_named []
none_own known name v e = none_some v e
