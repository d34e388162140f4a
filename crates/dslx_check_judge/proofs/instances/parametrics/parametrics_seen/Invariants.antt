use Rattle.std.proofs.Common.{◌≡◌, ℕ, [], take}
use Rattle.dslx_check_facts.specs.Walks.{shown}
use Rattle.dslx_check_declarations.specs.Names.{AreBefore}
use Rattle.dslx_check_declarations.specs.Scopes.{outside}
use Rattle.dslx_check_declarations.proofs.Lemmas.Listed.{names_behind}
use Rattle.dslx_check_judge.specs.Instances.Inner.Parametrics.{ParametricsWalked}
use Rattle.dslx_check_judge.proofs.OnInstances.OnParametrics.{parametric_name}
use Rattle.dslx_check_judge.proofs.instances.parametrics.parametrics_seen.Given as goal

abbrev pub invariant-parametrics : goal.invariant-parametrics
invariant-parametrics l = record {
  walked : (item : ℕ) → l.fn.s ≡ outside item → ParametricsWalked l.f item l.s (shown l.fn.w) (shown l.w) l.faults (take l.i l.parametrics) l.values;
  names : AreBefore l.before (names_behind parametric_name [] (take l.i l.parametrics));
}
