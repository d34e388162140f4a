use Rattle.std.proofs.Common.{◌≡◌, Some}
use Rattle.dslx_meaning.specs.Lists.{and_then}
use Rattle.dslx_core.specs.CoreValues.{core_value}
use Rattle.dslx_core.specs.Designs.{functions_from, no_function}
use Rattle.dslx_interp.specs.Eval.Inner.Machine.{shown}
use Rattle.dslx_interp.proofs.OnEval.Keeps.{answer_of}
use Rattle.dslx_interp.proofs.eval.stepping.found_in_steps.Given as goal

-- what comes of the machine is the value, with what was bound at first
abbrev pub invariant-steps : goal.invariant-steps
invariant-steps l = answer_of (shown l.machine) ≡ and_then (core_value l.expr (functions_from 0 l.functions no_function) l.fn.bound.items) (λ v. Some (v, l.fn.bound.items))
