use Rattle.std.proofs.Common.{◌≡◌}
use Rattle.dslx_meaning.proofs.Lemmas.Names.ConstMachine.{comes_to}
use Rattle.dslx_const_tasks.specs.Plain.{shown}
use Rattle.dslx_const.proofs.found.run.Given as goal

-- what comes of the machine is what it began with
abbrev pub invariant-steps : goal.invariant-steps
invariant-steps l = comes_to (shown l.machine) ≡ comes_to (shown l.initial.machine)
