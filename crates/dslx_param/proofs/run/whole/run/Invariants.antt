use Rattle.dslx_instance.specs.Tasks.Shown.{machine_shown}
use Rattle.dslx_param.proofs.OnRun.Further.{Reaches}
use Rattle.dslx_param.proofs.run.whole.run.Given as goal

-- it stands where some steps lead
abbrev pub invariant-steps : goal.invariant-steps
invariant-steps l = Reaches (machine_shown l.fn.machine) (machine_shown l.machine)
