use Rattle.std.proofs.Common.{◌≡◌, drop}
use Rattle.dslx_core.specs.Networks.Configs.{proc_instance_in}
use Rattle.dslx_config.proofs.configs.child.instance_number.Given as goal

abbrev pub invariant-procs : goal.invariant-procs
invariant-procs l = proc_instance_in l.name l.parametric_args l.i (drop l.i l.procs) ≡ proc_instance_in l.name l.parametric_args 0 l.procs
