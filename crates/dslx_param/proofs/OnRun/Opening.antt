-- An instance that is opened.
use Rattle.std.proofs.Common.{◌≡◌, Bool, true, false, length, nat_lt, Option, None, refl}
use Rattle.dslx_meaning.specs.Lists.{where_true}
use Rattle.dslx_core.specs.Machines.Machine.Tasks.{InstanceMachine}
use Rattle.dslx_param.specs.Run.Inner.Opened.{opened_within}

by_test : (b : Bool) → None ≡ where_true {A = InstanceMachine} b None
by_test true = refl
by_test false = refl

-- there is none
pub none_opened : (m : InstanceMachine) → None ≡ opened_within None m
none_opened m = by_test (nat_lt (length m.opened) m.limit)
