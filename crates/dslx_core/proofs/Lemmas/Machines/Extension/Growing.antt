-- Tables that begin with others.
use Rattle.std.proofs.Common.{List}
use Rattle.dslx_tree.specs.declared.item.Module.{Module}
use Rattle.dslx_meaning.specs.Items.{meanings_of}
use Rattle.dslx_core.specs.Lowering.Functions.{CoreInstance}
use Rattle.dslx_core.specs.Machines.Machine.Reached.{IsTable}
use Rattle.dslx_core.proofs.Lemmas.Machines.Machine.Instances.{begins_further, begins_itself}
use Rattle.dslx_core.specs.Machines.Extension.Results.{TableExtends}

pub grows_itself : (m : Module) (t : List CoreInstance) → IsTable m (meanings_of m) t → TableExtends m t t
grows_itself m t is = record { is_table = is; begins = begins_itself t }

pub grows_on : (m : Module) (a b c : List CoreInstance) → TableExtends m a b → TableExtends m b c → TableExtends m a c
grows_on m a b c first second = record { is_table = second.is_table; begins = begins_further a b c first.begins second.begins }
