use Rattle.dslx_core.proofs.OnMachines.OnAlike.OfTables.{found_one_type, table_made}
use Rattle.dslx_core.proofs.machines.alike.instances_have_one_type.Goals as goal

pub returns : goal.returns
returns c = λ m items first second is is' name parametric_args. found_one_type m items first second (table_made m items first is) (table_made m items second is') (record { name = name; parametric_args = parametric_args })
