use Rattle.dslx_const_tasks.specs.Plain.{plain_found, shown}
use Rattle.dslx_scope_names.proofs.OnNames.Uses.{struct_found}
use Rattle.dslx_scope_names.proofs.names.item.struct_named.Goals as goal

pub returns : goal.returns
returns c =
    struct_found c.args.name.now c.args.text.now c.new.result (shown c.machine_in-machine.result) (shown c.use_struct.new.machine) (plain_found c.in_ok-found.found) c.type_found.result
    c.new.ensures c.machine_in-machine.ensures c.in_ok-use_struct.ensures c.in_ok-found.ensures c.type_found.ensures
