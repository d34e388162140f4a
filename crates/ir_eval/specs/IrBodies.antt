-- What a proc of a package does, as a body.
use Rattle.net_core.specs.Behavior.{Behavior}
use Rattle.ir_tree.specs.Activations.{activation}
use Rattle.ir_eval.specs.declared.body.IrBody.{IrBody}

abbrev pub behavior_of : IrBody → Behavior
behavior_of body = activation body.ir.now.channels body.proc.now
