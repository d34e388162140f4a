-- What a proc of a checked text does, as a body.
use Rattle.net_core.specs.Behavior.{Behavior}
use Rattle.dslx_interp.specs.Network.Bodies.{behavior_at}
use Rattle.dslx_interp.specs.declared.network.body.DslxBody.{DslxBody}

abbrev pub behavior_of : DslxBody → Behavior
behavior_of body = behavior_at body.design.now body.number body.instance.now
