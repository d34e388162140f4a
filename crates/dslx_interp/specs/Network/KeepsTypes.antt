-- That a behavior keeps types is a fact: it has one proof at most, so it may be a ghost field.
use denote.Struct.Props as logic
use Rattle.net_core.specs.declared.net.Site.{Site}
use Rattle.net_core.specs.Behavior.{Behavior, IsInDirection, KeepsTypes, Turn, Skip, Receive, Give, TurnFits}

pub IsInDirection-prop : (site : Site) (t : Turn) → IsProp (IsInDirection site t)
IsInDirection-prop site Skip = Prim.hlevel logic.props
IsInDirection-prop site Receive = Prim.hlevel logic.props
IsInDirection-prop site (Give w) = Prim.hlevel logic.props

pub TurnFits-prop : (b : Behavior) (site : Site) (t : Turn) → IsProp (TurnFits b site t)
TurnFits-prop b site Skip = Prim.hlevel logic.props
TurnFits-prop b site Receive = Prim.hlevel logic.props
TurnFits-prop b site (Give w) = Prim.hlevel logic.props

pub KeepsTypes-prop : (b : Behavior) → IsProp (KeepsTypes b)
KeepsTypes-prop b = Prim.hlevel (logic.props, IsInDirection-prop, TurnFits-prop)
