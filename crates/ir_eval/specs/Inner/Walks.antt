-- Where a walk over the nodes of a proc stands.
use Rattle.std.specs.Prelude.{◌≡◌, ◌≤◌, ℕ, List, take, Option, Some, None}
use Rattle.xb_bits.specs.Word.{Word}
use Rattle.xb_value.specs.declared.value.Value.{Value}
use Rattle.net_core.specs.declared.event.Event.{Event}
use Rattle.ir_tree.specs.declared.node.Node.{Node}
use Rattle.ir_tree.specs.declared.package.Channel.{Channel}
use Rattle.ir_tree.specs.declared.package.Proc.{Proc}
use Rattle.ir_eval.specs.Inner.Stands.{StandsBehind}
use Rattle.ir_eval.specs.declared.walk.Walk.{Walk}

-- the nodes that are left stand behind those with these values, now and later in the activation: with whatever words, if those
-- that were taken are the same
abbrev pub StandsLater : List Channel → Proc → Value → List Word → ℕ → List Value → ℕ → ℕ → List Node → Type 0
StandsLater channels proc s got done values site taken left =
    (all : List Word) (later : ℕ) → done ≤ later → take taken all ≡ take taken got → StandsBehind channels proc s all later values site taken left

-- so it is with the nodes behind those that a walk has evaluated
abbrev pub StandsFor : List Channel → Proc → Value → List Word → ℕ → Walk → List Node → Type 0
StandsFor channels proc s got done walk left = StandsLater channels proc s got done walk.values.items walk.site walk.taken left

-- a walk that comes to an event waits there
abbrev pub StaysIf : Walk → Walk → Option Event → Type 0
StaysIf old new None = Unit {0}
StaysIf old new (Some event) = new ≡ old
