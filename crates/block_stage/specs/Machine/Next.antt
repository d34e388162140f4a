-- What an activation in a pipeline has still to do.
use Rattle.std.specs.Prelude.{◌≡◌, ◌≤◌, ◌<◌, ℕ, false, length, None}
use Rattle.xb_value.specs.declared.value.Value.{Value}
use Rattle.net_core.specs.declared.event.Event.{Event}
use Rattle.net_core.specs.declared.event.Event.TheVariants.{Recv, Send}
use Rattle.net_core.specs.Behavior.{Behavior, Turn, Skip, Receive, Give}
use Rattle.block_stage.specs.Machine.Cycle.{Ports, Walk}

-- ports at which there is no word and no room: a walk over these goes past what is off or done alone, and so says where a stage's activation
-- stands
abbrev pub closed_ports : Ports
closed_ports = record { valid_word = λ c. None; room = λ c. false }

-- the event that a turn at a site is
abbrev pub IsEventOf : Turn → ℕ → Event → Type 0
IsEventOf Skip i event = ⊥
IsEventOf Receive i event = event ≡ Recv i
IsEventOf (Give w) i event = event ≡ Send i w

-- an activation that began in this state, and whose walk over closed ports is this, has no event left
abbrev pub IsSpent : Behavior → Value → Walk → Type 0
IsSpent b s walk = (i : ℕ) → walk.place ≤ i → i < length b.sites → b.turn s walk.got i ≡ Skip

-- or this one next, at the site with an index
pub record IsNextEvent (b : Behavior) (s : Value) (walk : Walk) (i : ℕ) (event : Event) : Type 0 where
  pub from : walk.place ≤ i
  pub within : i < length b.sites
  pub off : (k : ℕ) → walk.place ≤ k → k < i → b.turn s walk.got k ≡ Skip
  pub on : IsEventOf (b.turn s walk.got i) i event
