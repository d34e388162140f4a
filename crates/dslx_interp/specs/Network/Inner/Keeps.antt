-- What is kept of an activation of a proc.
use Rattle.std.specs.Prelude.{ℕ, ◌≡◌, ◌≤◌, List, [], ◌∷◌, ◌++◌, drop, None}
use Rattle.xb_bits.specs.Word.{Word}
use Rattle.xb_value.specs.declared.value.Value.{Value}
use Rattle.net_core.specs.declared.activation.Activation.{Activation}
use Rattle.net_core.specs.Behavior.{next_event}
use Rattle.dslx_core.specs.CoreValues.{Bindings, Functions}
use Rattle.dslx_core.specs.Designs.{do_steps, functions_of}
use Rattle.dslx_core.specs.declared.design.Design.{Design}
use Rattle.dslx_core.specs.declared.design.Instance.{Instance}
use Rattle.dslx_core.specs.declared.step.Step.{Step}
use Rattle.dslx_interp.specs.declared.network.walk.Walk.{Walk}
use Rattle.dslx_interp.specs.Network.Bodies.{behavior_at}
use Rattle.dslx_interp.specs.Network.Inner.Walking.{IsSentFirst, event_here}

-- the event of the steps that are left is the proc's next one, now and later in the activation
abbrev pub IsNextLater : Design → ℕ → Instance → Functions → Value → List Word → ℕ → Walk → List Step → Type 0
IsNextLater design number i calls s got done walk left =
    (more : List Word) (later : ℕ) → done ≤ later
    → event_here (do_steps calls left i.next) (got ++ more) later walk ≡ next_event (behavior_at design number i) s (got ++ more) later

-- the walk that is kept
abbrev pub walk_of : Activation → Walk
walk_of kept = record { bound = kept.values; received = kept.words; site = kept.sites }

pub record KeepsSteps (design : Design) (number : ℕ) (i : Instance) (kept : Activation) (s : Value) (got : List Word) (done : ℕ) : Type 0 where
  pub next : IsNextLater design number i (functions_of design) s got done (walk_of kept) (drop kept.steps i.steps)
  pub sent : IsSentFirst (functions_of design) (drop kept.steps i.steps) kept.values.items kept.sent

-- what is bound behind the first steps; where nothing is, nothing is worked out
abbrev pub KeepsAs : Bindings → Design → ℕ → Instance → Activation → Value → List Word → ℕ → Type 0
KeepsAs [] design number i kept s got done = (kept.steps ≡ 0) × (kept.sites ≡ 0) × (kept.words ≡ 0) × (kept.sent ≡ None)
KeepsAs (v ∷ vs) design number i kept s got done = KeepsSteps design number i kept s got done

abbrev pub KeepsWalk : Design → ℕ → Instance → Activation → Value → List Word → ℕ → Type 0
KeepsWalk design number i kept s got done = KeepsAs kept.values.items design number i kept s got done
