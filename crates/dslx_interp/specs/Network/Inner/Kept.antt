-- What is kept of an activation is right from its beginning on, and stays so.
use Rattle.std.proofs.Common.{◌≡◌, ℕ, ◌≤◌, List, [], ◌∷◌, ◌++◌, drop, sym, subst, arith, append_assoc}
use Rattle.xb_bits.specs.Word.{Word}
use Rattle.xb_value.specs.declared.value.Value.{Value}
use Rattle.net_core.specs.declared.activation.Activation.{Activation}
use Rattle.net_core.specs.Behavior.{next_event}
use Rattle.net_core.specs.Keeps.{IsNothing}
use Rattle.dslx_core.specs.CoreValues.{Bindings, Functions}
use Rattle.dslx_core.specs.Designs.{do_steps, functions_of}
use Rattle.dslx_core.specs.declared.design.Design.{Design}
use Rattle.dslx_core.specs.declared.design.Instance.{Instance}
use Rattle.dslx_core.specs.declared.step.Step.{Step}
use Rattle.dslx_interp.specs.Network.Bodies.{behavior_at}
use Rattle.dslx_interp.specs.Network.Inner.Keeps.{IsNextLater, KeepsAs, KeepsWalk, walk_of}
use Rattle.dslx_interp.specs.Network.Inner.Walking.{event_here}
use Rattle.dslx_interp.specs.declared.network.walk.Walk.{Walk}

pub keeps_begin : (design : Design) (number : ℕ) (i : Instance) (kept : Activation) (s : Value) (got : List Word) (done : ℕ) → IsNothing kept → KeepsWalk design number i kept s got done
keeps_begin design number i kept s got done n =
    subst (λ vs. KeepsAs vs design number i kept s got done) (sym n.values) (n.steps, n.sites, n.words, n.sent)

pub next_stays : (design : Design) (number : ℕ) (i : Instance) (calls : Functions) (s : Value) (got more : List Word) (done later : ℕ) (walk : Walk) (left : List Step) → done ≤ later
    → IsNextLater design number i calls s got done walk left → IsNextLater design number i calls s (got ++ more) later walk left
next_stays design number i calls s got more done later walk left h next further last l =
    subst (λ all. event_here (do_steps calls left i.next) all last walk ≡ next_event (behavior_at design number i) s all last)
    (sym (append_assoc got more further)) (next (more ++ further) last (omega (arith, h, l)))

stays_as : (vs : Bindings) (design : Design) (number : ℕ) (i : Instance) (kept : Activation) (s : Value) (got more : List Word) (done later : ℕ) → done ≤ later
    → KeepsAs vs design number i kept s got done → KeepsAs vs design number i kept s (got ++ more) later
stays_as [] design number i kept s got more done later h k = k
stays_as (v ∷ vs) design number i kept s got more done later h k = record { next = next_stays design number i (functions_of design) s got more done later (walk_of kept) (drop kept.steps i.steps) h k.next; sent = k.sent }

pub keeps_stay : (design : Design) (number : ℕ) (i : Instance) (kept : Activation) (s : Value) (got more : List Word) (done later : ℕ) → done ≤ later
    → KeepsWalk design number i kept s got done → KeepsWalk design number i kept s (got ++ more) later
keeps_stay design number i kept s got more done later h k = stays_as kept.values.items design number i kept s got more done later h k
