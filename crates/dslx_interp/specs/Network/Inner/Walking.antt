-- What one step of a walk through an activation does.
use Rattle.std.specs.Prelude.{ℕ, zero, suc, ◌≡◌, ◌≤◌, ◌-◌, List, [], ◌∷◌, ◌++◌, drop, Bool, true, false, Option, Some, None, option_map, unwrap_or}
use Rattle.xb_bits.specs.Word.{Word, IsWord}
use Rattle.xb_value.specs.declared.value.Value.{Value}
use Rattle.xb_value.specs.Flat.{flat_of}
use Rattle.net_core.specs.Behavior.{Turn, Skip, Receive, Give}
use Rattle.net_core.specs.declared.activation.Activation.{Activation}
use Rattle.net_core.specs.Keeps.{IsNothing}
use Rattle.net_core.specs.declared.event.Event.{Event}
use Rattle.net_core.specs.declared.event.Event.TheVariants.{Recv, Send, End}
use Rattle.dslx_meaning.specs.Lists.{and_then}
use Rattle.dslx_core.specs.CoreValues.{Bindings, Functions, core_value, taken_apart}
use Rattle.dslx_core.specs.Designs.{Behind, CoreActivity, apart_then, send_on, token, turn_before, with_token}
use Rattle.dslx_core.specs.declared.expr.CoreExpr.{CoreExpr}
use Rattle.dslx_core.specs.declared.expr.Shape.{Shape}
use Rattle.dslx_core.specs.declared.step.Step.{Step}
use Rattle.dslx_core.specs.declared.step.Step.TheVariants as form
use Rattle.dslx_interp.specs.declared.network.walk.Walk.{Walk}

-- the event of a site that isn't past: that of its turn, or what comes later where it is off
abbrev pub turn_event : Turn → ℕ → Event → Event
turn_event Skip i later = later
turn_event Receive i later = Recv i
turn_event (Give w) i later = Send i w

-- the first event of these turns behind the first k of them; the first turn is of the site with index i
unfoldable pub first_event : List Turn → Option Value → ℕ → ℕ → Event
first_event [] last k i = End (unwrap_or last token)
first_event (t ∷ ts) last zero i = turn_event t i (first_event ts last zero (suc i))
first_event (t ∷ ts) last (suc k) i = first_event ts last k (suc i)

abbrev pub event_behind : CoreActivity → ℕ → ℕ → Event
event_behind a k i = first_event a.turns a.last k i

-- the event of the rest of an activation from where a walk stands
abbrev pub event_here : Behind → List Word → ℕ → Walk → Event
event_here rest got done walk = event_behind (rest walk.bound.items (drop walk.received got)) (done - walk.site) walk.site

-- what is sent is a word
abbrev pub SendsAWord : Event → Type 0
SendsAWord (Send i w) = IsWord w
SendsAWord (Recv i) = Unit {0}
SendsAWord (End s) = Unit {0}

-- the parts of a value are bound, or the activation ends
abbrev pub BindsOrEnds : Shape → Value → Walk → Walk → Option Event → Type 0
BindsOrEnds shape value old new None = (taken_apart shape value old.bound.items ≡ Some new.bound.items) × (new.received ≡ old.received) × (new.site ≡ old.site)
BindsOrEnds shape value old new (Some event) = (taken_apart shape value old.bound.items ≡ None) × (event ≡ End token)

-- a walk stands where it stood, over what was bound
pub record StandsStill (old new : Walk) : Type 0 where
  pub bound : new.bound.items ≡ old.bound.items
  pub received : new.received ≡ old.received
  pub site : new.site ≡ old.site

-- so it is where something was found
abbrev pub StandsStillIf : {A : Type 0} → Option A → Walk → Walk → Type 0
StandsStillIf None old new = Unit {0}
StandsStillIf (Some a) old new = StandsStill old new

-- a walk goes on behind what is put before the rest, or the event has come already
abbrev pub Goes : (Behind → Behind) → List Word → ℕ → Walk → Walk → Option Event → Type 0
Goes step got done old new None = (rest : Behind) → event_here (step rest) got done old ≡ event_here rest got done new
Goes step got done old new (Some event) = (rest : Behind) → event_here (step rest) got done old ≡ event

-- where it goes on, so it does later in the activation, with more words and more sites past
abbrev pub GoesLater : (Behind → Behind) → List Word → ℕ → Walk → Walk → Option Event → Type 0
GoesLater step got done old new None = (more : List Word) (later : ℕ) → done ≤ later → Goes step (got ++ more) later old new None
GoesLater step got done old new (Some event) = Goes step got done old new (Some event)

-- a walk that comes to the event of a site waits there
abbrev pub WaitsIf : Walk → Walk → Option Event → Type 0
WaitsIf old new None = Unit {0}
WaitsIf old new (Some (Recv i)) = StandsStill old new
WaitsIf old new (Some (Send i w)) = StandsStill old new
WaitsIf old new (Some (End s)) = Unit {0}

-- the event is that of a site
abbrev pub is_at_site : Event → Bool
is_at_site (Recv i) = true
is_at_site (Send i w) = true
is_at_site (End s) = false

-- the word is that of the value, if it is known
abbrev pub IsWordFor : Option Value → Option Word → Type 0
IsWordFor value None = Unit {0}
IsWordFor value (Some w) = option_map flat_of value ≡ Some w

-- behind a send no word is known
abbrev pub IsWordAfter : Option Value → Option Word → Option Event → Type 0
IsWordAfter value sent None = sent ≡ None
IsWordAfter value sent (Some event) = IsWordFor value sent

-- there is a value, or not; where there is, the walk stands where it stood
abbrev pub HasWordIf : Option Value → Walk → Walk → Bool → Type 0
HasWordIf value old new true = ((v : Value) × (value ≡ Some v)) × StandsStill old new
HasWordIf value old new false = value ≡ None

-- the word that is known is the one that the step sends
abbrev pub IsSentAt : Functions → Step → Bindings → Option Word → Type 0
IsSentAt calls (form.Bind e shape) bound sent = sent ≡ None
IsSentAt calls (form.Receive r) bound sent = sent ≡ None
IsSentAt calls (form.Send s) bound sent = IsWordFor (core_value s.word calls bound) sent

-- the first of these steps sends it
abbrev pub IsSentFirst : Functions → List Step → Bindings → Option Word → Type 0
IsSentFirst calls [] bound sent = sent ≡ None
IsSentFirst calls (s ∷ ss) bound sent = IsSentAt calls s bound sent

-- behind a step no word is known
abbrev pub IsSentAfter : Functions → Step → Bindings → Option Word → Option Event → Type 0
IsSentAfter calls s bound sent None = sent ≡ None
IsSentAfter calls s bound sent (Some event) = IsSentAt calls s bound sent

-- what is bound where a walk goes on: the state, where nothing is kept
abbrev pub bound_from : Bindings → Value → Bindings
bound_from [] s = s ∷ []
bound_from (v ∷ vs) s = v ∷ vs

-- a walk before these steps, and the word of the first one, are kept
pub record HasKept (walk : Walk) (steps : ℕ) (sent : Option Word) (kept : Activation) : Type 0 where
  pub values : kept.values.items ≡ walk.bound.items
  pub steps_are : kept.steps ≡ steps
  pub sites : kept.sites ≡ walk.site
  pub words : kept.words ≡ walk.received
  pub sent_is : kept.sent ≡ sent

-- unless nothing is bound
abbrev pub KeepsIf : Bindings → Walk → ℕ → Option Word → Activation → Type 0
KeepsIf [] walk steps sent kept = IsNothing kept
KeepsIf (v ∷ vs) walk steps sent kept = HasKept walk steps sent kept

-- the forms of a step: a value is bound, a receive that is off, a send, one that is off
abbrev pub bound_then : Functions → CoreExpr → Shape → Behind → Behind
bound_then calls e shape rest bound words = apart_then shape rest bound (core_value e calls bound) words

abbrev pub receive_off : Functions → CoreExpr → Shape → Behind → Behind
receive_off calls e shape rest bound words = turn_before Skip (apart_then shape rest bound (and_then (core_value e calls bound) (λ v. Some (with_token v))) words)

abbrev pub give_then : Functions → CoreExpr → Shape → Behind → Behind
give_then calls e shape rest bound words = send_on shape rest bound (core_value e calls bound) words

abbrev pub send_off : Shape → Behind → Behind
send_off shape rest bound words = turn_before Skip (apart_then shape rest bound (Some token) words)
