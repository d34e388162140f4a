-- The event of an activation's turns is the next event of the proc.
use Rattle.std.proofs.Common.{◌≡◌, ℕ, zero, suc, ◌+◌, ◌≤◌, List, [], ◌∷◌, length, drop, Bool, true, false, Option, Some, None, refl, sym, ap, ◌∙◌, arith}
use Rattle.std.specs.Prelude.{slice_get, unwrap_or}
use Rattle.xb_bits.specs.Word.{Word}
use Rattle.xb_value.specs.declared.ty.Ty.{Ty}
use Rattle.xb_value.specs.declared.value.Value.{Value}
use Rattle.xb_value.specs.Unflat.{unflat_of}
use Rattle.net_core.specs.declared.net.Site.{Site}
use Rattle.net_core.specs.declared.event.Event.{Event}
use Rattle.net_core.specs.declared.event.Event.TheVariants.{Recv, Send, End}
use Rattle.net_core.specs.Behavior.{Behavior, Turn, Skip, Receive, Give, event_from, next_event}
use Rattle.dslx_meaning.specs.Activation.{turn_at}
use Rattle.dslx_meaning.specs.Lists.{and_then}
use Rattle.dslx_core.specs.CoreValues.{Bindings, Functions, core_value, taken_apart}
use Rattle.dslx_core.specs.Designs.{Behind, CoreActivity, CoreElaborated, apart_then, condition_at, core_activation, core_behavior, do_steps, functions_of, go_behind, on_or_off, receive_if, receive_on, send_if, send_on, sites_of_steps, token, with_token}
use Rattle.dslx_core.specs.declared.design.Design.{Design}
use Rattle.dslx_core.specs.declared.expr.CoreExpr.{CoreExpr}
use Rattle.dslx_core.specs.declared.expr.Shape.{Shape}
use Rattle.dslx_core.specs.declared.step.Step.{Step}
use Rattle.dslx_core.specs.declared.step.Step.TheVariants as step
use Rattle.dslx_interp.specs.Network.Inner.Walking.{event_behind, first_event, turn_event}

-- ---- behaviors whose turns are a list

event_by : Behavior → Value → List Word → ℕ → List Site → Turn → Event
event_by b s got i sites turn = elim turn [ Skip ↦ event_from b s got (suc i) sites | Receive ↦ Recv i | Give w ↦ Send i w ]

turn_is : (b : Behavior) (s : Value) (got : List Word) (i : ℕ) (site : Site) (sites : List Site) → event_from b s got i (site ∷ sites) ≡ event_by b s got i sites (b.turn s got i)
unfolding event_from event_by
turn_is b s got i site sites = refl

at_case : (b : Behavior) (s : Value) (got : List Word) (i : ℕ) (sites : List Site) (t : Turn) (rest : Event) → event_from b s got (suc i) sites ≡ rest → event_by b s got i sites t ≡ turn_event t i rest
unfolding event_by
at_case b s got i sites Skip rest h = h
at_case b s got i sites Receive rest h = refl
at_case b s got i sites (Give w) rest h = refl

-- the turns from a site on are these
abbrev AreTurns : Behavior → Value → List Word → ℕ → List Turn → Type 0
AreTurns b s got i turns = (k : ℕ) → b.turn s got (i + k) ≡ turn_at (slice_get turns k)

turns_behind : (b : Behavior) (s : Value) (got : List Word) (i : ℕ) (t : Turn) (turns : List Turn) → AreTurns b s got i (t ∷ turns) → AreTurns b s got (suc i) turns
turns_behind b s got i t turns h k =
    let e : suc i + k ≡ i + suc k = omega arith in
    ap (b.turn s got) e ∙ h (suc k)

no_turns_behind : (b : Behavior) (s : Value) (got : List Word) (i : ℕ) → AreTurns b s got i [] → AreTurns b s got (suc i) []
no_turns_behind b s got i h k =
    let e : suc i + k ≡ i + suc k = omega arith in
    ap (b.turn s got) e ∙ h (suc k)

here : (b : Behavior) (s : Value) (got : List Word) (i : ℕ) (turns : List Turn) → AreTurns b s got i turns → b.turn s got i ≡ turn_at (slice_get turns zero)
here b s got i turns h =
    let e : i ≡ i + 0 = omega arith in
    ap (b.turn s got) e ∙ h zero

from_turns : (b : Behavior) (s : Value) (got : List Word) (last : Option Value) (sites : List Site) (i : ℕ) (turns : List Turn)
    → b.next_state s got ≡ unwrap_or last token → AreTurns b s got i turns → length turns ≤ length sites → event_from b s got i sites ≡ first_event turns last 0 i
unfolding event_from first_event
from_turns b s got last [] i [] state h few = ap End state
from_turns b s got last [] i (t ∷ turns) state h few = absurd (omega arith)
from_turns b s got last (site ∷ sites) i [] state h few =
    turn_is b s got i site sites ∙ (ap (event_by b s got i sites) (here b s got i [] h)
    ∙ at_case b s got i sites Skip (End (unwrap_or last token)) (from_turns b s got last sites (suc i) [] state (no_turns_behind b s got i h) (omega arith)))
from_turns b s got last (site ∷ sites) i (t ∷ turns) state h few =
    turn_is b s got i site sites ∙ (ap (event_by b s got i sites) (here b s got i (t ∷ turns) h)
    ∙ at_case b s got i sites t (first_event turns last 0 (suc i)) (from_turns b s got last sites (suc i) turns state (turns_behind b s got i t turns h) (omega arith)))

past : (turns : List Turn) (last : Option Value) (k i : ℕ) → first_event turns last k i ≡ first_event (drop k turns) last 0 (i + k)
unfolding first_event
past [] last zero i = refl
past [] last (suc k) i = refl
past (t ∷ turns) last zero i = let e : i ≡ i + 0 = omega arith in ap (λ n. first_event (t ∷ turns) last 0 n) e
past (t ∷ turns) last (suc k) i =
    let e : suc i + k ≡ i + suc k = omega arith in
    past turns last k (suc i) ∙ ap (λ n. first_event (drop k turns) last 0 n) e

get_dropped : (turns : List Turn) (n k : ℕ) → slice_get turns (n + k) ≡ slice_get (drop n turns) k
get_dropped turns zero k = let e : 0 + k ≡ k = omega arith in ap (slice_get turns) e
get_dropped [] (suc n) k = let e : suc n + k ≡ suc (n + k) = omega arith in ap (slice_get {X = Turn} []) e
get_dropped (t ∷ turns) (suc n) k = let e : suc n + k ≡ suc (n + k) = omega arith in ap (slice_get (t ∷ turns)) e ∙ get_dropped turns n k

fewer : (A B : Type 0) (xs : List A) (ys : List B) (n : ℕ) → length xs ≤ length ys → length (drop n xs) ≤ length (drop n ys)
fewer A B xs ys zero h = h
fewer A B [] [] (suc n) h = h
fewer A B [] (y ∷ ys) (suc n) h = omega arith
fewer A B (x ∷ xs) [] (suc n) h = absurd (omega arith)
fewer A B (x ∷ xs) (y ∷ ys) (suc n) h = fewer A B xs ys n (omega arith)

-- ---- no activation has more turns than its steps have sites

abbrev Few : ℕ → CoreActivity → Type 0
Few n a = length a.turns ≤ n

module _ (n : ℕ) (rest : Behind) (few : (bound : Bindings) (words : List Word) → Few n (rest bound words)) where
  behind_few : (o : Option Bindings) (words : List Word) → Few n (go_behind rest o words)
  behind_few None words = omega arith
  behind_few (Some bound) words = few bound words

  apart_few : (shape : Shape) (bound : Bindings) (o : Option Value) (words : List Word) → Few n (apart_then shape rest bound o words)
  apart_few shape bound None words = omega arith
  apart_few shape bound (Some v) words = behind_few (taken_apart shape v bound) words

  receive_few : (t : Ty) (shape : Shape) (bound : Bindings) (words : List Word) → Few (suc n) (receive_on t shape rest bound words)
  receive_few t shape bound [] = omega arith
  receive_few t shape bound (w ∷ words) = let h = apart_few shape bound (Some (with_token (unflat_of t w.value))) words in omega (arith, h)

  send_few : (shape : Shape) (bound : Bindings) (o : Option Value) (words : List Word) → Few (suc n) (send_on shape rest bound o words)
  send_few shape bound None words = omega arith
  send_few shape bound (Some v) words = let h = apart_few shape bound (Some token) words in omega (arith, h)

  on_few : (o : Option Bool) (on : CoreActivity) → Few (suc n) on → (shape : Shape) (bound : Bindings) (off : Option Value) (words : List Word) → Few (suc n) (on_or_off o on shape rest bound off words)
  on_few None on h shape bound off words = omega arith
  on_few (Some true) on h shape bound off words = h
  on_few (Some false) on h shape bound off words = let k = apart_few shape bound off words in omega (arith, k)

  receive_if_few : (calls : Functions) (t : Ty) (o : Option (CoreExpr × CoreExpr)) (shape : Shape) (bound : Bindings) (words : List Word) → Few (suc n) (receive_if calls t o shape rest bound words)
  receive_if_few calls t None shape bound words = receive_few t shape bound words
  receive_if_few calls t (Some both) shape bound words =
      on_few (condition_at calls both.0 bound) (receive_on t shape rest bound words) (receive_few t shape bound words) shape bound (and_then (core_value both.1 calls bound) (λ v. Some (with_token v))) words

  send_if_few : (calls : Functions) (e : CoreExpr) (o : Option CoreExpr) (shape : Shape) (bound : Bindings) (words : List Word) → Few (suc n) (send_if calls e o shape rest bound words)
  send_if_few calls e None shape bound words = send_few shape bound (core_value e calls bound) words
  send_if_few calls e (Some condition) shape bound words =
      on_few (condition_at calls condition bound) (send_on shape rest bound (core_value e calls bound) words) (send_few shape bound (core_value e calls bound) words) shape bound (Some token) words

turns_few : (channels : List ℕ) (calls : Functions) (ss : List Step) (next : CoreExpr) (bound : Bindings) (words : List Word) → Few (length (sites_of_steps channels ss)) (do_steps calls ss next bound words)
turns_few channels calls [] next bound words = omega arith
turns_few channels calls (step.Bind e shape ∷ ss) next bound words =
    apart_few (length (sites_of_steps channels ss)) (do_steps calls ss next) (turns_few channels calls ss next) shape bound (core_value e calls bound) words
turns_few channels calls (step.Receive r ∷ ss) next bound words =
    receive_if_few (length (sites_of_steps channels ss)) (do_steps calls ss next) (turns_few channels calls ss next) calls r.word r.condition r.shape bound words
turns_few channels calls (step.Send s ∷ ss) next bound words =
    send_if_few (length (sites_of_steps channels ss)) (do_steps calls ss next) (turns_few channels calls ss next) calls s.word s.condition s.shape bound words

-- ---- the event behind the first `done` sites is the proc's next one

pub event_is_next : (design : Design) (p : CoreElaborated) (s : Value) (got : List Word) (done : ℕ)
    → event_behind (core_activation (functions_of design) p.instance s got) done 0 ≡ next_event (core_behavior design p) s got done
unfolding next_event
event_is_next design p s got done =
    let a = core_activation (functions_of design) p.instance s got in
    let sites = sites_of_steps p.channels (p.instance).steps in
    let e : 0 + done ≡ done = omega arith in
    let few = fewer Turn Site a.turns sites done (turns_few p.channels (functions_of design) (p.instance).steps (p.instance).next (s ∷ []) got) in
    past a.turns a.last done 0 ∙ (ap (λ n. first_event (drop done a.turns) a.last 0 n) e
    ∙ sym (from_turns (core_behavior design p) s got a.last (drop done sites) done (drop done a.turns) refl
    (λ k. ap turn_at (get_dropped a.turns done k)) few))
