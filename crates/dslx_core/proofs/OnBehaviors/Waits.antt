-- Where the steps of an activation come to a receive for which there is no word, they do nothing more.
use Rattle.std.proofs.Common.{◌≡◌, ◌++◌, ℕ, suc, Bool, true, false, List, [], ◌∷◌, length, Option, Some, None, refl, sym, ap, ◌∙◌, arith}
use mathlib.Core.Bool.{true≢false}
use Rattle.std.specs.Prelude.{slice_get}
use Rattle.xb_bits.specs.Word.{Word}
use Rattle.xb_value.specs.Flat.{flat_of}
use Rattle.xb_value.specs.Unflat.{unflat_of}
use Rattle.xb_value.specs.declared.ty.Ty.{Ty}
use Rattle.xb_value.specs.declared.value.Value.{Value}
use Rattle.net_core.specs.Behavior.{Turn, Skip, Receive, Give}
use Rattle.dslx_meaning.specs.Lists.{and_then}
use Rattle.dslx_core.proofs.Lemmas.Typing.Typed.{none_some, same_some}
use Rattle.dslx_core.specs.CoreValues.{Bindings, Functions, core_value, taken_apart}
use Rattle.dslx_core.specs.Designs as d
use Rattle.dslx_core.specs.Designs.{Behind, CoreActivity, apart_then, condition_at, do_step, do_steps, go_behind, no_activity, on_or_off, receive_if, receive_on, send_if, send_on, turn_before, with_token}
use Rattle.dslx_core.specs.declared.expr.CoreExpr.{CoreExpr}
use Rattle.dslx_core.specs.declared.expr.Shape.{Shape}
use Rattle.dslx_core.specs.declared.step.Step.{Step}
use Rattle.dslx_core.specs.declared.step.Step.TheVariants as step
use Rattle.dslx_core.specs.Typing.Activities.ActivityGoesOn.{words_taken}

-- each turn of the first list is that of the second one at its place
abbrev pub StandsAtPrefix : List Turn → List Turn → Type 0
StandsAtPrefix ts us = (i : ℕ) (turn : Turn) → slice_get ts i ≡ Some turn → slice_get us i ≡ Some turn

pub record EndsThere (front : List Turn) (a : CoreActivity) : Type 0 where
  pub turns : a.turns ≡ front ++ Receive ∷ []
  pub last : a.last ≡ None

-- after these turns, which have taken all words, it receives: then that is the end
abbrev pub WaitsThere : List Turn → List Word → CoreActivity → Type 0
WaitsThere front words a = StandsAtPrefix (front ++ Receive ∷ []) a.turns → words_taken front ≡ length words → EndsThere front a

abbrev BehindWaits : Behind → Type 0
BehindWaits rest = (bound : Bindings) (words : List Word) (front : List Turn) → WaitsThere front words (rest bound words)

none_added : {X : Type 0} (n : ℕ) → 0 ≡ suc n → X
none_added n e = absurd (omega (arith, e))

-- ---- turns of one kind

abbrev is_receive : Turn → Bool
is_receive Receive = true
is_receive Skip = false
is_receive (Give w) = false

not_receive : {X : Type 0} (turn : Turn) → is_receive turn ≡ false → turn ≡ Receive → X
not_receive turn e q = absurd (true≢false (sym (ap is_receive q) ∙ e))

nothing_there : {X : Type 0} (front : List Turn) → StandsAtPrefix (front ++ Receive ∷ []) [] → X
nothing_there [] h = none_some Receive (h 0 Receive refl)
nothing_there (t ∷ ts) h = none_some t (h 0 t refl)

nothing_waits : (front : List Turn) (words : List Word) → WaitsThere front words no_activity
nothing_waits front words h all = nothing_there front h

-- a turn that takes nothing
other_waits : (turn : Turn) → is_receive turn ≡ false → ((ts : List Turn) → words_taken (turn ∷ ts) ≡ words_taken ts) → (a : CoreActivity) (words : List Word) → ((front : List Turn) → WaitsThere front words a)
    → (front : List Turn) → WaitsThere front words (turn_before turn a)
other_waits turn kind same a words h [] k all = not_receive turn kind (same_some turn Receive (k 0 Receive refl))
other_waits turn kind same a words h (t ∷ ts) k all =
    let first = same_some turn t (k 0 t refl) in
    let rest = h ts (λ i u e. k (suc i) u e) (sym (same ts) ∙ ap (λ x. words_taken (x ∷ ts)) first ∙ all) in
    record { turns = λ i. first i ∷ rest.turns i; last = rest.last }

-- a receive with a word
receive_waits : (a : CoreActivity) (w : Word) (words : List Word) → ((front : List Turn) → WaitsThere front words a) → (front : List Turn) → WaitsThere front (w ∷ words) (turn_before Receive a)
receive_waits a w words h [] k all = none_added (length words) all
receive_waits a w words h (t ∷ ts) k all =
    let first = same_some Receive t (k 0 t refl) in
    let taken : suc (words_taken ts) ≡ suc (length words) = ap (λ x. words_taken (x ∷ ts)) first ∙ all in
    let rest = h ts (λ i u e. k (suc i) u e) (let q : words_taken ts ≡ length words = omega (arith, taken) in q) in
    record { turns = λ i. first i ∷ rest.turns i; last = rest.last }

-- the last receive
last_receive : (front : List Turn) → StandsAtPrefix (front ++ Receive ∷ []) (Receive ∷ []) → words_taken front ≡ 0 → EndsThere front (record { turns = Receive ∷ []; last = None })
last_receive [] k all = record { turns = refl; last = refl }
last_receive (t ∷ ts) k all = let first = same_some Receive t (k 0 t refl) in none_added (words_taken ts) (sym all ∙ ap (λ x. words_taken (x ∷ ts)) (sym first))

-- ---- steps

go_waits : (rest : Behind) → BehindWaits rest → (o : Option Bindings) (words : List Word) (front : List Turn) → WaitsThere front words (go_behind rest o words)
go_waits rest h None words front = nothing_waits front words
go_waits rest h (Some bound) words front = h bound words front

apart_waits : (shape : Shape) (rest : Behind) → BehindWaits rest → (bound : Bindings) (o : Option Value) (words : List Word) (front : List Turn) → WaitsThere front words (apart_then shape rest bound o words)
apart_waits shape rest h bound None words front = nothing_waits front words
apart_waits shape rest h bound (Some v) words front = go_waits rest h (taken_apart shape v bound) words front

receive_on_waits : (t : Ty) (shape : Shape) (rest : Behind) → BehindWaits rest → (bound : Bindings) (words : List Word) (front : List Turn) → WaitsThere front words (receive_on t shape rest bound words)
receive_on_waits t shape rest h bound [] front k all = last_receive front k all
receive_on_waits t shape rest h bound (w ∷ words) front k all =
    receive_waits (apart_then shape rest bound (Some (with_token (unflat_of t w.value))) words) w words (apart_waits shape rest h bound (Some (with_token (unflat_of t w.value))) words) front k all

send_on_waits : (shape : Shape) (rest : Behind) → BehindWaits rest → (bound : Bindings) (o : Option Value) (words : List Word) (front : List Turn) → WaitsThere front words (send_on shape rest bound o words)
send_on_waits shape rest h bound None words front = nothing_waits front words
send_on_waits shape rest h bound (Some v) words front =
    other_waits (Give (flat_of v)) refl (λ ts. refl) (apart_then shape rest bound (Some d.token) words) words (apart_waits shape rest h bound (Some d.token) words) front

on_or_off_waits : (o : Option Bool) (on : CoreActivity) (words : List Word) → ((front : List Turn) → WaitsThere front words on) → (shape : Shape) (rest : Behind) → BehindWaits rest → (bound : Bindings) (off : Option Value) (front : List Turn)
    → WaitsThere front words (on_or_off o on shape rest bound off words)
on_or_off_waits None on words k shape rest h bound off front = nothing_waits front words
on_or_off_waits (Some true) on words k shape rest h bound off front = k front
on_or_off_waits (Some false) on words k shape rest h bound off front = other_waits Skip refl (λ ts. refl) (apart_then shape rest bound off words) words (apart_waits shape rest h bound off words) front

receive_if_waits : (calls : Functions) (t : Ty) (o : Option (CoreExpr × CoreExpr)) (shape : Shape) (rest : Behind) → BehindWaits rest → BehindWaits (receive_if calls t o shape rest)
receive_if_waits calls t None shape rest h bound words front = receive_on_waits t shape rest h bound words front
receive_if_waits calls t (Some both) shape rest h bound words front =
    on_or_off_waits (condition_at calls both.0 bound) (receive_on t shape rest bound words) words (receive_on_waits t shape rest h bound words) shape rest h bound (and_then (core_value both.1 calls bound) (λ v. Some (with_token v))) front

send_if_waits : (calls : Functions) (e : CoreExpr) (o : Option CoreExpr) (shape : Shape) (rest : Behind) → BehindWaits rest → BehindWaits (send_if calls e o shape rest)
send_if_waits calls e None shape rest h bound words front = send_on_waits shape rest h bound (core_value e calls bound) words front
send_if_waits calls e (Some c) shape rest h bound words front =
    on_or_off_waits (condition_at calls c bound) (send_on shape rest bound (core_value e calls bound) words) words (send_on_waits shape rest h bound (core_value e calls bound) words) shape rest h bound (Some d.token) front

step_waits : (calls : Functions) (s : Step) (rest : Behind) → BehindWaits rest → BehindWaits (do_step calls s rest)
step_waits calls (step.Bind e shape) rest h bound words front = apart_waits shape rest h bound (core_value e calls bound) words front
step_waits calls (step.Receive r) rest h bound words front = receive_if_waits calls r.word r.condition r.shape rest h bound words front
step_waits calls (step.Send s) rest h bound words front = send_if_waits calls s.word s.condition s.shape rest h bound words front

pub steps_wait : (calls : Functions) (ss : List Step) (next : CoreExpr) → BehindWaits (do_steps calls ss next)
steps_wait calls [] next bound words front k all = nothing_there front k
steps_wait calls (s ∷ ss) next bound words front k all = step_waits calls s (do_steps calls ss next) (steps_wait calls ss next) bound words front k all
