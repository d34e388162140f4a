-- A sample goes over its ports.
use Rattle.std.proofs.Common.{◌≡◌, ℕ, zero, suc, ◌+◌, ◌<◌, ◌≤◌, List, [], ◌∷◌, length, drop, get_or, refl, sym, ap, ◌∙◌, arith, true, false, Bool, Some}
use Rattle.std.specs.Prelude.{slice_get, option_map}
use Rattle.std.proofs.lemmas.List.{drop_all, length-map}
use Rattle.xb_bits.specs.Word.{Word}
use Rattle.xb_value.specs.declared.value.Value.{Value}
use Rattle.net_core.specs.declared.net.Site.{Site}
use Rattle.net_core.specs.declared.event.Event.{Event}
use Rattle.net_core.specs.declared.event.Event.TheVariants.{End}
use Rattle.net_core.specs.Behavior.{event_from}
use Rattle.net_core.proofs.Lemmas.{event_turn, event_site}
use Rattle.net_samples.specs.declared.sample.Port.{Port}
use Rattle.net_samples.specs.declared.sample.Sample.{Sample}
use Rattle.net_samples.specs.Samples.{number_of, last_number, is_on, event_at, state_after}
use Rattle.net_samples.specs.Behaviors.{behavior_of, turn_at, port_turn}
use Rattle.net_samples.specs.Inner.Keeps.{get_site}

drop_site : (sites : List Site) (i : ℕ) (site : Site) → slice_get sites i ≡ Some site → drop i sites ≡ site ∷ drop (suc i) sites
drop_site [] i site e = cc
drop_site (x ∷ xs) zero site e = let h : x ≡ site = cc in ap (λ y. y ∷ xs) h
drop_site (x ∷ xs) (suc i) site e = drop_site xs i site e

get_there : {A : Type 0} (xs : List A) (k : ℕ) (d : A) → k < length xs → slice_get xs k ≡ Some (get_or xs k d)
get_there [] k d l = absurd (omega (arith, l))
get_there (y ∷ ys) zero d l = refl
get_there (y ∷ ys) (suc k) d l = get_there ys k d (omega (arith, l))

-- the next event at a place, by the port that stands there
at_place : (sample : Sample) (s : Value) (got : List Word) (i : ℕ) (port : Port) → slice_get sample.ports i ≡ Some port
    → event_from (behavior_of sample) s got i (drop i (behavior_of sample).sites)
    ≡ event_turn (behavior_of sample) s got i (drop (suc i) (behavior_of sample).sites) (port_turn port (number_of s) (last_number got))
at_place sample s got i port e =
    let site = get_site sample.ports i ∙ ap (λ o. option_map (λ (x : Port). x.site) o) e in
    ap (λ ss. event_from (behavior_of sample) s got i ss) (drop_site (behavior_of sample).sites i port.site site)
    ∙ (event_site (behavior_of sample) s got i port.site (drop (suc i) (behavior_of sample).sites)
    ∙ ap (λ o. event_turn (behavior_of sample) s got i (drop (suc i) (behavior_of sample).sites) (turn_at o (number_of s) (last_number got))) e)

turn_on : (sample : Sample) (s : Value) (got : List Word) (i : ℕ) (port : Port) (sites : List Site) (sends : Bool) → is_on port.when (number_of s) ≡ true → port.site.sends ≡ sends
    → event_turn (behavior_of sample) s got i sites (port_turn port (number_of s) (last_number got)) ≡ event_at port i (number_of s) (last_number got)
unfolding event_turn
turn_on sample s got i port sites true e f = rw (e, f)
turn_on sample s got i port sites false e f = rw (e, f)

-- at a port that is on, its event
pub on_step : (sample : Sample) (ports : List Port) → ports ≡ sample.ports → (s : Value) (got : List Word) (i : ℕ) (d : Port) (number last : ℕ) → number ≡ number_of s → last ≡ last_number got
    → i < length ports → (on : Bool) → on ≡ is_on (get_or ports i d).when number → on ≡ true → (event : Event) → event ≡ event_at (get_or ports i d) i number last
    → event ≡ event_from (behavior_of sample) s got i (drop i (behavior_of sample).sites)
on_step sample ports same s got i d number last n l within on is passed event e =
    let port = get_or ports i d in
    let there = ap (λ ps. slice_get ps i) (sym same) ∙ get_there ports i d within in
    let passes : is_on port.when (number_of s) ≡ true = ap (λ m. is_on port.when m) (sym n) ∙ (sym is ∙ passed) in
    e ∙ (ap (λ m. event_at port i m last) n ∙ (ap (λ k. event_at port i (number_of s) k) l
    ∙ sym (at_place sample s got i port there ∙ turn_on sample s got i port (drop (suc i) (behavior_of sample).sites) port.site.sends passes refl)))

turn_off : (sample : Sample) (s : Value) (got : List Word) (i : ℕ) (port : Port) (sites : List Site) → is_on port.when (number_of s) ≡ false
    → event_turn (behavior_of sample) s got i sites (port_turn port (number_of s) (last_number got)) ≡ event_from (behavior_of sample) s got (suc i) sites
unfolding event_turn
turn_off sample s got i port sites e = rw e

-- at one that is off, that of the rest
pub off_step : (sample : Sample) (ports : List Port) → ports ≡ sample.ports → (s : Value) (got : List Word) (i : ℕ) (d : Port) (number : ℕ) → number ≡ number_of s
    → i < length ports → (on : Bool) → on ≡ is_on (get_or ports i d).when number → on ≡ false
    → event_from (behavior_of sample) s got (i + 1) (drop (i + 1) (behavior_of sample).sites) ≡ event_from (behavior_of sample) s got i (drop i (behavior_of sample).sites)
off_step sample ports same s got i d number n within on is failed =
    let port = get_or ports i d in
    let there = ap (λ ps. slice_get ps i) (sym same) ∙ get_there ports i d within in
    let fails : is_on port.when (number_of s) ≡ false = ap (λ m. is_on port.when m) (sym n) ∙ (sym is ∙ failed) in
    let next : i + 1 ≡ suc i = omega arith in
    ap (λ k. event_from (behavior_of sample) s got k (drop k (behavior_of sample).sites)) next
    ∙ sym (at_place sample s got i port there ∙ turn_off sample s got i port (drop (suc i) (behavior_of sample).sites) fails)

-- past the last port, the end
pub end_step : (sample : Sample) (ports : List Port) → ports ≡ sample.ports → (s : Value) (got : List Word) (i number last : ℕ) → number ≡ number_of s → last ≡ last_number got
    → length ports ≤ i → (state : Value) → state ≡ state_after sample.step number last
    → End state ≡ event_from (behavior_of sample) s got i (drop i (behavior_of sample).sites)
unfolding event_from
end_step sample ports same s got i number last n l past state e =
    let none = drop_all i (behavior_of sample).sites (omega (arith, past, ap length same, length-map sample.ports (λ (x : Port). x.site))) in
    ap End (e ∙ (ap (λ m. state_after sample.step m last) n ∙ ap (λ k. state_after sample.step (number_of s) k) l))
    ∙ sym (ap (λ ss. event_from (behavior_of sample) s got i ss) none)
