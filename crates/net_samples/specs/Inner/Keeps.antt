-- A sample keeps its types.
use Rattle.std.proofs.Common.{◌≡◌, ℕ, zero, suc, ◌+◌, ◌%◌, Bool, true, false, List, [], ◌∷◌, map, Option, Some, None, refl, arith, sym, ap, ◌∙◌, subst}
use Rattle.std.specs.Prelude.{slice_get, option_map}
use Rattle.std.proofs.lemmas.Bool.Decides.{nat_tests}
use Rattle.xb_bits.specs.Word.{Word, word}
use Rattle.xb_value.specs.declared.ty.Ty.{Bits}
use Rattle.xb_value.specs.declared.value.Value as value
use Rattle.xb_value.specs.declared.value.Value.TheViews.{outs-Bits}
use Rattle.xb_value.specs.Typing.{IsOfType, bits_fit, is_word_of}
use Rattle.xb_value.proofs.Lemmas.Typing.{fits-Bits}
use Rattle.net_core.specs.declared.net.Site.{Site}
use Rattle.net_core.specs.Behavior.{Behavior, IsWordOf, IsInDirection, TurnFits, KeepsTypes}
use Rattle.net_samples.specs.declared.sample.Port.{Port}
use Rattle.net_samples.specs.declared.sample.Step.{Step}
use Rattle.net_samples.specs.declared.sample.Step.TheVariants.{Stay, Count, Flip}
use Rattle.net_samples.specs.declared.sample.Sample.{Sample}
use Rattle.net_samples.specs.Samples.{number_of, last_number, is_on, count_from, state_after}
use Rattle.net_samples.specs.Behaviors.{type_of, port_turn, turn_at, behavior_of}

pub small_word : (x : ℕ) → IsWordOf 8 (word 8 (x % 256))
small_word x = record { word = record { some_width = omega arith; most_width = omega arith; in_range = omega arith }; fits = refl }

port_keeps : (port : Port) (state last : ℕ) (on sends : Bool) → is_on port.when state ≡ on → port.site.sends ≡ sends → IsInDirection port.site (port_turn port state last)
port_keeps port state last false sends e f = rw e tt
port_keeps port state last true false e f = rw (e, f) refl
port_keeps port state last true true e f = rw (e, f) refl

turn_keeps : (o : Option Port) (site : Site) (state last : ℕ) → option_map (λ (port : Port). port.site) o ≡ Some site → IsInDirection site (turn_at o state last)
turn_keeps None site state last e = cc
turn_keeps (Some port) site state last e =
    let same : port.site ≡ site = cc in
    subst (λ x. IsInDirection x (port_turn port state last)) same (port_keeps port state last (is_on port.when state) port.site.sends refl refl)

port_fits : (b : Behavior) → b.width ≡ (λ _. 8) → (port : Port) (state last : ℕ) (on sends : Bool) → is_on port.when state ≡ on → port.site.sends ≡ sends → TurnFits b port.site (port_turn port state last)
port_fits b w port state last false sends e f = rw e tt
port_fits b w port state last true false e f = rw (e, f) tt
port_fits b w port state last true true e f = rw (e, f, w) (small_word (count_from port.source state last))

turn_fits : (b : Behavior) → b.width ≡ (λ _. 8) → (o : Option Port) (site : Site) (state last : ℕ) → option_map (λ (port : Port). port.site) o ≡ Some site → TurnFits b site (turn_at o state last)
turn_fits b w None site state last e = cc
turn_fits b w (Some port) site state last e =
    let same : port.site ≡ site = cc in
    subst (λ x. TurnFits b x (port_turn port state last)) same (port_fits b w port state last (is_on port.when state) port.site.sends refl refl)

pub get_site : (ports : List Port) (i : ℕ) → slice_get (map (λ (port : Port). port.site) ports) i ≡ option_map (λ (port : Port). port.site) (slice_get ports i)
get_site [] i = refl
get_site (x ∷ xs) zero = refl
get_site (x ∷ xs) (suc i) = get_site xs i

-- bits of a width are of the type of that width
pub bits_typed : (w : ℕ) (x : Word) → is_word_of w x ≡ true → IsOfType (Bits w) (value.Bits x)
bits_typed w x h = fits-Bits w (value.Bits x) ∙ (ap (bits_fit w) (outs-Bits x) ∙ h)

bit_fits : (n : ℕ) → is_word_of 1 (word 1 (n % 2)) ≡ true
bit_fits n = grind (arith, nat_tests)

byte_fits : (n : ℕ) → is_word_of 8 (word 8 (n % 256)) ≡ true
byte_fits n = grind (arith, nat_tests)

state_fits : (step : Step) (state last : ℕ) → IsOfType (type_of step) (state_after step state last)
state_fits Stay state last = bits_typed 1 _ (bit_fits state)
state_fits (Count source) state last = bits_typed 8 _ (byte_fits (count_from source state last % 256 + 1))
state_fits Flip state last = bits_typed 1 _ (bit_fits (state % 2 + 1))

pub sample_keeps_types : (sample : Sample) → KeepsTypes (behavior_of sample)
sample_keeps_types sample = record {
  directions = λ s got i site e. turn_keeps (slice_get sample.ports i) site (number_of s) (last_number got) (sym (get_site sample.ports i) ∙ e);
  turns = λ s got i site o e. turn_fits (behavior_of sample) refl (slice_get sample.ports i) site (number_of s) (last_number got) (sym (get_site sample.ports i) ∙ e);
  state = λ s got o. state_fits sample.step (number_of s) (last_number got);
}
