-- What a sample does, as a proc of a network.
use Rattle.std.specs.Prelude.{ℕ, ◌%◌, map, slice_get, if◌then◌else◌, Option, Some, None}
use Rattle.xb_bits.specs.Word.{word}
use Rattle.xb_value.specs.declared.ty.Ty.{Ty, Bits}
use Rattle.net_core.specs.Behavior.{Behavior, Turn, Skip, Receive, Give}
use Rattle.net_samples.specs.declared.sample.Port.{Port}
use Rattle.net_samples.specs.declared.sample.Step.{Step}
use Rattle.net_samples.specs.declared.sample.Step.TheVariants.{Stay, Count, Flip}
use Rattle.net_samples.specs.declared.sample.Sample.{Sample}
use Rattle.net_samples.specs.Samples.{number_of, last_number, is_on, count_from, state_after}

-- the type of the states
abbrev pub type_of : Step → Ty
type_of Stay = Bits 1
type_of (Count source) = Bits 8
type_of Flip = Bits 1

-- what a port does
abbrev pub port_turn : Port → ℕ → ℕ → Turn
port_turn port state last =
    if is_on port.when state then (if port.site.sends then Give (word 8 (count_from port.source state last % 256)) else Receive) else Skip

abbrev pub turn_at : Option Port → ℕ → ℕ → Turn
turn_at None state last = Skip
turn_at (Some port) state last = port_turn port state last

abbrev pub behavior_of : Sample → Behavior
behavior_of sample =
    record {
      state = type_of sample.step;
      sites = map (λ (port : Port). port.site) sample.ports;
      width = λ _. 8;
      turn = λ state got i. turn_at (slice_get sample.ports i) (number_of state) (last_number got);
      next_state = λ state got. state_after sample.step (number_of state) (last_number got);
    }
