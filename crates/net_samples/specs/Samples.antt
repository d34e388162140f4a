-- What the parts of a sample do.
use Rattle.std.specs.Prelude.{ℕ, ◌+◌, ◌-◌, ◌%◌, Bool, true, List, length, slice_get, Option, Some, None, ◌==◌, if◌then◌else◌}
use Rattle.xb_bits.specs.Word.{Word, word}
use Rattle.xb_value.specs.declared.value.Value.{Value, out-Value, Bits}
use Rattle.xb_value.specs.declared.value.Value.TheOpen.{Value-F}
use Rattle.net_core.specs.declared.event.Event.{Event}
use Rattle.net_core.specs.declared.event.Event.TheVariants.{Recv, Send}
use Rattle.net_samples.specs.declared.sample.When.{When}
use Rattle.net_samples.specs.declared.sample.When.TheVariants.{Always, Even, Odd}
use Rattle.net_samples.specs.declared.sample.Source.{Source}
use Rattle.net_samples.specs.declared.sample.Source.TheVariants.{State, Last}
use Rattle.net_samples.specs.declared.sample.Port.{Port}
use Rattle.net_samples.specs.declared.sample.Step.{Step}
use Rattle.net_samples.specs.declared.sample.Step.TheVariants.{Stay, Count, Flip}

abbrev pub number_in : Value-F Value → ℕ
number_in (Value-F.Bits w) = w.value
number_in (Value-F.Tuple vs) = 0
number_in (Value-F.Array vs) = 0

-- the number of a state
abbrev pub number_of : Value → ℕ
number_of v = number_in (out-Value v)

abbrev pub number_at : Option Word → ℕ
number_at None = 0
number_at (Some w) = w.value

-- the number of the last word, 0 if there is none
abbrev pub last_number : List Word → ℕ
last_number got = number_at (slice_get got (length got - 1))

abbrev pub is_on : When → ℕ → Bool
is_on Always n = true
is_on Even n = n % 2 == 0
is_on Odd n = n % 2 == 1

abbrev pub count_from : Source → ℕ → ℕ → ℕ
count_from State state last = state
count_from Last state last = last

-- what a port does where it is on
abbrev pub event_at : Port → ℕ → ℕ → ℕ → Event
event_at port i state last =
    if port.site.sends then Send i (word 8 (count_from port.source state last % 256)) else Recv i

abbrev pub state_after : Step → ℕ → ℕ → Value
state_after Stay state last = Bits (word 1 (state % 2))
state_after (Count source) state last = Bits (word 8 ((count_from source state last % 256 + 1) % 256))
state_after Flip state last = Bits (word 1 ((state % 2 + 1) % 2))
