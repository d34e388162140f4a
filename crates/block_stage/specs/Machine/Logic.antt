-- The circuit that the tables of the code make.
use Rattle.std.specs.Prelude.{ℕ, Bool, true, false, ◌&&◌, if◌then◌else◌, Option, Some, None, is_some, unwrap_or, ◌==◌}
use Rattle.std.specs.List.{list_any}
use Rattle.xb_bits.specs.Word.{Word, word}
use Rattle.net_core.specs.Behavior as behavior
use Rattle.net_core.specs.Behavior.{Turn}
use Rattle.block_stage.specs.declared.machine.logic.Handling.{Handling}
use Rattle.block_stage.specs.declared.machine.logic.Handling.TheVariants as handling
use Rattle.block_stage.specs.declared.machine.logic.Logic.{Logic}
use Rattle.block_stage.specs.declared.machine.logic.SiteTurn.{SiteTurn}
use Rattle.block_stage.specs.declared.machine.logic.SiteTurn.TheVariants.{Skip, Receive, Give}
use Rattle.block_stage.specs.declared.machine.logic.Step.{Step}
use Rattle.block_stage.specs.declared.machine.logic.Step.TheVariants as step
use Rattle.block_stage.specs.declared.machine.table.Table2.{Table2}
use Rattle.block_stage.specs.declared.machine.table.Table3.{Table3}
use Rattle.block_stage.specs.Machine.Cycle.{Circuit, Transfer, Takes, Gives, kept_after}

-- a turn
abbrev pub turn_of : SiteTurn → Turn
turn_of Skip = behavior.Skip
turn_of Receive = behavior.Receive
turn_of (Give w) = behavior.Give w

-- what a table says
abbrev pub at2 : Table2 → Bool → Bool → Bool
at2 t false false = t.neither
at2 t false true = t.second
at2 t true false = t.first
at2 t true true = t.both

abbrev pub at3 : Table3 → Bool → Bool → Bool → Bool
at3 t false b c = at2 t.unset b c
at3 t true b c = at2 t.set b c

-- how a site is handled, by the turn of its activation there and whether it is done
abbrev pub handling_of : Logic → Turn → Bool → Handling
handling_of logic behavior.Skip done = logic.off
handling_of logic behavior.Receive false = logic.receive
handling_of logic behavior.Receive true = logic.received
handling_of logic (behavior.Give w) false = logic.send
handling_of logic (behavior.Give w) true = logic.sent

-- the word that a turn sends; one that sends none drives this
abbrev pub word_of : Turn → Word
word_of behavior.Skip = word 1 0
word_of behavior.Receive = word 1 0
word_of (behavior.Give w) = w

abbrev pub take_step : Option Word → Step
take_step None = step.AwaitWord
take_step (Some w) = step.Take w

abbrev pub handled : Handling → Word → Word → Option Word → Bool → Step
handled handling.Pass w kept valid_word room = step.Pass
handled handling.Recall w kept valid_word room = step.Recall kept
handled handling.Take w kept valid_word room = take_step valid_word
handled handling.Put w kept valid_word room = if room then step.Put w else step.AwaitRoom w

-- the receive with an index goes
abbrev pub takes_at : ℕ → Transfer → Bool
takes_at i (Takes k w) = k == i
takes_at i (Gives k w) = false

abbrev pub circuit_of : Logic → Circuit
circuit_of logic = record {
  step = λ turn done kept valid_word room. handled (handling_of logic turn done) (word_of turn) kept valid_word room;
  leaves = λ full stall. at2 logic.leaves full stall;
  moves_on = λ full stall next_full next_moves. at2 logic.leaves full stall && at2 logic.frees next_full next_moves;
  full_next = λ comes full moves. at3 logic.full_next comes full moves;
  turn_next = λ ends turn moves. at3 logic.turn_next ends turn moves;
  done_next = λ done goes moves. at3 logic.done_next done goes moves;
  keep = λ kept valid_word i transfers. if at2 logic.keeps (list_any (takes_at i) transfers) (is_some valid_word) then kept_after (unwrap_or valid_word kept) i transfers else kept;
}
