-- A proc that has made its first events of the final cut, and its next one.
use Rattle.std.specs.Prelude.{◌≡◌, ◌≤◌, ◌+◌, ◌*◌, ℕ, suc, List, [], ◌∷◌, ◌++◌, length, take, slice_get, Some}
use Rattle.xb_bits.specs.Word.{Word}
use Rattle.xb_value.specs.Width.{width_of}
use Rattle.net_core.specs.declared.net.Chan.{Chan}
use Rattle.net_core.specs.declared.event.Event.{Event}
use Rattle.net_core.specs.Behavior.{IsOpen}
use Rattle.net_core.specs.Cuts.{Proc, Run, words_sent, count_received, words_at, final_cut}
use Rattle.net_core.specs.Machine.{Position}
use Rattle.net_core.specs.WellFormed.{IsRun, AreWordsOf}
use Rattle.chan_queue.specs.Streams.Streams.{stands}

-- a run whose parts fit, and whose words have the widths of their channels
pub record IsTyped (run : Run) : Type 0 where
  pub fits : IsRun run
  pub words : (c : ℕ) (chan : Chan) → slice_get run.chans c ≡ Some chan → AreWordsOf (width_of chan.ty) (words_at run (final_cut run) c)

-- the first k events of proc p in the final cut
abbrev pub first_events : Run → ℕ → ℕ → List Event
first_events run p k = take k (final_cut run p)

-- the words that they send on a channel, and how many they receive from it
abbrev pub sent_first : Run → ℕ → Proc → ℕ → ℕ → List Word
sent_first run p proc k c = words_sent proc.behavior.sites c (first_events run p k)

abbrev pub received_first : Run → ℕ → Proc → ℕ → ℕ → ℕ
received_first run p proc k c = count_received proc.behavior.sites c (first_events run p k)

-- proc p stands there after its first k events of the final cut, and an activation can stand there
pub record IsStanding (run : Run) (p : ℕ) (proc : Proc) (k : ℕ) (at : Position) : Type 0 where
  pub proc_is : slice_get run.procs p ≡ Some proc
  pub within : k ≤ length (final_cut run p)
  pub at_is : stands run proc (first_events run p k) ≡ at
  pub stands_open : IsOpen proc.behavior at.state at.got at.done
  pub ends : at.ends ≤ run.activations
  pub count : k ≤ at.ends * suc (length proc.behavior.sites) + at.done

-- its next event is this one, and it then stands there
pub record GoesOn (run : Run) (p : ℕ) (proc : Proc) (k : ℕ) (event : Event) (at : Position) : Type 0 where
  pub standing : IsStanding run p proc (suc k) at
  pub made : first_events run p (suc k) ≡ first_events run p k ++ event ∷ []
  pub sent : (c : ℕ) → sent_first run p proc (suc k) c ≡ sent_first run p proc k c ++ words_sent proc.behavior.sites c (event ∷ [])
  pub received : (c : ℕ) → received_first run p proc (suc k) c ≡ received_first run p proc k c + count_received proc.behavior.sites c (event ∷ [])
