-- The ends of channels at which a task sends and receives, and what holds of them in a run.
use Rattle.std.specs.Prelude.{◌≡◌, ◌≢◌, ℕ, suc, ◌+◌, ◌<◌, ◌≤◌, ◌⊎◌, ◌^◌, List, [], length, Option, Some, None, get_or, slice_get}
use Rattle.xb_bits.specs.Word.{Word}
use Rattle.chan_queue.specs.Passes.{IsSender, IsReceiver, sender_knows, receiver_knows, sender_of, receiver_of}
use Rattle.chan_queue.specs.declared.pass.SendPass.{SendPass}
use Rattle.chan_queue.specs.declared.pass.RecvPass.{RecvPass}
use Rattle.chan_queue.specs.declared.queue.ChanQueue.{ChanQueue}
use Rattle.net_core.specs.declared.net.Chan.{Chan}
use Rattle.net_core.specs.declared.net.Kind.{Kind}
use Rattle.net_core.specs.declared.net.Kind.TheVariants.{Input, Output, Inner}
use Rattle.net_core.specs.Cuts.{Run, words_at, received_at, final_cut}
use Rattle.chan_queue.specs.Streams.Streams.{stream_in}
use Rattle.proc_task.specs.declared.port.Outlet.{Outlet}
use Rattle.proc_task.specs.declared.port.Inlet.{Inlet}

module _ {S : Type 0} where
  -- the right to send: none on an output; on an inner channel that of its queue, which knows so many sends
  abbrev pub OutRight : Run → List (Option (ChanQueue S)) → ℕ → Kind → ℕ → Option (SendPass S) → Type 0
  OutRight run lines c kind count None = kind ≡ Output
  OutRight run lines c kind count (Some pass) =
      (kind ≡ Inner) × ((queue : ChanQueue S) × (slice_get lines c ≡ Some (Some queue)) × IsSender queue pass
      × (sender_knows pass ≡ sender_of (stream_in run c) (get_or run.depths c 0) count (sender_knows pass).told_received))

  -- the right to receive: none from an input; from an inner channel that of its queue, which knows so many receipts
  abbrev pub InRight : Run → List (Option (ChanQueue S)) → ℕ → Kind → ℕ → Option (RecvPass S) → Type 0
  InRight run lines c kind count None = kind ≡ Input
  InRight run lines c kind count (Some pass) =
      (kind ≡ Inner) × ((queue : ChanQueue S) × (slice_get lines c ≡ Some (Some queue)) × IsReceiver queue pass
      × (receiver_knows pass ≡ receiver_of (stream_in run c) (get_or run.depths c 0) count (receiver_knows pass).told_sent))

  -- the end of a channel at which words are sent
  pub record IsOutlet (run : Run) (lines : List (Option (ChanQueue S))) (outlet : Outlet S) : Type 0 where
    pub chan : Chan
    pub chan_is : slice_get run.chans outlet.chan ≡ Some chan
    pub right : OutRight run lines outlet.chan chan.kind (length outlet.words.items) outlet.pass

  -- the end of a channel at which words are received
  pub record IsInlet (run : Run) (lines : List (Option (ChanQueue S))) (inlet : Inlet S) : Type 0 where
    pub chan : Chan
    pub chan_is : slice_get run.chans inlet.chan ≡ Some chan
    pub right : InRight run lines inlet.chan chan.kind inlet.received inlet.pass

  -- the same where one word more was sent, which isn't noted yet, or one more received
  pub record SentOne (run : Run) (lines : List (Option (ChanQueue S))) (outlet : Outlet S) : Type 0 where
    pub chan : Chan
    pub chan_is : slice_get run.chans outlet.chan ≡ Some chan
    pub right : OutRight run lines outlet.chan chan.kind (suc (length outlet.words.items)) outlet.pass

  pub record ReceivedOne (run : Run) (lines : List (Option (ChanQueue S))) (inlet : Inlet S) : Type 0 where
    pub chan : Chan
    pub chan_is : slice_get run.chans inlet.chan ≡ Some chan
    pub right : InRight run lines inlet.chan chan.kind (suc inlet.received) inlet.pass

  -- what the passes were told, which no send and no receive changes, beside the channel
  abbrev pub told_send : Option (SendPass S) → Option ℕ
  told_send None = None
  told_send (Some pass) = Some (sender_knows pass).told_received

  abbrev pub told_recv : Option (RecvPass S) → Option ℕ
  told_recv None = None
  told_recv (Some pass) = Some (receiver_knows pass).told_sent

  abbrev pub told_out : Outlet S → ℕ × Option ℕ
  told_out outlet = (outlet.chan, told_send outlet.pass)

  abbrev pub told_in : Inlet S → ℕ × Option ℕ
  told_in inlet = (inlet.chan, told_recv inlet.pass)

  -- the word comes next on the channel of the stream, as far as it is one between procs
  abbrev pub NextBy : Run → ℕ → ℕ → Word → Option (SendPass S) → Type 0
  NextBy run c sent word None = Unit {0}
  NextBy run c sent word (Some pass) = slice_get (words_at run (final_cut run) c) sent ≡ Some word

  abbrev pub IsNextOn : Run → Outlet S → Word → Type 0
  IsNextOn run outlet word = NextBy run outlet.chan (length outlet.words.items) word outlet.pass

  -- the word may be tried: it comes next in the stream, or all words were sent and no more ever have room
  abbrev pub PutBy : Run → ℕ → ℕ → Word → Option (SendPass S) → Type 0
  PutBy run c sent word None = Unit {0}
  PutBy run c sent word (Some pass) =
      (slice_get (words_at run (final_cut run) c) sent ≡ Some word)
      ⊎ ((sent ≡ length (words_at run (final_cut run) c)) × (sent ≡ received_at run (final_cut run) c + get_or run.depths c 0))

  abbrev pub MayPut : Run → Outlet S → Word → Type 0
  MayPut run outlet word = PutBy run outlet.chan (length outlet.words.items) word outlet.pass

  -- a receive may be tried: a word is yet to be received, or all words ever were
  abbrev pub TakeBy : Run → ℕ → ℕ → Option (RecvPass S) → Type 0
  TakeBy run c received None = words_at run (final_cut run) c ≡ get_or run.inputs c []
  TakeBy run c received (Some pass) =
      (received < received_at run (final_cut run) c)
      ⊎ ((received ≡ received_at run (final_cut run) c) × (received_at run (final_cut run) c ≡ length (words_at run (final_cut run) c)))

  -- and fewer than 2^62 were
  abbrev pub MayTake : Run → Inlet S → Type 0
  MayTake run inlet = (inlet.received < 2 ^ 62) × TakeBy run inlet.chan inlet.received inlet.pass

  -- no word has room, as far as the pass was told
  abbrev pub FullBy : ℕ → Option (SendPass S) → Type 0
  FullBy sent None = ⊥
  FullBy sent (Some pass) = (sender_knows pass).told_received + (sender_knows pass).depth ≤ sent

  abbrev pub IsFull : Outlet S → Type 0
  IsFull outlet = FullBy (length outlet.words.items) outlet.pass

  -- no word is there, as far as the pass was told
  abbrev pub DryBy : Run → ℕ → ℕ → Option (RecvPass S) → Type 0
  DryBy run c received None = length (get_or run.inputs c []) ≤ received
  DryBy run c received (Some pass) = (receiver_knows pass).told_sent ≤ received

  abbrev pub IsDry : Run → Inlet S → Type 0
  IsDry run inlet = DryBy run inlet.chan inlet.received inlet.pass

  -- the two ends of a channel have told each other their counts: what was received was sent, and what was sent had room
  pub record HaveMet (run : Run) (outlet : Outlet S) (inlet : Inlet S) : Type 0 where
    pub told_sender : told_send outlet.pass ≡ Some inlet.received
    pub told_receiver : told_recv inlet.pass ≡ Some (length outlet.words.items)
    pub received : inlet.received ≤ length outlet.words.items
    pub room : length outlet.words.items ≤ inlet.received + get_or run.depths outlet.chan 0

  -- they are the ends of one channel between procs
  pub record AreEnds (outlet : Outlet S) (inlet : Inlet S) : Type 0 where
    pub chan : outlet.chan ≡ inlet.chan
    pub sends : (pass : SendPass S) × (outlet.pass ≡ Some pass)
    pub receives : (pass : RecvPass S) × (inlet.pass ≡ Some pass)

  -- an outlet of this channel is in the list, or an inlet; or none is
  abbrev pub IsOutletOn : List (Outlet S) → ℕ → Outlet S → Type 0
  IsOutletOn outlets c outlet = (k : ℕ) × (slice_get outlets k ≡ Some outlet) × (outlet.chan ≡ c)

  abbrev pub NoOutletOn : List (Outlet S) → ℕ → Type 0
  NoOutletOn outlets c = (k : ℕ) (outlet : Outlet S) → slice_get outlets k ≡ Some outlet → outlet.chan ≢ c

  abbrev pub IsInletOn : List (Inlet S) → ℕ → Inlet S → Type 0
  IsInletOn inlets c inlet = (k : ℕ) × (slice_get inlets k ≡ Some inlet) × (inlet.chan ≡ c)

  abbrev pub NoInletOn : List (Inlet S) → ℕ → Type 0
  NoInletOn inlets c = (k : ℕ) (inlet : Inlet S) → slice_get inlets k ≡ Some inlet → inlet.chan ≢ c
