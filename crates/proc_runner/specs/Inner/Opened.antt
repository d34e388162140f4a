-- The queues of a run's channels, and the rights to send and receive there.
use Rattle.std.specs.Prelude.{◌≡◌, ◌≢◌, ◌<◌, ℕ, List, length, Option, Some, None, slice_get}
use Rattle.chan_queue.specs.Stream.{Stream}
use Rattle.chan_queue.specs.Passes.{IsSender, IsReceiver, sender_knows, receiver_knows, sender_of, receiver_of}
use Rattle.chan_queue.specs.declared.pass.SendPass.{SendPass}
use Rattle.chan_queue.specs.declared.pass.RecvPass.{RecvPass}
use Rattle.chan_queue.specs.declared.queue.ChanQueue.{ChanQueue}
use Rattle.net_core.specs.declared.net.Chan.{Chan}
use Rattle.net_core.specs.declared.net.Kind.{Kind}
use Rattle.net_core.specs.declared.net.Kind.TheVariants.{Input, Output, Inner}
use Rattle.net_core.specs.Cuts.{Run}
use Rattle.proc_task.specs.Ports.{OutRight, InRight}
use Rattle.proc_runner.specs.declared.lines.Line.{Line}

module _ {S : Type 0} where
  -- the queue of a channel between procs, and its two passes, which know this stream
  pub record IsInnerLine (stream : Stream) (depth : ℕ) (line : Line S) : Type 0 where
    pub queue : ChanQueue S
    pub send : SendPass S
    pub recv : RecvPass S
    pub queue_is : line.queue ≡ Some queue
    pub send_is : line.send ≡ Some send
    pub recv_is : line.recv ≡ Some recv
    pub sender : IsSender queue send
    pub receiver : IsReceiver queue recv
    pub sends : sender_knows send ≡ sender_of stream depth 0 0
    pub receives : receiver_knows recv ≡ receiver_of stream depth 0 0

  abbrev pub IsLine : Kind → Stream → ℕ → Line S → Type 0
  IsLine Input stream depth line = (line.send ≡ None) × (line.recv ≡ None)
  IsLine Output stream depth line = (line.send ≡ None) × (line.recv ≡ None)
  IsLine Inner stream depth line = IsInnerLine stream depth line

  -- the right to send on a channel stands at the channel's index, and the right to receive
  abbrev pub HasSend : Run → List (Option (ChanQueue S)) → List (Option (SendPass S)) → ℕ → Chan → Type 0
  HasSend run queues sends c chan = (pass : Option (SendPass S)) × (slice_get sends c ≡ Some pass) × OutRight run queues c chan.kind 0 pass

  abbrev pub HasRecv : Run → List (Option (ChanQueue S)) → List (Option (RecvPass S)) → ℕ → Chan → Type 0
  HasRecv run queues recvs c chan = (pass : Option (RecvPass S)) × (slice_get recvs c ≡ Some pass) × InRight run queues c chan.kind 0 pass

  -- the first so many channels were opened
  pub record AreOpened (run : Run) (count : ℕ) (queues : List (Option (ChanQueue S))) (sends : List (Option (SendPass S))) (recvs : List (Option (RecvPass S))) : Type 0 where
    pub queues_are : length queues ≡ count
    pub sends_are : length sends ≡ count
    pub recvs_are : length recvs ≡ count
    pub send : (c : ℕ) (chan : Chan) → c < count → slice_get run.chans c ≡ Some chan → chan.kind ≢ Input → HasSend run queues sends c chan
    pub recv : (c : ℕ) (chan : Chan) → c < count → slice_get run.chans c ≡ Some chan → chan.kind ≢ Output → HasRecv run queues recvs c chan
