-- The passes of a channel, beside its queue.
use Rattle.std.specs.Prelude.{◌≡◌, ℕ, true, false}
use Rattle.crossbeam_queue.specs.Passes.{view, IsPassOf, ruled_capacity}
use Rattle.chan_queue.specs.Stream.{Stream}
use Rattle.chan_queue.specs.declared.view.View.{View}
use Rattle.chan_queue.specs.declared.pass.SendPass.{SendPass}
use Rattle.chan_queue.specs.declared.pass.RecvPass.{RecvPass}
use Rattle.chan_queue.specs.declared.queue.ChanQueue.{ChanQueue}

module _ {S : Type 0} where
  -- what the sender's pass knows, and the receiver's
  abbrev pub sender_knows : SendPass S → View
  sender_knows p = view p.pass

  abbrev pub receiver_knows : RecvPass S → View
  receiver_knows p = view p.pass

  -- it is the pass of the channel's sender
  pub record IsSender (q : ChanQueue S) (p : SendPass S) : Type 0 where
    pub pass : IsPassOf q.line p.pass
    pub sends : (view p.pass).sends ≡ true
    pub opens : (view p.pass).opens ≡ false
    pub depth : (view p.pass).depth ≡ ruled_capacity q.line

  -- it is the pass of the channel's receiver
  pub record IsReceiver (q : ChanQueue S) (p : RecvPass S) : Type 0 where
    pub pass : IsPassOf q.line p.pass
    pub receives : (view p.pass).receives ≡ true
    pub opens : (view p.pass).opens ≡ false

-- what the sender of a stream knows after so many sends, told of so many receipts
abbrev pub sender_of : Stream → ℕ → ℕ → ℕ → View
sender_of stream depth sent told =
    record { sends = true; receives = false; opens = false; words = stream.words; limit = stream.received; depth = depth; sent = sent; told_received = told; received = 0; told_sent = 0 }

-- what its receiver knows after so many receipts, told of so many sends
abbrev pub receiver_of : Stream → ℕ → ℕ → ℕ → View
receiver_of stream depth received told =
    record { sends = false; receives = true; opens = false; words = stream.words; limit = stream.received; depth = depth; sent = 0; told_received = 0; received = received; told_sent = told }
