-- What a channel's queue holds, and what its passes know.
use Rattle.std.specs.Prelude.{◌≡◌, ℕ, ◌+◌, ◌<◌, ◌≤◌, ◌⊎◌, Bool, true, false, List, [], ◌∷◌, length, take, drop, map, slice_get, Some}
use mathlib.Core.Option.{some}
use lib.ListN.{get_elem?}
use Rattle.xb_bits.specs.Word.{Word}
use Rattle.chan_queue.specs.Stream.{Stream}
use Rattle.chan_queue.specs.declared.view.View.{View}
use Rattle.chan_queue.specs.declared.item.Item.{Item}
use Rattle.chan_queue.specs.declared.item.Item.TheVariants as item

-- a channel at a moment: its stream and depth, whether its opening lies in the queue, how many words were sent and
-- received, and the numbers of the passes that may send and receive
pub record ChannelState : Type 0 where
  pub words : List Word
  pub limit : ℕ
  pub depth : ℕ
  pub opens : Bool
  pub sent : ℕ
  pub received : ℕ
  pub sender : ℕ
  pub receiver : ℕ

-- what the sender's pass knows
pub record KnowsSending (at : ChannelState) (pass : ℕ) (v : View) : Type 0 where
  pub only : pass ≡ at.sender
  pub opens : v.opens ≡ at.opens
  pub words : v.words ≡ at.words
  pub limit : v.limit ≡ at.limit
  pub depth : v.depth ≡ at.depth
  pub sent : v.sent ≡ at.sent
  pub told : v.told_received ≤ at.received

-- what the receiver's pass knows
pub record KnowsReceiving (at : ChannelState) (pass : ℕ) (v : View) : Type 0 where
  pub only : pass ≡ at.receiver
  pub opens : v.opens ≡ at.opens
  pub words : v.words ≡ at.words
  pub limit : v.limit ≡ at.limit
  pub depth : v.depth ≡ at.depth
  pub received : v.received ≡ at.received
  pub told : v.told_sent ≤ at.sent

module _ {S : Type 0} where
  abbrev pub IsOpening : Item S → Type 0
  IsOpening (item.Opening x) = Unit {0}
  IsOpening (item.Word w) = ⊥

  -- what the queue holds: the words that were sent and not received, or the opening alone
  abbrev pub between : List Word → ℕ → ℕ → List (Item S)
  between words received sent = map item.Word (drop received (take sent words))

  abbrev pub Lies : Bool → List Word → ℕ → ℕ → List (Item S) → Type 0
  Lies true words received sent items = (x : Item S) × (items ≡ x ∷ []) × IsOpening x × (sent ≡ 0) × (received ≡ 0)
  Lies false words received sent items = items ≡ between words received sent

  -- the rule of a channel
  pub record IsChannel (items : List (Item S)) (views : List View) : Type 0 where
    pub at : ChannelState
    pub lies : Lies at.opens at.words at.received at.sent items
    -- only what was sent is received, the stream is all that is sent, and no more is received than in the end
    pub received : at.received ≤ at.sent
    pub sent : at.sent ≤ length at.words
    pub limit : at.received ≤ at.limit
    -- what was sent had room
    pub room : at.sent ≤ at.received + at.depth
    -- one pass at most may send, and one may receive
    pub sender : (pass : ℕ) (v : View) → get_elem? views pass ≡ some v → v.sends ≡ true → KnowsSending at pass v
    pub receiver : (pass : ℕ) (v : View) → get_elem? views pass ≡ some v → v.receives ≡ true → KnowsReceiving at pass v

-- what a new pass knows, before the channel opens
abbrev pub unopened : View
unopened = record { sends = true; receives = true; opens = false; words = []; limit = 0; depth = 0; sent = 0; told_received = 0; received = 0; told_sent = 0 }

-- a channel opens, with this stream
abbrev pub opened : Stream → ℕ → View
opened stream depth = record { sends = true; receives = true; opens = true; words = stream.words; limit = stream.received; depth = depth; sent = 0; told_received = 0; received = 0; told_sent = 0 }

-- the sender's pass and the receiver's, where each is told all
abbrev pub sending : View → View
sending v = record { sends = true; receives = false; opens = v.opens; words = v.words; limit = v.limit; depth = v.depth; sent = v.sent; told_received = v.received; received = 0; told_sent = 0 }

abbrev pub receiving : View → View
receiving v = record { sends = false; receives = true; opens = v.opens; words = v.words; limit = v.limit; depth = v.depth; sent = 0; told_received = 0; received = v.received; told_sent = v.sent }

-- the two put together
abbrev pub both : View → View → View
both v w = record v { receives = true; received = w.received; told_sent = w.told_sent }

abbrev pub spent : View
spent = record { sends = false; receives = false; opens = false; words = []; limit = 0; depth = 0; sent = 0; told_received = 0; received = 0; told_sent = 0 }

-- the next word of the stream is sent, or all its words were and no more ever have room
abbrev pub MaySend : View → Word → Type 0
MaySend v word = (slice_get v.words v.sent ≡ Some word) ⊎ ((v.sent ≡ length v.words) × (v.sent ≡ v.limit + v.depth))

-- a word is yet to be received, or all words ever were
abbrev pub MayReceive : View → Type 0
MayReceive v = (v.received < v.limit) ⊎ ((v.received ≡ v.limit) × (v.limit ≡ length v.words))

-- what a channel's passes know together, where both are in one hand
pub record IsTold (v : View) : Type 0 where
  pub received : v.received ≤ v.sent
  pub sent : v.sent ≤ length v.words
  pub limit : v.received ≤ v.limit
  pub room : v.sent ≤ v.received + v.depth
