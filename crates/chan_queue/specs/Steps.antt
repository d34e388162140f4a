-- What a step tells the pass that makes it.
use Rattle.std.specs.Prelude.{◌≡◌, ℕ, suc, slice_get, Some}
use Rattle.xb_bits.specs.Word.{Word}
use Rattle.chan_queue.specs.Stream.{Stream}
use Rattle.chan_queue.specs.declared.view.View.{View}
use Rattle.chan_queue.specs.declared.item.Item.{Item}
use Rattle.chan_queue.specs.declared.item.Item.TheVariants as item
use Rattle.chan_queue.specs.Channel.{opened}

module _ {S : Type 0} where
  -- a channel opens: its passes know its stream
  abbrev pub Opens : (S → ℕ → Stream) → View → Item S → View → Type 0
  Opens stream v (item.Opening x) w = w ≡ opened (stream x.run x.chan) x.depth
  Opens stream v (item.Word word) w = Unit {0}

  -- the item is this word
  abbrev pub IsItemOf : Item S → Word → Type 0
  IsItemOf (item.Opening x) word = ⊥
  IsItemOf (item.Word v) word = v ≡ word

  -- the next word of the stream is sent
  abbrev pub Sends : View → Item S → View → Type 0
  Sends v x w = (w ≡ record v { sent = suc v.sent }) × ((word : Word) × IsItemOf x word × (slice_get v.words v.sent ≡ Some word))

  -- the next word of the stream is received
  abbrev pub Receives : View → Item S → View → Type 0
  Receives v x w = (w ≡ record v { received = suc v.received }) × ((word : Word) × IsItemOf x word × (slice_get v.words v.received ≡ Some word))
