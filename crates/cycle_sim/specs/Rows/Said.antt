-- What an item of a row says of a module's channels.
use Rattle.std.specs.Prelude.{◌≡◌, ◌&&◌, ◌<◌, nat_lt, ℕ, suc, min, max, Bool, true, false, List, [], ◌∷◌, map, replicate, length, bytes_eq, slice_set, slice_get, Option, Some, None, option_map, unwrap_or, if◌then◌else◌}
use Rattle.xb_bits.specs.Word.{Word}
use Rattle.xb_value.specs.declared.token.Token.{Token}
use Rattle.xb_value.specs.declared.ty.Ty.{Ty}
use Rattle.xb_value.specs.declared.ty.Ty.TheVariants.{Bits}
use Rattle.xb_value.specs.declared.value.Value.{Value}
use Rattle.xb_value.specs.Flat.{flat_of}
use Rattle.xb_value.specs.Form.{Spells}
use Rattle.xb_value.specs.Reads.{Reads as ReadsValue}
use Rattle.xb_value.specs.Misfit.{Misfits}
use Rattle.chan_file.specs.declared.refusal.Cause.{Cause}
use Rattle.chan_file.specs.declared.refusal.Cause.TheVariants.{Syntax, Name, Twice, Kind}
use Rattle.vlog_tree.specs.declared.module.Direction.{Direction}
use Rattle.vlog_tree.specs.declared.module.Direction.TheVariants.{Input, Output}
use Rattle.vlog_tree.specs.declared.row.Drive.{Drive}
use Rattle.vlog_tree.specs.declared.row.Drive.TheVariants.{Offer, Ready}
use Rattle.vlog_tree.specs.Signals.{Channel}
use Rattle.cycle_sim.specs.declared.rows.draft.Draft.{Draft}
use Rattle.cycle_sim.specs.declared.rows.item.Said.{Said}
use Rattle.cycle_sim.specs.declared.rows.item.Said.TheVariants.{Drives, Misfit, Wrong}
use Rattle.cycle_sim.specs.declared.rows.item.Valued.{Valued}
use Rattle.cycle_sim.specs.declared.rows.item.Valued.TheVariants as valued
use Rattle.cycle_sim.specs.Rows.Forms.{item_form, no_item, offers, readies}

-- ---- channels by their names

-- the index of the first of these names that is q, where the first one has index i
abbrev pub named_from : ℕ → List (List ℕ) → List ℕ → Option ℕ
named_from i [] q = None
named_from i (name ∷ names) q = if bytes_eq name q then Some i else named_from (suc i) names q

abbrev pub names_of : List Channel → List (List ℕ)
names_of channels = map (λ c. c.name) channels

-- the channel is there, and has this direction
abbrev pub is_direction : Direction → Direction → Bool
is_direction Input Input = true
is_direction Output Output = true
is_direction _ _ = false

abbrev pub directed : Direction → Option Channel → Bool
directed direction None = false
directed direction (Some channel) = is_direction direction channel.direction

abbrev pub if_directed : List Channel → Direction → Option ℕ → Option ℕ
if_directed channels direction None = None
if_directed channels direction (Some c) = if directed direction (slice_get channels c) then Some c else None

-- the number of the channel of this name, if it has this direction
abbrev pub channel_named : List Channel → Direction → List ℕ → Option ℕ
channel_named channels direction name = if_directed channels direction (named_from 0 (names_of channels) name)

-- the width of a channel's words; 1 where there is no channel
abbrev pub word_width : ℕ → ℕ
word_width width = max 1 (min width 128)

abbrev pub width_at : List Channel → Option ℕ → ℕ
width_at channels None = 1
width_at channels (Some c) = word_width (unwrap_or (option_map (λ (channel : Channel). channel.width) (slice_get channels c)) 1)

-- ---- items

-- what a text says as a word of this width
abbrev pub SaysValue : ℕ → List ℕ → Valued → Type 0
SaysValue width text (valued.Word w) = (v : Value) × ReadsValue text (Bits width) v × (w ≡ flat_of v)
SaysValue width text valued.NoValue = (ts : List Token) → Spells text ts → ⊥
SaysValue width text valued.Misfit = (at : ℕ) × Misfits text (Bits width) at

-- the row has named the channel
abbrev pub was_named : List Bool → ℕ → Bool
was_named named c = unwrap_or (slice_get named c) false

abbrev pub ready_said : List Bool → Option ℕ → Said
ready_said named None = Wrong Name
ready_said named (Some c) = if was_named named c then Wrong Twice else Drives c (Ready true)

abbrev pub offer_said : List Bool → Option ℕ → Valued → Said
offer_said named o valued.NoValue = Wrong Syntax
offer_said named None v = Wrong Name
offer_said named (Some c) (valued.Word w) = if was_named named c then Wrong Twice else Drives c (Offer (Some w))
offer_said named (Some c) valued.Misfit = if was_named named c then Wrong Twice else Misfit c

-- what an item says, where the row has named these channels before
pub data SaysItem (channels : List Channel) (named : List Bool) (piece : List ℕ) : Said → Type 0 where
  junk : item_form piece ≡ no_item → SaysItem channels named piece (Wrong Syntax)
  ready : (name : List ℕ) → item_form piece ≡ readies name → SaysItem channels named piece (ready_said named (channel_named channels Output name))
  offer : (name text : List ℕ) (v : Valued) → item_form piece ≡ offers name text → SaysValue (width_at channels (channel_named channels Input name)) text v
      → SaysItem channels named piece (offer_said named (channel_named channels Input name) v)

-- ---- all items of a row

-- of two faults of a row the one that is named
abbrev pub rank : Cause → ℕ
rank Syntax = 0
rank Name = 1
rank Twice = 2
rank Kind = 3

abbrev pub worse : Option Cause → Cause → Option Cause
worse None cause = Some cause
worse (Some held) cause = if nat_lt (rank cause) (rank held) then Some cause else Some held

-- a row with one more item
abbrev pub noted : Said → Draft → Draft
noted (Drives c drive) d = record { named = slice_set d.named c true; drives = slice_set d.drives c drive; worst = d.worst }
noted (Misfit c) d = record { named = slice_set d.named c true; drives = d.drives; worst = worse d.worst Kind }
noted (Wrong cause) d = record { named = d.named; drives = d.drives; worst = worse d.worst cause }

-- a channel that a row doesn't name
abbrev pub rest_at : Direction → Drive
rest_at Input = Offer None
rest_at Output = Ready false

abbrev pub blank_draft : List Channel → Draft
blank_draft channels = record { named = replicate (length channels) false; drives = map (λ (c : Channel). rest_at c.direction) channels; worst = None }

-- the items in turn
pub data SaysItems (channels : List Channel) : List (List ℕ) → Draft → Draft → Type 0 where
  done : (d : Draft) → SaysItems channels [] d d
  next : (piece : List ℕ) (pieces : List (List ℕ)) (d e : Draft) (said : Said) → SaysItem channels d.named piece said → SaysItems channels pieces (noted said d) e
      → SaysItems channels (piece ∷ pieces) d e
