-- How code holds the channels of a module by their names, and the form of an item.
use Rattle.std.specs.Prelude.{◌≡◌, ◌<◌, ℕ, List, ◌∷◌, length, map, Option, Some, None}
use Rattle.std.specs.BTreeMap.{BTreeMap, get_by}
use Rattle.std.specs.Cmp.Lexicographic.{slice_cmp}
use Rattle.std.specs.Ordering.{nat_cmp}
use denote.Ref.{Bor}
use Rattle.vlog_tree.specs.Signals.{Channel, channel_of, channels_at}
use Rattle.vlog_tree.specs.declared.module.Port.{Port}
use Rattle.cycle_sim.specs.declared.rows.channels.Channels.{Channels}
use Rattle.cycle_sim.specs.declared.rows.channels.Shape.{Shape}
use Rattle.cycle_sim.specs.declared.rows.form.Form.{Form}
use Rattle.cycle_sim.specs.declared.rows.form.Form.TheVariants as forms
use Rattle.cycle_sim.specs.Rows.Forms.{ItemForm, no_item, offers, readies}
use Rattle.cycle_sim.specs.Rows.Said.{named_from, names_of}

-- the form of an item, without where its parts lie in memory
abbrev pub form_of : Form → ItemForm
form_of (forms.Offer name text) = offers name.now text.now
form_of (forms.Ready name) = readies name.now
form_of forms.None = no_item

-- what a map has for a name
abbrev pub number_in : BTreeMap (Bor (List ℕ)) ℕ → List ℕ → Option ℕ
number_in m q = get_by (λ k. slice_cmp nat_cmp q k.now) m

abbrev pub shape_of : Channel → Shape
shape_of c = record { direction = c.direction; width = c.width }

-- these are the channels of a module
pub record AreKnown (channels : List Channel) (known : Channels) : Type 0 where
  pub numbers : (q : List ℕ) → number_in known.numbers q ≡ named_from 0 (names_of channels) q
  pub shapes : known.shapes.items ≡ map shape_of channels

-- the first of the two, if it is there
abbrev pub or_else : Option ℕ → Option ℕ → Option ℕ
or_else None o = o
or_else (Some x) o = Some x

-- this is the data port of the first channel of these ports, and these are the ports behind that channel
pub record IsFirst (ports : List Port) (data_port : Port) (rest : List Port) : Type 0 where
  pub channels : channels_at ports ≡ channel_of data_port ∷ channels_at rest
  pub shorter : length rest < length ports
