-- What a proc does in an activation.
use Rattle.std.specs.Prelude.{ℕ, nat_le, ◌&&◌, if◌then◌else◌, Bool, true, false, List, [], ◌∷◌, ◌++◌, drop, get_or, slice_get, Option, Some, None}
use Rattle.xb_bits.specs.Word.{Word, word}
use Rattle.xb_value.specs.declared.value.Value.{Value}
use Rattle.xb_value.specs.Flat.{flat_of}
use Rattle.xb_value.specs.Width.{width_of}
use Rattle.net_core.specs.declared.net.Site.{Site}
use Rattle.net_core.specs.Behavior.{Behavior, Turn, Skip, Receive, Give}
use Rattle.ir_tree.specs.declared.ir_type.IrType.{IrType}
use Rattle.ir_tree.specs.declared.node.Node.{Node}
use Rattle.ir_tree.specs.declared.node.Role.{Role}
use Rattle.ir_tree.specs.declared.node.Role.TheVariants as role
use Rattle.ir_tree.specs.declared.package.Channel.{Channel}
use Rattle.ir_tree.specs.declared.package.Proc.{Proc}
use Rattle.ir_tree.specs.Types.{ty_of}
use Rattle.ir_tree.specs.Constants.{no_value}
use Rattle.ir_tree.specs.NodeValues.{role_of, Setting, operand_value, optional_value, is_on, received, pure_value, no_word, next_site, value_by, node_values, channel_type}

-- ---- its sites, in line order

abbrev pub sites_by : Role → List Site → List Site
sites_by role.Pure sites = sites
sites_by (role.Receive predicate c) sites = record { chan = c; sends = false } ∷ sites
sites_by (role.Send predicate c) sites = record { chan = c; sends = true } ∷ sites

abbrev pub sites_of : List Node → List Site
sites_of [] = []
sites_of (n ∷ ns) = sites_by (role_of n) (sites_of ns)

-- ---- what it does at each

-- the flat word of a value of 1 to 128 bits; another value has none
abbrev pub word_where : Bool → Word → Word
word_where true x = x
word_where false x = word 1 0

abbrev pub sent : Value → Word
sent v = let x = flat_of v in word_where (nat_le 1 x.width && nat_le x.width 128) x

-- what a send carries is its second operand
abbrev pub sent_by : Node → Value → List Value → Word
sent_by n s values = sent (optional_value s values (slice_get n.operands 1))

abbrev pub turns_by : Setting → List Value → Node → Role → List Turn → List Turn
turns_by m values n role.Pure turns = turns
turns_by m values n (role.Receive predicate c) turns = (if is_on m.state values predicate then Receive else Skip) ∷ turns
turns_by m values n (role.Send predicate c) turns = (if is_on m.state values predicate then Give (sent_by n m.state values) else Skip) ∷ turns

-- what it does at the sites among these nodes, where those before have these values and i sites stand among them
unfoldable pub turns_from : Setting → List Value → ℕ → List Node → List Turn
turns_from m values i [] = []
turns_from m values i (n ∷ ns) =
    turns_by m values n (role_of n) (turns_from m (values ++ value_by m values i n ∷ []) (next_site i (role_of n)) ns)

-- ---- words received in order, as each site's word

abbrev pub first_word : List Word → Word
first_word [] = no_word
first_word (w ∷ ws) = w

-- the words of the sites among these nodes: that of a receive which is on is the next of those that are left
unfoldable pub words_from : List Channel → Value → List Value → List Word → List Node → List Word
words_from channels s values left [] = []
words_from channels s values left (n ∷ ns) =
    elim (role_of n) [
      | role.Pure ↦ words_from channels s (values ++ pure_value n s values ∷ []) left ns
      | role.Receive predicate c ↦ (elim (is_on s values predicate) [
        | true ↦ first_word left ∷ words_from channels s (values ++ received channels c true (first_word left) ∷ []) (drop 1 left) ns
        | false ↦ no_word ∷ words_from channels s (values ++ received channels c false no_word ∷ []) left ns
      ])
      | role.Send predicate c ↦ no_word ∷ words_from channels s (values ++ no_value ∷ []) left ns
    ]

abbrev pub site_words : List Word → ℕ → Word
site_words words i = get_or words i no_word

-- an activation from a state in which these words are received in order
abbrev pub setting_of : List Channel → List Node → Value → List Word → Setting
setting_of channels nodes s got =
    record { channels = channels; state = s; words = site_words (words_from channels s [] got nodes) }

-- ---- the proc

abbrev pub turns_of : List Channel → List Node → Value → List Word → List Turn
turns_of channels nodes s got = turns_from (setting_of channels nodes s got) [] 0 nodes

abbrev pub next_state_of : List Channel → Proc → Value → List Word → Value
next_state_of channels proc s got =
    operand_value s (node_values (setting_of channels proc.nodes s got) proc.nodes) proc.next

abbrev pub width_at : Option IrType → ℕ
width_at None = 0
width_at (Some t) = width_of (ty_of t)

-- what a proc of a package with these channels does
unfoldable pub activation : List Channel → Proc → Behavior
activation channels proc =
    record {
      state = ty_of proc.state;
      sites = sites_of proc.nodes;
      width = λ c. width_at (channel_type channels c);
      turn = λ s got i. get_or (turns_of channels proc.nodes s got) i Skip;
      next_state = next_state_of channels proc;
    }
