-- What an IR proc does in an activation, by a word for each of its sites.
use Rattle.std.specs.Prelude.{ℕ, zero, suc, List, [], get_or}
use Rattle.xb_bits.specs.Word.{Word}
use Rattle.xb_value.specs.declared.value.Value.{Value}
use Rattle.net_core.specs.Behavior.{Turn, Skip}
use Rattle.ir_tree.specs.declared.node.Node.{Node}
use Rattle.ir_tree.specs.declared.package.Channel.{Channel}
use Rattle.ir_tree.specs.NodeValues.{Setting}
use Rattle.ir_tree.specs.Activations.{turns_from}
use Rattle.block_build.specs.Netlist.Turns.{grown}

abbrev pub setting_by : List Channel → Value → (ℕ → Word) → Setting
setting_by channels s words = record { channels = channels; state = s; words = words }

-- what it does at each site where each has this word, whether or not it is received
abbrev pub turns_by_words : List Channel → List Node → Value → (ℕ → Word) → ℕ → Turn
turns_by_words channels nodes s words i = get_or (turns_from (setting_by channels s words) [] 0 nodes) i Skip

-- the words that are received at the sites before an index
abbrev pub gathered : (ℕ → Turn) → (ℕ → Word) → ℕ → List Word
gathered turns words zero = []
gathered turns words (suc i) = grown (turns i) (words i) (gathered turns words i)
