-- The inputs of a network by their names, and which of them were named.
use Rattle.std.specs.Prelude.{◌≡◌, ◌<◌, ℕ, false, List, [], ◌∷◌, length, get_or, Option, Some, None}
use Rattle.std.specs.BTreeMap.{BTreeMap, get_by}
use Rattle.std.specs.Cmp.Lexicographic.{slice_cmp}
use Rattle.std.specs.Ordering.{nat_cmp}
use denote.Ref.{Bor}
use Rattle.net_core.specs.declared.net.Net.{Net}
use Rattle.chan_file.specs.declared.named.Named.{Named}
use Rattle.chan_file.specs.ChannelFile.{input_named, was_named}

-- the map has the number of each input, by its name
abbrev pub KnowsInputs : Net → BTreeMap (Bor (List ℕ)) ℕ → Type 0
KnowsInputs net m = (name : List ℕ) → get_by (λ k. slice_cmp nat_cmp name k.now) m ≡ input_named net name

abbrev pub last_of : List ℕ → Option ℕ
last_of [] = None
last_of (c ∷ cs) = Some c

-- of so many channels these were named, the last of them first
pub record HasNamed (count : ℕ) (named : List ℕ) (x : Named) : Type 0 where
  pub count_is : length x.flags.items ≡ count
  pub last : x.last ≡ last_of named
  pub within : (c : ℕ) → x.last ≡ Some c → c < count
  pub flags : (c : ℕ) → c < count → get_or x.flags.items c false ≡ was_named c named
