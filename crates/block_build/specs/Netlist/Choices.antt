-- The wires of a choice between values: one for each number in them.
use Rattle.std.specs.Prelude.{◌≡◌, ℕ, ◌-◌, ◌<◌, ◌≤◌, ◌^◌, min, List, [], ◌∷◌, length, get_or, ◌==◌, nat_lt, if◌then◌else◌}
use Rattle.xb_bits.specs.Word.{word}
use Rattle.xb_value.specs.declared.value.Value.{Value}
use Rattle.vlog_tree.specs.declared.expression.Atom.{Atom}
use Rattle.vlog_tree.specs.declared.expression.Binary.TheVariants as binary
use Rattle.vlog_tree.specs.Value.{Values, atom_value}
use Rattle.ir_tree.specs.Constants.{no_value}
use Rattle.block_build.specs.Netlist.Wires.{Wire}
use Rattle.block_build.specs.Netlist.Gates.{net, choice_gate, binary_gate}
use Rattle.block_build.specs.Netlist.Leaves.{ShowsValue}

-- where the bit is 1 the first, else the second, of values with numbers of these widths
abbrev pub choice_wires : Atom → List ℕ → List Atom → List Atom → List Wire
choice_wires bit [] firsts seconds = []
choice_wires bit (w ∷ ws) [] seconds = []
choice_wires bit (w ∷ ws) (a ∷ firsts) [] = []
choice_wires bit (w ∷ ws) (a ∷ firsts) (b ∷ seconds) = choice_gate w bit a b ∷ choice_wires bit ws firsts seconds

-- where a number is this one the first, else the second: from wire k on
abbrev pub pick_wires : ℕ → Atom → Atom → List ℕ → List Atom → List Atom → List Wire
pick_wires k selector number ws firsts seconds = binary_gate 1 binary.Equal selector number ∷ choice_wires (net k) ws firsts seconds

-- the value at an index below i, else another: what is so far chosen where the indices are compared in turn
abbrev pub chosen_below : ℕ → ℕ → Value → List Value → Value
chosen_below n i other values = if nat_lt n i then get_or values n no_value else other

-- ---- what is chosen

-- a signal of so many bits has this number
pub record CarriesNumber (v : Values) (a : Atom) (bits n : ℕ) : Type 0 where
  pub some : 1 ≤ bits
  pub most : bits ≤ 128
  pub range : n < 2 ^ bits
  pub is : atom_value v a ≡ word bits n

-- each of these values has so many signals
abbrev pub HaveCount : ℕ → List (List Atom) → Type 0
HaveCount n values = (i : ℕ) → i < length values → length (get_or values i []) ≡ n

-- and they show the first of these
abbrev pub ShowEach : Values → List (List Atom) → List Value → Type 0
ShowEach v values xs = (i : ℕ) → i < length values → ShowsValue v (get_or values i []) (get_or xs i no_value)

-- of values of so many numbers, some and another, the one that is chosen among those before an index
abbrev pub ShowsChosen : Values → Atom → ℕ → ℕ → List (List Atom) → List Atom → ℕ → List Atom → Type 0
ShowsChosen v selector bits count values other i chosen =
    (n : ℕ) (xs : List Value) (y : Value) → CarriesNumber v selector bits n → length values ≤ 2 ^ bits → HaveCount count values → length other ≡ count
    → ShowEach v values xs → ShowsValue v other y → ShowsValue v chosen (chosen_below n i y xs)

-- the value at an index behind an update
abbrev pub ShowsUpdated : Values → Atom → ℕ → ℕ → List Atom → ℕ → List Atom → List Atom → Type 0
ShowsUpdated v index bits count element i old new =
    (n : ℕ) (e x : Value) → CarriesNumber v index bits n → length element ≡ count → length old ≡ count
    → ShowsValue v element e → ShowsValue v old x → ShowsValue v new (if n == i then e else x)

-- of an array's elements those before an index
abbrev pub ShowAllUpdated : Values → Atom → ℕ → ℕ → List Atom → List (List Atom) → List (List Atom) → Type 0
ShowAllUpdated v index bits count element elements updated =
    (n j : ℕ) (e : Value) (xs : List Value) → CarriesNumber v index bits n → length element ≡ count → HaveCount count elements
    → ShowsValue v element e → ShowEach v elements xs → j < length updated → ShowsValue v (get_or updated j []) (if n == j then e else get_or xs j no_value)

-- the element at an index, or the last one where only so many bits' numbers and those of elements count
abbrev pub ShowsElement : Values → Atom → ℕ → ℕ → List (List Atom) → List Atom → Type 0
ShowsElement v a bits count elements element =
    (n : ℕ) (xs : List Value) → CarriesNumber v a bits n → length xs ≡ length elements → HaveCount count elements → ShowEach v elements xs
    → ShowsValue v element (chosen_below n (min (length elements - 1) (2 ^ bits)) (get_or xs (length elements - 1) no_value) xs)
