-- Values on signals: one signal for each number in a value, in their order. A token and an empty tuple have none.
use Rattle.std.specs.Prelude.{◌≡◌, ℕ, zero, suc, ◌+◌, ◌/◌, ◌%◌, ◌^◌, ◌≤◌, List, [], ◌∷◌, ◌++◌, map, take, drop, length}
use Rattle.xb_bits.specs.Word.{Word, word}
use Rattle.xb_value.specs.declared.ty.Ty.{Ty, fold-Ty}
use Rattle.xb_value.specs.declared.ty.Ty.TheOpen.{Ty-F}
use Rattle.xb_value.specs.declared.value.Value.{Value, fold-Value}
use Rattle.xb_value.specs.declared.value.Value.TheOpen.{Value-F}
use Rattle.vlog_tree.specs.declared.expression.Atom.{Atom}
use Rattle.vlog_tree.specs.Value.{Values, atom_value}
use Rattle.block_build.specs.Netlist.Gates.{net}
use Rattle.block_build.specs.Netlist.Literals.{literal_atom}

abbrev pub all_leaves : {A : Type 0} → List (List A) → List A
all_leaves [] = []
all_leaves (xs ∷ xss) = xs ++ all_leaves xss

abbrev pub leaves_step : Value-F (List Word) → List Word
leaves_step (Value-F.Bits x) = x ∷ []
leaves_step (Value-F.Tuple xss) = all_leaves xss
leaves_step (Value-F.Array xss) = all_leaves xss

-- the numbers in a value
abbrev pub leaves_of : Value → List Word
leaves_of = fold-Value (List Word) leaves_step

-- the signals carry the numbers of a value
abbrev pub ShowsValue : Values → List Atom → Value → Type 0
ShowsValue v atoms value = map (atom_value v) atoms ≡ leaves_of value

-- so many wires from the one with a number on
abbrev pub nets : ℕ → ℕ → List Atom
nets k zero = []
nets k (suc n) = net k ∷ nets (suc k) n

-- the literal of a number
abbrev pub word_atom : Word → Atom
word_atom x = literal_atom x.width x.value

-- the literals of the numbers in a value
abbrev pub literals_of : Value → List Atom
literals_of value = map word_atom (leaves_of value)

-- the first of some signals
abbrev pub first_or : List Atom → Atom
first_or [] = literal_atom 1 0
first_or (a ∷ atoms) = a

-- ---- by types

-- one list again and again
abbrev pub repeated : {A : Type 0} → ℕ → List A → List A
repeated zero xs = []
repeated (suc n) xs = xs ++ repeated n xs

abbrev pub leaf_widths_step : Ty-F (List ℕ) → List ℕ
leaf_widths_step (Ty-F.Bits w) = w ∷ []
leaf_widths_step (Ty-F.Tuple wss) = all_leaves wss
leaf_widths_step (Ty-F.Array ws n) = repeated n ws

-- how wide the numbers in a value of a type are
abbrev pub leaf_widths : Ty → List ℕ
leaf_widths = fold-Ty (List ℕ) leaf_widths_step

-- the widths of numbers
abbrev pub widths_of_words : List Word → List ℕ
widths_of_words = map (λ (x : Word). x.width)

abbrev pub total_width : List ℕ → ℕ
total_width [] = 0
total_width (w ∷ ws) = w + total_width ws

-- each is the width of a number
abbrev pub AreSome : List ℕ → Type 0
AreSome [] = Unit {0}
AreSome (w ∷ ws) = (1 ≤ w) × AreSome ws

-- the numbers of these widths in a flat number, the first in the high bits
abbrev pub cut_into : List ℕ → ℕ → List Word
cut_into [] n = []
cut_into (w ∷ ws) n = word w (n / 2 ^ total_width ws % 2 ^ w) ∷ cut_into ws n

-- each list of signals shows its value
abbrev pub ShowAll : Values → List (List Atom) → List Value → Type 0
ShowAll v [] [] = Unit {0}
ShowAll v [] (value ∷ values) = ⊥
ShowAll v (atoms ∷ rest) [] = ⊥
ShowAll v (atoms ∷ rest) (value ∷ values) = ShowsValue v atoms value × ShowAll v rest values

-- the parts of a list, where they are so long
abbrev pub parts_of : {A : Type 0} → List ℕ → List A → List (List A)
parts_of [] xs = []
parts_of (n ∷ ns) xs = take n xs ∷ parts_of ns (drop n xs)

-- how many numbers are in the values of types
abbrev pub leaf_counts : List Ty → List ℕ
leaf_counts = map (λ t. length (leaf_widths t))
