-- What the wires of an operation promise: where its operands are numbers of these widths, the signal of its result carries what
-- the operation gives for them.
use Rattle.std.specs.Prelude.{◌≡◌, ℕ, suc, ◌≤◌, ◌^◌, List, [], ◌∷◌, map, length, get_or, Option, Some, None}
use Rattle.xb_bits.specs.Word.{Word}
use Rattle.xb_value.specs.declared.ty.Ty as ty
use Rattle.xb_value.specs.declared.value.Value.{Value}
use Rattle.xb_value.specs.Typing.{IsOfType}
use Rattle.net_core.specs.Behavior.{IsWordOf}
use Rattle.ir_tree.specs.declared.node.Operand.{Operand}
use Rattle.ir_tree.specs.Constants.{no_value}
use Rattle.ir_tree.specs.NodeValues.{operand_value}
use Rattle.vlog_tree.specs.declared.expression.Atom.{Atom}
use Rattle.vlog_tree.specs.Value.{Values, atom_value}
use Rattle.block_build.specs.Netlist.Leaves.{ShowsValue}

abbrev pub GivesOne : Values → ℕ → (Word → Word) → Atom → Atom → Type 0
GivesOne v w f a result = (x : Word) → IsWordOf w x → atom_value v a ≡ x → atom_value v result ≡ f x

abbrev pub GivesTwo : Values → ℕ → ℕ → (Word → Word → Word) → Atom → Atom → Atom → Type 0
GivesTwo v w u f a b result = (x y : Word) → IsWordOf w x → IsWordOf u y → atom_value v a ≡ x → atom_value v b ≡ y → atom_value v result ≡ f x y

-- the signals are numbers of these widths, and show these values
abbrev pub ShowWords : Values → List ℕ → List Atom → List Value → Type 0
ShowWords v [] [] [] = Unit {0}
ShowWords v (w ∷ ws) (a ∷ atoms) (x ∷ xs) = IsOfType (ty.Bits w) x × ShowsValue v (a ∷ []) x × ShowWords v ws atoms xs
ShowWords v _ _ _ = ⊥

-- what stands for all cases from one on: the default, behind all cases; or where there is none, and the selector of so many bits
-- has no more numbers than there are cases, the last case
abbrev pub StandsForRest : Value → List Value → List Operand → Option Operand → ℕ → ℕ → Value → Type 0
StandsForRest s values cases None w m other = (2 ^ w ≤ length cases) × (suc m ≡ length cases) × (other ≡ get_or (map (operand_value s values) cases) m no_value)
StandsForRest s values cases (Some d) w m other = (m ≡ length cases) × (other ≡ operand_value s values d)
