-- What is promised of the signals of sites.
use Rattle.std.specs.Prelude.{◌≡◌, ℕ, ◌≤◌, Bool, List, map, if◌then◌else◌, slice_get, Option, Some, None}
use Rattle.xb_bits.specs.Word.{Word}
use Rattle.xb_value.specs.declared.value.Value.{Value}
use Rattle.xb_value.specs.Typing.{IsOfType}
use Rattle.xb_value.specs.Width.{width_of, HasWidths}
use Rattle.net_core.specs.Behavior.{IsWordOf}
use Rattle.ir_tree.specs.declared.ir_type.IrType.{IrType}
use Rattle.ir_tree.specs.declared.node.Operand.{Operand}
use Rattle.ir_tree.specs.declared.package.Channel.{Channel}
use Rattle.ir_tree.specs.Activations.{sent}
use Rattle.ir_tree.specs.NodeValues.{channel_type, received}
use Rattle.ir_tree.specs.Types.{ty_of}
use Rattle.ir_tree.specs.Rules.Fitting.{type_in}
use Rattle.vlog_tree.specs.declared.expression.Atom.{Atom}
use Rattle.vlog_tree.specs.Value.{Values, bit, atom_value}
use Rattle.block_build.specs.declared.netlist.scopes.Scope.{Scope}
use Rattle.block_build.specs.Netlist.Leaves.{ShowsValue, cut_into, first_or, leaf_widths}
use Rattle.block_build.specs.Netlist.Literals.{literal_atom}
use Rattle.block_build.specs.Netlist.Pure.{scope_types, shown_in}

-- the signal that says whether a site is on
abbrev pub on_signal : Scope → Option Operand → Atom
on_signal scope None = literal_atom 1 1
on_signal scope (Some o) = first_or (shown_in scope o)

-- where a signal carries a word of a type, or the word doesn't count, these carry the numbers in it, or 0 each
abbrev pub CutsWord : Values → IrType → ℕ → Atom → List Atom → Type 0
CutsWord v t has on numbers =
    (b : Bool) (x : Word) → HasWidths (ty_of t) → v has ≡ x → IsWordOf (width_of (ty_of t)) x → atom_value v on ≡ bit b
    → map (atom_value v) numbers ≡ cut_into (leaf_widths (ty_of t)) (if b then x.value else 0)

-- where a signal carries a word of a channel, these show what a receive gives that has it
abbrev pub ShowsReceived : Values → List Channel → ℕ → ℕ → Atom → List Atom → Type 0
ShowsReceived v channels c has on numbers =
    (t : IrType) (b : Bool) (x : Word) → channel_type channels c ≡ Some t → HasWidths (ty_of t) → v has ≡ x → IsWordOf (width_of (ty_of t)) x → atom_value v on ≡ bit b
    → ShowsValue v numbers (received channels c b x)

-- where the signals of the second operand show a value, the word that is sent of it stands on a signal
abbrev pub CarriesSent : Values → Scope → List Operand → Atom → Type 0
CarriesSent v scope operands word =
    (o : Operand) (value : Value) → slice_get operands 1 ≡ Some o → let t = ty_of (type_in (scope_types scope) o) in IsOfType t value → 1 ≤ width_of t → width_of t ≤ 128
    → ShowsValue v (shown_in scope o) value → atom_value v word ≡ sent value
