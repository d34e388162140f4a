-- What is promised of the signals of a node that is no site.
use Rattle.std.specs.Prelude.{◌≡◌, ℕ, ◌^◌, List, [], ◌∷◌, map, length, take, get_or, Bool, ◌&&◌, min, IsTrue, Option, Some, None}
use Rattle.std.specs.List.{AllByRecursion}
use Rattle.xb_value.specs.declared.value.Value.{Value}
use Rattle.xb_value.specs.Typing.{IsOfType}
use Rattle.delay_model.specs.declared.signature.Count.{Count}
use Rattle.delay_model.specs.Signatures.{is_met}
use Rattle.ir_tree.specs.declared.ir_type.IrType.{IrType, Token}
use Rattle.ir_tree.specs.declared.node.Node.{Node}
use Rattle.ir_tree.specs.declared.node.Operand.{Operand}
use Rattle.ir_tree.specs.declared.package.Channel.{Channel}
use Rattle.ir_tree.specs.declared.package.Proc.{Proc}
use Rattle.ir_tree.specs.NodeTypes.Types.{bits_width, sizes_of, parts_in}
use Rattle.ir_tree.specs.NodeValues.{operand_value, pure_value}
use Rattle.ir_tree.specs.Types.{ty_of, bounded}
use Rattle.ir_tree.specs.Rules.Fitting.{Types, type_in, types_behind, node_fits}
use Rattle.vlog_tree.specs.declared.expression.Atom.{Atom}
use Rattle.vlog_tree.specs.Value.{Values}
use Rattle.block_build.specs.declared.netlist.scopes.Number.{Number}
use Rattle.block_build.specs.declared.netlist.scopes.Scope.{Scope}
use Rattle.block_build.specs.Netlist.Leaves.{ShowsValue, first_or, leaf_counts, parts_of}
use Rattle.block_build.specs.Netlist.Literals.{literal_atom}
use Rattle.block_build.specs.Netlist.Nodes.{operands_read, IsEarlier}
use Rattle.block_build.specs.Netlist.Places.{shown_at}

-- ---- what it reads

-- the types of operands, and their signals
abbrev pub scope_types : Scope → Types
scope_types scope = types_behind scope.state.now scope.before.now

abbrev pub shown_in : Scope → Operand → List Atom
shown_in scope o = shown_at scope.places.now scope.stage o

-- a type that isn't there is a token's
abbrev pub type_given : Option IrType → IrType
type_given None = Token []
type_given (Some t) = t

-- how many bits an operand has that is a number
abbrev pub operand_width : Scope → Operand → ℕ
operand_width scope o = bounded (bits_width (type_in (scope_types scope) o))

-- how many elements an operand has that is an array
abbrev pub first_size : List ℕ → ℕ
first_size [] = 0
first_size (n ∷ ns) = n

abbrev pub operand_size : Scope → Operand → ℕ
operand_size scope o = bounded (first_size (sizes_of (type_in (scope_types scope) o)))

-- an operand that is a number
abbrev pub number_in : Scope → Option Operand → Number
number_in scope None = record { atom = literal_atom 1 0; width = 0 }
number_in scope (Some o) = record { atom = first_or (shown_in scope o); width = operand_width scope o }

-- a scope is that of node k of a proc, and the operands before it have these signals
pub record IsScopeOf (scope : Scope) (channels : List Channel) (proc : Proc) (k : ℕ) (shown : Operand → List Atom) : Type 0 where
  pub of : scope.channels.now ≡ channels
  pub state : scope.state.now ≡ proc.state
  pub before : scope.before.now ≡ take k proc.nodes
  pub earlier : (o : Operand) → IsEarlier k o → shown o ≡ shown_in scope o

-- ---- what it shows

-- an operand has a value of its type, and its signals show it
pub record IsOperandShown (v : Values) (scope : Scope) (s : Value) (values : List Value) (o : Operand) : Type 0 where
  pub typed : IsOfType (ty_of (type_in (scope_types scope) o)) (operand_value s values o)
  pub shows : ShowsValue v (shown_in scope o) (operand_value s values o)

-- whatever values there are: where what is read has values of its types and its signals show them, and the value that is made of them
-- is of its type, the signals show that
abbrev pub ShowsResult : Values → Scope → List Operand → IrType → Bool → (Value → List Value → Value) → List Atom → Type 0
ShowsResult v scope read t fits value own =
    (s : Value) (values : List Value) → AllByRecursion (IsOperandShown v scope s values) read → IsTrue fits → IsOfType (ty_of t) (value s values) → ShowsValue v own (value s values)

-- of an operation on so many operands
abbrev pub ShowsOperation : Values → Scope → Count → List Operand → (IrType → Bool) → (List Value → Value) → List Atom → Type 0
ShowsOperation v scope count operands fits operation own =
    (t : IrType) → ShowsResult v scope operands t (is_met count (length operands) && fits t) (λ s values. operation (map (operand_value s values) operands)) own

-- of a node that fits
abbrev pub PureShows : Values → Scope → Node → List Atom → Type 0
PureShows v scope n own = ShowsResult v scope (operands_read n) n.ty (node_fits scope.channels.now (scope_types scope) n) (pure_value n) own

-- ---- parts

-- of an operand that is a tuple the part of an index
abbrev pub part_given : List Atom → ℕ → Option (List IrType) → List Atom
part_given atoms i None = []
part_given atoms i (Some ts) = get_or (parts_of (leaf_counts (map ty_of ts)) atoms) i []

abbrev pub operand_part : Scope → Operand → ℕ → List Atom
operand_part scope o i = part_given (shown_in scope o) i (parts_in (type_in (scope_types scope) o))

-- how many of so many numbers so many bits can have
abbrev pub numbers_below : ℕ → ℕ → ℕ
numbers_below bits count = min count (2 ^ bits)
