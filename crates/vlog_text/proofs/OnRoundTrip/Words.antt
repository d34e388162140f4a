-- The words of a printed module, and what they say where they are read.
use Rattle.std.proofs.Common.{◌-◌, ◌<◌, ◌≤◌, ◌==◌, ◌&&◌, ℕ, Bool, List, [], ◌∷◌, ◌++◌, map, length, Option, Some, None}
use Rattle.std.specs.Prelude.{codes, decimal, min, if◌then◌else◌}
use Rattle.std.specs.List.{AllByRecursion}
use Rattle.vlog_tree.specs.declared.module.VModule.{VModule}
use Rattle.vlog_tree.specs.declared.module.Port.{Port}
use Rattle.vlog_tree.specs.declared.module.Declaration.{Declaration}
use Rattle.vlog_tree.specs.declared.module.Assignment.{Assignment}
use Rattle.vlog_tree.specs.declared.module.Set.{Set}
use Rattle.vlog_tree.specs.declared.module.Direction.{Direction}
use Rattle.vlog_tree.specs.declared.module.Direction.TheVariants as directions
use Rattle.vlog_tree.specs.declared.module.Storage.{Storage}
use Rattle.vlog_tree.specs.declared.module.Storage.TheVariants as storages
use Rattle.vlog_tree.specs.declared.signal.Signal.{Signal}
use Rattle.vlog_tree.specs.declared.expression.Atom.{Atom}
use Rattle.vlog_tree.specs.declared.expression.Atom.TheVariants as atom
use Rattle.vlog_tree.specs.declared.expression.Binary.{Binary}
use Rattle.vlog_tree.specs.declared.expression.Binary.TheVariants as binary
use Rattle.vlog_tree.specs.declared.expression.Order.{Order}
use Rattle.vlog_tree.specs.declared.expression.Order.TheVariants as order
use Rattle.vlog_tree.specs.declared.expression.Simple.{Simple}
use Rattle.vlog_tree.specs.declared.expression.Simple.TheVariants as simple
use Rattle.vlog_tree.specs.declared.expression.Expr.{Expr}
use Rattle.vlog_tree.specs.declared.expression.Expr.TheVariants as expr
use Rattle.vlog_tree.specs.Signals.{signals}
use Rattle.vlog_tree.specs.Sound.{IsKnown, IsKnownAtom}
use Rattle.vlog_text.specs.Token.TokenPrefixes.{width_said}
use Rattle.vlog_text.specs.Builder.Parts.{literal_of, most, name_text, signal_of}
use Rattle.vlog_text.specs.Builder.Rules.{declaration_by, port_by}
use Rattle.vlog_text.specs.RoundTrip.Names.{IsTextName}
use Rattle.vlog_text.specs.Printer.Parts.{atom_text, literal_text, signal_text, unary_text}

-- ---- words

abbrev pub order_word : Order → List ℕ
order_word order.Less = codes "<"
order_word order.LessOrEqual = codes "<="
order_word order.Greater = codes ">"
order_word order.GreaterOrEqual = codes ">="

abbrev pub binary_word : Binary → List ℕ
binary_word binary.Add = codes "+"
binary_word binary.Subtract = codes "-"
binary_word binary.Multiply = codes "*"
binary_word binary.Divide = codes "/"
binary_word binary.Remainder = codes "%"
binary_word binary.And = codes "&"
binary_word binary.Or = codes "|"
binary_word binary.Xor = codes "^"
binary_word binary.Equal = codes "=="
binary_word binary.NotEqual = codes "!="
binary_word (binary.Ordered o) = order_word o
binary_word binary.ShiftLeft = codes "<<"
binary_word binary.ShiftRight = codes ">>"

-- the words behind the first atom in braces
abbrev pub more_words : VModule → List Atom → List (List ℕ)
more_words m [] = []
more_words m (a ∷ atoms) = codes "," ∷ atom_text m a ∷ more_words m atoms

abbrev pub listed_words : VModule → List Atom → List (List ℕ)
listed_words m [] = []
listed_words m (a ∷ atoms) = atom_text m a ∷ more_words m atoms

abbrev pub slice_words : ℕ → ℕ → List (List ℕ)
slice_words high low = codes "[" ∷ decimal high ∷ codes ":" ∷ decimal low ∷ codes "]" ∷ []

abbrev pub simple_words : VModule → Simple → List (List ℕ)
simple_words m (simple.Atom a) = atom_text m a ∷ []
simple_words m (simple.Binary operator a b) = atom_text m a ∷ binary_word operator ∷ atom_text m b ∷ []
simple_words m (simple.Unary operator a) = unary_text operator ∷ atom_text m a ∷ []
simple_words m (simple.Slice s high low) = signal_text m s.0 ∷ slice_words high low
simple_words m (simple.Concat atoms) = codes "{" ∷ (listed_words m atoms ++ codes "}" ∷ [])

abbrev pub choice_words : VModule → Simple → Simple → List (List ℕ)
choice_words m a b = codes "?" ∷ (simple_words m a ++ codes ":" ∷ simple_words m b)

abbrev pub expr_words : VModule → Expr → List (List ℕ)
expr_words m (expr.Simple x) = simple_words m x
expr_words m (expr.SignedOrder o a b) =
    codes "$signed" ∷ codes "(" ∷ signal_text m a.0 ∷ codes ")" ∷ order_word o ∷ codes "$signed" ∷ codes "(" ∷ signal_text m b.0 ∷ codes ")" ∷ []
expr_words m (expr.SignedShift a k) = codes "$signed" ∷ codes "(" ∷ signal_text m a.0 ∷ codes ")" ∷ codes ">>>" ∷ atom_text m k ∷ []
expr_words m (expr.Choice c a b) = atom_text m c ∷ choice_words m a b

abbrev pub range_words : ℕ → List (List ℕ)
range_words width = if width == 1 then [] else (codes "[" ∷ decimal (width - 1) ∷ codes ":" ∷ codes "0" ∷ codes "]" ∷ [])

abbrev pub direction_word : Direction → List ℕ
direction_word directions.Input = codes "input"
direction_word directions.Output = codes "output"

abbrev pub storage_word : Storage → List ℕ
storage_word storages.Wire = codes "wire"
storage_word storages.Register = codes "reg"

abbrev pub port_words : Port → List (List ℕ)
port_words p = direction_word p.direction ∷ codes "wire" ∷ (range_words p.width ++ p.name ∷ [])

-- the words behind the first port
abbrev pub more_ports_words : List Port → List (List ℕ)
more_ports_words [] = []
more_ports_words (p ∷ ports) = codes "," ∷ (port_words p ++ more_ports_words ports)

abbrev pub ports_words : List Port → List (List ℕ)
ports_words [] = []
ports_words (p ∷ ports) = port_words p ++ more_ports_words ports

abbrev pub declaration_words : Declaration → List (List ℕ)
declaration_words d = storage_word d.storage ∷ (range_words d.width ++ d.name ∷ codes ";" ∷ [])

abbrev pub declarations_words : List Declaration → List (List ℕ)
declarations_words [] = []
declarations_words (d ∷ ds) = declaration_words d ++ declarations_words ds

abbrev pub assignment_words : VModule → Assignment → List (List ℕ)
assignment_words m a = codes "assign" ∷ signal_text m a.target.0 ∷ codes "=" ∷ (expr_words m a.value ++ codes ";" ∷ [])

abbrev pub assignments_words : VModule → List Assignment → List (List ℕ)
assignments_words m [] = []
assignments_words m (a ∷ all) = assignment_words m a ++ assignments_words m all

abbrev pub set_words : VModule → Set → List (List ℕ)
set_words m set = signal_text m set.target.0 ∷ codes "<=" ∷ atom_text m set.value ∷ codes ";" ∷ []

abbrev pub sets_words : VModule → List Set → List (List ℕ)
sets_words m [] = []
sets_words m (set ∷ sets) = set_words m set ++ sets_words m sets

abbrev pub reset_words : VModule → List Set → List (List ℕ)
reset_words m sets = codes "if" ∷ codes "(" ∷ codes "rst" ∷ codes ")" ∷ codes "begin" ∷ (sets_words m sets ++ codes "end" ∷ [])

abbrev pub clock_words : VModule → List Set → List (List ℕ)
clock_words m sets = codes "else" ∷ codes "begin" ∷ (sets_words m sets ++ codes "end" ∷ [])

abbrev pub always_words : VModule → List Set → List Set → List (List ℕ)
always_words m resets clocks =
    codes "always" ∷ codes "@" ∷ codes "(" ∷ codes "posedge" ∷ codes "clk" ∷ codes ")" ∷ codes "begin" ∷ (reset_words m resets ++ (clock_words m clocks ++ codes "end" ∷ []))

abbrev pub is_unclocked : VModule → Bool
is_unclocked m = (length m.at_reset == 0) && (length m.at_clock == 0)

abbrev pub clocked_words : VModule → List (List ℕ)
clocked_words m = if is_unclocked m then [] else always_words m m.at_reset m.at_clock

abbrev pub items_words : VModule → List (List ℕ)
items_words m = declarations_words m.declarations ++ (assignments_words m m.assignments ++ (clocked_words m ++ codes "endmodule" ∷ []))

abbrev pub module_words : VModule → List (List ℕ)
module_words m = codes "module" ∷ m.name ∷ codes "(" ∷ (ports_words m.ports ++ codes ")" ∷ codes ";" ∷ items_words m)

-- ---- what they say, where the signals have these names

abbrev pub said_signal : VModule → List (List ℕ) → Signal → Signal
said_signal m names s = record { 0 = signal_of names (name_text (signal_text m s.0)) }

abbrev pub said_atom : VModule → List (List ℕ) → Atom → Atom
said_atom m names (atom.Signal s) = atom.Signal (said_signal m names s)
said_atom m names (atom.Literal l) = atom.Literal (literal_of (literal_text l))

abbrev pub said_number : ℕ → ℕ
said_number n = min (width_said (decimal n)) most

abbrev pub said_simple : VModule → List (List ℕ) → Simple → Simple
said_simple m names (simple.Atom a) = simple.Atom (said_atom m names a)
said_simple m names (simple.Binary operator a b) = simple.Binary operator (said_atom m names a) (said_atom m names b)
said_simple m names (simple.Unary operator a) = simple.Unary operator (said_atom m names a)
said_simple m names (simple.Slice s high low) = simple.Slice (said_signal m names s) (said_number high) (said_number low)
said_simple m names (simple.Concat atoms) = simple.Concat (map (said_atom m names) atoms)

abbrev pub said_expr : VModule → List (List ℕ) → Expr → Expr
said_expr m names (expr.Simple x) = expr.Simple (said_simple m names x)
said_expr m names (expr.SignedOrder o a b) = expr.SignedOrder o (said_signal m names a) (said_signal m names b)
said_expr m names (expr.SignedShift a k) = expr.SignedShift (said_signal m names a) (said_atom m names k)
said_expr m names (expr.Choice c a b) = expr.Choice (said_atom m names c) (said_simple m names a) (said_simple m names b)

abbrev pub said_range : ℕ → Option ℕ
said_range width = if width == 1 then None else Some (said_number (width - 1))

abbrev pub said_port : Port → Port
said_port p = port_by p.direction (name_text p.name) (said_range p.width)

abbrev pub said_declaration : Declaration → Declaration
said_declaration d = declaration_by d.storage (name_text d.name) (said_range d.width)

abbrev pub said_assignment : VModule → List (List ℕ) → Assignment → Assignment
said_assignment m names a = record { target = said_signal m names a.target; value = said_expr m names a.value }

abbrev pub said_set : VModule → List (List ℕ) → Set → Set
said_set m names set = record { target = said_signal m names set.target; value = said_atom m names set.value }

abbrev pub port_names : List Port → List (List ℕ)
port_names ports = map (λ (p : Port). name_text p.name) ports

abbrev pub declaration_names : List Declaration → List (List ℕ)
declaration_names ds = map (λ (d : Declaration). name_text d.name) ds

-- ---- what has such words

-- the numbers in it are short
abbrev pub IsShort : Simple → Type 0
IsShort (simple.Slice s high low) = (high ≤ 128) × (low ≤ 128)
IsShort (simple.Concat atoms) = (1 ≤ length atoms) × (length atoms ≤ 128)
IsShort _ = Unit {0}

abbrev pub IsShortExpr : Expr → Type 0
IsShortExpr (expr.Simple x) = IsShort x
IsShortExpr (expr.Choice c a b) = IsShort a × IsShort b
IsShortExpr _ = Unit {0}

abbrev pub IsWrittenAssignment : VModule → Assignment → Type 0
IsWrittenAssignment m a = (a.target.0 < length (signals m)) × IsKnown (length (signals m)) a.value × IsShortExpr a.value

abbrev pub IsWrittenSet : VModule → Set → Type 0
IsWrittenSet m set = (set.target.0 < length (signals m)) × IsKnownAtom (length (signals m)) set.value

abbrev pub IsWrittenPort : Port → Type 0
IsWrittenPort p = (p.width ≤ 128) × IsTextName p.name

abbrev pub IsWrittenDeclaration : Declaration → Type 0
IsWrittenDeclaration d = (d.width ≤ 128) × IsTextName d.name

-- each signal is spelled as a name
abbrev pub AreNamed : VModule → Type 0
AreNamed m = (s : ℕ) → s < length (signals m) → IsTextName (signal_text m s)

pub record IsWrittenModule (m : VModule) : Type 0 where
  pub name : IsTextName m.name
  pub named : AreNamed m
  pub ports : AllByRecursion IsWrittenPort m.ports
  pub declarations : AllByRecursion IsWrittenDeclaration m.declarations
  pub assignments : AllByRecursion (IsWrittenAssignment m) m.assignments
  pub resets : AllByRecursion (IsWrittenSet m) m.at_reset
  pub clocks : AllByRecursion (IsWrittenSet m) m.at_clock
