-- What a text's tokens and trees do to what is being built, without the places of what was read: the rules of `vlog_text::parser` on
-- states that hold names alone.
use Rattle.std.proofs.Common.{◌≡◌, ◌+◌, ◌==◌, ℕ, Bool, true, false, List, [], ◌∷◌, ◌++◌, map, drop, take, Option, None, Some, refl}
use Rattle.std.specs.Prelude.{min, reverse, if◌then◌else◌}
use Rattle.dslx_token.specs.Lexeme.{Lexeme}
use Rattle.vlog_text.specs.declared.token.rules.generated.kind.TheConstants.{ASSIGN, LITERAL}
use Rattle.vlog_tree.specs.declared.module.VModule.{VModule}
use Rattle.vlog_tree.specs.declared.module.Port.{Port}
use Rattle.vlog_tree.specs.declared.module.Declaration.{Declaration}
use Rattle.vlog_tree.specs.declared.module.Assignment.{Assignment}
use Rattle.vlog_tree.specs.declared.module.Set.{Set}
use Rattle.vlog_tree.specs.declared.module.Direction.{Direction}
use Rattle.vlog_tree.specs.declared.module.Direction.TheVariants as directions
use Rattle.vlog_tree.specs.declared.module.Storage.{Storage}
use Rattle.vlog_tree.specs.declared.module.Storage.TheVariants as storages
use Rattle.vlog_tree.specs.declared.signal.Signal.{Signal}
use Rattle.vlog_tree.specs.declared.expression.Atom.{Atom}
use Rattle.vlog_tree.specs.declared.expression.Atom.TheVariants as atom
use Rattle.vlog_tree.specs.declared.expression.Literal.{Literal}
use Rattle.vlog_tree.specs.declared.expression.Binary.{Binary}
use Rattle.vlog_tree.specs.declared.expression.Binary.TheVariants as binary
use Rattle.vlog_tree.specs.declared.expression.Order.{Order}
use Rattle.vlog_tree.specs.declared.expression.Order.TheVariants as order
use Rattle.vlog_tree.specs.declared.expression.Unary.{Unary}
use Rattle.vlog_tree.specs.declared.expression.Unary.TheVariants as unary
use Rattle.vlog_tree.specs.declared.expression.Simple.{Simple}
use Rattle.vlog_tree.specs.declared.expression.Simple.TheVariants as simple
use Rattle.vlog_tree.specs.declared.expression.Expr.{Expr}
use Rattle.vlog_tree.specs.declared.expression.Expr.TheVariants as expr
use Rattle.vlog_text.specs.Token.TokenPrefixes.{width_said}
use Rattle.vlog_text.specs.Token.Kinds.{verilog_kind}
use Rattle.vlog_text.specs.Token.Tokens.{verilog_lexeme_at}
use Rattle.vlog_text.specs.declared.builder.rule.Rule.{Rule}
use Rattle.vlog_text.specs.declared.builder.rule.Rule.TheVariants.{Keep, RangeOf, NoRange, PortOf, DirectionOf, DeclarationOf, StorageOf, AssignmentOf, SkipIdent, ResetsOf, ClocksOf, SetOf, NameAtom, LiteralAtom, NameExpr, LiteralExpr, SimpleExpr, SignedExpr, NameSimple, LiteralSimple, UnaryOf, ConcatOf, More, Start, BinaryTail, NoTail, ChoiceTail, SliceTail, OrderTail, ShiftTail, UnaryIs, BinaryIs, OrderedBinary, OrderIs}
use Rattle.vlog_text.specs.declared.builder.state.State.{State}
use Rattle.vlog_text.specs.declared.builder.tail.Tail.{Tail}
use Rattle.vlog_text.specs.declared.builder.tail.Tail.TheVariants as tail
use Rattle.vlog_text.specs.Builder.Building.{is_name, is_number, parsed_of, reduced, shifted}
use Rattle.vlog_text.specs.Builder.Empty.{no_atom, no_expr, no_literal, no_simple}
use Rattle.vlog_text.specs.Builder.Parts.{Named, literal_of, most, name_text, signal_of}
use Rattle.vlog_text.specs.Builder.Rules.{declaration_by, expr_of, port_by, signed_of, simple_of}

pub record Core : Type 0 where
  pub names : List (List ℕ)
  pub literals : List Literal
  pub numbers : List ℕ
  pub ranges : List (Option ℕ)
  pub directions : List Direction
  pub storages : List Storage
  pub orders : List Order
  pub binaries : List Binary
  pub unaries : List Unary
  pub counts : List ℕ
  pub atoms : List Atom
  pub tails : List Tail
  pub simples : List Simple
  pub exprs : List Expr
  pub sets : List Set
  pub signals : List (List ℕ)
  pub ports : List Port
  pub declarations : List Declaration
  pub assignments : List Assignment
  pub resets : List Set
  pub clocks : List Set

abbrev pub names_in : List Named → List (List ℕ)
names_in idents = map (λ (n : Named). n.name) idents

abbrev pub core_with : List Named → State → Core
core_with idents s = record {
  names = names_in idents;
  literals = s.literals;
  numbers = s.numbers;
  ranges = s.ranges;
  directions = s.directions;
  storages = s.storages;
  orders = s.orders;
  binaries = s.binaries;
  unaries = s.unaries;
  counts = s.counts;
  atoms = s.atoms;
  tails = s.tails;
  simples = s.simples;
  exprs = s.exprs;
  sets = s.sets;
  signals = s.signals;
  ports = s.ports;
  declarations = s.declarations;
  assignments = s.assignments;
  resets = s.resets;
  clocks = s.clocks;
}

abbrev pub core : State → Core
core s = core_with s.idents s

-- the top, or another one where there is none
abbrev pub first_or : {T : Type 0} → T → List T → T
first_or other [] = other
first_or other (x ∷ xs) = x

-- the signal of the name on top
abbrev pub top_signal : Core → Signal
top_signal s = record { 0 = signal_of s.signals (first_or [] s.names) }

-- ---- ports and declarations

-- `[ number : 0 ]`
abbrev pub range_of : Core → Core
range_of s = record s { numbers = drop 1 (drop 1 s.numbers); ranges = Some (first_or 0 (drop 1 s.numbers)) ∷ s.ranges }

abbrev pub no_range : Core → Core
no_range s = record s { ranges = None ∷ s.ranges }

abbrev pub direction_of : Direction → Core → Core
direction_of direction s = record s { directions = direction ∷ s.directions }

abbrev pub port_made : Core → Port
port_made s = port_by (first_or directions.Input s.directions) (first_or [] s.names) (first_or None s.ranges)

-- `direction wire range name`
abbrev pub port_of : Core → Core
port_of s = record s {
  directions = drop 1 s.directions;
  ranges = drop 1 s.ranges;
  names = drop 1 s.names;
  signals = s.signals ++ (first_or [] s.names) ∷ [];
  ports = s.ports ++ port_made s ∷ [];
}

abbrev pub storage_of : Storage → Core → Core
storage_of storage s = record s { storages = storage ∷ s.storages }

abbrev pub declaration_made : Core → Declaration
declaration_made s = declaration_by (first_or storages.Wire s.storages) (first_or [] s.names) (first_or None s.ranges)

-- `storage range name ;`
abbrev pub declaration_of : Core → Core
declaration_of s = record s {
  storages = drop 1 s.storages;
  ranges = drop 1 s.ranges;
  names = drop 1 s.names;
  signals = s.signals ++ (first_or [] s.names) ∷ [];
  declarations = s.declarations ++ declaration_made s ∷ [];
}

-- ---- assignments and sets

-- `assign name = expr ;`
abbrev pub assignment_of : Core → Core
assignment_of s = record s {
  names = drop 1 s.names;
  exprs = drop 1 s.exprs;
  assignments = s.assignments ++ record { target = top_signal s; value = first_or no_expr s.exprs } ∷ [];
}

-- `name <= atom ;`
abbrev pub set_of : Core → Core
set_of s = record s {
  names = drop 1 s.names;
  atoms = drop 1 s.atoms;
  sets = s.sets ++ record { target = top_signal s; value = first_or no_atom s.atoms } ∷ [];
}

-- `clk` or `rst` in the head of a branch
abbrev pub skip_ident : Core → Core
skip_ident s = record s { names = drop 1 s.names }

-- `if (rst) begin sets end`
abbrev pub resets_of : Core → Core
resets_of s = record s { names = drop 1 s.names; resets = s.sets; sets = [] }

-- `else begin sets end`
abbrev pub clocks_of : Core → Core
clocks_of s = record s { clocks = s.sets; sets = [] }

-- ---- atoms and operators

abbrev pub name_atom : Core → Core
name_atom s = record s { names = drop 1 s.names; atoms = atom.Signal (top_signal s) ∷ s.atoms }

abbrev pub literal_atom : Core → Core
literal_atom s = record s { literals = drop 1 s.literals; atoms = atom.Literal (first_or no_literal s.literals) ∷ s.atoms }

abbrev pub unary_is : Unary → Core → Core
unary_is operator s = record s { unaries = operator ∷ s.unaries }

abbrev pub binary_is : Binary → Core → Core
binary_is operator s = record s { binaries = operator ∷ s.binaries }

abbrev pub order_is : Order → Core → Core
order_is order s = record s { orders = order ∷ s.orders }

abbrev pub ordered_binary : Core → Core
ordered_binary s = record s { orders = drop 1 s.orders; binaries = binary.Ordered (first_or order.Less s.orders) ∷ s.binaries }

-- ---- lists in braces

-- a list ends, and so far has no atom behind its first
abbrev pub start : Core → Core
start s = record s { counts = 0 ∷ s.counts }

-- the list has one atom more
abbrev pub more : Core → Core
more s = record s { counts = min (first_or 0 s.counts + 1) most ∷ drop 1 s.counts }

-- `{ atoms }`
abbrev pub concat_of : Core → Core
concat_of s =
    let count = min (first_or 0 s.counts + 1) most in
    record s { counts = drop 1 s.counts; atoms = drop count s.atoms; simples = simple.Concat (reverse (take count s.atoms)) ∷ s.simples }

-- ---- what stands behind a name or a literal

abbrev pub no_tail : Core → Core
no_tail s = record s { tails = tail.Alone ∷ s.tails }

-- `binary atom`
abbrev pub binary_tail : Core → Core
binary_tail s = record s {
  binaries = drop 1 s.binaries;
  atoms = drop 1 s.atoms;
  tails = tail.Binary (first_or binary.Add s.binaries) (first_or no_atom s.atoms) ∷ s.tails;
}

-- `[ high : low ]`
abbrev pub slice_tail : Core → Core
slice_tail s = record s {
  numbers = drop 1 (drop 1 s.numbers);
  tails = tail.Slice (first_or 0 (drop 1 s.numbers)) (first_or 0 s.numbers) ∷ s.tails;
}

-- `? simple : simple`
abbrev pub choice_tail : Core → Core
choice_tail s = record s {
  simples = drop 1 (drop 1 s.simples);
  tails = tail.Choice (first_or no_simple (drop 1 s.simples)) (first_or no_simple s.simples) ∷ s.tails;
}

-- `comparison $signed ( name )`
abbrev pub order_tail : Core → Core
order_tail s = record s {
  orders = drop 1 s.orders;
  names = drop 1 s.names;
  tails = tail.SignedOrder (first_or order.Less s.orders) (top_signal s) ∷ s.tails;
}

-- `>>> atom`
abbrev pub shift_tail : Core → Core
shift_tail s = record s { atoms = drop 1 s.atoms; tails = tail.SignedShift (first_or no_atom s.atoms) ∷ s.tails }

-- ---- expressions

-- `unary atom`
abbrev pub unary_of : Core → Core
unary_of s = record s {
  unaries = drop 1 s.unaries;
  atoms = drop 1 s.atoms;
  simples = simple.Unary (first_or unary.Negate s.unaries) (first_or no_atom s.atoms) ∷ s.simples;
}

abbrev pub name_simple : Core → Core
name_simple s = record s {
  names = drop 1 s.names;
  tails = drop 1 s.tails;
  simples = simple_of (atom.Signal (top_signal s)) (first_or tail.Alone s.tails) ∷ s.simples;
}

abbrev pub literal_simple : Core → Core
literal_simple s = record s {
  literals = drop 1 s.literals;
  tails = drop 1 s.tails;
  simples = simple_of (atom.Literal (first_or no_literal s.literals)) (first_or tail.Alone s.tails) ∷ s.simples;
}

abbrev pub name_expr : Core → Core
name_expr s = record s {
  names = drop 1 s.names;
  tails = drop 1 s.tails;
  exprs = expr_of (atom.Signal (top_signal s)) (first_or tail.Alone s.tails) ∷ s.exprs;
}

abbrev pub literal_expr : Core → Core
literal_expr s = record s {
  literals = drop 1 s.literals;
  tails = drop 1 s.tails;
  exprs = expr_of (atom.Literal (first_or no_literal s.literals)) (first_or tail.Alone s.tails) ∷ s.exprs;
}

abbrev pub simple_expr : Core → Core
simple_expr s = record s { simples = drop 1 s.simples; exprs = expr.Simple (first_or no_simple s.simples) ∷ s.exprs }

-- `$signed ( name ) tail`
abbrev pub signed_expr : Core → Core
signed_expr s = record s {
  names = drop 1 s.names;
  tails = drop 1 s.tails;
  exprs = signed_of (top_signal s) (first_or tail.Alone s.tails) ∷ s.exprs;
}

-- ---- a complete tree of a rule

abbrev pub reduced_core : Rule → Core → Core
reduced_core Keep s = s
reduced_core RangeOf s = range_of s
reduced_core NoRange s = no_range s
reduced_core (DirectionOf direction) s = direction_of direction s
reduced_core PortOf s = port_of s
reduced_core (StorageOf storage) s = storage_of storage s
reduced_core DeclarationOf s = declaration_of s
reduced_core AssignmentOf s = assignment_of s
reduced_core SkipIdent s = skip_ident s
reduced_core ResetsOf s = resets_of s
reduced_core ClocksOf s = clocks_of s
reduced_core SetOf s = set_of s
reduced_core NameAtom s = name_atom s
reduced_core LiteralAtom s = literal_atom s
reduced_core NameExpr s = name_expr s
reduced_core LiteralExpr s = literal_expr s
reduced_core SimpleExpr s = simple_expr s
reduced_core SignedExpr s = signed_expr s
reduced_core NameSimple s = name_simple s
reduced_core LiteralSimple s = literal_simple s
reduced_core UnaryOf s = unary_of s
reduced_core ConcatOf s = concat_of s
reduced_core More s = more s
reduced_core Start s = start s
reduced_core BinaryTail s = binary_tail s
reduced_core NoTail s = no_tail s
reduced_core ChoiceTail s = choice_tail s
reduced_core SliceTail s = slice_tail s
reduced_core OrderTail s = order_tail s
reduced_core ShiftTail s = shift_tail s
reduced_core (UnaryIs operator) s = unary_is operator s
reduced_core (BinaryIs operator) s = binary_is operator s
reduced_core OrderedBinary s = ordered_binary s
reduced_core (OrderIs order) s = order_is order s

-- where the names on the stack are these
by_names : (r : Rule) (ids : List Named) (s : State) → core (reduced r (record s { idents = ids })) ≡ reduced_core r (core_with ids s)
by_names Keep ids s = refl
by_names RangeOf ids s = refl
by_names NoRange ids s = refl
by_names (DirectionOf direction) ids s = refl
by_names (StorageOf storage) ids s = refl
by_names ClocksOf ids s = refl
by_names LiteralAtom ids s = refl
by_names LiteralExpr ids s = refl
by_names SimpleExpr ids s = refl
by_names LiteralSimple ids s = refl
by_names UnaryOf ids s = refl
by_names ConcatOf ids s = refl
by_names More ids s = refl
by_names Start ids s = refl
by_names BinaryTail ids s = refl
by_names NoTail ids s = refl
by_names ChoiceTail ids s = refl
by_names SliceTail ids s = refl
by_names ShiftTail ids s = refl
by_names (UnaryIs operator) ids s = refl
by_names (BinaryIs operator) ids s = refl
by_names OrderedBinary ids s = refl
by_names (OrderIs order) ids s = refl
by_names PortOf [] s = refl
by_names PortOf (n ∷ ns) s = refl
by_names DeclarationOf [] s = refl
by_names DeclarationOf (n ∷ ns) s = refl
by_names AssignmentOf [] s = refl
by_names AssignmentOf (n ∷ ns) s = refl
by_names SkipIdent [] s = refl
by_names SkipIdent (n ∷ ns) s = refl
by_names ResetsOf [] s = refl
by_names ResetsOf (n ∷ ns) s = refl
by_names SetOf [] s = refl
by_names SetOf (n ∷ ns) s = refl
by_names NameAtom [] s = refl
by_names NameAtom (n ∷ ns) s = refl
by_names NameExpr [] s = refl
by_names NameExpr (n ∷ ns) s = refl
by_names SignedExpr [] s = refl
by_names SignedExpr (n ∷ ns) s = refl
by_names NameSimple [] s = refl
by_names NameSimple (n ∷ ns) s = refl
by_names OrderTail [] s = refl
by_names OrderTail (n ∷ ns) s = refl

pub core-reduced : (r : Rule) (s : State) → core (reduced r s) ≡ reduced_core r (core s)
core-reduced r s = by_names r s.idents s

-- ---- a token

abbrev pub kept_by : Bool → Bool → Bool → List ℕ → Core → Core
kept_by true literal number w c = record c { names = name_text w ∷ c.names }
kept_by false true number w c = record c { literals = literal_of w ∷ c.literals }
kept_by false false true w c = record c { numbers = min (width_said w) most ∷ c.numbers }
kept_by false false false w c = c

abbrev pub shifted_core : List ℕ → Core → Core
shifted_core w c = kept_by (is_name (verilog_kind w)) (verilog_kind w == LITERAL) (is_number (verilog_kind w)) w c

abbrev kept_state : Bool → Bool → Bool → Bool → Lexeme → State → State
kept_state name literal number start l s =
    if name then record s { idents = record { span = l.span; name = name_text l.bytes } ∷ s.idents }
    else if literal then record s { literals = literal_of l.bytes ∷ s.literals; literal_ends = s.literal_ends ++ l.span.to ∷ [] }
    else if number then record s { numbers = min (width_said l.bytes) most ∷ s.numbers }
    else if start then record s { starts = l.span.from ∷ s.starts }
    else s

by_tests : (name literal number start : Bool) (from : ℕ) (w : List ℕ) (s : State) → core (kept_state name literal number start (verilog_lexeme_at from w) (record s { last = (verilog_lexeme_at from w).span })) ≡ kept_by name literal number w (core s)
by_tests true literal number start from w s = refl
by_tests false true number start from w s = refl
by_tests false false true start from w s = refl
by_tests false false false true from w s = refl
by_tests false false false false from w s = refl

pub core-shifted : (from : ℕ) (w : List ℕ) (s : State) → core (shifted (verilog_lexeme_at from w) s) ≡ shifted_core w (core s)
core-shifted from w s = by_tests (is_name (verilog_kind w)) (verilog_kind w == LITERAL) (is_number (verilog_kind w)) (verilog_kind w == ASSIGN) from w s

-- ---- the module at the end

abbrev pub design_of : Core → VModule
design_of c = record {
  name = first_or [] c.names;
  ports = c.ports;
  declarations = c.declarations;
  assignments = c.assignments;
  at_reset = c.resets;
  at_clock = c.clocks;
}

by_top : (ids : List Named) (s : State) → (parsed_of (record s { idents = ids })).design ≡ design_of (core_with ids s)
by_top [] s = refl
by_top (n ∷ ns) s = refl

pub design-of_core : (s : State) → (parsed_of s).design ≡ design_of (core s)
design-of_core s = by_top s.idents s
