-- What a text's tokens and trees do to the widths of the literals that are kept.
use Rattle.std.proofs.Common.{◌≡◌, ◌∙◌, ◌+◌, ℕ, zero, suc, Bool, true, false, List, [], ◌∷◌, ◌++◌, map, drop, take, refl, sym, ap, append-nil, arith}
use Rattle.std.specs.Prelude.{◌==◌, flat_map, min, reverse, if◌then◌else◌}
use Rattle.std.proofs.lemmas.Bool.Decides.{nat_tests}
use Rattle.std.proofs.lemmas.List.{map-append, reverse-append}
use Rattle.base.specs.Stacks.Tops.{top_or}
use Rattle.dslx_token.specs.Lexeme.{Lexeme}
use Rattle.vlog_text.specs.declared.token.rules.generated.kind.TheConstants.{ASSIGN, LITERAL}
use Rattle.vlog_text.specs.Token.TokenPrefixes.{width_said}
use Rattle.vlog_tree.specs.declared.expression.Atom.{Atom}
use Rattle.vlog_tree.specs.declared.expression.Atom.TheVariants as atoms
use Rattle.vlog_tree.specs.declared.expression.Expr.{Expr}
use Rattle.vlog_tree.specs.declared.expression.Literal.{Literal}
use Rattle.vlog_tree.specs.declared.expression.Simple.{Simple}
use Rattle.vlog_tree.specs.declared.module.Assignment.{Assignment}
use Rattle.vlog_tree.specs.declared.module.Set.{Set}
use Rattle.vlog_tree.specs.declared.signal.Signal.{Signal}
use Rattle.vlog_tree.specs.Forms.{atom_literals, literals, simple_literals}
use Rattle.vlog_text.specs.declared.builder.rule.Rule.{Rule}
use Rattle.vlog_text.specs.declared.builder.rule.Rule.TheVariants.{Keep, RangeOf, NoRange, PortOf, DirectionOf, DeclarationOf, StorageOf, AssignmentOf, SkipIdent, ResetsOf, ClocksOf, SetOf, NameAtom, LiteralAtom, NameExpr, LiteralExpr, SimpleExpr, SignedExpr, NameSimple, LiteralSimple, UnaryOf, ConcatOf, More, Start, BinaryTail, NoTail, ChoiceTail, SliceTail, OrderTail, ShiftTail, UnaryIs, BinaryIs, OrderedBinary, OrderIs}
use Rattle.vlog_text.specs.declared.builder.state.State.{State}
use Rattle.vlog_text.specs.declared.builder.tail.Tail.{Tail}
use Rattle.vlog_text.specs.declared.builder.tail.Tail.TheVariants as tails
use Rattle.vlog_text.specs.Builder.Building.{is_name, is_number, reduced, shifted}
use Rattle.vlog_text.specs.Builder.Empty.{no_atom, no_expr, no_literal}
use Rattle.vlog_text.specs.Builder.Parts.{literal_of, most, name_text}
use Rattle.vlog_text.specs.Builder.Rules.{expr_of, signed_of, simple_of, top_signal}

-- what stands behind a name or a literal
pub data TailKind : Type 0 where
  simple choice signed : TailKind

pub record TailWidths : Type 0 where
  pub kind : TailKind
  pub widths : List ℕ

pub record Widths : Type 0 where
  pub literals : List ℕ
  pub counts : List ℕ
  pub atoms : List (List ℕ)
  pub tails : List TailWidths
  pub simples : List (List ℕ)
  pub exprs : List (List ℕ)
  pub assignments : List (List ℕ)
  pub sets : List (List ℕ)
  pub resets : List (List ℕ)
  pub clocks : List (List ℕ)

abbrev pub tail_widths : Tail → TailWidths
tail_widths tails.Alone = record { kind = simple; widths = [] }
tail_widths (tails.Binary _ b) = record { kind = simple; widths = atom_literals b }
tail_widths (tails.Slice _ _) = record { kind = simple; widths = [] }
tail_widths (tails.Choice a b) = record { kind = choice; widths = simple_literals a ++ simple_literals b }
tail_widths (tails.SignedOrder _ _) = record { kind = signed; widths = [] }
tail_widths (tails.SignedShift amount) = record { kind = signed; widths = atom_literals amount }

abbrev pub set_widths : List Set → List (List ℕ)
set_widths sets = map (λ (s : Set). atom_literals s.value) sets

abbrev pub widths : State → Widths
widths s = record {
  literals = map (λ (l : Literal). l.width) s.literals;
  counts = s.counts;
  atoms = map atom_literals s.atoms;
  tails = map tail_widths s.tails;
  simples = map simple_literals s.simples;
  exprs = map literals s.exprs;
  assignments = map (λ (a : Assignment). literals a.value) s.assignments;
  sets = set_widths s.sets;
  resets = set_widths s.resets;
  clocks = set_widths s.clocks;
}

-- ---- a complete tree of a rule

-- the widths of an atom and what stands behind it: in a branch of a choice, in an expression, and behind `$signed`
abbrev pub simple_by : TailKind → List ℕ → List ℕ → List ℕ
simple_by simple ws vs = ws ++ vs
simple_by choice ws vs = ws
simple_by signed ws vs = ws

abbrev pub expr_by : TailKind → List ℕ → List ℕ → List ℕ
expr_by simple ws vs = ws ++ vs
expr_by choice ws vs = ws ++ vs
expr_by signed ws vs = ws

abbrev pub signed_by : TailKind → List ℕ → List ℕ
signed_by simple vs = []
signed_by choice vs = []
signed_by signed vs = vs

-- what stands for a part that isn't there
abbrev pub no_widths : List ℕ
no_widths = 1 ∷ []

abbrev pub no_tail : TailWidths
no_tail = record { kind = simple; widths = [] }

abbrev pub top_tail : Widths → TailWidths
top_tail w = top_or no_tail w.tails

abbrev pub top_literal : Widths → List ℕ
top_literal w = top_or 1 w.literals ∷ []

abbrev pub with_tail : TailKind → List ℕ → Widths → Widths
with_tail kind ws w = record w { tails = record { kind = kind; widths = ws } ∷ w.tails }

abbrev pub width_rule : Rule → Widths → Widths
width_rule AssignmentOf w = record w { exprs = drop 1 w.exprs; assignments = w.assignments ++ top_or no_widths w.exprs ∷ [] }
width_rule SetOf w = record w { atoms = drop 1 w.atoms; sets = w.sets ++ top_or no_widths w.atoms ∷ [] }
width_rule ResetsOf w = record w { resets = w.sets; sets = [] }
width_rule ClocksOf w = record w { clocks = w.sets; sets = [] }
width_rule NameAtom w = record w { atoms = [] ∷ w.atoms }
width_rule LiteralAtom w = record w { literals = drop 1 w.literals; atoms = top_literal w ∷ w.atoms }
width_rule NameExpr w = record w { tails = drop 1 w.tails; exprs = expr_by (top_tail w).kind [] (top_tail w).widths ∷ w.exprs }
width_rule LiteralExpr w = record w { literals = drop 1 w.literals; tails = drop 1 w.tails; exprs = expr_by (top_tail w).kind (top_literal w) (top_tail w).widths ∷ w.exprs }
width_rule SimpleExpr w = record w { simples = drop 1 w.simples; exprs = top_or no_widths w.simples ∷ w.exprs }
width_rule SignedExpr w = record w { tails = drop 1 w.tails; exprs = signed_by (top_tail w).kind (top_tail w).widths ∷ w.exprs }
width_rule NameSimple w = record w { tails = drop 1 w.tails; simples = simple_by (top_tail w).kind [] (top_tail w).widths ∷ w.simples }
width_rule LiteralSimple w = record w { literals = drop 1 w.literals; tails = drop 1 w.tails; simples = simple_by (top_tail w).kind (top_literal w) (top_tail w).widths ∷ w.simples }
width_rule UnaryOf w = record w { atoms = drop 1 w.atoms; simples = top_or no_widths w.atoms ∷ w.simples }
width_rule ConcatOf w =
    let count = min (top_or 0 w.counts + 1) most in
    record w { counts = drop 1 w.counts; atoms = drop count w.atoms; simples = flat_map (λ ws. ws) (reverse (take count w.atoms)) ∷ w.simples }
width_rule More w = record w { counts = min (top_or 0 w.counts + 1) most ∷ drop 1 w.counts }
width_rule Start w = record w { counts = 0 ∷ w.counts }
width_rule BinaryTail w = record (with_tail simple (top_or no_widths w.atoms) w) { atoms = drop 1 w.atoms }
width_rule NoTail w = with_tail simple [] w
width_rule ChoiceTail w = record (with_tail choice (top_or no_widths (drop 1 w.simples) ++ top_or no_widths w.simples) w) { simples = drop 1 (drop 1 w.simples) }
width_rule SliceTail w = with_tail simple [] w
width_rule OrderTail w = with_tail signed [] w
width_rule ShiftTail w = record (with_tail signed (top_or no_widths w.atoms) w) { atoms = drop 1 w.atoms }
width_rule _ w = w

simple_widths : (a : Atom) (t : Tail) → simple_literals (simple_of a t) ≡ simple_by (tail_widths t).kind (atom_literals a) (tail_widths t).widths
simple_widths a tails.Alone = sym (append-nil (atom_literals a))
simple_widths a (tails.Binary operator b) = refl
simple_widths (atoms.Signal s) (tails.Slice high low) = refl
simple_widths (atoms.Literal l) (tails.Slice high low) = refl
simple_widths (atoms.Signal s) (tails.Choice x y) = refl
simple_widths (atoms.Literal l) (tails.Choice x y) = refl
simple_widths (atoms.Signal s) (tails.SignedOrder order other) = refl
simple_widths (atoms.Literal l) (tails.SignedOrder order other) = refl
simple_widths (atoms.Signal s) (tails.SignedShift amount) = refl
simple_widths (atoms.Literal l) (tails.SignedShift amount) = refl

expr_widths : (a : Atom) (t : Tail) → literals (expr_of a t) ≡ expr_by (tail_widths t).kind (atom_literals a) (tail_widths t).widths
expr_widths a tails.Alone = sym (append-nil (atom_literals a))
expr_widths a (tails.Binary operator b) = refl
expr_widths (atoms.Signal s) (tails.Slice high low) = refl
expr_widths (atoms.Literal l) (tails.Slice high low) = refl
expr_widths a (tails.Choice x y) = refl
expr_widths (atoms.Signal s) (tails.SignedOrder order other) = refl
expr_widths (atoms.Literal l) (tails.SignedOrder order other) = refl
expr_widths (atoms.Signal s) (tails.SignedShift amount) = refl
expr_widths (atoms.Literal l) (tails.SignedShift amount) = refl

signed_widths : (s : Signal) (t : Tail) → literals (signed_of s t) ≡ signed_by (tail_widths t).kind (tail_widths t).widths
signed_widths s tails.Alone = refl
signed_widths s (tails.Binary operator b) = refl
signed_widths s (tails.Slice high low) = refl
signed_widths s (tails.Choice x y) = refl
signed_widths s (tails.SignedOrder order other) = refl
signed_widths s (tails.SignedShift amount) = refl

-- ---- lists

top_map : {A B : Type 0} (f : A → B) (x : A) (xs : List A) → f (top_or x xs) ≡ top_or (f x) (map f xs)
top_map f x [] = refl
top_map f x (y ∷ xs) = refl

drop_map : {A B : Type 0} (f : A → B) (n : ℕ) (xs : List A) → map f (drop n xs) ≡ drop n (map f xs)
drop_map f zero xs = refl
drop_map f (suc n) [] = refl
drop_map f (suc n) (x ∷ xs) = drop_map f n xs

take_map : {A B : Type 0} (f : A → B) (n : ℕ) (xs : List A) → map f (take n xs) ≡ take n (map f xs)
take_map f zero xs = refl
take_map f (suc n) [] = refl
take_map f (suc n) (x ∷ xs) = ap (λ ys. f x ∷ ys) (take_map f n xs)

reverse_map : {A B : Type 0} (f : A → B) (xs : List A) → map f (reverse xs) ≡ reverse (map f xs)
reverse_map f [] = refl
reverse_map f (x ∷ xs) =
    ap (map f) (reverse-append (x ∷ []) xs)
    ∙ (map-append f (reverse xs) (x ∷ []) ∙ (ap (λ ys. ys ++ f x ∷ []) (reverse_map f xs) ∙ sym (reverse-append (f x ∷ []) (map f xs))))

all_widths : (xs : List Atom) → flat_map atom_literals xs ≡ flat_map (λ ws. ws) (map atom_literals xs)
all_widths [] = refl
all_widths (a ∷ xs) = ap (λ ys. atom_literals a ++ ys) (all_widths xs)

-- the last atoms on the stack, in their order
list_widths : (n : ℕ) (xs : List Atom) → flat_map atom_literals (reverse (take n xs)) ≡ flat_map (λ ws. ws) (reverse (take n (map atom_literals xs)))
list_widths n xs = all_widths (reverse (take n xs)) ∙ ap (flat_map (λ ws. ws)) (reverse_map atom_literals (take n xs) ∙ ap reverse (take_map atom_literals n xs))

-- ---- rules

-- with these stacks
literal_atom_on : (xs : List Literal) (s : State) → widths (reduced LiteralAtom (record s { literals = xs })) ≡ width_rule LiteralAtom (widths (record s { literals = xs }))
literal_atom_on [] s = refl
literal_atom_on (l ∷ xs) s = refl

name_expr_on : (xs : List Tail) (s : State) → widths (reduced NameExpr (record s { tails = xs })) ≡ width_rule NameExpr (widths (record s { tails = xs }))
name_expr_on [] s = refl
name_expr_on (t ∷ xs) s = ap (λ ws. record (widths s) { tails = map tail_widths xs; exprs = ws ∷ map literals s.exprs }) (expr_widths (atoms.Signal (top_signal s)) t)

literal_expr_on : (ls : List Literal) (xs : List Tail) (s : State) → widths (reduced LiteralExpr (record s { literals = ls; tails = xs })) ≡ width_rule LiteralExpr (widths (record s { literals = ls; tails = xs }))
literal_expr_on [] [] s = refl
literal_expr_on (l ∷ ls) [] s = refl
literal_expr_on [] (t ∷ xs) s = ap (λ ws. record (widths s) { literals = []; tails = map tail_widths xs; exprs = ws ∷ map literals s.exprs }) (expr_widths (atoms.Literal no_literal) t)
literal_expr_on (l ∷ ls) (t ∷ xs) s =
    ap (λ ws. record (widths s) { literals = map (λ (l : Literal). l.width) ls; tails = map tail_widths xs; exprs = ws ∷ map literals s.exprs }) (expr_widths (atoms.Literal l) t)

simple_expr_on : (xs : List Simple) (s : State) → widths (reduced SimpleExpr (record s { simples = xs })) ≡ width_rule SimpleExpr (widths (record s { simples = xs }))
simple_expr_on [] s = refl
simple_expr_on (x ∷ xs) s = refl

signed_expr_on : (xs : List Tail) (s : State) → widths (reduced SignedExpr (record s { tails = xs })) ≡ width_rule SignedExpr (widths (record s { tails = xs }))
signed_expr_on [] s = refl
signed_expr_on (t ∷ xs) s = ap (λ ws. record (widths s) { tails = map tail_widths xs; exprs = ws ∷ map literals s.exprs }) (signed_widths (top_signal s) t)

name_simple_on : (xs : List Tail) (s : State) → widths (reduced NameSimple (record s { tails = xs })) ≡ width_rule NameSimple (widths (record s { tails = xs }))
name_simple_on [] s = refl
name_simple_on (t ∷ xs) s = ap (λ ws. record (widths s) { tails = map tail_widths xs; simples = ws ∷ map simple_literals s.simples }) (simple_widths (atoms.Signal (top_signal s)) t)

literal_simple_on : (ls : List Literal) (xs : List Tail) (s : State) → widths (reduced LiteralSimple (record s { literals = ls; tails = xs })) ≡ width_rule LiteralSimple (widths (record s { literals = ls; tails = xs }))
literal_simple_on [] [] s = refl
literal_simple_on (l ∷ ls) [] s = refl
literal_simple_on [] (t ∷ xs) s =
    ap (λ ws. record (widths s) { literals = []; tails = map tail_widths xs; simples = ws ∷ map simple_literals s.simples }) (simple_widths (atoms.Literal no_literal) t)
literal_simple_on (l ∷ ls) (t ∷ xs) s =
    ap (λ ws. record (widths s) { literals = map (λ (l : Literal). l.width) ls; tails = map tail_widths xs; simples = ws ∷ map simple_literals s.simples }) (simple_widths (atoms.Literal l) t)

unary_of_on : (xs : List Atom) (s : State) → widths (reduced UnaryOf (record s { atoms = xs })) ≡ width_rule UnaryOf (widths (record s { atoms = xs }))
unary_of_on [] s = refl
unary_of_on (a ∷ xs) s = refl

binary_tail_on : (xs : List Atom) (s : State) → widths (reduced BinaryTail (record s { atoms = xs })) ≡ width_rule BinaryTail (widths (record s { atoms = xs }))
binary_tail_on [] s = refl
binary_tail_on (a ∷ xs) s = refl

shift_tail_on : (xs : List Atom) (s : State) → widths (reduced ShiftTail (record s { atoms = xs })) ≡ width_rule ShiftTail (widths (record s { atoms = xs }))
shift_tail_on [] s = refl
shift_tail_on (a ∷ xs) s = refl

choice_tail_on : (xs : List Simple) (s : State) → widths (reduced ChoiceTail (record s { simples = xs })) ≡ width_rule ChoiceTail (widths (record s { simples = xs }))
choice_tail_on [] s = refl
choice_tail_on (x ∷ []) s = refl
choice_tail_on (x ∷ y ∷ xs) s = refl

assignment_on : (xs : List Expr) (s : State) → widths (reduced AssignmentOf (record s { exprs = xs })) ≡ width_rule AssignmentOf (widths (record s { exprs = xs }))
assignment_on [] s =
    ap (λ ws. record (widths s) { exprs = []; assignments = ws }) (map-append (λ (a : Assignment). literals a.value) s.assignments (record { target = top_signal s; value = no_expr } ∷ []))
assignment_on (x ∷ xs) s =
    ap (λ ws. record (widths s) { exprs = map literals xs; assignments = ws }) (map-append (λ (a : Assignment). literals a.value) s.assignments (record { target = top_signal s; value = x } ∷ []))

set_on : (xs : List Atom) (s : State) → widths (reduced SetOf (record s { atoms = xs })) ≡ width_rule SetOf (widths (record s { atoms = xs }))
set_on [] s = ap (λ ws. record (widths s) { atoms = []; sets = ws }) (map-append (λ (t : Set). atom_literals t.value) s.sets (record { target = top_signal s; value = no_atom } ∷ []))
set_on (a ∷ xs) s =
    ap (λ ws. record (widths s) { atoms = map atom_literals xs; sets = ws }) (map-append (λ (t : Set). atom_literals t.value) s.sets (record { target = top_signal s; value = a } ∷ []))

concat_widths : (s : State) → widths (reduced ConcatOf s) ≡ width_rule ConcatOf (widths s)
concat_widths s =
    let count = min (top_or 0 s.counts + 1) most in
    λ i. record (widths s) {
      counts = drop 1 s.counts;
      atoms = drop_map atom_literals count s.atoms i;
      simples = list_widths count s.atoms i ∷ map simple_literals s.simples;
    }

pub widths-reduced : (r : Rule) (s : State) → widths (reduced r s) ≡ width_rule r (widths s)
widths-reduced Keep s = refl
widths-reduced RangeOf s = refl
widths-reduced NoRange s = refl
widths-reduced (DirectionOf direction) s = refl
widths-reduced (StorageOf storage) s = refl
widths-reduced PortOf s = refl
widths-reduced DeclarationOf s = refl
widths-reduced AssignmentOf s = assignment_on s.exprs s
widths-reduced SkipIdent s = refl
widths-reduced ResetsOf s = refl
widths-reduced ClocksOf s = refl
widths-reduced SetOf s = set_on s.atoms s
widths-reduced NameAtom s = refl
widths-reduced LiteralAtom s = literal_atom_on s.literals s
widths-reduced NameExpr s = name_expr_on s.tails s
widths-reduced LiteralExpr s = literal_expr_on s.literals s.tails s
widths-reduced SimpleExpr s = simple_expr_on s.simples s
widths-reduced SignedExpr s = signed_expr_on s.tails s
widths-reduced NameSimple s = name_simple_on s.tails s
widths-reduced LiteralSimple s = literal_simple_on s.literals s.tails s
widths-reduced UnaryOf s = unary_of_on s.atoms s
widths-reduced ConcatOf s = concat_widths s
widths-reduced More s = refl
widths-reduced Start s = refl
widths-reduced BinaryTail s = binary_tail_on s.atoms s
widths-reduced NoTail s = refl
widths-reduced ChoiceTail s = choice_tail_on s.simples s
widths-reduced SliceTail s = refl
widths-reduced OrderTail s = refl
widths-reduced ShiftTail s = shift_tail_on s.atoms s
widths-reduced (UnaryIs operator) s = refl
widths-reduced (BinaryIs operator) s = refl
widths-reduced OrderedBinary s = refl
widths-reduced (OrderIs order) s = refl

-- ---- a token

abbrev pub width_by : Bool → Lexeme → Widths → Widths
width_by true l w = record w { literals = (literal_of l.bytes).width ∷ w.literals }
width_by false l w = w

-- what a token of this kind adds
abbrev pub width_token : ℕ → Lexeme → Widths → Widths
width_token kind l w = width_by (kind == LITERAL) l w

abbrev kept_state : Bool → Bool → Bool → Bool → Lexeme → State → State
kept_state name literal number start l s =
    if name then record s { idents = record { span = l.span; name = name_text l.bytes } ∷ s.idents }
    else if literal then record s { literals = literal_of l.bytes ∷ s.literals; literal_ends = s.literal_ends ++ l.span.to ∷ [] }
    else if number then record s { numbers = min (width_said l.bytes) most ∷ s.numbers }
    else if start then record s { starts = l.span.from ∷ s.starts }
    else s

by_tests : (name literal number start : Bool) (l : Lexeme) (s : State) → (name ≡ true → literal ≡ false) → widths (kept_state name literal number start l (record s { last = l.span })) ≡ width_by literal l (widths s)
by_tests true true number start l s one = let wrong : true ≡ false = one refl in absurd (cc)
by_tests true false number start l s one = refl
by_tests false true number start l s one = refl
by_tests false false true start l s one = refl
by_tests false false false true l s one = refl
by_tests false false false false l s one = refl

pub no_literal_name : (kind : ℕ) → is_name kind ≡ true → (kind == LITERAL) ≡ false
no_literal_name kind is = grind (arith, nat_tests)

pub widths-shifted : (l : Lexeme) (s : State) → widths (shifted l s) ≡ width_token l.kind l (widths s)
widths-shifted l s = by_tests (is_name l.kind) (l.kind == LITERAL) (is_number l.kind) (l.kind == ASSIGN) l s (no_literal_name l.kind)
