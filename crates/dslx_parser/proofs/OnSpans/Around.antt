-- Parts with tokens round them.
use Rattle.std.proofs.Common.{◌≡◌, ◌≤◌, ℕ, List, [], ◌∷◌, inl, inr, arith}
use Rattle.std.specs.Prelude.{◌≢◌, None, Some, true}
use Rattle.xb_span.specs.declared.span.Span.{Span}
use Rattle.dslx_token.specs.Lexeme.{Lexeme}
use Rattle.dslx_tree.specs.declared.block.Block.{Block, out-Block}
use Rattle.dslx_tree.specs.declared.expr.Node as nodes
use Rattle.dslx_tree.specs.declared.ident.Ident.{Ident}
use Rattle.dslx_tree.specs.declared.process.Config.{Config}
use Rattle.dslx_tree.specs.declared.process.Next.{Next}
use Rattle.dslx_tree.specs.declared.type_expr.TypeExpr.{TypeExpr, out-TypeExpr}
use Rattle.dslx_tree.specs.declared.operators.chain.Operand.{Operand}
use Rattle.dslx_actions.specs.Tokens.{is_name}
use Rattle.dslx_parser.specs.Syntax.Nodes.{Numeral, arg_of, array_type, bare_number, block_alone, from_to, ident_of, member_of, member_pattern, name_alone, name_pattern, named_type, number_pattern, number_span, number_with, typed_number}
use Rattle.dslx_parser.specs.Spans.Places.{Thing, Inside, InSomeOrder, IsMadeOf, LieBetween, nothing, placed, spread}
use Rattle.dslx_parser.specs.Spans.Places as things
use Rattle.dslx_parser.proofs.OnSpans.Fits.{InEitherOrder, IsTokenAt, One, ProcParts, a_block, a_name, a_type}
use Rattle.dslx_parser.proofs.OnSpans.Standing.{IsOperand, StandsAt, Within, alone, begins_by, behind, ends_by, operand_in, operand_stands, same, starts_at, through, type_stands}

-- ---- tokens

pub spans : {span : Span} {from to : ℕ} → Within span from to → from ≤ to
spans w = let a = w.first in let b = w.goes in let c = w.last in omega (arith, a, b, c)

pub goes_by : {kind : ℕ} {l : Lexeme} {from to : ℕ} → IsTokenAt kind l from to → from ≤ to
goes_by t = spans t.within

-- with a token before it, or behind it
pub before : {kind : ℕ} {l : Lexeme} {xs : List Thing} {a b c : ℕ} → IsTokenAt kind l a b → LieBetween xs b c → LieBetween xs a c
before {a = a} t s = begins_by a s (goes_by t)

pub after : {kind : ℕ} {l : Lexeme} {xs : List Thing} {a b c : ℕ} → LieBetween xs a b → IsTokenAt kind l b c → LieBetween xs a c
after {c = c} s t = ends_by c s (goes_by t)

pub before_mark : {span : Span} {xs : List Thing} {a b c : ℕ} → Within span a b → LieBetween xs b c → LieBetween xs a c
before_mark {a = a} w s = begins_by a s (spans w)

-- from the beginning of the token, or to its end
pub starting : {kind : ℕ} {l : Lexeme} {xs : List Thing} {a b c : ℕ} → IsTokenAt kind l a b → LieBetween xs b c → LieBetween xs l.span.from c
starting {l = l} {b = b} t s = begins_by l.span.from s (through l.span.from l.span.to b t.within.goes t.within.last)

pub ending : {kind : ℕ} {l : Lexeme} {xs : List Thing} {a b c : ℕ} → LieBetween xs a b → IsTokenAt kind l b c → LieBetween xs a l.span.to
ending {l = l} {b = b} s t = ends_by l.span.to s (through b l.span.from l.span.to t.within.first t.within.goes)

pub both_tokens : {kind other : ℕ} {l m : Lexeme} {a b c : ℕ} → IsTokenAt kind l a b → IsTokenAt other m b c → Within (from_to l.span m.span) a c
both_tokens {l = l} {m = m} {b = b} t u =
    let p = t.within.goes in let q = t.within.last in let r = u.within.first in let s = u.within.goes in
    record { first = t.within.first; goes = omega (arith, p, q, r, s); last = u.within.last }

pub mark_after : {kind other : ℕ} {l m : Lexeme} {a b c : ℕ} → IsTokenAt kind l a b → IsTokenAt other m b c → Within m.span a c
mark_after {m = m} {a = a} {b = b} t u = record { first = through a b m.span.from (goes_by t) u.within.first; goes = u.within.goes; last = u.within.last }

-- ---- parts that may have more room

pub at_by : {x : Thing} {span : Span} {a b c : ℕ} → StandsAt x span a b → b ≤ c → StandsAt x span a c
at_by {span = span} {b = b} {c = c} s le = record { within = record { first = s.within.first; goes = s.within.goes; last = through span.to b c s.within.last le }; there = s.there }

pub at_after : {kind : ℕ} {l : Lexeme} {x : Thing} {span : Span} {a b c : ℕ} → IsTokenAt kind l a b → StandsAt x span b c → StandsAt x span a c
at_after {span = span} {a = a} {b = b} t s = record { within = record { first = through a b span.from (goes_by t) s.within.first; goes = s.within.goes; last = s.within.last }; there = s.there }

pub up_to_end : {x : Thing} {span : Span} {a b : ℕ} → StandsAt x span a b → LieBetween (x ∷ []) a span.to
up_to_end {a = a} s = begins_by a s.there s.within.first

pub operand_by : {o : Operand} {a b c : ℕ} → IsOperand o a b → b ≤ c → IsOperand o a c
operand_by {o = o} {b = b} {c = c} s le = record { within = record { first = s.within.first; goes = s.within.goes; last = through o.span.to b c s.within.last le }; there = s.there }

pub operand_from : {o : Operand} {a b c : ℕ} → a ≤ b → IsOperand o b c → IsOperand o a c
operand_from {o = o} {a = a} {b = b} le s = record { within = record { first = through a b o.span.from le s.within.first; goes = s.within.goes; last = s.within.last }; there = s.there }

-- ---- names

pub a_name_of : {kind : ℕ} {l : Lexeme} {from to : ℕ} → is_name kind ≡ true → IsTokenAt kind l from to → a_name (ident_of l) from to
a_name_of {l = l} is t = record {
  within = t.within;
  there = alone l.span.from l.span.to (things.of_ident (ident_of l) (t.name is)) (nothing t.within.goes) (same l.span.from) (same l.span.to);
}

inside_named : {name : Ident} {span : Span} {inner : List Thing} → Inside (things.ident name) span inner → name.name ≢ []
inside_named (things.of_ident name there) = there

never_made : {name : Ident} {inner : List Thing} → IsMadeOf (things.ident name) inner → ⊥
never_made made = elim made [ ]

stands_named : {name : Ident} {from to : ℕ} → LieBetween (things.ident name ∷ []) from to → name.name ≢ []
stands_named (placed inside first inner more) = inside_named inside
stands_named (spread made more) = absurd (never_made made)

pub name_stands : (name : Ident) {from to : ℕ} → a_name name from to → IsOperand (name_alone name) from to
name_stands name {from} {to} n = operand_stands name.span (nodes.Name name.name) from to (things.of_name name.span name.name (stands_named n.there)) (nothing n.within.goes) n.within.first n.within.last

pub named_type_stands : (name : Ident) {from to : ℕ} → a_name name from to → a_type (named_type name) from to
named_type_stands name {from} {to} n = type_stands (alone from to (things.of_type_name name.span name.name (stands_named n.there)) (nothing n.within.goes) n.within.first n.within.last)

pub name_pattern_stands : (name : Ident) {from to : ℕ} → a_name name from to → One (things.pattern (name_pattern name)) from to
name_pattern_stands name {from} {to} n = alone from to (things.of_name_pattern name.span name.name (stands_named n.there)) (nothing n.within.goes) n.within.first n.within.last

-- `::` between two names
pub member_stands : {kind : ℕ} {l : Lexeme} (owner member : Ident) {a b c d : ℕ} → a_name owner a b → IsTokenAt kind l b c → a_name member c d → IsOperand (member_of owner member) a d
member_stands owner member {a = a} {d = d} n t m =
    operand_stands (from_to owner.span member.span) (nodes.Member owner member) a d (things.of_member (from_to owner.span member.span) owner member)
    (behind (starts_at n) (before t (up_to_end m))) n.within.first m.within.last

pub member_pattern_stands : {kind : ℕ} {l : Lexeme} (owner member : Ident) {a b c d : ℕ} → a_name owner a b → IsTokenAt kind l b c → a_name member c d → One (things.pattern (member_pattern owner member)) a d
member_pattern_stands owner member {a = a} {d = d} n t m =
    alone a d (things.of_member_pattern (from_to owner.span member.span) owner member) (behind (starts_at n) (before t (up_to_end m))) n.within.first m.within.last

-- ---- numbers

pub bare_stands : (n : Numeral) {from to : ℕ} → Within n.span from to → IsOperand (bare_number n) from to
bare_stands n {from} {to} w = operand_stands n.span (nodes.Number (number_with None n)) from to (things.of_number n.span None n.is_negative n.value) (nothing w.goes) w.first w.last

typed_there : (ty : TypeExpr) (n : Numeral) {a b c d : ℕ} → a_type ty a b → b ≤ c → Within n.span c d → LieBetween (things.type_expr ty ∷ []) (number_span ty n).from (number_span ty n).to
typed_there ty n {b = b} {c = c} t le w =
    let p = t.within.last in let q = w.first in let r = w.goes in
    ends_by n.span.to t.there (omega (arith, p, le, q, r))

pub typed_stands : (ty : TypeExpr) (n : Numeral) {a b c d : ℕ} → a_type ty a b → b ≤ c → Within n.span c d → IsOperand (typed_number ty n) a d
typed_stands ty n {a = a} {d = d} t le w =
    operand_stands (number_span ty n) (nodes.Number (number_with (Some ty) n)) a d (things.of_number (number_span ty n) (Some ty) n.is_negative n.value)
    (typed_there ty n t le w) t.within.first w.last

pub number_pattern_stands : (ty : TypeExpr) (n : Numeral) {a b c d : ℕ} → a_type ty a b → b ≤ c → Within n.span c d → One (things.pattern (number_pattern ty n)) a d
number_pattern_stands ty n {a = a} {d = d} t le w =
    alone a d (things.of_number_pattern (number_span ty n) (Some ty) n.is_negative n.value) (typed_there ty n t le w) t.within.first w.last

-- ---- types, arguments, blocks

pub array_stands : {kind other : ℕ} {l : Lexeme} (element : TypeExpr) (size : Operand) (closing : Lexeme) {a b c d e : ℕ} → a_type element a b → IsTokenAt kind l b c → IsOperand size c d → IsTokenAt other closing d e → a_type (array_type element size closing) a e
array_stands element size closing {a = a} {e = e} t opening o u =
    type_stands (alone a e (things.of_array_type (from_to (out-TypeExpr element).span closing.span) element size.expr)
    (behind (starts_at t) (before opening (ending (operand_in o) u))) t.within.first u.within.last)

pub arg_stands : {o : Operand} {from to : ℕ} → IsOperand o from to → One (things.arg (arg_of o)) from to
arg_stands {o} {from} {to} s = alone from to (things.of_arg o.span o.expr) s.there s.within.first s.within.last

pub block_value_stands : (b : Block) {from to : ℕ} → a_block b from to → IsOperand (block_alone b) from to
block_value_stands b {from} {to} s = operand_stands (out-Block b).span (nodes.Block b) from to (things.of_block_value (out-Block b).span b) s.there s.within.first s.within.last

-- ---- the parts of a proc

pub config_first : (c : Config) (i : Block) (n : Next) {a m b : ℕ} → One (things.config c) a m → InEitherOrder (things.block i) (things.next n) m b → ProcParts c i n a b
config_first c i n s (inl t) = record { parts = _; order = things.abc; there = behind s t }
config_first c i n s (inr t) = record { parts = _; order = things.acb; there = behind s t }

pub init_first : (c : Config) (i : Block) (n : Next) {a m b : ℕ} → One (things.block i) a m → InEitherOrder (things.config c) (things.next n) m b → ProcParts c i n a b
init_first c i n s (inl t) = record { parts = _; order = things.bac; there = behind s t }
init_first c i n s (inr t) = record { parts = _; order = things.bca; there = behind s t }

pub next_first : (c : Config) (i : Block) (n : Next) {a m b : ℕ} → One (things.next n) a m → InEitherOrder (things.config c) (things.block i) m b → ProcParts c i n a b
next_first c i n s (inl t) = record { parts = _; order = things.cab; there = behind s t }
next_first c i n s (inr t) = record { parts = _; order = things.cba; there = behind s t }
