-- Parts that stand one behind the other.
use Rattle.std.proofs.Common.{◌≡◌, ◌≤◌, ℕ, List, [], ◌∷◌, ◌++◌, sym, subst, arith}
use Rattle.std.proofs.lemmas.List.{append_assoc, append-nil}
use Rattle.xb_span.specs.declared.span.Span.{Span}
use Rattle.dslx_tree.specs.declared.block.Block.{Block, out-Block, out-roll-Block}
use Rattle.dslx_tree.specs.declared.expr.Node.{Node}
use Rattle.dslx_tree.specs.declared.type_expr.TypeExpr.{TypeExpr, out-TypeExpr, out-roll-TypeExpr}
use Rattle.dslx_tree.specs.declared.type_expr.TypeNode as types
use Rattle.dslx_tree.specs.declared.operators.chain.Operand.{Operand}
use Rattle.dslx_parser.specs.Syntax.Nodes.{operand_at}
use Rattle.dslx_parser.specs.Spans.Places.{Thing, Inside, IsMadeOf, LieBetween, nothing, placed, spread}
use Rattle.dslx_parser.specs.Spans.Places as things

-- what stands somewhere takes no less than nothing
pub along : {xs : List Thing} {from to : ℕ} → LieBetween xs from to → from ≤ to
along (nothing le) = le
along (placed {span = span} {from = from} {to = to} inside le inner more) =
    let a = along inner in
    let b = along more in
    omega (arith, le, a, b)
along (spread made more) = along more

pub same : (n : ℕ) → n ≤ n
same n = omega arith

pub through : (a b c : ℕ) → a ≤ b → b ≤ c → a ≤ c
through a b c le more = omega (arith, le, more)

-- it stands between bytes further apart, too
pub widened : {xs : List Thing} {from to : ℕ} (before behind : ℕ) → LieBetween xs from to → before ≤ from → to ≤ behind → LieBetween xs before behind
widened before behind (nothing {from = from} {to = to} le) first last = nothing (omega (arith, le, first, last))
widened before behind (placed {span = span} {from = from} {to = to} inside le inner more) first last =
    placed inside (through before from span.from first le) inner (widened span.to behind more (same span.to) last)
widened before behind (spread made more) first last = spread made (widened before behind more first last)

pub ends_by : {xs : List Thing} {from to : ℕ} (behind : ℕ) → LieBetween xs from to → to ≤ behind → LieBetween xs from behind
ends_by {xs} {from} {to} behind s last = widened from behind s (same from) last

pub begins_by : {xs : List Thing} {from to : ℕ} (before : ℕ) → LieBetween xs from to → before ≤ from → LieBetween xs before to
begins_by {xs} {from} {to} before s first = widened before to s first (same to)

-- one list behind another
pub behind : {xs ys : List Thing} {a b c : ℕ} → LieBetween xs a b → LieBetween ys b c → LieBetween (xs ++ ys) a c
behind {ys = ys} {a = a} {b = b} {c = c} (nothing le) more = begins_by a more le
behind (placed inside le inner rest) more = placed inside le inner (behind rest more)
behind {ys = ys} {a = a} {b = b} {c = c} (spread {inner = inner} {more = more} made rest) others =
    spread made (subst (λ (zs : List Thing). LieBetween zs a c) (append_assoc inner more ys) (behind rest others))

-- a part by itself
pub alone : {x : Thing} {span : Span} {inner : List Thing} (from to : ℕ) → Inside x span inner → LieBetween inner span.from span.to → from ≤ span.from → span.to ≤ to → LieBetween (x ∷ []) from to
alone from to inside inner first last = placed inside first inner (nothing last)

pub made_of : {x : Thing} {inner : List Thing} {from to : ℕ} → IsMadeOf x inner → LieBetween inner from to → LieBetween (x ∷ []) from to
made_of {x} {inner} {from} {to} made s = spread made (subst (λ (zs : List Thing). LieBetween zs from to) (sym (append-nil inner)) s)

-- a place between two bytes
pub record Within (span : Span) (from to : ℕ) : Type 0 where
  pub first : from ≤ span.from
  pub goes : span.from ≤ span.to
  pub last : span.to ≤ to

-- a part that stands somewhere, and where: its place is this one
pub record StandsAt (x : Thing) (span : Span) (from to : ℕ) : Type 0 where
  pub within : Within span from to
  pub there : LieBetween (x ∷ []) span.from span.to

pub stands_at : {x : Thing} {span : Span} {inner : List Thing} (from to : ℕ) → Inside x span inner → LieBetween inner span.from span.to → from ≤ span.from → span.to ≤ to → StandsAt x span from to
stands_at {span = span} from to inside inner first last = record {
  within = record { first = first; goes = along inner; last = last };
  there = alone span.from span.to inside inner (same span.from) (same span.to);
}

pub stands_in : {x : Thing} {span : Span} {from to : ℕ} → StandsAt x span from to → LieBetween (x ∷ []) from to
stands_in {from = from} {to = to} s = widened from to s.there s.within.first s.within.last

-- its place alone
pub starts_at : {x : Thing} {span : Span} {from to : ℕ} → StandsAt x span from to → LieBetween (x ∷ []) span.from to
starts_at {to = to} s = ends_by to s.there s.within.last

pub lies_in : {span : Span} {from to : ℕ} → Within span from to → LieBetween (things.spot span ∷ []) from to
lies_in {span} {from} {to} w = alone from to (things.of_spot span) (nothing w.goes) w.first w.last

-- ---- blocks and types have their place in them

block_place : {b : Block} {span : Span} {inner : List Thing} → Inside (things.block b) span inner → (out-Block b).span ≡ span
block_place (things.of_block span statements value) = λ i. (out-roll-Block (record { span = span; statements = statements; value = value }) i).span

type_place : {ty : TypeExpr} {span : Span} {inner : List Thing} → Inside (things.type_expr ty) span inner → (out-TypeExpr ty).span ≡ span
type_place (things.of_bits span is_signed width) = λ i. (out-roll-TypeExpr (record { span = span; node = types.Bits is_signed width }) i).span
type_place (things.of_wide span is_signed width) = λ i. (out-roll-TypeExpr (record { span = span; node = types.Wide is_signed width }) i).span
type_place (things.of_bool_type span) = λ i. (out-roll-TypeExpr (record { span = span; node = types.Bool }) i).span
type_place (things.of_type_name span name there) = λ i. (out-roll-TypeExpr (record { span = span; node = types.Name name }) i).span
type_place (things.of_tuple_type span parts) = λ i. (out-roll-TypeExpr (record { span = span; node = types.Tuple parts }) i).span
type_place (things.of_array_type span element size) = λ i. (out-roll-TypeExpr (record { span = span; node = types.Array element size }) i).span

no_block : {b : Block} {inner : List Thing} → IsMadeOf (things.block b) inner → ⊥
no_block made = elim made [ ]

no_type : {ty : TypeExpr} {inner : List Thing} → IsMadeOf (things.type_expr ty) inner → ⊥
no_type made = elim made [ ]

at_place : {x : Thing} {span : Span} {inner : List Thing} (place : Span) (from to : ℕ) → place ≡ span → Inside x span inner → from ≤ span.from → LieBetween inner span.from span.to → LieBetween [] span.to to → StandsAt x place from to
at_place {x} {span} place from to is inside first inner more =
    subst (λ (p : Span). StandsAt x p from to) (sym is) (stands_at from to inside inner first (along more))

pub block_stands : {b : Block} {from to : ℕ} → LieBetween (things.block b ∷ []) from to → StandsAt (things.block b) (out-Block b).span from to
block_stands {b} {from} {to} (placed inside first inner more) = at_place (out-Block b).span from to (block_place inside) inside first inner more
block_stands (spread made more) = absurd (no_block made)

pub type_stands : {ty : TypeExpr} {from to : ℕ} → LieBetween (things.type_expr ty ∷ []) from to → StandsAt (things.type_expr ty) (out-TypeExpr ty).span from to
type_stands {ty} {from} {to} (placed inside first inner more) = at_place (out-TypeExpr ty).span from to (type_place inside) inside first inner more
type_stands (spread made more) = absurd (no_type made)

-- ---- expressions, each with a place that may take in parentheses

pub record IsOperand (o : Operand) (from to : ℕ) : Type 0 where
  pub within : Within o.span from to
  pub there : LieBetween (things.expr o.expr ∷ []) o.span.from o.span.to

-- an expression by itself
pub operand_stands : {inner : List Thing} (span : Span) (node : Node) (from to : ℕ) → Inside (things.expr_at span node) span inner → LieBetween inner span.from span.to → from ≤ span.from → span.to ≤ to → IsOperand (operand_at span node) from to
operand_stands span node from to inside inner first last = record {
  within = record { first = first; goes = along inner; last = last };
  there = alone span.from span.to inside inner (same span.from) (same span.to);
}

pub operand_in : {o : Operand} {from to : ℕ} → IsOperand o from to → LieBetween (things.expr o.expr ∷ []) from to
operand_in {from = from} {to = to} s = widened from to s.there s.within.first s.within.last

-- from its own beginning
pub operand_at_start : {o : Operand} {from to : ℕ} → IsOperand o from to → LieBetween (things.expr o.expr ∷ []) o.span.from to
operand_at_start {to = to} s = ends_by to s.there s.within.last

-- up to its own end
pub operand_at_end : {o : Operand} {from to : ℕ} → IsOperand o from to → LieBetween (things.expr o.expr ∷ []) from o.span.to
operand_at_end {from = from} s = begins_by from s.there s.within.first
