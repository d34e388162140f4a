-- How high the tree of a chain of operands is.
use Rattle.std.proofs.Common.{◌≤◌, ℕ, zero, suc, Bool, true, false, List, [], ◌∷◌, arith}
use Rattle.std.specs.Prelude.{◌==◌, if◌then◌else◌}
use Rattle.dslx_tree.specs.declared.operator.Binary.{Binary}
use Rattle.dslx_tree.specs.declared.operator.TheConstants.{LEVELS}
use Rattle.dslx_tree.specs.Levels.{level_of}
use Rattle.dslx_tree.specs.declared.operators.chain.Link.{Link}
use Rattle.dslx_tree.specs.declared.operators.chain.Operand.{Operand}
use Rattle.dslx_tree.specs.Operators.Levels.{Operands, joined, merged, merged_to, tree_of}
use Rattle.dslx_parser.specs.Syntax.Nodes.{from_to}
use Rattle.dslx_parser.specs.Spans.Places as things
use Rattle.dslx_parser.proofs.OnDepths.Fits.{AnExpr, Links}
use Rattle.dslx_parser.proofs.OnDepths.Nodes.{around_mark, later, reaches, same}

links_go : (d : ℕ) (ls : List Link) (a b : ℕ) → Links d ls a b → a ≤ b
links_go d [] a b k = k
links_go d (l ∷ ls) a b k = reaches a (suc a) b (reaches a a (suc a) (same a) (more_by_one a)) (reaches (suc a) k.0 b k.1.goes (links_go d ls k.0 b k.2))
  where
    more_by_one : (n : ℕ) → n ≤ suc n
    more_by_one n = omega arith

joined_high : (d : ℕ) (operator : Binary) (left right : Operand) {a b c : ℕ} → AnExpr d left a b → AnExpr d right (suc b) c → AnExpr d (joined operator left right) a c
joined_high d operator left right {b = b} r t =
    around_mark r (same (suc b)) t (things.of_binary (from_to left.span right.span) operator left.expr right.expr)

-- an operand, and the links behind it
abbrev pub ChainHigh : ℕ → Operands → ℕ → ℕ → Type 0
ChainHigh d m from to = (mid : ℕ) × AnExpr d m.first from mid × Links d m.links mid to

chosen : (d : ℕ) (test : Bool) (x y : Operands) (from to : ℕ) → ChainHigh d x from to → ChainHigh d y from to → ChainHigh d (if test then x else y) from to
chosen d true x y from to s t = s
chosen d false x y from to s t = t

-- a chain whose first operand has an operator before it
operand_next : (d : ℕ) (m : Operands) (from to : ℕ) → ChainHigh d m (suc from) to → (l : Link) → Links d (record { operator = l.operator; operand = m.first } ∷ m.links) from to
operand_next d m from to s l = (s.0, s.1, s.2)

merged_high : (d level : ℕ) (first : Operand) (links : List Link) (from mid to : ℕ) → AnExpr d first from mid → Links d links mid to → ChainHigh d (merged level first links) from to
merged_high d level first [] from mid to s ls = (mid, s, ls)
merged_high d level first (l ∷ links) from mid to s ls =
    let rest = merged_high d level l.operand links (suc mid) ls.0 to ls.1 ls.2 in
    chosen d (level_of l.operator == level) (merged level (joined l.operator first l.operand) links)
    (record { first = first; links = record { operator = l.operator; operand = (merged level l.operand links).first } ∷ (merged level l.operand links).links }) from to
    (merged_high d level (joined l.operator first l.operand) links from ls.0 to (joined_high d l.operator first l.operand s ls.1) ls.2)
    (mid, s, operand_next d (merged level l.operand links) mid to rest l)

merged_to_high : (d level : ℕ) (first : Operand) (links : List Link) (from mid to : ℕ) → AnExpr d first from mid → Links d links mid to → ChainHigh d (merged_to level first links) from to
merged_to_high d zero first links from mid to s ls = (mid, s, ls)
merged_to_high d (suc level) first links from mid to s ls =
    let so_far = merged_to_high d level first links from mid to s ls in
    merged_high d level (merged_to level first links).first (merged_to level first links).links from so_far.0 to so_far.1 so_far.2

pub chain_high : (d : ℕ) (first : Operand) (links : List Link) {from mid to : ℕ} → AnExpr d first from mid → Links d links mid to → AnExpr d (tree_of first links) from to
chain_high d first links {from} {mid} {to} s ls =
    let all = merged_to_high d LEVELS first links from mid to s ls in
    later to (links_go d (merged_to LEVELS first links).links all.0 to all.2) all.1
