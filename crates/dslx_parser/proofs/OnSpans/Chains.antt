-- The tree of a chain of operands stands where they do.
use Rattle.std.proofs.Common.{◌≤◌, ℕ, zero, suc, Bool, true, false, List, [], ◌∷◌}
use Rattle.std.specs.Prelude.{◌==◌, if◌then◌else◌}
use Rattle.dslx_tree.specs.declared.expr.Node as nodes
use Rattle.dslx_tree.specs.declared.operator.Binary.{Binary}
use Rattle.dslx_tree.specs.declared.operator.TheConstants.{LEVELS}
use Rattle.dslx_tree.specs.Levels.{level_of}
use Rattle.dslx_tree.specs.declared.operators.chain.Link.{Link}
use Rattle.dslx_tree.specs.declared.operators.chain.Operand.{Operand}
use Rattle.dslx_tree.specs.Operators.Levels.{Operands, joined, merged, merged_to, tree_of}
use Rattle.dslx_parser.specs.Syntax.Nodes.{from_to}
use Rattle.dslx_parser.specs.Spans.Places as things
use Rattle.dslx_parser.proofs.OnSpans.Around.{operand_by}
use Rattle.dslx_parser.proofs.OnSpans.Fits.{Links}
use Rattle.dslx_parser.proofs.OnSpans.Standing.{IsOperand, behind, operand_at_end, operand_at_start, operand_stands, through}

links_go : (ls : List Link) (a b : ℕ) → Links ls a b → a ≤ b
links_go [] a b k = k
links_go (l ∷ ls) a b k =
    through a k.0 b (through a l.operand.span.from k.0 k.1.within.first (through l.operand.span.from l.operand.span.to k.0 k.1.within.goes k.1.within.last))
    (links_go ls k.0 b k.2)

joined_stands : (operator : Binary) {left right : Operand} {a b c : ℕ} → IsOperand left a b → IsOperand right b c → IsOperand (joined operator left right) a c
joined_stands operator {left} {right} {a} {b} {c} s t =
    operand_stands (from_to left.span right.span) (nodes.Binary operator left.expr right.expr) a c
    (things.of_binary (from_to left.span right.span) operator left.expr right.expr)
    (behind (operand_at_start s) (operand_at_end t)) s.within.first t.within.last

-- an operand, and the links behind it
abbrev pub ChainStands : Operands → ℕ → ℕ → Type 0
ChainStands m from to = (mid : ℕ) × IsOperand m.first from mid × Links m.links mid to

chosen : (test : Bool) (x y : Operands) (from to : ℕ) → ChainStands x from to → ChainStands y from to → ChainStands (if test then x else y) from to
chosen true x y from to s t = s
chosen false x y from to s t = t

merged_stands : (level : ℕ) (first : Operand) (links : List Link) (from mid to : ℕ) → IsOperand first from mid → Links links mid to → ChainStands (merged level first links) from to
merged_stands level first [] from mid to s ls = (mid, s, ls)
merged_stands level first (l ∷ links) from mid to s ls =
    let rest = merged_stands level l.operand links mid ls.0 to ls.1 ls.2 in
    chosen (level_of l.operator == level) (merged level (joined l.operator first l.operand) links)
    (record { first = first; links = record { operator = l.operator; operand = (merged level l.operand links).first } ∷ (merged level l.operand links).links }) from to
    (merged_stands level (joined l.operator first l.operand) links from ls.0 to (joined_stands l.operator s ls.1) ls.2)
    (mid, s, rest)

merged_to_stands : (level : ℕ) (first : Operand) (links : List Link) (from mid to : ℕ) → IsOperand first from mid → Links links mid to → ChainStands (merged_to level first links) from to
merged_to_stands zero first links from mid to s ls = (mid, s, ls)
merged_to_stands (suc level) first links from mid to s ls =
    let so_far = merged_to_stands level first links from mid to s ls in
    merged_stands level (merged_to level first links).first (merged_to level first links).links from so_far.0 to so_far.1 so_far.2

pub chain_stands : (first : Operand) (links : List Link) {from mid to : ℕ} → IsOperand first from mid → Links links mid to → IsOperand (tree_of first links) from to
chain_stands first links {from} {mid} {to} s ls =
    let all = merged_to_stands LEVELS first links from mid to s ls in
    operand_by all.1 (links_go (merged_to LEVELS first links).links all.0 to all.2)
