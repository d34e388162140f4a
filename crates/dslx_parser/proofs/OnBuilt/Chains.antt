-- Operands with operators between them, pushed onto the stacks.
use Rattle.std.proofs.Common.{◌≡◌, ◌∙◌, ◌+◌, ℕ, suc, List, [], ◌∷◌, ◌++◌, length, map, drop, ap, sym, arith}
use Rattle.std.proofs.lemmas.List.{append_assoc, append-nil}
use Rattle.xb_span.specs.declared.span.Span.{Span}
use Rattle.dslx_tree.specs.declared.expr.Expr.{Expr}
use Rattle.dslx_tree.specs.declared.operator.Binary.{Binary}
use Rattle.dslx_tree.specs.declared.operators.chain.Link.{Link}
use Rattle.dslx_tree.specs.Operators.Levels.{tree_of}
use Rattle.dslx_actions.specs.declared.parts.SemanticStacks.{SemanticStacks}
use Rattle.dslx_node_actions.specs.Exprs.Operators.Operators.{links_of, operand_of}
use Rattle.dslx_parser.proofs.OnBuilt.Onto.{onto}

abbrev pub operator_of : Link → Binary
operator_of l = l.operator

abbrev pub span_of : Link → Span
span_of l = l.operand.span

abbrev pub expr_of : Link → Expr
expr_of l = l.operand.expr

-- a chain that is made a tree, over these stacks
abbrev pub chained : SemanticStacks → List Span → List Expr → List Binary → List Link → SemanticStacks
chained s expr_spans exprs signs links =
    let tree = tree_of (operand_of expr_spans exprs) links in
    record s { operators = signs; expr_spans = tree.span ∷ drop 1 expr_spans; exprs = tree.expr ∷ drop 1 exprs }

shift_one : (n k : ℕ) → suc n + k ≡ n + suc k
shift_one n k = omega arith

none_past : (n : ℕ) → 0 + n ≡ n
none_past n = omega arith

linked_past : (ls : List Link) (signs : List Binary) (expr_spans : List Span) (es : List Expr) (k : ℕ) → links_of (length ls + k) (onto (map operator_of ls) signs) (onto (map span_of ls) expr_spans) (onto (map expr_of ls) es) ≡ links_of k signs expr_spans es ++ ls
linked_past [] signs expr_spans es k = ap (λ (n : ℕ). links_of n signs expr_spans es) (none_past k) ∙ sym (append-nil (links_of k signs expr_spans es))
linked_past (l ∷ ls) signs expr_spans es k =
    ap (λ (n : ℕ). links_of n (onto (map operator_of ls) (l.operator ∷ signs)) (onto (map span_of ls) (l.operand.span ∷ expr_spans)) (onto (map expr_of ls) (l.operand.expr ∷ es))) (shift_one (length ls) k)
    ∙ linked_past ls (l.operator ∷ signs) (l.operand.span ∷ expr_spans) (l.operand.expr ∷ es) (suc k)
    ∙ append_assoc (links_of k signs expr_spans es) (l ∷ []) ls

all_of : (n : ℕ) → n ≡ n + 0
all_of n = omega arith

pub linked : (ls : List Link) (signs : List Binary) (expr_spans : List Span) (es : List Expr) → links_of (length ls) (onto (map operator_of ls) signs) (onto (map span_of ls) expr_spans) (onto (map expr_of ls) es) ≡ ls
linked ls signs expr_spans es =
    ap (λ (n : ℕ). links_of n (onto (map operator_of ls) signs) (onto (map span_of ls) expr_spans) (onto (map expr_of ls) es)) (all_of (length ls)) ∙ linked_past ls signs expr_spans es 0
