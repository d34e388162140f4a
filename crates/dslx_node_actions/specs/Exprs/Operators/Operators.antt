-- What the rules of operators and of what stands behind an atom make of the parts that their symbols left.
use Rattle.std.specs.Prelude.{ℕ, zero, suc, List, [], ◌∷◌, ◌++◌, drop}
use Rattle.xb_span.specs.declared.span.Span.{Span}
use Rattle.xb_span.specs.Spans.{nowhere}
use Rattle.dslx_tree.specs.declared.expr.Expr.{Expr}
use Rattle.dslx_tree.specs.declared.expr.Node as nodes
use Rattle.dslx_tree.specs.declared.operator.Binary.{Binary}
use Rattle.dslx_tree.specs.declared.operator.Binary.TheVariants.{Mul}
use Rattle.dslx_tree.specs.declared.operator.Prefix.{Prefix}
use Rattle.dslx_tree.specs.declared.type_expr.TypeExpr.{out-TypeExpr}
use Rattle.dslx_tree.specs.declared.operators.chain.Link.{Link}
use Rattle.dslx_tree.specs.declared.operators.chain.Operand.{Operand}
use Rattle.dslx_tree.specs.Operators.Levels.{tree_of}
use Rattle.dslx_actions.specs.declared.parts.SemanticStacks.{SemanticStacks}
use Rattle.dslx_actions.specs.Common.{across}
use Rattle.dslx_actions.specs.Empty.{join, no_digits, no_expr, no_ident, no_type}
use Rattle.base.specs.Stacks.Tops.{top_or}
use Rattle.dslx_node_actions.specs.Exprs.Atoms.Exprs.{expr_at, first_expr, first_span, second_expr, second_span, third_expr, third_span}

-- the sign of an operator
abbrev pub operator : Binary → SemanticStacks → SemanticStacks
operator sign s = record s { token_spans = drop 1 s.token_spans; operators = sign ∷ s.operators }

abbrev pub operand_of : List Span → List Expr → Operand
operand_of expr_spans es = record { span = top_or nowhere expr_spans; expr = top_or no_expr es }

-- the last so many operands of a chain, in order, each with the operator before it
abbrev pub links_of : ℕ → List Binary → List Span → List Expr → List Link
links_of zero signs expr_spans es = []
links_of (suc count) signs expr_spans es =
    links_of count (drop 1 signs) (drop 1 expr_spans) (drop 1 es) ++ record { operator = top_or Mul signs; operand = operand_of expr_spans es } ∷ []

abbrev pub placed : Operand → Span × Expr
placed o = (o.span, o.expr)

-- operands with operators between them, of which so many stand behind the first
abbrev pub chain : SemanticStacks → SemanticStacks
chain s =
    let count = top_or 0 s.counts in
    let tree = tree_of (operand_of (drop count s.expr_spans) (drop count s.exprs)) (links_of count s.operators s.expr_spans s.exprs) in
    record s {
      counts = drop 1 s.counts;
      operators = drop count s.operators;
      expr_spans = tree.span ∷ drop 1 (drop count s.expr_spans);
      exprs = tree.expr ∷ drop 1 (drop count s.exprs);
    }

-- a sign before an expression
abbrev pub prefixed : Prefix → SemanticStacks → SemanticStacks
prefixed sign s =
    let span = join (across 1 s.token_spans) (first_span s) in
    record s {
      token_spans = drop 1 s.token_spans;
      expr_spans = span ∷ drop 1 s.expr_spans;
      exprs = expr_at span (nodes.Prefix sign (first_expr s)) ∷ drop 1 s.exprs;
    }

-- `as type` behind an expression
abbrev pub cast_expr : SemanticStacks → SemanticStacks
cast_expr s =
    let ty = top_or no_type s.types in
    let span = join (first_span s) (out-TypeExpr ty).span in
    record s {
      token_spans = drop 1 s.token_spans;
      types = drop 1 s.types;
      expr_spans = span ∷ drop 1 s.expr_spans;
      exprs = expr_at span (nodes.Cast (first_expr s) ty) ∷ drop 1 s.exprs;
    }

-- `[ expr ]` behind an expression
abbrev pub index_expr : SemanticStacks → SemanticStacks
index_expr s =
    let span = join (second_span s) (across 2 s.token_spans) in
    record s {
      token_spans = drop 2 s.token_spans;
      expr_spans = span ∷ drop 1 (drop 1 s.expr_spans);
      exprs = expr_at span (nodes.Index (second_expr s) (first_expr s)) ∷ drop 1 (drop 1 s.exprs);
    }

-- `[ expr : expr ]` behind an expression
abbrev pub slice_expr : SemanticStacks → SemanticStacks
slice_expr s =
    let span = join (third_span s) (across 3 s.token_spans) in
    record s {
      token_spans = drop 3 s.token_spans;
      expr_spans = span ∷ drop 1 (drop 1 (drop 1 s.expr_spans));
      exprs = expr_at span (nodes.Slice (third_expr s) (second_expr s) (first_expr s)) ∷ drop 1 (drop 1 (drop 1 s.exprs));
    }

-- `[ expr +: type ]` behind an expression
abbrev pub part_expr : SemanticStacks → SemanticStacks
part_expr s =
    let span = join (second_span s) (across 3 s.token_spans) in
    record s {
      token_spans = drop 3 s.token_spans;
      types = drop 1 s.types;
      expr_spans = span ∷ drop 1 (drop 1 s.expr_spans);
      exprs = expr_at span (nodes.Part (second_expr s) (first_expr s) (top_or no_type s.types)) ∷ drop 1 (drop 1 s.exprs);
    }

-- `. name` behind an expression
abbrev pub field_expr : SemanticStacks → SemanticStacks
field_expr s =
    let ident = top_or no_ident s.idents in
    let span = join (first_span s) ident.span in
    record s {
      token_spans = drop 1 s.token_spans;
      idents = drop 1 s.idents;
      expr_spans = span ∷ drop 1 s.expr_spans;
      exprs = expr_at span (nodes.Field (first_expr s) ident) ∷ drop 1 s.exprs;
    }

-- `. number` behind an expression
abbrev pub element_expr : SemanticStacks → SemanticStacks
element_expr s =
    let number = top_or no_digits s.numbers in
    let span = join (first_span s) number.span in
    record s {
      token_spans = drop 1 s.token_spans;
      numbers = drop 1 s.numbers;
      expr_spans = span ∷ drop 1 s.expr_spans;
      exprs = expr_at span (nodes.Element (first_expr s) number.span number.value) ∷ drop 1 s.exprs;
    }
