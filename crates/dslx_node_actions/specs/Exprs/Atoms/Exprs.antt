-- An expression and its span on the stacks.
use Rattle.std.specs.Prelude.{drop}
use Rattle.xb_span.specs.declared.span.Span.{Span}
use Rattle.xb_span.specs.Spans.{nowhere}
use Rattle.dslx_tree.specs.declared.expr.Expr.{Expr, roll-Expr}
use Rattle.dslx_tree.specs.declared.expr.Node.{Node}
use Rattle.dslx_actions.specs.declared.parts.SemanticStacks.{SemanticStacks}
use Rattle.dslx_actions.specs.Empty.{no_expr}
use Rattle.base.specs.Stacks.Tops.{top_or}

abbrev pub expr_at : Span → Node → Expr
expr_at span node = roll-Expr (record { span = span; node = node })

-- the expression on top, and its span
abbrev pub first_expr : SemanticStacks → Expr
first_expr s = top_or no_expr s.exprs

abbrev pub first_span : SemanticStacks → Span
first_span s = top_or nowhere s.expr_spans

-- those with one on top of them
abbrev pub second_expr : SemanticStacks → Expr
second_expr s = top_or no_expr (drop 1 s.exprs)

abbrev pub second_span : SemanticStacks → Span
second_span s = top_or nowhere (drop 1 s.expr_spans)

-- those with two on top of them
abbrev pub third_expr : SemanticStacks → Expr
third_expr s = top_or no_expr (drop 1 (drop 1 s.exprs))

abbrev pub third_span : SemanticStacks → Span
third_span s = top_or nowhere (drop 1 (drop 1 s.expr_spans))
