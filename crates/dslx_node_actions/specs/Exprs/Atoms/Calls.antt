-- What the rules of calls and of arguments between `<` and `>` make of the parts that their symbols left.
use Rattle.std.specs.Prelude.{suc, [], ◌∷◌, drop, take, reverse}
use Rattle.dslx_tree.specs.declared.expr.Arg.{roll-Arg}
use Rattle.dslx_tree.specs.declared.expr.Node as nodes
use Rattle.dslx_actions.specs.declared.parts.SemanticStacks.{SemanticStacks}
use Rattle.dslx_actions.specs.Common.{across}
use Rattle.dslx_actions.specs.Empty.{join, no_ident}
use Rattle.base.specs.Stacks.Tops.{top_or}
use Rattle.dslx_node_actions.specs.Exprs.Atoms.Exprs.{expr_at, first_expr, first_span}

-- `( exprs )` behind a name
abbrev pub call_expr : SemanticStacks → SemanticStacks
call_expr s =
    let count = top_or 0 s.counts in
    let ident = top_or no_ident s.idents in
    let span = join ident.span (across 2 s.token_spans) in
    record s {
      token_spans = drop 2 s.token_spans;
      counts = drop 1 s.counts;
      idents = drop 1 s.idents;
      expr_spans = span ∷ drop count s.expr_spans;
      exprs = expr_at span (nodes.Call ident [] (reverse (take count s.exprs))) ∷ drop count s.exprs;
    }

-- `< args > ( exprs )` behind a name
abbrev pub call_with_args : SemanticStacks → SemanticStacks
call_with_args s =
    let count = top_or 0 s.counts in
    let args = suc (top_or 0 (drop 1 s.counts)) in
    let ident = top_or no_ident s.idents in
    let span = join ident.span (across 4 s.token_spans) in
    record s {
      token_spans = drop 4 s.token_spans;
      counts = drop 1 (drop 1 s.counts);
      idents = drop 1 s.idents;
      args = drop args s.args;
      expr_spans = span ∷ drop count s.expr_spans;
      exprs = expr_at span (nodes.Call ident (reverse (take args s.args)) (reverse (take count s.exprs))) ∷ drop count s.exprs;
    }

-- what stands between `<` and `>`
abbrev pub bare_arg : SemanticStacks → SemanticStacks
bare_arg s = record s {
  expr_spans = drop 1 s.expr_spans;
  exprs = drop 1 s.exprs;
  args = roll-Arg (record { span = first_span s; value = first_expr s }) ∷ s.args;
}

-- `{ expr }` between `<` and `>`
abbrev pub braced_arg : SemanticStacks → SemanticStacks
braced_arg s = record s {
  token_spans = drop 2 s.token_spans;
  expr_spans = drop 1 s.expr_spans;
  exprs = drop 1 s.exprs;
  args = roll-Arg (record { span = across 2 s.token_spans; value = first_expr s }) ∷ s.args;
}
