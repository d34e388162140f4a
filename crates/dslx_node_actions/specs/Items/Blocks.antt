-- What the rules of statements and blocks make of the parts that their symbols left.
use Rattle.std.specs.Prelude.{◌∷◌, None, Some, drop, take, reverse}
use Rattle.dslx_tree.specs.declared.block.Block.{roll-Block}
use Rattle.dslx_tree.specs.declared.block.Let.{roll-Let}
use Rattle.dslx_tree.specs.declared.block.Stmt as stmts
use Rattle.dslx_actions.specs.declared.parts.SemanticStacks.{SemanticStacks}
use Rattle.dslx_actions.specs.Common.{across}
use Rattle.dslx_actions.specs.Empty.{no_expr, no_pattern}
use Rattle.base.specs.Stacks.Tops.{top_or}

-- `let pattern : type = expr ;`
abbrev pub let_stmt : SemanticStacks → SemanticStacks
let_stmt s = record s {
  token_spans = drop 3 s.token_spans;
  patterns = drop 1 s.patterns;
  annotations = drop 1 s.annotations;
  expr_spans = drop 1 s.expr_spans;
  exprs = drop 1 s.exprs;
  statements = stmts.Let (roll-Let (record {
    span = across 3 s.token_spans;
    pattern = top_or no_pattern s.patterns;
    ty = top_or None s.annotations;
    value = top_or no_expr s.exprs;
  })) ∷ s.statements;
}

-- `;` behind an expression
abbrev pub bare_stmt : SemanticStacks → SemanticStacks
bare_stmt s = record s {
  token_spans = drop 1 s.token_spans;
  expr_spans = drop 1 s.expr_spans;
  exprs = drop 1 s.exprs;
  statements = stmts.Bare (top_or no_expr s.exprs) ∷ s.statements;
}

-- no statement stands behind the expression: it is the value of the block
abbrev pub last_value : SemanticStacks → SemanticStacks
last_value s = record s {
  expr_spans = drop 1 s.expr_spans;
  exprs = drop 1 s.exprs;
  values = Some (top_or no_expr s.exprs) ∷ s.values;
  counts = 0 ∷ s.counts;
}

-- `{ statements }`
abbrev pub block : SemanticStacks → SemanticStacks
block s =
    let count = top_or 0 s.counts in
    record s {
      token_spans = drop 2 s.token_spans;
      counts = drop 1 s.counts;
      values = drop 1 s.values;
      statements = drop count s.statements;
      blocks = roll-Block (record {
        span = across 2 s.token_spans;
        statements = reverse (take count s.statements);
        value = top_or None s.values;
      }) ∷ s.blocks;
    }
