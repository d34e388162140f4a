-- What the rules of blocks where an expression stands, of `if`, `match` and `for` make of the parts that their symbols left.
use Rattle.std.specs.Prelude.{suc, ◌∷◌, Option, None, drop, take, reverse}
use Rattle.dslx_tree.specs.declared.block.Block.{out-Block}
use Rattle.dslx_tree.specs.declared.expr.Arm.{roll-Arm}
use Rattle.dslx_tree.specs.declared.expr.For.{For, roll-For}
use Rattle.dslx_tree.specs.declared.expr.Node as nodes
use Rattle.dslx_tree.specs.declared.type_expr.TypeExpr.{TypeExpr}
use Rattle.dslx_actions.specs.declared.parts.SemanticStacks.{SemanticStacks}
use Rattle.dslx_actions.specs.Common.{across}
use Rattle.dslx_actions.specs.Empty.{join, no_block, no_pattern}
use Rattle.base.specs.Stacks.Tops.{top_or}
use Rattle.dslx_node_actions.specs.Exprs.Atoms.Exprs.{expr_at, first_expr, first_span, second_expr, third_expr}

-- a block where an expression stands
abbrev pub block_expr : SemanticStacks → SemanticStacks
block_expr s =
    let block = top_or no_block s.blocks in
    let span = (out-Block block).span in
    record s { blocks = drop 1 s.blocks; expr_spans = span ∷ s.expr_spans; exprs = expr_at span (nodes.Block block) ∷ s.exprs }

-- `if expr block else expr`
abbrev pub if_expr : SemanticStacks → SemanticStacks
if_expr s =
    let span = join (across 2 s.token_spans) (first_span s) in
    record s {
      token_spans = drop 2 s.token_spans;
      blocks = drop 1 s.blocks;
      expr_spans = span ∷ drop 1 (drop 1 s.expr_spans);
      exprs = expr_at span (nodes.If (second_expr s) (top_or no_block s.blocks) (first_expr s)) ∷ drop 1 (drop 1 s.exprs);
    }

-- `pattern | patterns => expr`, with so many patterns behind the first
abbrev pub arm : SemanticStacks → SemanticStacks
arm s =
    let count = suc (top_or 0 s.counts) in
    record s {
      token_spans = drop 1 s.token_spans;
      counts = drop 1 s.counts;
      patterns = drop count s.patterns;
      expr_spans = drop 1 s.expr_spans;
      exprs = drop 1 s.exprs;
      arms = roll-Arm (record { patterns = reverse (take count s.patterns); value = first_expr s }) ∷ s.arms;
    }

-- `match expr { arms }`
abbrev pub match_expr : SemanticStacks → SemanticStacks
match_expr s =
    let count = top_or 0 s.counts in
    let span = across 3 s.token_spans in
    record s {
      token_spans = drop 3 s.token_spans;
      counts = drop 1 s.counts;
      arms = drop count s.arms;
      expr_spans = span ∷ drop 1 s.expr_spans;
      exprs = expr_at span (nodes.Match (first_expr s) (reverse (take count s.arms))) ∷ drop 1 s.exprs;
    }

-- the parts of a loop with this type
abbrev pub loop_of : Option TypeExpr → SemanticStacks → For
loop_of ty s = roll-For (record {
  index = top_or no_pattern (drop 1 s.patterns);
  accumulator = top_or no_pattern s.patterns;
  ty = ty;
  from = third_expr s;
  to = second_expr s;
  body = top_or no_block s.blocks;
  start = first_expr s;
})

-- what is left behind them
abbrev pub without_loop : SemanticStacks → SemanticStacks
without_loop s = record s {
  patterns = drop 1 (drop 1 s.patterns);
  blocks = drop 1 s.blocks;
  expr_spans = drop 1 (drop 1 (drop 1 s.expr_spans));
  exprs = drop 1 (drop 1 (drop 1 s.exprs));
}

-- `for ( pattern , pattern ) : type in expr .. expr block ( expr )`
abbrev pub for_expr : SemanticStacks → SemanticStacks
for_expr s =
    let span = across 8 s.token_spans in
    let left = without_loop s in
    record left {
      token_spans = drop 8 s.token_spans;
      annotations = drop 1 s.annotations;
      expr_spans = span ∷ left.expr_spans;
      exprs = expr_at span (nodes.For (loop_of (top_or None s.annotations) s)) ∷ left.exprs;
    }
