-- What the rules of types make of the parts that their symbols left.
use Rattle.std.specs.Prelude.{◌∷◌, true, false, drop, take, reverse}
use Rattle.xb_span.specs.declared.span.Span.{Span}
use Rattle.dslx_tree.specs.declared.type_expr.TypeExpr.{TypeExpr, out-TypeExpr, roll-TypeExpr}
use Rattle.dslx_tree.specs.declared.type_expr.TypeNode.{TypeNode}
use Rattle.dslx_tree.specs.declared.type_expr.TypeNode as types
use Rattle.dslx_actions.specs.declared.parts.SemanticStacks.{SemanticStacks}
use Rattle.dslx_actions.specs.Common.{across}
use Rattle.dslx_actions.specs.Empty.{join, no_digits, no_expr, no_ident, no_type}
use Rattle.base.specs.Stacks.Tops.{top_or}

abbrev pub type_at : Span → TypeNode → TypeExpr
type_at span node = roll-TypeExpr (record { span = span; node = node })

-- `- number`
abbrev pub negative : SemanticStacks → SemanticStacks
negative s =
    let number = top_or no_digits s.numbers in
    record s {
      token_spans = drop 1 s.token_spans;
      numbers = record { span = join (across 1 s.token_spans) number.span; is_negative = true; value = number.value } ∷ drop 1 s.numbers;
    }

-- a name that stands for a type
abbrev pub named_type : SemanticStacks → SemanticStacks
named_type s =
    let ident = top_or no_ident s.idents in
    record s { idents = drop 1 s.idents; types = type_at ident.span (types.Name ident.name) ∷ s.types }

-- `uN [ expr ]`
abbrev pub wide_type : SemanticStacks → SemanticStacks
wide_type s = record s {
  token_spans = drop 3 s.token_spans;
  flags = drop 1 s.flags;
  expr_spans = drop 1 s.expr_spans;
  exprs = drop 1 s.exprs;
  types = type_at (across 3 s.token_spans) (types.Wide (top_or false s.flags) (top_or no_expr s.exprs)) ∷ s.types;
}

-- `( types )`
abbrev pub tuple_type : SemanticStacks → SemanticStacks
tuple_type s =
    let count = top_or 0 s.counts in
    record s {
      token_spans = drop 2 s.token_spans;
      counts = drop 1 s.counts;
      types = type_at (across 2 s.token_spans) (types.Tuple (reverse (take count s.types))) ∷ drop count s.types;
    }

-- `[ expr ]` behind a type
abbrev pub array_type : SemanticStacks → SemanticStacks
array_type s =
    let element = top_or no_type s.types in
    record s {
      token_spans = drop 2 s.token_spans;
      expr_spans = drop 1 s.expr_spans;
      exprs = drop 1 s.exprs;
      types = type_at (join (out-TypeExpr element).span (across 2 s.token_spans)) (types.Array element (top_or no_expr s.exprs)) ∷ drop 1 s.types;
    }
