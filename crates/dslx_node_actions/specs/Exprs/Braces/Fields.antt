-- What the rules of struct values make of the parts that their symbols left.
use Rattle.std.specs.Prelude.{◌∷◌, None, Some, drop, take, reverse}
use Rattle.dslx_tree.specs.declared.expr.FieldValue.{roll-FieldValue}
use Rattle.dslx_tree.specs.declared.expr.Node as nodes
use Rattle.dslx_actions.specs.declared.parts.SemanticStacks.{SemanticStacks}
use Rattle.dslx_actions.specs.Common.{across}
use Rattle.dslx_actions.specs.Empty.{join, no_ident}
use Rattle.base.specs.Stacks.Tops.{top_or}
use Rattle.dslx_node_actions.specs.Exprs.Atoms.Exprs.{expr_at, first_expr}

-- `name : expr` in a struct value
abbrev pub field_value : SemanticStacks → SemanticStacks
field_value s = record s {
  token_spans = drop 1 s.token_spans;
  idents = drop 1 s.idents;
  expr_spans = drop 1 s.expr_spans;
  exprs = drop 1 s.exprs;
  field_values = roll-FieldValue (record { name = top_or no_ident s.idents; value = Some (first_expr s) }) ∷ s.field_values;
}

-- `name` in a struct value
abbrev pub field_name : SemanticStacks → SemanticStacks
field_name s = record s {
  idents = drop 1 s.idents;
  field_values = roll-FieldValue (record { name = top_or no_ident s.idents; value = None }) ∷ s.field_values;
}

-- `{ fields }` behind a name
abbrev pub struct_expr : SemanticStacks → SemanticStacks
struct_expr s =
    let count = top_or 0 s.counts in
    let ident = top_or no_ident s.idents in
    let span = join ident.span (across 2 s.token_spans) in
    record s {
      token_spans = drop 2 s.token_spans;
      counts = drop 1 s.counts;
      idents = drop 1 s.idents;
      values = drop 1 s.values;
      field_values = drop count s.field_values;
      expr_spans = span ∷ s.expr_spans;
      exprs = expr_at span (nodes.Struct ident (reverse (take count s.field_values)) (top_or None s.values)) ∷ s.exprs;
    }
