-- What the rules of numbers, names, arrays and parentheses make of the parts that their symbols left.
use Rattle.std.specs.Prelude.{Bool, true, false, [], ◌∷◌, Option, None, Some, drop, take, reverse}
use Rattle.xb_span.specs.declared.span.Span.{Span}
use Rattle.dslx_tree.specs.declared.expr.Node as nodes
use Rattle.dslx_tree.specs.declared.expr.Number.{roll-Number}
use Rattle.dslx_tree.specs.declared.type_expr.TypeExpr.{TypeExpr, out-TypeExpr}
use Rattle.dslx_actions.specs.declared.parts.SemanticStacks.{SemanticStacks}
use Rattle.dslx_actions.specs.Common.{across, skip}
use Rattle.dslx_actions.specs.Empty.{join, no_digits, no_expr, no_ident, no_type}
use Rattle.base.specs.Stacks.Tops.{top_or}
use Rattle.dslx_actions.specs.Types.Patterns.{number_of, number_span}
use Rattle.dslx_node_actions.specs.Exprs.Atoms.Exprs.{expr_at, first_expr}

-- a number alone
abbrev pub bare_number : SemanticStacks → SemanticStacks
bare_number s =
    let number = top_or no_digits s.numbers in
    record s {
      numbers = drop 1 s.numbers;
      expr_spans = number.span ∷ s.expr_spans;
      exprs = expr_at number.span (nodes.Number (roll-Number (record { ty = None; is_negative = number.is_negative; value = number.value }))) ∷ s.exprs;
    }

-- `: number` behind a type
abbrev pub typed_number : SemanticStacks → SemanticStacks
typed_number s =
    let ty = top_or no_type s.types in
    let number = top_or no_digits s.numbers in
    let span = number_span ty number in
    record s {
      token_spans = drop 1 s.token_spans;
      types = drop 1 s.types;
      numbers = drop 1 s.numbers;
      expr_spans = span ∷ s.expr_spans;
      exprs = expr_at span (nodes.Number (number_of ty number)) ∷ s.exprs;
    }

-- `true` or `false`
abbrev pub bool_expr : Bool → SemanticStacks → SemanticStacks
bool_expr value s =
    let span = across 1 s.token_spans in
    record s { token_spans = drop 1 s.token_spans; expr_spans = span ∷ s.expr_spans; exprs = expr_at span (nodes.Bool value) ∷ s.exprs }

-- The elements of an array end. The last one is repeated where `...` stands behind it.
abbrev pub last_element : SemanticStacks → SemanticStacks
last_element s = record s { counts = 0 ∷ s.counts; flags = false ∷ s.flags }

abbrev pub repeated : SemanticStacks → SemanticStacks
repeated s = record s { token_spans = drop 1 s.token_spans; counts = 0 ∷ s.counts; flags = true ∷ s.flags }

-- the elements of an array with this span and this type
abbrev pub array_at : Span → Option TypeExpr → SemanticStacks → SemanticStacks
array_at span ty s =
    let count = top_or 0 s.counts in
    record s {
      counts = drop 1 s.counts;
      flags = drop 1 s.flags;
      expr_spans = span ∷ drop count s.expr_spans;
      exprs = expr_at span (nodes.Array ty (reverse (take count s.exprs)) (top_or false s.flags)) ∷ drop count s.exprs;
    }

-- `[ elements ]`
abbrev pub array_expr : SemanticStacks → SemanticStacks
array_expr s = array_at (across 2 s.token_spans) None (skip 2 s)

-- `: [ elements ]` behind a type
abbrev pub typed_array : SemanticStacks → SemanticStacks
typed_array s =
    let ty = top_or no_type s.types in
    array_at (join (out-TypeExpr ty).span (across 3 s.token_spans)) (Some ty) (record s { token_spans = drop 3 s.token_spans; types = drop 1 s.types })

-- a name, and nothing behind it
abbrev pub name_expr : SemanticStacks → SemanticStacks
name_expr s =
    let ident = top_or no_ident s.idents in
    record s {
      idents = drop 1 s.idents;
      expr_spans = ident.span ∷ s.expr_spans;
      exprs = expr_at ident.span (nodes.Name ident.name) ∷ s.exprs;
    }

-- `:: name` behind a name
abbrev pub member_expr : SemanticStacks → SemanticStacks
member_expr s =
    let member = top_or no_ident s.idents in
    let owner = top_or no_ident (drop 1 s.idents) in
    let span = join owner.span member.span in
    record s {
      token_spans = drop 1 s.token_spans;
      idents = drop 1 (drop 1 s.idents);
      expr_spans = span ∷ s.expr_spans;
      exprs = expr_at span (nodes.Member owner member) ∷ s.exprs;
    }

-- `( )`
abbrev pub unit_expr : SemanticStacks → SemanticStacks
unit_expr s =
    let span = across 2 s.token_spans in
    record s { token_spans = drop 2 s.token_spans; expr_spans = span ∷ s.expr_spans; exprs = expr_at span (nodes.Tuple []) ∷ s.exprs }

-- `( expr )`: the expression stays, and its span takes in the parentheses
abbrev pub grouped : SemanticStacks → SemanticStacks
grouped s = record s {
  token_spans = drop 2 s.token_spans;
  expr_spans = across 2 s.token_spans ∷ drop 1 s.expr_spans;
  exprs = first_expr s ∷ drop 1 s.exprs;
}

-- `( expr , exprs )`
abbrev pub tuple_expr : SemanticStacks → SemanticStacks
tuple_expr s =
    let count = top_or 0 s.counts in
    let span = across 3 s.token_spans in
    record s {
      token_spans = drop 3 s.token_spans;
      counts = drop 1 s.counts;
      expr_spans = span ∷ drop 1 (drop count s.expr_spans);
      exprs = expr_at span (nodes.Tuple (top_or no_expr (drop count s.exprs) ∷ reverse (take count s.exprs))) ∷ drop 1 (drop count s.exprs);
    }
