-- What the rules of patterns make of the parts that their symbols left.
use Rattle.std.specs.Prelude.{Bool, ◌∷◌, Some, drop, take, reverse}
use Rattle.xb_span.specs.declared.span.Span.{Span}
use Rattle.dslx_tree.specs.declared.expr.Number.{Number, roll-Number}
use Rattle.dslx_tree.specs.declared.pattern.Pattern.{Pattern, roll-Pattern}
use Rattle.dslx_tree.specs.declared.pattern.Shape.{Shape}
use Rattle.dslx_tree.specs.declared.pattern.Shape as shapes
use Rattle.dslx_tree.specs.declared.type_expr.TypeExpr.{TypeExpr, out-TypeExpr}
use Rattle.dslx_actions.specs.declared.parts.Digits.{Digits}
use Rattle.dslx_actions.specs.declared.parts.SemanticStacks.{SemanticStacks}
use Rattle.dslx_actions.specs.Common.{across}
use Rattle.dslx_actions.specs.Empty.{join, no_digits, no_ident, no_type}
use Rattle.base.specs.Stacks.Tops.{top_or}

abbrev pub pattern_at : Span → Shape → Pattern
pattern_at span shape = roll-Pattern (record { span = span; shape = shape })

-- a number with a type
abbrev pub number_of : TypeExpr → Digits → Number
number_of ty number = roll-Number (record { ty = Some ty; is_negative = number.is_negative; value = number.value })

-- the span of a number with its type before it
abbrev pub number_span : TypeExpr → Digits → Span
number_span ty number = join (out-TypeExpr ty).span number.span

-- `_`
abbrev pub wild_pattern : SemanticStacks → SemanticStacks
wild_pattern s = record s { token_spans = drop 1 s.token_spans; patterns = pattern_at (across 1 s.token_spans) shapes.Wild ∷ s.patterns }

-- `true` or `false`
abbrev pub bool_pattern : Bool → SemanticStacks → SemanticStacks
bool_pattern value s = record s { token_spans = drop 1 s.token_spans; patterns = pattern_at (across 1 s.token_spans) (shapes.Bool value) ∷ s.patterns }

-- `: number` behind a type
abbrev pub typed_pattern : SemanticStacks → SemanticStacks
typed_pattern s =
    let ty = top_or no_type s.types in
    let number = top_or no_digits s.numbers in
    record s {
      token_spans = drop 1 s.token_spans;
      types = drop 1 s.types;
      numbers = drop 1 s.numbers;
      patterns = pattern_at (number_span ty number) (shapes.Number (number_of ty number)) ∷ s.patterns;
    }

-- a name, and nothing behind it
abbrev pub name_pattern : SemanticStacks → SemanticStacks
name_pattern s =
    let ident = top_or no_ident s.idents in
    record s { idents = drop 1 s.idents; patterns = pattern_at ident.span (shapes.Name ident.name) ∷ s.patterns }

-- `:: name` behind a name
abbrev pub member_pattern : SemanticStacks → SemanticStacks
member_pattern s =
    let member = top_or no_ident s.idents in
    let owner = top_or no_ident (drop 1 s.idents) in
    record s {
      token_spans = drop 1 s.token_spans;
      idents = drop 1 (drop 1 s.idents);
      patterns = pattern_at (join owner.span member.span) (shapes.Member owner member) ∷ s.patterns;
    }

-- `( patterns )`
abbrev pub tuple_pattern : SemanticStacks → SemanticStacks
tuple_pattern s =
    let count = top_or 0 s.counts in
    record s {
      token_spans = drop 2 s.token_spans;
      counts = drop 1 s.counts;
      patterns = pattern_at (across 2 s.token_spans) (shapes.Tuple (reverse (take count s.patterns))) ∷ drop count s.patterns;
    }
