-- What rules of several sorts make of the parts that their symbols left.
use Rattle.std.specs.Prelude.{ℕ, suc, List, [], ◌∷◌, ◌-◌, drop, None, Some}
use Rattle.xb_span.specs.declared.span.Span.{Span}
use Rattle.xb_span.specs.Spans.{nowhere}
use Rattle.dslx_actions.specs.declared.parts.SemanticStacks.{SemanticStacks}
use Rattle.dslx_actions.specs.Empty.{join, no_expr, no_type}
use Rattle.base.specs.Stacks.Tops.{top_or}

-- the span of the last so many tokens
abbrev pub across : ℕ → List Span → Span
across count token_spans = join (top_or nowhere (drop (count - 1) token_spans)) (top_or nowhere (drop 0 token_spans))

-- so many tokens say nothing
abbrev pub skip : ℕ → SemanticStacks → SemanticStacks
skip count s = record s { token_spans = drop count s.token_spans }

-- of so many tokens only the span of the last one matters
abbrev pub last_mark : ℕ → SemanticStacks → SemanticStacks
last_mark count s = record s { token_spans = top_or nowhere (drop 0 s.token_spans) ∷ drop count s.token_spans }

-- a list ends, and so far has no element
abbrev pub start : SemanticStacks → SemanticStacks
start s = record s { counts = 0 ∷ s.counts }

-- the list has one element more
abbrev pub more : SemanticStacks → SemanticStacks
more s = record s { counts = suc (top_or 0 s.counts) ∷ drop 1 s.counts }

-- a list ends, and nothing stands behind it
abbrev pub nothing_more : SemanticStacks → SemanticStacks
nothing_more s = record s { values = None ∷ s.values; counts = 0 ∷ s.counts }

-- a token and a type
abbrev pub annotation : SemanticStacks → SemanticStacks
annotation s = record s {
  token_spans = drop 1 s.token_spans;
  types = drop 1 s.types;
  annotations = Some (top_or no_type s.types) ∷ s.annotations;
}

-- a type is left out
abbrev pub no_annotation : SemanticStacks → SemanticStacks
no_annotation s = record s { annotations = None ∷ s.annotations }

-- so many tokens and an expression
abbrev pub given : ℕ → SemanticStacks → SemanticStacks
given count s = record s {
  token_spans = drop count s.token_spans;
  expr_spans = drop 1 s.expr_spans;
  exprs = drop 1 s.exprs;
  values = Some (top_or no_expr s.exprs) ∷ s.values;
}

-- an expression is left out
abbrev pub left_out : SemanticStacks → SemanticStacks
left_out s = record s { values = None ∷ s.values }
