-- A token as contracts see it.
use Rattle.std.specs.Prelude.{ℕ, List}
use Rattle.xb_span.specs.declared.span.Span.{Span}

-- a kind of the grammar, the span in the text, and the bytes that stand there
pub record Lexeme : Type 0 where
  pub kind : ℕ
  pub span : Span
  pub bytes : List ℕ
