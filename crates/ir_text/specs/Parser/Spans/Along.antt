-- Where the tokens and the lines of a text stand in it.
use Rattle.std.specs.Prelude.{◌≡◌, ◌≤◌, ◌<◌, ◌-◌, ℕ, List, [], ◌∷◌, ◌++◌, drop, length, take}
use Rattle.std.specs.List.{Contains}
use Rattle.xb_span.specs.declared.span.Span.{Span}
use Rattle.dslx_token.specs.Lexeme.{Lexeme}
use Rattle.ir_tree.specs.declared.rules.line_spans.LineSpans.{LineSpans}
use Rattle.ir_tree.specs.declared.rules.line_spans.ProcSpans.{ProcSpans}
use Rattle.ir_builder.specs.declared.builder.Spanned.{Spanned}
use Rattle.ir_text.specs.Parser.Texts.{IsIrTextOf}

-- The text has the token's bytes where its span says.
abbrev pub HasTokenBytes : List ℕ → Lexeme → Type 0
HasTokenBytes text l = take (l.span.to - l.span.from) (drop l.span.from text) ≡ l.bytes

-- The tokens stand in the text between these bytes, one behind the other, and none is empty.
abbrev pub AreTokensAlong : List ℕ → List Lexeme → ℕ → ℕ → Type 0
AreTokensAlong text [] from to = from ≤ to
AreTokensAlong text (l ∷ ls) from to =
    (from ≤ l.span.from) × (l.span.from < l.span.to) × HasTokenBytes text l × AreTokensAlong text ls l.span.to to

-- The tokens stand in the text, with the mark at its end behind them.
pub record AreTokensIn (text : List ℕ) (ls : List Lexeme) : Type 0 where
  pub words : List Lexeme
  pub mark : Lexeme
  pub ls_are : ls ≡ words ++ mark ∷ []
  pub along : AreTokensAlong text words 0 (length text)
  pub marked : mark.span ≡ record { from = length text; to = length text }

-- The spans stand between these bytes, one behind the other, and none is empty.
abbrev pub AreSpansAlong : List Span → ℕ → ℕ → Type 0
AreSpansAlong [] from to = from ≤ to
AreSpansAlong (s ∷ ss) from to = (from ≤ s.from) × (s.from < s.to) × AreSpansAlong ss s.to to

-- The lines of procs stand between these bytes, one behind the other: of each its first line, its nodes, its next state, and the brace that ends it.
abbrev pub AreProcsAlong : List ProcSpans → ℕ → ℕ → Type 0
AreProcsAlong [] from to = from ≤ to
AreProcsAlong (p ∷ ps) from to =
    (brace : ℕ) × AreSpansAlong (p.head ∷ (p.nodes ++ p.next ∷ [])) from brace × (brace < p.end) × AreProcsAlong ps p.end to

-- All lines of a package stand between these bytes, one behind the other: that of its name, those of its channels, and its procs.
pub record AreLinesAlong (at : LineSpans) (from to : ℕ) : Type 0 where
  pub behind : ℕ
  pub first : AreSpansAlong (at.name ∷ at.channels) from behind
  pub procs : AreProcsAlong at.procs behind to

-- The span is that of one of these lines.
pub data IsOneOfLines (at : LineSpans) : Span → Type 0 where
  of_name : IsOneOfLines at at.name
  of_channel : (span : Span) → Contains at.channels span → IsOneOfLines at span
  of_head : (p : ProcSpans) → Contains at.procs p → IsOneOfLines at p.head
  of_node : (p : ProcSpans) (span : Span) → Contains at.procs p → Contains p.nodes span → IsOneOfLines at span
  of_next : (p : ProcSpans) → Contains at.procs p → IsOneOfLines at p.next

-- The text is a package, one of whose lines stands there.
pub record IsLineSpanIn (text : List ℕ) (span : Span) : Type 0 where
  pub spanned : Spanned
  pub shown : IsIrTextOf text spanned
  pub one : IsOneOfLines spanned.line_spans span
