-- Which tokens of a text are those of which line of its package, and the span of each line.
use Rattle.std.specs.Prelude.{◌≡◌, List, [], ◌∷◌, ◌++◌}
use Rattle.xb_span.specs.declared.span.Span.{Span}
use Rattle.dslx_token.specs.Lexeme.{Lexeme}
use Rattle.ir_builder.specs.declared.token.rules.generated.kind.TheConstants.{END, RBRACE}
use Rattle.ir_tree.specs.declared.node.Node.{Node}
use Rattle.ir_tree.specs.declared.package.Channel.{Channel}
use Rattle.ir_tree.specs.declared.package.Package.{Package}
use Rattle.ir_tree.specs.declared.package.Proc.{Proc}
use Rattle.ir_tree.specs.declared.rules.line_spans.LineSpans.{LineSpans}
use Rattle.ir_tree.specs.declared.rules.line_spans.ProcSpans.{ProcSpans}
use Rattle.ir_text.specs.Parser.Spans.Lines.{FollowInTurn, IsLineOfForm, IsNamedLine, IsOpLine, channel_form, head_form, next_form, package_form}

-- the line of a channel
abbrev pub IsChannelLine : List Lexeme → Channel → Span → Type 0
IsChannelLine own c span = IsNamedLine channel_form own c.name span

-- the line of a node
abbrev pub IsNodeLine : List Lexeme → Node → Span → Type 0
IsNodeLine own n span = IsOpLine own n.id n.op span

-- The tokens are those of the proc: its first line, the lines of its nodes, that of its next state, and the brace that closes it.
pub record AreProcLines (own : List Lexeme) (p : Proc) (at : ProcSpans) : Type 0 where
  pub head : List Lexeme
  pub nodes : List Lexeme
  pub next : List Lexeme
  pub brace : Lexeme
  pub own_is : own ≡ head ++ (nodes ++ (next ++ brace ∷ []))
  pub head_line : IsNamedLine head_form head p.name at.head
  pub node_lines : FollowInTurn IsNodeLine nodes p.nodes at.nodes
  pub next_line : IsLineOfForm next_form next at.next
  pub closes : brace.kind ≡ RBRACE
  pub ends : at.end ≡ brace.span.to

-- The tokens are those of the package: its first line, the lines of its channels, its procs, and the mark at the end of the text.
pub record ArePackageLines (ls : List Lexeme) (ir : Package) (at : LineSpans) : Type 0 where
  pub line : List Lexeme
  pub channels : List Lexeme
  pub procs : List Lexeme
  pub mark : Lexeme
  pub ls_are : ls ≡ (line ++ (channels ++ procs)) ++ mark ∷ []
  pub name_line : IsNamedLine package_form line ir.name at.name
  pub channel_lines : FollowInTurn IsChannelLine channels ir.channels at.channels
  pub proc_lines : FollowInTurn AreProcLines procs ir.procs at.procs
  pub marked : mark.kind ≡ END
