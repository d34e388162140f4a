-- What the trees of a symbol's tokens leave, by the symbol's sort.
use Rattle.std.proofs.Common.{◌≡◌, ◌≤◌, ℕ, zero, suc, ◌+◌, min, List, [], ◌∷◌, ◌++◌, length}
use Rattle.std.specs.Prelude.{Some, slice_get, slice_index_or}
use Rattle.base.specs.declared.grammar.table.Symbol.{Symbol}
use Rattle.base.specs.declared.grammar.table.Symbol.TheVariants.{Terminal, Nonterminal}
use Rattle.base.specs.Grammar.Syntax.{Rule}
use Rattle.xb_span.specs.declared.span.Span.{Span}
use Rattle.dslx_token.specs.Lexeme.{Lexeme}
use Rattle.ir_builder.specs.declared.token.rules.generated.kind.TheConstants.{OPID, RBRACE}
use Rattle.ir_tree.specs.declared.rules.line_spans.ProcSpans.{ProcSpans}
use Rattle.ir_builder.specs.Building.{rule_of}
use Rattle.ir_text.specs.Parser.Spans.Lines.{AreTokensOf, FollowInTurn, IsLineOfForm, IsNamedLine, channel_form, head_form, next_form, node_form, package_form}
use Rattle.ir_text.proofs.OnRoundTrip.Lists.{onto}
use Rattle.ir_text.proofs.OnSpans.View.{NodeKey, ProcKey, View, node_key, seen, shown}

-- ---- lines by their keys

pub record IsNodeKey (own : List Lexeme) (k : NodeKey) (span : Span) : Type 0 where
  pub line : IsLineOfForm node_form own span
  pub token : Lexeme
  pub first : slice_get own 0 ≡ Some token
  pub kind_is : token.kind ≡ OPID
  pub key_is : k ≡ node_key token.bytes

abbrev pub IsChannelKey : List Lexeme → List ℕ → Span → Type 0
IsChannelKey own name span = IsNamedLine channel_form own name span

pub record IsProcKey (own : List Lexeme) (k : ProcKey) (at : ProcSpans) : Type 0 where
  pub head : List Lexeme
  pub nodes : List Lexeme
  pub next : List Lexeme
  pub brace : Lexeme
  pub own_is : own ≡ head ++ (nodes ++ (next ++ brace ∷ []))
  pub head_line : IsNamedLine head_form head k.name at.head
  pub node_lines : FollowInTurn IsNodeKey nodes k.nodes at.nodes
  pub next_line : IsLineOfForm next_form next at.next
  pub closes : brace.kind ≡ RBRACE
  pub ends : at.end ≡ brace.span.to

-- ---- what is left of each sort

pub record ChannelPart (own : List Lexeme) : Type 0 where
  pub name : List ℕ
  pub span : Span
  pub is : IsChannelKey own name span

pub record ChannelsPart (own : List Lexeme) : Type 0 where
  pub names : List (List ℕ)
  pub spans : List Span
  pub are : FollowInTurn IsChannelKey own names spans

pub record NodePart (own : List Lexeme) : Type 0 where
  pub key : NodeKey
  pub span : Span
  pub is : IsNodeKey own key span

pub record NodesPart (own : List Lexeme) : Type 0 where
  pub keys : List NodeKey
  pub spans : List Span
  pub are : FollowInTurn IsNodeKey own keys spans

pub record HeadPart (own : List Lexeme) : Type 0 where
  pub name : Lexeme
  pub span : Span
  pub is : IsNamedLine head_form own name.bytes span

pub record NextPart (own : List Lexeme) : Type 0 where
  pub span : Span
  pub is : IsLineOfForm next_form own span

pub record ProcPart (own : List Lexeme) : Type 0 where
  pub key : ProcKey
  pub at : ProcSpans
  pub is : IsProcKey own key at

pub record ProcsPart (own : List Lexeme) : Type 0 where
  pub keys : List ProcKey
  pub ats : List ProcSpans
  pub are : FollowInTurn IsProcKey own keys ats

pub record PackagePart (own : List Lexeme) : Type 0 where
  pub line : List Lexeme
  pub channels : List Lexeme
  pub procs : List Lexeme
  pub name : Lexeme
  pub span : Span
  pub names : List (List ℕ)
  pub spans : List Span
  pub keys : List ProcKey
  pub ats : List ProcSpans
  pub own_is : own ≡ line ++ (channels ++ procs)
  pub line_is : IsNamedLine package_form line name.bytes span
  pub channels_are : FollowInTurn IsChannelKey channels names spans
  pub procs_are : FollowInTurn IsProcKey procs keys ats

-- the tokens end with this one
abbrev pub EndWith : List Lexeme → Lexeme → Type 0
EndWith own last = (front : List Lexeme) × (own ≡ front ++ last ∷ [])

pub data Sort : Type 0 where
  -- nothing
  plain : Sort
  -- its one token
  word : Sort
  -- its one token as a name
  name : Sort
  -- the number of the elements of a list
  counted : Sort
  -- the four tokens of an id, and the six of a call, of which the last ends it
  four : Sort
  call : Sort
  channel : Sort
  channels : Sort
  node : Sort
  nodes : Sort
  head : Sort
  next : Sort
  proc : Sort
  procs : Sort
  whole : Sort

abbrev pub Part : Sort → List Lexeme → Type 0
Part plain own = Unit {0}
Part word own = (l : Lexeme) × (own ≡ l ∷ [])
Part name own = (l : Lexeme) × (own ≡ l ∷ [])
Part counted own = ℕ
Part four own = (a : Lexeme) × (b : Lexeme) × (c : Lexeme) × (d : Lexeme) × EndWith own d
Part call own = (a : Lexeme) × (b : Lexeme) × (c : Lexeme) × (d : Lexeme) × (e : Lexeme) × (f : Lexeme) × EndWith own f
Part channel own = ChannelPart own
Part channels own = ChannelsPart own
Part node own = NodePart own
Part nodes own = NodesPart own
Part head own = HeadPart own
Part next own = NextPart own
Part proc own = ProcPart own
Part procs own = ProcsPart own
Part whole own = PackagePart own

-- how far a list is counted
abbrev pub capped : ℕ → ℕ
capped zero = 0
capped (suc n) = min (capped n + 1) 18446744073709551615

-- what was shown before, and what is left
abbrev pub after : (k : Sort) (own : List Lexeme) → Part k own → View → View
after plain own p v = v
after word own p v = shown p.0 v
after name own p v = record v { names = p.0 ∷ v.names }
after counted own p v = record v { counts = p ∷ v.counts }
after four own p v = record v { tokens = p.3 ∷ p.2 ∷ p.1 ∷ p.0 ∷ v.tokens }
after call own p v = record v { tokens = p.5 ∷ p.4 ∷ p.3 ∷ p.2 ∷ p.1 ∷ p.0 ∷ v.tokens }
after channel own p v = record v { channels = p.name ∷ v.channels; channel_spans = p.span ∷ v.channel_spans }
after channels own p v = record v { channels = onto p.names v.channels; channel_spans = onto p.spans v.channel_spans }
after node own p v = record v { nodes = p.key ∷ v.nodes; node_spans = p.span ∷ v.node_spans }
after nodes own p v = record v { counts = capped (length p.spans) ∷ v.counts; nodes = onto p.keys v.nodes; node_spans = onto p.spans v.node_spans }
after head own p v = record v { names = p.name ∷ v.names; heads = p.span ∷ v.heads }
after next own p v = record v { nexts = p.span ∷ v.nexts }
after proc own p v = record v { procs = p.key ∷ v.procs; proc_spans = p.at ∷ v.proc_spans }
after procs own p v = record v { procs = onto p.keys v.procs; proc_spans = onto p.ats v.proc_spans }
after whole own p v = record v {
  names = p.name ∷ v.names;
  heads = p.span ∷ v.heads;
  channels = onto p.names v.channels;
  channel_spans = onto p.spans v.channel_spans;
  procs = onto p.keys v.procs;
  proc_spans = onto p.ats v.proc_spans;
}

-- of each nonterminal, in the order of docs/ir.grammar
abbrev pub sorts : List Sort
sorts =
    whole ∷ procs ∷ channels ∷ name ∷ word ∷ word ∷ plain ∷ channel ∷ plain ∷ plain ∷ plain ∷ plain ∷ plain ∷ counted ∷ counted
    ∷ counted ∷ plain ∷ counted ∷ counted ∷ proc ∷ head ∷ plain ∷ plain ∷ next ∷ nodes ∷ node ∷ plain ∷ call ∷ counted ∷ four
    ∷ plain ∷ plain ∷ plain ∷ plain ∷ plain ∷ plain ∷ plain ∷ plain ∷ plain ∷ counted ∷ counted ∷ counted ∷ []

abbrev pub sort_of : ℕ → Sort
sort_of n = slice_index_or sorts n plain

-- ---- symbols in turn

-- the tokens are these, and others behind them
pub record Cut (own first others : List Lexeme) : Type 0 where
  pub is : own ≡ first ++ others

-- the tokens are those of these symbols, one behind the other, with what each leaves
abbrev pub Parts : List Symbol → List Lexeme → Type 0
Parts [] own = own ≡ []
Parts (Terminal kind ∷ s) own = (l : Lexeme) × (others : List Lexeme) × (own ≡ l ∷ others) × (l.kind ≡ kind) × Parts s others
Parts (Nonterminal n ∷ s) own =
    (first : List Lexeme) × (others : List Lexeme) × Cut own first others × AreTokensOf (Nonterminal n ∷ []) first × Part (sort_of n) first × Parts s others

abbrev pub final : (s : List Symbol) (own : List Lexeme) → Parts s own → View → View
final [] own p v = v
final (Terminal kind ∷ s) own p v = final s p.1 p.4 (shown p.0 v)
final (Nonterminal n ∷ s) own p v = final s p.1 p.5 (after (sort_of n) p.0 p.4 v)

-- ---- rules

-- what is left by the tree of a rule is what the rule leaves of that of its symbols
pub record Makes (p : ℕ) (r : Rule) (own : List Lexeme) (parts : Parts r.body own) : Type 0 where
  pub part : Part (sort_of r.head) own
  pub is : (v : View) → seen (rule_of p) (final r.body own parts v) ≡ after (sort_of r.head) own part v

abbrev pub Keeps : ℕ → Rule → Type 0
Keeps p r = (own : List Lexeme) → length own ≤ 18446744073709551615 → AreTokensOf (Nonterminal r.head ∷ []) own → (parts : Parts r.body own) → Makes p r own parts

-- each of these rules does, from this number on
pub data AllKeep : ℕ → List Rule → Type 0 where
  no_rule : {p : ℕ} → AllKeep p []
  ◌&◌ : {p : ℕ} {r : Rule} {rs : List Rule} → Keeps p r → AllKeep (suc p) rs → AllKeep p (r ∷ rs)

infixr 40 ◌&◌
