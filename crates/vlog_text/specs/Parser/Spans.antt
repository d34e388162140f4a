-- The tokens of a module's text, part by part, and where each part stands.
use Rattle.std.specs.Prelude.{◌≡◌, ◌≢◌, ◌≤◌, ◌==◌, ℕ, true, if◌then◌else◌, List, [], ◌∷◌, ◌++◌, map, flat_map, Some, slice_get}
use Rattle.base.specs.declared.grammar.table.Symbol.TheVariants.{Nonterminal}
use Rattle.base.specs.Grammar.Tree.{Forest, Grows, leaves_of}
use Rattle.dslx_token.specs.Lexeme.{Lexeme}
use Rattle.vlog_text.specs.declared.token.rules.generated.kind.TheConstants.{ALWAYS, AT, BEGIN, CLK, COMMA, ELSE, END, ENDBLOCK, ENDMODULE, IF, LITERAL, LPAREN, MODULE, POSEDGE, RPAREN, RST, SEMI}
use Rattle.vlog_text.specs.declared.token.rules.generated.nonterminal.TheConstants.{ASSIGNMENT, DECLARATION, PORT, SET}
use Rattle.vlog_text.specs.Token.Rules.Verilog.{verilog}
use Rattle.vlog_tree.specs.declared.module.VModule.{VModule}
use Rattle.vlog_tree.specs.declared.signal.Signal.{Signal}
use Rattle.vlog_tree.specs.Forms.{atom_literals, literals}
use Rattle.vlog_tree.specs.declared.verifier.part_spans.PartSpans.{PartSpans}
use Rattle.xb_span.specs.declared.span.Span.{Span}
use Rattle.vlog_text.specs.Builder.Building.{is_name}
use Rattle.vlog_text.specs.Builder.Parts.{literal_of, name_text, signal_of}
use Rattle.vlog_text.specs.Parser.Reads.{kinds_of}

-- ---- tokens in a text

-- The tokens stand between these bytes, one behind the other.
abbrev pub LexemesAlong : List Lexeme → ℕ → ℕ → Type 0
LexemesAlong [] from to = from ≤ to
LexemesAlong (l ∷ ls) from to = (from ≤ l.span.from) × (l.span.from ≤ l.span.to) × LexemesAlong ls l.span.to to

-- where the first token begins
abbrev pub start_of : List Lexeme → ℕ
start_of [] = 0
start_of (l ∷ ls) = l.span.from

-- where the last token ends: this one, or the last of those behind it
abbrev pub last_to : Lexeme → List Lexeme → ℕ
last_to l [] = l.span.to
last_to l (m ∷ ls) = last_to m ls

abbrev pub end_of : List Lexeme → ℕ
end_of [] = 0
end_of (l ∷ ls) = last_to l ls

-- from the start of the first token to the end of the last one
abbrev pub span_of : List Lexeme → Span
span_of ls = record { from = start_of ls; to = end_of ls }

-- the literals among the tokens
abbrev pub literals_in : List Lexeme → List Lexeme
literals_in [] = []
literals_in (l ∷ ls) = if l.kind == LITERAL then l ∷ literals_in ls else literals_in ls

-- where each literal ends, and the width that it says
abbrev pub literal_ends : List Lexeme → List ℕ
literal_ends ls = map (λ l. l.span.to) (literals_in ls)

abbrev pub literal_widths : List Lexeme → List ℕ
literal_widths ls = map (λ l. (literal_of l.bytes).width) (literals_in ls)

-- the first name
abbrev pub first_name : List Lexeme → List ℕ
first_name [] = []
first_name (l ∷ ls) = if is_name l.kind then name_text l.bytes else first_name ls

-- ---- the parts of a module

-- The grammar derives the tokens from this nonterminal: they are the leaves of a tree of it.
pub record IsPhrase (n : ℕ) (ls : List Lexeme) : Type 0 where
  pub tree : Forest
  pub grows : Grows verilog.rules (Nonterminal n ∷ []) tree
  pub leaves : leaves_of tree ≡ kinds_of ls

-- tokens that the grammar derives from this nonterminal, and there are some
pub record Phrase (n : ℕ) : Type 0 where
  pub tokens : List Lexeme
  pub some : tokens ≢ []
  pub derived : IsPhrase n tokens

-- tokens of these kinds
pub record WordTokens (kinds : List ℕ) : Type 0 where
  pub tokens : List Lexeme
  pub are : kinds_of tokens ≡ kinds

-- a name by itself
pub record NameToken : Type 0 where
  pub token : Lexeme
  pub named : is_name token.kind ≡ true

-- `, port`
pub record NextPort : Type 0 where
  pub comma : WordTokens (COMMA ∷ [])
  pub port : Phrase PORT

-- `always @ ( posedge clk ) begin if ( rst ) begin`
abbrev pub clock_words : List ℕ
clock_words = ALWAYS ∷ AT ∷ LPAREN ∷ POSEDGE ∷ CLK ∷ RPAREN ∷ BEGIN ∷ IF ∷ LPAREN ∷ RST ∷ RPAREN ∷ BEGIN ∷ []

-- The clocked block with the sets of its two branches, which may be missing:
-- `always @ ( posedge clk ) begin if ( rst ) begin sets end else begin sets end end`
pub data Clocked : Type 0 where
  missing : Clocked
  block : WordTokens clock_words → List (Phrase SET) → WordTokens (ENDBLOCK ∷ ELSE ∷ BEGIN ∷ []) → List (Phrase SET) → WordTokens (ENDBLOCK ∷ ENDBLOCK ∷ []) → Clocked

-- `module name ( port , port ) ; declarations assignments clocked endmodule`
pub record ModuleTokens : Type 0 where
  pub opening : WordTokens (MODULE ∷ [])
  pub name : NameToken
  pub bracket : WordTokens (LPAREN ∷ [])
  pub port : Phrase PORT
  pub more_ports : List NextPort
  pub closing : WordTokens (RPAREN ∷ SEMI ∷ [])
  pub declarations : List (Phrase DECLARATION)
  pub assignments : List (Phrase ASSIGNMENT)
  pub clocked : Clocked
  pub end : WordTokens (ENDMODULE ∷ [])

-- the tokens of phrases, one phrase behind the other
abbrev pub phrases : {n : ℕ} → List (Phrase n) → List Lexeme
phrases ps = flat_map (λ p. p.tokens) ps

abbrev pub ports_with_commas : List NextPort → List Lexeme
ports_with_commas ps = flat_map (λ p. p.comma.tokens ++ p.port.tokens) ps

abbrev pub clocked_tokens : Clocked → List Lexeme
clocked_tokens missing = []
clocked_tokens (block opening resets otherwise clocks end) = opening.tokens ++ (phrases resets ++ (otherwise.tokens ++ (phrases clocks ++ end.tokens)))

-- the tokens of a module in the order of the text
abbrev pub tokens_of : ModuleTokens → List Lexeme
tokens_of m =
    m.opening.tokens ++ (m.name.token ∷ (m.bracket.tokens ++ (m.port.tokens ++ (ports_with_commas m.more_ports ++ (m.closing.tokens
    ++ (phrases m.declarations ++ (phrases m.assignments ++ (clocked_tokens m.clocked ++ m.end.tokens))))))))

-- The text's tokens are those of the module, and the mark at the end.
pub record AreModuleTokens (ls : List Lexeme) (m : ModuleTokens) : Type 0 where
  pub mark : WordTokens (END ∷ [])
  pub are : ls ≡ tokens_of m ++ mark.tokens

-- ---- the tokens of each part, a list for each sort

abbrev pub port_tokens : ModuleTokens → List (List Lexeme)
port_tokens m = m.port.tokens ∷ map (λ p. p.port.tokens) m.more_ports

abbrev pub declaration_tokens : ModuleTokens → List (List Lexeme)
declaration_tokens m = map (λ p. p.tokens) m.declarations

abbrev pub assignment_tokens : ModuleTokens → List (List Lexeme)
assignment_tokens m = map (λ p. p.tokens) m.assignments

abbrev pub resets_in : Clocked → List (Phrase SET)
resets_in missing = []
resets_in (block opening resets otherwise clocks end) = resets

abbrev pub clocks_in : Clocked → List (Phrase SET)
clocks_in missing = []
clocks_in (block opening resets otherwise clocks end) = clocks

abbrev pub reset_tokens : ModuleTokens → List (List Lexeme)
reset_tokens m = map (λ p. p.tokens) (resets_in m.clocked)

abbrev pub clock_tokens : ModuleTokens → List (List Lexeme)
clock_tokens m = map (λ p. p.tokens) (clocks_in m.clocked)

-- Where the parts stand: each from the start of its first token to the end of its last one. Literals stand in assignments and sets.
abbrev pub spans_of : ModuleTokens → PartSpans
spans_of m = record {
  ports = map span_of (port_tokens m);
  declarations = map span_of (declaration_tokens m);
  assignments = map span_of (assignment_tokens m);
  at_reset = map span_of (reset_tokens m);
  at_clock = map span_of (clock_tokens m);
  literals = flat_map literal_ends (assignment_tokens m ++ (reset_tokens m ++ clock_tokens m));
}

-- ---- which part of the module it is that stands there

-- the names of the signals: those of the ports, then those of the declarations
abbrev pub signal_names : ModuleTokens → List (List ℕ)
signal_names m = map first_name (port_tokens m) ++ map first_name (declaration_tokens m)

-- the signal that is named first
abbrev pub target_of : List (List ℕ) → List Lexeme → Signal
target_of names ls = record { 0 = signal_of names (first_name ls) }

-- Each port and declaration has the name that its tokens say, and each assignment and set sets the signal that its tokens name first.
pub record AreParts (m : ModuleTokens) (design : VModule) : Type 0 where
  pub ports : map (λ p. p.name) design.ports ≡ map first_name (port_tokens m)
  pub declarations : map (λ d. d.name) design.declarations ≡ map first_name (declaration_tokens m)
  pub assignments : map (λ a. a.target) design.assignments ≡ map (target_of (signal_names m)) (assignment_tokens m)
  pub at_reset : map (λ set. set.target) design.at_reset ≡ map (target_of (signal_names m)) (reset_tokens m)
  pub at_clock : map (λ set. set.target) design.at_clock ≡ map (target_of (signal_names m)) (clock_tokens m)

-- Each assignment and set has the literals that its tokens say, in their order.
pub record HaveLiterals (m : ModuleTokens) (design : VModule) : Type 0 where
  pub assignments : map (λ a. literals a.value) design.assignments ≡ map literal_widths (assignment_tokens m)
  pub at_reset : map (λ set. atom_literals set.value) design.at_reset ≡ map literal_widths (reset_tokens m)
  pub at_clock : map (λ set. atom_literals set.value) design.at_clock ≡ map literal_widths (clock_tokens m)

-- ---- one part behind the other

-- These bytes stand between the others, none before the one that stands before it in the list.
abbrev pub EndsAlong : List ℕ → ℕ → ℕ → Type 0
EndsAlong [] from to = from ≤ to
EndsAlong (at ∷ more) from to = (from ≤ at) × EndsAlong more at to

-- Parts of these tokens stand between these bytes, one behind the other, and the literals of each end within it.
abbrev pub PartsAlong : List (List Lexeme) → ℕ → ℕ → Type 0
PartsAlong [] from to = from ≤ to
PartsAlong (ls ∷ more) from to = (from ≤ (span_of ls).from) × EndsAlong (literal_ends ls) (span_of ls).from (span_of ls).to × PartsAlong more (span_of ls).to to

-- all parts in the order of the text
abbrev pub all_parts : ModuleTokens → List (List Lexeme)
all_parts m = port_tokens m ++ (declaration_tokens m ++ (assignment_tokens m ++ (reset_tokens m ++ clock_tokens m)))

-- The span is that of a part of the module.
pub record IsSpanOfPart (m : ModuleTokens) (span : Span) : Type 0 where
  pub place : ℕ
  pub tokens : List Lexeme
  pub here : slice_get (all_parts m) place ≡ Some tokens
  pub spans : span ≡ span_of tokens
