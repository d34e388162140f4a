-- What the trees of each nonterminal add to the marks.
use Rattle.std.proofs.Common.{◌≡◌, ◌≤◌, ℕ, false, length, List, [], ◌∷◌, ◌++◌, map}
use Rattle.std.specs.Prelude.{flat_map, min, slice_index_or}
use Rattle.base.specs.declared.grammar.table.Symbol.{Symbol}
use Rattle.base.specs.declared.grammar.table.Symbol.TheVariants.{Terminal, Nonterminal}
use Rattle.dslx_token.specs.Lexeme.{Lexeme}
use Rattle.vlog_text.specs.declared.token.rules.generated.kind.TheConstants.{AT, BEGIN, CLK, ELSE, ENDBLOCK, ENDMODULE, IF, LPAREN, POSEDGE, RPAREN, RST}
use Rattle.vlog_text.specs.declared.token.rules.generated.nonterminal.TheConstants.{ASSIGNMENT, DECLARATION, PORT, SET}
use Rattle.vlog_tree.specs.declared.signal.Signal.{Signal}
use Rattle.xb_span.specs.declared.span.Span.{Span}
use Rattle.vlog_text.specs.declared.builder.rule.Rule.{Rule}
use Rattle.vlog_text.specs.Builder.Building.{is_name}
use Rattle.vlog_text.specs.Builder.Parts.{most, name_text}
use Rattle.vlog_text.specs.Parser.Spans.{Clocked, IsPhrase, ModuleTokens, NameToken, NextPort, Phrase, WordTokens, block, clocked_tokens, first_name, literal_ends, literal_widths, literals_in, missing, phrases, ports_with_commas, span_of, target_of, tokens_of}
use Rattle.vlog_text.proofs.OnSpans.Marks.{Marks, mark_rule, mark_token, with_assignment, with_declaration, with_port, with_set}
use Rattle.vlog_text.proofs.OnSpans.Widths.{TailKind, Widths, choice, expr_by, signed, simple, width_rule, width_token, with_tail}

-- ---- sorts of nonterminals

pub data Sort : Type 0 where
  atom simple_expr expr more_atoms whole_tail end_tail choice_tail signed_tail operator quiet name start edge port ports declaration declarations assignment assignments set sets reset_branch clock_branch clocked items whole : Sort

-- in the order of the nonterminals
abbrev pub sorts : List Sort
sorts =
    whole ∷ items ∷ name ∷ quiet ∷ quiet ∷ port ∷ start ∷ ports ∷ declarations ∷ declaration ∷ start ∷ assignments ∷ assignment ∷ clocked ∷ edge
    ∷ reset_branch ∷ clock_branch ∷ sets ∷ set ∷ atom ∷ expr ∷ simple_expr ∷ simple_expr ∷ more_atoms ∷ whole_tail ∷ whole_tail ∷ end_tail ∷ end_tail ∷ choice_tail ∷ end_tail
    ∷ signed_tail ∷ operator ∷ operator ∷ operator ∷ []

abbrev pub sort_of : ℕ → Sort
sort_of n = slice_index_or sorts n operator

-- tokens without names and literals
pub record Quiet : Type 0 where
  pub tokens : List Lexeme
  pub nameless : (more : List Lexeme) → first_name (tokens ++ more) ≡ first_name more
  pub literals : (more : List Lexeme) → literals_in (tokens ++ more) ≡ literals_in more

-- an operator, which says no literal
pub record Operator : Type 0 where
  pub tokens : List Lexeme
  pub none : literals_in tokens ≡ []

-- what may stand behind an expression's first name or literal
pub record WholeTail : Type 0 where
  pub tokens : List Lexeme
  pub kind : TailKind
  pub all : (front back : List ℕ) → expr_by kind front back ≡ front ++ back

-- atoms, each with a comma before it
pub record MoreAtoms : Type 0 where
  pub tokens : List Lexeme
  pub atoms : List (List ℕ)
  pub are : flat_map (λ ws. ws) atoms ≡ literal_widths tokens
  pub fewer : length atoms ≤ length tokens

-- `input` or `reg`, for example
pub record StartToken : Type 0 where
  pub token : Lexeme
  pub nameless : is_name token.kind ≡ false

pub record Items : Type 0 where
  pub declarations : List (Phrase DECLARATION)
  pub assignments : List (Phrase ASSIGNMENT)
  pub clocked : Clocked
  pub end : WordTokens (ENDMODULE ∷ [])

abbrev pub edge_words : List ℕ
edge_words = AT ∷ LPAREN ∷ POSEDGE ∷ CLK ∷ RPAREN ∷ []

abbrev pub reset_words : List ℕ
reset_words = IF ∷ LPAREN ∷ RST ∷ RPAREN ∷ BEGIN ∷ []

-- what is known of the trees of a nonterminal
abbrev pub OfSort : Sort → Type 0
OfSort atom = List Lexeme
OfSort simple_expr = List Lexeme
OfSort expr = List Lexeme
OfSort more_atoms = MoreAtoms
OfSort whole_tail = WholeTail
OfSort end_tail = List Lexeme
OfSort choice_tail = List Lexeme
OfSort signed_tail = List Lexeme
OfSort operator = Operator
OfSort quiet = Quiet
OfSort name = NameToken
OfSort start = StartToken
OfSort edge = WordTokens edge_words
OfSort port = Phrase PORT
OfSort ports = List NextPort
OfSort declaration = Phrase DECLARATION
OfSort declarations = List (Phrase DECLARATION)
OfSort assignment = Phrase ASSIGNMENT
OfSort assignments = List (Phrase ASSIGNMENT)
OfSort set = Phrase SET
OfSort sets = List (Phrase SET)
OfSort reset_branch = WordTokens reset_words × List (Phrase SET) × WordTokens (ENDBLOCK ∷ [])
OfSort clock_branch = WordTokens (ELSE ∷ BEGIN ∷ []) × List (Phrase SET) × WordTokens (ENDBLOCK ∷ [])
OfSort clocked = Clocked
OfSort items = Items
OfSort whole = ModuleTokens

abbrev pub items_tokens : Items → List Lexeme
items_tokens x = phrases x.declarations ++ (phrases x.assignments ++ (clocked_tokens x.clocked ++ x.end.tokens))

abbrev pub tokens_in : (k : Sort) → OfSort k → List Lexeme
tokens_in atom x = x
tokens_in simple_expr x = x
tokens_in expr x = x
tokens_in more_atoms x = x.tokens
tokens_in whole_tail x = x.tokens
tokens_in end_tail x = x
tokens_in choice_tail x = x
tokens_in signed_tail x = x
tokens_in operator x = x.tokens
tokens_in quiet x = x.tokens
tokens_in name x = x.token ∷ []
tokens_in start x = x.token ∷ []
tokens_in edge x = x.tokens
tokens_in port x = x.tokens
tokens_in ports xs = ports_with_commas xs
tokens_in declaration x = x.tokens
tokens_in declarations xs = phrases xs
tokens_in assignment x = x.tokens
tokens_in assignments xs = phrases xs
tokens_in set x = x.tokens
tokens_in sets xs = phrases xs
tokens_in reset_branch x = x.0.tokens ++ (phrases x.1 ++ x.2.tokens)
tokens_in clock_branch x = x.0.tokens ++ (phrases x.1 ++ x.2.tokens)
tokens_in clocked x = clocked_tokens x
tokens_in items x = items_tokens x
tokens_in whole x = tokens_of x

-- ---- what is added, but for the last token

abbrev pub spans_in : {n : ℕ} → List (Phrase n) → List Span
spans_in xs = map (λ x. span_of x.tokens) xs

abbrev pub names_in : {n : ℕ} → List (Phrase n) → List (List ℕ)
names_in xs = map (λ x. first_name x.tokens) xs

abbrev pub targets_in : {n : ℕ} → List (List ℕ) → List (Phrase n) → List Signal
targets_in names xs = map (λ x. target_of names x.tokens) xs

abbrev pub ends_in : {n : ℕ} → List (Phrase n) → List ℕ
ends_in xs = flat_map (λ x. literal_ends x.tokens) xs

abbrev pub with_ends : List ℕ → Marks → Marks
with_ends ends m = record m { ends = m.ends ++ ends }

abbrev pub with_name : NameToken → Marks → Marks
with_name x m = record m { idents = record { span = x.token.span; name = name_text x.token.bytes } ∷ m.idents }

abbrev pub with_ports : List NextPort → Marks → Marks
with_ports xs m = record m {
  signals = m.signals ++ map (λ (x : NextPort). first_name x.port.tokens) xs;
  ports = m.ports ++ map (λ (x : NextPort). span_of x.port.tokens) xs;
  port_names = m.port_names ++ map (λ (x : NextPort). first_name x.port.tokens) xs;
}

abbrev pub with_declarations : List (Phrase DECLARATION) → Marks → Marks
with_declarations xs m = record m { signals = m.signals ++ names_in xs; declarations = m.declarations ++ spans_in xs; declaration_names = m.declaration_names ++ names_in xs }

abbrev pub with_assignments : List (Phrase ASSIGNMENT) → Marks → Marks
with_assignments xs m = record m { ends = m.ends ++ ends_in xs; assignments = m.assignments ++ spans_in xs; targets = m.targets ++ targets_in m.signals xs }

abbrev pub with_sets : List (Phrase SET) → Marks → Marks
with_sets xs m = record m { ends = m.ends ++ ends_in xs; sets = m.sets ++ spans_in xs; set_targets = m.set_targets ++ targets_in m.signals xs }

abbrev pub with_resets : List (Phrase SET) → Marks → Marks
with_resets xs m = record m {
  ends = m.ends ++ ends_in xs;
  resets = m.sets ++ spans_in xs;
  reset_targets = m.set_targets ++ targets_in m.signals xs;
  sets = [];
  set_targets = [];
}

abbrev pub with_clocks : List (Phrase SET) → Marks → Marks
with_clocks xs m = record m {
  ends = m.ends ++ ends_in xs;
  clocks = m.sets ++ spans_in xs;
  clock_targets = m.set_targets ++ targets_in m.signals xs;
  sets = [];
  set_targets = [];
}

abbrev pub with_clocked : Clocked → Marks → Marks
with_clocked missing m = m
with_clocked (block opening resets otherwise clocks end) m = with_clocks clocks (with_resets resets m)

abbrev pub with_items : Items → Marks → Marks
with_items x m = with_clocked x.clocked (with_assignments x.assignments (with_declarations x.declarations m))

abbrev pub items_of : ModuleTokens → Items
items_of x = record { declarations = x.declarations; assignments = x.assignments; clocked = x.clocked; end = x.end }

abbrev pub change : (k : Sort) → OfSort k → Marks → Marks
change atom x m = with_ends (literal_ends x) m
change simple_expr x m = with_ends (literal_ends x) m
change expr x m = with_ends (literal_ends x) m
change more_atoms x m = with_ends (literal_ends x.tokens) m
change whole_tail x m = with_ends (literal_ends x.tokens) m
change end_tail x m = with_ends (literal_ends x) m
change choice_tail x m = with_ends (literal_ends x) m
change signed_tail x m = with_ends (literal_ends x) m
change operator x m = with_ends (literal_ends x.tokens) m
change quiet x m = m
change name x m = with_name x m
change start x m = record m { starts = x.token.span.from ∷ m.starts }
change edge x m = m
change port x m = with_port (span_of x.tokens) (first_name x.tokens) m
change ports xs m = with_ports xs m
change declaration x m = with_declaration (span_of x.tokens) (first_name x.tokens) m
change declarations xs m = with_declarations xs m
change assignment x m = with_ends (literal_ends x.tokens) (with_assignment (span_of x.tokens) (first_name x.tokens) m)
change assignments xs m = with_assignments xs m
change set x m = with_ends (literal_ends x.tokens) (with_set (span_of x.tokens) (first_name x.tokens) m)
change sets xs m = with_sets xs m
change reset_branch x m = with_resets x.1 m
change clock_branch x m = with_clocks x.1 m
change clocked x m = with_clocked x m
change items x m = with_items x m
change whole x m = with_items (items_of x) (with_ports x.more_ports (with_port (span_of x.port.tokens) (first_name x.port.tokens) (with_name x.name m)))

-- ---- what is added to the widths

abbrev pub widths_in : {n : ℕ} → List (Phrase n) → List (List ℕ)
widths_in xs = map (λ x. literal_widths x.tokens) xs

-- each on top of the one before it
abbrev pub onto : List (List ℕ) → List (List ℕ) → List (List ℕ)
onto [] stack = stack
onto (x ∷ xs) stack = onto xs (x ∷ stack)

abbrev pub clocked_widths : Clocked → Widths → Widths
clocked_widths missing w = w
clocked_widths (block opening resets otherwise clocks end) w = record w { sets = []; resets = w.sets ++ widths_in resets; clocks = widths_in clocks }

abbrev pub items_widths : Items → Widths → Widths
items_widths x w = clocked_widths x.clocked (record w { assignments = w.assignments ++ widths_in x.assignments })

abbrev pub put : (k : Sort) → OfSort k → Widths → Widths
put atom x w = record w { atoms = literal_widths x ∷ w.atoms }
put simple_expr x w = record w { simples = literal_widths x ∷ w.simples }
put expr x w = record w { exprs = literal_widths x ∷ w.exprs }
put more_atoms x w = record w { atoms = onto x.atoms w.atoms; counts = min (length x.atoms) most ∷ w.counts }
put whole_tail x w = with_tail x.kind (literal_widths x.tokens) w
put end_tail x w = with_tail simple (literal_widths x) w
put choice_tail x w = with_tail choice (literal_widths x) w
put signed_tail x w = with_tail signed (literal_widths x) w
put assignment x w = record w { assignments = w.assignments ++ literal_widths x.tokens ∷ [] }
put assignments xs w = record w { assignments = w.assignments ++ widths_in xs }
put set x w = record w { sets = w.sets ++ literal_widths x.tokens ∷ [] }
put sets xs w = record w { sets = w.sets ++ widths_in xs }
put reset_branch x w = record w { sets = []; resets = w.sets ++ widths_in x.1 }
put clock_branch x w = record w { sets = []; clocks = w.sets ++ widths_in x.1 }
put clocked x w = clocked_widths x w
put items x w = items_widths x w
put whole x w = items_widths (items_of x) w
put _ x w = w

-- the last of these tokens, or the one before them
abbrev pub last_of : List Lexeme → Span → Span
last_of [] z = z
last_of (l ∷ ls) z = last_of ls l.span

abbrev pub effect : (k : Sort) → OfSort k → Marks → Marks
effect k x m = record (change k x m) { last = last_of (tokens_in k x) m.last }

-- ---- a part for each of some symbols

pub record TokenOf (kind : ℕ) : Type 0 where
  pub token : Lexeme
  pub is : token.kind ≡ kind

abbrev pub PartOf : Symbol → Type 0
PartOf (Terminal kind) = TokenOf kind
PartOf (Nonterminal n) = OfSort (sort_of n)

abbrev pub RunOf : List Symbol → Type 0
RunOf [] = Unit {0}
RunOf (x ∷ symbols) = PartOf x × RunOf symbols

abbrev pub run_tokens : (symbols : List Symbol) → RunOf symbols → List Lexeme
run_tokens [] run = []
run_tokens (Terminal kind ∷ symbols) run = run.0.token ∷ run_tokens symbols run.1
run_tokens (Nonterminal n ∷ symbols) run = tokens_in (sort_of n) run.0 ++ run_tokens symbols run.1

abbrev pub after : (symbols : List Symbol) → RunOf symbols → Marks → Marks
after [] run m = m
after (Terminal kind ∷ symbols) run m = after symbols run.1 (mark_token kind run.0.token m)
after (Nonterminal n ∷ symbols) run m = after symbols run.1 (effect (sort_of n) run.0 m)

abbrev pub put_all : (symbols : List Symbol) → RunOf symbols → Widths → Widths
put_all [] run w = w
put_all (Terminal kind ∷ symbols) run w = put_all symbols run.1 (width_token kind run.0.token w)
put_all (Nonterminal n ∷ symbols) run w = put_all symbols run.1 (put (sort_of n) run.0 w)

-- The tree that is made of these parts is of this sort, and the rule at its end leaves what the sort says: of lists that the machine
-- can count.
pub record Kept (k : Sort) (rule : Rule) (symbols : List Symbol) (run : RunOf symbols) : Type 0 where
  pub part : OfSort k
  pub are : tokens_in k part ≡ run_tokens symbols run
  pub does : (m : Marks) → mark_rule rule (after symbols run m) ≡ record (change k part m) { last = (after symbols run m).last }
  pub puts : length (run_tokens symbols run) ≤ most → (w : Widths) → width_rule rule (put_all symbols run w) ≡ put k part w

-- so is each tree of the rule
abbrev pub Keeps : Rule → ℕ → List Symbol → Type 0
Keeps rule head body = (run : RunOf body) → IsPhrase head (run_tokens body run) → Kept (sort_of head) rule body run
