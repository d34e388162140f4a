-- Lists of ports, declarations, assignments and sets, the clocked block, and a whole module.
use Rattle.std.proofs.Common.{◌≡◌, ◌∙◌, ℕ, List, [], ◌∷◌, ◌++◌, map, refl, sym, ap, append_assoc, append-nil}
use Rattle.std.proofs.lemmas.List.{map-append}
use Rattle.base.specs.declared.grammar.table.Symbol.TheVariants.{Terminal, Nonterminal}
use Rattle.dslx_token.specs.Lexeme.{Lexeme}
use Rattle.vlog_text.specs.declared.token.rules.generated.kind.TheConstants as kind
use Rattle.vlog_text.specs.declared.token.rules.generated.nonterminal.TheConstants as nonterminal
use Rattle.xb_span.specs.declared.span.Span.{Span}
use Rattle.vlog_text.specs.declared.builder.rule.Rule.TheVariants.{Keep, SkipIdent, ResetsOf, ClocksOf}
use Rattle.vlog_text.specs.Parser.Reads.{kinds_of}
use Rattle.vlog_text.specs.Parser.Spans.{Clocked, NextPort, WordTokens, block, first_name, literal_ends, literal_widths, missing, phrases, ports_with_commas, span_of, target_of}
use Rattle.vlog_text.proofs.OnSpans.Effects.{Keeps, TokenOf, ends_in, items_tokens, last_of, names_in, spans_in, targets_in, widths_in, with_assignments, with_clocked, with_declarations, with_name, with_ports}
use Rattle.vlog_text.proofs.OnSpans.Marks.{Marks, with_port}

-- ---- words

abbrev pub no_words : WordTokens []
no_words = record { tokens = []; are = refl }

pub kinds_with : {k : ℕ} {ks : List ℕ} (l : TokenOf k) (ls : List Lexeme) → kinds_of ls ≡ ks → kinds_of (l.token ∷ ls) ≡ k ∷ ks
kinds_with {k} {ks} l ls are = ap (λ n. n ∷ kinds_of ls) l.is ∙ ap (λ ns. k ∷ ns) are

-- a word in front of others
abbrev pub ◌before◌ : {k : ℕ} {ks : List ℕ} → TokenOf k → WordTokens ks → WordTokens (k ∷ ks)
l before w = record { tokens = l.token ∷ w.tokens; are = kinds_with l w.tokens w.are }

infixr 40 ◌before◌
infixr 40 ◌beside◌
abbrev pub one_word : {k : ℕ} → TokenOf k → WordTokens (k ∷ [])
one_word l = l before no_words

pub words_behind : {ks js : List ℕ} (xs ys : List Lexeme) → kinds_of xs ≡ ks → kinds_of ys ≡ js → kinds_of (xs ++ ys) ≡ ks ++ js
words_behind {ks} {js} xs ys a b = map-append (λ (l : Lexeme). l.kind) xs ys ∙ (ap (λ ns. ns ++ kinds_of ys) a ∙ ap (λ ns. ks ++ ns) b)

-- words behind others
abbrev pub ◌beside◌ : {ks js : List ℕ} → WordTokens ks → WordTokens js → WordTokens (ks ++ js)
w beside v = record { tokens = w.tokens ++ v.tokens; are = words_behind w.tokens v.tokens w.are v.are }

-- ---- lists

pub more_ports : Keeps Keep nonterminal.PORTS_MORE (Terminal kind.COMMA ∷ Nonterminal nonterminal.PORT ∷ Nonterminal nonterminal.PORTS_MORE ∷ [])
more_ports (comma, (port, (more, _))) _ =
    let span = span_of port.tokens in
    let name = first_name port.tokens in
    let spans = map (λ (x : NextPort). span_of x.port.tokens) more in
    let names = map (λ (x : NextPort). first_name x.port.tokens) more in
    record {
      part = record { comma = one_word comma; port = port } ∷ more;
      are = ap (λ ls. comma.token ∷ (port.tokens ++ ls)) (sym (append-nil (ports_with_commas more)));
      does = λ m. λ i. record m {
        last = last_of (ports_with_commas more) (last_of port.tokens comma.token.span);
        signals = append_assoc m.signals (name ∷ []) names i;
        ports = append_assoc m.ports (span ∷ []) spans i;
        port_names = append_assoc m.port_names (name ∷ []) names i;
      };
      puts = λ fits w. refl;
    }

pub no_more_ports : Keeps Keep nonterminal.PORTS_MORE []
no_more_ports run _ = record {
  part = [];
  are = refl;
  does = λ m. λ i. record m { signals = sym (append-nil m.signals) i; ports = sym (append-nil m.ports) i; port_names = sym (append-nil m.port_names) i };
  puts = λ fits w. refl;
}

pub more_declarations : Keeps Keep nonterminal.DECLARATIONS (Nonterminal nonterminal.DECLARATION ∷ Nonterminal nonterminal.DECLARATIONS ∷ [])
more_declarations (x, (more, _)) _ = record {
  part = x ∷ more;
  are = ap (λ ls. x.tokens ++ ls) (sym (append-nil (phrases more)));
  does = λ m. λ i. record m {
    last = last_of (phrases more) (last_of x.tokens m.last);
    signals = append_assoc m.signals (first_name x.tokens ∷ []) (names_in more) i;
    declarations = append_assoc m.declarations (span_of x.tokens ∷ []) (spans_in more) i;
    declaration_names = append_assoc m.declaration_names (first_name x.tokens ∷ []) (names_in more) i;
  };
  puts = λ fits w. refl;
}

pub no_declarations : Keeps Keep nonterminal.DECLARATIONS []
no_declarations run _ = record {
  part = [];
  are = refl;
  does = λ m. λ i. record m { signals = sym (append-nil m.signals) i; declarations = sym (append-nil m.declarations) i; declaration_names = sym (append-nil m.declaration_names) i };
  puts = λ fits w. refl;
}

pub more_assignments : Keeps Keep nonterminal.ASSIGNMENTS (Nonterminal nonterminal.ASSIGNMENT ∷ Nonterminal nonterminal.ASSIGNMENTS ∷ [])
more_assignments (x, (more, _)) _ = record {
  part = x ∷ more;
  are = ap (λ ls. x.tokens ++ ls) (sym (append-nil (phrases more)));
  does = λ m. λ i. record m {
    last = last_of (phrases more) (last_of x.tokens m.last);
    ends = append_assoc m.ends (literal_ends x.tokens) (ends_in more) i;
    assignments = append_assoc m.assignments (span_of x.tokens ∷ []) (spans_in more) i;
    targets = append_assoc m.targets (target_of m.signals x.tokens ∷ []) (targets_in m.signals more) i;
  };
  puts = λ fits w. ap (λ ws. record w { assignments = ws }) (append_assoc w.assignments (literal_widths x.tokens ∷ []) (widths_in more));
}

pub no_assignments : Keeps Keep nonterminal.ASSIGNMENTS []
no_assignments run _ = record {
  part = [];
  are = refl;
  does = λ m. λ i. record m { ends = sym (append-nil m.ends) i; assignments = sym (append-nil m.assignments) i; targets = sym (append-nil m.targets) i };
  puts = λ fits w. ap (λ ws. record w { assignments = ws }) (sym (append-nil w.assignments));
}

pub more_sets : Keeps Keep nonterminal.SETS (Nonterminal nonterminal.SET ∷ Nonterminal nonterminal.SETS ∷ [])
more_sets (x, (more, _)) _ = record {
  part = x ∷ more;
  are = ap (λ ls. x.tokens ++ ls) (sym (append-nil (phrases more)));
  does = λ m. λ i. record m {
    last = last_of (phrases more) (last_of x.tokens m.last);
    ends = append_assoc m.ends (literal_ends x.tokens) (ends_in more) i;
    sets = append_assoc m.sets (span_of x.tokens ∷ []) (spans_in more) i;
    set_targets = append_assoc m.set_targets (target_of m.signals x.tokens ∷ []) (targets_in m.signals more) i;
  };
  puts = λ fits w. ap (λ ws. record w { sets = ws }) (append_assoc w.sets (literal_widths x.tokens ∷ []) (widths_in more));
}

pub no_sets : Keeps Keep nonterminal.SETS []
no_sets run _ = record {
  part = [];
  are = refl;
  does = λ m. λ i. record m { ends = sym (append-nil m.ends) i; sets = sym (append-nil m.sets) i; set_targets = sym (append-nil m.set_targets) i };
  puts = λ fits w. ap (λ ws. record w { sets = ws }) (sym (append-nil w.sets));
}

-- ---- the clocked block

pub edge_is : Keeps SkipIdent nonterminal.EDGE (Terminal kind.AT ∷ Terminal kind.LPAREN ∷ Terminal kind.POSEDGE ∷ Terminal kind.CLK ∷ Terminal kind.RPAREN ∷ [])
edge_is (at, (bracket, (edge, (clock, (close, _))))) _ = record {
  part = at before bracket before edge before clock before one_word close;
  are = refl;
  does = λ m. refl;
  puts = λ fits w. refl;
}

pub reset_branch_is : Keeps ResetsOf nonterminal.RESET_BRANCH (Terminal kind.IF ∷ Terminal kind.LPAREN ∷ Terminal kind.RST ∷ Terminal kind.RPAREN ∷ Terminal kind.BEGIN ∷ Nonterminal nonterminal.SETS ∷ Terminal kind.ENDBLOCK ∷ [])
reset_branch_is (word, (bracket, (reset, (close, (begin, (sets, (end, _))))))) _ = record {
  part = (word before bracket before reset before close before one_word begin, sets, one_word end);
  are = refl;
  does = λ m. refl;
  puts = λ fits w. refl;
}

pub clock_branch_is : Keeps ClocksOf nonterminal.CLOCK_BRANCH (Terminal kind.ELSE ∷ Terminal kind.BEGIN ∷ Nonterminal nonterminal.SETS ∷ Terminal kind.ENDBLOCK ∷ [])
clock_branch_is (word, (begin, (sets, (end, _)))) _ = record {
  part = (word before one_word begin, sets, one_word end);
  are = refl;
  does = λ m. refl;
  puts = λ fits w. refl;
}

regrouped : (a e b i r f o c g d : List Lexeme)
    → (a ++ (e ++ (b ++ i))) ++ (r ++ ((f ++ o) ++ (c ++ (g ++ d)))) ≡ a ++ (e ++ (b ++ ((i ++ (r ++ f)) ++ ((o ++ (c ++ g)) ++ d))))
regrouped a e b i r f o c g d = simp append_assoc

pub clocked_is : Keeps Keep nonterminal.CLOCKED (Terminal kind.ALWAYS ∷ Nonterminal nonterminal.EDGE ∷ Terminal kind.BEGIN ∷ Nonterminal nonterminal.RESET_BRANCH ∷ Nonterminal nonterminal.CLOCK_BRANCH ∷ Terminal kind.ENDBLOCK ∷ [])
clocked_is (always, (edge, (begin, (reset, (clock, (end, _)))))) _ =
    let a = always.token ∷ [] in
    let b = begin.token ∷ [] in
    let d = end.token ∷ [] in
    record {
      part = block (always before (edge beside (begin before reset.0))) reset.1 (reset.2 beside clock.0) clock.1 (clock.2 beside one_word end);
      are = regrouped a edge.tokens b reset.0.tokens (phrases reset.1) reset.2.tokens clock.0.tokens (phrases clock.1) clock.2.tokens d;
      does = λ m. refl;
      puts = λ fits w. refl;
    }

pub no_clocked : Keeps Keep nonterminal.CLOCKED []
no_clocked run _ = record { part = missing; are = refl; does = λ m. refl; puts = λ fits w. refl }

-- ---- a whole module

-- the clocked block does not look at the last token
clocked_anywhere : (x : Clocked) (m : Marks) (first last : Span) → record (with_clocked x (record m { last = first })) { last = last } ≡ record (with_clocked x m) { last = last }
clocked_anywhere missing m first last = refl
clocked_anywhere (block opening resets otherwise clocks end) m first last = refl

pub items_are : Keeps Keep nonterminal.ITEMS (Nonterminal nonterminal.DECLARATIONS ∷ Nonterminal nonterminal.ASSIGNMENTS ∷ Nonterminal nonterminal.CLOCKED ∷ Terminal kind.ENDMODULE ∷ [])
items_are (declarations, (assignments, (clocked, (end, _)))) _ = record {
  part = record { declarations = declarations; assignments = assignments; clocked = clocked; end = one_word end };
  are = refl;
  does = λ m.
      clocked_anywhere clocked (with_assignments assignments (with_declarations declarations m)) (last_of (phrases assignments) (last_of (phrases declarations) m.last)) end.token.span;
  puts = λ fits w. refl;
}

pub module_is : Keeps Keep nonterminal.MODULE (Terminal kind.MODULE ∷ Nonterminal nonterminal.NAME ∷ Terminal kind.LPAREN ∷ Nonterminal nonterminal.PORT ∷ Nonterminal nonterminal.PORTS_MORE ∷ Terminal kind.RPAREN ∷ Terminal kind.SEMI ∷ Nonterminal nonterminal.ITEMS ∷ [])
module_is (word, (name, (bracket, (port, (more, (close, (semi, (items, _)))))))) _ =
    record {
      part = record {
        opening = one_word word;
        name = name;
        bracket = one_word bracket;
        port = port;
        more_ports = more;
        closing = close before one_word semi;
        declarations = items.declarations;
        assignments = items.assignments;
        clocked = items.clocked;
        end = items.end;
      };
      are =
          ap (λ ls. word.token ∷ name.token ∷ bracket.token ∷ (port.tokens ++ (ports_with_commas more ++ close.token ∷ semi.token ∷ ls)))
          (sym (append-nil (items_tokens items)));
      does = λ m. clocked_anywhere items.clocked (with_assignments items.assignments (with_declarations items.declarations (with_ports more (with_port (span_of port.tokens) (first_name port.tokens) (with_name name m))))) semi.token.span (last_of (items_tokens items) semi.token.span);
      puts = λ fits w. refl;
    }
