-- A text that reads: what its tokens are, and where its parts stand.
use Rattle.std.proofs.Common.{◌<◌, ◌^◌, length, arith, ◌≡◌, ◌∙◌, ℕ, List, [], ◌∷◌, ◌++◌, map, refl, sym, ap, ap₂, subst, append_assoc, append-nil}
use Rattle.std.specs.Prelude.{flat_map}
use Rattle.std.proofs.lemmas.Grind.{flat_map-append}
use Rattle.base.specs.Grammar.Derivation.{start_of}
use Rattle.base.specs.Grammar.Steps.{steps_of}
use Rattle.base.specs.Grammar.Tree.{Grows}
use Rattle.base.specs.declared.grammar.table.Symbol.TheVariants.{Terminal, Nonterminal}
use Rattle.dslx_token.specs.Lexeme.{Lexeme}
use Rattle.vlog_text.specs.declared.token.rules.generated.kind.TheConstants.{END}
use Rattle.vlog_text.specs.declared.token.rules.generated.nonterminal.TheConstants.{ASSIGNMENT, MODULE, SET}
use Rattle.vlog_text.specs.Token.Rules.Verilog.{verilog}
use Rattle.vlog_tree.specs.declared.signal.Signal.{Signal}
use Rattle.vlog_tree.specs.declared.verifier.part_spans.PartSpans.{PartSpans}
use Rattle.vlog_text.specs.declared.builder.parsed.Parsed.{Parsed}
use Rattle.vlog_text.specs.declared.builder.state.State.{State}
use Rattle.vlog_text.specs.Builder.Building.{built, parsed_of}
use Rattle.vlog_text.specs.Builder.Empty.{empty}
use Rattle.vlog_text.specs.Parser.Reads.{Reads}
use Rattle.vlog_text.specs.Parser.Spans.{AreParts, AreModuleTokens, Clocked, HaveLiterals, ModuleTokens, Phrase, assignment_tokens, block, clocks_in, declaration_tokens, first_name, literal_ends, literal_widths, missing, port_tokens, resets_in, signal_names, span_of, spans_of, target_of}
use Rattle.vlog_text.proofs.OnSpans.Effects.{clocked_widths, ends_in, items_of, items_widths, widths_in, with_assignments, with_clocked, with_declarations, with_name, with_ports}
use Rattle.vlog_text.proofs.OnSpans.Going.{go}
use Rattle.vlog_text.proofs.OnSpans.KeepsLists.{one_word}
use Rattle.vlog_text.proofs.OnSpans.Widths.{Widths, widths}
use Rattle.vlog_text.proofs.OnSpans.Marks.{Marks, marks, with_port}

-- ---- lists

map_twice : {A B C : Type 0} (f : B → C) (g : A → B) (xs : List A) → map (λ x. f (g x)) xs ≡ map f (map g xs)
map_twice f g [] = refl
map_twice f g (x ∷ xs) = ap (λ ys. f (g x) ∷ ys) (map_twice f g xs)

flat_map_twice : {A B C : Type 0} (f : B → List C) (g : A → B) (xs : List A) → flat_map (λ x. f (g x)) xs ≡ flat_map f (map g xs)
flat_map_twice f g [] = refl
flat_map_twice f g (x ∷ xs) = ap (λ ys. f (g x) ++ ys) (flat_map_twice f g xs)

abbrev runs : {n : ℕ} → List (Phrase n) → List (List Lexeme)
runs xs = map (λ x. x.tokens) xs

-- ---- what is left at the end

abbrev spans_from : Marks → PartSpans
spans_from m = record { ports = m.ports; declarations = m.declarations; assignments = m.assignments; at_reset = m.resets; at_clock = m.clocks; literals = m.ends }

-- the marks behind the ports, the declarations and the assignments
abbrev before_block : ModuleTokens → Marks
before_block x = with_assignments x.assignments (with_declarations x.declarations (with_ports x.more_ports (with_port (span_of x.port.tokens) (first_name x.port.tokens) (with_name x.name (marks empty)))))

ports_are : (x : ModuleTokens) → (before_block x).ports ≡ map span_of (port_tokens x)
ports_are x = ap (λ spans. span_of x.port.tokens ∷ spans) (map_twice span_of (λ p. p.port.tokens) x.more_ports)

port_names_are : (x : ModuleTokens) → (before_block x).port_names ≡ map first_name (port_tokens x)
port_names_are x = ap (λ names. first_name x.port.tokens ∷ names) (map_twice first_name (λ p. p.port.tokens) x.more_ports)

names_are : (x : ModuleTokens) → (before_block x).signals ≡ signal_names x
names_are x = ap₂ (λ xs ys. xs ++ ys) (port_names_are x) (map_twice first_name (λ p. p.tokens) x.declarations)

ends_are : (xs : List (Phrase ASSIGNMENT)) (ys zs : List (Phrase SET)) → (ends_in xs ++ ends_in ys) ++ ends_in zs ≡ flat_map literal_ends (runs xs ++ (runs ys ++ runs zs))
ends_are xs ys zs =
    ap₂ (λ us vs. us ++ vs) (ap₂ (λ us vs. us ++ vs) (flat_map_twice literal_ends (λ p. p.tokens) xs) (flat_map_twice literal_ends (λ p. p.tokens) ys)) (flat_map_twice literal_ends (λ p. p.tokens) zs)
    ∙ append_assoc (flat_map literal_ends (runs xs)) (flat_map literal_ends (runs ys)) (flat_map literal_ends (runs zs))
    ∙ ap (λ es. flat_map literal_ends (runs xs) ++ es) (sym (flat_map-append literal_ends (runs ys) (runs zs)))
    ∙ sym (flat_map-append literal_ends (runs xs) (runs ys ++ runs zs))

-- the spans with this clocked block
spans_are : (x : ModuleTokens) (c : Clocked) → spans_from (with_clocked c (before_block x)) ≡ record {
  ports = map span_of (port_tokens x);
  declarations = map span_of (declaration_tokens x);
  assignments = map span_of (assignment_tokens x);
  at_reset = map span_of (runs (resets_in c));
  at_clock = map span_of (runs (clocks_in c));
  literals = flat_map literal_ends (assignment_tokens x ++ (runs (resets_in c) ++ runs (clocks_in c)));
}
spans_are x missing = λ i. record {
  ports = ports_are x i;
  declarations = map_twice span_of (λ p. p.tokens) x.declarations i;
  assignments = map_twice span_of (λ p. p.tokens) x.assignments i;
  at_reset = [];
  at_clock = [];
  literals = (flat_map_twice literal_ends (λ p. p.tokens) x.assignments ∙ ap (flat_map literal_ends) (sym (append-nil (runs x.assignments)))) i;
}
spans_are x (block opening resets otherwise clocks end) = λ i. record {
  ports = ports_are x i;
  declarations = map_twice span_of (λ p. p.tokens) x.declarations i;
  assignments = map_twice span_of (λ p. p.tokens) x.assignments i;
  at_reset = map_twice span_of (λ p. p.tokens) resets i;
  at_clock = map_twice span_of (λ p. p.tokens) clocks i;
  literals = ends_are x.assignments resets clocks i;
}

resets_are : (x : ModuleTokens) (c : Clocked) → (with_clocked c (before_block x)).reset_targets ≡ map (target_of (before_block x).signals) (runs (resets_in c))
resets_are x missing = refl
resets_are x (block opening resets otherwise clocks end) = map_twice (target_of (before_block x).signals) (λ p. p.tokens) resets

clocks_are : (x : ModuleTokens) (c : Clocked) → (with_clocked c (before_block x)).clock_targets ≡ map (target_of (before_block x).signals) (runs (clocks_in c))
clocks_are x missing = refl
clocks_are x (block opening resets otherwise clocks end) = map_twice (target_of (before_block x).signals) (λ p. p.tokens) clocks

-- the block leaves what stands before it
targets_stay : (c : Clocked) (m : Marks) → (with_clocked c m).targets ≡ m.targets
targets_stay missing m = refl
targets_stay (block opening resets otherwise clocks end) m = refl

port_names_stay : (c : Clocked) (m : Marks) → (with_clocked c m).port_names ≡ m.port_names
port_names_stay missing m = refl
port_names_stay (block opening resets otherwise clocks end) m = refl

declaration_names_stay : (c : Clocked) (m : Marks) → (with_clocked c m).declaration_names ≡ m.declaration_names
declaration_names_stay missing m = refl
declaration_names_stay (block opening resets otherwise clocks end) m = refl

abbrev all_marks : ModuleTokens → Marks
all_marks x = with_clocked x.clocked (before_block x)

by_names : (x : ModuleTokens) (targets : List Signal) (own : List (List Lexeme)) → targets ≡ map (target_of (before_block x).signals) own → targets ≡ map (target_of (signal_names x)) own
by_names x targets own e = e ∙ ap (λ names. map (target_of names) own) (names_are x)

parts_are : (x : ModuleTokens) (s : State) → (m : Marks) → marks s ≡ m → m.port_names ≡ (all_marks x).port_names → m.declaration_names ≡ (all_marks x).declaration_names → m.targets ≡ (all_marks x).targets → m.reset_targets ≡ (all_marks x).reset_targets → m.clock_targets ≡ (all_marks x).clock_targets → AreParts x (parsed_of s).design
parts_are x s m is ports declarations targets resets clocks = record {
  ports = ap (λ (m : Marks). m.port_names) is ∙ (ports ∙ (port_names_stay x.clocked (before_block x) ∙ port_names_are x));
  declarations =
      ap (λ (m : Marks). m.declaration_names) is ∙ (declarations ∙ (declaration_names_stay x.clocked (before_block x) ∙ map_twice first_name (λ p. p.tokens) x.declarations));
  assignments =
      by_names x _ (assignment_tokens x)
      (ap (λ (m : Marks). m.targets) is
      ∙ (targets ∙ (targets_stay x.clocked (before_block x) ∙ map_twice (target_of (before_block x).signals) (λ p. p.tokens) x.assignments)));
  at_reset = by_names x _ (runs (resets_in x.clocked)) (ap (λ (m : Marks). m.reset_targets) is ∙ (resets ∙ resets_are x x.clocked));
  at_clock = by_names x _ (runs (clocks_in x.clocked)) (ap (λ (m : Marks). m.clock_targets) is ∙ (clocks ∙ clocks_are x x.clocked));
}

-- ---- literals

abbrev all_put : ModuleTokens → Widths
all_put x = items_widths (items_of x) (widths empty)

assignments_stay : (c : Clocked) (w : Widths) → (clocked_widths c w).assignments ≡ w.assignments
assignments_stay missing w = refl
assignments_stay (block opening resets otherwise clocks end) w = refl

reset_literals : (c : Clocked) (w : Widths) → w.sets ≡ [] → w.resets ≡ [] → (clocked_widths c w).resets ≡ map literal_widths (runs (resets_in c))
reset_literals missing w none also = also
reset_literals (block opening resets otherwise clocks end) w none also = ap (λ ws. ws ++ widths_in resets) none ∙ map_twice literal_widths (λ p. p.tokens) resets

clock_literals : (c : Clocked) (w : Widths) → w.clocks ≡ [] → (clocked_widths c w).clocks ≡ map literal_widths (runs (clocks_in c))
clock_literals missing w none = none
clock_literals (block opening resets otherwise clocks end) w none = map_twice literal_widths (λ p. p.tokens) clocks

literals_are : (x : ModuleTokens) (s : State) → widths s ≡ all_put x → HaveLiterals x (parsed_of s).design
literals_are x s is =
    let w : Widths = record (widths empty) { assignments = widths_in x.assignments } in
    record {
      assignments = ap (λ (w : Widths). w.assignments) is ∙ (assignments_stay x.clocked w ∙ map_twice literal_widths (λ p. p.tokens) x.assignments);
      at_reset = ap (λ (w : Widths). w.resets) is ∙ reset_literals x.clocked w refl refl;
      at_clock = ap (λ (w : Widths). w.clocks) is ∙ clock_literals x.clocked w refl;
    }

-- ---- a whole text

nothing_left : (s : State) → built [] [] s ≡ s
unfolding built
nothing_left s = refl

starts_so : Grows verilog.rules (start_of verilog) ≡ Grows verilog.rules (Nonterminal MODULE ∷ Terminal END ∷ [])
unfolding verilog
starts_so = refl

pub text_is_placed : (ls : List Lexeme) (p : Parsed) → Reads ls p → (m : ModuleTokens) × AreModuleTokens ls m × (p.part_spans ≡ spans_of m) × (p.part_spans.literals ≡ literal_ends ls) × AreParts m p.design × (length ls < 2 ^ 64 → HaveLiterals m p.design)
text_is_placed ls p reads =
    let grows : Grows verilog.rules (Nonterminal MODULE ∷ Terminal END ∷ []) reads.forest = subst (λ T. T reads.forest) starts_so reads.derived.grows in
    let ran = go grows ls (sym reads.derived.tokens) in
    let x : ModuleTokens = ran.run.0 in
    let mark = ran.run.1.0 in
    let way = ran.leads [] [] empty in
    let m = record (all_marks x) { last = mark.token.span } in
    let s = way.state in
    let leads : built (steps_of reads.forest) ls empty ≡ s =
    ap₂ (λ steps xs. built steps xs empty) (sym (append-nil (steps_of reads.forest))) (sym (append-nil ls)) ∙ (way.goes ∙ nothing_left s) in
    let is : p ≡ parsed_of s = reads.parsed_is ∙ ap parsed_of leads in (
      x,
      record { mark = one_word mark; are = sym ran.are },
      ap (λ (q : Parsed). q.part_spans) is ∙ (ap spans_from way.marked ∙ spans_are x x.clocked),
      ap (λ (q : Parsed). q.part_spans.literals) is ∙ way.noted,
      subst (λ (q : Parsed). AreParts x q.design) (sym is) (parts_are x s _ way.marked refl refl refl refl refl),
      λ fits. subst (λ (q : Parsed). HaveLiterals x q.design) (sym is) (literals_are x s (way.sized (omega (arith, fits)))),
    )
