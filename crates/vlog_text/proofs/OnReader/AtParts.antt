-- A rule is broken at a part of the text.
use Rattle.std.proofs.Common.{◌≡◌, ◌∙◌, ◌+◌, ◌-◌, ◌<◌, ◌≤◌, ℕ, zero, suc, Bool, true, false, List, [], ◌∷◌, ◌++◌, length, map, Option, Some, None, Result, Ok, Err, refl, sym, ap, subst, arith}
use Rattle.std.specs.Prelude.{get_or, nat_lt, slice_get, if◌then◌else◌}
use Rattle.std.specs.List.{AllByRecursion}
use Rattle.std.proofs.lemmas.Bool.{cond_both}
use Rattle.std.proofs.lemmas.Bool.Decides.{nat_tests}
use Rattle.std.proofs.lemmas.List.{length-append}
use Rattle.dslx_token.specs.Lexeme.{Lexeme}
use Rattle.xb_span.specs.Fault.{earlier, error_of, precedes}
use Rattle.xb_span.specs.declared.fault.Fault.{Fault}
use Rattle.xb_span.specs.declared.fault.Fault.TheVariants as faults
use Rattle.xb_span.specs.declared.read_error.ReadError.{ReadError}
use Rattle.xb_span.specs.declared.read_error.ReadError.TheVariants.{Syntax, Broken, Over, OutOfMemory}
use Rattle.xb_span.specs.declared.span.Rule.{Rule}
use Rattle.xb_span.specs.declared.span.Span.{Span}
use Rattle.xb_span.specs.Spans.{nowhere}
use Rattle.vlog_text.specs.Token.Tokens.{HasTokens}
use Rattle.vlog_tree.specs.declared.module.Assignment.{Assignment}
use Rattle.vlog_tree.specs.declared.module.Declaration.{Declaration}
use Rattle.vlog_tree.specs.declared.module.Port.{Port}
use Rattle.vlog_tree.specs.declared.module.Set.{Set}
use Rattle.vlog_tree.specs.declared.module.VModule.{VModule}
use Rattle.vlog_tree.specs.declared.verifier.part_spans.PartSpans.{PartSpans}
use Rattle.vlog_tree.specs.Signals.{declared_own, declared_port, signals}
use Rattle.vlog_tree.specs.Verifier.Checks.{PartCheck, note, noted, walk, width_at}
use Rattle.vlog_tree.specs.Verifier.Parts.{assignment_checks, port_checks, see_name, see_set, see_target, set_checks, signal_checks}
use Rattle.vlog_tree.specs.Verifier.Ports.{Clock, due_behind}
use Rattle.vlog_tree.specs.Verifier.WithSpans.{signal_span}
use Rattle.vlog_tree.specs.Verifier.Verified.{IsVerdict, Loops, assignments_checks, clocks_checks, end_check, first, literals_checks, module_checks, module_literals, none, ports_checks, resets_checks, set_targets, signals_checks, targets}
use Rattle.vlog_text.specs.declared.builder.parsed.Parsed.{Parsed}
use Rattle.vlog_text.specs.Parser.Reads.{IsParsing, Reads, misplaced, whole}
use Rattle.vlog_text.specs.Parser.Spans.{AreParts, AreModuleTokens, IsSpanOfPart, ModuleTokens, all_parts, assignment_tokens, clock_tokens, declaration_tokens, first_name, port_tokens, reset_tokens, span_of, spans_of}
use Rattle.vlog_text.specs.Reader.Given.{GivesModule, faulty, no_sentence, no_token, sound}
use Rattle.vlog_text.proofs.OnRoundTrip.WithSpans.{both_hold}

-- ---- faults

-- a fault that was found, if any
abbrev Held : (Fault → Type 0) → Option Fault → Type 0
Held P None = Unit {0}
Held P (Some f) = P f

abbrev Each : (Fault → Type 0) → List PartCheck → Type 0
Each P checks = AllByRecursion (λ c. P c.fault) checks

either : (P : Fault → Type 0) (b : Bool) (f g : Fault) → P f → P g → Held P (if b then Some g else Some f)
either P true f g p q = q
either P false f g p q = p

note_keeps : (P : Fault → Type 0) (b : Bool) (g : Fault) (held : Option Fault) → P g → Held P held → Held P (note b g held)
note_keeps P true g None q h = q
note_keeps P true g (Some f) q h = either P (precedes g f) f g h q
note_keeps P false g held q h = h

noted_keeps : (P : Fault → Type 0) (checks : List PartCheck) (held : Option Fault) → Each P checks → Held P held → Held P (noted held checks)
noted_keeps P [] held all h = h
noted_keeps P (c ∷ checks) held all h = noted_keeps P checks (note c.broken c.fault held) all.1 (note_keeps P c.broken c.fault held all.0 h)

walk_keeps : {S A : Type 0} (P : Fault → Type 0) (f : S → ℕ → A → List PartCheck) (see : S → A → S) (n : ℕ) → ((seen : S) (i : ℕ) (x : A) → i < n → Each P (f seen i x))
    → (seen : S) (i : ℕ) (xs : List A) → i + length xs ≤ n → Each P (walk f see seen i xs)
walk_keeps P f see n each seen i [] within = tt
walk_keeps P f see n each seen i (x ∷ xs) within =
    both_hold (λ (c : PartCheck). P c.fault) (f seen i x) (walk f see (see seen x) (suc i) xs) (each seen i x (omega (arith, within)))
    (walk_keeps P f see n each (see seen x) (suc i) xs (omega (arith, within)))

-- ---- places in lists

there_within : {A : Type 0} (xs : List A) (i : ℕ) (v : A) → slice_get xs i ≡ Some v → i < length xs
there_within [] i v e = absurd (cc)
there_within (x ∷ xs) zero v e = omega arith
there_within (x ∷ xs) (suc i) v e = let more = there_within xs i v e in omega (arith, more)

there_first : {A : Type 0} (xs ys : List A) (i : ℕ) (v : A) → slice_get xs i ≡ Some v → slice_get (xs ++ ys) i ≡ Some v
there_first [] ys i v e = absurd (cc)
there_first (x ∷ xs) ys zero v e = e
there_first (x ∷ xs) ys (suc i) v e = there_first xs ys i v e

there_behind : {A : Type 0} (xs ys : List A) (i : ℕ) (v : A) → slice_get ys i ≡ Some v → (j : ℕ) × (slice_get (xs ++ ys) j ≡ Some v)
there_behind [] ys i v e = (i, e)
there_behind (x ∷ xs) ys i v e = let more = there_behind xs ys i v e in (suc more.0, more.1)

-- ---- spans of parts

-- the span is that of one of these
record IsAt (runs : List (List Lexeme)) (span : Span) : Type 0 where
  place : ℕ
  tokens : List Lexeme
  here : slice_get runs place ≡ Some tokens
  spans : span ≡ span_of tokens

at_index : (runs : List (List Lexeme)) (i : ℕ) → i < length runs → IsAt runs (get_or (map span_of runs) i nowhere)
at_index [] i within = absurd (omega (arith, within))
at_index (x ∷ runs) zero within = record { place = 0; tokens = x; here = refl; spans = refl }
at_index (x ∷ runs) (suc i) within = let a = at_index runs i (omega (arith, within)) in record { place = suc a.place; tokens = a.tokens; here = a.here; spans = a.spans }

at_first : (xs ys : List (List Lexeme)) (span : Span) → IsAt xs span → IsAt (xs ++ ys) span
at_first xs ys span a = record { place = a.place; tokens = a.tokens; here = there_first xs ys a.place a.tokens a.here; spans = a.spans }

at_behind : (xs ys : List (List Lexeme)) (span : Span) → IsAt ys span → IsAt (xs ++ ys) span
at_behind xs ys span a = let b = there_behind xs ys a.place a.tokens a.here in record { place = b.0; tokens = a.tokens; here = b.1; spans = a.spans }

map_long : {A B : Type 0} (f : A → B) (xs : List A) → length (map f xs) ≡ length xs
map_long f [] = refl
map_long f (x ∷ xs) = ap suc (map_long f xs)

same_length : {A B C : Type 0} (f : A → C) (g : B → C) (xs : List A) (ys : List B) → map f xs ≡ map g ys → length xs ≡ length ys
same_length f g xs ys e = sym (map_long f xs) ∙ (ap length e ∙ map_long g ys)

abbrev AtPart : ModuleTokens → Fault → Type 0
AtPart x (faults.Broken rule span) = IsAt (all_parts x) span
AtPart x (faults.Passed end limit) = Unit {0}
AtPart x (faults.Whole limit) = Unit {0}

module _ (x : ModuleTokens) (d : VModule) (parts : AreParts x d) where
  abbrev behind_ports : List (List Lexeme)
  behind_ports = declaration_tokens x ++ (assignment_tokens x ++ (reset_tokens x ++ clock_tokens x))

  port_at : (i : ℕ) → i < length d.ports → IsAt (all_parts x) (get_or (spans_of x).ports i nowhere)
  port_at i within =
      let same = same_length (λ (p : Port). p.name) first_name d.ports (port_tokens x) parts.ports in
      at_first (port_tokens x) behind_ports (get_or (map span_of (port_tokens x)) i nowhere) (at_index (port_tokens x) i (omega (arith, within, same)))

  declaration_at : (i : ℕ) → i < length d.declarations → IsAt (all_parts x) (get_or (spans_of x).declarations i nowhere)
  declaration_at i within =
      let same = same_length (λ (p : Declaration). p.name) first_name d.declarations (declaration_tokens x) parts.declarations in
      let span = get_or (map span_of (declaration_tokens x)) i nowhere in
      at_behind (port_tokens x) behind_ports span
      (at_first (declaration_tokens x) (assignment_tokens x ++ (reset_tokens x ++ clock_tokens x)) span (at_index (declaration_tokens x) i (omega (arith, within, same))))

  assignment_at : (i : ℕ) → i < length d.assignments → IsAt (all_parts x) (get_or (spans_of x).assignments i nowhere)
  assignment_at i within =
      let same = same_length (λ (a : Assignment). a.target) _ d.assignments (assignment_tokens x) parts.assignments in
      let span = get_or (map span_of (assignment_tokens x)) i nowhere in
      at_behind (port_tokens x) behind_ports span
      (at_behind (declaration_tokens x) (assignment_tokens x ++ (reset_tokens x ++ clock_tokens x)) span
      (at_first (assignment_tokens x) (reset_tokens x ++ clock_tokens x) span (at_index (assignment_tokens x) i (omega (arith, within, same)))))

  reset_at : (i : ℕ) → i < length d.at_reset → IsAt (all_parts x) (get_or (spans_of x).at_reset i nowhere)
  reset_at i within =
      let same = same_length (λ (s : Set). s.target) _ d.at_reset (reset_tokens x) parts.at_reset in
      let span = get_or (map span_of (reset_tokens x)) i nowhere in
      at_behind (port_tokens x) behind_ports span
      (at_behind (declaration_tokens x) (assignment_tokens x ++ (reset_tokens x ++ clock_tokens x)) span
      (at_behind (assignment_tokens x) (reset_tokens x ++ clock_tokens x) span
      (at_first (reset_tokens x) (clock_tokens x) span (at_index (reset_tokens x) i (omega (arith, within, same))))))

  clock_at : (i : ℕ) → i < length d.at_clock → IsAt (all_parts x) (get_or (spans_of x).at_clock i nowhere)
  clock_at i within =
      let same = same_length (λ (s : Set). s.target) _ d.at_clock (clock_tokens x) parts.at_clock in
      let span = get_or (map span_of (clock_tokens x)) i nowhere in
      at_behind (port_tokens x) behind_ports span
      (at_behind (declaration_tokens x) (assignment_tokens x ++ (reset_tokens x ++ clock_tokens x)) span
      (at_behind (assignment_tokens x) (reset_tokens x ++ clock_tokens x) span
      (at_behind (reset_tokens x) (clock_tokens x) span (at_index (clock_tokens x) i (omega (arith, within, same))))))

  all_signals : length (signals d) ≡ length d.ports + length d.declarations
  all_signals =
      let a = length-append (map declared_port d.ports) (map declared_own d.declarations) in
      let b = map_long declared_port d.ports in
      let c = map_long declared_own d.declarations in
      omega (arith, a, b, c)

  signal_at : (s : ℕ) → s < length (signals d) → IsAt (all_parts x) (signal_span d (spans_of x) s)
  signal_at s within =
      cond_both (nat_lt s (length d.ports)) (get_or (spans_of x).ports s nowhere) (get_or (spans_of x).declarations (s - length d.ports) nowhere) (λ span. IsAt (all_parts x) span)
      (λ h. port_at s (grind (arith, nat_tests)))
      (λ h. let count = all_signals in declaration_at (s - length d.ports) (grind (arith, nat_tests)))

  some_port : length d.ports - 1 < length d.ports
  some_port =
      let same : length d.ports ≡ suc (length (map (λ p. p.port.tokens) x.more_ports)) = same_length (λ (p : Port). p.name) first_name d.ports (port_tokens x) parts.ports in
      omega (arith, same)

  -- every check is of a part
  checks_at_parts : Each (AtPart x) (module_checks d (spans_of x))
  unfolding module_checks
  checks_at_parts =
      let P = λ (c : PartCheck). AtPart x c.fault in
      both_hold P (signals_checks d (spans_of x)) _
      (walk_keeps (AtPart x) (λ names s k. signal_checks d (targets d.assignments) (signal_span d (spans_of x) s) names s k) see_name (length (signals d))
      (λ names s k within. let a = signal_at s within in (a, (a, (tt, tt)))) [] 0 (signals d) (omega arith))
      (both_hold P (ports_checks d (spans_of x)) _
      (walk_keeps (AtPart x) (λ due i p. port_checks (get_or (spans_of x).ports i nowhere) due p) due_behind (length d.ports) (λ due i p within. (port_at i within, tt)) Clock 0 d.ports (omega arith)) (
        port_at (length d.ports - 1) some_port,
        both_hold P (assignments_checks d (spans_of x)) _
            (walk_keeps (AtPart x) (λ earlier i a. assignment_checks d (get_or (spans_of x).assignments i nowhere) earlier a) see_target (length d.assignments)
            (λ earlier i a within. let s = assignment_at i within in (s, (s, (s, (s, (s, tt)))))) [] 0 d.assignments (omega arith))
            (both_hold P (resets_checks d (spans_of x)) _
            (walk_keeps (AtPart x) (λ earlier i set. set_checks d true (set_targets d.at_clock) (get_or (spans_of x).at_reset i nowhere) earlier set) see_set (length d.at_reset)
            (λ earlier i set within. let s = reset_at i within in (s, (s, (s, (s, (s, tt)))))) [] 0 d.at_reset (omega arith))
            (both_hold P (clocks_checks d (spans_of x)) (literals_checks d (spans_of x))
            (walk_keeps (AtPart x) (λ earlier i set. set_checks d false (set_targets d.at_reset) (get_or (spans_of x).at_clock i nowhere) earlier set) see_set (length d.at_clock)
            (λ earlier i set within. let s = clock_at i within in (s, (s, (s, (s, (s, tt)))))) [] 0 d.at_clock (omega arith))
            (walk_keeps {S = ℕ} {A = ℕ} (AtPart x) (λ _ i width. width_at (get_or (spans_of x).literals i 0) width ∷ []) (λ (seen : ℕ) _. seen) (length (module_literals d))
            (λ seen i width within. (tt, tt)) 0 0 (module_literals d) (omega arith)))),
      ))

  loops_at_parts : (loops : List PartCheck) → Loops d (spans_of x) loops → Each (AtPart x) loops
  loops_at_parts _ (none free) = tt
  loops_at_parts _ (first i a at depends before) = (assignment_at i (there_within d.assignments i a at), tt)

  named_at_part : (rule : Rule) (span : Span) → IsVerdict d (spans_of x) (Some (faults.Broken rule span)) → IsSpanOfPart x span
  named_at_part rule span j =
      let all = both_hold (λ (c : PartCheck). AtPart x c.fault) (module_checks d (spans_of x)) j.loops checks_at_parts (loops_at_parts j.loops j.looped) in
      let a : IsAt (all_parts x) span = subst (Held (AtPart x)) (sym j.is) (noted_keeps (AtPart x) (module_checks d (spans_of x) ++ j.loops) None all tt) in
      record { place = a.place; tokens = a.tokens; here = a.here; spans = a.spans }

-- ---- texts

-- what reads has parts
abbrev TellsParts : Type 0
TellsParts = (ls : List Lexeme) (p : Parsed) → Reads ls p → (m : ModuleTokens) × AreModuleTokens ls m × (p.part_spans ≡ spans_of m) × AreParts m p.design

abbrev AtSomePart : List ℕ → Span → Type 0
AtSomePart text span = (ls : List Lexeme) × (m : ModuleTokens) × HasTokens text text ls × AreModuleTokens ls m × IsSpanOfPart m span

by_fault : (fault : Fault) (rule : Rule) (span : Span) → error_of fault ≡ Broken rule span → fault ≡ faults.Broken rule span
by_fault (faults.Whole limit) rule span e = absurd (cc)
by_fault (faults.Broken r s) rule span e = let same : r ≡ rule = cc in let spans : s ≡ span = cc in cc
by_fault (faults.Passed at limit) rule span e = absurd (cc)

of_parsing : (ls : List Lexeme) (error : ReadError) (rule : Rule) (span : Span) → IsParsing ls (Err error) → error ≡ Broken rule span → ⊥
of_parsing ls _ rule span (misplaced at fault) e = cc

of_module : TellsParts → (text : List ℕ) (ls : List Lexeme) (p : Parsed) (rule : Rule) (span : Span) → HasTokens text text ls → IsParsing ls (Ok p) → IsVerdict p.design p.part_spans (Some (faults.Broken rule span)) → AtSomePart text span
of_module tells text ls p rule span tokens (whole q reads) j =
    let t = tells ls p reads in
    (ls, t.0, tokens, t.1, named_at_part t.0 p.design t.3 rule span (subst (λ (s : PartSpans). IsVerdict p.design s (Some (faults.Broken rule span))) t.2 j))

broken_so : TellsParts → (text : List ℕ) (rule : Rule) (span : Span) (r : Result VModule ReadError) → r ≡ Err (Broken rule span) → GivesModule text r → AtSomePart text span
broken_so tells text rule span _ e (no_token at odd) = absurd (cc)
broken_so tells text rule span _ e (no_sentence ls error tokens parsing) = let is : error ≡ Broken rule span = cc in absurd (of_parsing ls error rule span parsing is)
broken_so tells text rule span _ e (faulty ls p fault tokens parsing j) =
    let is : error_of fault ≡ Broken rule span = cc in
    of_module tells text ls p rule span tokens parsing (subst (λ f. IsVerdict p.design p.part_spans (Some f)) (by_fault fault rule span is) j)
broken_so tells text rule span _ e (sound ls p tokens parsing j) = absurd (cc)

pub broken_at_part : TellsParts → (text : List ℕ) (rule : Rule) (span : Span) → GivesModule text (Err (Broken rule span)) → AtSomePart text span
broken_at_part tells text rule span given = broken_so tells text rule span (Err (Broken rule span)) refl given
