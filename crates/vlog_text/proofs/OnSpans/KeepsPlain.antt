-- Rules of expressions: their trees add the ends of their literals, and nothing else.
use Rattle.std.proofs.Common.{◌≡◌, ◌∙◌, ℕ, Bool, true, false, List, [], ◌∷◌, ◌++◌, map, refl, sym, ap, append_assoc, append-nil}
use Rattle.std.proofs.lemmas.List.{map-append}
use Rattle.std.specs.Prelude.{◌==◌, ◌&&◌, not, if◌then◌else◌}
use Rattle.base.specs.declared.grammar.table.Symbol.{Symbol}
use Rattle.base.specs.declared.grammar.table.Symbol.TheVariants.{Terminal, Nonterminal}
use Rattle.dslx_token.specs.Lexeme.{Lexeme}
use Rattle.vlog_text.specs.declared.token.rules.generated.kind.TheConstants.{ASSIGN, LITERAL}
use Rattle.vlog_text.specs.declared.builder.rule.Rule.{Rule}
use Rattle.vlog_text.specs.Builder.Building.{is_name}
use Rattle.vlog_text.specs.Parser.Spans.{literal_ends, literals_in}
use Rattle.vlog_text.proofs.OnSpans.Effects.{Kept, OfSort, RunOf, Sort, after, change, effect, put, put_all, run_tokens, sort_of, tokens_in, with_ends}
use Rattle.vlog_text.proofs.OnSpans.Effects as sorts
use Rattle.vlog_text.proofs.OnSpans.Widths.{Widths, width_rule}
use Rattle.vlog_text.proofs.OnSpans.Marks.{Marks, mark_by, mark_rule, mark_token}

abbrev pub is_plain : Sort → Bool
is_plain sorts.atom = true
is_plain sorts.simple_expr = true
is_plain sorts.expr = true
is_plain sorts.more_atoms = true
is_plain sorts.whole_tail = true
is_plain sorts.end_tail = true
is_plain sorts.choice_tail = true
is_plain sorts.signed_tail = true
is_plain sorts.operator = true
is_plain _ = false

-- tokens of this kind are kept for their literal alone
abbrev pub is_plain_kind : ℕ → Bool
is_plain_kind kind = not (is_name kind) && not (kind == ASSIGN)

abbrev pub are_plain : List Symbol → Bool
are_plain [] = true
are_plain (Terminal kind ∷ symbols) = is_plain_kind kind && are_plain symbols
are_plain (Nonterminal n ∷ symbols) = is_plain (sort_of n) && are_plain symbols

abbrev ends_at : List Lexeme → List ℕ
ends_at ls = map (λ (l : Lexeme). l.span.to) ls

-- these marks, with more literals
abbrev noted : List Lexeme → Marks → Marks → Marks
noted ls m end = record m { last = end.last; ends = m.ends ++ literal_ends ls }

first_of : (a b : Bool) → a && b ≡ true → a ≡ true
first_of true b e = refl
first_of false b e = e

second_of : (a b : Bool) → a && b ≡ true → b ≡ true
second_of true b e = e
second_of false b e = absurd (cc)

-- the marks behind a token in front of others
token_noted : (name literal start : Bool) (l : Lexeme) (ls : List Lexeme) (m end : Marks) → not name && not start ≡ true
    → noted ls (mark_by name literal start l m) end ≡ record m { last = end.last; ends = m.ends ++ ends_at (if literal then l ∷ literals_in ls else literals_in ls) }
token_noted true literal start l ls m end is = absurd (cc)
token_noted false literal true l ls m end is = absurd (cc)
token_noted false true false l ls m end is = ap (λ ends. record m { last = end.last; ends = ends }) (append_assoc m.ends (l.span.to ∷ []) (literal_ends ls))
token_noted false false false l ls m end is = refl

by_literal : (b : Bool) (l : Lexeme) (all front back : List Lexeme) → all ≡ front ++ back → (if b then l ∷ all else all) ≡ (if b then l ∷ front else front) ++ back
by_literal true l all front back e = ap (λ es. l ∷ es) e
by_literal false l all front back e = e

pub literals_behind : (xs ys : List Lexeme) → literals_in (xs ++ ys) ≡ literals_in xs ++ literals_in ys
literals_behind [] ys = refl
literals_behind (l ∷ xs) ys = by_literal (l.kind == LITERAL) l (literals_in (xs ++ ys)) (literals_in xs) (literals_in ys) (literals_behind xs ys)

pub ends_behind : (xs ys : List Lexeme) → literal_ends (xs ++ ys) ≡ literal_ends xs ++ literal_ends ys
ends_behind xs ys = ap ends_at (literals_behind xs ys) ∙ map-append (λ (l : Lexeme). l.span.to) (literals_in xs) (literals_in ys)

plain_change : (k : Sort) (x : OfSort k) (m : Marks) → is_plain k ≡ true → change k x m ≡ with_ends (literal_ends (tokens_in k x)) m
plain_change sorts.atom x m is = refl
plain_change sorts.simple_expr x m is = refl
plain_change sorts.expr x m is = refl
plain_change sorts.more_atoms x m is = refl
plain_change sorts.whole_tail x m is = refl
plain_change sorts.end_tail x m is = refl
plain_change sorts.choice_tail x m is = refl
plain_change sorts.signed_tail x m is = refl
plain_change sorts.operator x m is = refl
plain_change sorts.quiet x m is = absurd (cc)
plain_change sorts.name x m is = absurd (cc)
plain_change sorts.start x m is = absurd (cc)
plain_change sorts.edge x m is = absurd (cc)
plain_change sorts.port x m is = absurd (cc)
plain_change sorts.ports x m is = absurd (cc)
plain_change sorts.declaration x m is = absurd (cc)
plain_change sorts.declarations x m is = absurd (cc)
plain_change sorts.assignment x m is = absurd (cc)
plain_change sorts.assignments x m is = absurd (cc)
plain_change sorts.set x m is = absurd (cc)
plain_change sorts.sets x m is = absurd (cc)
plain_change sorts.reset_branch x m is = absurd (cc)
plain_change sorts.clock_branch x m is = absurd (cc)
plain_change sorts.clocked x m is = absurd (cc)
plain_change sorts.items x m is = absurd (cc)
plain_change sorts.whole x m is = absurd (cc)

part_noted : (k : Sort) (x : OfSort k) (ls : List Lexeme) (m end : Marks) → is_plain k ≡ true → noted ls (effect k x m) end ≡ noted (tokens_in k x ++ ls) m end
part_noted k x ls m end is =
    ap (λ (c : Marks). record c { last = end.last; ends = c.ends ++ literal_ends ls }) (plain_change k x m is)
    ∙ ap (λ ends. record m { last = end.last; ends = ends })
    (append_assoc m.ends (literal_ends (tokens_in k x)) (literal_ends ls) ∙ ap (λ es. m.ends ++ es) (sym (ends_behind (tokens_in k x) ls)))

pub plain_run : (symbols : List Symbol) → are_plain symbols ≡ true → (run : RunOf symbols) (m : Marks) → after symbols run m ≡ noted (run_tokens symbols run) m (after symbols run m)
plain_run [] all run m = ap (λ ends. record m { ends = ends }) (sym (append-nil m.ends))
plain_run (Terminal kind ∷ symbols) all run m =
    let l = run.0.token in
    let ls = run_tokens symbols run.1 in
    let end = after symbols run.1 (mark_token kind l m) in
    plain_run symbols (second_of (is_plain_kind kind) (are_plain symbols) all) run.1 (mark_token kind l m)
    ∙ token_noted (is_name kind) (kind == LITERAL) (kind == ASSIGN) l ls m end (first_of (is_plain_kind kind) (are_plain symbols) all)
    ∙ ap (λ k. record m { last = end.last; ends = m.ends ++ ends_at (if k == LITERAL then l ∷ literals_in ls else literals_in ls) }) (sym run.0.is)
plain_run (Nonterminal n ∷ symbols) all run m =
    let end = after symbols run.1 (effect (sort_of n) run.0 m) in
    plain_run symbols (second_of (is_plain (sort_of n)) (are_plain symbols) all) run.1 (effect (sort_of n) run.0 m)
    ∙ part_noted (sort_of n) run.0 (run_tokens symbols run.1) m end (first_of (is_plain (sort_of n)) (are_plain symbols) all)

-- a rule whose symbols are plain, and which takes nothing of the marks
pub plain_kept : (k : Sort) (rule : Rule) (body : List Symbol) → is_plain k ≡ true → are_plain body ≡ true → ((m : Marks) → mark_rule rule m ≡ m) → (run : RunOf body) (part : OfSort k)
    → tokens_in k part ≡ run_tokens body run → ((w : Widths) → width_rule rule (put_all body run w) ≡ put k part w) → Kept k rule body run
plain_kept k rule body is all inert run part are puts = record {
  part = part;
  are = are;
  does = λ m.
      let last = (after body run m).last in
      inert (after body run m)
      ∙ (plain_run body all run m
      ∙ (ap (λ ls. record m { last = last; ends = m.ends ++ literal_ends ls }) (sym are) ∙ ap (λ (c : Marks). record c { last = last }) (sym (plain_change k part m is))));
  puts = λ fits. puts;
}
