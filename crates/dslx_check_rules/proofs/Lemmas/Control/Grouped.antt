-- Statements and patterns one behind another: the definitions put each before all others, a walk puts each behind all before.
use Rattle.std.proofs.Common.{◌≡◌, ◌∙◌, ◌+◌, ◌&&◌, List, ℕ, Bool, true, false, Option, None, refl, sym, ap, append_assoc, arith}
use Rattle.std.specs.Prelude.{if◌then◌else◌}
use Rattle.std.proofs.lemmas.List.{append-nil}
use Rattle.xb_span.specs.declared.span.Span.{Span}
use Rattle.xb_span.specs.declared.fault.Fault.{Fault}
use Rattle.dslx_meaning.specs.declared.ty.DslxType.{DslxType}
use Rattle.dslx_meaning.specs.Rules.TypeEnvs.{Instance, Judgement, Typed, has_broken, limited, settled, size_if_typed}
use Rattle.dslx_meaning.specs.Rules.Typings.{PatternSeen, StatementSeen}
use Rattle.dslx_meaning.specs.Rules.PatternRules.{both_patterns, nothing_bound, part_types, tuple_pattern}
use Rattle.dslx_check_rules.proofs.Lemmas.Nodes.Lists.{plus_assoc, plus_nothing}
use Rattle.dslx_check_rules.specs.Control.Patterns.{tuple_head}
use Rattle.dslx_check_rules.specs.Control.Control.{both_statements, no_statement}

-- ---- statements

pub statements_grouped : (x y z : StatementSeen) → both_statements (both_statements x y) z ≡ both_statements x (both_statements y z)
statements_grouped x y z = λ i. record {
  context = z.context;
  faults = append_assoc x.faults y.faults z.faults i;
  reached = append_assoc x.reached y.reached z.reached i;
  size = sym (plus_assoc x.size y.size z.size) i;
}

pub statement_last : (x : StatementSeen) → both_statements x (no_statement x.context) ≡ x
statement_last x = λ i. record { context = x.context; faults = append-nil x.faults i; reached = append-nil x.reached i; size = plus_nothing x.size i }

-- ---- patterns

and_grouped : (a b c : Bool) → ((a && b) && c) ≡ (a && (b && c))
and_grouped true b c = refl
and_grouped false b c = refl

and_true : (a : Bool) → (a && true) ≡ a
and_true true = refl
and_true false = refl

plus_grouped : (a b c : ℕ) → (a + b) + c ≡ a + (b + c)
plus_grouped a b c = omega arith

plus_zero : (a : ℕ) → a + 0 ≡ a
plus_zero a = omega arith

pub patterns_grouped : (x y z : PatternSeen) → both_patterns (both_patterns x y) z ≡ both_patterns x (both_patterns y z)
patterns_grouped x y z = λ i. record {
  names = z.names;
  locals = z.locals;
  faults = append_assoc x.faults y.faults z.faults i;
  reached = append_assoc x.reached y.reached z.reached i;
  size = plus_grouped x.size y.size z.size i;
  is_known = and_grouped x.is_known y.is_known z.is_known i;
  is_sure = and_grouped x.is_sure y.is_sure z.is_sure i;
}

pub pattern_last : (x : PatternSeen) → both_patterns x (nothing_bound x.names x.locals) ≡ x
pattern_last x = λ i. record {
  names = x.names;
  locals = x.locals;
  faults = append-nil x.faults i;
  reached = append-nil x.reached i;
  size = plus_zero x.size i;
  is_known = and_true x.is_known i;
  is_sure = and_true x.is_sure i;
}

-- a tuple's own, and its parts
pub head_then : (span : Span) (n : ℕ) (t : Option DslxType) (names : List (List ℕ)) (locals : List Typed) (parts : PatternSeen)
    → both_patterns (tuple_head span n t names locals) parts ≡ tuple_pattern span t (part_types n t) parts
head_then span n t names locals parts = refl

-- ---- what breaks a rule has neither a type nor a size, whatever was found for it

pub broken_alike : (span : Span) (t u : Option DslxType) (fs : List Fault) (reached : List Instance) (n k : Option ℕ) → has_broken fs ≡ true
    → settled span t fs reached n ≡ settled span u fs reached k
broken_alike span t u fs reached n k e = ap (found t n) e ∙ sym (ap (found u k) e)
  where
    found : Option DslxType → Option ℕ → Bool → Judgement
    found t n b = limited span (record { ty = if b then None else t; faults = fs; reached = reached; size = size_if_typed (if b then None else t) n })
