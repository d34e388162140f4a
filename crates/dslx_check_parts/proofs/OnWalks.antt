-- What is between the functions of statements, patterns, matches and calls: names in scope, alternatives, forms.
use Rattle.std.proofs.Common.{◌≡◌, ◌∙◌, ◌++◌, Bool, List, ℕ, Option, map, sym, ap, subst}
use Rattle.xb_span.specs.declared.span.Span.{Span}
use Rattle.dslx_tree.specs.declared.block.Stmt.{Stmt}
use Rattle.dslx_tree.specs.declared.expr.Expr.{Expr}
use Rattle.dslx_tree.specs.declared.pattern.Pattern.{Pattern}
use Rattle.dslx_meaning.specs.Rules.ControlRules.{statements_typing}
use Rattle.dslx_meaning.specs.Rules.TypeEnvs.{Judgement, TypeEnv}
use Rattle.dslx_check_rules.specs.declared.table.row.TypeId.{TypeId}
use Rattle.dslx_check_facts.specs.declared.facts.Facts.{Facts}
use Rattle.dslx_check_facts.specs.declared.type_env.TypeEnv.{TypeEnv as CodeEnv}
use Rattle.dslx_check_facts.specs.Walks.{WalkShown}
use Rattle.dslx_check_rules.specs.declared.control.control.StatementTyping.{StatementTyping}
use Rattle.dslx_check_rules.specs.declared.control.matches.AlternativesTyping.{AlternativesTyping}
use Rattle.dslx_check_leaves.specs.Fits.Typed.{pattern_typed}
use Rattle.dslx_check_leaves.specs.Typed.{stmt_typed}
use Rattle.dslx_check_leaves.specs.Walked.{Moved, PatternNames, TypesStatements, used_now}
use Rattle.dslx_check_leaves.proofs.Lemmas.Binding.{scope_behind}
use Rattle.dslx_check_parts.specs.declared.builtins.BuiltinForm.{BuiltinForm}
use Rattle.dslx_check_parts.specs.Parts.{BindsAlternatives}
use Rattle.dslx_check_parts.specs.Builtins.{builtin_by_form}

pub with_channel : {s1 s2 : CodeEnv} (s0 : CodeEnv) (names : PatternNames) (channel : Option (List ℕ)) → s1 ≡ record s0 { locals = names ++ s0.locals } → s2 ≡ record s1 { used = used_now channel s1.used }
    → s2 ≡ scope_behind names channel s0
with_channel {s1} {s2} s0 names channel e h = h ∙ ap (λ (s : CodeEnv). record s { used = used_now channel s.used }) e

pub with_names : {now : PatternNames} (s : CodeEnv) (names : PatternNames) → now ≡ names ++ s.locals → record s { locals = now } ≡ record s { locals = names ++ s.locals }
with_names {now} s names e = ap (λ (ns : PatternNames). record s { locals = ns }) e

-- alternatives of these patterns
pub alternatives_of : {f : Facts} {s0 s1 : CodeEnv} {w0 w1 : WalkShown} {j : AlternativesTyping} {ty : Option TypeId} {ps qs : List Pattern} → ps ≡ qs
    → BindsAlternatives f s0 s1 w0 w1 j ty (map pattern_typed ps) → BindsAlternatives f s0 s1 w0 w1 j ty (map pattern_typed qs)
alternatives_of {f} {s0} {s1} {w0} {w1} {j} {ty} e g = subst (λ (ps : List Pattern). BindsAlternatives f s0 s1 w0 w1 j ty (map pattern_typed ps)) e g

-- a builtin of this form
pub by_form : (own form : BuiltinForm) (span : Span) (es : List Expr) → own ≡ form → ◌≡◌ {A = TypeEnv → Judgement} (builtin_by_form form span es) (builtin_by_form own span es)
by_form own form span es is = λ i env. builtin_by_form (sym is i) span es env

-- statements of this list
pub statements_of : {f : Facts} {s0 s1 : CodeEnv} {w0 w1 : WalkShown} {j : StatementTyping} {ss ts : List Stmt} (on_top : Bool) → ss ≡ ts
    → Moved f s0 s1 w0 w1 (TypesStatements j (λ env. statements_typing (map stmt_typed ss) on_top env)) → Moved f s0 s1 w0 w1 (TypesStatements j (λ env. statements_typing (map stmt_typed ts) on_top env))
statements_of {f} {s0} {s1} {w0} {w1} {j} on_top e g = subst (λ (ss : List Stmt). Moved f s0 s1 w0 w1 (TypesStatements j (λ env. statements_typing (map stmt_typed ss) on_top env))) e g
