-- What types become that see no local.
use Rattle.std.proofs.Common.{◌≡◌, ℕ, Bool, false, List, map, reverse, sym, ap, ◌∙◌}
use Rattle.dslx_tree.specs.declared.type_expr.TypeExpr.{TypeExpr}
use Rattle.dslx_meaning.specs.Environment.{Given}
use Rattle.dslx_meaning.specs.Items.{meanings_of}
use Rattle.dslx_meaning.specs.Meaning.{written_type}
use Rattle.dslx_meaning.specs.Names.Bound.{given}
use Rattle.dslx_core.specs.Lowering.CoreScopes.{CoreScope, globals_env, unless_local}
use Rattle.dslx_core.specs.Lowering.Trees.{lower_type_of_text}
use Rattle.dslx_scope.specs.WrittenTypes.Seen.{type_sees_a_local}
use Rattle.dslx_core.specs.Machines.Machine.Callees.{CalleesByName}
use Rattle.dslx_scope_names.specs.Values.Seen.{scope_seen, scope_with}
use Rattle.dslx_scope_names.specs.declared.values.context.ScopeEnv.{ScopeEnv}

-- what the law of written types says
abbrev pub AreLowered : Type 0
AreLowered = (t : TypeExpr) (scope : CoreScope) → lower_type_of_text t scope ≡ unless_local (type_sees_a_local scope t) (written_type t (globals_env scope.known))

pub means_the_same : (t : TypeExpr) (s : ScopeEnv) (bound : List Given) (sees : Bool) → AreLowered → bound ≡ reverse (map given s.parametric_args.now) → sees ≡ type_sees_a_local (scope_seen s) t → sees ≡ false
    → (callee : CalleesByName) (count : ℕ) → written_type t (record { items = meanings_of s.text.now; bound = bound }) ≡ lower_type_of_text t (scope_with callee count s)
means_the_same t s bound sees law is_bound is none callee count =
    ap (λ (names : List Given). written_type t (record { items = meanings_of s.text.now; bound = names })) is_bound
    ∙ sym (ap (λ (b : Bool). unless_local b (written_type t (globals_env (scope_seen s).known))) (sym is ∙ none))
    ∙ sym (law t (scope_with callee count s))
