-- What comes of tasks that stand one behind another.
use Rattle.std.proofs.Common.{◌≡◌, List, [], ◌∷◌, length, Option, Some, None, refl, sym, ap, ◌∙◌}
use Rattle.dslx_meaning.specs.Lists.{and_then, with_both}
use Rattle.dslx_core.specs.Lowering.CoreScopes.{CoreScope, with_unnamed}
use Rattle.dslx_core.specs.Lowering.Functions.{CoreInstance, callee_in}
use Rattle.dslx_core.specs.Lowering.Lowering.{LoweredExpr}
use Rattle.dslx_core.specs.Machines.Machine.Tasks.{OpenBody, InstanceEnv}
use Rattle.dslx_core.specs.Machines.Machine.Bodies.{first_bound, gives, with_last, scope_in, restores, bound_as}
use Rattle.dslx_core.specs.Machines.Machine.Steps.{of_last, of_last_two, of_last_three}
use Rattle.dslx_core.specs.Machines.Machine.Reached.{at_table}
use Rattle.dslx_core.proofs.Lemmas.Machines.Machine.Options.{dropped_again}
use Rattle.dslx_core.proofs.Lemmas.Machines.Machine.Scopes.{Spot, back, does_all, end_of_next, having, makes, spot_of}
use Rattle.dslx_core.specs.Machines.Machine.Callees.{CalleesByName, with_callee}
use Rattle.dslx_core.proofs.Lemmas.Machines.Machine.Steady.{Grows}

-- what is made where nothing else is to be done first
pub gives_keep : (context : InstanceEnv) (table : List CoreInstance) (o : Option LoweredExpr) (body : OpenBody)
    → end_of_next (at_table context table) (gives o body) ≡ and_then (makes o (spot_of (at_table context table) body)) (does_all (at_table context table) body.todo)
gives_keep context table None body = refl
gives_keep context table (Some e) body = refl

-- ---- parts that are made first

abbrev Sequel : Type 0
Sequel = Spot → Option Spot

made_next : (o : Option LoweredExpr) (made : List LoweredExpr) (p : Spot) (k : Sequel) → and_then (and_then (and_then o (λ r. Some (r ∷ made))) (λ made. Some (having made p))) k ≡ and_then (makes o (having made p)) k
made_next None made p k = refl
made_next (Some r) made p k = refl

-- one part, without which nothing is made
pub one_next : (f : CoreScope → Option LoweredExpr → Option LoweredExpr) (o : Option LoweredExpr) (p : Spot) (k : Sequel) → f p.scope None ≡ None
    → and_then (makes o p) (λ q. and_then (and_then (of_last q.made (λ a. f q.scope (Some a))) (λ made. Some (having made q))) k) ≡ and_then (makes (f p.scope o) p) k
one_next f None p k none = ap (λ r. and_then (makes r p) k) (sym none)
one_next f (Some a) p k none = made_next (f p.scope (Some a)) p.made p k

pub two_next : (f : CoreScope → Option LoweredExpr → Option LoweredExpr → Option LoweredExpr) (o : Option LoweredExpr) (second : CoreScope → Option LoweredExpr) (p : Spot) (k : Sequel)
    → f p.scope None (second p.scope) ≡ None → ((a : LoweredExpr) → f p.scope (Some a) None ≡ None)
    → and_then (makes o p) (λ q. and_then (makes (second q.scope) q) (λ q. and_then (and_then (of_last_two q.made (λ a b. f q.scope (Some a) (Some b))) (λ made. Some (having made q))) k))
    ≡ and_then (makes (f p.scope o (second p.scope)) p) k
two_next f None second p k none none' = ap (λ r. and_then (makes r p) k) (sym none)
two_next f (Some a) second p k none none' = by (second p.scope)
  where
    by : (o : Option LoweredExpr)
        → and_then (makes o (having (a ∷ p.made) p)) (λ q. and_then (and_then (of_last_two q.made (λ a b. f q.scope (Some a) (Some b))) (λ made. Some (having made q))) k)
        ≡ and_then (makes (f p.scope (Some a) o) p) k
    by None = ap (λ r. and_then (makes r p) k) (sym (none' a))
    by (Some b) = made_next (f p.scope (Some a) (Some b)) p.made p k

pub three_next : (f : Option LoweredExpr → Option LoweredExpr → Option LoweredExpr → Option LoweredExpr) (o : Option LoweredExpr) (second third : CoreScope → Option LoweredExpr) (p : Spot) (k : Sequel)
    → ((b c : Option LoweredExpr) → f None b c ≡ None) → ((a : LoweredExpr) (c : Option LoweredExpr) → f (Some a) None c ≡ None) → ((a b : LoweredExpr) → f (Some a) (Some b) None ≡ None)
    → and_then (makes o p) (λ q. and_then (makes (second q.scope) q) (λ q. and_then (makes (third q.scope) q)
    (λ q. and_then (and_then (of_last_three q.made (λ a b c. f (Some a) (Some b) (Some c))) (λ made. Some (having made q))) k)))
    ≡ and_then (makes (f o (second p.scope) (third p.scope)) p) k
three_next f None second third p k none none' none'' = ap (λ r. and_then (makes r p) k) (sym (none (second p.scope) (third p.scope)))
three_next f (Some a) second third p k none none' none'' = by (second p.scope)
  where
    by : (o : Option LoweredExpr)
        → and_then (makes o (having (a ∷ p.made) p)) (λ q. and_then (makes (third q.scope) q)
        (λ q. and_then (and_then (of_last_three q.made (λ a b c. f (Some a) (Some b) (Some c))) (λ made. Some (having made q))) k))
        ≡ and_then (makes (f (Some a) o (third p.scope)) p) k
    by None = ap (λ r. and_then (makes r p) k) (sym (none' a (third p.scope)))
    by (Some b) = last (third p.scope)
      where
        last : (o : Option LoweredExpr)
            → and_then (makes o (having (b ∷ a ∷ p.made) p)) (λ q. and_then (and_then (of_last_three q.made (λ a b c. f (Some a) (Some b) (Some c))) (λ made. Some (having made q))) k)
            ≡ and_then (makes (f (Some a) (Some b) o) p) k
        last None = ap (λ r. and_then (makes r p) k) (sym (none'' a b))
        last (Some c) = made_next (f (Some a) (Some b) (Some c)) p.made p k

-- what was made is taken for what comes next
pub taken_next : (f : CoreScope → LoweredExpr → Option LoweredExpr) (o : Option LoweredExpr) (p : Spot) (k : Sequel)
    → and_then (makes o p) (λ q. and_then (with_last q.made (λ e made. makes (f q.scope e) (having made q))) k) ≡ and_then (makes (and_then o (f p.scope)) p) k
taken_next f None p k = refl
taken_next f (Some e) p k = refl

pub two_taken_next : (f : CoreScope → LoweredExpr → LoweredExpr → Option LoweredExpr) (o : Option LoweredExpr) (second : CoreScope → Option LoweredExpr) (p : Spot) (k : Sequel)
    → and_then (makes o p) (λ q. and_then (makes (second q.scope) q) (λ q. and_then (with_last q.made (λ b made. with_last made (λ a made. makes (f q.scope a b) (having made q)))) k))
    ≡ and_then (makes (with_both o (second p.scope) (f p.scope)) p) k
two_taken_next f None second p k = refl
two_taken_next f (Some a) second p k = by (second p.scope)
  where
    by : (o : Option LoweredExpr)
        → and_then (makes o (having (a ∷ p.made) p)) (λ q. and_then (with_last q.made (λ b made. with_last made (λ a made. makes (f q.scope a b) (having made q)))) k)
        ≡ and_then (makes (with_both (Some a) o (f p.scope)) p) k
    by None = refl
    by (Some b) = refl

-- ---- what a pattern binds, and back

pub back_before : (scope after : CoreScope) → Grows scope after → back (length scope.locals) scope.count after ≡ scope
back_before scope after g = λ i. record { known = g.known i; locals = locals i; count = scope.count }
  where
    locals : first_bound (length scope.locals) after.locals ≡ scope.locals
    locals = ap (first_bound (length scope.locals)) g.locals ∙ dropped_again g.new scope.locals

pub back_from_unnamed : (scope : CoreScope) → back (length scope.locals) scope.count (with_unnamed scope) ≡ scope
back_from_unnamed scope = back_before scope (with_unnamed scope) (record { known = refl; new = []; locals = refl })

module _ (context : InstanceEnv) (table : List CoreInstance) where
  abbrev at : InstanceEnv
  at = at_table context table

  abbrev pub calls : CalleesByName
  calls = callee_in context.text context.items table

  -- the scope behind a pattern is that of the body that goes on there
  pub behind_pattern : (body : OpenBody) (q : CoreScope) → Grows (scope_in context body) q → with_callee calls q ≡ scope_in at (bound_as q body)
  behind_pattern body q g = λ i. record { known = record { items = (g.known i).items; parametric_args = (g.known i).parametric_args; callee = calls }; locals = q.locals; count = q.count }

  pub goes_back : (body : OpenBody) (q : CoreScope) (made : List LoweredExpr) → Grows (scope_in context body) q
      → does_all at (restores body ∷ body.todo) (record { scope = scope_in at (bound_as q body); made = made }) ≡ does_all at body.todo (record { scope = scope_in at body; made = made })
  goes_back body q made g =
      ap (λ here. does_all at body.todo (record { scope = here; made = made })) (back_before (scope_in at body) (scope_in at (bound_as q body)) (record { known = refl; new = g.new; locals = g.locals }))
