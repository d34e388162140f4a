-- What comes of an instance that is wanted, and of an expression that is lowered, by more instances.
use Rattle.std.proofs.Common.{[], ◌∷◌, Some, ap}
use Rattle.dslx_tree.specs.declared.expr.Expr.{Expr}
use Rattle.dslx_tree.specs.declared.item.Module.{Module}
use Rattle.dslx_meaning.specs.Items.{meanings_of}
use Rattle.dslx_meaning.specs.Lists.{and_then}
use Rattle.dslx_core.specs.Lowering.Functions.{Instantiated, callee_in, instance_in}
use Rattle.dslx_core.specs.Lowering.Trees.{lower_expression}
use Rattle.dslx_core.specs.Machines.Machine.Bodies.{scope_in}
use Rattle.dslx_core.specs.Machines.Machine.Machines.{needing}
use Rattle.dslx_core.specs.Machines.Machine.Reached.{lowering_alone}
use Rattle.dslx_core.specs.Machines.Machine.Tasks.{OpenBody}
use Rattle.dslx_core.proofs.Lemmas.Machines.Machine.Scopes.{makes, spot_of}
use Rattle.dslx_param.proofs.OnNeeded.Machines.{ComesOf}
use Rattle.dslx_param.proofs.OnNeeded.More.{ExprsAreMono, knows_more}

pub wanted_comes : (m : Module) (i : Instantiated) → ComesOf m (needing i) (λ t. instance_in i.name i.parametric_args 0 t)
wanted_comes m i these more among p e =
    let q = among i.name i.parametric_args p e in
    let spot = spot_of (record { text = m; items = meanings_of m; table = more }) (needing i) in
    (spot, ap (λ o. and_then (and_then o (λ q. Some spot)) (λ p. Some p)) q.1)

pub expression_comes : ExprsAreMono → (m : Module) (e : Expr) (body : OpenBody)
    → ComesOf m (lowering_alone e body) (λ t. lower_expression e (scope_in (record { text = m; items = meanings_of m; table = t }) body))
expression_comes mono m e body these more among r h =
    let s = mono e (scope_in (record { text = m; items = meanings_of m; table = these }) body) (callee_in m (meanings_of m) these) (callee_in m (meanings_of m) more)
    (knows_more m (meanings_of m) these more among) r h in
    let spot = spot_of (record { text = m; items = meanings_of m; table = more }) (lowering_alone e body) in
    (record { scope = spot.scope; made = s.0 ∷ [] }, ap (λ o. and_then (makes o spot) (λ p. Some p)) s.1)
