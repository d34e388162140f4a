-- Nodes, steps and sites one after another, and what is alike said otherwise.
use Rattle.std.proofs.Common.{◌≡◌, ℕ, List, [], ◌∷◌, ◌++◌, refl, sym, ap, subst, ◌∙◌}
use Rattle.std.proofs.lemmas.List.{append_assoc}
use Rattle.xb_bits.specs.Word.{Word}
use Rattle.xb_value.specs.declared.value.Value.{Value}
use Rattle.net_core.specs.declared.net.Site.{Site}
use Rattle.ir_tree.specs.Activations.{sites_by, sites_of}
use Rattle.ir_tree.specs.NodeValues.{role_of}
use Rattle.ir_tree.specs.declared.node.Node.{Node}
use Rattle.ir_tree.specs.declared.node.Role.{Role}
use Rattle.ir_tree.specs.declared.node.Role.TheVariants as role
use Rattle.ir_tree.specs.declared.package.Channel.{Channel}
use Rattle.dslx_core.specs.CoreValues.{Functions}
use Rattle.dslx_core.specs.Designs.{Behind, do_step, do_steps, site_of_step, sites_of_steps}
use Rattle.dslx_core.specs.declared.expr.CoreExpr.{CoreExpr}
use Rattle.dslx_core.specs.declared.step.Step.{Step}
use Rattle.ir_lower_nodes.specs.Acts.Activities.{ByWords, role_then, nodes_then, DoAlike}
use Rattle.ir_lower_nodes.specs.Acts.InstanceActivities.{state_then, steps_then}

-- ---- alike

pub alike_as : (width : ℕ → ℕ) (sites : List Site) (f g p q : ByWords) → ((words : List Word) → p words ≡ f words) → ((words : List Word) → q words ≡ g words) → DoAlike width sites f g → DoAlike width sites p q
alike_as width sites f g p q e k h =
    let first : f ≡ p = λ i words. sym (e words) i in
    let second : g ≡ q = λ i words. sym (k words) i in
    subst (λ x. DoAlike width sites x q) first (subst (DoAlike width sites f) second h)

-- ---- nodes

pub nodes_append : (ir : List Channel) (s : Value) (xs ys : List Node) (rest : List Value → ByWords) → nodes_then ir s (xs ++ ys) rest ≡ nodes_then ir s xs (nodes_then ir s ys rest)
nodes_append ir s [] ys rest = refl
nodes_append ir s (x ∷ xs) ys rest = ap (role_then ir s x (role_of x)) (nodes_append ir s xs ys rest)

sites_role : (r : Role) (xs ys : List Site) → sites_by r (xs ++ ys) ≡ sites_by r xs ++ ys
sites_role role.Pure xs ys = refl
sites_role (role.Receive predicate c) xs ys = refl
sites_role (role.Send predicate c) xs ys = refl

pub sites_append : (xs ys : List Node) → sites_of (xs ++ ys) ≡ sites_of xs ++ sites_of ys
sites_append [] ys = refl
sites_append (x ∷ xs) ys = ap (sites_by (role_of x)) (sites_append xs ys) ∙ sites_role (role_of x) (sites_of xs) (sites_of ys)

-- ---- steps

pub steps_end : (calls : Functions) (ss : List Step) (next : CoreExpr) → do_steps calls ss next ≡ steps_then calls ss (state_then calls next)
steps_end calls [] next = refl
steps_end calls (s ∷ ss) next = λ i bound words. do_step calls s (steps_end calls ss next i) bound words

pub steps_append : (calls : Functions) (xs ys : List Step) (rest : Behind) → steps_then calls (xs ++ ys) rest ≡ steps_then calls xs (steps_then calls ys rest)
steps_append calls [] ys rest = refl
steps_append calls (x ∷ xs) ys rest = ap (do_step calls x) (steps_append calls xs ys rest)

pub step_sites_append : (channels : List ℕ) (xs ys : List Step) → sites_of_steps channels (xs ++ ys) ≡ sites_of_steps channels xs ++ sites_of_steps channels ys
step_sites_append channels [] ys = refl
step_sites_append channels (x ∷ xs) ys =
    ap (λ zs. site_of_step channels x ++ zs) (step_sites_append channels xs ys)
    ∙ sym (append_assoc (site_of_step channels x) (sites_of_steps channels xs) (sites_of_steps channels ys))
