-- What a lowered instance is made of.
use Rattle.std.proofs.Common.{◌≡◌, ℕ, List, subst, sym}
use Rattle.ir_tree.specs.declared.constant.Constant.{Constant}
use Rattle.ir_tree.specs.declared.package.Proc.{Proc}
use Rattle.ir_tree.specs.declared.node.Operand.{Operand}
use Rattle.ir_tree.specs.Activations.{activation}
use Rattle.ir_tree.specs.SameBehavior.{SameActivations}
use Rattle.ir_rebuild.specs.declared.putting.nodes.Nodes.{Nodes}
use Rattle.dslx_core.specs.declared.design.Function.{Function}
use Rattle.dslx_core.specs.declared.design.Instance.{Instance}
use Rattle.ir_lower_nodes.specs.Exprs.Calls.{calls_below}
use Rattle.ir_lower_nodes.specs.Acts.InstanceActivities.{instance_behavior}
use Rattle.ir_lower_nodes.specs.Procs.Instances.{ActivationLowers, proc_of}
use Rattle.ir_lower.specs.Inner.Made.{ProcLowers}

-- a proc of the nodes of an instance does what the instance does
pub proc_lowers : (fs : List Function) (members : List ℕ) (i : Instance) (nodes : Nodes) (o : Operand) (name : List ℕ) (init : Constant) (p : Proc) → ActivationLowers fs members i nodes o → p ≡ proc_of name init nodes o → ProcLowers fs members i p
proc_lowers fs members i nodes o name init p lowers is signatures n signed ir words carry state typed width widths =
    subst (λ x. SameActivations (instance_behavior (calls_below n fs) width members i) (activation ir x)) (sym is)
    ((lowers signatures n signed ir words carry state typed).same width widths name init)
