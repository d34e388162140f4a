use Rattle.std.proofs.Common.{◌≡◌, ◌∙◌, ℕ, List, [], Option, ap}
use Rattle.std.proofs.lemmas.Result.{IfOk-weaker}
use Rattle.dslx_meaning.specs.declared.ty.DslxType.{DslxType}
use Rattle.dslx_core.specs.Lowering.CoreScopes.{BoundSlot}
use Rattle.dslx_core.specs.Lowering.Trees.{lower_type_of_text}
use Rattle.dslx_core.specs.Machines.Machine.Callees.{CalleesByName}
use Rattle.dslx_scope_names.specs.Patterns.Behind.{body_scope}
use Rattle.dslx_config.proofs.members.outer.outer_type.Goals as goal

pub returns : goal.returns
returns c =
    IfOk-weaker c.type_there.result (λ (t : Option DslxType). (callee : CalleesByName) (count : ℕ) → t ≡ lower_type_of_text c.args.ty.now (body_scope callee c.args.known c.new-locals.result count))
    (λ t. (callee : CalleesByName) → t ≡ lower_type_of_text c.args.ty.now (body_scope callee c.args.known [] 0))
    (λ t is callee. is callee 0 ∙ ap (λ (l : List BoundSlot). lower_type_of_text c.args.ty.now (body_scope callee c.args.known l 0)) c.new-locals.ensures)
    c.type_there.ensures
