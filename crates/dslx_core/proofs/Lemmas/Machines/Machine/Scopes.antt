-- What each task comes to, by what the parts of a text become, where calls are looked up in a table that is given.
use Rattle.dslx_core.specs.Machines.Machine.Arms.{shaped_at}
use Rattle.std.proofs.Common.{ℕ, List, [], ◌∷◌, ◌++◌, map, Option, Some}
use Rattle.dslx_tree.specs.declared.block.Stmt.{Stmt}
use Rattle.dslx_tree.specs.declared.expr.Arm.{Arm}
use Rattle.dslx_tree.specs.declared.expr.Expr.{Expr}
use Rattle.dslx_tree.specs.declared.expr.For.{For, out-For}
use Rattle.dslx_tree.specs.declared.pattern.Pattern.{Pattern}
use Rattle.dslx_meaning.specs.Callees.{kind_of_call}
use Rattle.dslx_meaning.specs.Lists.{all_some, and_then, with_both}
use Rattle.dslx_meaning.specs.Meaning.{denotation}
use Rattle.dslx_meaning.specs.Values.{bits_of}
use Rattle.dslx_meaning.specs.declared.ty.DslxType.{DslxType}
use Rattle.dslx_meaning.specs.declared.ty.DslxType as ty
use Rattle.dslx_core.specs.declared.expr.CoreExpr as core
use Rattle.dslx_core.specs.Lowering.CoreScopes.{CoreScope, constant_at}
use Rattle.dslx_core.specs.Lowering.Lowering.{LoweredExpr, lower_call, cores_of, lowered, types_of_lowered}
use Rattle.dslx_core.specs.Lowering.Patterns.{LoweredArm, lower_arm, arm_of, arms_of}
use Rattle.dslx_core.specs.Lowering.Trees.{lower_block_of_text, element_or_number, lower_array_elements, lower_expression, lower_fields, lower_filled, of_type, with_others}
use Rattle.dslx_core.specs.Machines.Machine.Tasks as task
use Rattle.dslx_core.specs.Machines.Machine.Tasks.{PartsMaker, MakesTuple, MakesArray, Fills, CallsWith, StructWork, MatchWork, LowerTask, OpenBody, InstanceEnv}
use Rattle.dslx_core.specs.Machines.Machine.Bodies.{first_bound, scope_in, with_last}
use Rattle.dslx_core.specs.Machines.Machine.Parts.{parametric_args_at, part_taken}
use Rattle.dslx_core.specs.Machines.Machine.Steps.{bind_made, call_made, instance_of, loop_made, made_of_last, turn_shaped}
use Rattle.dslx_core.proofs.OnMachines.OnMachine.LowersTo.{arm_lowers_to, field_lowers_to, statements_become}

-- where a body stands, but for what is to be done
pub record Spot : Type 0 where
  pub scope : CoreScope
  pub made : List LoweredExpr

abbrev pub spot_of : InstanceEnv → OpenBody → Spot
spot_of context body = record { scope = scope_in context body; made = body.made }

abbrev pub having : List LoweredExpr → Spot → Spot
having made p = record { scope = p.scope; made = made }

-- one more is made
abbrev pub makes : Option LoweredExpr → Spot → Option Spot
makes e p = and_then e (λ e. Some (having (e ∷ p.made) p))

-- so many names and values are left
abbrev pub back : ℕ → ℕ → CoreScope → CoreScope
back n count scope = record { known = scope.known; locals = first_bound n scope.locals; count = count }

-- ---- blocks and loops

-- a value that is taken apart for the rest of a block
abbrev pub let_in : CoreScope → LoweredExpr → Pattern → List Stmt → Option Expr → Option LoweredExpr
let_in scope e p ss last = and_then (shaped_at p scope e.ty) (λ s. and_then (statements_become ss last s.scope) (λ r. bind_made e s.shape r))

-- a loop from its start and its first index
abbrev pub loop_in : CoreScope → For → LoweredExpr → LoweredExpr → Option LoweredExpr
loop_in scope f start index =
    with_both (and_then (constant_at scope (out-For f).from) bits_of) (and_then (constant_at scope (out-For f).to) bits_of) (λ a b.
    and_then (turn_shaped scope f index.ty start.ty) (λ t. and_then (lower_block_of_text (out-For f).body t.1.scope) (λ body. loop_made start a b t.0 t.1.shape body)))

-- ---- several expressions

abbrev pub part_in : PartsMaker → CoreScope → Expr → Option LoweredExpr
part_in (Fills t n dots) scope e = element_or_number t (denotation e).bare (lower_expression e scope)
part_in _ scope e = lower_expression e scope

abbrev pub made_in : PartsMaker → CoreScope → List LoweredExpr → Option LoweredExpr
made_in MakesTuple scope es = lowered (core.Tuple (cores_of es)) (ty.Tuple (types_of_lowered es))
made_in MakesArray scope es = lower_array_elements es
made_in (Fills t n dots) scope es = lower_filled scope.count t dots n es
made_in (CallsWith name parametric_args) scope es = lower_call (kind_of_call name) name scope (parametric_args_at scope parametric_args) (map Some es)

abbrev pub list_in : CoreScope → List LoweredExpr → List Expr → PartsMaker → Option LoweredExpr
list_in scope before es maker = and_then (all_some (map (part_in maker scope) es)) (λ more. made_in maker scope (before ++ more))

abbrev pub fields_in : CoreScope → StructWork → List LoweredExpr → List (List ℕ) → List DslxType → Option LoweredExpr
fields_in scope work before fields ts =
    and_then (lower_fields scope (map field_lowers_to work.written) work.others fields ts) (λ es. lowered (core.Tuple (cores_of (before ++ es))) work.ty)

-- ---- arms

abbrev pub arms_in : CoreScope → LoweredExpr → List LoweredArm → List Arm → Option LoweredExpr
arms_in scope e before arms = and_then (all_some (map (λ a. lower_arm a scope e.ty) (map arm_lowers_to arms))) (λ more. arms_of e (before ++ more))

-- a match from an arm of it on
abbrev pub arm_then : CoreScope → MatchWork → LoweredArm → Option LoweredExpr
arm_then scope work arm = arms_in scope work.value (work.before ++ arm ∷ []) work.behind

-- ---- each task

abbrev pub done : InstanceEnv → LowerTask → Spot → Option Spot
done context (task.LowersExpr e) p = makes (lower_expression e p.scope) p
done context (task.LowersBlock b) p = makes (lower_block_of_text b p.scope) p
done context (task.LowersStatements ss last) p = makes (statements_become ss last p.scope) p
done context (task.Makes maker) p = and_then (made_of_last maker p.scope p.made) (λ made. Some (having made p))
done context (task.BindsValue q ss last) p = with_last p.made (λ e made. makes (let_in p.scope e q ss last) (having made p))
done context (task.MakesBind e s) p = with_last p.made (λ r made. makes (bind_made e s r) (having made p))
done context (task.Gathers before es maker) p =
    with_last p.made (λ e made. makes (and_then (part_taken maker e) (λ e. list_in p.scope (before ++ e ∷ []) es maker)) (having made p))
done context (task.TakesOthers t fields ts written) p = with_last p.made (λ e made. makes (with_others p.scope e (map field_lowers_to written) t fields ts) (having made p))
done context (task.GathersFields work before t fields ts) p =
    with_last p.made (λ e made. makes (and_then (of_type t (Some e)) (λ e. fields_in p.scope work (before ++ e ∷ []) fields ts)) (having made p))
done context (task.LowersArms arms) p = with_last p.made (λ e made. makes (arms_in p.scope e [] arms) (having made p))
done context (task.TakesArm work shapes) p = with_last p.made (λ v made. makes (and_then (arm_of shapes v) (arm_then p.scope work)) (having made p))
done context (task.LoopBegins f) p = with_last p.made (λ index made. with_last made (λ start made. makes (loop_in p.scope f start index) (having made p)))
done context (task.MakesLoop start a b i acc) p = with_last p.made (λ r made. makes (loop_made start a b i acc r) (having made p))
done context (task.Restores n count) p = Some (record { scope = back n count p.scope; made = p.made })
done context (task.NeedsInstance i) p = and_then (instance_of context i) (λ q. Some p)
done context (task.CallsInstance i es) p = makes (call_made context i es) p

-- what comes of what is to be done
abbrev pub does_all : InstanceEnv → List LowerTask → Spot → Option Spot
does_all context [] p = Some p
does_all context (d ∷ todo) p = and_then (done context d p) (does_all context todo)

-- where a body ends
abbrev pub end_of : InstanceEnv → OpenBody → Option Spot
end_of context body = does_all context body.todo (spot_of context body)

abbrev pub end_of_next : InstanceEnv → Option OpenBody → Option Spot
end_of_next context o = and_then o (end_of context)
