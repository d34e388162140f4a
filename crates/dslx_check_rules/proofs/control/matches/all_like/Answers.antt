use Rattle.std.proofs.Common.{◌≡◌, ◌∙◌, ◌&&◌, List, take, arith, ◌<◌, ◌≤◌, length, sym, ap}
use Rattle.std.specs.List.{list_all}
use Rattle.dslx_meaning.specs.Rules.TypeEnvs.{types_of}
use Rattle.dslx_meaning.specs.Rules.ControlRules.{ArmTyping as ArmSeen, arm_values}
use Rattle.dslx_check_rules.specs.Interned.{type_at}
use Rattle.dslx_check_rules.specs.Control.Matches.{IsArm, is_like}
use Rattle.dslx_check_rules.proofs.Lemmas.Nodes.Lists.{all_ones, next_one}
use Rattle.dslx_check_rules.proofs.OnControl.OnControl.{all_next, arm_types_next}
use Rattle.dslx_check_rules.proofs.control.matches.all_like.Goals as goal

pub arms-preserved : goal.arms-preserved
arms-preserved c = λ names later xs distinct p row arms.
    let within : c.arms.arm-index < length c.args.arms.now = omega arith in
    next_one (λ (ys : List ArmSeen). c.both-are_like.result ≡ list_all (is_like (type_at names later c.args.ty)) (types_of (arm_values ys))) (IsArm names c.args.types.now later) c.args.arms.now xs c.arms.arm-index _ arms within
    (λ x is. c.both-are_like.ensures
    ∙ (λ i. c.arms.invariant names later xs distinct p row arms i && (c.is_like-own.ensures names later distinct p row is.value.row ∙ ap (is_like (type_at names later c.args.ty)) is.value.ty) i)
    ∙ sym (ap (list_all (is_like (type_at names later c.args.ty))) (arm_types_next (take c.arms.arm-index xs) x)
    ∙ all_next (is_like (type_at names later c.args.ty)) (types_of (arm_values (take c.arms.arm-index xs))) x.value.ty))

pub returns : goal.returns
returns c = λ names later xs distinct p row arms.
    let past : length c.args.arms.now ≤ c.arms.arm-index = omega arith in
    all_ones (λ (ys : List ArmSeen). c.arms.are_like ≡ list_all (is_like (type_at names later c.args.ty)) (types_of (arm_values ys))) (IsArm names c.args.types.now later) c.args.arms.now xs c.arms.arm-index arms past
    (c.arms.invariant names later xs distinct p row arms)
