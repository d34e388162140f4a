use Rattle.std.proofs.Common.{rules, ◌≡◌, ◌-◌, ◌+◌, ◌==◌, true, false, Some, ap, sym, ◌∙◌, arith, length}
use Rattle.std.specs.Prelude.{option_map, slice_get}
use Rattle.std.proofs.lemmas.Bool.Decides.{nat_tests}
use Rattle.std.proofs.lemmas.Option.{slice_get-get_or, slice_get_past}
use Rattle.std.proofs.lemmas.Result.{IfOk-weaker}
use Rattle.xb_value.specs.declared.value.Value.{Bits, out-Value}
use Rattle.dslx_meaning.specs.Lists.{and_then}
use Rattle.dslx_core.specs.CoreValues.{Bindings, CoreDen, core_step, core_value, first_apart, one_turn, tuple_values_step, turns}
use Rattle.dslx_core.specs.declared.expr.Arm.{Arm, out-Arm}
use Rattle.dslx_core.specs.declared.expr.CoreExpr.{out-CoreExpr}
use Rattle.dslx_core.specs.declared.expr.CoreExpr.TheOpen.{CoreExpr-F}
use Rattle.dslx_interp.specs.Eval.Inner.Direct.{calls_of, layer}
use Rattle.dslx_interp.proofs.OnEval.Direct.{opened, not_fitting, word_back, next_arm_there, no_call, wrong_count, right_count, turn_more, turn_none}
use Rattle.dslx_interp.proofs.eval.direct.+direct.Goals as goal

pub arms_in-arms-preserved : goal.arms_in-arms-preserved
arms_in-arms-preserved t c =
    let there = slice_get-get_or c.args.arms.now c.arms.i c.index-arms-i.result c.arms-test.true ∙ ap Some (sym c.index-arms-i.is) in
    let off = not_fitting _ _ c.in_ok-fits.fits c.in_ok-fits.ensures.fits c.if-fits.false in
    record {
      stays = off.1 ∙ c.arms.invariant.stays;
      whole = sym (next_arm_there c.args.arms.now c.arms.i (c.arms.i + 1) c.index-arms-i.result c.args.value.now (calls_of c.args.functions.now) c.args.bound.now.items (omega arith) there
          (omega (arith, c.arms-test.true, c.if-i-arms.false)) (ap (λ (a : Arm). first_apart (out-Arm a).shapes c.args.value.now c.args.bound.now.items) c.index-arms-i.is
          ∙ (ap (λ ss. first_apart ss c.args.value.now c.args.bound.now.items) (sym c.as_slice.ensures) ∙ (ap (λ b. first_apart c.as_slice.result.now c.args.value.now b) (sym c.arms.invariant.stays) ∙ off.0)))) ∙ c.arms.invariant.whole;
      same_count = c.arms.invariant.same_count;
    }

pub element_in-returns-in-Some-clause-value : goal.element_in-returns-in-Some-clause-value
element_in-returns-in-Some-clause-value t c =
    let calls = calls_of c.args.functions.now in
    let there : core_value c.args.tuple.now calls c.args.bound.now.items ≡ Some c.in-Some.value.now =
    ap (λ (m : CoreDen). m calls c.args.bound.now.items) (opened c.args.tuple.now)
    ∙ (ap (λ b. layer (out-CoreExpr c.args.tuple.now) calls b) (sym c.as_slice.ensures.value) ∙ c.in-Some.ensures calls) in
    IfOk-weaker c.element_of.result _ _
    (λ v is. is ∙ ap (λ o. and_then (and_then o (λ u. tuple_values_step (out-Value u))) (λ vs. slice_get vs c.args.number)) (sym there))
    c.element_of.ensures

pub function_in-returns-then-number-functions : goal.function_in-returns-then-number-functions
function_in-returns-then-number-functions t c =
    sym (no_call c.args.functions.now c.args.number c.args.operands.items (slice_get_past c.args.functions.now c.args.number (omega (arith, c.if-number-functions.true))))

pub function_in-returns-then-len-function : goal.function_in-returns-then-len-function
function_in-returns-then-len-function t c =
    let there = slice_get-get_or c.args.functions.now c.args.number c.index-functions-number.result (omega (arith, c.if-number-functions.false)) ∙ ap Some (sym c.index-functions-number.is) in
    let wrong : (length c.args.operands.items == c.index-functions-number.result.arity) ≡ false = grind (arith, nat_tests, c.if-len-function.true, c.len.ensures) in
    sym (wrong_count c.args.functions.now c.args.number c.args.operands.items c.index-functions-number.result there wrong)

pub function_in-returns : goal.function_in-returns
function_in-returns t c =
    let there = slice_get-get_or c.args.functions.now c.args.number c.index-functions-number.result (omega (arith, c.if-number-functions.false)) ∙ ap Some (sym c.index-functions-number.is) in
    let right : (length c.args.operands.items == c.index-functions-number.result.arity) ≡ true = grind (arith, nat_tests, c.if-len-function.false, c.len.ensures) in
    IfOk-weaker c.value_in.result _ _
    (λ v is. is ∙ sym (right_count c.args.functions.now c.args.number c.args.operands.items c.index-functions-number.result there right))
    c.value_in.ensures.value

pub turns_in-returns-in-None-clause-value : goal.turns_in-returns-in-None-clause-value
turns_in-returns-in-None-clause-value t c =
    let turn_over = λ (b : Bindings). one_turn c.args.index_shape.now c.args.shape.now (core_value c.args.body.now) (calls_of c.args.functions.now) b in
    let here = ap (λ (b : Bindings). turn_over b (Bits c.turns.index) c.turns.value) (sym c.turns.invariant.stays) ∙ (sym c.in_ok-next.ensures.value ∙ c.in-None.is) in
    sym (turn_none (turn_over c.args.bound.now.items) (c.args.count - c.turns.turn) (c.args.count - (c.turns.turn + 1)) c.turns.index c.turns.value (omega (arith, c.turns-test.true)) here)
    ∙ c.turns.invariant.whole

pub turns_in-turns-preserved : goal.turns_in-turns-preserved
turns_in-turns-preserved t c =
    let turn_over = λ (b : Bindings). one_turn c.args.index_shape.now c.args.shape.now (core_value c.args.body.now) (calls_of c.args.functions.now) b in
    let here = ap (λ (b : Bindings). turn_over b (Bits c.turns.index) c.turns.value) (sym c.turns.invariant.stays) ∙ (sym c.in_ok-next.ensures.value ∙ c.in-Some.is) in
    let more = turn_more (turn_over c.args.bound.now.items) (c.args.count - c.turns.turn) (c.args.count - (c.turns.turn + 1)) c.turns.index c.turns.value c.in-Some.next (omega (arith, c.turns-test.true)) here in
    record {
      stays = c.in_ok-next.ensures.stays ∙ c.turns.invariant.stays;
      whole = ap (λ w. turns (turn_over c.args.bound.now.items) (c.args.count - (c.turns.turn + 1)) w c.in-Some.next) c.next_index-index.ensures ∙ (sym more ∙ c.turns.invariant.whole);
    }

pub binary_word_in-returns-clause-value : goal.binary_word_in-returns-clause-value
binary_word_in-returns-clause-value t c =
    let is : option_map Bits c.binary_word_given.result ≡ core_step (CoreExpr-F.Binary c.args.op (core_value c.args.left.now) (core_value c.args.right.now)) (calls_of c.args.functions.now) c.args.bound.now.items =
    search rules in
    word_back _ _ is

pub cast_word_in-returns-clause-value : goal.cast_word_in-returns-clause-value
cast_word_in-returns-clause-value t c =
    let is : option_map Bits c.cast_word_given.result ≡ core_step (CoreExpr-F.Cast c.args.sign c.args.width (core_value c.args.expr.now)) (calls_of c.args.functions.now) c.args.bound.now.items =
    search rules in
    word_back _ _ is
