use Rattle.std.proofs.Common.{◌≡◌, ◌∙◌, ◌<◌, ◌≤◌, List, length, min, take, arith, sym, ap}
use Rattle.xb_span.specs.declared.fault.Fault.{Fault}
use Rattle.dslx_meaning.specs.Rules.AggregateRules.{wanted_faults}
use Rattle.dslx_check_rules.specs.Seen.{seen}
use Rattle.dslx_check_rules.specs.Nodes.Nodes.Lists.{all_faults}
use Rattle.dslx_check_rules.proofs.Lemmas.Nodes.Lists.{all_faults_next}
use Rattle.dslx_check_rules.specs.Control.Calls.{each_misfit}
use Rattle.dslx_check_rules.proofs.OnControl.OnCalls.{all_misfits, next_misfit}
use Rattle.dslx_check_rules.proofs.control.calls.operand_faults.Goals as goal

pub operands-preserved : goal.operands-preserved
operands-preserved c = λ names later ts xs distinct p types parts.
    let within : c.operands.i < length c.args.arguments.now = omega (arith, c.lesser-count.ensures) in
    let inside : c.operands.i < length c.args.operands.now = omega (arith, c.lesser-count.ensures) in
    next_misfit names c.args.types.now later c.args.arguments.now ts c.args.operands.now xs types parts (λ (fss : List (List Fault)). c.and-faults.result ≡ seen (all_faults fss)) c.operands.i _ _ within inside
    (λ t x ty is. c.and-faults.ensures (all_faults (take c.operands.i (each_misfit ts xs))) (wanted_faults x.span t x.judgement.ty) (c.operands.invariant names later ts xs distinct p types parts)
    (c.wanted_faults-own.ensures names later distinct p ty.row is.part.row ∙ (λ i. seen (wanted_faults (is.span i) (ty.same i) (is.part.ty i))))
    ∙ ap seen (sym (all_faults_next (take c.operands.i (each_misfit ts xs)) (wanted_faults x.span t x.judgement.ty))))

pub returns : goal.returns
returns c = λ names later ts xs distinct p types parts.
    let past : min (length c.args.arguments.now) (length c.args.operands.now) ≤ c.operands.i = omega (arith, c.lesser-count.ensures) in
    all_misfits names c.args.types.now later c.args.arguments.now ts c.args.operands.now xs types parts (λ (fss : List (List Fault)). c.operands.faults ≡ seen (all_faults fss)) c.operands.i past
    (c.operands.invariant names later ts xs distinct p types parts)
