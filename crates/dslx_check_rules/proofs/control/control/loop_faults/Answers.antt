use Rattle.std.proofs.Common.{◌∙◌, ◌++◌, List, ap}
use Rattle.xb_span.specs.declared.fault.Fault.{Fault}
use Rattle.dslx_meaning.specs.Rules.AggregateRules.{wanted_faults}
use Rattle.dslx_meaning.specs.Rules.OperatorRules.{one_bit_type, unless_types}
use Rattle.dslx_meaning.specs.Rules.ControlRules.{index_type, loop_annotation, turn_limit, turns_of}
use Rattle.dslx_meaning.specs.Rules.RuleNumbers as rule
use Rattle.dslx_check_rules.specs.Seen.{seen}
use Rattle.dslx_check_rules.specs.Control.Control.{annotated_with}
use Rattle.dslx_check_rules.proofs.OnControl.OnControl.{annotation_is}
use Rattle.dslx_check_rules.proofs.control.control.loop_faults.Goals as goal

pub returns : goal.returns
returns c = λ names later l distinct p is row pair count.
    let ends : List Fault = unless_types one_bit_type rule.RANGE_OF_ONE_TYPE c.args.span l.from.judgement.ty l.to.judgement.ty in
    let annotation : List Fault = loop_annotation c.args.span l.written (index_type l) l.start.ty in
    let body : List Fault = wanted_faults c.args.parts.now.body.span l.start.ty l.body.ty in
    let limit : List Fault = turn_limit c.args.span.to (turns_of l.from.value l.to.value) in
    c.and-2.ensures (ends ++ annotation ++ body) limit (c.and-kinds.ensures (ends ++ annotation) body (c.and.ensures ends annotation
    (c.unless_one_bit_type-ends.ensures names later distinct p is.from.part.row is.to.part.row
    ∙ (λ i. seen (unless_types one_bit_type rule.RANGE_OF_ONE_TYPE c.args.span (is.from.part.ty i) (is.to.part.ty i))))
    (c.loop_annotation-annotation.ensures names later l.written distinct p is.written row ∙ ap (λ t. seen (annotated_with c.args.span l.written t)) pair
    ∙ ap seen (annotation_is c.args.span l.written (index_type l) l.start.ty)))
    (c.wanted_faults-body.ensures names later distinct p is.start.row is.body.row ∙ (λ i. seen (wanted_faults c.args.parts.now.body.span (is.start.ty i) (is.body.ty i)))))
    (c.turn_limit-limit.ensures ∙ ap (λ n. seen (turn_limit c.args.span.to n)) count)
