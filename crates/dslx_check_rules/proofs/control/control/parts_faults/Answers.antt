use Rattle.std.proofs.Common.{◌++◌, List}
use Rattle.xb_span.specs.declared.fault.Fault.{Fault}
use Rattle.dslx_check_rules.proofs.control.control.parts_faults.Goals as goal

pub returns : goal.returns
returns c = λ names rows later l is.
    let ends : List Fault = l.from.judgement.faults ++ l.to.judgement.faults in
    let start : List Fault = ends ++ l.start.faults in
    let index : List Fault = start ++ l.index.faults in
    c.and.ensures (index ++ l.acc.faults) l.body.faults (c.and-patterns.ensures index l.acc.faults (c.and-index.ensures start l.index.faults (c.and-start.ensures ends l.start.faults
    (c.and-ends.ensures l.from.judgement.faults l.to.judgement.faults is.from.part.faults is.to.part.faults) is.start.faults) is.index.faults) is.acc.faults) is.body.faults
