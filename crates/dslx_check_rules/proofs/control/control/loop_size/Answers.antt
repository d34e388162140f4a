use Rattle.std.proofs.Common.{◌+◌, Some, ap}
use Rattle.dslx_meaning.specs.Rules.TypeEnvs.{plus_size}
use Rattle.dslx_meaning.specs.Rules.ControlRules.{turns_of, turns_size}
use Rattle.dslx_check_rules.specs.Seen.{capped}
use Rattle.dslx_check_rules.proofs.control.control.loop_size.Goals as goal

pub returns : goal.returns
returns c = λ names rows later l is count.
    c.one_and.ensures (plus_size (plus_size l.from.judgement.size l.to.judgement.size) (plus_size l.start.size (turns_size l)))
    (c.plus_size.ensures (plus_size l.from.judgement.size l.to.judgement.size) (plus_size l.start.size (turns_size l))
    (c.plus_size-ends.ensures l.from.judgement.size l.to.judgement.size is.from.part.size is.to.part.size)
    (c.plus_size-inner.ensures l.start.size (turns_size l) is.start.size
    (c.times_size-turns.ensures (turns_of l.from.value l.to.value) (plus_size (Some (1 + l.index.size + l.acc.size)) l.body.size) (ap capped count)
    (c.plus_size-turn.ensures (Some (1 + l.index.size + l.acc.size)) l.body.size
    (c.plus_size-patterns.ensures (Some (1 + l.index.size)) (Some l.acc.size) (c.one_and-index.ensures (Some l.index.size) is.index.size) is.acc.size) is.body.size))))
