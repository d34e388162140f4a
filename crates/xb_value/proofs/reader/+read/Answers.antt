use Rattle.std.proofs.Common.{◌+◌, ◌-◌, ap, sym, ◌∙◌}
use Rattle.xb_value.specs.Inner.Reading.{read_as, read_times}
use Rattle.xb_value.proofs.Readers.{before, times_more}
use Rattle.xb_value.proofs.reader.+read.Goals as goal

pub take_times-turns-preserved : goal.take_times-turns-preserved
take_times-turns-preserved t c =
    let r = read_as c.args.part.now in
    let rest = c.in_ok-taken.taken.rest.now in
    times_more c.args.count c.turns.counter r c.turns.values c.in_ok-taken.taken.value c.turns.rest.now rest (read_times c.args.count r c.args.tokens.now)
    c.turns-test.true c.turns.invariant c.in_ok-taken.ensures
    ∙ ap (λ vs. before vs (read_times (c.args.count - (c.turns.counter + 1)) r rest)) (sym c.in_ok-push.ensures.ok)
