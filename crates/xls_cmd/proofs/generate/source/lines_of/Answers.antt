use Rattle.xls_cmd.proofs.generate.source.lines_of.Goals as goal

pub returns : goal.returns
returns g c = record { dslx = c.in_ok-told.ensures.line; threads = c.in_ok-threads.ensures }
