use Rattle.xls_cmd.proofs.schedule.scheduling.refusal.Goals as goal

pub line-requires-clause-found : goal.line-requires-clause-found
line-requires-clause-found c = c.in_default.not-OutOfMemory
