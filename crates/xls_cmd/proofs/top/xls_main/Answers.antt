use Rattle.xls_cmd.proofs.top.xls_main.Goals as goal

pub returns-in-None-clause-answered : goal.returns-in-None-clause-answered
returns-in-None-clause-answered g c =
    rw (c.in-None.ensures.answered.files, c.in-None.ensures.answered.out, c.in-None.ensures.answered.err) at c.answer.ensures.answered

pub returns-in-None-clause-complete : goal.returns-in-None-clause-complete
returns-in-None-clause-complete g c =
    rw (c.in-None.ensures.answered.files, c.in-None.ensures.answered.out) at c.answer.ensures.complete
