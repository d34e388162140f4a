use Rattle.proc_task.proofs.Rights.{out_line, none_sent, some_sent}
use Rattle.proc_task.proofs.port.Outlet.send.Goals as goal

pub line-requires : goal.line-requires
line-requires g c = out_line _ _ c.args.self.now c.in-Some.pass c.in-Some.is c.requires.outlet

pub returns-in-None-clause-sent : goal.returns-in-None-clause-sent
returns-in-None-clause-sent g c = none_sent _ _ c.args.self.now c.args.word c.in-None.is c.requires.outlet

pub returns-in-Some-clause-sent : goal.returns-in-Some-clause-sent
returns-in-Some-clause-sent g c =
    some_sent _ _ c.args.self.now c.in-Some.pass c.send.new.sender c.line.result.now c.args.word c.in-Some.is c.requires.outlet c.requires.word c.line.ensures c.send.ensures.pass
    c.send.result c.is_ok.result c.is_ok.ensures.value c.send.ensures.word
