use Rattle.proc_task.proofs.Rights.{in_line, none_received, some_received}
use Rattle.proc_task.proofs.port.Inlet.receive.Goals as goal

pub line-requires : goal.line-requires
line-requires g c = in_line _ _ c.args.self.now c.in-Some.pass c.in-Some.is c.requires.inlet

pub returns-in-None-clause-taken : goal.returns-in-None-clause-taken
returns-in-None-clause-taken g c = none_received _ _ c.args.self.now c.in-None.is c.requires.inlet c.requires.word c.input_word.result c.input_word.ensures

pub returns-in-Some-clause-taken : goal.returns-in-Some-clause-taken
returns-in-Some-clause-taken g c =
    some_received _ _ c.args.self.now c.in-Some.pass c.recv.new.receiver c.line.result.now c.in-Some.is c.requires.inlet c.line.ensures c.recv.ensures.pass c.recv.result c.recv.ensures.word
