use Rattle.vlog_text.specs.Reader.Given.{sound}
use Rattle.vlog_text.proofs.OnReader.OneModule.{refused_checking}
use Rattle.vlog_text.proofs.reader.read.judged.Goals as goal

pub returns-in-Ok-clause-gives : goal.returns-in-Ok-clause-gives
returns-in-Ok-clause-gives c = sound c.requires.0 c.args.parsed c.requires.1 c.requires.2 (c.in-Ok.ensures.ok)

pub returns-in-Err-clause-refused : goal.returns-in-Err-clause-refused
returns-in-Err-clause-refused c = refused_checking c.args.text.now c.requires.0 c.args.parsed c.in-Err.error c.requires.1 c.requires.2 c.in-Err.ensures.refused
