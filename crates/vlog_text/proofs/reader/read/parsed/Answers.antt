use Rattle.vlog_text.specs.Parser.Reads.{whole}
use Rattle.vlog_text.proofs.OnReader.OneModule.{ended, refused_parsing}
use Rattle.vlog_text.proofs.reader.read.parsed.Goals as goal

pub parse-requires : goal.parse-requires
parse-requires c = ended c.args.text.now c.args.text.now c.args.tokens.now c.requires

pub judged-requires : goal.judged-requires
judged-requires c = (c.args.tokens.now, c.requires, whole c.in-Ok.parsed c.in-Ok.ensures.reads)

pub returns-in-Err-clause-refused : goal.returns-in-Err-clause-refused
returns-in-Err-clause-refused c = refused_parsing c.args.text.now c.args.tokens.now c.in-Err.error c.requires c.in-Err.ensures.refused
