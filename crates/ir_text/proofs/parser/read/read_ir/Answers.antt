use Rattle.ir_text.proofs.OnParser.OnePackage.{whole_answer}
use Rattle.ir_text.proofs.parser.read.read_ir.Goals as goal

pub returns-clause-only : goal.returns-clause-only
returns-clause-only c = whole_answer c.one_package.ensures c.args.text.now c.read.result c.read.ensures.gives c.read.ensures.refused
