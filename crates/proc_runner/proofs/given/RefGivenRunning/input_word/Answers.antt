use Rattle.std.proofs.Common.{sym}
use Rattle.proc_runner.proofs.Runs.{no_word}
use Rattle.proc_runner.proofs.given.RefGivenRunning.input_word.Goals as goal

pub returns-in-None : goal.returns-in-None
returns-in-None g c = no_word c.args.self.now.now.inputs.now.words c.args.chan c.args.place (sym c.in-None.ensures.value)
