use Rattle.std.proofs.Common.{List, subst}
use Rattle.proc_task.specs.Ports.{NoOutletOn}
use Rattle.proc_task.proofs.Counts.{outlet_there}
use Rattle.proc_task.proofs.task.Task.words_on.Goals as goal

pub returns-in-None : goal.returns-in-None
returns-in-None g c proc proc_is on =
    let none = subst (λ (xs : List _). NoOutletOn xs c.args.chan) c.as_slice.ensures.value c.in-None.ensures in
    absurd (outlet_there _ _ c.args.self.now c.requires proc proc_is c.args.chan none on)
