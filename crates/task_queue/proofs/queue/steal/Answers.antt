use Rattle.std.proofs.Common.{◌∙◌}
use Rattle.std.specs.Prelude.{option_map}
use Rattle.std.proofs.lemmas.List.{length-map}
use Rattle.task_queue.specs.Lane.Handles.{thief_knows}
use Rattle.task_queue.specs.Seats.{rights_know}
use Rattle.task_queue.proofs.OnPasses.{told_then}
use Rattle.task_queue.proofs.queue.steal.Goals as goal

pub returns-in-None-clause-stolen : goal.returns-in-None-clause-stolen
returns-in-None-clause-stolen g c =
    told_then g.T.Numbered.number_of g.T.Numbered.run_of g.T.Numbered.fact c.args.number _ (rights_know c.args.rights.now.items) (rights_know c.steal_among.new.rights.items) _ c.in-None.ensures.stolen.0
    (length-map c.args.rights.now.items (option_map thief_knows) ∙ c.requires.rights.count) c.in-None.ensures.stolen.1 c.steal_among-in-None.result c.steal_among-in-None.ensures.stolen
