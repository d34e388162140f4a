use Rattle.xls_gen.proofs.OnEvents.Telling.{told}
use Rattle.xls_gen.proofs.events.laws.outcomes_count_events.Goals as goal

pub returns : goal.returns
returns c = told
