use Rattle.vlog_text.proofs.OnRoundTrip.Round.{round}
use Rattle.vlog_text.proofs.round_trip.printed_modules_read_back.Goals as goal

pub returns : goal.returns
returns c = round c.verified_modules_can_run.ensures
