use Rattle.chan_file.proofs.Values.{VALUES_at}
use Rattle.chan_file.proofs.number.value_at.Goals as goal

pub returns : goal.returns
returns c = VALUES_at c.args.byte c.ranges.byte.fits
