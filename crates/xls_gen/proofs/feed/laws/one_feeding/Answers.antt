use Rattle.xls_gen.proofs.OnFeed.Rows.{one_feeding}
use Rattle.xls_gen.proofs.feed.laws.one_feeding.Goals as goal

pub returns : goal.returns
returns c = one_feeding
