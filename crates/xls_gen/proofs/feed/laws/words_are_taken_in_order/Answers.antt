use Rattle.xls_gen.proofs.OnFeed.Order.{taken_in_order}
use Rattle.xls_gen.proofs.feed.laws.words_are_taken_in_order.Goals as goal

pub returns : goal.returns
returns c = taken_in_order
