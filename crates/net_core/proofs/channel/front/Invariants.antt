use Rattle.std.proofs.Common.{◌≡◌, take, length}
use Rattle.net_core.proofs.channel.front.Given as goal

abbrev pub invariant-loop-words : goal.invariant-loop-words
invariant-loop-words l = take l.count l.words ≡ take l.count l.fn.words

abbrev pub decreases-loop-words : goal.decreases-loop-words
decreases-loop-words l = length l.words
