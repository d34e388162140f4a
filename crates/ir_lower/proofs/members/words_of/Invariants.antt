use Rattle.std.proofs.Common.{◌≡◌, take, map, Some}
use Rattle.ir_lower.specs.Deep.{word_type}
use Rattle.ir_lower.proofs.members.words_of.Given as goal

abbrev pub invariant-members : goal.invariant-members
invariant-members l = map (word_type l.chans) (take l.member-index l.members) ≡ map Some l.words.items
