use Rattle.std.proofs.Common.{◌≡◌, map, take}
use Rattle.pass_fold.specs.Constants.{constant_of}
use Rattle.pass_fold.proofs.constant.+constant_of.Given as goal

abbrev pub invariant-constants_of-parts : goal.invariant-constants_of-parts
invariant-constants_of-parts l = l.constants.items ≡ map constant_of (take l.part-index l.parts)
