use Rattle.std.proofs.Common.{◌≡◌, ◌++◌, drop, map}
use Rattle.dslx_meaning.specs.Rules.CallRules.{all_listed, inferable_in}
use Rattle.dslx_check_uses.specs.Inferring.{name_lent}
use Rattle.dslx_check_uses.proofs.inference.+maybe.Given as goal

abbrev pub invariant-all_maybe-parts : goal.invariant-all_maybe-parts
invariant-all_maybe-parts l =
    map name_lent l.found.items ++ all_listed (map inferable_in (drop l.part-index l.parts)) ≡ map name_lent l.initial.found.items ++ all_listed (map inferable_in l.parts)
