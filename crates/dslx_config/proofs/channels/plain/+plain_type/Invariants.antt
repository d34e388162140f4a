use Rattle.std.proofs.Common.{◌≡◌, ◌++◌, drop, map}
use Rattle.dslx_meaning.specs.Types.{plain_type}
use Rattle.dslx_config.proofs.channels.plain.+plain_type.Given as goal

abbrev pub invariant-plain_types-types : goal.invariant-plain_types-types
invariant-plain_types-types l = l.plain.items ++ map plain_type (drop l.ty-index l.types) ≡ map plain_type l.types
