use Rattle.std.proofs.Common.{◌≡◌, drop, map}
use Rattle.dslx_token.specs.Inner.TokenPrefixes.{spelling_of}
use Rattle.dslx_token.specs.Spelling.{kind_among}
use Rattle.dslx_token.proofs.spelling.kind_among.Given as goal

abbrev pub invariant-loop-spelled : goal.invariant-loop-spelled
invariant-loop-spelled l =
    kind_among (map spelling_of (drop l.spelled-index l.spellings)) l.bytes l.other ≡ kind_among (map spelling_of l.spellings) l.bytes l.other
