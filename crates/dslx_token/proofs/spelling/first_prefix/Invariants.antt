use Rattle.std.proofs.Common.{◌≡◌, drop, map}
use Rattle.dslx_token.specs.Inner.TokenPrefixes.{first_prefix, spelling_of}
use Rattle.dslx_token.proofs.spelling.first_prefix.Given as goal

abbrev pub invariant-loop-spelled : goal.invariant-loop-spelled
invariant-loop-spelled l =
    first_prefix (map spelling_of (drop l.spelled-index l.spellings)) l.text ≡ first_prefix (map spelling_of l.spellings) l.text
