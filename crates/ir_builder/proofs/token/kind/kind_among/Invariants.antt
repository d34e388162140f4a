use Rattle.std.proofs.Common.{◌≡◌, drop, map}
use Rattle.dslx_token.specs.Spelling.{kind_among}
use Rattle.ir_builder.specs.Token.Inner.Entries.{entry_of}
use Rattle.ir_builder.proofs.token.kind.kind_among.Given as goal

abbrev pub invariant-loop-spelled : goal.invariant-loop-spelled
invariant-loop-spelled l =
    kind_among (map entry_of (drop l.spelled-index l.spellings)) l.bytes l.other ≡ kind_among (map entry_of l.spellings) l.bytes l.other
