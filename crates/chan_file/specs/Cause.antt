-- The words that messages name causes by.
use Rattle.std.specs.Prelude.{ℕ, List, codes}
use Rattle.chan_file.specs.declared.refusal.Cause.{Cause}
use Rattle.chan_file.specs.declared.refusal.Cause.TheVariants.{Syntax, Name, Twice, Kind}

abbrev pub word_of : Cause → List ℕ
word_of Syntax = codes "syntax"
word_of Name = codes "name"
word_of Twice = codes "twice"
word_of Kind = codes "type"
