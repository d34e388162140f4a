use denote.Shadow.{shadow}
use denote.Text.{Utf8}
use Rattle.dslx_tests.proofs.parser.answers.first_odd.Given as goal

abbrev pub invariant-loop-line : goal.invariant-loop-line
invariant-loop-line l = shadow (Utf8 l.text)
