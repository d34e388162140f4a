use Rattle.std.proofs.Common.{refl}
use Rattle.base.specs.Grammar.Ll1.{is_ll1}
use Rattle.ir_builder.proofs.token.rules.reader.grammar.Goals as goal

pub returns-clause-valid : goal.returns-clause-valid
unfolding is_ll1
returns-clause-valid c = refl
