use Rattle.std.proofs.lemmas.Result.{IfOk-weaker}
use Rattle.dslx_check_declarations.proofs.OnDoubles.{no_value, one_value}
use Rattle.dslx_check_declarations.proofs.doubles.note_value.Goals as goal

pub returns-in-None : goal.returns-in-None
returns-in-None c = no_value c.args.kind c.args.words.now c.args.value.now c.in-None.is

pub returns-in_ok-word-in-Some : goal.returns-in_ok-word-in-Some
returns-in_ok-word-in-Some c = IfOk-weaker c.note_word.result _ _ (λ is_double h. one_value c.args.kind c.in_ok-word-in-Some.word c.args.value.now _ c.in-Some.is c.in_ok-word-in-Some.ensures h) c.note_word.ensures
