use Rattle.std.proofs.Common.{◌∙◌, ◌==◌, not, sym, ap}
use Rattle.dslx_check_rules.proofs.Lemmas.Seen.{not-not}
use Rattle.dslx_check_declarations.specs.Doubles.{has_word}
use Rattle.dslx_check_declarations.proofs.OnDoubles.{cond_or}
use Rattle.dslx_check_declarations.proofs.doubles.note_word.Goals as goal

pub returns : goal.returns
returns c = record {
  has = λ n. c.in_ok-is_new.ensures.updates.0 n ∙ cond_or (c.args.word == n) (has_word c.args.words.now n);
  is = ap not c.in_ok-is_new.ensures.added ∙ sym (not-not (has_word c.args.words.now c.args.word));
}
