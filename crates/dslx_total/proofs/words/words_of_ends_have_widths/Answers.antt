use Rattle.dslx_total.proofs.OnWords.Ends.{each_has_words, words_are_values}
use Rattle.dslx_total.proofs.words.words_of_ends_have_widths.Goals as goal

pub returns-clause-widths : goal.returns-clause-widths
returns-clause-widths c = each_has_words c.lower_total_expression.ensures.wide

pub returns-clause-values : goal.returns-clause-values
returns-clause-values c = words_are_values c.lower_total_expression.ensures.wide
