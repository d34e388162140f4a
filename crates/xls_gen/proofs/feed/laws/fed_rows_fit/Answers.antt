use Rattle.xls_gen.proofs.OnFeed.Rows.{rows_among, rows_fit, rows_reset}
use Rattle.xls_gen.proofs.feed.laws.fed_rows_fit.Goals as goal

pub returns-clause-rows : goal.returns-clause-rows
returns-clause-rows c = rows_fit

pub returns-clause-words : goal.returns-clause-words
returns-clause-words c = rows_among

pub returns-clause-resets : goal.returns-clause-resets
returns-clause-resets c = rows_reset
