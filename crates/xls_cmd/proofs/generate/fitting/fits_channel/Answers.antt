use Rattle.std.proofs.Common.{sym, ◌∙◌}
use Rattle.xls_cmd.proofs.OnGen.Fitting.{input_fits, none_fits}
use Rattle.xls_cmd.proofs.generate.fitting.fits_channel.Goals as goal

pub returns-in-Input : goal.returns-in-Input
returns-in-Input c = λ h. input_fits c.args.chan.now c.args.words.now c.in-Input.is (c.are_words_of.ensures h)

pub returns-in-Output : goal.returns-in-Output
returns-in-Output c = λ h. none_fits c.args.chan.now c.args.words.now (sym c.is_empty.ensures ∙ h)

pub returns-in-Inner : goal.returns-in-Inner
returns-in-Inner c = λ h. none_fits c.args.chan.now c.args.words.now (sym c.is_empty-in-Inner.ensures ∙ h)
