use Rattle.xls_cmd.proofs.generate.fitting.takes_its_words.Goals as goal

pub returns-then-has_ends : goal.returns-then-has_ends
returns-then-has_ends c = λ h. let ends = c.has_ends.ensures c.if-has_ends.true in record { inputs = c.are_inputs.ensures h; a = ends.0; b = ends.1 }
