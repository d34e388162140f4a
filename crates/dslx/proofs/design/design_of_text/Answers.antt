use Rattle.std.specs.Option.{option_copied}
use Rattle.dslx.proofs.OnSlashes.{ends_alone_of_top}
use Rattle.dslx.proofs.OnTexts.{design_given, refused_unread, tree_refused}
use Rattle.dslx.proofs.design.design_of_text.Goals as goal

pub design_of_tree-requires : goal.design_of_tree-requires
design_of_tree-requires c = ends_alone_of_top c.in-Ok.parsed.module (option_copied c.args.top) (c.ends_are_words.ensures c.args.text.now c.in-Ok.parsed.module c.in-Ok.ensures.reads)

pub returns-in-Ok-clause-accepted : goal.returns-in-Ok-clause-accepted
returns-in-Ok-clause-accepted c =
    design_given c.args.text.now (option_copied c.args.top) c.in-Ok.parsed.module c.design_of_tree.result c.in-Ok.ensures.reads c.design_of_tree.ensures.accepted c.design_of_tree.ensures.made

pub returns-in-Ok-clause-refused : goal.returns-in-Ok-clause-refused
returns-in-Ok-clause-refused c = tree_refused c.args.text.now (option_copied c.args.top) c.in-Ok.parsed.module c.design_of_tree.result c.in-Ok.ensures.reads c.design_of_tree.ensures.refused

pub returns-in-Err-clause-refused : goal.returns-in-Err-clause-refused
returns-in-Err-clause-refused c = refused_unread c.args.text.now (option_copied c.args.top) c.in-Err.error c.in-Err.ensures.refused
