use Rattle.std.specs.Option.{option_copied}
use Rattle.dslx.proofs.OnTexts.{refused_unread, size_given, tree_refused}
use Rattle.dslx.proofs.text.check_text.Goals as goal

pub returns-in-Ok-clause-accepted : goal.returns-in-Ok-clause-accepted
returns-in-Ok-clause-accepted c =
    size_given c.args.text.now (option_copied c.args.top) c.in-Ok.parsed.module c.size_of_tree.result c.in-Ok.ensures.reads c.size_of_tree.ensures.none c.size_of_tree.ensures.size

pub returns-in-Ok-clause-refused : goal.returns-in-Ok-clause-refused
returns-in-Ok-clause-refused c = tree_refused c.args.text.now (option_copied c.args.top) c.in-Ok.parsed.module c.size_of_tree.result c.in-Ok.ensures.reads c.size_of_tree.ensures.refused

pub returns-in-Err-clause-refused : goal.returns-in-Err-clause-refused
returns-in-Err-clause-refused c = refused_unread c.args.text.now (option_copied c.args.top) c.in-Err.error c.in-Err.ensures.refused
