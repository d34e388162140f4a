use Rattle.std.proofs.Common.{refl}
use Rattle.dslx_token.specs.Rules.Dslx.{dslx}
use Rattle.dslx_token.specs.Rules.Rules.{named_rules}
use Rattle.dslx_parser.specs.Syntax.Trees.{semantic_actions}
use Rattle.dslx_parser.specs.Syntax.Atoms as atoms
use Rattle.dslx_parser.specs.Syntax.Blocks as blocks
use Rattle.dslx_parser.specs.Syntax.Items as items
use Rattle.dslx_parser.specs.Syntax.Operators as operators
use Rattle.dslx_parser.specs.Syntax.Procs as procs
use Rattle.dslx_parser.specs.Syntax.Statements as statements
use Rattle.dslx_parser.specs.Syntax.Types as types
use Rattle.dslx_parser.proofs.syntax.all_rules_make.Goals as goal

pub returns : goal.returns
unfolding dslx named_rules semantic_actions atoms.rules blocks.rules items.rules operators.rules procs.rules statements.rules types.rules
returns c = refl
