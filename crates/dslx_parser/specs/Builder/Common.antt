-- What rules of several sorts do where their symbols are complete.
use Rattle.dslx_actions.specs.declared.parts.SemanticStacks.{SemanticStacks}
use Rattle.dslx_parser.specs.declared.builder.rule.CommonAction.{CommonAction}
use Rattle.dslx_parser.specs.declared.builder.rule.CommonAction.TheVariants.{Skip, LastMark, Start, More, SkipMore, NothingMore, Annotation, NoAnnotation, Given, LeftOut}
use Rattle.dslx_actions.specs.Common as common

abbrev pub reduced_common : CommonAction → SemanticStacks → SemanticStacks
reduced_common (Skip count) s = common.skip count s
reduced_common (LastMark count) s = common.last_mark count s
reduced_common Start s = common.start s
reduced_common More s = common.more s
reduced_common (SkipMore count) s = common.more (common.skip count s)
reduced_common NothingMore s = common.nothing_more s
reduced_common Annotation s = common.annotation s
reduced_common NoAnnotation s = common.no_annotation s
reduced_common (Given count) s = common.given count s
reduced_common LeftOut s = common.left_out s
