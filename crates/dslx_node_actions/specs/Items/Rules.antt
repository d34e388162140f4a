-- What the rules of statements, blocks, items and procs do where their symbols are complete.
use Rattle.dslx_actions.specs.declared.parts.SemanticStacks.{SemanticStacks}
use Rattle.dslx_node_actions.specs.declared.items.rule.ItemAction.{ItemAction}
use Rattle.dslx_node_actions.specs.declared.items.rule.ItemAction.TheVariants as item
use Rattle.dslx_node_actions.specs.declared.items.rule.ProcAction.{ProcAction}
use Rattle.dslx_node_actions.specs.declared.items.rule.ProcAction.TheVariants as part
use Rattle.dslx_node_actions.specs.Items.Blocks as blocks
use Rattle.dslx_node_actions.specs.Items.Declarations as items
use Rattle.dslx_node_actions.specs.Items.Procs as procs

abbrev pub reduced_item : ItemAction → SemanticStacks → SemanticStacks
reduced_item item.Let s = blocks.let_stmt s
reduced_item item.Bare s = blocks.bare_stmt s
reduced_item item.LastValue s = blocks.last_value s
reduced_item item.Block s = blocks.block s
reduced_item item.Parametric s = items.parametric s
reduced_item item.Field s = items.field s
reduced_item item.Member s = items.member s
reduced_item item.Function s = items.function s
reduced_item item.Constant s = items.constant s
reduced_item item.Alias s = items.alias s
reduced_item item.Struct s = items.structure s
reduced_item item.Enum s = items.enumeration s
reduced_item item.Private s = items.private_item s
reduced_item item.Public s = items.public_item s

abbrev pub reduced_proc : ProcAction → SemanticStacks → SemanticStacks
reduced_proc (part.Direction way) s = procs.direction way s
reduced_proc (part.End count) s = procs.end_named count s
reduced_proc part.Depth s = procs.depth s
reduced_proc part.NoDepth s = procs.no_depth s
reduced_proc part.Channel s = procs.channel s
reduced_proc part.Spawn s = procs.spawn s
reduced_proc part.Config s = procs.config s
reduced_proc part.Next s = procs.next s
reduced_proc part.Proc s = procs.proc s
