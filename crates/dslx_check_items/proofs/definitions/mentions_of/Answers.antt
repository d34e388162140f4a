use Rattle.std.proofs.Common.{ap, ◌∙◌}
use Rattle.dslx_check_items.specs.Inner.Walks.{MentionWalk}
use Rattle.dslx_check_items.specs.Inner.Definitions.{definition_walk}
use Rattle.dslx_check_items.proofs.OnMentions.Items.{item_found}
use Rattle.dslx_check_items.proofs.definitions.mentions_of.Goals as goal

pub returns : goal.returns
returns c =
    ap (λ (w : MentionWalk). w.found) (c.in_ok-mention_definition.ensures ∙ ap (definition_walk c.args.definition.now) c.new-w.ensures) ∙ item_found c.args.definition.now
