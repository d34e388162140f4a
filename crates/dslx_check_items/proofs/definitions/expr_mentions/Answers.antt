use Rattle.std.proofs.Common.{ap, ◌∙◌}
use Rattle.dslx_meaning.specs.Rules.Mentions.{mentioned}
use Rattle.dslx_check_items.specs.Inner.Walks.{MentionWalk, mentioning}
use Rattle.dslx_check_items.proofs.OnMentions.Items.{expr_found}
use Rattle.dslx_check_items.proofs.definitions.expr_mentions.Goals as goal

pub returns : goal.returns
returns c =
    ap (λ (w : MentionWalk). w.found) (c.in_ok-mention_expr.ensures ∙ ap (mentioning (mentioned c.args.expr.now)) c.new-w.ensures) ∙ expr_found c.args.expr.now
