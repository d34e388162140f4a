use Rattle.std.proofs.Common.{Bool, None, if◌then◌else◌, sym, ap, ◌∙◌}
use Rattle.dslx_meaning.specs.Rules.Mentions.{is_of_use}
use Rattle.dslx_check_items.specs.Items.{item_number}
use Rattle.dslx_check_items.specs.Shown.{use_shown}
use Rattle.dslx_check_items.proofs.OnReaching.Reached.{none_of_use}
use Rattle.dslx_check_items.proofs.reaching.target_of.Goals as goal

pub returns-in-None : goal.returns-in-None
returns-in-None c =
    sym (ap (λ (b : Bool). if b then item_number c.args.mention.now.name.now c.args.items.now.text.now.items else None)
    (ap (is_of_use (use_shown c.args.mention.now.use_as)) (sym c.in-None.ensures) ∙ none_of_use (use_shown c.args.mention.now.use_as)))
