use Rattle.std.proofs.Common.{◌∙◌, List, None, sym}
use Rattle.dslx_core.specs.Lowering.Functions.{CoreInstance}
use Rattle.dslx_core.specs.Lowering.Steps.{member_in}
use Rattle.dslx_next.specs.Opening.Opened.{receiving}
use Rattle.dslx_next.specs.Opening.Works.{outer_at}
use Rattle.dslx_next.proofs.OnOpening.Sequels.{without_member}
use Rattle.dslx_next.proofs.opening.open.open_receive.Goals as goal

pub returns : goal.returns
returns c =
    without_member c.args.known c.args.work (λ (t : List CoreInstance). member_in (outer_at c.args.known c.args.work t) c.args.known.ends.now c.args.name.now) (λ m t. receiving m None)
    (λ t. sym c.in-None.is ∙ c.in_ok-member.ensures t)
