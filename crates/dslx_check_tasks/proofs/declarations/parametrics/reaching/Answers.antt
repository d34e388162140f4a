use Rattle.std.proofs.Common.{◌∙◌, ◌++◌, ap}
use Rattle.dslx_check_tasks.proofs.declarations.parametrics.reaching.Goals as goal

pub returns : goal.returns
returns c = (c.there-seen.ensures.0, c.there-seen.ensures.1, c.in_ok-extend_from_slice.ensures.items ∙ ap (λ l. l ++ c.as_slice.result.now) c.there-seen.ensures.2 ∙ c.as_slice.ensures.value)
