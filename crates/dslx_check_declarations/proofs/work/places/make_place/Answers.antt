use Rattle.std.proofs.Common.{◌∙◌, ap, refl}
use Rattle.dslx_check_facts.specs.Known.{at_place}
use Rattle.dslx_check_declarations.proofs.OnWork.OnPlaces.{nothing_more}
use Rattle.dslx_check_declarations.proofs.work.places.make_place.Goals as goal

pub places-init : goal.places-init
places-init g c = λ n. refl

pub places-preserved : goal.places-preserved
places-preserved g c = λ n. ap (λ xs. at_place xs n) c.in_ok-push.ensures.items ∙ nothing_more c.places.places.items n ∙ c.places.invariant n
