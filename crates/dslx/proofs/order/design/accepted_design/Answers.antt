use Rattle.std.proofs.Common.{◌≡◌, ℕ, List, [], Option, Some, sym, subst}
use Rattle.std.specs.Prelude.{MatchOption}
use Rattle.dslx_core.specs.Lowering.Functions.{Instantiated}
use Rattle.dslx_elab.specs.Assembling.{Assembles}
use Rattle.dslx_elab.specs.Orders.{EndsWithTop, IsSpawnOrder}
use Rattle.dslx.proofs.order.design.accepted_design.Goals as goal

pub returns : goal.returns
returns c = λ name accepted is.
    let m = c.args.text.now in
    let p = c.args.top.now in
    let faults = c.networks_keep_the_limits.ensures.accepted m name accepted.none in
    let few = c.accepted_instances_are_in_a_table.ensures.few m name faults in
    let ordered = subst (λ (o : _). MatchOption o ⊥ (λ order. IsSpawnOrder m name [] order.items × EndsWithTop m p order.items)) c.in-Some.is (c.in_ok-order.ensures name faults is) in
    let assembles = subst (Assembles m p 4096 c.as_slice.result.now) c.in-Some-2.is c.in_ok-design.ensures in
    c.ordered_instances_are_of_accepted.ensures.made m name p 4096 c.as_slice.result.now c.in-Some-2.design accepted is few (subst (IsSpawnOrder m name []) (sym c.as_slice.ensures.value) ordered.0) assembles
