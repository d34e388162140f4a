use Rattle.std.proofs.Common.{[], subst, sym}
use Rattle.std.specs.Prelude.{MatchOption}
use Rattle.dslx_elab.specs.Orders.{EndsWithTop, IsSpawnOrder}
use Rattle.dslx.proofs.tree.counted_size.Goals as goal

pub returns : goal.returns
returns c = λ name h.
    let m = c.args.tree.now in
    let p = c.args.top.now in
    let ordered = subst (λ (o : _). MatchOption o ⊥ (λ order. IsSpawnOrder m name [] order.items × EndsWithTop m p order.items)) c.in-Some.is (c.in_ok-order.ensures name h.none h.proc) in
    c.in_ok-size.ensures name h.none h.proc (subst (IsSpawnOrder m name []) (sym c.as_slice.ensures.value) ordered.0) (subst (EndsWithTop m p) (sym c.as_slice.ensures.value) ordered.1)
