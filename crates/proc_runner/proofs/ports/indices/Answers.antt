use Rattle.std.proofs.Common.{◌≡◌, ◌+◌, ◌∷◌, [], ℕ, List, length, get_or, sym, subst, arith, false}
use Rattle.std.proofs.lemmas.List.{length-append}
use Rattle.std.proofs.lemmas.Option.{slice_get-get_or, slice_get_within}
use Rattle.proc_runner.proofs.Ends.{HaveOutlets, HaveInlets, outlets_placed, inlets_placed}
use Rattle.proc_runner.proofs.ports.indices.Goals as goal

pub loop-site-preserved : goal.loop-site-preserved
loop-site-preserved g c =
    let k = c.loop-site.site-index in
    let indices = c.loop-site.indices.items in
    let place = c.index_of.result in
    let site = get_or c.args.sites.now k (record { chan = 0; sends = false }) in
    let is = c.loop-site.invariant in
    let at = slice_get-get_or c.args.sites.now k (record { chan = 0; sends = false }) c.loop-site-test.true in
    subst (λ (xs : List ℕ). (length xs ≡ k + 1) × HaveOutlets c.args.sites.now c.args.outlets.now c.args.inlets.now xs (k + 1) × HaveInlets c.args.sites.now c.args.outlets.now c.args.inlets.now xs (k + 1))
    (sym c.in_ok-push.ensures.items) (
      omega (arith, length-append indices (place ∷ []), is.0),
      outlets_placed c.args.sites.now c.args.outlets.now c.args.inlets.now indices k site place is.0 at c.index_of.ensures is.1,
      inlets_placed c.args.sites.now c.args.outlets.now c.args.inlets.now indices k site place is.0 at c.index_of.ensures is.2,
    )

pub returns : goal.returns
returns g c =
    let all : c.loop-site.site-index ≡ length c.args.sites.now = omega arith in
    record {
      senders = λ i site e s. c.loop-site.invariant.1 i site (omega (arith, all, slice_get_within c.args.sites.now i site e)) e s;
      receivers = λ i site e s. c.loop-site.invariant.2 i site (omega (arith, all, slice_get_within c.args.sites.now i site e)) e s;
    }
