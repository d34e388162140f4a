-- The outlet and the inlet of a channel, and what they count.
use Rattle.std.proofs.Common.{◌≡◌, ◌≢◌, ℕ, ◌+◌, ◌<◌, List, Some, sym, ap, ◌∙◌, subst, arith, true, false, eqb, inl, inr}
use Rattle.std.specs.Prelude.{slice_get, Option, ◌⊎◌}
use Rattle.std.proofs.lemmas.Bool.{cases_eq}
use Rattle.std.proofs.lemmas.Bool.Decides.{nat_tests}
use Rattle.chan_queue.specs.declared.queue.ChanQueue.{ChanQueue}
use Rattle.net_core.specs.declared.net.Site.{Site}
use Rattle.net_core.specs.Cuts.{Proc, Run}
use Rattle.chan_queue.specs.Streams.Moves.{sent_first, received_first}
use Rattle.proc_task.specs.declared.port.Outlet.{Outlet}
use Rattle.proc_task.specs.declared.port.Inlet.{Inlet}
use Rattle.proc_task.specs.declared.task.Task.{Task}
use Rattle.proc_task.specs.Ports.{IsOutletOn, NoOutletOn, IsInletOn, NoInletOn}
use Rattle.proc_task.specs.Moving.{IsTask, HasSiteOn}

-- one element more was looked at, and isn't of the channel
pub none_more : {A : Type 0} (chan : A → ℕ) (xs : List A) (c i : ℕ) (x : A) → ((k : ℕ) (y : A) → k < i → slice_get xs k ≡ Some y → chan y ≢ c)
    → slice_get xs i ≡ Some x → eqb (chan x) c ≡ false → (k : ℕ) (y : A) → k < i + 1 → slice_get xs k ≡ Some y → chan y ≢ c
none_more chan xs c i x none at not k y l e = go (cases_eq k i)
  where
    other : chan x ≢ c
    other same = let h : eqb (chan x) c ≡ true = grind (arith, nat_tests) in let wrong = sym h ∙ not in cc

    go : (k ≡ i) ⊎ (k ≡ i → ⊥) → chan y ≢ c
    go (inl same) = let a = ap (λ j. slice_get xs j) same in let h : x ≡ y = cc in subst (λ z. chan z ≢ c) h other
    go (inr apart) = none k y (omega (arith, l, apart)) e

module _ {S H : Type 0} (run : Run) (lines : List (Option (ChanQueue S))) (t : Task S H) (is : IsTask run lines t) (proc : Proc) (proc_is : slice_get run.procs t.number ≡ Some proc) (chan : ℕ) where
  same : is.proc ≡ proc
  same = let a = is.standing.proc_is in cc

  sites : (i : ℕ) (site : Site) → slice_get proc.behavior.sites i ≡ Some site → slice_get t.sites.items i ≡ Some site
  sites i site e = ap (λ ss. slice_get ss i) (is.sites ∙ ap (λ (q : Proc). q.behavior.sites) same) ∙ e

  pub words_are : (outlet : Outlet S) → IsOutletOn t.outlets.items chan outlet → outlet.words.items ≡ sent_first run t.number proc t.count chan
  words_are outlet on =
      is.words on.0 outlet on.1
      ∙ (ap (λ (q : Proc). sent_first run t.number q t.count outlet.chan) same ∙ ap (λ c. sent_first run t.number proc t.count c) on.2)

  pub outlet_there : NoOutletOn t.outlets.items chan → HasSiteOn proc chan true → ⊥
  outlet_there none on =
      let has = is.ports.senders on.0 on.1 (sites on.0 on.1 on.2) on.3 in
      none has.place has.outlet has.outlet_is (has.chan_is ∙ on.4)

  pub received_is : (inlet : Inlet S) → IsInletOn t.inlets.items chan inlet → inlet.received ≡ received_first run t.number proc t.count chan
  received_is inlet on =
      is.received on.0 inlet on.1
      ∙ (ap (λ (q : Proc). received_first run t.number q t.count inlet.chan) same ∙ ap (λ c. received_first run t.number proc t.count c) on.2)

  pub inlet_there : NoInletOn t.inlets.items chan → HasSiteOn proc chan false → ⊥
  inlet_there none on =
      let has = is.ports.receivers on.0 on.1 (sites on.0 on.1 on.2) on.3 in
      none has.place has.inlet has.inlet_is (has.chan_is ∙ on.4)
