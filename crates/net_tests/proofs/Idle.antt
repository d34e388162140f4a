-- A proc without sites, whose state stays, for the test.
use Rattle.std.proofs.Common.{◌≡◌, ℕ, zero, suc, ◌<◌, ◌^◌, List, [], ◌∷◌, length, drop, Some, refl, ap, sym, ◌∙◌, subst, arith}
use Rattle.std.specs.Prelude.{slice_get, Option}
use Rattle.chan_queue.specs.declared.queue.ChanQueue.{ChanQueue}
use Rattle.xb_bits.specs.Word.{Word, word}
use Rattle.xb_value.specs.declared.value.Value as value
use Rattle.xb_value.specs.Typing.{bits_fit}
use Rattle.xb_value.proofs.Lemmas.Typing.{fits-Bits}
use Rattle.xb_value.specs.declared.value.Value.TheViews.{outs-Bits}
use Rattle.net_core.specs.declared.net.Site.{Site}
use Rattle.net_core.specs.declared.event.Event.TheVariants.{End}
use Rattle.net_core.specs.Behavior.{KeepsTypes, event_from, next_event}
use Rattle.net_core.specs.Cuts.{Proc}
use Rattle.net_core.specs.WellFormed.{IsRun}
use Rattle.proc_task.specs.declared.port.Outlet.{Outlet}
use Rattle.proc_task.specs.declared.port.Inlet.{Inlet}
use Rattle.net_tests.specs.Idle.{idle, idle_run}
use Rattle.proc_task.specs.Moving.{IsNewTask}

drop_none : (n : ℕ) (sites : List Site) → sites ≡ [] → drop n sites ≡ []
drop_none n [] e = by_number n
  where
    by_number : (n : ℕ) → ◌≡◌ {A = List Site} (drop n []) []
    by_number zero = refl
    by_number (suc n) = refl
drop_none n (x ∷ xs) e = cc

at_end : (s : value.Value) (got : List Word) (done : ℕ) → event_from idle s got done [] ≡ End s
unfolding event_from
at_end s got done = refl

-- its activations end at once
idle_ends : (s : value.Value) (got : List Word) (done : ℕ) → next_event idle s got done ≡ End s
unfolding next_event
idle_ends s got done = ap (λ (sites : List Site). event_from idle s got done sites) (drop_none done [] refl) ∙ at_end s got done

one_proc : (p : ℕ) (proc : Proc) → slice_get idle_run.procs p ≡ Some proc → record { opening = value.Bits (word 8 5); behavior = idle } ≡ proc
one_proc zero proc e = cc
one_proc (suc p) proc e = cc

pub idle_next : (p : ℕ) (s copied : value.Value) (got : List Word) (done : ℕ) → copied ≡ s
    → (proc : Proc) → slice_get idle_run.procs p ≡ Some proc → End copied ≡ next_event proc.behavior s got done
idle_next p s copied got done e proc is = ap End e ∙ (sym (idle_ends s got done) ∙ ap (λ (x : Proc). next_event x.behavior s got done) (one_proc p proc is))

keeps : KeepsTypes idle
keeps = record { directions = λ s got i site e. cc; turns = λ s got i site o e. cc; state = λ s got o. o.state }

fits : IsRun idle_run
fits = record {
  activations = omega arith;
  few_procs = omega arith;
  few_sites = λ p proc e. subst (λ (x : Proc). length x.behavior.sites < 2 ^ 30) (one_proc p proc e) (omega arith);
  keeps_types = λ p proc e. subst (λ (x : Proc). KeepsTypes x.behavior) (one_proc p proc e) keeps;
  sites = λ p i proc site is. absurd (none i site (ap (λ (x : Proc). slice_get x.behavior.sites i) (one_proc p proc is.proc_is) ∙ is.place));
}
  where
    none : (i : ℕ) (site : Site) → slice_get idle.sites i ≡ Some site → ⊥
    none i site e = cc

pub idle_opens : {S : Type 0} (lines : List (Option (ChanQueue S))) → IsNewTask {S = S} idle_run lines 0 [] (value.Bits (word 8 5)) [] [] []
idle_opens lines = record {
  typed = record { fits = fits; words = λ c chan e. cc };
  proc = record { opening = value.Bits (word 8 5); behavior = idle };
  proc_is = refl;
  opening = refl;
  of_type = fits-Bits 8 (value.Bits (word 8 5)) ∙ (ap (bits_fit 8) (outs-Bits (word 8 5)) ∙ refl);
  sites_are = refl;
  ports = record {
    senders = λ i site e s. cc;
    receivers = λ i site e s. cc;
    outlet = λ k o e. cc;
    inlet = λ k o e. cc;
    one_outlet = λ j k a b e f h. cc;
    one_inlet = λ j k a b e f h. cc;
  };
  no_words = λ k o e. cc;
  none_received = λ k o e. cc;
}

module _ {S : Type 0} where
  pub idle_opens_as : (lines : List (Option (ChanQueue S))) (sites : List Site) (w : Word) (places : List ℕ) (outlets : List (Outlet S)) (inlets : List (Inlet S))
      → sites ≡ [] → w ≡ word 8 5 → places ≡ [] → outlets ≡ [] → inlets ≡ [] → IsNewTask idle_run lines 0 sites (value.Bits w) places outlets inlets
  idle_opens_as lines sites w places outlets inlets a b c d e =
      subst (λ (x : List Site × Word × List ℕ × List (Outlet S) × List (Inlet S)). IsNewTask idle_run lines 0 x.0 (value.Bits x.1) x.2 x.3 x.4) (λ i. (sym a i, sym b i, sym c i, sym d i, sym e i)) (idle_opens lines)
