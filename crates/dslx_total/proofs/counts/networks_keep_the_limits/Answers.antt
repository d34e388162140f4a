use Rattle.std.proofs.Common.{◌≡◌, ◌≤◌, ◌+◌, ℕ, Bool, true, false, if◌then◌else◌, nat_lt, List, [], ◌∷◌, Option, Some, None, refl, sym, ap, subst, ◌∙◌}
use Rattle.std.proofs.lemmas.Bool.{ltb-false}
use Rattle.xb_span.specs.Fault.{first_of}
use Rattle.xb_span.specs.declared.fault.Fault.{Fault}
use Rattle.xb_span.specs.declared.fault.Fault.TheVariants.{Whole}
use Rattle.xb_span.specs.declared.limit.What.{What}
use Rattle.xb_span.specs.declared.limit.What.TheVariants as what
use Rattle.dslx_tree.specs.declared.item.Module.{Module}
use Rattle.dslx_meaning.specs.Lists.{or_else}
use Rattle.dslx_meaning.specs.Network.{top_proc}
use Rattle.dslx_meaning.specs.Rules.ModuleRules.{faults_of, first_fault}
use Rattle.dslx_meaning.specs.Rules.NetworkLimits.{Count, network_count, network_faults, refusal_of, whole_count}
use Rattle.dslx_core.proofs.Lemmas.Typing.Laws.{none_without_faults}
use Rattle.dslx_core.proofs.Lemmas.Typing.Sound.{none_in, some_fault}
use Rattle.dslx_core.proofs.Lemmas.Typing.Typed.{none_some}
use Rattle.dslx_total.proofs.OnDesigns.Tops.{top_there}
use Rattle.dslx_total.proofs.counts.networks_keep_the_limits.Goals as goal

neither : (o p : Option Fault) → or_else o p ≡ None → (o ≡ None) × (p ≡ None)
neither None p e = (refl, e)
neither (Some f) p e = none_some f (sym e)

-- no more than there may be
within : (what : What) (most n : ℕ) → whole_count what most n ≡ [] → n ≤ most
within what most n e = by_test (nat_lt most n) refl e
  where
    by_test : (b : Bool) → nat_lt most n ≡ b → (if b then Whole (record { what = what; found = most + 1; most = most }) ∷ [] else []) ≡ [] → n ≤ most
    by_test true q f = some_fault (Whole (record { what = what; found = most + 1; most = most })) [] f
    by_test false q f = ltb-false most n q

without_faults : (m : Module) (top : Option (List ℕ)) → refusal_of m top ≡ None → (faults_of m top ≡ []) × (network_faults m top (top_proc m top) ≡ [])
without_faults m top e =
    let q = neither (first_fault m top) (first_of (network_faults m top (top_proc m top))) e in
    ((none_without_faults (faults_of m top)).0 q.0, (none_without_faults (network_faults m top (top_proc m top))).0 q.1)

pub returns-clause-accepted : goal.returns-clause-accepted
returns-clause-accepted c = λ m top e. (without_faults m top e).0

pub returns-clause-procs : goal.returns-clause-procs
returns-clause-procs c = λ m top e.
    let q = without_faults m top e in
    let t = top_there m top q.0 in
    let n = network_count m top t.0 in
    let few = (none_in (whole_count what.Procs 256 n.procs) (whole_count what.Channels 1024 n.channels) ((λ i. network_faults m top (sym t.1 i)) ∙ q.1)).0 in
    subst (λ k. k ≤ 256) (ap (λ (x : Count). x.procs) (c.networks_have_what_is_counted.ensures m top q.0 t.0 t.1)) (within what.Procs 256 n.procs few)

pub returns-clause-channels : goal.returns-clause-channels
returns-clause-channels c = λ m top e.
    let q = without_faults m top e in
    let t = top_there m top q.0 in
    let n = network_count m top t.0 in
    let few = (none_in (whole_count what.Procs 256 n.procs) (whole_count what.Channels 1024 n.channels) ((λ i. network_faults m top (sym t.1 i)) ∙ q.1)).1 in
    subst (λ k. k ≤ 1024) (ap (λ (x : Count). x.channels) (c.networks_have_what_is_counted.ensures m top q.0 t.0 t.1)) (within what.Channels 1024 n.channels few)
