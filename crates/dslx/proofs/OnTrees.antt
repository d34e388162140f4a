-- Trees that are checked: the fault that they are refused for, and the limits on the network of those without a fault.
use Rattle.std.proofs.Common.{◌≡◌, ◌∙◌, ℕ, length, List, [], Option, Some, ap}
use Rattle.xb_span.specs.Fault.{error_of, first_of}
use Rattle.xb_span.specs.declared.fault.Fault.{Fault}
use Rattle.xb_span.specs.declared.read_error.ReadError.{ReadError}
use Rattle.xb_span.specs.declared.read_error.ReadError.TheVariants.{Syntax, Broken, Over, OutOfMemory}
use Rattle.dslx_tree.specs.declared.item.Module.{Module}
use Rattle.dslx_tree.specs.declared.process.Proc.{Proc}
use Rattle.dslx_meaning.specs.Lists.{or_else}
use Rattle.dslx_meaning.specs.Network.{network_of, top_proc}
use Rattle.dslx_meaning.specs.Rules.ModuleRules.{faults_of, first_fault}
use Rattle.dslx_meaning.specs.Rules.NetworkLimits.{Count, network_count, network_faults, refusal_of}
use Rattle.dslx_core.proofs.Lemmas.Typing.Laws.{none_without_faults}
use Rattle.dslx_check.specs.Verdicts.{IsAcceptedWith}
use Rattle.dslx.specs.declared.count.size.NetworkSize.{NetworkSize}
use Rattle.dslx.specs.Texts.{IsNetworkSize}
use Rattle.dslx.specs.Trees.{IsFaultless, RefusesTree}

pub faultless : (m : Module) (top : Option (List ℕ)) (p : Proc) → IsAcceptedWith m top p → IsFaultless m top p
faultless m top p h = record { none = (none_without_faults (faults_of m top)).0 h.none; proc = h.proc; item = h.item }

-- a tree that is refused for a fault
pub refused_for : (m : Module) (top : Option (List ℕ)) (fault : Fault) (e : ReadError) → refusal_of m top ≡ Some fault → e ≡ error_of fault → RefusesTree m top e
refused_for m top fault (Syntax at) is e = (fault, is, e)
refused_for m top fault (Broken rule span) is e = (fault, is, e)
refused_for m top fault (Over limit) is e = (fault, is, e)
refused_for m top fault OutOfMemory is e = tt

pub refused_by_fault : (m : Module) (top : Option (List ℕ)) (fault : Fault) → first_fault m top ≡ Some fault → refusal_of m top ≡ Some fault
refused_by_fault m top fault is = ap (λ o. or_else o (first_of (network_faults m top (top_proc m top)))) is

-- without a fault the limits on the network alone refuse
pub limits_alone : (m : Module) (top : Option (List ℕ)) → faults_of m top ≡ [] → refusal_of m top ≡ first_of (network_faults m top (top_proc m top))
limits_alone m top none = ap (λ fs. or_else (first_of fs) (first_of (network_faults m top (top_proc m top)))) none

abbrev pub Counts : Type 0
Counts = (m : Module) (top : Option (List ℕ)) → faults_of m top ≡ [] → (p : Proc) → top_proc m top ≡ Some p
    → network_count m top p ≡ record { procs = length (network_of m top).procs; channels = length (network_of m top).chans }

pub sized : Counts → (m : Module) (top : Option (List ℕ)) (p : Proc) → IsFaultless m top p → (size : NetworkSize)
    → (size.procs ≡ (network_count m top p).procs) × (size.channels ≡ (network_count m top p).channels) → IsNetworkSize m top size
sized law m top p h size exact =
    let counted = law m top h.none p h.proc in
    record { procs = exact.0 ∙ ap (λ (n : Count). n.procs) counted; channels = exact.1 ∙ ap (λ (n : Count). n.channels) counted }
