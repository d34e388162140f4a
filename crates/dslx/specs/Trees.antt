-- Contracts of private parts.
use Rattle.std.specs.Prelude.{◌≡◌, ℕ, List, [], Option, Some}
use Rattle.xb_span.specs.Fault.{error_of}
use Rattle.xb_span.specs.declared.fault.Fault.{Fault}
use Rattle.xb_span.specs.declared.read_error.ReadError.{ReadError}
use Rattle.xb_span.specs.declared.read_error.ReadError.TheVariants.{OutOfMemory}
use Rattle.dslx_tree.specs.declared.item.Module.{Module}
use Rattle.dslx_tree.specs.declared.process.Proc.{Proc}
use Rattle.dslx_meaning.specs.Items.{item_named}
use Rattle.dslx_meaning.specs.Network.{as_proc, top_proc}
use Rattle.dslx_meaning.specs.Rules.ModuleRules.{faults_of}
use Rattle.dslx_meaning.specs.Rules.NetworkLimits.{refusal_of}

-- a tree is refused for this fault, or memory was wanting
abbrev pub RefusesTree : Module → Option (List ℕ) → ReadError → Type 0
RefusesTree m top OutOfMemory = Unit {0}
RefusesTree m top error = (fault : Fault) × (refusal_of m top ≡ Some fault) × (error ≡ error_of fault)

-- no part of the tree breaks a rule or passes a limit, and this is its top
pub record IsFaultless (m : Module) (top : Option (List ℕ)) (p : Proc) : Type 0 where
  pub none : faults_of m top ≡ []
  pub proc : top_proc m top ≡ Some p
  pub item : as_proc (item_named p.name.name m.items) ≡ Some p
