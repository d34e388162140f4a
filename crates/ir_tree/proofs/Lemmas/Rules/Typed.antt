-- What crates above know of the procs of verified packages.
pub mod Checked
pub mod Tests
pub mod Scopes
pub mod Nodes
use Rattle.std.proofs.Common.{◌≡◌, ℕ, Some}
use Rattle.std.specs.Prelude.{slice_get}
use Rattle.net_core.specs.Behavior.{KeepsTypes}
use Rattle.net_core.specs.WellFormed.{IsNet, AreBehaviorsOf, EachKeepsTypes}
use Rattle.ir_tree.specs.declared.package.Package.{Package}
use Rattle.ir_tree.specs.declared.package.Proc.{Proc}
use Rattle.ir_tree.specs.Activations.{activation}
use Rattle.ir_tree.specs.Networks.{network_of, behaviors_of}
use Rattle.ir_tree.specs.Rules.Verified.{IsVerified}
use Rattle.ir_tree.specs.Rules.Typed.Typed.{IsVerifiedProc}
use Rattle.ir_tree.proofs.OnRules.OnTyped.Walks as walks
use Rattle.ir_tree.proofs.OnRules.OnTyped.Packages as packages

-- what rules and limits say of each proc
pub verified_proc : (ir : Package) → IsVerified ir → (q : ℕ) (proc : Proc) → slice_get ir.procs q ≡ Some proc → IsVerifiedProc ir.channels proc
verified_proc = packages.proc_of

pub keeps_types : (ir : Package) → IsVerified ir → (q : ℕ) (proc : Proc) → slice_get ir.procs q ≡ Some proc → KeepsTypes (activation ir.channels proc)
keeps_types ir h q proc e = walks.keeps_types ir.channels proc (packages.proc_of ir h q proc e)

pub procs_keep_types : (ir : Package) → IsVerified ir → EachKeepsTypes (behaviors_of ir)
procs_keep_types = packages.keep_types

pub network_fits : (ir : Package) → IsVerified ir → IsNet (network_of ir)
network_fits = packages.is_net

pub procs_fit : (ir : Package) → AreBehaviorsOf (network_of ir) (behaviors_of ir)
procs_fit = packages.are_behaviors
