-- Signals of a module that carry numbers of their widths.
use Rattle.std.specs.Prelude.{◌≡◌, ℕ, List, Some, None}
use Rattle.std.specs.List.{AllByRecursion}
use Rattle.xb_bits.specs.Word.{IsWord}
use Rattle.vlog_tree.specs.declared.module.VModule.{VModule}
use Rattle.vlog_tree.specs.declared.row.Drive.{Drive}
use Rattle.vlog_tree.specs.declared.row.Drive.TheVariants.{Offer, Ready}
use Rattle.vlog_tree.specs.declared.row.Row.{Row}
use Rattle.vlog_tree.specs.declared.signal.Role.{Role}
use Rattle.vlog_tree.specs.Rows.{IsRowOf}
use Rattle.vlog_tree.specs.Signals.{Declared, IsSignal, declared_widths}
use Rattle.vlog_tree.specs.Value.{Values}
use Rattle.block_build.specs.Netlist.Order.{CarriesWord}

-- all those of a role
abbrev pub CarryWords : VModule → Role → Values → Type 0
CarryWords m r v = (s : ℕ) (d : Declared) → IsSignal m s d → d.role ≡ r → CarriesWord (declared_widths m) v s

-- what the outside offers is a number
abbrev pub IsWordDrive : Drive → Type 0
IsWordDrive (Offer (Some w)) = IsWord w
IsWordDrive (Offer None) = Unit {0}
IsWordDrive (Ready ready) = Unit {0}

-- a row of a module, with numbers of its channels' widths
pub record IsInputRow (m : VModule) (row : Row) : Type 0 where
  pub fits : IsRowOf m row
  pub words : AllByRecursion IsWordDrive row.channels

abbrev pub AreInputRows : VModule → List Row → Type 0
AreInputRows m rows = AllByRecursion (IsInputRow m) rows
