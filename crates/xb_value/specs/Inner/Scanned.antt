-- What the reader of a text answers.
use Rattle.std.specs.Prelude.{ℕ, List}
use Rattle.base.specs.Lists.Fault.{IsFirstFault}
use Rattle.xb_value.specs.declared.scan.Scanned.{Scanned}
use Rattle.xb_value.specs.declared.scan.Scanned.TheVariants.{Tokens, Fault}
use Rattle.xb_value.specs.Form.{Spells, IsValueText}

abbrev pub IsScanOf : List ℕ → Scanned → Type 0
IsScanOf t (Tokens us) = Spells t us
IsScanOf t (Fault at) = IsFirstFault IsValueText t at
