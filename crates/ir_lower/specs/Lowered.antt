-- What is promised of a checked text that is lowered, and for which it isn't.
use Rattle.std.specs.Prelude.{◌≡◌, true}
use Rattle.xb_span.specs.declared.read_error.ReadError.{ReadError}
use Rattle.xb_span.specs.declared.read_error.ReadError.TheVariants.{Broken, OutOfMemory, Over, Syntax}
use Rattle.ir_tree.specs.declared.package.Package.{Package}
use Rattle.ir_tree.specs.SameBehavior.{IsDenotedBy}
use Rattle.ir_tree.specs.Rules.Verified.{IsVerified}
use Rattle.dslx_core.specs.Designs.{core_behaviors, core_network}
use Rattle.dslx_core.specs.declared.design.Design.{Design}
use Rattle.ir_lower.specs.Deep.{deep_limit, receives_deep}

-- The package breaks no rule and passes no limit. It has the network of the text, and each of its procs does in every activation what the
-- text's does.
pub record IsLoweringOf (design : Design) (ir : Package) : Type 0 where
  pub verified : IsVerified ir
  pub same : IsDenotedBy (core_network design) (core_behaviors design) ir

-- why there is none: memory was wanting, or a word that a proc receives passes a limit of this lowering
abbrev pub RefusesLowering : Design → ReadError → Type 0
RefusesLowering design OutOfMemory = Unit {0}
RefusesLowering design (Over limit) = (receives_deep (core_network design) ≡ true) × (limit ≡ deep_limit)
RefusesLowering design (Syntax at) = ⊥
RefusesLowering design (Broken rule span) = ⊥
