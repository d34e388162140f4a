-- Modules whose names can stand in a text.
use Rattle.std.specs.Prelude.{◌≡◌, ℕ, true, List}
use Rattle.std.specs.List.{AllByRecursion}
use Rattle.base.specs.Texts.Words.{is_word}
use Rattle.vlog_tree.specs.declared.module.VModule.{VModule}
use Rattle.vlog_tree.specs.Signals.{signals}
use Rattle.vlog_text.specs.Token.Kinds.{verilog_kind}
use Rattle.vlog_text.specs.Builder.Building.{is_name}

-- a letter or `_`, then letters, digits and `_`, and none of the reserved words
abbrev pub IsTextName : List ℕ → Type 0
IsTextName name = (is_word name ≡ true) × (is_name (verilog_kind name) ≡ true)

-- the module's own name is one, and so is the name of each signal
pub record HasTextNames (m : VModule) : Type 0 where
  pub own : IsTextName m.name
  pub all : AllByRecursion (λ d. IsTextName d.name) (signals m)
