-- What the reader of one token promises to `parse`.
use Rattle.std.specs.Prelude.{◌≡◌, ℕ, List, [], ◌∷◌, ◌++◌, length, take}
use Rattle.base.specs.declared.grammar.table.Symbol.{Symbol}
use Rattle.base.specs.Grammar.Syntax.{Rule, Syntax}
use Rattle.base.specs.Grammar.Derivation.{Derives, ReadsTo, start_of}

-- Once some tokens were read, these symbols are left to be read.
abbrev pub IsLeft : Syntax → List Symbol → Type 0
IsLeft y left = (ps ts : List ℕ) × ReadsTo y.rules (start_of y) ps ts left

-- One token of this kind was read: the rules that led to it stand at the end of the new list.
pub record ReadsOne (rules : List Rule) (kind : ℕ) (old new : List Symbol) (before after : List ℕ) : Type 0 where
  pub numbers : List ℕ
  pub grown : after ≡ before ++ numbers
  pub reads : ReadsTo rules old numbers (kind ∷ []) new

-- No token of this kind can be read: what the symbols derive never begins with it.
pub record ReadsNone (rules : List Rule) (kind : ℕ) (old : List Symbol) (before after : List ℕ) : Type 0 where
  pub kept : take (length before) after ≡ before
  pub none : (ps ts : List ℕ) → Derives rules old ps (kind ∷ ts) → ⊥
