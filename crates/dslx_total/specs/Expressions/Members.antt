-- Members of a proc whose words a channel holds.
use Rattle.std.specs.Prelude.{◌≡◌, List, [], ◌∷◌, true, Some}
use Rattle.dslx_tree.specs.declared.process.End.{End}
use Rattle.dslx_meaning.specs.Types.{plain_type}
use Rattle.dslx_meaning.specs.declared.ty.DslxType.{DslxType}
use Rattle.dslx_meaning.specs.Rules.ItemRules.{typing_of_inner}
use Rattle.dslx_meaning.specs.Rules.TypeEnvs.{TypeEnv}
use Rattle.dslx_core.specs.Lowering.Steps.{fits_word}

-- a word holds each of those of the end
pub record HasWords (context : TypeEnv) (e : End) : Type 0 where
  pub fits : (t : DslxType) → (typing_of_inner context e.word).ty ≡ Some t → fits_word (plain_type t) ≡ true

abbrev pub EachHasWords : TypeEnv → List End → Type 0
EachHasWords context [] = Unit {0}
EachHasWords context (e ∷ es) = HasWords context e × EachHasWords context es
