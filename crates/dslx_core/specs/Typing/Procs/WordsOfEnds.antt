-- Words of channels as values of the types that texts give them.
use Rattle.std.specs.Prelude.{◌≡◌, List, [], ◌∷◌, true, Some}
use Rattle.xb_bits.specs.Word.{Word}
use Rattle.dslx_tree.specs.declared.process.End.{End}
use Rattle.dslx_meaning.specs.Values.{from_word}
use Rattle.dslx_meaning.specs.declared.ty.DslxType.{DslxType}
use Rattle.dslx_meaning.specs.Rules.ItemRules.{typing_of_inner}
use Rattle.dslx_meaning.specs.Rules.TypeEnvs.{TypeEnv}
use Rattle.dslx_core.specs.Typing.Typed.Kinds.{is_of}

-- whatever bits a word has, it is a value of the type of its end's words, where these have one
abbrev pub WordsAreValues : TypeEnv → List End → Type 0
WordsAreValues context [] = Unit {0}
WordsAreValues context (e ∷ es) = ((w : DslxType) → (typing_of_inner context e.word).ty ≡ Some w → (x : Word) → is_of w (from_word w x) ≡ true) × WordsAreValues context es
