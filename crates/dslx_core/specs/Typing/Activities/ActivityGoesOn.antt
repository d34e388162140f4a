-- Activations with which nothing is wrong: they do something at each site and come to their end, or to a receive without a word.
use Rattle.std.specs.Prelude.{◌≡◌, ℕ, suc, List, [], ◌∷◌, ◌++◌, true, Some, None, length}
use Rattle.xb_bits.specs.Word.{Word}
use Rattle.net_core.specs.Behavior.{Turn, Skip, Receive, Give}
use Rattle.dslx_meaning.specs.Activation.{Activity}
use Rattle.dslx_meaning.specs.declared.ty.DslxType.{DslxType}
use Rattle.dslx_meaning.specs.declared.value.DslxValue.{DslxValue}
use Rattle.dslx_core.specs.Typing.Typed.Kinds.{is_of}

-- how many words these turns take
abbrev pub words_taken : List Turn → ℕ
words_taken [] = 0
words_taken (Skip ∷ ts) = words_taken ts
words_taken (Receive ∷ ts) = suc (words_taken ts)
words_taken (Give w ∷ ts) = words_taken ts

-- over these words, at so many sites: it ends with a value of the type, having done something at each site; or it has taken all
-- words, and the next site receives
pub data ActivityGoesOn (t : DslxType) (sites : ℕ) (words : List Word) (a : Activity) : Type 0 where
  Ends : (v : DslxValue) → a.last ≡ Some v → is_of t v ≡ true → length a.turns ≡ sites → ActivityGoesOn t sites words a
  Waits : (front : List Turn) → a.turns ≡ front ++ Receive ∷ [] → a.last ≡ None → words_taken front ≡ length words → ActivityGoesOn t sites words a
