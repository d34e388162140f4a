-- Values of members by their words.
use Rattle.std.specs.Prelude.{ℕ, List, ◌∷◌, ◌≡◌, ◌==◌, ◌||◌, Bool, false, Option, Some, None}
use Rattle.std.specs.HashSet.{HashSet, contains}
use Rattle.xb_bits.specs.Word.{word}
use Rattle.dslx_meaning.specs.declared.ty.BitKind.{BitKind}
use Rattle.dslx_meaning.specs.declared.value.DslxValue.{DslxValue}
use Rattle.dslx_meaning.specs.declared.value.DslxValue as value
use Rattle.dslx_meaning.specs.Rules.ItemRules.{is_among_values}

abbrev pub has_word : {S : Type 0} → HashSet ℕ S → ℕ → Bool
has_word words n = contains (λ a b. a == b) words n

-- bits of this kind with this word
abbrev pub of_kind : BitKind → ℕ → DslxValue
of_kind kind n = value.Bits kind.signed (word kind.width n)

abbrev pub IsOfKind : BitKind → ℕ → DslxValue → Type 0
IsOfKind kind n v = v ≡ of_kind kind n

-- the words that are noted are those of the values among these
abbrev pub HoldsWords : {S : Type 0} → BitKind → HashSet ℕ S → List (Option DslxValue) → Type 0
HoldsWords kind words rest = (n : ℕ) → has_word words n ≡ is_among_values (of_kind kind n) rest

-- a word more is noted, and whether it was noted before
pub record NotesWord {S : Type 0} (old new : HashSet ℕ S) (w : ℕ) (is_double : Bool) : Type 0 where
  pub has : (n : ℕ) → has_word new n ≡ ((w == n) || has_word old n)
  pub is : is_double ≡ has_word old w

-- the value, if it is there, is among the others
abbrev pub is_double_of : Option DslxValue → List (Option DslxValue) → Bool
is_double_of None rest = false
is_double_of (Some v) rest = is_among_values v rest

-- a value more is noted, and whether it is among those that were noted before
pub record NotesValue {S : Type 0} (kind : BitKind) (old new : HashSet ℕ S) (value : Option DslxValue) (is_double : Bool) : Type 0 where
  pub holds : (rest : List (Option DslxValue)) → HoldsWords kind old rest → HoldsWords kind new (value ∷ rest)
  pub is : (rest : List (Option DslxValue)) → HoldsWords kind old rest → is_double ≡ is_double_of value rest
