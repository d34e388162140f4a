-- Words that are sent: each is a value of the type of the words at its site's member.
use Rattle.std.proofs.Common.{◌≡◌, Bool, true, false, List, [], ◌∷◌, ℕ, Option, Some, None, refl, sym, subst}
use Rattle.xb_bits.specs.Word.{Word}
use Rattle.net_core.specs.Behavior.{Turn, Skip, Receive, Give}
use Rattle.dslx_meaning.specs.Activation.{Activity, Binder, Further, SiteEnv, SiteName, further, if_on, pair_with, send_word, take_word, word_type_at}
use Rattle.dslx_meaning.specs.Environment.{Env}
use Rattle.dslx_meaning.specs.Lists.{and_then}
use Rattle.dslx_meaning.specs.Values.{flat_word, from_word}
use Rattle.dslx_meaning.specs.declared.ty.DslxType.{DslxType}
use Rattle.dslx_meaning.specs.declared.value.DslxValue.{DslxValue, Token}
use Rattle.dslx_core.specs.Typing.Typed.Kinds.{is_of}

-- the word is a value of the type of the words at the member of a site
pub record IsWordThere (site : SiteEnv) (name : List ℕ) (w : Word) : Type 0 where
  pub word : DslxType
  pub means : word_type_at site name ≡ Some word
  pub value : DslxValue
  pub of : is_of word value ≡ true
  pub is : flat_word value ≡ w

abbrev pub GivesWord : SiteEnv → SiteName → Turn → Type 0
GivesWord site n Skip = Unit {0}
GivesWord site n Receive = Unit {0}
GivesWord site n (Give w) = IsWordThere site n.member w

-- so it is with what the first of these sites do
abbrev pub GiveWords : SiteEnv → List SiteName → List Turn → Type 0
GiveWords site ns [] = Unit {0}
GiveWords site [] (t ∷ ts) = Unit {0}
GiveWords site (n ∷ ns) (t ∷ ts) = GivesWord site n t × GiveWords site ns ts

none_given : (site : SiteEnv) (ns : List SiteName) → GiveWords site ns []
none_given site [] = tt
none_given site (n ∷ ns) = tt

-- something is bound, and the rest gives such words
pub record BindsAndGives (site : SiteEnv) (more : List SiteName) (rest : Further) (o : Option Env) : Type 0 where
  pub inner : Env
  pub is : o ≡ Some inner
  pub gives : (words : List Word) → GiveWords site more (rest inner words).turns

module _ (site : SiteEnv) (more : List SiteName) (rest : Further) where
  further_gives : (o : Option Env) → BindsAndGives site more rest o → (words : List Word) → GiveWords site more (further rest o words).turns
  further_gives o h words = subst (λ p. GiveWords site more (further rest p words).turns) (sym h.is) (h.gives words)

  -- an expression alone, where it has a value
  pub value_gives : (binds : Binder) (o : Option DslxValue) → ((v : DslxValue) → o ≡ Some v → BindsAndGives site more rest (binds v)) → (words : List Word) → GiveWords site more (further rest (and_then o binds) words).turns
  value_gives binds None h words = none_given site more
  value_gives binds (Some v) h words = further_gives (binds v) (h v refl) words

  pub take_gives : (n : SiteName) (binds : Binder) (o : Option DslxType) → ((w : DslxType) (x : Word) → o ≡ Some w → BindsAndGives site more rest (binds (pair_with (from_word w x))))
      → (words : List Word) → GiveWords site (n ∷ more) (take_word o binds rest words).turns
  take_gives n binds None h words = tt
  take_gives n binds (Some w) h [] = (tt, none_given site more)
  take_gives n binds (Some w) h (x ∷ words) = (tt, further_gives (binds (pair_with (from_word w x))) (h w x refl) words)

  pub send_gives : (n : SiteName) (binds : Binder) (o : Option DslxValue) → ((v : DslxValue) → o ≡ Some v → IsWordThere site n.member (flat_word v)) → BindsAndGives site more rest (binds Token)
      → (words : List Word) → GiveWords site (n ∷ more) (send_word o binds rest words).turns
  send_gives n binds None there h words = tt
  send_gives n binds (Some v) there h words = (there v refl, further_gives (binds Token) h words)

  -- it is off or on
  pub if_gives : (n : SiteName) (binds : Binder) (o : Option Bool) (words : List Word) (on : Activity) → GiveWords site (n ∷ more) on.turns
      → (default : Option DslxValue) → ((v : DslxValue) → default ≡ Some v → BindsAndGives site more rest (binds v)) → GiveWords site (n ∷ more) (if_on o on default binds rest words).turns
  if_gives n binds None words on h default k = tt
  if_gives n binds (Some true) words on h default k = h
  if_gives n binds (Some false) words on h default k = (tt, value_gives binds default k words)
