-- What goes on behind a site goes on at the site.
use Rattle.std.proofs.Common.{◌≡◌, ℕ, suc, Bool, true, false, List, [], ◌∷◌, Option, Some, refl, sym, ap, subst}
use Rattle.xb_bits.specs.Word.{Word}
use Rattle.net_core.specs.Behavior.{Skip, Receive, Give}
use Rattle.dslx_meaning.specs.Activation.{Activity, Binder, Further, further, if_on, pair_with, send_word, take_word, then_goes}
use Rattle.dslx_meaning.specs.Environment.{Env}
use Rattle.dslx_meaning.specs.Lists.{and_then}
use Rattle.dslx_meaning.specs.Values.{flat_word, from_word}
use Rattle.dslx_meaning.specs.declared.ty.DslxType.{DslxType}
use Rattle.dslx_meaning.specs.declared.value.DslxValue.{DslxValue, Token}
use Rattle.dslx_core.specs.Typing.Activities.ActivityGoesOn.{ActivityGoesOn, Ends, Waits}

pub skip_goes : (t : DslxType) (n : ℕ) (words : List Word) (a : Activity) → ActivityGoesOn t n words a → ActivityGoesOn t (suc n) words (then_goes Skip a)
skip_goes t n words a (Ends v e of many) = Ends v e of (ap suc many)
skip_goes t n words a (Waits front e last all) = Waits (Skip ∷ front) (ap (λ ts. Skip ∷ ts) e) last all

pub give_goes : (t : DslxType) (n : ℕ) (words : List Word) (w : Word) (a : Activity) → ActivityGoesOn t n words a → ActivityGoesOn t (suc n) words (then_goes (Give w) a)
give_goes t n words w a (Ends v e of many) = Ends v e of (ap suc many)
give_goes t n words w a (Waits front e last all) = Waits (Give w ∷ front) (ap (λ ts. Give w ∷ ts) e) last all

pub receive_goes : (t : DslxType) (n : ℕ) (words : List Word) (w : Word) (a : Activity) → ActivityGoesOn t n words a → ActivityGoesOn t (suc n) (w ∷ words) (then_goes Receive a)
receive_goes t n words w a (Ends v e of many) = Ends v e of (ap suc many)
receive_goes t n words w a (Waits front e last all) = Waits (Receive ∷ front) (ap (λ ts. Receive ∷ ts) e) last (ap suc all)

-- ---- what is bound goes on

-- behind the value something is bound, and the rest goes on
pub record BindsAndGoes (t : DslxType) (n : ℕ) (rest : Further) (o : Option Env) : Type 0 where
  pub inner : Env
  pub is : o ≡ Some inner
  pub goes : (words : List Word) → ActivityGoesOn t n words (rest inner words)

further_goes : (t : DslxType) (n : ℕ) (rest : Further) (o : Option Env) → BindsAndGoes t n rest o → (words : List Word) → ActivityGoesOn t n words (further rest o words)
further_goes t n rest o h words = subst (λ p. ActivityGoesOn t n words (further rest p words)) (sym h.is) (h.goes words)

-- an expression alone
pub value_goes : (t : DslxType) (n : ℕ) (binds : Binder) (rest : Further) (o : Option DslxValue) (v : DslxValue) → o ≡ Some v → BindsAndGoes t n rest (binds v) → (words : List Word) → ActivityGoesOn t n words (further rest (and_then o binds) words)
value_goes t n binds rest o v e h words = subst (λ p. ActivityGoesOn t n words (further rest (and_then p binds) words)) (sym e) (further_goes t n rest (binds v) h words)

-- a word is taken, where there is one
pub take_goes : (t : DslxType) (n : ℕ) (binds : Binder) (rest : Further) (o : Option DslxType) (w : DslxType) → o ≡ Some w → ((x : Word) → BindsAndGoes t n rest (binds (pair_with (from_word w x))))
    → (words : List Word) → ActivityGoesOn t (suc n) words (take_word o binds rest words)
take_goes t n binds rest o w e h words = subst (λ p. ActivityGoesOn t (suc n) words (take_word p binds rest words)) (sym e) (go words)
  where
    go : (words : List Word) → ActivityGoesOn t (suc n) words (take_word (Some w) binds rest words)
    go [] = Waits [] refl refl refl
    go (x ∷ xs) = receive_goes t n xs x (further rest (binds (pair_with (from_word w x))) xs) (further_goes t n rest (binds (pair_with (from_word w x))) (h x) xs)

pub send_goes : (t : DslxType) (n : ℕ) (binds : Binder) (rest : Further) (o : Option DslxValue) (v : DslxValue) → o ≡ Some v → BindsAndGoes t n rest (binds Token) → (words : List Word) → ActivityGoesOn t (suc n) words (send_word o binds rest words)
send_goes t n binds rest o v e h words =
    subst (λ p. ActivityGoesOn t (suc n) words (send_word p binds rest words)) (sym e)
    (give_goes t n words (flat_word v) (further rest (binds Token) words) (further_goes t n rest (binds Token) h words))

-- it is off or on
pub if_goes : (t : DslxType) (n : ℕ) (binds : Binder) (rest : Further) (o : Option Bool) (b : Bool) → o ≡ Some b → (words : List Word) (on : Activity) → ActivityGoesOn t (suc n) words on
    → (default : Option DslxValue) (v : DslxValue) → default ≡ Some v → BindsAndGoes t n rest (binds v) → ActivityGoesOn t (suc n) words (if_on o on default binds rest words)
if_goes t n binds rest o b e words on h default v d k = subst (λ p. ActivityGoesOn t (suc n) words (if_on p on default binds rest words)) (sym e) (by_test b)
  where
    by_test : (b : Bool) → ActivityGoesOn t (suc n) words (if_on (Some b) on default binds rest words)
    by_test true = h
    by_test false = skip_goes t n words (further rest (and_then default binds) words) (value_goes t n binds rest default v d k words)
