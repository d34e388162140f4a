-- Words that fit the channels of a network.
use Rattle.std.proofs.Common.{◌≡◌, ◌<◌, ◌+◌, ℕ, Bool, true, false, nat_lt, List, [], ◌∷◌, length, get_or, Some, refl, sym, subst, ◌∙◌, ap, arith, min}
use Rattle.std.specs.Prelude.{slice_get, ◌==◌, ◌^◌, ◌-◌}
use Rattle.std.proofs.lemmas.Bool.{eqb-true, ltb-false, ltb-true}
use Rattle.xb_bits.specs.Word.{Word, IsWord}
use Rattle.xb_value.specs.Width.{width_of}
use Rattle.net_core.specs.Behavior.{IsWordOf}
use Rattle.net_core.specs.WellFormed.{AreWordsOf, IsInputs}
use Rattle.net_core.specs.declared.net.Chan.{Chan}
use Rattle.net_core.specs.declared.net.Kind.TheVariants as kinds
use Rattle.net_core.specs.declared.net.Net.{Net}
use Rattle.xls_cmd.specs.Gen.Inner.{FitsChannel}

-- what holds below an index and of what stands there holds below the next index
pub below_next : {A : Type 0} (P : ℕ → A → Type 0) (xs : List A) (i : ℕ) (x : A) → slice_get xs i ≡ Some x → P i x → ((k : ℕ) (y : A) → k < i → slice_get xs k ≡ Some y → P k y)
    → (k : ℕ) (y : A) → k < i + 1 → slice_get xs k ≡ Some y → P k y
below_next {A} P xs i x there now before k y less at = by_test (nat_lt k i) refl
  where
    by_test : (t : Bool) → nat_lt k i ≡ t → P k y
    by_test true e = before k y (ltb-true k i e) at
    by_test false e =
        let past = ltb-false k i e in
        let same : i ≡ k = omega (arith, past, less) in
        let found : Some x ≡ Some y = sym there ∙ ap (slice_get xs) same ∙ at in
        let item : x ≡ y = cc in
        subst (λ j. P j y) same (subst (P i) item now)

-- a word is as wide as a type whose width it has, 2^64 - 1 at most
pub as_wide : (w : Word) (width most : ℕ) → IsWord w → w.width ≡ most → most ≡ min width (2 ^ 64 - 1) → w.width < 256 → IsWordOf width w
as_wide w width most word is least small = record { word = word; fits = omega (arith, is, least, small) }

none_there : (words : List Word) → (length words == 0) ≡ true → words ≡ []
none_there [] e = refl
none_there (w ∷ words) e = let no = eqb-true (length (w ∷ words)) 0 e in absurd (omega (arith, no))

no_words : (width : ℕ) (words : List Word) → words ≡ [] → AreWordsOf width words
no_words width words e = λ k w at. let no : slice_get [] k ≡ Some w = subst (λ (ws : List Word). slice_get ws k ≡ Some w) e at in absurd (cc)

-- without words any channel fits
pub none_fits : (chan : Chan) (words : List Word) → (length words == 0) ≡ true → FitsChannel chan words
none_fits chan words e = record { width = no_words (width_of chan.ty) words (none_there words e); only = λ h. none_there words e }

pub input_fits : (chan : Chan) (words : List Word) → chan.kind ≡ kinds.Input → AreWordsOf (width_of chan.ty) words → FitsChannel chan words
input_fits chan words is wide = record { width = wide; only = λ no. absurd (no is) }

pub are_inputs : (net : Net) (words : List (List Word)) → length net.chans ≡ length words → ((c : ℕ) (chan : Chan) → slice_get net.chans c ≡ Some chan → FitsChannel chan (get_or words c [])) → IsInputs net words
are_inputs net words count each = record { count = sym count; words = λ c chan at. (each c chan at).width; only = λ c chan at. (each c chan at).only }
