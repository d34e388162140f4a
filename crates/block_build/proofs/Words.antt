-- The words of a channel, by its kind, and fronts of events.
use Rattle.std.proofs.Common.{◌≡◌, ℕ, zero, suc, ◌≤◌, List, [], ◌∷◌, map, refl, sym, ap, ◌∙◌, subst, arith, true, false, Bool, Some}
use Rattle.std.specs.Prelude.{slice_get, get_or, ◌⊎◌, ◌||◌}
use Rattle.std.proofs.Common.{inl, inr}
use Rattle.std.specs.List.{list_any}
use Rattle.base.specs.Lists.Prefix.{IsPrefix}
use Rattle.base.proofs.Lemmas.Lists.Prefixes.{IsPrefix-append, rest_of}
use Rattle.xb_bits.specs.Word.{Word}
use Rattle.net_core.specs.declared.net.Site.{Site}
use Rattle.net_core.specs.declared.net.Chan.{Chan}
use Rattle.net_core.specs.declared.net.Kind.{Kind}
use Rattle.net_core.specs.declared.net.Kind.TheVariants.{Input, Output, Inner}
use Rattle.net_core.specs.declared.event.Event.{Event}
use Rattle.net_core.specs.Cuts.{Run, Cut, sites_at, sender, words_sent, count_received, words_by, words_at}
use Rattle.block_stage.proofs.Lemmas.Machine.{words_sent-append, count_received-append}

words_kind : Run → Cut → ℕ → Kind → List Word
words_kind run cut c Input = get_or run.inputs c []
words_kind run cut c Output = words_sent (sites_at run (sender run c)) c (cut (sender run c))
words_kind run cut c Inner = words_sent (sites_at run (sender run c)) c (cut (sender run c))

by_kind : (run : Run) (cut : Cut) (c : ℕ) (kind : Kind)
    → (elim kind as (λ _. List Word) [ Input ↦ get_or run.inputs c [] | Output ↦ words_sent (sites_at run (sender run c)) c (cut (sender run c)) | Inner ↦ words_sent (sites_at run (sender run c)) c (cut (sender run c)) ])
    ≡ words_kind run cut c kind
unfolding words_kind
by_kind run cut c Input = refl
by_kind run cut c Output = refl
by_kind run cut c Inner = refl

words_are : (run : Run) (cut : Cut) (c : ℕ) (chan : Chan) → slice_get run.chans c ≡ Some chan → words_at run cut c ≡ words_kind run cut c chan.kind
unfolding words_at words_by
words_are run cut c chan e = ap (words_by run cut c) e ∙ by_kind run cut c chan.kind

pub input_words : (run : Run) (cut : Cut) (c : ℕ) (chan : Chan) → slice_get run.chans c ≡ Some chan → chan.kind ≡ Input → words_at run cut c ≡ get_or run.inputs c []
unfolding words_kind
input_words run cut c chan e k = words_are run cut c chan e ∙ ap (words_kind run cut c) k

pub output_words : (run : Run) (cut : Cut) (c : ℕ) (chan : Chan) → slice_get run.chans c ≡ Some chan → chan.kind ≡ Output
    → words_at run cut c ≡ words_sent (sites_at run (sender run c)) c (cut (sender run c))
unfolding words_kind
output_words run cut c chan e k = words_are run cut c chan e ∙ ap (words_kind run cut c) k

pub inner_words : (run : Run) (cut : Cut) (c : ℕ) (chan : Chan) → slice_get run.chans c ≡ Some chan → chan.kind ≡ Inner
    → words_at run cut c ≡ words_sent (sites_at run (sender run c)) c (cut (sender run c))
unfolding words_kind
inner_words run cut c chan e k = words_are run cut c chan e ∙ ap (words_kind run cut c) k

-- more events send and receive more
pub sent_grow : (sites : List Site) (c : ℕ) (xs ys : List Event) → IsPrefix xs ys → IsPrefix (words_sent sites c xs) (words_sent sites c ys)
sent_grow sites c xs ys f =
    let r = rest_of xs ys f in
    subst (IsPrefix (words_sent sites c xs)) (sym (ap (words_sent sites c) r.1 ∙ words_sent-append sites c xs r.0)) (IsPrefix-append (words_sent sites c xs) (words_sent sites c r.0))

pub received_grow : (sites : List Site) (c : ℕ) (xs ys : List Event) → IsPrefix xs ys → count_received sites c xs ≤ count_received sites c ys
received_grow sites c xs ys f =
    let r = rest_of xs ys f in
    let e = ap (count_received sites c) r.1 in
    let s = count_received-append sites c xs r.0 in
    omega (arith, e, s)

pub cases : (x : Bool) → (x ≡ true) ⊎ (x ≡ false)
cases true = inl refl
cases false = inr refl

-- a test that no element passes
or_none : (x y : Bool) → (x || y) ≡ false → (x ≡ false) × (y ≡ false)
or_none true y e = cc
or_none false y e = (refl, e)

pub none_passes : {A : Type 0} (test : A → Bool) (xs : List A) → list_any test xs ≡ false → (i : ℕ) (x : A) → slice_get xs i ≡ Some x → test x ≡ false
none_passes test [] h i x e = cc
none_passes test (y ∷ ys) h zero x e = let z : y ≡ x = cc in ap test (sym z) ∙ (or_none (test y) (list_any test ys) h).0
none_passes test (y ∷ ys) h (suc i) x e = none_passes test ys (or_none (test y) (list_any test ys) h).1 i x e

-- and one that some does
some_or : (x y : Bool) → (x || y) ≡ true → (x ≡ true) ⊎ (y ≡ true)
some_or true y e = inl refl
some_or false y e = inr e

pub one_passes : {A : Type 0} (test : A → Bool) (xs : List A) → list_any test xs ≡ true → (i : ℕ) × (x : A) × (slice_get xs i ≡ Some x) × (test x ≡ true)
one_passes test [] h = cc
one_passes {A = A} test (y ∷ ys) h = go (some_or (test y) (list_any test ys) h) (λ z. one_passes test ys z)
  where
    go : (test y ≡ true) ⊎ (list_any test ys ≡ true) → (list_any test ys ≡ true → (i : ℕ) × (x : A) × (slice_get ys i ≡ Some x) × (test x ≡ true))
        → (i : ℕ) × (x : A) × (slice_get (y ∷ ys) i ≡ Some x) × (test x ≡ true)
    go (inl e) ih = (0, y, refl, e)
    go (inr e) ih = let r = ih e in (suc r.0, r.1, r.2, r.3)

pub map-twice : {A B C : Type 0} (f : A → B) (g : B → C) (xs : List A) → map g (map f xs) ≡ map (λ x. g (f x)) xs
map-twice f g [] = refl
map-twice f g (x ∷ xs) = ap (λ z. g (f x) ∷ z) (map-twice f g xs)

pub map-same : {A B : Type 0} (f g : A → B) (xs : List A) → ((i : ℕ) (x : A) → slice_get xs i ≡ Some x → f x ≡ g x) → map f xs ≡ map g xs
map-same f g [] h = refl
map-same f g (x ∷ xs) h = let e = h 0 x refl in let r = map-same f g xs (λ i y z. h (suc i) y z) in rw (e, r) refl
