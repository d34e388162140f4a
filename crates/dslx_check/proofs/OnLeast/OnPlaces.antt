-- Faults by their places in the order.
use Rattle.std.proofs.Common.{◌≡◌, ◌∙◌, ℕ, zero, suc, List, [], ◌∷◌, Some, slice_get, refl, sym, ap, arith}
use Rattle.std.proofs.lemmas.Option.{same_Some}
use Rattle.xb_span.specs.Fault.{key_of}
use Rattle.xb_span.specs.Limit.{index_of, limits}
use Rattle.xb_span.specs.declared.fault.Fault.{Fault}
use Rattle.xb_span.specs.declared.fault.Fault.TheVariants.{Whole, Broken, Passed}
use Rattle.xb_span.specs.declared.span.Rule.{Rule}
use Rattle.xb_span.specs.declared.limit.Limit.{Limit}
use Rattle.xb_span.specs.declared.limit.What.{What}
use Rattle.xb_span.specs.declared.limit.What.TheVariants as what
use Rattle.xb_span.specs.declared.span.Span.{Span}

-- ---- limits by their index

limit_at : (w : What) → slice_get limits (index_of w) ≡ Some w
limit_at what.File = refl
limit_at what.Nesting = refl
limit_at what.Width = refl
limit_at what.Leaves = refl
limit_at what.Levels = refl
limit_at what.Word = refl
limit_at what.Turns = refl
limit_at what.Size = refl
limit_at what.Sites = refl
limit_at what.Depth = refl
limit_at what.Instances = refl
limit_at what.Procs = refl
limit_at what.Channels = refl
limit_at what.Cycles = refl

one_limit : (v w : What) → index_of v ≡ index_of w → v ≡ w
one_limit v w e = same_Some v w (sym (limit_at v) ∙ ap (slice_get limits) e ∙ limit_at w)

-- ---- the parts of a place

abbrev head : List ℕ → ℕ
head [] = 0
head (x ∷ xs) = x

abbrev tail : List ℕ → List ℕ
tail [] = []
tail (x ∷ xs) = xs

abbrev part1 : List ℕ → ℕ
part1 xs = head (tail xs)

abbrev part2 : List ℕ → ℕ
part2 xs = head (tail (tail xs))

abbrev part3 : List ℕ → ℕ
part3 xs = head (tail (tail (tail xs)))

abbrev part4 : List ℕ → ℕ
part4 xs = head (tail (tail (tail (tail xs))))

abbrev part5 : List ℕ → ℕ
part5 xs = head (tail (tail (tail (tail (tail xs)))))

differ : {A : Type 0} → zero ≡ suc zero → A
differ e = absurd (omega (arith, e))

one_whole : (l k : Limit) → index_of l.what ≡ index_of k.what → l.found ≡ k.found → l.most ≡ k.most → l ≡ k
one_whole l k w f m = λ i. record { what = one_limit l.what k.what w i; found = f i; most = m i }

one_rule : (r q : Rule) → r.0 ≡ q.0 → r ≡ q
one_rule r q e = λ i. record { 0 = e i }

one_span : (s t : Span) → s.from ≡ t.from → s.to ≡ t.to → s ≡ t
one_span s t a b = λ i. record { from = a i; to = b i }

pub one_place : (f g : Fault) → key_of f ≡ key_of g → f ≡ g
one_place (Whole l) (Whole k) e = ap Whole (one_whole l k (ap part3 e) (ap part4 e) (ap part5 e))
one_place (Whole l) (Broken rule span) e = differ (ap head e)
one_place (Whole l) (Passed end k) e = differ (ap head e)
one_place (Broken rule span) (Whole k) e = differ (sym (ap head e))
one_place (Broken rule span) (Broken other at) e = λ i. Broken (one_rule rule other (ap part3 e) i) (one_span span at (ap part4 e) (ap part1 e) i)
one_place (Broken rule span) (Passed end k) e = differ (ap part2 e)
one_place (Passed end l) (Whole k) e = differ (sym (ap head e))
one_place (Passed end l) (Broken other at) e = differ (sym (ap part2 e))
one_place (Passed end l) (Passed at k) e = λ i. Passed (ap part1 e i) (one_whole l k (ap part3 e) (ap part4 e) (ap part5 e) i)
