-- Ends that are handed over, one after another.
use Rattle.std.proofs.Common.{◌≡◌, ◌∙◌, ◌++◌, ◌<◌, ◌≤◌, ◌+◌, ℕ, zero, suc, List, [], ◌∷◌, Option, map, length, take, min, get_or, append_assoc, arith, refl, sym, ap, subst}
use Rattle.std.specs.List.{AllByRecursion}
use Rattle.std.proofs.lemmas.List.{append-nil}
use Rattle.xb_span.specs.declared.fault.Fault.{Fault}
use Rattle.dslx_tree.specs.declared.ident.Ident.{Ident}
use Rattle.dslx_tree.specs.declared.process.End.{End}
use Rattle.dslx_meaning.specs.declared.ty.DslxType.{DslxType}
use Rattle.dslx_meaning.specs.Rules.ProcRules as the
use Rattle.dslx_check_facts.specs.Known.{at_place}
use Rattle.dslx_check_declarations.specs.Spawns.{one_handed}

pub at_all : {A : Type 0} (P : A → Type 0) (xs : List A) (i : ℕ) (x : A) → AllByRecursion P xs → i < length xs → x ≡ get_or xs i x → P x
at_all P [] i x h k e = absurd (omega (arith, k))
at_all P (y ∷ xs) zero x h k e = subst P (sym e) h.0
at_all P (y ∷ xs) (suc i) x h k e = at_all P xs i x h.1 (omega (arith, k)) e

-- what stands at a place
pub place_read : {A : Type 0} (xs : List (Option A)) (i : ℕ) (x : Option A) → i < length xs → x ≡ at_place xs i → x ≡ get_or xs i x
place_read [] i x h e = absurd (omega (arith, h))
place_read (y ∷ xs) zero x h e = e
place_read (y ∷ xs) (suc i) x h e = place_read xs i x (omega (arith, h)) e

module _ {A : Type 0} (g : A → Option DslxType) (m : the.Made) where
  step : (ws : List A) (es : List End) (is : List Ident) (i : ℕ) (w : A) (e : End) (x : Ident) → i < length ws → i < length es → i < length is → w ≡ get_or ws i w → e ≡ get_or es i e → x ≡ get_or is i x
      → the.handed_faults m (map g (take i ws)) es is ++ one_handed m (g w) e x ≡ the.handed_faults m (map g (take (suc i) ws)) es is
  step [] es is i w e x a b c at end ident = absurd (omega (arith, a))
  step (v ∷ ws) [] is i w e x a b c at end ident = absurd (omega (arith, b))
  step (v ∷ ws) (f ∷ es) [] i w e x a b c at end ident = absurd (omega (arith, c))
  step (v ∷ ws) (f ∷ es) (y ∷ is) zero w e x a b c at end ident = (λ i. one_handed m (g (at i)) (end i) (ident i)) ∙ sym (append-nil (one_handed m (g v) f y))
  step (v ∷ ws) (f ∷ es) (y ∷ is) (suc i) w e x a b c at end ident =
      append_assoc (one_handed m (g v) f y) (the.handed_faults m (map g (take i ws)) es is) (one_handed m (g w) e x)
      ∙ ap (λ (fs : List Fault). one_handed m (g v) f y ++ fs) (step ws es is i w e x (omega (arith, a)) (omega (arith, b)) (omega (arith, c)) at end ident)

  pub handed_next : (ws : List A) (es : List End) (is : List Ident) (i : ℕ) (w : A) (e : End) (x : Ident) → i < length ws → i < length es → i < length is → w ≡ get_or ws i w → e ≡ get_or es i e → x ≡ get_or is i x
      → the.handed_faults m (map g (take i ws)) es is ++ one_handed m (g w) e x ≡ the.handed_faults m (map g (take (i + 1) ws)) es is
  handed_next ws es is i w e x a b c at end ident =
      step ws es is i w e x a b c at end ident ∙ ap (λ k. the.handed_faults m (map g (take k ws)) es is) (let on : suc i ≡ i + 1 = omega arith in on)

  pub handed_all : (ws : List A) (es : List End) (is : List Ident) (i : ℕ) → min (min (length ws) (length es)) (length is) ≤ i → the.handed_faults m (map g (take i ws)) es is ≡ the.handed_faults m (map g ws) es is
  handed_all [] es is zero h = refl
  handed_all [] es is (suc i) h = refl
  handed_all (w ∷ ws) [] is zero h = refl
  handed_all (w ∷ ws) [] is (suc i) h = refl
  handed_all (w ∷ ws) (e ∷ es) [] zero h = refl
  handed_all (w ∷ ws) (e ∷ es) [] (suc i) h = refl
  handed_all (w ∷ ws) (e ∷ es) (x ∷ is) zero h = absurd (omega (arith, h))
  handed_all (w ∷ ws) (e ∷ es) (x ∷ is) (suc i) h = ap (λ (fs : List Fault). one_handed m (g w) e x ++ fs) (handed_all ws es is i (omega (arith, h)))
