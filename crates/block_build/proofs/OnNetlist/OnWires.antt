-- What wires carry.
use Rattle.std.proofs.Common.{◌≡◌, ℕ, suc, ◌+◌, ◌<◌, ◌≤◌, List, [], ◌∷◌, ◌++◌, length, refl, sym, ap, ◌∙◌, subst, arith, true, false, eqb}
use Rattle.std.specs.Prelude.{◌⊎◌}
use Rattle.std.proofs.Common.{inl, inr}
use Rattle.std.proofs.lemmas.Bool.{cases_lt}
use Rattle.std.proofs.lemmas.Bool.Decides.{nat_tests}
use Rattle.std.specs.List.{AllByRecursion}
use Rattle.xb_bits.specs.Word.{Word}
use Rattle.vlog_tree.specs.Value.{Values, expr_value}
use Rattle.vlog_tree.specs.Forms.{reads}
use Rattle.vlog_tree.specs.Meaning.{AreDriven}
use Rattle.vlog_tree.proofs.Lemmas.Settling.{each_other, expr_same}
use Rattle.block_build.specs.Netlist.Wires.{Wire, with_signal, carried, ReadEarlier, assigned}

same_number : (s : ℕ) → eqb s s ≡ true
same_number s = grind (arith, nat_tests)

other_number : (n s : ℕ) → (n ≡ s → ⊥) → eqb n s ≡ false
other_number n s h = grind (arith, nat_tests)

kept : (n s : ℕ) (w : Word) (values : Values) → (n ≡ s → ⊥) → with_signal n w values s ≡ values s
kept n s w values h = let e = other_number n s h in rw e refl

written : (n : ℕ) (w : Word) (values : Values) → with_signal n w values n ≡ w
written n w values = let e = same_number n in rw e refl

-- what has a number below the wires' isn't touched
pub carried_below : (n : ℕ) (wires : List Wire) (values : Values) (s : ℕ) → s < n → carried n wires values s ≡ values s
carried_below n [] values s l = refl
carried_below n (wire ∷ wires) values s l =
    carried_below (suc n) wires (with_signal n (expr_value values wire.driver) values) s (omega arith)
    ∙ kept n s (expr_value values wire.driver) values (λ e. omega arith)

-- whatever gives each wire what drives it is what they carry
rewritten : (n : ℕ) (w : Word) (values : Values) → values n ≡ w → (s : ℕ) → with_signal n w values s ≡ values s
rewritten n w values e s = go (cases_eq_number n s)
  where
    cases_eq_number : (j o : ℕ) → (j ≡ o) ⊎ (j ≡ o → ⊥)
    cases_eq_number j o = split (cases_lt j o) (cases_lt o j)
      where
        split : ((j < o) ⊎ (o ≤ j)) → ((o < j) ⊎ (j ≤ o)) → (j ≡ o) ⊎ (j ≡ o → ⊥)
        split (inl a) b = inr (λ e. omega arith)
        split (inr a) (inl b) = inr (λ e. omega arith)
        split (inr a) (inr b) = inl (omega arith)

    go : (n ≡ s) ⊎ (n ≡ s → ⊥) → with_signal n w values s ≡ values s
    go (inl h) = subst (λ k. with_signal n w values k ≡ values k) h (written n w values ∙ sym e)
    go (inr h) = kept n s w values h

pub driven_values_are_carried : (n : ℕ) (wires : List Wire) (values : Values) → AreDriven values (assigned n wires) → carried n wires values ≡ values
driven_values_are_carried n [] values h = refl
driven_values_are_carried n (wire ∷ wires) values h =
    let same : with_signal n (expr_value values wire.driver) values ≡ values = λ i s. rewritten n (expr_value values wire.driver) values h.0 s i in
    ap (carried (suc n) wires) same ∙ driven_values_are_carried (suc n) wires values h.1

-- and in order they carry what drives them
pub carried_values_are_driven : (n : ℕ) (wires : List Wire) (values : Values) → ReadEarlier n wires → AreDriven (carried n wires values) (assigned n wires)
carried_values_are_driven n [] values order = tt
carried_values_are_driven n (wire ∷ wires) values order =
    let w = expr_value values wire.driver in
    let next = with_signal n w values in
    let here : carried (suc n) wires next n ≡ w = carried_below (suc n) wires next n (omega arith) ∙ written n w values in
    let reads_same : AllByRecursion (λ s. values s ≡ carried (suc n) wires next s) (reads wire.driver) =
    each_other (λ s. s < n) (λ s. values s ≡ carried (suc n) wires next s)
    (λ s l. sym (carried_below (suc n) wires next s (omega arith) ∙ kept n s w values (λ e. omega arith))) (reads wire.driver) order.0 in
    (here ∙ expr_same values (carried (suc n) wires next) wire.driver reads_same, carried_values_are_driven (suc n) wires next order.1)

-- one wire more
pub wired_with_one_more : (v : Values) (n : ℕ) (wires : List Wire) (wire : Wire) → AreDriven v (assigned n (wires ++ wire ∷ [])) → AreDriven v (assigned n wires) × (v (n + length wires) ≡ expr_value v wire.driver)
wired_with_one_more v n [] wire h = let at : n + 0 ≡ n = omega arith in (tt, ap v at ∙ h.0)
wired_with_one_more v n (x ∷ wires) wire h =
    let at : n + suc (length wires) ≡ suc n + length wires = omega arith in
    let rest = wired_with_one_more v (suc n) wires wire h.1 in
    ((h.0, rest.0), ap v at ∙ rest.1)
