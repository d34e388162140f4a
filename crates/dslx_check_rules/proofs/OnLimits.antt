-- Of the widths that are past the limit the least is named.
use Rattle.std.proofs.Common.{◌≡◌, ◌==◌, ◌||◌, ⊎_elim, ℕ, List, [], ◌∷◌, Bool, true, false, cond, min, refl, sym, ap, subst, ◌∙◌, arith, lt-ltb, le-ltb, is_lt, nat_cmp}
use Rattle.std.specs.Prelude.{Option, Some, None, if◌then◌else◌, nat_lt}
use Rattle.std.specs.Cmp.{nat_cmp_total, tied_itself}
use Rattle.std.specs.Ordering.{ordering_then}
use Rattle.std.specs.declared.cmp.Ordering.TheVariants.{Less, Equal, Greater}
use Rattle.std.proofs.lemmas.Bool.{cases_lt}
use Rattle.xb_span.specs.Fault.{earlier, precedes}
use Rattle.xb_span.specs.declared.fault.Fault.{Fault}
use Rattle.xb_span.specs.declared.fault.Fault.TheVariants.{Passed}
use Rattle.xb_span.specs.declared.limit.What.TheVariants as what
use Rattle.dslx_meaning.specs.Rules.TypeEnvs.{found_number, passes, passes_widths}
use Rattle.dslx_check_rules.specs.declared.faults.Faults.{Faults}
use Rattle.dslx_check_rules.specs.Measures.{least, least_wide}
use Rattle.dslx_check_rules.specs.Inner.Measured.{wide}
use Rattle.dslx_check_rules.specs.Seen.{named, seen}
use Rattle.dslx_check_rules.proofs.Lemmas.Seen.{seen-append}

-- a width past the limit
abbrev past : ℕ → ℕ → Fault
past end w = Passed end (record { what = what.Width; found = w; most = 128 })

first_less : (v w : ℕ) → is_lt (ordering_then (nat_cmp v w) Equal) ≡ nat_lt v w
first_less v w = by (nat_lt v w) (v == w)
  where
    by : (a b : Bool) → is_lt (ordering_then (cond a Less (cond b Equal Greater)) Equal) ≡ a
    by true b = refl
    by false true = refl
    by false false = refl

less_wide : (end v w : ℕ) → precedes (past end v) (past end w) ≡ nat_lt v w
unfolding precedes
less_wide end v w = ap (λ o. is_lt (ordering_then o (ordering_then (nat_cmp v w) Equal))) (tied_itself nat_cmp_total end) ∙ first_less v w

earlier_wide : (end w v : ℕ) → earlier (Some (past end w)) (past end v) ≡ Some (past end (min w v))
earlier_wide end w v = ⊎_elim
    (λ h. let is : v ≡ min w v = omega (arith, h) in
    ap (λ b. if b then Some (past end v) else Some (past end w)) (less_wide end v w ∙ lt-ltb v w h) ∙ ap (λ n. Some (past end n)) is)
    (λ h. let is : w ≡ min w v = omega (arith, h) in
    ap (λ b. if b then Some (past end v) else Some (past end w)) (less_wide end v w ∙ le-ltb v w h) ∙ ap (λ n. Some (past end n)) is)
    (cases_lt v w)

-- what is kept of a width past the limit
abbrev pub of_width : ℕ → Option ℕ → Faults
of_width end None = seen []
of_width end (Some w) = record { first = Some (past end w); broken = false }

of_two : (end : ℕ) (x y : Option ℕ) → ◌≡◌ {A = Faults} (record { first = named (of_width end x).first (of_width end y).first; broken = (of_width end x).broken || (of_width end y).broken }) (of_width end (least x y))
of_two end None None = refl
of_two end None (Some v) = refl
of_two end (Some w) None = refl
of_two end (Some w) (Some v) = λ i. record { first = earlier_wide end w v i; broken = false }

of_one : (end w : ℕ) → seen (passes what.Width 128 end w) ≡ of_width end (wide w)
of_one end w = by (nat_lt 128 w)
  where
    by : (b : Bool) → seen (if b then past end (found_number w) ∷ [] else []) ≡ of_width end (if b then Some (found_number w) else None)
    by true = refl
    by false = refl

pub widths_seen : (end : ℕ) (ws : List ℕ) → seen (passes_widths end ws) ≡ of_width end (least_wide ws)
widths_seen end [] = refl
widths_seen end (w ∷ ws) =
    seen-append (passes what.Width 128 end w) (passes_widths end ws)
    ∙ (λ i. record { first = named (of_one end w i).first (widths_seen end ws i).first; broken = (of_one end w i).broken || (widths_seen end ws i).broken })
    ∙ of_two end (wide w) (least_wide ws)

pub where_there : {A : Type 0} (P : Option A → Type 0) (o : Option A) (a : A) → o ≡ Some a → P (Some a) → P o
where_there P o a e h = subst P (sym e) h
