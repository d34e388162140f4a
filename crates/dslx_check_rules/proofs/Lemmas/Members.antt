-- What is kept of faults depends on which faults there are alone, and not on their order or on how often they were met.
use Rattle.std.proofs.Common.{◌≡◌, ◌⊎◌, inl, inr, ⊎_elim, ◌||◌, ℕ, List, [], ◌∷◌, Bool, true, false, slice_get, refl, sym, ap, subst, ◌∙◌, arith, ◌<◌, ◌↔◌, zero, suc, length, get_or}
use Rattle.std.specs.Prelude.{Option, Some, None, if◌then◌else◌}
use Rattle.std.specs.List.{Contains}
use Rattle.std.specs.Cmp.{both_ways}
use Rattle.std.proofs.lemmas.Option.{same_Some}
use mathlib.Core.Bool.{true≢false}
use Rattle.xb_span.specs.Fault.{precedes, key_of, first_of}
use Rattle.xb_span.specs.Limit.{index_of, limits}
use Rattle.xb_span.specs.declared.fault.Fault.{Fault}
use Rattle.xb_span.specs.declared.fault.Fault.TheVariants.{Whole, Broken, Passed}
use Rattle.xb_span.specs.declared.limit.What.{What}
use Rattle.xb_span.specs.declared.limit.What.TheVariants as what
use Rattle.dslx_meaning.specs.Rules.TypeEnvs.{is_rule, has_broken}
use Rattle.dslx_check_rules.specs.Seen.{named, seen}
use Rattle.dslx_check_rules.proofs.Lemmas.Orders.{not_precedes_trans, one_key, precedes_asym, precedes_irrefl}
use Rattle.dslx_check_rules.proofs.Lemmas.Seen.{first_from-held}

-- ---- members

abbrev IsAmong : Fault → List Fault → Type 0
IsAmong f [] = ⊥
IsAmong f (g ∷ gs) = (f ≡ g) ⊎ IsAmong f gs

among_at : (fs : List Fault) (f : Fault) (k : ℕ) → k < length fs → get_or fs k f ≡ f → IsAmong f fs
among_at [] f k h e = absurd (omega (arith, h))
among_at (g ∷ fs) f zero h e = inl (sym e)
among_at (g ∷ fs) f (suc k) h e = inr (among_at fs f k (omega (arith, h)) e)

contained : (fs : List Fault) (f : Fault) → IsAmong f fs → Contains fs f
contained [] f i = absurd i
contained (g ∷ fs) f (inl e) = (0, omega arith, sym e)
contained (g ∷ fs) f (inr i) = let c = contained fs f i in (suc c.0, omega (arith, c.1), c.2)

-- the faults of each are among those of the other
record HaveSameFaults (a b : List Fault) : Type 0 where
  there : (f : Fault) → IsAmong f a → IsAmong f b
  back : (f : Fault) → IsAmong f b → IsAmong f a

same_faults : (a b : List Fault) → ((f : Fault) → Contains a f ↔ Contains b f) → HaveSameFaults a b
same_faults a b same = record {
  there = λ f i. let c = (same f).0 (contained a f i) in among_at b f c.0 c.1 c.2;
  back = λ f i. let c = (same f).1 (contained b f i) in among_at a f c.0 c.1 c.2;
}

-- ---- the least of a list

record IsLeast (f : Fault) (fs : List Fault) : Type 0 where
  among : IsAmong f fs
  least : (g : Fault) → IsAmong g fs → precedes g f ≡ false

-- the first of all, or nothing
abbrev IsFirst : Option Fault → List Fault → Type 0
IsFirst None fs = (g : Fault) → IsAmong g fs → ⊥
IsFirst (Some f) fs = IsLeast f fs

first_one_more : (f : Fault) (fs : List Fault) (found : Option Fault) → IsFirst found fs → IsFirst (named (Some f) found) (f ∷ fs)
first_one_more f fs None h = record {
  among = inl refl;
  least = λ g i. ⊎_elim (λ e. ap (λ x. precedes x f) e ∙ precedes_irrefl f) (λ j. absurd (h g j)) i;
}
first_one_more f fs (Some k) h = by (precedes k f) refl
  where
    by : (b : Bool) → precedes k f ≡ b → IsFirst (if b then Some k else Some f) (f ∷ fs)
    by true e = record {
      among = inr h.among;
      least = λ g i. ⊎_elim (λ p. ap (λ x. precedes x k) p ∙ precedes_asym k f e) (h.least g) i;
    }
    by false e = record {
      among = inl refl;
      least = λ g i. ⊎_elim (λ p. ap (λ x. precedes x f) p ∙ precedes_irrefl f) (λ j. not_precedes_trans g k f (h.least g j) e) i;
    }

first_is : (fs : List Fault) → IsFirst (first_of fs) fs
first_is [] = λ g i. i
first_is (f ∷ fs) = subst (λ o. IsFirst o (f ∷ fs)) (sym (first_from-held (Some f) fs)) (first_one_more f fs (first_of fs) (first_is fs))

-- ---- faults of one key are one

limit_at : (w : What) → slice_get limits (index_of w) ≡ Some w
limit_at what.File = refl
limit_at what.Nesting = refl
limit_at what.Width = refl
limit_at what.Leaves = refl
limit_at what.Levels = refl
limit_at what.Word = refl
limit_at what.Turns = refl
limit_at what.Size = refl
limit_at what.Sites = refl
limit_at what.Depth = refl
limit_at what.Instances = refl
limit_at what.Procs = refl
limit_at what.Channels = refl
limit_at what.Cycles = refl

one_what : (v w : What) → index_of v ≡ index_of w → v ≡ w
one_what v w e = same_Some v w (sym (limit_at v) ∙ ap (slice_get limits) e ∙ limit_at w)

-- the number at a place of a key
abbrev nth : ℕ → List ℕ → ℕ
nth n xs = number (slice_get xs n)
  where
    number : Option ℕ → ℕ
    number None = 0
    number (Some k) = k

apart : {A : Type 0} → ◌≡◌ {A = ℕ} 0 1 → A
apart e = absurd (omega arith)

one_fault : (f g : Fault) → key_of f ≡ key_of g → f ≡ g
one_fault (Whole l) (Whole k) e =
    let w = one_what l.what k.what (ap (nth 3) e) in
    λ i. Whole (record { what = w i; found = ap (nth 4) e i; most = ap (nth 5) e i })
one_fault (Whole l) (Broken rule span) e = apart (ap (nth 0) e)
one_fault (Whole l) (Passed end k) e = apart (ap (nth 0) e)
one_fault (Broken rule span) (Whole k) e = apart (sym (ap (nth 0) e))
one_fault (Broken rule span) (Broken rule' span') e =
    λ i. Broken (record { 0 = ap (nth 3) e i }) (record { from = ap (nth 4) e i; to = ap (nth 1) e i })
one_fault (Broken rule span) (Passed end k) e = apart (ap (nth 2) e)
one_fault (Passed end l) (Whole k) e = apart (sym (ap (nth 0) e))
one_fault (Passed end l) (Broken rule span) e = apart (sym (ap (nth 2) e))
one_fault (Passed end l) (Passed end' k) e =
    let w = one_what l.what k.what (ap (nth 3) e) in
    λ i. Passed (ap (nth 1) e i) (record { what = w i; found = ap (nth 4) e i; most = ap (nth 5) e i })

-- ---- lists of the same faults

firsts_are : (a b : List Fault) → HaveSameFaults a b → (x y : Option Fault) → IsFirst x a → IsFirst y b → x ≡ y
firsts_are a b same None None h g = refl
firsts_are a b same None (Some k) h g = absurd (h k (same.back k g.among))
firsts_are a b same (Some f) None h g = absurd (g f (same.there f h.among))
firsts_are a b same (Some f) (Some k) h g =
    ap Some (one_fault f k (one_key f k (g.least f (same.there f h.among)) (h.least k (same.back k g.among))))

abbrev HasRule : List Fault → Type 0
HasRule fs = (f : Fault) × IsAmong f fs × (is_rule f ≡ true)

rule_here : (f : Fault) (fs : List Fault) (b : Bool) → is_rule f ≡ b → (b || has_broken fs) ≡ true → (has_broken fs ≡ true → HasRule fs) → HasRule (f ∷ fs)
rule_here f fs true r e later = (f, inl refl, r)
rule_here f fs false r e later = let h = later e in (h.0, inr h.1, h.2)

rule_among : (fs : List Fault) → has_broken fs ≡ true → HasRule fs
rule_among [] e = absurd (true≢false (sym e))
rule_among (f ∷ fs) e = rule_here f fs (is_rule f) refl e (λ h. rule_among fs h)

broken_by : (fs : List Fault) (f : Fault) → IsAmong f fs → is_rule f ≡ true → has_broken fs ≡ true
broken_by [] f i r = absurd i
broken_by (g ∷ fs) f (inl e) r = ap (λ b. b || has_broken fs) (ap is_rule (sym e) ∙ r)
broken_by (g ∷ fs) f (inr i) r = ap (λ b. is_rule g || b) (broken_by fs f i r) ∙ or_true (is_rule g)
  where
    or_true : (b : Bool) → (b || true) ≡ true
    or_true true = refl
    or_true false = refl

kept_alike : (a b : List Fault) → HaveSameFaults a b → seen a ≡ seen b
kept_alike a b same = λ i. record {
  first = firsts_are a b same (first_of a) (first_of b) (first_is a) (first_is b) i;
  broken = both_ways (has_broken a) (has_broken b)
      (λ e. let h = rule_among a e in broken_by b h.0 (same.there h.0 h.1) h.2)
      (λ e. let h = rule_among b e in broken_by a h.0 (same.back h.0 h.1) h.2) i;
}

pub seen_by_members : (a b : List Fault) → ((f : Fault) → Contains a f ↔ Contains b f) → seen a ≡ seen b
seen_by_members a b same = kept_alike a b (same_faults a b same)

pub none_kept : (fs : List Fault) → (first_of fs ≡ None) ↔ (fs ≡ [])
none_kept [] = (λ e. refl, λ e. refl)
none_kept (f ∷ fs) = (λ e. absurd (subst (λ o. IsFirst o (f ∷ fs)) e (first_is (f ∷ fs)) f (inl refl)), λ e. cc)
