-- What is counted is how many procs and channels there are.
use Rattle.std.proofs.Common.{◌≡◌, ◌++◌, ◌+◌, ◌==◌, ◌≤◌, ◌<◌, ℕ, zero, suc, min, Bool, true, false, if◌then◌else◌, List, [], ◌∷◌, length, map, get_or, refl, sym, ap, subst, ◌∙◌, arith}
use Rattle.std.specs.Prelude.{nat_lt}
use Rattle.std.proofs.lemmas.Bool.{ltb-true, ltb-false, lt-ltb, le-ltb}
use Rattle.std.proofs.lemmas.Bool.Decides.{Decides-eqb}
use Rattle.std.proofs.lemmas.List.{length-append, length-map}
use Rattle.xb_span.specs.declared.limit.Limit.{Limit}
use Rattle.std.specs.Prelude.{Option}
use Rattle.dslx_meaning.specs.Network.{child_path}
use Rattle.dslx_core.specs.Designs.{CoreElaboration, and_instance, channel_of_end, core_children, core_elaborate, made_of, no_elaboration, elaborations_from}
use Rattle.dslx_core.specs.declared.design.Child.{Child}
use Rattle.dslx_core.specs.declared.design.Instance.{Instance}
use Rattle.dslx_interp.specs.Network.Limits.{limit_passed}
use Rattle.dslx_interp.specs.Network.Inner.Counts.{and_children, and_count, count_of, counts_from, most, nothing}
use Rattle.dslx_interp.specs.declared.network.count.Count.{Count}

-- a count is that of a family, up to the largest number
pub record Counts (c : Count) (p n : ℕ) : Type 0 where
  pub procs : c.procs ≡ min p most
  pub chans : c.chans ≡ min n most

-- so it is with each instance, wherever it stands
abbrev pub AreCounted : List Count → CoreElaboration → Type 0
AreCounted counts place = (path : List ℕ) (k : ℕ) (given : List ℕ) (number : ℕ) → Counts (get_or counts k nothing) (length (place path k given number).procs) (length (place path k given number).chans)

cut_sums : (a b x y : ℕ) → a ≡ min x most → b ≡ min y most → min (a + b) most ≡ min (x + y) most
cut_sums a b x y ea eb = omega (arith, ea, eb)

children_counted : (counts : List Count) (place : CoreElaboration) → AreCounted counts place → (path given : List ℕ) (number : ℕ) (cs : List Child) (n next : ℕ) (own : Count) (procs chans : ℕ) → Counts own procs chans
    → Counts (and_children counts own cs) (procs + length (core_children place path given number cs n next).procs) (chans + length (core_children place path given number cs n next).chans)
children_counted counts place h path given number [] n next own procs chans is =
    record { procs = is.procs ∙ ap (λ m. min m most) (nothing_more procs); chans = is.chans ∙ ap (λ m. min m most) (nothing_more chans) }
  where
    nothing_more : (m : ℕ) → m ≡ m + 0
    nothing_more m = omega arith
children_counted counts place h path given number (c ∷ cs) n next own procs chans is =
    let first = place (child_path path n) c.instance (map (channel_of_end given number) c.ends) next in
    let rest = core_children place path given number cs (suc n) (next + length first.chans) in
    let one = h (child_path path n) c.instance (map (channel_of_end given number) c.ends) next in
    let count = get_or counts c.instance nothing in
    let both : Counts (and_count own count) (procs + length first.procs) (chans + length first.chans) = record { procs = cut_sums own.procs count.procs procs (length first.procs) is.procs one.procs; chans = cut_sums own.chans count.chans chans (length first.chans) is.chans one.chans } in
    let all = children_counted counts place h path given number cs (suc n) (next + length first.chans) (and_count own count) (procs + length first.procs) (chans + length first.chans) both in
    record {
      procs = all.procs ∙ ap (λ m. min m most) (three procs first.procs rest.procs);
      chans = all.chans ∙ ap (λ m. min m most) (three chans first.chans rest.chans);
    }
  where
    three : {A : Type 0} (m : ℕ) (xs ys : List A) → (m + length xs) + length ys ≡ m + length (xs ++ ys)
    three m xs ys = omega (arith, length-append xs ys)

instance_counted : (counts : List Count) (place : CoreElaboration) → AreCounted counts place → (i : Instance) (path given : List ℕ) (number : ℕ)
    → Counts (count_of counts i) (length (core_elaborate place i path given number).procs) (length (core_elaborate place i path given number).chans)
instance_counted counts place h i path given number =
    let own = map (made_of path) i.made in
    let rest = core_children place path given number i.children 0 (number + length own) in
    let is : Counts (record { procs = 1; chans = min (length i.made) most }) 1 (length own) = record { procs = one; chans = ap (λ m. min m most) (sym (length-map i.made (made_of path))) } in
    let all = children_counted counts place h path given number i.children 0 (number + length own) (record { procs = 1; chans = min (length i.made) most }) 1 (length own) is in
    record { procs = all.procs ∙ ap (λ m. min m most) (and_one (length rest.procs)); chans = all.chans ∙ ap (λ m. min m most) (sym (length-append own rest.chans)) }
  where
    one : 1 ≡ min 1 most
    one = omega arith

    and_one : (m : ℕ) → 1 + m ≡ suc m
    and_one m = omega arith

-- one more is counted
one_counted : (counts : List Count) (place : CoreElaboration) → AreCounted counts place → (i : Instance) → AreCounted (counts ++ count_of counts i ∷ []) (and_instance (length counts) i place)
one_counted counts place h i path k given number = by_test (k == length counts) refl
  where
    at_end : (cs : List Count) (c : Count) (j : ℕ) → j ≡ length cs → get_or (cs ++ c ∷ []) j nothing ≡ c
    at_end [] c zero e = refl
    at_end [] c (suc j) e = absurd (omega (arith, e))
    at_end (x ∷ cs) c zero e = absurd (omega (arith, e))
    at_end (x ∷ cs) c (suc j) e = at_end cs c j (omega (arith, e))

    elsewhere : (cs : List Count) (c : Count) (j : ℕ) → (j ≡ length cs → ⊥) → get_or (cs ++ c ∷ []) j nothing ≡ get_or cs j nothing
    elsewhere [] c zero other = absurd (other refl)
    elsewhere [] c (suc j) other = refl
    elsewhere (x ∷ cs) c zero other = refl
    elsewhere (x ∷ cs) c (suc j) other = elsewhere cs c j (λ e. other (ap suc e))

    by_test : (b : Bool) → (k == length counts) ≡ b
        → Counts (get_or (counts ++ count_of counts i ∷ []) k nothing)
        (length (if b then core_elaborate place i path given number else place path k given number).procs)
        (length (if b then core_elaborate place i path given number else place path k given number).chans)
    by_test true e =
        subst (λ (c : Count). Counts c (length (core_elaborate place i path given number).procs) (length (core_elaborate place i path given number).chans))
        (sym (at_end counts (count_of counts i) k ((Decides-eqb k (length counts)).0 e))) (instance_counted counts place h i path given number)
    by_test false e =
        subst (λ (c : Count). Counts c (length (place path k given number).procs) (length (place path k given number).chans))
        (sym (elsewhere counts (count_of counts i) k (λ same. absurd (differ ((Decides-eqb k (length counts)).1 same) e)))) (h path k given number)
      where
        differ : {b : Bool} → b ≡ true → b ≡ false → ⊥
        differ same other = absurd (cc)

all_counted : (n : ℕ) (is : List Instance) (counts : List Count) (place : CoreElaboration) → n ≡ length counts → AreCounted counts place → AreCounted (counts_from counts is) (elaborations_from n is place)
all_counted n [] counts place e h = h
all_counted n (i ∷ is) counts place e h =
    let count : suc n ≡ length (counts ++ count_of counts i ∷ []) = omega (arith, e, length-append counts (count_of counts i ∷ [])) in
    let one = subst (λ m. AreCounted (counts ++ count_of counts i ∷ []) (and_instance m i place)) (sym e) (one_counted counts place h i) in
    all_counted (suc n) is (counts ++ count_of counts i ∷ []) (and_instance n i place) count one

-- the counts of a checked text's instances
pub instances_counted : (is : List Instance) → AreCounted (counts_from [] is) (elaborations_from 0 is no_elaboration)
instances_counted is = all_counted 0 is [] no_elaboration refl (λ path k given number. record { procs = none k; chans = none_made k })
  where
    none : (k : ℕ) → (get_or [] k nothing).procs ≡ min 0 most
    none k = refl

    none_made : (k : ℕ) → (get_or [] k nothing).chans ≡ min 0 most
    none_made k = refl

-- a limit is passed by what is counted where it is passed
past : (limit n : ℕ) → limit < most → nat_lt limit (min n most) ≡ nat_lt limit n
past limit n small = by (nat_lt limit n) refl
  where
    by : (b : Bool) → nat_lt limit n ≡ b → nat_lt limit (min n most) ≡ b
    by true e = let more : limit < n = ltb-true limit n e in let still : limit < min n most = omega (arith, small, more) in lt-ltb limit (min n most) still
    by false e = let few : n ≤ limit = ltb-false limit n e in let fewer : min n most ≤ limit = omega (arith, few) in le-ltb limit (min n most) fewer

pub same_limit : (procs chans : ℕ) → limit_passed (min procs most) (min chans most) ≡ limit_passed procs chans
same_limit procs chans =
    ap (λ b. limit_by b (nat_lt 1024 (min chans most))) (past 256 procs (omega arith)) ∙ ap (λ b. limit_by (nat_lt 256 procs) b) (past 1024 chans (omega arith))
  where
    limit_by : Bool → Bool → Option Limit
    limit_by p c = if p then limit_passed 257 0 else if c then limit_passed 0 1025 else limit_passed 0 0
