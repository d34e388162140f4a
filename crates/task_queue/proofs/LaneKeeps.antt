-- Each step keeps the rule of a deque.
use Rattle.std.proofs.Common.{◌≡◌, ◌≢◌, ℕ, zero, suc, ◌+◌, ◌<◌, true, false, true≢false, Bool, List, [], ◌∷◌, ◌++◌, length, set, sym, refl, ap, ◌∙◌, subst, ⊎_elim, arith, Some, None, Option}
use Rattle.std.specs.Prelude.{sum_by}
use Rattle.std.proofs.lemmas.List.Sums.{sum_by-cons}
use mathlib.Core.Option.{some, some-ne-none}
use lib.ListN.{get_elem?}
use Rattle.crossbeam_deque.specs.Tasks.{Pushes, Takes, Finds, FindsFew, Forks, Merges}
use Rattle.crossbeam_deque.proofs.Lists.{at_snoc}
use Rattle.task_queue.specs.declared.lane.tally.Tally.{Tally}
use Rattle.task_queue.specs.declared.lane.item.Item.{Item}
use Rattle.task_queue.specs.declared.lane.item.Item.TheVariants as item
use Rattle.task_queue.specs.Lane.Rule.{Standing, KnowsLane, IsIdle, unused, keeping, giving, both, spent, weigh, AreTasksThere, LiesThere, IsDeque}
use Rattle.task_queue.specs.Lane.Steps.{OpensBy, IsExhausted, PutsBy, TakesBy}
use Rattle.task_queue.proofs.Sums.{sum_append, sum_one, sum_set, two_below, sum_alone, all_set}

module _ {T N : Type 0} (number : T → ℕ) (run : T → N) (fact : T → Type 0) where
  abbrev Rule : List (Item N T) → List (Tally N) → Type 0
  Rule = IsDeque number run fact

  -- of a pass: what it knows if it has a part, and that it did nothing if it has none
  abbrev Fits : Standing N → Tally N → Type 0
  Fits at v = (0 < v.parts → KnowsLane at v) × (v.parts ≡ 0 → IsIdle v)

  fits : (items : List (Item N T)) (views : List (Tally N)) (h : Rule items views) (pass : ℕ) (v : Tally N) → get_elem? views pass ≡ some v → Fits h.at v
  fits items views h pass v at = (h.knows pass v at, h.idle pass v at)

  -- the others of a pass with all parts have none
  others_idle : (views : List (Tally N)) (pass : ℕ) (v : Tally N) → get_elem? views pass ≡ some v → v.parts ≡ 1024 → sum_by (λ (u : Tally N). u.parts) views ≡ 1024
      → (j : ℕ) (u : Tally N) → j ≢ pass → get_elem? views j ≡ some u → u.parts ≡ 0
  others_idle views pass v at whole all j u other e = omega (arith, two_below (λ (x : Tally N). x.parts) views pass j v u other at e, whole, all)

  -- what such a pass put is all that was put, and what it took all that was taken
  module _ (items : List (Item N T)) (views : List (Tally N)) (h : Rule items views) (pass : ℕ) (v : Tally N) (at : get_elem? views pass ≡ some v) (whole : v.parts ≡ 1024) where
    known : KnowsLane h.at v
    known = h.knows pass v at (omega (arith, whole))

    nothing_else : (j : ℕ) (u : Tally N) → j ≢ pass → get_elem? views j ≡ some u → IsIdle u
    nothing_else j u other e = h.idle j u e (others_idle views pass v at whole h.parts j u other e)

    total : (f : ℕ → ℕ) → sum_by f v.put ≡ sum_by f v.taken + sum_by (weigh number f) items
    total f =
        let puts = sum_alone (λ (u : Tally N). sum_by f u.put) views pass v at (λ j u other e. ap (sum_by f) (nothing_else j u other e).put) in
        let takes = sum_alone (λ (u : Tally N). sum_by f u.taken) views pass v at (λ j u other e. ap (sum_by f) (nothing_else j u other e).taken) in
        omega (arith, h.once f, puts, takes)

  pub begins : Rule [] (unused ∷ [])
  begins =
      let at : Standing N = record { run = None; opens = false } in
      let one : (j : ℕ) (u : Tally N) → get_elem? (unused ∷ []) j ≡ some u → Fits at u =
      all_set (λ j u. Fits at u) (unused ∷ []) 0 unused ((λ _. record { run = refl; opens = refl }), (λ e. let k = e in absurd (omega (arith, k)))) (λ j u other e. absurd (nothing j u other e)) in
      record {
        at = at;
        parts = sum_one (λ (v : Tally N). v.parts) unused;
        once = λ h. omega (arith, sum_one (λ (v : Tally N). sum_by h v.put) unused, sum_one (λ (v : Tally N). sum_by h v.taken) unused);
        lies = tt;
        knows = λ j u e. (one j u e).0;
        idle = λ j u e. (one j u e).1;
      }
    where
      nothing : (j : ℕ) (u : Tally N) → j ≢ 0 → get_elem? (unused ∷ []) j ≡ some u → ⊥
      nothing zero u other e = other refl
      nothing (suc j) u other e = some-ne-none u (sym e)

  -- tasks of a run, whatever the deque held before
  lies_tasks : (b : Bool) (runtime : Option N) (items : List (Item N T)) → b ≡ false → LiesThere number run fact b runtime items → AreTasksThere number run fact runtime items
  lies_tasks true runtime items e l = absurd (true≢false e)
  lies_tasks false runtime items e l = l

  tasks_lie : (b : Bool) (runtime : Option N) (items : List (Item N T)) → b ≡ false → AreTasksThere number run fact runtime items → LiesThere number run fact b runtime items
  tasks_lie true runtime items e l = absurd (true≢false e)
  tasks_lie false runtime items e l = l

  lies_open : (b : Bool) (runtime : Option N) (items : List (Item N T)) → b ≡ true → LiesThere number run fact b runtime items → (r : N) × (items ≡ item.Run r ∷ [])
  lies_open true runtime items e l = l
  lies_open false runtime items e l = absurd (true≢false (sym e))

  more_tasks : (runtime : Option N) (items : List (Item N T)) (x : T) → AreTasksThere number run fact runtime items → runtime ≡ Some (run x) → fact x → AreTasksThere number run fact runtime (items ++ item.Task x ∷ [])
  more_tasks runtime [] x each e f = ((e, f), tt)
  more_tasks runtime (y ∷ ys) x each e f = (each.0, more_tasks runtime ys x each.1 e f)

  -- where they add up to nothing there are none
  no_tasks : (runtime : Option N) (items : List (Item N T)) → AreTasksThere number run fact runtime items → sum_by (weigh number (λ _. 1)) items ≡ 0 → items ≡ []
  no_tasks runtime [] each e = refl
  no_tasks runtime (item.Run r ∷ xs) each e = absurd each.0
  no_tasks runtime (item.Task x ∷ xs) each e = absurd (omega (arith, e, sum_by-cons (weigh number (λ _. 1)) (item.Task x) xs))

  -- of which run the deque is is put into it
  pub opens : (port : ℕ) (v : Tally N) (r : N) → v.parts ≡ 1024 → v.opens ≡ false → v.put ≡ [] → v.taken ≡ []
      → Pushes Rule port v (item.Run r ∷ []) (OpensBy {T = T} v (item.Run r ∷ []))
  opens port v r whole shut none_put none_taken items views h at =
      let mine = known items views h port v at whole in
      let all = total items views h port v at whole (λ _. 1) in
      let none : sum_by (weigh number (λ _. 1)) items ≡ 0 =
      omega (arith, all, ap (sum_by (λ (n : ℕ). 1)) none_put, ap (sum_by (λ (n : ℕ). 1)) none_taken) in
      let empty = no_tasks h.at.run items (lies_tasks h.at.opens h.at.run items (sym mine.opens ∙ shut) h.lies) none in
      let now : Standing N = record { run = Some r; opens = true } in
      let w : Tally N = record v { opens = true; run = Some r } in
      let each : (j : ℕ) (u : Tally N) → get_elem? (set views port w) j ≡ some u → Fits now u =
      all_set (λ j u. Fits now u) views port w ((λ _. record { run = refl; opens = refl }), λ e. absurd (omega (arith, whole, e)))
      (λ j u other e. ((λ p. absurd (omega (arith, p, others_idle views port v at whole h.parts j u other e))), h.idle j u e)) in (
        w,
        record {
          at = now;
          parts = omega (arith, sum_set (λ (u : Tally N). u.parts) views port v w at, h.parts);
          once = λ f.
              omega (arith, sum_set (λ (u : Tally N). sum_by f u.put) views port v w at, sum_set (λ (u : Tally N). sum_by f u.taken) views port v w at, h.once f, sum_append (weigh number f) items (item.Run r ∷ []), sum_one (weigh number f) (item.Run r));
          lies = (r, ap (λ (xs : List (Item N T)). xs ++ item.Run r ∷ []) empty);
          knows = λ j u e. (each j u e).0;
          idle = λ j u e. (each j u e).1;
        },
        refl,
      )

  alone : (x : Item N T) (xs items : List (Item N T)) (y : Item N T) → (x ∷ xs) ++ items ≡ y ∷ [] → items ≡ []
  alone x [] [] y e = refl
  alone x [] (z ∷ zs) y e = cc
  alone x (z ∷ zs) items y e = cc

  one_of : (xs items : List (Item N T)) (y : Item N T) → 0 < length xs → xs ++ items ≡ y ∷ [] → items ≡ []
  one_of [] items y l e = absurd (omega (arith, l))
  one_of (x ∷ xs) items y l e = alone x xs items y e

  -- and taken out again
  pub taken_out : (port : ℕ) (v : Tally N) → v.parts ≡ 1024 → v.opens ≡ true → Takes Rule port v 1 (λ xs w. w ≡ record v { opens = false })
  taken_out port v whole open_ xs items views least few h at =
      let mine = known (xs ++ items) views h port v at whole in
      let there = lies_open h.at.opens h.at.run (xs ++ items) (sym mine.opens ∙ open_) h.lies in
      let empty = one_of xs items (item.Run there.0) least there.1 in
      let now : Standing N = record { run = h.at.run; opens = false } in
      let w : Tally N = record v { opens = false } in
      let each : (j : ℕ) (u : Tally N) → get_elem? (set views port w) j ≡ some u → Fits now u =
      all_set (λ j u. Fits now u) views port w ((λ _. record { run = mine.run; opens = refl }), λ e. absurd (omega (arith, whole, e)))
      (λ j u other e. ((λ p. absurd (omega (arith, p, others_idle views port v at whole h.parts j u other e))), h.idle j u e)) in (
        w,
        record {
          at = now;
          parts = omega (arith, sum_set (λ (u : Tally N). u.parts) views port v w at, h.parts);
          once = λ f.
              let all = ap (sum_by (weigh number f)) there.1 in
              let left = ap (sum_by (weigh number f)) empty in
              omega (arith, sum_set (λ (u : Tally N). sum_by f u.put) views port v w at, sum_set (λ (u : Tally N). sum_by f u.taken) views port v w at, h.once f, all, left, sum_one (weigh number f) (item.Run there.0));
          lies = subst (λ (ys : List (Item N T)). AreTasksThere number run fact h.at.run ys) (sym empty) tt;
          knows = λ j u e. (each j u e).0;
          idle = λ j u e. (each j u e).1;
        },
        refl,
      )

  -- there it is, so the deque isn't empty
  pub not_empty : (port : ℕ) (v : Tally N) → v.parts ≡ 1024 → v.opens ≡ true → Finds Rule port v ⊥
  not_empty port v whole open_ views h at =
      let mine = known [] views h port v at whole in
      let there = lies_open h.at.opens h.at.run [] (sym mine.opens ∙ open_) h.lies in
      none there.0 there.1
    where
      none : (r : N) → ◌≡◌ {A = List (Item N T)} [] (item.Run r ∷ []) → ⊥
      none r e = cc

  -- a task is put
  pub puts : (port : ℕ) (v : Tally N) (x : T) → 0 < v.parts → v.opens ≡ false → v.run ≡ Some (run x) → fact x
      → Pushes Rule port v (item.Task x ∷ []) (PutsBy number v (item.Task x ∷ []))
  puts port v x part shut runtime holds items views h at =
      let mine = h.knows port v at part in
      let w : Tally N = record v { put = v.put ++ number x ∷ [] } in
      let each : (j : ℕ) (u : Tally N) → get_elem? (set views port w) j ≡ some u → Fits h.at u =
      all_set (λ j u. Fits h.at u) views port w ((λ _. record { run = mine.run; opens = mine.opens }), λ e. absurd (omega (arith, part, e))) (λ j u other e. fits items views h j u e) in (
        w,
        record {
          at = h.at;
          parts = omega (arith, sum_set (λ (u : Tally N). u.parts) views port v w at, h.parts);
          once = λ f.
              omega (arith, sum_set (λ (u : Tally N). sum_by f u.put) views port v w at, sum_set (λ (u : Tally N). sum_by f u.taken) views port v w at, h.once f, sum_append f v.put (number x ∷ []), sum_one f (number x), sum_append (weigh number f) items (item.Task x ∷ []), sum_one (weigh {N = N} number f) (item.Task x));
          lies = tasks_lie h.at.opens h.at.run (items ++ item.Task x ∷ []) (sym mine.opens ∙ shut)
              (more_tasks h.at.run items x (lies_tasks h.at.opens h.at.run items (sym mine.opens ∙ shut) h.lies) (sym mine.run ∙ runtime) holds);
          knows = λ j u e. (each j u e).0;
          idle = λ j u e. (each j u e).1;
        },
        refl,
      )

  -- a task is taken at the front
  pub takes : (port : ℕ) (v : Tally N) → 0 < v.parts → v.opens ≡ false → Takes Rule port v 1 (TakesBy number run fact v)
  takes port v part shut [] items views least few h at = absurd (omega (arith, least))
  takes port v part shut (y ∷ z ∷ zs) items views least few h at = absurd (omega (arith, few))
  takes port v part shut (item.Run r ∷ []) items views least few h at =
      let mine = h.knows port v at part in
      absurd (lies_tasks h.at.opens h.at.run (item.Run r ∷ items) (sym mine.opens ∙ shut) h.lies).0
  takes port v part shut (item.Task x ∷ []) items views least few h at =
      let mine = h.knows port v at part in
      let there = lies_tasks h.at.opens h.at.run (item.Task x ∷ items) (sym mine.opens ∙ shut) h.lies in
      let w : Tally N = record v { taken = v.taken ++ number x ∷ [] } in
      let each : (j : ℕ) (u : Tally N) → get_elem? (set views port w) j ≡ some u → Fits h.at u =
      all_set (λ j u. Fits h.at u) views port w ((λ _. record { run = mine.run; opens = mine.opens }), λ e. absurd (omega (arith, part, e))) (λ j u other e. fits (item.Task x ∷ items) views h j u e) in (
        w,
        record {
          at = h.at;
          parts = omega (arith, sum_set (λ (u : Tally N). u.parts) views port v w at, h.parts);
          once = λ f.
              omega (arith, sum_set (λ (u : Tally N). sum_by f u.put) views port v w at, sum_set (λ (u : Tally N). sum_by f u.taken) views port v w at, h.once f, sum_append f v.taken (number x ∷ []), sum_one f (number x), sum_by-cons (weigh number f) (item.Task x) items);
          lies = tasks_lie h.at.opens h.at.run items (sym mine.opens ∙ shut) there.1;
          knows = λ j u e. (each j u e).0;
          idle = λ j u e. (each j u e).1;
        },
        (x, refl, refl, mine.run ∙ there.0.0, there.0.1),
      )

  -- a pass with all parts that finds none knows all
  pub settled : (port : ℕ) (v : Tally N) → Finds Rule port v (IsExhausted v)
  settled port v views h at whole f = omega (arith, total [] views h port v at whole f)

  pub settled_few : (most port : ℕ) (v : Tally N) → most ≡ 0 → FindsFew Rule most port v (IsExhausted v)
  settled_few most port v none [] views few h at = settled port v views h at
  settled_few most port v none (x ∷ xs) views few h at = absurd (omega (arith, few, none))

  -- a right to steal is lent
  pub lends : (port : ℕ) (v : Tally N) → 1 < v.parts → Forks Rule port v (keeping v) (giving v)
  lends port v two items views h at =
      let mine = h.knows port v at (omega (arith, two)) in
      let left : Tally N = keeping v in
      let right : Tally N = giving v in
      let vs : List (Tally N) = set views port left in
      let old : (j : ℕ) (u : Tally N) → get_elem? vs j ≡ some u → Fits h.at u =
      all_set (λ j u. Fits h.at u) views port left ((λ _. record { run = mine.run; opens = mine.opens }), λ e. absurd (omega (arith, two, e))) (λ j u other e. fits items views h j u e) in
      let each : (j : ℕ) (u : Tally N) → get_elem? (vs ++ right ∷ []) j ≡ some u → Fits h.at u =
      λ j u e. ⊎_elim (λ x. old j u x) (λ (is : right ≡ u). subst (λ (y : Tally N). Fits h.at y) is ((λ _. record { run = mine.run; opens = mine.opens }), λ _. record { put = refl; taken = refl })) (at_snoc vs right u j e) in
      record {
        at = h.at;
        parts = omega (arith, sum_set (λ (u : Tally N). u.parts) views port v left at, h.parts, sum_append (λ (u : Tally N). u.parts) vs (right ∷ []), sum_one (λ (u : Tally N). u.parts) right, two);
        once = λ f.
            omega (arith, sum_set (λ (u : Tally N). sum_by f u.put) views port v left at, sum_set (λ (u : Tally N). sum_by f u.taken) views port v left at, h.once f, sum_append (λ (u : Tally N). sum_by f u.put) vs (right ∷ []), sum_one (λ (u : Tally N). sum_by f u.put) right, sum_append (λ (u : Tally N). sum_by f u.taken) vs (right ∷ []), sum_one (λ (u : Tally N). sum_by f u.taken) right);
        lies = h.lies;
        knows = λ j u e. (each j u e).0;
        idle = λ j u e. (each j u e).1;
      }

  -- and comes back
  pub comes_back : (port : ℕ) (v : Tally N) (other : ℕ) (u : Tally N) → 0 < v.parts → 0 < u.parts → Merges Rule port v other u (both v u) spent
  comes_back port v other u part more items views h at two at' =
      let mine = h.knows port v at part in
      let w : Tally N = both v u in
      let vs : List (Tally N) = set views port w in
      let mid : (j : ℕ) (y : Tally N) → get_elem? vs j ≡ some y → Fits h.at y =
      all_set (λ j y. Fits h.at y) views port w ((λ _. record { run = mine.run; opens = mine.opens }), λ e. absurd (omega (arith, part, e))) (λ j y apart e. fits items views h j y e) in
      let each : (j : ℕ) (y : Tally N) → get_elem? (set vs other spent) j ≡ some y → Fits h.at y =
      all_set (λ j y. Fits h.at y) vs other spent ((λ p. absurd (omega (arith, p))), λ _. record { put = refl; taken = refl }) (λ j y apart e. mid j y e) in
      record {
        at = h.at;
        parts = omega (arith, sum_set (λ (y : Tally N). y.parts) views port v w at, sum_set (λ (y : Tally N). y.parts) vs other u spent at', h.parts);
        once = λ f.
            omega (arith, sum_set (λ (y : Tally N). sum_by f y.put) views port v w at, sum_set (λ (y : Tally N). sum_by f y.put) vs other u spent at', sum_set (λ (y : Tally N). sum_by f y.taken) views port v w at, sum_set (λ (y : Tally N). sum_by f y.taken) vs other u spent at', h.once f, sum_append f v.put u.put, sum_append f v.taken u.taken);
        lies = h.lies;
        knows = λ j y e. (each j y e).0;
        idle = λ j y e. (each j y e).1;
      }
