-- The task of each proc, and what it counts.
use Rattle.std.proofs.Common.{◌≡◌, ℕ, zero, suc, ◌+◌, ◌<◌, ◌≤◌, List, [], ◌∷◌, length, map, drop, refl, sym, ap, ◌∙◌, subst, arith, cond, true, false, Bool, eqb, not, Option, Some, None, inl, inr}
use Rattle.std.specs.Prelude.{slice_get, ◌&&◌, ◌||◌, ◌⊎◌, sum_by}
use Rattle.std.specs.List.{list_any}
use Rattle.std.proofs.lemmas.Bool.{cases_lt}
use Rattle.std.proofs.lemmas.Bool.Decides.{nat_tests}
use Rattle.std.proofs.lemmas.List.Sums.{sum_by-cons}
use Rattle.std.proofs.lemmas.Option.{slice_get_within}
use Rattle.base.specs.Lists.Prefix.{IsPrefix}
use Rattle.base.proofs.Lemmas.Lists.Prefixes.{IsPrefix-take}
use Rattle.xb_bits.specs.Word.{Word}
use Rattle.chan_queue.specs.declared.queue.ChanQueue.{ChanQueue}
use Rattle.net_core.specs.declared.net.Net.{Net}
use Rattle.net_core.specs.declared.net.ProcHead.{ProcHead}
use Rattle.net_core.specs.declared.net.Site.{Site}
use Rattle.net_core.specs.declared.outcome.ProcEnd.{ProcEnd}
use Rattle.net_core.specs.Behavior.{IsOpen}
use Rattle.net_core.specs.Cuts.{Proc, Run, IsWithin, index_of, sends_on, receives_on, sender, receiver, sites_of, sites_at, words_sent, count_received, final_cut}
use Rattle.net_core.specs.Machine.{Position}
use Rattle.chan_queue.specs.Streams.Streams.{stands}
use Rattle.chan_queue.specs.Streams.Moves.{first_events, sent_first, received_first}
use Rattle.task_queue.specs.Tasks.{sum_below}
use Rattle.proc_task.specs.declared.task.Task.{Task}
use Rattle.proc_task.specs.Moving.{IsTask, HasSiteOn, end_at, position_of}
use Rattle.proc_task.specs.Outcome.Tasks.{task_in, events_by, cut_by, AreTasksOf, IsRunOf}
use Rattle.proc_task.specs.Outcome.Places.{head_sends, head_receives}
use Rattle.proc_task.specs.Outcome.Inner.Counts.{end_in}

abbrev count : Bool → ℕ
count true = 1
count false = 0

-- 1 for the number n alone
abbrev pub one_at : ℕ → ℕ → ℕ
one_at n x = count (eqb x n)

one_here : (n : ℕ) → one_at n n ≡ 1
one_here n = let h : eqb n n ≡ true = grind (arith, nat_tests) in ap (λ (b : Bool). count b) h

below_has : (p n : ℕ) → p < n → 1 ≤ sum_below (one_at p) n
below_has p zero l = absurd (omega (arith, l))
below_has p (suc n) l = go (cases_lt p n) (λ m. below_has p n m)
  where
    go : (p < n) ⊎ (n ≤ p) → (p < n → 1 ≤ sum_below (one_at p) n) → 1 ≤ sum_below (one_at p) n + one_at p n
    go (inl m) ih = omega (arith, ih m)
    go (inr m) ih = let same : n ≡ p = omega (arith, l, m) in let here = one_here p in omega (arith, ap (one_at p) same, here)

-- the place of the first that passes, by what a function gives
place_map : {A B : Type 0} (f : A → B) (test : B → Bool) (xs : List A) → index_of (λ x. test (f x)) xs ≡ index_of test (map f xs)
place_map f test [] = refl
place_map f test (x ∷ xs) = ap (λ n. cond (test (f x)) 0 (suc n)) (place_map f test xs)

pub place_passes : {A : Type 0} (test : A → Bool) (xs : List A) (p : ℕ) (x : A) → index_of test xs ≡ p → slice_get xs p ≡ Some x → test x ≡ true
place_passes test [] p x e g = cc
place_passes {A} test (y ∷ ys) p x e g = go (test y) refl e (λ q f h. place_passes test ys q x f h)
  where
    later : (q : ℕ) → suc (index_of test ys) ≡ q → slice_get (y ∷ ys) q ≡ Some x → ((r : ℕ) → index_of test ys ≡ r → slice_get ys r ≡ Some x → test x ≡ true) → test x ≡ true
    later zero f h ih = absurd (omega (arith, f))
    later (suc q) f h ih = ih q (omega (arith, f)) h

    first : (q : ℕ) → 0 ≡ q → test y ≡ true → slice_get (y ∷ ys) q ≡ Some x → test x ≡ true
    first zero f t h = let same : y ≡ x = cc in ap test (sym same) ∙ t
    first (suc q) f t h = absurd (omega (arith, f))

    go : (b : Bool) → test y ≡ b → cond b 0 (suc (index_of test ys)) ≡ p → ((r : ℕ) → index_of test ys ≡ r → slice_get ys r ≡ Some x → test x ≡ true) → test x ≡ true
    go true t f ih = first p f t g
    go false t f ih = later p f g ih

or_true : (a b : Bool) → a || b ≡ true → (a ≡ true) ⊎ (b ≡ true)
or_true true b h = inl refl
or_true false b h = inr h

and_both : (a b : Bool) → a && b ≡ true → (a ≡ true) × (b ≡ true)
and_both true b h = (refl, h)
and_both false b h = cc

not_true : (a : Bool) → not a ≡ true → a ≡ false
not_true true h = cc
not_true false h = refl

same_number : (m n : ℕ) → eqb m n ≡ true → m ≡ n
same_number m n h = grind (arith, nat_tests)

some_site : (test : Site → Bool) (sites : List Site) → list_any test sites ≡ true → (i : ℕ) × (site : Site) × (slice_get sites i ≡ Some site) × (test site ≡ true)
some_site test [] h = cc
some_site test (x ∷ xs) h = go (or_true (test x) (list_any test xs) h) (λ t. some_site test xs t)
  where
    go : (test x ≡ true) ⊎ (list_any test xs ≡ true) → (list_any test xs ≡ true → (i : ℕ) × (site : Site) × (slice_get xs i ≡ Some site) × (test site ≡ true))
        → (i : ℕ) × (site : Site) × (slice_get (x ∷ xs) i ≡ Some site) × (test site ≡ true)
    go (inl t) ih = (0, x, refl, t)
    go (inr t) ih = let r = ih t in (suc r.0, r.1, r.2, r.3)

pub sends_site : (c : ℕ) (proc : Proc) → sends_on c proc ≡ true → HasSiteOn proc c true
sends_site c proc h =
    let found = some_site (λ (site : Site). site.sends && eqb site.chan c) proc.behavior.sites h in
    let both = and_both _ _ found.3 in
    (found.0, found.1, found.2, both.0, same_number _ _ both.1)

pub receives_site : (c : ℕ) (proc : Proc) → receives_on c proc ≡ true → HasSiteOn proc c false
receives_site c proc h =
    let found = some_site (λ (site : Site). not site.sends && eqb site.chan c) proc.behavior.sites h in
    let both = and_both _ _ found.3 in
    (found.0, found.1, found.2, not_true _ both.0, same_number _ _ both.1)

-- the ends of a channel by the heads are those by the run
pub sender_is : (net : Net) (run : Run) (c : ℕ) → IsRunOf net run → index_of (head_sends c) net.procs ≡ sender run c
sender_is net run c is =
    place_map (λ (head : ProcHead). head.sites) (λ (sites : List Site). list_any (λ (site : Site). site.sends && eqb site.chan c) sites) net.procs
    ∙ (ap (λ (xs : List (List Site)). index_of (λ (sites : List Site). list_any (λ (site : Site). site.sends && eqb site.chan c) sites) xs) (sym is.sites)
    ∙ sym (place_map (λ (proc : Proc). proc.behavior.sites) (λ (sites : List Site). list_any (λ (site : Site). site.sends && eqb site.chan c) sites) run.procs))

pub receiver_is : (net : Net) (run : Run) (c : ℕ) → IsRunOf net run → index_of (head_receives c) net.procs ≡ receiver run c
receiver_is net run c is =
    place_map (λ (head : ProcHead). head.sites) (λ (sites : List Site). list_any (λ (site : Site). not site.sends && eqb site.chan c) sites) net.procs
    ∙ (ap (λ (xs : List (List Site)). index_of (λ (sites : List Site). list_any (λ (site : Site). not site.sends && eqb site.chan c) sites) xs) (sym is.sites)
    ∙ sym (place_map (λ (proc : Proc). proc.behavior.sites) (λ (sites : List Site). list_any (λ (site : Site). not site.sends && eqb site.chan c) sites) run.procs))

nothing_sent : (sites : List Site) (c : ℕ) → words_sent sites c [] ≡ []
unfolding words_sent
nothing_sent sites c = refl

nothing_received : (sites : List Site) (c : ℕ) → count_received sites c [] ≡ 0
unfolding count_received
nothing_received sites c = refl

module _ {S H : Type 0} where
  pub task_found : (p : ℕ) (tasks : List (Task S H)) (task : Task S H) → task_in p tasks ≡ Some task → (k : ℕ) × (slice_get tasks k ≡ Some task) × (task.number ≡ p)
  task_found p [] task e = cc
  task_found p (x ∷ xs) task e = go (eqb x.number p) refl e (λ f. task_found p xs task f)
    where
      go : (b : Bool) → eqb x.number p ≡ b → cond b (Some x) (task_in p xs) ≡ Some task
          → (task_in p xs ≡ Some task → (k : ℕ) × (slice_get xs k ≡ Some task) × (task.number ≡ p)) → (k : ℕ) × (slice_get (x ∷ xs) k ≡ Some task) × (task.number ≡ p)
      go true t f ih = let same : x ≡ task = cc in (0, ap Some same, ap (λ (y : Task S H). y.number) (sym same) ∙ same_number _ _ t)
      go false t f ih = let r = ih f in (suc r.0, r.1, r.2)

  none_counts : (p : ℕ) (tasks : List (Task S H)) → task_in p tasks ≡ None → sum_by (λ (task : Task S H). one_at p task.number) tasks ≡ 0
  none_counts p [] e = refl
  none_counts p (x ∷ xs) e = go (eqb x.number p) refl e (λ f. none_counts p xs f)
    where
      go : (b : Bool) → eqb x.number p ≡ b → cond b (Some x) (task_in p xs) ≡ None → (task_in p xs ≡ None → sum_by (λ (task : Task S H). one_at p task.number) xs ≡ 0)
          → sum_by (λ (task : Task S H). one_at p task.number) (x ∷ xs) ≡ 0
      go true t f ih = cc
      go false t f ih = omega (arith, sum_by-cons (λ (task : Task S H). one_at p task.number) x xs, ap (λ (b : Bool). count b) t, ih f)

-- one task more was looked at, and it isn't the one
pub task_past : {S H : Type 0} (p i : ℕ) (tasks : List (Task S H)) (task : Task S H) → slice_get tasks i ≡ Some task → eqb task.number p ≡ false
    → task_in p (drop (suc i) tasks) ≡ task_in p (drop i tasks)
task_past p i [] task e t = cc
task_past p zero (x ∷ xs) task e t = let same : x ≡ task = cc in sym (ap (λ (b : Bool). cond b (Some x) (task_in p xs)) (ap (λ (y : Task _ _). eqb y.number p) same ∙ t))
task_past p (suc i) (x ∷ xs) task e t = task_past p i xs task e t

module _ {S H : Type 0} (run : H → Run) (lines : H → List (Option (ChanQueue S))) (runtime : H) (tasks : List (Task S H)) (are : AreTasksOf run lines runtime tasks) where
  pub is_task : (p : ℕ) (task : Task S H) → task_in p tasks ≡ Some task → (task.number ≡ p) × (task.runtime ≡ runtime) × IsTask (run task.runtime) (lines task.runtime) task
  is_task p task e = let f = task_found p tasks task e in let is = are.each f.0 task f.1 in (f.2, is.0, is.1)

  -- each proc has one
  pub has_task : (p : ℕ) → p < length (run runtime).procs → task_in p tasks ≡ None → ⊥
  has_task p l e = omega (arith, are.all (one_at p), none_counts p tasks e, below_has p (length (run runtime).procs) l)

  module _ (p : ℕ) (task : Task S H) (e : task_in p tasks ≡ Some task) where
    pub is : IsTask (run runtime) (lines task.runtime) task
    is = subst (λ (h : H). IsTask (run h) (lines task.runtime) task) (is_task p task e).1 (is_task p task e).2

    pub proc_there : slice_get (run runtime).procs p ≡ Some is.proc
    proc_there = ap (λ k. slice_get (run runtime).procs k) (sym (is_task p task e).0) ∙ is.standing.proc_is

    pub made_is : cut_by (run runtime) tasks p ≡ first_events (run runtime) task.number task.count
    made_is = ap (λ o. events_by (run runtime) p o) e ∙ ap (λ k. first_events (run runtime) k task.count) (sym (is_task p task e).0)

    pub stands_is : stands (run runtime) is.proc (cut_by (run runtime) tasks p) ≡ position_of task
    stands_is = ap (λ es. stands (run runtime) is.proc es) made_is ∙ is.standing.at_is

    pub end_is : end_at (run runtime) is.proc (position_of task) ≡ end_in (run runtime) (cut_by (run runtime) tasks) p is.proc
    end_is = ap (λ (x : Position). end_at (run runtime) is.proc x) (sym stands_is)

    pub sent_is : (c : ℕ) (proc : Proc) → slice_get (run runtime).procs p ≡ Some proc → sent_first (run runtime) task.number proc task.count c ≡ words_sent (sites_at (run runtime) p) c (cut_by (run runtime) tasks p)
    sent_is c proc f =
        ap (λ es. words_sent proc.behavior.sites c es) (sym made_is)
        ∙ ap (λ o. words_sent (sites_of o) c (cut_by (run runtime) tasks p)) (sym f)

    pub received_is : (c : ℕ) (proc : Proc) → slice_get (run runtime).procs p ≡ Some proc → received_first (run runtime) task.number proc task.count c ≡ count_received (sites_at (run runtime) p) c (cut_by (run runtime) tasks p)
    received_is c proc f =
        ap (λ es. count_received proc.behavior.sites c es) (sym made_is)
        ∙ ap (λ o. count_received (sites_of o) c (cut_by (run runtime) tasks p)) (sym f)

    pub sender_site : (c : ℕ) → sender (run runtime) c ≡ p → HasSiteOn is.proc c true
    sender_site c ours = sends_site c is.proc (place_passes (sends_on c) (run runtime).procs p is.proc ours proc_there)

    pub receiver_site : (c : ℕ) → receiver (run runtime) c ≡ p → HasSiteOn is.proc c false
    receiver_site c ours = receives_site c is.proc (place_passes (receives_on c) (run runtime).procs p is.proc ours proc_there)

  -- where there is no task, no event was made
  pub none_sent : (p c : ℕ) → task_in p tasks ≡ None → words_sent (sites_at (run runtime) p) c (cut_by (run runtime) tasks p) ≡ []
  none_sent p c e = ap (λ es. words_sent (sites_at (run runtime) p) c es) (ap (λ o. events_by (run runtime) p o) e) ∙ nothing_sent (sites_at (run runtime) p) c

  pub none_received : (p c : ℕ) → task_in p tasks ≡ None → count_received (sites_at (run runtime) p) c (cut_by (run runtime) tasks p) ≡ 0
  none_received p c e = ap (λ es. count_received (sites_at (run runtime) p) c es) (ap (λ o. events_by (run runtime) p o) e) ∙ nothing_received (sites_at (run runtime) p) c

  -- no proc is further than in the final cut
  pub within_final : IsWithin (cut_by (run runtime) tasks) (final_cut (run runtime))
  within_final p = go (task_in p tasks)
    where
      go : (o : Option (Task S H)) → IsPrefix (events_by (run runtime) p o) (final_cut (run runtime) p)
      go None = tt
      go (Some task) = IsPrefix-take task.count (final_cut (run runtime) p)

  -- each proc stands where an activation can
  pub opens_there : (p : ℕ) (proc : Proc) → slice_get (run runtime).procs p ≡ Some proc
      → IsOpen proc.behavior (stands (run runtime) proc (cut_by (run runtime) tasks p)).state (stands (run runtime) proc (cut_by (run runtime) tasks p)).got (stands (run runtime) proc (cut_by (run runtime) tasks p)).done
  opens_there p proc e = go (task_in p tasks) refl
    where
      go : (o : Option (Task S H)) → task_in p tasks ≡ o
          → IsOpen proc.behavior (stands (run runtime) proc (cut_by (run runtime) tasks p)).state (stands (run runtime) proc (cut_by (run runtime) tasks p)).got (stands (run runtime) proc (cut_by (run runtime) tasks p)).done
      go None f = absurd (has_task p (slice_get_within (run runtime).procs p proc e) f)
      go (Some task) f =
          let here = is p task f in
          let there = proc_there p task f in
          let same : here.proc ≡ proc = cc in
          subst (λ (q : Proc). IsOpen q.behavior (stands (run runtime) q (cut_by (run runtime) tasks p)).state (stands (run runtime) q (cut_by (run runtime) tasks p)).got (stands (run runtime) q (cut_by (run runtime) tasks p)).done) same
          (subst (λ (x : Position). IsOpen here.proc.behavior x.state x.got x.done) (sym (stands_is p task f)) here.standing.stands_open)

-- the first place, by what is left of the list
pub place_here : {A : Type 0} (test : A → Bool) (xs : List A) (k : ℕ) (x : A) → slice_get xs k ≡ Some x → test x ≡ true → index_of test (drop k xs) ≡ 0
place_here test [] k x e t = cc
place_here test (y ∷ ys) zero x e t = let same : y ≡ x = cc in ap (λ (b : Bool). cond b 0 (suc (index_of test ys))) (ap test same ∙ t)
place_here test (y ∷ ys) (suc k) x e t = place_here test ys k x e t

pub place_past : {A : Type 0} (test : A → Bool) (xs : List A) (k : ℕ) (x : A) → slice_get xs k ≡ Some x → test x ≡ false → index_of test (drop k xs) ≡ suc (index_of test (drop (k + 1) xs))
place_past test [] k x e t = cc
place_past test (y ∷ ys) zero x e t = let same : y ≡ x = cc in ap (λ (b : Bool). cond b 0 (suc (index_of test ys))) (ap test same ∙ t)
place_past test (y ∷ ys) (suc k) x e t = let n : suc (k + 1) ≡ suc k + 1 = omega arith in place_past test ys k x e t ∙ ap (λ (m : ℕ). suc (index_of test (drop m (y ∷ ys)))) n

pub place_none : {A : Type 0} (test : A → Bool) (xs : List A) (k : ℕ) → length xs ≤ k → index_of test (drop k xs) ≡ 0
place_none test [] zero l = refl
place_none test [] (suc k) l = refl
place_none test (y ∷ ys) zero l = absurd (omega (arith, l))
place_none test (y ∷ ys) (suc k) l = place_none test ys k (omega (arith, l))

module _ {S H : Type 0} (run : H → Run) (lines : H → List (Option (ChanQueue S))) (runtime : H) (tasks : List (Task S H)) (are : AreTasksOf run lines runtime tasks) where
  -- what a task counts, at the place of its channel's sender or receiver
  pub words_there : (c : ℕ) (task : Task S H) → task_in (sender (run runtime) c) tasks ≡ Some task → (words : List Word)
      → ((proc : Proc) → slice_get (run task.runtime).procs task.number ≡ Some proc → HasSiteOn proc c true → words ≡ sent_first (run task.runtime) task.number proc task.count c)
      → words ≡ words_sent (sites_at (run runtime) (sender (run runtime) c)) c (cut_by (run runtime) tasks (sender (run runtime) c))
  words_there c task e words says =
      let p = sender (run runtime) c in
      let at = is run lines runtime tasks are p task e in
      let there = proc_there run lines runtime tasks are p task e in
      let own = (is_task run lines runtime tasks are p task e).1 in
      subst (λ (h : H). (proc : Proc) → slice_get (run h).procs task.number ≡ Some proc → HasSiteOn proc c true → words ≡ sent_first (run h) task.number proc task.count c) own says
      at.proc at.standing.proc_is (sender_site run lines runtime tasks are p task e c refl)
      ∙ sent_is run lines runtime tasks are p task e c at.proc there

  pub received_there : (c : ℕ) (task : Task S H) → task_in (receiver (run runtime) c) tasks ≡ Some task → (count : ℕ)
      → ((proc : Proc) → slice_get (run task.runtime).procs task.number ≡ Some proc → HasSiteOn proc c false → count ≡ received_first (run task.runtime) task.number proc task.count c)
      → count ≡ count_received (sites_at (run runtime) (receiver (run runtime) c)) c (cut_by (run runtime) tasks (receiver (run runtime) c))
  received_there c task e count says =
      let p = receiver (run runtime) c in
      let at = is run lines runtime tasks are p task e in
      let there = proc_there run lines runtime tasks are p task e in
      let own = (is_task run lines runtime tasks are p task e).1 in
      subst (λ (h : H). (proc : Proc) → slice_get (run h).procs task.number ≡ Some proc → HasSiteOn proc c false → count ≡ received_first (run h) task.number proc task.count c) own says
      at.proc at.standing.proc_is (receiver_site run lines runtime tasks are p task e c refl)
      ∙ received_is run lines runtime tasks are p task e c at.proc there

  -- where the proc of a task stands, as it says itself
  pub ends_there : (p : ℕ) (task : Task S H) → task_in p tasks ≡ Some task → (end : ProcEnd)
      → ((proc : Proc) → slice_get (run task.runtime).procs task.number ≡ Some proc → end ≡ end_at (run task.runtime) proc (position_of task))
      → (proc : Proc) → slice_get (run runtime).procs p ≡ Some proc → end ≡ end_in (run runtime) (cut_by (run runtime) tasks) p proc
  ends_there p task e end says proc proc_is =
      let at = is run lines runtime tasks are p task e in
      let there = proc_there run lines runtime tasks are p task e in
      let own = (is_task run lines runtime tasks are p task e).1 in
      let same : at.proc ≡ proc = cc in
      subst (λ (q : Proc). end ≡ end_in (run runtime) (cut_by (run runtime) tasks) p q) same
      (subst (λ (h : H). (q : Proc) → slice_get (run h).procs task.number ≡ Some q → end ≡ end_at (run h) q (position_of task)) own says at.proc at.standing.proc_is
      ∙ end_is run lines runtime tasks are p task e)
