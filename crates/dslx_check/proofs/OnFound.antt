-- All instances that are reached.
use Rattle.std.proofs.Common.{◌≡◌, ◌∙◌, ◌++◌, ◌≤◌, ◌+◌, ◌&&◌, ◌||◌, inl, inr, ℕ, zero, suc, Bool, if◌then◌else◌, true, false, List, [], ◌∷◌, length, map, take, Some, None, slice_get, refl, sym, ap, subst, arith}
use Rattle.std.specs.List.{AllByRecursion, IsDistinct, list_any}
use Rattle.std.proofs.lemmas.Option.{none-some, same_Some}
use Rattle.indexmap.specs.IndexSet.{insert_key}
use Rattle.std.specs.Str.{bytes_eq}
use Rattle.std.proofs.lemmas.Bool.Decides.{Decides-eqb}
use Rattle.std.proofs.lemmas.Grind.{flat_map-append}
use Rattle.std.proofs.lemmas.List.{append-nil, map-append}
use Rattle.std.proofs.lemmas.Slice.Eq.{bytes_eq-Decides}
use Rattle.xb_span.specs.declared.fault.Fault.{Fault}
use Rattle.dslx_tree.specs.declared.item.Module.{Module}
use Rattle.dslx_meaning.specs.Lists.{pairwise}
use Rattle.dslx_meaning.specs.Rules.EqualValues.{equal_value}
use Rattle.dslx_meaning.specs.Rules.ModuleRules.{found_of_instance, instances_faults, is_reached}
use Rattle.dslx_meaning.specs.Rules.TypeEnvs.{GlobalEnv, Instance, same_instance}
use Rattle.dslx_core.specs.Typing.TypingRelations.Closed.{IsOneOf}
use Rattle.dslx_core.proofs.Lemmas.Typing.TypingRelations.{in_first, itself}
use Rattle.dslx_check_rules.specs.declared.faults.Faults.{Faults}
use Rattle.dslx_check_rules.specs.Interned.{AreDistinct}
use Rattle.dslx_check_rules.specs.Seen.{seen}
use Rattle.dslx_check_facts.specs.declared.instances.InstanceKey.{InstanceKey}
use Rattle.dslx_check_facts.specs.Keys.{same_instance_key}
use Rattle.dslx_check_facts.specs.Names.{names_of}
use Rattle.dslx_check_facts.specs.Walks.{HasTables, WalkShown, instance_at, instance_of, shown}
use Rattle.dslx_check_facts.proofs.Lemmas.Walks.{instance_is, tables_refl, tables_trans}
use Rattle.base.proofs.Lemmas.Lists.Prefixes.{IsPrefix-refl}
use Rattle.dslx_check.specs.Least.Starts.{AreInstancesApart, AreStarted}
use Rattle.dslx_check_tasks.specs.declared.work.Reaches.{Reaches}
use Rattle.dslx_check_tasks.specs.declared.work.Work.{Work}
use Rattle.dslx_check.specs.Finds.{AddsKey, AreManyMet, AreNumbersOf, FindsAll, FindsMany, FindsReached, IsMetBy, IsNumberIn, ReachesSoFar, with_new}
use Rattle.dslx_check_tasks.specs.Standing.{WorkGoesOn, IsInstanceFound, IsRight, own_globals, text_in}
use Rattle.dslx_check.proofs.OnNumbers.{IsGrown, either, from_map, got_mapped, grown, in_new, map_same, next_is, one_at, one_of_map, past_end, same_on, take_one, take_past}

-- ---- more instances

pub record IsAdded (text : Module) (v : WalkShown) (new : List ℕ) (is js : List Instance) : Type 0 where
  pub more : List Instance
  pub are : AreNumbersOf text v new (is ++ more)
  pub from : (j : Instance) → IsOneOf j more → IsOneOf j js
  pub there : (j : Instance) → IsOneOf j js → IsOneOf j (is ++ more)

added : (text : Module) (v : WalkShown) (all ns : List ℕ) (is js : List Instance) → AreNumbersOf text v all is → AreNumbersOf text v ns js → IsAdded text v (with_new all ns) is js
added text v all ns is js all_are ns_are = record {
  more = map now g.more;
  are = are;
  from = λ j h. let o = from_map now j g.more h in subst (λ x. IsOneOf x js) (sym o.is) (subst (IsOneOf (now o.number)) (ns_are v (tables_refl v)) (one_of_map now o.number ns (g.from o.number o.there)));
  there = λ j h. let o = from_map now j ns (subst (IsOneOf j) (sym (ns_are v (tables_refl v))) h) in
      subst (λ x. IsOneOf x (is ++ map now g.more)) (sym o.is) (subst (IsOneOf (now o.number)) (are v (tables_refl v)) (one_of_map now o.number (with_new all ns) (in_new o.number all ns o.there)));
}
  where
    g : IsGrown all (with_new all ns) ns
    g = grown all ns

    now : ℕ → Instance
    now = instance_at (names_of text) v.met

    are : AreNumbersOf text v (with_new all ns) (is ++ map now g.more)
    are later t =
        let at_later = instance_at (names_of text) later.met in
        let same = same_on at_later now ns (ns_are later t ∙ sym (ns_are v (tables_refl v))) in
        ap (map at_later) g.is ∙ map-append at_later all g.more ∙ (λ i. all_are later t i ++ map_same at_later now g.more (λ n h. same n (g.from n h)) i)

-- ---- the first ones

pub reached_first : (text : Module) (v : WalkShown) (start : List ℕ) (starts : List Instance) (faults : Faults) → faults ≡ seen [] → AreNumbersOf text v start starts → ReachesSoFar text v starts (with_new [] start) 0 faults
reached_first text v start starts faults none are =
    let a = added text v [] start [] starts (λ later t. refl) are in record {
      is = a.more;
      are = a.are;
      started = λ P hs hc i h. hs i (a.from i h);
      starts = a.there;
      closed = λ i j h r. absurd h;
      faults_are = none;
    }

-- ---- one more

module _ (text : Module) (v0 v : WalkShown) (starts : List Instance) (all new : List ℕ) (next number : ℕ) (faults own after : Faults) (tables : HasTables v0 v) (so_far : ReachesSoFar text v0 starts all next faults)
    (at : slice_get all next ≡ Some number) (r : Reaches) (found : IsInstanceFound text v number r) (own_is : own ≡ r.faults) (added_are : new ≡ with_new all r.reached.items)
    (both : (a b : List Fault) → faults ≡ seen a → own ≡ seen b → after ≡ seen (a ++ b)) where
  abbrev known : GlobalEnv
  known = own_globals text

  abbrev one : Instance
  one = instance_of (names_of text) found.key

  are : AreNumbersOf text v all so_far.is
  are later t = so_far.are later (tables_trans v0 v later tables t)

  one_there : slice_get so_far.is next ≡ Some one
  one_there = ap (λ l. slice_get l next) (sym (are v (tables_refl v))) ∙ got_mapped (instance_at (names_of text) v.met) all next number at
      ∙ ap Some (instance_is (names_of text) v.met v.met number found.key (IsPrefix-refl v.met) found.met)

  more : IsAdded text v (with_new all r.reached.items) so_far.is (found_of_instance known one).reached
  more = added text v all r.reached.items so_far.is (found_of_instance known one).reached are found.is.reached

  first : take (next + 1) (so_far.is ++ more.more) ≡ take next so_far.is ++ one ∷ []
  first = ap (λ k. take k (so_far.is ++ more.more)) (next_is next) ∙ take_one so_far.is more.more next one one_there

  pub reached_next : ReachesSoFar text v starts new (next + 1) after
  reached_next = record {
    is = so_far.is ++ more.more;
    are = subst (λ ns. AreNumbersOf text v ns (so_far.is ++ more.more)) (sym added_are) more.are;
    started = λ P hs hc i h. elim (either i so_far.is more.more h) [
      | inl p ↦ so_far.started P hs hc i p
      | inr q ↦ hc one i (so_far.started P hs hc one (one_at so_far.is next one one_there)) (more.from i q)
    ];
    starts = λ i h. in_first i so_far.is more.more (so_far.starts i h);
    closed = λ i j h reach. elim (either i (take next so_far.is) (one ∷ []) (subst (IsOneOf i) first h)) [
      | inl p ↦ in_first j so_far.is more.more (so_far.closed i j p reach)
      | inr q ↦ elim q [
        | inl e ↦ more.there j (subst (λ x. IsOneOf j (found_of_instance known x).reached) e reach)
        | inr none ↦ absurd none
      ]
    ];
    faults_are = both (instances_faults known (take next so_far.is)) (found_of_instance known one).faults so_far.faults_are (own_is ∙ found.is.faults)
        ∙ ap seen (ap (λ l. instances_faults known (take next so_far.is) ++ l) (sym (append-nil (found_of_instance known one).faults))
        ∙ sym (flat_map-append (λ i. (found_of_instance known i).faults) (take next so_far.is) (one ∷ []))
        ∙ ap (instances_faults known) (sym first));
  }

-- ---- all

there : (i : Instance) (is : List Instance) → IsOneOf i is → is_reached i is ≡ true
there i [] h = absurd h
there i (x ∷ xs) (inl e) = ap (λ b. b || is_reached i xs) (subst (λ z. same_instance i z ≡ true) e (itself i))
there i (x ∷ xs) (inr h) = or_second (same_instance i x) (there i xs h)
  where
    or_second : (b : Bool) → is_reached i xs ≡ true → (b || is_reached i xs) ≡ true
    or_second true q = refl
    or_second false q = q

map_long : {A B : Type 0} (f : A → B) (xs : List A) → length (map f xs) ≡ length xs
map_long f [] = refl
map_long f (x ∷ xs) = ap suc (map_long f xs)

pub reached_all : (text : Module) (v : WalkShown) (starts : List Instance) (all : List ℕ) (next : ℕ) (faults : Faults) → ReachesSoFar text v starts all next faults → slice_get all next ≡ None → next ≤ 4096 → FindsAll text starts faults
reached_all text v starts all next faults so_far none small =
    let long : length so_far.is ≡ length all = ap length (sym (so_far.are v (tables_refl v))) ∙ map_long (instance_at (names_of text) v.met) all in
    let past : length all ≤ next = past_end all next none in
    let whole : take next so_far.is ≡ so_far.is = take_past so_far.is next (omega (arith, long, past)) in record {
      all = so_far.is;
      least = record {
        starts = λ i h. there i so_far.is (so_far.starts i h);
        closed = λ i j h reach. there j so_far.is (so_far.closed i j (subst (IsOneOf i) (sym whole) h) reach);
        least = so_far.started;
      };
      few = omega (arith, long, past, small);
      faults_are = so_far.faults_are ∙ ap (λ l. seen (instances_faults (own_globals text) l)) whole;
    }

-- ---- too many

module _ (text : Module) (v : WalkShown) (all : List ℕ) (is : List Instance) (are : AreNumbersOf text v all is) (distinct : AreDistinct (names_of text)) where
  abbrev of_key : InstanceKey → Instance
  of_key = instance_of (names_of text)

  met_there : (keys : List InstanceKey) → AllByRecursion (IsMetBy v all) keys → (i : Instance) → IsOneOf i (map of_key keys) → IsOneOf i is
  met_there [] met i h = absurd h
  met_there (k ∷ ks) met i (inl e) =
      let one = met.0 in
      let same : instance_at (names_of text) v.met one.number ≡ of_key k = instance_is (names_of text) v.met v.met one.number k (IsPrefix-refl v.met) one.met in
      subst (λ x. IsOneOf x is) (same ∙ sym e) (subst (IsOneOf (instance_at (names_of text) v.met one.number)) (are v (tables_refl v)) (one_of_map (instance_at (names_of text) v.met) one.number all one.there))
  met_there (k ∷ ks) met i (inr h) = met_there ks met.1 i h

  other : (a b : InstanceKey) → same_instance_key a b ≡ false → same_instance (of_key a) (of_key b) ≡ false
  other a b e = by (bytes_eq ((names_of text).item a.item) ((names_of text).item b.item)) refl
    where
      by : (n : Bool) → bytes_eq ((names_of text).item a.item) ((names_of text).item b.item) ≡ n → (n && pairwise equal_value a.parametric_args b.parametric_args) ≡ false
      by false q = refl
      by true q = sym (ap (λ x. x && pairwise equal_value a.parametric_args b.parametric_args)
          ((Decides-eqb a.item b.item).1 (distinct a.item b.item ((bytes_eq-Decides ((names_of text).item a.item) ((names_of text).item b.item)).0 q)))) ∙ e

  not_reached : (k : InstanceKey) (ks : List InstanceKey) → AllByRecursion (λ y. same_instance_key k y ≡ false) ks → is_reached (of_key k) (map of_key ks) ≡ false
  not_reached k [] h = refl
  not_reached k (x ∷ xs) h = λ t. other k x h.0 t || not_reached k xs h.1 t

  apart : (keys : List InstanceKey) → IsDistinct same_instance_key keys → AreInstancesApart (map of_key keys)
  unfolding IsDistinct
  apart [] h = tt
  apart (k ∷ ks) h = (not_reached k ks h.0, apart ks h.1)

  pub reached_many : (starts : List Instance) → AreStarted (own_globals text) starts is → AreManyMet v all → FindsMany text starts
  reached_many starts started many = record {
    some = map of_key many.keys;
    started = λ P hs hc i h. started P hs hc i (met_there many.keys many.met i h);
    apart = apart many.keys many.distinct;
    many = let long : length (map of_key many.keys) ≡ length many.keys = map_long of_key many.keys in omega (arith, long, many.many);
  }

-- ---- as the code finds them

pub first_ones : (w : Work) (start : List ℕ) (starts : List Instance) (faults : Faults) → faults ≡ seen [] → (none all : List ℕ) → none ≡ [] → all ≡ with_new none start → AreNumbersOf (text_in w) (shown w.walk) start starts
    → ReachesSoFar (text_in w) (shown w.walk) starts all 0 faults
first_ones w start starts faults nothing none all none_is all_is are =
    subst (λ ns. ReachesSoFar (text_in w) (shown w.walk) starts ns 0 faults) (sym (all_is ∙ ap (λ ns. with_new ns start) none_is)) (reached_first (text_in w) (shown w.walk) start starts faults nothing are)

pub next_one : (a b c : Work) (starts : List Instance) (all new : List ℕ) (next number : ℕ) (faults own after : Faults) → IsRight a → WorkGoesOn a b → WorkGoesOn b c → ReachesSoFar (text_in a) (shown b.walk) starts all next faults
    → slice_get all next ≡ Some number → (IsRight b → FindsReached c number all new own) → ((x y : List Fault) → faults ≡ seen x → own ≡ seen y → after ≡ seen (x ++ y))
    → ReachesSoFar (text_in a) (shown c.walk) starts new (next + 1) after
next_one a b c starts all new next number faults own after right g h so_far at finds both =
    let f = finds (g.right right) in
    reached_next (text_in a) (shown b.walk) (shown c.walk) starts all new next number faults own after h.tables so_far at f.is
    (subst (λ (t : Module). IsInstanceFound t (shown c.walk) number f.is) (h.text ∙ g.text) f.found) f.faults_are f.added both

pub all_few : (a b : Work) (starts : List Instance) (all : List ℕ) (next : ℕ) (faults : Faults) → ReachesSoFar (text_in a) (shown b.walk) starts all next faults → slice_get all next ≡ None → next ≤ 4096 → FindsAll (text_in a) starts faults
all_few a b starts all next faults so_far none small = reached_all (text_in a) (shown b.walk) starts all next faults so_far none small

pub all_many : (a b : Work) (starts : List Instance) (all : List ℕ) (next : ℕ) (faults : Faults) → IsRight a → ReachesSoFar (text_in a) (shown b.walk) starts all next faults → AreManyMet (shown b.walk) all → FindsMany (text_in a) starts
all_many a b starts all next faults right so_far many = reached_many (text_in a) (shown b.walk) all so_far.is so_far.are right.knows.text.distinct starts so_far.started many

-- ---- keys that are met

met_behind : (v : WalkShown) (ns : List ℕ) (ks : List InstanceKey) (k : InstanceKey) → AllByRecursion (IsMetBy v ns) ks → IsMetBy v ns k → AllByRecursion (IsMetBy v ns) (ks ++ k ∷ [])
met_behind v ns [] k h one = (one, tt)
met_behind v ns (x ∷ xs) k h one = (h.0, met_behind v ns xs k h.1 one)

pub met_too : (v : WalkShown) (ns : List ℕ) (ks : List InstanceKey) (k : InstanceKey) → AllByRecursion (IsMetBy v ns) ks → IsMetBy v ns k → AllByRecursion (IsMetBy v ns) (insert_key same_instance_key ks k)
met_too v ns ks k h one = by (list_any (same_instance_key k) ks)
  where
    by : (b : Bool) → AllByRecursion (IsMetBy v ns) (if b then ks else ks ++ k ∷ [])
    by true = h
    by false = met_behind v ns ks k h one

pub number_there : (ns : List ℕ) (i n : ℕ) → slice_get ns i ≡ Some n → IsNumberIn n ns
number_there [] i n e = absurd (none-some n e)
number_there (m ∷ ms) zero n e = inl (sym (same_Some m n e))
number_there (m ∷ ms) (suc i) n e = inr (number_there ms i n e)

-- the keys that were seen are of such instances, and differ
pub record AreMet (v : WalkShown) (ns : List ℕ) (ks : List InstanceKey) : Type 0 where
  pub met : AllByRecursion (IsMetBy v ns) ks
  pub distinct : IsDistinct same_instance_key ks

pub no_keys : (v : WalkShown) (ns : List ℕ) (ks : List InstanceKey) → ks ≡ [] → AreMet v ns ks
unfolding IsDistinct
no_keys v ns ks e = subst (AreMet v ns) (sym e) (record { met = tt; distinct = tt })

pub key_added : (v : WalkShown) (ns : List ℕ) (old new : List InstanceKey) (i n : ℕ) → AreMet v ns old → slice_get ns i ≡ Some n → AddsKey v n old new → AreMet v ns new
key_added v ns old new i n h at adds = record {
  met = subst (AllByRecursion (IsMetBy v ns)) (sym adds.is) (met_too v ns old adds.key h.met (record { number = n; there = number_there ns i n at; met = adds.met }));
  distinct = adds.distinct;
}

pub many_met : (v : WalkShown) (ns : List ℕ) (ks : List InstanceKey) (count : ℕ) → AreMet v ns ks → count ≡ length ks → 4097 ≤ count → AreManyMet v ns
many_met v ns ks count h long many = record { keys = ks; met = h.met; distinct = h.distinct; many = omega (arith, long, many) }
