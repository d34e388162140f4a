-- What is known of items settles by their ranks, whether they reach themselves or not: by as many levels as twice the rank.
use Rattle.std.proofs.Common.{◌≡◌, ◌≤◌, ◌*◌, ◌&&◌, ℕ, zero, suc, Bool, true, false, not, if◌then◌else◌, List, [], ◌∷◌, length, Option, Some, None, arith, refl, sym, ap, subst, ◌∙◌}
use mathlib.Core.Bool.{true≢false}
use Rattle.std.specs.Str.{bytes_eq}
use Rattle.std.specs.List.{list_all}
use Rattle.dslx_tree.specs.declared.item.Definition.{Definition}
use Rattle.dslx_tree.specs.declared.item.Definition.TheVariants as d
use Rattle.dslx_tree.specs.declared.item.Function.{Function}
use Rattle.dslx_tree.specs.declared.item.Module.{Module}
use Rattle.dslx_tree.specs.declared.process.Proc.{Proc}
use Rattle.dslx_meaning.specs.Items.{as_function, item_named}
use Rattle.dslx_meaning.specs.Rules.Mentions.{Use, AsValue, AsPattern, AsType, AsFunction, AsProc, AsEnum, AsStruct, Mention, is_cyclic, is_of_use, item_reaches, mentions_of, names_mentioned}
use Rattle.dslx_meaning.specs.Rules.ModuleRules.{found_of_instance, globals_over, globals_within}
use Rattle.dslx_meaning.specs.Rules.TypeEnvs.{GlobalEnv, Instance}
use Rattle.dslx_core.specs.Typing.Depends.Alike.{MentionsAlike, NamesAlike, SeenAlike, SeesAlike, TypesAlike, UseAlike}
use Rattle.dslx_core.specs.Typing.Laws.Ranks.{is_above}
use Rattle.dslx_core.specs.Typing.TypingRelations.Reached.{AllNamed, IsClosed, MentionsReach}
use Rattle.dslx_core.proofs.Lemmas.Typing.Laws.Chains.{or_cases, or_first, or_second}
use Rattle.dslx_core.proofs.Lemmas.Typing.Laws.Reaching.{item_ranked, reaches_mentioned, reaches_on}
use Rattle.dslx_core.proofs.OnTyping.OnCycles.OfItems.{kind_is, no_call, no_constant, no_member, no_named_type, no_struct}
use Rattle.dslx_core.proofs.OnTyping.OnCycles.OfProcs.{reaches_no_proc}
use Rattle.dslx_core.proofs.OnTyping.OnDepends.Declared as of
use Rattle.dslx_core.proofs.OnTyping.OnDepends.Declared.{LowPass, Reads, beside_or, enums_alike, is_beside, loops_beside}
use Rattle.dslx_core.proofs.OnTyping.OnDepends.OfItems.{Sight, Stage, den_one, plain_at}
use Rattle.dslx_core.proofs.OnTyping.OnDepends.Ranks.{all_at, all_from, ranked, ranked_below, ranked_longer, ranked_reached, ranked_so}
use Rattle.dslx_core.proofs.OnTyping.OnDepends.NoProcs.{IsNoProc, NoProcs}
use Rattle.dslx_core.proofs.OnTyping.OnDepends.Scopes.{seen_from}
use Rattle.dslx_core.proofs.OnTyping.OnDepends.Stages.{MentionsOwn, all_no_procs, and_both, globals_over_alike, is_proc_item, no_proc_use, no_procs_mentioned, not_true, unless_proc, unless_true, unused_alike, uses_over}
use Rattle.dslx_core.proofs.OnTyping.OnTyping.Closed.{all_weaker}
use Rattle.dslx_core.proofs.OnTyping.OnTyping.OfItems as of_reached
use Rattle.dslx_core.proofs.OnTyping.OnTyping.OfItems.{all_reach, cyclic_is, den_reach, function_is, instances_reach, instances_reach_down, item_so_named, mentions_reach, whole_is}

-- ---- items of a rank

-- no proc, of at most this rank
abbrev pub settles : Module → ℕ → List ℕ → Bool
settles m k = unless_proc (ranked m k) m

ranked_mentions : (m : Module) (k : ℕ) (name : List ℕ) → ranked m k name ≡ true → list_all (ranked m k) (mentions_of m (item_named name m.items)) ≡ true
ranked_mentions m zero name h = absurd (true≢false (sym h))
ranked_mentions m (suc k) name h = all_from (ranked m (suc k)) (mentions_of m (item_named name m.items)) (λ x i. ranked_reached m k name x h (reaches_mentioned m name x i))

pub settles_closed : (m : Module) (k : ℕ) → IsClosed (settles m k) m
settles_closed m k name h =
    let r = and_both (ranked m k name) (not (is_proc_item (item_named name m.items))) h in
    no_procs_mentioned (ranked m k) m (item_named name m.items) (not_true (is_proc_item (item_named name m.items)) r.1) (ranked_mentions m k name r.0)

-- what stands beside or below
abbrev pub is_reached_so : Module → ℕ → List ℕ → List ℕ → Bool
is_reached_so m k = beside_or m (settles m k)

-- what doesn't reach it back stands below
pub below_settles : (m : Module) (k : ℕ) → LowPass m (settles m k) (settles m (suc k))
below_settles m k owner name h e back other =
    let above : is_above m owner name ≡ true = λ i. e i && not (back i) in
    λ i. ranked_below m k owner name (and_both (ranked m (suc k) owner) (not (is_proc_item (item_named owner m.items))) h).0 above i && not (other i)

-- what an item mentions that doesn't reach itself
pub settles_next : (m : Module) (k : ℕ) (name : List ℕ) → settles m (suc k) name ≡ true → item_reaches m name name ≡ false → list_all (settles m k) (mentions_of m (item_named name m.items)) ≡ true
settles_next m k name h free = all_from (settles m k) (mentions_of m (item_named name m.items)) (λ x i.
    let other = (and_both (ranked m (suc k) x) (not (is_proc_item (item_named x m.items))) (all_at (settles m (suc k)) (mentions_of m (item_named name m.items)) (settles_closed m (suc k) name h) x i)).1 in
    by_back x (reaches_mentioned m name x i) (not_true (is_proc_item (item_named x m.items)) other) (item_reaches m x name) refl)
  where
    by_back : (x : List ℕ) → item_reaches m name x ≡ true → is_proc_item (item_named x m.items) ≡ false → (b : Bool) → item_reaches m x name ≡ b → settles m k x ≡ true
    by_back x e other true q = absurd (true≢false (sym (reaches_on m name x name e q) ∙ free))
    by_back x e other false q = below_settles m k name x h e q other

pub settles_longer : (m : Module) (k : ℕ) (name : List ℕ) → settles m k name ≡ true → settles m (suc k) name ≡ true
settles_longer m k name h =
    let r = and_both (ranked m k name) (not (is_proc_item (item_named name m.items))) h in
    λ i. ranked_longer m k name r.0 i && r.1 i

pub own_settles : (m : Module) (k : ℕ) → MentionsOwn (settles m (suc k)) (is_reached_so m k) m
own_settles m k owner h = all_from (is_reached_so m k owner) (mentions_of m (item_named owner m.items)) (λ x i.
    let other = (and_both (ranked m (suc k) x) (not (is_proc_item (item_named x m.items))) (all_at (settles m (suc k)) (mentions_of m (item_named owner m.items)) (settles_closed m (suc k) owner h) x i)).1 in
    by_back x (reaches_mentioned m owner x i) (not_true (is_proc_item (item_named x m.items)) other) (item_reaches m x owner) refl)
  where
    by_back : (x : List ℕ) → item_reaches m owner x ≡ true → is_proc_item (item_named x m.items) ≡ false → (b : Bool) → item_reaches m x owner ≡ b → is_reached_so m k owner x ≡ true
    by_back x e other true q = or_first (is_beside m owner x) (settles m k x) (λ i. e i && or_second (bytes_eq x owner) (item_reaches m x owner && item_reaches m owner x) (λ j. q j && e j) i)
    by_back x e other false q = or_second (is_beside m owner x) (settles m k x) (below_settles m k owner x h e q other)

-- ---- at one level

pub reads_level : (m : Module) (n : ℕ) → Reads m (globals_within m n)
reads_level m n = record { whole = whole_is m n; kinds = kind_is m n; cyclic = cyclic_is m n }

module _ (m : Module) (k i j : ℕ) (s : Stage (settles m k) m (globals_within m i) (globals_within m j)) where
  abbrev A : GlobalEnv
  A = globals_within m i

  abbrev B : GlobalEnv
  B = globals_within m j

  abbrev P : List ℕ → Bool
  P = settles m k

  abbrev Q : List ℕ → Bool
  Q = settles m (suc k)

  abbrev T : List ℕ → List ℕ → Bool
  T = is_reached_so m k

  -- enums beside have no members
  no_members : (owner name : List ℕ) → Q owner ≡ true → item_reaches m owner name ≡ true → item_reaches m name owner ≡ true → (member : List ℕ) → A.items.member name member ≡ B.items.member name member
  no_members owner name h e back member = let loops = reaches_on m name owner name back e in no_member m name loops i member ∙ sym (no_member m name loops j member)

  pub function_types : (f : Function) → item_named f.name.name m.items ≡ Some (d.Function f) → Q f.name.name ≡ true → TypesAlike (globals_over A) (globals_over B) f.name.name
  function_types f is h = of.function_types m P Q (settles_closed m k) (below_settles m k) A B (reads_level m i) (reads_level m j) s no_members f is h

  abbrev ExprDen : List ℕ → List Mention → Type 0
  ExprDen owner ms = list_all (T owner) (names_mentioned m ms) ≡ true

  -- ---- all that stands beside and below

  module _ (types : (f : Function) → item_named f.name.name m.items ≡ Some (d.Function f) → Q f.name.name ≡ true → TypesAlike A B f.name.name) where
    -- what stands beside means nothing; of its functions types and values are alike
    seen_beside : (owner : List ℕ) → Q owner ≡ true → (name : List ℕ) → is_beside m owner name ≡ true → (u : Use) → SeenAlike A B owner u name
    seen_beside owner h name e AsValue = let loops = loops_beside m owner name e in no_constant m name loops i ∙ sym (no_constant m name loops j)
    seen_beside owner h name e AsPattern = let loops = loops_beside m owner name e in no_constant m name loops i ∙ sym (no_constant m name loops j)
    seen_beside owner h name e AsType = let loops = loops_beside m owner name e in no_named_type m name loops i ∙ sym (no_named_type m name loops j)
    seen_beside owner h name e AsProc = tt
    seen_beside owner h name e AsEnum =
        let loops = loops_beside m owner name e in
        record {
          ty = λ x q. no_named_type m name loops i ∙ sym (no_named_type m name loops j);
          members = λ member. no_member m name loops i member ∙ sym (no_member m name loops j member);
        }
    seen_beside owner h name e AsStruct = let loops = loops_beside m owner name e in no_struct m name loops i ∙ sym (no_struct m name loops j)
    seen_beside owner h name e AsFunction =
        let loops = loops_beside m owner name e in
        let r = and_both (item_reaches m owner name) (is_cyclic m owner name) e in
        record {
          call = λ given operands. no_call m name loops i given operands ∙ sym (no_call m name loops j given operands);
          types = λ f v.
              let q : item_named name m.items ≡ Some (d.Function f) = function_is (item_named name m.items) f ((λ t. as_function (item_named name (sym (whole_is m i) t).items)) ∙ v) in
              let same : f.name.name ≡ name = item_so_named m.items name (d.Function f) q in
              let rank = ranked_reached m k owner name (and_both (ranked m (suc k) owner) (not (is_proc_item (item_named owner m.items))) h).0 r.0 in
              let named : Q name ≡ true = λ t. rank t && not (is_proc_item (q t)) in
              types f (subst (λ z. item_named z m.items ≡ Some (d.Function f)) (sym same) q) (ap Q same ∙ named);
          function = λ free f v. absurd (true≢false (sym r.1 ∙ sym (cyclic_is m i owner name) ∙ free));
        }

    seen_at : (owner : List ℕ) → Q owner ≡ true → (u : Use) (name : List ℕ) → (is_of_use u (item_named name m.items) ≡ true → T owner name ≡ true) → SeenAlike A B owner u name
    seen_at owner h u name e = by_beside (is_beside m owner name) refl
      where
        by_beside : (b : Bool) → is_beside m owner name ≡ b → SeenAlike A B owner u name
        by_beside true q = seen_beside owner h name q u
        by_beside false q = seen_from A B owner u name (s.uses u name (λ v. or_cases (is_beside m owner name) (P name) (e v) (λ r. absurd (true≢false (sym r ∙ q))) (λ r. r)))

    all_seen : (owner : List ℕ) → Q owner ≡ true → (ms : List Mention) → ExprDen owner ms → MentionsAlike A B owner ms
    all_seen owner h [] e = tt
    all_seen owner h (n ∷ ms) e = let r = den_one (T owner) m n.use_as n.name ms e in (seen_at owner h n.use_as n.name r.0, all_seen owner h ms r.1)

    reach_so : (owner : List ℕ) (ms : List Mention) → ExprDen owner ms → MentionsReach P A owner ms
    reach_so owner ms e = mentions_reach P (T owner) m A owner (whole_is m i) each ms e
      where
        below_only : (name : List ℕ) → T owner name ≡ true → A.is_cyclic owner name ≡ false → P name ≡ true
        below_only name t free =
            or_cases (is_beside m owner name) (P name) t (λ q. absurd (true≢false (sym (and_both (item_reaches m owner name) (is_cyclic m owner name) q).1 ∙ sym (cyclic_is m i owner name) ∙ free))) (λ q. q)

        each : of_reached.AllReach P (T owner) m A owner
        each name x q t free = all_reach P m (settles_closed m k) i owner name x q (below_only name t free) free

    sees_beside : (owner : List ℕ) → Q owner ≡ true → (bound : List (List ℕ)) → NamesAlike A B bound → (ms : List Mention) → ExprDen owner ms → SeesAlike P bound owner A B ms
    sees_beside owner h bound n ms e = record { known = s.known; enums = enums_alike m P Q (settles_closed m k) (below_settles m k) A B (reads_level m i) (reads_level m j) s no_members owner h; hidden = n; reach = reach_so owner ms e; alike = all_seen owner h ms e }

    pub beside_sight : Sight P Q T m A B
    beside_sight = record { text = s.text; known = s.known; plain = plain_at P m A B (settles_closed m k) s; sees = sees_beside }

-- ---- stages

-- of instances that reach such as stand below
both_named : (F G H : List ℕ → Bool) → ((name : List ℕ) → F name ≡ true → G name ≡ true → H name ≡ true) → (is : List Instance) → AllNamed F is → AllNamed G is → AllNamed H is
both_named F G H f [] g h = tt
both_named F G H f (i ∷ is) g h = (f i.name g.0 h.0, both_named F G H f is g.1 h.1)

pub reached_below : (m : Module) (k n : ℕ) (i : Instance) → settles m (suc k) i.name ≡ true → AllNamed (settles m k) (found_of_instance (globals_within m n) i).reached
reached_below m k n i h =
    both_named (is_above m i.name) (settles m (suc k)) (settles m k)
    (λ name a s.
    let low = ranked_below m k i.name name (and_both (ranked m (suc k) i.name) (not (is_proc_item (item_named i.name m.items))) h).0 a in
    let other = (and_both (ranked m (suc k) name) (not (is_proc_item (item_named name m.items))) s).1 in
    λ t. low t && other t)
    (found_of_instance (globals_within m n) i).reached (instances_reach_down m n i) (instances_reach (settles m (suc k)) m (settles_closed m (suc k)) n i (settles_closed m (suc k) i.name h))

none_settle : (m : Module) (a b : ℕ) → Stage (settles m zero) m (globals_within m a) (globals_within m b)
none_settle m a b = record {
  text = whole_is m a;
  known = record {
    whole = whole_is m a ∙ sym (whole_is m b);
    kinds = λ name. kind_is m a name ∙ sym (kind_is m b name);
    cyclic = λ owner name. cyclic_is m a owner name ∙ sym (cyclic_is m b owner name);
    sound = λ i e. absurd (true≢false (sym e));
    unbroken = λ i e. absurd (true≢false (sym e));
  };
  uses = uses_none;
  reach = λ owner ms h. den_reach (settles m zero) m (settles_closed m zero) a owner ms h;
  reached = λ i h. instances_reach (settles m zero) m (settles_closed m zero) a i h;
}
  where
    uses_none : (u : Use) (name : List ℕ) → (is_of_use u (item_named name m.items) ≡ true → false ≡ true) → UseAlike (globals_within m a) (globals_within m b) u name
    uses_none u name h = unused_alike m a b u name (not_true (is_of_use u (item_named name m.items)) (unless_true (is_of_use u (item_named name m.items)) h))

-- each rank takes two levels: at the first the types that its functions declare are the same by all longer chains, at the second all
-- that is known of its items
next_rank : (m : Module) (k a b : ℕ) → Stage (settles m k) m (globals_within m a) (globals_within m b) → Stage (settles m k) m (globals_within m (suc a)) (globals_within m (suc b))
    → Stage (settles m (suc k)) m (globals_within m (suc (suc a))) (globals_within m (suc (suc b)))
next_rank m k a b first second = record {
  text = whole_is m (suc (suc a));
  known = globals_over_alike P Q T m (globals_within m (suc a)) (globals_within m (suc b)) sight (own_settles m k) (λ i h. reached_below m k (suc a) i h) Q (λ name h. (h, not_true (is_proc_item (item_named name m.items)) (and_both (ranked m (suc k) name) (not (is_proc_item (item_named name m.items))) h).1));
  uses = λ u name h. uses_over P Q T m (globals_within m (suc a)) (globals_within m (suc b)) sight (own_settles m k) u name h;
  reach = λ owner ms h. den_reach Q m (settles_closed m (suc k)) (suc (suc a)) owner ms h;
  reached = λ i h. instances_reach Q m (settles_closed m (suc k)) (suc (suc a)) i h;
}
  where
    P : List ℕ → Bool
    P = settles m k

    Q : List ℕ → Bool
    Q = settles m (suc k)

    T : List ℕ → List ℕ → Bool
    T = is_reached_so m k

    types : (f : Function) → item_named f.name.name m.items ≡ Some (d.Function f) → Q f.name.name ≡ true → TypesAlike (globals_within m (suc a)) (globals_within m (suc b)) f.name.name
    types f is h = function_types m k a b first f is h

    sight : Sight P Q T m (globals_within m (suc a)) (globals_within m (suc b))
    sight = beside_sight m k (suc a) (suc b) second types

pub ranks_settle : (m : Module) (k a b : ℕ) → 2 * k ≤ a → 2 * k ≤ b → Stage (settles m k) m (globals_within m a) (globals_within m b)
ranks_settle m zero a b p q = none_settle m a b
ranks_settle m (suc k) zero b p q = absurd (nothing p)
  where
    nothing : 2 * suc k ≤ 0 → ⊥
    nothing l = omega (arith, l)
ranks_settle m (suc k) (suc zero) b p q = absurd (nothing p)
  where
    nothing : 2 * suc k ≤ 1 → ⊥
    nothing l = omega (arith, l)
ranks_settle m (suc k) (suc (suc a)) zero p q = absurd (nothing q)
  where
    nothing : 2 * suc k ≤ 0 → ⊥
    nothing l = omega (arith, l)
ranks_settle m (suc k) (suc (suc a)) (suc zero) p q = absurd (nothing q)
  where
    nothing : 2 * suc k ≤ 1 → ⊥
    nothing l = omega (arith, l)
ranks_settle m (suc k) (suc (suc a)) (suc (suc b)) p q =
    let less : 2 * k ≤ a = omega (arith, p) in
    let other : 2 * k ≤ b = omega (arith, q) in
    let more : 2 * k ≤ suc a = omega (arith, p) in
    let further : 2 * k ≤ suc b = omega (arith, q) in
    next_rank m k a b (ranks_settle m k a b less other) (ranks_settle m k (suc a) (suc b) more further)

-- ---- all items

pub every_item_settles : (m : Module) (name : List ℕ) (x : Definition) → item_named name m.items ≡ Some x → is_proc_item (Some x) ≡ false → settles m (length m.items) name ≡ true
every_item_settles m name x q other = (λ i. ranked_so m (length m.items) name (item_ranked m name x q) i && not (is_proc_item (q i))) ∙ ap not other

use_settles : (m : Module) (u : Use) → IsNoProc u → (name : List ℕ) → is_of_use u (item_named name m.items) ≡ true → settles m (length m.items) name ≡ true
use_settles m u h name e = by_item (item_named name m.items) refl e
  where
    nothing : (u : Use) → is_of_use u None ≡ false
    nothing AsValue = refl
    nothing AsPattern = refl
    nothing AsType = refl
    nothing AsFunction = refl
    nothing AsProc = refl
    nothing AsEnum = refl
    nothing AsStruct = refl

    by_item : (o : Option Definition) → item_named name m.items ≡ o → is_of_use u o ≡ true → settles m (length m.items) name ≡ true
    by_item None q k = absurd (true≢false (sym k ∙ nothing u))
    by_item (Some x) q k = every_item_settles m name x q (not_true (is_proc_item (Some x)) (no_proc_use u h (Some x) k))

pub uses_settle : (m : Module) (a b : ℕ) → 2 * length m.items ≤ a → 2 * length m.items ≤ b → (u : Use) (name : List ℕ) → UseAlike (globals_within m a) (globals_within m b) u name
uses_settle m a b p q u name = by_use u
  where
    by_use : (u : Use) → UseAlike (globals_within m a) (globals_within m b) u name
    by_use AsValue = (ranks_settle m (length m.items) a b p q).uses AsValue name (use_settles m AsValue tt name)
    by_use AsPattern = (ranks_settle m (length m.items) a b p q).uses AsPattern name (use_settles m AsPattern tt name)
    by_use AsType = (ranks_settle m (length m.items) a b p q).uses AsType name (use_settles m AsType tt name)
    by_use AsFunction = (ranks_settle m (length m.items) a b p q).uses AsFunction name (use_settles m AsFunction tt name)
    by_use AsProc = tt
    by_use AsEnum = (ranks_settle m (length m.items) a b p q).uses AsEnum name (use_settles m AsEnum tt name)
    by_use AsStruct = (ranks_settle m (length m.items) a b p q).uses AsStruct name (use_settles m AsStruct tt name)

pub instances_settle : (m : Module) (a b : ℕ) → 2 * length m.items ≤ a → 2 * length m.items ≤ b → (i : Instance) (f : Function) → as_function (item_named i.name m.items) ≡ Some f
    → ((globals_within m a).is_sound i ≡ (globals_within m b).is_sound i) × ((globals_within m a).is_unbroken i ≡ (globals_within m b).is_unbroken i)
instances_settle m a b p q i f e =
    let named = function_is (item_named i.name m.items) f e in
    let here = every_item_settles m i.name (d.Function f) named refl in
    let s = ranks_settle m (length m.items) a b p q in
    (s.known.sound i here, s.known.unbroken i here)

-- ---- what a proc mentions

-- where nothing is mentioned as a proc
pub mentions_settle : (m : Module) (ms : List Mention) → NoProcs ms → list_all (settles m (length m.items)) (names_mentioned m ms) ≡ true
mentions_settle m [] h = refl
mentions_settle m (x ∷ ms) h = by_use (is_of_use x.use_as (item_named x.name m.items)) refl (mentions_settle m ms h.1)
  where
    by_use : (b : Bool) → is_of_use x.use_as (item_named x.name m.items) ≡ b → list_all (settles m (length m.items)) (names_mentioned m ms) ≡ true
        → list_all (settles m (length m.items)) (if b then x.name ∷ names_mentioned m ms else names_mentioned m ms) ≡ true
    by_use true q rest = λ i. use_settles m x.use_as h.0 x.name q i && rest i
    by_use false q rest = rest

pub item_rank : (m : Module) (name : List ℕ) (x : Definition) → item_named name m.items ≡ Some x → ranked m (length m.items) name ≡ true
item_rank m name x e = ranked_so m (length m.items) name (item_ranked m name x e)

-- what is no proc never reaches one, so that it stands below each that it is reached from
pub proc_below : (m : Module) (k : ℕ) (p : Proc) → item_named p.name.name m.items ≡ Some (d.Proc p) → ranked m (suc k) p.name.name ≡ true → (name : List ℕ) → item_reaches m p.name.name name ≡ true → is_proc_item (item_named name m.items) ≡ false
    → settles m k name ≡ true
proc_below m k p named h name e plain = by_back (item_reaches m name p.name.name) refl
  where
    by_back : (b : Bool) → item_reaches m name p.name.name ≡ b → settles m k name ≡ true
    by_back true q = absurd (true≢false (ap is_proc_item (sym named) ∙ reaches_no_proc m (length m.items) name p.name.name plain q))
    by_back false q =
        let above : is_above m p.name.name name ≡ true = λ i. e i && not (q i) in
        λ i. ranked_below m k p.name.name name h above i && not (plain i)

pub all_below : (m : Module) (k : ℕ) (p : Proc) → item_named p.name.name m.items ≡ Some (d.Proc p) → ranked m (suc k) p.name.name ≡ true → (ms : List Mention) → NoProcs ms → list_all (item_reaches m p.name.name) (names_mentioned m ms) ≡ true
    → list_all (settles m k) (names_mentioned m ms) ≡ true
all_below m k p named h ms none e =
    let R = item_reaches m p.name.name in
    all_weaker (unless_proc R m) (settles m k)
    (λ y v. let r = and_both (R y) (not (is_proc_item (item_named y m.items))) v in proc_below m k p named h y r.0 (not_true (is_proc_item (item_named y m.items)) r.1)) (names_mentioned m ms) (all_no_procs R m ms none e)
