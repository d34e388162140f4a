-- The channels of a network with which nothing is wrong have names of their own.
use Rattle.std.proofs.Common.{◌≡◌, ◌≤◌, ◌<◌, ◌^◌, ◌+◌, ◌%◌, ◌==◌, ◌||◌, ◌++◌, ℕ, zero, suc, Bool, true, false, if◌then◌else◌, List, [], ◌∷◌, map, length, Option, Some, None, arith, refl, sym, ap, subst, ◌∙◌}
use mathlib.Core.Bool.{true≢false}
use Rattle.std.specs.Prelude.{codes, decimal, slice_get}
use Rattle.std.specs.List.{list_any}
use Rattle.std.specs.Str.{bytes_eq}
use Rattle.std.proofs.lemmas.Fmt.{decimal_by_steps, decimal_injective}
use Rattle.std.proofs.lemmas.List.{append_assoc, append_cancel_left, length-append}
use Rattle.std.proofs.lemmas.Slice.Eq.{bytes_eq-Decides}
use Rattle.net_core.specs.declared.net.Chan.{Chan}
use Rattle.dslx_tree.specs.declared.item.Module.{Module}
use Rattle.dslx_tree.specs.declared.process.ConfigStatement.{ConfigStatement}
use Rattle.dslx_tree.specs.declared.process.ConfigStatement.TheVariants as config_statement
use Rattle.dslx_tree.specs.declared.process.End.{End}
use Rattle.dslx_tree.specs.declared.process.Proc.{Proc}
use Rattle.dslx_tree.specs.declared.process.Spawn.{Spawn}
use Rattle.dslx_meaning.specs.Environment.{Env}
use Rattle.dslx_meaning.specs.Items.{item_named, parametric_args_bound}
use Rattle.dslx_meaning.specs.Lists.{and_then, is_in}
use Rattle.dslx_meaning.specs.Environment.{Meanings}
use Rattle.dslx_meaning.specs.Network.{Elaboration, Family, Held, as_proc, channels_of_ends, child_path, children, elaborate_within, handed_over, made_chan, made_chans, made_ends, outer_chan, spawn_parametric_args, spawned, spawned_at}
use Rattle.dslx_meaning.specs.declared.value.DslxValue.{DslxValue}
use Rattle.dslx_meaning.specs.Rules.Mentions.{parametric_names}
use Rattle.dslx_meaning.specs.Rules.ModuleRules.{is_reached}
use Rattle.dslx_meaning.specs.Rules.NameRules.{local_name}
use Rattle.dslx_meaning.specs.Rules.ProcRules.{Made, behind_ends, channel_found, channel_type, config_statements_found, depth_found, ends_found, made_at_start, made_with, proc_type_env, spawn_found, string_faults}
use Rattle.dslx_meaning.specs.Rules.TypeEnvs.{GlobalEnv, Instance, TypeEnv}
use Rattle.dslx_core.proofs.Lemmas.Typing.Accepted.{IsAccepted, one_of_these}
use Rattle.dslx_core.proofs.Lemmas.Typing.Complete.{item_env}
use Rattle.dslx_core.proofs.Lemmas.Typing.Sound.{all_in, none_in, none_in_three, not_broken}
use Rattle.dslx_core.proofs.Lemmas.Typing.Typed.{list_parts, or_false, same_some}
use Rattle.dslx_core.specs.Typing.Complete.HasValue.{AreTyped}
use Rattle.dslx_core.specs.Typing.Typed.Complete.{IsComplete}
use Rattle.dslx_total.specs.Nets.Slashes.{has_slash}
use Rattle.dslx_total.proofs.OnFamilies.Acts.{parts_well_typed}
use Rattle.dslx_total.proofs.OnFamilies.Knows.{Knows}
use Rattle.dslx_total.proofs.OnFamilies.Reached.{Listed, all}
use Rattle.dslx_total.proofs.OnFamilies.Spawns.{proc_named, spawn_there}
use Rattle.dslx_total.proofs.OnFamilies.There.{IsThere, well}
use Rattle.dslx_total.proofs.OnNets.Ends.{new_name}

-- ---- numbers and what stands behind them

abbrev AreDigits : List ℕ → Type 0
AreDigits [] = Unit {0}
AreDigits (d ∷ ds) = (48 ≤ d) × AreDigits ds

-- it begins with a slash or a dot, which are below all digits
abbrev pub Starts : List ℕ → Type 0
Starts [] = ⊥
Starts (b ∷ bs) = b < 48

digits_more : (ds : List ℕ) (d : ℕ) → AreDigits ds → 48 ≤ d → AreDigits (ds ++ d ∷ [])
digits_more [] d h k = (k, tt)
digits_more (x ∷ xs) d h k = (h.0, digits_more xs d h.1 k)

decimal_digits : (n : ℕ) → n < 2 ^ 64 → AreDigits (decimal n)
decimal_digits = decimal_by_steps (λ n ds. AreDigits ds) (λ n h. (omega arith, tt)) (λ n ds h k. digits_more ds (48 + n % 10) k (omega arith))

digits_front : (ds es : List ℕ) → AreDigits ds → AreDigits es → (t u : List ℕ) → Starts t → Starts u → (ds ++ t) ≡ (es ++ u) → (ds ≡ es) × (t ≡ u)
digits_front [] [] h k t u a b e = (refl, e)
digits_front [] (x ∷ es) h k [] u a b e = absurd a
digits_front [] (x ∷ es) h k (y ∷ t) u a b e = let same = (list_parts y x t (es ++ u) e).0 in let low = k.0 in absurd (omega (arith, same, low, a))
digits_front (x ∷ ds) [] h k t [] a b e = absurd b
digits_front (x ∷ ds) [] h k t (y ∷ u) a b e = let same = (list_parts x y (ds ++ t) u e).0 in let low = h.0 in absurd (omega (arith, same, low, b))
digits_front (x ∷ ds) (y ∷ es) h k t u a b e =
    let parts = list_parts x y (ds ++ t) (es ++ u) e in
    let rest = digits_front ds es h.1 k.1 t u a b parts.1 in
    ((λ i. parts.0 i ∷ rest.0 i), rest.1)

-- ---- names of channels

pub record HaveOwnNames (xs : List Chan) : Type 0 where
  pub own : (c d : ℕ) (a b : Chan) → slice_get xs c ≡ Some a → slice_get xs d ≡ Some b → a.name ≡ b.name → c ≡ d

none_named : HaveOwnNames []
none_named = record { own = λ c d a b e f g. absurd (cc) }

-- where an element of two lists stands
data InEither (xs ys : List Chan) (c : ℕ) (a : Chan) : Type 0 where
  InFirst : slice_get xs c ≡ Some a → InEither xs ys c a
  InSecond : (j : ℕ) → c ≡ length xs + j → slice_get ys j ≡ Some a → InEither xs ys c a

in_either : (xs ys : List Chan) (c : ℕ) (a : Chan) → slice_get (xs ++ ys) c ≡ Some a → InEither xs ys c a
in_either [] ys c a e = InSecond c (omega arith) e
in_either (x ∷ xs) ys zero a e = InFirst e
in_either (x ∷ xs) ys (suc c) a e = by (in_either xs ys c a e)
  where
    by : InEither xs ys c a → InEither (x ∷ xs) ys (suc c) a
    by (InFirst f) = InFirst f
    by (InSecond j is f) = InSecond j (omega (arith, is)) f

both_named : (xs ys : List Chan) → HaveOwnNames xs → HaveOwnNames ys → ((c d : ℕ) (a b : Chan) → slice_get xs c ≡ Some a → slice_get ys d ≡ Some b → a.name ≡ b.name → ⊥) → HaveOwnNames (xs ++ ys)
both_named xs ys h k apart = record { own = λ c d a b e f g. by c d a b g (in_either xs ys c a e) (in_either xs ys d b f) }
  where
    by : (c d : ℕ) (a b : Chan) → a.name ≡ b.name → InEither xs ys c a → InEither xs ys d b → c ≡ d
    by c d a b g (InFirst e) (InFirst f) = h.own c d a b e f g
    by c d a b g (InFirst e) (InSecond j is f) = absurd (apart c j a b e f g)
    by c d a b g (InSecond i is e) (InFirst f) = absurd (apart d i b a f e (sym g))
    by c d a b g (InSecond i is e) (InSecond j same f) = let one = k.own i j a b e f g in omega (arith, is, same, one)

-- some part of it is a slash
pub record HasSlash (name : List ℕ) : Type 0 where
  front : List ℕ
  back : List ℕ
  is : name ≡ front ++ 47 ∷ back

slash_found : (front back : List ℕ) → has_slash (front ++ 47 ∷ back) ≡ true
slash_found [] back = refl
slash_found (x ∷ front) back = by (x == 47) (slash_found front back)
  where
    by : (b : Bool) → has_slash (front ++ 47 ∷ back) ≡ true → (b || has_slash (front ++ 47 ∷ back)) ≡ true
    by true q = refl
    by false q = q

-- behind the path of a proc
pub record IsBehind (path name : List ℕ) : Type 0 where
  tail : List ℕ
  is : name ≡ path ++ tail
  starts : Starts tail
  slash : HasSlash name

-- behind the path of one of its children, from one on
record IsBehindChild (path : List ℕ) (low : ℕ) (name : List ℕ) : Type 0 where
  child : ℕ
  from : low ≤ child
  below : child < 2 ^ 64
  tail : List ℕ
  is : name ≡ path ++ (46 ∷ (decimal child ++ tail))
  starts : Starts tail
  slash : HasSlash name

-- its own channel
record IsOwn (path : List ℕ) (strings : List (List ℕ)) (name : List ℕ) : Type 0 where
  text : List ℕ
  is : name ≡ path ++ (47 ∷ text)
  new : is_in text strings ≡ false

abbrev pub EachIs : (List ℕ → Type 0) → List Chan → Type 0
EachIs P xs = (i : ℕ) (x : Chan) → slice_get xs i ≡ Some x → P x.name

-- so it is with all channels of a family
pub record FamilyNamed (path : List ℕ) (xs : List Chan) : Type 0 where
  each : EachIs (IsBehind path) xs
  own : HaveOwnNames xs

record ChildrenNamed (path : List ℕ) (low : ℕ) (xs : List Chan) : Type 0 where
  each : EachIs (IsBehindChild path low) xs
  own : HaveOwnNames xs

record OwnNamed (path : List ℕ) (strings : List (List ℕ)) (xs : List Chan) : Type 0 where
  each : EachIs (IsOwn path strings) xs
  own : HaveOwnNames xs

each_both : (P : List ℕ → Type 0) (xs ys : List Chan) → EachIs P xs → EachIs P ys → EachIs P (xs ++ ys)
each_both P xs ys h k i x e = by (in_either xs ys i x e)
  where
    by : InEither xs ys i x → P x.name
    by (InFirst f) = h i x f
    by (InSecond j is f) = k j x f

-- ---- own channels

own_named : (context : TypeEnv) (path : List ℕ) (env : Env) (made : Made) (ms : List ConfigStatement) → (config_statements_found context made ms).faults ≡ [] → OwnNamed path made.strings (made_chans path env ms)
own_named context path env made [] f = record { each = λ i x e. absurd (cc); own = none_named }
own_named context path env made (config_statement.Spawn s ∷ ms) f =
    let rest = own_named context path env made ms (none_in (spawn_found context made s).faults (config_statements_found context made ms).faults f).1 in
    record { each = rest.each; own = rest.own }
own_named context path env made (config_statement.Channel c ∷ ms) f =
    let next = made_with context made c in
    let q = none_in (channel_found context made c).faults (config_statements_found context next ms).faults f in
    let rest = own_named context path env next ms q.1 in
    record { each = each (fresh q.0) rest.each; own = record { own = own rest.each rest.own } }
  where
    text : List ℕ
    text = c.name.name

    first : Chan
    first = made_chan path env c

    others : List Chan
    others = made_chans path env ms

    first_is : first.name ≡ path ++ (47 ∷ text)
    first_is = append_assoc path (codes "/") text

    fresh : (channel_found context made c).faults ≡ [] → is_in text made.strings ≡ false
    fresh g =
        let sender = local_name context made.names c.sender in
        let receiver = local_name context (c.sender.name ∷ made.names) c.receiver in
        let strings = string_faults made.strings c.name in
        let word = channel_type (behind_ends context made) c.word in
        let depth = depth_found (behind_ends context made) c.depth in
        not_broken (is_in text made.strings) 2 c.name.span (none_in_three sender receiver strings (none_in ((sender ++ receiver) ++ strings) (word.faults ++ depth.faults) g).0).2

    behind : (b : Bool) (n : List ℕ) → (if b then true else is_in n made.strings) ≡ false → is_in n made.strings ≡ false
    behind true n e = absurd (true≢false e)
    behind false n e = e

    each : is_in text made.strings ≡ false → EachIs (IsOwn path (text ∷ made.strings)) others → EachIs (IsOwn path made.strings) (first ∷ others)
    each new h zero x e = subst (λ (y : Chan). IsOwn path made.strings y.name) (same_some first x e) (record { text = text; is = first_is; new = new })
    each new h (suc i) x e = let k = h i x e in record { text = k.text; is = k.is; new = behind (bytes_eq k.text text) k.text k.new }

    never : {X : Type 0} → EachIs (IsOwn path (text ∷ made.strings)) others → (d : ℕ) (a b : Chan) → first ≡ a → slice_get others d ≡ Some b → a.name ≡ b.name → X
    never h d a b e f g =
        let k = h d b f in
        let same = append_cancel_left path (47 ∷ text) (47 ∷ k.text) (sym first_is ∙ ap (λ (y : Chan). y.name) e ∙ g ∙ k.is) in
        let one = (list_parts 47 47 text k.text same).1 in
        let there : is_in k.text (text ∷ made.strings) ≡ true = ap (λ b. if b then true else is_in k.text made.strings) ((bytes_eq-Decides k.text text).1 (sym one)) in
        absurd (true≢false (sym there ∙ k.new))

    own : EachIs (IsOwn path (text ∷ made.strings)) others → HaveOwnNames others → (i d : ℕ) (a b : Chan) → slice_get (first ∷ others) i ≡ Some a → slice_get (first ∷ others) d ≡ Some b → a.name ≡ b.name → i ≡ d
    own h k zero zero a b e f g = refl
    own h k zero (suc d) a b e f g = never h d a b (same_some first a e) f g
    own h k (suc i) zero a b e f g = never h i b a (same_some first b f) e (sym g)
    own h k (suc i) (suc d) a b e f g = ap suc (k.own i d a b e f g)

-- ---- families

-- no proc is placed by chains of no spawn
spawned_none : (m : Module) (items : Meanings) (path : List ℕ) (env : Env) (held : List Held) (sp : Spawn) (number : ℕ) → (spawned m items (elaborate_within m items 0) path env held sp number).chans ≡ []
spawned_none m items path env held sp number = by (as_proc (item_named sp.target.name m.items)) (and_then (as_proc (item_named sp.target.name m.items)) (λ p. spawn_parametric_args items env p sp.arguments))
  where
    by : (o : Option Proc) (q : Option (List DslxValue)) → (spawned_at (elaborate_within m items 0) path held sp number o q).chans ≡ []
    by None None = refl
    by None (Some q) = refl
    by (Some p) None = refl
    by (Some p) (Some q) = refl

children_none : (m : Module) (items : Meanings) (path : List ℕ) (env : Env) (held : List Held) (ms : List ConfigStatement) (k number : ℕ) → (children m items (elaborate_within m items 0) path env held ms k number).chans ≡ []
children_none m items path env held [] k number = refl
children_none m items path env held (config_statement.Channel c ∷ ms) k number = children_none m items path env held ms k number
children_none m items path env held (config_statement.Spawn sp ∷ ms) k number =
    let first = spawned m items (elaborate_within m items 0) (child_path path k) env held sp number in
    λ i. spawned_none m items (child_path path k) env held sp number i ++ children_none m items path env held ms (suc k) (number + length first.chans) i

module _ (m : Module) (top : Option (List ℕ)) (s : IsAccepted m top) (known : GlobalEnv) (knows : Knows m top s known) (complete : IsComplete known) (typed : AreTyped known) (limit : ℕ) (small : limit < 2 ^ 64) where
  abbrev test : Instance → Bool
  test i = is_reached i (all m top s)

  abbrev ScopesNamed : Elaboration → Type 0
  ScopesNamed place = (path : List ℕ) (p : Proc) (parametric_args : List DslxValue) (ends : List Held) (number : ℕ) → IsThere m top s known p parametric_args → length (place path p parametric_args ends number).procs ≤ limit
      → FamilyNamed path (place path p parametric_args ends number).chans

  module _ (place : Elaboration) (such : ScopesNamed place) (some : (path : List ℕ) (p : Proc) (parametric_args : List DslxValue) (ends : List Held) (number : ℕ) → 1 ≤ length (place path p parametric_args ends number).procs)
      (p : Proc) (parametric_args : List DslxValue) (here : IsThere m top s known p parametric_args) (path : List ℕ) (held : List Held) where
    abbrev context : TypeEnv
    context = proc_type_env known p parametric_args

    abbrev env : Env
    env = item_env known (parametric_args_bound [] p.parametrics parametric_args)

    abbrev bound : List (List ℕ)
    bound = parametric_names p.parametrics

    record SpawnNamed (own : List ℕ) (f : Family) : Type 0 where
      some_proc : 1 ≤ length f.procs
      named : length f.procs ≤ limit → FamilyNamed own f.chans

    one_named : (own : List ℕ) (made : Made) (sp : Spawn) (number : ℕ) → (spawn_found context made sp).faults ≡ [] → Listed m top s (spawn_found context made sp).reached
        → SpawnNamed own (spawned m known.items place own env held sp number)
    one_named own made sp number f r =
        let t = spawn_there m top s known knows complete typed p parametric_args (well m top s known complete typed p parametric_args here) made sp bound f r in
        let named = proc_named m sp.target.name t.target t.is in
        let there : IsThere m top s known t.target t.parametric_args = record { checked = record { named = named; among = one_of_these (record { name = t.target.name.name; parametric_args = t.parametric_args }) (all m top s) t.among }; own = t.own } in
        let given = handed_over t.target.config.ends (channels_of_ends held sp.ends) in
        let elaborated : spawned m known.items place own env held sp number ≡ place own t.target t.parametric_args given number =
        (λ i. spawned_at place own held sp number (t.is i) (and_then (t.is i) (λ q. spawn_parametric_args known.items env q sp.arguments))) ∙ ap (spawned_at place own held sp number (Some t.target)) t.given in
        subst (SpawnNamed own) (sym elaborated) (record { some_proc = some own t.target t.parametric_args given number; named = such own t.target t.parametric_args given number there })

    children_named : (made : Made) (ms : List ConfigStatement) (k number : ℕ) → k + length (children m known.items place path env held ms k number).procs ≤ limit
        → (config_statements_found context made ms).faults ≡ [] → Listed m top s (config_statements_found context made ms).reached
        → ChildrenNamed path k (children m known.items place path env held ms k number).chans
    children_named made [] k number few f r = record { each = λ i x e. absurd (cc); own = none_named }
    children_named made (config_statement.Channel ch ∷ ms) k number few f r =
        let next = made_with context made ch in
        let a = none_in (channel_found context made ch).faults (config_statements_found context next ms).faults f in
        let b = all_in test (channel_found context made ch).reached (config_statements_found context next ms).reached r in
        children_named next ms k number few a.1 b.1
    children_named made (config_statement.Spawn sp ∷ ms) k number few f r =
        let a = none_in (spawn_found context made sp).faults (config_statements_found context made ms).faults f in
        let b = all_in test (spawn_found context made sp).reached (config_statements_found context made ms).reached r in
        let first = spawned m known.items place (child_path path k) env held sp number in
        let behind = children m known.items place path env held ms (suc k) (number + length first.chans) in
        let one = one_named (child_path path k) made sp number a.0 b.0 in
        let both = length-append first.procs behind.procs in
        let some_one = one.some_proc in
        let own = one.named (omega (arith, few, both)) in
        let rest = children_named made ms (suc k) (number + length first.chans) (omega (arith, few, both, some_one)) a.1 b.1 in
        let low : k < 2 ^ 64 = omega (arith, few, both, some_one, small) in
        record {
          each = each_both (IsBehindChild path k) first.chans behind.chans (λ i x e. as_child k low x.name (own.each i x e)) (λ i x e. from_next k x.name (rest.each i x e));
          own = both_named first.chans behind.chans own.own rest.own (λ c d x y e g q. apart k low x.name y.name (own.each c x e) (rest.each d y g) q);
        }
      where
        regroup : (k : ℕ) (tail : List ℕ) → (child_path path k ++ tail) ≡ (path ++ (46 ∷ (decimal k ++ tail)))
        regroup k tail = append_assoc (path ++ codes ".") (decimal k) tail ∙ append_assoc path (codes ".") (decimal k ++ tail)

        as_child : (k : ℕ) → k < 2 ^ 64 → (name : List ℕ) → IsBehind (child_path path k) name → IsBehindChild path k name
        as_child k low name h = record { child = k; from = omega arith; below = low; tail = h.tail; is = h.is ∙ regroup k h.tail; starts = h.starts; slash = h.slash }

        from_next : (k : ℕ) (name : List ℕ) → IsBehindChild path (suc k) name → IsBehindChild path k name
        from_next k name h = let from = h.from in record { child = h.child; from = omega (arith, from); below = h.below; tail = h.tail; is = h.is; starts = h.starts; slash = h.slash }

        apart : (k : ℕ) → k < 2 ^ 64 → (name other : List ℕ) → IsBehind (child_path path k) name → IsBehindChild path (suc k) other → name ≡ other → ⊥
        apart k low name other h g e =
            let same = append_cancel_left path (46 ∷ (decimal k ++ h.tail)) (46 ∷ (decimal g.child ++ g.tail)) (sym (h.is ∙ regroup k h.tail) ∙ e ∙ g.is) in
            let rest = (list_parts 46 46 (decimal k ++ h.tail) (decimal g.child ++ g.tail) same).1 in
            let digits = (digits_front (decimal k) (decimal g.child) (decimal_digits k low) (decimal_digits g.child g.below) h.tail g.tail h.starts g.starts rest).0 in
            let one = decimal_injective k g.child low g.below digits in
            let from = g.from in
            omega (arith, one, from)

  -- by spawns of any number
  pub all_named : (n : ℕ) → ScopesNamed (elaborate_within m known.items n)
  all_named zero path p parametric_args ends number here few = record { each = λ i x e. absurd (cc); own = none_named }
  all_named (suc n) path p parametric_args ends number here few =
      let parts = parts_well_typed m top s known knows p parametric_args here.checked in
      let outer = ends_found context [] p.config.ends in
      let made = config_statements_found context start ms in
      let a = none_in made.faults _ (none_in outer.faults (made.faults ++ _) parts.config).1 in
      let b = (all_in test made.reached [] (all_in test outer.reached (made.reached ++ []) parts.listed).1).0 in
      let mine = own_named context path env start ms a.0 in
      let spawned_ones = by n (all_named n) few a.0 b in
      record {
        each = each_both (IsBehind path) own (others n).chans (λ i x e. own_behind x.name (mine.each i x e)) (λ i x e. child_behind x.name (spawned_ones.each i x e));
        own = both_named own (others n).chans mine.own spawned_ones.own (λ c d x y e f g. apart x.name y.name (mine.each c x e) (spawned_ones.each d y f) g);
      }
    where
      context : TypeEnv
      context = proc_type_env known p parametric_args

      env : Env
      env = item_env known (parametric_args_bound [] p.parametrics parametric_args)

      ms : List ConfigStatement
      ms = p.config.config_statements

      start : Made
      start = made_at_start context p.config.ends

      own : List Chan
      own = made_chans path env ms

      held : List Held
      held = ends ++ made_ends number ms

      others : ℕ → Family
      others n = children m known.items (elaborate_within m known.items n) path env held ms 0 (number + length own)

      by : (n : ℕ) → ScopesNamed (elaborate_within m known.items n) → suc (length (others n).procs) ≤ limit
          → (config_statements_found context start ms).faults ≡ [] → Listed m top s (config_statements_found context start ms).reached → ChildrenNamed path 0 (others n).chans
      by zero such few f r = subst (ChildrenNamed path 0) (sym (children_none m known.items path env held ms 0 (number + length own))) (record { each = λ i x e. absurd (cc); own = none_named })
      by (suc n) such few f r =
          children_named (elaborate_within m known.items (suc n)) such (λ path p parametric_args ends number. omega arith) p parametric_args here path held start ms 0 (number + length own) (omega (arith, few)) f r

      own_behind : (name : List ℕ) → IsOwn path start.strings name → IsBehind path name
      own_behind name h = record { tail = 47 ∷ h.text; is = h.is; starts = omega arith; slash = record { front = path; back = h.text; is = h.is } }

      child_behind : (name : List ℕ) → IsBehindChild path 0 name → IsBehind path name
      child_behind name h = record { tail = 46 ∷ (decimal h.child ++ h.tail); is = h.is; starts = omega arith; slash = h.slash }

      apart : (name other : List ℕ) → IsOwn path start.strings name → IsBehindChild path 0 other → name ≡ other → ⊥
      apart name other h g e =
          let same = append_cancel_left path (47 ∷ h.text) (46 ∷ (decimal g.child ++ g.tail)) (sym h.is ∙ e ∙ g.is) in
          let heads = (list_parts 47 46 h.text (decimal g.child ++ g.tail) same).0 in
          omega (arith, heads)

-- ---- outer channels

outer_named : (context : TypeEnv) (env : Env) (before : List (List ℕ)) (es : List End) → (ends_found context before es).faults ≡ []
    → ((i : ℕ) (x : Chan) → slice_get (map (outer_chan env) es) i ≡ Some x → is_in x.name before ≡ false) × HaveOwnNames (map (outer_chan env) es)
outer_named context env before [] f = ((λ i x e. absurd (cc)), none_named)
outer_named context env before (y ∷ es) f =
    let word = channel_type context y.word in
    let rest = ends_found context (y.name.name ∷ before) es in
    let q = none_in (local_name context before y.name) (word.faults ++ rest.faults) f in
    let more = outer_named context env (y.name.name ∷ before) es (none_in word.faults rest.faults q.1).1 in
    (new (new_name context before y.name q.0) more.0, record { own = own more.0 more.1 })
  where
    first : Chan
    first = outer_chan env y

    others : List Chan
    others = map (outer_chan env) es

    behind : (b : Bool) (n : List ℕ) → (if b then true else is_in n before) ≡ false → is_in n before ≡ false
    behind true n e = absurd (true≢false e)
    behind false n e = e

    new : is_in y.name.name before ≡ false → ((i : ℕ) (x : Chan) → slice_get others i ≡ Some x → is_in x.name (y.name.name ∷ before) ≡ false) → (i : ℕ) (x : Chan) → slice_get (first ∷ others) i ≡ Some x → is_in x.name before ≡ false
    new one h zero x e = subst (λ (z : Chan). is_in z.name before ≡ false) (same_some first x e) one
    new one h (suc i) x e = behind (bytes_eq x.name y.name.name) x.name (h i x e)

    never : {X : Type 0} → ((i : ℕ) (x : Chan) → slice_get others i ≡ Some x → is_in x.name (y.name.name ∷ before) ≡ false) → (d : ℕ) (a b : Chan) → first ≡ a → slice_get others d ≡ Some b → a.name ≡ b.name → X
    never h d a b e f g =
        let there : is_in b.name (y.name.name ∷ before) ≡ true = ap (λ t. if t then true else is_in b.name before) ((bytes_eq-Decides b.name y.name.name).1 (sym (ap (λ (z : Chan). z.name) e ∙ g))) in
        absurd (true≢false (sym there ∙ h d b f))

    own : ((i : ℕ) (x : Chan) → slice_get others i ≡ Some x → is_in x.name (y.name.name ∷ before) ≡ false) → HaveOwnNames others → (i d : ℕ) (a b : Chan) → slice_get (first ∷ others) i ≡ Some a → slice_get (first ∷ others) d ≡ Some b → a.name ≡ b.name → i ≡ d
    own h k zero zero a b e f g = refl
    own h k zero (suc d) a b e f g = never h d a b (same_some first a e) f g
    own h k (suc i) zero a b e f g = never h i b a (same_some first b f) e (sym g)
    own h k (suc i) (suc d) a b e f g = ap suc (k.own i d a b e f g)

no_slashes : (env : Env) (es : List End) → list_any (λ (e : End). has_slash e.name.name) es ≡ false → (i : ℕ) (x : Chan) → slice_get (map (outer_chan env) es) i ≡ Some x → has_slash x.name ≡ false
no_slashes env [] h i x e = absurd (cc)
no_slashes env (y ∷ es) h zero x e = subst (λ (z : Chan). has_slash z.name ≡ false) (same_some (outer_chan env y) x e) (or_false (has_slash y.name.name) (list_any (λ (e : End). has_slash e.name.name) es) h).0
no_slashes env (y ∷ es) h (suc i) x e = no_slashes env es (or_false (has_slash y.name.name) (list_any (λ (e : End). has_slash e.name.name) es) h).1 i x e

-- outer channels, whose names have no slash, and those of a family
pub whole_named : (context : TypeEnv) (env : Env) (es : List End) → (ends_found context [] es).faults ≡ [] → list_any (λ (e : End). has_slash e.name.name) es ≡ false → (path : List ℕ) (xs : List Chan) → FamilyNamed path xs
    → HaveOwnNames (map (outer_chan env) es ++ xs)
whole_named context env es f plain path xs h =
    both_named (map (outer_chan env) es) xs (outer_named context env [] es f).1 h.own (λ c d a b e g q.
    let k = (h.each d b g).slash in
    let none = no_slashes env es plain c a e in
    let some = ap has_slash (q ∙ k.is) ∙ slash_found k.front k.back in
    absurd (true≢false (sym some ∙ none)))
