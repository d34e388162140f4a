-- Each end of a channel is at one proc of the network.
use Rattle.std.proofs.Common.{◌≡◌, ◌≤◌, ◌<◌, ◌+◌, ◌&&◌, ◌==◌, ◌++◌, ℕ, zero, suc, inl, inr, Bool, true, false, if◌then◌else◌, List, [], ◌∷◌, map, length, Option, Some, arith, refl, sym, ap, subst, ◌∙◌}
use mathlib.Core.Bool.{true≢false}
use Rattle.std.specs.Prelude.{◌⊎◌, slice_get, unwrap_or}
use Rattle.std.specs.List.{list_all}
use Rattle.std.specs.Str.{bytes_eq}
use Rattle.std.proofs.lemmas.Bool.Decides.{Decides-eqb}
use Rattle.std.proofs.lemmas.List.{append-nil, append_assoc, length-append}
use Rattle.std.proofs.lemmas.Slice.Eq.{bytes_eq-Decides}
use Rattle.xb_span.specs.declared.fault.Fault.{Fault}
use Rattle.net_core.specs.declared.net.Chan.{Chan}
use Rattle.dslx_tree.specs.declared.item.Module.{Module}
use Rattle.dslx_tree.specs.declared.process.ConfigStatement.{ConfigStatement}
use Rattle.dslx_tree.specs.declared.process.ConfigStatement.TheVariants as config_statement
use Rattle.dslx_tree.specs.declared.process.Direction.{Direction}
use Rattle.dslx_tree.specs.declared.process.End.{End}
use Rattle.dslx_tree.specs.declared.process.Proc.{Proc}
use Rattle.dslx_tree.specs.declared.process.Spawn.{Spawn}
use Rattle.dslx_meaning.specs.Environment.{Env}
use Rattle.dslx_meaning.specs.Items.{parametric_args_bound}
use Rattle.dslx_meaning.specs.Lists.{and_then, beside, is_in}
use Rattle.dslx_meaning.specs.Network.{Elaborated, Elaboration, Family, Held, channels_of_ends, child_path, children, elaborate_within, handed_over, made_chans, made_ends, outer_ends, spawn_parametric_args, spawned, spawned_at}
use Rattle.dslx_meaning.specs.declared.value.DslxValue.{DslxValue}
use Rattle.dslx_meaning.specs.Rules.CallRules.{channel_end_in}
use Rattle.dslx_meaning.specs.Rules.Mentions.{parametric_names}
use Rattle.dslx_meaning.specs.Rules.ModuleRules.{is_reached}
use Rattle.dslx_meaning.specs.Rules.ItemRules.{Found}
use Rattle.dslx_meaning.specs.Rules.ProcRules.{Made, channel_end_of, channel_found, config_statements_found, end_names, ends_found, ident_names, is_members, made_at_end, made_at_start, made_with, proc_type_env, spawn_found, times_in, unknown_ends, use_faults, used_ends}
use Rattle.dslx_meaning.specs.Rules.TypeEnvs.{ChannelEnd, GlobalEnv, Instance, TypeEnv}
use Rattle.dslx_core.proofs.Lemmas.Typing.Accepted.{IsAccepted, one_of_these}
use Rattle.dslx_core.proofs.Lemmas.Typing.Complete.{item_env}
use Rattle.dslx_core.proofs.Lemmas.Typing.Laws.{and_true}
use Rattle.dslx_core.proofs.Lemmas.Typing.Sound.{all_in, none_in, passed}
use Rattle.dslx_core.proofs.Lemmas.Typing.Typed.{none_some, same_some}
use Rattle.dslx_core.specs.Typing.Complete.HasValue.{AreTyped}
use Rattle.dslx_core.specs.Typing.Typed.Complete.{IsComplete}
use Rattle.dslx_total.proofs.OnConfigs.Held.{stays}
use Rattle.dslx_total.proofs.OnFamilies.Acts.{parts_well_typed}
use Rattle.dslx_total.proofs.OnFamilies.Knows.{Knows}
use Rattle.dslx_total.proofs.OnFamilies.Reached.{Listed, all}
use Rattle.dslx_total.proofs.OnFamilies.Spawns.{proc_named, spawn_there}
use Rattle.dslx_total.proofs.OnFamilies.There.{IsThere, well}
use Rattle.dslx_total.proofs.OnNets.Handed.{FirstOr, IsFirst, IsLater, Stands, first_or, first_scope, handed_apart, handed_back, handed_go, handed_scope, in_times, members_back, members_go, no_scope, times_behind, times_used}
use Rattle.dslx_total.proofs.OnNets.Pairs.{AreApart, IsScope, PairAt, apart_more, at_end, count_made, fresh_ends, made_are_counted, scope_more}

-- ---- who uses which ends

-- some member of the proc is an end of this channel that goes this way
pub record UsesEnd (known : GlobalEnv) (a : Elaborated) (c : ℕ) (d : Direction) : Type 0 where
  pub name : List ℕ
  pub channel_end : ChannelEnd
  pub found : channel_end_in name (map (channel_end_of (proc_type_env known a.proc a.parametric_args)) a.proc.members) ≡ Some channel_end
  pub goes : channel_end.direction ≡ d
  pub at : unwrap_or (beside name (map (λ (e : End). e.name.name) a.proc.members) a.channels) 0 ≡ c

-- these procs use only such ends, each of them at one proc
pub record UsedOnce (known : GlobalEnv) (ps : List Elaborated) (S : ℕ → Direction → Type 0) : Type 0 where
  pub within : (k : ℕ) (a : Elaborated) (c : ℕ) (d : Direction) → slice_get ps k ≡ Some a → UsesEnd known a c d → S c d
  pub once : (k l : ℕ) (a b : Elaborated) (c : ℕ) (d : Direction) → slice_get ps k ≡ Some a → slice_get ps l ≡ Some b → UsesEnd known a c d → UsesEnd known b c d → k ≡ l

none_used : (known : GlobalEnv) (S : ℕ → Direction → Type 0) → UsedOnce known [] S
none_used known S = record { within = λ k a c d e u. absurd (cc); once = λ k l a b c d e f u v. absurd (cc) }

-- where an element of two lists stands
data InEither (ps qs : List Elaborated) (k : ℕ) (a : Elaborated) : Type 0 where
  InFirst : slice_get ps k ≡ Some a → InEither ps qs k a
  InSecond : (j : ℕ) → k ≡ length ps + j → slice_get qs j ≡ Some a → InEither ps qs k a

in_either : (ps qs : List Elaborated) (k : ℕ) (a : Elaborated) → slice_get (ps ++ qs) k ≡ Some a → InEither ps qs k a
in_either [] qs k a e = InSecond k (omega arith) e
in_either (p ∷ ps) qs zero a e = InFirst e
in_either (p ∷ ps) qs (suc k) a e = by (in_either ps qs k a e)
  where
    by : InEither ps qs k a → InEither (p ∷ ps) qs (suc k) a
    by (InFirst f) = InFirst f
    by (InSecond j is f) = InSecond j (omega (arith, is)) f

both_once : (known : GlobalEnv) (ps qs : List Elaborated) (S T R : ℕ → Direction → Type 0) → UsedOnce known ps S → UsedOnce known qs T → ((c : ℕ) (d : Direction) → S c d → R c d) → ((c : ℕ) (d : Direction) → T c d → R c d)
    → ((c : ℕ) (d : Direction) → S c d → T c d → ⊥) → UsedOnce known (ps ++ qs) R
both_once known ps qs S T R h k first second apart = record {
  within = λ i a c d e u. by_one a c d u (in_either ps qs i a e);
  once = λ i j a b c d e f u v. by_two i j a b c d u v (in_either ps qs i a e) (in_either ps qs j b f);
}
  where
    by_one : {i : ℕ} (a : Elaborated) (c : ℕ) (d : Direction) → UsesEnd known a c d → InEither ps qs i a → R c d
    by_one {i} a c d u (InFirst e) = first c d (h.within i a c d e u)
    by_one a c d u (InSecond j is e) = second c d (k.within j a c d e u)

    by_two : (i j : ℕ) (a b : Elaborated) (c : ℕ) (d : Direction) → UsesEnd known a c d → UsesEnd known b c d → InEither ps qs i a → InEither ps qs j b → i ≡ j
    by_two i j a b c d u v (InFirst e) (InFirst f) = h.once i j a b c d e f u v
    by_two i j a b c d u v (InFirst e) (InSecond y is f) = absurd (apart c d (h.within i a c d e u) (k.within y b c d f v))
    by_two i j a b c d u v (InSecond x is e) (InFirst f) = absurd (apart c d (h.within j b c d f v) (k.within x a c d e u))
    by_two i j a b c d u v (InSecond x is e) (InSecond y same f) = let one = k.once x y a b c d e f u v in omega (arith, is, same, one)

weaker_once : (known : GlobalEnv) (ps : List Elaborated) (S T : ℕ → Direction → Type 0) → UsedOnce known ps S → ((c : ℕ) (d : Direction) → S c d → T c d) → UsedOnce known ps T
weaker_once known ps S T h f = record { within = λ k a c d e u. f c d (h.within k a c d e u); once = h.once }

-- ends that these names stand for, and channels from one number to below another
pub data UsedEnds (ns : List (List ℕ)) (ends : List ChannelEnd) (held : List Held) (low high c : ℕ) (d : Direction) : Type 0 where
  NamedSo : (name : List ℕ) → is_in name ns ≡ true → PairAt ends held name c d → UsedEnds ns ends held low high c d
  InRange : low ≤ c → c < high → UsedEnds ns ends held low high c d

-- ---- names

in_append_first : (name : List ℕ) (xs ys : List (List ℕ)) → is_in name xs ≡ true → is_in name (xs ++ ys) ≡ true
in_append_first name [] ys e = absurd (true≢false (sym e))
in_append_first name (x ∷ xs) ys e = by (bytes_eq name x) e (in_append_first name xs ys)
  where
    by : (b : Bool) → (if b then true else is_in name xs) ≡ true → (is_in name xs ≡ true → is_in name (xs ++ ys) ≡ true) → (if b then true else is_in name (xs ++ ys)) ≡ true
    by true q rest = refl
    by false q rest = rest q

in_append_second : (name : List ℕ) (xs ys : List (List ℕ)) → is_in name ys ≡ true → is_in name (xs ++ ys) ≡ true
in_append_second name [] ys e = e
in_append_second name (x ∷ xs) ys e = by (bytes_eq name x) (in_append_second name xs ys e)
  where
    by : (b : Bool) → is_in name (xs ++ ys) ≡ true → (if b then true else is_in name (xs ++ ys)) ≡ true
    by true q = refl
    by false q = q

-- each of these names passes
passes_all : (f : List ℕ → Bool) (ns : List (List ℕ)) → list_all f ns ≡ true → (name : List ℕ) → is_in name ns ≡ true → f name ≡ true
passes_all f [] h name e = absurd (true≢false (sym e))
passes_all f (n ∷ ns) h name e = let q = and_true (f n) (list_all f ns) h in by (bytes_eq name n) refl e q.0 (passes_all f ns q.1 name)
  where
    by : (b : Bool) → bytes_eq name n ≡ b → (if b then true else is_in name ns) ≡ true → f n ≡ true → (is_in name ns ≡ true → f name ≡ true) → f name ≡ true
    by true q r one rest = ap f ((bytes_eq-Decides name n).0 q) ∙ one
    by false q r one rest = rest r

-- ---- the ends of the top proc

pub outer_scope : (context : TypeEnv) (number : ℕ) (es : List End) → IsScope (end_names es) (map (channel_end_of context) es) (outer_ends number es)
outer_scope context number [] = no_scope
outer_scope context number (e ∷ es) = first_scope (end_names es) (map (channel_end_of context) es) (outer_ends (suc number) es) (channel_end_of context e) number (outer_scope context (suc number) es)

outer_from : (context : TypeEnv) (number : ℕ) (es : List End) (name : List ℕ) (x : ℕ) (d : Direction) → PairAt (map (channel_end_of context) es) (outer_ends number es) name x d → (number ≤ x) × (x < number + length es)
outer_from context number [] name x d k = none_some k.channel_end k.found
outer_from context number (e ∷ es) name x d k = by (first_or (map (channel_end_of context) es) (outer_ends (suc number) es) (channel_end_of context e) number name x d k) (λ p. outer_from context (suc number) es name x d p)
  where
    by : FirstOr (map (channel_end_of context) es) (outer_ends (suc number) es) (channel_end_of context e) number name x d
        → (PairAt (map (channel_end_of context) es) (outer_ends (suc number) es) name x d → (suc number ≤ x) × (x < suc number + length es)) → (number ≤ x) × (x < number + length (e ∷ es))
    by (IsFirst a b c) rest = (omega (arith, b), omega (arith, b))
    by (IsLater p) rest = let q = rest p in let one = q.0 in let two = q.1 in (omega (arith, one), omega (arith, two))

pub outer_apart : (context : TypeEnv) (number : ℕ) (es : List End) → AreApart (map (channel_end_of context) es) (outer_ends number es) (number + length es)
outer_apart context number es = record { apart = λ name other x d k l. apart number es name other x d k l; below = λ name x d k. (outer_from context number es name x d k).1 }
  where
    apart : (number : ℕ) (es : List End) (name other : List ℕ) (x : ℕ) (d : Direction) → PairAt (map (channel_end_of context) es) (outer_ends number es) name x d → PairAt (map (channel_end_of context) es) (outer_ends number es) other x d → name ≡ other
    apart number [] name other x d k l = none_some k.channel_end k.found
    apart number (e ∷ es) name other x d k l =
        by (first_or (map (channel_end_of context) es) (outer_ends (suc number) es) (channel_end_of context e) number name x d k) (first_or (map (channel_end_of context) es) (outer_ends (suc number) es) (channel_end_of context e) number other x d l)
        (λ p q. apart (suc number) es name other x d p q)
      where
        by : FirstOr (map (channel_end_of context) es) (outer_ends (suc number) es) (channel_end_of context e) number name x d → FirstOr (map (channel_end_of context) es) (outer_ends (suc number) es) (channel_end_of context e) number other x d
            → (PairAt (map (channel_end_of context) es) (outer_ends (suc number) es) name x d → PairAt (map (channel_end_of context) es) (outer_ends (suc number) es) other x d → name ≡ other) → name ≡ other
        by (IsFirst a b c) (IsFirst f g h) rest = a ∙ sym f
        by (IsFirst a b c) (IsLater q) rest = let low = (outer_from context (suc number) es other x d q).0 in absurd (omega (arith, b, low))
        by (IsLater p) (IsFirst f g h) rest = let low = (outer_from context (suc number) es name x d p).0 in absurd (omega (arith, g, low))
        by (IsLater p) (IsLater q) rest = rest p q

-- ---- families

module _ (m : Module) (top : Option (List ℕ)) (s : IsAccepted m top) (known : GlobalEnv) (knows : Knows m top s known) (complete : IsComplete known) (typed : AreTyped known) where
  abbrev test : Instance → Bool
  test i = is_reached i (all m top s)

  abbrev pub EndsTyped : Proc → List DslxValue → List ChannelEnd
  EndsTyped p parametric_args = map (channel_end_of (proc_type_env known p parametric_args)) p.config.ends

  -- the ends of a `config`, and the channels that the family makes
  abbrev pub Owned : Proc → List DslxValue → List Held → ℕ → ℕ → ℕ → Direction → Type 0
  Owned p parametric_args ends low high c d = UsedEnds (end_names p.config.ends) (EndsTyped p parametric_args) ends low high c d

  abbrev ScopesOnce : Elaboration → Type 0
  ScopesOnce place = (path : List ℕ) (p : Proc) (parametric_args : List DslxValue) (ends : List Held) (number : ℕ) → IsThere m top s known p parametric_args → IsScope (end_names p.config.ends) (EndsTyped p parametric_args) ends
      → AreApart (EndsTyped p parametric_args) ends number
      → UsedOnce known (place path p parametric_args ends number).procs (Owned p parametric_args ends number (number + length (place path p parametric_args ends number).chans))

  module _ (place : Elaboration) (such : ScopesOnce place) (p : Proc) (parametric_args : List DslxValue) (here : IsThere m top s known p parametric_args) (path : List ℕ) (held : List Held) (end : Made)
      (scope_end : IsScope end.names end.channel_ends held) (highest : ℕ) (apart_end : AreApart end.channel_ends held highest) where
    abbrev context : TypeEnv
    context = proc_type_env known p parametric_args

    abbrev env : Env
    env = item_env known (parametric_args_bound [] p.parametrics parametric_args)

    abbrev bound : List (List ℕ)
    bound = parametric_names p.parametrics

    abbrev Used : List (List ℕ) → ℕ → ℕ → ℕ → Direction → Type 0
    Used ns low high c d = UsedEnds ns end.channel_ends held low high c d

    -- two groups of ends of the `config` that share no name, and channels behind them
    used_apart : (ns ms : List (List ℕ)) → ((name : List ℕ) → is_in name end.names ≡ true → times_in name ns + times_in name ms ≤ 1) → (low middle high : ℕ) → highest ≤ low → low ≤ middle
        → (c : ℕ) (d : Direction) → Used ns low middle c d → Used ms middle high c d → ⊥
    used_apart ns ms once low middle high a b c d (NamedSo x e k) (NamedSo y f l) =
        let same = apart_end.apart x y c d k l in
        let one = in_times x ns e in
        let two = in_times x ms (ap (λ n. is_in n ms) same ∙ f) in
        let few = once x (scope_end.named x k.channel_end k.found) in
        omega (arith, one, two, few)
    used_apart ns ms once low middle high a b c d (NamedSo x e k) (InRange f g) = let less = apart_end.below x c d k in omega (arith, less, a, b, f)
    used_apart ns ms once low middle high a b c d (InRange e f) (NamedSo y g l) = let less = apart_end.below y c d l in omega (arith, less, a, e)
    used_apart ns ms once low middle high a b c d (InRange e f) (InRange g h) = omega (arith, f, g)

    one_once : (own : List ℕ) (made : Made) (before rest : List Held) (sp : Spawn) (number : ℕ) → IsScope made.names made.channel_ends before → held ≡ before ++ rest
        → ((name : List ℕ) (x : ℕ) (d : Direction) → PairAt made.channel_ends before name x d → PairAt end.channel_ends held name x d) → highest ≤ number
        → ((name : List ℕ) → is_in name made.names ≡ true → times_in name (ident_names sp.ends) ≤ 1)
        → (spawn_found context made sp).faults ≡ [] → Listed m top s (spawn_found context made sp).reached
        → UsedOnce known (spawned m known.items place own env held sp number).procs (Used (ident_names sp.ends) number (number + length (spawned m known.items place own env held sp number).chans))
    one_once own made before rest sp number scope is on low once f r =
        let t = spawn_there m top s known knows complete typed p parametric_args (well m top s known complete typed p parametric_args here) made sp bound f r in
        let named = proc_named m sp.target.name t.target t.is in
        let there : IsThere m top s known t.target t.parametric_args = record { checked = record { named = named; among = one_of_these (record { name = t.target.name.name; parametric_args = t.parametric_args }) (all m top s) t.among }; own = t.own } in
        let es = t.target.config.ends in
        let many = (Decides-eqb (length sp.ends) (length es)).0 t.many in
        let go = handed_go (proc_type_env known t.target t.parametric_args) made es sp.ends many t.ends t.handed in
        let inner = proc_type_env known t.target t.parametric_args in
        let given = handed_over es (channels_of_ends held sp.ends) in
        let back = handed_back made before rest held is scope inner es sp.ends go in
        let apart : AreApart (EndsTyped t.target t.parametric_args) given number = record {
          apart = handed_apart made before rest held is scope inner (λ x y c d a b. apart_end.apart x y c d (on x c d a) (on y c d b)) es sp.ends go once;
          below = λ x c d k. let st = back x c d k in let less = apart_end.below st.name c d (on st.name c d st.pair) in omega (arith, less, low);
        } in
        let elaborated : spawned m known.items place own env held sp number ≡ place own t.target t.parametric_args given number =
        (λ i. spawned_at place own held sp number (t.is i) (and_then (t.is i) (λ q. spawn_parametric_args known.items env q sp.arguments))) ∙ ap (spawned_at place own held sp number (Some t.target)) t.given in
        let own_once = such own t.target t.parametric_args given number there (handed_scope made before rest held is scope inner es sp.ends go) apart in
        subst (λ (x : Family). UsedOnce known x.procs (Used (ident_names sp.ends) number (number + length x.chans))) (sym elaborated)
        (weaker_once known (place own t.target t.parametric_args given number).procs (Owned t.target t.parametric_args given number (number + length (place own t.target t.parametric_args given number).chans))
        (Used (ident_names sp.ends) number (number + length (place own t.target t.parametric_args given number).chans)) own_once
        (λ c d u. as_used (number + length (place own t.target t.parametric_args given number).chans) back c d u))
      where
        as_used : {ns : List (List ℕ)} {ends : List ChannelEnd} {hs : List Held} (high : ℕ) → ((x : List ℕ) (c : ℕ) (d : Direction) → PairAt ends hs x c d → Stands made before rest held is scope sp.ends c d) → (c : ℕ) (d : Direction)
            → UsedEnds ns ends hs number high c d → Used (ident_names sp.ends) number high c d
        as_used high back c d (NamedSo x e k) = let st = back x c d k in NamedSo st.name st.used (on st.name c d st.pair)
        as_used high back c d (InRange e f) = InRange e f

    -- the spawns of these statements
    children_once : (made : Made) (before : List Held) (ms : List ConfigStatement) (c k number : ℕ) → IsScope made.names made.channel_ends before → AreApart made.channel_ends before c → held ≡ before ++ made_ends c ms
        → made_at_end context made ms ≡ end → highest ≤ number → ((name : List ℕ) → is_in name end.names ≡ true → times_in name (used_ends ms []) ≤ 1)
        → (config_statements_found context made ms).faults ≡ [] → Listed m top s (config_statements_found context made ms).reached
        → UsedOnce known (children m known.items place path env held ms k number).procs (Used (used_ends ms []) number (number + length (children m known.items place path env held ms k number).chans))
    children_once made before [] c k number scope apart is ends low once f r = none_used known (Used [] number (number + 0))
    children_once made before (config_statement.Channel ch ∷ ms) c k number scope apart is ends low once f r =
        let next = made_with context made ch in
        let a = none_in (channel_found context made ch).faults (config_statements_found context next ms).faults f in
        let b = all_in test (channel_found context made ch).reached (config_statements_found context next ms).reached r in
        let fresh = fresh_ends context made ch a.0 in
        let both : List Held = record { name = ch.sender.name; channel = c } ∷ record { name = ch.receiver.name; channel = c } ∷ [] in
        children_once next (before ++ both) ms (suc c) k number (scope_more context made before ch c scope fresh.0 fresh.1) (apart_more context made before ch c scope fresh.0 fresh.1 apart)
        (is ∙ sym (append_assoc before both (made_ends (suc c) ms))) ends low once a.1 b.1
    children_once made before (config_statement.Spawn sp ∷ ms) c k number scope apart is ends low once f r =
        let a = none_in (spawn_found context made sp).faults (config_statements_found context made ms).faults f in
        let b = all_in test (spawn_found context made sp).reached (config_statements_found context made ms).reached r in
        let first = spawned m known.items place (child_path path k) env held sp number in
        let middle = number + length first.chans in
        let behind = children m known.items place path env held ms (suc k) middle in
        let here = at_end context made before c ms scope apart a.1 in
        let on : (name : List ℕ) (x : ℕ) (d : Direction) → PairAt made.channel_ends before name x d → PairAt end.channel_ends held name x d =
        λ name x d q. subst (λ hs. PairAt end.channel_ends hs name x d) (sym is) (subst (λ (mm : Made). PairAt mm.channel_ends (before ++ made_ends c ms) name x d) ends (here.on name x d q)) in
        let stay : (name : List ℕ) → is_in name made.names ≡ true → is_in name end.names ≡ true = λ name q. subst (λ (mm : Made). is_in name mm.names ≡ true) ends (stays name context made ms q) in
        let times : (name : List ℕ) → is_in name end.names ≡ true → times_in name (ident_names sp.ends) + times_in name (used_ends ms []) ≤ 1 =
        λ name q. fewer name (once name q) in
        let one = one_once (child_path path k) made before (made_ends c ms) sp number scope is on low (λ name q. part_first name (times name (stay name q))) a.0 b.0 in
        let rest = children_once made before ms c (suc k) middle scope apart is ends (omega (arith, low)) (λ name q. part_second name (times name q)) a.1 b.1 in
        let high = number + length (first.chans ++ behind.chans) in
        let same : middle + length behind.chans ≡ high = let both = length-append first.chans behind.chans in omega (arith, both) in
        let more : middle ≤ high = omega (arith, same) in
        let less : number ≤ middle = omega arith in
        both_once known first.procs behind.procs (Used (ident_names sp.ends) number middle) (Used (used_ends ms []) middle (middle + length behind.chans)) (Used (ident_names sp.ends ++ used_ends ms []) number high) one rest
        (λ x d u. as_first middle high more x d u) (λ x d u. as_second middle (middle + length behind.chans) high less (omega (arith, same)) x d u)
        (used_apart (ident_names sp.ends) (used_ends ms []) times number middle (middle + length behind.chans) low less)
      where
        fewer : (name : List ℕ) → times_in name (used_ends (config_statement.Spawn sp ∷ ms) []) ≤ 1 → times_in name (ident_names sp.ends) + times_in name (used_ends ms []) ≤ 1
        fewer name q = let both = times_behind name (ident_names sp.ends) (used_ends ms []) in omega (arith, q, both)

        part_first : (name : List ℕ) → times_in name (ident_names sp.ends) + times_in name (used_ends ms []) ≤ 1 → times_in name (ident_names sp.ends) ≤ 1
        part_first name q = omega (arith, q)

        part_second : (name : List ℕ) → times_in name (ident_names sp.ends) + times_in name (used_ends ms []) ≤ 1 → times_in name (used_ends ms []) ≤ 1
        part_second name q = omega (arith, q)

        as_first : (middle high : ℕ) → middle ≤ high → (x : ℕ) (d : Direction) → Used (ident_names sp.ends) number middle x d → Used (ident_names sp.ends ++ used_ends ms []) number high x d
        as_first middle high more x d (NamedSo name e q) = NamedSo name (in_append_first name (ident_names sp.ends) (used_ends ms []) e) q
        as_first middle high more x d (InRange e g) = InRange e (omega (arith, more, g))

        as_second : (middle low high : ℕ) → number ≤ middle → low ≤ high → (x : ℕ) (d : Direction) → Used (used_ends ms []) middle low x d → Used (ident_names sp.ends ++ used_ends ms []) number high x d
        as_second middle low high less more x d (NamedSo name e q) = NamedSo name (in_append_second name (ident_names sp.ends) (used_ends ms []) e) q
        as_second middle low high less more x d (InRange e g) = InRange (omega (arith, less, e)) (omega (arith, more, g))

  -- by spawns of any number
  pub all_once : (n : ℕ) → ScopesOnce (elaborate_within m known.items n)
  all_once zero path p parametric_args ends number here scope apart = none_used known (Owned p parametric_args ends number (number + 0))
  all_once (suc n) path p parametric_args ends number here scope apart =
      let parts = parts_well_typed m top s known knows p parametric_args here.checked in
      let outer = ends_found context [] p.config.ends in
      let a = none_in made.faults (unknown ++ used) (none_in outer.faults (made.faults ++ (unknown ++ used)) parts.config).1 in
      let u = none_in unknown used a.1 in
      let b = (all_in test made.reached [] (all_in test outer.reached (made.reached ++ []) parts.listed).1).0 in
      let q = and_true (list_all is_once end.names) (is_members context p.members p.config.result end) (passed (list_all is_once end.names && is_members context p.members p.config.result end) 30 p.config.span u.1) in
      let at = at_end context start ends number ms scope apart a.0 in
      let highest = number + count_made ms in
      let middle = number + length own in
      let low : highest ≤ middle = let many = made_are_counted path env ms in omega (arith, many) in
      let once : (name : List ℕ) → is_in name end.names ≡ true → times_in name (ident_names p.config.result) + times_in name (used_ends ms []) ≤ 1 =
      λ name e. let one = (Decides-eqb (times_in name (used_ends ms p.config.result)) 1).0 (passes_all is_once end.names q.0 name e) in let both = times_used name ms p.config.result in omega (arith, one, both) in
      let go = members_go context end p.members p.config.result u.0 q.1 in
      let back = members_back end held [] held (sym (append-nil held)) at.scope context p.members p.config.result go in
      let rest = children_once place (all_once n) p parametric_args here path held end at.scope highest at.apart start ends ms number 0 middle scope apart refl refl low (λ name e. let few = once name e in omega (arith, few))
      a.0 b in
      let high = number + length (own ++ others.chans) in
      let same : middle + length others.chans ≡ high = let both = length-append own others.chans in omega (arith, both) in
      let less : number ≤ middle = omega arith in
      let below : highest ≤ high = omega (arith, low, same) in
      both_once known (itself ∷ []) others.procs (Used (ident_names p.config.result) middle middle) (Used (used_ends ms []) middle (middle + length others.chans)) (Owned p parametric_args ends number high)
      (record {
        within = λ k x c d e w. own_within middle back k x c d e w;
        once = λ k l x y c d e f v w. only_one k x e ∙ sym (only_one l y f);
      })
      rest
      (λ c d w. as_owned middle middle high less (omega (arith, same)) at.back below c d w) (λ c d w. as_owned middle (middle + length others.chans) high less (omega (arith, same)) at.back below c d w)
      (used_apart place (all_once n) p parametric_args here path held end at.scope highest at.apart (ident_names p.config.result) (used_ends ms []) once middle middle (middle + length others.chans) low (omega arith))
    where
      context : TypeEnv
      context = proc_type_env known p parametric_args

      env : Env
      env = item_env known (parametric_args_bound [] p.parametrics parametric_args)

      ms : List ConfigStatement
      ms = p.config.config_statements

      start : Made
      start = made_at_start context p.config.ends

      end : Made
      end = made_at_end context start ms

      made : Found
      made = config_statements_found context start ms

      unknown : List Fault
      unknown = unknown_ends end.names p.config.result

      used : List Fault
      used = use_faults context p end

      is_once : List ℕ → Bool
      is_once name = times_in name (used_ends ms p.config.result) == 1

      own : List Chan
      own = made_chans path env ms

      held : List Held
      held = ends ++ made_ends number ms

      place : Elaboration
      place = elaborate_within m known.items n

      others : Family
      others = children m known.items place path env held ms 0 (number + length own)

      itself : Elaborated
      itself = record { path = path; proc = p; parametric_args = parametric_args; channels = channels_of_ends held p.config.result }

      Used : List (List ℕ) → ℕ → ℕ → ℕ → Direction → Type 0
      Used ns low high c d = UsedEnds ns end.channel_ends held low high c d

      only_one : (k : ℕ) (x : Elaborated) → slice_get (itself ∷ []) k ≡ Some x → k ≡ 0
      only_one zero x e = refl
      only_one (suc k) x e = absurd (cc)

      own_within : {scope : IsScope end.names end.channel_ends held} (middle : ℕ)
          → ((name : List ℕ) (o : ChannelEnd) (d : Direction) (x : ℕ) → channel_end_in name (map (channel_end_of context) p.members) ≡ Some o → o.direction ≡ d
          → unwrap_or (beside name (map (λ (e : End). e.name.name) p.members) (channels_of_ends held p.config.result)) 0 ≡ x → Stands end held [] held (sym (append-nil held)) scope p.config.result x d)
          → (k : ℕ) (x : Elaborated) (c : ℕ) (d : Direction) → slice_get (itself ∷ []) k ≡ Some x → UsesEnd known x c d → Used (ident_names p.config.result) middle middle c d
      own_within middle back (suc k) x c d e w = absurd (cc)
      own_within middle back zero x c d e w =
          let v = subst (λ y. UsesEnd known y c d) (sym (same_some itself x e)) w in
          let st = back v.name v.channel_end d c v.found v.goes v.at in
          NamedSo st.name st.used st.pair

      as_owned : {ns : List (List ℕ)} (low middle high : ℕ) → number ≤ low → middle ≤ high
          → ((name : List ℕ) (x : ℕ) (d : Direction) → PairAt end.channel_ends held name x d → PairAt start.channel_ends ends name x d ⊎ ((number ≤ x) × (x < number + count_made ms))) → number + count_made ms ≤ high
          → (c : ℕ) (d : Direction) → Used ns low middle c d → Owned p parametric_args ends number high c d
      as_owned low middle high less more back below c d (InRange e f) = InRange (omega (arith, less, e)) (omega (arith, more, f))
      as_owned low middle high less more back below c d (NamedSo name e k) = by (back name c d k)
        where
          by : PairAt start.channel_ends ends name c d ⊎ ((number ≤ c) × (c < number + count_made ms)) → Owned p parametric_args ends number high c d
          by (inl old) = NamedSo name (scope.named name old.channel_end old.found) old
          by (inr k) = let one = k.0 in let two = k.1 in InRange one (omega (arith, two, below))
