-- Ends that are handed over: to spawned procs and to the members, each end of a `config` once.
use Rattle.std.proofs.Common.{◌≡◌, ◌≤◌, ◌+◌, ◌++◌, ℕ, suc, Bool, true, false, not, if◌then◌else◌, List, [], ◌∷◌, map, length, Option, Some, None, arith, refl, sym, ap, ◌∙◌}
use mathlib.Core.Bool.{true≢false}
use Rattle.std.specs.Prelude.{slice_get, unwrap_or}
use Rattle.std.specs.Str.{bytes_eq}
use Rattle.std.proofs.lemmas.Slice.Eq.{bytes_eq-Decides}
use Rattle.dslx_tree.specs.declared.ident.Ident.{Ident}
use Rattle.dslx_tree.specs.declared.process.ConfigStatement.{ConfigStatement}
use Rattle.dslx_tree.specs.declared.process.ConfigStatement.TheVariants as config_statement
use Rattle.dslx_tree.specs.declared.process.Direction.{Direction}
use Rattle.dslx_tree.specs.declared.process.Direction.TheVariants.{In, Out}
use Rattle.dslx_tree.specs.declared.process.End.{End}
use Rattle.dslx_meaning.specs.Lists.{and_then, beside, index_in, is_in}
use Rattle.dslx_meaning.specs.Network.{Held, channel_held, channels_of_ends, handed_over}
use Rattle.dslx_meaning.specs.declared.ty.DslxType.{DslxType}
use Rattle.dslx_meaning.specs.Rules.CallRules.{channel_end_in}
use Rattle.dslx_meaning.specs.Rules.ModuleRules.{declared_type}
use Rattle.dslx_meaning.specs.Rules.ItemRules.{typing_of_inner}
use Rattle.dslx_meaning.specs.Rules.ProcRules.{Made, channel_end_of, end_names, handed_faults, ident_names, is_members, misfits, times_in, unknown_ends, used_ends}
use Rattle.dslx_meaning.specs.Rules.TypeEnvs.{ChannelEnd, TypeEnv, breaks_if}
use Rattle.dslx_core.proofs.Lemmas.Typing.Laws.{and_true}
use Rattle.dslx_core.proofs.Lemmas.Typing.Sound.{none_in, not_broken, passed}
use Rattle.dslx_core.proofs.Lemmas.Typing.Typed.{none_some, same_some}
use Rattle.dslx_total.proofs.OnNets.Pairs.{IsScope, PairAt}

-- ---- names that are used

pub in_times : (name : List ℕ) (ns : List (List ℕ)) → is_in name ns ≡ true → 1 ≤ times_in name ns
in_times name [] e = absurd (true≢false (sym e))
in_times name (n ∷ ns) e = by (bytes_eq name n) e (in_times name ns)
  where
    by : (b : Bool) → (if b then true else is_in name ns) ≡ true → (is_in name ns ≡ true → 1 ≤ times_in name ns) → 1 ≤ (if b then suc (times_in name ns) else times_in name ns)
    by true q rest = omega arith
    by false q rest = rest q

pub times_behind : (name : List ℕ) (xs ys : List (List ℕ)) → times_in name (xs ++ ys) ≡ times_in name xs + times_in name ys
times_behind name [] ys = omega arith
times_behind name (x ∷ xs) ys = by (bytes_eq name x) (times_behind name xs ys)
  where
    by : (b : Bool) → times_in name (xs ++ ys) ≡ times_in name xs + times_in name ys
        → (if b then suc (times_in name (xs ++ ys)) else times_in name (xs ++ ys)) ≡ (if b then suc (times_in name xs) else times_in name xs) + times_in name ys
    by true rest = omega (arith, rest)
    by false rest = rest

-- those that are used in statements, and then those of the result
pub times_used : (name : List ℕ) (ms : List ConfigStatement) (result : List Ident) → times_in name (used_ends ms result) ≡ times_in name (used_ends ms []) + times_in name (ident_names result)
times_used name [] result = omega arith
times_used name (config_statement.Channel c ∷ ms) result = times_used name ms result
times_used name (config_statement.Spawn s ∷ ms) result =
    let a = times_behind name (ident_names s.ends) (used_ends ms result) in
    let b = times_behind name (ident_names s.ends) (used_ends ms []) in
    let rest = times_used name ms result in
    omega (arith, a, b, rest)

same_name : (name : List ℕ) → bytes_eq name name ≡ true
same_name name = (bytes_eq-Decides name name).1 refl

-- ---- ends beside those that they are handed over at

-- each is declared, and goes the same way
abbrev pub EndsGo : Made → List End → List Ident → Type 0
EndsGo made [] [] = Unit {0}
EndsGo made (e ∷ es) (i ∷ is) = (is_in i.name made.names ≡ true) × ((o : ChannelEnd) → channel_end_in i.name made.channel_ends ≡ Some o → e.direction ≡ o.direction) × EndsGo made es is
EndsGo made [] (i ∷ is) = ⊥
EndsGo made (e ∷ es) [] = ⊥

way_fits : (d way : Direction) (w u : Option DslxType) (name : List ℕ) → misfits d w (Some (record { name = name; direction = way; word = u })) ≡ false → d ≡ way
way_fits In In w u name e = refl
way_fits Out Out w u name e = refl
way_fits In Out w u name e = absurd (true≢false e)
way_fits Out In w u name e = absurd (true≢false e)

pub handed_go : (context : TypeEnv) (made : Made) (es : List End) (is : List Ident) → length is ≡ length es → unknown_ends made.names is ≡ []
    → handed_faults made (map (λ (e : End). declared_type context e.word) es) es is ≡ [] → EndsGo made es is
handed_go context made [] [] many f g = tt
handed_go context made [] (i ∷ is) many f g = absurd (omega (arith, many))
handed_go context made (e ∷ es) [] many f g = absurd (omega (arith, many))
handed_go context made (e ∷ es) (i ∷ is) many f g =
    let a = none_in (breaks_if (not (is_in i.name made.names)) 1 i.span) (unknown_ends made.names is) f in
    let own = declared_type context e.word in
    let b = none_in (breaks_if (misfits e.direction own (channel_end_in i.name made.channel_ends)) 9 i.span) (handed_faults made (map (λ (e : End). declared_type context e.word) es) es is) g in
    let fits = not_broken (misfits e.direction own (channel_end_in i.name made.channel_ends)) 9 i.span b.0 in (
      passed (is_in i.name made.names) 1 i.span a.0,
      λ o q. way_fits e.direction o.direction own o.word o.name (ap (misfits e.direction own) (sym q) ∙ fits),
      handed_go context made es is (omega (arith, many)) a.1 b.1,
    )

pub members_go : (context : TypeEnv) (made : Made) (es : List End) (is : List Ident) → unknown_ends made.names is ≡ [] → is_members context es is made ≡ true → EndsGo made es is
members_go context made [] [] f g = tt
members_go context made [] (i ∷ is) f g = absurd (true≢false (sym g))
members_go context made (e ∷ es) [] f g = absurd (true≢false (sym g))
members_go context made (e ∷ es) (i ∷ is) f g =
    let a = none_in (breaks_if (not (is_in i.name made.names)) 1 i.span) (unknown_ends made.names is) f in
    let own = (typing_of_inner context e.word).ty in
    let b = and_true (not (misfits e.direction own (channel_end_in i.name made.channel_ends))) (is_members context es is made) g in (
      passed (is_in i.name made.names) 1 i.span a.0,
      λ o q. way_fits e.direction o.direction own o.word o.name (ap (misfits e.direction own) (sym q) ∙ not_true (misfits e.direction own (channel_end_in i.name made.channel_ends)) b.0),
      members_go context made es is a.1 b.1,
    )
  where
    not_true : (b : Bool) → not b ≡ true → b ≡ false
    not_true true k = absurd (true≢false (sym k))
    not_true false k = refl

-- ---- one end more, first

pub first_scope : (names : List (List ℕ)) (ends : List ChannelEnd) (hs : List Held) (o : ChannelEnd) (c : ℕ) → IsScope names ends hs → IsScope (o.name ∷ names) (o ∷ ends) (record { name = o.name; channel = c } ∷ hs)
first_scope names ends hs o c h = record {
  there = λ name q. by_there name (bytes_eq name o.name) q;
  named = λ name x q. by_named name x (bytes_eq name o.name) q;
  placed = λ name x q. by_placed name x (bytes_eq name o.name) refl q;
  skips = λ name q rest. by_skips name rest (bytes_eq name o.name) q;
}
  where
    by_there : (name : List ℕ) (b : Bool) → (if b then true else is_in name names) ≡ true → (x : ChannelEnd) × ((if b then Some o else channel_end_in name ends) ≡ Some x)
    by_there name true q = (o, refl)
    by_there name false q = h.there name q

    by_named : (name : List ℕ) (x : ChannelEnd) (b : Bool) → (if b then Some o else channel_end_in name ends) ≡ Some x → (if b then true else is_in name names) ≡ true
    by_named name x true q = refl
    by_named name x false q = h.named name x q

    by_placed : (name : List ℕ) (x : ChannelEnd) (b : Bool) → bytes_eq name o.name ≡ b → (if b then Some o else channel_end_in name ends) ≡ Some x
        → (k : ℕ) × ((rest : List Held) → (if bytes_eq name o.name then c else channel_held name (hs ++ rest)) ≡ k)
    by_placed name x true e q = (c, λ rest. ap (λ b. if b then c else channel_held name (hs ++ rest)) e)
    by_placed name x false e q = let k = h.placed name x q in (k.0, λ rest. ap (λ b. if b then c else channel_held name (hs ++ rest)) e ∙ k.1 rest)

    by_skips : (name : List ℕ) (rest : List Held) (b : Bool) → (if b then true else is_in name names) ≡ false → (if b then c else channel_held name (hs ++ rest)) ≡ channel_held name rest
    by_skips name rest true q = absurd (true≢false q)
    by_skips name rest false q = h.skips name q rest

pub no_scope : IsScope [] [] []
no_scope = record { there = λ name q. absurd (true≢false (sym q)); named = λ name o q. none_some o q; placed = λ name o q. none_some o q; skips = λ name q rest. refl }

-- the first end, or one of the others
pub data FirstOr (ends : List ChannelEnd) (hs : List Held) (o : ChannelEnd) (c : ℕ) (name : List ℕ) (x : ℕ) (d : Direction) : Type 0 where
  IsFirst : name ≡ o.name → x ≡ c → o.direction ≡ d → FirstOr ends hs o c name x d
  IsLater : PairAt ends hs name x d → FirstOr ends hs o c name x d

pub first_or : (ends : List ChannelEnd) (hs : List Held) (o : ChannelEnd) (c : ℕ) (name : List ℕ) (x : ℕ) (d : Direction) → PairAt (o ∷ ends) (record { name = o.name; channel = c } ∷ hs) name x d → FirstOr ends hs o c name x d
first_or ends hs o c name x d k = by (bytes_eq name o.name) refl k.found
  where
    by : (b : Bool) → bytes_eq name o.name ≡ b → (if b then Some o else channel_end_in name ends) ≡ Some k.channel_end → FirstOr ends hs o c name x d
    by true e q = IsFirst ((bytes_eq-Decides name o.name).0 e) (sym (k.placed []) ∙ ap (λ b. if b then c else channel_held name (hs ++ [])) e) (ap (λ (y : ChannelEnd). y.direction) (same_some o k.channel_end q) ∙ k.goes)
    by false e q = IsLater (record { channel_end = k.channel_end; found = q; goes = k.goes; placed = λ rest. sym (ap (λ b. if b then c else channel_held name (hs ++ rest)) e) ∙ k.placed rest })

-- ---- what is handed over

module _ (made : Made) (before rest held : List Held) (is_held : held ≡ before ++ rest) (scope : IsScope made.names made.channel_ends before) where
  -- the end that stands for one that is handed over
  pub record Stands (is : List Ident) (x : ℕ) (d : Direction) : Type 0 where
    pub name : List ℕ
    pub used : is_in name (ident_names is) ≡ true
    pub pair : PairAt made.channel_ends before name x d

  end_pair : (i : Ident) (d way : Direction) (x : ℕ) → is_in i.name made.names ≡ true → ((o : ChannelEnd) → channel_end_in i.name made.channel_ends ≡ Some o → way ≡ o.direction) → way ≡ d → channel_held i.name held ≡ x → PairAt made.channel_ends before i.name x d
  end_pair i d way x declared fits same at =
      let o = scope.there i.name declared in
      let c = scope.placed i.name o.0 o.1 in
      let here : c.0 ≡ x = sym (c.1 rest) ∙ sym (ap (channel_held i.name) is_held) ∙ at in
      record { channel_end = o.0; found = o.1; goes = sym (fits o.0 o.1) ∙ same; placed = λ more. c.1 more ∙ here }

  used_later : (i : Ident) (is : List Ident) (x : ℕ) (d : Direction) → Stands is x d → Stands (i ∷ is) x d
  used_later i is x d k = record { name = k.name; used = later (bytes_eq k.name i.name) k.used; pair = k.pair }
    where
      later : (b : Bool) → is_in k.name (ident_names is) ≡ true → (if b then true else is_in k.name (ident_names is)) ≡ true
      later true q = refl
      later false q = q

  used_first : (i : Ident) (is : List Ident) (x : ℕ) (d : Direction) → PairAt made.channel_ends before i.name x d → Stands (i ∷ is) x d
  used_first i is x d k = record { name = i.name; used = ap (λ b. if b then true else is_in i.name (ident_names is)) (same_name i.name); pair = k }

  module _ (context : TypeEnv) where
    abbrev ends_of : List End → List ChannelEnd
    ends_of es = map (channel_end_of context) es

    abbrev given : List End → List Ident → List Held
    given es is = handed_over es (channels_of_ends held is)

    pub handed_scope : (es : List End) (is : List Ident) → EndsGo made es is → IsScope (end_names es) (ends_of es) (given es is)
    handed_scope [] is go = no_scope
    handed_scope (e ∷ es) [] go = absurd go
    handed_scope (e ∷ es) (i ∷ is) go = first_scope (end_names es) (ends_of es) (given es is) (channel_end_of context e) (channel_held i.name held) (handed_scope es is go.2)

    pub handed_back : (es : List End) (is : List Ident) → EndsGo made es is → (name : List ℕ) (x : ℕ) (d : Direction) → PairAt (ends_of es) (given es is) name x d → Stands is x d
    handed_back [] is go name x d k = none_some k.channel_end k.found
    handed_back (e ∷ es) [] go name x d k = absurd go
    handed_back (e ∷ es) (i ∷ is) go name x d k = by (first_or (ends_of es) (given es is) (channel_end_of context e) (channel_held i.name held) name x d k) (λ p. handed_back es is go.2 name x d p)
      where
        by : FirstOr (ends_of es) (given es is) (channel_end_of context e) (channel_held i.name held) name x d → (PairAt (ends_of es) (given es is) name x d → Stands is x d) → Stands (i ∷ is) x d
        by (IsFirst a b c) later = used_first i is x d (end_pair i d e.direction x go.0 go.1 c (sym b))
        by (IsLater p) later = used_later i is x d (later p)

    -- where each is used once, no two names stand for one end
    pub handed_apart : ((name other : List ℕ) (x : ℕ) (d : Direction) → PairAt made.channel_ends before name x d → PairAt made.channel_ends before other x d → name ≡ other) → (es : List End) (is : List Ident) → EndsGo made es is
        → ((name : List ℕ) → is_in name made.names ≡ true → times_in name (ident_names is) ≤ 1) → (name other : List ℕ) (x : ℕ) (d : Direction) → PairAt (ends_of es) (given es is) name x d → PairAt (ends_of es) (given es is) other x d → name ≡ other
    handed_apart apart [] is go once name other x d k l = none_some k.channel_end k.found
    handed_apart apart (e ∷ es) [] go once name other x d k l = absurd go
    handed_apart apart (e ∷ es) (i ∷ is) go once name other x d k l =
        by (first_or (ends_of es) (given es is) o (channel_held i.name held) name x d k) (first_or (ends_of es) (given es is) o (channel_held i.name held) other x d l)
        (λ p q. handed_apart apart es is go.2 fewer name other x d p q)
      where
        o : ChannelEnd
        o = channel_end_of context e

        fewer : (n : List ℕ) → is_in n made.names ≡ true → times_in n (ident_names is) ≤ 1
        fewer n q = by_name (bytes_eq n i.name) (once n q)
          where
            by_name : (b : Bool) → (if b then suc (times_in n (ident_names is)) else times_in n (ident_names is)) ≤ 1 → times_in n (ident_names is) ≤ 1
            by_name true few = omega (arith, few)
            by_name false few = few

        -- it would be used twice
        twice : {X : Type 0} (n : List ℕ) → PairAt (ends_of es) (given es is) n x d → x ≡ channel_held i.name held → e.direction ≡ d → X
        twice n p at way =
            let k = handed_back es is go.2 n x d p in
            let here = apart i.name k.name x d (end_pair i d e.direction x go.0 go.1 way (sym at)) k.pair in
            let again = in_times i.name (ident_names is) (ap (λ m. is_in m (ident_names is)) here ∙ k.used) in
            let few = once i.name go.0 in
            let more : times_in i.name (ident_names (i ∷ is)) ≡ suc (times_in i.name (ident_names is)) = ap (λ b. if b then suc (times_in i.name (ident_names is)) else times_in i.name (ident_names is)) (same_name i.name) in
            absurd (omega (arith, again, few, more))

        by : FirstOr (ends_of es) (given es is) o (channel_held i.name held) name x d → FirstOr (ends_of es) (given es is) o (channel_held i.name held) other x d
            → (PairAt (ends_of es) (given es is) name x d → PairAt (ends_of es) (given es is) other x d → name ≡ other) → name ≡ other
        by (IsFirst a b c) (IsFirst f g h) later = a ∙ sym f
        by (IsFirst a b c) (IsLater q) later = twice other q b c
        by (IsLater p) (IsFirst f g h) later = twice name p g h
        by (IsLater p) (IsLater q) later = later p q

    -- the members
    pub members_back : (es : List End) (is : List Ident) → EndsGo made es is → (name : List ℕ) (o : ChannelEnd) (d : Direction) (x : ℕ) → channel_end_in name (ends_of es) ≡ Some o → o.direction ≡ d
        → unwrap_or (beside name (map (λ (e : End). e.name.name) es) (channels_of_ends held is)) 0 ≡ x → Stands is x d
    members_back [] is go name o d x q way at = none_some o q
    members_back (e ∷ es) [] go name o d x q way at = absurd go
    members_back (e ∷ es) (i ∷ is) go name o d x q way at = by (bytes_eq name e.name.name) q at (λ p a. members_back es is go.2 name o d x p way a)
      where
        c : ℕ
        c = channel_held i.name held

        cs : List ℕ
        cs = channels_of_ends held is

        ns : List (List ℕ)
        ns = map (λ (e : End). e.name.name) es

        later : (k : Option ℕ) → and_then (elim k as (λ x. Option ℕ) [ None ↦ None | Some j ↦ Some (suc j) ]) (λ k. slice_get (c ∷ cs) k) ≡ and_then k (λ k. slice_get cs k)
        later None = refl
        later (Some j) = refl

        by : (b : Bool) → (if b then Some (channel_end_of context e) else channel_end_in name (ends_of es)) ≡ Some o
            → unwrap_or (and_then (if b then Some 0 else (elim (index_in name ns) as (λ x. Option ℕ) [ None ↦ None | Some j ↦ Some (suc j) ])) (λ k. slice_get (c ∷ cs) k)) 0 ≡ x
            → (channel_end_in name (ends_of es) ≡ Some o → unwrap_or (beside name ns cs) 0 ≡ x → Stands is x d) → Stands (i ∷ is) x d
        by true p a more = used_first i is x d (end_pair i d e.direction x go.0 go.1 (ap (λ (y : ChannelEnd). y.direction) (same_some (channel_end_of context e) o p) ∙ way) a)
        by false p a more = used_later i is x d (more p (sym (ap (λ y. unwrap_or y 0) (later (index_in name ns))) ∙ a))
