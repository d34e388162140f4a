-- Constants: what code finds of them is what the definitions say.
use Rattle.std.proofs.Common.{◌≡◌, ◌++◌, ◌∙◌, ◌&&◌, ◌||◌, ◌==◌, ◌≤◌, ◌<◌, ◌+◌, ℕ, zero, suc, Bool, true, false, not, List, [], ◌∷◌, Option, Some, None, map, length, take, drop, get_or, reverse, slice_get, arith, refl, sym, ap, subst}
use mathlib.Core.Bool.{true≢false}
use Rattle.std.specs.Prelude.{if◌then◌else◌, is_some, min}
use Rattle.std.specs.List.{list_all, list_any}
use Rattle.std.specs.Str.{bytes_eq}
use Rattle.std.specs.Borrow.{Bor}
use Rattle.std.proofs.lemmas.List.{drop_all, drop_more, reverse-append, reverse-reverse, length-reverse, take_all}
use Rattle.std.proofs.lemmas.Option.{none-some, same_Some}
use Rattle.std.proofs.lemmas.Bool.Decides.{Decides-eqb}
use Rattle.xb_span.specs.declared.fault.Fault.{Fault}
use Rattle.xb_span.specs.declared.limit.What.TheVariants as what
use Rattle.dslx_tree.specs.declared.expr.Expr.{Expr, out-Expr}
use Rattle.dslx_meaning.specs.Lists.{and_then, is_in}
use Rattle.dslx_meaning.specs.Environment.{Given, given_in}
use Rattle.dslx_meaning.specs.Meaning.{value_of}
use Rattle.dslx_meaning.specs.declared.ty.DslxType.{DslxType}
use Rattle.dslx_meaning.specs.declared.value.DslxValue.{DslxValue}
use Rattle.dslx_meaning.specs.Rules.ConstantRules.{constant_of, constant_typing, is_empty, is_sound_here, names_a_local, over_size, with_size_limit}
use Rattle.dslx_meaning.specs.Rules.Mentions.{free_names, mentioned, names_mentioned}
use Rattle.dslx_meaning.specs.Rules.PatternRules.{is_there}
use Rattle.dslx_meaning.specs.Rules.RuleNumbers as rule
use Rattle.dslx_meaning.specs.Rules.TypeEnvs.{ChannelEnd, GlobalEnv, Judgement, TypeEnv, Typed, alone, breaks_if, constant_env, has_broken, passes_count, size_if_typed, unhidden}
use Rattle.dslx_const_tasks.specs.Values.{values_kept}
use Rattle.dslx_check_rules.specs.declared.faults.Faults.{Faults}
use Rattle.dslx_check_rules.specs.declared.table.row.TypeId.{TypeId}
use Rattle.dslx_check_rules.specs.declared.table.row.TypeRow.{TypeRow}
use Rattle.dslx_check_rules.specs.declared.typing.Typing.{Typing}
use Rattle.dslx_check_rules.specs.Seen.{seen, capped}
use Rattle.dslx_check_rules.specs.Interned.{HasRowIf, ItemNames, type_if}
use Rattle.dslx_check_rules.specs.Nodes.Parts.{IsPart}
use Rattle.dslx_check_facts.specs.Bound.{bound_names}
use Rattle.dslx_check_facts.specs.Judged.{environment}
use Rattle.dslx_check_facts.specs.Known.{FactsHold, is_settled, item_names}
use Rattle.dslx_check_facts.specs.TypeEnvs.{end_of, env_of, given_of, typed_of}
use Rattle.dslx_check_facts.specs.Walks.{OnlyMisses, WalkShown, instances_at}
use Rattle.dslx_check_facts.specs.declared.facts.Facts.{Facts}
use Rattle.dslx_check_facts.specs.declared.lookups.Reached.{Reached}
use Rattle.dslx_check_facts.specs.declared.type_env.MemberEnd.{MemberEnd}
use Rattle.dslx_check_facts.specs.declared.type_env.ParametricArg.{ParametricArg}
use Rattle.dslx_check_facts.specs.declared.type_env.TypeEnv.{TypeEnv as CodeEnv}
use Rattle.dslx_check_facts.specs.declared.walk.Need.{Need}
use Rattle.dslx_check_facts.proofs.Lemmas.Walks.{misses_grows, misses_trans, nothing_missing}
use Rattle.dslx_check_leaves.specs.Named.Constants.{ConstantFrom, IsKeptValue, IsKeptValueIf, args_in_scope, expr_typed, if_valued, is_local_name, some_local, unhidden_by, unless_hidden}

-- ---- what is missing

-- where nothing is missing in the end, as much was missing before
pub as_many_missing : (old new : WalkShown) → OnlyMisses old new → new.missing ≡ [] → length new.missing ≡ length old.missing
as_many_missing old new m e = ap length (e ∙ sym (nothing_missing old new (misses_grows old new m) e))

-- ---- names that are bound around it

any_either : {A : Type 0} (p q : A → Bool) (xs : List A) → list_any (λ x. p x || q x) xs ≡ (list_any p xs || list_any q xs)
any_either p q [] = refl
any_either p q (x ∷ xs) = ap (λ b. (p x || q x) || b) (any_either p q xs) ∙ by (p x) (q x) (list_any p xs) (list_any q xs)
  where
    by : (a b c d : Bool) → ((a || b) || (c || d)) ≡ ((a || c) || (b || d))
    by true b c d = refl
    by false true true d = refl
    by false true false d = refl
    by false false c d = refl

locals_named : (names : ItemNames) (rows : List TypeRow) (ls : List (List ℕ × Option TypeId)) → map (λ (l : Typed). l.name) (map (typed_of names rows) ls) ≡ bound_names ls
locals_named names rows [] = refl
locals_named names rows (l ∷ ls) = ap (λ ns. l.0 ∷ ns) (locals_named names rows ls)

members_named : (names : ItemNames) (rows : List TypeRow) (ms : List (List ℕ × MemberEnd)) → map (λ (c : ChannelEnd). c.name) (map (end_of names rows) ms) ≡ bound_names ms
members_named names rows [] = refl
members_named names rows (m ∷ ms) = ap (λ ns. m.0 ∷ ns) (members_named names rows ms)

there_by : (b c : Bool) (v : DslxValue) (found : Option DslxValue) → is_there found ≡ c → is_there (if b then Some v else found) ≡ (if b then true else c)
there_by true c v found e = refl
there_by false c v found e = e

args_named : (name : List ℕ) (bs : List (List ℕ × ParametricArg)) → is_there (given_in name (map given_of bs)) ≡ is_in name (bound_names bs)
args_named name [] = refl
args_named name (b ∷ bs) = there_by (bytes_eq name b.0) (is_in name (bound_names bs)) b.1.value (given_in name (map given_of bs)) (args_named name bs)

pub local_is : (names : ItemNames) (rows : List TypeRow) (known : GlobalEnv) (s : CodeEnv) (e : Expr) → some_local s (free_names e) ≡ names_a_local (env_of names rows known s) (expr_typed e)
local_is names rows known s e =
    any_either (λ name. is_in name (bound_names s.locals)) (λ name. is_in name (bound_names s.members) && not (is_in name (bound_names s.parametric_args))) (free_names e)
    ∙ (λ i. list_any (λ name. is_in name (sym (locals_named names rows s.locals) i)) (free_names e)
    || list_any (λ name. is_in name (sym (members_named names rows s.members) i) && not (sym (args_named name s.parametric_args) i)) (free_names e))

some_is : (s : CodeEnv) (names : List (Bor (List ℕ))) (i : ℕ) (name : Bor (List ℕ)) → i < length names → name ≡ get_or names i name
    → some_local s (map (λ n. n.now) (drop i names)) ≡ (is_local_name s name.now || some_local s (map (λ n. n.now) (drop (i + 1) names)))
some_is s names i name within is = ap (λ (ns : List (Bor (List ℕ))). some_local s (map (λ n. n.now) ns)) (drop_more names i name within ∙ ap (λ n. n ∷ drop (i + 1) names) (sym is))

-- one of them is, the next one isn't, and none is
pub any_here : (s : CodeEnv) (names : List (Bor (List ℕ))) (i : ℕ) (name : Bor (List ℕ)) → i < length names → name ≡ get_or names i name → is_local_name s name.now ≡ true
    → some_local s (map (λ n. n.now) (drop i names)) ≡ some_local s (map (λ n. n.now) names) → true ≡ some_local s (map (λ n. n.now) names)
any_here s names i name within is here so = sym (sym so ∙ some_is s names i name within is ∙ ap (λ b. b || some_local s (map (λ n. n.now) (drop (i + 1) names))) here)

pub any_next : (s : CodeEnv) (names : List (Bor (List ℕ))) (i : ℕ) (name : Bor (List ℕ)) → i < length names → name ≡ get_or names i name → is_local_name s name.now ≡ false
    → some_local s (map (λ n. n.now) (drop i names)) ≡ some_local s (map (λ n. n.now) names) → some_local s (map (λ n. n.now) (drop (i + 1) names)) ≡ some_local s (map (λ n. n.now) names)
any_next s names i name within is other so = sym (some_is s names i name within is ∙ ap (λ b. b || some_local s (map (λ n. n.now) (drop (i + 1) names))) other) ∙ so

pub any_none : (s : CodeEnv) (names : List (Bor (List ℕ))) (i : ℕ) → length names ≤ i → some_local s (map (λ n. n.now) (drop i names)) ≡ some_local s (map (λ n. n.now) names)
    → false ≡ some_local s (map (λ n. n.now) names)
any_none s names i past so = ap (λ (ns : List (Bor (List ℕ))). some_local s (map (λ n. n.now) ns)) (sym (drop_all i names past)) ∙ so

-- ---- what it is evaluated with

hidden_alike : (names : ItemNames) (rows : List TypeRow) (ls : List (List ℕ × Option TypeId)) (gs : List Given) → unhidden_by (bound_names ls) gs ≡ unhidden (map (typed_of names rows) ls) gs
hidden_alike names rows ls [] = refl
hidden_alike names rows ls (g ∷ gs) = λ i. if is_in g.name (sym (locals_named names rows ls) i) then hidden_alike names rows ls gs i else g ∷ hidden_alike names rows ls gs i

pub args_are : (names : ItemNames) (rows : List TypeRow) (known : GlobalEnv) (s : CodeEnv) → args_in_scope s ≡ (constant_env (env_of names rows known s)).bound
args_are names rows known s = hidden_alike names rows s.locals (map given_of s.parametric_args)

-- the parametrics from the first one on, as a scope has them
abbrev pub first_args : CodeEnv → ℕ → List Given
first_args s n = unhidden_by (bound_names s.locals) (map given_of (reverse (take n (reverse s.parametric_args))))

pub no_args : (s : CodeEnv) → first_args s 0 ≡ []
no_args s = refl

take_one : {A : Type 0} (xs : List A) (i : ℕ) (x : A) → slice_get xs i ≡ Some x → take (suc i) xs ≡ take i xs ++ x ∷ []
take_one [] i x e = absurd (none-some x e)
take_one (y ∷ ys) zero x e = ap (λ z. z ∷ []) (same_Some y x e)
take_one (y ∷ ys) (suc i) x e = ap (λ zs. y ∷ zs) (take_one ys i x e)

pub next_arg : (s : CodeEnv) (n : ℕ) (b : List ℕ × ParametricArg) → slice_get (reverse s.parametric_args) n ≡ Some b
    → unless_hidden (bound_names s.locals) (given_of b) (first_args s n) ≡ first_args s (n + 1)
next_arg s n b e =
    let on : n + 1 ≡ suc n = omega arith in
    let one : reverse (take (n + 1) (reverse s.parametric_args)) ≡ b ∷ reverse (take n (reverse s.parametric_args)) =
    ap (λ (k : ℕ). reverse (take k (reverse s.parametric_args))) on ∙ ap reverse (take_one (reverse s.parametric_args) n b e) ∙ reverse-append (take n (reverse s.parametric_args)) (b ∷ []) in
    sym (ap (λ (bs : List (List ℕ × ParametricArg)). unhidden_by (bound_names s.locals) (map given_of bs)) one)

no_place : {A : Type 0} (xs : List A) (i : ℕ) → i < length xs → slice_get xs i ≡ None → ⊥
no_place [] i within e = omega arith
no_place (x ∷ xs) zero within e = none-some x (sym e)
no_place (x ∷ xs) (suc i) within e = no_place xs i (omega arith) e

pub bound_next : (s : CodeEnv) (n : ℕ) (old new : List Given) → n < length s.parametric_args
    → ((b : List ℕ × ParametricArg) → slice_get (reverse s.parametric_args) n ≡ Some b → new ≡ unless_hidden (bound_names s.locals) (given_of b) old)
    → old ≡ first_args s n → new ≡ first_args s (n + 1)
bound_next s n old new within step so = by (slice_get (reverse s.parametric_args) n) refl
  where
    inside : n < length (reverse s.parametric_args)
    inside = omega (arith, within, length-reverse s.parametric_args)

    by : (o : Option (List ℕ × ParametricArg)) → slice_get (reverse s.parametric_args) n ≡ o → new ≡ first_args s (n + 1)
    by None e = absurd (no_place (reverse s.parametric_args) n inside e)
    by (Some b) e = step b e ∙ ap (unless_hidden (bound_names s.locals) (given_of b)) so ∙ next_arg s n b e

pub all_args : (s : CodeEnv) (n : ℕ) → length s.parametric_args ≤ n → first_args s n ≡ args_in_scope s
all_args s n h =
    let enough : length (reverse s.parametric_args) ≤ n = omega (arith, h, length-reverse s.parametric_args) in
    ap (λ (bs : List (List ℕ × ParametricArg)). unhidden_by (bound_names s.locals) (map given_of bs)) (ap reverse (take_all n (reverse s.parametric_args) enough) ∙ reverse-reverse s.parametric_args)

-- ---- the limit on its size

pub none_over : (end : ℕ) (n : Option ℕ) → None ≡ capped n → seen [] ≡ seen (over_size end n)
none_over end None e = refl
none_over end (Some n) e = absurd (none-some (min 65537 n) e)

pub some_over : (end size : ℕ) (n : Option ℕ) (faults : Faults) → ((m : ℕ) → size ≡ min (65536 + 1) m → faults ≡ seen (passes_count what.Size 65536 end m)) → Some size ≡ capped n → faults ≡ seen (over_size end n)
some_over end size None faults h e = absurd (none-some size (sym e))
some_over end size (Some m) faults h e = h m (same_Some size (min 65537 m) e)

pub limit_passed : (end : ℕ) (known : GlobalEnv) (j : Judgement) (typing : Typing) (reached : Reached) (may : Bool) (faults all : Faults)
    → typing.faults ≡ seen j.faults → typing.size ≡ capped j.size → reached.unbroken ≡ list_all known.is_unbroken j.reached → may ≡ (not typing.faults.broken && reached.unbroken)
    → ((n : Option ℕ) → typing.size ≡ capped n → faults ≡ seen (if may then over_size end n else []))
    → ((a b : List Fault) → typing.faults ≡ seen a → faults ≡ seen b → all ≡ seen (a ++ b))
    → all ≡ seen (with_size_limit known end j).faults
limit_passed end known j typing reached may faults all fs size unbroken is own both =
    let test : may ≡ (not (has_broken j.faults) && list_all known.is_unbroken j.reached) = is ∙ (λ i. not ((fs i).broken) && unbroken i) in
    both j.faults (if not (has_broken j.faults) && list_all known.is_unbroken j.reached then over_size end j.size else []) fs
    (own j.size size ∙ ap (λ b. seen (if b then over_size end j.size else [])) test)

-- ---- its value

-- the value, where it is evaluated and has one
value_there : {T N : Type 0} (f : Facts) (s : CodeEnv) (e : Expr) (evaluates sound : Bool) (ty : Option T) (size : Option N) (v : Option DslxValue) (own : Option DslxValue) → IsKeptValueIf evaluates f s e v
    → evaluates ≡ (sound && (is_there ty && is_there size)) → (IsKeptValue f s e v → v ≡ own) → v ≡ (if sound then and_then ty (λ t. and_then size (λ n. own)) else None)
value_there f s e true true (Some t) (Some n) v own is test h = h is
value_there f s e true true (Some t) None v own is test h = absurd (true≢false test)
value_there f s e true true None size v own is test h = absurd (true≢false test)
value_there f s e true false ty size v own is test h = absurd (true≢false test)
value_there f s e false true (Some t) (Some n) v own is test h = absurd (true≢false (sym test))
value_there f s e false true (Some t) None v own is test h = is
value_there f s e false true None size v own is test h = is
value_there f s e false false ty size v own is test h = is

-- its typing
valued : (items : ItemNames) (rows later : List TypeRow) (typing : Typing) (j : Judgement) (sound : Bool) (v : Option DslxValue) → IsPart items rows later typing j
    → IsPart items rows later (if_valued (is_some (if sound then and_then j.ty (λ t. and_then j.size (λ n. v)) else None)) typing)
    (record j {
      ty = and_then (if sound then and_then j.ty (λ t. and_then j.size (λ n. v)) else None) (λ v. j.ty);
      size = size_if_typed (and_then (if sound then and_then j.ty (λ t. and_then j.size (λ n. v)) else None) (λ v. j.ty)) j.size;
    })
valued items rows later typing j sound v part = by sound j.ty j.size v part.ty part.size
  where
    by : (sound : Bool) (t : Option DslxType) (n : Option ℕ) (v : Option DslxValue) → type_if items later typing.ty ≡ t → typing.size ≡ capped n
        → IsPart items rows later (if_valued (is_some (if sound then and_then t (λ t. and_then n (λ n. v)) else None)) typing)
        (record j {
          ty = and_then (if sound then and_then t (λ t. and_then n (λ n. v)) else None) (λ v. t);
          size = size_if_typed (and_then (if sound then and_then t (λ t. and_then n (λ n. v)) else None) (λ v. t)) n;
        })
    by false t n v e k = record { row = tt; ty = refl; faults = part.faults; size = refl }
    by true None n v e k = record { row = tt; ty = refl; faults = part.faults; size = refl }
    by true (Some t) None v e k = record { row = tt; ty = refl; faults = part.faults; size = refl }
    by true (Some t) (Some n) None e k = record { row = tt; ty = refl; faults = part.faults; size = refl }
    by true (Some t) (Some n) (Some v) e k = record { row = part.row; ty = e; faults = part.faults; size = k }

-- there is a type in code where there is one by the definitions, and a size
there_too : (items : ItemNames) (rows : List TypeRow) (ty : Option TypeId) (t : Option DslxType) → type_if items rows ty ≡ t → is_some ty ≡ is_there t
there_too items rows None t e = ap is_there e
there_too items rows (Some ty) t e = ap is_there e

size_too : (size n : Option ℕ) → size ≡ capped n → is_some size ≡ is_there n
size_too size None e = ap is_some e
size_too size (Some n) e = ap is_some e

-- nothing was missing and nothing is
no_need : (needs : List Need) → needs ≡ [] → length needs ≡ 0
no_need needs e = ap length e

counted_alike : (a b : ℕ) → a ≡ b → (a == b) ≡ true
counted_alike a b e = (Decides-eqb a b).1 e

-- what a constant comes to
pub constant_found : (f : Facts) (s : CodeEnv) (old mid new : WalkShown) (from missing : ℕ) (e : Expr) (inner joined limited : Typing) (hidden is_new evaluates : Bool) (own : Faults) (reached : Reached) (value : Option DslxValue)
    → OnlyMisses old mid → OnlyMisses mid new
    → ((known : GlobalEnv) (later : WalkShown) → FactsHold f later known → mid.missing ≡ [] → reached.sound ≡ list_all known.is_sound (instances_at (item_names f) later.met (drop from old.reached)))
    → ((known : GlobalEnv) (later : WalkShown) → FactsHold f later known → mid.missing ≡ [] → reached.unbroken ≡ list_all known.is_unbroken (instances_at (item_names f) later.met (drop from old.reached)))
    → hidden ≡ some_local s (free_names e) → own ≡ seen (breaks_if hidden rule.CONSTANT_HAS_NO_LOCALS (out-Expr e).span)
    → joined.ty ≡ inner.ty → ((a b : List Fault) → inner.faults ≡ seen a → own ≡ seen b → joined.faults ≡ seen (a ++ b)) → joined.size ≡ inner.size
    → limited.ty ≡ joined.ty → limited.size ≡ joined.size
    → ((known : GlobalEnv) (j : Judgement) → joined.faults ≡ seen j.faults → joined.size ≡ capped j.size → reached.unbroken ≡ list_all known.is_unbroken j.reached
    → limited.faults ≡ seen (with_size_limit known (out-Expr e).span.to j).faults)
    → is_new ≡ (length mid.missing == missing)
    → ((fs : List Fault) → limited.faults ≡ seen fs → evaluates ≡ (((is_empty fs && reached.sound) && (is_some limited.ty && is_some limited.size)) && is_new))
    → (new.missing ≡ [] → IsKeptValueIf evaluates f s e value)
    → ConstantFrom f s old new from missing inner (λ env. alone env (expr_typed e)) (λ env. constant_of env (expr_typed e))
    (record { typing = if_valued (is_some value) limited; untyped = None; value = value })
constant_found f s old mid new from missing e inner joined limited hidden is_new evaluates own reached value misses asks sounds unbrokens hides owns joined_ty joined_faults joined_size limited_ty limited_size limits news evals values = record {
  grows = misses_grows old new all;
  reached = all.reached;
  comes = λ few known later has agrees there none part reaches.
      let items = item_names f in
      let env : TypeEnv = environment f s known later in
      let x : Judgement = alone env (expr_typed e) in
      let more : List Fault = breaks_if (names_a_local env (expr_typed e)) rule.CONSTANT_HAS_NO_LOCALS (out-Expr e).span in
      let j : Judgement = record x { faults = x.faults ++ more } in
      let k : Judgement = constant_typing env (expr_typed e) in
      let none_mid : mid.missing ≡ [] = nothing_missing mid new (misses_grows mid new asks) none in
      let of_own : own ≡ seen more = owns ∙ ap (λ b. seen (breaks_if b rule.CONSTANT_HAS_NO_LOCALS (out-Expr e).span)) (hides ∙ local_is items later.rows known s e) in
      let of_joined : joined.faults ≡ seen j.faults = joined_faults x.faults more part.faults of_own in
      let size_is : limited.size ≡ capped k.size = limited_size ∙ joined_size ∙ part.size in
      let ty_is : type_if items later.rows limited.ty ≡ k.ty = ap (type_if items later.rows) (limited_ty ∙ joined_ty) ∙ part.ty in
      let of_limits : limited.faults ≡ seen k.faults =
      limits env.known j of_joined (joined_size ∙ part.size) (unbrokens known later agrees none_mid ∙ ap (list_all known.is_unbroken) reaches) in
      let row_is : HasRowIf old.rows limited.ty = subst (HasRowIf old.rows) (sym (limited_ty ∙ joined_ty)) part.row in
      let row_new : HasRowIf new.rows limited.ty = subst (λ (rows : List TypeRow). HasRowIf rows limited.ty) (sym all.rows) row_is in
      let part_is : IsPart items new.rows later.rows limited k = record { row = row_new; ty = ty_is; faults = of_limits; size = size_is } in
      let sound : Bool = is_sound_here env.known k in
      let sound_is : reached.sound ≡ list_all known.is_sound x.reached = sounds known later agrees none_mid ∙ ap (list_all known.is_sound) reaches in
      let none_before : old.missing ≡ [] = nothing_missing old new (misses_grows old new all) none in
      let no_new : is_new ≡ true = news ∙ counted_alike (length mid.missing) missing (omega (arith, no_need mid.missing none_mid, no_need old.missing none_before, few)) in
      let evaluates_is : evaluates ≡ (sound && (is_there k.ty && is_there k.size)) =
      evals k.faults of_limits
      ∙ (λ i. ((is_empty k.faults && sound_is i) && (there_too items later.rows limited.ty k.ty ty_is i && size_too limited.size k.size size_is i)) && no_new i)
      ∙ true_behind (sound && (is_there k.ty && is_there k.size)) in
      let value_is : value ≡ (if sound then and_then k.ty (λ t. and_then k.size (λ n. value_of e (constant_env env))) else None) =
      value_there f s e evaluates sound k.ty k.size value (value_of e (constant_env env)) (values none) evaluates_is
      (λ own. own.value
      ∙ agrees.values (values_kept f.kept) (is_settled f) (args_in_scope s) e agrees.kept
      (ap (λ m. list_all (is_settled f) (names_mentioned m (mentioned e []))) agrees.whole ∙ own.settled) own.plain
      ∙ ap (λ (bound : List Given). value_of e (record { items = known.items; bound = bound })) (args_are items later.rows known s)) in
      record {
        part = subst (λ (v : Option DslxValue). IsPart items new.rows later.rows (if_valued (is_some v) limited) (constant_of env (expr_typed e)).judgement) (sym value_is)
            (valued items new.rows later.rows limited k sound (value_of e (constant_env env)) part_is);
        untyped = refl;
        value = value_is;
      };
}
  where
    all : OnlyMisses old new
    all = misses_trans old mid new misses asks

    true_behind : (b : Bool) → (b && true) ≡ b
    true_behind true = refl
    true_behind false = refl
