-- Patterns, matches, statements, blocks and loops by what is known in two ways.
use Rattle.std.proofs.Common.{◌≡◌, ◌&&◌, ◌||◌, ◌++◌, ◌^◌, ℕ, zero, suc, Bool, true, false, not, if◌then◌else◌, List, [], ◌∷◌, map, Option, Some, None, refl, sym, ap, ◌∙◌}
use Rattle.std.specs.Prelude.{nat_le}
use Rattle.std.specs.List.{list_all, list_any}
use Rattle.std.specs.Option.{option_map}
use Rattle.xb_span.specs.declared.span.Span.{Span}
use Rattle.xb_bits.specs.Word.{word}
use Rattle.dslx_tree.specs.declared.item.Enum.{Enum}
use Rattle.dslx_tree.specs.declared.item.Member.{Member}
use Rattle.dslx_meaning.specs.Items.{as_enum, item_named}
use Rattle.dslx_meaning.specs.Lists.{all_some, and_then, last_of, where_true}
use Rattle.dslx_meaning.specs.Meaning.{fitted}
use Rattle.dslx_meaning.specs.Types.{flat_bits}
use Rattle.dslx_meaning.specs.Values.{from_word, type_of_value}
use Rattle.dslx_meaning.specs.declared.ty.DslxType.{DslxType, out-DslxType}
use Rattle.dslx_meaning.specs.declared.ty.DslxType.TheOpen.{DslxType-F}
use Rattle.dslx_meaning.specs.declared.value.DslxValue.{DslxValue}
use Rattle.dslx_meaning.specs.Rules.ConstantRules.{ConstantSeen, is_empty}
use Rattle.dslx_meaning.specs.Rules.ControlRules.{ArmTyping, LoopSeen, all_known, all_words_match, alternatives_seen, arm_typing, arm_values, arms_faults, arms_reached, arms_size, block_alone, bound_type, differ, first_of_types, is_exhaustive, is_exhaustive_in, is_matched, last_is_sure, let_with, match_typing, member_matches, members_match, not_exhaustive, same_ends, some_binds, values_match, one_alternative, with_alternative}
use Rattle.dslx_meaning.specs.Rules.TypeEnvs.{ExprPair, Judgement, GlobalEnv, TypeEnv, Typed, alone, breaks_if, constant_env, one_and, plus_size, settled, types_of, with_typed, unlimited}
use Rattle.dslx_meaning.specs.Rules.Typings.{ArmSeen, BlockPair, PatternTyping, PatternPair, PatternSeen, StatementSeen}
use Rattle.dslx_meaning.specs.Rules.Mentions.{item_reaches}
use Rattle.dslx_meaning.specs.Rules.PatternRules.{both_patterns, first_part_type, is_there, name_pattern, one_value, other_part_types, parts_typing, pattern_alone}
use Rattle.dslx_core.specs.Typing.Depends.Alike.{GlobalsAgree, in_globals}
use Rattle.dslx_core.proofs.OnTyping.OnDepends.Same.{PartSame, alone_same}
use Rattle.dslx_core.proofs.OnTyping.OnDepends.Scopes.{LocalsKeep}
use Rattle.dslx_core.proofs.OnTyping.OnSized.Parts.{both_tests}

-- ---- patterns

-- a pattern, against whatever stands there
abbrev pub PatternSame : TypeEnv → GlobalEnv → PatternTyping → Type 0
PatternSame context other p = (may_fail : Bool) (t : Option DslxType) (names : List (List ℕ)) (locals : List Typed) → p may_fail context t names locals ≡ p may_fail (in_globals context other) t names locals

-- a pattern adds to the locals that it stands behind
abbrev pub PatternKeeps : TypeEnv → PatternTyping → Type 0
PatternKeeps context p = (may_fail : Bool) (t : Option DslxType) (names : List (List ℕ)) (locals : List Typed) → LocalsKeep locals (p may_fail context t names locals).locals

abbrev pub EachPatternSame : TypeEnv → GlobalEnv → List PatternPair → Type 0
EachPatternSame context other [] = Unit {0}
EachPatternSame context other (p ∷ ps) = PatternSame context other p.1 × EachPatternSame context other ps

pub parts_same : (context : TypeEnv) (other : GlobalEnv) (ps : List PatternPair) → EachPatternSame context other ps → (may_fail : Bool) (ts : Option (List DslxType)) (names : List (List ℕ)) (locals : List Typed)
    → parts_typing may_fail context ps ts names locals ≡ parts_typing may_fail (in_globals context other) ps ts names locals
parts_same context other [] h may_fail ts names locals = refl
parts_same context other (p ∷ ps) h may_fail ts names locals =
    let first = p.1 may_fail context (first_part_type ts) names locals in
    let same = h.0 may_fail (first_part_type ts) names locals in
    let rest = parts_same context other ps h.1 may_fail (other_part_types ts) first.names first.locals in
    (λ i. both_patterns first (rest i))
    ∙ (λ i. both_patterns (same i) (parts_typing may_fail (in_globals context other) ps (other_part_types ts) (same i).names (same i).locals))

pub name_pattern_same : (P : List ℕ → Bool) (span : Span) (context : TypeEnv) (other : GlobalEnv) (name : List ℕ) → GlobalsAgree P context.known other → context.known.items.constant name ≡ other.items.constant name
    → (may_fail : Bool) (t : Option DslxType) (names : List (List ℕ)) (locals : List Typed)
    → name_pattern span may_fail context t names locals name (context.known.items.is_constant name) ≡ name_pattern span may_fail (in_globals context other) t names locals name (other.items.is_constant name)
name_pattern_same P span context other name k same may_fail t names locals = by_kind (context.known.items.is_constant name) ∙ ap (name_pattern span may_fail (in_globals context other) t names locals name) (k.kinds name)
  where
    by_kind : (b : Bool) → name_pattern span may_fail context t names locals name b ≡ name_pattern span may_fail (in_globals context other) t names locals name b
    by_kind false = λ i. name_pattern span may_fail (record context { known = record context.known { whole = k.whole i } }) t names locals name false
    by_kind true = λ i. one_value span may_fail t names locals (unlimited (option_map type_of_value (same i)) (breaks_if (k.cyclic context.owner name i) 3 span) [] (Some 1)) (is_there (same i))

-- ---- alternatives and arms

pub alternatives_same : (context : TypeEnv) (other : GlobalEnv) (t : Option DslxType) (ps : List PatternPair) → EachPatternSame context other ps → alternatives_seen context t ps ≡ alternatives_seen (in_globals context other) t ps
alternatives_same context other t [] h = refl
alternatives_same context other t (p ∷ ps) h =
    let before = alternatives_seen context t ps in
    let rest = alternatives_same context other t ps h.1 in
    (λ i. with_alternative (h.0 true t [] before.locals i) before) ∙ (λ i. with_alternative (one_alternative (in_globals context other) t p (rest i)) (rest i))

-- the patterns of an arm, where all of them is known and they are tried on values, and all of it against values of a type
pub record ArmSame (context : TypeEnv) (other : GlobalEnv) (a : ArmSeen) : Type 0 where
  pub fits : (t : Option DslxType) → (alternatives_seen context t a.patterns).is_known ≡ true → (v : DslxValue) → list_any (λ (p : PatternPair). is_there (fitted p.0 v (constant_env context))) a.patterns ≡ list_any (λ (p : PatternPair). is_there (fitted p.0 v (constant_env (in_globals context other)))) a.patterns
  pub typing : (t : Option DslxType) → arm_typing context t a ≡ arm_typing (in_globals context other) t a

pub arm_same : (context : TypeEnv) (other : GlobalEnv) (t : Option DslxType) (a : ArmSeen) → EachPatternSame context other a.patterns → PartSame (with_typed context (alternatives_seen context t a.patterns).locals) other a.value
    → arm_typing context t a ≡ arm_typing (in_globals context other) t a
arm_same context other t a h value =
    let seen = alternatives_same context other t a.patterns h in
    let first = alternatives_seen context t a.patterns in
    (λ i. record { patterns = a.patterns; seen = first; value = alone_same (with_typed context first.locals) other a.value value i })
    ∙ (λ i. record { patterns = a.patterns; seen = seen i; value = alone (with_typed (in_globals context other) (seen i).locals) a.value })

abbrev pub EachArmSame : TypeEnv → GlobalEnv → List ArmSeen → Type 0
EachArmSame context other [] = Unit {0}
EachArmSame context other (a ∷ as') = ArmSame context other a × EachArmSame context other as'

arms_same : (context : TypeEnv) (other : GlobalEnv) (t : Option DslxType) (as' : List ArmSeen) → EachArmSame context other as' → map (arm_typing context t) as' ≡ map (arm_typing (in_globals context other) t) as'
arms_same context other t [] h = refl
arms_same context other t (a ∷ as') h = λ i. h.0.typing t i ∷ arms_same context other t as' h.1 i

-- ---- what is matched

matched_same : (context : TypeEnv) (other : GlobalEnv) (t : Option DslxType) (as' : List ArmSeen) → EachArmSame context other as' → list_all (λ (a : ArmTyping). a.seen.is_known && is_empty a.seen.faults) (map (arm_typing context t) as') ≡ true → (v : DslxValue)
    → is_matched context (map (arm_typing context t) as') v ≡ is_matched (in_globals context other) (map (arm_typing context t) as') v
matched_same context other t [] h k v = refl
matched_same context other t (a ∷ as') h k v =
    let seen = alternatives_seen context t a.patterns in
    let r = both_tests (seen.is_known && is_empty seen.faults) (list_all (λ (x : ArmTyping). x.seen.is_known && is_empty x.seen.faults) (map (arm_typing context t) as')) k in
    λ i. h.0.fits t (both_tests seen.is_known (is_empty seen.faults) r.0).0 v i || matched_same context other t as' h.1 r.1 v i

words_same : (context : TypeEnv) (other : GlobalEnv) (js : List ArmTyping) (t : DslxType) (w n : ℕ) → ((v : DslxValue) → is_matched context js v ≡ is_matched (in_globals context other) js v)
    → all_words_match context js t w n ≡ all_words_match (in_globals context other) js t w n
words_same context other js t w zero h = refl
words_same context other js t w (suc n) h = λ i. h (from_word t (word w n)) i && words_same context other js t w n h i

values_same : (context : TypeEnv) (other : GlobalEnv) (js : List ArmTyping) (t : DslxType) → ((v : DslxValue) → is_matched context js v ≡ is_matched (in_globals context other) js v) → values_match context js t ≡ values_match (in_globals context other) js t
values_same context other js t h = λ i. if nat_le (flat_bits t) 8 then words_same context other js t (flat_bits t) (2 ^ flat_bits t) h i else last_is_sure (last_of js)

member_matched : (context : TypeEnv) (other : GlobalEnv) (js : List ArmTyping) → ((v : DslxValue) → is_matched context js v ≡ is_matched (in_globals context other) js v) → (o : Option DslxValue)
    → member_matches context js o ≡ member_matches (in_globals context other) js o
member_matched context other js h None = refl
member_matched context other js h (Some v) = h v

members_matched : (context : TypeEnv) (other : GlobalEnv) (js : List ArmTyping) (name : List ℕ) → ((member : List ℕ) → context.known.items.member name member ≡ other.items.member name member)
    → ((v : DslxValue) → is_matched context js v ≡ is_matched (in_globals context other) js v) → (o : Option Enum) → members_match context js name o ≡ members_match (in_globals context other) js name o
members_matched context other js name same h None = refl
members_matched context other js name same h (Some e) = each e.members
  where
    each : (ms : List Member) → list_all (λ (m : Member). member_matches context js (context.known.items.member name m.name.name)) ms
        ≡ list_all (λ (m : Member). member_matches (in_globals context other) js (other.items.member name m.name.name)) ms
    each [] = refl
    each (m ∷ ms) =
        let one = member_matched context other js h (context.known.items.member name m.name.name) ∙ ap (member_matches (in_globals context other) js) (same m.name.name) in
        λ i. one i && each ms i

-- an enum that the item reaches
reached_members : (P : List ℕ → Bool) (context : TypeEnv) (other : GlobalEnv) (js : List ArmTyping) (name : List ℕ) → GlobalsAgree P context.known other
    → ((member : List ℕ) → item_reaches context.known.whole context.owner name ≡ true → context.known.items.member name member ≡ other.items.member name member)
    → ((v : DslxValue) → is_matched context js v ≡ is_matched (in_globals context other) js v)
    → (item_reaches context.known.whole context.owner name && members_match context js name (as_enum (item_named name context.known.whole.items)))
    ≡ (item_reaches other.whole context.owner name && members_match (in_globals context other) js name (as_enum (item_named name other.whole.items)))
reached_members P context other js name k enums h =
    by_reach (item_reaches context.known.whole context.owner name) refl
    ∙ (λ i. item_reaches (k.whole i) context.owner name && members_match (in_globals context other) js name (as_enum (item_named name (k.whole i).items)))
  where
    by_reach : (b : Bool) → item_reaches context.known.whole context.owner name ≡ b
        → (b && members_match context js name (as_enum (item_named name context.known.whole.items))) ≡ (b && members_match (in_globals context other) js name (as_enum (item_named name context.known.whole.items)))
    by_reach false q = refl
    by_reach true q = members_matched context other js name (λ member. enums member q) h (as_enum (item_named name context.known.whole.items))

exhaustive_same : (P : List ℕ → Bool) (context : TypeEnv) (other : GlobalEnv) (js : List ArmTyping) (t : DslxType) → GlobalsAgree P context.known other
    → ((name member : List ℕ) → item_reaches context.known.whole context.owner name ≡ true → context.known.items.member name member ≡ other.items.member name member)
    → ((v : DslxValue) → is_matched context js v ≡ is_matched (in_globals context other) js v) → is_exhaustive context js t ≡ is_exhaustive (in_globals context other) js t
exhaustive_same P context other js t k enums h = by_level (out-DslxType t)
  where
    by_level : (l : DslxType-F DslxType) → is_exhaustive_in context js t l ≡ is_exhaustive_in (in_globals context other) js t l
    by_level (DslxType-F.Enum name s w) = reached_members P context other js name k (enums name) h
    by_level (DslxType-F.Bits s w) = values_same context other js t h
    by_level (DslxType-F.Tuple ts) = values_same context other js t h
    by_level (DslxType-F.Array u n) = values_same context other js t h
    by_level (DslxType-F.Struct name fields ts) = values_same context other js t h
    by_level DslxType-F.Token = values_same context other js t h

-- a match, by whether each value is matched
abbrev match_by : Span → Judgement → List ArmTyping → Bool → Judgement
match_by span value js wrong =
    settled span (and_then value.ty (λ t. where_true (all_known js) (first_of_types (all_some (types_of (arm_values js))))))
    (value.faults ++ arms_faults js ++ breaks_if (is_empty js || some_binds js || differ (all_some (types_of (arm_values js))) || wrong) 24 span)
    (value.reached ++ arms_reached js) (one_and (plus_size value.size (arms_size js)))

pub match_same : (P : List ℕ → Bool) (span : Span) (context : TypeEnv) (other : GlobalEnv) (e : ExprPair) (arms : List ArmSeen) → GlobalsAgree P context.known other
    → ((name member : List ℕ) → item_reaches context.known.whole context.owner name ≡ true → context.known.items.member name member ≡ other.items.member name member)
    → PartSame context other e → EachArmSame context other arms → match_typing span context e arms ≡ match_typing span (in_globals context other) e arms
match_same P span context other e arms k enums h each =
    let value = alone_same context other e h in
    let t = (alone context e).ty in
    (λ i. match_by span (alone context e) (map (arm_typing context t) arms) (wrong_same t i))
    ∙ (λ i. match_by span (value i) (arms_same context other (value i).ty arms each i) (not_exhaustive (in_globals context other) (arms_same context other (value i).ty arms each i) (value i).ty))
  where
    wrong_same : (t : Option DslxType) → not_exhaustive context (map (arm_typing context t) arms) t ≡ not_exhaustive (in_globals context other) (map (arm_typing context t) arms) t
    wrong_same None = refl
    wrong_same (Some t) = by_known (list_all (λ (a : ArmTyping). a.seen.is_known && is_empty a.seen.faults) js) refl
      where
        js : List ArmTyping
        js = map (arm_typing context (Some t)) arms

        by_known : (b : Bool) → list_all (λ (a : ArmTyping). a.seen.is_known && is_empty a.seen.faults) js ≡ b → (b && not (is_exhaustive context js t)) ≡ (b && not (is_exhaustive (in_globals context other) js t))
        by_known false q = refl
        by_known true q = ap not (exhaustive_same P context other js t k enums (matched_same context other (Some t) arms each q))

-- ---- statements

-- the type environment behind a statement, where this is known
abbrev pub behind_in_globals : StatementSeen → GlobalEnv → StatementSeen
behind_in_globals seen other = record seen { context = in_globals seen.context other }

pub let_same : (context : TypeEnv) (other : GlobalEnv) (e : ExprPair) (span : Span) (on_top : Bool) (written written' : Option Judgement) (pattern : PatternPair) → e.1 on_top context ≡ e.1 on_top (in_globals context other)
    → written ≡ written' → PatternSame context other pattern.1
    → let_with (in_globals context other) e.0 span (e.1 on_top (in_globals context other)) written' (pattern_alone false (in_globals context other) (bound_type written' (e.1 on_top (in_globals context other)).ty) pattern)
    ≡ behind_in_globals (let_with context e.0 span (e.1 on_top context) written (pattern_alone false context (bound_type written (e.1 on_top context).ty) pattern)) other
let_same context other e span on_top written written' pattern value type_same h = sym
    ((λ i. let_with (in_globals context other) e.0 span (e.1 on_top context) written (h false (bound_type written (e.1 on_top context).ty) [] context.locals i))
    ∙ (λ i. let_with (in_globals context other) e.0 span (value i) (type_same i) (pattern_alone false (in_globals context other) (bound_type (type_same i) (value i).ty) pattern)))

-- ---- loops

abbrev loop_of : ConstantSeen → ConstantSeen → Judgement → Option Judgement → PatternSeen → PatternSeen → Judgement → LoopSeen
loop_of from to start written index acc body = record { from = from; to = to; written = written; start = start; index = index; acc = acc; body = body }

-- a loop, by its bounds, its start and its annotation: its two patterns and its body, each behind those before it
abbrev pub loop_behind : TypeEnv → PatternPair → PatternPair → BlockPair → ConstantSeen → ConstantSeen → Judgement → Option Judgement → LoopSeen
loop_behind context index acc body from to start written =
    let i = pattern_alone false context (same_ends from.judgement.ty to.judgement.ty) index in
    let a = pattern_alone false (with_typed context i.locals) start.ty acc in
    loop_of from to start written i a (block_alone (with_typed context a.locals) body)

pub loop_same : (context : TypeEnv) (other : GlobalEnv) (from to : ConstantSeen) (start : Judgement) (written : Option Judgement) (index acc : PatternPair) (body : BlockPair)
    → PatternSame context other index.1 → ((locals : List Typed) → LocalsKeep context.locals locals → PatternSame (with_typed context locals) other acc.1)
    → ((locals : List Typed) → LocalsKeep context.locals locals → block_alone (with_typed context locals) body ≡ block_alone (with_typed (in_globals context other) locals) body)
    → PatternKeeps context index.1 → ((locals : List Typed) → PatternKeeps (with_typed context locals) acc.1)
    → loop_behind context index acc body from to start written ≡ loop_behind (in_globals context other) index acc body from to start written
loop_same context other from to start written index acc body hi ha hb ki ka =
    let i = pattern_alone false context (same_ends from.judgement.ty to.judgement.ty) index in
    let a = pattern_alone false (with_typed context i.locals) start.ty acc in
    let first = ki false (same_ends from.judgement.ty to.judgement.ty) [] context.locals in
    let body_same = hb a.locals (λ name q. ka i.locals false start.ty [] i.locals name (first name q)) in
    let acc_same = ha i.locals first false start.ty [] i.locals in
    let index_same = hi false (same_ends from.judgement.ty to.judgement.ty) [] context.locals in
    (λ d. loop_of from to start written i a (body_same d))
    ∙ (λ d. loop_of from to start written i (acc_same d) (block_alone (with_typed (in_globals context other) (acc_same d).locals) body))
    ∙ (λ d.
    let k = index_same d in
    let b = pattern_alone false (with_typed (in_globals context other) k.locals) start.ty acc in
    loop_of from to start written k b (block_alone (with_typed (in_globals context other) b.locals) body))
