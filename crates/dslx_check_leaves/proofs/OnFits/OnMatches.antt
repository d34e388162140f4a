-- Whether the arms of a match match each value.
use Rattle.std.proofs.Common.{ℕ, ◌≡◌, ◌∙◌, ◌++◌, zero, suc, Bool, true, false, List, [], ◌∷◌, map, Option, Some, None, refl, sym, ap, subst}
use mathlib.Core.Bool.{true≢false}
use Rattle.std.specs.Prelude.{◌&&◌, ◌||◌, ◌^◌, if◌then◌else◌, nat_le, not}
use Rattle.std.specs.List.{list_any}
use Rattle.std.specs.Option.{option_map}
use Rattle.std.proofs.lemmas.Option.{none-some, same_Some}
use Rattle.base.specs.Lists.Prefix.{IsPrefix}
use Rattle.xb_bits.specs.Word.{word}
use Rattle.dslx_tree.specs.declared.expr.Arm.{Arm, out-Arm}
use Rattle.dslx_tree.specs.declared.item.Enum.{Enum}
use Rattle.dslx_tree.specs.declared.item.Member.{Member}
use Rattle.dslx_tree.specs.declared.pattern.Pattern.{Pattern}
use Rattle.dslx_meaning.specs.Items.{as_enum, item_named}
use Rattle.dslx_meaning.specs.Lists.{last_of}
use Rattle.dslx_meaning.specs.Meaning.{fitted}
use Rattle.dslx_meaning.specs.Types.{flat_bits}
use Rattle.dslx_meaning.specs.Values.{from_word}
use Rattle.dslx_meaning.specs.declared.ty.DslxType.{DslxType, out-DslxType}
use Rattle.dslx_meaning.specs.declared.ty.DslxType.TheOpen.{DslxType-F}
use Rattle.dslx_meaning.specs.declared.value.DslxValue.{DslxValue}
use Rattle.dslx_meaning.specs.Rules.ConstantRules.{is_empty}
use Rattle.dslx_meaning.specs.Rules.ControlRules.{AlternativesSeen, ArmTyping, all_words_match, alternatives_seen, is_exhaustive, is_exhaustive_in, is_matched, last_is_sure, member_matches, members_match, not_exhaustive, values_match}
use Rattle.dslx_meaning.specs.Rules.Mentions.{item_reaches}
use Rattle.dslx_meaning.specs.Rules.PatternRules.{is_there}
use Rattle.dslx_meaning.specs.Rules.TypeEnvs.{TypeEnv, constant_env}
use Rattle.dslx_meaning.specs.Rules.Typings.{PatternPair, PatternSeen}
use Rattle.dslx_check_rules.specs.Interned.{HasRow, ItemNames, row_type, type_at}
use Rattle.dslx_check_rules.specs.declared.table.row.TypeId.{TypeId}
use Rattle.dslx_check_rules.specs.declared.table.row.TypeRow.{TypeRow}
use Rattle.dslx_check_rules.specs.declared.table.row.TypeRow.TheVariants as row
use Rattle.dslx_check_rules.proofs.Lemmas.Nodes.Rows.{level, level_of}
use Rattle.dslx_check_rules.specs.Control.Matches.{AreArms, are_fine, lacks_some}
use Rattle.dslx_check_rules.specs.declared.control.matches.ArmTyping.{ArmTyping as ArmOfCode}
use Rattle.dslx_check_facts.specs.Judged.{environment}
use Rattle.dslx_check_facts.specs.Known.{item_names}
use Rattle.dslx_check_facts.specs.Walks.{OnlyMisses, WalkShown}
use Rattle.dslx_check_facts.specs.declared.facts.Facts.{Facts}
use Rattle.dslx_check_facts.specs.declared.type_env.TypeEnv.{TypeEnv as CodeEnv}
use Rattle.xb_span.specs.declared.span.Span.{Span}
use Rattle.dslx_meaning.specs.Rules.RuleNumbers as rule
use Rattle.dslx_meaning.specs.Rules.TypeEnvs.{breaks_if, one_and, plus_size, settled, types_of}
use Rattle.dslx_meaning.specs.Rules.ControlRules.{all_known, arm_values, arms_faults, arms_reached, arms_size, differ, first_of_types, some_binds}
use Rattle.dslx_meaning.specs.Lists.{all_some, and_then, where_true}
use Rattle.dslx_check_rules.specs.declared.typing.Typing.{Typing}
use Rattle.dslx_check_rules.specs.Nodes.Parts.{IsPart}
use Rattle.dslx_check_rules.specs.Control.Matches.{FromArms}
use Rattle.dslx_check_facts.proofs.Lemmas.Walks.{misses_grows}
use Rattle.dslx_check_leaves.specs.Fits.Fits.{AllFine, ArmsFine, Exhausts, IsAsked, MatchesAll, MatchesMembers, arm_fits, each_value, each_word, enum_in, enum_name, fits_there, if_there, members_of, patterns_in, patterns_of, some_arm}
use Rattle.dslx_check_leaves.specs.Fits.Matched.{Exhausted, MatchFrom, arms_at}
use Rattle.dslx_check_leaves.specs.Fits.Typed.{pattern_typed}
use Rattle.dslx_check_leaves.proofs.OnFits.Among.{all_alike, any_alike, any_map, both_true, nothing_both}

-- ---- by the trees alone

by_patterns : (context : TypeEnv) (v : DslxValue) (ps : List Pattern) → list_any (λ (p : PatternPair). is_there (fitted p.0 v (constant_env context))) (map pattern_typed ps) ≡ list_any (fits_there context v) ps
by_patterns context v ps = any_map (λ (p : PatternPair). is_there (fitted p.0 v (constant_env context))) pattern_typed ps

pub matched_is : (context : TypeEnv) (xs : List ArmTyping) (arms : List Arm) (v : DslxValue) → patterns_of xs ≡ patterns_in arms → is_matched context xs v ≡ some_arm context arms v
matched_is context xs arms v e =
    let test : List PatternPair → Bool = λ ps. list_any (λ (p : PatternPair). is_there (fitted p.0 v (constant_env context))) ps in
    sym (any_map test (λ (a : ArmTyping). a.patterns) xs) ∙ ap (list_any test) e ∙ any_map test (λ (a : Arm). map pattern_typed (out-Arm a).patterns) arms
    ∙ any_alike (λ (a : Arm). test (map pattern_typed (out-Arm a).patterns)) (arm_fits context v) arms (λ a. by_patterns context v (out-Arm a).patterns)

words_are : (context : TypeEnv) (xs : List ArmTyping) (arms : List Arm) (t : DslxType) (w n : ℕ) → patterns_of xs ≡ patterns_in arms → all_words_match context xs t w n ≡ each_word context arms t w n
words_are context xs arms t w zero e = refl
words_are context xs arms t w (suc n) e = λ i. matched_is context xs arms (from_word t (word w n)) e i && words_are context xs arms t w n e i

values_are : (context : TypeEnv) (xs : List ArmTyping) (arms : List Arm) (t : DslxType) → patterns_of xs ≡ patterns_in arms → values_match context xs t ≡ each_value context arms t (last_is_sure (last_of xs))
values_are context xs arms t e =
    ap (λ b. if nat_le (flat_bits t) 8 then b else last_is_sure (last_of xs)) (words_are context xs arms t (flat_bits t) (2 ^ flat_bits t) e)

member_is : (context : TypeEnv) (xs : List ArmTyping) (arms : List Arm) (o : Option DslxValue) → patterns_of xs ≡ patterns_in arms → member_matches context xs o ≡ if_there context arms o
member_is context xs arms None e = refl
member_is context xs arms (Some v) e = matched_is context xs arms v e

members_are : (context : TypeEnv) (xs : List ArmTyping) (arms : List Arm) (name : List ℕ) (o : Option Enum) → patterns_of xs ≡ patterns_in arms → members_match context xs name o ≡ members_of context arms name o
members_are context xs arms name None e = refl
members_are context xs arms name (Some c) e =
    all_alike (λ (m : Member). member_matches context xs (context.known.items.member name m.name.name)) (λ (m : Member). if_there context arms (context.known.items.member name m.name.name)) c.members
    (λ m. member_is context xs arms (context.known.items.member name m.name.name) e)

enum_level : (names : ItemNames) (types : ℕ → DslxType) (r : TypeRow) → enum_name (level_of names types r) ≡ option_map names.item (enum_in r)
enum_level names types (row.Bits k) = refl
enum_level names types (row.Tuple ts) = refl
enum_level names types (row.Array t n) = refl
enum_level names types (row.Struct i ts) = refl
enum_level names types (row.Enum i k) = refl
enum_level names types row.Token = refl

pub enum_by_row : (names : ItemNames) (types : ℕ → DslxType) (r : TypeRow) → enum_name (out-DslxType (row_type names types r)) ≡ option_map names.item (enum_in r)
enum_by_row names types r = ap enum_name (level names types r) ∙ enum_level names types r

no_enum : (context : TypeEnv) (xs : List ArmTyping) (t : DslxType) (l : DslxType-F DslxType) → enum_name l ≡ None → is_exhaustive_in context xs t l ≡ values_match context xs t
no_enum context xs t (DslxType-F.Bits s w) e = refl
no_enum context xs t (DslxType-F.Tuple ts) e = refl
no_enum context xs t (DslxType-F.Array u n) e = refl
no_enum context xs t (DslxType-F.Struct name fields ts) e = refl
no_enum context xs t (DslxType-F.Enum name s w) e = absurd (none-some name (sym e))
no_enum context xs t DslxType-F.Token e = refl

an_enum : (context : TypeEnv) (xs : List ArmTyping) (t : DslxType) (name : List ℕ) (l : DslxType-F DslxType) → enum_name l ≡ Some name
    → is_exhaustive_in context xs t l ≡ (item_reaches context.known.whole context.owner name && members_match context xs name (as_enum (item_named name context.known.whole.items)))
an_enum context xs t name (DslxType-F.Bits s w) e = absurd (none-some name e)
an_enum context xs t name (DslxType-F.Tuple ts) e = absurd (none-some name e)
an_enum context xs t name (DslxType-F.Array u n) e = absurd (none-some name e)
an_enum context xs t name (DslxType-F.Struct other fields ts) e = absurd (none-some name e)
an_enum context xs t name (DslxType-F.Enum other s w) e =
    ap (λ (n : List ℕ). item_reaches context.known.whole context.owner n && members_match context xs n (as_enum (item_named n context.known.whole.items))) (same_Some other name e)
an_enum context xs t name DslxType-F.Token e = absurd (none-some name e)

pub exhausts_enum : {f : Facts} {s : CodeEnv} {w0 w1 : WalkShown} {ty : TypeId} {arms : List Arm} {last b : Bool} (item : ℕ)
    → ((names : ItemNames) (later : List TypeRow) → IsPrefix w0.rows later → HasRow w0.rows ty → enum_name (out-DslxType (type_at names later ty)) ≡ Some (names.item item))
    → MatchesMembers f w0 w1 ty s.owner item arms b → Exhausts f s w0 w1 ty arms last b
exhausts_enum {f} {s} {w0} {w1} {ty} {arms} {last} {b} item is h = record {
  fit = λ known later t xs asked none patterns last_is fine.
      let context = environment f s known later in
      let name : List ℕ = (item_names f).item item in
      let same : type_at (item_names f) later.rows ty ≡ t = same_Some (type_at (item_names f) later.rows ty) t asked.is in
      h.fit known later context t asked none fine
      ∙ (λ i. item_reaches known.whole ((item_names f).item s.owner) name && sym (members_are context xs arms name (as_enum (item_named name known.whole.items)) patterns) i)
      ∙ sym (an_enum context xs t name (out-DslxType t) (ap (λ (u : DslxType). enum_name (out-DslxType u)) (sym same) ∙ is (item_names f) later.rows asked.rows asked.row));
}

pub exhausts_values : {f : Facts} {s : CodeEnv} {w0 w1 : WalkShown} {ty : TypeId} {arms : List Arm} {last b : Bool}
    → ((names : ItemNames) (later : List TypeRow) → IsPrefix w0.rows later → HasRow w0.rows ty → enum_name (out-DslxType (type_at names later ty)) ≡ None) → MatchesAll f w0 w1 ty arms last b → Exhausts f s w0 w1 ty arms last b
exhausts_values {f} {s} {w0} {w1} {ty} {arms} {last} {b} is h = record {
  fit = λ known later t xs asked none patterns last_is fine.
      let context = environment f s known later in
      let same : type_at (item_names f) later.rows ty ≡ t = same_Some (type_at (item_names f) later.rows ty) t asked.is in
      h.fit known later context t asked none fine
      ∙ ap (each_value context arms t) last_is ∙ sym (values_are context xs arms t patterns)
      ∙ sym (no_enum context xs t (out-DslxType t) (ap (λ (u : DslxType). enum_name (out-DslxType u)) (sym same) ∙ is (item_names f) later.rows asked.rows asked.row));
}

-- ---- arms that are fine

empty_is : {A : Type 0} (xs : List A) → is_empty xs ≡ true → xs ≡ []
empty_is [] e = refl
empty_is (x ∷ xs) e = absurd (true≢false (sym e))

alternatives_fine : (context : TypeEnv) (t : DslxType) (ps : List Pattern) → (alternatives_seen context (Some t) (map pattern_typed ps)).is_known ≡ true → (alternatives_seen context (Some t) (map pattern_typed ps)).faults ≡ []
    → AllFine context t ps
alternatives_fine context t [] k f = tt
alternatives_fine context t (p ∷ ps) k f =
    let rest : AlternativesSeen = alternatives_seen context (Some t) (map pattern_typed ps) in
    let first : PatternSeen = (pattern_typed p).1 true context (Some t) [] rest.locals in
    let known = both_true first.is_known rest.is_known k in
    let faults = nothing_both first.faults rest.faults f in
    (record { names = []; locals = rest.locals; faults = faults.0; known = known.0 }, alternatives_fine context t ps known.1 faults.1)

pub arms_fine : (context : TypeEnv) (t : DslxType) (arms : List Arm) → are_fine (arms_at context (Some t) arms) ≡ true → ArmsFine context t arms
arms_fine context t [] e = tt
arms_fine context t (a ∷ arms) e =
    let seen : AlternativesSeen = alternatives_seen context (Some t) (map pattern_typed (out-Arm a).patterns) in
    let q = both_true (seen.is_known && is_empty seen.faults) (are_fine (arms_at context (Some t) arms)) e in
    let r = both_true seen.is_known (is_empty seen.faults) q.0 in
    (alternatives_fine context t (out-Arm a).patterns r.0 (empty_is seen.faults r.1), arms_fine context t arms q.1)

patterns_at : (context : TypeEnv) (t : Option DslxType) (arms : List Arm) → patterns_of (arms_at context t arms) ≡ patterns_in arms
patterns_at context t [] = refl
patterns_at context t (a ∷ arms) = ap (λ ps. map pattern_typed (out-Arm a).patterns ∷ ps) (patterns_at context t arms)

-- ---- whether it is asked

pub not_asked : {f : Facts} {s : CodeEnv} {w : WalkShown} {all : List ArmOfCode} {arms : List Arm} → Exhausted f s w w None all arms true
not_asked {f} {s} {w} {all} {arms} = record {
  comes = λ known later has agrees there none t is row are.
      let context = environment f s known later in
      subst (λ (o : Option DslxType). lacks_some true o (arms_at context o arms) ≡ not_exhaustive context (arms_at context o arms) o) is refl;
}

odd_asked : (context : TypeEnv) (t : Option DslxType) (xs : List ArmTyping) → are_fine xs ≡ false → lacks_some true t xs ≡ not_exhaustive context xs t
odd_asked context None xs e = refl
odd_asked context (Some t) xs e = ap (λ b. b && false) e ∙ ap (λ b. b && not (is_exhaustive context xs t)) (sym e)

pub not_fine : {f : Facts} {s : CodeEnv} {w : WalkShown} {ty : Option TypeId} {all : List ArmOfCode} {arms : List Arm} {b : Bool}
    → ((names : ItemNames) (rows later : List TypeRow) (xs : List ArmTyping) → AreArms names rows later all xs → b ≡ are_fine xs) → b ≡ false → Exhausted f s w w ty all arms true
not_fine {f} {s} {w} {ty} {all} {arms} {b} fine odd = record {
  comes = λ known later has agrees there none t is row are.
      let context = environment f s known later in
      odd_asked context t (arms_at context t arms) (sym (fine (item_names f) w.rows later.rows (arms_at context t arms) are) ∙ odd);
}

pub exhausted : {f : Facts} {s : CodeEnv} {w0 w1 : WalkShown} {ty : TypeId} {all : List ArmOfCode} {arms : List Arm} {fine last b : Bool} → OnlyMisses w0 w1
    → ((names : ItemNames) (rows later : List TypeRow) (xs : List ArmTyping) → AreArms names rows later all xs → fine ≡ are_fine xs) → fine ≡ true
    → ((names : ItemNames) (rows later : List TypeRow) (xs : List ArmTyping) → AreArms names rows later all xs → last ≡ last_is_sure (last_of xs))
    → Exhausts f s w0 w1 ty arms last b → Exhausted f s w0 w1 (Some ty) all arms b
exhausted {f} {s} {w0} {w1} {ty} {all} {arms} {fine} {last} {b} m are_all is_fine lasts h = record {
  comes = λ known later has agrees there none t is row are.
      let context = environment f s known later in
      let names = item_names f in
      let u : DslxType = type_at names later.rows ty in
      let claim : Option DslxType → Type 0 = λ o. AreArms names w0.rows later.rows all (arms_at context o arms) → lacks_some b o (arms_at context o arms) ≡ not_exhaustive context (arms_at context o arms) o in
      subst claim is (λ are_here.
      let xs : List ArmTyping = arms_at context (Some u) arms in
      let all_fine : are_fine xs ≡ true = sym (are_all names w0.rows later.rows xs are_here) ∙ is_fine in
      let asked : IsAsked f later known w0.rows (Some ty) context u = record { agrees = agrees; rows = subst (λ (rows : List TypeRow). IsPrefix rows later.rows) m.rows has.rows; row = row; items = refl; is = refl } in
      ap (λ x. are_fine xs && not x) (h.fit known later u xs asked none (patterns_at context (Some u) arms) (lasts names w0.rows later.rows xs are_here) (arms_fine context u arms all_fine))) are;
}

-- ---- a match from its value and its arms

-- a match whose arms match each value or not
pub match_from : {f : Facts} {s : CodeEnv} {w0 w1 : WalkShown} {v j : Typing} {all : List ArmOfCode} {arms : List Arm} {b : Bool} (span : Span) → OnlyMisses w0 w1 → Exhausted f s w0 w1 v.ty all arms b
    → FromArms span b w1.rows v all j → MatchFrom f s w0 w1 span v all arms j
match_from {f} {s} {w0} {w1} {v} {j} {all} {arms} {b} span m e from = record {
  grows = misses_grows w0 w1 m;
  reached = m.reached;
  comes = λ known later has agrees there none x p are.
      let names = item_names f in
      let js = arms_at (environment f s known later) x.ty arms in
      let value : IsPart names w1.rows later.rows v x = subst (λ (rows : List TypeRow). IsPart names rows later.rows v x) (sym m.rows) p in
      let are_now : AreArms names w1.rows later.rows all js = subst (λ (rows : List TypeRow). AreArms names rows later.rows all js) (sym m.rows) are in
      let asked : lacks_some b x.ty js ≡ not_exhaustive (environment f s known later) js x.ty = e.comes known later has agrees there none x.ty p.ty p.row are in
      subst (λ (l : Bool). IsPart names w1.rows later.rows j (settled span (and_then x.ty (λ t. where_true (all_known js) (first_of_types (all_some (types_of (arm_values js))))))
      (x.faults ++ arms_faults js ++ breaks_if (is_empty js || some_binds js || differ (all_some (types_of (arm_values js))) || l) rule.MATCH_IS_EXHAUSTIVE span)
      (x.reached ++ arms_reached js) (one_and (plus_size x.size (arms_size js))))) asked (from.typed names later.rows agrees.distinct has.rows x js value are_now);
}
