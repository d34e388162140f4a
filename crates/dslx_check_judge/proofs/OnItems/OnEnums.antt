-- Enums.
use Rattle.std.proofs.Common.{◌≡◌, ◌∙◌, ◌+◌, ◌++◌, ◌||◌, ℕ, zero, suc, Bool, true, false, List, [], ◌∷◌, Option, Some, None, is_some, map, length, drop, slice_get, append_assoc, arith, refl, sym, ap, subst}
use Rattle.std.specs.Prelude.{◌==◌, Result, Ok, Err, IfOk, OnOk, if◌then◌else◌}
use Rattle.std.specs.Str.{bytes_eq}
use Rattle.std.proofs.lemmas.Option.{none-some, same_Some}
use mathlib.Core.Bool.{true≢false}
use Rattle.base.specs.Lists.Prefix.{IsPrefix}
use Rattle.base.proofs.Lemmas.Lists.Prefixes.{IsPrefix-trans}
use Rattle.xb_span.specs.declared.fault.Fault.{Fault}
use Rattle.dslx_tree.specs.declared.ident.Ident.{Ident}
use Rattle.dslx_tree.specs.declared.item.Definition.{Definition}
use Rattle.dslx_tree.specs.declared.item.Definition.TheVariants as d
use Rattle.dslx_tree.specs.declared.item.Enum.{Enum}
use Rattle.dslx_tree.specs.declared.item.Member.{Member}
use Rattle.dslx_meaning.specs.Items.{enum_member, member_named}
use Rattle.dslx_meaning.specs.Lists.{and_then}
use Rattle.dslx_meaning.specs.Types.{bits_in}
use Rattle.dslx_meaning.specs.declared.ty.DslxType.{DslxType}
use Rattle.dslx_meaning.specs.declared.ty.DslxType as ty
use Rattle.dslx_meaning.specs.declared.value.DslxValue.{DslxValue}
use Rattle.dslx_meaning.specs.Rules.ConstantRules.{is_empty}
use Rattle.dslx_meaning.specs.Rules.ItemRules.{Found, base_if_bits, enum_member_value, enum_seen, has_equal_values, item_type_env, member_constant, member_values, members_found, typing_of_type}
use Rattle.dslx_meaning.specs.Rules.ModuleRules.{item_found}
use Rattle.dslx_meaning.specs.Rules.OperatorRules.{is_bits, unless_type}
use Rattle.dslx_meaning.specs.Rules.RuleNumbers as rule
use Rattle.dslx_meaning.specs.Rules.TypeEnvs.{GlobalEnv, TypeEnv, breaks_if, has_broken}
use Rattle.dslx_check_rules.specs.declared.faults.Faults.{Faults}
use Rattle.dslx_check_rules.specs.declared.table.row.TypeId.{TypeId}
use Rattle.dslx_check_rules.specs.declared.table.row.TypeRow.{TypeRow}
use Rattle.dslx_check_rules.specs.declared.typing.Typing.{Typing}
use Rattle.dslx_check_rules.specs.Interned.{HasRowIf, ItemNames, type_if}
use Rattle.dslx_check_rules.specs.Seen.{seen}
use Rattle.dslx_check_facts.specs.declared.facts.Facts.{Facts}
use Rattle.dslx_check_facts.specs.declared.type_env.TypeEnv.{TypeEnv as CodeEnv}
use Rattle.dslx_check_facts.specs.Known.{FactsHold, HasKnownRows, at_place, item_at, item_names, member_from, member_number}
use Rattle.dslx_check_facts.specs.Walks.{HasTables, WalkGrows, WalkShown, instances_at}
use Rattle.dslx_check_facts.proofs.Lemmas.Judged.{row_stays_if}
use Rattle.dslx_check_facts.proofs.Lemmas.Walks.{grows_trans, tables_refl, tables_trans}
use Rattle.dslx_check_rules.specs.Nodes.Parts.{Pairs}
use Rattle.dslx_check_declarations.specs.declared.items.ItemSeen.{ItemSeen}
use Rattle.dslx_check_declarations.specs.Items.{FindsEnum, HasNoRow, enum_faults, member_if}
use Rattle.dslx_check_declarations.specs.Scopes.{outside}
use Rattle.dslx_check_declarations.specs.Tops.{named_as}
use Rattle.dslx_check_declarations.proofs.Lemmas.Items.{item_after, no_row_stays, nothing_put, walk_item}
use Rattle.dslx_check_leaves.specs.Walked.{Claim, TypesPart, WalksTo}
use Rattle.dslx_check_leaves.proofs.Lemmas.Walking.{Both, both, halved, reached_both, same_types}
use Rattle.dslx_check_declarations.specs.Work.Comes.{ComesToMembers, ItemComesTo}
use Rattle.dslx_check_judge.specs.declared.items.enums.EnumParts.{EnumParts}
use Rattle.dslx_check_judge.specs.Items.Inner.Kinds.{EnumNamed, TypesEnum, faults_of_enum}
use Rattle.dslx_check_judge.specs.Items.Lists.{IsValueAs, OfType, TypesList}
use Rattle.dslx_check_judge.specs.Items.Judged.{FindsAs, JudgesItem}
use Rattle.dslx_check_judge.proofs.Lemmas.Items.OnNames.{called}
use Rattle.dslx_check_judge.proofs.OnItems.OnItems.{holds_named, none_of, told}

-- ---- where something is missing

pub no_enum : {w : WalkShown} {item : ℕ} {faults : Faults} {base : Option TypeId} → (w.missing ≡ [] → ⊥) → FindsEnum w w item faults base None
no_enum {w} {item} {faults} {base} misses = record { grows = nothing_put w item; same = (refl, refl); row = tt; is = λ fresh none. absurd (misses none) }

-- ---- the parts of an enum

pub values_are : (names : ItemNames) (rows later : List TypeRow) (vs us : List (Option DslxValue)) → Pairs (IsValueAs names rows later) vs us → vs ≡ us
values_are names rows later [] [] h = refl
values_are names rows later [] (u ∷ us) h = absurd h
values_are names rows later (v ∷ vs) [] h = absurd h
values_are names rows later (v ∷ vs) (u ∷ us) h = λ i. h.0 i ∷ values_are names rows later vs us h.1 i

empty_values : (context : TypeEnv) (t : Option DslxType) (xs : List Member) → is_empty (member_values context t xs) ≡ is_empty xs
empty_values context t [] = refl
empty_values context t (x ∷ xs) = refl

-- what an enum breaks, put together
enum_breaks : (context : TypeEnv) (e : Enum)
    → let base = typing_of_type context e.base in
    let members = members_found context (base_if_bits base.ty) [] e.members in
    (base.faults ++ members.faults) ++ enum_faults e.span base.ty (member_values context (base_if_bits base.ty) e.members) ≡ faults_of_enum context e
enum_breaks context e =
    let base = typing_of_type context e.base in
    let t = base_if_bits base.ty in
    let front = base.faults ++ (members_found context t [] e.members).faults in
    let bits = unless_type is_bits rule.ENUM_MEMBERS e.span base.ty in
    let values = member_values context t e.members in
    ap (λ b. front ++ (bits ++ breaks_if (b || has_equal_values values) rule.ENUM_MEMBERS e.span)) (empty_values context t e.members)
    ∙ sym (append_assoc front bits (breaks_if (is_empty e.members || has_equal_values values) rule.ENUM_MEMBERS e.span))

pub enum_parts : {f : Facts} {item : ℕ} {s0 s1 s2 : CodeEnv} {w0 w1 w2 : WalkShown} (e : Enum) (of : Option TypeId) {j : Typing} {faults own all : Faults} {values slice : List (Option DslxValue)} {xs : List Member} {p : EnumParts} → s0 ≡ outside item → xs ≡ e.members
    → WalksTo f s0 s1 w0 w1 (TypesPart j (λ env. typing_of_type env e.base))
    → ((names : ItemNames) (later : List TypeRow) → IsPrefix w1.rows later → HasRowIf w1.rows j.ty → type_if names later of ≡ base_if_bits (type_if names later j.ty))
    → (HasRowIf w1.rows j.ty → HasRowIf w1.rows of)
    → WalksTo f s1 s2 w1 w2 (OfType w1.rows of (λ t. TypesList IsValueAs faults values (λ context. members_found context t [] xs) (λ context. member_values context t xs)))
    → slice ≡ values
    → ((names : ItemNames) (later : List TypeRow) → IsPrefix w2.rows later → HasRowIf w2.rows j.ty → own ≡ seen (enum_faults e.span (type_if names later j.ty) slice))
    → ((fs gs hs : List Fault) → j.faults ≡ seen fs → faults ≡ seen gs → own ≡ seen hs → all ≡ seen ((fs ++ gs) ++ hs))
    → p.faults ≡ all → p.base ≡ j.ty → p.values.items ≡ values
    → WalksTo f (outside item) (outside item) w0 w2 (TypesEnum p e)
enum_parts {f} {item} {s0} {s1} {s2} {w0} {w1} {w2} e of {j} {faults} {own} {all} {values} {slice} {xs} {p} fresh_env as_slice g is there k same own_is adds all_is base_is values_is =
    let P : Claim = TypesPart j (λ env. typing_of_type env e.base) in
    let Q : List Member → Claim = λ ms. OfType w1.rows of (λ t. TypesList IsValueAs faults values (λ context. members_found context t [] ms) (λ context. member_values context t ms)) in
    let first : WalksTo f (outside item) s1 w0 w1 P = subst (λ (s : CodeEnv). WalksTo f s s1 w0 w1 P) fresh_env g in
    let second : WalksTo f s1 s2 w1 w2 (Q e.members) = subst (λ (ms : List Member). WalksTo f s1 s2 w1 w2 (Q ms)) as_slice k in
    subst (λ (s : CodeEnv). WalksTo f (outside item) s w0 w2 (TypesEnum p e)) (second.sight ∙ first.sight)
    (halved (Both P (Q e.members) w1.rows) (TypesEnum p e) (both P (Q e.members) first second) (same_types w2.rows)
    (λ names later more env distinct q t.
    let base = typing_of_type env e.base in
    let row = t.first.part.row in
    let bits : type_if names later.rows of ≡ base_if_bits base.ty = is names later.rows (IsPrefix-trans w1.rows w2.rows later.rows t.grows q) row ∙ ap base_if_bits t.first.part.ty in
    let u : TypesList IsValueAs faults values (λ context. members_found context (base_if_bits base.ty) [] e.members) (λ context. member_values context (base_if_bits base.ty) e.members) names w2.rows later t.rest env =
    subst (λ (o : Option DslxType). TypesList IsValueAs faults values (λ context. members_found context o [] e.members) (λ context. member_values context o e.members) names w2.rows later t.rest env) bits (t.second (there row)) in
    let found : Found = members_found env (base_if_bits base.ty) [] e.members in
    let all_values : values ≡ member_values env (base_if_bits base.ty) e.members = values_are names w2.rows later.rows values _ u.parts in
    let stays : HasRowIf w2.rows j.ty = row_stays_if w1.rows w2.rows j.ty t.grows row in
    record {
      base = record { row = subst (HasRowIf w2.rows) (sym base_is) stays; ty = ap (type_if names later.rows) base_is ∙ t.first.part.ty };
      values = values_is ∙ all_values;
      faults_are = all_is ∙ adds base.faults found.faults (enum_faults e.span base.ty (member_values env (base_if_bits base.ty) e.members)) t.first.part.faults u.faults_are
          (own_is names later.rows q stays ∙ (λ i. seen (enum_faults e.span (t.first.part.ty i) ((same ∙ all_values) i))))
          ∙ ap seen (enum_breaks env e);
      reaches = reached_both names later.met more t.front t.rest base.reached found.reached t.joined t.first.reaches u.reaches;
    }))

-- ---- as an item

-- what it breaks and reaches
enum_finds : {f : Facts} {item : ℕ} {w0 w1 : WalkShown} (e : Enum) {p : EnumParts} → WalksTo f (outside item) (outside item) w0 w1 (TypesEnum p e)
    → (known : GlobalEnv) (later : WalkShown) → HasTables w1 later → FactsHold f later known → HasKnownRows w0.rows f → w1.missing ≡ [] → (name : Ident) → item_at f item ≡ Some (named_as name (d.Enum e))
    → TypesEnum p e (item_names f) w1.rows later (drop (length w0.reached) w1.reached) (item_type_env known name.name [])
enum_finds {f} {item} {w0} {w1} e {p} g known later has agrees rows none name at = holds_named (TypesEnum p e) g known later has agrees rows none (called f item (named_as name (d.Enum e)) at)

-- one that isn't the first of its name
pub enum_other : {f : Facts} {item : ℕ} {w0 w1 : WalkShown} (is_first : Bool) (e : Enum) {p : EnumParts} {j : ItemSeen} → is_first ≡ false → WalksTo f (outside item) (outside item) w0 w1 (TypesEnum p e) → j.faults ≡ p.faults
    → JudgesItem f w0 w1 item is_first (d.Enum e) j
enum_other {f} {item} {w0} {w1} is_first e {p} {j} other g faults = record {
  grows = walk_item item g.grows;
  postponed = λ missing. g.grows;
  only_found = λ h. g.grows;
  finds = λ known agrees rows none x text at fresh.
      let t = told f item (d.Enum e) x text at in
      subst (λ (y : Definition). FindsAs f w0 w1 j.faults (item_found known y)) (sym t.is) (record {
        faults_are = faults ∙ (enum_finds e g known w1 (tables_refl w1) (agrees w1 (tables_refl w1)) rows none t.name t.at).faults_are;
        reaches = λ later has. (enum_finds e g known later has (agrees later has) rows none t.name t.at).reaches;
      });
  comes = λ known agrees rows none x text at fresh may. absurd (true≢false (sym may.0 ∙ other));
}

-- the value of a member, by its number
member_at_place : {B : Type 0} (name : List ℕ) (of : Member → Option B) (xs : List Member) (k : ℕ) (place : ℕ → Option B) → ((i : ℕ) (x : Member) → slice_get xs i ≡ Some x → place (k + i) ≡ of x)
    → and_then (member_from k name xs) place ≡ and_then (member_named name xs) of
member_at_place name of [] k place h = refl
member_at_place {B} name of (x ∷ xs) k place h = by (bytes_eq name x.name.name) (member_at_place name of xs (k + 1) place (λ i y at. ap place (one_behind i) ∙ h (suc i) y at))
  where
    zero_behind : k ≡ k + 0
    zero_behind = omega arith

    one_behind : (i : ℕ) → (k + 1) + i ≡ k + suc i
    one_behind i = omega arith

    by : (b : Bool) → and_then (member_from (k + 1) name xs) place ≡ and_then (member_named name xs) of → and_then (if b then Some k else member_from (k + 1) name xs) place ≡ and_then (if b then Some x else member_named name xs) of
    by true rest = ap place zero_behind ∙ h 0 x refl
    by false rest = rest

mapped_at : (of : Member → Option DslxValue) (xs : List Member) (i : ℕ) (x : Member) → slice_get xs i ≡ Some x → at_place (map of xs) i ≡ of x
mapped_at of [] i x e = absurd (none-some x e)
mapped_at of (y ∷ ys) zero x e = ap of (same_Some y x e)
mapped_at of (y ∷ ys) (suc i) x e = mapped_at of ys i x e

-- as the enum's
member_as : (t : Option DslxType) (name : List ℕ) (v : Option DslxValue) → member_if (is_some t) name v ≡ and_then t (λ u. and_then v (enum_member name))
member_as None name v = refl
member_as (Some t) name v = refl

named_value : (known : GlobalEnv) (e : Enum) (name : List ℕ) (o : Option Member)
    → and_then o (λ m. and_then (enum_seen known e).ty (λ t. and_then (member_constant (item_type_env known e.name.name []) (base_if_bits (typing_of_type (item_type_env known e.name.name []) e.base).ty) m).value (enum_member e.name.name)))
    ≡ enum_member_value known e name o
named_value known e name None = refl
named_value known e name (Some m) = refl

some_type : (names : ItemNames) (rows : List TypeRow) (t : Option TypeId) → is_some t ≡ is_some (type_if names rows t)
some_type names rows None = refl
some_type names rows (Some t) = refl

mapped_twice : {A B C : Type 0} (g : B → C) (h : A → B) (xs : List A) → map g (map h xs) ≡ map (λ x. g (h x)) xs
mapped_twice g h [] = refl
mapped_twice g h (x ∷ xs) = ap (λ l. g (h x) ∷ l) (mapped_twice g h xs)

members_come : (names : ItemNames) (rows : List TypeRow) (known : GlobalEnv) (e : Enum) (j : ItemSeen) {values : List (Option DslxValue)} → type_if names rows j.named_type ≡ (enum_seen known e).ty
    → j.members.items ≡ map (member_if (is_some j.named_type) e.name.name) values → values ≡ member_values (item_type_env known e.name.name []) (base_if_bits (typing_of_type (item_type_env known e.name.name []) e.base).ty) e.members
    → ComesToMembers known e j
members_come names rows known e j {values} typed members are = λ name.
    let context = item_type_env known e.name.name [] in
    let base = base_if_bits (typing_of_type context e.base).ty in
    let value : Member → Option DslxValue = λ m. (member_constant context base m).value in
    let of : Member → Option DslxValue = λ m. and_then (enum_seen known e).ty (λ t. and_then (value m) (enum_member e.name.name)) in
    let all : j.members.items ≡ map (λ m. member_if (is_some j.named_type) e.name.name (value m)) e.members =
    members ∙ ap (map (member_if (is_some j.named_type) e.name.name)) are ∙ mapped_twice (member_if (is_some j.named_type) e.name.name) value e.members in
    let one : (m : Member) → member_if (is_some j.named_type) e.name.name (value m) ≡ of m =
    λ m. ap (λ b. member_if b e.name.name (value m)) (some_type names rows j.named_type ∙ ap is_some typed) ∙ member_as (enum_seen known e).ty e.name.name (value m) in
    ap (λ (l : List (Option DslxValue)). and_then (member_number name e.members) (λ k. at_place l k)) all
    ∙ member_at_place name of e.members 0 (λ k. at_place (map (λ m. member_if (is_some j.named_type) e.name.name (value m)) e.members) k)
    (λ i x at. ap (λ k. at_place (map (λ m. member_if (is_some j.named_type) e.name.name (value m)) e.members) k) (let from : 0 + i ≡ i = omega arith in from)
    ∙ mapped_at (λ m. member_if (is_some j.named_type) e.name.name (value m)) e.members i x at ∙ one x)
    ∙ named_value known e name (member_named name e.members)

both_then : {A B C : Type 0} (o : Option A) (g : A → Option B) (h : B → Option C) → and_then (and_then o g) h ≡ and_then o (λ a. and_then (g a) h)
both_then None g h = refl
both_then (Some a) g h = refl

-- the first one of its name
pub enum_first : {f : Facts} {item : ℕ} {w0 w1 w2 : WalkShown} (is_first : Bool) (e : Enum) {p : EnumParts} {faults : Faults} {base : Option TypeId} {values : List (Option DslxValue)} {j : ItemSeen} → is_first ≡ true
    → WalksTo f (outside item) (outside item) w0 w1 (TypesEnum p e) → faults ≡ p.faults → base ≡ p.base → values ≡ p.values.items → EnumNamed w1 w2 item e.name.name faults base values j
    → JudgesItem f w0 w2 item is_first (d.Enum e) j
enum_first {f} {item} {w0} {w1} {w2} is_first e {p} {faults} {base} {values} {j} first g faults_as base_as values_as n =
    let names = item_names f in
    let before : (later : WalkShown) → HasTables w2 later → HasTables w1 later = λ later has. tables_trans w1 w2 later n.finds.grows.tables has in
    let none_before : w2.missing ≡ [] → w1.missing ≡ [] = λ none. sym n.finds.same.1 ∙ none in
    let came : (known : GlobalEnv) (later : WalkShown) → HasTables w2 later → FactsHold f later known → HasKnownRows w0.rows f → w2.missing ≡ [] → (name : Ident) → item_at f item ≡ Some (named_as name (d.Enum e))
    → TypesEnum p e names w1.rows later (drop (length w0.reached) w1.reached) (item_type_env known name.name []) =
    λ known later has agrees rows none name at. enum_finds e g known later (before later has) agrees rows (none_before none) name at in
    let typed : (known : GlobalEnv) (later : WalkShown) → HasTables w2 later → FactsHold f later known → HasKnownRows w0.rows f → w2.missing ≡ [] → (name : Ident) → item_at f item ≡ Some (named_as name (d.Enum e))
    → HasNoRow w0.rows item → type_if names later.rows j.named_type ≡ (enum_seen known (record e { name = name })).ty =
    λ known later has agrees rows none name at fresh.
    let t = came known later has agrees rows none name at in
    let env = item_type_env known name.name [] in
    n.finds.is (no_row_stays g.grows fresh) (none_before none) (subst (HasRowIf w1.rows) (sym base_as) t.base.row) names later.rows has.rows
    ∙ (λ i. if ((faults_as ∙ t.faults_are) i).broken then None else and_then (and_then ((ap (type_if names later.rows) base_as ∙ t.base.ty) i) bits_in) (λ kind. Some (ty.Enum (called f item (named_as name (d.Enum e)) at i) kind.signed kind.width)))
    ∙ ap (λ o. if has_broken (faults_of_enum env e) then None else o) (both_then (typing_of_type env e.base).ty bits_in (λ kind. Some (ty.Enum name.name kind.signed kind.width))) in
    record {
      grows = item_after g.grows n.finds.grows;
      postponed = λ missing. grows_trans w0 w1 w2 g.grows (n.postponed missing);
      only_found = λ h. absurd (true≢false (sym first ∙ h));
      finds = λ known agrees rows none x text at fresh.
          let t = told f item (d.Enum e) x text at in
          subst (λ (y : Definition). FindsAs f w0 w2 j.faults (item_found known y)) (sym t.is) (record {
            faults_are = n.faults_are ∙ faults_as ∙ (came known w2 (tables_refl w2) (agrees w2 (tables_refl w2)) rows none t.name t.at).faults_are;
            reaches = λ later has.
                ap (λ (l : List ℕ). instances_at names later.met (drop (length w0.reached) l)) n.finds.same.0 ∙ (came known later has (agrees later has) rows none t.name t.at).reaches;
          });
      comes = λ known agrees rows none x text at fresh may.
          let t = told f item (d.Enum e) x text at in
          let own : Enum = record e { name = t.name } in
          let here = came known w2 (tables_refl w2) (agrees w2 (tables_refl w2)) rows none t.name t.at in
          let name_is : e.name.name ≡ t.name.name = sym may.1 ∙ called f item (named_as t.name (d.Enum e)) t.at in
          subst (λ (y : Definition). ItemComesTo f w2 known y j) (sym t.is) (
            record {
              named = λ later has. typed known later has (agrees later has) rows none t.name t.at fresh;
              row = n.finds.row;
              no_value = n.no_value;
              no_value_type = n.no_value_type;
            },
            members_come names w2.rows known own j (typed known w2 (tables_refl w2) (agrees w2 (tables_refl w2)) rows none t.name t.at fresh)
                (n.members ∙ ap (λ (l : List ℕ). map (member_if (is_some j.named_type) l) values) name_is) (values_as ∙ here.values),
          );
    }

-- where nothing was missing nothing is
pub whole_enum : {E : Type 0} (w0 w1 : WalkShown) (item : ℕ) (faults : Faults) (base : Option TypeId) (r : Result (Option TypeId) E) {b : Bool} → b ≡ (length w0.missing == 0) → b ≡ true → IfOk r (λ t. FindsEnum w0 w1 item faults base t)
    → OnOk r ((w1.missing ≡ [] → ⊥) → WalkGrows w0 w1)
whole_enum w0 w1 item faults base (Ok t) whole is h = λ misses. absurd (misses (h.same.1 ∙ none_of w0.missing whole is))
whole_enum w0 w1 item faults base (Err e) whole is h = tt

-- from its type and its members
pub enum_named : {w0 w1 : WalkShown} {item : ℕ} {name : List ℕ} {faults : Faults} {base : Option TypeId} {values : List (Option DslxValue)} {t : Option TypeId} {j : ItemSeen} → FindsEnum w0 w1 item faults base t → ((w1.missing ≡ [] → ⊥) → WalkGrows w0 w1)
    → j.faults ≡ faults → j.named_type ≡ t → j.members.items ≡ map (member_if (is_some t) name) values → j.value_type ≡ None → j.value ≡ None → EnumNamed w0 w1 item name faults base values j
enum_named {w0} {w1} {item} {name} {faults} {base} {values} {t} {j} finds postponed faults_are type members no_value_type no_value = record {
  finds = subst (FindsEnum w0 w1 item faults base) (sym type) finds;
  postponed = postponed;
  faults_are = faults_are;
  members = members ∙ ap (λ (o : Option TypeId). map (member_if (is_some o) name) values) (sym type);
  no_value = no_value;
  no_value_type = no_value_type;
}

pub named_if : {E : Type 0} {w0 w1 : WalkShown} {item : ℕ} (name : List ℕ) {faults : Faults} {base : Option TypeId} (values : List (Option DslxValue)) {t : Option TypeId} (r : Result ItemSeen E) → FindsEnum w0 w1 item faults base t → ((w1.missing ≡ [] → ⊥) → WalkGrows w0 w1)
    → IfOk r (λ j. (j.faults ≡ faults) × (j.named_type ≡ t)) → IfOk r (λ j. (j.value_type ≡ None) × (j.value ≡ None)) → IfOk r (λ j. j.members.items ≡ map (member_if (is_some t) name) values)
    → IfOk r (λ j. EnumNamed w0 w1 item name faults base values j)
named_if name values (Ok j) finds postponed named nothing members = enum_named finds postponed named.0 named.1 members nothing.0 nothing.1
named_if name values (Err e) finds postponed named nothing members = tt
