-- Loops, and arms of a `match`.
use Rattle.std.proofs.Common.{◌≡◌, ◌∙◌, ◌≤◌, ◌+◌, ◌-◌, ◌++◌, ◌∷◌, ◌&&◌, ◌||◌, [], List, ℕ, zero, suc, Bool, true, false, not, Option, Some, None, length, get_or, nat_lt, is_some, refl, sym, ap, subst, append_assoc, arith, lt-ltb}
use mathlib.Core.Bool.{true≢false}
use Rattle.std.specs.List.{list_all, list_any}
use Rattle.std.specs.Option.{option_map}
use Rattle.std.proofs.lemmas.List.{append-nil}
use Rattle.base.specs.Lists.Prefix.{IsPrefix}
use Rattle.xb_span.specs.declared.span.Span.{Span}
use Rattle.dslx_meaning.specs.Lists.{all_some, last_of, where_true}
use Rattle.dslx_meaning.specs.Types.{same_type}
use Rattle.dslx_meaning.specs.declared.ty.DslxType.{DslxType}
use Rattle.dslx_meaning.specs.Rules.TypeEnvs.{Judgement, plus_size, types_of}
use Rattle.dslx_meaning.specs.Rules.AggregateRules.{first_type_of}
use Rattle.dslx_meaning.specs.Rules.ControlRules.{ArmTyping as ArmSeen, LoopSeen, annotated_type, arm_values, arms_faults, arms_size, differ, first_of_types, has_several, last_is_sure, loop_annotation}
use Rattle.dslx_check_rules.specs.Interned.{ItemNames, type_if}
use Rattle.dslx_check_rules.specs.declared.table.row.TypeId.{TypeId}
use Rattle.dslx_check_rules.specs.declared.table.row.TypeRow.{TypeRow}
use Rattle.dslx_check_rules.specs.declared.typing.Typing.{Typing}
use Rattle.dslx_check_rules.specs.declared.control.control.LoopParts.{LoopParts}
use Rattle.dslx_check_rules.specs.declared.control.matches.ArmTyping.{ArmTyping}
use Rattle.dslx_check_rules.specs.Nodes.Parts.{IsPartIf, Pairs}
use Rattle.dslx_check_rules.specs.Control.Control.{IsLoop, annotated_id, annotated_with, pair_of}
use Rattle.dslx_check_rules.specs.Control.Matches.{AreArms, IsArm, is_like, unlike_first}
use Rattle.dslx_check_rules.proofs.Lemmas.Nodes.Lists.{plus_assoc, plus_nothing, nothing_plus, some_before}
use Rattle.dslx_check_rules.proofs.Lemmas.Nodes.Parts.{constant_stays, part_if_stays, part_stays}

-- ---- loops

pub loop_stays : (names : ItemNames) (old new later : List TypeRow) (parts : LoopParts) (l : LoopSeen) → IsPrefix old new → IsLoop names old later parts l → IsLoop names new later parts l
loop_stays names old new later parts l p is = record {
  from = constant_stays names old new later p parts.from.now l.from is.from;
  to = constant_stays names old new later p parts.to.now l.to is.to;
  written = part_if_stays names old new later p parts.written l.written is.written;
  start = part_stays names old new later p parts.start l.start is.start;
  index = is.index;
  acc = is.acc;
  body = part_stays names old new later p parts.body.typing l.body is.body;
}

pub annotation_is : (span : Span) (w : Option Judgement) (index acc : Option DslxType) → annotated_with span w (pair_of index acc) ≡ loop_annotation span w index acc
annotation_is span None index acc = refl
annotation_is span (Some w) index acc = refl

pub annotated_is : (names : ItemNames) (rows later : List TypeRow) (written : Option Typing) (w : Option Judgement) (start : Option TypeId) (t : Option DslxType)
    → IsPartIf names rows later written w → type_if names later start ≡ t → type_if names later (annotated_id written start) ≡ annotated_type w t
annotated_is names rows later None None start t is e = e
annotated_is names rows later None (Some w) start t is e = absurd is
annotated_is names rows later (Some written) None start t is e = absurd is
annotated_is names rows later (Some written) (Some w) start t is e = is.ty

-- ---- one more arm

or_assoc : (a b c : Bool) → (a || (b || c)) ≡ ((a || b) || c)
or_assoc true b c = refl
or_assoc false b c = refl

and_assoc : (a b c : Bool) → (a && (b && c)) ≡ ((a && b) && c)
and_assoc true b c = refl
and_assoc false b c = refl

and_true : (a : Bool) → (a && true) ≡ a
and_true true = refl
and_true false = refl

or_false : (a : Bool) → (a || false) ≡ a
or_false true = refl
or_false false = refl

pub all_next : {A : Type 0} (f : A → Bool) (as' : List A) (a : A) → list_all f (as' ++ a ∷ []) ≡ (list_all f as' && f a)
all_next f [] a = and_true (f a)
all_next f (b ∷ as') a = ap (λ x. f b && x) (all_next f as' a) ∙ and_assoc (f b) (list_all f as') (f a)

pub any_next : {A : Type 0} (f : A → Bool) (as' : List A) (a : A) → list_any f (as' ++ a ∷ []) ≡ (list_any f as' || f a)
any_next f [] a = or_false (f a)
any_next f (b ∷ as') a = ap (λ x. f b || x) (any_next f as' a) ∙ or_assoc (f b) (list_any f as') (f a)

pub arms_faults_next : (arms : List ArmSeen) (a : ArmSeen) → arms_faults (arms ++ a ∷ []) ≡ arms_faults arms ++ (a.seen.faults ++ a.value.faults)
arms_faults_next [] a = append-nil (a.seen.faults ++ a.value.faults)
arms_faults_next (b ∷ arms) a =
    ap (λ fs. b.seen.faults ++ b.value.faults ++ fs) (arms_faults_next arms a) ∙ sym (append_assoc (b.seen.faults ++ b.value.faults) (arms_faults arms) (a.seen.faults ++ a.value.faults))

pub arms_size_next : (arms : List ArmSeen) (a : ArmSeen) → arms_size (arms ++ a ∷ []) ≡ plus_size (arms_size arms) (plus_size (Some a.seen.size) a.value.size)
arms_size_next [] a = ap (plus_size (Some a.seen.size)) (plus_nothing a.value.size) ∙ sym (nothing_plus (plus_size (Some a.seen.size) a.value.size))
arms_size_next (b ∷ arms) a =
    ap (λ n. plus_size (Some b.seen.size) (plus_size b.value.size n)) (arms_size_next arms a)
    ∙ ap (plus_size (Some b.seen.size)) (plus_assoc b.value.size (arms_size arms) (plus_size (Some a.seen.size) a.value.size))
    ∙ plus_assoc (Some b.seen.size) (plus_size b.value.size (arms_size arms)) (plus_size (Some a.seen.size) a.value.size)

pub arm_types_next : (arms : List ArmSeen) (a : ArmSeen) → types_of (arm_values (arms ++ a ∷ [])) ≡ types_of (arm_values arms) ++ a.value.ty ∷ []
arm_types_next [] a = refl
arm_types_next (b ∷ arms) a = ap (λ ts. b.value.ty ∷ ts) (arm_types_next arms a)

pub several_is : {A : Type 0} (as' : List A) → nat_lt 1 (length as') ≡ has_several as'
several_is [] = refl
several_is (a ∷ []) = refl
several_is (a ∷ b ∷ as') = lt-ltb 1 (suc (suc (length as'))) (omega arith)

-- ---- arms of one type

abbrev Likes : DslxType → List (Option DslxType) → Option (List DslxType) → Type 0
Likes t os None = Unit {0}
Likes t os (Some ts) = list_all (is_like t) os ≡ list_all (same_type t) ts

like_all : (t : DslxType) (os : List (Option DslxType)) → Likes t os (all_some os)
like_all t [] = refl
like_all t (None ∷ os) = tt
like_all t (Some u ∷ os) = subst (Likes t (Some u ∷ os)) (sym (some_before u os)) (by (all_some os) (like_all t os))
  where
    by : (q : Option (List DslxType)) → Likes t os q → Likes t (Some u ∷ os) (option_map (λ more. u ∷ more) q)
    by None h = tt
    by (Some ts) h = ap (λ b. same_type t u && b) h

pub differ_is : (os : List (Option DslxType)) → (is_some (all_some os) && unlike_first os) ≡ differ (all_some os)
differ_is [] = refl
differ_is (None ∷ os) = refl
differ_is (Some t ∷ os) = subst (λ q. (is_some q && not (list_all (is_like t) os)) ≡ differ q) (sym (some_before t os)) (by (all_some os) (like_all t os))
  where
    by : (q : Option (List DslxType)) → Likes t os q
        → (is_some (option_map (λ more. t ∷ more) q) && not (list_all (is_like t) os)) ≡ differ (option_map (λ more. t ∷ more) q)
    by None h = refl
    by (Some ts) h = ap not h

first_is : (os : List (Option DslxType)) → is_some (all_some os) ≡ true → first_type_of os ≡ first_of_types (all_some os)
first_is [] e = refl
first_is (None ∷ os) e = absurd (true≢false (sym e))
first_is (Some t ∷ os) e =
    subst (λ q. is_some q ≡ true → Some t ≡ first_of_types q) (sym (some_before t os)) (by (all_some os)) e
  where
    by : (q : Option (List DslxType)) → is_some (option_map (λ more. t ∷ more) q) ≡ true → Some t ≡ first_of_types (option_map (λ more. t ∷ more) q)
    by None e = absurd (true≢false (sym e))
    by (Some ts) e = refl

pub common_there : (known typed : Bool) (os : List (Option DslxType)) (t : Option DslxType) → typed ≡ is_some (all_some os) → t ≡ first_type_of os → (known && typed) ≡ true
    → t ≡ where_true known (first_of_types (all_some os))
common_there true typed os t e is both = is ∙ first_is os (sym e ∙ both)
common_there false typed os t e is both = absurd (true≢false (sym both))

pub no_common : (known typed : Bool) (os : List (Option DslxType)) → typed ≡ is_some (all_some os) → (known && typed) ≡ false → None ≡ where_true known (first_of_types (all_some os))
no_common true typed os e both = by (all_some os) (sym e ∙ both)
  where
    by : (q : Option (List DslxType)) → is_some q ≡ false → None ≡ first_of_types q
    by None h = refl
    by (Some ts) h = absurd (true≢false h)
no_common false typed os e both = refl

-- ---- the last arm

last_at : {A B : Type 0} (R : A → B → Type 0) (as' : List A) (bs : List B) (k : ℕ) (d : A) → Pairs R as' bs → k + 1 ≡ length as' → (b : B) × (last_of bs ≡ Some b) × R (get_or as' k d) b
last_at R [] bs k d p h = absurd (omega (arith, h))
last_at R (a ∷ as') [] k d p h = absurd p
last_at R (a ∷ []) (b ∷ []) zero d p h = (b, refl, p.0)
last_at R (a ∷ []) (b ∷ []) (suc k) d p h = absurd (omega (arith, h))
last_at R (a ∷ []) (b ∷ c ∷ bs) k d p h = absurd p.1
last_at R (a ∷ a' ∷ as') (b ∷ []) k d p h = absurd p.1
last_at R (a ∷ a' ∷ as') (b ∷ c ∷ bs) zero d p h = absurd (omega (arith, h))
last_at R (a ∷ a' ∷ as') (b ∷ c ∷ bs) (suc k) d p h = last_at R (a' ∷ as') (c ∷ bs) k d p.1 (omega (arith, h))

pub sure_last : (names : ItemNames) (rows later : List TypeRow) (arms : List ArmTyping) (xs : List ArmSeen) (d : ArmTyping) → AreArms names rows later arms xs → 1 ≤ length arms
    → (get_or arms (length arms - 1) d).alternatives.is_sure ≡ last_is_sure (last_of xs)
sure_last names rows later arms xs d p h =
    let q = last_at (IsArm names rows later) arms xs (length arms - 1) d p (omega (arith, h)) in q.2.alternatives.sure ∙ ap last_is_sure (sym q.1)
