-- Ends of procs, and what a `config` makes of them.
use Rattle.std.proofs.Common.{◌≡◌, ◌∙◌, ◌++◌, ◌&&◌, ◌<◌, ◌≤◌, ◌+◌, ◌-◌, ℕ, zero, suc, Bool, true, false, not, List, [], ◌∷◌, Option, Some, None, map, length, drop, get_or, slice_get, arith, refl, sym, ap, subst}
use Rattle.std.specs.Prelude.{if◌then◌else◌}
use Rattle.std.specs.Str.{bytes_eq}
use Rattle.std.proofs.lemmas.List.{drop_all, drop_more}
use Rattle.std.proofs.lemmas.Option.{none-some, same_Some}
use mathlib.Core.Bool.{true≢false}
use Rattle.base.specs.Lists.Prefix.{IsPrefix}
use Rattle.base.specs.NameTable.Found.{found}
use Rattle.xb_span.specs.declared.fault.Fault.{Fault}
use Rattle.dslx_tree.specs.declared.ident.Ident.{Ident}
use Rattle.dslx_tree.specs.declared.process.End.{End}
use Rattle.dslx_tree.specs.declared.process.Proc.{Proc}
use Rattle.dslx_meaning.specs.Rules.CallRules.{channel_end_in}
use Rattle.dslx_meaning.specs.Rules.ProcRules as the
use Rattle.dslx_meaning.specs.Rules.RuleNumbers as rule
use Rattle.dslx_meaning.specs.Rules.TypeEnvs.{ChannelEnd, TypeEnv, breaks_if}
use Rattle.dslx_check_rules.specs.declared.faults.Faults.{Faults}
use Rattle.dslx_check_rules.specs.declared.table.row.TypeRow.{TypeRow}
use Rattle.dslx_check_rules.specs.Interned.{AreDistinct, ItemNames}
use Rattle.dslx_check_rules.specs.Seen.{seen}
use Rattle.dslx_check_rules.specs.Nodes.Parts.{Pairs}
use Rattle.dslx_check_facts.specs.Bound.{bound_names}
use Rattle.dslx_check_facts.specs.declared.type_env.MemberEnd.{MemberEnd}
use Rattle.dslx_check_facts.specs.declared.type_env.TypeEnv.{TypeEnv as CodeEnv}
use Rattle.dslx_check_declarations.specs.declared.config.Made.{Made}
use Rattle.dslx_check_declarations.specs.declared.ends.NamedEnd.{NamedEnd}
use Rattle.dslx_check_declarations.specs.Config.{AddsEnd, AreMeant, AreUsed, MeansEnds, UsesNames, all_once}
use Rattle.dslx_check_declarations.specs.Ends.{IsEndNamed, IsNamed}
use Rattle.dslx_check_declarations.specs.Procs.{AddsEnds, ConfigEnds, are_members, end_bound, first_end, is_member_of, member_bound, result_faults}

-- ---- the last so many of a list

pub from_end : {A : Type 0} (xs : List A) (count i m : ℕ) (x : A) → count ≡ length xs → i < count → m ≡ count - 1 - i → x ≡ get_or xs m x → drop (count - (i + 1)) xs ≡ x ∷ drop (count - i) xs
from_end xs count i m x long within at is =
    let here : count - (i + 1) ≡ m = omega (arith, within, at) in
    let next : m + 1 ≡ count - i = omega (arith, long, within, at) in
    ap (λ k. drop k xs) here ∙ drop_more xs m x (omega (arith, long, within, at)) ∙ (λ j. sym is j ∷ drop (next j) xs)

pub all_from_end : {A : Type 0} (xs : List A) (count i : ℕ) → count ≤ i → drop (count - i) xs ≡ xs
all_from_end xs count i past = ap (λ k. drop k xs) (let z : count - i ≡ 0 = omega (arith, past) in z)

-- ---- ends that are declared

pub no_ends : (s : CodeEnv) (made : Made) → AddsEnds s s made made []
no_ends s made = record { scope = refl; meant = λ name. refl; rest = refl }

pub one_end : {s0 s1 : CodeEnv} {m0 m1 : Made} (e : NamedEnd) → s1 ≡ record s0 { ends = (e.name.now, tt) ∷ s0.ends } → AddsEnd m0 m1 e → AddsEnds s0 s1 m0 m1 (e ∷ [])
one_end e scope h = record { scope = scope; meant = h.meant; rest = h.rest }

pub end_before : {s0 s1 s2 : CodeEnv} {m0 m1 m2 : Made} (e : NamedEnd) (es : List NamedEnd) → AddsEnds s0 s1 m0 m1 es → AddsEnds s1 s2 m1 m2 (e ∷ []) → AddsEnds s0 s2 m0 m2 (e ∷ es)
end_before {s0} {s1} {s2} {m0} {m1} {m2} e es g h = record {
  scope = h.scope ∙ ap (λ (s : CodeEnv). record s { ends = end_bound e ∷ s.ends }) g.scope;
  meant = λ name. h.meant name ∙ ap (λ (o : Option MemberEnd). if bytes_eq name e.name.now then Some e.end else o) (g.meant name);
  rest = h.rest ∙ ap (λ (m : Made). record m { meant = m2.meant }) g.rest;
}

-- ---- members

pub member_before : (s0 s1 s2 : CodeEnv) (e : NamedEnd) (es : List NamedEnd) → s1 ≡ record s0 { members = map member_bound es ++ s0.members } → s2 ≡ record s1 { members = member_bound e ∷ s1.members }
    → s2 ≡ record s0 { members = map member_bound (e ∷ es) ++ s0.members }
member_before s0 s1 s2 e es g h = h ∙ ap (λ (s : CodeEnv). record s { members = member_bound e ∷ s.members }) g

-- ---- the tuple

pub not_as_many : (m : the.Made) (os : List ChannelEnd) (is : List Ident) → (length os ≡ length is → ⊥) → false ≡ are_members m os is
not_as_many m [] [] n = absurd (n refl)
not_as_many m [] (i ∷ is) n = refl
not_as_many m (o ∷ os) [] n = refl
not_as_many m (o ∷ os) (i ∷ is) n = by (is_member_of m o i) ∙ ap (λ b. is_member_of m o i && b) (not_as_many m os is (λ e. n (ap suc e)))
  where
    by : (b : Bool) → false ≡ (b && false)
    by true = refl
    by false = refl

step_by : (m : the.Made) (os : List ChannelEnd) (is : List Ident) (i : ℕ) (o : ChannelEnd) (x : Ident) → slice_get os i ≡ Some o → i < length is → x ≡ get_or is i x
    → are_members m (drop i os) (drop i is) ≡ (is_member_of m o x && are_members m (drop (suc i) os) (drop (suc i) is))
step_by m [] is i o x e h at = absurd (none-some o e)
step_by m (p ∷ os) [] i o x e h at = absurd (omega (arith, h))
step_by m (p ∷ os) (y ∷ is) zero o x e h at = λ j. is_member_of m (same_Some p o e j) (sym at j) && are_members m os is
step_by m (p ∷ os) (y ∷ is) (suc i) o x e h at = step_by m os is i o x e (omega (arith, h)) at

pub member_step : (m : the.Made) (os : List ChannelEnd) (is : List Ident) (i : ℕ) (o : ChannelEnd) (x : Ident) → slice_get os i ≡ Some o → i < length is → x ≡ get_or is i x
    → are_members m (drop i os) (drop i is) ≡ (is_member_of m o x && are_members m (drop (i + 1) os) (drop (i + 1) is))
member_step m os is i o x e h at = step_by m os is i o x e h at ∙ ap (λ k. is_member_of m o x && are_members m (drop k os) (drop k is)) (let on : suc i ≡ i + 1 = omega arith in on)

pub no_member_left : (m : the.Made) (os : List ChannelEnd) (is : List Ident) (i : ℕ) → length os ≤ i → length is ≤ i → true ≡ are_members m (drop i os) (drop i is)
no_member_left m os is i h k = sym (λ j. are_members m (drop_all i os h j) (drop_all i is k j))

members_are : (m : the.Made) (env : TypeEnv) (es : List End) (is : List Ident) → are_members m (map (the.channel_end_of env) es) is ≡ the.is_members env es is m
members_are m env [] [] = refl
members_are m env [] (i ∷ is) = refl
members_are m env (e ∷ es) [] = refl
members_are m env (e ∷ es) (i ∷ is) = ap (λ b. is_member_of m (the.channel_end_of env e) i && b) (members_are m env es is)

-- what the tuple breaks
ends_by : {rows : List TypeRow} {s : CodeEnv} {m0 m1 : Made} {unknown own all : Faults} {are_used right is_right : Bool} {members : List NamedEnd} (p : Proc)
    → ((names : List (List ℕ)) → AreMeant m0 names → unknown ≡ seen (the.unknown_ends names p.config.result)) → UsesNames m0 m1 (the.ident_names p.config.result)
    → ((used : List (List ℕ)) → AreUsed m1 used → are_used ≡ all_once used (bound_names s.ends))
    → ((names : ItemNames) (later : List TypeRow) (m : the.Made) (os : List ChannelEnd) → AreDistinct names → IsPrefix rows later → MeansEnds names rows later m1 m → Pairs (IsNamed names rows later) members os
    → right ≡ are_members m os p.config.result)
    → is_right ≡ (are_used && right) → own ≡ seen (breaks_if (not is_right) rule.CONFIG_USES_EACH_END p.config.span)
    → ((fs gs : List Fault) → unknown ≡ seen fs → own ≡ seen gs → all ≡ seen (fs ++ gs)) → ConfigEnds rows s m0 p members all
ends_by {rows} {s} {m0} {m1} {unknown} {own} {all} {are_used} {right} {is_right} {members} p unknown_is uses used_is right_is is own_is adds = record {
  is = λ names later env m used distinct grows means so_far scope meant named.
      let result = p.config.result in
      let U = the.unknown_ends m.names result in
      let later_means : MeansEnds names rows later m1 m = λ name. subst (λ (x : Made). IsEndNamed names rows later (found x.meant name) (channel_end_in name m.channel_ends)) (sym uses.rest) (means name) in
      let once : are_used ≡ all_once (used ++ the.ident_names result) m.names = used_is (used ++ the.ident_names result) (uses.used used so_far) ∙ ap (all_once (used ++ the.ident_names result)) scope in
      let fits : right ≡ the.is_members env p.members result m = right_is names later m (map (the.channel_end_of env) p.members) distinct grows later_means named ∙ members_are m env p.members result in
      adds U (breaks_if (not (all_once (used ++ the.ident_names result) m.names && the.is_members env p.members result m)) rule.CONFIG_USES_EACH_END p.config.span)
      (unknown_is m.names meant)
      (own_is ∙ ap (λ b. seen (breaks_if (not b) rule.CONFIG_USES_EACH_END p.config.span)) (is ∙ (λ i. once i && fits i)));
}

-- the tuple by a slice of it
pub ends_are : {rows : List TypeRow} {s : CodeEnv} {m0 m1 : Made} {unknown own all : Faults} {are_used right is_right : Bool} {members : List NamedEnd} (p : Proc) (idents : List Ident) → idents ≡ p.config.result
    → ((names : List (List ℕ)) → AreMeant m0 names → unknown ≡ seen (the.unknown_ends names idents)) → UsesNames m0 m1 (the.ident_names idents)
    → ((used : List (List ℕ)) → AreUsed m1 used → are_used ≡ all_once used (bound_names s.ends))
    → ((names : ItemNames) (later : List TypeRow) (m : the.Made) (os : List ChannelEnd) → AreDistinct names → IsPrefix rows later → MeansEnds names rows later m1 m → Pairs (IsNamed names rows later) members os
    → right ≡ are_members m os idents)
    → is_right ≡ (are_used && right) → own ≡ seen (breaks_if (not is_right) rule.CONFIG_USES_EACH_END p.config.span)
    → ((fs gs : List Fault) → unknown ≡ seen fs → own ≡ seen gs → all ≡ seen (fs ++ gs)) → ConfigEnds rows s m0 p members all
ends_are {rows} {s} {m0} {m1} {unknown} {own} {all} {are_used} {right} {is_right} {members} p idents same unknown_is uses used_is right_is is own_is adds =
    ends_by p (λ names meant. unknown_is names meant ∙ ap (λ l. seen (the.unknown_ends names l)) same) (subst (λ (l : List Ident). UsesNames m0 m1 (the.ident_names l)) same uses) used_is
    (λ names later m os distinct grows means named. right_is names later m os distinct grows means named ∙ ap (are_members m os) same) is own_is adds
