-- What stands for a name in a type environment, as code has it and by the definitions.
use Rattle.std.proofs.Common.{◌≡◌, ◌∙◌, ℕ, Bool, true, false, List, [], ◌∷◌, map, Option, Some, None, refl, sym, ap, subst, if◌then◌else◌}
use Rattle.std.specs.List.{AllByRecursion}
use Rattle.std.specs.Option.{option_map}
use Rattle.std.specs.Str.{bytes_eq}
use Rattle.std.proofs.lemmas.Option.{none-some, same_Some}
use Rattle.std.proofs.lemmas.Slice.Eq.{bytes_eq-Decides}
use Rattle.dslx_meaning.specs.Lists.{is_in}
use Rattle.dslx_meaning.specs.Environment.{Given, given_in}
use Rattle.dslx_meaning.specs.declared.value.DslxValue.{DslxValue}
use Rattle.dslx_meaning.specs.declared.ty.DslxType.{DslxType}
use Rattle.dslx_meaning.specs.Rules.CallRules.{channel_end_in}
use Rattle.dslx_meaning.specs.Rules.TypeEnvs.{ChannelEnd, Typed, typed_in}
use Rattle.dslx_check_rules.specs.declared.table.row.TypeId.{TypeId}
use Rattle.dslx_check_rules.specs.declared.table.row.TypeRow.{TypeRow}
use Rattle.dslx_check_rules.specs.Interned.{ItemNames, type_if}
use Rattle.dslx_check_facts.specs.Bound.{bound_in, bound_names}
use Rattle.dslx_check_facts.specs.TypeEnvs.{end_of, given_of, typed_of}
use Rattle.dslx_check_facts.specs.declared.type_env.MemberEnd.{MemberEnd}
use Rattle.dslx_check_facts.specs.declared.type_env.ParametricArg.{ParametricArg}

-- what is so of all that is bound is so of what a name stands for
all_by : {T : Type 0} (P : T → Type 0) (t : Bool) (first : T) (rest : Option T) (x : T) → (if t then Some first else rest) ≡ Some x → P first → (rest ≡ Some x → P x) → P x
all_by P true first rest x e own behind = subst P (same_Some first x e) own
all_by P false first rest x e own behind = behind e

pub bound_all : {T : Type 0} (P : T → Type 0) (name : List ℕ) (bs : List (List ℕ × T)) (x : T) → AllByRecursion (λ b. P b.1) bs → bound_in name bs ≡ Some x → P x
bound_all P name [] x all e = absurd (none-some x e)
bound_all P name (b ∷ bs) x all e = all_by P (bytes_eq name b.0) b.1 (bound_in name bs) x e all.0 (bound_all P name bs x all.1)

-- ---- bound names

typed_by : (b : Bool) (names : ItemNames) (rows : List TypeRow) (ty : Option TypeId) (found : Option (Option DslxType)) (rest : Option (Option TypeId))
    → found ≡ option_map (type_if names rows) rest → (if b then Some (type_if names rows ty) else found) ≡ option_map (type_if names rows) (if b then Some ty else rest)
typed_by true names rows ty found rest e = refl
typed_by false names rows ty found rest e = e

pub typed_found : (names : ItemNames) (rows : List TypeRow) (name : List ℕ) (ls : List (List ℕ × Option TypeId))
    → typed_in name (map (typed_of names rows) ls) ≡ option_map (type_if names rows) (bound_in name ls)
typed_found names rows name [] = refl
typed_found names rows name (l ∷ ls) = typed_by (bytes_eq name l.0) names rows l.1 (typed_in name (map (typed_of names rows) ls)) (bound_in name ls) (typed_found names rows name ls)

-- ---- parametrics

given_by : (b : Bool) (a : ParametricArg) (found : Option DslxValue) (rest : Option ParametricArg) → found ≡ option_map (λ (a : ParametricArg). a.value) rest
    → (if b then Some a.value else found) ≡ option_map (λ (a : ParametricArg). a.value) (if b then Some a else rest)
given_by true a found rest e = refl
given_by false a found rest e = e

pub given_found : (name : List ℕ) (as' : List (List ℕ × ParametricArg)) → given_in name (map given_of as') ≡ option_map (λ (a : ParametricArg). a.value) (bound_in name as')
given_found name [] = refl
given_found name (a ∷ as') = given_by (bytes_eq name a.0) a.1 (given_in name (map given_of as')) (bound_in name as') (given_found name as')

-- ---- members

end_by : (names : ItemNames) (rows : List TypeRow) (name : List ℕ) (m : List ℕ × MemberEnd) (b : Bool) (found : Option ChannelEnd) (rest : Option MemberEnd) → bytes_eq name m.0 ≡ b
    → found ≡ option_map (λ (m : MemberEnd). end_of names rows (name, m)) rest
    → (if b then Some (end_of names rows m) else found) ≡ option_map (λ (m : MemberEnd). end_of names rows (name, m)) (if b then Some m.1 else rest)
end_by names rows name m true found rest e is = ap (λ n. Some (end_of names rows (n, m.1))) (sym ((bytes_eq-Decides name m.0).0 e))
end_by names rows name m false found rest e is = is

pub end_found : (names : ItemNames) (rows : List TypeRow) (name : List ℕ) (ms : List (List ℕ × MemberEnd))
    → channel_end_in name (map (end_of names rows) ms) ≡ option_map (λ (m : MemberEnd). end_of names rows (name, m)) (bound_in name ms)
end_found names rows name [] = refl
end_found names rows name (m ∷ ms) =
    end_by names rows name m (bytes_eq name m.0) (channel_end_in name (map (end_of names rows) ms)) (bound_in name ms) refl (end_found names rows name ms)
