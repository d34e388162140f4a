-- Members of enums by name and by number.
use Rattle.std.proofs.Common.{◌≡◌, ◌∙◌, ◌+◌, ◌<◌, ℕ, suc, Bool, true, false, List, [], ◌∷◌, map, drop, length, get_or, Option, Some, None, refl, sym, ap, arith}
use Rattle.std.specs.Prelude.{is_some, if◌then◌else◌}
use Rattle.std.specs.Str.{bytes_eq}
use Rattle.std.proofs.Math.Seq.{drop-cons}
use Rattle.dslx_tree.specs.declared.item.Enum.{Enum}
use Rattle.dslx_tree.specs.declared.item.Member.{Member}
use Rattle.dslx_meaning.specs.Lists.{is_in}
use Rattle.dslx_meaning.specs.Rules.NameRules.{has_member}
use Rattle.dslx_check_facts.specs.Known.{member_from, member_number}

by_test : (b : Bool) (k : ℕ) (rest : Option ℕ) (found : Bool) → is_some rest ≡ found → is_some (if b then Some k else rest) ≡ (if b then true else found)
by_test true k rest found e = refl
by_test false k rest found e = e

some_where_in : (k : ℕ) (name : List ℕ) (ms : List Member) → is_some (member_from k name ms) ≡ is_in name (map (λ (m : Member). m.name.name) ms)
some_where_in k name [] = refl
some_where_in k name (m ∷ ms) = by_test (bytes_eq name m.name.name) k (member_from (k + 1) name ms) (is_in name (map (λ (m : Member). m.name.name) ms)) (some_where_in (k + 1) name ms)

pub has_where_numbered : (e : Enum) (name : List ℕ) (k : ℕ) → member_number name e.members ≡ Some k → true ≡ has_member e name
has_where_numbered e name k is = sym (ap is_some is) ∙ some_where_in 0 name e.members

pub lacks_where_not_numbered : (e : Enum) (name : List ℕ) → member_number name e.members ≡ None → false ≡ has_member e name
lacks_where_not_numbered e name is = sym (ap is_some is) ∙ some_where_in 0 name e.members

-- the member at a place
at_member : (ms : List Member) (i : ℕ) (m : Member) (name : List ℕ) (b : Bool) → i < length ms → m ≡ get_or ms i m → bytes_eq name m.name.name ≡ b
    → member_from i name (drop i ms) ≡ (if b then Some i else member_from (i + 1) name (drop (suc i) ms))
at_member ms i m name b within is e =
    ap (member_from i name) (drop-cons ms i m within ∙ ap (λ x. x ∷ drop (suc i) ms) (sym is)) ∙ ap (λ t. if t then Some i else member_from (i + 1) name (drop (suc i) ms)) e

pub found_here : (ms : List Member) (i : ℕ) (m : Member) (name : List ℕ) → i < length ms → m ≡ get_or ms i m → bytes_eq name m.name.name ≡ true → member_from i name (drop i ms) ≡ Some i
found_here ms i m name within is e = at_member ms i m name true within is e

pub passed_here : (ms : List Member) (i : ℕ) (m : Member) (name : List ℕ) → i < length ms → m ≡ get_or ms i m → bytes_eq name m.name.name ≡ false
    → member_from i name (drop i ms) ≡ member_from (i + 1) name (drop (i + 1) ms)
passed_here ms i m name within is e = let next : suc i ≡ i + 1 = omega arith in at_member ms i m name false within is e ∙ ap (λ j. member_from (i + 1) name (drop j ms)) next
