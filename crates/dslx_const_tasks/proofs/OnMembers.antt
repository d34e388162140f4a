-- Members of enums by name and by number.
use Rattle.std.proofs.Common.{◌≡◌, ◌∙◌, ◌+◌, ◌<◌, ℕ, suc, Bool, true, false, List, ◌∷◌, drop, length, get_or, Option, Some, sym, ap, arith}
use Rattle.std.specs.Prelude.{if◌then◌else◌}
use Rattle.std.specs.Str.{bytes_eq}
use Rattle.std.proofs.Math.Seq.{drop-cons}
use Rattle.dslx_tree.specs.declared.item.Member.{Member}
use Rattle.dslx_const_tasks.specs.Values.{member_from}

-- the member at a place
at_member : (ms : List Member) (i : ℕ) (m : Member) (name : List ℕ) (b : Bool) → i < length ms → m ≡ get_or ms i m → bytes_eq name m.name.name ≡ b
    → member_from i name (drop i ms) ≡ (if b then Some i else member_from (i + 1) name (drop (suc i) ms))
at_member ms i m name b within is e =
    ap (member_from i name) (drop-cons ms i m within ∙ ap (λ x. x ∷ drop (suc i) ms) (sym is)) ∙ ap (λ t. if t then Some i else member_from (i + 1) name (drop (suc i) ms)) e

pub found_here : (ms : List Member) (i : ℕ) (m : Member) (name : List ℕ) → i < length ms → m ≡ get_or ms i m → bytes_eq name m.name.name ≡ true → member_from i name (drop i ms) ≡ Some i
found_here ms i m name within is e = at_member ms i m name true within is e

pub passed_here : (ms : List Member) (i : ℕ) (m : Member) (name : List ℕ) → i < length ms → m ≡ get_or ms i m → bytes_eq name m.name.name ≡ false
    → member_from i name (drop i ms) ≡ member_from (i + 1) name (drop (i + 1) ms)
passed_here ms i m name within is e = let next : suc i ≡ i + 1 = omega arith in at_member ms i m name false within is e ∙ ap (λ j. member_from (i + 1) name (drop j ms)) next
