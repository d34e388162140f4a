-- Members by their numbers.
use Rattle.std.proofs.Common.{◌≡◌, ◌∙◌, ℕ, suc, Bool, true, false, List, [], ◌∷◌, Option, Some, None, refl, ap, slice_get, arith}
use Rattle.std.specs.Prelude.{if◌then◌else◌, ◌+◌}
use Rattle.std.specs.Str.{bytes_eq}
use Rattle.dslx_tree.specs.declared.process.End.{End}
use Rattle.dslx_meaning.specs.Lists.{and_then, index_in}
use Rattle.dslx_core.specs.Lowering.CoreScopes.{CoreScope}
use Rattle.dslx_core.specs.Lowering.Steps.{CoreMember, end_names, member_in}
use Rattle.dslx_config.specs.Members.Members.{numbered_member}

-- the first of a name among those from this number on
abbrev pub member_from : CoreScope → List ℕ → ℕ → List End → Option CoreMember
member_from outer name n [] = None
member_from outer name n (e ∷ es) = if bytes_eq name e.name.name then numbered_member outer n e else member_from outer name (suc n) es

abbrev found_at : CoreScope → ℕ → List End → ℕ → Option CoreMember
found_at outer n ends k = and_then (slice_get ends k) (numbered_member outer (n + k))

one_less : (outer : CoreScope) (n : ℕ) (e : End) (es : List End) (o : Option ℕ)
    → and_then (elim o as (λ x. Option ℕ) [ None ↦ None | Some j ↦ Some (suc j) ]) (found_at outer n (e ∷ es)) ≡ and_then o (found_at outer (suc n) es)
one_less outer n e es None = refl
one_less outer n e es (Some j) = ap (λ k. and_then (slice_get es j) (numbered_member outer k)) moved
  where
    moved : n + suc j ≡ suc n + j
    moved = omega arith

from : (outer : CoreScope) (name : List ℕ) (n : ℕ) (ends : List End) → and_then (index_in name (end_names ends)) (found_at outer n ends) ≡ member_from outer name n ends
from outer name n [] = refl
from outer name n (e ∷ es) = by (bytes_eq name e.name.name) (from outer name (suc n) es)
  where
    here : n + 0 ≡ n
    here = omega arith

    by : (b : Bool) → and_then (index_in name (end_names es)) (found_at outer (suc n) es) ≡ member_from outer name (suc n) es
        → and_then (if b then Some 0 else (elim (index_in name (end_names es)) as (λ x. Option ℕ) [ None ↦ None | Some j ↦ Some (suc j) ])) (found_at outer n (e ∷ es))
        ≡ (if b then numbered_member outer n e else member_from outer name (suc n) es)
    by true rest = ap (λ k. numbered_member outer k e) here
    by false rest = one_less outer n e es (index_in name (end_names es)) ∙ rest

pub from_zero : (outer : CoreScope) (ends : List End) (name : List ℕ) → member_in outer ends name ≡ member_from outer name 0 ends
from_zero outer ends name = (λ i. and_then (index_in name (end_names ends)) (λ k. and_then (slice_get ends k) (numbered_member outer (plain k i)))) ∙ from outer name 0 ends
  where
    plain : (k : ℕ) → k ≡ 0 + k
    plain k = omega arith
