-- Names in lists.
use Rattle.std.proofs.Common.{◌≡◌, ◌∙◌, ◌∷◌, ◌||◌, ℕ, Bool, true, false, List, Option, Some, None, is_some, refl, ap}
use Rattle.std.specs.Prelude.{if◌then◌else◌}
use Rattle.std.specs.Str.{bytes_eq}
use Rattle.dslx_tree.specs.declared.ident.Ident.{Ident}
use Rattle.dslx_meaning.specs.Callees.{is_own_name}
use Rattle.dslx_meaning.specs.Lists.{is_in}
use Rattle.dslx_meaning.specs.Rules.NameRules.{listed_name}
use Rattle.dslx_meaning.specs.Rules.RuleNumbers as rule
use Rattle.dslx_meaning.specs.Rules.TypeEnvs.{breaks_if}
use Rattle.dslx_check_rules.specs.declared.faults.Faults.{Faults}
use Rattle.dslx_check_rules.specs.Seen.{seen}

put_by : {V : Type 0} (b : Bool) (v : V) (rest : Option V) (r : Bool) → is_some rest ≡ r → is_some (if b then Some v else rest) ≡ (if b then true else r)
put_by true v rest r e = refl
put_by false v rest r e = e

-- a table in which one name more stands for something
pub one_more : {V : Type 0} (old new : List ℕ → Option V) (name : List ℕ) (v : V) (before : List (List ℕ)) → ((n : List ℕ) → new n ≡ (if bytes_eq n name then Some v else old n))
    → ((n : List ℕ) → is_some (old n) ≡ is_in n before) → (n : List ℕ) → is_some (new n) ≡ is_in n (name ∷ before)
one_more old new name v before put h n = ap is_some (put n) ∙ put_by (bytes_eq n name) v (old n) (is_in n before) (h n)

pub taken : (ident : Ident) (before : List (List ℕ)) (is_before is_taken own : Bool) (faults : Faults) → is_before ≡ is_in ident.name before → own ≡ is_own_name ident.name → is_taken ≡ (own || is_before)
    → faults ≡ seen (breaks_if is_taken rule.NAME_STANDS_ONCE ident.span) → faults ≡ seen (listed_name before ident)
taken ident before is_before is_taken own faults e mine is found =
    found ∙ ap (λ b. seen (breaks_if b rule.NAME_STANDS_ONCE ident.span)) (is ∙ (λ i. mine i || e i))
