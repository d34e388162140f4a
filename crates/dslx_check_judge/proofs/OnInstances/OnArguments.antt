-- Arguments of functions.
use Rattle.std.proofs.Common.{◌≡◌, ◌∙◌, ◌++◌, ◌≤◌, ◌+◌, ℕ, zero, suc, List, [], ◌∷◌, Option, map, length, take, arith, refl, sym, ap, Some, slice_get}
use Rattle.std.specs.List.{AllByRecursion}
use Rattle.std.proofs.lemmas.Option.{none-some, same_Some}
use Rattle.dslx_tree.specs.declared.item.Field.{Field}
use Rattle.dslx_meaning.specs.Items.{name_of_field}
use Rattle.dslx_meaning.specs.declared.ty.DslxType.{DslxType}
use Rattle.dslx_meaning.specs.Rules.ItemRules.{and_found, arguments_found, arguments_typed, found_in, only_faults, typing_of_inner}
use Rattle.dslx_meaning.specs.Rules.NameRules.{local_name}
use Rattle.dslx_meaning.specs.Rules.TypeEnvs.{TypeEnv}
use Rattle.dslx_check_rules.specs.declared.table.row.TypeId.{TypeId}
use Rattle.dslx_check_rules.specs.declared.table.row.TypeRow.{TypeRow}
use Rattle.dslx_check_rules.specs.Interned.{HasRowIf, ItemNames}
use Rattle.dslx_check_facts.specs.TypeEnvs.{typed_of}
use Rattle.dslx_check_rules.specs.Nodes.Parts.{Pairs}
use Rattle.dslx_check_leaves.specs.Walked.{PatternNames}
use Rattle.dslx_check_judge.specs.Items.Lists.{IsTypeAs, found_listed, inner_types_of}
use Rattle.dslx_check_judge.proofs.Lemmas.Items.OnLists.{Parts}
use Rattle.dslx_check_judge.specs.Instances.Inner.Arguments.{bound_behind}

abbrev pub arguments : Parts Field (Option DslxType)
arguments = record {
  name = name_of_field;
  taken = λ env before x. local_name env before x.name;
  part = λ env x. found_in (typing_of_inner env x.ty);
  value = λ env x. (typing_of_inner env x.ty).ty;
}

pub arguments_are : (env : TypeEnv) (before : List (List ℕ)) (xs : List Field) → arguments_found env before xs ≡ found_listed arguments.name (arguments.taken env) (arguments.part env) before xs
arguments_are env before [] = refl
arguments_are env before (x ∷ xs) = ap (λ l. and_found (only_faults (local_name env before x.name)) (and_found (found_in (typing_of_inner env x.ty)) l)) (arguments_are env (x.name.name ∷ before) xs)

-- ---- arguments in scope

bound_with : (so_far : PatternNames) (xs : List Field) (ts : List (Option TypeId)) (x : Field) (t : Option TypeId) → length xs ≡ length ts
    → bound_behind so_far (xs ++ x ∷ []) (ts ++ t ∷ []) ≡ (x.name.name, t) ∷ bound_behind so_far xs ts
bound_with so_far [] [] x t e = refl
bound_with so_far [] (u ∷ ts) x t e = absurd (omega (arith, e))
bound_with so_far (y ∷ xs) [] x t e = absurd (omega (arith, e))
bound_with so_far (y ∷ xs) (u ∷ ts) x t e = bound_with ((y.name.name, u) ∷ so_far) xs ts x t (let shorter : length xs ≡ length ts = omega (arith, e) in shorter)

-- as they are typed by the definitions
pub arguments_bound : (names : ItemNames) (rows later : List TypeRow) (context : TypeEnv) (so_far : PatternNames) (xs : List Field) (ts : List (Option TypeId))
    → Pairs (IsTypeAs names rows later) ts (inner_types_of context xs) → map (typed_of names later) (bound_behind so_far xs ts) ≡ arguments_typed context (map (typed_of names later) so_far) xs
arguments_bound names rows later context so_far [] ts h = refl
arguments_bound names rows later context so_far (x ∷ xs) [] h = absurd h
arguments_bound names rows later context so_far (x ∷ xs) (t ∷ ts) h =
    arguments_bound names rows later context ((x.name.name, t) ∷ so_far) xs ts h.1
    ∙ ap (λ (o : Option DslxType). arguments_typed context (record { name = x.name.name; ty = o } ∷ map (typed_of names later) so_far) xs) h.0.ty

pub arguments_have_rows : (names : ItemNames) (rows later : List TypeRow) (context : TypeEnv) (so_far : PatternNames) (xs : List Field) (ts : List (Option TypeId))
    → Pairs (IsTypeAs names rows later) ts (inner_types_of context xs) → AllByRecursion (λ (b : List ℕ × Option TypeId). HasRowIf rows b.1) so_far
    → AllByRecursion (λ (b : List ℕ × Option TypeId). HasRowIf rows b.1) (bound_behind so_far xs ts)
arguments_have_rows names rows later context so_far [] ts h g = g
arguments_have_rows names rows later context so_far (x ∷ xs) [] h g = absurd h
arguments_have_rows names rows later context so_far (x ∷ xs) (t ∷ ts) h g = arguments_have_rows names rows later context ((x.name.name, t) ∷ so_far) xs ts h.1 (h.0.row, g)

-- one more
pub bound_next : (so_far : PatternNames) (xs : List Field) (ts : List (Option TypeId)) (n : ℕ) (x : Field) (t : Option TypeId) → take (n + 1) xs ≡ take n xs ++ x ∷ [] → take (n + 1) ts ≡ take n ts ++ t ∷ []
    → length (take n xs) ≡ length (take n ts) → (x.name.name, t) ∷ bound_behind so_far (take n xs) (take n ts) ≡ bound_behind so_far (take (n + 1) xs) (take (n + 1) ts)
bound_next so_far xs ts n x t p q long = sym ((λ i. bound_behind so_far (p i) (q i)) ∙ bound_with so_far (take n xs) (take n ts) x t long)

-- types past the arguments are of none
pub bound_all : (so_far : PatternNames) (xs : List Field) (ts : List (Option TypeId)) (n : ℕ) → length xs ≤ n → n ≤ length ts → bound_behind so_far (take n xs) (take n ts) ≡ bound_behind so_far xs ts
bound_all so_far [] ts zero p q = refl
bound_all so_far [] ts (suc n) p q = refl
bound_all so_far (x ∷ xs) [] zero p q = absurd (omega (arith, p))
bound_all so_far (x ∷ xs) [] (suc n) p q = absurd (omega (arith, q))
bound_all so_far (x ∷ xs) (t ∷ ts) zero p q = absurd (omega (arith, p))
bound_all so_far (x ∷ xs) (t ∷ ts) (suc n) p q = bound_all ((x.name.name, t) ∷ so_far) xs ts n (omega (arith, p)) (omega (arith, q))

pub take_at : (ts : List (Option TypeId)) (n : ℕ) (t : Option TypeId) → slice_get ts n ≡ Some t → take (n + 1) ts ≡ take n ts ++ t ∷ []
take_at ts n t e = let on : n + 1 ≡ suc n = omega arith in ap (λ k. take k ts) on ∙ behind ts n e
  where
    behind : (us : List (Option TypeId)) (k : ℕ) → slice_get us k ≡ Some t → take (suc k) us ≡ take k us ++ t ∷ []
    behind [] k h = absurd (none-some t h)
    behind (u ∷ us) zero h = ap (λ x. x ∷ []) (same_Some u t h)
    behind (u ∷ us) (suc k) h = ap (λ l. u ∷ l) (behind us k h)
