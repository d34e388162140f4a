-- Fields.
use Rattle.std.proofs.Common.{◌≡◌, ℕ, List, [], ◌∷◌, Option, refl, ap}
use Rattle.dslx_tree.specs.declared.item.Field.{Field}
use Rattle.dslx_meaning.specs.Items.{name_of_field}
use Rattle.dslx_meaning.specs.declared.ty.DslxType.{DslxType}
use Rattle.dslx_meaning.specs.Rules.ItemRules.{and_found, fields_found, found_in, only_faults, typing_of_inner}
use Rattle.dslx_meaning.specs.Rules.NameRules.{listed_name}
use Rattle.dslx_meaning.specs.Rules.TypeEnvs.{TypeEnv}
use Rattle.dslx_check_judge.specs.Items.Lists.{found_listed}
use Rattle.dslx_check_judge.proofs.Lemmas.Items.OnLists.{Parts}

abbrev pub fields : Parts Field (Option DslxType)
fields = record {
  name = name_of_field;
  taken = λ env before x. listed_name before x.name;
  part = λ env x. found_in (typing_of_inner env x.ty);
  value = λ env x. (typing_of_inner env x.ty).ty;
}

pub fields_are : (env : TypeEnv) (before : List (List ℕ)) (xs : List Field) → fields_found env before xs ≡ found_listed fields.name (fields.taken env) (fields.part env) before xs
fields_are env before [] = refl
fields_are env before (x ∷ xs) = ap (λ l. and_found (only_faults (listed_name before x.name)) (and_found (found_in (typing_of_inner env x.ty)) l)) (fields_are env (x.name.name ∷ before) xs)
