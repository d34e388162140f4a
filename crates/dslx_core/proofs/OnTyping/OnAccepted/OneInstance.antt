-- Instances that pass the test of equality are one: the test sees all parts of their parametric arguments.
use Rattle.std.proofs.Common.{◌≡◌, true, List, [], ◌∷◌, refl, sym}
use mathlib.Core.Bool.{true≢false}
use Rattle.std.specs.Str.{bytes_eq}
use Rattle.std.proofs.lemmas.Slice.Eq.{bytes_eq-Decides}
use Rattle.dslx_meaning.specs.Lists.{pairwise}
use Rattle.dslx_meaning.specs.declared.value.DslxValue.{DslxValue}
use Rattle.dslx_meaning.specs.Rules.EqualValues.{equal_value}
use Rattle.dslx_meaning.specs.Rules.TypeEnvs.{Instance, same_instance}
use Rattle.dslx_core.proofs.Lemmas.Typing.Laws.{and_true, one_value_by_test}

one_parametric_args : (vs ws : List DslxValue) → pairwise equal_value vs ws ≡ true → vs ≡ ws
one_parametric_args [] [] e = refl
one_parametric_args [] (w ∷ ws) e = absurd (true≢false (sym e))
one_parametric_args (v ∷ vs) [] e = absurd (true≢false (sym e))
one_parametric_args (v ∷ vs) (w ∷ ws) e = let r = and_true (equal_value v w) (pairwise equal_value vs ws) e in λ i. one_value_by_test v w r.0 i ∷ one_parametric_args vs ws r.1 i

-- instances that are the same are one
pub one_instance : (i j : Instance) → same_instance i j ≡ true → i ≡ j
one_instance i j e =
    let r = and_true (bytes_eq i.name j.name) (pairwise equal_value i.parametric_args j.parametric_args) e in
    λ t. record { name = (bytes_eq-Decides i.name j.name).0 r.0 t; parametric_args = one_parametric_args i.parametric_args j.parametric_args r.1 t }
