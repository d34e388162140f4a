-- Keys that pass the test of equality are one, so the test is an equivalence, and they are hashed alike.
use Rattle.std.proofs.Common.{◌≡◌, ◌&&◌, ◌∙◌, true, List, [], ◌∷◌, refl, sym, ap}
use mathlib.Core.Bool.{true≢false}
use Rattle.std.specs.Bool.{Decides}
use Rattle.std.specs.Cmp.{IsEquivalence, decided}
use Rattle.std.specs.Str.{bytes_eq}
use Rattle.std.proofs.lemmas.Slice.Eq.{bytes_eq-Decides}
use Rattle.dslx_meaning.specs.Lists.{pairwise}
use Rattle.dslx_meaning.specs.declared.value.DslxValue.{DslxValue}
use Rattle.dslx_meaning.specs.Rules.EqualValues.{equal_value}
use Rattle.dslx_core.proofs.Lemmas.Typing.Laws.{and_true, one_value_by_test, value_equals_itself}
use Rattle.dslx_instance.specs.Table.Keys.{fed_of, same_key}
use Rattle.dslx_instance.specs.declared.table.key.InstanceKey.{InstanceKey}

one_parametric_args : (vs ws : List DslxValue) → pairwise equal_value vs ws ≡ true → vs ≡ ws
one_parametric_args [] [] e = refl
one_parametric_args [] (w ∷ ws) e = absurd (true≢false (sym e))
one_parametric_args (v ∷ vs) [] e = absurd (true≢false (sym e))
one_parametric_args (v ∷ vs) (w ∷ ws) e = let r = and_true (equal_value v w) (pairwise equal_value vs ws) e in λ i. one_value_by_test v w r.0 i ∷ one_parametric_args vs ws r.1 i

parametric_args_themselves : (vs : List DslxValue) → pairwise equal_value vs vs ≡ true
parametric_args_themselves [] = refl
parametric_args_themselves (v ∷ vs) = λ i. value_equals_itself v i && parametric_args_themselves vs i

one_key : (a b : InstanceKey) → same_key a b ≡ true → a ≡ b
one_key a b e =
    let r = and_true (bytes_eq a.name b.name) (pairwise equal_value a.parametric_args b.parametric_args) e in
    λ i. record { name = (bytes_eq-Decides a.name b.name).0 r.0 i; parametric_args = one_parametric_args a.parametric_args b.parametric_args r.1 i }

key_itself : (a : InstanceKey) → same_key a a ≡ true
key_itself a = λ i. (bytes_eq-Decides a.name a.name).1 refl i && parametric_args_themselves a.parametric_args i

keys_decide : (a b : InstanceKey) → Decides (same_key a b) (a ≡ b)
keys_decide a b = (one_key a b, λ e. sym (ap (same_key a) e) ∙ key_itself a)

pub keys_equivalence : IsEquivalence same_key
keys_equivalence = decided same_key keys_decide

pub keys_fed_alike : (a b : InstanceKey) → same_key a b ≡ true → fed_of a.name a.parametric_args ≡ fed_of b.name b.parametric_args
keys_fed_alike a b e = ap (λ (k : InstanceKey). fed_of k.name k.parametric_args) (one_key a b e)
