-- Keys that pass the test of equality are one, so the test is an equivalence, and they are hashed alike.
use Rattle.std.proofs.Common.{◌≡◌, ◌&&◌, ◌==◌, ◌∙◌, ℕ, Bool, true, false, List, [], ◌∷◌, Option, Some, None, refl, sym, ap}
use mathlib.Core.Bool.{true≢false}
use Rattle.std.specs.Bool.{Decides}
use Rattle.std.specs.Cmp.{IsEquivalence, decided, first_so, second_so}
use Rattle.std.proofs.lemmas.Bool.Decides.{Decides-eqb}
use Rattle.dslx_meaning.specs.Lists.{pairwise}
use Rattle.dslx_meaning.specs.Types.{same_bool}
use Rattle.dslx_meaning.specs.declared.value.DslxValue.{DslxValue}
use Rattle.dslx_meaning.specs.Rules.EqualValues.{equal_value}
use Rattle.dslx_core.proofs.Lemmas.Typing.Laws.{one_value_by_test, value_equals_itself}
use Rattle.dslx_check_facts.specs.declared.asked.ForeignKey.{ForeignKey}
use Rattle.dslx_check_facts.specs.declared.asked.ForeignPart.{ForeignPart}
use Rattle.dslx_check_facts.specs.declared.asked.ForeignPart.TheVariants.{Parameter, Default, Signature}
use Rattle.dslx_check_facts.specs.declared.instances.InstanceKey.{InstanceKey}
use Rattle.dslx_check_facts.specs.declared.prefixes.Prefix.{Prefix}
use Rattle.dslx_check_facts.specs.Keys.{same_instance_key, fed_by_instance, same_value_if, same_prefix, fed_by_prefix, same_part, same_foreign, fed_by_foreign}

one_number : (m n : ℕ) → (m == n) ≡ true → m ≡ n
one_number m n e = (Decides-eqb m n).0 e

number_itself : (n : ℕ) → (n == n) ≡ true
number_itself n = (Decides-eqb n n).1 refl

-- ---- instances

one_list : (vs ws : List DslxValue) → pairwise equal_value vs ws ≡ true → vs ≡ ws
one_list [] [] e = refl
one_list [] (w ∷ ws) e = absurd (true≢false (sym e))
one_list (v ∷ vs) [] e = absurd (true≢false (sym e))
one_list (v ∷ vs) (w ∷ ws) e =
    λ i. one_value_by_test v w (first_so (equal_value v w) (pairwise equal_value vs ws) e) i ∷ one_list vs ws (second_so (equal_value v w) (pairwise equal_value vs ws) e) i

list_itself : (vs : List DslxValue) → pairwise equal_value vs vs ≡ true
list_itself [] = refl
list_itself (v ∷ vs) = λ i. value_equals_itself v i && list_itself vs i

pub one_instance : (a b : InstanceKey) → same_instance_key a b ≡ true → a ≡ b
one_instance a b e =
    let item = one_number a.item b.item (first_so (a.item == b.item) (pairwise equal_value a.parametric_args b.parametric_args) e) in
    let args = one_list a.parametric_args b.parametric_args (second_so (a.item == b.item) (pairwise equal_value a.parametric_args b.parametric_args) e) in
    λ i. record { item = item i; parametric_args = args i }

instance_itself : (a : InstanceKey) → same_instance_key a a ≡ true
instance_itself a = λ i. number_itself a.item i && list_itself a.parametric_args i

instances_decide : (a b : InstanceKey) → Decides (same_instance_key a b) (a ≡ b)
instances_decide a b = (one_instance a b, λ e. sym (ap (same_instance_key a) e) ∙ instance_itself a)

pub instance_keys_equivalence : IsEquivalence same_instance_key
instance_keys_equivalence = decided same_instance_key instances_decide

pub instance_keys_fed_alike : (a b : InstanceKey) → same_instance_key a b ≡ true → fed_by_instance a ≡ fed_by_instance b
instance_keys_fed_alike a b e = ap fed_by_instance (one_instance a b e)

-- ---- prefixes

one_value_if : (v w : Option DslxValue) → same_value_if v w ≡ true → v ≡ w
one_value_if None None e = refl
one_value_if None (Some w) e = absurd (true≢false (sym e))
one_value_if (Some v) None e = absurd (true≢false (sym e))
one_value_if (Some v) (Some w) e = ap Some (one_value_by_test v w e)

value_if_itself : (v : Option DslxValue) → same_value_if v v ≡ true
value_if_itself None = refl
value_if_itself (Some v) = value_equals_itself v

pub one_prefix : (a b : Prefix) → same_prefix a b ≡ true → a ≡ b
one_prefix a b e =
    let before = one_number a.before b.before (first_so (a.before == b.before) (same_value_if a.last b.last) e) in
    let last = one_value_if a.last b.last (second_so (a.before == b.before) (same_value_if a.last b.last) e) in
    λ i. record { before = before i; last = last i }

prefix_itself : (a : Prefix) → same_prefix a a ≡ true
prefix_itself a = λ i. number_itself a.before i && value_if_itself a.last i

prefixes_decide : (a b : Prefix) → Decides (same_prefix a b) (a ≡ b)
prefixes_decide a b = (one_prefix a b, λ e. sym (ap (same_prefix a) e) ∙ prefix_itself a)

pub prefixes_equivalence : IsEquivalence same_prefix
prefixes_equivalence = decided same_prefix prefixes_decide

pub prefixes_fed_alike : (a b : Prefix) → same_prefix a b ≡ true → fed_by_prefix a ≡ fed_by_prefix b
prefixes_fed_alike a b e = ap fed_by_prefix (one_prefix a b e)

-- ---- parts of other declarations

one_part : (p q : ForeignPart) → same_part p q ≡ true → p ≡ q
one_part Parameter Parameter e = refl
one_part Parameter Default e = absurd (true≢false (sym e))
one_part Parameter Signature e = absurd (true≢false (sym e))
one_part Default Parameter e = absurd (true≢false (sym e))
one_part Default Default e = refl
one_part Default Signature e = absurd (true≢false (sym e))
one_part Signature Parameter e = absurd (true≢false (sym e))
one_part Signature Default e = absurd (true≢false (sym e))
one_part Signature Signature e = refl

part_itself : (p : ForeignPart) → same_part p p ≡ true
part_itself Parameter = refl
part_itself Default = refl
part_itself Signature = refl

one_flag : (p q : Bool) → same_bool p q ≡ true → p ≡ q
one_flag true true e = refl
one_flag true false e = absurd (true≢false (sym e))
one_flag false true e = absurd (true≢false (sym e))
one_flag false false e = refl

flag_itself : (p : Bool) → same_bool p p ≡ true
flag_itself true = refl
flag_itself false = refl

pub one_foreign : (a b : ForeignKey) → same_foreign a b ≡ true → a ≡ b
one_foreign a b e =
    let rest = a.prefix == b.prefix && same_bool a.is_refused b.is_refused in
    let numbers = second_so (same_part a.part b.part) (a.item == b.item && rest) e in
    let part = one_part a.part b.part (first_so (same_part a.part b.part) (a.item == b.item && rest) e) in
    let item = one_number a.item b.item (first_so (a.item == b.item) rest numbers) in
    let last = second_so (a.item == b.item) rest numbers in
    let prefix = one_number a.prefix b.prefix (first_so (a.prefix == b.prefix) (same_bool a.is_refused b.is_refused) last) in
    let flag = one_flag a.is_refused b.is_refused (second_so (a.prefix == b.prefix) (same_bool a.is_refused b.is_refused) last) in
    λ i. record { part = part i; item = item i; prefix = prefix i; is_refused = flag i }

foreign_itself : (a : ForeignKey) → same_foreign a a ≡ true
foreign_itself a = λ i. part_itself a.part i && (number_itself a.item i && (number_itself a.prefix i && flag_itself a.is_refused i))

foreign_keys_decide : (a b : ForeignKey) → Decides (same_foreign a b) (a ≡ b)
foreign_keys_decide a b = (one_foreign a b, λ e. sym (ap (same_foreign a) e) ∙ foreign_itself a)

pub foreign_keys_equivalence : IsEquivalence same_foreign
foreign_keys_equivalence = decided same_foreign foreign_keys_decide

pub foreign_keys_fed_alike : (a b : ForeignKey) → same_foreign a b ≡ true → fed_by_foreign a ≡ fed_by_foreign b
foreign_keys_fed_alike a b e = ap fed_by_foreign (one_foreign a b e)
