-- The arms of a match.
use Rattle.std.proofs.Common.{◌≡◌, ℕ, ◌==◌, ◌≤◌, ◌<◌, Bool, true, false, ◌||◌, List, ◌∷◌, map, length, get_or, Some, refl, sym, ap, ◌∙◌, arith, []}
use Rattle.std.specs.Prelude.{MatchBool}
use Rattle.std.proofs.lemmas.Bool.Decides.{nat_tests}
use Rattle.xb_value.specs.declared.ty.Ty.{Ty}
use Rattle.dslx_meaning.specs.Lists.{and_then, where_true}
use Rattle.dslx_core.specs.declared.expr.Arm.{Arm, out-Arm}
use Rattle.dslx_core.specs.declared.expr.CoreExpr.TheFolds.{fold_out-Arm}
use Rattle.dslx_core.specs.declared.expr.Shape.{Shape}
use Rattle.dslx_core.specs.Types.Typing.{FunctionTypes, Typing, CoreArmTyping, arm_binds, arm_typing, arms_type, if_alike, is_certain, last_binds}
use Rattle.dslx_core.proofs.Lemmas.Types.{where_so}
use Rattle.ir_lower_nodes.specs.Exprs.NodeTypes.{arm_node_type, node_step, node_type}

-- an arm is its patterns and the type of its value
pub arm_is : (a : Arm) → arm_node_type a ≡ record { shapes = (out-Arm a).shapes; value = node_type (out-Arm a).value }
arm_is a = fold_out-Arm Typing CoreArmTyping node_step arm_typing a

or_left : (a b : Bool) → a ≡ true → (a || b) ≡ true
or_left true b h = refl
or_left false b h = absurd (cc)

or_right : (a b : Bool) → b ≡ true → (a || b) ≡ true
or_right true b h = refl
or_right false b h = h

module _ (whole : Bool) (calls : FunctionTypes) (bound : List Ty) (t : Ty) where
  -- the last arm, where it always fits, binds nothing, or some arm fits each value
  binds_last : (shapes : List Shape) (more : List Ty) → arm_binds shapes t bound ≡ Some more → (whole || (is_certain shapes t bound || length more == length bound)) ≡ true → last_binds whole shapes t bound ≡ Some more
  binds_last shapes more binds stands =
      ap (λ o. and_then o (λ ts. where_true (whole || (is_certain shapes t bound || length ts == length bound)) (Some ts))) binds
      ∙ where_so (whole || (is_certain shapes t bound || length more == length bound)) (Some more) stands

  pub last_typed : (a : Arm) (more : List Ty) (u : Ty) → arm_binds (out-Arm a).shapes t bound ≡ Some more → (whole || (is_certain (out-Arm a).shapes t bound || length more == length bound)) ≡ true
      → node_type (out-Arm a).value calls more ≡ Some u → arms_type whole calls bound t (map arm_node_type (a ∷ [])) ≡ Some u
  last_typed a more u binds stands h =
      ap (λ x. arms_type whole calls bound t (x ∷ [])) (arm_is a)
      ∙ (ap (λ o. and_then o (node_type (out-Arm a).value calls)) (binds_last (out-Arm a).shapes more binds stands) ∙ h)

  pub first_typed : (a c : Arm) (as' : List Arm) (u v w : Ty) → and_then (arm_binds (out-Arm a).shapes t bound) (node_type (out-Arm a).value calls) ≡ Some u
      → arms_type whole calls bound t (map arm_node_type (c ∷ as')) ≡ Some v → if_alike u (Some v) ≡ Some w → arms_type whole calls bound t (map arm_node_type (a ∷ c ∷ as')) ≡ Some w
  first_typed a c as' u v w own others alike =
      ap (λ x. arms_type whole calls bound t (x ∷ map arm_node_type (c ∷ as'))) (arm_is a)
      ∙ (ap (λ o. and_then o (λ s. if_alike s (arms_type whole calls bound t (map arm_node_type (c ∷ as'))))) own
      ∙ (ap (if_alike u) others ∙ alike))

pub stands_whole : (whole certain same : Bool) → whole ≡ true → (whole || (certain || same)) ≡ true
stands_whole whole certain same h = or_left whole (certain || same) h

pub stands_certain : (whole certain same : Bool) → certain ≡ true → (whole || (certain || same)) ≡ true
stands_certain whole certain same h = or_right whole (certain || same) (or_left certain same h)

pub stands_same : (whole certain : Bool) (n m : ℕ) → n ≡ m → (whole || (certain || n == m)) ≡ true
stands_same whole certain n m h = or_right whole (certain || n == m) (or_right certain (n == m) (grind (arith, nat_tests, h)))

-- the same, where some arms are behind it
pub first_of : (whole : Bool) (calls : FunctionTypes) (bound : List Ty) (t : Ty) (a : Arm) (rest : List Arm) (u v w : Ty) → 1 ≤ length rest → and_then (arm_binds (out-Arm a).shapes t bound) (node_type (out-Arm a).value calls) ≡ Some u
    → arms_type whole calls bound t (map arm_node_type rest) ≡ Some v → if_alike u (Some v) ≡ Some w → arms_type whole calls bound t (map arm_node_type (a ∷ rest)) ≡ Some w
first_of whole calls bound t a [] u v w some own others alike = absurd (omega (arith, some))
first_of whole calls bound t a (c ∷ as') u v w some own others alike = first_typed whole calls bound t a c as' u v w own others alike

or_more : (whole a b c d : Bool) → (a ≡ true → c ≡ true) → (b ≡ true → d ≡ true) → (whole || (a || b)) ≡ true → (whole || (c || d)) ≡ true
or_more true a b c d f g h = refl
or_more false true b c d f g h = or_left c d (f refl)
or_more false false b c d f g h = or_right c d (g h)

same_number : (n m : ℕ) → (n == m) ≡ true → n ≡ m
same_number n m h = grind (arith, nat_tests, h)

-- the last arm, by what is tested of it
pub last_of : (whole : Bool) (calls : FunctionTypes) (bound more : List Ty) (t : Ty) (a : Arm) (certain few : Bool) (u : Ty) → (whole || (certain || few)) ≡ true → (certain ≡ true → is_certain (out-Arm a).shapes t bound ≡ true) → (few ≡ true → (length more == length bound) ≡ true)
    → arm_binds (out-Arm a).shapes t bound ≡ Some more → node_type (out-Arm a).value calls more ≡ Some u → arms_type whole calls bound t (map arm_node_type (a ∷ [])) ≡ Some u
last_of whole calls bound more t a certain few u stands f g binds h =
    last_typed whole calls bound t a more u binds (or_more whole certain few (is_certain (out-Arm a).shapes t bound) (length more == length bound) f g stands) h

pub arms_one : (xs : List Arm) (x : Arm) → 1 ≤ length xs → length xs < 2 → x ≡ get_or xs 0 x → xs ≡ x ∷ []
arms_one [] x some few e = absurd (omega (arith, some))
arms_one (y ∷ []) x some few e = ap (λ z. z ∷ []) (sym e)
arms_one (y ∷ z ∷ xs) x some few e = absurd (omega (arith, few))

-- what is tested holds where the test says so
pub tested : (b : Bool) (P : Type 0) → MatchBool b P (Unit {0}) → b ≡ true → P
tested true P h e = h
tested false P h e = absurd (cc)
