-- Choices, arms, turns, and what is bound.
use Rattle.std.proofs.Common.{◌≡◌, ℕ, zero, suc, ◌+◌, ◌-◌, ◌^◌, ◌≤◌, ◌<◌, ◌%◌, Bool, true, false, ◌==◌, List, ◌∷◌, ◌++◌, map, length, Option, Some, None, refl, sym, ap, subst, ◌∙◌, arith, if◌then◌else◌, length-append, []}
use Rattle.std.specs.Prelude.{nat_lt, ◌||◌}
use Rattle.std.proofs.lemmas.Bool.Decides.{nat_tests}
use Rattle.std.proofs.lemmas.List.{length-map}
use Rattle.std.proofs.lemmas.Nat.{mod_below, pow_pos}
use Rattle.xb_bits.specs.Word.{Word, word}
use Rattle.xb_bits.specs.Operations as op
use Rattle.xb_value.specs.declared.ty.Ty.{Ty}
use Rattle.xb_value.specs.declared.ty.Ty as ty
use Rattle.xb_value.specs.declared.value.Value.{Value}
use Rattle.xb_value.specs.declared.value.Value as value
use Rattle.ir_tree.specs.declared.ir_type.IrType.{IrType, Bits}
use Rattle.ir_tree.specs.declared.node.Operand.{Operand}
use Rattle.ir_tree.specs.NodeValues.{operand_value}
use Rattle.ir_tree.specs.Operations.{bit}
use Rattle.ir_tree.proofs.Lemmas.Rules.Typed.Scopes.{on_word-Bits}
use Rattle.ir_rebuild.specs.Built.{AreValues}
use Rattle.ir_rebuild.specs.declared.putting.nodes.Nodes.{Nodes}
use Rattle.ir_rebuild.specs.Putting.Types.{ir_type_of}
use Rattle.ir_rebuild.specs.Putting.Words.{either_by}
use Rattle.ir_rebuild.specs.Putting.Given.{IsBuilt, HasType, OperandsHaveTypes, GrowsTo, GivesValue}
use Rattle.ir_rebuild.proofs.Lemmas.Putting.{grows_twice, values_earlier, has_later, have_later, operand_word}
use Rattle.ir_rebuild.proofs.Lemmas.Putting.Types.{type-Bits}
use Rattle.dslx_meaning.specs.Lists.{and_then, where_true}
use Rattle.dslx_core.specs.declared.expr.Shape.{Shape}
use Rattle.dslx_core.specs.declared.expr.CoreExpr.TheOpen.{CoreExpr-F}
use Rattle.dslx_core.specs.CoreValues.{Functions, CoreDen, CoreArmDen, word_of_value, is_one, is_width, chosen, arm_or, select, turns, one_turn, taken_apart, first_apart, core_step}
use Rattle.dslx_core.specs.Types.Typing.{FunctionTypes, Typing, CoreArmTyping, width_in, if_alike, binds_types, arm_binds, is_certain, last_binds, arms_type, some_fits, all_fit, shapes_of, is_sound_word}
use Rattle.dslx_core.proofs.Lemmas.Types.{then_is, if_alike_is, certain_fits, value_fits}
use Rattle.ir_lower_nodes.specs.Words.Given.{LoweredTo}
use Rattle.ir_lower_nodes.proofs.Lemmas.Words.{read_word}
use Rattle.ir_lower_nodes.specs.Patterns.Shapes.{any_fit, parts_of, arm_parts}
use Rattle.ir_lower_nodes.specs.Patterns.Given.{StandBehind}
use Rattle.ir_lower_nodes.proofs.Lemmas.Patterns.{always_apart, arm_apart, any_first, compared, typed_value, bound_typed, have_length, BindsTo, ArmBindsTo, AnyFitsTo}
use Rattle.ir_lower_nodes.specs.Exprs.NodeTypes.{node_step}
use Rattle.ir_lower_nodes.specs.Exprs.Lowered.{bound_by, LowersBy, LowersWhere, ArmLowered, ArmLowersBy, ArmsLowerBy}
use Rattle.ir_lower_nodes.proofs.OnExprs.OnOptions.{some_same, both, and_both, where_is}
use Rattle.ir_lower_nodes.proofs.OnExprs.OnLayers.{limited}
use Rattle.ir_lower_nodes.proofs.OnExprs.OnParts.{number_by}

-- ---- choices

chosen_is : (b : Bool) (a c : Option Value) (one other : Value) → a ≡ Some one → c ≡ Some other → chosen (Some b) a c ≡ Some (if b then one else other)
chosen_is true a c one other e h = e
chosen_is false a c one other e h = h

one_bit : (x : Word) → x.width ≡ 1 → is_one x ≡ Some (x.value == 1)
one_bit x e = by (x.width == 1) test
  where
    test : (x.width == 1) ≡ true
    test = grind (arith, nat_tests, e)

    by : (b : Bool) → b ≡ true → where_true b (Some (x.value == 1)) ≡ Some (x.value == 1)
    by true h = refl
    by false h = absurd (cc)

bit_is : (b : Bool) → ((bit b).value == 1) ≡ b
bit_is true = refl
bit_is false = refl

module _ (functions : FunctionTypes) (calls : Functions) (slots : List Operand) where
  pub choose_by : (q r p : Typing) (d e g : CoreDen) (s0 s1 s2 s3 s4 : Nodes) (b one other o : Operand) → LowersBy functions calls q d slots s0 s1 b → LowersBy functions calls r e slots s1 s2 one → LowersBy functions calls p g slots s2 s3 other
      → ((u : IrType) → IsBuilt s3 → HasType s3 b (Bits 1 []) → HasType s3 one u → HasType s3 other u → GivesValue s3 s4 o u (either_by b one other))
      → LowersBy functions calls (node_step (CoreExpr-F.Choose q r p)) (core_step (CoreExpr-F.Choose d e g)) slots s0 s4 o
  choose_by q r p d e g s0 s1 s2 s3 s4 b one other o first second third call types t built have h =
      let here = limited (and_then (width_in q functions types) (λ w. where_true (w == 1) (and_then (r functions types) (λ u. if_alike u (p functions types))))) t h in
      let found = then_is (width_in q functions types) (λ w. where_true (w == 1) (and_then (r functions types) (λ u. if_alike u (p functions types)))) t here.is in
      let test = where_is (found.first == 1) (and_then (r functions types) (λ u. if_alike u (p functions types))) t found.gives in
      let is_bit : found.first ≡ 1 = grind (arith, nat_tests, test.0) in
      let inner = then_is (r functions types) (λ u. if_alike u (p functions types)) t test.1 in
      let alike = if_alike_is inner.first t (p functions types) inner.gives in
      let x = number_by functions calls slots q d s0 s1 b types found.first first built have found.is in
      let y = second types t x.grows.built (have_later s0 s1 slots (map ir_type_of types) x.grows have) (inner.is ∙ ap Some alike.0) in
      let both = grows_twice s0 s1 s2 x.grows y.grows in
      let z = third types t y.grows.built (have_later s0 s2 slots (map ir_type_of types) both have) alike.1 in
      let has_bit = subst (λ w. HasType s1 b (Bits w [])) is_bit x.has in
      let last = call (ir_type_of t) z.grows.built (has_later s1 s3 b (Bits 1 []) (grows_twice s1 s2 s3 y.grows z.grows) has_bit) (has_later s2 s3 one (ir_type_of t) z.grows y.has) z.has in
      record {
        grows = grows_twice s0 s3 s4 (grows_twice s0 s2 s3 both z.grows) last.grows;
        has = last.has;
        value = λ s values v.
            let v3 = values_earlier s3 s4 last.grows s values v in
            let v2 = values_earlier s2 s3 z.grows s values v3 in
            let v1 = values_earlier s1 s2 y.grows s values v2 in
            let w = operand_word s1 b 1 has_bit s values v1 in
            ap (λ n. chosen (and_then (and_then n word_of_value) is_one) (e calls (bound_by slots s values)) (g calls (bound_by slots s values))) (x.value s values v1)
            ∙ (ap (λ n. chosen (and_then n is_one) (e calls (bound_by slots s values)) (g calls (bound_by slots s values))) (read_word (operand_value s values b) w.word w.is)
            ∙ (ap (λ n. chosen n (e calls (bound_by slots s values)) (g calls (bound_by slots s values))) (one_bit w.word w.of.fits)
            ∙ (chosen_is (w.word.value == 1) (e calls (bound_by slots s values)) (g calls (bound_by slots s values)) (operand_value s values one) (operand_value s values other) (y.value s values v2) (z.value s values v3)
            ∙ ap Some (sym (last.value s values v ∙ on_word-Bits (λ i. if i.value == 1 then operand_value s values one else operand_value s values other) (operand_value s values b) w.word w.is)))));
      }

  -- ---- bindings

  pub bind_by : (p : Shape) (q r : Typing) (d e : CoreDen) (more : List Operand) (s0 s1 s2 s3 : Nodes) (a o : Operand) → LowersBy functions calls q d slots s0 s1 a → BindsTo p a s1 s2 slots more → LowersBy functions calls r e more s2 s3 o
      → LowersBy functions calls (node_step (CoreExpr-F.Bind q p r)) (core_step (CoreExpr-F.Bind d p e)) slots s0 s3 o
  bind_by p q r d e more s0 s1 s2 s3 a o first binds last types t built have h =
      let here = limited (and_then (q functions types) (λ u. and_then (binds_types true p u types) (r functions))) t h in
      let found = then_is (q functions types) (λ u. and_then (binds_types true p u types) (r functions)) t here.is in
      let inner = then_is (binds_types true p found.first types) (r functions) t found.gives in
      let one = first types found.first built have found.is in
      let own = have_later s0 s1 slots (map ir_type_of types) one.grows have in
      let two = binds true found.first types inner.first one.grows.built one.has own inner.is in
      let three = last inner.first t two.grows.built two.have inner.gives in
      record {
        grows = grows_twice s0 s2 s3 (grows_twice s0 s1 s2 one.grows two.grows) three.grows;
        has = three.has;
        value = λ s values v.
            let v2 = values_earlier s2 s3 three.grows s values v in
            let v1 = values_earlier s1 s2 two.grows s values v2 in
            let x = operand_value s values a in
            ap (λ n. and_then n (λ w. and_then (taken_apart p w (bound_by slots s values)) (e calls))) (one.value s values v1)
            ∙ (ap (λ n. and_then n (e calls)) (always_apart p found.first types inner.first x (bound_by slots s values) (typed_value s1 a found.first one.has s values v1) (bound_typed s1 slots types own s values v1) inner.is)
            ∙ (ap (e calls) (sym (two.values s values v2)) ∙ three.value s values v));
      }

  -- ---- arms

  nothing_left : (before : List Operand) (s : Value) (values : List Value) (all : List Operand) (parts : List Value) (types more : List Ty) → map (operand_value s values) all ≡ map (operand_value s values) before ++ parts → length all ≡ length more → length before ≡ length types → length more ≡ length types → parts ≡ []
  nothing_left before s values all [] types more e h k l = refl
  nothing_left before s values all (x ∷ parts) types more e h k l =
      let long = length-append (map (operand_value s values) before) (x ∷ parts) in
      let whole : length (map (operand_value s values) all) ≡ length (map (operand_value s values) before ++ x ∷ parts) = ap length e in
      let first = length-map all (operand_value s values) in
      let second = length-map before (operand_value s values) in
      let some : length (x ∷ parts) ≡ suc (length parts) = refl in
      absurd (omega (arith, long, whole, first, second, some, h, k, l))

  pub arm_by : (q : CoreArmTyping) (d : CoreArmDen) (more : List Operand) (s0 s1 s2 : Nodes) (a o : Operand) → ArmBindsTo q.shapes a s0 s1 slots more → LowersBy functions calls q.value d.value more s1 s2 o → ArmLowersBy functions calls q d a slots s0 s2 o
  arm_by q d more s0 s1 s2 a o binds last types us t u built have has e h =
      let two = binds t types us built has have e in
      let three = last us u two.grows.built two.have h in
      record {
        lowered = record {
          grows = grows_twice s0 s1 s2 two.grows three.grows;
          has = three.has;
          value = λ s values v. ap (d.value calls) (sym (two.values s values (values_earlier s1 s2 three.grows s values v))) ∙ three.value s values v;
        };
        none = λ s values v l.
            nothing_left slots s values more (arm_parts q.shapes (operand_value s values a)) types us (two.values s values (values_earlier s1 s2 three.grows s values v))
            (have_length s1 more (map ir_type_of us) two.have ∙ length-map us ir_type_of) (have_length s0 slots (map ir_type_of types) have ∙ length-map types ir_type_of) l;
      }

  or_false : (b : Bool) → (b || false) ≡ b
  or_false true = refl
  or_false false = refl

  -- why what stands where no arm fits binds nothing, or never stands
  last_case : (whole certain : Bool) (same : Bool) → (whole || (certain || same)) ≡ true → (P : Type 0) → (whole ≡ true → P) → (certain ≡ true → P) → (same ≡ true → P) → P
  last_case true certain same h P f g k = f refl
  last_case false true same h P f g k = g refl
  last_case false false same h P f g k = k h

  pub last_by : (q : CoreArmTyping) (d : CoreArmDen) (s0 s1 : Nodes) (a o : Operand) → d.shapes ≡ q.shapes → ArmLowersBy functions calls q d a slots s0 s1 o → ArmsLowerBy functions calls (q ∷ []) (d ∷ []) a slots s0 s1 o
  last_by q d s0 s1 a o shapes lowers types t u whole built have has h = record {
    grows = one.lowered.grows;
    has = one.lowered.has;
    value = λ s values v P.
        let v0 = values_earlier s0 s1 one.lowered.grows s values v in
        let x = operand_value s values a in
        let bound = bound_by slots s values in
        let of = typed_value s0 a t has s values v0 in
        let own = bound_typed s0 slots types have s values v0 in
        let apart = ap (λ ps. first_apart ps x bound) shapes ∙ arm_apart q.shapes t types more x bound of own found.0 in
        by s values v P apart (any_fit q.shapes x) refl;
  }
    where
      more : List Ty
      more = (then_is (last_binds whole q.shapes t types) (q.value functions) u h).first

      found : (arm_binds q.shapes t types ≡ Some more) × ((whole || (is_certain q.shapes t types || length more == length types)) ≡ true)
      found =
          let outer = then_is (last_binds whole q.shapes t types) (q.value functions) u h in
          let inner = then_is (arm_binds q.shapes t types) (λ m. where_true (whole || (is_certain q.shapes t types || length m == length types)) (Some m)) more outer.is in
          let test = where_is (whole || (is_certain q.shapes t types || length inner.first == length types)) (Some inner.first) more inner.gives in
          let same = some_same inner.first more test.1 in
          (inner.is ∙ ap Some same, subst (λ m. (whole || (is_certain q.shapes t types || length m == length types)) ≡ true) same test.0)

      one : ArmLowered s0 s1 o u (length more ≡ length types) (λ s values. arm_parts q.shapes (operand_value s values a)) (λ s values inner. d.value calls (bound_by slots s values ++ inner))
      one = lowers types more t u built have has found.0 (then_is (last_binds whole q.shapes t types) (q.value functions) u h).gives

      by : (s : Value) (values : List Value) → AreValues s1.state s1.list.items s values → (whole ≡ true → some_fits (shapes_of (q ∷ [])) (operand_value s values a) ≡ true)
          → first_apart d.shapes (operand_value s values a) (bound_by slots s values) ≡ (if any_fit q.shapes (operand_value s values a) then Some (bound_by slots s values ++ arm_parts q.shapes (operand_value s values a)) else None)
          → (b : Bool) → any_fit q.shapes (operand_value s values a) ≡ b
          → arm_or calls d.value (first_apart d.shapes (operand_value s values a) (bound_by slots s values)) (d.value calls (bound_by slots s values)) ≡ Some (operand_value s values o)
      by s values v P apart true e =
          let bound = bound_by slots s values in
          let x = operand_value s values a in
          ap (λ n. arm_or calls d.value n (d.value calls bound)) (apart ∙ ap (λ b. if b then Some (bound ++ arm_parts q.shapes x) else None) e)
          ∙ one.lowered.value s values v
      by s values v P apart false e =
          let bound = bound_by slots s values in
          let x = operand_value s values a in
          let v0 = values_earlier s0 s1 one.lowered.grows s values v in
          let none : first_apart d.shapes x bound ≡ None = apart ∙ ap (λ b. if b then Some (bound ++ arm_parts q.shapes x) else None) e in
          let here : arm_parts q.shapes x ≡ [] =
          last_case whole (is_certain q.shapes t types) (length more == length types) found.1 (arm_parts q.shapes x ≡ [])
          (λ w.
          let never : false ≡ true = sym (ap (λ b. b || false) (any_first q.shapes x [] ∙ e)) ∙ P w in
          absurd (cc))
          (λ c. absurd (certain_fits q.shapes t types x bound (typed_value s0 a t has s values v0) (bound_typed s0 slots types have s values v0) c (ap (λ ps. first_apart ps x bound) (sym shapes) ∙ none)))
          (λ l. let same : length more ≡ length types = grind (arith, nat_tests, l) in one.none s values v same) in
          ap (λ n. arm_or calls d.value n (d.value calls bound)) none
          ∙ (ap (d.value calls) (sym (append_none bound) ∙ ap (λ ys. bound ++ ys) (sym here)) ∙ one.lowered.value s values v)
        where
          append_none : (ys : List Value) → ys ++ [] ≡ ys
          append_none [] = refl
          append_none (y ∷ ys) = ap (λ zs. y ∷ zs) (append_none ys)

  pub choice_by : (q r : CoreArmTyping) (qs : List CoreArmTyping) (d e : CoreArmDen) (ds : List CoreArmDen) (s0 s1 s2 s3 s4 : Nodes) (a fit one others o : Operand) → d.shapes ≡ q.shapes
      → AnyFitsTo q.shapes a s0 s1 fit → ArmLowersBy functions calls q d a slots s1 s2 one → ArmsLowerBy functions calls (r ∷ qs) (e ∷ ds) a slots s2 s3 others
      → ((u : IrType) → IsBuilt s3 → HasType s3 fit (Bits 1 []) → HasType s3 one u → HasType s3 others u → GivesValue s3 s4 o u (either_by fit one others))
      → ArmsLowerBy functions calls (q ∷ r ∷ qs) (d ∷ e ∷ ds) a slots s0 s4 o
  choice_by q r qs d e ds s0 s1 s2 s3 s4 a fit one others o shapes first second third call types t u whole built have has h = record {
    grows = grows_twice s0 s3 s4 before last.grows;
    has = last.has;
    value = λ s values v P.
        let v3 = values_earlier s3 s4 last.grows s values v in
        let v2 = values_earlier s2 s3 rest.grows s values v3 in
        let v1 = values_earlier s1 s2 arm.lowered.grows s values v2 in
        let v0 = values_earlier s0 s1 test.grows s values v1 in
        let x = operand_value s values a in
        let bound = bound_by slots s values in
        let apart = ap (λ ps. first_apart ps x bound) shapes ∙ arm_apart q.shapes t types more x bound (typed_value s0 a t has s values v0) (bound_typed s0 slots types have s values v0) found.0 in
        by s values v2 v3 P apart (any_fit q.shapes x) refl
        ∙ ap Some (sym (last.value s values v
        ∙ (on_word-Bits (λ i. if i.value == 1 then operand_value s values one else operand_value s values others) (operand_value s values fit) (bit (any_fit q.shapes x)) (test.value s values v1)
        ∙ ap (λ b. if b then operand_value s values one else operand_value s values others) (bit_is (any_fit q.shapes x)))));
  }
    where
      more : List Ty
      more = (then_is (arm_binds q.shapes t types) (q.value functions) _ (then_is (and_then (arm_binds q.shapes t types) (q.value functions)) (λ w. if_alike w (arms_type whole functions types t (r ∷ qs))) u h).is).first

      found : (arm_binds q.shapes t types ≡ Some more) × (q.value functions more ≡ Some u) × (arms_type whole functions types t (r ∷ qs) ≡ Some u)
      found =
          let outer = then_is (and_then (arm_binds q.shapes t types) (q.value functions)) (λ w. if_alike w (arms_type whole functions types t (r ∷ qs))) u h in
          let alike = if_alike_is outer.first u (arms_type whole functions types t (r ∷ qs)) outer.gives in
          let inner = then_is (arm_binds q.shapes t types) (q.value functions) outer.first outer.is in
          (inner.is, inner.gives ∙ ap Some alike.0, alike.1)

      test : GivesValue s0 s1 fit (Bits 1 []) (λ s values. value.Bits (bit (any_fit q.shapes (operand_value s values a))))
      test = first t built has (compared q.shapes t types more found.0)

      arm : ArmLowered s1 s2 one u (length more ≡ length types) (λ s values. arm_parts q.shapes (operand_value s values a)) (λ s values inner. d.value calls (bound_by slots s values ++ inner))
      arm = second types more t u test.grows.built (have_later s0 s1 slots (map ir_type_of types) test.grows have) (has_later s0 s1 a (ir_type_of t) test.grows has) found.0 found.1

      some : GrowsTo s0 s2
      some = grows_twice s0 s1 s2 test.grows arm.lowered.grows

      rest : LowersWhere s2 s3 others u (λ s values. whole ≡ true → some_fits (shapes_of (r ∷ qs)) (operand_value s values a) ≡ true) (λ s values. select (e ∷ ds) (operand_value s values a) calls (bound_by slots s values))
      rest = third types t u whole arm.lowered.grows.built (have_later s0 s2 slots (map ir_type_of types) some have) (has_later s0 s2 a (ir_type_of t) some has) found.2

      before : GrowsTo s0 s3
      before = grows_twice s0 s2 s3 some rest.grows

      last : GivesValue s3 s4 o (ir_type_of u) (either_by fit one others)
      last = call (ir_type_of u) rest.grows.built (has_later s1 s3 fit (Bits 1 []) (grows_twice s1 s2 s3 arm.lowered.grows rest.grows) test.has) (has_later s2 s3 one (ir_type_of u) rest.grows arm.lowered.has) rest.has

      by : (s : Value) (values : List Value) → AreValues s2.state s2.list.items s values → AreValues s3.state s3.list.items s values
          → (whole ≡ true → some_fits (shapes_of (q ∷ r ∷ qs)) (operand_value s values a) ≡ true)
          → first_apart d.shapes (operand_value s values a) (bound_by slots s values) ≡ (if any_fit q.shapes (operand_value s values a) then Some (bound_by slots s values ++ arm_parts q.shapes (operand_value s values a)) else None)
          → (b : Bool) → any_fit q.shapes (operand_value s values a) ≡ b
          → arm_or calls d.value (first_apart d.shapes (operand_value s values a) (bound_by slots s values)) (select (e ∷ ds) (operand_value s values a) calls (bound_by slots s values))
          ≡ Some (if any_fit q.shapes (operand_value s values a) then operand_value s values one else operand_value s values others)
      by s values v2 v3 P apart true k =
          let bound = bound_by slots s values in
          let x = operand_value s values a in
          ap (λ n. arm_or calls d.value n (select (e ∷ ds) x calls bound)) (apart ∙ ap (λ b. if b then Some (bound ++ arm_parts q.shapes x) else None) k)
          ∙ (arm.lowered.value s values v2 ∙ ap (λ b. Some (if b then operand_value s values one else operand_value s values others)) (sym k))
      by s values v2 v3 P apart false k =
          let bound = bound_by slots s values in
          let x = operand_value s values a in
          ap (λ n. arm_or calls d.value n (select (e ∷ ds) x calls bound)) (apart ∙ ap (λ b. if b then Some (bound ++ arm_parts q.shapes x) else None) k)
          ∙ (rest.value s values v3 (λ w. sym (ap (λ b. b || some_fits (shapes_of (r ∷ qs)) x) (any_first q.shapes x [] ∙ k)) ∙ P w)
          ∙ ap (λ b. Some (if b then operand_value s values one else operand_value s values others)) (sym k))

  pub select_by : (q : Typing) (d : CoreDen) (qs : List CoreArmTyping) (ds : List CoreArmDen) (s0 s1 s2 : Nodes) (a o : Operand) → LowersBy functions calls q d slots s0 s1 a → ArmsLowerBy functions calls qs ds a slots s1 s2 o
      → LowersBy functions calls (node_step (CoreExpr-F.Select q qs)) (core_step (CoreExpr-F.Select d ds)) slots s0 s2 o
  select_by q d qs ds s0 s1 s2 a o first arms types t built have h =
      let here = limited (and_then (q functions types) (λ u. arms_type (all_fit (shapes_of qs) u) functions types u qs)) t h in
      let found = then_is (q functions types) (λ u. arms_type (all_fit (shapes_of qs) u) functions types u qs) t here.is in
      let one = first types found.first built have found.is in
      let two = arms types found.first t (all_fit (shapes_of qs) found.first) one.grows.built (have_later s0 s1 slots (map ir_type_of types) one.grows have) one.has found.gives in
      record {
        grows = grows_twice s0 s1 s2 one.grows two.grows;
        has = two.has;
        value = λ s values v.
            let v1 = values_earlier s1 s2 two.grows s values v in
            ap (λ n. and_then n (λ w. select ds w calls (bound_by slots s values))) (one.value s values v1)
            ∙ two.value s values v (λ w. value_fits (shapes_of qs) found.first (operand_value s values a) w (typed_value s1 a found.first one.has s values v1));
      }

  -- ---- loops

  -- a turn at an index
  abbrev pub TurnLowersBy : Shape → Shape → Typing → CoreDen → Word → Operand → Nodes → Nodes → Operand → Type 0
  TurnLowersBy index shape q d place a old new o =
      (types inner both : List Ty) (t : Ty) → IsBuilt old → OperandsHaveTypes old slots (map ir_type_of types) → HasType old a (ir_type_of t) → is_sound_word place ≡ true
      → binds_types true index (ty.Bits place.width) types ≡ Some inner → binds_types true shape t inner ≡ Some both → q functions both ≡ Some t
      → LoweredTo old new o t (λ s values. one_turn index shape d calls (bound_by slots s values) (value.Bits place) (operand_value s values a))

  pub turn_by : (index shape : Shape) (q : Typing) (d : CoreDen) (place : Word) (w n : ℕ) (number a o : Operand) (some all : List Operand) (s0 s1 s2 s3 s4 : Nodes) → w ≡ place.width → n ≡ place.value
      → (IsBuilt s0 → 1 ≤ w → w ≤ 128 → n < 2 ^ w → GivesValue s0 s1 number (Bits w []) (λ s values. value.Bits (word w n)))
      → BindsTo index number s1 s2 slots some → BindsTo shape a s2 s3 some all → LowersBy functions calls q d all s3 s4 o
      → TurnLowersBy index shape q d place a s0 s4 o
  turn_by index shape q d place w n number a o some all s0 s1 s2 s3 s4 width_is value_is literal first second last types inner outer t built have has sound e h k = record {
    grows = grows_twice s0 s3 s4 to_all three.grows;
    has = three.has;
    value = λ s values v.
        let v3 = values_earlier s3 s4 three.grows s values v in
        let v2 = values_earlier s2 s3 two.grows s values v3 in
        let v1 = values_earlier s1 s2 one.grows s values v2 in
        let bound = bound_by slots s values in
        let x = operand_value s values a in
        let i = sym (zero_is.value s values v1) in
        ap (λ j. and_then (taken_apart index j bound) (λ inner. and_then (taken_apart shape x inner) (d calls))) (ap value.Bits (word_is) ∙ i)
        ∙ (ap (λ p. and_then p (λ inner. and_then (taken_apart shape x inner) (d calls))) (always_apart index (ty.Bits w) types inner (operand_value s values number) bound (typed_value s1 number (ty.Bits w) has_number s values v1) (bound_typed s1 slots types have1 s values v1) binds_index ∙ ap Some (sym (one.values s values v2)))
        ∙ (ap (λ p. and_then p (d calls)) (always_apart shape t inner outer x (bound_by some s values) (typed_value s2 a t has2 s values v2) (bound_typed s2 some inner one.have s values v2) h ∙ ap Some (sym (two.values s values v3)))
        ∙ three.value s values v));
  }
    where
      bounds : (1 ≤ w) × (w ≤ 128) × (n < 2 ^ w)
      bounds =
          let parts = both (is_width place.width) (nat_lt place.value (2 ^ place.width)) sound in
          let some' : 1 ≤ place.width = grind (arith, nat_tests, parts.0) in
          let most : place.width ≤ 128 = grind (arith, nat_tests, parts.0) in
          let range : place.value < 2 ^ place.width = grind (arith, nat_tests, parts.1) in
          (subst (λ m. 1 ≤ m) (sym width_is) some', subst (λ m. m ≤ 128) (sym width_is) most, subst (λ m. m < 2 ^ w) (sym value_is) (subst (λ m. place.value < 2 ^ m) (sym width_is) range))

      zero_is : GivesValue s0 s1 number (Bits w []) (λ s values. value.Bits (word w n))
      zero_is = literal built bounds.0 bounds.1 bounds.2

      word_is : place ≡ word w n
      word_is = λ i. record { width = sym width_is i; value = sym value_is i }

      has_number : HasType s1 number (ir_type_of (ty.Bits w))
      has_number = subst (HasType s1 number) (sym (type-Bits w)) zero_is.has

      have1 : OperandsHaveTypes s1 slots (map ir_type_of types)
      have1 = have_later s0 s1 slots (map ir_type_of types) zero_is.grows have

      binds_index : binds_types true index (ty.Bits w) types ≡ Some inner
      binds_index = ap (λ m. binds_types true index (ty.Bits m) types) width_is ∙ e

      one : StandBehind s1 s2 slots some inner (λ s values. parts_of index (operand_value s values number))
      one = first true (ty.Bits w) types inner zero_is.grows.built has_number have1 binds_index

      to_index : GrowsTo s0 s2
      to_index = grows_twice s0 s1 s2 zero_is.grows one.grows

      has2 : HasType s2 a (ir_type_of t)
      has2 = has_later s0 s2 a (ir_type_of t) to_index has

      two : StandBehind s2 s3 some all outer (λ s values. parts_of shape (operand_value s values a))
      two = second true t inner outer one.grows.built has2 one.have h

      to_all : GrowsTo s0 s3
      to_all = grows_twice s0 s2 s3 to_index two.grows

      three : LoweredTo s3 s4 o t (λ s values. d calls (bound_by all s values))
      three = last outer t two.grows.built two.have k

  -- what stands after some turns: the rest of them gives what the whole does
  pub record TurnsSo (index shape : Shape) (d e : CoreDen) (count i : ℕ) (from place : Word) (t : Ty) (s0 s1 : Nodes) (a : Operand) : Type 0 where
    pub grows : GrowsTo s0 s1
    pub has : HasType s1 a (ir_type_of t)
    pub sound : is_sound_word place ≡ true
    pub width : place.width ≡ from.width
    pub value : (s : Value) (values : List Value) → AreValues s1.state s1.list.items s values
        → and_then (e calls (bound_by slots s values)) (turns (one_turn index shape d calls (bound_by slots s values)) count from) ≡ turns (one_turn index shape d calls (bound_by slots s values)) (count - i) place (operand_value s values a)

  -- what types say of a loop
  pub record IsLoop (index shape : Shape) (q r : Typing) (from : Word) (types : List Ty) (t : Ty) : Type 0 where
    pub sound : is_sound_word from ≡ true
    pub start : r functions types ≡ Some t
    pub inner : List Ty
    pub binds_index : binds_types true index (ty.Bits from.width) types ≡ Some inner
    pub all : List Ty
    pub binds_shape : binds_types true shape t inner ≡ Some all
    pub body : q functions all ≡ Some t

  abbrev pub LoopSo : Shape → Shape → Typing → Typing → CoreDen → CoreDen → ℕ → ℕ → Word → Word → Nodes → Nodes → Operand → Type 0
  LoopSo index shape q r d e count i from place s0 s1 a = (types : List Ty) (t : Ty) → IsBuilt s0 → OperandsHaveTypes s0 slots (map ir_type_of types) → IsLoop index shape q r from types t → TurnsSo index shape d e count i from place t s0 s1 a

  pub loop_first : (index shape : Shape) (q r : Typing) (d e : CoreDen) (count : ℕ) (from : Word) (s0 s1 : Nodes) (a : Operand) → LowersBy functions calls r e slots s0 s1 a → LoopSo index shape q r d e count 0 from from s0 s1 a
  loop_first index shape q r d e count from s0 s1 a lowers types t built have loop =
      let one = lowers types t built have loop.start in
      record {
        grows = one.grows;
        has = one.has;
        sound = loop.sound;
        width = refl;
        value = λ s values v.
            let f = one_turn index shape d calls (bound_by slots s values) in
            let whole : count ≡ count - 0 = omega arith in
            ap (λ p. and_then p (turns f count from)) (one.value s values v) ∙ ap (λ n. turns f n from (operand_value s values a)) whole;
      }

  next_sound : (x : Word) → is_sound_word x ≡ true → is_sound_word (op.add x (word x.width 1)) ≡ true
  next_sound x h = and_both (is_width x.width) (nat_lt ((x.value + 1) % 2 ^ x.width) (2 ^ x.width)) (both (is_width x.width) (nat_lt x.value (2 ^ x.width)) h).0 test
    where
      below : (x.value + 1) % 2 ^ x.width < 2 ^ x.width
      below = mod_below (x.value + 1) (2 ^ x.width) (pow_pos x.width)

      test : nat_lt ((x.value + 1) % 2 ^ x.width) (2 ^ x.width) ≡ true
      test = let less = below in grind (arith, nat_tests, less)

  pub loop_step : (index shape : Shape) (q r : Typing) (d e : CoreDen) (count i : ℕ) (from place next : Word) (s0 s1 s2 : Nodes) (a o : Operand) → i < count → next ≡ op.add place (word place.width 1)
      → LoopSo index shape q r d e count i from place s0 s1 a → TurnLowersBy index shape q d place a s1 s2 o → LoopSo index shape q r d e count (i + 1) from next s0 s2 o
  loop_step index shape q r d e count i from place next s0 s1 s2 a o less next_is before turn types t built have loop =
      let one = before types t built have loop in
      let two = turn types loop.inner loop.all t one.grows.built (have_later s0 s1 slots (map ir_type_of types) one.grows have) one.has one.sound (ap (λ w. binds_types true index (ty.Bits w) types) one.width ∙ loop.binds_index) loop.binds_shape loop.body in
      record {
        grows = grows_twice s0 s1 s2 one.grows two.grows;
        has = two.has;
        sound = subst (λ x. is_sound_word x ≡ true) (sym next_is) (next_sound place one.sound);
        width = ap (λ (x : Word). x.width) next_is ∙ one.width;
        value = λ s values v.
            let f = one_turn index shape d calls (bound_by slots s values) in
            let left : count - i ≡ suc (count - (i + 1)) = omega (arith, less) in
            one.value s values (values_earlier s1 s2 two.grows s values v)
            ∙ (ap (λ n. turns f n place (operand_value s values a)) left
            ∙ (ap (λ p. and_then p (turns f (count - (i + 1)) (op.add place (word place.width 1)))) (two.value s values v)
            ∙ ap (λ x. turns f (count - (i + 1)) x (operand_value s values o)) (sym next_is)));
      }

  pub loop_last : (index shape : Shape) (q r : Typing) (d e : CoreDen) (count i : ℕ) (from place : Word) (s0 s1 : Nodes) (a : Operand) → count ≤ i → LoopSo index shape q r d e count i from place s0 s1 a → LowersBy functions calls (node_step (CoreExpr-F.Loop count from index shape q r)) (core_step (CoreExpr-F.Loop count from index shape d e)) slots s0 s1 a
  loop_last index shape q r d e count i from place s0 s1 a done so types t built have h =
      let rest : Ty → Option Ty = λ u. and_then (binds_types true index (ty.Bits from.width) types) (λ inner. and_then (binds_types true shape u inner) (λ both. if_alike u (q functions both))) in
      let here = limited (where_true (is_sound_word from) (and_then (r functions types) rest)) t h in
      let test = where_is (is_sound_word from) (and_then (r functions types) rest) t here.is in
      let found = then_is (r functions types) rest t test.1 in
      let inner = then_is (binds_types true index (ty.Bits from.width) types) (λ inner. and_then (binds_types true shape found.first inner) (λ both. if_alike found.first (q functions both))) t found.gives in
      let all = then_is (binds_types true shape found.first inner.first) (λ both. if_alike found.first (q functions both)) t inner.gives in
      let alike = if_alike_is found.first t (q functions all.first) all.gives in
      let one = so types t built have (record {
        sound = test.0;
        start = found.is ∙ ap Some alike.0;
        inner = inner.first;
        binds_index = inner.is;
        all = all.first;
        binds_shape = subst (λ u. binds_types true shape u inner.first ≡ Some all.first) alike.0 all.is;
        body = alike.1;
      }) in
      record {
        grows = one.grows;
        has = one.has;
        value = λ s values v.
            let f = one_turn index shape d calls (bound_by slots s values) in
            let none : count - i ≡ 0 = omega (arith, done) in
            one.value s values v ∙ ap (λ n. turns f n place (operand_value s values a)) none;
      }
