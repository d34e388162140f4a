-- What stands for what patterns bind.
use Rattle.std.proofs.Common.{◌≡◌, Result, Ok, Err, ℕ, suc, ◌+◌, ◌<◌, ◌≤◌, arith, Bool, true, false, List, ◌∷◌, ◌++◌, map, length, get_or, drop, Option, Some, None, refl, sym, ap, ap₂, subst, ◌∙◌, if◌then◌else◌, []}
use Rattle.std.specs.Prelude.{OnOk, slice_get}
use Rattle.std.proofs.lemmas.List.{append_assoc, append-nil}
use Rattle.xb_value.specs.declared.ty.Ty.{Ty}
use Rattle.xb_value.specs.declared.ty.Ty as ty
use Rattle.xb_value.specs.declared.value.Value.{Value}
use Rattle.ir_tree.specs.declared.ir_type.IrType.{IrType, Tuple}
use Rattle.ir_tree.specs.declared.node.Operand.{Operand}
use Rattle.ir_tree.specs.NodeValues.{operand_value}
use Rattle.ir_tree.specs.Operations.{on_tuple, element_at}
use Rattle.ir_rebuild.specs.Built.{AreValues}
use Rattle.ir_rebuild.specs.declared.putting.nodes.Nodes.{Nodes}
use Rattle.ir_rebuild.specs.Putting.Types.{ir_type_of}
use Rattle.ir_rebuild.specs.Putting.Given.{IsBuilt, HasType, OperandsHaveTypes, GivesValue, GrowsTo}
use Rattle.ir_rebuild.proofs.Lemmas.Putting.{grows_none, grows_twice, values_earlier, has_later, have_later}
use Rattle.dslx_meaning.specs.Lists.{and_then, where_true}
use Rattle.dslx_core.specs.declared.expr.Shape.{Shape}
use Rattle.dslx_core.specs.declared.expr.Shape as shape
use Rattle.dslx_core.specs.Types.Typing.{BindsTypes, binds_types, binds_each, if_alike, value_type, parts_of_tuple, each_binds_none, arm_binds}
use Rattle.dslx_core.proofs.Lemmas.Types.{IsThen, then_is, tuple_type, binds_wild, binds_bound, binds_equal, binds_tuple}
use Rattle.ir_lower_nodes.specs.Patterns.Shapes.{each_parts, parts_of, arm_parts, parts_in}
use Rattle.ir_lower_nodes.specs.Patterns.Given.{AddsOperands, StandBehind}
use Rattle.ir_lower_nodes.proofs.OnPatterns.OnShapes.{parts_wild, parts_bound, parts_equal, parts_tuple}
use Rattle.ir_lower_nodes.proofs.OnPatterns.OnParts.{typed_value, drop_none, drop_at, drop_end, have_more, head_is, part_at, element_put}

abbrev pub BindsTo : Shape → Operand → Nodes → Nodes → List Operand → List Operand → Type 0
BindsTo p a old new before all = (certain : Bool) (t : Ty) (ts us : List Ty) → IsBuilt old → HasType old a (ir_type_of t) → OperandsHaveTypes old before (map ir_type_of ts) → binds_types certain p t ts ≡ Some us → StandBehind old new before all us (λ s values. parts_of p (operand_value s values a))

abbrev pub EachBindsTo : List Shape → Operand → Nodes → Nodes → List Operand → List Operand → Type 0
EachBindsTo shapes tuple old new before all = (certain : Bool) (ss ts us : List Ty) → IsBuilt old → HasType old tuple (ir_type_of (ty.Tuple ss)) → OperandsHaveTypes old before (map ir_type_of ts) → binds_each (map (binds_types certain) shapes) ss ts ≡ Some us → StandBehind old new before all us (λ s values. each_parts (map parts_of shapes) (parts_in (operand_value s values tuple)))

-- what follows where a call gives something
pub on_ok : {A E : Type 0} (r : Result A E) (P Q : Type 0) → (P → Q) → OnOk r P → OnOk r Q
on_ok (Ok x) P Q f h = f h
on_ok (Err e) P Q f h = tt

-- ---- what is bound stays

pub grown_none : (before : List Operand) → AddsOperands before before
grown_none before = record { more = []; are = sym (append-nil before) }

pub grown_one : (before all : List Operand) (a : Operand) → all ≡ before ++ a ∷ [] → AddsOperands before all
grown_one before all a e = record { more = a ∷ []; are = e }

pub grown_twice : (before some all : List Operand) → AddsOperands before some → AddsOperands some all → AddsOperands before all
grown_twice before some all g h = record { more = g.more ++ h.more; are = h.are ∙ (ap (λ xs. xs ++ h.more) g.are ∙ append_assoc before g.more h.more) }

-- ---- nothing, and several times

some_same : (ts us : List Ty) → Some ts ≡ Some us → ts ≡ us
some_same ts us h = cc

nothing_behind : (nodes : Nodes) (before : List Operand) (ts us : List Ty) (f : Value → List Value → List Value) → IsBuilt nodes → OperandsHaveTypes nodes before (map ir_type_of ts) → ts ≡ us → ((s : Value) (values : List Value) → f s values ≡ []) → StandBehind nodes nodes before before us f
nothing_behind nodes before ts us f built h e none = record {
  grows = grows_none nodes built;
  have = subst (λ xs. OperandsHaveTypes nodes before (map ir_type_of xs)) e h;
  values = λ s values v. sym (append-nil (map (operand_value s values) before)) ∙ ap (λ xs. map (operand_value s values) before ++ xs) (sym (none s values));
}

pub behind_as : (old new : Nodes) (before all : List Operand) (us : List Ty) (f g : Value → List Value → List Value) → ((s : Value) (values : List Value) → AreValues old.state old.list.items s values → f s values ≡ g s values) → StandBehind old new before all us f → StandBehind old new before all us g
behind_as old new before all us f g e h = record {
  grows = h.grows;
  have = h.have;
  values = λ s values v. h.values s values v ∙ ap (λ xs. map (operand_value s values) before ++ xs) (e s values (values_earlier old new h.grows s values v));
}

pub behind_twice : (a b c : Nodes) (before some all : List Operand) (ts us : List Ty) (f g : Value → List Value → List Value) → StandBehind a b before some ts f → StandBehind b c some all us g → StandBehind a c before all us (λ s values. f s values ++ g s values)
behind_twice a b c before some all ts us f g h k = record {
  grows = grows_twice a b c h.grows k.grows;
  have = k.have;
  values = λ s values v.
      k.values s values v
      ∙ (ap (λ xs. xs ++ g s values) (h.values s values (values_earlier b c k.grows s values v)) ∙ append_assoc (map (operand_value s values) before) (f s values) (g s values));
}

later_behind : (a b c : Nodes) (before all : List Operand) (us : List Ty) (f : Value → List Value → List Value) → GrowsTo a b → StandBehind b c before all us f → StandBehind a c before all us f
later_behind a b c before all us f g h = record { grows = grows_twice a b c g h.grows; have = h.have; values = h.values }

-- ---- each kind of pattern

pub wild_binds : (nodes : Nodes) (a : Operand) (before : List Operand) (p : Shape) → p ≡ shape.Wild → BindsTo p a nodes nodes before before
wild_binds nodes a before p is certain t ts us built h own e =
    nothing_behind nodes before ts us (λ s values. parts_of p (operand_value s values a)) built own
    (some_same ts us (sym (ap (λ q. binds_types certain q t ts) is ∙ ap (λ (f : BindsTypes). f t ts) (binds_wild certain)) ∙ e))
    (λ s values. ap (λ q. parts_of q (operand_value s values a)) is ∙ ap (λ (f : Value → List Value). f (operand_value s values a)) parts_wild)

equal_types : (certain : Bool) (t : Ty) (ts us : List Ty) (o : Option Ty) → (if certain then None else and_then (if_alike t o) (λ s. Some ts)) ≡ Some us → ts ≡ us
equal_types true t ts us o h = absurd (cc)
equal_types false t ts us o h = some_same ts us (then_is (if_alike t o) (λ s. Some ts) us h).gives

pub equal_binds : (nodes : Nodes) (a : Operand) (before : List Operand) (p : Shape) (w : Value) → p ≡ shape.Equal w → BindsTo p a nodes nodes before before
equal_binds nodes a before p w is certain t ts us built h own e =
    nothing_behind nodes before ts us (λ s values. parts_of p (operand_value s values a)) built own
    (equal_types certain t ts us (value_type w) (sym (ap (λ q. binds_types certain q t ts) is ∙ ap (λ (f : BindsTypes). f t ts) (binds_equal certain w)) ∙ e))
    (λ s values. ap (λ q. parts_of q (operand_value s values a)) is ∙ ap (λ (f : Value → List Value). f (operand_value s values a)) (parts_equal w))

pub map_more : (ts : List Ty) (t : Ty) → map ir_type_of (ts ++ t ∷ []) ≡ map ir_type_of ts ++ ir_type_of t ∷ []
map_more [] t = refl
map_more (s ∷ ts) t = ap (λ xs. ir_type_of s ∷ xs) (map_more ts t)

values_more : (f : Operand → Value) (os : List Operand) (o : Operand) → map f (os ++ o ∷ []) ≡ map f os ++ f o ∷ []
values_more f [] o = refl
values_more f (p ∷ os) o = ap (λ xs. f p ∷ xs) (values_more f os o)

pub bound_binds : (nodes : Nodes) (a : Operand) (before all : List Operand) (p : Shape) → p ≡ shape.Bound → all ≡ before ++ a ∷ [] → BindsTo p a nodes nodes before all
bound_binds nodes a before all p is all_is certain t ts us built h own e =
    subst (λ os. StandBehind nodes nodes before os us (λ s values. parts_of p (operand_value s values a))) (sym all_is) (record {
      grows = grows_none nodes built;
      have = subst (OperandsHaveTypes nodes (before ++ a ∷ [])) (sym (map_more ts t) ∙ ap (map ir_type_of) same) (have_more nodes before (map ir_type_of ts) a (ir_type_of t) own h);
      values = λ s values v.
          values_more (operand_value s values) before a
          ∙ ap (λ xs. map (operand_value s values) before ++ xs) (sym (ap (λ q. parts_of q (operand_value s values a)) is ∙ ap (λ (f : Value → List Value). f (operand_value s values a)) parts_bound));
    })
  where
    same : ts ++ t ∷ [] ≡ us
    same = some_same (ts ++ t ∷ []) us (sym (ap (λ q. binds_types certain q t ts) is ∙ ap (λ (f : BindsTypes). f t ts) (binds_bound certain)) ∙ e)

pub tuple_binds : (old new : Nodes) (a : Operand) (before all : List Operand) (p : Shape) (shapes : List Shape) → p ≡ shape.Tuple shapes → EachBindsTo shapes a old new before all → BindsTo p a old new before all
tuple_binds old new a before all p shapes is call certain t ts us built h own e =
    behind_as old new before all us (λ s values. each_parts (map parts_of shapes) (parts_in (operand_value s values a))) (λ s values. parts_of p (operand_value s values a))
    (λ s values v. sym (ap (λ q. parts_of q (operand_value s values a)) is ∙ ap (λ (g : Value → List Value). g (operand_value s values a)) (parts_tuple shapes)))
    (call certain found.first ts us built (subst (λ u. HasType old a (ir_type_of u)) (tuple_type t found.first found.is) h) own found.gives)
  where
    found : IsThen (parts_of_tuple t) (λ ss. binds_each (map (binds_types certain) shapes) ss ts) us
    found = then_is (parts_of_tuple t) (λ ss. binds_each (map (binds_types certain) shapes) ss ts) us (sym (ap (λ q. binds_types certain q t ts) is ∙ ap (λ (f : BindsTypes). f t ts) (binds_tuple certain shapes)) ∙ e)

-- ---- parts, one after the other

none_there : (xs ts us : List Ty) → binds_each [] xs ts ≡ Some us → ts ≡ us
none_there [] ts us e = some_same ts us e
none_there (x ∷ xs) ts us e = absurd (cc)

-- some parts are bound, and those that are left are to be
pub record BindsRest (shapes : List Shape) (tuple : Operand) (i : ℕ) (old new : Nodes) (before now : List Operand) (certain : Bool) (ss us : List Ty) : Type 0 where
  pub bound : List Ty
  pub rest : binds_each (map (binds_types certain) (drop i shapes)) (drop i ss) bound ≡ Some us
  pub parts : Value → List Value → List Value
  pub stand : StandBehind old new before now bound parts
  pub all : (s : Value) (values : List Value) → AreValues old.state old.list.items s values → parts s values ++ each_parts (map parts_of (drop i shapes)) (drop i (parts_in (operand_value s values tuple))) ≡ each_parts (map parts_of shapes) (parts_in (operand_value s values tuple))

abbrev pub BindsSo : List Shape → Operand → ℕ → Nodes → Nodes → List Operand → List Operand → Type 0
BindsSo shapes tuple i old new before now = (certain : Bool) (ss ts us : List Ty) → IsBuilt old → HasType old tuple (ir_type_of (ty.Tuple ss)) → OperandsHaveTypes old before (map ir_type_of ts) → binds_each (map (binds_types certain) shapes) ss ts ≡ Some us → BindsRest shapes tuple i old new before now certain ss us

pub binds_first : (nodes : Nodes) (tuple : Operand) (before : List Operand) (shapes : List Shape) → BindsSo shapes tuple 0 nodes nodes before before
binds_first nodes tuple before shapes certain ss ts us built h own e = record {
  bound = ts;
  rest = ap₂ (λ ps xs. binds_each (map (binds_types certain) ps) xs ts) (drop_none shapes) (drop_none ss) ∙ e;
  parts = λ s values. [];
  stand = nothing_behind nodes before ts ts (λ s values. []) built own refl (λ s values. refl);
  all = λ s values v. ap₂ (λ ps vs. each_parts (map parts_of ps) vs) (drop_none shapes) (drop_none (parts_in (operand_value s values tuple)));
}

pub binds_step : (s0 s1 s2 s3 : Nodes) (tuple part : Operand) (before some now : List Operand) (i : ℕ) (p : Shape) (shapes : List Shape) → i < length shapes → p ≡ get_or shapes i p → BindsSo shapes tuple i s0 s1 before some
    → ((us : List IrType) (u : IrType) → IsBuilt s1 → HasType s1 tuple (Tuple us []) → slice_get us i ≡ Some u → GivesValue s1 s2 part u (λ s values. on_tuple (element_at i) (operand_value s values tuple)))
    → BindsTo p part s2 s3 some now → BindsSo shapes tuple (i + 1) s0 s3 before now
binds_step s0 s1 s2 s3 tuple part before some now i p shapes less is so element next certain ss ts us built h own e = by (drop i ss) refl (subst (λ ps. binds_each (map (binds_types certain) ps) (drop i ss) sofar.bound ≡ Some us) here sofar.rest)
  where
    sofar : BindsRest shapes tuple i s0 s1 before some certain ss us
    sofar = so certain ss ts us built h own e

    here : drop i shapes ≡ p ∷ drop (suc i) shapes
    here = drop_at shapes i p less is

    step : i + 1 ≡ suc i
    step = omega arith

    by : (xs : List Ty) → drop i ss ≡ xs → binds_each (map (binds_types certain) (p ∷ drop (suc i) shapes)) xs sofar.bound ≡ Some us → BindsRest shapes tuple (i + 1) s0 s3 before now certain ss us
    by [] q k = absurd (cc)
    by (t ∷ xs) q k =
        let head = head_is ss i t xs q in
        let found = then_is (binds_types certain p t sofar.bound) (binds_each (map (binds_types certain) (drop (suc i) shapes)) xs) us k in
        let there = has_later s0 s1 tuple (ir_type_of (ty.Tuple ss)) sofar.stand.grows h in
        let a = element_put s1 s2 tuple part i element ss t sofar.stand.grows.built there head.here in
        let b = next certain t sofar.bound found.first a.grows.built a.has (have_later s1 s2 some (map ir_type_of sofar.bound) a.grows sofar.stand.have) found.is in
        let grows = grows_twice s1 s2 s3 a.grows b.grows in
        record {
          bound = found.first;
          rest = ap₂ (λ ps ys. binds_each (map (binds_types certain) ps) ys found.first) (ap (λ n. drop n shapes) step) (ap (λ n. drop n ss) step ∙ head.later) ∙ found.gives;
          parts = λ s values. sofar.parts s values ++ parts_of p (on_tuple (element_at i) (operand_value s values tuple));
          stand = record {
            grows = grows_twice s0 s1 s3 sofar.stand.grows grows;
            have = b.have;
            values = λ s values v.
                let v2 = values_earlier s2 s3 b.grows s values v in
                let v1 = values_earlier s1 s2 a.grows s values v2 in
                b.values s values v
                ∙ (ap₂ (λ ys x. ys ++ parts_of p x) (sofar.stand.values s values v1) (a.value s values v2)
                ∙ append_assoc (map (operand_value s values) before) (sofar.parts s values) (parts_of p (on_tuple (element_at i) (operand_value s values tuple))));
          };
          all = λ s values v.
              let x = operand_value s values tuple in
              let at = part_at ss i t xs x (typed_value s0 tuple (ty.Tuple ss) h s values v) q in
              append_assoc (sofar.parts s values) (parts_of p (on_tuple (element_at i) x)) (each_parts (map parts_of (drop (i + 1) shapes)) (drop (i + 1) (parts_in x)))
              ∙ (ap (λ ys. sofar.parts s values ++ ys)
              (ap₂ (λ y ys. parts_of p y ++ each_parts (map parts_of (drop (i + 1) shapes)) ys) at.is (ap (λ n. drop n (parts_in x)) step ∙ at.later)
              ∙ (ap (λ ps. parts_of p at.part ++ each_parts (map parts_of ps) at.rest) (ap (λ n. drop n shapes) step)
              ∙ sym (ap₂ (λ ps ys. each_parts (map parts_of ps) ys) here at.here)))
              ∙ sofar.all s values v);
        }

pub binds_last : (old new : Nodes) (tuple : Operand) (before now : List Operand) (i : ℕ) (shapes : List Shape) → length shapes ≤ i → BindsSo shapes tuple i old new before now → EachBindsTo shapes tuple old new before now
binds_last old new tuple before now i shapes done so certain ss ts us built h own e = record {
  grows = all.stand.grows;
  have = subst (λ xs. OperandsHaveTypes new now (map ir_type_of xs)) same all.stand.have;
  values = λ s values v.
      all.stand.values s values v
      ∙ ap (λ ys. map (operand_value s values) before ++ ys)
      (sym (append-nil (all.parts s values))
      ∙ (ap (λ ps. all.parts s values ++ each_parts (map parts_of ps) (drop i (parts_in (operand_value s values tuple)))) (sym ended)
      ∙ all.all s values (values_earlier old new all.stand.grows s values v)));
}
  where
    all : BindsRest shapes tuple i old new before now certain ss us
    all = so certain ss ts us built h own e

    ended : drop i shapes ≡ []
    ended = drop_end shapes i done

    same : all.bound ≡ us
    same = none_there (drop i ss) all.bound us (sym (ap (λ ps. binds_each (map (binds_types certain) ps) (drop i ss) all.bound) ended) ∙ all.rest)

-- ---- arms

abbrev pub ArmBindsTo : List Shape → Operand → Nodes → Nodes → List Operand → List Operand → Type 0
ArmBindsTo shapes a old new before all = (t : Ty) (ts us : List Ty) → IsBuilt old → HasType old a (ir_type_of t) → OperandsHaveTypes old before (map ir_type_of ts) → arm_binds shapes t ts ≡ Some us → StandBehind old new before all us (λ s values. arm_parts shapes (operand_value s values a))

pub arm_binds_one : (old new : Nodes) (a : Operand) (before all : List Operand) (p : Shape) (shapes : List Shape) → shapes ≡ p ∷ [] → BindsTo p a old new before all → ArmBindsTo shapes a old new before all
arm_binds_one old new a before all p shapes is call = subst (λ xs. ArmBindsTo xs a old new before all) (sym is) (λ t ts us built h own e. call false t ts us built h own e)

where_same : (b : Bool) (ts us : List Ty) → where_true b (Some ts) ≡ Some us → ts ≡ us
where_same true ts us h = some_same ts us h
where_same false ts us h = absurd (cc)

pub arm_binds_none : (nodes : Nodes) (a : Operand) (before : List Operand) → ArmBindsTo [] a nodes nodes before before
arm_binds_none nodes a before t ts us built h own e = nothing_behind nodes before ts us (λ s values. []) built own (some_same ts us e) (λ s values. refl)

pub arm_binds_several : (nodes : Nodes) (a : Operand) (before : List Operand) (p q : Shape) (ps shapes : List Shape) → shapes ≡ p ∷ q ∷ ps → ArmBindsTo shapes a nodes nodes before before
arm_binds_several nodes a before p q ps shapes is = subst (λ xs. ArmBindsTo xs a nodes nodes before before) (sym is) (λ t ts us built h own e. nothing_behind nodes before ts us (λ s values. []) built own (where_same (each_binds_none (p ∷ q ∷ ps) t ts) ts us e) (λ s values. refl))

pub arm_binds_other : (nodes : Nodes) (a : Operand) (before : List Operand) (shapes : List Shape) → (length shapes ≡ 1 → ⊥) → ArmBindsTo shapes a nodes nodes before before
arm_binds_other nodes a before [] none = arm_binds_none nodes a before
arm_binds_other nodes a before (p ∷ []) none = absurd (none refl)
arm_binds_other nodes a before (p ∷ q ∷ ps) none = arm_binds_several nodes a before p q ps (p ∷ q ∷ ps) refl
