-- All items of a text are known: the induction on chains of items.
use Rattle.std.proofs.Common.{◌*◌, ◌≡◌, ℕ, zero, suc, Bool, true, false, List, [], ◌∷◌, length, Option, Some, None, refl, sym, ap, subst, ◌∙◌}
use mathlib.Core.Bool.{true≢false}
use Rattle.dslx_tree.specs.declared.item.Definition.{Definition}
use Rattle.dslx_tree.specs.declared.item.Definition.TheVariants as d
use Rattle.dslx_tree.specs.declared.item.Module.{Module}
use Rattle.dslx_meaning.specs.Items.{as_enum, as_function, as_struct, is_constant_item, item_named}
use Rattle.dslx_meaning.specs.Values.{type_of_value}
use Rattle.dslx_meaning.specs.declared.ty.DslxType.{DslxType, Struct}
use Rattle.dslx_meaning.specs.declared.value.DslxValue.{DslxValue}
use Rattle.dslx_meaning.specs.Rules.TypeEnvs.{GlobalEnv}
use Rattle.dslx_meaning.specs.Rules.Mentions.{Use, AsValue, AsPattern, AsType, AsFunction, AsProc, AsEnum, AsStruct, is_of_use}
use Rattle.dslx_meaning.specs.Rules.ModuleRules.{globals_of, globals_within}
use Rattle.dslx_core.specs.Typing.Typed.Complete.{IsComplete}
use Rattle.dslx_core.specs.Typing.Typed.Declared.{AllDeclared, Declarations, IsDeclared}
use Rattle.dslx_core.specs.Typing.Typed.Given.{GivesOf}
use Rattle.dslx_core.proofs.Lemmas.Typing.Typed.{none_some, same_some}
use Rattle.dslx_core.proofs.Lemmas.Typing.TypingRelations.{function_is, instances_reach, den_reach, whole_is}
use Rattle.dslx_core.specs.Typing.Depends.Alike.{DeclaredAlike, UseAlike}
use Rattle.dslx_core.proofs.Lemmas.Typing.Depends as of
use Rattle.dslx_core.proofs.Lemmas.Typing.Depends.{every_item_settles, settles, settles_closed}
use Rattle.dslx_core.specs.Typing.Complete.HasValue.{AreTyped, DeclareMore}
use Rattle.dslx_core.proofs.Lemmas.Typing.Complete.{declared_stays, gives_still}
use Rattle.dslx_core.specs.Typing.GlobalEnv.Filled.{filled, filler_type, nothing_typed, refused}
use Rattle.dslx_core.specs.Typing.GlobalEnv.WellTypedParts.{EachItemWellTyped}
use Rattle.dslx_core.specs.Typing.GlobalEnv.Passing.{PassingHaveValues}
use Rattle.dslx_core.proofs.OnTyping.OnGlobals.Filling.{struct_item}
use Rattle.dslx_core.proofs.OnTyping.OnGlobals.Next as of_next
use Rattle.dslx_core.proofs.OnTyping.OnGlobals.Next.{constant_item, enum_item}
use Rattle.dslx_core.proofs.OnTyping.OnGlobals.NextFunctions.{function_next}
use Rattle.dslx_core.proofs.OnTyping.OnGlobals.OnFilled.{other, pass, stage_filled}

no_constant_use : (o : Option Definition) → is_constant_item o ≡ false → is_of_use AsValue o ≡ false
no_constant_use (Some (d.Constant c)) e = absurd (true≢false e)
no_constant_use (Some (d.Function f)) e = refl
no_constant_use (Some (d.Proc p)) e = refl
no_constant_use (Some (d.Alias a)) e = refl
no_constant_use (Some (d.Struct s)) e = refl
no_constant_use (Some (d.Enum n)) e = refl
no_constant_use None e = refl

module _ (m : Module) (well_typed : EachItemWellTyped m) where
  abbrev K : GlobalEnv
  K = globals_of m

  text : K.whole ≡ m
  text = whole_is m (2 * length m.items)

  at_text : {X : Type 0} (name : List ℕ) (g : Option Definition → X) → g (item_named name m.items) ≡ g (item_named name K.whole.items)
  at_text name g = λ i. g (item_named name (sym text i).items)

  kind : (n : ℕ) (name : List ℕ) → (globals_within m n).items.is_constant name ≡ is_constant_item (item_named name m.items)
  kind zero name = refl
  kind (suc n) name = λ i. is_constant_item (item_named name (whole_is m n i).items)

  -- ---- by chains of so many items

  first : (w : ℕ) → PassingHaveValues w (settles m zero) K
  first w = record {
    kinds = λ name. kind (2 * length m.items) name ∙ at_text name is_constant_item;
    others = λ name e. of.constant_unknown m (2 * length m.items) name (no_constant_use (item_named name m.items) (at_text name is_constant_item ∙ e));
    constants = λ name p c. absurd (true≢false (sym p));
    types = λ name p u. absurd (true≢false (sym p));
    declared = λ name t p e. absurd (true≢false (sym p));
    parts = λ name own fields ts p e. absurd (true≢false (sym p));
    structs = λ name s p e. absurd (true≢false (sym p));
    members = λ name member x t p e h z. absurd (true≢false (sym p));
    functions = λ name f p e. absurd (true≢false (sym p));
  }

  alike_filled : (w k : ℕ) (owner : List ℕ) → settles m k owner ≡ true → DeclaredAlike (filled w (settles m k) K) K owner
  alike_filled w k owner p = record {
    parameter = λ before. sym (pass (settles m k owner) (K.parameter_in owner before) refused p);
    default = λ before. sym (pass (settles m k owner) (K.default_in owner before) (record { judgement = refused; value = None }) p);
    signature = λ values many. sym (pass (settles m k owner) (K.signature_in owner values) (nothing_typed (item_named owner K.whole.items)) p);
  }

  one_more : (k : ℕ) → ((w : ℕ) → PassingHaveValues w (settles m k) K) → (w : ℕ) → PassingHaveValues w (settles m (suc k)) K
  one_more k stand w = record {
    kinds = (stand w).kinds;
    others = (stand w).others;
    constants = λ name q c. let r = constant_item (item_named name m.items) (at_text name is_constant_item ∙ c) in of_next.constant_next m well_typed k stand w name r.0 q r.1;
    types = λ name q u. of_next.type_next m well_typed k stand name q (at_text name (is_of_use AsType) ∙ u);
    declared = λ name t q e. of_next.declared_next m well_typed k stand w name t q e;
    parts = λ name own fields ts q e. of_next.parts_next m well_typed k stand w name own fields ts q e;
    structs = λ name s q e. of_next.struct_next m well_typed k stand w name s q (struct_item (item_named name m.items) s (at_text name as_struct ∙ e));
    members = λ name member x t q e h z. of_next.member_next m well_typed k stand w name member x t q (enum_item (item_named name m.items) x (at_text name as_enum ∙ e)) h z;
    functions = λ name f q e.
        let is = function_is (item_named name m.items) f (at_text name as_function ∙ e) in
        function_next m well_typed k stand (filled w (settles m (suc k)) K) (stage_filled m w (suc k)) (of_next.carry m well_typed k stand w) name f is q
        (alike_filled w (suc k) f.name.name (ap (settles m (suc k)) (of_next.again m well_typed k stand name (d.Function f) is) ∙ q));
  }

  stands : (k w : ℕ) → PassingHaveValues w (settles m k) K
  stands zero w = first w
  stands (suc k) w = one_more k (stands k) w

  -- ---- by as many as there are

  abbrev P : List ℕ → Bool
  P = settles m (length m.items)

  abbrev types : Declarations
  types = (filled 1 P K).items.type_named

  all_have_values : (w : ℕ) → PassingHaveValues w P K
  all_have_values w = stands (length m.items) w

  type_passes : (name : List ℕ) → is_of_use AsType (item_named name m.items) ≡ true → P name ≡ true
  type_passes name u = by_item (item_named name m.items) refl u
    where
      by_item : (o : Option Definition) → item_named name m.items ≡ o → is_of_use AsType o ≡ true → P name ≡ true
      by_item (Some (d.Alias x)) q v = every_item_settles m name (d.Alias x) q refl
      by_item (Some (d.Struct x)) q v = every_item_settles m name (d.Struct x) q refl
      by_item (Some (d.Enum x)) q v = every_item_settles m name (d.Enum x) q refl
      by_item (Some (d.Constant x)) q v = absurd (true≢false (sym v))
      by_item (Some (d.Function x)) q v = absurd (true≢false (sym v))
      by_item (Some (d.Proc x)) q v = absurd (true≢false (sym v))
      by_item None q v = absurd (true≢false (sym v))

  named_type : (name : List ℕ) (t : DslxType) → K.items.type_named name ≡ Some t → P name ≡ true
  named_type name t e = by_use (is_of_use AsType (item_named name m.items)) refl
    where
      by_use : (b : Bool) → is_of_use AsType (item_named name m.items) ≡ b → P name ≡ true
      by_use true u = type_passes name u
      by_use false u = none_some t (sym (of.type_unknown m (2 * length m.items) name u) ∙ e)

  filler_use : (o : Option Definition) (t : DslxType) → filler_type 1 o ≡ Some t → is_of_use AsType o ≡ true
  filler_use (Some (d.Alias x)) t e = refl
  filler_use (Some (d.Struct x)) t e = refl
  filler_use (Some (d.Enum x)) t e = refl
  filler_use (Some (d.Constant x)) t e = none_some t e
  filler_use (Some (d.Function x)) t e = none_some t e
  filler_use (Some (d.Proc x)) t e = none_some t e
  filler_use None t e = none_some t e

  more_declared : DeclareMore types K.items.type_named
  more_declared name t e = by_test (P name) refl
    where
      by_test : (b : Bool) → P name ≡ b → K.items.type_named name ≡ Some t
      by_test true p = pass (P name) (K.items.type_named name) (filler_type 1 (item_named name K.whole.items)) p ∙ e
      by_test false p =
          let f = sym (other (P name) (K.items.type_named name) (filler_type 1 (item_named name K.whole.items)) p) ∙ e in
          let u = at_text name (is_of_use AsType) ∙ filler_use (item_named name K.whole.items) t f in
          absurd (true≢false (sym (type_passes name u) ∙ p))

  stays : (t : DslxType) → IsDeclared types t → IsDeclared K.items.type_named t
  stays t h = declared_stays types K.items.type_named more_declared t h

  all_stay : (ts : List DslxType) → AllDeclared types ts → AllDeclared K.items.type_named ts
  all_stay [] h = tt
  all_stay (t ∷ ts) h = (stays t h.0, all_stay ts h.1)

  one_use : (u : Use) (name : List ℕ) → UseAlike K K u name
  one_use AsValue name = refl
  one_use AsPattern name = refl
  one_use AsType name = refl
  one_use AsFunction name = record {
    call = λ parametric_args operands. refl;
    function = λ f e. record { declared = record { parameter = λ before. refl; default = λ before. refl; signature = λ values many. refl }; size = λ parametric_args many. refl };
  }
  one_use AsProc name = tt
  one_use AsEnum name = record { ty = λ e q. refl; members = λ member. refl }
  one_use AsStruct name = refl

  stage_whole : (k : ℕ) → of.Stage (settles m k) m K K
  stage_whole k = record {
    text = text;
    known = record { whole = refl; kinds = λ name. refl; cyclic = λ owner name. refl; sound = λ i e. refl; unbroken = λ i e. refl };
    uses = λ u name h. one_use u name;
    reach = λ owner ms h. den_reach (settles m k) m (settles_closed m k) (2 * length m.items) owner ms h;
    reached = λ i h. instances_reach (settles m k) m (settles_closed m k) (2 * length m.items) i h;
  }

  pub all_known : IsComplete K
  all_known = record {
    kinds = (all_have_values 1).kinds;
    constants = λ name c.
        let there = sym ((all_have_values 1).kinds name) ∙ c in
        let r = constant_item (item_named name m.items) (at_text name is_constant_item ∙ there) in
        let v = (all_have_values 1).constants name (every_item_settles m name (d.Constant r.0) r.1 refl) there in
        (v.0, v.1);
    types = λ name u. (all_have_values 1).types name (type_passes name (at_text name (is_of_use AsType) ∙ u)) u;
    declared = λ name t e. stays t ((all_have_values 1).declared name t (named_type name t e) e);
    parts = record { fields = λ name own fields ts e. all_stay ts ((all_have_values 1).parts name own fields ts (named_type name (Struct own fields ts) e) e) };
    structs = λ name s e.
        let is = struct_item (item_named name m.items) s (at_text name as_struct ∙ e) in
        let h = (all_have_values 1).structs name s (every_item_settles m name (d.Struct s) is refl) e in
        record { own = h.own; names = h.names; fields = h.fields; is = h.is; written = h.written; each = h.each; declared = stays (Struct h.own h.names h.fields) h.declared };
    functions = λ name f e.
        let is = function_is (item_named name m.items) f (at_text name as_function ∙ e) in
        let here = every_item_settles m name (d.Function f) is refl in
        function_next m well_typed (length m.items) (stands (length m.items)) K (stage_whole (suc (length m.items))) (λ t one two. stays t one) name f is
        (of_next.more m well_typed (length m.items) (stands (length m.items)) name here)
        (record { parameter = λ before. refl; default = λ before. refl; signature = λ values many. refl });
  }

  pub all_typed : AreTyped K
  all_typed = record {
    constants = λ name v e. by_kind name v e (is_constant_item (item_named name m.items)) refl;
    members = λ name member x t e h z.
        let is = enum_item (item_named name m.items) x (at_text name as_enum ∙ e) in
        gives_still types K.items.type_named more_declared t (K.items.member name member) ((all_have_values 1).members name member x t (every_item_settles m name (d.Enum x) is refl) e h z);
  }
    where
      by_kind : (name : List ℕ) (v : DslxValue) → K.items.constant name ≡ Some v → (b : Bool) → is_constant_item (item_named name m.items) ≡ b → GivesOf K.items.type_named (type_of_value v) (Some v)
      by_kind name v e true c =
          let r = constant_item (item_named name m.items) c in
          let k = (all_have_values 1).constants name (every_item_settles m name (d.Constant r.0) r.1 refl) (sym (at_text name is_constant_item) ∙ c) in
          gives_still types K.items.type_named more_declared (type_of_value v) (Some v) (subst (λ u. GivesOf types (type_of_value u) (Some u)) (same_some k.0 v (sym k.1 ∙ e)) k.2)
      by_kind name v e false c = none_some v (sym (of.constant_unknown m (2 * length m.items) name (no_constant_use (item_named name m.items) c)) ∙ e)
