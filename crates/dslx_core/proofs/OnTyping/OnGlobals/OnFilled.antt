-- Of items whose names pass, the same is known with something else in the place of all others.
use Rattle.std.proofs.Common.{◌*◌, ◌≡◌, ◌&&◌, ℕ, Bool, true, false, if◌then◌else◌, List, length, Option, Some, None, refl, sym, ap, ◌∙◌}
use mathlib.Core.Bool.{true≢false}
use Rattle.dslx_tree.specs.declared.item.Definition.{Definition}
use Rattle.dslx_tree.specs.declared.item.Definition.TheVariants as d
use Rattle.dslx_tree.specs.declared.item.Function.{Function}
use Rattle.dslx_tree.specs.declared.item.Module.{Module}
use Rattle.dslx_meaning.specs.Items.{item_named}
use Rattle.dslx_meaning.specs.Rules.TypeEnvs.{DefaultSeen, GlobalEnv}
use Rattle.dslx_meaning.specs.Rules.Mentions.{Use, AsValue, AsPattern, AsType, AsFunction, AsProc, AsEnum, AsStruct, is_of_use}
use Rattle.dslx_meaning.specs.Rules.ModuleRules.{globals_of}
use Rattle.dslx_core.proofs.Lemmas.Typing.TypingRelations.{function_is, instances_reach, item_so_named, den_reach, whole_is}
use Rattle.dslx_core.specs.Typing.Depends.Alike.{FunctionAlike, UseAlike}
use Rattle.dslx_core.proofs.Lemmas.Typing.Depends.{Sight, Stage, call_unknown, constant_unknown, member_unknown, mentions_pass, no_enum, no_function, settles, settles_closed, pattern_use, stage_sight, struct_unknown, type_unknown}
use Rattle.dslx_core.specs.Typing.GlobalEnv.Filled.{constant_filler, filled, filler_type, member_filler, nothing_typed, refused, struct_filler}

-- what is known where a name settles, and what is filled in where it doesn't
pub pass : {X : Type 0} (b : Bool) (x y : X) → b ≡ true → x ≡ (if b then x else y)
pass b x y e = λ i. if (sym e i) then x else y

pub other : {X : Type 0} (b : Bool) (x y : X) → b ≡ false → (if b then x else y) ≡ y
other b x y e = λ i. if (e i) then x else y

constant_none : (w : ℕ) (o : Option Definition) → is_of_use AsValue o ≡ false → constant_filler w o ≡ None
constant_none w (Some (d.Constant c)) e = absurd (true≢false e)
constant_none w (Some (d.Function f)) e = refl
constant_none w (Some (d.Proc p)) e = refl
constant_none w (Some (d.Alias a)) e = refl
constant_none w (Some (d.Struct s)) e = refl
constant_none w (Some (d.Enum n)) e = refl
constant_none w None e = refl

type_none : (w : ℕ) (o : Option Definition) → is_of_use AsType o ≡ false → filler_type w o ≡ None
type_none w (Some (d.Constant c)) e = refl
type_none w (Some (d.Function f)) e = refl
type_none w (Some (d.Proc p)) e = refl
type_none w (Some (d.Alias a)) e = absurd (true≢false e)
type_none w (Some (d.Struct s)) e = absurd (true≢false e)
type_none w (Some (d.Enum n)) e = absurd (true≢false e)
type_none w None e = refl

struct_none : (w : ℕ) (o : Option Definition) → is_of_use AsStruct o ≡ false → struct_filler w o ≡ None
struct_none w (Some (d.Constant c)) e = refl
struct_none w (Some (d.Function f)) e = refl
struct_none w (Some (d.Proc p)) e = refl
struct_none w (Some (d.Alias a)) e = refl
struct_none w (Some (d.Struct s)) e = absurd (true≢false e)
struct_none w (Some (d.Enum n)) e = refl
struct_none w None e = refl

member_none : (w : ℕ) (o : Option Definition) → is_of_use AsEnum o ≡ false → member_filler w o ≡ None
member_none w (Some (d.Constant c)) e = refl
member_none w (Some (d.Function f)) e = refl
member_none w (Some (d.Proc p)) e = refl
member_none w (Some (d.Alias a)) e = refl
member_none w (Some (d.Struct s)) e = refl
member_none w (Some (d.Enum n)) e = absurd (true≢false e)
member_none w None e = refl

module _ (m : Module) (w k : ℕ) where
  abbrev K : GlobalEnv
  K = globals_of m

  abbrev P : List ℕ → Bool
  P = settles m k

  abbrev F : GlobalEnv
  F = filled w P K

  abbrev item_of : List ℕ → Option Definition
  item_of name = item_named name K.whole.items

  text : K.whole ≡ m
  text = whole_is m (2 * length m.items)

  abbrev nothing_seen : DefaultSeen
  nothing_seen = record { judgement = refused; value = None }

  function_alike : (f : Function) → P f.name.name ≡ true → FunctionAlike K F f
  function_alike f p = record {
    declared = record {
      parameter = λ before. pass (P f.name.name) (K.parameter_in f.name.name before) refused p;
      default = λ before. pass (P f.name.name) (K.default_in f.name.name before) nothing_seen p;
      signature = λ values many. pass (P f.name.name) (K.signature_in f.name.name values) (nothing_typed (item_named f.name.name K.whole.items)) p;
    };
    size = λ parametric_args many. refl;
  }

  used : (u : Use) (name : List ℕ) → P name ≡ true → UseAlike K F u name
  used AsValue name p = pass (P name) (K.items.constant name) (constant_filler w (item_of name)) p
  used AsPattern name p = pass (P name) (K.items.constant name) (constant_filler w (item_of name)) p
  used AsType name p = pass (P name) (K.items.type_named name) (filler_type w (item_of name)) p
  used AsFunction name p = record {
    call = λ parametric_args operands. pass (P name) (K.items.call name parametric_args operands) None p;
    function = λ f e. function_alike f (ap P (item_so_named K.whole.items name (d.Function f) (function_is (item_of name) f e)) ∙ p);
  }
  used AsProc name p = tt
  used AsEnum name p = record {
    ty = λ e q. pass (P name) (K.items.type_named name) (filler_type w (item_of name)) p;
    members = λ member. pass (P name) (K.items.member name member) (member_filler w (item_of name)) p;
  }
  used AsStruct name p = pass (P name) (K.items.struct_named name) (struct_filler w (item_of name)) p

  here : (u : Use) (name : List ℕ) → is_of_use u (item_named name m.items) ≡ false → is_of_use u (item_of name) ≡ false
  here u name e = (λ i. is_of_use u (item_named name (text i).items)) ∙ e

  no_value : (name : List ℕ) → P name ≡ false → is_of_use AsValue (item_named name m.items) ≡ false → K.items.constant name ≡ F.items.constant name
  no_value name p e =
      constant_unknown m (2 * length m.items) name e ∙ sym (other (P name) (K.items.constant name) (constant_filler w (item_of name)) p ∙ constant_none w (item_of name) (here AsValue name e))

  unused : (u : Use) (name : List ℕ) → P name ≡ false → is_of_use u (item_named name m.items) ≡ false → UseAlike K F u name
  unused AsValue name p e = no_value name p e
  unused AsPattern name p e = no_value name p (sym (pattern_use (item_named name m.items)) ∙ e)
  unused AsType name p e =
      type_unknown m (2 * length m.items) name e ∙ sym (other (P name) (K.items.type_named name) (filler_type w (item_of name)) p ∙ type_none w (item_of name) (here AsType name e))
  unused AsFunction name p e = record {
    call = λ parametric_args operands. call_unknown m (2 * length m.items) name parametric_args operands e ∙ sym (other (P name) (K.items.call name parametric_args operands) None p);
    function = λ f q. absurd (true≢false (no_function m (2 * length m.items) name f e q));
  }
  unused AsProc name p e = tt
  unused AsEnum name p e = record {
    ty = λ x q. absurd (true≢false (no_enum (item_of name) (here AsEnum name e) q));
    members = λ member. member_unknown m (2 * length m.items) name member e
        ∙ sym (other (P name) (K.items.member name member) (member_filler w (item_of name)) p ∙ member_none w (item_of name) (here AsEnum name e));
  }
  unused AsStruct name p e =
      struct_unknown m (2 * length m.items) name e ∙ sym (other (P name) (K.items.struct_named name) (struct_filler w (item_of name)) p ∙ struct_none w (item_of name) (here AsStruct name e))

  each_use : (u : Use) (name : List ℕ) → (is_of_use u (item_named name m.items) ≡ true → P name ≡ true) → UseAlike K F u name
  each_use u name h = by_test (P name) refl (is_of_use u (item_named name m.items)) refl
    where
      by_test : (b : Bool) → P name ≡ b → (c : Bool) → is_of_use u (item_named name m.items) ≡ c → UseAlike K F u name
      by_test true p c e = used u name p
      by_test false p true e = absurd (true≢false (sym (h e) ∙ p))
      by_test false p false e = unused u name p e

  pub stage_filled : Stage P m K F
  stage_filled = record {
    text = text;
    known = record {
      whole = refl;
      kinds = λ name. refl;
      cyclic = λ owner name. refl;
      sound = λ i e. λ j. (sym e j) && K.is_sound i;
      unbroken = λ i e. λ j. (sym e j) && K.is_unbroken i;
    };
    uses = each_use;
    reach = λ owner ms h. den_reach P m (settles_closed m k) (2 * length m.items) owner ms h;
    reached = λ i h. instances_reach P m (settles_closed m k) (2 * length m.items) i h;
  }

  pub sight_filled : Sight P (mentions_pass P m) (λ owner. P) m K F
  sight_filled = stage_sight P m K F (settles_closed m k) stage_filled
