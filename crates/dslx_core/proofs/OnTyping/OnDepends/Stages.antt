-- What is known by chains of items that are long enough.
use Rattle.std.proofs.Common.{◌≡◌, ◌&&◌, ◌++◌, ℕ, zero, suc, Bool, true, false, not, if◌then◌else◌, List, [], ◌∷◌, length, Option, Some, None, refl, sym, ap, subst, ◌∙◌}
use mathlib.Core.Bool.{true≢false}
use Rattle.std.specs.Prelude.{flat_map}
use Rattle.std.specs.List.{list_all}
use Rattle.dslx_tree.specs.declared.expr.Expr.{Expr}
use Rattle.dslx_tree.specs.declared.item.Definition.{Definition}
use Rattle.dslx_tree.specs.declared.item.Definition.TheVariants as d
use Rattle.dslx_tree.specs.declared.item.Enum.{Enum}
use Rattle.dslx_tree.specs.declared.item.Field.{Field}
use Rattle.dslx_tree.specs.declared.item.Function.{Function}
use Rattle.dslx_tree.specs.declared.item.Member.{Member}
use Rattle.dslx_tree.specs.declared.item.Module.{Module}
use Rattle.dslx_tree.specs.declared.item.Parametric.{Parametric}
use Rattle.dslx_tree.specs.declared.type_expr.TypeExpr.{TypeExpr}
use Rattle.dslx_meaning.specs.Items.{as_constant, as_enum, as_function, as_struct, call_of, is_constant_item, item_named, member_named, name_of_definition}
use Rattle.dslx_meaning.specs.Lists.{and_then}
use Rattle.dslx_meaning.specs.declared.ty.DslxType.{DslxType}
use Rattle.dslx_meaning.specs.declared.value.DslxValue.{DslxValue}
use Rattle.dslx_meaning.specs.Rules.ItemRules.{ConstantFound, FunctionSeen, TypeFound, constant_seen, enum_member_value, function_seen, struct_seen}
use Rattle.dslx_meaning.specs.Rules.TypeEnvs.{Instance, GlobalEnv, Judgement}
use Rattle.dslx_meaning.specs.Rules.Mentions.{Use, AsValue, AsPattern, AsType, AsFunction, AsProc, AsEnum, AsStruct, Mention, definition_mentions, expr_if, field_names, fields_mentions, is_of_use, mentioned, mentioned_in_block, mentioned_in_type, mentions_of, names_mentioned, parametric_names, parametrics_mentions, type_if, is_cyclic, item_reaches}
use Rattle.dslx_meaning.specs.Rules.ModuleRules.{found_of_instance, found_of_item, globals_over, globals_within, size_known, sound_instance, type_known, unbroken_instance}
use Rattle.dslx_core.specs.Typing.TypingRelations.Reached.{AllNamed}
use Rattle.dslx_core.proofs.Lemmas.Typing.TypingRelations.{function_is, item_so_named, whole_is}
use Rattle.dslx_core.specs.Typing.Depends.Alike.{CalleeAlike, EnumAlike, FunctionAlike, GlobalsAgree, UseAlike}
use Rattle.dslx_core.proofs.OnTyping.OnDepends.Bindings.{binding_broken, binds_constant, names_constant, no_constants}
use Rattle.dslx_core.proofs.OnTyping.OnDepends.NoProcs.{IsNoProc, NoProcs, no_proc_in_block, no_proc_in_expression, no_proc_in_type, no_procs_join}
use Rattle.dslx_core.proofs.OnTyping.OnTyped.TypingRelations.{or_false}
use Rattle.dslx_core.proofs.OnTyping.OnDepends.OfItems as of
use Rattle.dslx_core.proofs.OnTyping.OnDepends.OfItems.{Sight}

abbrev there : {A : Type 0} → Option A → Bool
there None = false
there (Some a) = true

pub pattern_use : (o : Option Definition) → is_of_use AsPattern o ≡ is_of_use AsValue o
pattern_use (Some (d.Constant c)) = refl
pattern_use (Some (d.Function f)) = refl
pattern_use (Some (d.Proc p)) = refl
pattern_use (Some (d.Alias x)) = refl
pattern_use (Some (d.Struct x)) = refl
pattern_use (Some (d.Enum x)) = refl
pattern_use None = refl

-- a call of what reaches itself has no value
abbrev pub call_unless : Bool → Option DslxValue → Option DslxValue
call_unless loops v = if loops then None else v

pub unless_none : (loops : Bool) (v : Option DslxValue) → v ≡ None → call_unless loops v ≡ None
unless_none true v e = refl
unless_none false v e = e

abbrev pub is_proc_item : Option Definition → Bool
is_proc_item (Some (d.Proc p)) = true
is_proc_item _ = false

-- ---- an item over what it mentions

-- where the test of items passes, so does what they mention
abbrev pub MentionsOwn : (List ℕ → Bool) → (List ℕ → List ℕ → Bool) → Module → Type 0
MentionsOwn Q T m = (name : List ℕ) → Q name ≡ true → list_all (T name) (mentions_of m (item_named name m.items)) ≡ true

module _ (P Q : List ℕ → Bool) (T : List ℕ → List ℕ → Bool) (m : Module) (a b : GlobalEnv) (s : Sight P Q T m a b) (has : MentionsOwn Q T m) where
  abbrev pub Own : List ℕ → Type 0
  Own owner = Q owner ≡ true

  other_text : b.whole ≡ m
  other_text = sym s.known.whole ∙ s.text

  -- what is known of the item of a name, where it is the same of both
  pub at_item : {X : Type 0} (name : List ℕ) (f : GlobalEnv → Option Definition → X) → f a (item_named name m.items) ≡ f b (item_named name m.items) → f a (item_named name a.whole.items) ≡ f b (item_named name b.whole.items)
  at_item name f e = (λ i. f a (item_named name (s.text i).items)) ∙ e ∙ sym (λ i. f b (item_named name (other_text i).items))

  pub named_again : (name : List ℕ) (x : Definition) → item_named name m.items ≡ Some x → item_named (name_of_definition x) m.items ≡ Some x
  named_again name x q = subst (λ n. item_named n m.items ≡ Some x) (sym (item_so_named m.items name x q)) q

  pub own_again : (name : List ℕ) (x : Definition) → item_named name m.items ≡ Some x → Own name → Own (name_of_definition x)
  own_again name x q own = ap Q (item_so_named m.items name x q) ∙ own

  -- an item's mentions
  pub own_mentions : (name : List ℕ) (x : Definition) → item_named name m.items ≡ Some x → Own name → list_all (T (name_of_definition x)) (names_mentioned m (definition_mentions x)) ≡ true
  own_mentions name x q own = (λ i. list_all (T (name_of_definition x)) (mentions_of m (sym (named_again name x q) i))) ∙ has (name_of_definition x) (own_again name x q own)

  function_at : (name : List ℕ) (f : Function) → item_named name m.items ≡ Some (d.Function f) → Own name → binds_constant m f ≡ false → (parametric_args : List DslxValue) → function_seen a f parametric_args ≡ function_seen b f parametric_args
  function_at name f q own free parametric_args =
      let names = or_false (names_constant m (parametric_names f.parametrics)) (names_constant m (field_names f.arguments)) free in
      of.function_at P Q T m a b s f (own_again name (d.Function f) q own) (of.function_parts T m f (own_mentions name (d.Function f) q own))
      (of.plain_names P Q T m a b s (parametric_names f.parametrics) (no_constants m (parametric_names f.parametrics) names.0)) (of.plain_names P Q T m a b s (field_names f.arguments) (no_constants m (field_names f.arguments) names.1)) parametric_args

  -- instances of what is no proc: those of functions that bind the name of a constant break rule 2 in both
  abbrev BothAlike : Instance → Type 0
  BothAlike k = (sound_instance a k ≡ sound_instance b k) × (unbroken_instance a k ≡ unbroken_instance b k)

  both_alike : (k : Instance) → Own k.name → is_proc_item (item_named k.name m.items) ≡ false → AllNamed P (found_of_instance a k).reached → BothAlike k
  both_alike k own other reached = by_item (item_named k.name m.items) refl other
    where
      from : found_of_item a k.parametric_args (item_named k.name m.items) ≡ found_of_item b k.parametric_args (item_named k.name m.items) → BothAlike k
      from e =
          let same : found_of_instance a k ≡ found_of_instance b k = at_item k.name (λ known o. found_of_item known k.parametric_args o) e in
          (of.sound_at P Q T m a b s k reached same, of.unbroken_at P Q T m a b s k reached same)

      by_binding : (f : Function) → item_named k.name m.items ≡ Some (d.Function f) → (t : Bool) → binds_constant m f ≡ t → BothAlike k
      by_binding f q true e =
          let x = binding_broken m a s.text k f q e in
          let y = binding_broken m b other_text k f q e in
          (x.0 ∙ sym y.0, x.1 ∙ sym y.1)
      by_binding f q false e = from (ap (found_of_item a k.parametric_args) q ∙ ap (λ (x : FunctionSeen). x.found) (function_at k.name f q own e k.parametric_args) ∙ sym (ap (found_of_item b k.parametric_args) q))

      by_item : (o : Option Definition) → item_named k.name m.items ≡ o → is_proc_item o ≡ false → BothAlike k
      by_item (Some (d.Function f)) q e = by_binding f q (binds_constant m f) refl
      by_item (Some (d.Proc p)) q e = absurd (true≢false e)
      by_item (Some (d.Constant c)) q e = from (ap (found_of_item a k.parametric_args) q ∙ sym (ap (found_of_item b k.parametric_args) q))
      by_item (Some (d.Alias t)) q e = from (ap (found_of_item a k.parametric_args) q ∙ sym (ap (found_of_item b k.parametric_args) q))
      by_item (Some (d.Struct t)) q e = from (ap (found_of_item a k.parametric_args) q ∙ sym (ap (found_of_item b k.parametric_args) q))
      by_item (Some (d.Enum n)) q e = from (ap (found_of_item a k.parametric_args) q ∙ sym (ap (found_of_item b k.parametric_args) q))
      by_item None q e = from (ap (found_of_item a k.parametric_args) q ∙ sym (ap (found_of_item b k.parametric_args) q))

  -- ---- each use

  abbrev constant_over : GlobalEnv → Option Definition → Option DslxValue
  constant_over known o = and_then (as_constant o) (λ c. (constant_seen known c).value)

  constant_at : (name : List ℕ) (o : Option Definition) → item_named name m.items ≡ o → (is_of_use AsValue o ≡ true → Own name) → constant_over a o ≡ constant_over b o
  constant_at name (Some (d.Constant c)) q own =
      ap (λ (x : ConstantFound). x.value) (of.constant_item_at P Q T m a b s c (own_again name (d.Constant c) q (own refl)) (own_mentions name (d.Constant c) q (own refl)))
  constant_at name (Some (d.Function f)) q own = refl
  constant_at name (Some (d.Proc p)) q own = refl
  constant_at name (Some (d.Alias t)) q own = refl
  constant_at name (Some (d.Struct t)) q own = refl
  constant_at name (Some (d.Enum n)) q own = refl
  constant_at name None q own = refl

  type_at : (name : List ℕ) (o : Option Definition) → item_named name m.items ≡ o → (is_of_use AsType o ≡ true → Own name) → type_known a o ≡ type_known b o
  type_at name (Some (d.Alias x)) q own = ap (λ (t : TypeFound). t.ty) (of.alias_at P Q T m a b s x (own_again name (d.Alias x) q (own refl)) (own_mentions name (d.Alias x) q (own refl)))
  type_at name (Some (d.Struct x)) q own = ap (λ (t : TypeFound). t.ty) (of.struct_at P Q T m a b s x (own_again name (d.Struct x) q (own refl)) (own_mentions name (d.Struct x) q (own refl)))
  type_at name (Some (d.Enum x)) q own = ap (λ (t : TypeFound). t.ty) (of.enum_at P Q T m a b s x (own_again name (d.Enum x) q (own refl)) (own_mentions name (d.Enum x) q (own refl)))
  type_at name (Some (d.Function f)) q own = refl
  type_at name (Some (d.Proc p)) q own = refl
  type_at name (Some (d.Constant c)) q own = refl
  type_at name None q own = refl

  abbrev struct_over : GlobalEnv → Option Definition → Option DslxType
  struct_over known o = and_then (as_struct o) (λ x. (struct_seen known x).ty)

  struct_at : (name : List ℕ) (o : Option Definition) → item_named name m.items ≡ o → (is_of_use AsStruct o ≡ true → Own name) → struct_over a o ≡ struct_over b o
  struct_at name (Some (d.Struct x)) q own = ap (λ (t : TypeFound). t.ty) (of.struct_at P Q T m a b s x (own_again name (d.Struct x) q (own refl)) (own_mentions name (d.Struct x) q (own refl)))
  struct_at name (Some (d.Alias x)) q own = refl
  struct_at name (Some (d.Enum x)) q own = refl
  struct_at name (Some (d.Function f)) q own = refl
  struct_at name (Some (d.Proc p)) q own = refl
  struct_at name (Some (d.Constant c)) q own = refl
  struct_at name None q own = refl

  abbrev member_over : List ℕ → GlobalEnv → Option Definition → Option DslxValue
  member_over member known o = and_then (as_enum o) (λ x. enum_member_value known x member (member_named member x.members))

  member_at : (member name : List ℕ) (o : Option Definition) → item_named name m.items ≡ o → (is_of_use AsEnum o ≡ true → Own name) → member_over member a o ≡ member_over member b o
  member_at member name (Some (d.Enum x)) q own = of.named_member_at P Q T m a b s x (own_again name (d.Enum x) q (own refl)) (own_mentions name (d.Enum x) q (own refl)) member
  member_at member name (Some (d.Struct x)) q own = refl
  member_at member name (Some (d.Alias x)) q own = refl
  member_at member name (Some (d.Function f)) q own = refl
  member_at member name (Some (d.Proc p)) q own = refl
  member_at member name (Some (d.Constant c)) q own = refl
  member_at member name None q own = refl

  abbrev call_over : List DslxValue → List DslxValue → GlobalEnv → Option Definition → Option DslxValue
  call_over given operands known o = and_then (as_function o) (λ f. call_of known.items f given operands)

  abbrev size_over : List DslxValue → GlobalEnv → Option Definition → Option ℕ
  size_over parametric_args known o = size_known known parametric_args (as_function o)

  call_at : (given operands : List DslxValue) (name : List ℕ) (o : Option Definition) → item_named name m.items ≡ o → (is_of_use AsFunction o ≡ true → Own name) → call_over given operands a o ≡ call_over given operands b o
  call_at given operands name (Some (d.Function f)) q own = of.call_at P Q T m a b s f (own_again name (d.Function f) q (own refl)) (own_mentions name (d.Function f) q (own refl)) given operands
  call_at given operands name (Some (d.Enum x)) q own = refl
  call_at given operands name (Some (d.Struct x)) q own = refl
  call_at given operands name (Some (d.Alias x)) q own = refl
  call_at given operands name (Some (d.Proc p)) q own = refl
  call_at given operands name (Some (d.Constant c)) q own = refl
  call_at given operands name None q own = refl

  function_alike : (name : List ℕ) (f : Function) → item_named name m.items ≡ Some (d.Function f) → Own name → FunctionAlike (globals_over a) (globals_over b) f
  function_alike name f q own =
      let owner = own_again name (d.Function f) q own in
      let h = of.function_parts T m f (own_mentions name (d.Function f) q own) in
      record {
        declared = of.declared_over P Q T m a b s f (named_again name (d.Function f) q) owner h.parametrics h.arguments h.result;
        size = λ parametric_args many. at_item f.name.name (size_over parametric_args) (sized parametric_args many);
      }
    where
      sized : (parametric_args : List DslxValue) → length parametric_args ≡ length f.parametrics → size_over parametric_args a (item_named f.name.name m.items) ≡ size_over parametric_args b (item_named f.name.name m.items)
      sized parametric_args many =
          let again = named_again name (d.Function f) q in
          let h = of.function_parts T m f (own_mentions name (d.Function f) q own) in
          (λ i. size_over parametric_args a (again i)) ∙ ap (λ (j : Judgement). j.size) (of.body_alike P Q T m a b s f (own_again name (d.Function f) q own) h parametric_args many) ∙ sym (λ i. size_over parametric_args b (again i))

  callee_alike : (name : List ℕ) → (is_of_use AsFunction (item_named name m.items) ≡ true → Own name) → CalleeAlike (globals_over a) (globals_over b) name
  callee_alike name own = record {
    call = λ given operands.
        (λ i. call_unless (item_reaches (s.known.whole i) name name) (call_over given operands a (item_named name a.whole.items)))
        ∙ ap (call_unless (item_reaches b.whole name name)) (at_item name (call_over given operands) (call_at given operands name (item_named name m.items) refl own));
    function = λ f e.
        let q : item_named name m.items ≡ Some (d.Function f) = function_is (item_named name m.items) f ((λ i. as_function (item_named name (sym s.text i).items)) ∙ e) in
        function_alike name f q (own (ap (is_of_use AsFunction) q));
  }

  enum_alike : (name : List ℕ) → (is_of_use AsEnum (item_named name m.items) ≡ true → Own name) → EnumAlike (globals_over a) (globals_over b) name
  enum_alike name own = record {
    ty = λ e q. at_item name type_known (typed (item_named name m.items) refl ((λ i. as_enum (item_named name (sym s.text i).items)) ∙ q));
    members = λ member. at_item name (member_over member) (member_at member name (item_named name m.items) refl own);
  }
    where
      typed : {e : Enum} (o : Option Definition) → item_named name m.items ≡ o → as_enum o ≡ Some e → type_known a o ≡ type_known b o
      typed (Some (d.Enum x)) q k = type_at name (Some (d.Enum x)) q (λ t. own (ap (is_of_use AsEnum) q))
      typed (Some (d.Struct x)) q k = absurd (true≢false (sym (ap there k)))
      typed (Some (d.Alias x)) q k = absurd (true≢false (sym (ap there k)))
      typed (Some (d.Function f)) q k = absurd (true≢false (sym (ap there k)))
      typed (Some (d.Proc p)) q k = absurd (true≢false (sym (ap there k)))
      typed (Some (d.Constant c)) q k = absurd (true≢false (sym (ap there k)))
      typed None q k = absurd (true≢false (sym (ap there k)))

  -- each use of an item that mentions such alone
  pub uses_over : (u : Use) (name : List ℕ) → (is_of_use u (item_named name m.items) ≡ true → Own name) → UseAlike (globals_over a) (globals_over b) u name
  uses_over AsValue name own = at_item name constant_over (constant_at name (item_named name m.items) refl own)
  uses_over AsPattern name own = at_item name constant_over (constant_at name (item_named name m.items) refl (λ e. own (pattern_use (item_named name m.items) ∙ e)))
  uses_over AsType name own = at_item name type_known (type_at name (item_named name m.items) refl own)
  uses_over AsFunction name own = callee_alike name own
  uses_over AsProc name own = tt
  uses_over AsEnum name own = enum_alike name own
  uses_over AsStruct name own = at_item name struct_over (struct_at name (item_named name m.items) refl own)

  -- by longer chains, of instances of what is no proc and reaches such alone
  pub globals_over_alike : ((i : Instance) → Own i.name → AllNamed P (found_of_instance a i).reached) → (R : List ℕ → Bool) → ((name : List ℕ) → R name ≡ true → Own name × (is_proc_item (item_named name m.items) ≡ false))
      → GlobalsAgree R (globals_over a) (globals_over b)
  globals_over_alike reached R own = record {
    whole = s.known.whole;
    kinds = λ name i. is_constant_item (item_named name (s.known.whole i).items);
    cyclic = λ owner name i. is_cyclic (s.known.whole i) owner name;
    sound = λ k q. let r = own k.name q in (both_alike k r.0 r.1 (reached k r.0)).0;
    unbroken = λ k q. let r = own k.name q in (both_alike k r.0 r.1 (reached k r.0)).1;
  }

-- ---- procs

-- the test, of what is no proc
abbrev pub unless_proc : (List ℕ → Bool) → Module → List ℕ → Bool
unless_proc R m name = R name && not (is_proc_item (item_named name m.items))

pub and_both : (p q : Bool) → (p && q) ≡ true → (p ≡ true) × (q ≡ true)
and_both true q e = (refl, e)
and_both false q e = absurd (true≢false (sym e))

pub not_true : (b : Bool) → not b ≡ true → b ≡ false
not_true false e = refl
not_true true e = absurd (true≢false (sym e))

pub no_proc_use : (u : Use) → IsNoProc u → (o : Option Definition) → is_of_use u o ≡ true → not (is_proc_item o) ≡ true
no_proc_use u h (Some (d.Function f)) e = refl
no_proc_use u h (Some (d.Constant c)) e = refl
no_proc_use u h (Some (d.Alias x)) e = refl
no_proc_use u h (Some (d.Struct x)) e = refl
no_proc_use u h (Some (d.Enum x)) e = refl
no_proc_use u h None e = refl
no_proc_use AsValue h (Some (d.Proc p)) e = absurd (true≢false (sym e))
no_proc_use AsPattern h (Some (d.Proc p)) e = absurd (true≢false (sym e))
no_proc_use AsType h (Some (d.Proc p)) e = absurd (true≢false (sym e))
no_proc_use AsFunction h (Some (d.Proc p)) e = absurd (true≢false (sym e))
no_proc_use AsProc h (Some (d.Proc p)) e = absurd h
no_proc_use AsEnum h (Some (d.Proc p)) e = absurd (true≢false (sym e))
no_proc_use AsStruct h (Some (d.Proc p)) e = absurd (true≢false (sym e))

pub all_no_procs : (R : List ℕ → Bool) (m : Module) (ms : List Mention) → NoProcs ms → list_all R (names_mentioned m ms) ≡ true → list_all (unless_proc R m) (names_mentioned m ms) ≡ true
all_no_procs R m [] h e = refl
all_no_procs R m (x ∷ ms) h e = by_use (is_of_use x.use_as (item_named x.name m.items)) refl e (all_no_procs R m ms h.1)
  where
    by_use : (b : Bool) → is_of_use x.use_as (item_named x.name m.items) ≡ b → list_all R (if b then x.name ∷ names_mentioned m ms else names_mentioned m ms) ≡ true
        → (list_all R (names_mentioned m ms) ≡ true → list_all (unless_proc R m) (names_mentioned m ms) ≡ true) → list_all (unless_proc R m) (if b then x.name ∷ names_mentioned m ms else names_mentioned m ms) ≡ true
    by_use true q g rest =
        let r = and_both (R x.name) (list_all R (names_mentioned m ms)) g in
        λ i. (r.0 i && no_proc_use x.use_as h.0 (item_named x.name m.items) q i) && rest r.1 i
    by_use false q g rest = rest g

-- what isn't a proc mentions none
type_if_none : (o : Option TypeExpr) (bound : List (List ℕ)) → NoProcs (type_if o bound)
type_if_none None bound = tt
type_if_none (Some t) bound = no_proc_in_type t bound

expr_if_none : (o : Option Expr) (bound : List (List ℕ)) → NoProcs (expr_if o bound)
expr_if_none None bound = tt
expr_if_none (Some e) bound = no_proc_in_expression e bound

pub parametrics_none : (ps : List Parametric) (bound : List (List ℕ)) → NoProcs (parametrics_mentions ps bound)
parametrics_none [] bound = tt
parametrics_none (p ∷ ps) bound =
    no_procs_join (mentioned_in_type p.ty bound ++ expr_if p.default bound) (parametrics_mentions ps (p.name.name ∷ bound))
    (no_procs_join (mentioned_in_type p.ty bound) (expr_if p.default bound) (no_proc_in_type p.ty bound) (expr_if_none p.default bound)) (parametrics_none ps (p.name.name ∷ bound))

fields_none : (fs : List Field) (bound : List (List ℕ)) → NoProcs (fields_mentions fs bound)
fields_none [] bound = tt
fields_none (f ∷ fs) bound = no_procs_join (mentioned_in_type f.ty bound) (fields_mentions fs bound) (no_proc_in_type f.ty bound) (fields_none fs bound)

abbrev members_mentions : List Member → List Mention
members_mentions ms = flat_map (λ (x : Member). mentioned x.value []) ms

members_none : (ms : List Member) → NoProcs (members_mentions ms)
members_none [] = tt
members_none (x ∷ ms) = no_procs_join (mentioned x.value []) (members_mentions ms) (no_proc_in_expression x.value []) (members_none ms)

pub definition_none : (x : Definition) → is_proc_item (Some x) ≡ false → NoProcs (definition_mentions x)
definition_none (d.Function f) e =
    let parametric_args = parametric_names f.parametrics in
    let one = parametrics_mentions f.parametrics [] in
    let two = fields_mentions f.arguments parametric_args in
    let three = type_if f.result parametric_args in
    no_procs_join ((one ++ two) ++ three) (mentioned_in_block f.body (field_names f.arguments ++ parametric_args))
    (no_procs_join (one ++ two) three (no_procs_join one two (parametrics_none f.parametrics []) (fields_none f.arguments parametric_args)) (type_if_none f.result parametric_args))
    (no_proc_in_block f.body (field_names f.arguments ++ parametric_args))
definition_none (d.Proc p) e = absurd (true≢false e)
definition_none (d.Constant c) e = no_procs_join (type_if c.ty []) (mentioned c.value []) (type_if_none c.ty []) (no_proc_in_expression c.value [])
definition_none (d.Alias x) e = no_proc_in_type x.ty []
definition_none (d.Struct x) e = fields_none x.fields []
definition_none (d.Enum x) e = no_procs_join (mentioned_in_type x.base []) (members_mentions x.members) (no_proc_in_type x.base []) (members_none x.members)

-- what an item mentions that is no proc
pub no_procs_mentioned : (R : List ℕ → Bool) (m : Module) (o : Option Definition) → is_proc_item o ≡ false → list_all R (mentions_of m o) ≡ true → list_all (unless_proc R m) (mentions_of m o) ≡ true
no_procs_mentioned R m None e h = refl
no_procs_mentioned R m (Some x) e h = all_no_procs R m (definition_mentions x) (definition_none x e) h

-- ---- items of another kind

no_item : (m : Module) (n : ℕ) (name : List ℕ) {X : Type 0} (f : Option Definition → Option X) → f (item_named name m.items) ≡ None → f (item_named name (globals_within m n).whole.items) ≡ None
no_item m n name f e = (λ i. f (item_named name (whole_is m n i).items)) ∙ e

not_used : {X : Type 0} → true ≡ false → X
not_used e = absurd (true≢false e)

constant_none : (known : GlobalEnv) (o : Option Definition) → is_of_use AsValue o ≡ false → and_then (as_constant o) (λ c. (constant_seen known c).value) ≡ None
constant_none known (Some (d.Constant c)) e = not_used e
constant_none known (Some (d.Function f)) e = refl
constant_none known (Some (d.Proc p)) e = refl
constant_none known (Some (d.Alias x)) e = refl
constant_none known (Some (d.Struct x)) e = refl
constant_none known (Some (d.Enum x)) e = refl
constant_none known None e = refl

type_none : (known : GlobalEnv) (o : Option Definition) → is_of_use AsType o ≡ false → type_known known o ≡ None
type_none known (Some (d.Alias x)) e = not_used e
type_none known (Some (d.Struct x)) e = not_used e
type_none known (Some (d.Enum x)) e = not_used e
type_none known (Some (d.Function f)) e = refl
type_none known (Some (d.Proc p)) e = refl
type_none known (Some (d.Constant c)) e = refl
type_none known None e = refl

struct_none : (known : GlobalEnv) (o : Option Definition) → is_of_use AsStruct o ≡ false → and_then (as_struct o) (λ x. (struct_seen known x).ty) ≡ None
struct_none known (Some (d.Struct x)) e = not_used e
struct_none known (Some (d.Constant c)) e = refl
struct_none known (Some (d.Function f)) e = refl
struct_none known (Some (d.Proc p)) e = refl
struct_none known (Some (d.Alias x)) e = refl
struct_none known (Some (d.Enum x)) e = refl
struct_none known None e = refl

member_none : (known : GlobalEnv) (member : List ℕ) (o : Option Definition) → is_of_use AsEnum o ≡ false → and_then (as_enum o) (λ x. enum_member_value known x member (member_named member x.members)) ≡ None
member_none known member (Some (d.Enum x)) e = not_used e
member_none known member (Some (d.Constant c)) e = refl
member_none known member (Some (d.Function f)) e = refl
member_none known member (Some (d.Proc p)) e = refl
member_none known member (Some (d.Alias x)) e = refl
member_none known member (Some (d.Struct x)) e = refl
member_none known member None e = refl

call_none : (known : GlobalEnv) (given operands : List DslxValue) (o : Option Definition) → is_of_use AsFunction o ≡ false → and_then (as_function o) (λ f. call_of known.items f given operands) ≡ None
call_none known given operands (Some (d.Function f)) e = not_used e
call_none known given operands (Some (d.Constant c)) e = refl
call_none known given operands (Some (d.Enum x)) e = refl
call_none known given operands (Some (d.Proc p)) e = refl
call_none known given operands (Some (d.Alias x)) e = refl
call_none known given operands (Some (d.Struct x)) e = refl
call_none known given operands None e = refl

-- nothing is known of a name as an item of a kind that its item isn't of
pub constant_unknown : (m : Module) (n : ℕ) (name : List ℕ) → is_of_use AsValue (item_named name m.items) ≡ false → (globals_within m n).items.constant name ≡ None
constant_unknown m zero name e = refl
constant_unknown m (suc n) name e = no_item m n name (λ o. and_then (as_constant o) (λ c. (constant_seen (globals_within m n) c).value)) (constant_none (globals_within m n) (item_named name m.items) e)

pub type_unknown : (m : Module) (n : ℕ) (name : List ℕ) → is_of_use AsType (item_named name m.items) ≡ false → (globals_within m n).items.type_named name ≡ None
type_unknown m zero name e = refl
type_unknown m (suc n) name e = no_item m n name (type_known (globals_within m n)) (type_none (globals_within m n) (item_named name m.items) e)

pub struct_unknown : (m : Module) (n : ℕ) (name : List ℕ) → is_of_use AsStruct (item_named name m.items) ≡ false → (globals_within m n).items.struct_named name ≡ None
struct_unknown m zero name e = refl
struct_unknown m (suc n) name e = no_item m n name (λ o. and_then (as_struct o) (λ x. (struct_seen (globals_within m n) x).ty)) (struct_none (globals_within m n) (item_named name m.items) e)

pub member_unknown : (m : Module) (n : ℕ) (name member : List ℕ) → is_of_use AsEnum (item_named name m.items) ≡ false → (globals_within m n).items.member name member ≡ None
member_unknown m zero name member e = refl
member_unknown m (suc n) name member e =
    no_item m n name (λ o. and_then (as_enum o) (λ x. enum_member_value (globals_within m n) x member (member_named member x.members))) (member_none (globals_within m n) member (item_named name m.items) e)

pub call_unknown : (m : Module) (n : ℕ) (name : List ℕ) (given operands : List DslxValue) → is_of_use AsFunction (item_named name m.items) ≡ false → (globals_within m n).items.call name given operands ≡ None
call_unknown m zero name given operands e = refl
call_unknown m (suc n) name given operands e =
    let known = globals_within m n in
    unless_none (item_reaches known.whole name name) (and_then (as_function (item_named name known.whole.items)) (λ f. call_of known.items f given operands))
    (no_item m n name (λ o. and_then (as_function o) (λ f. call_of known.items f given operands)) (call_none known given operands (item_named name m.items) e))

pub no_function : (m : Module) (n : ℕ) (name : List ℕ) (f : Function) → is_of_use AsFunction (item_named name m.items) ≡ false → as_function (item_named name (globals_within m n).whole.items) ≡ Some f → true ≡ false
no_function m n name f e q =
    let is = function_is (item_named name m.items) f ((λ i. as_function (item_named name (sym (whole_is m n) i).items)) ∙ q) in
    sym (ap (is_of_use AsFunction) is) ∙ e

pub no_enum : {e : Enum} (o : Option Definition) → is_of_use AsEnum o ≡ false → as_enum o ≡ Some e → true ≡ false
no_enum (Some (d.Enum x)) e q = e
no_enum (Some (d.Constant c)) e q = sym (ap there q)
no_enum (Some (d.Function f)) e q = sym (ap there q)
no_enum (Some (d.Proc p)) e q = sym (ap there q)
no_enum (Some (d.Alias x)) e q = sym (ap there q)
no_enum (Some (d.Struct x)) e q = sym (ap there q)
no_enum None e q = sym (ap there q)

pub unused_alike : (m : Module) (a b : ℕ) (u : Use) (name : List ℕ) → is_of_use u (item_named name m.items) ≡ false → UseAlike (globals_within m a) (globals_within m b) u name
unused_alike m a b AsValue name e = constant_unknown m a name e ∙ sym (constant_unknown m b name e)
unused_alike m a b AsPattern name e =
    let q = sym (pattern_use (item_named name m.items)) ∙ e in
    constant_unknown m a name q ∙ sym (constant_unknown m b name q)
unused_alike m a b AsType name e = type_unknown m a name e ∙ sym (type_unknown m b name e)
unused_alike m a b AsFunction name e = record {
  call = λ given operands. call_unknown m a name given operands e ∙ sym (call_unknown m b name given operands e);
  function = λ f q. not_used (no_function m a name f e q);
}
unused_alike m a b AsProc name e = tt
unused_alike m a b AsEnum name e = record {
  ty = λ x q. not_used (no_enum (item_named name m.items) e ((λ i. as_enum (item_named name (sym (whole_is m a) i).items)) ∙ q));
  members = λ member. member_unknown m a name member e ∙ sym (member_unknown m b name member e);
}
unused_alike m a b AsStruct name e = struct_unknown m a name e ∙ sym (struct_unknown m b name e)

pub unless_true : (t : Bool) → (t ≡ true → false ≡ true) → not t ≡ true
unless_true true h = h refl
unless_true false h = refl
