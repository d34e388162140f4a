-- One item more on chains: what is known of it, where all that it mentions is known.
use Rattle.std.proofs.Common.{◌*◌, ◌≡◌, ◌≤◌, ℕ, suc, Bool, true, false, List, [], ◌∷◌, map, length, Option, Some, None, arith, refl, sym, ap, subst, ◌∙◌}
use mathlib.Core.Bool.{true≢false}
use Rattle.std.specs.List.{list_all}
use Rattle.dslx_tree.specs.declared.item.Alias.{Alias}
use Rattle.dslx_tree.specs.declared.item.Constant.{Constant}
use Rattle.dslx_tree.specs.declared.item.Definition.{Definition}
use Rattle.dslx_tree.specs.declared.item.Definition.TheVariants as d
use Rattle.dslx_tree.specs.declared.item.Enum.{Enum}
use Rattle.dslx_tree.specs.declared.item.Field.{Field}
use Rattle.dslx_tree.specs.declared.item.Function.{Function}
use Rattle.dslx_tree.specs.declared.item.Module.{Module}
use Rattle.dslx_tree.specs.declared.item.Struct.{Struct as StructItem}
use Rattle.dslx_meaning.specs.Items.{as_constant, as_enum, as_struct, is_constant_item, item_named, member_named, name_of_definition, name_of_field}
use Rattle.dslx_meaning.specs.Lists.{and_then}
use Rattle.dslx_meaning.specs.Values.{type_of_value}
use Rattle.dslx_meaning.specs.declared.ty.DslxType.{DslxType, out-DslxType}
use Rattle.dslx_meaning.specs.declared.ty.DslxType as ty
use Rattle.dslx_meaning.specs.declared.ty.DslxType.TheOpen.{DslxType-F}
use Rattle.dslx_meaning.specs.declared.ty.DslxType.TheViews as views
use Rattle.dslx_meaning.specs.declared.value.DslxValue.{DslxValue}
use Rattle.dslx_meaning.specs.Rules.ItemRules.{ConstantFound, TypeFound, alias_seen, constant_seen, enum_member_value, enum_seen, struct_seen}
use Rattle.dslx_meaning.specs.Rules.TypeEnvs.{GlobalEnv, has_broken}
use Rattle.dslx_meaning.specs.Rules.Mentions.{AsEnum, AsStruct, AsType, AsValue, Mention, Use, definition_mentions, is_of_use, item_reaches, mentions_of, names_mentioned}
use Rattle.dslx_meaning.specs.Rules.ModuleRules.{item_found, globals_of, globals_over, type_known}
use Rattle.dslx_meaning.specs.Rules.NameRules.{has_member}
use Rattle.dslx_core.specs.Typing.Typed.Complete.{IsComplete, IsStructKnown}
use Rattle.dslx_core.specs.Typing.Typed.Declared.{AllDeclared, Declarations, IsDeclared}
use Rattle.dslx_core.specs.Typing.Typed.Given.{GivesOf, OwnTypes}
use Rattle.dslx_core.specs.Typing.Typed.Kinds.{is_of}
use Rattle.dslx_core.proofs.Lemmas.Typing.Typed.{none_some, same_some, struct_declared}
use Rattle.dslx_core.specs.Typing.TypingRelations.Cycles.{AllUsed}
use Rattle.dslx_core.proofs.Lemmas.Typing.TypingRelations.{item_so_named, items_reach, whole_is}
use Rattle.dslx_core.specs.Typing.Depends.Alike.{TypesAlike, UseAlike}
use Rattle.dslx_core.proofs.Lemmas.Typing.Depends as of
use Rattle.dslx_core.proofs.Lemmas.Typing.Depends.{all_alike, settles, settles_closed, uses_settle}
use Rattle.dslx_core.specs.Typing.Complete.HasValue.{AliasHasType, AreTyped, ConstantHasValue, EnumHasType, IsWellTypedFound, StructHasType}
use Rattle.dslx_core.proofs.Lemmas.Typing.Complete.{alias_has_type, constant_has_value, enum_has_type, struct_has_type}
use Rattle.dslx_core.specs.Typing.GlobalEnv.Filled.{filled, filler_struct, filler_type}
use Rattle.dslx_core.specs.Typing.GlobalEnv.WellTypedParts.{EachItemWellTyped}
use Rattle.dslx_core.specs.Typing.GlobalEnv.Passing.{PassingHaveValues}
use Rattle.dslx_core.proofs.Lemmas.Typing.Laws.Reaching.{reaches_on}
use Rattle.dslx_core.proofs.OnTyping.OnCycles.OfItems.{uses_freely}
use Rattle.dslx_core.proofs.OnTyping.OnCycles.OnText.{is_judged_alone, item_free}
use Rattle.dslx_core.proofs.OnTyping.OnGlobals.Declaring.{DeclareNames, declared_by_both, named_enum, named_struct}
use Rattle.dslx_core.proofs.OnTyping.OnGlobals.Filling.{filled_complete, filled_typed}
use Rattle.dslx_core.proofs.OnTyping.OnGlobals.OnFilled.{other, pass, sight_filled, stage_filled}

pub constant_item : (o : Option Definition) → is_constant_item o ≡ true → (c : Constant) × (o ≡ Some (d.Constant c))
constant_item (Some (d.Constant c)) e = (c, refl)
constant_item (Some (d.Function f)) e = absurd (true≢false (sym e))
constant_item (Some (d.Proc p)) e = absurd (true≢false (sym e))
constant_item (Some (d.Alias a)) e = absurd (true≢false (sym e))
constant_item (Some (d.Struct s)) e = absurd (true≢false (sym e))
constant_item (Some (d.Enum n)) e = absurd (true≢false (sym e))
constant_item None e = absurd (true≢false (sym e))

pub enum_item : (o : Option Definition) (s : Enum) → as_enum o ≡ Some s → o ≡ Some (d.Enum s)
enum_item (Some (d.Enum x)) s e = ap (λ y. Some (d.Enum y)) (same_some x s e)
enum_item (Some (d.Alias x)) s e = none_some s e
enum_item (Some (d.Struct x)) s e = none_some s e
enum_item (Some (d.Constant x)) s e = none_some s e
enum_item (Some (d.Function x)) s e = none_some s e
enum_item (Some (d.Proc x)) s e = none_some s e
enum_item None s e = none_some s e

abbrev struct_fields : DslxType-F DslxType → List DslxType
struct_fields (DslxType-F.Struct name fields ts) = ts
struct_fields _ = []

same_fields : (a b : List ℕ) (xs ys : List (List ℕ)) (ts us : List DslxType) → ty.Struct a xs ts ≡ ty.Struct b ys us → ts ≡ us
same_fields a b xs ys ts us e = sym (ap struct_fields (views.outs-Struct a xs ts)) ∙ ap (λ t. struct_fields (out-DslxType t)) e ∙ ap struct_fields (views.outs-Struct b ys us)

abbrev is_struct : DslxType-F DslxType → Bool
is_struct (DslxType-F.Struct name fields ts) = true
is_struct _ = false

no_enum_struct : {X : Type 0} (a b : List ℕ) (s : Bool) (w : ℕ) (ys : List (List ℕ)) (us : List DslxType) → ty.Enum a s w ≡ ty.Struct b ys us → X
no_enum_struct a b s w ys us e = absurd (true≢false (sym (ap is_struct (views.outs-Struct b ys us)) ∙ ap (λ t. is_struct (out-DslxType t)) (sym e) ∙ ap is_struct (views.outs-Enum a s w)))

abbrev width_in : DslxType-F DslxType → ℕ
width_in (DslxType-F.Bits s w) = w
width_in _ = 0

apart : ◌≡◌ {A = ℕ} 1 2 → ⊥
apart e = omega (arith, e)

-- bits of two widths are two types
two_widths : {X : Type 0} (t : DslxType) → ty.Bits false 1 ≡ t → ty.Bits false 2 ≡ t → X
two_widths t e q = absurd (apart (sym (ap width_in (views.outs-Bits false 1)) ∙ ap (λ u. width_in (out-DslxType u)) (e ∙ sym q) ∙ ap width_in (views.outs-Bits false 2)))

abbrev first_width : List DslxType → ℕ
first_width [] = 0
first_width (t ∷ ts) = width_in (out-DslxType t)

-- so are structs that have a field
no_field : (s : StructItem) (t : DslxType) → filler_struct 1 s ≡ t → filler_struct 2 s ≡ t → s.fields ≡ []
no_field s t e q =
    by_fields s.fields (same_fields s.name.name s.name.name (map name_of_field s.fields) (map name_of_field s.fields) (map (λ (f : Field). ty.Bits false 1) s.fields) (map (λ (f : Field). ty.Bits false 2) s.fields) (e ∙ sym q))
  where
    by_fields : (fs : List Field) → map (λ (f : Field). ty.Bits false 1) fs ≡ map (λ (f : Field). ty.Bits false 2) fs → fs ≡ []
    by_fields [] h = refl
    by_fields (f ∷ fs) h = absurd (apart (sym (ap width_in (views.outs-Bits false 1)) ∙ ap first_width h ∙ ap width_in (views.outs-Bits false 2)))

none_own : (fs : List Field) (ts : List DslxType) → fs ≡ [] → OwnTypes (map name_of_field fs) ts (map name_of_field fs) ts → ts ≡ []
none_own fs [] e h = refl
none_own fs (t ∷ ts) e h = absurd (subst (λ (xs : List Field). OwnTypes (map name_of_field xs) (t ∷ ts) (map name_of_field xs) (t ∷ ts)) e h)

module _ (m : Module) (well_typed : EachItemWellTyped m) (k : ℕ) (stand : (w : ℕ) → PassingHaveValues w (settles m k) (globals_of m)) where
  abbrev K : GlobalEnv
  K = globals_of m

  abbrev P : List ℕ → Bool
  P = settles m k

  abbrev Q : List ℕ → Bool
  Q = settles m (suc k)

  abbrev F : ℕ → GlobalEnv
  F w = filled w P K

  abbrev types : ℕ → Declarations
  types w = (F w).items.type_named

  abbrev next : ℕ → Declarations
  next w = (filled w Q K).items.type_named

  pub complete : (w : ℕ) → IsComplete (F w)
  complete w = filled_complete w P K (stand w)

  pub typed : (w : ℕ) → AreTyped (F w)
  typed w = filled_typed w P K (stand w)

  abbrev Own : List ℕ → Type 0
  Own owner = list_all P (mentions_of m (item_named owner m.items)) ≡ true

  pub text : K.whole ≡ m
  text = whole_is m (2 * length m.items)

  -- an item that is judged by itself doesn't reach itself
  pub free_at : (name : List ℕ) (x : Definition) → item_named name m.items ≡ Some x → is_judged_alone x ≡ true → item_reaches m name name ≡ false
  free_at name x e alone = item_free m (2 * length m.items) name x e (ap has_broken (well_typed name x e).faults) alone

  own : (name : List ℕ) (x : Definition) → item_named name m.items ≡ Some x → is_judged_alone x ≡ true → Q name ≡ true → Own name
  own name x e alone q = of.settles_next m k name q (free_at name x e alone)

  own_of : (name : List ℕ) (x : Definition) → item_named name m.items ≡ Some x → is_judged_alone x ≡ true → Q name ≡ true → Own (name_of_definition x)
  own_of name x e alone q = of.own_again P (of.mentions_pass P m) (λ owner. P) m K (F 1) (sight_filled m 1 k) (λ z g. g) name x e (own name x e alone q)

  mentions : (name : List ℕ) (x : Definition) → item_named name m.items ≡ Some x → is_judged_alone x ≡ true → Q name ≡ true → list_all P (names_mentioned m (definition_mentions x)) ≡ true
  mentions name x e alone q = of.own_mentions P (of.mentions_pass P m) (λ owner. P) m K (F 1) (sight_filled m 1 k) (λ z g. g) name x e (own name x e alone q)

  -- ---- what stands below an item, with something else in the place of those that don't pass

  pub reads : of.Reads m K
  reads = of.reads_level m (2 * length m.items)

  pub reads_filled : (v : ℕ) → of.Reads m (F v)
  reads_filled v = record { whole = reads.whole; kinds = reads.kinds; cyclic = reads.cyclic }

  -- an enum that reaches an item that it is reached from would reach itself
  pub no_enum_beside : (v : ℕ) (owner name : List ℕ) → Q owner ≡ true → item_reaches m owner name ≡ true → item_reaches m name owner ≡ true → (member : List ℕ) → K.items.member name member ≡ (F v).items.member name member
  no_enum_beside v owner name h e back member =
      let enums = (stage_filled m v k).uses AsEnum name (λ u. by_item (item_named name m.items) refl u) in
      enums.members member
    where
      loops : item_reaches m name name ≡ true
      loops = reaches_on m name owner name back e

      by_item : (o : Option Definition) → item_named name m.items ≡ o → is_of_use AsEnum o ≡ true → P name ≡ true
      by_item (Some (d.Enum x)) q u = absurd (true≢false (sym loops ∙ free_at name (d.Enum x) q refl))
      by_item (Some (d.Alias x)) q u = absurd (true≢false (sym u))
      by_item (Some (d.Struct x)) q u = absurd (true≢false (sym u))
      by_item (Some (d.Constant x)) q u = absurd (true≢false (sym u))
      by_item (Some (d.Function x)) q u = absurd (true≢false (sym u))
      by_item (Some (d.Proc x)) q u = absurd (true≢false (sym u))
      by_item None q u = absurd (true≢false (sym u))

  pub sight_low : (v : ℕ) → of.Sight P Q (λ owner. P) m K (F v)
  sight_low v = of.below_sight m P Q (settles_closed m k) (of.below_settles m k) K (F v) reads (reads_filled v) (stage_filled m v k) (no_enum_beside v)

  -- what rule 3 doesn't refuse stands below
  pub stands_below : (owner : List ℕ) (ms : List Mention) → list_all (of.is_reached_so m k owner) (names_mentioned m ms) ≡ true → AllUsed (uses_freely m owner) ms → list_all P (names_mentioned m ms) ≡ true
  stands_below owner ms e u = of.below m P Q (settles_closed m k) (of.below_settles m k) K (F 1) reads (reads_filled 1) (stage_filled m 1 k) (no_enum_beside 1) owner ms e u

  pub same_types : (v : ℕ) (f : Function) → item_named f.name.name m.items ≡ Some (d.Function f) → Q f.name.name ≡ true → TypesAlike (globals_over K) (globals_over (F v)) f.name.name
  same_types v f is h =
      of.function_types m P Q (settles_closed m k) (of.below_settles m k) K (F v) reads (reads_filled v) (stage_filled m v k) (no_enum_beside v) f is h

  -- longer chains say the same
  pub settle : (u : Use) (name : List ℕ) → UseAlike K (globals_over K) u name
  settle u name =
      let same : 2 * length m.items ≤ 2 * length m.items = omega arith in
      let more : 2 * length m.items ≤ suc (2 * length m.items) = omega arith in
      uses_settle m (2 * length m.items) (suc (2 * length m.items)) same more u name

  pub named : (name : List ℕ) (x : Definition) → item_named name m.items ≡ Some x → item_named name K.whole.items ≡ Some x
  named name x e = (λ i. item_named name (text i).items) ∙ e

  pub here : (name : List ℕ) (x : Definition) → item_named name K.whole.items ≡ Some x → item_named name m.items ≡ Some x
  here name x e = (λ i. item_named name (sym text i).items) ∙ e

  -- nothing is wrong with an item, with something else in the place of those that it doesn't mention
  well_typed_filled : (w : ℕ) (name : List ℕ) (x : Definition) → item_named name m.items ≡ Some x → is_judged_alone x ≡ true → Q name ≡ true → item_found K x ≡ item_found (F w) x → IsWellTypedFound (F w) (item_found (F w) x)
  well_typed_filled w name x e alone q same =
      let f = well_typed name x e in
      subst (IsWellTypedFound (F w)) same (record {
        faults = f.faults;
        reached = sym (all_alike P K.is_sound (F w).is_sound (stage_filled m w k).known.sound (item_found K x).reached (items_reach P m (settles_closed m k) (2 * length m.items) x (mentions name x e alone q))) ∙ f.reached;
      })

  alias_same : (w : ℕ) (name : List ℕ) (x : Alias) → item_named name m.items ≡ Some (d.Alias x) → Q name ≡ true → alias_seen K x ≡ alias_seen (F w) x
  alias_same w name x e q = of.alias_at P (of.mentions_pass P m) (λ owner. P) m K (F w) (sight_filled m w k) x (own_of name (d.Alias x) e refl q) (mentions name (d.Alias x) e refl q)

  struct_same : (w : ℕ) (name : List ℕ) (x : StructItem) → item_named name m.items ≡ Some (d.Struct x) → Q name ≡ true → struct_seen K x ≡ struct_seen (F w) x
  struct_same w name x e q = of.struct_at P (of.mentions_pass P m) (λ owner. P) m K (F w) (sight_filled m w k) x (own_of name (d.Struct x) e refl q) (mentions name (d.Struct x) e refl q)

  enum_same : (w : ℕ) (name : List ℕ) (x : Enum) → item_named name m.items ≡ Some (d.Enum x) → Q name ≡ true → enum_seen K x ≡ enum_seen (F w) x
  enum_same w name x e q = of.enum_at P (of.mentions_pass P m) (λ owner. P) m K (F w) (sight_filled m w k) x (own_of name (d.Enum x) e refl q) (mentions name (d.Enum x) e refl q)

  constant_same : (w : ℕ) (name : List ℕ) (x : Constant) → item_named name m.items ≡ Some (d.Constant x) → Q name ≡ true → constant_seen K x ≡ constant_seen (F w) x
  constant_same w name x e q = of.constant_item_at P (of.mentions_pass P m) (λ owner. P) m K (F w) (sight_filled m w k) x (own_of name (d.Constant x) e refl q) (mentions name (d.Constant x) e refl q)

  alias_of : (w : ℕ) (name : List ℕ) (x : Alias) → item_named name m.items ≡ Some (d.Alias x) → Q name ≡ true → AliasHasType (F w) x
  alias_of w name x e q = alias_has_type (F w) (complete w) (typed w) x (well_typed_filled w name (d.Alias x) e refl q (ap (λ (t : TypeFound). t.found) (alias_same w name x e q)))

  struct_of : (w : ℕ) (name : List ℕ) (x : StructItem) → item_named name m.items ≡ Some (d.Struct x) → Q name ≡ true → StructHasType (F w) x
  struct_of w name x e q = struct_has_type (F w) (complete w) (typed w) x (well_typed_filled w name (d.Struct x) e refl q (ap (λ (t : TypeFound). t.found) (struct_same w name x e q)))

  enum_of : (w : ℕ) (name : List ℕ) (x : Enum) → item_named name m.items ≡ Some (d.Enum x) → Q name ≡ true → EnumHasType (F w) x
  enum_of w name x e q = enum_has_type (F w) (complete w) (typed w) x (well_typed_filled w name (d.Enum x) e refl q (ap (λ (t : TypeFound). t.found) (enum_same w name x e q)))

  constant_of_name : (w : ℕ) (name : List ℕ) (x : Constant) → item_named name m.items ≡ Some (d.Constant x) → Q name ≡ true → ConstantHasValue (F w) x
  constant_of_name w name x e q = constant_has_value (F w) (complete w) (typed w) x (well_typed_filled w name (d.Constant x) e refl q (ap (λ (t : ConstantFound). t.found) (constant_same w name x e q)))

  -- ---- what is known of the name of each

  type_at : (name : List ℕ) (x : Definition) → item_named name m.items ≡ Some x → K.items.type_named name ≡ type_known K (Some x)
  type_at name x e = settle AsType name ∙ ap (type_known K) (named name x e)

  alias_type : (w : ℕ) (name : List ℕ) (x : Alias) (e : item_named name m.items ≡ Some (d.Alias x)) (q : Q name ≡ true) → K.items.type_named name ≡ Some (alias_of w name x e q).names
  alias_type w name x e q = type_at name (d.Alias x) e ∙ ap (λ (t : TypeFound). t.ty) (alias_same w name x e q) ∙ (alias_of w name x e q).is

  struct_type : (w : ℕ) (name : List ℕ) (x : StructItem) (e : item_named name m.items ≡ Some (d.Struct x)) (q : Q name ≡ true)
      → K.items.type_named name ≡ Some (ty.Struct x.name.name (map name_of_field x.fields) (struct_of w name x e q).fields)
  struct_type w name x e q = type_at name (d.Struct x) e ∙ ap (λ (t : TypeFound). t.ty) (struct_same w name x e q) ∙ (struct_of w name x e q).is

  enum_type : (w : ℕ) (name : List ℕ) (x : Enum) (e : item_named name m.items ≡ Some (d.Enum x)) (q : Q name ≡ true)
      → K.items.type_named name ≡ Some (ty.Enum x.name.name (enum_of w name x e q).signed (enum_of w name x e q).width)
  enum_type w name x e q = type_at name (d.Enum x) e ∙ ap (λ (t : TypeFound). t.ty) (enum_same w name x e q) ∙ (enum_of w name x e q).is

  -- ---- what is declared with either in the place of the others is so by what passes

  pub more : (name : List ℕ) → P name ≡ true → Q name ≡ true
  more name p = of.settles_longer m k name p

  abbrev item_at : List ℕ → Option Definition
  item_at name = item_named name K.whole.items

  names_carry : (w : ℕ) → DeclareNames (types 1) (types 2) (next w)
  names_carry w name t e z = by_test (P name) refl
    where
      first : P name ≡ false → filler_type 1 (item_at name) ≡ Some t
      first p = sym (other (P name) (K.items.type_named name) (filler_type 1 (item_at name)) p) ∙ e

      second : P name ≡ false → filler_type 2 (item_at name) ≡ Some t
      second p = sym (other (P name) (K.items.type_named name) (filler_type 2 (item_at name)) p) ∙ z

      struct_carries : (s : StructItem) → (item_at name) ≡ Some (d.Struct s) → filler_struct 1 s ≡ t → s.fields ≡ [] → (b : Bool) → Q name ≡ b → next w name ≡ Some t
      struct_carries s q r empty false n =
          other (Q name) (K.items.type_named name) (filler_type w (item_at name)) n ∙ ap (filler_type w) q
          ∙ ap Some (ap (λ (fs : List Field). ty.Struct s.name.name (map name_of_field s.fields) (map (λ (f : Field). ty.Bits false w) fs)) empty
          ∙ sym (ap (λ (fs : List Field). ty.Struct s.name.name (map name_of_field s.fields) (map (λ (f : Field). ty.Bits false 1) fs)) empty) ∙ r)
      struct_carries s q r empty true n =
          let is = here name (d.Struct s) q in
          let stands = struct_of 1 name s is n in
          sym (pass (Q name) (K.items.type_named name) (filler_type w (item_at name)) n) ∙ struct_type 1 name s is n
          ∙ ap Some (ap (ty.Struct s.name.name (map name_of_field s.fields)) (none_own s.fields stands.fields empty stands.each)
          ∙ sym (ap (λ (fs : List Field). ty.Struct s.name.name (map name_of_field s.fields) (map (λ (f : Field). ty.Bits false 1) fs)) empty) ∙ r)

      by_item : (o : Option Definition) → (item_at name) ≡ o → filler_type 1 o ≡ Some t → filler_type 2 o ≡ Some t → next w name ≡ Some t
      by_item (Some (d.Alias a)) q r s = two_widths t (same_some (ty.Bits false 1) t r) (same_some (ty.Bits false 2) t s)
      by_item (Some (d.Enum a)) q r s = two_widths t (same_some (ty.Bits false 1) t r) (same_some (ty.Bits false 2) t s)
      by_item (Some (d.Struct x)) q r s =
          let one = same_some (filler_struct 1 x) t r in
          struct_carries x q one (no_field x t one (same_some (filler_struct 2 x) t s)) (Q name) refl
      by_item (Some (d.Function f)) q r s = none_some t r
      by_item (Some (d.Proc f)) q r s = none_some t r
      by_item (Some (d.Constant f)) q r s = none_some t r
      by_item None q r s = none_some t r

      by_test : (b : Bool) → P name ≡ b → next w name ≡ Some t
      by_test true p = sym (pass (Q name) (K.items.type_named name) (filler_type w (item_at name)) (more name p)) ∙ pass (P name) (K.items.type_named name) (filler_type 1 (item_at name)) p ∙ e
      by_test false p = by_item (item_at name) refl (first p) (second p)

  pub carry : (w : ℕ) (t : DslxType) → IsDeclared (types 1) t → IsDeclared (types 2) t → IsDeclared (next w) t
  carry w = declared_by_both (types 1) (types 2) (next w) (names_carry w)

  pub all_carry : (w : ℕ) (ts : List DslxType) → AllDeclared (types 1) ts → AllDeclared (types 2) ts → AllDeclared (next w) ts
  all_carry w [] a b = tt
  all_carry w (t ∷ ts) a b = (carry w t a.0 b.0, all_carry w ts a.1 b.1)

  -- ---- the item's own name

  pub again : (name : List ℕ) (x : Definition) → item_named name m.items ≡ Some x → name_of_definition x ≡ name
  again name x e = item_so_named m.items name x e

  next_type : (w : ℕ) (name : List ℕ) (t : DslxType) → Q name ≡ true → K.items.type_named name ≡ Some t → next w name ≡ Some t
  next_type w name t q e = sym (pass (Q name) (K.items.type_named name) (filler_type w (item_at name)) q) ∙ e

  pub declared_next : (w : ℕ) (name : List ℕ) (t : DslxType) → Q name ≡ true → K.items.type_named name ≡ Some t → IsDeclared (next w) t
  declared_next w name t q e = by_item (item_named name m.items) refl
    where
      no_type : is_of_use AsType (item_named name m.items) ≡ false → IsDeclared (next w) t
      no_type u = none_some t (sym (of.type_unknown m (2 * length m.items) name u) ∙ e)

      by_item : (o : Option Definition) → item_named name m.items ≡ o → IsDeclared (next w) t
      by_item (Some (d.Alias x)) r =
          let one = alias_of 1 name x r q in
          let two = alias_of 2 name x r q in
          carry w t
          (subst (IsDeclared (types 1)) (same_some one.names t (sym (alias_type 1 name x r q) ∙ e)) one.declared)
          (subst (IsDeclared (types 2)) (same_some two.names t (sym (alias_type 2 name x r q) ∙ e)) two.declared)
      by_item (Some (d.Struct x)) r =
          let s = struct_of 1 name x r q in
          let is = same_some (ty.Struct x.name.name (map name_of_field x.fields) s.fields) t (sym (struct_type 1 name x r q) ∙ e) in
          subst (IsDeclared (next w)) is (named_struct (next w) x.name.name (map name_of_field x.fields) s.fields (ap (next w) (again name (d.Struct x) r) ∙ next_type w name t q e ∙ ap Some (sym is)))
      by_item (Some (d.Enum x)) r =
          let s = enum_of 1 name x r q in
          let is = same_some (ty.Enum x.name.name s.signed s.width) t (sym (enum_type 1 name x r q) ∙ e) in
          subst (IsDeclared (next w)) is (named_enum (next w) x.name.name s.signed s.width (ap (next w) (again name (d.Enum x) r) ∙ next_type w name t q e ∙ ap Some (sym is)))
      by_item (Some (d.Constant x)) r = no_type (ap (is_of_use AsType) r)
      by_item (Some (d.Function x)) r = no_type (ap (is_of_use AsType) r)
      by_item (Some (d.Proc x)) r = no_type (ap (is_of_use AsType) r)
      by_item None r = no_type (ap (is_of_use AsType) r)

  pub type_next : (name : List ℕ) → Q name ≡ true → is_of_use AsType (item_named name m.items) ≡ true → (t : DslxType) × (K.items.type_named name ≡ Some t)
  type_next name q u = by_item (item_named name m.items) refl u
    where
      by_item : (o : Option Definition) → item_named name m.items ≡ o → is_of_use AsType o ≡ true → (t : DslxType) × (K.items.type_named name ≡ Some t)
      by_item (Some (d.Alias x)) r v = ((alias_of 1 name x r q).names, alias_type 1 name x r q)
      by_item (Some (d.Struct x)) r v = (ty.Struct x.name.name (map name_of_field x.fields) (struct_of 1 name x r q).fields, struct_type 1 name x r q)
      by_item (Some (d.Enum x)) r v = (ty.Enum x.name.name (enum_of 1 name x r q).signed (enum_of 1 name x r q).width, enum_type 1 name x r q)
      by_item (Some (d.Constant x)) r v = absurd (true≢false (sym v))
      by_item (Some (d.Function x)) r v = absurd (true≢false (sym v))
      by_item (Some (d.Proc x)) r v = absurd (true≢false (sym v))
      by_item None r v = absurd (true≢false (sym v))

  parts_of : (w : ℕ) (own : List ℕ) (fields : List (List ℕ)) (ts : List DslxType) → IsDeclared (types w) (ty.Struct own fields ts) → AllDeclared (types w) ts
  parts_of w own fields ts h = (complete w).parts.fields own own fields ts (struct_declared (types w) own fields ts h)

  pub parts_next : (w : ℕ) (name own : List ℕ) (fields : List (List ℕ)) (ts : List DslxType) → Q name ≡ true → K.items.type_named name ≡ Some (ty.Struct own fields ts) → AllDeclared (next w) ts
  parts_next w name own fields ts q e = by_item (item_named name m.items) refl
    where
      no_type : is_of_use AsType (item_named name m.items) ≡ false → AllDeclared (next w) ts
      no_type u = none_some (ty.Struct own fields ts) (sym (of.type_unknown m (2 * length m.items) name u) ∙ e)

      by_item : (o : Option Definition) → item_named name m.items ≡ o → AllDeclared (next w) ts
      by_item (Some (d.Alias x)) r =
          let one = alias_of 1 name x r q in
          let two = alias_of 2 name x r q in
          all_carry w ts
          (parts_of 1 own fields ts (subst (IsDeclared (types 1)) (same_some one.names (ty.Struct own fields ts) (sym (alias_type 1 name x r q) ∙ e)) one.declared))
          (parts_of 2 own fields ts (subst (IsDeclared (types 2)) (same_some two.names (ty.Struct own fields ts) (sym (alias_type 2 name x r q) ∙ e)) two.declared))
      by_item (Some (d.Struct x)) r =
          let one = struct_of 1 name x r q in
          let two = struct_of 2 name x r q in
          let names = map name_of_field x.fields in
          let first = same_fields x.name.name own names fields one.fields ts (same_some (ty.Struct x.name.name names one.fields) (ty.Struct own fields ts) (sym (struct_type 1 name x r q) ∙ e)) in
          let second = same_fields x.name.name own names fields two.fields ts (same_some (ty.Struct x.name.name names two.fields) (ty.Struct own fields ts) (sym (struct_type 2 name x r q) ∙ e)) in
          all_carry w ts (subst (AllDeclared (types 1)) first one.declared) (subst (AllDeclared (types 2)) second two.declared)
      by_item (Some (d.Enum x)) r =
          let s = enum_of 1 name x r q in
          no_enum_struct x.name.name own s.signed s.width fields ts (same_some (ty.Enum x.name.name s.signed s.width) (ty.Struct own fields ts) (sym (enum_type 1 name x r q) ∙ e))
      by_item (Some (d.Constant x)) r = no_type (ap (is_of_use AsType) r)
      by_item (Some (d.Function x)) r = no_type (ap (is_of_use AsType) r)
      by_item (Some (d.Proc x)) r = no_type (ap (is_of_use AsType) r)
      by_item None r = no_type (ap (is_of_use AsType) r)

  pub struct_next : (w : ℕ) (name : List ℕ) (s : StructItem) → Q name ≡ true → item_named name m.items ≡ Some (d.Struct s) → IsStructKnown (next w) s (K.items.struct_named name)
  struct_next w name s q e =
      let stands = struct_of 1 name s e q in
      let names = map name_of_field s.fields in
      record {
        own = s.name.name;
        names = names;
        fields = stands.fields;
        is = settle AsStruct name ∙ ap (λ o. and_then (as_struct o) (λ x. (struct_seen K x).ty)) (named name (d.Struct s) e) ∙ ap (λ (t : TypeFound). t.ty) (struct_same 1 name s e q) ∙ stands.is;
        written = refl;
        each = stands.each;
        declared = declared_next w name (ty.Struct s.name.name names stands.fields) q (struct_type 1 name s e q);
      }

  pub member_next : (w : ℕ) (name member : List ℕ) (x : Enum) (t : DslxType) → Q name ≡ true → item_named name m.items ≡ Some (d.Enum x) → has_member x member ≡ true → K.items.type_named name ≡ Some t
      → GivesOf (next w) t (K.items.member name member)
  member_next w name member x t q e h z =
      let stands = enum_of 1 name x e q in
      let there = stands.members member h in
      let is = same_some (ty.Enum x.name.name stands.signed stands.width) t (sym (enum_type 1 name x e q) ∙ z) in
      record {
        value = there.value;
        is = (settle AsEnum name).members member ∙ ap (λ o. and_then (as_enum o) (λ y. enum_member_value K y member (member_named member y.members))) (named name (d.Enum x) e)
            ∙ of.named_member_at P (of.mentions_pass P m) (λ owner. P) m K (F 1) (sight_filled m 1 k) x (own_of name (d.Enum x) e refl q) (mentions name (d.Enum x) e refl q) member
            ∙ there.is;
        of = subst (λ u. is_of u there.value ≡ true) is there.of;
        declared = declared_next w name t q z;
      }

  pub constant_next : (w : ℕ) (name : List ℕ) (c : Constant) → Q name ≡ true → item_named name m.items ≡ Some (d.Constant c)
      → (v : DslxValue) × (K.items.constant name ≡ Some v) × GivesOf (next w) (type_of_value v) (Some v)
  constant_next w name c q e =
      let one = constant_of_name 1 name c e q in
      let two = constant_of_name 2 name c e q in
      let same = same_some two.value one.value (sym two.is ∙ ap (λ (x : ConstantFound). x.value) (sym (constant_same 2 name c e q) ∙ constant_same 1 name c e q) ∙ one.is) in (
        one.value,
        settle AsValue name ∙ ap (λ o. and_then (as_constant o) (λ y. (constant_seen K y).value)) (named name (d.Constant c) e) ∙ ap (λ (x : ConstantFound). x.value) (constant_same 1 name c e q) ∙ one.is,
        record {
          value = one.own.value;
          is = one.own.is;
          of = one.own.of;
          declared = carry w (type_of_value one.value) one.own.declared (subst (λ v. IsDeclared (types 2) (type_of_value v)) same two.own.declared);
        },
      )
