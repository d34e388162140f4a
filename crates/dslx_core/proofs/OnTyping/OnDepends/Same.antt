-- Judgements by what is known in two ways, by those of their parts.
use Rattle.std.proofs.Common.{◌≡◌, ◌&&◌, ◌||◌, ◌++◌, ℕ, Bool, true, false, not, if◌then◌else◌, List, [], ◌∷◌, map, length, Option, Some, None, refl, ap, ◌∙◌, zero, suc}
use mathlib.Core.Bool.{true≢false}
use Rattle.std.specs.Str.{bytes_eq}
use Rattle.std.specs.List.{list_all}
use Rattle.std.specs.Option.{option_map}
use Rattle.xb_span.specs.declared.fault.Fault.{Fault}
use Rattle.xb_span.specs.declared.span.Span.{Span}
use Rattle.dslx_tree.specs.declared.ident.Ident.{Ident}
use Rattle.dslx_tree.specs.declared.item.Enum.{Enum}
use Rattle.dslx_tree.specs.declared.item.Struct.{Struct}
use Rattle.dslx_meaning.specs.Environment.{given_in}
use Rattle.dslx_meaning.specs.Items.{as_enum, as_struct, item_named, name_of_field}
use Rattle.dslx_meaning.specs.Lists.{all_some, and_then, is_in}
use Rattle.dslx_meaning.specs.Meaning.{value_of}
use Rattle.dslx_meaning.specs.Values.{type_of_value}
use Rattle.dslx_meaning.specs.declared.ty.DslxType.{DslxType}
use Rattle.dslx_meaning.specs.declared.ty.DslxType as ty
use Rattle.dslx_meaning.specs.declared.value.UntypedLiteral.{UntypedLiteral}
use Rattle.dslx_meaning.specs.declared.value.DslxValue.{DslxValue}
use Rattle.dslx_meaning.specs.Rules.AggregateRules.{array_faults, array_in, array_typing, element_alone, element_in, element_type, field_typing, first_type_of, has_twice, lacks_one, like_first, others_typing, pair_alone, range_faults, struct_if, struct_typing, tuple_typing, unknown_fields, wanted_faults, when_all, written_fields, pair_or_alone, part_type, tuple_element_typing}
use Rattle.dslx_meaning.specs.Rules.PatternRules.{is_there}
use Rattle.dslx_meaning.specs.Rules.OperatorRules.{unless_type}
use Rattle.dslx_meaning.specs.Rules.ConstantRules.{ConstantSeen, untyped_typing, constant_of, constant_or_untyped, count_number, count_of, count_with, is_empty, names_a_local, over_size, value_if_whole}
use Rattle.dslx_meaning.specs.Rules.TypeEnvs.{ExprPair, Instance, Judgement, GlobalEnv, Typed, TypeEnv, all_alone, alone, untyped_of, breaks, breaks_if, constant_env, faults_of_all, has_broken, no_token, one_and, plus_size, reached_of_all, settled, size_if_typed, size_of_all, span_of, typed_in, types_of, unlimited}
use Rattle.dslx_meaning.specs.Rules.Typings.{FieldSeen, TypePair}
use Rattle.dslx_meaning.specs.Rules.Mentions.{AsType, is_of_use}
use Rattle.dslx_meaning.specs.Rules.NameRules.{end_or_other, item_value, local_or_other, member_typing, member_of, name_typing, parametric_or_item, has_member}
use Rattle.dslx_meaning.specs.Rules.TypeRules.{inner_type, inner_types, named_type}
use Rattle.dslx_core.specs.Typing.TypingRelations.Reached.{AllNamed}
use Rattle.dslx_core.specs.Typing.Depends.Alike.{EnumAlike, GlobalsAgree, in_globals, is_bound_there}
use Rattle.dslx_core.proofs.OnTyping.OnSized.Locals.{IsWhole, empty_parts, rule_kept}

-- the same judgement
abbrev pub PartSame : TypeEnv → GlobalEnv → ExprPair → Type 0
PartSame context other e = e.1 false context ≡ e.1 false (in_globals context other)

-- what is judged so wherever it stands
abbrev pub frozen : ExprPair → Judgement → ExprPair
frozen e j = (e.0, λ on_top context. j)

pub alone_same : (context : TypeEnv) (other : GlobalEnv) (e : ExprPair) → PartSame context other e → alone context e ≡ alone (in_globals context other) e
alone_same context other e h = ap (no_token (span_of e)) h

-- ---- instances

-- a test of instances that answers alike where names pass another
pub all_alike : (P : List ℕ → Bool) (f g : Instance → Bool) → ((i : Instance) → P i.name ≡ true → f i ≡ g i) → (is : List Instance) → AllNamed P is → list_all f is ≡ list_all g is
all_alike P f g h [] k = refl
all_alike P f g h (i ∷ is) k = λ j. h i k.0 j && all_alike P f g h is k.1 j

-- ---- constants

-- the limit on its size, where it reaches something that breaks a rule or not
abbrev pub size_by : Bool → ℕ → Judgement → List Fault
size_by clean end j = if not (has_broken j.faults) && clean then over_size end j.size else []

abbrev pub limited_by : Bool → ℕ → Judgement → Judgement
limited_by clean end j = record j { faults = j.faults ++ size_by clean end j }

abbrev constant_by : Bool → Bool → ℕ → Judgement → Option DslxValue → ConstantSeen
constant_by clean sound end j v =
    let limited = limited_by clean end j in
    let known = if is_empty limited.faults && sound then value_if_whole limited v else None in
    let ty = and_then known (λ v. j.ty) in
    record { judgement = record limited { ty = ty; size = size_if_typed ty j.size }; bare = None; value = known }

-- a constant, with what its limits come to
abbrev with_local_fault : TypeEnv → ExprPair → Judgement → Judgement
with_local_fault context e j = record j { faults = j.faults ++ breaks_if (names_a_local context e) 5 (span_of e) }

-- what is asked of a constant besides its judgement: one value, where it breaks no rule and has a size
pub record ConstantSame (P : List ℕ → Bool) (context : TypeEnv) (other : GlobalEnv) (e : ExprPair) : Type 0 where
  pub part : PartSame context other e
  pub reached : AllNamed P (alone context e).reached
  pub value : IsWhole context e → value_of e.0 (constant_env context) ≡ value_of e.0 (constant_env (in_globals context other))

-- a value that is asked for only then
value_by : (clean sound : Bool) (context : TypeEnv) (e : ExprPair) (v w : Option DslxValue) → (IsWhole context e → v ≡ w)
    → constant_by clean sound (span_of e).to (with_local_fault context e (alone context e)) v ≡ constant_by clean sound (span_of e).to (with_local_fault context e (alone context e)) w
value_by clean sound context e v w same = by_test (is_empty limited.faults) sound refl
  where
    inner : Judgement
    inner = alone context e

    limited : Judgement
    limited = limited_by clean (span_of e).to (with_local_fault context e inner)

    wrong : List Fault
    wrong = breaks_if (names_a_local context e) 5 (span_of e)

    of_value : Option DslxValue → ConstantSeen
    of_value known = let ty = and_then known (λ v. inner.ty) in record { judgement = record limited { ty = ty; size = size_if_typed ty inner.size }; bare = None; value = known }

    by_size : is_empty limited.faults ≡ true → (t : Option DslxType) (n : Option ℕ) → inner.size ≡ n → and_then t (λ t. and_then n (λ n. v)) ≡ and_then t (λ t. and_then n (λ n. w))
    by_size f None n q = refl
    by_size f (Some t) None q = refl
    by_size f (Some t) (Some n) q =
        let r = empty_parts (inner.faults ++ wrong) (size_by clean (span_of e).to (with_local_fault context e inner)) f in
        let o = empty_parts inner.faults wrong r.0 in
        same (record { faults = o.0; free = rule_kept (names_a_local context e) 5 (span_of e) o.1; sized = ap is_there q })

    by_test : (p q : Bool) → is_empty limited.faults ≡ p → of_value (if p && q then value_if_whole limited v else None) ≡ of_value (if p && q then value_if_whole limited w else None)
    by_test false q f = refl
    by_test true false f = refl
    by_test true true f = ap of_value (by_size f inner.ty inner.size refl)

pub constant_same : (P : List ℕ → Bool) (context : TypeEnv) (other : GlobalEnv) (e : ExprPair) → GlobalsAgree P context.known other → ConstantSame P context other e → constant_of context e ≡ constant_of (in_globals context other) e
constant_same P context other e k h =
    let own = alone_same context other e h.part in
    let clean = all_alike P context.known.is_unbroken other.is_unbroken k.unbroken (alone context e).reached h.reached ∙ ap (λ (j : Judgement). list_all other.is_unbroken j.reached) own in
    let sound = all_alike P context.known.is_sound other.is_sound k.sound (alone context e).reached h.reached ∙ ap (λ (j : Judgement). list_all other.is_sound j.reached) own in
    value_by (list_all context.known.is_unbroken (alone context e).reached) (list_all context.known.is_sound (alone context e).reached) context e (value_of e.0 (constant_env context)) (value_of e.0 (constant_env (in_globals context other))) h.value
    ∙ (λ i. constant_by (clean i) (sound i) (span_of e).to (with_local_fault context e (own i)) (value_of e.0 (constant_env (in_globals context other))))

abbrev untyped_or_constant : TypeEnv → ExprPair → Option UntypedLiteral → ConstantSeen
untyped_or_constant context e None = constant_of context e
untyped_or_constant context e (Some number) = record { judgement = untyped_typing; bare = Some number; value = None }

pub bare_same : (P : List ℕ → Bool) (context : TypeEnv) (other : GlobalEnv) (e : ExprPair) → GlobalsAgree P context.known other → ConstantSame P context other e → constant_or_untyped context e ≡ constant_or_untyped (in_globals context other) e
bare_same P context other e k h = by_untyped (untyped_of e)
  where
    by_untyped : (o : Option UntypedLiteral) → untyped_or_constant context e o ≡ untyped_or_constant (in_globals context other) e o
    by_untyped None = constant_same P context other e k h
    by_untyped (Some number) = refl

pub count_same : (P : List ℕ → Bool) (context : TypeEnv) (other : GlobalEnv) (e : ExprPair) → GlobalsAgree P context.known other → ConstantSame P context other e → count_of context e ≡ count_of (in_globals context other) e
count_same P context other e k h = ap (λ (c : ConstantSeen). count_with (span_of e) c (count_number c)) (bare_same P context other e k h)

-- ---- names

-- a name of which no local and no parametric is bound
unbound_name : (context : TypeEnv) (name : List ℕ) → typed_in name context.locals ≡ None → given_in name context.parametric_args ≡ None → is_in name context.unknown ≡ false → is_bound_there context name ≡ false
unbound_name context name l g u = λ i. no_local context.locals l i || (is_there (g i) || u i)
  where
    no_local : (ls : List Typed) → typed_in name ls ≡ None → is_in name (map (λ (x : Typed). x.name) ls) ≡ false
    no_local [] e = refl
    no_local (x ∷ ls) e = by_first (bytes_eq name x.name) e (no_local ls)
      where
        by_first : (b : Bool) → (if b then Some x.ty else typed_in name ls) ≡ None → (typed_in name ls ≡ None → is_in name (map (λ (x : Typed). x.name) ls) ≡ false) → (if b then true else is_in name (map (λ (x : Typed). x.name) ls)) ≡ false
        by_first true e rest = absurd (true≢false (ap is_there e))
        by_first false e rest = rest e

-- a name, where the constant of it is known alike unless it is hidden
pub name_same : (P : List ℕ → Bool) (span : Span) (context : TypeEnv) (other : GlobalEnv) (name : List ℕ) → GlobalsAgree P context.known other → (is_bound_there context name ≡ false → context.known.items.constant name ≡ other.items.constant name)
    → name_typing span context name ≡ name_typing span (in_globals context other) name
name_same P span context other name k same = by_local (typed_in name context.locals) refl
  where
    by_item : context.known.items.constant name ≡ other.items.constant name → (b : Bool) → item_value span context name b ≡ item_value span (in_globals context other) name b
    by_item e true = λ i. settled span (option_map type_of_value (e i)) (breaks_if (k.cyclic context.owner name i) 3 span) [] (Some 1)
    by_item e false = refl

    by_unknown : (b : Bool) → (b ≡ false → context.known.items.constant name ≡ other.items.constant name) → (if b then settled span None [] [] (Some 1) else item_value span context name (context.known.items.is_constant name))
        ≡ (if b then settled span None [] [] (Some 1) else item_value span (in_globals context other) name (other.items.is_constant name))
    by_unknown true e = refl
    by_unknown false e = by_item (e refl) (context.known.items.is_constant name) ∙ ap (item_value span (in_globals context other) name) (k.kinds name)

    by_number : typed_in name context.locals ≡ None → (o : Option DslxValue) → given_in name context.parametric_args ≡ o → parametric_or_item span context name o ≡ parametric_or_item span (in_globals context other) name o
    by_number l None g = by_unknown (is_in name context.unknown) (λ u. same (unbound_name context name l g u))
    by_number l (Some v) g = refl

    by_end : typed_in name context.locals ≡ None → (b : Bool) → end_or_other span context name b ≡ end_or_other span (in_globals context other) name b
    by_end l true = refl
    by_end l false = by_number l (given_in name context.parametric_args) refl

    by_local : (o : Option (Option DslxType)) → typed_in name context.locals ≡ o → local_or_other span context name o ≡ local_or_other span (in_globals context other) name o
    by_local None l = by_end l (is_in name context.ends)
    by_local (Some ty) l = refl

pub member_same : (P : List ℕ → Bool) (context : TypeEnv) (other : GlobalEnv) (e a : Ident) → GlobalsAgree P context.known other → EnumAlike context.known other e.name
    → member_typing context e a ≡ member_typing (in_globals context other) e a
member_same P context other e a k h =
    by_enum (as_enum (item_named e.name context.known.whole.items)) refl ∙ ap (member_of (in_globals context other) e a) (λ i. as_enum (item_named e.name (k.whole i).items))
  where
    by_enum : (o : Option Enum) → as_enum (item_named e.name context.known.whole.items) ≡ o → member_of context e a o ≡ member_of (in_globals context other) e a o
    by_enum None q = refl
    by_enum (Some declared) q = λ i. unlimited (and_then (h.members a.name i) (λ v. h.ty declared q i)) (breaks_if (k.cyclic context.owner e.name i) 3 e.span ++ breaks_if (not (has_member declared a.name)) 1 a.span) [] (Some 1)

pub named_same : (P : List ℕ → Bool) (span : Span) (context : TypeEnv) (other : GlobalEnv) (name : List ℕ) → GlobalsAgree P context.known other → context.known.items.type_named name ≡ other.items.type_named name
    → named_type span context name (is_of_use AsType (item_named name context.known.whole.items)) ≡ named_type span (in_globals context other) name (is_of_use AsType (item_named name other.whole.items))
named_same P span context other name k h =
    by_use (is_of_use AsType (item_named name context.known.whole.items)) ∙ ap (named_type span (in_globals context other) name) (λ i. is_of_use AsType (item_named name (k.whole i).items))
  where
    by_use : (b : Bool) → named_type span context name b ≡ named_type span (in_globals context other) name b
    by_use false = refl
    by_use true = λ i. settled span (h i) (breaks_if (k.cyclic context.owner name i) 3 span) [] (Some 0)

-- ---- lists

-- each expression
abbrev pub EachSame : TypeEnv → GlobalEnv → List ExprPair → Type 0
EachSame context other [] = Unit {0}
EachSame context other (e ∷ es) = PartSame context other e × EachSame context other es

pub all_alone_same : (context : TypeEnv) (other : GlobalEnv) (es : List ExprPair) → EachSame context other es → all_alone context es ≡ all_alone (in_globals context other) es
all_alone_same context other [] h = refl
all_alone_same context other (e ∷ es) h = λ i. alone_same context other e h.0 i ∷ all_alone_same context other es h.1 i

pub elements_alone_same : (context : TypeEnv) (other : GlobalEnv) (es : List ExprPair) → EachSame context other es → map (element_alone context) es ≡ map (element_alone (in_globals context other)) es
elements_alone_same context other [] h = refl
elements_alone_same context other (e ∷ es) h = λ i. element_alone context (frozen e (h.0 i)) ∷ elements_alone_same context other es h.1 i

-- an element of a literal, which may be a number without a type
abbrev element_by : TypeEnv → Option DslxType → ExprPair → Option UntypedLiteral → Judgement
element_by context wanted e None = let j = alone context e in record j { faults = j.faults ++ wanted_faults (span_of e) wanted j.ty }
element_by context wanted e (Some number) = record untyped_typing { ty = wanted; faults = range_faults (span_of e) wanted number }

element_in_same : (context : TypeEnv) (other : GlobalEnv) (wanted : Option DslxType) (e : ExprPair) → PartSame context other e → element_in context wanted e ≡ element_in (in_globals context other) wanted e
element_in_same context other wanted e h = by_untyped (untyped_of e)
  where
    by_untyped : (o : Option UntypedLiteral) → element_by context wanted e o ≡ element_by (in_globals context other) wanted e o
    by_untyped None = λ i. element_by context wanted (frozen e (h i)) None
    by_untyped (Some number) = refl

elements_in_same : (context : TypeEnv) (other : GlobalEnv) (wanted : Option DslxType) (es : List ExprPair) → EachSame context other es → map (element_in context wanted) es ≡ map (element_in (in_globals context other) wanted) es
elements_in_same context other wanted [] h = refl
elements_in_same context other wanted (e ∷ es) h = λ i. element_in_same context other wanted e h.0 i ∷ elements_in_same context other wanted es h.1 i

abbrev typed_by : Span → Judgement → List Judgement → ℕ → Bool → Judgement
typed_by span t js n dots =
    settled span (when_all (types_of js) t.ty) (t.faults ++ faults_of_all js ++ array_faults span t.ty (and_then t.ty array_in) n dots) (t.reached ++ reached_of_all js) (one_and (size_of_all js))

pub array_same : (span : Span) (context : TypeEnv) (other : GlobalEnv) (t u : Judgement) (es : List ExprPair) (dots : Bool) → t ≡ u → EachSame context other es
    → array_typing span context (Some t) es dots ≡ array_typing span (in_globals context other) (Some u) es dots
array_same span context other t u es dots e h = λ i. typed_by span (e i) (elements_in_same context other (element_type (and_then (e i).ty array_in)) es h i) (length es) dots

abbrev untyped_by : Span → List ExprPair → Bool → List Judgement → Judgement
untyped_by span es dots js =
    let first = first_type_of (types_of js) in
    settled span (when_all (types_of js) (and_then first (λ t. Some (ty.Array t (length es)))))
    (faults_of_all js ++ like_first first es (types_of js) ++ breaks_if (dots || is_empty es) 21 span) (reached_of_all js) (one_and (size_of_all js))

pub untyped_same : (span : Span) (context : TypeEnv) (other : GlobalEnv) (es : List ExprPair) (dots : Bool) → EachSame context other es → array_typing span context None es dots ≡ array_typing span (in_globals context other) None es dots
untyped_same span context other es dots h = ap (untyped_by span es dots) (elements_alone_same context other es h)

pub tuple_same : (span : Span) (context : TypeEnv) (other : GlobalEnv) (es : List ExprPair) → EachSame context other es → tuple_typing span context es ≡ tuple_typing span (in_globals context other) es
tuple_same span context other es h =
    ap (λ js. settled span (and_then (all_some (types_of js)) (λ ts. Some (ty.Tuple ts))) (faults_of_all js) (reached_of_all js) (one_and (size_of_all js))) (elements_alone_same context other es h)

-- a tuple's part, where a receive's pair may stand before 0 and 1
pair_same : (k : ℕ) (context : TypeEnv) (other : GlobalEnv) (e : ExprPair) → PartSame context other e → pair_or_alone k context e ≡ pair_or_alone k (in_globals context other) e
pair_same zero context other e h = λ i. pair_alone context (frozen e (h i))
pair_same (suc zero) context other e h = λ i. pair_alone context (frozen e (h i))
pair_same (suc (suc k)) context other e h = alone_same context other e h

abbrev taken_by_number : Span → ℕ → Judgement → Judgement
taken_by_number span k whole =
    settled span (and_then whole.ty (λ t. part_type t k)) (whole.faults ++ unless_type (λ t. is_there (part_type t k)) 19 span whole.ty) whole.reached (one_and whole.size)

pub element_same : (span : Span) (context : TypeEnv) (other : GlobalEnv) (e : ExprPair) (k : ℕ) → PartSame context other e → tuple_element_typing span context e k ≡ tuple_element_typing span (in_globals context other) e k
element_same span context other e k h = ap (taken_by_number span k) (pair_same k context other e h)

-- types
abbrev pub TypeSame : TypeEnv → GlobalEnv → TypePair → Type 0
TypeSame context other t = t.1 context ≡ t.1 (in_globals context other)

abbrev pub EachTypeSame : TypeEnv → GlobalEnv → List TypePair → Type 0
EachTypeSame context other [] = Unit {0}
EachTypeSame context other (t ∷ ts) = TypeSame context other t × EachTypeSame context other ts

pub inner_same : (context : TypeEnv) (other : GlobalEnv) (t : TypePair) → TypeSame context other t → inner_type context t ≡ inner_type (in_globals context other) t
inner_same context other t h = λ i. inner_type context (t.0, λ s. h i)

pub inner_types_same : (context : TypeEnv) (other : GlobalEnv) (ts : List TypePair) → EachTypeSame context other ts → inner_types context ts ≡ inner_types (in_globals context other) ts
inner_types_same context other [] h = refl
inner_types_same context other (t ∷ ts) h = λ i. inner_same context other t h.0 i ∷ inner_types_same context other ts h.1 i

-- ---- structs

abbrev pub FieldSame : TypeEnv → GlobalEnv → FieldSeen → Type 0
FieldSame context other f = (struct : Option DslxType) → field_typing context struct f ≡ field_typing (in_globals context other) struct f

abbrev pub EachFieldSame : TypeEnv → GlobalEnv → List FieldSeen → Type 0
EachFieldSame context other [] = Unit {0}
EachFieldSame context other (f ∷ fs) = FieldSame context other f × EachFieldSame context other fs

fields_same : (context : TypeEnv) (other : GlobalEnv) (struct : Option DslxType) (fs : List FieldSeen) → EachFieldSame context other fs → map (field_typing context struct) fs ≡ map (field_typing (in_globals context other) struct) fs
fields_same context other struct [] h = refl
fields_same context other struct (f ∷ fs) h = λ i. h.0 struct i ∷ fields_same context other struct fs h.1 i

abbrev pub OthersSame : TypeEnv → GlobalEnv → Option ExprPair → Type 0
OthersSame context other None = Unit {0}
OthersSame context other (Some e) = PartSame context other e

others_same : (context : TypeEnv) (other : GlobalEnv) (struct : Option DslxType) (o : Option ExprPair) → OthersSame context other o → others_typing context struct o ≡ others_typing (in_globals context other) struct o
others_same context other struct None h = refl
others_same context other struct (Some e) h = λ i. others_typing context struct (Some (frozen e (h i)))

-- a struct value, by all that its parts come to
abbrev struct_by : Span → Bool → Ident → List FieldSeen → Bool → Option DslxType → Struct → List Judgement → Judgement → Judgement
struct_by span cyclic name fields others struct declared js rest =
    let names = map name_of_field declared.fields in
    settled span (when_all (rest.ty ∷ types_of js) struct)
    (breaks_if cyclic 3 name.span ++ faults_of_all js ++ rest.faults ++ unknown_fields names fields
    ++ breaks_if (has_twice (written_fields fields) || lacks_one names (written_fields fields) others) 22 span)
    (reached_of_all js ++ rest.reached) (one_and (plus_size (size_of_all js) rest.size))

abbrev unknown_struct : Span → Ident → List Judgement → Judgement → Judgement
unknown_struct span name js rest =
    settled span None (breaks 1 name.span ∷ faults_of_all js ++ rest.faults) (reached_of_all js ++ rest.reached) (one_and (plus_size (size_of_all js) rest.size))

pub struct_same : (P : List ℕ → Bool) (span : Span) (context : TypeEnv) (other : GlobalEnv) (name : Ident) (fields : List FieldSeen) (others : Option ExprPair) → GlobalsAgree P context.known other
    → context.known.items.struct_named name.name ≡ other.items.struct_named name.name → EachFieldSame context other fields → OthersSame context other others
    → struct_typing span context name fields others ≡ struct_typing span (in_globals context other) name fields others
struct_same P span context other name fields others k same each rest =
    by_struct (as_struct (item_named name.name context.known.whole.items)) ∙ ap (struct_if span (in_globals context other) name fields others) (λ i. as_struct (item_named name.name (k.whole i).items))
  where
    by_struct : (o : Option Struct) → struct_if span context name fields others o ≡ struct_if span (in_globals context other) name fields others o
    by_struct None = λ i. unknown_struct span name (fields_same context other None fields each i) (others_same context other None others rest i)
    by_struct (Some declared) = λ i.
        struct_by span (k.cyclic context.owner name.name i) name fields (is_there others) (same i) declared (fields_same context other (same i) fields each i) (others_same context other (same i) others rest i)
