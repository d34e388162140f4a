-- What an item means depends on the items that it mentions alone, so where no chain of mentions is longer than some number, it is
-- reached in so many steps.
use Rattle.std.proofs.Common.{◌≡◌, ◌==◌, ◌≤◌, ◌&&◌, ℕ, zero, suc, Bool, true, false, if◌then◌else◌, List, [], ◌∷◌, ◌++◌, map, length, Option, Some, None, refl, sym, ap, subst, ◌∙◌, arith}
use mathlib.Core.Bool.{true≢false}
use Rattle.std.proofs.Math.Path.{fun_ext}
use Rattle.std.specs.Prelude.{flat_map}
use Rattle.std.specs.Str.{bytes_eq}
use Rattle.std.specs.List.{list_all}
use Rattle.std.proofs.lemmas.Slice.Eq.{bytes_eq-Decides}
use Rattle.std.proofs.lemmas.Bool.Decides.{Decides-eqb}
use Rattle.dslx_tree.specs.declared.expr.Expr.{Expr}
use Rattle.dslx_tree.specs.declared.item.Module.{Module}
use Rattle.dslx_tree.specs.declared.item.Definition.{Definition}
use Rattle.dslx_tree.specs.declared.item.Definition.TheVariants as d
use Rattle.dslx_tree.specs.declared.item.Enum.{Enum}
use Rattle.dslx_tree.specs.declared.item.Field.{Field}
use Rattle.dslx_tree.specs.declared.item.Function.{Function}
use Rattle.dslx_tree.specs.declared.item.Member.{Member}
use Rattle.dslx_tree.specs.declared.item.Parametric.{Parametric}
use Rattle.dslx_meaning.specs.Lists.{all_some, and_then, or_else, where_true}
use Rattle.dslx_meaning.specs.Types.{bits_in, same_type}
use Rattle.dslx_meaning.specs.Values.{type_of_value}
use Rattle.dslx_meaning.specs.Operators.{number_value}
use Rattle.dslx_meaning.specs.Environment.{Meanings, Env, Given, given_in, outside}
use Rattle.dslx_meaning.specs.Meaning.{denotation, value_of, value_of_block, written_type}
use Rattle.dslx_meaning.specs.Inference.{Inferred, inferred_for}
use Rattle.dslx_meaning.specs.Items as i
use Rattle.dslx_meaning.specs.Items.{item_named, meanings_over, meanings_within}
use Rattle.dslx_meaning.specs.declared.ty.BitKind.{BitKind}
use Rattle.dslx_meaning.specs.declared.ty.DslxType as ty
use Rattle.dslx_meaning.specs.declared.value.UntypedLiteral.{UntypedLiteral}
use Rattle.dslx_meaning.specs.declared.value.DslxValue.{DslxValue}
use Rattle.dslx_meaning.specs.Rules.Mentions.{Use, AsValue, AsPattern, AsType, AsFunction, AsProc, AsEnum, AsStruct, Mention, is_of_use, names_mentioned, mentions_of, definition_mentions, mentioned, mentioned_in_block, mentioned_in_type, parametrics_mentions, fields_mentions, type_if, expr_if, parametric_names, field_names}
use Rattle.dslx_core.specs.Typing.Laws.Agreement.{AgreeOn, ItemMeansOne, MeansOne}
use Rattle.dslx_core.specs.Typing.Laws.Recursion.{HasNoCycle}
use Rattle.dslx_core.specs.Typing.TypingRelations.Closed.{ends_within}
use Rattle.dslx_core.proofs.OnTyping.OnLaws.Agreeing.{NamesAgree, parts}
use Rattle.dslx_core.proofs.OnTyping.OnLaws.Free.{value_depends, block_value_depends, written_type_depends}
use Rattle.dslx_core.proofs.Lemmas.Typing.Laws.Chains.{OfEach, Ends, item_ends}

-- ---- what two meanings have in common

abbrev within_items : Meanings → List Given → Env
within_items x bound = record { items = x; bound = bound }

-- what isn't of a kind means nothing of that kind
pub record OfKinds (m : Module) (x : Meanings) : Type 0 where
  pub types : (name : List ℕ) → is_of_use AsType (item_named name m.items) ≡ false → x.type_named name ≡ None
  pub structs : (name : List ℕ) → is_of_use AsStruct (item_named name m.items) ≡ false → x.struct_named name ≡ None
  pub kind : (name : List ℕ) → is_of_use AsPattern (item_named name m.items) ≡ false → x.is_constant name ≡ false
  pub constants : (name : List ℕ) → is_of_use AsValue (item_named name m.items) ≡ false → x.constant name ≡ None
  pub members : (name : List ℕ) → is_of_use AsEnum (item_named name m.items) ≡ false → (member : List ℕ) → x.member name member ≡ None
  pub calls : (name : List ℕ) → is_of_use AsFunction (item_named name m.items) ≡ false → (parametric_args operands : List DslxValue) → x.call name parametric_args operands ≡ None

no_type : (x : Meanings) (o : Option Definition) → is_of_use AsType o ≡ false → i.type_of_item x o ≡ None
no_type x (Some (d.Alias a)) e = absurd (true≢false e)
no_type x (Some (d.Struct s)) e = absurd (true≢false e)
no_type x (Some (d.Enum n)) e = absurd (true≢false e)
no_type x (Some (d.Function f)) e = refl
no_type x (Some (d.Proc p)) e = refl
no_type x (Some (d.Constant c)) e = refl
no_type x None e = refl

no_struct : (x : Meanings) (o : Option Definition) → is_of_use AsStruct o ≡ false → and_then (i.as_struct o) (i.struct_type x) ≡ None
no_struct x (Some (d.Struct s)) e = absurd (true≢false e)
no_struct x (Some (d.Alias a)) e = refl
no_struct x (Some (d.Enum n)) e = refl
no_struct x (Some (d.Function f)) e = refl
no_struct x (Some (d.Proc p)) e = refl
no_struct x (Some (d.Constant c)) e = refl
no_struct x None e = refl

pub no_kind : (o : Option Definition) → is_of_use AsPattern o ≡ false → i.is_constant_item o ≡ false
no_kind (Some (d.Constant c)) e = absurd (true≢false e)
no_kind (Some (d.Alias a)) e = refl
no_kind (Some (d.Struct s)) e = refl
no_kind (Some (d.Enum n)) e = refl
no_kind (Some (d.Function f)) e = refl
no_kind (Some (d.Proc p)) e = refl
no_kind None e = refl

no_constant : (x : Meanings) (o : Option Definition) → is_of_use AsValue o ≡ false → and_then (i.as_constant o) (i.constant_value x) ≡ None
no_constant x (Some (d.Constant c)) e = absurd (true≢false e)
no_constant x (Some (d.Alias a)) e = refl
no_constant x (Some (d.Struct s)) e = refl
no_constant x (Some (d.Enum n)) e = refl
no_constant x (Some (d.Function f)) e = refl
no_constant x (Some (d.Proc p)) e = refl
no_constant x None e = refl

no_member : (x : Meanings) (o : Option Definition) → is_of_use AsEnum o ≡ false → (a : List ℕ) → and_then (i.as_enum o) (λ n. and_then (i.member_named a n.members) (i.member_value x n)) ≡ None
no_member x (Some (d.Enum n)) e a = absurd (true≢false e)
no_member x (Some (d.Alias t)) e a = refl
no_member x (Some (d.Struct s)) e a = refl
no_member x (Some (d.Constant c)) e a = refl
no_member x (Some (d.Function f)) e a = refl
no_member x (Some (d.Proc p)) e a = refl
no_member x None e a = refl

no_call : (x : Meanings) (o : Option Definition) → is_of_use AsFunction o ≡ false → (ns vs : List DslxValue) → and_then (i.as_function o) (λ f. i.call_of x f ns vs) ≡ None
no_call x (Some (d.Function f)) e ns vs = absurd (true≢false e)
no_call x (Some (d.Alias t)) e ns vs = refl
no_call x (Some (d.Struct s)) e ns vs = refl
no_call x (Some (d.Constant c)) e ns vs = refl
no_call x (Some (d.Enum n)) e ns vs = refl
no_call x (Some (d.Proc p)) e ns vs = refl
no_call x None e ns vs = refl

of_kinds_over : (m : Module) (x : Meanings) → OfKinds m (meanings_over m x)
of_kinds_over m x = record {
  types = λ name e. no_type x (item_named name m.items) e;
  structs = λ name e. no_struct x (item_named name m.items) e;
  kind = λ name e. no_kind (item_named name m.items) e;
  constants = λ name e. no_constant x (item_named name m.items) e;
  members = λ name e a. no_member x (item_named name m.items) e a;
  calls = λ name e ns vs. no_call x (item_named name m.items) e ns vs;
}

pub of_kinds : (m : Module) (n : ℕ) → OfKinds m (meanings_within m n)
of_kinds m zero = record {
  types = λ name e. refl;
  structs = λ name e. refl;
  kind = λ name e. refl;
  constants = λ name e. refl;
  members = λ name e a. refl;
  calls = λ name e ns vs. refl;
}
of_kinds m (suc n) = of_kinds_over m (meanings_within m n)

over_itself : (m : Module) (x : Meanings) → meanings_over m x ≡ x → OfKinds m x
over_itself m x same = subst (OfKinds m) same (of_kinds_over m x)

-- a mention means one thing in both, whatever is bound
mention_one : (m : Module) (x y : Meanings) → OfKinds m x → OfKinds m y → (bound : List Given) (u : Use) (name : List ℕ)
    → (t : Bool) → is_of_use u (item_named name m.items) ≡ t → (t ≡ true → ItemMeansOne x y name) → MeansOne (within_items x bound) (within_items y bound) u name
mention_one m x y p q bound AsValue name true e h = ap (or_else (given_in name bound)) (h refl).constants
mention_one m x y p q bound AsValue name false e h = ap (or_else (given_in name bound)) (p.constants name e ∙ sym (q.constants name e))
mention_one m x y p q bound AsPattern name true e h = record {
  kind = (h refl).kind;
  constant = λ c. (h refl).constants;
  value = λ c. ap (or_else (given_in name bound)) (h refl).constants;
}
mention_one m x y p q bound AsPattern name false e h = record {
  kind = p.kind name e ∙ sym (q.kind name e);
  constant = λ c. absurd (true≢false (sym c ∙ p.kind name e));
  value = λ c. absurd (true≢false (sym c ∙ p.kind name e));
}
mention_one m x y p q bound AsType name true e h = (h refl).types
mention_one m x y p q bound AsType name false e h = p.types name e ∙ sym (q.types name e)
mention_one m x y p q bound AsFunction name true e h = (h refl).calls
mention_one m x y p q bound AsFunction name false e h = λ ns vs. p.calls name e ns vs ∙ sym (q.calls name e ns vs)
mention_one m x y p q bound AsProc name true e h = tt
mention_one m x y p q bound AsProc name false e h = tt
mention_one m x y p q bound AsEnum name true e h = (h refl).members
mention_one m x y p q bound AsEnum name false e h = λ a. p.members name e a ∙ sym (q.members name e a)
mention_one m x y p q bound AsStruct name true e h = (h refl).structs
mention_one m x y p q bound AsStruct name false e h = p.structs name e ∙ sym (q.structs name e)

pub agree_on : (m : Module) (x y : Meanings) → OfKinds m x → OfKinds m y → (bound : List Given) (ms : List Mention) → OfEach (ItemMeansOne x y) (names_mentioned m ms)
    → AgreeOn ms (within_items x bound) (within_items y bound)
agree_on m x y p q bound [] h = tt
agree_on m x y p q bound (n ∷ ns) h = pick (is_of_use n.use_as (item_named n.name m.items)) refl h (agree_on m x y p q bound ns)
  where
    pick : (t : Bool) → is_of_use n.use_as (item_named n.name m.items) ≡ t → OfEach (ItemMeansOne x y) (if t then n.name ∷ names_mentioned m ns else names_mentioned m ns)
        → (OfEach (ItemMeansOne x y) (names_mentioned m ns) → AgreeOn ns (within_items x bound) (within_items y bound)) → AgreeOn (n ∷ ns) (within_items x bound) (within_items y bound)
    pick true e h rest = (mention_one m x y p q bound n.use_as n.name true e (λ r. h.0), rest h.1)
    pick false e h rest = (mention_one m x y p q bound n.use_as n.name false e (λ r. absurd (true≢false (sym r))), rest h)

-- ---- what is bound

-- each of these names is bound
abbrev pub AllGiven : List (List ℕ) → List Given → Type 0
AllGiven [] bound = Unit {0}
AllGiven (n ∷ ns) bound = ((v : DslxValue) × (given_in n bound ≡ Some v)) × AllGiven ns bound

pub given_agree : (x y : Meanings) (ns : List (List ℕ)) (bound : List Given) → AllGiven ns bound → NamesAgree ns (within_items x bound) (within_items y bound)
given_agree x y [] bound h = tt
given_agree x y (n ∷ ns) bound h = (ap (λ o. or_else o (x.constant n)) h.0.1 ∙ sym (ap (λ o. or_else o (y.constant n)) h.0.1), given_agree x y ns bound h.1)

pub given_more : (ns : List (List ℕ)) (name : List ℕ) (v : DslxValue) (bound : List Given) → AllGiven ns bound → AllGiven ns (record { name = name; value = v } ∷ bound)
given_more [] name v bound h = tt
given_more (n ∷ ns) name v bound h = (pick (bytes_eq n name), given_more ns name v bound h.1)
  where
    pick : (t : Bool) → (w : DslxValue) × ((if t then Some v else given_in n bound) ≡ Some w)
    pick true = (v, refl)
    pick false = h.0

pub given_here : (name : List ℕ) (v : DslxValue) (bound : List Given) → given_in name (record { name = name; value = v } ∷ bound) ≡ Some v
given_here name v bound = ap (λ t. if t then Some v else given_in name bound) ((bytes_eq-Decides name name).1 refl)

given_join : (xs ys : List (List ℕ)) (bound : List Given) → AllGiven xs bound → AllGiven ys bound → AllGiven (xs ++ ys) bound
given_join [] ys bound h k = k
given_join (x ∷ xs) ys bound h k = (h.0, given_join xs ys bound h.1 k)

-- as many values as parameters or arguments
abbrev AsMany : {X : Type 0} → List X → List DslxValue → Type 0
AsMany [] [] = Unit {0}
AsMany (x ∷ xs) (v ∷ vs) = AsMany xs vs
AsMany [] (v ∷ vs) = ⊥
AsMany (x ∷ xs) [] = ⊥

as_many : {X : Type 0} (xs : List X) (vs : List DslxValue) → length vs ≡ length xs → AsMany xs vs
as_many [] [] e = tt
as_many [] (v ∷ vs) e = absurd (omega arith)
as_many (x ∷ xs) [] e = absurd (omega arith)
as_many (x ∷ xs) (v ∷ vs) e = as_many xs vs (omega arith)

parametric_args_keep : (ns : List (List ℕ)) (so_far : List Given) (ps : List Parametric) (vs : List DslxValue) → AllGiven ns so_far → AllGiven ns (i.parametric_args_bound so_far ps vs)
parametric_args_keep ns so_far [] vs h = h
parametric_args_keep ns so_far (p ∷ ps) [] h = h
parametric_args_keep ns so_far (p ∷ ps) (v ∷ vs) h = parametric_args_keep ns (i.with_number so_far p v) ps vs (given_more ns p.name.name v so_far h)

parametric_args_given : (so_far : List Given) (ps : List Parametric) (vs : List DslxValue) → AsMany ps vs → AllGiven (parametric_names ps) (i.parametric_args_bound so_far ps vs)
parametric_args_given so_far [] vs h = tt
parametric_args_given so_far (p ∷ ps) [] h = absurd h
parametric_args_given so_far (p ∷ ps) (v ∷ vs) h =
    ((parametric_args_keep (p.name.name ∷ []) (i.with_number so_far p v) ps vs ((v, given_here p.name.name v so_far), tt)).0, parametric_args_given (i.with_number so_far p v) ps vs h)

operands_keep : (ns : List (List ℕ)) (so_far : List Given) (fs : List Field) (vs : List DslxValue) → AllGiven ns so_far → AllGiven ns (i.operands_bound so_far fs vs)
operands_keep ns so_far [] vs h = h
operands_keep ns so_far (f ∷ fs) [] h = h
operands_keep ns so_far (f ∷ fs) (v ∷ vs) h = operands_keep ns (record { name = f.name.name; value = v } ∷ so_far) fs vs (given_more ns f.name.name v so_far h)

operands_given : (so_far : List Given) (fs : List Field) (vs : List DslxValue) → AsMany fs vs → AllGiven (field_names fs) (i.operands_bound so_far fs vs)
operands_given so_far [] vs h = tt
operands_given so_far (f ∷ fs) [] h = absurd h
operands_given so_far (f ∷ fs) (v ∷ vs) h = (
  (operands_keep (f.name.name ∷ []) (record { name = f.name.name; value = v } ∷ so_far) fs vs ((v, given_here f.name.name v so_far), tt)).0,
  operands_given (record { name = f.name.name; value = v } ∷ so_far) fs vs h,
)

-- ---- each kind of item

-- what is mentioned means one thing in both, whatever is bound
abbrev pub Agreeing : Meanings → Meanings → List Mention → Type 0
Agreeing x y ms = (bound : List Given) → AgreeOn ms (within_items x bound) (within_items y bound)

firsts_agree : (x y : Meanings) (xs ys : List Mention) → Agreeing x y (xs ++ ys) → Agreeing x y xs
firsts_agree x y xs ys h bound = (parts (within_items x bound) (within_items y bound) xs ys (h bound)).0

lasts_agree : (x y : Meanings) (xs ys : List Mention) → Agreeing x y (xs ++ ys) → Agreeing x y ys
lasts_agree x y xs ys h bound = (parts (within_items x bound) (within_items y bound) xs ys (h bound)).1

fields_one : (x y : Meanings) (fs : List Field) → Agreeing x y (fields_mentions fs [])
    → map (λ (f : Field). written_type f.ty (outside x)) fs ≡ map (λ (f : Field). written_type f.ty (outside y)) fs
fields_one x y [] h = refl
fields_one x y (f ∷ fs) h =
    let own = firsts_agree x y (mentioned_in_type f.ty []) (fields_mentions fs []) h in
    let rest = lasts_agree x y (mentioned_in_type f.ty []) (fields_mentions fs []) h in
    λ j. written_type_depends f.ty [] (outside x) (outside y) tt (own []) j ∷ fields_one x y fs rest j

base_one : (x y : Meanings) (n : Enum) → Agreeing x y (mentioned_in_type n.base []) → i.base_of x n ≡ i.base_of y n
base_one x y n h = ap (λ o. and_then o bits_in) (written_type_depends n.base [] (outside x) (outside y) tt (h []))

bits_one : (x y : Meanings) (kind : BitKind) (bare : Option UntypedLiteral) (value : Env → Option DslxValue) → value (outside x) ≡ value (outside y)
    → i.member_bits x kind (record { bare = bare; value = value }) ≡ i.member_bits y kind (record { bare = bare; value = value })
bits_one x y kind None value e = ap (λ o. and_then o (λ v. where_true (same_type (type_of_value v) (ty.Bits kind.signed kind.width)) (Some v))) e
bits_one x y kind (Some number) value e = refl

abbrev members_mentions : List Member → List Mention
members_mentions ms = flat_map (λ (b : Member). mentioned b.value []) ms

member_one : (x y : Meanings) (n : Enum) (a : List ℕ) → i.base_of x n ≡ i.base_of y n → (ms : List Member) → Agreeing x y (members_mentions ms)
    → and_then (i.member_named a ms) (i.member_value x n) ≡ and_then (i.member_named a ms) (i.member_value y n)
member_one x y n a base [] h = refl
member_one x y n a base (b ∷ ms) h =
    pick (bytes_eq a b.name.name) (firsts_agree x y (mentioned b.value []) (members_mentions ms) h) (member_one x y n a base ms (lasts_agree x y (mentioned b.value []) (members_mentions ms) h))
  where
    pick : (t : Bool) → Agreeing x y (mentioned b.value []) → and_then (i.member_named a ms) (i.member_value x n) ≡ and_then (i.member_named a ms) (i.member_value y n)
        → and_then (if t then Some b else i.member_named a ms) (i.member_value x n) ≡ and_then (if t then Some b else i.member_named a ms) (i.member_value y n)
    pick true own rest =
        λ j. and_then (base j) (λ kind. and_then (bits_one x y kind (denotation b.value).bare (denotation b.value).value (value_depends b.value [] (outside x) (outside y) tt (own [])) j) (i.enum_member n.name.name))
    pick false own rest = rest

-- ---- calls

default_one : (x y : Meanings) (names : List (List ℕ)) (bound : List Given) → AllGiven names bound → (o : Option Expr) → Agreeing x y (expr_if o names)
    → and_then o (λ e. value_of e (within_items x bound)) ≡ and_then o (λ e. value_of e (within_items y bound))
default_one x y names bound given None h = refl
default_one x y names bound given (Some e) h = value_depends e names (within_items x bound) (within_items y bound) (given_agree x y names bound given) (h bound)

inferred_one : (x y : Meanings) (names : List (List ℕ)) (bound : List Given) → AllGiven names bound → (p : Parametric) (o : Option ℕ)
    → Agreeing x y (mentioned_in_type p.ty names) → Agreeing x y (expr_if p.default names) → i.inferred_value (within_items x bound) p o ≡ i.inferred_value (within_items y bound) p o
inferred_one x y names bound given p None t h = default_one x y names bound given p.default h
inferred_one x y names bound given p (Some n) t h =
    ap (λ o. and_then o (λ u. number_value u (record { is_negative = false; value = n })))
    (written_type_depends p.ty names (within_items x bound) (within_items y bound) (given_agree x y names bound given) (t bound))

pub parametric_args_one : (x y : Meanings) (inferred : List Inferred) (names : List (List ℕ)) (bound : List Given) → AllGiven names bound → (ps : List Parametric) (vs : List DslxValue)
    → Agreeing x y (parametrics_mentions ps names) → i.all_parametric_args x inferred bound ps vs ≡ i.all_parametric_args y inferred bound ps vs
parametric_args_one x y inferred names bound given [] [] h = refl
parametric_args_one x y inferred names bound given [] (v ∷ vs) h = refl
parametric_args_one x y inferred names bound given (p ∷ ps) (v ∷ vs) h =
    let own = mentioned_in_type p.ty names ++ expr_if p.default names in
    let behind = parametrics_mentions ps (p.name.name ∷ names) in
    ap (i.put_first v) (parametric_args_one x y inferred (p.name.name ∷ names) (i.with_number bound p v)
    ((v, given_here p.name.name v bound), given_more names p.name.name v bound given) ps vs (lasts_agree x y own behind h))
parametric_args_one x y inferred names bound given (p ∷ ps) [] h =
    let typed = mentioned_in_type p.ty names in
    let default = expr_if p.default names in
    let behind = parametrics_mentions ps (p.name.name ∷ names) in
    let own = firsts_agree x y (typed ++ default) behind h in
    λ j. and_then (inferred_one x y names bound given p (inferred_for p.name.name inferred) (firsts_agree x y typed default own) (lasts_agree x y typed default own) j)
    (λ v. i.put_first v (parametric_args_one x y inferred (p.name.name ∷ names) (i.with_number bound p v)
    ((v, given_here p.name.name v bound), given_more names p.name.name v bound given) ps [] (lasts_agree x y (typed ++ default) behind h) j))

-- all numbers are as many as the parameters
abbrev IfAsMany : List Parametric → Option (List DslxValue) → Type 0
IfAsMany ps None = Unit {0}
IfAsMany ps (Some vs) = AsMany ps vs

put_many : (p : Parametric) (ps : List Parametric) (v : DslxValue) (o : Option (List DslxValue)) → IfAsMany ps o → IfAsMany (p ∷ ps) (i.put_first v o)
put_many p ps v None h = tt
put_many p ps v (Some vs) h = h

parametric_args_many : (x : Meanings) (inferred : List Inferred) (bound : List Given) (ps : List Parametric) (vs : List DslxValue) → IfAsMany ps (i.all_parametric_args x inferred bound ps vs)
parametric_args_many x inferred bound [] [] = tt
parametric_args_many x inferred bound [] (v ∷ vs) = tt
parametric_args_many x inferred bound (p ∷ ps) (v ∷ vs) = put_many p ps v (i.all_parametric_args x inferred (i.with_number bound p v) ps vs) (parametric_args_many x inferred (i.with_number bound p v) ps vs)
parametric_args_many x inferred bound (p ∷ ps) [] =
    found (i.inferred_value (within_items x bound) p (inferred_for p.name.name inferred)) (λ v. parametric_args_many x inferred (i.with_number bound p v) ps [])
  where
    found : (o : Option DslxValue) → ((v : DslxValue) → IfAsMany ps (i.all_parametric_args x inferred (i.with_number bound p v) ps []))
        → IfAsMany (p ∷ ps) (and_then o (λ v. i.put_first v (i.all_parametric_args x inferred (i.with_number bound p v) ps [])))
    found None rest = tt
    found (Some v) rest = put_many p ps v (i.all_parametric_args x inferred (i.with_number bound p v) ps []) (rest v)

function_one : (x y : Meanings) (f : Function) (ns vs : List DslxValue) → AsMany f.parametrics ns → Agreeing x y (mentioned_in_block f.body (field_names f.arguments ++ parametric_names f.parametrics))
    → i.function_value x f ns vs ≡ i.function_value y f ns vs
function_one x y f ns vs many h = pick (length vs == length f.arguments) refl
  where
    bound : List Given
    bound = i.operands_bound (i.parametric_args_bound [] f.parametrics ns) f.arguments vs

    names : List (List ℕ)
    names = field_names f.arguments ++ parametric_names f.parametrics

    all_given : length vs ≡ length f.arguments → AllGiven (field_names f.arguments ++ parametric_names f.parametrics) (i.operands_bound (i.parametric_args_bound [] f.parametrics ns) f.arguments vs)
    all_given e =
        given_join (field_names f.arguments) (parametric_names f.parametrics) (i.operands_bound (i.parametric_args_bound [] f.parametrics ns) f.arguments vs)
        (operands_given (i.parametric_args_bound [] f.parametrics ns) f.arguments vs (as_many f.arguments vs e))
        (operands_keep (parametric_names f.parametrics) (i.parametric_args_bound [] f.parametrics ns) f.arguments vs (parametric_args_given [] f.parametrics ns many))

    pick : (t : Bool) → (length vs == length f.arguments) ≡ t
        → where_true t (value_of_block f.body (within_items x (i.operands_bound (i.parametric_args_bound [] f.parametrics ns) f.arguments vs)))
        ≡ where_true t (value_of_block f.body (within_items y (i.operands_bound (i.parametric_args_bound [] f.parametrics ns) f.arguments vs)))
    pick true e = block_value_depends f.body names (within_items x bound) (within_items y bound) (given_agree x y names bound (all_given ((Decides-eqb (length vs) (length f.arguments)).0 e))) (h bound)
    pick false e = refl

-- a call means one thing in both
pub call_one : (x y : Meanings) (f : Function) (ns vs : List DslxValue) → Agreeing x y (definition_mentions (d.Function f)) → i.call_of x f ns vs ≡ i.call_of y f ns vs
call_one x y f ns vs h =
    ap (λ o. and_then o (λ parametric_args. i.function_value x f parametric_args vs)) (parametric_args_one x y inferred [] [] tt f.parametrics ns (firsts_agree x y own of_fields (firsts_agree x y (own ++ of_fields) of_result front)))
    ∙ values (i.all_parametric_args y inferred [] f.parametrics ns) (parametric_args_many y inferred [] f.parametrics ns)
  where
    inferred : List Inferred
    inferred = i.inferred_from f.arguments (map type_of_value vs)

    own : List Mention
    own = parametrics_mentions f.parametrics []

    of_fields : List Mention
    of_fields = fields_mentions f.arguments (parametric_names f.parametrics)

    of_result : List Mention
    of_result = type_if f.result (parametric_names f.parametrics)

    of_body : List Mention
    of_body = mentioned_in_block f.body (field_names f.arguments ++ parametric_names f.parametrics)

    front : Agreeing x y ((parametrics_mentions f.parametrics [] ++ fields_mentions f.arguments (parametric_names f.parametrics)) ++ type_if f.result (parametric_names f.parametrics))
    front = firsts_agree x y ((parametrics_mentions f.parametrics [] ++ fields_mentions f.arguments (parametric_names f.parametrics)) ++ type_if f.result (parametric_names f.parametrics))
        (mentioned_in_block f.body (field_names f.arguments ++ parametric_names f.parametrics)) h

    values : (o : Option (List DslxValue)) → IfAsMany f.parametrics o → and_then o (λ parametric_args. i.function_value x f parametric_args vs) ≡ and_then o (λ parametric_args. i.function_value y f parametric_args vs)
    values None many = refl
    values (Some parametric_args) many = function_one x y f parametric_args vs many
        (lasts_agree x y ((parametrics_mentions f.parametrics [] ++ fields_mentions f.arguments (parametric_names f.parametrics)) ++ type_if f.result (parametric_names f.parametrics))
        (mentioned_in_block f.body (field_names f.arguments ++ parametric_names f.parametrics)) h)

-- ---- an item over what it mentions

abbrev mentions_in : Option Definition → List Mention
mentions_in None = []
mentions_in (Some definition) = definition_mentions definition

types_one : (x y : Meanings) (o : Option Definition) → Agreeing x y (mentions_in o) → i.type_of_item x o ≡ i.type_of_item y o
types_one x y (Some (d.Alias a)) h = written_type_depends a.ty [] (outside x) (outside y) tt (h [])
types_one x y (Some (d.Struct s)) h = ap (λ os. and_then (all_some os) (λ ts. Some (ty.Struct s.name.name (map i.name_of_field s.fields) ts))) (fields_one x y s.fields h)
types_one x y (Some (d.Enum n)) h = ap (λ o. and_then o (λ kind. Some (ty.Enum n.name.name kind.signed kind.width))) (base_one x y n (firsts_agree x y (mentioned_in_type n.base []) (members_mentions n.members) h))
types_one x y (Some (d.Function f)) h = refl
types_one x y (Some (d.Proc p)) h = refl
types_one x y (Some (d.Constant c)) h = refl
types_one x y None h = refl

structs_one : (x y : Meanings) (o : Option Definition) → Agreeing x y (mentions_in o) → and_then (i.as_struct o) (i.struct_type x) ≡ and_then (i.as_struct o) (i.struct_type y)
structs_one x y (Some (d.Struct s)) h = ap (λ os. and_then (all_some os) (λ ts. Some (ty.Struct s.name.name (map i.name_of_field s.fields) ts))) (fields_one x y s.fields h)
structs_one x y (Some (d.Alias a)) h = refl
structs_one x y (Some (d.Enum n)) h = refl
structs_one x y (Some (d.Function f)) h = refl
structs_one x y (Some (d.Proc p)) h = refl
structs_one x y (Some (d.Constant c)) h = refl
structs_one x y None h = refl

constants_one : (x y : Meanings) (o : Option Definition) → Agreeing x y (mentions_in o) → and_then (i.as_constant o) (i.constant_value x) ≡ and_then (i.as_constant o) (i.constant_value y)
constants_one x y (Some (d.Constant c)) h = value_depends c.value [] (outside x) (outside y) tt (lasts_agree x y (type_if c.ty []) (mentioned c.value []) h [])
constants_one x y (Some (d.Alias a)) h = refl
constants_one x y (Some (d.Struct s)) h = refl
constants_one x y (Some (d.Enum n)) h = refl
constants_one x y (Some (d.Function f)) h = refl
constants_one x y (Some (d.Proc p)) h = refl
constants_one x y None h = refl

members_one : (x y : Meanings) (o : Option Definition) → Agreeing x y (mentions_in o) → (a : List ℕ)
    → and_then (i.as_enum o) (λ n. and_then (i.member_named a n.members) (i.member_value x n)) ≡ and_then (i.as_enum o) (λ n. and_then (i.member_named a n.members) (i.member_value y n))
members_one x y (Some (d.Enum n)) h a =
    member_one x y n a (base_one x y n (firsts_agree x y (mentioned_in_type n.base []) (members_mentions n.members) h)) n.members (lasts_agree x y (mentioned_in_type n.base []) (members_mentions n.members) h)
members_one x y (Some (d.Alias t)) h a = refl
members_one x y (Some (d.Struct s)) h a = refl
members_one x y (Some (d.Constant c)) h a = refl
members_one x y (Some (d.Function f)) h a = refl
members_one x y (Some (d.Proc p)) h a = refl
members_one x y None h a = refl

calls_one : (x y : Meanings) (o : Option Definition) → Agreeing x y (mentions_in o) → (ns vs : List DslxValue)
    → and_then (i.as_function o) (λ f. i.call_of x f ns vs) ≡ and_then (i.as_function o) (λ f. i.call_of y f ns vs)
calls_one x y (Some (d.Function f)) h ns vs = call_one x y f ns vs h
calls_one x y (Some (d.Alias t)) h ns vs = refl
calls_one x y (Some (d.Struct s)) h ns vs = refl
calls_one x y (Some (d.Constant c)) h ns vs = refl
calls_one x y (Some (d.Enum n)) h ns vs = refl
calls_one x y (Some (d.Proc p)) h ns vs = refl
calls_one x y None h ns vs = refl

pub item_over : (m : Module) (x y : Meanings) (name : List ℕ) → Agreeing x y (mentions_in (item_named name m.items)) → ItemMeansOne (meanings_over m x) (meanings_over m y) name
item_over m x y name h = record {
  types = types_one x y (item_named name m.items) h;
  structs = structs_one x y (item_named name m.items) h;
  kind = refl;
  constants = constants_one x y (item_named name m.items) h;
  members = members_one x y (item_named name m.items) h;
  calls = calls_one x y (item_named name m.items) h;
}

-- ---- the recursion

agreeing_at : (m : Module) (x y : Meanings) → OfKinds m x → OfKinds m y → (o : Option Definition) → OfEach (ItemMeansOne x y) (mentions_of m o) → Agreeing x y (mentions_in o)
agreeing_at m x y p q None h bound = tt
agreeing_at m x y p q (Some definition) h bound = agree_on m x y p q bound (definition_mentions definition) h

each_of : (P Q : List ℕ → Type 0) (xs : List (List ℕ)) → ((x : List ℕ) → P x → Q x) → OfEach P xs → OfEach Q xs
each_of P Q [] f h = tt
each_of P Q (x ∷ xs) f h = (f x h.0, each_of P Q xs f h.1)

-- an item means one thing over meanings in which all that it mentions does
item_next : (m : Module) (x y : Meanings) → OfKinds m x → OfKinds m y → (k : ℕ) (name : List ℕ) → ((next : List ℕ) → Ends m k next → ItemMeansOne x y next) → Ends m (suc k) name
    → ItemMeansOne (meanings_over m x) (meanings_over m y) name
item_next m x y p q k name next h =
    item_over m x y name (agreeing_at m x y p q (item_named name m.items) (each_of (Ends m k) (ItemMeansOne x y) (mentions_of m (item_named name m.items)) next h))

-- beyond the longest chain an item means one thing
settles : (m : Module) (k a b : ℕ) (name : List ℕ) → k ≤ a → k ≤ b → Ends m k name → ItemMeansOne (meanings_within m a) (meanings_within m b) name
settles m zero a b name p q h = absurd h
settles m (suc k) zero b name p q h = absurd (omega arith)
settles m (suc k) (suc a) zero name p q h = absurd (omega arith)
settles m (suc k) (suc a) (suc b) name p q h =
    item_next m (meanings_within m a) (meanings_within m b) (of_kinds m a) (of_kinds m b) k name (λ next e. settles m k a b next (omega arith) (omega arith) e) h

-- and it means that in all meanings that are those over themselves
settles_so : (m : Module) (x : Meanings) → meanings_over m x ≡ x → (k b : ℕ) (name : List ℕ) → k ≤ b → Ends m k name → ItemMeansOne x (meanings_within m b) name
settles_so m x same zero b name p h = absurd h
settles_so m x same (suc k) zero name p h = absurd (omega arith)
settles_so m x same (suc k) (suc b) name p h =
    subst (λ z. ItemMeansOne z (meanings_within m (suc b)) name) same
    (item_next m x (meanings_within m b) (over_itself m x same) (of_kinds m b) k name (λ next e. settles_so m x same k b next (omega arith) e) h)

-- ---- items from which chains end

turned : (x y : Meanings) (name : List ℕ) → ItemMeansOne x y name → ItemMeansOne y x name
turned x y name h = record { types = sym h.types; structs = sym h.structs; kind = sym h.kind; constants = sym h.constants; members = λ a. sym (h.members a); calls = λ ns vs. sym (h.calls ns vs) }

joined : (x y z : Meanings) (name : List ℕ) → ItemMeansOne x y name → ItemMeansOne y z name → ItemMeansOne x z name
joined x y z name h k = record {
  types = h.types ∙ k.types;
  structs = h.structs ∙ k.structs;
  kind = h.kind ∙ k.kind;
  constants = h.constants ∙ k.constants;
  members = λ a. h.members a ∙ k.members a;
  calls = λ ns vs. h.calls ns vs ∙ k.calls ns vs;
}

each_so : (m : Module) (k : ℕ) (x y : Meanings) → ((next : List ℕ) → ends_within m k next ≡ true → ItemMeansOne x y next) → (names : List (List ℕ)) → list_all (ends_within m k) names ≡ true → OfEach (ItemMeansOne x y) names
each_so m k x y next [] e = tt
each_so m k x y next (n ∷ ns) e = by_first (ends_within m k n) refl e (each_so m k x y next ns)
  where
    by_first : (b : Bool) → ends_within m k n ≡ b → (b && list_all (ends_within m k) ns) ≡ true → (list_all (ends_within m k) ns ≡ true → OfEach (ItemMeansOne x y) ns) → OfEach (ItemMeansOne x y) (n ∷ ns)
    by_first true q g rest = (next n q, rest g)
    by_first false q g rest = absurd (true≢false (sym g))

-- meanings that say the same one step further, of what doesn't reach itself, say of each item from which chains end what it means
pub chains_mean : (m : Module) (x : Meanings) → OfKinds m x → ((k : ℕ) (name : List ℕ) → ends_within m k name ≡ true → ItemMeansOne (meanings_over m x) x name) → (k b : ℕ) (name : List ℕ) → k ≤ b → ends_within m k name ≡ true
    → ItemMeansOne x (meanings_within m b) name
chains_mean m x kinds over zero b name p h = absurd (true≢false (sym h))
chains_mean m x kinds over (suc k) zero name p h = absurd (omega arith)
chains_mean m x kinds over (suc k) (suc b) name p h =
    let y = meanings_within m b in
    joined x (meanings_over m x) (meanings_over m y) name (turned (meanings_over m x) x name (over (suc k) name h))
    (item_over m x y name (agreeing_at m x y kinds (of_kinds m b) (item_named name m.items)
    (each_so m k x y (λ next e. chains_mean m x kinds over k b next (omega arith) e) (mentions_of m (item_named name m.items)) h)))

-- what means nothing means nothing
nothing_one : (m : Module) (x y : Meanings) → OfKinds m x → OfKinds m y → (name : List ℕ) → item_named name m.items ≡ None → ItemMeansOne x y name
nothing_one m x y p q name e = record {
  types = p.types name (ap (is_of_use AsType) e) ∙ sym (q.types name (ap (is_of_use AsType) e));
  structs = p.structs name (ap (is_of_use AsStruct) e) ∙ sym (q.structs name (ap (is_of_use AsStruct) e));
  kind = p.kind name (ap (is_of_use AsPattern) e) ∙ sym (q.kind name (ap (is_of_use AsPattern) e));
  constants = p.constants name (ap (is_of_use AsValue) e) ∙ sym (q.constants name (ap (is_of_use AsValue) e));
  members = λ c. p.members name (ap (is_of_use AsEnum) e) c ∙ sym (q.members name (ap (is_of_use AsEnum) e) c);
  calls = λ ns vs. p.calls name (ap (is_of_use AsFunction) e) ns vs ∙ sym (q.calls name (ap (is_of_use AsFunction) e) ns vs);
}

-- what is said of all chains from items is said of all names
every_name : (m : Module) → HasNoCycle m → (x y : Meanings) → OfKinds m x → OfKinds m y → ((name : List ℕ) → Ends m (length m.items) name → ItemMeansOne x y name) → (name : List ℕ) → ItemMeansOne x y name
every_name m free x y p q ending name = by_item (item_named name m.items) refl
  where
    ends : (u : Use) → is_of_use u (item_named name m.items) ≡ true → ItemMeansOne x y name
    ends u e = ending name (item_ends m free name u e)

    by_item : (o : Option Definition) → item_named name m.items ≡ o → ItemMeansOne x y name
    by_item None e = nothing_one m x y p q name e
    by_item (Some (d.Function f)) e = ends AsFunction (ap (is_of_use AsFunction) e)
    by_item (Some (d.Proc f)) e = ends AsProc (ap (is_of_use AsProc) e)
    by_item (Some (d.Constant c)) e = ends AsValue (ap (is_of_use AsValue) e)
    by_item (Some (d.Alias t)) e = ends AsType (ap (is_of_use AsType) e)
    by_item (Some (d.Struct s)) e = ends AsStruct (ap (is_of_use AsStruct) e)
    by_item (Some (d.Enum n)) e = ends AsEnum (ap (is_of_use AsEnum) e)

-- meanings in which each name means one thing are one
pub one_meaning : (x y : Meanings) → ((name : List ℕ) → ItemMeansOne x y name) → x ≡ y
one_meaning x y every = λ j. record {
  type_named = types j;
  struct_named = structs j;
  is_constant = kind j;
  constant = constants j;
  member = members j;
  call = calls j;
}
  where
    types : x.type_named ≡ y.type_named
    types = fun_ext (λ name. (every name).types)

    structs : x.struct_named ≡ y.struct_named
    structs = fun_ext (λ name. (every name).structs)

    kind : x.is_constant ≡ y.is_constant
    kind = fun_ext (λ name. (every name).kind)

    constants : x.constant ≡ y.constant
    constants = fun_ext (λ name. (every name).constants)

    members : x.member ≡ y.member
    members = fun_ext (λ name. fun_ext (λ c. (every name).members c))

    calls : x.call ≡ y.call
    calls = fun_ext (λ name. fun_ext (λ ns. fun_ext (λ vs. (every name).calls ns vs)))

-- where no item reaches itself, a longer recursion gives nothing more
pub recursion_settles : (m : Module) → HasNoCycle m → (a b : ℕ) → length m.items ≤ a → length m.items ≤ b → meanings_within m a ≡ meanings_within m b
recursion_settles m free a b p q =
    one_meaning (meanings_within m a) (meanings_within m b)
    (every_name m free (meanings_within m a) (meanings_within m b) (of_kinds m a) (of_kinds m b) (λ name e. settles m (length m.items) a b name p q e))

-- and no other meanings are those over themselves
pub only_meanings : (m : Module) → HasNoCycle m → (x : Meanings) → meanings_over m x ≡ x → x ≡ meanings_within m (length m.items)
only_meanings m free x same =
    one_meaning x (meanings_within m (length m.items))
    (every_name m free x (meanings_within m (length m.items)) (over_itself m x same) (of_kinds m (length m.items))
    (λ name e. settles_so m x same (length m.items) (length m.items) name (omega arith) e))
