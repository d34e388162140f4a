-- What comes of a step that goes to an item.
use Rattle.std.proofs.Common.{nat_lt, arith, ◌≡◌, ◌==◌, ℕ, zero, suc, Bool, true, false, List, [], ◌∷◌, ◌++◌, Option, Some, None, length, map, refl, sym, ap, ◌∙◌, if◌then◌else◌}
use Rattle.std.proofs.lemmas.Bool.Decides.{nat_tests}
use Rattle.std.proofs.lemmas.List.{append-nil}
use Rattle.dslx_tree.specs.declared.expr.Expr.{Expr}
use Rattle.dslx_tree.specs.declared.item.Constant.{Constant}
use Rattle.dslx_tree.specs.declared.item.Definition.{Definition}
use Rattle.dslx_tree.specs.declared.item.Definition.TheVariants as d
use Rattle.dslx_tree.specs.declared.item.Enum.{Enum}
use Rattle.dslx_tree.specs.declared.item.Field.{Field}
use Rattle.dslx_tree.specs.declared.item.Function.{Function}
use Rattle.dslx_tree.specs.declared.item.Member.{Member}
use Rattle.dslx_tree.specs.declared.item.Parametric.{Parametric}
use Rattle.dslx_tree.specs.declared.item.Struct.{Struct}
use Rattle.dslx_meaning.specs.Environment.{Env, Given, Meanings, given_in, value_of_name, outside}
use Rattle.dslx_meaning.specs.Inference.{Inferred, inferred_for}
use Rattle.dslx_meaning.specs.Items as i
use Rattle.dslx_meaning.specs.Items.{meanings_within, item_named, as_function, as_constant, as_struct, as_enum, member_named, all_parametric_args, parametric_args_bound, with_number, put_first, inferred_from}
use Rattle.dslx_meaning.specs.Lists.{and_then, or_else}
use Rattle.dslx_meaning.specs.Meaning.{ExprDen, denotation, value_of, value_of_block, written_type}
use Rattle.dslx_meaning.specs.Values.{type_of_value}
use Rattle.dslx_meaning.specs.declared.ty.BitKind.{BitKind}
use Rattle.dslx_meaning.specs.declared.ty.DslxType.{DslxType}
use Rattle.dslx_meaning.specs.declared.value.UntypedLiteral.{UntypedLiteral}
use Rattle.dslx_meaning.specs.declared.value.DslxValue.{DslxValue}
use Rattle.dslx_tree.specs.declared.item.Module.{Module}
use Rattle.dslx_meaning.specs.Names.ConstMachine.Kept.{KeptValues, is_hidden, items_within, kept_within, unless_hidden}
use Rattle.dslx_meaning.specs.Names.ConstMachine.Tasks.{ConstState, ConstCall}
use Rattle.dslx_meaning.specs.Names.ConstMachine.Items as s
use Rattle.dslx_meaning.specs.Names.ConstMachine.States.{at_item, one_less}
use Rattle.dslx_meaning.proofs.OnNames.OnConstMachine.Options.{first_of_all}
use Rattle.dslx_meaning.proofs.OnNames.OnConstMachine.Places.{place_of, env_in, gives, gives_type, back_from, answer, answer_of, field_types_in, struct_of, member_in, body_in, call_in, operands_in, parametric_in}

-- ---- what items denote where values are kept

kept_constant : (kept : KeptValues) (m : Module) (n : ℕ) (name : List ℕ) → (kept_within kept m n).constant name ≡ kept.constant name
kept_constant kept m zero name = refl
kept_constant kept m (suc n) name = refl

kept_member : (kept : KeptValues) (m : Module) (n : ℕ) (e a : List ℕ) → (kept_within kept m n).member e a ≡ kept.member e a
kept_member kept m zero e a = refl
kept_member kept m (suc n) e a = refl

-- but for values, these items are those, unless they are hidden
record AreButValues (k : Option KeptValues) (items others : Meanings) : Type 0 where
  types : (name : List ℕ) → items.type_named name ≡ unless_hidden (is_hidden k name) (others.type_named name)
  structs : (name : List ℕ) → items.struct_named name ≡ unless_hidden (is_hidden k name) (others.struct_named name)
  calls : (name : List ℕ) (parametric_args vs : List DslxValue) → items.call name parametric_args vs ≡ unless_hidden (is_hidden k name) (others.call name parametric_args vs)

-- they are the items of the text over those of shorter chains
no_items : (k : Option KeptValues) (m : Module) → AreButValues k (items_within k m zero) i.nothing_known
no_items None m = record { types = λ name. refl; structs = λ name. refl; calls = λ name parametric_args vs. refl }
no_items (Some kept) m = record { types = λ name. refl; structs = λ name. refl; calls = λ name parametric_args vs. refl }

over_items : (k : Option KeptValues) (m : Module) (n : ℕ) → AreButValues k (items_within k m (suc n)) (i.meanings_over m (items_within k m n))
over_items None m n = record { types = λ name. refl; structs = λ name. refl; calls = λ name parametric_args vs. refl }
over_items (Some kept) m n = record { types = λ name. refl; structs = λ name. refl; calls = λ name parametric_args vs. refl }

abbrev over_shorter : Option KeptValues → Module → ℕ → Meanings
over_shorter k m zero = i.nothing_known
over_shorter k m (suc n) = i.meanings_over m (items_within k m n)

but_values : (k : Option KeptValues) (m : Module) (n : ℕ) → AreButValues k (items_within k m n) (over_shorter k m n)
but_values k m zero = no_items k m
but_values k m (suc n) = over_items k m n

-- ---- constants, names, members

pub uses_constant_keeps : (name : List ℕ) (run : ConstState) → answer_of (s.uses_constant name run) ≡ answer run.todo (gives ((env_in run).items.constant name) (place_of run))
uses_constant_keeps name run = by run.kept refl
  where
    found : (n : ℕ) (o : Option Constant) → answer_of (s.at_constant n o run) ≡ answer run.todo (gives (and_then o (i.constant_value (items_within run.kept run.text n))) (place_of run))
    found n None = refl
    found n (Some c) = refl

    within : (n : ℕ) → run.kept ≡ None → answer_of (s.constant_from (one_less n) name run) ≡ answer run.todo (gives ((meanings_within run.text n).constant name) (place_of run))
    within zero e = refl
    within (suc n) e =
        found n (as_constant (item_named name run.text.items))
        ∙ ap (λ k. answer run.todo (gives (and_then (as_constant (item_named name run.text.items)) (i.constant_value (items_within k run.text n))) (place_of run))) e

    by : (k : Option KeptValues) → run.kept ≡ k → answer_of (s.constant_by k name run) ≡ answer run.todo (gives ((items_within k run.text run.left).constant name) (place_of run))
    by None e = within run.left e
    by (Some kept) e = ap (λ v. answer run.todo (gives v (place_of run))) (sym (kept_constant kept run.text run.left name))

pub uses_name_keeps : (name : List ℕ) (run : ConstState) → answer_of (s.uses_name name run) ≡ answer run.todo (gives (value_of_name name (env_in run)) (place_of run))
uses_name_keeps name run = by (given_in name run.bound) refl
  where
    by : (o : Option DslxValue) → given_in name run.bound ≡ o → answer_of (s.given_or_constant o name run) ≡ answer run.todo (gives (value_of_name name (env_in run)) (place_of run))
    by None e = uses_constant_keeps name run ∙ ap (λ q. answer run.todo (gives (or_else q ((env_in run).items.constant name)) (place_of run))) (sym e)
    by (Some v) e = ap (λ q. answer run.todo (gives (or_else q ((env_in run).items.constant name)) (place_of run))) (sym e)

member_bits_are : (items : Meanings) (kind : BitKind) (e : ExprDen) → i.member_bits items kind e ≡ member_in kind e.bare (e.value (outside items))
member_bits_are items kind e = by e.bare
  where
    by : (o : Option UntypedLiteral) → i.member_bits items kind (record { bare = o; value = e.value }) ≡ member_in kind o (e.value (outside items))
    by None = refl
    by (Some b) = refl

pub uses_member_keeps : (e a : List ℕ) (run : ConstState) → answer_of (s.uses_member e a run) ≡ answer run.todo (gives ((env_in run).items.member e a) (place_of run))
uses_member_keeps e a run = by run.kept refl
  where
    member : (n : ℕ) (x : Enum) (o : Option Member) → answer_of (s.at_member n x o run) ≡ answer run.todo (gives (and_then o (i.member_value (items_within run.kept run.text n) x)) (place_of run))
    member n x None = refl
    member n x (Some mem) = λ j. answer run.todo (gives (and_then (i.base_of (items_within run.kept run.text n) x)
        (λ kind. and_then (sym (member_bits_are (items_within run.kept run.text n) kind (denotation mem.value)) j) (i.enum_member x.name.name))) (place_of run))

    member_there : Meanings → Option DslxValue
    member_there items = and_then (as_enum (item_named e run.text.items)) (λ x. and_then (member_named a x.members) (i.member_value items x))

    found : (n : ℕ) (o : Option Enum) → answer_of (s.at_member_of n o a run)
        ≡ answer run.todo (gives (and_then o (λ x. and_then (member_named a x.members) (i.member_value (items_within run.kept run.text n) x))) (place_of run))
    found n None = refl
    found n (Some x) = member n x (member_named a x.members)

    within : (n : ℕ) → run.kept ≡ None → answer_of (s.member_from (one_less n) e a run) ≡ answer run.todo (gives ((meanings_within run.text n).member e a) (place_of run))
    within zero q = refl
    within (suc n) q = found n (as_enum (item_named e run.text.items)) ∙ ap (λ k. answer run.todo (gives (member_there (items_within k run.text n)) (place_of run))) q

    by : (k : Option KeptValues) → run.kept ≡ k → answer_of (s.member_by k e a run) ≡ answer run.todo (gives ((items_within k run.text run.left).member e a) (place_of run))
    by None q = within run.left q
    by (Some kept) q = ap (λ v. answer run.todo (gives v (place_of run))) (sym (kept_member kept run.text run.left e a))

-- ---- types

pub field_types_keep : (ts : List DslxType) (fs : List Field) (x : Struct) (run : ConstState)
    → answer_of (s.field_types_on ts fs x run) ≡ answer run.todo (gives_type (and_then (field_types_in (env_in run) fs) (λ us. struct_of x (ts ++ us))) (place_of run))
field_types_keep ts [] x run = ap (λ us. answer run.todo (gives_type (struct_of x us) (place_of run))) (sym (append-nil ts))
field_types_keep ts (f ∷ fs) x run =
    ap (λ o. answer run.todo (gives_type o (place_of run)))
    (sym (first_of_all (written_type f.ty (env_in run)) (map (λ (g : Field). written_type g.ty (env_in run)) fs) (λ us. struct_of x (ts ++ us))))

at_struct_keeps : (n : ℕ) (o : Option Struct) (run : ConstState) → answer_of (s.at_struct n o run) ≡ answer run.todo (gives_type (and_then o (i.struct_type (items_within run.kept run.text n))) (place_of run))
at_struct_keeps n None run = refl
at_struct_keeps n (Some x) run = field_types_keep [] x.fields x (at_item n [] run)

pub uses_struct_keeps : (name : List ℕ) (run : ConstState) → answer_of (s.uses_struct name run) ≡ answer run.todo (gives_type ((env_in run).items.struct_named name) (place_of run))
uses_struct_keeps name run = by (is_hidden run.kept name) ∙ ap (λ t. answer run.todo (gives_type t (place_of run))) (sym ((but_values run.kept run.text run.left).structs name))
  where
    within : (n : ℕ) → answer_of (s.struct_from (one_less n) name run) ≡ answer run.todo (gives_type ((over_shorter run.kept run.text n).struct_named name) (place_of run))
    within zero = refl
    within (suc n) = at_struct_keeps n (as_struct (item_named name run.text.items)) run

    by : (b : Bool) → answer_of (s.struct_unless b name run) ≡ answer run.todo (gives_type (unless_hidden b ((over_shorter run.kept run.text run.left).struct_named name)) (place_of run))
    by true = refl
    by false = within run.left

pub uses_type_keeps : (name : List ℕ) (run : ConstState) → answer_of (s.uses_type name run) ≡ answer run.todo (gives_type ((env_in run).items.type_named name) (place_of run))
uses_type_keeps name run = by (is_hidden run.kept name) ∙ ap (λ t. answer run.todo (gives_type t (place_of run))) (sym ((but_values run.kept run.text run.left).types name))
  where
    found : (n : ℕ) (o : Option Definition) → answer_of (s.at_type_item n o run) ≡ answer run.todo (gives_type (i.type_of_item (items_within run.kept run.text n) o) (place_of run))
    found n None = refl
    found n (Some (d.Function f)) = refl
    found n (Some (d.Proc p)) = refl
    found n (Some (d.Constant c)) = refl
    found n (Some (d.Alias a)) = refl
    found n (Some (d.Struct x)) = at_struct_keeps n (Some x) run
    found n (Some (d.Enum e)) = refl

    within : (n : ℕ) → answer_of (s.type_from (one_less n) name run) ≡ answer run.todo (gives_type ((over_shorter run.kept run.text n).type_named name) (place_of run))
    within zero = refl
    within (suc n) = found n (item_named name run.text.items)

    by : (b : Bool) → answer_of (s.type_unless b name run) ≡ answer run.todo (gives_type (unless_hidden b ((over_shorter run.kept run.text run.left).type_named name)) (place_of run))
    by true = refl
    by false = within run.left

-- ---- calls

-- what is made of numbers, one more of which is known
put_first_then : {A B : Type 0} (a : A) (o : Option (List A)) (k : List A → Option B) → and_then (put_first a o) k ≡ and_then o (λ more. k (a ∷ more))
put_first_then a None k = refl
put_first_then a (Some more) k = refl

-- where all numbers are given nothing is to be inferred
all_given : (items : Meanings) (inferred : List Inferred) (so_far : List Given) (ps : List Parametric) (vs : List DslxValue) → nat_lt (length vs) (length ps) ≡ false
    → all_parametric_args items inferred so_far ps vs ≡ all_parametric_args items [] so_far ps vs
all_given items inferred so_far [] [] e = refl
all_given items inferred so_far [] (v ∷ vs) e = refl
all_given items inferred so_far (p ∷ ps) (v ∷ vs) e =
    let fewer : nat_lt (length vs) (length ps) ≡ false = grind (arith, nat_tests) in
    ap (put_first v) (all_given items inferred (with_number so_far p v) ps vs fewer)
all_given items inferred so_far (p ∷ ps) [] e = absurd (grind (arith, nat_tests))

parametric_args_inferred : (items : Meanings) (f : Function) (parametric_args vs : List DslxValue)
    → all_parametric_args items (s.inferred_by f parametric_args vs) [] f.parametrics parametric_args ≡ all_parametric_args items (inferred_from f.arguments (map type_of_value vs)) [] f.parametrics parametric_args
parametric_args_inferred items f parametric_args vs = by (nat_lt (length parametric_args) (length f.parametrics)) refl
  where
    by : (b : Bool) → nat_lt (length parametric_args) (length f.parametrics) ≡ b
        → all_parametric_args items (if b then inferred_from f.arguments (map type_of_value vs) else []) [] f.parametrics parametric_args
        ≡ all_parametric_args items (inferred_from f.arguments (map type_of_value vs)) [] f.parametrics parametric_args
    by true e = refl
    by false e = sym (all_given items (inferred_from f.arguments (map type_of_value vs)) [] f.parametrics parametric_args e)

pub uses_function_keeps : (name : List ℕ) (parametric_args vs : List DslxValue) (run : ConstState)
    → answer_of (s.uses_function name parametric_args vs run) ≡ answer run.todo (gives ((env_in run).items.call name parametric_args vs) (place_of run))
uses_function_keeps name parametric_args vs run =
    by (is_hidden run.kept name) ∙ ap (λ v. answer run.todo (gives v (place_of run))) (sym ((but_values run.kept run.text run.left).calls name parametric_args vs))
  where
    found : (n : ℕ) (o : Option Function) → answer_of (s.at_function n o parametric_args vs run)
        ≡ answer run.todo (gives (and_then o (λ f. i.call_of (items_within run.kept run.text n) f parametric_args vs)) (place_of run))
    found n None = refl
    found n (Some f) =
        ap (λ o. answer run.todo (gives (and_then o (λ ns. i.function_value (items_within run.kept run.text n) f ns vs)) (place_of run))) (parametric_args_inferred (items_within run.kept run.text n) f parametric_args vs)

    within : (n : ℕ) → answer_of (s.function_from (one_less n) name parametric_args vs run) ≡ answer run.todo (gives ((over_shorter run.kept run.text n).call name parametric_args vs) (place_of run))
    within zero = refl
    within (suc n) = found n (as_function (item_named name run.text.items))

    by : (b : Bool) → answer_of (s.function_unless b name parametric_args vs run)
        ≡ answer run.todo (gives (unless_hidden b ((over_shorter run.kept run.text run.left).call name parametric_args vs)) (place_of run))
    by true = refl
    by false = within run.left

pub operands_keep : (vs : List DslxValue) (call : ConstCall) (fs : List Field) (run : ConstState) → call.operands ≡ vs
    → answer_of (s.operands_on vs call fs run) ≡ answer run.todo (back_from call (operands_in call fs (env_in run)) (place_of run))
operands_keep [] call [] run e = refl
operands_keep [] call (f ∷ fs) run e =
    ap (λ ws. answer run.todo (back_from call (value_of_block call.function.body (record { items = (env_in run).items; bound = i.operands_bound run.bound (f ∷ fs) ws })) (place_of run))) (sym e)
operands_keep (v ∷ vs) call [] run e = refl
operands_keep (v ∷ vs) call (f ∷ fs) run e =
    ap (λ ws. answer run.todo (back_from call (value_of_block call.function.body (record { items = (env_in run).items; bound = i.operands_bound run.bound (f ∷ fs) ws })) (place_of run))) (sym e)

-- where all parametrics are bound
begins_keeps : (call : ConstCall) (run : ConstState)
    → answer_of (s.call_begins call run) ≡ answer run.todo (back_from call (body_in call [] (env_in run) []) (place_of run))
begins_keeps call run = by (length call.operands == length call.function.arguments) refl
  where
    by : (b : Bool) → (length call.operands == length call.function.arguments) ≡ b
        → answer_of (s.call_begins call run) ≡ answer run.todo (back_from call (body_in call [] (env_in run) []) (place_of run))
    by true e = rw e refl
    by false e = rw e refl

pub parametric_keeps : (call : ConstCall) (p : Parametric) (ps : List Parametric) (o : Option DslxValue) (run : ConstState)
    → answer_of (s.parametric_given o call p ps run) ≡ answer run.todo (back_from call (parametric_in call p ps o (env_in run)) (place_of run))
parametric_keeps call p ps None run = refl
parametric_keeps call p ps (Some v) run = refl

-- a call by the numbers that are given
abbrev call_given : ConstCall → List Parametric → Env → List DslxValue → Option DslxValue
call_given call ps env vs = and_then (all_parametric_args env.items call.inferred env.bound ps vs) (body_in call ps env)

-- a parameter that isn't given, and those behind it
next_number : (call : ConstCall) (p : Parametric) (ps : List Parametric) (env : Env) → call.given ≡ []
    → call_given call (p ∷ ps) env [] ≡ parametric_in call p ps (i.inferred_value env p (inferred_for p.name.name call.inferred)) env
next_number call p ps env none = by (i.inferred_value env p (inferred_for p.name.name call.inferred))
  where
    by : (o : Option DslxValue)
        → and_then (and_then o (λ v. put_first v (all_parametric_args env.items call.inferred (with_number env.bound p v) ps []))) (body_in call (p ∷ ps) env) ≡ parametric_in call p ps o env
    by None = refl
    by (Some v) =
        put_first_then v (all_parametric_args env.items call.inferred (with_number env.bound p v) ps []) (body_in call (p ∷ ps) env)
        ∙ ap (λ vs. call_given call ps (record { items = env.items; bound = with_number env.bound p v }) vs) (sym none)

pub parametrics_keep : (vs : List DslxValue) (call : ConstCall) (ps : List Parametric) (run : ConstState) → call.given ≡ vs
    → answer_of (s.parametrics_on vs call ps run) ≡ answer run.todo (back_from call (call_in call ps (env_in run)) (place_of run))
parametrics_keep [] call [] run e = begins_keeps call run ∙ ap (λ ws. answer run.todo (back_from call (call_given call [] (env_in run) ws) (place_of run))) (sym e)
parametrics_keep [] call (p ∷ ps) run e =
    by (inferred_for p.name.name call.inferred)
    ∙ ap (λ o. answer run.todo (back_from call o (place_of run))) (sym (next_number call p ps (env_in run) e))
    ∙ ap (λ ws. answer run.todo (back_from call (call_given call (p ∷ ps) (env_in run) ws) (place_of run))) (sym e)
  where
    default : (o : Option Expr) → answer_of (s.default_begins o call p ps run)
        ≡ answer run.todo (back_from call (parametric_in call p ps (and_then o (λ x. value_of x (env_in run))) (env_in run)) (place_of run))
    default None = refl
    default (Some x) = refl

    by : (o : Option ℕ) → answer_of (s.parametric_begins o call p ps run)
        ≡ answer run.todo (back_from call (parametric_in call p ps (i.inferred_value (env_in run) p o) (env_in run)) (place_of run))
    by None = default p.default
    by (Some k) = refl
parametrics_keep (v ∷ vs) call [] run e = ap (λ ws. answer run.todo (back_from call (call_given call [] (env_in run) ws) (place_of run))) (sym e)
parametrics_keep (v ∷ vs) call (p ∷ ps) run e =
    ap (λ o. answer run.todo (back_from call o (place_of run)))
    (sym (put_first_then v (all_parametric_args (env_in run).items call.inferred (with_number run.bound p v) ps vs) (body_in call (p ∷ ps) (env_in run))))
    ∙ ap (λ ws. answer run.todo (back_from call (call_given call (p ∷ ps) (env_in run) ws) (place_of run))) (sym e)
