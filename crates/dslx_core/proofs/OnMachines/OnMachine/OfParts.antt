-- What comes of steps on several expressions.
use Rattle.std.proofs.Common.{◌≡◌, ℕ, Bool, true, false, if◌then◌else◌, List, [], ◌∷◌, ◌++◌, map, Option, Some, None, refl, sym, ap, ◌∙◌}
use Rattle.std.specs.Option.{option_map}
use Rattle.std.specs.Str.{bytes_eq}
use Rattle.std.specs.List.{list_all}
use Rattle.std.proofs.lemmas.List.{append_assoc, append-nil}
use Rattle.std.proofs.lemmas.Simd.{map-map}
use Rattle.dslx_tree.specs.declared.expr.Arg.{Arg}
use Rattle.dslx_tree.specs.declared.expr.Expr.{Expr}
use Rattle.dslx_tree.specs.declared.expr.FieldValue.{FieldValue, out-FieldValue}
use Rattle.dslx_tree.specs.declared.item.Function.{Function}
use Rattle.dslx_tree.specs.declared.type_expr.TypeExpr.{TypeExpr}
use Rattle.dslx_meaning.specs.Callees as k
use Rattle.dslx_meaning.specs.Callees.{CallKind, kind_of_call}
use Rattle.dslx_meaning.specs.Items.{all_parametric_args, as_function, inferred_from, item_named}
use Rattle.dslx_meaning.specs.Lists.{all_some, and_then, is_in, with_both}
use Rattle.dslx_meaning.specs.Meaning.{denotation}
use Rattle.dslx_meaning.specs.declared.ty.DslxType.{DslxType, out-DslxType}
use Rattle.dslx_meaning.specs.declared.ty.DslxType as ty
use Rattle.dslx_meaning.specs.declared.ty.DslxType.TheOpen.{DslxType-F}
use Rattle.dslx_meaning.specs.declared.value.UntypedLiteral.{UntypedLiteral}
use Rattle.dslx_meaning.specs.declared.value.DslxValue.{DslxValue}
use Rattle.dslx_meaning.specs.Rules.AggregateRules.{array_in}
use Rattle.dslx_core.specs.declared.expr.CoreUnary.{CoreUnary}
use Rattle.dslx_core.specs.declared.expr.CoreUnary.TheVariants as u
use Rattle.dslx_core.specs.declared.expr.CoreExpr as core
use Rattle.dslx_core.specs.declared.expr.Shape as shape
use Rattle.dslx_meaning.specs.Names.ConstMachine.Layers.{field_among}
use Rattle.dslx_core.specs.Lowering.CoreScopes.{CoreCallee, CoreScope, with_unnamed}
use Rattle.dslx_core.specs.Lowering.Functions.{CoreInstance, callee_in, callee_of, instance_in}
use Rattle.dslx_core.specs.Lowering.Lowering.{LoweredExpr, lower_call, cores_of, lower_counted, lower_field, lowered, lower_name, lower_number, lower_reduced, lower_tuple, types_of_lowered, lower_updated}
use Rattle.dslx_core.specs.Lowering.Trees.{FieldLowering, lower_array, element_or_number, lower_array_elements, lower_expression, field_or_other, lower_fields, lower_filled, names_written, of_type, struct_fields, lower_struct_in, lower_type_of_text, value_written, with_others, without_others}
use Rattle.dslx_core.specs.Machines.Machine.Tasks.{PartsMaker, MakesTuple, MakesArray, Fills, CallsWith, StructWork, LowersExpr, Gathers, GathersFields, TakesOthers, MakesBind, CallsInstance, OpenBody, InstanceEnv}
use Rattle.dslx_core.specs.Machines.Machine.Bodies.{doing, scope_in, restores, unnamed}
use Rattle.dslx_core.specs.Machines.Machine.Parts as s
use Rattle.dslx_core.specs.Machines.Machine.Parts.{names_of_fields, parametric_args_at, part_taken}
use Rattle.dslx_core.proofs.OnMachines.OnMachine.LowersTo.{all_become, array_type_at, element_pair, field_lowers_to, field_by_parts, field_opened, field_value_lowers_to}
use Rattle.dslx_core.specs.Machines.Machine.Reached.{at_table}
use Rattle.dslx_core.proofs.Lemmas.Machines.Machine.Options.{all_there, first_of_all, gives_itself, in_turn, nothing_behind}
use Rattle.dslx_core.proofs.Lemmas.Machines.Machine.Scopes.{does_all, end_of_next, fields_in, list_in, made_in, makes, part_in, spot_of}
use Rattle.dslx_core.proofs.OnMachines.OnMachine.Sequels.{back_from_unnamed, gives_keep, taken_next}
use Rattle.dslx_core.proofs.Lemmas.Machines.Machine.Steady.{type_anywhere}

-- ---- lowering is strict in all operands

abbrev none : Option LoweredExpr
none = None

-- a list with two parts and more, of which nothing is made
two_or_more : (o p : Option LoweredExpr) (os : List (Option LoweredExpr)) (f : List LoweredExpr → Option LoweredExpr) → ((a b : LoweredExpr) (es : List LoweredExpr) → f (a ∷ b ∷ es) ≡ None)
    → None ≡ and_then (all_some (o ∷ p ∷ os)) f
two_or_more o p os f is =
    sym (first_of_all o (p ∷ os) f ∙ (λ i. and_then o (λ a. first_of_all p os (λ es. f (a ∷ es)) i))
    ∙ (λ i. and_then o (λ a. and_then p (λ b. and_then (all_some os) (λ es. is a b es i))))
    ∙ (λ i. and_then o (λ a. and_then p (λ b. nothing_behind {B = LoweredExpr} (all_some os) i)))
    ∙ (λ i. and_then o (λ a. nothing_behind {B = LoweredExpr} p i)) ∙ nothing_behind o)

counted_strict : (o : CoreUnary) (os : List (Option LoweredExpr)) → lower_counted o os ≡ and_then (all_some os) (λ es. lower_counted o (map Some es))
counted_strict o [] = refl
counted_strict o (None ∷ []) = refl
counted_strict o (Some a ∷ []) = refl
counted_strict o (a ∷ b ∷ os) = two_or_more a b os (λ es. lower_counted o (map Some es)) (λ a b es. refl)

reduced_strict : (o : CoreUnary) (os : List (Option LoweredExpr)) → lower_reduced o os ≡ and_then (all_some os) (λ es. lower_reduced o (map Some es))
reduced_strict o [] = refl
reduced_strict o (None ∷ []) = refl
reduced_strict o (Some a ∷ []) = refl
reduced_strict o (a ∷ b ∷ os) = two_or_more a b os (λ es. lower_reduced o (map Some es)) (λ a b es. refl)

updated_strict : (os : List (Option LoweredExpr)) → lower_updated os ≡ and_then (all_some os) (λ es. lower_updated (map Some es))
updated_strict [] = refl
updated_strict (None ∷ []) = refl
updated_strict (Some a ∷ []) = refl
updated_strict (None ∷ b ∷ []) = refl
updated_strict (Some a ∷ None ∷ []) = refl
updated_strict (Some a ∷ Some b ∷ []) = refl
updated_strict (None ∷ b ∷ None ∷ []) = refl
updated_strict (None ∷ b ∷ Some c ∷ []) = refl
updated_strict (Some a ∷ None ∷ None ∷ []) = refl
updated_strict (Some a ∷ None ∷ Some c ∷ []) = refl
updated_strict (Some a ∷ Some b ∷ None ∷ []) = refl
updated_strict (Some a ∷ Some b ∷ Some c ∷ []) = refl
updated_strict (a ∷ b ∷ c ∷ d ∷ os) =
    sym (first_of_all a (b ∷ c ∷ d ∷ os) (λ es. lower_updated (map Some es))
    ∙ (λ i. and_then a (λ x. first_of_all b (c ∷ d ∷ os) (λ es. lower_updated (Some x ∷ map Some es)) i))
    ∙ (λ i. and_then a (λ x. and_then b (λ y. sym (two_or_more c d os (λ es. lower_updated (Some x ∷ Some y ∷ map Some es)) (λ z w es. refl)) i)))
    ∙ (λ i. and_then a (λ x. nothing_behind {B = LoweredExpr} b i)) ∙ nothing_behind a)

joins_strict : (os : List (Option LoweredExpr)) → and_then (all_some os) (λ es. lowered (core.Tuple []) ty.Token) ≡ and_then (all_some os) (λ es. and_then (all_some (map Some es)) (λ es. lowered (core.Tuple []) ty.Token))
joins_strict os = λ i. and_then (all_some os) (λ es. and_then (sym (all_there es) i) (λ es. lowered (core.Tuple []) ty.Token))

function_strict : (scope : CoreScope) (name : List ℕ) (ns : Option (List DslxValue)) (os : Option (List LoweredExpr)) (f : List DslxValue → List LoweredExpr → Option LoweredExpr)
    → with_both ns os f ≡ and_then os (λ es. with_both ns (all_some (map Some es)) f)
function_strict scope name None None f = refl
function_strict scope name None (Some es) f = refl
function_strict scope name (Some ns) None f = refl
function_strict scope name (Some ns) (Some es) f = ap (λ o. with_both (Some ns) o f) (sym (all_there es))

call_strict : (kind : CallKind) (name : List ℕ) (scope : CoreScope) (ns : List (Option DslxValue)) (os : List (Option LoweredExpr))
    → lower_call kind name scope ns os ≡ and_then (all_some os) (λ es. lower_call kind name scope ns (map Some es))
call_strict k.Joins name scope ns os = joins_strict os
call_strict k.Receives name scope ns os = sym (nothing_behind (all_some os))
call_strict k.ReceivesIf name scope ns os = sym (nothing_behind (all_some os))
call_strict k.Sends name scope ns os = sym (nothing_behind (all_some os))
call_strict k.SendsIf name scope ns os = sym (nothing_behind (all_some os))
call_strict k.CountsLeading name scope ns os = counted_strict u.Clz os
call_strict k.CountsTrailing name scope ns os = counted_strict u.Ctz os
call_strict k.Reverses name scope ns os = counted_strict u.Rev os
call_strict k.AllOnes name scope ns os = reduced_strict u.AndReduce os
call_strict k.SomeOne name scope ns os = reduced_strict u.OrReduce os
call_strict k.Parity name scope ns os = reduced_strict u.XorReduce os
call_strict k.Updates name scope ns os = updated_strict os
call_strict k.Calls name scope ns os =
    function_strict scope name (all_some ns) (all_some os) (λ parametric_args es. and_then (scope.known.callee name parametric_args (types_of_lowered es)) (λ callee. lowered (core.Call callee.number (cores_of es)) callee.result))

-- ---- a part and those behind it

abbrev element_begun : DslxType → Option UntypedLiteral → Option LoweredExpr → Option LoweredExpr
element_begun t None e = e
element_begun t (Some number) e = lower_number (Some t) number

element_is : (t : DslxType) (o : Option UntypedLiteral) (e : Option LoweredExpr) → and_then (element_begun t o e) (λ e. of_type t (Some e)) ≡ element_or_number t o e
element_is t None e = refl
element_is t (Some number) e = refl

-- a field and those behind it
next_field : (t : DslxType) (o : Option LoweredExpr) (rest : Option (List LoweredExpr)) (before : List LoweredExpr) (u : DslxType)
    → and_then o (λ r. and_then (of_type t (Some r)) (λ e. and_then rest (λ es. lowered (core.Tuple (cores_of ((before ++ e ∷ []) ++ es))) u)))
    ≡ and_then (with_both (of_type t o) rest (λ e es. Some (e ∷ es))) (λ es. lowered (core.Tuple (cores_of (before ++ es))) u)
next_field t None rest before u = refl
next_field t (Some r) rest before u = by (of_type t (Some r)) rest
  where
    by : (o : Option LoweredExpr) (rest : Option (List LoweredExpr))
        → and_then o (λ e. and_then rest (λ es. lowered (core.Tuple (cores_of ((before ++ e ∷ []) ++ es))) u))
        ≡ and_then (with_both o rest (λ e es. Some (e ∷ es))) (λ es. lowered (core.Tuple (cores_of (before ++ es))) u)
    by None rest = refl
    by (Some e) None = refl
    by (Some e) (Some es) = ap (λ es. lowered (core.Tuple (cores_of es)) u) (append_assoc before (e ∷ []) es)

-- ---- names of fields

names_are : (fs : List FieldValue) → names_written (map field_lowers_to fs) ≡ names_of_fields fs
names_are fs = map-map (λ (f : FieldLowering). f.name) field_lowers_to fs ∙ (λ i. map (λ f. (field_opened f i).name) fs)

written_is : (field : List ℕ) (fields : List FieldValue) → value_written field (map field_lowers_to fields) ≡ option_map (λ f. (field_by_parts f).value) (field_among field fields)
written_is field [] = refl
written_is field (f ∷ fs) =
    ap (λ (x : FieldLowering). if is_in field (x.name ∷ []) then Some x.value else value_written field (map field_lowers_to fs)) (field_opened f)
    ∙ by (bytes_eq field (out-FieldValue f).name.name) (written_is field fs)
  where
    by : (b : Bool) → value_written field (map field_lowers_to fs) ≡ option_map (λ g. (field_by_parts g).value) (field_among field fs)
        → (if (if b then true else false) then Some (field_by_parts f).value else value_written field (map field_lowers_to fs))
        ≡ option_map (λ g. (field_by_parts g).value) (if b then Some f else field_among field fs)
    by true rest = refl
    by false rest = rest

-- ---- steps

module _ (context : InstanceEnv) (table : List CoreInstance) where
  abbrev at : InstanceEnv
  at = at_table context table

  -- what comes of a step, by what is made
  abbrev TableResult : Option OpenBody → Option LoweredExpr → OpenBody → Type 0
  TableResult next o body = end_of_next at next ≡ and_then (makes o (spot_of at body)) (does_all at body.todo)

  abbrev scope : OpenBody → CoreScope
  scope body = scope_in at body

  -- ---- calls

  abbrev parametric_args_of : List LoweredExpr → List DslxValue → Function → Option (List DslxValue)
  parametric_args_of es given f = all_parametric_args context.items (inferred_from f.arguments (types_of_lowered es)) [] f.parametrics given

  calls_function_keeps : (name : List ℕ) (es : List LoweredExpr) (given : List DslxValue) (body : OpenBody)
      → TableResult (s.calls_function context name es given body) (and_then (callee_in context.text context.items table name given (types_of_lowered es)) (λ callee. lowered (core.Call callee.number (cores_of es)) callee.result)) body
  calls_function_keeps name es given body = by (as_function (item_named name context.text.items))
    where
      calls : List DslxValue → Option OpenBody
      calls parametric_args = Some (doing (CallsInstance (record { name = name; parametric_args = parametric_args }) es ∷ []) body)

      found : List DslxValue → Option CoreCallee
      found parametric_args = and_then (instance_in name parametric_args 0 table) (callee_of (types_of_lowered es))

      call : CoreCallee → Option LoweredExpr
      call callee = lowered (core.Call callee.number (cores_of es)) callee.result

      by_parametric_args : (q : Option (List DslxValue)) → TableResult (and_then q calls) (and_then (and_then q found) call) body
      by_parametric_args None = refl
      by_parametric_args (Some parametric_args) = refl

      by : (o : Option Function) → TableResult (and_then o (λ f. and_then (parametric_args_of es given f) calls)) (and_then (and_then o (λ f. and_then (parametric_args_of es given f) found)) call) body
      by None = refl
      by (Some f) = by_parametric_args (parametric_args_of es given f)

  all_parametric_args_keep : (ns : Option (List DslxValue)) (name : List ℕ) (es : List LoweredExpr) (body : OpenBody)
      → TableResult (and_then ns (λ given. s.calls_function context name es given body))
      (with_both ns (all_some (map Some es)) (λ given es. and_then ((scope body).known.callee name given (types_of_lowered es)) (λ callee. lowered (core.Call callee.number (cores_of es)) callee.result))) body
  all_parametric_args_keep None name es body = refl
  all_parametric_args_keep (Some given) name es body =
      calls_function_keeps name es given body
      ∙ ap (λ o. and_then (makes (with_both (Some given) o (λ given es. and_then (callee_in context.text context.items table name given (types_of_lowered es))
      (λ callee. lowered (core.Call callee.number (cores_of es)) callee.result))) (spot_of at body)) (does_all at body.todo)) (sym (all_there es))

  calls_keep : (kind : CallKind) (name : List ℕ) (parametric_args : List Arg) (es : List LoweredExpr) (body : OpenBody)
      → TableResult (s.calls_by_kind kind context name parametric_args es body) (lower_call kind name (scope body) (parametric_args_at (scope body) parametric_args) (map Some es)) body
  calls_keep k.Joins name parametric_args es body = gives_keep context table (lower_call k.Joins name (scope body) [] (map Some es)) body
  calls_keep k.Receives name parametric_args es body = refl
  calls_keep k.ReceivesIf name parametric_args es body = refl
  calls_keep k.Sends name parametric_args es body = refl
  calls_keep k.SendsIf name parametric_args es body = refl
  calls_keep k.CountsLeading name parametric_args es body = gives_keep context table (lower_counted u.Clz (map Some es)) body
  calls_keep k.CountsTrailing name parametric_args es body = gives_keep context table (lower_counted u.Ctz (map Some es)) body
  calls_keep k.Reverses name parametric_args es body = gives_keep context table (lower_counted u.Rev (map Some es)) body
  calls_keep k.AllOnes name parametric_args es body = gives_keep context table (lower_reduced u.AndReduce (map Some es)) body
  calls_keep k.SomeOne name parametric_args es body = gives_keep context table (lower_reduced u.OrReduce (map Some es)) body
  calls_keep k.Parity name parametric_args es body = gives_keep context table (lower_reduced u.XorReduce (map Some es)) body
  calls_keep k.Updates name parametric_args es body = gives_keep context table (lower_updated (map Some es)) body
  calls_keep k.Calls name parametric_args es body = all_parametric_args_keep (all_some (parametric_args_at (scope body) parametric_args)) name es body

  made_keeps : (maker : PartsMaker) (es : List LoweredExpr) (body : OpenBody) → TableResult (s.made_of_parts maker context es body) (made_in maker (scope body) es) body
  made_keeps MakesTuple es body = refl
  made_keeps MakesArray es body = gives_keep context table (lower_array_elements es) body
  made_keeps (Fills t n dots) es body = gives_keep context table (lower_filled body.count t dots n es) body
  made_keeps (CallsWith name parametric_args) es body = calls_keep (kind_of_call name) name parametric_args es body

  -- ---- expressions in order

  -- a part, before it is taken
  abbrev part_begun : PartsMaker → CoreScope → Expr → Option LoweredExpr
  part_begun (Fills t n dots) here e = element_begun t (denotation e).bare (lower_expression e here)
  part_begun maker here e = lower_expression e here

  element_keeps : (t : DslxType) (o : Option UntypedLiteral) (e : Expr) (body : OpenBody) → TableResult (s.element_begins t o e body) (element_begun t o (lower_expression e (scope body))) body
  element_keeps t None e body = refl
  element_keeps t (Some number) e body = gives_keep context table (lower_number (Some t) number) body

  part_keeps : (maker : PartsMaker) (e : Expr) (body : OpenBody) → TableResult (s.part_begins maker e body) (part_begun maker (scope body) e) body
  part_keeps MakesTuple e body = refl
  part_keeps MakesArray e body = refl
  part_keeps (Fills t n dots) e body = element_keeps t (denotation e).bare e body
  part_keeps (CallsWith name parametric_args) e body = refl

  part_is : (maker : PartsMaker) (here : CoreScope) (e : Expr) → and_then (part_begun maker here e) (part_taken maker) ≡ part_in maker here e
  part_is MakesTuple here e = gives_itself (lower_expression e here)
  part_is MakesArray here e = gives_itself (lower_expression e here)
  part_is (Fills t n dots) here e = element_is t (denotation e).bare (lower_expression e here)
  part_is (CallsWith name parametric_args) here e = gives_itself (lower_expression e here)

  pub gathers_keep : (before : List LoweredExpr) (es : List Expr) (maker : PartsMaker) (body : OpenBody) → TableResult (s.gathers context before es maker body) (list_in (scope body) before es maker) body
  gathers_keep before [] maker body =
      made_keeps maker before body ∙ ap (λ es. and_then (makes (made_in maker (scope body) es) (spot_of at body)) (does_all at body.todo)) (sym (append-nil before))
  gathers_keep before (e ∷ es) maker body =
      part_keeps maker e (doing (Gathers before es maker ∷ []) body)
      ∙ taken_next (λ here r. and_then (part_taken maker r) (λ e. list_in here (before ++ e ∷ []) es maker)) (part_begun maker (scope body) e) (spot_of at body) (does_all at body.todo)
      ∙ ap (λ o. and_then (makes o (spot_of at body)) (does_all at body.todo))
      (sym (in_turn (part_begun maker (scope body) e) (part_taken maker) (λ e. list_in (scope body) (before ++ e ∷ []) es maker))
      ∙ (λ i. and_then (part_is maker (scope body) e i) (λ e. and_then (all_some (map (part_in maker (scope body)) es)) (λ more. made_in maker (scope body) (append_assoc before (e ∷ []) more i))))
      ∙ sym (first_of_all (part_in maker (scope body) e) (map (part_in maker (scope body)) es) (λ more. made_in maker (scope body) (before ++ more))))

  -- ---- arrays

  pub array_keeps : (t : Option TypeExpr) (es : List Expr) (dots : Bool) (body : OpenBody)
      → TableResult (s.array_begins t context es dots body) (lower_array (scope body).count (array_type_at (scope body) t) (map (element_pair (scope body)) es) dots) body
  array_keeps None es true body = refl
  array_keeps None es false body =
      gathers_keep [] es MakesArray body
      ∙ ap (λ os. and_then (makes (and_then (all_some os) lower_array_elements) (spot_of at body)) (does_all at body.todo))
      (sym (map-map (λ (e : Option UntypedLiteral × Option LoweredExpr). e.1) (element_pair (scope body)) es))
  array_keeps (Some t) es dots body =
      (λ i. end_of_next at (and_then (and_then (sym (type_anywhere t (scope_in context body) (callee_in context.text context.items table)) i) array_in) (λ parts. s.gathers context [] es (Fills parts.0 parts.1 dots) body)))
      ∙ by (and_then (lower_type_of_text t (scope body)) array_in)
    where
      by : (o : Option (DslxType × ℕ)) → TableResult (and_then o (λ parts. s.gathers context [] es (Fills parts.0 parts.1 dots) body))
          (and_then o (λ parts. and_then (all_some (map (λ (e : Option UntypedLiteral × Option LoweredExpr). element_or_number parts.0 e.0 e.1) (map (element_pair (scope body)) es))) (lower_filled (scope body).count parts.0 dots parts.1))) body
      by None = refl
      by (Some parts) =
          gathers_keep [] es (Fills parts.0 parts.1 dots) body
          ∙ ap (λ os. and_then (makes (and_then (all_some os) (lower_filled (scope body).count parts.0 dots parts.1)) (spot_of at body)) (does_all at body.todo))
          (sym (map-map (λ (e : Option UntypedLiteral × Option LoweredExpr). element_or_number parts.0 e.0 e.1) (element_pair (scope body)) es))

  pub tuple_keeps : (es : List Expr) (body : OpenBody) → TableResult (s.gathers context [] es MakesTuple body) (lower_tuple (all_become (scope body) es)) body
  tuple_keeps es body = gathers_keep [] es MakesTuple body

  pub call_keeps : (name : List ℕ) (parametric_args : List Arg) (es : List Expr) (body : OpenBody)
      → TableResult (s.gathers context [] es (CallsWith name parametric_args) body) (lower_call (kind_of_call name) name (scope body) (parametric_args_at (scope body) parametric_args) (all_become (scope body) es)) body
  call_keeps name parametric_args es body =
      gathers_keep [] es (CallsWith name parametric_args) body
      ∙ ap (λ o. and_then (makes o (spot_of at body)) (does_all at body.todo)) (sym (call_strict (kind_of_call name) name (scope body) (parametric_args_at (scope body) parametric_args) (all_become (scope body) es)))

  -- ---- fields

  abbrev field_begun : CoreScope → Option LoweredExpr → List ℕ → Option FieldValue → Option LoweredExpr
  field_begun here others field o = field_or_other here others field (option_map (λ f. (field_by_parts f).value) o)

  field_value_keeps : (name : List ℕ) (o : Option Expr) (body : OpenBody) → TableResult (s.field_value_begins name o context body) (field_value_lowers_to name o (scope body)) body
  field_value_keeps name None body = gives_keep context table (lower_name name (scope body)) body
  field_value_keeps name (Some e) body = refl

  field_keeps : (o : Option FieldValue) (field : List ℕ) (others : Option LoweredExpr) (body : OpenBody) → TableResult (s.field_begins o field others context body) (field_begun (scope body) others field o) body
  field_keeps None field others body = gives_keep context table (lower_field others field) body
  field_keeps (Some f) field others body = field_value_keeps (out-FieldValue f).name.name (out-FieldValue f).value body

  pub fields_on_keep : (work : StructWork) (before : List LoweredExpr) (fields : List (List ℕ)) (ts : List DslxType) (body : OpenBody)
      → TableResult (s.fields_on context work before fields ts body) (fields_in (scope body) work before fields ts) body
  fields_on_keep work before [] [] body = ap (λ es. and_then (makes (lowered (core.Tuple (cores_of es)) work.ty) (spot_of at body)) (does_all at body.todo)) (sym (append-nil before))
  fields_on_keep work before [] (t ∷ ts) body = refl
  fields_on_keep work before (field ∷ fields) [] body = refl
  fields_on_keep work before (field ∷ fields) (t ∷ ts) body =
      field_keeps (field_among field work.written) field work.others (doing (GathersFields work before t fields ts ∷ []) body)
      ∙ taken_next (λ here r. and_then (of_type t (Some r)) (λ e. fields_in here work (before ++ e ∷ []) fields ts)) (field_begun (scope body) work.others field (field_among field work.written)) (spot_of at body) (does_all at body.todo)
      ∙ ap (λ o. and_then (makes o (spot_of at body)) (does_all at body.todo))
      ((λ i. and_then (field_or_other (scope body) work.others field (sym (written_is field work.written) i)) (λ r. and_then (of_type t (Some r)) (λ e. fields_in (scope body) work (before ++ e ∷ []) fields ts)))
      ∙ next_field t (field_or_other (scope body) work.others field (value_written field (map field_lowers_to work.written))) (lower_fields (scope body) (map field_lowers_to work.written) work.others fields ts) before work.ty)

  -- the value that has the other fields is bound
  pub others_keep : (e : LoweredExpr) (t : DslxType) (fields : List (List ℕ)) (ts : List DslxType) (written : List FieldValue) (body : OpenBody)
      → TableResult (s.others_taken context e t fields ts written body) (with_others (scope body) e (map field_lowers_to written) t fields ts) body
  others_keep e t fields ts written body =
      fields_on_keep (record { ty = t; written = written; others = lowered (core.Slot body.count) e.ty }) [] fields ts (unnamed (doing (MakesBind e shape.Bound ∷ restores body ∷ []) body))
      ∙ by (lower_fields (with_unnamed (scope body)) (map field_lowers_to written) (lowered (core.Slot body.count) e.ty) fields ts)
    where
      by : (o : Option (List LoweredExpr))
          → and_then (makes (and_then o (λ es. lowered (core.Tuple (cores_of es)) t)) (spot_of at (unnamed body))) (does_all at (MakesBind e shape.Bound ∷ restores body ∷ body.todo))
          ≡ and_then (makes (and_then o (λ es. lowered (core.Bind e.core shape.Bound (core.Tuple (cores_of es))) t)) (spot_of at body)) (does_all at body.todo)
      by None = refl
      by (Some es) =
          ap (λ here. does_all at body.todo (record { scope = here; made = record { core = core.Bind e.core shape.Bound (core.Tuple (cores_of es)); ty = t } ∷ body.made })) (back_from_unnamed (scope body))

  struct_of_fields : (written : List FieldValue) (rest : Option Expr) (t : DslxType) (fields : List (List ℕ)) (ts : List DslxType) (body : OpenBody)
      → TableResult (s.fields_begin context written rest t fields ts body) (struct_fields (scope body) (map field_lowers_to written) (option_map lower_expression rest) t fields ts) body
  struct_of_fields written None t fields ts body = fields_on_keep (record { ty = t; written = written; others = None }) [] fields ts body
  struct_of_fields written (Some e) t fields ts body =
      by (list_all (λ field. is_in field (names_of_fields written)) fields)
      ∙ ap (λ names. and_then (makes (if list_all (λ field. is_in field names) fields then without_others (scope body) (map field_lowers_to written) t fields ts
      else and_then (lower_expression e (scope body)) (λ e. with_others (scope body) e (map field_lowers_to written) t fields ts)) (spot_of at body)) (does_all at body.todo)) (sym (names_are written))
    where
      by : (b : Bool)
          → TableResult (if b then s.fields_on context (record { ty = t; written = written; others = None }) [] fields ts body else Some (doing (LowersExpr e ∷ TakesOthers t fields ts written ∷ []) body))
          (if b then without_others (scope body) (map field_lowers_to written) t fields ts else and_then (lower_expression e (scope body)) (λ e. with_others (scope body) e (map field_lowers_to written) t fields ts)) body
      by true = fields_on_keep (record { ty = t; written = written; others = None }) [] fields ts body
      by false = taken_next (λ here e. with_others here e (map field_lowers_to written) t fields ts) (lower_expression e (scope body)) (spot_of at body) (does_all at body.todo)

  struct_by_type : (x : DslxType-F DslxType) (written : List FieldValue) (rest : Option Expr) (body : OpenBody)
      → TableResult (s.struct_begins context written rest x body) (lower_struct_in (scope body) (map field_lowers_to written) (option_map lower_expression rest) x) body
  struct_by_type (DslxType-F.Bits sign w) written rest body = refl
  struct_by_type (DslxType-F.Tuple ts) written rest body = refl
  struct_by_type (DslxType-F.Array t n) written rest body = refl
  struct_by_type (DslxType-F.Struct name fields ts) written rest body = struct_of_fields written rest (ty.Struct name fields ts) fields ts body
  struct_by_type (DslxType-F.Enum name sign w) written rest body = refl
  struct_by_type DslxType-F.Token written rest body = refl

  pub struct_keeps : (o : Option DslxType) (written : List FieldValue) (rest : Option Expr) (body : OpenBody)
      → TableResult (and_then o (λ t. s.struct_begins context written rest (out-DslxType t) body)) (and_then o (λ t. lower_struct_in (scope body) (map field_lowers_to written) (option_map lower_expression rest) (out-DslxType t))) body
  struct_keeps None written rest body = refl
  struct_keeps (Some t) written rest body = struct_by_type (out-DslxType t) written rest body
