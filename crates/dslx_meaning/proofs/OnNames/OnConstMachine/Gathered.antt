-- What comes of steps on several expressions.
use Rattle.std.proofs.Common.{◌≡◌, ℕ, suc, Bool, true, false, List, [], ◌∷◌, ◌++◌, Option, Some, None, length, drop, map, refl, sym, ap, ◌∙◌, arith, if◌then◌else◌}
use Rattle.std.specs.Prelude.{slice_get}
use Rattle.std.specs.Str.{bytes_eq}
use Rattle.std.specs.Option.{option_map}
use Rattle.std.proofs.lemmas.List.{append_assoc, append-nil, length-append}
use Rattle.dslx_tree.specs.declared.block.Stmt.TheOpen.{Node-F}
use Rattle.dslx_tree.specs.declared.expr.Arg.{Arg}
use Rattle.dslx_tree.specs.declared.expr.Expr.{Expr}
use Rattle.dslx_tree.specs.declared.expr.FieldValue.{FieldValue, out-FieldValue}
use Rattle.dslx_tree.specs.declared.expr.Number.{Number, out-Number}
use Rattle.dslx_tree.specs.declared.type_expr.TypeExpr.{TypeExpr}
use Rattle.dslx_meaning.specs.Activation.{NodeLayer, node_of}
use Rattle.dslx_meaning.specs.Callees as k
use Rattle.dslx_meaning.specs.Callees.{CallKind, kind_of_call}
use Rattle.dslx_meaning.specs.Environment.{Env}
use Rattle.dslx_meaning.specs.Lists.{and_then, is_in}
use Rattle.dslx_meaning.specs.Meaning as m
use Rattle.dslx_meaning.specs.Meaning.{ExprDen, ValueDen, denotation, arg_denotation, value_of, written_type}
use Rattle.dslx_meaning.specs.Operators.{number_value}
use Rattle.dslx_meaning.specs.declared.ty.DslxType.{DslxType, out-DslxType}
use Rattle.dslx_meaning.specs.declared.ty.DslxType.TheOpen.{DslxType-F}
use Rattle.dslx_meaning.specs.declared.value.UntypedLiteral.{UntypedLiteral}
use Rattle.dslx_meaning.specs.declared.value.DslxValue.{DslxValue, Struct}
use Rattle.dslx_meaning.specs.Names.ConstMachine.Tasks.{ConstState, ListMaker, MakesTuple, MakesArray, Fills, CallsWith, Gathers, GathersFields}
use Rattle.dslx_meaning.specs.Names.ConstMachine.Layers.{untyped_of, bare_node, without_type, written, field_among}
use Rattle.dslx_meaning.specs.Names.ConstMachine.States.{doing}
use Rattle.dslx_meaning.specs.Names.ConstMachine.Lists as s
use Rattle.dslx_meaning.specs.Names.ConstMachine.Patterns.{number_begins, uses_number}
use Rattle.dslx_meaning.proofs.OnNames.OnConstMachine.Meanings.{opened, node_means, number_means, number_opened, arg_opened, field_means, field_by_parts, field_opened}
use Rattle.dslx_meaning.proofs.OnNames.OnConstMachine.Options.{first_of_all, drop_at, drop_past}
use Rattle.dslx_meaning.proofs.OnNames.OnConstMachine.Places.{place_of, env_in, gives, answer, answer_of, part_in, parts_in, made_in, fields_in, rest_in}
use Rattle.dslx_meaning.proofs.OnNames.OnConstMachine.Uses.{uses_name_keeps, uses_function_keeps}

-- ---- numbers

number_bare : (o : Option TypeExpr) (b : UntypedLiteral) → (m.number_den (option_map written_type o) b).bare ≡ without_type o b
number_bare None b = refl
number_bare (Some t) b = refl

bare_layer : (x : NodeLayer) → (node_means x).bare ≡ bare_node x
bare_layer (Node-F.Node::Number n) = ap (λ (e : ExprDen). e.bare) (number_opened n) ∙ number_bare (out-Number n).ty (written n)
bare_layer (Node-F.Node::Bool b) = refl
bare_layer (Node-F.Node::Array t es dots) = refl
bare_layer (Node-F.Node::Name name) = refl
bare_layer (Node-F.Node::Member e a) = refl
bare_layer (Node-F.Call f parametric_args es) = refl
bare_layer (Node-F.Node::Tuple es) = refl
bare_layer (Node-F.Struct x fields rest) = refl
bare_layer (Node-F.Block b) = refl
bare_layer (Node-F.If c a b) = refl
bare_layer (Node-F.Match e arms) = refl
bare_layer (Node-F.For f) = refl
bare_layer (Node-F.Index e j) = refl
bare_layer (Node-F.Slice e a b) = refl
bare_layer (Node-F.Part e j t) = refl
bare_layer (Node-F.Field e name) = refl
bare_layer (Node-F.Element e span n) = refl
bare_layer (Node-F.Prefix o e) = refl
bare_layer (Node-F.Cast e t) = refl
bare_layer (Node-F.Binary o l r) = refl

-- the number without a type that an expression is
pub bare_is : (e : Expr) → (denotation e).bare ≡ untyped_of e
bare_is e = ap (λ (x : ExprDen). x.bare) (opened e) ∙ bare_layer (node_of e)

number_begins_keeps : (o : Option TypeExpr) (b : UntypedLiteral) (run : ConstState)
    → answer_of (number_begins o b run) ≡ answer run.todo (gives ((m.number_den (option_map written_type o) b).value (env_in run)) (place_of run))
number_begins_keeps None b run = refl
number_begins_keeps (Some t) b run = refl

pub uses_number_keeps : (n : Number) (run : ConstState) → answer_of (uses_number n run) ≡ answer run.todo (gives ((number_means n).value (env_in run)) (place_of run))
uses_number_keeps n run =
    number_begins_keeps (out-Number n).ty (written n) run
    ∙ ap (λ (e : ExprDen). answer run.todo (gives (e.value (env_in run)) (place_of run))) (sym (number_opened n))

-- ---- values in order

calls_keep : (kind : CallKind) (name : List ℕ) (parametric_args vs : List DslxValue) (run : ConstState)
    → answer_of (s.calls kind name parametric_args vs run) ≡ answer run.todo (gives (m.call_den kind name (env_in run) parametric_args vs) (place_of run))
calls_keep k.Joins name parametric_args vs run = refl
calls_keep k.Receives name parametric_args vs run = refl
calls_keep k.ReceivesIf name parametric_args vs run = refl
calls_keep k.Sends name parametric_args vs run = refl
calls_keep k.SendsIf name parametric_args vs run = refl
calls_keep k.CountsLeading name parametric_args vs run = refl
calls_keep k.CountsTrailing name parametric_args vs run = refl
calls_keep k.Reverses name parametric_args vs run = refl
calls_keep k.AllOnes name parametric_args vs run = refl
calls_keep k.SomeOne name parametric_args vs run = refl
calls_keep k.Parity name parametric_args vs run = refl
calls_keep k.Updates name parametric_args vs run = refl
calls_keep k.Calls name parametric_args vs run = uses_function_keeps name parametric_args vs run

made_keeps : (maker : ListMaker) (vs : List DslxValue) (run : ConstState) → answer_of (s.made_of maker vs run) ≡ answer run.todo (gives (made_in maker (env_in run) vs) (place_of run))
made_keeps MakesTuple vs run = refl
made_keeps MakesArray vs run = refl
made_keeps (Fills t n dots) vs run = refl
made_keeps (CallsWith name parametric_args) vs run = calls_keep (kind_of_call name) name parametric_args vs run

-- an element of a type
abbrev element_in : DslxType → Option UntypedLiteral → Option DslxValue → Option DslxValue
element_in t None v = v
element_in t (Some b) v = number_value t b

element_is : (t : DslxType) (env : Env) (e : ExprDen) → m.element_den t env e ≡ element_in t e.bare (e.value env)
element_is t env e = by e.bare
  where
    by : (o : Option UntypedLiteral) → m.element_den t env (record { bare = o; value = e.value }) ≡ element_in t o (e.value env)
    by None = refl
    by (Some b) = refl

element_keeps : (t : DslxType) (o : Option UntypedLiteral) (e : Expr) (run : ConstState)
    → answer_of (s.element_begins t o e run) ≡ answer run.todo (gives (element_in t o (value_of e (env_in run))) (place_of run))
element_keeps t None e run = refl
element_keeps t (Some b) e run = refl

next_keeps : (maker : ListMaker) (e : Expr) (run : ConstState) → answer_of (s.next_begins maker e run) ≡ answer run.todo (gives (part_in maker (env_in run) (denotation e)) (place_of run))
next_keeps MakesTuple e run = refl
next_keeps MakesArray e run = refl
next_keeps (Fills t n dots) e run =
    element_keeps t (untyped_of e) e run
    ∙ ap (λ o. answer run.todo (gives o (place_of run))) (ap (λ o. element_in t o (value_of e (env_in run))) (sym (bare_is e)) ∙ sym (element_is t (env_in run) (denotation e)))
next_keeps (CallsWith name parametric_args) e run = refl

pub gathers_keep : (vs : List DslxValue) (es : List Expr) (maker : ListMaker) (run : ConstState)
    → answer_of (s.gathers vs es maker run) ≡ answer run.todo (gives (and_then (parts_in maker (env_in run) es) (λ ws. made_in maker (env_in run) (vs ++ ws))) (place_of run))
gathers_keep vs [] maker run =
    made_keeps maker vs run ∙ ap (λ ws. answer run.todo (gives (made_in maker (env_in run) ws) (place_of run))) (sym (append-nil vs))
gathers_keep vs (e ∷ es) maker run =
    next_keeps maker e (doing (Gathers vs es maker ∷ []) run)
    ∙ ap (λ o. answer run.todo (gives o (place_of run)))
    (sym (first_of_all (part_in maker (env_in run) (denotation e)) (map (part_in maker (env_in run)) (map denotation es)) (λ ws. made_in maker (env_in run) (vs ++ ws))))

pub gathered_keep : (vs : List DslxValue) (es : List Expr) (maker : ListMaker) (o : Option DslxValue) (run : ConstState)
    → answer_of (s.gathered vs es maker o run)
    ≡ answer run.todo (gives (and_then o (λ v. and_then (parts_in maker (env_in run) es) (λ ws. made_in maker (env_in run) (vs ++ v ∷ ws)))) (place_of run))
gathered_keep vs es maker None run = refl
gathered_keep vs es maker (Some v) run =
    gathers_keep (vs ++ v ∷ []) es maker run
    ∙ λ j. answer run.todo (gives (and_then (parts_in maker (env_in run) es) (λ ws. made_in maker (env_in run) (append_assoc vs (v ∷ []) ws j))) (place_of run))

-- ---- parametric arguments

-- a call where these parametric arguments are known
abbrev pub call_with : List ℕ → Env → List Expr → List DslxValue → Option DslxValue
call_with name env es parametric_args = and_then (m.values_of (map denotation es) env) (λ ws. m.call_den (kind_of_call name) name env parametric_args ws)

pub parametric_args_keep : (vs : List DslxValue) (parametric_args : List Arg) (name : List ℕ) (es : List Expr) (run : ConstState)
    → answer_of (s.gathers_parametric_args vs parametric_args name es run)
    ≡ answer run.todo (gives (and_then (m.values_of (map arg_denotation parametric_args) (env_in run)) (λ ns. call_with name (env_in run) es (vs ++ ns))) (place_of run))
parametric_args_keep vs [] name es run =
    gathers_keep [] es (CallsWith name vs) run ∙ ap (λ ns. answer run.todo (gives (call_with name (env_in run) es ns) (place_of run))) (sym (append-nil vs))
parametric_args_keep vs (a ∷ parametric_args) name es run =
    ap (λ (e : ExprDen). answer run.todo (gives (and_then (e.value (env_in run)) (λ v. and_then (m.values_of (map arg_denotation parametric_args) (env_in run)) (λ ns. call_with name (env_in run) es (vs ++ v ∷ ns)))) (place_of run)))
    (sym (arg_opened a))
    ∙ ap (λ o. answer run.todo (gives o (place_of run)))
    (sym (first_of_all ((arg_denotation a).value (env_in run)) (map (λ (e : ExprDen). e.value (env_in run)) (map arg_denotation parametric_args)) (λ ns. call_with name (env_in run) es (vs ++ ns))))

pub number_gathered_keeps : (vs : List DslxValue) (parametric_args : List Arg) (name : List ℕ) (es : List Expr) (o : Option DslxValue) (run : ConstState)
    → answer_of (s.number_gathered vs parametric_args name es o run)
    ≡ answer run.todo (gives (and_then o (λ v. and_then (m.values_of (map arg_denotation parametric_args) (env_in run)) (λ ns. call_with name (env_in run) es (vs ++ v ∷ ns)))) (place_of run))
number_gathered_keeps vs parametric_args name es None run = refl
number_gathered_keeps vs parametric_args name es (Some v) run =
    parametric_args_keep (vs ++ v ∷ []) parametric_args name es run
    ∙ λ j. answer run.todo (gives (and_then (m.values_of (map arg_denotation parametric_args) (env_in run)) (λ ns. call_with name (env_in run) es (append_assoc vs (v ∷ []) ns j))) (place_of run))

-- ---- arrays of a type

fills_keep : (x : DslxType-F DslxType) (es : List Expr) (dots : Bool) (run : ConstState)
    → answer_of (s.fills x es dots run) ≡ answer run.todo (gives (m.array_at (env_in run) (map denotation es) dots x) (place_of run))
fills_keep (DslxType-F.Bits sign w) es dots run = refl
fills_keep (DslxType-F.Tuple ts) es dots run = refl
fills_keep (DslxType-F.Array t n) es dots run = gathers_keep [] es (Fills t n dots) run
fills_keep (DslxType-F.Struct name names ts) es dots run = refl
fills_keep (DslxType-F.Enum name sign w) es dots run = refl
fills_keep DslxType-F.Token es dots run = refl

pub elements_keep : (o : Option DslxType) (es : List Expr) (dots : Bool) (run : ConstState)
    → answer_of (s.elements_begin o es dots run) ≡ answer run.todo (gives (and_then o (λ t. m.array_at (env_in run) (map denotation es) dots (out-DslxType t))) (place_of run))
elements_keep None es dots run = refl
elements_keep (Some t) es dots run = fills_keep (out-DslxType t) es dots run

-- ---- fields

field_value_keeps : (name : List ℕ) (o : Option Expr) (run : ConstState)
    → answer_of (s.field_value_begins name o run) ≡ answer run.todo (gives (m.field_value_of name (option_map denotation o) (env_in run)) (place_of run))
field_value_keeps name None run = uses_name_keeps name run
field_value_keeps name (Some e) run = refl

-- a field by what is written of it
abbrev field_by : Env → Option DslxValue → List ℕ → Option FieldValue → Option DslxValue
field_by env rest field o = m.field_given env rest field (option_map (λ f. (field_by_parts (out-FieldValue f)).value) o)

field_keeps : (o : Option FieldValue) (field : List ℕ) (rest : Option DslxValue) (run : ConstState)
    → answer_of (s.field_begins o field rest run) ≡ answer run.todo (gives (field_by (env_in run) rest field o) (place_of run))
field_keeps None field rest run = refl
field_keeps (Some f) field rest run = field_value_keeps (out-FieldValue f).name.name (out-FieldValue f).value run

written_is : (field : List ℕ) (fields : List FieldValue) → m.field_written field (map field_means fields) ≡ option_map (λ f. (field_by_parts (out-FieldValue f)).value) (field_among field fields)
written_is field [] = refl
written_is field (f ∷ fs) =
    ap (λ x. if is_in field (x.name ∷ []) then Some x.value else m.field_written field (map field_means fs)) (field_opened f)
    ∙ by (bytes_eq field (out-FieldValue f).name.name) (written_is field fs)
  where
    by : (b : Bool) → m.field_written field (map field_means fs) ≡ option_map (λ g. (field_by_parts (out-FieldValue g)).value) (field_among field fs)
        → (if (if b then true else false) then Some (field_by_parts (out-FieldValue f)).value else m.field_written field (map field_means fs))
        ≡ option_map (λ g. (field_by_parts (out-FieldValue g)).value) (if b then Some f else field_among field fs)
    by true rest = refl
    by false rest = rest

fields_on_keep : (o : Option (List ℕ)) (name : List ℕ) (names : List (List ℕ)) (vs : List DslxValue) (fields : List FieldValue) (rest : Option DslxValue) (run : ConstState)
    → slice_get names (length vs) ≡ o
    → answer_of (s.fields_on o name names vs fields rest run)
    ≡ answer run.todo (gives (and_then (fields_in (env_in run) rest fields (drop (length vs) names)) (λ ws. Some (Struct name names (vs ++ ws)))) (place_of run))
fields_on_keep None name names vs fields rest run e =
    ap (λ ws. answer run.todo (gives (Some (Struct name names ws)) (place_of run))) (sym (append-nil vs))
    ∙ ap (λ ns. answer run.todo (gives (and_then (fields_in (env_in run) rest fields ns) (λ ws. Some (Struct name names (vs ++ ws)))) (place_of run))) (sym (drop_past names (length vs) e))
fields_on_keep (Some field) name names vs fields rest run e =
    field_keeps (field_among field fields) field rest (doing (GathersFields name names vs fields rest ∷ []) run)
    ∙ ap (λ o. answer run.todo (gives (and_then (m.field_given (env_in run) rest field o) (λ v. and_then (fields_in (env_in run) rest fields (drop (suc (length vs)) names))
    (λ ws. Some (Struct name names (vs ++ v ∷ ws))))) (place_of run))) (sym (written_is field fields))
    ∙ ap (λ o. answer run.todo (gives o (place_of run)))
    (sym (first_of_all (m.field_given (env_in run) rest field (m.field_written field (map field_means fields)))
    (map (λ other. m.field_given (env_in run) rest other (m.field_written other (map field_means fields))) (drop (suc (length vs)) names)) (λ ws. Some (Struct name names (vs ++ ws)))))
    ∙ ap (λ ns. answer run.todo (gives (and_then (fields_in (env_in run) rest fields ns) (λ ws. Some (Struct name names (vs ++ ws)))) (place_of run))) (sym (drop_at names (length vs) field e))

pub gathers_fields_keep : (name : List ℕ) (names : List (List ℕ)) (vs : List DslxValue) (fields : List FieldValue) (rest : Option DslxValue) (run : ConstState)
    → answer_of (s.gathers_fields name names vs fields rest run)
    ≡ answer run.todo (gives (and_then (fields_in (env_in run) rest fields (drop (length vs) names)) (λ ws. Some (Struct name names (vs ++ ws)))) (place_of run))
gathers_fields_keep name names vs fields rest run = fields_on_keep (slice_get names (length vs)) name names vs fields rest run refl

pub field_gathered_keeps : (name : List ℕ) (names : List (List ℕ)) (vs : List DslxValue) (fields : List FieldValue) (rest o : Option DslxValue) (run : ConstState)
    → answer_of (s.field_gathered name names vs fields rest o run)
    ≡ answer run.todo (gives (and_then o (λ v. and_then (fields_in (env_in run) rest fields (drop (suc (length vs)) names)) (λ ws. Some (Struct name names (vs ++ v ∷ ws))))) (place_of run))
field_gathered_keeps name names vs fields rest None run = refl
field_gathered_keeps name names vs fields rest (Some v) run =
    gathers_fields_keep name names (vs ++ v ∷ []) fields rest run
    ∙ ap (λ (n : ℕ). answer run.todo (gives (and_then (fields_in (env_in run) rest fields (drop n names)) (λ ws. Some (Struct name names ((vs ++ v ∷ []) ++ ws)))) (place_of run))) more
    ∙ λ j. answer run.todo (gives (and_then (fields_in (env_in run) rest fields (drop (suc (length vs)) names)) (λ ws. Some (Struct name names (append_assoc vs (v ∷ []) ws j)))) (place_of run))
  where
    more : length (vs ++ v ∷ []) ≡ suc (length vs)
    more = omega (arith, length-append vs (v ∷ []))

pub rest_keeps : (o : Option Expr) (name : List ℕ) (names : List (List ℕ)) (fields : List FieldValue) (run : ConstState)
    → answer_of (s.rest_begins o name names fields run)
    ≡ answer run.todo (gives (and_then (fields_in (env_in run) (rest_in (env_in run) o) fields names) (λ ws. Some (Struct name names ws))) (place_of run))
rest_keeps None name names fields run = gathers_fields_keep name names [] fields None run
rest_keeps (Some e) name names fields run = refl

fields_of_type_keep : (x : DslxType-F DslxType) (fields : List FieldValue) (rest : Option Expr) (run : ConstState)
    → answer_of (s.fields_of_type x fields rest run) ≡ answer run.todo (gives (m.struct_at (env_in run) (map field_means fields) (rest_in (env_in run) rest) x) (place_of run))
fields_of_type_keep (DslxType-F.Bits sign w) fields rest run = refl
fields_of_type_keep (DslxType-F.Tuple ts) fields rest run = refl
fields_of_type_keep (DslxType-F.Array t n) fields rest run = refl
fields_of_type_keep (DslxType-F.Struct name names ts) fields rest run = rest_keeps rest name names fields run
fields_of_type_keep (DslxType-F.Enum name sign w) fields rest run = refl
fields_of_type_keep DslxType-F.Token fields rest run = refl

pub fields_keep : (o : Option DslxType) (fields : List FieldValue) (rest : Option Expr) (run : ConstState)
    → answer_of (s.fields_begin o fields rest run)
    ≡ answer run.todo (gives (and_then o (λ t. m.struct_at (env_in run) (map field_means fields) (rest_in (env_in run) rest) (out-DslxType t))) (place_of run))
fields_keep None fields rest run = refl
fields_keep (Some t) fields rest run = fields_of_type_keep (out-DslxType t) fields rest run
