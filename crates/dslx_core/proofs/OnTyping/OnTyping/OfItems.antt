-- What the items of a text reach, by chains of items.
use Rattle.std.specs.Option.{option_map}
use Rattle.std.proofs.Common.{length, not, ◌==◌, ◌≡◌, ◌&&◌, ◌||◌, ◌++◌, ℕ, zero, suc, Bool, true, false, if◌then◌else◌, List, [], ◌∷◌, map, Option, Some, None, refl, sym, ap, subst, ◌∙◌}
use mathlib.Core.Bool.{true≢false}
use Rattle.std.specs.Prelude.{flat_map, nat_lt}
use Rattle.std.specs.Str.{bytes_eq}
use Rattle.std.specs.List.{list_all, list_any}
use Rattle.std.proofs.lemmas.Slice.Eq.{bytes_eq-Decides}
use Rattle.dslx_tree.specs.declared.expr.Expr.{Expr}
use Rattle.dslx_tree.specs.declared.item.Definition.{Definition}
use Rattle.dslx_tree.specs.declared.item.Definition.TheVariants as d
use Rattle.xb_span.specs.declared.fault.Fault.{Fault}
use Rattle.dslx_tree.specs.declared.expr.Arg.{Arg}
use Rattle.dslx_tree.specs.declared.item.Field.{Field}
use Rattle.dslx_tree.specs.declared.item.Member.{Member}
use Rattle.dslx_tree.specs.declared.process.End.{End}
use Rattle.dslx_tree.specs.declared.process.ConfigStatement.{ConfigStatement}
use Rattle.dslx_tree.specs.declared.process.ConfigStatement.TheVariants as config_statement
use Rattle.dslx_tree.specs.declared.process.Proc.{Proc}
use Rattle.dslx_tree.specs.declared.process.Spawn.{Spawn}
use Rattle.dslx_meaning.specs.Network.{as_proc}
use Rattle.dslx_meaning.specs.declared.value.UntypedLiteral.{UntypedLiteral}
use Rattle.dslx_meaning.specs.Rules.AggregateRules.{range_faults, wanted_faults, untyped_value}
use Rattle.dslx_meaning.specs.Rules.CallRules.{ParametricArgument, ParametricArgsSeen, given_judgements, given_parametric_args, is_refused, typing_there, reached_by}
use Rattle.dslx_meaning.specs.Rules.ConstantRules.{ConstantSeen, constant_of, is_empty}
use Rattle.dslx_meaning.specs.Rules.Typings.{ArgPair}
use Rattle.dslx_meaning.specs.Rules.ProcRules.{Made, behind_ends, depth_found, ends_found, made_at_start, made_with, config_statements_found, channel_end_of, proc_parametric_args, proc_seen, proc_type_env, right_spawn, spawn_found, spawn_of}
use Rattle.dslx_core.proofs.OnTyping.OnTyping.OfCalls.{EachReaches, given_reach, instance_reached, typing_reaches}
use Rattle.dslx_tree.specs.declared.item.Function.{Function}
use Rattle.dslx_tree.specs.declared.item.Item.{Item}
use Rattle.dslx_tree.specs.declared.item.Module.{Module}
use Rattle.dslx_tree.specs.declared.item.Parametric.{Parametric}
use Rattle.dslx_tree.specs.declared.type_expr.TypeExpr.{TypeExpr}
use Rattle.dslx_meaning.specs.Environment.{Given}
use Rattle.dslx_meaning.specs.Lists.{and_then}
use Rattle.dslx_meaning.specs.Items.{as_function, item_named, name_of_definition}
use Rattle.dslx_meaning.specs.declared.ty.DslxType.{DslxType}
use Rattle.dslx_meaning.specs.declared.value.DslxValue.{DslxValue}
use Rattle.dslx_meaning.specs.Rules.ItemRules.{ConstantFound, annotation_typing, base_if_bits, fields_found, typing_of_type, member_constant, members_found, only_faults, arguments_found, arguments_typed, body_typing, bound_with, default_found, function_seen, function_type_env, item_type_env, typing_of_inner, number_at, parametric_args_behind, parametrics_found, result_typing}
use Rattle.dslx_meaning.specs.Rules.TypeEnvs.{ExprPair, Instance, GlobalEnv, TypeEnv, alone, untyped_of, breaks, breaks_if, reached_of_all, span_of, with_typed, within}
use Rattle.dslx_meaning.specs.Rules.Mentions.{item_reaches, arg_if, ends_mentions, config_statement_mentions, mention, mentioned_in_arg, proc_mentions, Use, AsFunction, AsEnum, AsPattern, AsProc, AsStruct, AsType, AsValue, Mention, definition_mentions, expr_if, field_names, fields_mentions, is_of_use, mentioned, mentioned_in_block, mentioned_in_type, mentions_of, names_mentioned, parametric_names, parametrics_mentions, type_if, is_cyclic}
use Rattle.dslx_meaning.specs.Rules.ModuleRules.{BehindParametrics, behind_next, behind_values, default_if, default_known, default_seen, parameter_seen, parametrics_of, found_of_instance, found_of_item, item_found, globals_over, globals_within}
use Rattle.dslx_meaning.specs.Rules.NodeRules.{arg_pair, expr_pair}
use Rattle.dslx_core.specs.Typing.Laws.Ranks.{is_above}
use Rattle.dslx_core.specs.Typing.TypingRelations.Reached.{AllNamed, DeclarationReaches, InstancesReach, IsClosed, MentionReaches, MentionsReach}
use Rattle.dslx_core.proofs.Lemmas.Typing.Laws.Chains.{IsIn, itself, or_first, or_second}
use Rattle.dslx_core.proofs.Lemmas.Typing.Laws.Reaching.{above_on, reaches_mentioned}
use Rattle.dslx_core.proofs.OnTyping.OnTyping.Joined.{argument_reaches, block_of_text_reaches, expression_reaches, written_type_reaches}
use Rattle.dslx_core.proofs.OnTyping.OnTyping.Parts.{constant_reaches, join, parts, three_parts, unmarked}

-- ---- items by their names

and_both : (p q : Bool) → (p && q) ≡ true → (p ≡ true) × (q ≡ true)
and_both true q e = (refl, e)
and_both false q e = absurd (true≢false (sym e))

-- the text of what is known is the text, and so are its cycles
pub whole_is : (m : Module) (n : ℕ) → (globals_within m n).whole ≡ m
whole_is m zero = refl
whole_is m (suc n) = whole_is m n

pub cyclic_is : (m : Module) (n : ℕ) (owner name : List ℕ) → (globals_within m n).is_cyclic owner name ≡ is_cyclic m owner name
cyclic_is m zero owner name = refl
cyclic_is m (suc n) owner name = λ i. is_cyclic (whole_is m n i) owner name

abbrev there : {A : Type 0} → Option A → Bool
there None = false
there (Some a) = true

-- an item has the name by which it is found
pub item_so_named : (is : List Item) (name : List ℕ) (x : Definition) → item_named name is ≡ Some x → name_of_definition x ≡ name
item_so_named [] name x e = absurd (true≢false (sym (ap there e)))
item_so_named (i ∷ is) name x e = by_name (bytes_eq name (name_of_definition i.definition)) refl e (item_so_named is name x)
  where
    definition_if : Option Definition → Definition
    definition_if None = i.definition
    definition_if (Some d) = d

    by_name : (b : Bool) → bytes_eq name (name_of_definition i.definition) ≡ b → (if b then Some i.definition else item_named name is) ≡ Some x → (item_named name is ≡ Some x → name_of_definition x ≡ name) → name_of_definition x ≡ name
    by_name true r q rest = ap name_of_definition (sym (ap definition_if q)) ∙ sym ((bytes_eq-Decides name (name_of_definition i.definition)).0 r)
    by_name false r q rest = rest q

pub function_is : (o : Option Definition) (f : Function) → as_function o ≡ Some f → o ≡ Some (d.Function f)
function_is (Some (d.Function g)) f e = ap (option_map d.Function) e
function_is (Some (d.Proc p)) f e = absurd (true≢false (sym (ap there e)))
function_is (Some (d.Constant c)) f e = absurd (true≢false (sym (ap there e)))
function_is (Some (d.Alias a)) f e = absurd (true≢false (sym (ap there e)))
function_is (Some (d.Struct s)) f e = absurd (true≢false (sym (ap there e)))
function_is (Some (d.Enum n)) f e = absurd (true≢false (sym (ap there e)))
function_is None f e = absurd (true≢false (sym (ap there e)))

pub proc_is : (o : Option Definition) (p : Proc) → as_proc o ≡ Some p → o ≡ Some (d.Proc p)
proc_is (Some (d.Proc q)) p e = ap (option_map d.Proc) e
proc_is (Some (d.Function g)) p e = absurd (true≢false (sym (ap there e)))
proc_is (Some (d.Constant c)) p e = absurd (true≢false (sym (ap there e)))
proc_is (Some (d.Alias a)) p e = absurd (true≢false (sym (ap there e)))
proc_is (Some (d.Struct s)) p e = absurd (true≢false (sym (ap there e)))
proc_is (Some (d.Enum n)) p e = absurd (true≢false (sym (ap there e)))
proc_is None p e = absurd (true≢false (sym (ap there e)))

-- ---- parametrics

inner_reaches : (P : List ℕ → Bool) (context : TypeEnv) (t : TypeExpr) (bound : List (List ℕ)) → MentionsReach P context.known context.owner (mentioned_in_type t bound) → AllNamed P (typing_of_inner context t).reached
inner_reaches P context t bound h = written_type_reaches P t bound context h

constant_reached : (P : List ℕ → Bool) (context : TypeEnv) (e : Expr) (bound : List (List ℕ)) → MentionsReach P context.known context.owner (expr_if (Some e) bound) → AllNamed P (alone context (expr_pair e)).reached
constant_reached P context e bound h = unmarked P (span_of (expr_pair e)) (within context (expr_pair e)) (expression_reaches P e bound false context h)

pub default_reached : (P : List ℕ → Bool) (context : TypeEnv) (o : Option Expr) (bound : List (List ℕ)) → MentionsReach P context.known context.owner (expr_if o bound) → (e : Expr) → o ≡ Some e → AllNamed P (default_known context e).judgement.reached
default_reached P context o bound h e q = constant_reached P context e bound (subst (λ x. MentionsReach P context.known context.owner (expr_if x bound)) q h)

-- behind some of the parametrics of an item: those which are left reach such instances
record LeftReach (P : List ℕ → Bool) (b : BehindParametrics) : Type 0 where
  bound : List (List ℕ)
  reach : MentionsReach P b.context.known b.context.owner (parametrics_mentions b.left bound)

next_reach : (P : List ℕ → Bool) (context : TypeEnv) (left : List Parametric) (bound : List (List ℕ)) → MentionsReach P context.known context.owner (parametrics_mentions left bound) → (v : Option DslxValue) → LeftReach P (behind_next context left v)
next_reach P context [] bound h v = record { bound = bound; reach = h }
next_reach P context (p ∷ ps) bound h None = record {
  bound = p.name.name ∷ bound;
  reach = (three_parts P context.known context.owner (mentioned_in_type p.ty bound) (expr_if p.default bound) (parametrics_mentions ps (p.name.name ∷ bound)) h).2;
}
next_reach P context (p ∷ ps) bound h (Some v) = record {
  bound = p.name.name ∷ bound;
  reach = (three_parts P context.known context.owner (mentioned_in_type p.ty bound) (expr_if p.default bound) (parametrics_mentions ps (p.name.name ∷ bound)) h).2;
}

left_reach : (P : List ℕ → Bool) (known : GlobalEnv) (owner : List ℕ) → MentionsReach P known owner (parametrics_mentions (parametrics_of (item_named owner known.whole.items)) []) → (before : List (Option DslxValue))
    → LeftReach P (behind_values known owner before)
left_reach P known owner h [] = record { bound = []; reach = h }
left_reach P known owner h (v ∷ before) =
    let b = behind_values known owner before in
    let r = left_reach P known owner h before in
    next_reach P b.context b.left r.bound r.reach v

parameter_reaches : (P : List ℕ → Bool) (context : TypeEnv) (left : List Parametric) (bound : List (List ℕ)) → MentionsReach P context.known context.owner (parametrics_mentions left bound) → AllNamed P (parameter_seen context left).reached
parameter_reaches P context [] bound h = tt
parameter_reaches P context (p ∷ ps) bound h =
    inner_reaches P context p.ty bound (three_parts P context.known context.owner (mentioned_in_type p.ty bound) (expr_if p.default bound) (parametrics_mentions ps (p.name.name ∷ bound)) h).0

default_reaches : (P : List ℕ → Bool) (context : TypeEnv) (left : List Parametric) (bound : List (List ℕ)) → MentionsReach P context.known context.owner (parametrics_mentions left bound) → AllNamed P (default_seen context left).judgement.reached
default_reaches P context [] bound h = tt
default_reaches P context (p ∷ ps) bound h =
    by_default p.default (three_parts P context.known context.owner (mentioned_in_type p.ty bound) (expr_if p.default bound) (parametrics_mentions ps (p.name.name ∷ bound)) h).1
  where
    by_default : (o : Option Expr) → MentionsReach P context.known context.owner (expr_if o bound) → AllNamed P (default_if context o).judgement.reached
    by_default None k = tt
    by_default (Some e) k = constant_reached P context e bound k

pub parametrics_reach : (P : List ℕ → Bool) (known : GlobalEnv) (owner : List ℕ) → MentionsReach P known owner (parametrics_mentions (parametrics_of (item_named owner known.whole.items)) []) → DeclarationReaches P (globals_over known) owner
parametrics_reach P known owner h = record {
  ty = λ before.
      let b = behind_values known owner before in
      let r = left_reach P known owner h before in
      parameter_reaches P b.context b.left r.bound r.reach;
  default = λ before.
      let b = behind_values known owner before in
      let r = left_reach P known owner h before in
      default_reaches P b.context b.left r.bound r.reach;
}

-- ---- chains of items

mutual_names : (P : List ℕ → Bool) (m : Module) (ms : List Mention) (u : Use) (name : List ℕ) → list_all P (names_mentioned m (record { use_as = u; name = name } ∷ ms)) ≡ true
    → (is_of_use u (item_named name m.items) ≡ true → P name ≡ true) × (list_all P (names_mentioned m ms) ≡ true)
mutual_names P m ms u name h = by_use (is_of_use u (item_named name m.items)) refl h
  where
    by_use : (b : Bool) → is_of_use u (item_named name m.items) ≡ b → list_all P (if b then name ∷ names_mentioned m ms else names_mentioned m ms) ≡ true
        → (is_of_use u (item_named name m.items) ≡ true → P name ≡ true) × (list_all P (names_mentioned m ms) ≡ true)
    by_use true q g = let r = and_both (P name) (list_all P (names_mentioned m ms)) g in ((λ e. r.0), r.1)
    by_use false q g = ((λ e. absurd (true≢false (sym e ∙ q))), g)

-- what a proc mentions, by its parts
record ProcMentions (P : List ℕ → Bool) (known : GlobalEnv) (owner : List ℕ) (p : Proc) : Type 0 where
  parametrics : MentionsReach P known owner (parametrics_mentions p.parametrics [])
  members : MentionsReach P known owner (ends_mentions p.members (parametric_names p.parametrics))
  ends : MentionsReach P known owner (ends_mentions p.config.ends (parametric_names p.parametrics))
  config_statements : MentionsReach P known owner (flat_map (λ m. config_statement_mentions m (parametric_names p.parametrics)) p.config.config_statements)
  init : MentionsReach P known owner (mentioned_in_block p.init (parametric_names p.parametrics))
  state : MentionsReach P known owner (mentioned_in_type p.next.ty (parametric_names p.parametrics))
  next : MentionsReach P known owner (mentioned_in_block p.next.body (p.next.state.name ∷ parametric_names p.parametrics))

proc_parts : (P : List ℕ → Bool) (known : GlobalEnv) (owner : List ℕ) (p : Proc) → MentionsReach P known owner (proc_mentions p) → ProcMentions P known owner p
proc_parts P known owner p h =
    let parametric_args = parametric_names p.parametrics in
    let one = parametrics_mentions p.parametrics [] in
    let two = ends_mentions p.members parametric_args in
    let three = ends_mentions p.config.ends parametric_args in
    let four = flat_map (λ m. config_statement_mentions m parametric_args) p.config.config_statements in
    let five = mentioned_in_block p.init parametric_args in
    let six = mentioned_in_type p.next.ty parametric_args in
    let seven = mentioned_in_block p.next.body (p.next.state.name ∷ parametric_args) in
    let a = parts P known owner (((((one ++ two) ++ three) ++ four) ++ five) ++ six) seven h in
    let b = parts P known owner ((((one ++ two) ++ three) ++ four) ++ five) six a.0 in
    let c = parts P known owner (((one ++ two) ++ three) ++ four) five b.0 in
    let e = parts P known owner ((one ++ two) ++ three) four c.0 in
    let f = three_parts P known owner one two three e.0 in
    record { parametrics = f.0; members = f.1; ends = f.2; config_statements = e.1; init = c.1; state = b.1; next = a.1 }

-- each item of a name that passes the second test, and that doesn't reach the owner, has such instances
abbrev pub AllReach : (P Q : List ℕ → Bool) → Module → GlobalEnv → List ℕ → Type 0
AllReach P Q m known owner = (name : List ℕ) (x : Definition) → item_named name m.items ≡ Some x → Q name ≡ true → known.is_cyclic owner name ≡ false → InstancesReach P known (name_of_definition x)

-- each function and each proc that is mentioned
pub mentions_reach : (P Q : List ℕ → Bool) (m : Module) (known : GlobalEnv) (owner : List ℕ) → known.whole ≡ m → AllReach P Q m known owner → (ms : List Mention) → list_all Q (names_mentioned m ms) ≡ true → MentionsReach P known owner ms
mentions_reach P Q m known owner same each [] h = tt
mentions_reach P Q m known owner same each (n ∷ ms) h =
    let r = mutual_names Q m ms n.use_as n.name h in
    (by_use n.use_as n.name r.0, mentions_reach P Q m known owner same each ms r.1)
  where
    by_use : (u : Use) (name : List ℕ) → (is_of_use u (item_named name m.items) ≡ true → Q name ≡ true) → MentionReaches P known owner u name
    by_use AsFunction name p = λ free f e.
        let q : item_named name m.items ≡ Some (d.Function f) = (λ i. item_named name (sym same i).items) ∙ function_is (item_named name known.whole.items) f e in
        each name (d.Function f) q (p (ap (is_of_use AsFunction) q)) free
    by_use AsProc name p = λ x e free.
        let q : item_named name m.items ≡ Some (d.Proc x) = (λ i. item_named name (sym same i).items) ∙ proc_is (item_named name known.whole.items) x e in
        each name (d.Proc x) q (p (ap (is_of_use AsProc) q)) (subst (λ z. known.is_cyclic owner z ≡ false) (item_so_named m.items name (d.Proc x) q) free)
    by_use AsValue name p = tt
    by_use AsPattern name p = tt
    by_use AsType name p = tt
    by_use AsEnum name p = tt
    by_use AsStruct name p = tt

-- the mentions of an item whose name passes the test
own_mentions : (P : List ℕ → Bool) (m : Module) → IsClosed P m → (name : List ℕ) (x : Definition) → item_named name m.items ≡ Some x → P name ≡ true → list_all P (names_mentioned m (definition_mentions x)) ≡ true
own_mentions P m closed name x e p = (λ i. list_all P (mentions_of m (sym e i))) ∙ closed name p

own_parametrics : (P : List ℕ → Bool) (known : GlobalEnv) (owner : List ℕ) (x : Definition) → MentionsReach P known owner (definition_mentions x) → MentionsReach P known owner (parametrics_mentions (parametrics_of (Some x)) [])
own_parametrics P known owner (d.Function f) h =
    let parametric_args = parametric_names f.parametrics in
    (three_parts P known owner (parametrics_mentions f.parametrics []) (fields_mentions f.arguments parametric_args) (type_if f.result parametric_args)
    (parts P known owner ((parametrics_mentions f.parametrics [] ++ fields_mentions f.arguments parametric_args) ++ type_if f.result parametric_args) (mentioned_in_block f.body (field_names f.arguments ++ parametric_args)) h).0).0
own_parametrics P known owner (d.Proc p) h = (proc_parts P known owner p h).parametrics
own_parametrics P known owner (d.Constant c) h = tt
own_parametrics P known owner (d.Alias a) h = tt
own_parametrics P known owner (d.Struct s) h = tt
own_parametrics P known owner (d.Enum n) h = tt

-- what an item declares, by its mentions one link before
declared_reaches : (P : List ℕ → Bool) (m : Module) (n : ℕ) (name : List ℕ) (x : Definition) → item_named name m.items ≡ Some x → MentionsReach P (globals_within m n) name (definition_mentions x) → DeclarationReaches P (globals_within m (suc n)) (name_of_definition x)
declared_reaches P m n name x e h =
    let known = globals_within m n in
    let same = item_so_named m.items name x e in
    let here : item_named name known.whole.items ≡ Some x = (λ i. item_named name (whole_is m n i).items) ∙ e in
    subst (λ z. DeclarationReaches P (globals_over known) z) (sym same)
    (parametrics_reach P known name (subst (λ o. MentionsReach P known name (parametrics_mentions (parametrics_of o) [])) (sym here) (own_parametrics P known name x h)))

nothing_declared : (P : List ℕ → Bool) (m : Module) (owner : List ℕ) → DeclarationReaches P (globals_within m zero) owner
nothing_declared P m owner = record { ty = λ before. tt; default = λ before. tt }

pub all_reach : (P : List ℕ → Bool) (m : Module) → IsClosed P m → (n : ℕ) (owner : List ℕ) → AllReach P P m (globals_within m n) owner
all_reach P m closed zero owner name x e p free = record { own = ap P (item_so_named m.items name x e) ∙ p; declared = nothing_declared P m (name_of_definition x) }
all_reach P m closed (suc n) owner name x e p free = record {
  own = ap P (item_so_named m.items name x e) ∙ p;
  declared = declared_reaches P m n name x e (mentions_reach P P m (globals_within m n) name (whole_is m n) (all_reach P m closed n name) (definition_mentions x) (own_mentions P m closed name x e p));
}

-- ---- what is reached stands below

all_weaker : (P Q : List ℕ → Bool) → ((name : List ℕ) → P name ≡ true → Q name ≡ true) → (is : List Instance) → AllNamed P is → AllNamed Q is
all_weaker P Q f [] h = tt
all_weaker P Q f (i ∷ is) h = (f i.name h.0, all_weaker P Q f is h.1)

not_reached_back : (p q there : Bool) → there ≡ true → (p || (q && there)) ≡ false → not q ≡ true
not_reached_back true q there h e = absurd (true≢false e)
not_reached_back false false there h e = refl
not_reached_back false true there h e = absurd (true≢false (sym h ∙ e))

-- what the owner reaches, and what doesn't reach the owner
is_below : (m : Module) (n : ℕ) (owner name : List ℕ) → item_reaches m owner name ≡ true → (globals_within m n).is_cyclic owner name ≡ false → is_above m owner name ≡ true
is_below m n owner name e free = λ i. e i && not_reached_back (bytes_eq name owner) (item_reaches m name owner) (item_reaches m owner name) e (sym (cyclic_is m n owner name) ∙ free) i

each_reached : (m : Module) (owner : List ℕ) (names : List (List ℕ)) → ((name : List ℕ) → IsIn name names → item_reaches m owner name ≡ true) → list_all (item_reaches m owner) names ≡ true
each_reached m owner [] h = refl
each_reached m owner (n ∷ ns) h =
    λ i. h n (or_first (bytes_eq n n) (list_any (bytes_eq n) ns) (itself n)) i && each_reached m owner ns (λ x q. h x (or_second (bytes_eq x n) (list_any (bytes_eq x) ns) q)) i

-- an item's mentions are reached
pub own_reached : (m : Module) (owner : List ℕ) (x : Definition) → item_named owner m.items ≡ Some x → list_all (item_reaches m owner) (names_mentioned m (definition_mentions x)) ≡ true
own_reached m owner x e = (λ i. list_all (item_reaches m owner) (mentions_of m (sym e i))) ∙ each_reached m owner (mentions_of m (item_named owner m.items)) (reaches_mentioned m owner)

abbrev AllBelow : Module → ℕ → List ℕ → Type 0
AllBelow m n owner = AllReach (is_above m owner) (item_reaches m owner) m (globals_within m n) owner

mentions_below : (m : Module) (n : ℕ) (owner : List ℕ) → AllBelow m n owner → (x : Definition) → item_named owner m.items ≡ Some x → MentionsReach (is_above m owner) (globals_within m n) owner (definition_mentions x)
mentions_below m n owner each x e = mentions_reach (is_above m owner) (item_reaches m owner) m (globals_within m n) owner (whole_is m n) each (definition_mentions x) (own_reached m owner x e)

all_below : (m : Module) (n : ℕ) (owner : List ℕ) → AllBelow m n owner
all_below m zero owner name x e p free = record {
  own = ap (is_above m owner) (item_so_named m.items name x e) ∙ is_below m zero owner name p free;
  declared = nothing_declared (is_above m owner) m (name_of_definition x);
}
all_below m (suc n) owner name x e p free =
    let below = is_below m (suc n) owner name p free in
    let inner = declared_reaches (is_above m name) m n name x e (mentions_below m n name (all_below m n name) x e) in
    let on : (z : List ℕ) → is_above m name z ≡ true → is_above m owner z ≡ true = λ z h. above_on m owner name z below h in
    record {
      own = ap (is_above m owner) (item_so_named m.items name x e) ∙ below;
      declared = record {
        ty = λ before. all_weaker (is_above m name) (is_above m owner) on ((globals_within m (suc n)).parameter_in (name_of_definition x) before).reached (inner.ty before);
        default = λ before. all_weaker (is_above m name) (is_above m owner) on ((globals_within m (suc n)).default_in (name_of_definition x) before).judgement.reached (inner.default before);
      };
    }

-- ---- instances

found_defaults : (P : List ℕ → Bool) (context : TypeEnv) (t : Option DslxType) (o : Option Expr) (bound : List (List ℕ)) → MentionsReach P context.known context.owner (expr_if o bound) → AllNamed P (default_found context t o).reached
found_defaults P context t None bound h = tt
found_defaults P context t (Some e) bound h = constant_reached P context e bound h

pub found_parametrics : (P : List ℕ → Bool) (known : GlobalEnv) (owner : List ℕ) (before : List (List ℕ)) (so_far : List Given) (ps : List Parametric) (values : List DslxValue) (bound : List (List ℕ))
    → MentionsReach P known owner (parametrics_mentions ps bound) → AllNamed P (parametrics_found known owner before so_far ps values).reached
found_parametrics P known owner before so_far [] values bound h = tt
found_parametrics P known owner before so_far (p ∷ ps) values bound h =
    let r = three_parts P known owner (mentioned_in_type p.ty bound) (expr_if p.default bound) (parametrics_mentions ps (p.name.name ∷ bound)) h in
    let context = item_type_env known owner so_far in
    let t = typing_of_inner context p.ty in
    let default = default_found context t.ty p.default in
    let rest = parametrics_found known owner (p.name.name ∷ before) (bound_with so_far p (number_at values)) ps (parametric_args_behind values) in
    join P t.reached (default.reached ++ rest.reached) (inner_reaches P context p.ty bound r.0)
    (join P default.reached rest.reached (found_defaults P context t.ty p.default bound r.1) (found_parametrics P known owner (p.name.name ∷ before) (bound_with so_far p (number_at values)) ps (parametric_args_behind values) (p.name.name ∷ bound) r.2))

found_arguments : (P : List ℕ → Bool) (context : TypeEnv) (before : List (List ℕ)) (fs : List Field) (bound : List (List ℕ)) → MentionsReach P context.known context.owner (fields_mentions fs bound) → AllNamed P (arguments_found context before fs).reached
found_arguments P context before [] bound h = tt
found_arguments P context before (f ∷ fs) bound h =
    let r = parts P context.known context.owner (mentioned_in_type f.ty bound) (fields_mentions fs bound) h in
    let t = typing_of_inner context f.ty in
    let rest = arguments_found context (f.name.name ∷ before) fs in
    join P t.reached rest.reached (inner_reaches P context f.ty bound r.0) (found_arguments P context (f.name.name ∷ before) fs bound r.1)

found_result : (P : List ℕ → Bool) (context : TypeEnv) (o : Option TypeExpr) (bound : List (List ℕ)) → MentionsReach P context.known context.owner (type_if o bound) → AllNamed P (result_typing context o).reached
found_result P context None bound h = tt
found_result P context (Some t) bound h = written_type_reaches P t bound context h

instance_reaches : (P : List ℕ → Bool) (known : GlobalEnv) (f : Function) (parametric_args : List DslxValue) → MentionsReach P known f.name.name (definition_mentions (d.Function f)) → AllNamed P (function_seen known f parametric_args).found.reached
instance_reaches P known f parametric_args h =
    let names = parametric_names f.parametrics in
    let inner = field_names f.arguments ++ names in
    let q = parts P known f.name.name ((parametrics_mentions f.parametrics [] ++ fields_mentions f.arguments names) ++ type_if f.result names) (mentioned_in_block f.body inner) h in
    let r = three_parts P known f.name.name (parametrics_mentions f.parametrics []) (fields_mentions f.arguments names) (type_if f.result names) q.0 in
    let context = function_type_env known f parametric_args in
    let parametrics = parametrics_found known f.name.name [] [] f.parametrics parametric_args in
    let arguments = arguments_found context [] f.arguments in
    let result = result_typing context f.result in
    let place = with_typed context (arguments_typed context [] f.arguments) in
    let body = body_typing false place result.ty f.body in
    join P parametrics.reached (arguments.reached ++ (result.reached ++ body.reached)) (found_parametrics P known f.name.name [] [] f.parametrics parametric_args [] r.0)
    (join P arguments.reached (result.reached ++ body.reached) (found_arguments P context [] f.arguments names r.1)
    (join P result.reached body.reached (found_result P context f.result names r.2) (block_of_text_reaches P f.body inner false place q.1)))

-- ---- instances of procs

pub found_ends : (P : List ℕ → Bool) (context : TypeEnv) (before : List (List ℕ)) (es : List End) (bound : List (List ℕ)) → MentionsReach P context.known context.owner (ends_mentions es bound) → AllNamed P (ends_found context before es).reached
found_ends P context before [] bound h = tt
found_ends P context before (e ∷ es) bound h =
    let r = parts P context.known context.owner (mentioned_in_type e.word bound) (ends_mentions es bound) h in
    let rest = ends_found context (e.name.name ∷ before) es in
    join P (typing_of_inner context e.word).reached rest.reached (inner_reaches P context e.word bound r.0) (found_ends P context (e.name.name ∷ before) es bound r.1)

found_depth : (P : List ℕ → Bool) (context : TypeEnv) (o : Option Arg) (bound : List (List ℕ)) → MentionsReach P context.known context.owner (arg_if o bound) → AllNamed P (depth_found context o).reached
found_depth P context None bound h = tt
found_depth P context (Some a) bound h =
    let e = (arg_pair a).1 in
    constant_reaches P context e (unmarked P (span_of e) (within context e) (argument_reaches P a bound false context h))

pub arguments_reach : (P : List ℕ → Bool) (context : TypeEnv) (as' : List Arg) (bound : List (List ℕ)) → MentionsReach P context.known context.owner (flat_map (λ a. mentioned_in_arg a bound) as') → EachReaches P context (map (λ (a : ArgPair). a.1) (map arg_pair as'))
arguments_reach P context [] bound h = tt
arguments_reach P context (a ∷ as') bound h =
    let r = parts P context.known context.owner (mentioned_in_arg a bound) (flat_map (λ b. mentioned_in_arg b bound) as') h in
    (argument_reaches P a bound false context r.0, arguments_reach P context as' bound r.1)

found_spawn : (P : List ℕ → Bool) (context : TypeEnv) (made : Made) (s : Spawn) (bound : List (List ℕ)) → MentionsReach P context.known context.owner (mention AsProc s.target.name ++ flat_map (λ a. mentioned_in_arg a bound) s.arguments)
    → AllNamed P (spawn_found context made s).reached
found_spawn P context made s bound h =
    join P (reached_of_all (given_judgements given)) (spawn_of context made s given (as_proc (item_named s.target.name context.known.whole.items))).reached
    (given_reach P (behind_ends context made) (map arg_pair s.arguments) (arguments_reach P (behind_ends context made) s.arguments bound r.1)) (by_proc (as_proc (item_named s.target.name context.known.whole.items)) refl)
  where
    given : List ParametricArgument
    given = given_parametric_args (behind_ends context made) (map arg_pair s.arguments)

    r : MentionsReach P context.known context.owner (mention AsProc s.target.name) × MentionsReach P context.known context.owner (flat_map (λ a. mentioned_in_arg a bound) s.arguments)
    r = parts P context.known context.owner (mention AsProc s.target.name) (flat_map (λ a. mentioned_in_arg a bound) s.arguments) h

    seen : Proc → ParametricArgsSeen
    seen p = proc_parametric_args context.known p given

    by_cycle : (p : Proc) → as_proc (item_named s.target.name context.known.whole.items) ≡ Some p → (c : Bool) → context.known.is_cyclic context.owner p.name.name ≡ c → AllNamed P (right_spawn context made s p (breaks_if c 3 s.span) (seen p)).reached
    by_cycle p q true e = tt
    by_cycle p q false e =
        let k = r.0.0 p q e in
        join P (typing_there [] (seen p)).reached (reached_by (is_refused [] (seen p)) p.name.name (seen p).values)
        (typing_reaches P context.known p.name.name [] [] p.parametrics given [] k.declared) (instance_reached P (is_refused [] (seen p)) p.name.name (seen p).values k.own)

    by_count : (p : Proc) → as_proc (item_named s.target.name context.known.whole.items) ≡ Some p → (b : Bool)
        → AllNamed P (if b then right_spawn context made s p (breaks_if (context.known.is_cyclic context.owner p.name.name) 3 s.span) (seen p)
        else only_faults (breaks_if (context.known.is_cyclic context.owner p.name.name) 3 s.span ++ breaks 10 s.span ∷ [])).reached
    by_count p q false = tt
    by_count p q true = by_cycle p q (context.known.is_cyclic context.owner p.name.name) refl

    by_proc : (o : Option Proc) → as_proc (item_named s.target.name context.known.whole.items) ≡ o → AllNamed P (spawn_of context made s given o).reached
    by_proc None q = tt
    by_proc (Some p) q = by_count p q (length s.ends == length p.config.ends && not (nat_lt (length p.parametrics) (length given)))

found_config_statements : (P : List ℕ → Bool) (context : TypeEnv) (made : Made) (ms : List ConfigStatement) (bound : List (List ℕ)) → MentionsReach P context.known context.owner (flat_map (λ m. config_statement_mentions m bound) ms) → AllNamed P (config_statements_found context made ms).reached
found_config_statements P context made [] bound h = tt
found_config_statements P context made (config_statement.Channel c ∷ ms) bound h =
    let r = parts P context.known context.owner (mentioned_in_type c.word bound ++ arg_if c.depth bound) (flat_map (λ m. config_statement_mentions m bound) ms) h in
    let q = parts P context.known context.owner (mentioned_in_type c.word bound) (arg_if c.depth bound) r.0 in
    let word = typing_of_inner (behind_ends context made) c.word in
    let depth = depth_found (behind_ends context made) c.depth in
    join P (word.reached ++ depth.reached) (config_statements_found context (made_with context made c) ms).reached
    (join P word.reached depth.reached (inner_reaches P (behind_ends context made) c.word bound q.0) (found_depth P (behind_ends context made) c.depth bound q.1)) (found_config_statements P context (made_with context made c) ms bound r.1)
found_config_statements P context made (config_statement.Spawn s ∷ ms) bound h =
    let r = parts P context.known context.owner (mention AsProc s.target.name ++ flat_map (λ a. mentioned_in_arg a bound) s.arguments) (flat_map (λ m. config_statement_mentions m bound) ms) h in
    join P (spawn_found context made s).reached (config_statements_found context made ms).reached (found_spawn P context made s bound r.0) (found_config_statements P context made ms bound r.1)

proc_reaches : (P : List ℕ → Bool) (known : GlobalEnv) (p : Proc) (parametric_args : List DslxValue) → MentionsReach P known p.name.name (proc_mentions p) → AllNamed P (proc_seen known p parametric_args).reached
proc_reaches P known p parametric_args h =
    let names = parametric_names p.parametrics in
    let q = proc_parts P known p.name.name p h in
    let context = proc_type_env known p parametric_args in
    let state = typing_of_type context p.next.ty in
    let inside : TypeEnv = record context { members = map (channel_end_of context) p.members } in
    let last : TypeEnv = record inside { locals = record { name = p.next.state.name; ty = state.ty } ∷ [] } in
    let start = made_at_start context p.config.ends in
    let parametrics = parametrics_found known p.name.name [] [] p.parametrics parametric_args in
    let members = ends_found context [] p.members in
    let ends = ends_found context [] p.config.ends in
    let config_statements = config_statements_found context start p.config.config_statements in
    let init = body_typing false inside state.ty p.init in
    let next = body_typing true last state.ty p.next.body in
    let f = join P next.reached [] (block_of_text_reaches P p.next.body (p.next.state.name ∷ names) true last q.next) tt in
    let e = join P init.reached (next.reached ++ []) (block_of_text_reaches P p.init names false inside q.init) f in
    let c = join P state.reached (init.reached ++ (next.reached ++ [])) (written_type_reaches P p.next.ty names context q.state) e in
    let config = join P ends.reached (config_statements.reached ++ []) (found_ends P context [] p.config.ends names q.ends) (join P config_statements.reached [] (found_config_statements P context start p.config.config_statements names q.config_statements) tt) in
    let b = join P (ends.reached ++ (config_statements.reached ++ [])) (state.reached ++ (init.reached ++ (next.reached ++ []))) config c in
    let a = join P members.reached ((ends.reached ++ (config_statements.reached ++ [])) ++ (state.reached ++ (init.reached ++ (next.reached ++ [])))) (found_ends P context [] p.members names q.members) b in
    join P parametrics.reached (members.reached ++ ((ends.reached ++ (config_statements.reached ++ [])) ++ (state.reached ++ (init.reached ++ (next.reached ++ [])))))
    (found_parametrics P known p.name.name [] [] p.parametrics parametric_args [] q.parametrics) a

-- ---- other items

found_fields : (P : List ℕ → Bool) (context : TypeEnv) (before : List (List ℕ)) (fs : List Field) (bound : List (List ℕ)) → MentionsReach P context.known context.owner (fields_mentions fs bound) → AllNamed P (fields_found context before fs).reached
found_fields P context before [] bound h = tt
found_fields P context before (f ∷ fs) bound h =
    let r = parts P context.known context.owner (mentioned_in_type f.ty bound) (fields_mentions fs bound) h in
    let rest = fields_found context (f.name.name ∷ before) fs in
    join P (typing_of_inner context f.ty).reached rest.reached (inner_reaches P context f.ty bound r.0) (found_fields P context (f.name.name ∷ before) fs bound r.1)

abbrev in_base : Option DslxType → UntypedLiteral → Option DslxValue
in_base None number = None
in_base (Some t) number = untyped_value t number

abbrev of_base : Option DslxType → ConstantSeen → List Fault → ConstantFound
of_base base c wrong = record {
  found = record { faults = c.judgement.faults ++ wrong; reached = c.judgement.reached };
  value = and_then base (λ t. if is_empty wrong then c.value else None);
}

abbrev member_by : TypeEnv → Option DslxType → ExprPair → Option UntypedLiteral → ConstantFound
member_by context base pair None = of_base base (constant_of context pair) (wanted_faults (span_of pair) base (constant_of context pair).judgement.ty)
member_by context base pair (Some number) = record { found = only_faults (range_faults (span_of pair) base number); value = in_base base number }

found_member : (P : List ℕ → Bool) (context : TypeEnv) (base : Option DslxType) (m : Member) → MentionsReach P context.known context.owner (mentioned m.value []) → AllNamed P (member_constant context base m).found.reached
found_member P context base m h = by_untyped (untyped_of (expr_pair m.value))
  where
    by_untyped : (o : Option UntypedLiteral) → AllNamed P (member_by context base (expr_pair m.value) o).found.reached
    by_untyped None = constant_reached P context m.value [] h
    by_untyped (Some number) = tt

found_members : (P : List ℕ → Bool) (context : TypeEnv) (base : Option DslxType) (before : List (List ℕ)) (ms : List Member) → MentionsReach P context.known context.owner (flat_map (λ (m : Member). mentioned m.value []) ms)
    → AllNamed P (members_found context base before ms).reached
found_members P context base before [] h = tt
found_members P context base before (m ∷ ms) h =
    let r = parts P context.known context.owner (mentioned m.value []) (flat_map (λ (n : Member). mentioned n.value []) ms) h in
    join P (member_constant context base m).found.reached (members_found context base (m.name.name ∷ before) ms).reached (found_member P context base m r.0) (found_members P context base (m.name.name ∷ before) ms r.1)

found_annotation : (P : List ℕ → Bool) (context : TypeEnv) (o : Option TypeExpr) (bound : List (List ℕ)) → MentionsReach P context.known context.owner (type_if o bound) → AllNamed P (annotation_typing context o).reached
found_annotation P context None bound h = tt
found_annotation P context (Some t) bound h = written_type_reaches P t bound context h

item_reaches_alone : (P : List ℕ → Bool) (known : GlobalEnv) (x : Definition) → MentionsReach P known (name_of_definition x) (definition_mentions x) → AllNamed P (item_found known x).reached
item_reaches_alone P known (d.Function f) h = tt
item_reaches_alone P known (d.Proc p) h = tt
item_reaches_alone P known (d.Constant c) h =
    let r = parts P known c.name.name (type_if c.ty []) (mentioned c.value []) h in
    let context = item_type_env known c.name.name [] in
    join P (annotation_typing context c.ty).reached (alone context (expr_pair c.value)).reached (found_annotation P context c.ty [] r.0) (constant_reached P context c.value [] r.1)
item_reaches_alone P known (d.Alias a) h = written_type_reaches P a.ty [] (item_type_env known a.name.name []) h
item_reaches_alone P known (d.Struct s) h = found_fields P (item_type_env known s.name.name []) [] s.fields [] h
item_reaches_alone P known (d.Enum n) h =
    let r = parts P known n.name.name (mentioned_in_type n.base []) (flat_map (λ (m : Member). mentioned m.value []) n.members) h in
    let context = item_type_env known n.name.name [] in
    let base = typing_of_type context n.base in
    join P base.reached (members_found context (base_if_bits base.ty) [] n.members).reached (written_type_reaches P n.base [] context r.0) (found_members P context (base_if_bits base.ty) [] n.members r.1)

-- ---- the whole

found_item : (P : List ℕ → Bool) (known : GlobalEnv) (parametric_args : List DslxValue) (x : Definition) → MentionsReach P known (name_of_definition x) (definition_mentions x) → AllNamed P (found_of_item known parametric_args (Some x)).reached
found_item P known parametric_args (d.Function f) h = instance_reaches P known f parametric_args h
found_item P known parametric_args (d.Proc p) h = proc_reaches P known p parametric_args h
found_item P known parametric_args (d.Constant c) h = tt
found_item P known parametric_args (d.Alias a) h = tt
found_item P known parametric_args (d.Struct s) h = tt
found_item P known parametric_args (d.Enum n) h = tt

-- and where a part mentions items alone whose names pass the test
pub den_reach : (P : List ℕ → Bool) (m : Module) → IsClosed P m → (n : ℕ) (owner : List ℕ) (ms : List Mention) → list_all P (names_mentioned m ms) ≡ true → MentionsReach P (globals_within m n) owner ms
den_reach P m closed n owner ms h = mentions_reach P P m (globals_within m n) owner (whole_is m n) (all_reach P m closed n owner) ms h

-- what an instance reaches, by its item
found_instance : (P : List ℕ → Bool) (m : Module) (n : ℕ) (i : Instance) → ((x : Definition) → item_named i.name m.items ≡ Some x → MentionsReach P (globals_within m n) (name_of_definition x) (definition_mentions x))
    → AllNamed P (found_of_instance (globals_within m n) i).reached
found_instance P m n i h = by_item (item_named i.name (globals_within m n).whole.items) (λ j. item_named i.name (whole_is m n j).items)
  where
    by_item : (o : Option Definition) → o ≡ item_named i.name m.items → AllNamed P (found_of_item (globals_within m n) i.parametric_args o).reached
    by_item None q = tt
    by_item (Some x) q = found_item P (globals_within m n) i.parametric_args x (h x (sym q))

-- an instance of an item that mentions items alone whose names pass the test reaches instances of such alone
pub instances_reach : (P : List ℕ → Bool) (m : Module) → IsClosed P m → (n : ℕ) (i : Instance) → list_all P (mentions_of m (item_named i.name m.items)) ≡ true → AllNamed P (found_of_instance (globals_within m n) i).reached
instances_reach P m closed n i h = found_instance P m n i (λ x q. den_reach P m closed n (name_of_definition x) (definition_mentions x) ((λ j. list_all P (mentions_of m (sym q j))) ∙ h))

-- so does an item by its own text
pub items_reach : (P : List ℕ → Bool) (m : Module) → IsClosed P m → (n : ℕ) (x : Definition) → list_all P (mentions_of m (Some x)) ≡ true → AllNamed P (item_found (globals_within m n) x).reached
items_reach P m closed n x h = item_reaches_alone P (globals_within m n) x (den_reach P m closed n (name_of_definition x) (definition_mentions x) h)

-- and an expression that mentions such items alone
pub expressions_reach : (P : List ℕ → Bool) (m : Module) → IsClosed P m → (n : ℕ) (e : Expr) (bound : List (List ℕ)) (on_top : Bool) (context : TypeEnv) → context.known ≡ globals_within m n → list_all P (names_mentioned m (mentioned e bound)) ≡ true
    → AllNamed P ((expr_pair e).1 on_top context).reached
expressions_reach P m closed n e bound on_top context same h =
    expression_reaches P e bound on_top context (subst (λ k. MentionsReach P k context.owner (mentioned e bound)) (sym same) (den_reach P m closed n context.owner (mentioned e bound) h))

-- what an instance reaches stands below it
pub instances_reach_down : (m : Module) (n : ℕ) (i : Instance) → AllNamed (is_above m i.name) (found_of_instance (globals_within m n) i).reached
instances_reach_down m n i = found_instance (is_above m i.name) m n i (λ x q.
    subst (λ owner. MentionsReach (is_above m i.name) (globals_within m n) owner (definition_mentions x)) (sym (item_so_named m.items i.name x q)) (mentions_below m n i.name (all_below m n i.name) x q))
