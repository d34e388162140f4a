-- Items, and instances of functions and procs: they reach an instance of each function and each proc that they mention.
use Rattle.std.proofs.Common.{◌≡◌, ◌&&◌, ◌||◌, ◌++◌, ◌==◌, ℕ, length, Bool, true, false, not, if◌then◌else◌, List, [], ◌∷◌, map, Option, Some, None, refl, sym, ap, subst, ◌∙◌}
use mathlib.Core.Bool.{true≢false}
use Rattle.std.specs.Prelude.{flat_map, nat_lt}
use Rattle.xb_span.specs.declared.fault.Fault.{Fault}
use Rattle.dslx_tree.specs.declared.expr.Arg.{Arg}
use Rattle.dslx_tree.specs.declared.expr.Expr.{Expr, out-Expr}
use Rattle.dslx_tree.specs.declared.item.Definition.{Definition}
use Rattle.dslx_tree.specs.declared.item.Definition.TheVariants as d
use Rattle.dslx_tree.specs.declared.item.Field.{Field}
use Rattle.dslx_tree.specs.declared.item.Function.{Function}
use Rattle.dslx_tree.specs.declared.item.Member.{Member}
use Rattle.dslx_tree.specs.declared.item.Parametric.{Parametric}
use Rattle.dslx_tree.specs.declared.type_expr.TypeExpr.{TypeExpr}
use Rattle.dslx_tree.specs.declared.process.ConfigStatement.{ConfigStatement}
use Rattle.dslx_tree.specs.declared.process.ConfigStatement.TheVariants as config_statement
use Rattle.dslx_tree.specs.declared.process.End.{End}
use Rattle.dslx_tree.specs.declared.process.Proc.{Proc}
use Rattle.dslx_tree.specs.declared.process.Spawn.{Spawn}
use Rattle.dslx_meaning.specs.Environment.{Given}
use Rattle.dslx_meaning.specs.Items.{item_named, name_of_field}
use Rattle.dslx_meaning.specs.Network.{as_proc}
use Rattle.dslx_meaning.specs.Rules.CallRules.{ParametricArgsSeen, ParametricArgument, given_judgements, given_parametric_args, is_refused, known_before, reached_by, signature_seen, typing_there}
use Rattle.dslx_meaning.specs.Rules.ProcRules.{Made, behind_ends, channel_found, config_found, config_statements_found, depth_found, ends_found, given_found, handed_faults, made_at_start, made_with, proc_parametric_args, proc_seen, proc_type_env, right_spawn, spawn_found, spawn_of, unknown_ends}
use Rattle.dslx_meaning.specs.declared.ty.DslxType.{DslxType}
use Rattle.dslx_meaning.specs.declared.ty.DslxType as ty
use Rattle.dslx_meaning.specs.declared.value.DslxValue.{DslxValue}
use Rattle.dslx_meaning.specs.declared.value.UntypedLiteral.{UntypedLiteral}
use Rattle.dslx_meaning.specs.Lists.{and_then}
use Rattle.dslx_meaning.specs.Types.{bits_in}
use Rattle.dslx_meaning.specs.Rules.AggregateRules.{range_faults, wanted_faults, untyped_value}
use Rattle.dslx_meaning.specs.Rules.OperatorRules.{is_bits, unless_type}
use Rattle.dslx_meaning.specs.Rules.ModuleRules.{item_found}
use Rattle.dslx_meaning.specs.Rules.Typings.{typing_sorts}
use Rattle.dslx_meaning.specs.Rules.ConstantRules.{ConstantSeen, constant_of, count_of, is_empty}
use Rattle.dslx_meaning.specs.Rules.ItemRules.{ConstantFound, annotation_typing, arguments_found, arguments_typed, base_if_bits, body_typing, bound_with, default_found, enum_of_base, fields_found, fields_types, function_seen, function_type_env, has_equal_values, is_annotated, item_type_env, member_constant, member_values, members_found, number_at, only_faults, parametric_args_behind, parametrics_found, result_typing, typing_of_inner, typing_of_type}
use Rattle.dslx_meaning.specs.Rules.Mentions.{AsProc, arg_if, config_statement_mentions, ends_mentions, mention, mentioned_in_arg, definition_mentions, expr_if, field_names, fields_mentions, mentioned, mentioned_in_block, mentioned_in_type, parametric_names, parametrics_mentions, type_if}
use Rattle.dslx_meaning.specs.Rules.NodeRules.{arg_pair, expr_pair, typing_steps}
use Rattle.dslx_meaning.specs.Rules.PatternRules.{is_there}
use Rattle.dslx_meaning.specs.Rules.TypeEnvs.{ExprPair, GlobalEnv, TypeEnv, breaks, breaks_if, has_broken, reached_of_all, span_of, untyped_of}
use Rattle.dslx_core.specs.Typing.TypingRelations.Called.{called}
use Rattle.dslx_core.specs.Typing.TypingRelations.Cycles.{AllUsed}
use Rattle.dslx_core.specs.Typing.TypingRelations.Reached.{AllNamed}
use Rattle.dslx_core.specs.Typing.TypingRelations.Whole.{ArgumentsThere, EndsThere, IsFunctionThere, IsItemThere, IsProcThere, IsSpawnThere, MembersThere, ParametricsThere, StatementsThere, behind_members, behind_state}
use Rattle.dslx_core.proofs.OnTyping.OnCycles.Parts.{front, join, join_three, not_here}
use Rattle.dslx_core.proofs.OnTyping.OnSized.Joined.{argument_sized, block_of_text_sized, constant_valued, count_valued, expression_sized, written_type_sized}
use Rattle.dslx_core.proofs.OnTyping.OnSized.OfCalls.{AllValued, callee_passes, values_given}
use Rattle.dslx_core.proofs.OnTyping.OnSized.Parts.{both_tests, each_there, first_there, named_parts, none, nothing_there, nothing_unknown, second_there, typed_inside, unmarked_sized}
use Rattle.dslx_core.proofs.OnTyping.OnCycles.Bare.{bare_mentions_nothing}
use Rattle.dslx_core.proofs.OnTyping.OnSound.Trees.{own_expr}
use Rattle.dslx_core.proofs.OnTyping.OnTyped.TypingRelations.{rule_holds, unbroken_parts}
use Rattle.dslx_core.proofs.OnTyping.OnTyping.OfItems.{item_so_named, proc_is}

-- ---- members of enums

abbrev in_base : Option DslxType → UntypedLiteral → Option DslxValue
in_base None number = None
in_base (Some t) number = untyped_value t number

abbrev of_base : Option DslxType → ConstantSeen → List Fault → ConstantFound
of_base base c wrong = record {
  found = record { faults = c.judgement.faults ++ wrong; reached = c.judgement.reached };
  value = and_then base (λ t. if is_empty wrong then c.value else None);
}

abbrev member_by : TypeEnv → Option DslxType → ExprPair → Option UntypedLiteral → ConstantFound
member_by context base pair None = let c = constant_of context pair in of_base base c (wanted_faults (span_of pair) base c.judgement.ty)
member_by context base pair (Some number) = record { found = only_faults (range_faults (span_of pair) base number); value = in_base base number }

-- a value that is taken is there
taken : (p : Bool) (v : Option DslxValue) → is_there (if◌then◌else◌ {A = Option DslxValue} p v None) ≡ true → (p ≡ true) × (is_there v ≡ true)
taken true v h = (refl, h)
taken false v h = nothing_there h

module _ (P : List ℕ → Bool) where
  default_sized : (context : TypeEnv) (t : Option DslxType) (bound : List (List ℕ)) (o : Option Expr) → ((e : Expr) → o ≡ Some e → is_there (constant_of context (expr_pair e)).value ≡ true)
      → AllNamed P (default_found context t o).reached → AllUsed (called P) (expr_if o bound)
  default_sized context t bound None h k = tt
  default_sized context t bound (Some e) h k =
      constant_valued P none context (expr_pair e) (mentioned e bound) (unmarked_sized P none (mentioned e bound) (span_of (expr_pair e)) ((expr_pair e).1 false context) (expression_sized P none e bound false context (nothing_unknown bound context))) (h e refl) k

  parametrics_sized : (known : GlobalEnv) (owner : List ℕ) (before : List (List ℕ)) (so_far : List Given) (ps : List Parametric) (values : List DslxValue) (bound : List (List ℕ)) → ParametricsThere known owner so_far ps values
      → AllNamed P (parametrics_found known owner before so_far ps values).reached → AllUsed (called P) (parametrics_mentions ps bound)
  parametrics_sized known owner before so_far [] values bound h k = tt
  parametrics_sized known owner before so_far (p ∷ ps) values bound h k =
      let context = item_type_env known owner so_far in
      let t = typing_of_inner context p.ty in
      let default = default_found context t.ty p.default in
      let rest = parametrics_found known owner (p.name.name ∷ before) (bound_with so_far p (number_at values)) ps (parametric_args_behind values) in
      let a = named_parts P t.reached (default.reached ++ rest.reached) k in
      let b = named_parts P default.reached rest.reached a.1 in
      join_three (called P) (mentioned_in_type p.ty bound) (expr_if p.default bound) (parametrics_mentions ps (p.name.name ∷ bound)) ((written_type_sized P none p.ty).typed bound context (nothing_unknown bound context) h.0.0 a.0)
      (default_sized context t.ty bound p.default h.0.1 b.0)
      (parametrics_sized known owner (p.name.name ∷ before) (bound_with so_far p (number_at values)) ps (parametric_args_behind values) (p.name.name ∷ bound) h.1 b.1)

  arguments_sized : (context : TypeEnv) (before : List (List ℕ)) (fs : List Field) (bound : List (List ℕ)) → ArgumentsThere context fs → AllNamed P (arguments_found context before fs).reached → AllUsed (called P) (fields_mentions fs bound)
  arguments_sized context before [] bound h k = tt
  arguments_sized context before (f ∷ fs) bound h k =
      let t = typing_of_inner context f.ty in
      let rest = arguments_found context (f.name.name ∷ before) fs in
      let a = named_parts P t.reached rest.reached k in
      join (called P) (mentioned_in_type f.ty bound) (fields_mentions fs bound) ((written_type_sized P none f.ty).typed bound context (nothing_unknown bound context) h.0 a.0) (arguments_sized context (f.name.name ∷ before) fs bound h.1 a.1)

  result_sized : (context : TypeEnv) (o : Option TypeExpr) (bound : List (List ℕ)) → is_there (result_typing context o).ty ≡ true → AllNamed P (result_typing context o).reached → AllUsed (called P) (type_if o bound)
  result_sized context None bound h k = tt
  result_sized context (Some t) bound h k = (written_type_sized P none t).typed bound context (nothing_unknown bound context) h k

  pub function_calls : (known : GlobalEnv) (f : Function) (parametric_args : List DslxValue) → IsFunctionThere known f parametric_args → AllNamed P (function_seen known f parametric_args).found.reached
      → AllUsed (called P) (definition_mentions (d.Function f))
  function_calls known f parametric_args h k =
      let context = function_type_env known f parametric_args in
      let names = parametric_names f.parametrics in
      let inner = field_names f.arguments ++ names in
      let parametrics = parametrics_found known f.name.name [] [] f.parametrics parametric_args in
      let arguments = arguments_found context [] f.arguments in
      let result = result_typing context f.result in
      let behind : TypeEnv = record context { locals = arguments_typed context [] f.arguments } in
      let body = body_typing false behind result.ty f.body in
      let a = named_parts P parametrics.reached (arguments.reached ++ (result.reached ++ body.reached)) k in
      let b = named_parts P arguments.reached (result.reached ++ body.reached) a.1 in
      let c = named_parts P result.reached body.reached b.1 in
      join (called P) ((parametrics_mentions f.parametrics [] ++ fields_mentions f.arguments names) ++ type_if f.result names) (mentioned_in_block f.body inner)
      (join_three (called P) (parametrics_mentions f.parametrics []) (fields_mentions f.arguments names) (type_if f.result names) (parametrics_sized known f.name.name [] [] f.parametrics parametric_args [] h.parametrics a.0)
      (arguments_sized context [] f.arguments names h.arguments b.0) (result_sized context f.result names h.result c.0))
      (block_of_text_sized P none f.body inner false behind (nothing_unknown inner behind) h.body c.1)

  -- ---- procs

  ends_sized : (context : TypeEnv) (before : List (List ℕ)) (es : List End) (bound : List (List ℕ)) → EndsThere context es → AllNamed P (ends_found context before es).reached → AllUsed (called P) (ends_mentions es bound)
  ends_sized context before [] bound h k = tt
  ends_sized context before (e ∷ es) bound h k =
      let a = named_parts P (typing_of_inner context e.word).reached (ends_found context (e.name.name ∷ before) es).reached k in
      join (called P) (mentioned_in_type e.word bound) (ends_mentions es bound) ((written_type_sized P none e.word).typed bound context (nothing_unknown bound context) h.0 a.0) (ends_sized context (e.name.name ∷ before) es bound h.1 a.1)

  depth_sized : (context : TypeEnv) (o : Option Arg) (bound : List (List ℕ)) → ((a : Arg) → o ≡ Some a → is_there (count_of context (arg_pair a).1).count ≡ true) → AllNamed P (depth_found context o).reached → AllUsed (called P) (arg_if o bound)
  depth_sized context None bound h k = tt
  depth_sized context (Some a) bound h k =
      let e = (arg_pair a).1 in
      let c = argument_sized P none a in
      count_valued P none context e (mentioned_in_arg a bound) (unmarked_sized P none (mentioned_in_arg a bound) (span_of e) (e.1 false context) (c.0 bound false context (nothing_unknown bound context))) (λ number q. c.1 number q bound) (h a refl) k

  given_sized : (context : TypeEnv) (as' : List Arg) (bound : List (List ℕ)) → AllValued (given_parametric_args context (map arg_pair as')) → AllNamed P (reached_of_all (given_judgements (given_parametric_args context (map arg_pair as'))))
      → AllUsed (called P) (flat_map (λ (a : Arg). mentioned_in_arg a bound) as')
  given_sized context [] bound h k = tt
  given_sized context (a ∷ as') bound h k =
      let e = (arg_pair a).1 in
      let n = named_parts P (constant_of context e).judgement.reached (reached_of_all (given_judgements (given_parametric_args context (map arg_pair as')))) k in
      join (called P) (mentioned_in_arg a bound) (flat_map (λ (x : Arg). mentioned_in_arg x bound) as')
      (constant_valued P none context e (mentioned_in_arg a bound) (unmarked_sized P none (mentioned_in_arg a bound) (span_of e) (e.1 false context) ((argument_sized P none a).0 bound false context (nothing_unknown bound context))) h.0 n.0) (given_sized context as' bound h.1 n.1)

  -- what a spawn passes
  record SpawnPasses (s : Spawn) (gs : List ParametricArgument) : Type 0 where
    target : P s.target.name ≡ true
    values : AllValued gs

  spawned : (context : TypeEnv) (made : Made) (s : Spawn) → IsSpawnThere context made s
      → AllNamed P (spawn_of context made s (given_parametric_args (behind_ends context made) (map arg_pair s.arguments)) (as_proc (item_named s.target.name context.known.whole.items))).reached
      → SpawnPasses s (given_parametric_args (behind_ends context made) (map arg_pair s.arguments))
  spawned context made s h k = by_proc (as_proc (item_named s.target.name context.known.whole.items)) refl of_target k
    where
      gs : List ParametricArgument
      gs = given_parametric_args (behind_ends context made) (map arg_pair s.arguments)

      of_target : has_broken (spawn_of context made s gs (as_proc (item_named s.target.name context.known.whole.items))).faults ≡ false
      of_target =
          let target = (spawn_of context made s gs (as_proc (item_named s.target.name context.known.whole.items))).faults in
          (unbroken_parts (unknown_ends made.names s.ends) target (unbroken_parts (given_found gs).faults (unknown_ends made.names s.ends ++ target) h.unbroken).1).1

      cyclic : Proc → List Fault
      cyclic q = breaks_if (context.known.is_cyclic context.owner q.name.name) 3 s.span

      seen : Proc → ParametricArgsSeen
      seen q = proc_parametric_args context.known q gs

      by_count : (q : Proc) → as_proc (item_named s.target.name context.known.whole.items) ≡ Some q → (b : Bool)
          → has_broken (if b then right_spawn context made s q (cyclic q) (seen q) else only_faults (cyclic q ++ breaks 10 s.span ∷ [])).faults ≡ false
          → AllNamed P (if b then right_spawn context made s q (cyclic q) (seen q) else only_faults (cyclic q ++ breaks 10 s.span ∷ [])).reached → SpawnPasses s gs
      by_count q e false g k = not_here (cyclic q) [] 10 s.span g
      by_count q e true g k =
          let there = (typing_there (cyclic q) (seen q)).faults in
          let wrong = breaks_if (seen q).is_wrong 10 s.span in
          let handed = if◌then◌else◌ {A = List Fault} (seen q).is_wrong [] (handed_faults made (signature_seen context.known q.name.name (seen q)).arguments q.config.ends s.ends) in
          let four = unbroken_parts (((cyclic q ++ (seen q).faults) ++ there) ++ wrong) handed g in
          let three = unbroken_parts ((cyclic q ++ (seen q).faults) ++ there) wrong four.0 in
          let one = front (cyclic q) (seen q).faults (front (cyclic q ++ (seen q).faults) there three.0) in
          let valued = h.values q e in
          let n = named_parts P (typing_there (cyclic q) (seen q)).reached (reached_by (is_refused (cyclic q) (seen q)) q.name.name (seen q).values) k in
          let same : q.name.name ≡ s.target.name = item_so_named context.known.whole.items s.target.name (d.Proc q) (proc_is (item_named s.target.name context.known.whole.items) q e) in
          record {
            target = subst (λ (n : List ℕ). P n ≡ true) same
                (callee_passes P (is_refused (cyclic q) (seen q)) q.name.name (seen q).values (λ i. one i || rule_holds (seen q).is_wrong 10 s.span three.1 i) valued n.1);
            values = values_given context.known q.name.name [] [] (known_before []) q.parametrics gs valued;
          }

      by_proc : (o : Option Proc) → as_proc (item_named s.target.name context.known.whole.items) ≡ o → has_broken (spawn_of context made s gs o).faults ≡ false → AllNamed P (spawn_of context made s gs o).reached → SpawnPasses s gs
      by_proc None e g k = absurd (true≢false g)
      by_proc (Some q) e g k = by_count q e (length s.ends == length q.config.ends && not (nat_lt (length q.parametrics) (length gs))) g k

  statements_sized : (context : TypeEnv) (made : Made) (ms : List ConfigStatement) (bound : List (List ℕ)) → StatementsThere context made ms → AllNamed P (config_statements_found context made ms).reached
      → AllUsed (called P) (flat_map (λ (x : ConfigStatement). config_statement_mentions x bound) ms)
  statements_sized context made [] bound h k = tt
  statements_sized context made (config_statement.Channel c ∷ ms) bound h k =
      let inner = behind_ends context made in
      let rest = flat_map (λ (x : ConfigStatement). config_statement_mentions x bound) ms in
      let n = named_parts P (channel_found context made c).reached (config_statements_found context (made_with context made c) ms).reached k in
      let a = named_parts P (typing_of_inner inner c.word).reached (depth_found inner c.depth).reached n.0 in
      join (called P) (mentioned_in_type c.word bound ++ arg_if c.depth bound) rest
      (join (called P) (mentioned_in_type c.word bound) (arg_if c.depth bound) ((written_type_sized P none c.word).typed bound inner (nothing_unknown bound inner) h.0.word a.0) (depth_sized inner c.depth bound h.0.depth a.1))
      (statements_sized context (made_with context made c) ms bound h.1 n.1)
  statements_sized context made (config_statement.Spawn s ∷ ms) bound h k =
      let gs = given_parametric_args (behind_ends context made) (map arg_pair s.arguments) in
      let args = flat_map (λ (a : Arg). mentioned_in_arg a bound) s.arguments in
      let rest = flat_map (λ (x : ConfigStatement). config_statement_mentions x bound) ms in
      let target = spawn_of context made s gs (as_proc (item_named s.target.name context.known.whole.items)) in
      let n = named_parts P (spawn_found context made s).reached (config_statements_found context made ms).reached k in
      let a = named_parts P (given_found gs).reached target.reached n.0 in
      let there = spawned context made s h.0 a.1 in
      join (called P) (mention AsProc s.target.name ++ args) rest (there.target, given_sized (behind_ends context made) s.arguments bound there.values a.0) (statements_sized context made ms bound h.1 n.1)

  pub proc_calls : (known : GlobalEnv) (p : Proc) (parametric_args : List DslxValue) → IsProcThere known p parametric_args → AllNamed P (proc_seen known p parametric_args).reached → AllUsed (called P) (definition_mentions (d.Proc p))
  proc_calls known p parametric_args h k =
      let context = proc_type_env known p parametric_args in
      let names = parametric_names p.parametrics in
      let start = made_at_start context p.config.ends in
      let state = typing_of_type context p.next.ty in
      let ends = ends_found context [] p.config.ends in
      let statements = config_statements_found context start p.config.config_statements in
      let init = body_typing false (behind_members known p parametric_args) state.ty p.init in
      let next = body_typing true (behind_state known p parametric_args) state.ty p.next.body in
      let a = named_parts P (parametrics_found known p.name.name [] [] p.parametrics parametric_args).reached _ k in
      let b = named_parts P (ends_found context [] p.members).reached _ a.1 in
      let c = named_parts P (config_found context p).reached (state.reached ++ (init.reached ++ (next.reached ++ []))) b.1 in
      let e = named_parts P ends.reached (statements.reached ++ []) c.0 in
      let f = named_parts P statements.reached [] e.1 in
      let g = named_parts P state.reached (init.reached ++ (next.reached ++ [])) c.1 in
      let i = named_parts P init.reached (next.reached ++ []) g.1 in
      let j = named_parts P next.reached [] i.1 in
      let one = parametrics_mentions p.parametrics [] in
      let two = ends_mentions p.members names in
      let three = ends_mentions p.config.ends names in
      let four = flat_map (λ (x : ConfigStatement). config_statement_mentions x names) p.config.config_statements in
      let five = mentioned_in_block p.init names in
      let six = mentioned_in_type p.next.ty names in
      let seven = mentioned_in_block p.next.body (p.next.state.name ∷ names) in
      join (called P) (((((one ++ two) ++ three) ++ four) ++ five) ++ six) seven
      (join (called P) ((((one ++ two) ++ three) ++ four) ++ five) six
      (join (called P) (((one ++ two) ++ three) ++ four) five
      (join (called P) ((one ++ two) ++ three) four
      (join_three (called P) one two three (parametrics_sized known p.name.name [] [] p.parametrics parametric_args [] h.parametrics a.0) (ends_sized context [] p.members names h.members b.0) (ends_sized context [] p.config.ends names h.ends e.0))
      (statements_sized context start p.config.config_statements names h.statements f.0))
      (block_of_text_sized P none p.init names false (behind_members known p parametric_args) (nothing_unknown names (behind_members known p parametric_args)) h.init i.0))
      ((written_type_sized P none p.next.ty).typed names context (nothing_unknown names context) h.state g.0))
      (block_of_text_sized P none p.next.body (p.next.state.name ∷ names) true (behind_state known p parametric_args) (nothing_unknown (p.next.state.name ∷ names) (behind_state known p parametric_args)) h.next j.0)

  -- ---- other items

  annotation_sized : (context : TypeEnv) (o : Option TypeExpr) → is_annotated o (annotation_typing context o).ty ≡ true → AllNamed P (annotation_typing context o).reached → AllUsed (called P) (type_if o [])
  annotation_sized context None h k = tt
  annotation_sized context (Some t) h k = (written_type_sized P none t).typed [] context (nothing_unknown [] context) h k

  value_sized : (context : TypeEnv) (e : Expr) → is_there (constant_of context (expr_pair e)).value ≡ true → AllNamed P (constant_of context (expr_pair e)).judgement.reached → AllUsed (called P) (mentioned e [])
  value_sized context e h k =
      constant_valued P none context (expr_pair e) (mentioned e []) (unmarked_sized P none (mentioned e []) (span_of (expr_pair e)) ((expr_pair e).1 false context) (expression_sized P none e [] false context (nothing_unknown [] context))) h k

  fields_sized : (context : TypeEnv) (before : List (List ℕ)) (fs : List Field) → is_there (fields_types context fs) ≡ true → AllNamed P (fields_found context before fs).reached → AllUsed (called P) (fields_mentions fs [])
  fields_sized context before [] h k = tt
  fields_sized context before (f ∷ fs) h k =
      let a = named_parts P (typing_of_inner context f.ty).reached (fields_found context (f.name.name ∷ before) fs).reached k in
      let r = each_there (typing_of_inner context f.ty).ty (map (λ (f : Field). (typing_of_inner context f.ty).ty) fs) h in
      join (called P) (mentioned_in_type f.ty []) (fields_mentions fs []) ((written_type_sized P none f.ty).typed [] context (nothing_unknown [] context) r.0 a.0) (fields_sized context (f.name.name ∷ before) fs r.1 a.1)

  member_sized : (context : TypeEnv) (base : Option DslxType) (x : Member) → is_there (member_constant context base x).value ≡ true → AllNamed P (member_constant context base x).found.reached → AllUsed (called P) (mentioned x.value [])
  member_sized context base x h k = by_untyped (untyped_of (expr_pair x.value)) refl h k
    where
      by_untyped : (o : Option UntypedLiteral) → untyped_of (expr_pair x.value) ≡ o → is_there (member_by context base (expr_pair x.value) o).value ≡ true → AllNamed P (member_by context base (expr_pair x.value) o).found.reached
          → AllUsed (called P) (mentioned x.value [])
      by_untyped None q h k =
          let c = constant_of context (expr_pair x.value) in
          let wrong = wanted_faults (span_of (expr_pair x.value)) base c.judgement.ty in
          value_sized context x.value (taken (is_empty wrong) c.value (second_there base (if◌then◌else◌ {A = Option DslxValue} (is_empty wrong) c.value None) h)).1 k
      by_untyped (Some number) q h k =
          let bare = bare_mentions_nothing (expr_pair x.value).0 number q [] in
          subst (AllUsed (called P)) (sym (ap (λ t. mentioned t []) (sym (own_expr typing_sorts typing_steps x.value)) ∙ bare)) tt

  members_sized : (context : TypeEnv) (base : Option DslxType) (before : List (List ℕ)) (ms : List Member) → MembersThere context base ms → AllNamed P (members_found context base before ms).reached
      → AllUsed (called P) (flat_map (λ (x : Member). mentioned x.value []) ms)
  members_sized context base before [] h k = tt
  members_sized context base before (x ∷ ms) h k =
      let a = named_parts P (member_constant context base x).found.reached (members_found context base (x.name.name ∷ before) ms).reached k in
      join (called P) (mentioned x.value []) (flat_map (λ (y : Member). mentioned y.value []) ms) (member_sized context base x h.0 a.0) (members_sized context base (x.name.name ∷ before) ms h.1 a.1)

  pub item_calls : (known : GlobalEnv) (x : Definition) → IsItemThere known x → AllNamed P (item_found known x).reached → AllUsed (called P) (definition_mentions x)
  item_calls known (d.Function f) h k = absurd h
  item_calls known (d.Proc p) h k = absurd h
  item_calls known (d.Constant c) h k =
      let context = item_type_env known c.name.name [] in
      let written = annotation_typing context c.ty in
      let value = constant_of context (expr_pair c.value) in
      let wrong = wanted_faults (out-Expr c.value).span written.ty value.judgement.ty in
      let r = taken (is_empty (written.faults ++ wrong) && is_annotated c.ty written.ty) value.value h in
      let a = named_parts P written.reached value.judgement.reached k in
      join (called P) (type_if c.ty []) (mentioned c.value []) (annotation_sized context c.ty (both_tests (is_empty (written.faults ++ wrong)) (is_annotated c.ty written.ty) r.0).1 a.0) (value_sized context c.value r.1 a.1)
  item_calls known (d.Alias a) h k =
      let context = item_type_env known a.name.name [] in
      let j = typing_of_type context a.ty in
      (written_type_sized P none a.ty).typed [] context (nothing_unknown [] context) (typed_inside j.faults j.ty h).1 k
  item_calls known (d.Struct s) h k =
      let context = item_type_env known s.name.name [] in
      let faults = (fields_found context [] s.fields).faults ++ breaks_if (is_empty s.fields) 31 s.span in
      let made = and_then (fields_types context s.fields) (λ ts. Some (ty.Struct s.name.name (map name_of_field s.fields) ts)) in
      fields_sized context [] s.fields (first_there (fields_types context s.fields) (λ ts. Some (ty.Struct s.name.name (map name_of_field s.fields) ts)) (typed_inside faults made h).1) k
  item_calls known (d.Enum e) h k =
      let context = item_type_env known e.name.name [] in
      let base = typing_of_type context e.base in
      let members = members_found context (base_if_bits base.ty) [] e.members in
      let one = unless_type is_bits 23 e.span base.ty in
      let two = breaks_if (is_empty e.members || has_equal_values (member_values context (base_if_bits base.ty) e.members)) 23 e.span in
      let faults = ((base.faults ++ members.faults) ++ one) ++ two in
      let a = named_parts P base.reached members.reached k in
      join (called P) (mentioned_in_type e.base []) (flat_map (λ (x : Member). mentioned x.value []) e.members)
      ((written_type_sized P none e.base).typed [] context (nothing_unknown [] context) (first_there base.ty (λ t. and_then (bits_in t) (λ kind. Some (ty.Enum e.name.name kind.signed kind.width))) (typed_inside faults (enum_of_base e.name.name base.ty) h.0).1) a.0)
      (members_sized context (base_if_bits base.ty) [] e.members h.1 a.1)
