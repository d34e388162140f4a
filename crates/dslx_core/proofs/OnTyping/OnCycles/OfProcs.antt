-- Procs that reach themselves break a rule.
use Rattle.std.proofs.Common.{◌≡◌, ◌&&◌, ◌||◌, ◌++◌, ◌==◌, ℕ, zero, suc, length, Bool, true, false, not, if◌then◌else◌, List, [], ◌∷◌, map, Option, Some, None, refl, sym, ap, subst, ◌∙◌}
use mathlib.Core.Bool.{true≢false}
use Rattle.std.specs.Prelude.{flat_map, nat_lt}
use Rattle.std.specs.Str.{bytes_eq}
use Rattle.std.specs.List.{list_any}
use Rattle.xb_span.specs.declared.fault.Fault.{Fault}
use Rattle.dslx_tree.specs.declared.expr.Arg.{Arg}
use Rattle.dslx_tree.specs.declared.item.Definition.{Definition}
use Rattle.dslx_tree.specs.declared.item.Definition.TheVariants as d
use Rattle.dslx_tree.specs.declared.item.Module.{Module}
use Rattle.dslx_tree.specs.declared.process.ConfigStatement.{ConfigStatement}
use Rattle.dslx_tree.specs.declared.process.ConfigStatement.TheVariants as config_statement
use Rattle.dslx_tree.specs.declared.process.End.{End}
use Rattle.dslx_tree.specs.declared.process.Proc.{Proc}
use Rattle.dslx_tree.specs.declared.process.Spawn.{Spawn}
use Rattle.dslx_meaning.specs.Items.{item_named}
use Rattle.dslx_meaning.specs.Network.{as_proc}
use Rattle.dslx_meaning.specs.declared.value.DslxValue.{DslxValue}
use Rattle.dslx_meaning.specs.Rules.CallRules.{ParametricArgument, given_parametric_args, signature_seen, typing_there}
use Rattle.dslx_meaning.specs.Rules.ItemRules.{only_faults, parametrics_found}
use Rattle.dslx_meaning.specs.Rules.Mentions.{Use, AsProc, Mention, arg_if, config_statement_mentions, definition_mentions, ends_mentions, is_cyclic, is_of_use, item_reaches, mention, mentioned_in_arg, mentioned_in_block, mentioned_in_type, mentions_of, names_mentioned, parametric_names, parametrics_mentions, reaches_within}
use Rattle.dslx_meaning.specs.Rules.ModuleRules.{found_of_instance, found_of_item, globals_within}
use Rattle.dslx_meaning.specs.Rules.NodeRules.{arg_pair}
use Rattle.dslx_meaning.specs.Rules.ProcRules.{handed_faults, Made, behind_ends, channel_found, config_found, config_statements_found, ends_found, given_found, made_at_end, made_at_start, made_with, proc_parametric_args, proc_seen, proc_type_env, right_spawn, spawn_found, spawn_of, unknown_ends, use_faults}
use Rattle.dslx_meaning.specs.Rules.TypeEnvs.{GlobalEnv, Instance, TypeEnv, breaks, breaks_if, has_broken}
use Rattle.dslx_core.specs.Typing.TypingRelations.Cycles.{AllUsed}
use Rattle.dslx_core.proofs.Lemmas.Typing.Laws.Chains.{IsIn, or_cases, same_name}
use Rattle.dslx_core.proofs.Lemmas.Typing.Laws.Reaching.{any_elim}
use Rattle.dslx_core.proofs.OnTyping.OnCycles.OfItems.{not_all_pass, unless_whole, uses_freely}
use Rattle.dslx_core.proofs.OnTyping.OnCycles.Parts.{front, join, join_three}
use Rattle.dslx_core.proofs.OnTyping.OnDepends.NoProcs.{NoProcs, no_proc_in_arg, no_proc_in_block, no_proc_in_type, no_procs_join}
use Rattle.dslx_core.proofs.OnTyping.OnDepends.Stages.{and_both, definition_none, is_proc_item, no_proc_use, not_true, parametrics_none}
use Rattle.dslx_core.proofs.OnTyping.OnTyped.TypingRelations.{rule_holds, unbroken_parts}
use Rattle.dslx_core.proofs.OnTyping.OnTyping.OfItems.{cyclic_is, item_so_named, proc_is, whole_is}

-- ---- none but procs reach procs

-- what isn't mentioned as a proc is none
none_is_proc : (m : Module) (ms : List Mention) → NoProcs ms → (name : List ℕ) → IsIn name (names_mentioned m ms) → is_proc_item (item_named name m.items) ≡ false
none_is_proc m [] h name i = absurd (true≢false (sym i))
none_is_proc m (x ∷ ms) h name i = by_use (is_of_use x.use_as (item_named x.name m.items)) refl i (none_is_proc m ms h.1 name)
  where
    by_use : (b : Bool) → is_of_use x.use_as (item_named x.name m.items) ≡ b → IsIn name (if b then x.name ∷ names_mentioned m ms else names_mentioned m ms)
        → (IsIn name (names_mentioned m ms) → is_proc_item (item_named name m.items) ≡ false) → is_proc_item (item_named name m.items) ≡ false
    by_use true q g rest =
        or_cases (bytes_eq name x.name) (list_any (bytes_eq name) (names_mentioned m ms)) g
        (λ s. ap (λ z. is_proc_item (item_named z m.items)) (same_name name x.name s) ∙ not_true (is_proc_item (item_named x.name m.items)) (no_proc_use x.use_as h.0 (item_named x.name m.items) q)) rest
    by_use false q g rest = rest g

mentions_no_proc : (m : Module) (o : Option Definition) → is_proc_item o ≡ false → (name : List ℕ) → IsIn name (mentions_of m o) → is_proc_item (item_named name m.items) ≡ false
mentions_no_proc m None e name i = absurd (true≢false (sym i))
mentions_no_proc m (Some x) e name i = none_is_proc m (definition_mentions x) (definition_none x e) name i

pub reaches_no_proc : (m : Module) (n : ℕ) (a b : List ℕ) → is_proc_item (item_named a m.items) ≡ false → reaches_within m n a b ≡ true → is_proc_item (item_named b m.items) ≡ false
reaches_no_proc m zero a b e r = absurd (true≢false (sym r))
reaches_no_proc m (suc n) a b e r =
    any_elim (λ next. bytes_eq next b || reaches_within m n next b) (mentions_of m (item_named a m.items)) r (λ x i q.
    let plain = mentions_no_proc m (item_named a m.items) e x i in
    or_cases (bytes_eq x b) (reaches_within m n x b) q (λ s. subst (λ z. is_proc_item (item_named z m.items) ≡ false) (same_name x b s) plain) (λ s. reaches_no_proc m n x b plain s))

-- ---- a proc that breaks no rule

module _ (m : Module) (n : ℕ) (owner : List ℕ) (p : Proc) (named : item_named owner m.items ≡ Some (d.Proc p)) where
  abbrev known : GlobalEnv
  known = globals_within m n

  abbrev Q : Use → List ℕ → Bool
  Q = uses_freely m owner

  -- what is no proc doesn't reach this one
  not_cyclic : (name : List ℕ) → is_proc_item (item_named name m.items) ≡ false → is_cyclic m owner name ≡ false
  not_cyclic name e = by_test (is_cyclic m owner name) refl
    where
      never : is_proc_item (item_named owner m.items) ≡ false → is_cyclic m owner name ≡ false
      never q = absurd (true≢false (ap is_proc_item (sym named) ∙ q))

      by_test : (b : Bool) → is_cyclic m owner name ≡ b → is_cyclic m owner name ≡ false
      by_test false q = q
      by_test true q =
          never (or_cases (bytes_eq name owner) (item_reaches m name owner && item_reaches m owner name) q (λ s. subst (λ z. is_proc_item (item_named z m.items) ≡ false) (same_name name owner s) e)
          (λ s. reaches_no_proc m (length m.items) name owner e (and_both (item_reaches m name owner) (item_reaches m owner name) s).0))

  one_passes : (u : Use) (name : List ℕ) → (is_of_use u (item_named name m.items) ≡ true → not (is_proc_item (item_named name m.items)) ≡ true) → Q u name ≡ true
  one_passes u name h = by_use (is_of_use u (item_named name m.items)) refl
    where
      by_use : (b : Bool) → is_of_use u (item_named name m.items) ≡ b → not (b && is_cyclic m owner name) ≡ true
      by_use false q = refl
      by_use true q = ap not (not_cyclic name (not_true (is_proc_item (item_named name m.items)) (h q)))

  -- mentions that are none of procs pass
  all_pass : (ms : List Mention) → NoProcs ms → AllUsed Q ms
  all_pass [] h = tt
  all_pass (x ∷ ms) h = (one_passes x.use_as x.name (no_proc_use x.use_as h.0 (item_named x.name m.items)), all_pass ms h.1)

  ends_none : (es : List End) (bound : List (List ℕ)) → NoProcs (ends_mentions es bound)
  ends_none [] bound = tt
  ends_none (e ∷ es) bound = no_procs_join (mentioned_in_type e.word bound) (ends_mentions es bound) (no_proc_in_type e.word bound) (ends_none es bound)

  args_none : (as' : List Arg) (bound : List (List ℕ)) → NoProcs (flat_map (λ (a : Arg). mentioned_in_arg a bound) as')
  args_none [] bound = tt
  args_none (a ∷ as') bound = no_procs_join (mentioned_in_arg a bound) (flat_map (λ (x : Arg). mentioned_in_arg x bound) as') (no_proc_in_arg a bound) (args_none as' bound)

  arg_none : (o : Option Arg) (bound : List (List ℕ)) → NoProcs (arg_if o bound)
  arg_none None bound = tt
  arg_none (Some a) bound = no_proc_in_arg a bound

  -- ---- spawns

  spawn_passes : (context : TypeEnv) → context.known ≡ known → context.owner ≡ owner → (made : Made) (s : Spawn) → has_broken (spawn_found context made s).faults ≡ false → Q AsProc s.target.name ≡ true
  spawn_passes context same own made s h = by_proc (as_proc (item_named s.target.name context.known.whole.items)) refl of_target
    where
      gs : List ParametricArgument
      gs = given_parametric_args (behind_ends context made) (map arg_pair s.arguments)

      of_target : has_broken (spawn_of context made s gs (as_proc (item_named s.target.name context.known.whole.items))).faults ≡ false
      of_target =
          let spawned = (spawn_of context made s gs (as_proc (item_named s.target.name context.known.whole.items))).faults in
          (unbroken_parts (unknown_ends made.names s.ends) spawned (unbroken_parts (given_found gs).faults (unknown_ends made.names s.ends ++ spawned) h).1).1

      cyclic : Proc → List Fault
      cyclic q = breaks_if (context.known.is_cyclic context.owner q.name.name) 3 s.span

      free : (q : Proc) → item_named s.target.name m.items ≡ Some (d.Proc q) → has_broken (cyclic q) ≡ false → Q AsProc s.target.name ≡ true
      free q e g =
          let no = rule_holds (context.known.is_cyclic context.owner q.name.name) 3 s.span g in
          let there : is_cyclic m owner s.target.name ≡ false =
          (λ i. is_cyclic m owner (sym (item_so_named m.items s.target.name (d.Proc q) e) i)) ∙ sym (cyclic_is m n owner q.name.name) ∙ (λ i. (sym same i).is_cyclic (sym own i) q.name.name) ∙ no in
          by_use (is_of_use AsProc (item_named s.target.name m.items)) there
        where
          by_use : (b : Bool) → is_cyclic m owner s.target.name ≡ false → not (b && is_cyclic m owner s.target.name) ≡ true
          by_use true r = ap not r
          by_use false r = refl

      by_count : (q : Proc) → item_named s.target.name m.items ≡ Some (d.Proc q) → (b : Bool)
          → has_broken (if b then right_spawn context made s q (cyclic q) (proc_parametric_args context.known q gs) else only_faults (cyclic q ++ breaks 10 s.span ∷ [])).faults ≡ false → Q AsProc s.target.name ≡ true
      by_count q e false g = free q e (front (cyclic q) (breaks 10 s.span ∷ []) g)
      by_count q e true g =
          let seen = proc_parametric_args context.known q gs in
          let there = (typing_there (cyclic q) seen).faults in
          let wrong = breaks_if seen.is_wrong 10 s.span in
          let handed = if◌then◌else◌ {A = List Fault} seen.is_wrong [] (handed_faults made (signature_seen context.known q.name.name seen).arguments q.config.ends s.ends) in
          free q e (front (cyclic q) seen.faults (front (cyclic q ++ seen.faults) there (front ((cyclic q ++ seen.faults) ++ there) wrong (front (((cyclic q ++ seen.faults) ++ there) ++ wrong) handed g))))

      by_proc : (o : Option Proc) → as_proc (item_named s.target.name context.known.whole.items) ≡ o → has_broken (spawn_of context made s gs o).faults ≡ false → Q AsProc s.target.name ≡ true
      by_proc None e g = absurd (true≢false g)
      by_proc (Some q) e g =
          by_count q (proc_is (item_named s.target.name m.items) q ((λ i. as_proc (item_named s.target.name (sym (whole_is m n) i).items)) ∙ (λ i. as_proc (item_named s.target.name (sym same i).whole.items)) ∙ e))
          (length s.ends == length q.config.ends && not (nat_lt (length q.parametrics) (length gs))) g

  statements_pass : (context : TypeEnv) → context.known ≡ known → context.owner ≡ owner → (ms : List ConfigStatement) (made : Made) (bound : List (List ℕ)) → has_broken (config_statements_found context made ms).faults ≡ false
      → AllUsed Q (flat_map (λ (x : ConfigStatement). config_statement_mentions x bound) ms)
  statements_pass context same own [] made bound h = tt
  statements_pass context same own (config_statement.Channel c ∷ ms) made bound h =
      let rest = config_statements_found context (made_with context made c) ms in
      let r = unbroken_parts (channel_found context made c).faults rest.faults h in
      join Q (mentioned_in_type c.word bound ++ arg_if c.depth bound) (flat_map (λ (x : ConfigStatement). config_statement_mentions x bound) ms)
      (all_pass (mentioned_in_type c.word bound ++ arg_if c.depth bound) (no_procs_join (mentioned_in_type c.word bound) (arg_if c.depth bound) (no_proc_in_type c.word bound) (arg_none c.depth bound)))
      (statements_pass context same own ms (made_with context made c) bound r.1)
  statements_pass context same own (config_statement.Spawn s ∷ ms) made bound h =
      let rest = config_statements_found context made ms in
      let r = unbroken_parts (spawn_found context made s).faults rest.faults h in
      let args = flat_map (λ (a : Arg). mentioned_in_arg a bound) s.arguments in
      join Q (mention AsProc s.target.name ++ args) (flat_map (λ (x : ConfigStatement). config_statement_mentions x bound) ms) (spawn_passes context same own made s r.0, all_pass args (args_none s.arguments bound))
      (statements_pass context same own ms made bound r.1)

-- an instance of a proc that breaks no rule mentions none that reaches it
pub proc_passes : (m : Module) (n : ℕ) (p : Proc) (parametric_args : List DslxValue) → item_named p.name.name m.items ≡ Some (d.Proc p) → has_broken (proc_seen (globals_within m n) p parametric_args).faults ≡ false
    → AllUsed (uses_freely m p.name.name) (definition_mentions (d.Proc p))
proc_passes m n p parametric_args named h =
    let owner = p.name.name in
    let Q = uses_freely m owner in
    let known = globals_within m n in
    let context = proc_type_env known p parametric_args in
    let names = parametric_names p.parametrics in
    let start = made_at_start context p.config.ends in
    let outer = ends_found context [] p.config.ends in
    let statements = config_statements_found context start p.config.config_statements in
    let config = config_found context p in
    let none = all_pass m n owner p named in
    let a = unbroken_parts (parametrics_found known owner [] [] p.parametrics parametric_args).faults _ h in
    let b = unbroken_parts (ends_found context [] p.members).faults _ a.1 in
    let c = unbroken_parts config.faults _ b.1 in
    let e = unbroken_parts outer.faults (statements.faults ++ (only_faults (unknown_ends (made_at_end context start p.config.config_statements).names p.config.result ++ use_faults context p (made_at_end context start p.config.config_statements))).faults) c.0 in
    let f = unbroken_parts statements.faults _ e.1 in
    let one = parametrics_mentions p.parametrics [] in
    let two = ends_mentions p.members names in
    let three = ends_mentions p.config.ends names in
    let four = flat_map (λ (x : ConfigStatement). config_statement_mentions x names) p.config.config_statements in
    let five = mentioned_in_block p.init names in
    let six = mentioned_in_type p.next.ty names in
    let seven = mentioned_in_block p.next.body (p.next.state.name ∷ names) in
    join Q (((((one ++ two) ++ three) ++ four) ++ five) ++ six) seven
    (join Q ((((one ++ two) ++ three) ++ four) ++ five) six
    (join Q (((one ++ two) ++ three) ++ four) five
    (join Q ((one ++ two) ++ three) four
    (join_three Q one two three (none one (parametrics_none p.parametrics [])) (none two (ends_none m n owner p named p.members names)) (none three (ends_none m n owner p named p.config.ends names)))
    (statements_pass m n owner p named context refl refl p.config.config_statements start names f.0))
    (none five (no_proc_in_block p.init names)))
    (none six (no_proc_in_type p.next.ty names)))
    (none seven (no_proc_in_block p.next.body (p.next.state.name ∷ names)))

-- an instance of a proc that reaches itself breaks a rule
pub proc_broken : (m : Module) (n : ℕ) (i : Instance) (p : Proc) → item_named i.name m.items ≡ Some (d.Proc p) → item_reaches m i.name i.name ≡ true → has_broken (found_of_instance (globals_within m n) i).faults ≡ true
proc_broken m n i p e loops =
    let same = item_so_named m.items i.name (d.Proc p) e in
    let own = subst (λ z. item_named z m.items ≡ Some (d.Proc p)) (sym same) e in
    let own_loop = subst (λ z. item_reaches m z z ≡ true) (sym same) loops in
    (λ j. has_broken (found_of_item (globals_within m n) i.parametric_args (item_named i.name (whole_is m n j).items)).faults)
    ∙ (λ j. has_broken (found_of_item (globals_within m n) i.parametric_args (e j)).faults)
    ∙ unless_whole (proc_seen (globals_within m n) p i.parametric_args).faults (λ h. not_all_pass m p.name.name (d.Proc p) own own_loop (proc_passes m n p i.parametric_args own h))
