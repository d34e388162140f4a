-- Instances of procs of a text without faults: nothing is wrong with what they do outside their `config`.
use Rattle.std.proofs.Common.{◌≡◌, ◌&&◌, ◌++◌, ℕ, Bool, true, false, List, [], ◌∷◌, map, Option, sym, ap, subst, ◌∙◌}
use Rattle.std.specs.List.{list_all}
use Rattle.xb_span.specs.declared.fault.Fault.{Fault}
use Rattle.xb_span.specs.declared.limit.What.TheVariants as what
use Rattle.dslx_tree.specs.declared.block.Block.{out-Block}
use Rattle.dslx_tree.specs.declared.item.Module.{Module}
use Rattle.dslx_tree.specs.declared.process.Proc.{Proc}
use Rattle.dslx_meaning.specs.Items.{item_named}
use Rattle.dslx_meaning.specs.declared.value.DslxValue.{DslxValue}
use Rattle.dslx_meaning.specs.Rules.ItemRules.{Found, body_typing, typing_of_type, parametrics_found}
use Rattle.dslx_meaning.specs.Rules.TypeEnvs.{Instance, Judgement, GlobalEnv, TypeEnv, passes_count}
use Rattle.dslx_meaning.specs.Rules.Mentions.{ends_mentions, mentioned_in_block, mentioned_in_type, parametric_names, parametrics_mentions}
use Rattle.dslx_meaning.specs.Rules.ModuleRules.{found_of_instance, found_of_item, is_reached}
use Rattle.dslx_meaning.specs.Rules.NameRules.{local_name}
use Rattle.dslx_meaning.specs.Rules.ProcRules.{config_found, count_sites, ends_found, channel_end_of, proc_seen, proc_type_env}
use Rattle.dslx_core.proofs.Lemmas.Typing.Laws.{and_true}
use Rattle.dslx_core.specs.Typing.TypingRelations.Closed.{IsOneOf}
use Rattle.dslx_core.specs.Typing.TypingRelations.Reached.{AllNamed}
use Rattle.dslx_core.proofs.Lemmas.Typing.TypingRelations.{block_of_text_reaches, found_ends, found_parametrics, join, written_type_reaches}
use Rattle.dslx_core.proofs.Lemmas.Typing.Sound.{all_in, none_in}
use Rattle.dslx_core.proofs.Lemmas.Typing.Depends.{no_proc_in_block, no_proc_in_type, parametrics_none}
use Rattle.dslx_core.specs.Typing.Complete.HasValue.{IsWellTypedFound}
use Rattle.dslx_core.specs.Typing.Complete.Acts.{acts_found}
use Rattle.dslx_core.proofs.Lemmas.Typing.Accepted.{IsAccepted, all_empty, instance_faults}
use Rattle.dslx_total.proofs.OnFamilies.Knows.{Knows, all_sound}
use Rattle.dslx_total.proofs.OnFamilies.Reached.{IsProcOf, K, Listed, Passing, all, all_listed, ends_none}

-- two lists that pass a test pass it in one
both_pass : (f : Instance → Bool) (xs ys : List Instance) → list_all f xs ≡ true → list_all f ys ≡ true → list_all f (xs ++ ys) ≡ true
both_pass f [] ys a b = b
both_pass f (x ∷ xs) ys a b = let q = and_true (f x) (list_all f xs) a in λ i. q.0 i && both_pass f xs ys q.1 b i

module _ (m : Module) (top : Option (List ℕ)) (s : IsAccepted m top) where
  -- the proc is found by its name, and its instance is checked
  pub record IsChecked (p : Proc) (parametric_args : List DslxValue) : Type 0 where
    pub named : IsProcOf m p
    pub among : IsOneOf (record { name = p.name.name; parametric_args = parametric_args }) (all m top s)

module _ (m : Module) (top : Option (List ℕ)) (s : IsAccepted m top) (known : GlobalEnv) where
  -- what it breaks and reaches, by parts
  pub record PartsWellTyped (p : Proc) (parametric_args : List DslxValue) : Type 0 where
    pub members : (ends_found (proc_type_env known p parametric_args) [] p.members).faults ≡ []
    pub config : (config_found (proc_type_env known p parametric_args) p).faults ≡ []
    pub listed : Listed m top s (config_found (proc_type_env known p parametric_args) p).reached
    pub passing : AllNamed (Passing m top s) (acts_found known p parametric_args).reached
    pub checked : Listed m top s (acts_found known p parametric_args).reached
    pub acts : IsWellTypedFound known (acts_found known p parametric_args)

module _ (m : Module) (top : Option (List ℕ)) (s : IsAccepted m top) (known : GlobalEnv) (knows : Knows m top s known) where
  pub seen_there : (p : Proc) (parametric_args : List DslxValue) → IsProcOf m p → found_of_instance known (record { name = p.name.name; parametric_args = parametric_args }) ≡ proc_seen known p parametric_args
  seen_there p parametric_args e = ap (found_of_item known parametric_args) ((λ i. item_named p.name.name (knows.text i).items) ∙ e)

  -- as the text's own global environment has it
  own_seen : (p : Proc) (parametric_args : List DslxValue) → IsChecked m top s p parametric_args → found_of_instance (K m top s) (record { name = p.name.name; parametric_args = parametric_args }) ≡ proc_seen known p parametric_args
  own_seen p parametric_args h = sym (knows.found (record { name = p.name.name; parametric_args = parametric_args }) h.among) ∙ seen_there p parametric_args h.named

  pub no_faults : (p : Proc) (parametric_args : List DslxValue) → IsChecked m top s p parametric_args → (proc_seen known p parametric_args).faults ≡ []
  no_faults p parametric_args h =
      ap (λ (x : Found). x.faults) (sym (own_seen p parametric_args h)) ∙ instance_faults (K m top s) (record { name = p.name.name; parametric_args = parametric_args }) (all m top s) h.among (all_empty m top s).1

  pub all_checked : (p : Proc) (parametric_args : List DslxValue) → IsChecked m top s p parametric_args → Listed m top s (proc_seen known p parametric_args).reached
  all_checked p parametric_args h =
      let i : Instance = record { name = p.name.name; parametric_args = parametric_args } in
      subst (λ (x : Found). Listed m top s x.reached) (own_seen p parametric_args h) (all_listed m top s (found_of_instance (K m top s) i).reached (λ j one. s.among i j h.among one))

  pub parts_well_typed : (p : Proc) (parametric_args : List DslxValue) → IsChecked m top s p parametric_args → PartsWellTyped m top s known p parametric_args
  parts_well_typed p parametric_args h = record {
    members = b.0;
    config = c.0;
    listed = z.0;
    passing = named;
    checked = acted;
    acts = record { faults = λ i. (a.0 i) ++ ((b.0 i) ++ ((e.0 i) ++ ((f.0 i) ++ ((g.0 i) ++ f.1 i)))); reached = all_sound m top s known knows acts.reached named acted };
  }
    where
      test : Instance → Bool
      test i = is_reached i (all m top s)

      context : TypeEnv
      context = proc_type_env known p parametric_args

      inside : TypeEnv
      inside = record context { members = map (channel_end_of context) p.members }

      state : Judgement
      state = typing_of_type context p.next.ty

      last : TypeEnv
      last = record inside { locals = record { name = p.next.state.name; ty = state.ty } ∷ [] }

      init : Judgement
      init = body_typing false inside state.ty p.init

      next : Judgement
      next = body_typing true last state.ty p.next.body

      parametrics : Found
      parametrics = parametrics_found known p.name.name [] [] p.parametrics parametric_args

      members : Found
      members = ends_found context [] p.members

      config : Found
      config = config_found context p

      acts : Found
      acts = acts_found known p parametric_args

      name : List Fault
      name = local_name context [] p.next.state

      ended : List Fault
      ended = next.faults ++ passes_count what.Sites 32 p.span.to (count_sites (out-Block p.next.body).statements)

      -- what stands behind the `config`
      rest : Found
      rest = record {
        faults = state.faults ++ (init.faults ++ (name ++ ended));
        reached = state.reached ++ (init.reached ++ (next.reached ++ []));
      }

      a : (parametrics.faults ≡ []) × ((members.faults ++ (config.faults ++ rest.faults)) ≡ [])
      a = none_in parametrics.faults (members.faults ++ (config.faults ++ rest.faults)) (no_faults p parametric_args h)

      b : (members.faults ≡ []) × ((config.faults ++ rest.faults) ≡ [])
      b = none_in members.faults (config.faults ++ rest.faults) a.1

      c : (config.faults ≡ []) × (rest.faults ≡ [])
      c = none_in config.faults rest.faults b.1

      g : (state.faults ≡ []) × ((init.faults ++ (name ++ ended)) ≡ [])
      g = none_in state.faults (init.faults ++ (name ++ ended)) c.1

      e : (init.faults ≡ []) × ((name ++ ended) ≡ [])
      e = none_in init.faults (name ++ ended) g.1

      f : (name ≡ []) × (ended ≡ [])
      f = none_in name ended e.1

      x : (list_all test parametrics.reached ≡ true) × (list_all test (members.reached ++ (config.reached ++ rest.reached)) ≡ true)
      x = all_in test parametrics.reached (members.reached ++ (config.reached ++ rest.reached)) (all_checked p parametric_args h)

      y : (list_all test members.reached ≡ true) × (list_all test (config.reached ++ rest.reached) ≡ true)
      y = all_in test members.reached (config.reached ++ rest.reached) x.1

      z : (list_all test config.reached ≡ true) × (list_all test rest.reached ≡ true)
      z = all_in test config.reached rest.reached y.1

      acted : Listed m top s acts.reached
      acted =
          let v = all_in test state.reached (init.reached ++ (next.reached ++ [])) z.1 in
          let w = all_in test init.reached (next.reached ++ []) v.1 in
          let later = state.reached ++ (next.reached ++ []) in
          both_pass test parametrics.reached (members.reached ++ (init.reached ++ later)) x.0
          (both_pass test members.reached (init.reached ++ later) y.0 (both_pass test init.reached later w.0 (both_pass test state.reached (next.reached ++ []) v.0 w.1)))

      named : AllNamed (Passing m top s) acts.reached
      named =
          let P = Passing m top s in
          let parametric_args_bound = parametric_names p.parametrics in
          let later = p.next.state.name ∷ parametric_args_bound in
          join P parametrics.reached (members.reached ++ (init.reached ++ (state.reached ++ (next.reached ++ []))))
          (found_parametrics P known p.name.name [] [] p.parametrics parametric_args [] (knows.reaching p.name.name (parametrics_mentions p.parametrics []) (parametrics_none p.parametrics [])))
          (join P members.reached (init.reached ++ (state.reached ++ (next.reached ++ [])))
          (found_ends P context [] p.members parametric_args_bound (knows.reaching p.name.name (ends_mentions p.members parametric_args_bound) (ends_none p.members parametric_args_bound)))
          (join P init.reached (state.reached ++ (next.reached ++ []))
          (block_of_text_reaches P p.init parametric_args_bound false inside (knows.reaching p.name.name (mentioned_in_block p.init parametric_args_bound) (no_proc_in_block p.init parametric_args_bound)))
          (join P state.reached (next.reached ++ [])
          (written_type_reaches P p.next.ty parametric_args_bound context (knows.reaching p.name.name (mentioned_in_type p.next.ty parametric_args_bound) (no_proc_in_type p.next.ty parametric_args_bound)))
          (join P next.reached []
          (block_of_text_reaches P p.next.body later true last (knows.reaching p.name.name (mentioned_in_block p.next.body later) (no_proc_in_block p.next.body later)))
          tt))))
