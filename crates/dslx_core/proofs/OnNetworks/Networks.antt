-- What is made of a text's instances has its network.
use Rattle.std.proofs.Common.{◌≡◌, ◌++◌, ℕ, zero, suc, true, List, [], ◌∷◌, map, length, Option, Some, refl, sym, ap, subst, ◌∙◌, arith}
use mathlib.Core.Bool.{true≢false}
use Rattle.std.specs.List.{list_all}
use Rattle.std.proofs.lemmas.List.{length-map}
use Rattle.dslx_tree.specs.declared.item.Module.{Module}
use Rattle.dslx_tree.specs.declared.process.End.{End}
use Rattle.dslx_tree.specs.declared.process.Proc.{Proc}
use Rattle.dslx_meaning.specs.Activation.{site_names, state_of}
use Rattle.dslx_meaning.specs.Environment.{Meanings}
use Rattle.dslx_meaning.specs.Items.{item_named, meanings_of, meanings_over, parametric_args_bound}
use Rattle.dslx_meaning.specs.Network.{Elaborated, as_proc, chans_of_top, family_of, handed_over, head_at, kind_of_end, net_if, network_of, outer_chan, outer_ends, elaborate_within, plain_or_unit, top_parametric_args}
use Rattle.dslx_meaning.specs.Types.{plain_type}
use Rattle.dslx_meaning.specs.Rules.Mentions.{AsProc, mentions_of}
use Rattle.dslx_core.specs.Typing.Laws.Recursion.{HasNoCycle}
use Rattle.dslx_core.specs.Typing.TypingRelations.Closed.{ends_within}
use Rattle.dslx_core.proofs.Lemmas.Typing.Laws.{and_true}
use Rattle.dslx_core.proofs.Lemmas.Typing.Laws.Chains.{Ends, OfEach, item_ends}
use Rattle.dslx_core.proofs.Lemmas.Typing.TypingRelations.{ends_so}
use Rattle.dslx_core.proofs.Lemmas.Typing.Typed.{all_there, list_parts, none_some, same_some}
use Rattle.dslx_core.specs.Designs.{CoreElaborated, chan_of_outer, core_chans, core_family, core_head, core_network, last_index, no_function, numbers_from, sites_of_steps}
use Rattle.dslx_core.specs.declared.design.Design.{Design}
use Rattle.dslx_core.specs.declared.design.Instance.{Instance}
use Rattle.dslx_core.specs.declared.design.Outer.{Outer}
use Rattle.dslx_core.specs.Lowering.CoreScopes.{CoreScope}
use Rattle.dslx_core.specs.Lowering.Correspondence.{SimulatesInScope, env_at}
use Rattle.dslx_core.specs.Lowering.Functions.{CoreInstance, Instantiated, core_function, instances_from, parametric_args_are_well_typed}
use Rattle.dslx_core.specs.Lowering.Instances.{CallsSettle, ItemsAreOwn}
use Rattle.dslx_core.specs.Lowering.Steps.{proc_globals}
use Rattle.dslx_core.specs.Lowering.Trees.{lower_type_of_text}
use Rattle.dslx_core.proofs.Lemmas.Lowering.{calls_settle, from_then, state_of_instances, type_of_text_means}
use Rattle.dslx_core.specs.Networks.Configs.{ProcInstance, config_scope}
use Rattle.dslx_core.specs.Networks.Assembly.{DesignEnds, IsDesignFrom, instances_alone, lower_outer}
use Rattle.dslx_core.proofs.OnNetworks.Families.{AllSimulate, FamilySimulates, CoreSimulates}
use Rattle.dslx_core.proofs.OnNetworks.Sites.{site_in, sites_alike}
use Rattle.dslx_core.proofs.OnNetworks.Tables.{LowersTo, config_simulates, each_lowers_to, parametric_args_of_next, proc_of_use, table_simulates}

-- ---- heads

pub head_alike : (m : Module) (items : Meanings) → ItemsAreOwn items → (is : List Instantiated) (functions : List CoreInstance) → CallsSettle m items is → instances_from m items [] is ≡ Some functions
    → (a : Elaborated) (c : CoreElaborated) → CoreSimulates (LowersTo m items functions) a c → core_head c ≡ head_at items a
head_alike m items own is functions settled each a c h =
    let b = h.instance in
    let state = ap (λ (i : Instance). i.state) (sym b.is) ∙ sym (ap plain_or_unit (state_of_instances m items own is functions settled each a.proc a.parametric_args b.next b.lowered)) in
    let opening = ap (λ (i : Instance). i.opening) (sym b.is) ∙ sym (ap state_of b.opens) in
    let sites = ap (λ (i : Instance). sites_of_steps c.channels i.steps) (sym b.is) ∙ sites_alike (proc_globals m items functions a.proc a.parametric_args) a.proc b.next b.lowered c.channels
    ∙ ap (λ cs. map (site_in a.proc.members cs) (site_names a.proc)) h.channels in
    λ j. record { path = h.path j; state = state j; init = opening j; sites = sites j }

heads_alike : (m : Module) (items : Meanings) → ItemsAreOwn items → (is : List Instantiated) (functions : List CoreInstance) → CallsSettle m items is → instances_from m items [] is ≡ Some functions
    → (as' : List Elaborated) (cs : List CoreElaborated) → AllSimulate (LowersTo m items functions) as' cs → map core_head cs ≡ map (head_at items) as'
heads_alike m items own is functions settled each [] [] h = refl
heads_alike m items own is functions settled each [] (c ∷ cs) h = absurd h
heads_alike m items own is functions settled each (a ∷ as') [] h = absurd h
heads_alike m items own is functions settled each (a ∷ as') (c ∷ cs) h = λ i. head_alike m items own is functions settled each a c h.0 i ∷ heads_alike m items own is functions settled each as' cs h.1 i

-- ---- outer channels

outer_alike : (scope : CoreScope) → SimulatesInScope scope no_function scope.known.parametric_args [] → (e : End) (o : Outer) → lower_outer scope e ≡ Some o → chan_of_outer o ≡ outer_chan (env_at scope scope.known.parametric_args) e
outer_alike scope h e o k =
    let t = from_then (lower_type_of_text e.word scope) (λ t. Some (record { name = e.name.name; ty = plain_type t; kind = kind_of_end e.direction })) o k in
    let word = type_of_text_means e.word scope no_function scope.known.parametric_args [] h t.0 t.1 in
    sym (ap chan_of_outer (same_some (record { name = e.name.name; ty = plain_type t.0; kind = kind_of_end e.direction }) o t.2))
    ∙ λ i. record { name = e.name.name; ty = plain_or_unit (sym word i); kind = kind_of_end e.direction; depth = 1 }

none_as_long : (n : ℕ) → 0 ≡ suc n → ⊥
none_as_long n e = omega (arith, e)

outers_each : (scope : CoreScope) → SimulatesInScope scope no_function scope.known.parametric_args [] → (es : List End) (os : List Outer) → map (lower_outer scope) es ≡ map Some os
    → map chan_of_outer os ≡ map (outer_chan (env_at scope scope.known.parametric_args)) es
outers_each scope h [] [] k = refl
outers_each scope h [] (o ∷ os) k = absurd (none_as_long (length (map Some os)) (ap length k))
outers_each scope h (e ∷ es) [] k = absurd (none_as_long (length (map (lower_outer scope) es)) (sym (ap length k)))
outers_each scope h (e ∷ es) (o ∷ os) k =
    let q = list_parts (lower_outer scope e) (Some o) (map (lower_outer scope) es) (map Some os) k in
    λ i. outer_alike scope h e o q.0 i ∷ outers_each scope h es os q.1 i

-- the top's ends have the first numbers
parametric_args_handed : (n : ℕ) (es : List End) (os : List Outer) → length os ≡ length es → outer_ends n es ≡ handed_over es (numbers_from n os)
parametric_args_handed n [] [] e = refl
parametric_args_handed n [] (o ∷ os) e = refl
parametric_args_handed n (x ∷ es) [] e = absurd (none_as_long (length es) e)
parametric_args_handed n (x ∷ es) (o ∷ os) e = let q : length os ≡ length es = omega (arith, e) in λ i. record { name = x.name.name; channel = n } ∷ parametric_args_handed (suc n) es os q i

as_many_parametric_args : (n : ℕ) (os : List Outer) → length (numbers_from n os) ≡ length os
as_many_parametric_args n [] = refl
as_many_parametric_args n (o ∷ os) = ap suc (as_many_parametric_args (suc n) os)

-- ---- chains

each_holds : (m : Module) (k : ℕ) → ((name : List ℕ) → ends_within m k name ≡ true → Ends m k name) → (names : List (List ℕ)) → list_all (ends_within m k) names ≡ true → OfEach (Ends m k) names
each_holds m k f [] h = tt
each_holds m k f (n ∷ ns) h = let q = and_true (ends_within m k n) (list_all (ends_within m k) ns) h in (f n q.0, each_holds m k f ns q.1)

ends_hold : (m : Module) (k : ℕ) (name : List ℕ) → ends_within m k name ≡ true → Ends m k name
ends_hold m zero name h = absurd (true≢false (sym h))
ends_hold m (suc k) name h = each_holds m k (ends_hold m k) (mentions_of m (item_named name m.items)) h

-- where no item reaches itself, all chains end
pub design_ends : (m : Module) (top : Option (List ℕ)) (design : Design) → HasNoCycle m → meanings_over m (meanings_of m) ≡ meanings_of m → (h : IsDesignFrom m top design) → DesignEnds m top design h
design_ends m top design free settled h =
    let name = h.proc.name.name in
    record {
      proc = ends_so m (length m.items) name (item_ends m free name AsProc (proc_of_use (item_named name m.items) h.proc h.is_item));
      functions = calls_settle m (meanings_of m) settled h.named_functions;
    }

-- ---- the network

-- what is made of instances
abbrev made_design : Proc → List Outer → List CoreInstance → List ProcInstance → Design
made_design p outer functions procs = record { name = p.name.name; outer = outer; functions = map core_function functions; procs = instances_alone procs }

module _ (m : Module) (top : Option (List ℕ)) (design : Design) (own : ItemsAreOwn (meanings_of m)) (h : IsDesignFrom m top design) (ends : DesignEnds m top design h) where
  abbrev top_scope : CoreScope
  top_scope = config_scope (meanings_of m) h.proc (top_parametric_args (meanings_of m) h.proc)

  abbrev pub design_made : Design
  design_made = made_design h.proc h.outer h.functions h.procs

  outer_each : map (lower_outer top_scope) h.proc.config.ends ≡ map Some h.outer
  outer_each = all_there (map (lower_outer top_scope) h.proc.config.ends) h.outer h.outers

  as_many_outer : length h.outer ≡ length h.proc.config.ends
  as_many_outer = sym (length-map h.outer Some) ∙ sym (ap length outer_each) ∙ length-map h.proc.config.ends (lower_outer top_scope)

  last_is_top : as_proc (item_named h.last.name m.items) ≡ Some h.proc
  last_is_top = ap (λ n. as_proc (item_named n m.items)) h.of_name ∙ h.is_item

  -- the families of the two tops
  pub family_simulates : FamilySimulates (LowersTo m (meanings_of m) h.functions) (family_of m h.proc) (core_family design_made)
  family_simulates =
      let stands = table_simulates m (meanings_of m) own h.functions h.named_procs h.procs h.each_proc (length m.items) (last_index (instances_alone h.procs)) h.last h.is_last
      (ends_hold m (length m.items) h.last.name ((λ t. ends_within m (length m.items) (h.of_name t)) ∙ ends.proc)) h.proc last_is_top h.proc.name.name (numbers_from 0 h.outer) (length h.outer) (as_many_parametric_args 0 h.outer ∙ as_many_outer) in
      subst (λ a. FamilySimulates (LowersTo m (meanings_of m) h.functions) a (core_family design_made))
      (λ i. elaborate_within m (meanings_of m) (length m.items) h.proc.name.name h.proc (h.of_parametric_args i) (sym (parametric_args_handed 0 h.proc.config.ends h.outer as_many_outer) i) (as_many_outer i)) stands

  top_simulates : SimulatesInScope top_scope no_function top_scope.known.parametric_args []
  top_simulates =
      let b = each_lowers_to m (meanings_of m) h.functions h.named_procs [] (λ j x none q is. none_some x none) h.procs h.each_proc (last_index (instances_alone h.procs)) h.last h.is_last h.proc last_is_top in
      config_simulates (meanings_of m) own h.proc (top_parametric_args (meanings_of m) h.proc)
      (subst (λ ns. parametric_args_are_well_typed (meanings_of m) (parametric_args_bound [] h.proc.parametrics ns) ≡ true) h.of_parametric_args (parametric_args_of_next m (meanings_of m) h.functions h.proc h.last.parametric_args b.next b.lowered))

  -- all channels
  pub chans_alike : core_chans design_made ≡ chans_of_top m h.proc
  chans_alike = λ i. outers_each top_scope top_simulates h.proc.config.ends h.outer outer_each i ++ family_simulates.chans i

  pub networks_alike : core_network design ≡ network_of m top
  networks_alike =
      ap core_network h.design_is
      ∙ (λ i. record {
        name = h.proc.name.name;
        procs = heads_alike m (meanings_of m) own h.named_functions h.functions ends.functions h.each_function (family_of m h.proc).procs (core_family design_made).procs family_simulates.procs i;
        chans = chans_alike i;
      })
      ∙ sym (ap (net_if m) h.is_top)
