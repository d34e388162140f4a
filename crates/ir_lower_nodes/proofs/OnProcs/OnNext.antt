-- The nodes of an instance's activation.
use Rattle.std.proofs.Common.{◌≡◌, ℕ, List, [], ◌∷◌, ◌++◌, map, length, refl, sym, ap, subst, ◌∙◌}
use Rattle.std.proofs.lemmas.List.{append-nil, append_assoc}
use Rattle.xb_value.specs.declared.value.Value.{Value}
use Rattle.xb_value.specs.Typing.{IsOfType}
use Rattle.ir_tree.specs.declared.node.Operand.{Operand}
use Rattle.ir_tree.specs.declared.node.Operand.TheVariants as operand
use Rattle.ir_tree.specs.Types.{ty_of}
use Rattle.ir_tree.specs.Constants.{no_value}
use Rattle.ir_tree.specs.NodeValues.{operand_value}
use Rattle.ir_tree.specs.Activations.{sites_of}
use Rattle.ir_tree.proofs.Lemmas.Rules.Typed.Scopes.{token_value}
use Rattle.ir_rebuild.specs.Built.{AreBuilt, AreValues, numbered}
use Rattle.ir_rebuild.specs.declared.putting.nodes.Nodes.{Nodes}
use Rattle.ir_rebuild.specs.Putting.Types.{ir_type_of}
use Rattle.ir_rebuild.specs.Putting.Given.{IsNodeType, HasType, PutsNode}
use Rattle.ir_rebuild.proofs.Lemmas.Putting.Types.{type_back}
use Rattle.dslx_core.specs.CoreValues.{core_value}
use Rattle.dslx_core.specs.Designs.{Behind, core_activation, sites_of_steps}
use Rattle.dslx_core.specs.declared.design.Function.{Function}
use Rattle.dslx_core.specs.declared.design.Instance.{Instance}
use Rattle.dslx_core.proofs.Lemmas.Types.{IsThen, then_is}
use Rattle.ir_lower_nodes.specs.Words.Given.{LoweredTo}
use Rattle.ir_lower_nodes.specs.Exprs.NodeTypes.{node_type}
use Rattle.ir_lower_nodes.specs.Exprs.Calls.{calls_below, types_below}
use Rattle.ir_lower_nodes.specs.Exprs.Lowered.{bound_by, Lowers}
use Rattle.ir_lower_nodes.specs.Acts.Activities.{ByWords, nodes_then, word_width, DoAlike, Ends}
use Rattle.ir_lower_nodes.specs.Steps.StepTypes.{steps_node_bind}
use Rattle.ir_lower_nodes.specs.Steps.Steps.{AddsNodes, DoLowered, StepsLower}
use Rattle.ir_lower_nodes.proofs.Lemmas.Steps.{PlainRun, bound_kept, grown_run, plain_sites, site_has, site_put, token_type, values_more}
use Rattle.ir_lower_nodes.specs.Procs.Instances.{start_node, proc_of, ActivationLowers}
use Rattle.ir_lower_nodes.specs.Acts.InstanceActivities.{ended_by, state_then, steps_then}
use Rattle.ir_lower_nodes.proofs.Lemmas.Acts.{alike_as, alike_same, nodes_append, sites_append, steps_end}

-- ---- an instance

module _ (fs : List Function) (channels : List ℕ) (i : Instance) (n0 n1 n2 n3 : Nodes) (start last o : Operand) (after : List Operand) where
  pub next_lowers : PutsNode n0 n1 start_node start → StepsLower fs channels i.steps (operand.State ∷ []) after n1 n2 start last → Lowers fs i.next after n2 n3 o → n0.list.items ≡ [] → n0.state ≡ ir_type_of i.state → ActivationLowers fs channels i n3 o
  next_lowers put steps next none state signatures n given ir words carry within types = record {
    built = two.grows.built;
    has = two.has;
    same = λ width widths name init. alike_same (calls_below n fs) width channels i ir (proc_of name init n3 o) (sym (ap ty_of (two.grows.state ∙ (one.adds.state ∙ (put.state ∙ state))) ∙ type_back i.state within)) (sym sites) widths alike;
  }
    where
      found : IsThen (steps_node_bind (types_below n signatures) words i.steps (i.state ∷ [])) (node_type i.next (types_below n signatures)) i.state
      found = then_is (steps_node_bind (types_below n signatures) words i.steps (i.state ∷ [])) (node_type i.next (types_below n signatures)) i.state types

      empty : AreBuilt n0.state n0.list.items
      empty = subst (AreBuilt n0.state) (sym none) (record {
        sound = (subst IsNodeType (sym state) within).sound;
        numbered = λ j m e. absurd (cc);
        types = λ j m e. absurd (cc);
        before = λ j m e. absurd (cc);
        fits_at = λ j m e plain. absurd (cc);
      })

      begins : AddsNodes n0 n1
      begins = site_put n0 n1 start_node start empty put refl token_type.sound refl

      state_there : HasType n1 operand.State (ir_type_of i.state)
      state_there = record { there = refl; ty = put.state ∙ state; within = within }

      one : DoLowered ir (sites_of_steps channels i.steps) (steps_then (calls_below n fs) i.steps) (operand.State ∷ []) after n1 n2 last found.first
      one = steps signatures n given ir words carry (i.state ∷ []) found.first begins.built (state_there, tt) (site_has n0 n1 start_node start put token_type) found.is

      two : LoweredTo n2 n3 o i.state (λ s values. core_value i.next (calls_below n fs) (bound_by after s values))
      two = next signatures n given found.first i.state one.adds.built one.have found.gives

      listed : n3.list.items ≡ numbered 0 start_node ∷ (one.adds.more ++ two.grows.extends.more)
      listed =
          two.grows.extends.are
          ∙ (ap (λ ns. ns ++ two.grows.extends.more) (one.adds.are ∙ ap (λ ns. ns ++ one.adds.more) (put.list ∙ ap (λ ns. ns ++ numbered (length ns) start_node ∷ []) none))
          ∙ append_assoc (numbered 0 start_node ∷ []) one.adds.more two.grows.extends.more)

      sites : sites_of n3.list.items ≡ sites_of_steps channels i.steps
      sites =
          ap sites_of listed
          ∙ (sites_append one.adds.more two.grows.extends.more
          ∙ (ap (λ xs. sites_of one.adds.more ++ xs) (plain_sites two.grows.extends.more two.grows.extends.plain) ∙ (append-nil (sites_of one.adds.more) ∙ one.listed)))

      first_values : (s : Value) → IsOfType i.state s → AreValues n1.state n1.list.items s (no_value ∷ [])
      first_values s typed =
          subst (λ t. AreValues t n1.list.items s (no_value ∷ [])) (sym put.state)
          (subst (λ ns. AreValues n0.state ns s (no_value ∷ [])) (sym put.list)
          (values_more n0.state n0.list.items (numbered (length n0.list.items) start_node) s [] no_value opened (sym (ap length none)) built_one token_value.value (λ plain. absurd (cc))))
        where
          opened : AreValues n0.state n0.list.items s []
          opened = subst (λ ns. AreValues n0.state ns s []) (sym none) (record {
            opened = subst (λ t. IsOfType t s) (sym (ap ty_of state ∙ type_back i.state within)) typed;
            typed = λ j m e. absurd (cc);
            plain = λ j m e plain. absurd (cc);
          })

          built_one : AreBuilt n0.state (n0.list.items ++ numbered (length n0.list.items) start_node ∷ [])
          built_one = subst (AreBuilt n0.state) put.list (subst (λ t. AreBuilt t n1.list.items) put.state begins.built)

      first_count : length (no_value ∷ []) ≡ length n1.list.items
      first_count = sym (ap length (put.list ∙ ap (λ ns. ns ++ numbered (length ns) start_node ∷ []) none))

      behind : (s : Value) (all : List Value) → AreValues n2.state n2.list.items s all → length all ≡ length n2.list.items → DoAlike (word_width ir) [] (state_then (calls_below n fs) i.next (bound_by after s all)) (nodes_then ir s two.grows.extends.more (ended_by o s) all)
      behind s all v count =
          Ends (state_then (calls_below n fs) i.next (bound_by after s all)) (nodes_then ir s two.grows.extends.more (ended_by o s) all) (operand_value s (all ++ run.added) o)
          (λ words. ap (λ l. record { turns = []; last = l }) (ap (core_value i.next (calls_below n fs)) (sym (bound_kept n2 after (map ir_type_of found.first) s all run.added one.have count)) ∙ two.value s (all ++ run.added) run.are))
          (λ words. run.gives (ended_by o s) words)
        where
          run : PlainRun ir n3.state n3.list.items s two.grows.extends.more all
          run = grown_run ir n2 n3 two.grows s all v count

      alike : (s : Value) → IsOfType i.state s → DoAlike (word_width ir) (sites_of_steps channels i.steps) (core_activation (calls_below n fs) i s) (nodes_then ir s n3.list.items (ended_by o s) [])
      alike s typed =
          subst (λ xs. DoAlike (word_width ir) xs (core_activation (calls_below n fs) i s) (nodes_then ir s n3.list.items (ended_by o s) [])) (append-nil (sites_of_steps channels i.steps))
          (alike_as (word_width ir) (sites_of_steps channels i.steps ++ []) (steps_then (calls_below n fs) i.steps (state_then (calls_below n fs) i.next) (s ∷ [])) (nodes_then ir s one.adds.more (nodes_then ir s two.grows.extends.more (ended_by o s)) (no_value ∷ []))
          (core_activation (calls_below n fs) i s) (nodes_then ir s n3.list.items (ended_by o s) [])
          (λ got. ap (λ (f : Behind). f (s ∷ []) got) (steps_end (calls_below n fs) i.steps i.next))
          (λ got. ap (λ ns. nodes_then ir s ns (ended_by o s) [] got) listed ∙ ap (λ (r : List Value → ByWords). r (no_value ∷ []) got) (nodes_append ir s one.adds.more two.grows.extends.more (ended_by o s)))
          (one.alike s (no_value ∷ []) (first_values s typed) first_count (state_then (calls_below n fs) i.next) (nodes_then ir s two.grows.extends.more (ended_by o s)) [] (λ all v count. behind s all v count)))
