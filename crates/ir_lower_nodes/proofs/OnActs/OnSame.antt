-- Alike activities are the same activations.
use Rattle.std.proofs.Common.{◌≡◌, ℕ, ◌+◌, List, [], length, get_or, Some, refl, sym, ap, subst, ◌∙◌, arith}
use Rattle.std.specs.Prelude.{slice_get, unwrap_or}
use Rattle.xb_bits.specs.Word.{Word}
use Rattle.xb_value.specs.Typing.{IsOfType}
use Rattle.xb_value.specs.declared.value.Value.{Value}
use Rattle.net_core.specs.Behavior.{IsOpen}
use Rattle.ir_tree.specs.Activations.{activation, setting_of, site_words, sites_of, turns_of, words_from}
use Rattle.ir_tree.specs.NodeValues.{no_word, node_values, operand_value}
use Rattle.ir_tree.specs.SameBehavior.{SameActivations}
use Rattle.ir_tree.specs.Types.{ty_of}
use Rattle.ir_tree.specs.declared.package.Channel.{Channel}
use Rattle.ir_tree.specs.declared.package.Proc.{Proc}
use Rattle.dslx_meaning.specs.Activation.{turn_at}
use Rattle.dslx_core.specs.CoreValues.{Functions}
use Rattle.dslx_core.specs.Designs.{CoreActivity, core_activation, sites_of_steps, token}
use Rattle.dslx_core.specs.declared.design.Instance.{Instance}
use Rattle.ir_lower_nodes.specs.Acts.Activities.{ByWords, DoAlike, nodes_then, word_width}
use Rattle.ir_lower_nodes.specs.Acts.InstanceActivities.{ended_by, instance_behavior}
use Rattle.ir_lower_nodes.proofs.OnActs.OnTurns.{AgreeAt, alike_agree}
use Rattle.ir_lower_nodes.proofs.OnActs.OnWalks.{nodes_walk, turn_there}

module _ (calls : Functions) (width : ℕ → ℕ) (channels : List ℕ) (i : Instance) (ir : List Channel) (proc : Proc) where
  -- what the nodes do
  abbrev whole : Value → ByWords
  whole s = nodes_then ir s proc.nodes (ended_by proc.next s) []

  -- is what an activation does
  activity_is : (s : Value) (got : List Word) → whole s got ≡ record { turns = turns_of ir proc.nodes s got; last = Some (operand_value s (node_values (setting_of ir proc.nodes s got) proc.nodes) proc.next) }
  activity_is s got =
      nodes_walk ir s (site_words (words_from ir s [] got proc.nodes)) proc.next proc.nodes [] got 0
      (λ k. let none : 0 + k ≡ k = omega arith in ap (λ j. get_or (words_from ir s [] got proc.nodes) j no_word) none)

  agrees : ((c : ℕ) → width c ≡ word_width ir c) → ((s : Value) → IsOfType i.state s → DoAlike (word_width ir) (sites_of_steps channels i.steps) (core_activation calls i s) (whole s))
      → (s : Value) (got : List Word) (k : ℕ) → IsOpen (instance_behavior calls width channels i) s got k → AgreeAt (core_activation calls i s) (whole s) got k (length (sites_of_steps channels i.steps))
  agrees widths alike s got k stand =
      let sites = sites_of_steps channels i.steps in
      let first : 0 + k ≡ k = omega arith in
      let second : 0 + length sites ≡ length sites = omega arith in
      subst (λ n. AgreeAt (core_activation calls i s) (whole s) got k n) second
      (subst (λ n. AgreeAt (core_activation calls i s) (whole s) got n (0 + length sites)) first
      (alike_agree (instance_behavior calls width channels i) s (core_activation calls i s) (whole s) (λ words j. refl) (word_width ir) widths sites (core_activation calls i s) (whole s) (alike s stand.state) [] []
      (λ words. refl) (λ words. refl) k got stand.within stand.words))

  pub alike_same : i.state ≡ ty_of proc.state → sites_of_steps channels i.steps ≡ sites_of proc.nodes → ((c : ℕ) → width c ≡ word_width ir c)
      → ((s : Value) → IsOfType i.state s → DoAlike (word_width ir) (sites_of_steps channels i.steps) (core_activation calls i s) (nodes_then ir s proc.nodes (ended_by proc.next s) []))
      → SameActivations (instance_behavior calls width channels i) (activation ir proc)
  unfolding activation
  alike_same state sites widths alike = record {
    state = state;
    sites = sites;
    width = λ k site e. widths site.chan;
    turn = λ s got k stand less.
        (agrees widths alike s got k stand).turn less
        ∙ (ap (λ (a : CoreActivity). turn_at (slice_get a.turns k)) (activity_is s got) ∙ sym (turn_there (turns_of ir proc.nodes s got) k));
    next_state = λ s got stand.
        ap (λ l. unwrap_or l token) ((agrees widths alike s got (length (sites_of_steps channels i.steps)) stand).last refl ∙ ap (λ (a : CoreActivity). a.last) (activity_is s got));
  }
