-- What is kept of an activation is right from its beginning on, and stays so.
use Rattle.std.proofs.Common.{◌≡◌, ◌≤◌, ◌+◌, ℕ, max, List, [], ◌++◌, length, drop, refl, sym, ap, ◌∙◌, subst, arith}
use Rattle.std.proofs.lemmas.List.{length-append, take-append-le}
use Rattle.xb_bits.specs.Word.{Word}
use Rattle.xb_value.specs.declared.value.Value.{Value}
use Rattle.net_core.specs.declared.activation.Activation.{Activation}
use Rattle.net_core.specs.Behavior.{event_from, next_event}
use Rattle.net_core.specs.Keeps.{IsNothing}
use Rattle.ir_tree.specs.declared.node.Node.{Node}
use Rattle.ir_tree.specs.declared.package.Channel.{Channel}
use Rattle.ir_tree.specs.declared.package.Proc.{Proc}
use Rattle.ir_tree.specs.Activations.{activation, sites_of}
use Rattle.ir_eval.specs.Inner.Stands.{StandsBehind}
use Rattle.ir_eval.specs.Inner.Keeps.{KeepsNodes}

pub stands_first : (channels : List Channel) (proc : Proc) (s : Value) (got : List Word) (done : ℕ) → StandsBehind channels proc s got done [] 0 0 proc.nodes
unfolding next_event activation
stands_first channels proc s got done = record { values_are = refl; words_left = refl; turns_left = refl; sites_left = refl; event = first }
  where
    same : max done 0 ≡ done
    same = omega arith

    opened : next_event (activation channels proc) s got done ≡ event_from (activation channels proc) s got done (drop done (sites_of proc.nodes))
    opened = refl

    first : next_event (activation channels proc) s got done ≡ event_from (activation channels proc) s got (max done 0) (drop (max done 0) (sites_of proc.nodes))
    first = opened ∙ ap (λ j. event_from (activation channels proc) s got j (drop j (sites_of proc.nodes))) (sym same)

-- the same in other words
pub moved : (channels : List Channel) (proc : Proc) (s : Value) (got : List Word) (done : ℕ) (vs ws : List Value) (i j k m : ℕ) (left : List Node) → ws ≡ vs → j ≡ i → m ≡ k → StandsBehind channels proc s got done vs i k left → StandsBehind channels proc s got done ws j m left
moved channels proc s got done vs ws i j k m left e f g st =
    subst (λ x. StandsBehind channels proc s got done x j m left) (sym e)
    (subst (λ x. StandsBehind channels proc s got done vs x m left) (sym f)
    (subst (λ x. StandsBehind channels proc s got done vs i x left) (sym g) st))

-- the first nodes, of which there are none
first_left : {A : Type 0} (k : ℕ) (xs : List A) → k ≡ 0 → drop k xs ≡ xs
first_left k xs e = rw e refl

pub keeps_begin : (channels : List Channel) (proc : Proc) (kept : Activation) (s : Value) (got : List Word) (done : ℕ) → IsNothing kept → KeepsNodes channels proc kept s got done
keeps_begin channels proc kept s got done n =
    let all_left : drop kept.steps proc.nodes ≡ proc.nodes = first_left kept.steps proc.nodes n.steps in
    record {
      few = subst (λ left. kept.sites + length (sites_of left) ≤ length (sites_of proc.nodes)) (sym all_left) (omega (arith, n.sites));
      less = omega (arith, n.words);
      within = omega (arith, n.words);
      stands = λ all later h e.
          subst (λ left. StandsBehind channels proc s all later kept.values.items kept.sites kept.words left) (sym all_left)
          (moved channels proc s all later _ _ _ _ _ _ _ n.values n.sites n.words (stands_first channels proc s all later));
    }

pub keeps_stay : (channels : List Channel) (proc : Proc) (kept : Activation) (s : Value) (got more : List Word) (done later : ℕ) → done ≤ later
    → KeepsNodes channels proc kept s got done → KeepsNodes channels proc kept s (got ++ more) later
keeps_stay channels proc kept s got more done later h k = record {
  few = k.few;
  less = k.less;
  within = omega (arith, k.within, length-append got more);
  stands = λ all last l e. k.stands all last (omega (arith, h, l)) (e ∙ take-append-le kept.words got more k.within);
}
