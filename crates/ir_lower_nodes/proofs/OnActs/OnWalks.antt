-- What nodes do one after another, over words in their order, is what an activation of a proc of them does.
use Rattle.std.proofs.Common.{◌≡◌, ℕ, zero, suc, ◌+◌, List, [], ◌∷◌, ◌++◌, drop, get_or, Bool, true, false, if◌then◌else◌, Option, Some, refl, sym, ap, subst, ◌∙◌, arith}
use Rattle.std.specs.Prelude.{slice_get}
use Rattle.xb_bits.specs.Word.{Word}
use Rattle.xb_value.specs.declared.value.Value.{Value}
use Rattle.net_core.specs.Behavior.{Turn, Skip, Receive, Give}
use Rattle.ir_tree.specs.declared.node.Node.{Node}
use Rattle.ir_tree.specs.declared.node.Operand.{Operand}
use Rattle.ir_tree.specs.declared.node.Role.{Role}
use Rattle.ir_tree.specs.declared.node.Role.TheVariants as role
use Rattle.ir_tree.specs.declared.package.Channel.{Channel}
use Rattle.ir_tree.specs.Constants.{no_value}
use Rattle.ir_tree.specs.NodeValues.{role_of, Setting, is_on, operand_value, received, pure_value, no_word, next_site, role_value, value_by, values_from}
use Rattle.ir_tree.specs.Activations.{first_word, sent_by, turns_by, turns_from, words_from}
use Rattle.dslx_core.specs.Designs.{CoreActivity, turn_before}
use Rattle.dslx_meaning.specs.Activation.{turn_at}
use Rattle.ir_lower_nodes.specs.Acts.Activities.{heard_then, role_then, nodes_then}
use Rattle.ir_lower_nodes.specs.Acts.InstanceActivities.{ended_by}

abbrev by_places : List Channel → Value → (ℕ → Word) → Setting
by_places ir s f = record { channels = ir; state = s; words = f }

-- what an activation does where each site's word is at its place
abbrev by_place : List Channel → Value → (ℕ → Word) → Operand → List Value → ℕ → List Node → CoreActivity
by_place ir s f o values i nodes = record { turns = turns_from (by_places ir s f) values i nodes; last = Some (operand_value s (values_from (by_places ir s f) values i nodes) o) }

-- the words at places from one on are these
abbrev AreAt : (ℕ → Word) → ℕ → List Word → Type 0
AreAt f i ws = (k : ℕ) → f (i + k) ≡ get_or ws k no_word

first_at : (f : ℕ → Word) (i : ℕ) (w : Word) (ws : List Word) → AreAt f i (w ∷ ws) → f i ≡ w
first_at f i w ws h = let none : i ≡ i + 0 = omega arith in ap f none ∙ h 0

rest_at : (f : ℕ → Word) (i : ℕ) (w : Word) (ws : List Word) → AreAt f i (w ∷ ws) → AreAt f (suc i) ws
rest_at f i w ws h k = let one : suc i + k ≡ i + suc k = omega arith in ap f one ∙ h (suc k)

values_end : (m : Setting) (values : List Value) (j : ℕ) → values_from m values j [] ≡ values
unfolding values_from
values_end m values j = refl

values_next : (m : Setting) (values : List Value) (j : ℕ) (n : Node) (ns : List Node) → values_from m values j (n ∷ ns) ≡ values_from m (values ++ value_by m values j n ∷ []) (next_site j (role_of n)) ns
unfolding values_from
values_next m values j n ns = refl

turns_end : (m : Setting) (values : List Value) (j : ℕ) → turns_from m values j [] ≡ []
unfolding turns_from
turns_end m values j = refl

turns_next : (m : Setting) (values : List Value) (j : ℕ) (n : Node) (ns : List Node) → turns_from m values j (n ∷ ns) ≡ turns_by m values n (role_of n) (turns_from m (values ++ value_by m values j n ∷ []) (next_site j (role_of n)) ns)
unfolding turns_from
turns_next m values j n ns = refl

words_on : List Channel → Value → List Value → List Word → List Node → ℕ → Bool → List Word
words_on ir s values left ns c true = first_word left ∷ words_from ir s (values ++ received ir c true (first_word left) ∷ []) (drop 1 left) ns
words_on ir s values left ns c false = no_word ∷ words_from ir s (values ++ received ir c false no_word ∷ []) left ns

words_by : List Channel → Value → List Value → List Word → Node → List Node → Role → List Word
words_by ir s values left n ns role.Pure = words_from ir s (values ++ pure_value n s values ∷ []) left ns
words_by ir s values left n ns (role.Receive predicate c) = words_on ir s values left ns c (is_on s values predicate)
words_by ir s values left n ns (role.Send predicate c) = no_word ∷ words_from ir s (values ++ no_value ∷ []) left ns

words_next : (ir : List Channel) (s : Value) (values : List Value) (left : List Word) (n : Node) (ns : List Node) → words_from ir s values left (n ∷ ns) ≡ words_by ir s values left n ns (role_of n)
unfolding words_from words_by words_on
words_next ir s values left n ns = refl

-- a node and those behind it, by the role of the node
abbrev by_role : List Channel → Value → (ℕ → Word) → Operand → List Value → ℕ → Node → Role → List Node → CoreActivity
by_role ir s f o values i n r ns = record {
  turns = turns_by (by_places ir s f) values n r (turns_from (by_places ir s f) (values ++ role_value (by_places ir s f) values i n r ∷ []) (next_site i r) ns);
  last = Some (operand_value s (values_from (by_places ir s f) (values ++ role_value (by_places ir s f) values i n r ∷ []) (next_site i r) ns) o);
}

module _ (ir : List Channel) (s : Value) (f : ℕ → Word) (o : Operand) where
  abbrev WalksOn : List Node → Type 0
  WalksOn ns = (values : List Value) (left : List Word) (i : ℕ) → AreAt f i (words_from ir s values left ns) → nodes_then ir s ns (ended_by o s) values left ≡ by_place ir s f o values i ns

  on_walks : (n : Node) (ns : List Node) → WalksOn ns → (values : List Value) (left : List Word) (i : ℕ) (predicate : Option Operand) (c : ℕ) (on : Bool) → is_on s values predicate ≡ on → AreAt f i (words_on ir s values left ns c on)
      → heard_then on (λ w. nodes_then ir s ns (ended_by o s) (values ++ received ir c on w ∷ [])) left ≡ record { turns = (if on then Receive else Skip) ∷ turns_from (by_places ir s f) (values ++ received ir c on (f i) ∷ []) (suc i) ns; last = Some (operand_value s (values_from (by_places ir s f) (values ++ received ir c on (f i) ∷ []) (suc i) ns) o) }
  unfolding words_on
  on_walks n ns again values left i predicate c true e h =
      ap (turn_before Receive) (again (values ++ received ir c true (first_word left) ∷ []) (drop 1 left) (suc i) (rest_at f i (first_word left) (words_from ir s (values ++ received ir c true (first_word left) ∷ []) (drop 1 left) ns) h))
      ∙ ap (λ w. turn_before Receive (by_place ir s f o (values ++ received ir c true w ∷ []) (suc i) ns)) (sym (first_at f i (first_word left) (words_from ir s (values ++ received ir c true (first_word left) ∷ []) (drop 1 left) ns) h))
  on_walks n ns again values left i predicate c false e h =
      ap (turn_before Skip) (again (values ++ received ir c false no_word ∷ []) left (suc i) (rest_at f i no_word (words_from ir s (values ++ received ir c false no_word ∷ []) left ns) h))
      ∙ ap (λ w. turn_before Skip (by_place ir s f o (values ++ received ir c false w ∷ []) (suc i) ns)) (sym (first_at f i no_word (words_from ir s (values ++ received ir c false no_word ∷ []) left ns) h))

  role_walks : (n : Node) (ns : List Node) → WalksOn ns → (values : List Value) (left : List Word) (i : ℕ) (r : Role) → AreAt f i (words_by ir s values left n ns r) → role_then ir s n r (nodes_then ir s ns (ended_by o s)) values left ≡ by_role ir s f o values i n r ns
  unfolding words_by
  role_walks n ns again values left i role.Pure h = again (values ++ pure_value n s values ∷ []) left i h
  role_walks n ns again values left i (role.Receive predicate c) h = on_walks n ns again values left i predicate c (is_on s values predicate) refl h
  role_walks n ns again values left i (role.Send predicate c) h =
      ap (turn_before (if is_on s values predicate then Give (sent_by n s values) else Skip)) (again (values ++ no_value ∷ []) left (suc i) (rest_at f i no_word (words_from ir s (values ++ no_value ∷ []) left ns) h))

  pub nodes_walk : (nodes : List Node) → WalksOn nodes
  nodes_walk [] values left i h = λ j. record { turns = sym (turns_end (by_places ir s f) values i) j; last = Some (operand_value s (sym (values_end (by_places ir s f) values i) j) o) }
  nodes_walk (n ∷ ns) values left i h =
      role_walks n ns (nodes_walk ns) values left i (role_of n) (subst (AreAt f i) (words_next ir s values left n ns) h)
      ∙ λ j. record { turns = sym (turns_next (by_places ir s f) values i n ns) j; last = Some (operand_value s (sym (values_next (by_places ir s f) values i n ns) j) o) }

pub turn_there : (ts : List Turn) (i : ℕ) → get_or ts i Skip ≡ turn_at (slice_get ts i)
turn_there [] i = refl
turn_there (t ∷ ts) zero = refl
turn_there (t ∷ ts) (suc i) = turn_there ts i
