-- An activation as a walk over nodes, with what each site does, for words by place and for words in order alike.
use Rattle.std.proofs.Common.{◌≡◌, ℕ, suc, List, [], ◌∷◌, ◌++◌, drop, Bool, true, false, Option, Some, None, refl, sym, ap, ◌∙◌}
use Rattle.std.specs.Prelude.{if◌then◌else◌}
use Rattle.std.proofs.lemmas.List.{append-nil, append_assoc}
use Rattle.xb_bits.specs.Word.{Word}
use Rattle.xb_value.specs.declared.value.Value.{Value}
use Rattle.net_core.specs.declared.net.Site.{Site}
use Rattle.net_core.specs.Behavior.{Turn, Skip, Receive, Give}
use Rattle.ir_tree.specs.declared.node.Node.{Node}
use Rattle.ir_tree.specs.declared.node.Role.{Role}
use Rattle.ir_tree.specs.declared.node.Role.TheVariants as role
use Rattle.ir_tree.specs.declared.package.Channel.{Channel}
use Rattle.ir_tree.specs.Constants.{no_value}
use Rattle.ir_tree.specs.NodeValues.{role_of, Setting, is_on, received, pure_value, no_word, next_site, role_value, value_by, values_from}
use Rattle.ir_tree.specs.Activations.{sites_by, sites_of, sent_by, turns_by, turns_from, first_word, words_from}

-- the nodes so far: their values, how many sites are among them, the words that are left, those of the sites, and what these did
pub record Walk : Type 0 where
  pub values : List Value
  pub site : ℕ
  pub left : List Word
  pub words : List Word
  pub turns : List Turn

-- where words come from: each site's, or in order
abbrev pub Words : Type 0
Words = Option (ℕ → Word)

abbrev pub word_at : Words → ℕ → List Word → Bool → Word
word_at (Some f) i left on = f i
word_at None i left true = first_word left
word_at None i left false = no_word

abbrev pub left_at : Words → List Word → Bool → List Word
left_at (Some f) left on = left
left_at None left true = drop 1 left
left_at None left false = left

abbrev pub step_by : List Channel → Value → Words → Walk → Node → Role → Walk
step_by channels s words w n role.Pure =
    record { values = w.values ++ pure_value n s w.values ∷ []; site = w.site; left = w.left; words = w.words; turns = w.turns }
step_by channels s words w n (role.Receive predicate c) =
    record {
      values = w.values ++ received channels c (is_on s w.values predicate) (word_at words w.site w.left (is_on s w.values predicate)) ∷ [];
      site = suc w.site;
      left = left_at words w.left (is_on s w.values predicate);
      words = w.words ++ word_at words w.site w.left (is_on s w.values predicate) ∷ [];
      turns = w.turns ++ (if is_on s w.values predicate then Receive else Skip) ∷ [];
    }
step_by channels s words w n (role.Send predicate c) =
    record {
      values = w.values ++ no_value ∷ [];
      site = suc w.site;
      left = w.left;
      words = w.words ++ no_word ∷ [];
      turns = w.turns ++ (if is_on s w.values predicate then Give (sent_by n s w.values) else Skip) ∷ [];
    }

abbrev pub step : List Channel → Value → Words → Walk → Node → Walk
step channels s words w n = step_by channels s words w n (role_of n)

abbrev pub walk : List Channel → Value → Words → Walk → List Node → Walk
walk channels s words w [] = w
walk channels s words w (n ∷ ns) = walk channels s words (step channels s words w n) ns

-- before the first node
abbrev pub start : List Word → Walk
start got = record { values = []; site = 0; left = got; words = []; turns = [] }

pub walk_append : (channels : List Channel) (s : Value) (words : Words) (w : Walk) (xs ys : List Node) → walk channels s words w (xs ++ ys) ≡ walk channels s words (walk channels s words w xs) ys
walk_append channels s words w [] ys = refl
walk_append channels s words w (x ∷ xs) ys = walk_append channels s words (step channels s words w x) xs ys

-- ---- words by place

abbrev setting : List Channel → Value → (ℕ → Word) → Setting
setting channels s f = record { channels = channels; state = s; words = f }

values_end : (m : Setting) (values : List Value) (j : ℕ) → values_from m values j [] ≡ values
unfolding values_from
values_end m values j = refl

values_next : (m : Setting) (values : List Value) (j : ℕ) (n : Node) (ns : List Node) → values_from m values j (n ∷ ns) ≡ values_from m (values ++ value_by m values j n ∷ []) (next_site j (role_of n)) ns
unfolding values_from
values_next m values j n ns = refl

turns_end : (m : Setting) (values : List Value) (j : ℕ) → turns_from m values j [] ≡ []
unfolding turns_from
turns_end m values j = refl

turns_next : (m : Setting) (values : List Value) (j : ℕ) (n : Node) (ns : List Node) → turns_from m values j (n ∷ ns) ≡ turns_by m values n (role_of n) (turns_from m (values ++ value_by m values j n ∷ []) (next_site j (role_of n)) ns)
unfolding turns_from
turns_next m values j n ns = refl

values_role : (channels : List Channel) (s : Value) (f : ℕ → Word) (w : Walk) (n : Node) (ns : List Node) (r : Role) → values_from (setting channels s f) (w.values ++ role_value (setting channels s f) w.values w.site n r ∷ []) (next_site w.site r) ns ≡ values_from (setting channels s f) (step_by channels s (Some f) w n r).values (step_by channels s (Some f) w n r).site ns
values_role channels s f w n ns role.Pure = refl
values_role channels s f w n ns (role.Receive predicate c) = refl
values_role channels s f w n ns (role.Send predicate c) = refl

pub walk_values : (channels : List Channel) (s : Value) (f : ℕ → Word) (w : Walk) (ns : List Node) → values_from (setting channels s f) w.values w.site ns ≡ (walk channels s (Some f) w ns).values
walk_values channels s f w [] = values_end (setting channels s f) w.values w.site
walk_values channels s f w (n ∷ ns) =
    values_next (setting channels s f) w.values w.site n ns
    ∙ values_role channels s f w n ns (role_of n)
    ∙ walk_values channels s f (step channels s (Some f) w n) ns

turns_role : (channels : List Channel) (s : Value) (f : ℕ → Word) (w : Walk) (n : Node) (ns : List Node) (r : Role) → w.turns ++ turns_by (setting channels s f) w.values n r (turns_from (setting channels s f) (w.values ++ role_value (setting channels s f) w.values w.site n r ∷ []) (next_site w.site r) ns) ≡ (step_by channels s (Some f) w n r).turns ++ turns_from (setting channels s f) (step_by channels s (Some f) w n r).values (step_by channels s (Some f) w n r).site ns
turns_role channels s f w n ns role.Pure = refl
turns_role channels s f w n ns (role.Receive predicate c) = sym (append_assoc w.turns ((if is_on s w.values predicate then Receive else Skip) ∷ []) _)
turns_role channels s f w n ns (role.Send predicate c) = sym (append_assoc w.turns ((if is_on s w.values predicate then Give (sent_by n s w.values) else Skip) ∷ []) _)

pub walk_turns : (channels : List Channel) (s : Value) (f : ℕ → Word) (w : Walk) (ns : List Node) → w.turns ++ turns_from (setting channels s f) w.values w.site ns ≡ (walk channels s (Some f) w ns).turns
walk_turns channels s f w [] = ap (λ ts. w.turns ++ ts) (turns_end (setting channels s f) w.values w.site) ∙ append-nil w.turns
walk_turns channels s f w (n ∷ ns) =
    ap (λ ts. w.turns ++ ts) (turns_next (setting channels s f) w.values w.site n ns)
    ∙ turns_role channels s f w n ns (role_of n)
    ∙ walk_turns channels s f (step channels s (Some f) w n) ns

-- ---- words in order

words_on : List Channel → Value → List Value → List Word → List Node → ℕ → Bool → List Word
words_on channels s values left ns c true = first_word left ∷ words_from channels s (values ++ received channels c true (first_word left) ∷ []) (drop 1 left) ns
words_on channels s values left ns c false = no_word ∷ words_from channels s (values ++ received channels c false no_word ∷ []) left ns

words_by : List Channel → Value → List Value → List Word → Node → List Node → Role → List Word
words_by channels s values left n ns role.Pure = words_from channels s (values ++ pure_value n s values ∷ []) left ns
words_by channels s values left n ns (role.Receive predicate c) = words_on channels s values left ns c (is_on s values predicate)
words_by channels s values left n ns (role.Send predicate c) = no_word ∷ words_from channels s (values ++ no_value ∷ []) left ns

words_end : (channels : List Channel) (s : Value) (values : List Value) (left : List Word) → words_from channels s values left [] ≡ []
unfolding words_from
words_end channels s values left = refl

words_next : (channels : List Channel) (s : Value) (values : List Value) (left : List Word) (n : Node) (ns : List Node) → words_from channels s values left (n ∷ ns) ≡ words_by channels s values left n ns (role_of n)
unfolding words_from words_by words_on
words_next channels s values left n ns = refl

words_switch : (channels : List Channel) (s : Value) (values : List Value) (i : ℕ) (left : List Word) (ns : List Node) (c : ℕ) (on : Bool) → words_on channels s values left ns c on ≡ word_at None i left on ∷ words_from channels s (values ++ received channels c on (word_at None i left on) ∷ []) (left_at None left on) ns
unfolding words_on
words_switch channels s values i left ns c true = refl
words_switch channels s values i left ns c false = refl

words_role : (channels : List Channel) (s : Value) (w : Walk) (n : Node) (ns : List Node) (r : Role) → w.words ++ words_by channels s w.values w.left n ns r ≡ (step_by channels s None w n r).words ++ words_from channels s (step_by channels s None w n r).values (step_by channels s None w n r).left ns
unfolding words_by
words_role channels s w n ns role.Pure = refl
words_role channels s w n ns (role.Receive predicate c) =
    ap (λ ws. w.words ++ ws) (words_switch channels s w.values w.site w.left ns c (is_on s w.values predicate))
    ∙ sym (append_assoc w.words (word_at None w.site w.left (is_on s w.values predicate) ∷ []) _)
words_role channels s w n ns (role.Send predicate c) = sym (append_assoc w.words (no_word ∷ []) _)

pub walk_words : (channels : List Channel) (s : Value) (w : Walk) (ns : List Node) → w.words ++ words_from channels s w.values w.left ns ≡ (walk channels s None w ns).words
walk_words channels s w [] = ap (λ ws. w.words ++ ws) (words_end channels s w.values w.left) ∙ append-nil w.words
walk_words channels s w (n ∷ ns) =
    ap (λ ws. w.words ++ ws) (words_next channels s w.values w.left n ns)
    ∙ words_role channels s w n ns (role_of n)
    ∙ walk_words channels s (step channels s None w n) ns

-- ---- sites

sites_role : (r : Role) (xs ys : List Site) → sites_by r (xs ++ ys) ≡ sites_by r xs ++ ys
sites_role role.Pure xs ys = refl
sites_role (role.Receive predicate c) xs ys = refl
sites_role (role.Send predicate c) xs ys = refl

pub sites_append : (xs ys : List Node) → sites_of (xs ++ ys) ≡ sites_of xs ++ sites_of ys
sites_append [] ys = refl
sites_append (x ∷ xs) ys = ap (sites_by (role_of x)) (sites_append xs ys) ∙ sites_role (role_of x) (sites_of xs) (sites_of ys)
