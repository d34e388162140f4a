-- What nodes do at their sites, over the words that they receive, and when two activities do the same.
use Rattle.std.specs.Prelude.{◌≡◌, ℕ, List, [], ◌∷◌, ◌++◌, drop, Bool, true, false, if◌then◌else◌, Some}
use Rattle.xb_bits.specs.Word.{Word}
use Rattle.xb_value.specs.declared.value.Value.{Value}
use Rattle.net_core.specs.declared.net.Site.{Site}
use Rattle.net_core.specs.Behavior.{Skip, Receive, Give, IsWordOf}
use Rattle.ir_tree.specs.declared.node.Node.{Node}
use Rattle.ir_tree.specs.declared.node.Role.{Role}
use Rattle.ir_tree.specs.declared.node.Role.TheVariants as role
use Rattle.ir_tree.specs.declared.package.Channel.{Channel}
use Rattle.ir_tree.specs.Constants.{no_value}
use Rattle.ir_tree.specs.NodeValues.{role_of, is_on, received, pure_value, no_word, channel_type}
use Rattle.ir_tree.specs.Activations.{first_word, sent_by, width_at}
use Rattle.dslx_core.specs.Designs.{CoreActivity, turn_before}

-- what is done, by the words that will be received
abbrev pub ByWords : Type 0
ByWords = List Word → CoreActivity

-- ---- what nodes do

-- a receive that is on takes the next word
abbrev pub heard_then : Bool → (Word → ByWords) → ByWords
heard_then true rest words = turn_before Receive (rest (first_word words) (drop 1 words))
heard_then false rest words = turn_before Skip (rest no_word words)

abbrev pub role_then : List Channel → Value → Node → Role → (List Value → ByWords) → List Value → ByWords
role_then channels s n role.Pure rest values words = rest (values ++ pure_value n s values ∷ []) words
role_then channels s n (role.Receive predicate c) rest values words =
    heard_then (is_on s values predicate) (λ w. rest (values ++ received channels c (is_on s values predicate) w ∷ [])) words
role_then channels s n (role.Send predicate c) rest values words =
    turn_before (if is_on s values predicate then Give (sent_by n s values) else Skip) (rest (values ++ no_value ∷ []) words)

-- these nodes behind nodes of these values, in an activation from a state, and then the rest
abbrev pub nodes_then : List Channel → Value → List Node → (List Value → ByWords) → List Value → ByWords
nodes_then channels s [] rest = rest
nodes_then channels s (n ∷ ns) rest = role_then channels s n (role_of n) (nodes_then channels s ns rest)

-- ---- the same

abbrev pub ended : Value → CoreActivity
ended v = record { turns = []; last = Some v }

-- how wide the words of a channel are
abbrev pub word_width : List Channel → ℕ → ℕ
word_width channels c = width_at (channel_type channels c)

-- Two do the same at these sites, as long as they receive words of the channels' widths: they end with one value, or both skip a
-- site or send one word at it, or both receive.
pub data DoAlike (width : ℕ → ℕ) : List Site → ByWords → ByWords → Type 0 where
  Ends : (f g : ByWords) (v : Value) → ((words : List Word) → f words ≡ ended v) → ((words : List Word) → g words ≡ ended v) → DoAlike width [] f g
  Skips : (site : Site) (sites : List Site) (f g p q : ByWords) → ((words : List Word) → f words ≡ turn_before Skip (p words)) → ((words : List Word) → g words ≡ turn_before Skip (q words)) →
      DoAlike width sites p q → DoAlike width (site ∷ sites) f g
  Gives : (site : Site) (sites : List Site) (f g p q : ByWords) (x : Word) → ((words : List Word) → f words ≡ turn_before (Give x) (p words)) → ((words : List Word) → g words ≡ turn_before (Give x) (q words)) →
      DoAlike width sites p q → DoAlike width (site ∷ sites) f g
  Receives : (site : Site) (sites : List Site) (f g : ByWords) (p q : Word → ByWords) → (f []).turns ≡ Receive ∷ [] → ((w : Word) (words : List Word) → f (w ∷ words) ≡ turn_before Receive (p w words)) →
      ((words : List Word) → g words ≡ turn_before Receive (q (first_word words) (drop 1 words))) →
      ((w : Word) → IsWordOf (width site.chan) w → DoAlike width sites (p w) (q w)) → DoAlike width (site ∷ sites) f g
