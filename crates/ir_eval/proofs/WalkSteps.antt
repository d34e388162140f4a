-- An activation of a proc, node by node.
use Rattle.std.proofs.Common.{◌≡◌, ℕ, zero, suc, ◌<◌, ◌≤◌, max, List, [], ◌∷◌, ◌++◌, drop, take, get_or, refl, sym, ap, ◌∙◌, arith, Bool, true, false, Option}
use Rattle.std.specs.Prelude.{if◌then◌else◌, ◌&&◌, nat_le}
use Rattle.std.proofs.lemmas.Bool.Decides.{nat_tests}
use Rattle.std.proofs.Common.{⊎_elim}
use Rattle.std.proofs.lemmas.Bool.{cases_lt}
use Rattle.xb_bits.specs.Word.{Word}
use Rattle.xb_value.specs.declared.value.Value.{Value}
use Rattle.net_core.specs.declared.net.Site.{Site}
use Rattle.net_core.specs.declared.event.Event.{Event}
use Rattle.net_core.specs.declared.event.Event.TheVariants.{Recv, Send, End}
use Rattle.net_core.specs.Behavior.{Behavior, Turn, Skip, Receive, Give, event_from, next_event}
use Rattle.ir_tree.specs.declared.node.Operand.{Operand}
use Rattle.ir_tree.specs.declared.node.Node.{Node}
use Rattle.ir_tree.specs.declared.node.Role.{Role}
use Rattle.ir_tree.specs.declared.node.Role.TheVariants as role
use Rattle.ir_tree.specs.declared.package.Channel.{Channel}
use Rattle.ir_tree.specs.declared.package.Proc.{Proc}
use Rattle.ir_tree.specs.Constants.{no_value}
use Rattle.ir_tree.specs.NodeValues.{role_of, Setting, operand_value, is_on, received, pure_value, no_word, next_site, role_value, values_from, node_values}
use Rattle.ir_eval.specs.Inner.Stands.{StandsBehind}
use Rattle.ir_tree.specs.Activations.{sites_by, sites_of, sent_by, turns_by, turns_from, first_word, words_from, setting_of, turns_of, activation}
pub use Rattle.ir_eval.specs.Inner.Kept.{moved, stands_first}

-- ---- a list from a place on

head_at : {A : Type 0} (d x : A) (xs ys : List A) (i : ℕ) → x ∷ xs ≡ drop i ys → get_or ys i d ≡ x
head_at d x xs [] zero e = cc
head_at d x xs [] (suc i) e = cc
head_at d x xs (y ∷ ys) zero e = cc
head_at d x xs (y ∷ ys) (suc i) e = head_at d x xs ys i e

tail_at : {A : Type 0} (x : A) (xs ys : List A) (i : ℕ) → x ∷ xs ≡ drop i ys → xs ≡ drop (suc i) ys
tail_at x xs [] zero e = cc
tail_at x xs [] (suc i) e = cc
tail_at x xs (y ∷ ys) zero e = cc
tail_at x xs (y ∷ ys) (suc i) e = tail_at x xs ys i e

-- ---- the words of sites, by the role of a node and whether its site is on

words_on : List Channel → Value → List Value → List Word → List Node → ℕ → Bool → List Word
words_on channels s values left ns c true = first_word left ∷ words_from channels s (values ++ received channels c true (first_word left) ∷ []) (drop 1 left) ns
words_on channels s values left ns c false = no_word ∷ words_from channels s (values ++ received channels c false no_word ∷ []) left ns

words_at : List Channel → Value → List Value → List Word → Node → List Node → Role → List Word
words_at channels s values left n ns role.Pure = words_from channels s (values ++ pure_value n s values ∷ []) left ns
words_at channels s values left n ns (role.Receive predicate c) = words_on channels s values left ns c (is_on s values predicate)
words_at channels s values left n ns (role.Send predicate c) = no_word ∷ words_from channels s (values ++ no_value ∷ []) left ns

words_are : (channels : List Channel) (s : Value) (values : List Value) (left : List Word) (n : Node) (ns : List Node) → words_from channels s values left (n ∷ ns) ≡ words_at channels s values left n ns (role_of n)
unfolding words_from words_at words_on
words_are channels s values left n ns = refl

-- ---- events, by the turn at a site

event_at : Behavior → Value → List Word → ℕ → List Site → Turn → Event
event_at b s got i sites Skip = event_from b s got (suc i) sites
event_at b s got i sites Receive = Recv i
event_at b s got i sites (Give w) = Send i w

events_are : (b : Behavior) (s : Value) (got : List Word) (i : ℕ) (site : Site) (sites : List Site) → event_from b s got i (site ∷ sites) ≡ event_at b s got i sites (b.turn s got i)
unfolding event_from event_at
events_are b s got i site sites = refl

-- the values and turns behind a node, by its role
values_at : (m : Setting) (values : List Value) (i : ℕ) (n : Node) (ns : List Node) (r : Role) → role_of n ≡ r → values_from m values i (n ∷ ns) ≡ values_from m (values ++ role_value m values i n r ∷ []) (next_site i r) ns
unfolding values_from
values_at m values i n ns r e = ap (λ x. values_from m (values ++ role_value m values i n x ∷ []) (next_site i x) ns) e

turns_at : (m : Setting) (values : List Value) (i : ℕ) (n : Node) (ns : List Node) (r : Role) → role_of n ≡ r → turns_from m values i (n ∷ ns) ≡ turns_by m values n r (turns_from m (values ++ role_value m values i n r ∷ []) (next_site i r) ns)
unfolding turns_from
turns_at m values i n ns r e = ap (λ x. turns_by m values n x (turns_from m (values ++ role_value m values i n x ∷ []) (next_site i x) ns)) e

words_by_role : (channels : List Channel) (s : Value) (values : List Value) (left : List Word) (n : Node) (ns : List Node) (r : Role) → role_of n ≡ r → words_from channels s values left (n ∷ ns) ≡ words_at channels s values left n ns r
words_by_role channels s values left n ns r e = words_are channels s values left n ns ∙ ap (words_at channels s values left n ns) e

sites_at : (n : Node) (ns : List Node) (r : Role) → role_of n ≡ r → sites_of (n ∷ ns) ≡ sites_by r (sites_of ns)
sites_at n ns r e = ap (λ x. sites_by x (sites_of ns)) e

-- ---- steps

pub stands_pure : (channels : List Channel) (proc : Proc) (s : Value) (got : List Word) (done : ℕ) (values : List Value) (site taken : ℕ) (n : Node) (ns : List Node) → role_of n ≡ role.Pure → StandsBehind channels proc s got done values site taken (n ∷ ns) → StandsBehind channels proc s got done (values ++ pure_value n s values ∷ []) site taken ns
unfolding words_at
stands_pure channels proc s got done values site taken n ns e st =
    record {
      values_are = sym (values_at m values site n ns role.Pure e) ∙ st.values_are;
      words_left = words ∙ st.words_left;
      turns_left = sym (turns_at m values site n ns role.Pure e) ∙ st.turns_left;
      sites_left = sym (sites_at n ns role.Pure e) ∙ st.sites_left;
      event = st.event;
    }
  where
    m : Setting
    m = setting_of channels proc.nodes s got

    words : words_from channels s (values ++ pure_value n s values ∷ []) (drop taken got) ns ≡ words_from channels s values (drop taken got) (n ∷ ns)
    words = sym (words_by_role channels s values (drop taken got) n ns role.Pure e)

drop_one : {A : Type 0} (k : ℕ) (xs : List A) → drop (suc k) xs ≡ drop 1 (drop k xs)
drop_one zero [] = refl
drop_one zero (x ∷ xs) = refl
drop_one (suc k) [] = refl
drop_one (suc k) (x ∷ xs) = drop_one k xs

drop_none : {A : Type 0} (k : ℕ) (xs : List A) → xs ≡ [] → drop k xs ≡ []
drop_none zero xs e = e
drop_none (suc k) [] e = refl
drop_none (suc k) (x ∷ xs) e = absurd (cc)

drop_on : {A : Type 0} (j k : ℕ) (xs : List A) → drop j xs ≡ [] → j ≤ k → drop k xs ≡ []
drop_on zero k xs e h = drop_none k xs e
drop_on (suc j) zero xs e h = absurd (omega arith)
drop_on (suc j) (suc k) [] e h = refl
drop_on (suc j) (suc k) (x ∷ xs) e h = drop_on j k xs e (omega arith)

-- the turn at the site where an activation stands
turn_is : (channels : List Channel) (proc : Proc) (s : Value) (got : List Word) (site : ℕ) (t : Turn) (ts : List Turn) → t ∷ ts ≡ drop site (turns_of channels proc.nodes s got) → (activation channels proc).turn s got site ≡ t
unfolding activation
turn_is channels proc s got site t ts e = head_at Skip t ts (turns_of channels proc.nodes s got) site e

-- past a site that is off, or that is past already, the next event is the same
passes : (channels : List Channel) (proc : Proc) (s : Value) (got : List Word) (done site : ℕ) (x : Site) (rest : List Site) → x ∷ rest ≡ drop site (sites_of proc.nodes) → (done ≤ site → (activation channels proc).turn s got site ≡ Skip) → event_from (activation channels proc) s got (max done site) (drop (max done site) (sites_of proc.nodes)) ≡ event_from (activation channels proc) s got (max done (suc site)) (drop (max done (suc site)) (sites_of proc.nodes))
unfolding event_at
passes channels proc s got done site x rest e f =
    ⊎_elim
    (λ less. ap at (was less ∙ sym (stays less)))
    (λ past. ap at (here past) ∙ ap (event_from b s got site) (sym e) ∙ events_are b s got site x rest ∙ ap (event_at b s got site rest) (f past) ∙ off ∙ ap (event_from b s got (suc site)) (tail_at x rest all site e) ∙ ap at (sym (next past)))
    (cases_lt site done)
  where
    b : Behavior
    b = activation channels proc

    all : List Site
    all = sites_of proc.nodes

    at : ℕ → Event
    at j = event_from b s got j (drop j all)

    was : site < done → max done site ≡ done
    was h = omega arith

    stays : site < done → max done (suc site) ≡ done
    stays h = omega arith

    here : done ≤ site → max done site ≡ site
    here h = omega arith

    next : done ≤ site → max done (suc site) ≡ suc site
    next h = omega arith

    off : event_at b s got site rest Skip ≡ event_from b s got (suc site) rest
    off = refl

-- the next event is at the site where an activation stands, if that is on
stops : (channels : List Channel) (proc : Proc) (s : Value) (got : List Word) (done site : ℕ) (x : Site) (rest : List Site) (t : Turn) → x ∷ rest ≡ drop site (sites_of proc.nodes) → done ≤ site → (activation channels proc).turn s got site ≡ t → event_from (activation channels proc) s got (max done site) (drop (max done site) (sites_of proc.nodes)) ≡ event_at (activation channels proc) s got site rest t
stops channels proc s got done site x rest t e h f =
    ap (λ j. event_from (activation channels proc) s got j (drop j (sites_of proc.nodes))) here
    ∙ ap (event_from (activation channels proc) s got site) (sym e)
    ∙ events_are (activation channels proc) s got site x rest
    ∙ ap (event_at (activation channels proc) s got site rest) f
  where
    here : max done site ≡ site
    here = omega arith

-- ---- a receive

receive_turn : (channels : List Channel) (proc : Proc) (s : Value) (got : List Word) (done : ℕ) (values : List Value) (site taken : ℕ) (n : Node) (ns : List Node) (predicate : Option Operand) (c : ℕ) (on : Bool) → role_of n ≡ role.Receive predicate c → is_on s values predicate ≡ on → StandsBehind channels proc s got done values site taken (n ∷ ns) → (activation channels proc).turn s got site ≡ (if on then Receive else Skip)
receive_turn channels proc s got done values site taken n ns predicate c on e o st =
    turn_is channels proc s got site _ _ (sym (turns_at (setting_of channels proc.nodes s got) values site n ns (role.Receive predicate c) e) ∙ st.turns_left)
    ∙ ap (λ b. if b then Receive else Skip) o

pub receive_next : (channels : List Channel) (proc : Proc) (s : Value) (got : List Word) (done : ℕ) (values : List Value) (site taken : ℕ) (n : Node) (ns : List Node) (predicate : Option Operand) (c : ℕ) → role_of n ≡ role.Receive predicate c → is_on s values predicate ≡ true → done ≤ site → StandsBehind channels proc s got done values site taken (n ∷ ns) → Recv site ≡ next_event (activation channels proc) s got done
unfolding event_at
receive_next channels proc s got done values site taken n ns predicate c e o h st =
    sym (st.event ∙ stops channels proc s got done site (record { chan = c; sends = false }) (sites_of ns) Receive (sym (sites_at n ns (role.Receive predicate c) e) ∙ st.sites_left) h (receive_turn channels proc s got done values site taken n ns predicate c true e o st))

pub stands_off : (channels : List Channel) (proc : Proc) (s : Value) (got : List Word) (done : ℕ) (values : List Value) (site taken : ℕ) (n : Node) (ns : List Node) (predicate : Option Operand) (c : ℕ) → role_of n ≡ role.Receive predicate c → is_on s values predicate ≡ false → StandsBehind channels proc s got done values site taken (n ∷ ns) → StandsBehind channels proc s got done (values ++ received channels c false no_word ∷ []) (suc site) taken ns
unfolding words_at words_on
stands_off channels proc s got done values site taken n ns predicate c e o st =
    record {
      values_are = ap (λ v. values_from m (values ++ v ∷ []) (suc site) ns) (sym given) ∙ sym (values_at m values site n ns r e) ∙ st.values_are;
      words_left = tail_at no_word (words_from channels s (values ++ received channels c false no_word ∷ []) (drop taken got) ns) all site words;
      turns_left = ap (λ v. turns_from m (values ++ v ∷ []) (suc site) ns) (sym given) ∙ tail_at _ _ (turns_of channels proc.nodes s got) site (sym (turns_at m values site n ns r e) ∙ st.turns_left);
      sites_left = tail_at _ _ (sites_of proc.nodes) site (sym (sites_at n ns r e) ∙ st.sites_left);
      event = st.event ∙ passes channels proc s got done site _ _ (sym (sites_at n ns r e) ∙ st.sites_left) (λ h. receive_turn channels proc s got done values site taken n ns predicate c false e o st);
    }
  where
    m : Setting
    m = setting_of channels proc.nodes s got

    r : Role
    r = role.Receive predicate c

    all : List Word
    all = words_from channels s [] got proc.nodes

    given : role_value m values site n r ≡ received channels c false no_word
    given = ap (λ b. received channels c b (m.words site)) o

    words : no_word ∷ words_from channels s (values ++ received channels c false no_word ∷ []) (drop taken got) ns ≡ drop site all
    words = sym (words_by_role channels s values (drop taken got) n ns r e ∙ ap (words_on channels s values (drop taken got) ns c) o) ∙ st.words_left

pub stands_on : (channels : List Channel) (proc : Proc) (s : Value) (got : List Word) (done : ℕ) (values : List Value) (site taken : ℕ) (n : Node) (ns : List Node) (predicate : Option Operand) (c : ℕ) → role_of n ≡ role.Receive predicate c → is_on s values predicate ≡ true → site < done → StandsBehind channels proc s got done values site taken (n ∷ ns) → StandsBehind channels proc s got done (values ++ received channels c true (first_word (drop taken got)) ∷ []) (suc site) (suc taken) ns
unfolding words_at words_on
stands_on channels proc s got done values site taken n ns predicate c e o h st =
    record {
      values_are = ap (λ v. values_from m (values ++ v ∷ []) (suc site) ns) (sym given) ∙ sym (values_at m values site n ns r e) ∙ st.values_are;
      words_left = ap (λ ws. words_from channels s (values ++ received channels c true first ∷ []) ws ns) (drop_one taken got) ∙ tail_at first _ all site words;
      turns_left = ap (λ v. turns_from m (values ++ v ∷ []) (suc site) ns) (sym given) ∙ tail_at _ _ (turns_of channels proc.nodes s got) site (sym (turns_at m values site n ns r e) ∙ st.turns_left);
      sites_left = tail_at _ _ (sites_of proc.nodes) site (sym (sites_at n ns r e) ∙ st.sites_left);
      event = st.event ∙ passes channels proc s got done site _ _ (sym (sites_at n ns r e) ∙ st.sites_left) (λ k. absurd (omega arith));
    }
  where
    m : Setting
    m = setting_of channels proc.nodes s got

    r : Role
    r = role.Receive predicate c

    first : Word
    first = first_word (drop taken got)

    all : List Word
    all = words_from channels s [] got proc.nodes

    words : first ∷ words_from channels s (values ++ received channels c true first ∷ []) (drop 1 (drop taken got)) ns ≡ drop site all
    words = sym (words_by_role channels s values (drop taken got) n ns r e ∙ ap (words_on channels s values (drop taken got) ns c) o) ∙ st.words_left

    given : role_value m values site n r ≡ received channels c true first
    given = ap (λ b. received channels c b (m.words site)) o ∙ ap (received channels c true) (head_at no_word first _ all site words)

-- ---- a send

send_turn : (channels : List Channel) (proc : Proc) (s : Value) (got : List Word) (done : ℕ) (values : List Value) (site taken : ℕ) (n : Node) (ns : List Node) (predicate : Option Operand) (c : ℕ) (on : Bool) → role_of n ≡ role.Send predicate c → is_on s values predicate ≡ on → StandsBehind channels proc s got done values site taken (n ∷ ns) → (activation channels proc).turn s got site ≡ (if on then Give (sent_by n s values) else Skip)
send_turn channels proc s got done values site taken n ns predicate c on e o st =
    turn_is channels proc s got site _ _ (sym (turns_at (setting_of channels proc.nodes s got) values site n ns (role.Send predicate c) e) ∙ st.turns_left)
    ∙ ap (λ b. if b then Give (sent_by n s values) else Skip) o

pub send_next : (channels : List Channel) (proc : Proc) (s : Value) (got : List Word) (done : ℕ) (values : List Value) (site taken : ℕ) (n : Node) (ns : List Node) (predicate : Option Operand) (c : ℕ) → role_of n ≡ role.Send predicate c → is_on s values predicate ≡ true → done ≤ site → StandsBehind channels proc s got done values site taken (n ∷ ns) → Send site (sent_by n s values) ≡ next_event (activation channels proc) s got done
unfolding event_at
send_next channels proc s got done values site taken n ns predicate c e o h st =
    sym (st.event ∙ stops channels proc s got done site (record { chan = c; sends = true }) (sites_of ns) (Give (sent_by n s values)) (sym (sites_at n ns (role.Send predicate c) e) ∙ st.sites_left) h (send_turn channels proc s got done values site taken n ns predicate c true e o st))

pub stands_sent : (channels : List Channel) (proc : Proc) (s : Value) (got : List Word) (done : ℕ) (values : List Value) (site taken : ℕ) (n : Node) (ns : List Node) (predicate : Option Operand) (c : ℕ) → role_of n ≡ role.Send predicate c → (done ≤ site → is_on s values predicate ≡ false) → StandsBehind channels proc s got done values site taken (n ∷ ns) → StandsBehind channels proc s got done (values ++ no_value ∷ []) (suc site) taken ns
unfolding words_at
stands_sent channels proc s got done values site taken n ns predicate c e o st =
    record {
      values_are = sym (values_at m values site n ns r e) ∙ st.values_are;
      words_left = tail_at no_word (words_from channels s (values ++ no_value ∷ []) (drop taken got) ns) (words_from channels s [] got proc.nodes) site words;
      turns_left = tail_at _ _ (turns_of channels proc.nodes s got) site (sym (turns_at m values site n ns r e) ∙ st.turns_left);
      sites_left = tail_at _ _ (sites_of proc.nodes) site (sym (sites_at n ns r e) ∙ st.sites_left);
      event = st.event ∙ passes channels proc s got done site _ _ (sym (sites_at n ns r e) ∙ st.sites_left) (λ h. send_turn channels proc s got done values site taken n ns predicate c false e (o h) st);
    }
  where
    m : Setting
    m = setting_of channels proc.nodes s got

    r : Role
    r = role.Send predicate c

    words : no_word ∷ words_from channels s (values ++ no_value ∷ []) (drop taken got) ns ≡ drop site (words_from channels s [] got proc.nodes)
    words = sym (words_by_role channels s values (drop taken got) n ns r e) ∙ st.words_left

-- ---- the end

pub end_next : (channels : List Channel) (proc : Proc) (s : Value) (got : List Word) (done : ℕ) (values : List Value) (site taken : ℕ) → StandsBehind channels proc s got done values site taken [] → End (operand_value s values proc.next) ≡ next_event (activation channels proc) s got done
unfolding values_from event_from activation
end_next channels proc s got done values site taken st =
    ap (λ vs. End (operand_value s vs proc.next)) values_end ∙ sym (st.event ∙ ap (event_from (activation channels proc) s got (max done site)) none ∙ ended)
  where
    values_end : values ≡ node_values (setting_of channels proc.nodes s got) proc.nodes
    values_end = st.values_are

    within : site ≤ max done site
    within = omega arith

    none : drop (max done site) (sites_of proc.nodes) ≡ []
    none = drop_on site (max done site) (sites_of proc.nodes) (sym st.sites_left) within

    ended : event_from (activation channels proc) s got (max done site) [] ≡ End (operand_value s (node_values (setting_of channels proc.nodes s got) proc.nodes) proc.next)
    ended = refl

pub off_or_past : (on : Bool) (done site : ℕ) → (on && nat_le done site) ≡ false → done ≤ site → on ≡ false
off_or_past true done site e h = absurd (grind (arith, nat_tests))
off_or_past false done site e h = refl

pub on_and_past : (on : Bool) (done site : ℕ) → (on && nat_le done site) ≡ true → (on ≡ true) × (done ≤ site)
on_and_past true done site e = (refl, grind (arith, nat_tests))
on_and_past false done site e = absurd (cc)

-- ---- words that are the same as far as they were taken

pub took : (i j : ℕ) (xs ys : List Word) → i ≤ j → take j xs ≡ take j ys → take i xs ≡ take i ys
took zero j xs ys h e = refl
took (suc i) zero xs ys h e = absurd (omega arith)
took (suc i) (suc j) [] [] h e = refl
took (suc i) (suc j) [] (y ∷ ys) h e = absurd (cc)
took (suc i) (suc j) (x ∷ xs) [] h e = absurd (cc)
took (suc i) (suc j) (x ∷ xs) (y ∷ ys) h e =
    let first : x ≡ y = cc in
    let rest : take j xs ≡ take j ys = cc in
    ap (λ w. w ∷ take i xs) first ∙ ap (λ ws. y ∷ ws) (took i j xs ys (omega arith) rest)

-- the next one is the same
pub took_next : (i : ℕ) (xs ys : List Word) → take (suc i) xs ≡ take (suc i) ys → first_word (drop i xs) ≡ first_word (drop i ys)
took_next i [] [] e = refl
took_next i [] (y ∷ ys) e = absurd (cc)
took_next i (x ∷ xs) [] e = absurd (cc)
took_next zero (x ∷ xs) (y ∷ ys) e = let first : x ≡ y = cc in first
took_next (suc i) (x ∷ xs) (y ∷ ys) e = let rest : take (suc i) xs ≡ take (suc i) ys = cc in took_next i xs ys rest
