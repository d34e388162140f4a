-- An IR proc does at a site what it does by a word for each site, where it received just those of the sites before that are on.
use Rattle.std.proofs.Common.{◌≡◌, ℕ, zero, suc, ◌+◌, ◌≤◌, List, [], ◌∷◌, ◌++◌, drop, take, length, get_or, refl, sym, ap, subst, ◌∙◌, arith, true, false, Bool, Option, Some}
use Rattle.std.specs.Prelude.{if◌then◌else◌, slice_get}
use Rattle.xb_bits.specs.Word.{Word}
use Rattle.xb_value.specs.declared.value.Value.{Value}
use Rattle.net_core.specs.declared.net.Site.{Site}
use Rattle.net_core.specs.Behavior.{Turn, Skip, Receive, Give}
use Rattle.ir_tree.specs.declared.node.Node.{Node}
use Rattle.ir_tree.specs.declared.node.Operand.{Operand}
use Rattle.ir_tree.specs.declared.node.Role.{Role}
use Rattle.ir_tree.specs.declared.node.Role.TheVariants as role
use Rattle.ir_tree.specs.declared.package.Channel.{Channel}
use Rattle.ir_tree.specs.declared.package.Proc.{Proc}
use Rattle.ir_tree.specs.Constants.{no_value}
use Rattle.ir_tree.specs.NodeValues.{role_of, Setting, is_on, operand_value, received, pure_value, no_word, next_site, role_value, values_from, node_values, count_sites}
use Rattle.ir_tree.specs.Activations.{sites_by, sites_of, sent_by, turns_by, turns_from, first_word, words_from, site_words, activation}
use Rattle.block_build.specs.Netlist.Turns.{grown, DoesTurns}
use Rattle.block_build.specs.Netlist.Procs.{setting_by, turns_by_words, gathered}
use Rattle.block_build.specs.Netlist.Nodes.{site_index}

-- ---- what lists hold behind a node, by its role

words_on : List Channel → Value → List Value → List Word → List Node → ℕ → Bool → List Word
words_on channels s values left ns c true = first_word left ∷ words_from channels s (values ++ received channels c true (first_word left) ∷ []) (drop 1 left) ns
words_on channels s values left ns c false = no_word ∷ words_from channels s (values ++ received channels c false no_word ∷ []) left ns

words_at : List Channel → Value → List Value → List Word → Node → List Node → Role → List Word
words_at channels s values left n ns role.Pure = words_from channels s (values ++ pure_value n s values ∷ []) left ns
words_at channels s values left n ns (role.Receive predicate c) = words_on channels s values left ns c (is_on s values predicate)
words_at channels s values left n ns (role.Send predicate c) = no_word ∷ words_from channels s (values ++ no_value ∷ []) left ns

words_are : (channels : List Channel) (s : Value) (values : List Value) (left : List Word) (n : Node) (ns : List Node) → words_from channels s values left (n ∷ ns) ≡ words_at channels s values left n ns (role_of n)
unfolding words_from words_at words_on
words_are channels s values left n ns = refl

words_by_role : (channels : List Channel) (s : Value) (values : List Value) (left : List Word) (n : Node) (ns : List Node) (r : Role) → role_of n ≡ r
    → words_from channels s values left (n ∷ ns) ≡ words_at channels s values left n ns r
words_by_role channels s values left n ns r e = words_are channels s values left n ns ∙ ap (words_at channels s values left n ns) e

turns_at : (m : Setting) (values : List Value) (k : ℕ) (n : Node) (ns : List Node) (r : Role) → role_of n ≡ r
    → turns_from m values k (n ∷ ns) ≡ turns_by m values n r (turns_from m (values ++ role_value m values k n r ∷ []) (next_site k r) ns)
unfolding turns_from
turns_at m values k n ns r e = ap (λ x. turns_by m values n x (turns_from m (values ++ role_value m values k n x ∷ []) (next_site k x) ns)) e

turns_end : (m : Setting) (values : List Value) (k : ℕ) → turns_from m values k [] ≡ []
unfolding turns_from
turns_end m values k = refl

-- ---- the words received at the first r of the sites among these nodes

take_word : Bool → Word → List Word → List Word
take_word true w ws = w ∷ ws
take_word false w ws = ws

prefix_by : Setting → List Value → ℕ → Node → Role → ℕ → (List Value → ℕ → ℕ → List Word) → List Word
prefix_by m values k n role.Pure r rest = rest (values ++ role_value m values k n role.Pure ∷ []) k r
prefix_by m values k n (role.Receive predicate c) zero rest = []
prefix_by m values k n (role.Receive predicate c) (suc r) rest =
    take_word (is_on m.state values predicate) (m.words k) (rest (values ++ role_value m values k n (role.Receive predicate c) ∷ []) (suc k) r)
prefix_by m values k n (role.Send predicate c) zero rest = []
prefix_by m values k n (role.Send predicate c) (suc r) rest = rest (values ++ role_value m values k n (role.Send predicate c) ∷ []) (suc k) r

prefix_words : Setting → List Value → ℕ → List Node → ℕ → List Word
prefix_words m values k [] r = []
prefix_words m values k (n ∷ ns) r = prefix_by m values k n (role_of n) r (λ vs j x. prefix_words m vs j ns x)

prefix_at : (m : Setting) (values : List Value) (k : ℕ) (n : Node) (ns : List Node) (r : ℕ) (rl : Role) → role_of n ≡ rl
    → prefix_words m values k (n ∷ ns) r ≡ prefix_by m values k n rl r (λ vs j x. prefix_words m vs j ns x)
unfolding prefix_words
prefix_at m values k n ns r rl e = ap (λ x. prefix_by m values k n x r (λ vs j x. prefix_words m vs j ns x)) e

prefix_end : (m : Setting) (values : List Value) (k r : ℕ) → prefix_words m values k [] r ≡ []
unfolding prefix_words
prefix_end m values k r = refl

prefix_zero : (m : Setting) (values : List Value) (k : ℕ) (ns : List Node) → prefix_words m values k ns zero ≡ []
unfolding prefix_by
prefix_zero m values k [] = prefix_end m values k zero
prefix_zero m values k (n ∷ ns) = prefix_at m values k n ns zero (role_of n) refl ∙ go (role_of n) (λ vs. prefix_zero m vs k ns)
  where
    go : (rl : Role) → ((vs : List Value) → prefix_words m vs k ns zero ≡ []) → prefix_by m values k n rl zero (λ vs j x. prefix_words m vs j ns x) ≡ []
    go role.Pure ih = ih (values ++ role_value m values k n role.Pure ∷ [])
    go (role.Receive predicate c) ih = refl
    go (role.Send predicate c) ih = refl

-- one site more
take_grown : (on : Bool) (w : Word) (turn : Turn) (u : Word) (ws : List Word) → take_word on w (grown turn u ws) ≡ grown turn u (take_word on w ws)
unfolding take_word
take_grown true w Skip u ws = refl
take_grown true w Receive u ws = refl
take_grown true w (Give x) u ws = refl
take_grown false w turn u ws = refl

first_grown : (on : Bool) (w : Word) → take_word on w [] ≡ grown (if on then Receive else Skip) w []
unfolding take_word
first_grown true w = refl
first_grown false w = refl

none_grown : (on : Bool) (w u : Word) → ◌≡◌ {A = List Word} [] (grown (if on then Give u else Skip) w [])
none_grown true w u = refl
none_grown false w u = refl

abbrev turn_from : Setting → List Value → ℕ → List Node → ℕ → Turn
turn_from m values k ns r = get_or (turns_from m values k ns) r Skip

prefix_snoc : (m : Setting) (values : List Value) (k : ℕ) (ns : List Node) (r : ℕ)
    → prefix_words m values k ns (suc r) ≡ grown (turn_from m values k ns r) (m.words (k + r)) (prefix_words m values k ns r)
unfolding prefix_by
prefix_snoc m values k [] r =
    prefix_end m values k (suc r) ∙ sym (ap (grown Skip (m.words (k + r))) (prefix_end m values k r)) ∙ ap (λ ts. grown (get_or ts r Skip) (m.words (k + r)) (prefix_words m values k [] r)) (sym (turns_end m values k))
prefix_snoc m values k (n ∷ ns) r =
    prefix_at m values k n ns (suc r) (role_of n) refl
    ∙ go (role_of n) r (λ vs j x. prefix_snoc m vs j ns x)
    ∙ ap (grown (get_or (turns_by m values n (role_of n) (turns_from m (values ++ role_value m values k n (role_of n) ∷ []) (next_site k (role_of n)) ns)) r Skip) (m.words (k + r))) (sym (prefix_at m values k n ns r (role_of n) refl))
    ∙ ap (λ ts. grown (get_or ts r Skip) (m.words (k + r)) (prefix_words m values k (n ∷ ns) r)) (sym (turns_at m values k n ns (role_of n) refl))
  where
    go : (rl : Role) (r : ℕ) → ((vs : List Value) (j x : ℕ) → prefix_words m vs j ns (suc x) ≡ grown (turn_from m vs j ns x) (m.words (j + x)) (prefix_words m vs j ns x))
        → prefix_by m values k n rl (suc r) (λ vs j x. prefix_words m vs j ns x)
        ≡ grown (get_or (turns_by m values n rl (turns_from m (values ++ role_value m values k n rl ∷ []) (next_site k rl) ns)) r Skip) (m.words (k + r)) (prefix_by m values k n rl r (λ vs j x. prefix_words m vs j ns x))
    go role.Pure r ih = ih (values ++ role_value m values k n role.Pure ∷ []) k r
    go (role.Receive predicate c) zero ih =
        let e : k + zero ≡ k = omega arith in
        ap (take_word (is_on m.state values predicate) (m.words k)) (prefix_zero m (values ++ role_value m values k n (role.Receive predicate c) ∷ []) (suc k) ns)
        ∙ first_grown (is_on m.state values predicate) (m.words k)
        ∙ ap (λ j. grown (if is_on m.state values predicate then Receive else Skip) (m.words j) []) (sym e)
    go (role.Receive predicate c) (suc r) ih =
        let vs = values ++ role_value m values k n (role.Receive predicate c) ∷ [] in
        let e : suc k + r ≡ k + suc r = omega arith in
        ap (take_word (is_on m.state values predicate) (m.words k)) (ih vs (suc k) r)
        ∙ take_grown (is_on m.state values predicate) (m.words k) (turn_from m vs (suc k) ns r) (m.words (suc k + r)) (prefix_words m vs (suc k) ns r)
        ∙ ap (λ j. grown (turn_from m vs (suc k) ns r) (m.words j) (take_word (is_on m.state values predicate) (m.words k) (prefix_words m vs (suc k) ns r))) e
    go (role.Send predicate c) zero ih =
        prefix_zero m (values ++ role_value m values k n (role.Send predicate c) ∷ []) (suc k) ns
        ∙ none_grown (is_on m.state values predicate) (m.words (k + zero)) (sent_by n m.state values)
    go (role.Send predicate c) (suc r) ih =
        let vs = values ++ role_value m values k n (role.Send predicate c) ∷ [] in
        let e : suc k + r ≡ k + suc r = omega arith in
        ih vs (suc k) r ∙ ap (λ j. grown (turn_from m vs (suc k) ns r) (m.words j) (prefix_words m vs (suc k) ns r)) e

-- ---- the turn at a site, by the words of the sites before that are on

abbrev Same : List Channel → Value → (ℕ → Word) → (ℕ → Word) → List Node → Type 0
Same channels s words others ns =
    (vs : List Value) (j : ℕ) (l : List Word) (x : ℕ) → ((y : ℕ) → others (j + y) ≡ site_words (words_from channels s vs l ns) y) → l ≡ prefix_words (setting_by channels s words) vs j ns x
    → turn_from (setting_by channels s others) vs j ns x ≡ turn_from (setting_by channels s words) vs j ns x

turn_same : (channels : List Channel) (s : Value) (words others : ℕ → Word) (ns : List Node) (values : List Value) (k : ℕ) (left : List Word) (r : ℕ)
    → ((x : ℕ) → others (k + x) ≡ site_words (words_from channels s values left ns) x)
    → left ≡ prefix_words (setting_by channels s words) values k ns r
    → turn_from (setting_by channels s others) values k ns r ≡ turn_from (setting_by channels s words) values k ns r
unfolding words_at prefix_by words_on take_word
turn_same channels s words others [] values k left r same is =
    ap (λ ts. get_or ts r Skip) (turns_end (setting_by channels s others) values k ∙ sym (turns_end (setting_by channels s words) values k))
turn_same channels s words others (n ∷ ns) values k left r same is =
    ap (λ ts. get_or ts r Skip) (turns_at m' values k n ns (role_of n) refl)
    ∙ go (role_of n) r (λ x. same x ∙ ap (λ ws. site_words ws x) (words_by_role channels s values left n ns (role_of n) refl)) (is ∙ prefix_at m values k n ns r (role_of n) refl)
    (λ vs j l x. turn_same channels s words others ns vs j l x)
    ∙ ap (λ ts. get_or ts r Skip) (sym (turns_at m values k n ns (role_of n) refl))
  where
    m : Setting
    m = setting_by channels s words

    m' : Setting
    m' = setting_by channels s others

    go : (rl : Role) (r : ℕ) → ((x : ℕ) → others (k + x) ≡ site_words (words_at channels s values left n ns rl) x) → left ≡ prefix_by m values k n rl r (λ vs j x. prefix_words m vs j ns x) → Same channels s words others ns
        → get_or (turns_by m' values n rl (turns_from m' (values ++ role_value m' values k n rl ∷ []) (next_site k rl) ns)) r Skip
        ≡ get_or (turns_by m values n rl (turns_from m (values ++ role_value m values k n rl ∷ []) (next_site k rl) ns)) r Skip
    go role.Pure r w l ih = ih (values ++ pure_value n s values ∷ []) k left r w l
    go (role.Receive predicate c) zero w l ih = refl
    go (role.Receive predicate c) (suc r) w l ih = by_on (is_on s values predicate) w l
      where
        by_on : (on : Bool) → ((x : ℕ) → others (k + x) ≡ site_words (words_on channels s values left ns c on) x)
            → left ≡ take_word on (words k) (prefix_words m (values ++ received channels c on (words k) ∷ []) (suc k) ns r)
            → turn_from m' (values ++ received channels c on (others k) ∷ []) (suc k) ns r ≡ turn_from m (values ++ received channels c on (words k) ∷ []) (suc k) ns r
        by_on true w l =
            let rest = prefix_words m (values ++ received channels c true (words k) ∷ []) (suc k) ns r in
            let zero_on : k + zero ≡ k = omega arith in
            let here : others k ≡ words k = ap others (sym zero_on) ∙ w zero ∙ ap first_word l in
            ap (λ x. turn_from m' (values ++ received channels c true x ∷ []) (suc k) ns r) here
            ∙ ih (values ++ received channels c true (words k) ∷ []) (suc k) rest r
            (λ y. let e : suc k + y ≡ k + suc y = omega arith in
            ap others e ∙ w (suc y) ∙ ap (λ ws. site_words (words_from channels s (values ++ received channels c true (first_word ws) ∷ []) (drop 1 ws) ns) y) l) refl
        by_on false w l =
            ih (values ++ received channels c false (words k) ∷ []) (suc k) left r
            (λ y. let e : suc k + y ≡ k + suc y = omega arith in ap others e ∙ w (suc y)) l
    go (role.Send predicate c) zero w l ih = refl
    go (role.Send predicate c) (suc r) w l ih =
        ih (values ++ no_value ∷ []) (suc k) left r (λ y. let e : suc k + y ≡ k + suc y = omega arith in ap others e ∙ w (suc y)) l

-- ---- a proc

gathered_are : (channels : List Channel) (nodes : List Node) (s : Value) (words : ℕ → Word) (i : ℕ)
    → gathered (turns_by_words channels nodes s words) words i ≡ prefix_words (setting_by channels s words) [] 0 nodes i
gathered_are channels nodes s words zero = sym (prefix_zero (setting_by channels s words) [] 0 nodes)
gathered_are channels nodes s words (suc i) =
    let e : 0 + i ≡ i = omega arith in
    ap (grown (turns_by_words channels nodes s words i) (words i)) (gathered_are channels nodes s words i)
    ∙ ap (λ j. grown (turns_by_words channels nodes s words i) (words j) (prefix_words (setting_by channels s words) [] 0 nodes i)) (sym e)
    ∙ sym (prefix_snoc (setting_by channels s words) [] 0 nodes i)

turn_of_proc : (channels : List Channel) (proc : Proc) (s : Value) (got : List Word) (i : ℕ)
    → (activation channels proc).turn s got i ≡ turn_from (setting_by channels s (site_words (words_from channels s [] got proc.nodes))) [] 0 proc.nodes i
unfolding activation
turn_of_proc channels proc s got i = refl

pub procs_do_what_words_say : (channels : List Channel) (proc : Proc) (s : Value) (words : ℕ → Word) (i : ℕ)
    → (activation channels proc).turn s (gathered (turns_by_words channels proc.nodes s words) words i) i ≡ turns_by_words channels proc.nodes s words i
procs_do_what_words_say channels proc s words i =
    let got = gathered (turns_by_words channels proc.nodes s words) words i in
    turn_of_proc channels proc s got i
    ∙ turn_same channels s words (site_words (words_from channels s [] got proc.nodes)) proc.nodes [] 0 got i
    (λ x. let e : 0 + x ≡ x = omega arith in ap (site_words (words_from channels s [] got proc.nodes)) e)
    (gathered_are channels proc.nodes s words i)

-- so at all sites from one on
pub procs_do_their_turns : (channels : List Channel) (proc : Proc) (s : Value) (words : ℕ → Word) (i n : ℕ)
    → let turns = turns_by_words channels proc.nodes s words in DoesTurns (activation channels proc) s turns words (gathered turns words i) i n
procs_do_their_turns channels proc s words i zero = tt
procs_do_their_turns channels proc s words i (suc n) = (procs_do_what_words_say channels proc s words i, procs_do_their_turns channels proc s words (suc i) n)

-- ---- the values of all nodes, where all words are received

pub count_grows : (i : ℕ) (nodes : List Node) → i ≤ count_sites i nodes
unfolding count_sites
count_grows i [] = omega arith
count_grows i (n ∷ ns) = let rest = count_grows (next_site i (role_of n)) ns in omega (arith, rest, step (role_of n))
  where
    step : (r : Role) → i ≤ next_site i r
    step role.Pure = omega arith
    step (role.Receive predicate c) = omega arith
    step (role.Send predicate c) = omega arith

abbrev AllSame : List Channel → Value → (ℕ → Word) → (ℕ → Word) → List Node → Type 0
AllSame channels s words others ns =
    (vs : List Value) (j : ℕ) (l : List Word) (x : ℕ) → ((y : ℕ) → others (j + y) ≡ site_words (words_from channels s vs l ns) y) → l ≡ prefix_words (setting_by channels s words) vs j ns x → count_sites j ns ≤ j + x
    → values_from (setting_by channels s others) vs j ns ≡ values_from (setting_by channels s words) vs j ns

values_same : (channels : List Channel) (s : Value) (words others : ℕ → Word) (ns : List Node) (values : List Value) (k : ℕ) (left : List Word) (r : ℕ)
    → ((x : ℕ) → others (k + x) ≡ site_words (words_from channels s values left ns) x) → left ≡ prefix_words (setting_by channels s words) values k ns r → count_sites k ns ≤ k + r
    → values_from (setting_by channels s others) values k ns ≡ values_from (setting_by channels s words) values k ns
unfolding values_from count_sites words_at prefix_by words_on take_word
values_same channels s words others [] values k left r same is all = refl
values_same channels s words others (n ∷ ns) values k left r same is all =
    go (role_of n) r (λ x. same x ∙ ap (λ ws. site_words ws x) (words_by_role channels s values left n ns (role_of n) refl)) (is ∙ prefix_at m values k n ns r (role_of n) refl) all
    (λ vs j l x. values_same channels s words others ns vs j l x)
  where
    m : Setting
    m = setting_by channels s words

    m' : Setting
    m' = setting_by channels s others

    go : (rl : Role) (r : ℕ) → ((x : ℕ) → others (k + x) ≡ site_words (words_at channels s values left n ns rl) x) → left ≡ prefix_by m values k n rl r (λ vs j x. prefix_words m vs j ns x)
        → count_sites (next_site k rl) ns ≤ k + r → AllSame channels s words others ns
        → values_from m' (values ++ role_value m' values k n rl ∷ []) (next_site k rl) ns ≡ values_from m (values ++ role_value m values k n rl ∷ []) (next_site k rl) ns
    go role.Pure r w l a ih = ih (values ++ pure_value n s values ∷ []) k left r w l a
    go (role.Receive predicate c) zero w l a ih = absurd (let g = count_grows (suc k) ns in omega (arith, g, a))
    go (role.Receive predicate c) (suc r) w l a ih = by_on (is_on s values predicate) w l
      where
        by_on : (on : Bool) → ((x : ℕ) → others (k + x) ≡ site_words (words_on channels s values left ns c on) x)
            → left ≡ take_word on (words k) (prefix_words m (values ++ received channels c on (words k) ∷ []) (suc k) ns r)
            → values_from m' (values ++ received channels c on (others k) ∷ []) (suc k) ns ≡ values_from m (values ++ received channels c on (words k) ∷ []) (suc k) ns
        by_on true w l =
            let rest = prefix_words m (values ++ received channels c true (words k) ∷ []) (suc k) ns r in
            let zero_on : k + zero ≡ k = omega arith in
            let here : others k ≡ words k = ap others (sym zero_on) ∙ w zero ∙ ap first_word l in
            ap (λ x. values_from m' (values ++ received channels c true x ∷ []) (suc k) ns) here
            ∙ ih (values ++ received channels c true (words k) ∷ []) (suc k) rest r
            (λ y. let e : suc k + y ≡ k + suc y = omega arith in
            ap others e ∙ w (suc y) ∙ ap (λ ws. site_words (words_from channels s (values ++ received channels c true (first_word ws) ∷ []) (drop 1 ws) ns) y) l) refl (omega (arith, a))
        by_on false w l =
            ih (values ++ received channels c false (words k) ∷ []) (suc k) left r
            (λ y. let e : suc k + y ≡ k + suc y = omega arith in ap others e ∙ w (suc y)) l (omega (arith, a))
    go (role.Send predicate c) zero w l a ih = absurd (let g = count_grows (suc k) ns in omega (arith, g, a))
    go (role.Send predicate c) (suc r) w l a ih =
        ih (values ++ no_value ∷ []) (suc k) left r (λ y. let e : suc k + y ≡ k + suc y = omega arith in ap others e ∙ w (suc y)) l (omega (arith, a))

next_of_proc : (channels : List Channel) (proc : Proc) (s : Value) (got : List Word)
    → (activation channels proc).next_state s got ≡ operand_value s (node_values (setting_by channels s (site_words (words_from channels s [] got proc.nodes))) proc.nodes) proc.next
unfolding activation
next_of_proc channels proc s got = refl

-- the next state is the value of its operand by words that are all received
pub next_state_is_by_words : (channels : List Channel) (proc : Proc) (s : Value) (words : ℕ → Word) (i : ℕ) → count_sites 0 proc.nodes ≤ i
    → (activation channels proc).next_state s (gathered (turns_by_words channels proc.nodes s words) words i) ≡ operand_value s (node_values (setting_by channels s words) proc.nodes) proc.next
next_state_is_by_words channels proc s words i all =
    let got = gathered (turns_by_words channels proc.nodes s words) words i in
    next_of_proc channels proc s got
    ∙ ap (λ vs. operand_value s vs proc.next)
    (values_same channels s words (site_words (words_from channels s [] got proc.nodes)) proc.nodes [] 0 got i
    (λ x. let e : 0 + x ≡ x = omega arith in ap (site_words (words_from channels s [] got proc.nodes)) e)
    (gathered_are channels proc.nodes s words i) (omega (arith, all)))

-- the sites of a proc
sites_counted : (i : ℕ) (nodes : List Node) → count_sites i nodes ≡ i + length (sites_of nodes)
unfolding count_sites
sites_counted i [] = omega arith
sites_counted i (n ∷ ns) = go (role_of n) (λ k. sites_counted k ns)
  where
    go : (rl : Role) → ((k : ℕ) → count_sites k ns ≡ k + length (sites_of ns)) → count_sites (next_site i rl) ns ≡ i + length (sites_by rl (sites_of ns))
    go role.Pure ih = ih i
    go (role.Receive predicate c) ih = omega (arith, ih (suc i))
    go (role.Send predicate c) ih = omega (arith, ih (suc i))

pub sites_are : (channels : List Channel) (proc : Proc) → (activation channels proc).sites ≡ sites_of proc.nodes
unfolding activation
sites_are channels proc = refl

pub site_count_is : (channels : List Channel) (proc : Proc) → count_sites 0 proc.nodes ≡ length (activation channels proc).sites
site_count_is channels proc = let e = sites_counted 0 proc.nodes in omega (arith, e, ap length (sites_are channels proc))

abbrev IsSiteOf : List Site → ℕ → Role → Type 0
IsSiteOf sites i role.Pure = Unit {0}
IsSiteOf sites i (role.Receive predicate c) = slice_get sites i ≡ Some (record { chan = c; sends = false })
IsSiteOf sites i (role.Send predicate c) = slice_get sites i ≡ Some (record { chan = c; sends = true })

site_there : (i : ℕ) (nodes : List Node) (k : ℕ) (n : Node) → slice_get nodes k ≡ Some n → (r : ℕ) → count_sites i (take k nodes) ≡ i + r → IsSiteOf (sites_of nodes) r (role_of n)
unfolding count_sites
site_there i [] k n e r c = absurd (cc)
site_there i (x ∷ ns) zero n e r c =
    let same : x ≡ n = cc in
    let none : r ≡ 0 = omega (arith, c) in
    subst (λ y. IsSiteOf (sites_of (x ∷ ns)) r (role_of y)) same (subst (λ j. IsSiteOf (sites_of (x ∷ ns)) j (role_of x)) (sym none) (here (role_of x)))
  where
    here : (rl : Role) → IsSiteOf (sites_by rl (sites_of ns)) 0 rl
    here role.Pure = tt
    here (role.Receive predicate d) = refl
    here (role.Send predicate d) = refl
site_there i (x ∷ ns) (suc k) n e r c = later (role_of x) r c (λ j y d. site_there j ns k n e y d)
  where
    there : (rl : Role) (t : Site) (r : ℕ) → IsSiteOf (sites_of ns) r rl → IsSiteOf (t ∷ sites_of ns) (suc r) rl
    there role.Pure t r h = tt
    there (role.Receive predicate d) t r h = h
    there (role.Send predicate d) t r h = h

    later : (rl : Role) (r : ℕ) → count_sites (next_site i rl) (take k ns) ≡ i + r → ((j y : ℕ) → count_sites j (take k ns) ≡ j + y → IsSiteOf (sites_of ns) y (role_of n)) → IsSiteOf (sites_by rl (sites_of ns)) r (role_of n)
    later role.Pure r c ih = ih i r c
    later (role.Receive predicate d) zero c ih = absurd (let g = count_grows (suc i) (take k ns) in omega (arith, g, c))
    later (role.Receive predicate d) (suc r) c ih = there (role_of n) (record { chan = d; sends = false }) r (ih (suc i) r (omega (arith, c)))
    later (role.Send predicate d) zero c ih = absurd (let g = count_grows (suc i) (take k ns) in omega (arith, g, c))
    later (role.Send predicate d) (suc r) c ih = there (role_of n) (record { chan = d; sends = true }) r (ih (suc i) r (omega (arith, c)))

-- a receive's site is one that receives
pub receive_site : (channels : List Channel) (proc : Proc) (k : ℕ) (n : Node) (predicate : Option Operand) (c : ℕ) → slice_get proc.nodes k ≡ Some n → role_of n ≡ role.Receive predicate c
    → slice_get (activation channels proc).sites (site_index proc.nodes k) ≡ Some (record { chan = c; sends = false })
receive_site channels proc k n predicate c e is =
    let at : count_sites 0 (take k proc.nodes) ≡ 0 + site_index proc.nodes k = omega arith in
    ap (λ sites. slice_get sites (site_index proc.nodes k)) (sites_are channels proc)
    ∙ subst (IsSiteOf (sites_of proc.nodes) (site_index proc.nodes k)) is (site_there 0 proc.nodes k n e (site_index proc.nodes k) at)

pub send_site : (channels : List Channel) (proc : Proc) (k : ℕ) (n : Node) (predicate : Option Operand) (c : ℕ) → slice_get proc.nodes k ≡ Some n → role_of n ≡ role.Send predicate c
    → slice_get (activation channels proc).sites (site_index proc.nodes k) ≡ Some (record { chan = c; sends = true })
send_site channels proc k n predicate c e is =
    let at : count_sites 0 (take k proc.nodes) ≡ 0 + site_index proc.nodes k = omega arith in
    ap (λ sites. slice_get sites (site_index proc.nodes k)) (sites_are channels proc)
    ∙ subst (IsSiteOf (sites_of proc.nodes) (site_index proc.nodes k)) is (site_there 0 proc.nodes k n e (site_index proc.nodes k) at)
