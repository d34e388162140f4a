-- The values of nodes by words for the sites: each by those before it, and the same by words that agree where they are read.
use Rattle.std.proofs.Common.{◌≡◌, ℕ, zero, suc, ◌+◌, ◌<◌, ◌≤◌, List, [], ◌∷◌, ◌++◌, map, take, length, get_or, refl, sym, ap, ap₂, ◌∙◌, arith, Option, Some, None, length-append}
use Rattle.std.specs.Prelude.{slice_get}
use Rattle.std.specs.List.{AllByRecursion}
use Rattle.std.proofs.lemmas.List.{get_or_append_left, get_or_push, get_or_past}
use Rattle.xb_bits.specs.Word.{Word}
use Rattle.xb_value.specs.declared.value.Value.{Value, out-Value}
use Rattle.delay_model.specs.declared.op.Op.{Op}
use Rattle.delay_model.specs.declared.op.Op.TheVariants as op
use Rattle.ir_tree.specs.declared.ir_type.IrType.{IrType}
use Rattle.ir_tree.specs.declared.node.Attributes.{Attributes}
use Rattle.ir_tree.specs.declared.node.Attributes.TheVariants as attributes
use Rattle.ir_tree.specs.declared.node.Node.{Node}
use Rattle.ir_tree.specs.declared.node.Operand.{Operand}
use Rattle.ir_tree.specs.declared.node.Operand.TheVariants as operand
use Rattle.ir_tree.specs.declared.node.Role.{Role}
use Rattle.ir_tree.specs.declared.node.Role.TheVariants as role
use Rattle.ir_tree.specs.declared.package.Channel.{Channel}
use Rattle.ir_tree.specs.Activations.{sent, sent_by}
use Rattle.ir_tree.specs.Constants.{no_value}
use Rattle.ir_tree.specs.NodeValues.{operand_value, optional_value, pure_value, role_of, role_by, role_at, is_on, is_one, received, Setting, role_value, value_by, next_site, values_from, node_values, count_sites}
use Rattle.ir_tree.specs.Operations.{plain_value, of_one, of_two, on_word, on_words, on_tuple, slice_value, dyn_slice_value, longer_value, chosen, element_at, index_value}
use Rattle.block_build.specs.Netlist.Procs.{setting_by}
use Rattle.block_build.specs.Netlist.Nodes.{optional_read, attributes_read, operands_read, IsEarlier, ReadEarlierNodes, site_index, value_by_words, IsSiteStage, AreStaged, predicate_of}

-- ---- two readings of operands that agree on those that a node reads

abbrev pub Agree : (Operand → Value) → (Operand → Value) → List Operand → Type 0
Agree f g = AllByRecursion (λ o. f o ≡ g o)

agree_front : (f g : Operand → Value) (xs ys : List Operand) → Agree f g (xs ++ ys) → Agree f g xs
agree_front f g [] ys h = tt
agree_front f g (x ∷ xs) ys h = (h.0, agree_front f g xs ys h.1)

pub agree_rest : (f g : Operand → Value) (xs ys : List Operand) → Agree f g (xs ++ ys) → Agree f g ys
agree_rest f g [] ys h = h
agree_rest f g (x ∷ xs) ys h = agree_rest f g xs ys h.1

map_agrees : (f g : Operand → Value) (xs : List Operand) → Agree f g xs → map f xs ≡ map g xs
map_agrees f g [] h = refl
map_agrees f g (x ∷ xs) h = ap₂ (λ y ys. y ∷ ys) h.0 (map_agrees f g xs h.1)

chosen_agrees : (s s' : Value) (values values' : List Value) (cases : List Operand) (default : Option Operand) (n : ℕ)
    → Agree (operand_value s values) (operand_value s' values') (cases ++ optional_read default) → optional_value s values (chosen cases default n) ≡ optional_value s' values' (chosen cases default n)
chosen_agrees s s' values values' [] None n h = refl
chosen_agrees s s' values values' [] (Some d) n h = h.0
chosen_agrees s s' values values' (c ∷ cases) default zero h = h.0
chosen_agrees s s' values values' (c ∷ cases) default (suc n) h = chosen_agrees s s' values values' cases default n h.1

abbrev node_of : ℕ → IrType → Op → List Operand → Attributes → Node
node_of id t o os as' = record { id = id; ty = t; op = o; operands = os; attributes = as' }

pure_agrees : (s s' : Value) (values values' : List Value) (id : ℕ) (t : IrType) (o : Op) (os : List Operand) (attributes' : Attributes)
    → Agree (operand_value s values) (operand_value s' values') (os ++ attributes_read attributes') → pure_value (node_of id t o os attributes') s values ≡ pure_value (node_of id t o os attributes') s' values'
pure_agrees s s' values values' id t o os attributes.None h =
    ap (plain_value o) (map_agrees _ _ os (agree_front _ _ os [] h))
pure_agrees s s' values values' id t o os (attributes.StartAndWidth start width) h =
    ap (of_one (on_word (slice_value start width))) (map_agrees _ _ os (agree_front _ _ os [] h))
pure_agrees s s' values values' id t o os (attributes.Width width) h =
    ap (of_two (on_words (dyn_slice_value width))) (map_agrees _ _ os (agree_front _ _ os [] h))
pure_agrees s s' values values' id t o os (attributes.NewBitCount width) h =
    ap (longer_value o width) (map_agrees _ _ os (agree_front _ _ os [] h))
pure_agrees s s' values values' id t o os (attributes.Cases cases default) h =
    let same : (λ (x : Word). optional_value s values (chosen cases default x.value)) ≡ (λ (x : Word). optional_value s' values' (chosen cases default x.value)) =
    λ i x. chosen_agrees s s' values values' cases default x.value (agree_rest _ _ os (cases ++ optional_read default) h) i in
    ap₂ (λ g vs. of_one (on_word g) vs) same (map_agrees _ _ os (agree_front _ _ os (cases ++ optional_read default) h))
pure_agrees s s' values values' id t o os (attributes.Index i) h =
    ap (of_one (on_tuple (element_at i))) (map_agrees _ _ os (agree_front _ _ os [] h))
pure_agrees s s' values values' id t o os (attributes.Indices i) h =
    ap₂ (index_value o) (agree_rest _ _ os (i ∷ []) h).0 (map_agrees _ _ os (agree_front _ _ os (i ∷ []) h))
pure_agrees s s' values values' id t o os (attributes.Value c) h = refl
pure_agrees s s' values values' id t o os (attributes.Channel predicate c) h = refl

-- ---- what it reads of its site

-- the words of a receive
abbrev pub SameWord : (ℕ → Word) → (ℕ → Word) → ℕ → Role → Type 0
SameWord words others i role.Pure = Unit {0}
SameWord words others i (role.Receive predicate c) = words i ≡ others i
SameWord words others i (role.Send predicate c) = Unit {0}

pub on_agrees : (s s' : Value) (values values' : List Value) (predicate : Option Operand) → Agree (operand_value s values) (operand_value s' values') (optional_read predicate)
    → is_on s values predicate ≡ is_on s' values' predicate
on_agrees s s' values values' None h = refl
on_agrees s s' values values' (Some o) h = ap (λ x. is_one (out-Value x)) h.0

-- a site's predicate is read
abbrev pub PredicateRead : (Operand → Value) → (Operand → Value) → Role → Type 0
PredicateRead f g r = Agree f g (optional_read (predicate_of r))

predicate_at : (f g : Operand → Value) (o : Op) (predicate : Option Operand) (c : ℕ) → Agree f g (optional_read predicate) → PredicateRead f g (role_at o predicate c)
predicate_at f g op.Receive predicate c h = h
predicate_at f g op.Send predicate c h = h
predicate_at f g _ predicate c h = tt

predicate_read : (f g : Operand → Value) (o : Op) (attributes' : Attributes) → Agree f g (attributes_read attributes') → PredicateRead f g (role_by o attributes')
predicate_read f g o (attributes.Channel predicate c) h = predicate_at f g o predicate c h
predicate_read f g o _ h = tt

role_agrees : (channels : List Channel) (s s' : Value) (values values' : List Value) (words words' : ℕ → Word) (i : ℕ) (n : Node) (r : Role) → pure_value n s values ≡ pure_value n s' values'
    → PredicateRead (operand_value s values) (operand_value s' values') r → SameWord words words' i r
    → role_value (setting_by channels s words) values i n r ≡ role_value (setting_by channels s' words') values' i n r
role_agrees channels s s' values values' words words' i n role.Pure e p w = e
role_agrees channels s s' values values' words words' i n (role.Receive predicate c) e p w = ap₂ (received channels c) (on_agrees s s' values values' predicate p) w
role_agrees channels s s' values values' words words' i n (role.Send predicate c) e p w = refl

-- a node has the same value by both
pub value_agrees : (channels : List Channel) (s s' : Value) (values values' : List Value) (words words' : ℕ → Word) (i : ℕ) (n : Node) → Agree (operand_value s values) (operand_value s' values') (operands_read n)
    → SameWord words words' i (role_of n) → value_by (setting_by channels s words) values i n ≡ value_by (setting_by channels s' words') values' i n
value_agrees channels s s' values values' words words' i n h w =
    role_agrees channels s s' values values' words words' i n (role_of n) (pure_agrees s s' values values' n.id n.ty n.op n.operands n.attributes h)
    (predicate_read (operand_value s values) (operand_value s' values') n.op n.attributes (agree_rest _ _ n.operands (attributes_read n.attributes) h)) w

-- and sends the same
second_agrees : (s s' : Value) (values values' : List Value) (os : List Operand) (i : ℕ) → Agree (operand_value s values) (operand_value s' values') os → optional_value s values (slice_get os i) ≡ optional_value s' values' (slice_get os i)
second_agrees s s' values values' [] i h = refl
second_agrees s s' values values' (o ∷ os) zero h = h.0
second_agrees s s' values values' (o ∷ os) (suc i) h = second_agrees s s' values values' os i h.1

pub sent_agrees : (s s' : Value) (values values' : List Value) (n : Node) → Agree (operand_value s values) (operand_value s' values') (operands_read n) → sent_by n s values ≡ sent_by n s' values'
sent_agrees s s' values values' n h = ap sent (second_agrees s s' values values' n.operands 1 (agree_front _ _ n.operands (attributes_read n.attributes) h))

pub role_on_agrees : (s s' : Value) (values values' : List Value) (n : Node) → Agree (operand_value s values) (operand_value s' values') (operands_read n)
    → PredicateRead (operand_value s values) (operand_value s' values') (role_of n)
role_on_agrees s s' values values' n h = predicate_read (operand_value s values) (operand_value s' values') n.op n.attributes (agree_rest _ _ n.operands (attributes_read n.attributes) h)

-- ---- each node by those before it

value_kept : (m : Setting) (values : List Value) (i : ℕ) (nodes : List Node) (j : ℕ) → j < length values → get_or (values_from m values i nodes) j no_value ≡ get_or values j no_value
unfolding values_from
value_kept m values i [] j l = refl
value_kept m values i (n ∷ ns) j l =
    let x = value_by m values i n in
    value_kept m (values ++ x ∷ []) (next_site i (role_of n)) ns j (omega (arith, l, length-append values (x ∷ [])))
    ∙ get_or_append_left values (x ∷ []) no_value j l

value_before : (m : Setting) (values : List Value) (i : ℕ) (nodes : List Node) (k j : ℕ) → j < length values + k
    → get_or (values_from m values i nodes) j no_value ≡ get_or (values_from m values i (take k nodes)) j no_value
unfolding values_from
value_before m values i nodes zero j l = value_kept m values i nodes j (omega arith)
value_before m values i [] (suc k) j l = refl
value_before m values i (n ∷ ns) (suc k) j l =
    let x = value_by m values i n in
    value_before m (values ++ x ∷ []) (next_site i (role_of n)) ns k j (omega (arith, l, length-append values (x ∷ [])))

value_there : (m : Setting) (values : List Value) (i : ℕ) (nodes : List Node) (k : ℕ) (n : Node) → slice_get nodes k ≡ Some n
    → get_or (values_from m values i nodes) (length values + k) no_value ≡ value_by m (values_from m values i (take k nodes)) (count_sites i (take k nodes)) n
unfolding values_from count_sites
value_there m values i [] k n e = absurd (cc)
value_there m values i (x ∷ ns) zero n e =
    let same : x ≡ n = cc in
    let value = value_by m values i x in
    let at : length values + 0 ≡ length values = omega arith in
    value_kept m (values ++ value ∷ []) (next_site i (role_of x)) ns (length values + 0) (omega (arith, length-append values (value ∷ [])))
    ∙ get_or_push values value no_value (length values + 0) (sym at)
    ∙ ap (value_by m values i) same
value_there m values i (x ∷ ns) (suc k) n e =
    let value = value_by m values i x in
    let at : length values + suc k ≡ length (values ++ value ∷ []) + k = omega (arith, length-append values (value ∷ [])) in
    ap (λ j. get_or (values_from m (values ++ value ∷ []) (next_site i (role_of x)) ns) j no_value) at
    ∙ value_there m (values ++ value ∷ []) (next_site i (role_of x)) ns k n e

length_is : (m : Setting) (values : List Value) (i : ℕ) (nodes : List Node) → length (values_from m values i nodes) ≡ length values + length nodes
unfolding values_from
length_is m values i [] = omega arith
length_is m values i (n ∷ ns) =
    let x = value_by m values i n in
    let rest = length_is m (values ++ x ∷ []) (next_site i (role_of n)) ns in
    omega (arith, rest, length-append values (x ∷ []))

pub value_count : (m : Setting) (nodes : List Node) → length (node_values m nodes) ≡ length nodes
value_count m nodes = let e = length_is m [] 0 nodes in omega (arith, e)

-- what is before a node is read alike from all values and from those before it
pub before_agrees : (m : Setting) (nodes : List Node) (k : ℕ) (os : List Operand) → AllByRecursion (IsEarlier k) os
    → Agree (operand_value m.state (values_from m [] 0 (take k nodes))) (operand_value m.state (node_values m nodes)) os
before_agrees m nodes k [] h = tt
before_agrees m nodes k (operand.State ∷ os) h = (refl, before_agrees m nodes k os h.1)
before_agrees m nodes k (operand.Node j ∷ os) h = (sym (value_before m [] 0 nodes k j (omega (arith, h.0))), before_agrees m nodes k os h.1)

same_word : (words : ℕ → Word) (i : ℕ) (r : Role) → SameWord words words i r
same_word words i role.Pure = tt
same_word words i (role.Receive predicate c) = refl
same_word words i (role.Send predicate c) = tt

pub node_equation : (channels : List Channel) (nodes : List Node) (s : Value) (words : ℕ → Word) → ReadEarlierNodes nodes → (k : ℕ) (n : Node) → slice_get nodes k ≡ Some n
    → value_by_words channels nodes s words (operand.Node k) ≡ value_by (setting_by channels s words) (node_values (setting_by channels s words) nodes) (site_index nodes k) n
node_equation channels nodes s words earlier k n e =
    let m = setting_by channels s words in
    let at : k ≡ 0 + k = omega arith in
    ap (λ j. get_or (node_values m nodes) j no_value) at
    ∙ value_there m [] 0 nodes k n e
    ∙ value_agrees channels s s (values_from m [] 0 (take k nodes)) (node_values m nodes) words words (site_index nodes k) n (before_agrees m nodes k (operands_read n) (earlier k n e)) (same_word words (site_index nodes k) (role_of n))

-- ---- by words that agree at the sites of earlier stages

operands_agree : (channels : List Channel) (nodes : List Node) (s : Value) (words words' : ℕ → Word) (stage : Operand → ℕ) (j k b : ℕ) → b < j
    → ((i : ℕ) → i < k → stage (operand.Node i) < j → value_by_words channels nodes s words (operand.Node i) ≡ value_by_words channels nodes s words' (operand.Node i))
    → (os : List Operand) → AllByRecursion (IsEarlier k) os → AllByRecursion (λ o. stage o ≤ b) os
    → Agree (value_by_words channels nodes s words) (value_by_words channels nodes s words') os
operands_agree channels nodes s words words' stage j k b l ih [] before early = tt
operands_agree channels nodes s words words' stage j k b l ih (operand.State ∷ os) before early = (refl, operands_agree channels nodes s words words' stage j k b l ih os before.1 early.1)
operands_agree channels nodes s words words' stage j k b l ih (operand.Node i ∷ os) before early =
    (ih i before.0 (omega (arith, l, early.0)), operands_agree channels nodes s words words' stage j k b l ih os before.1 early.1)

site_agrees : (stage : Operand → ℕ) (site_stage : ℕ → ℕ) (words words' : ℕ → Word) (j k i : ℕ) (r : Role) → ((i : ℕ) → site_stage i < j → words i ≡ words' i) → stage (operand.Node k) < j
    → IsSiteStage stage site_stage k i r → SameWord words words' i r
site_agrees stage site_stage words words' j k i role.Pure h l is = tt
site_agrees stage site_stage words words' j k i (role.Receive predicate c) h l is = h i (omega (arith, l, is))
site_agrees stage site_stage words words' j k i (role.Send predicate c) h l is = tt

past_end : (nodes : List Node) (k : ℕ) → slice_get nodes k ≡ None → length nodes ≤ k
past_end [] k e = omega arith
past_end (n ∷ ns) zero e = absurd (cc)
past_end (n ∷ ns) (suc k) e = omega (arith, past_end ns k e)

missing : (channels : List Channel) (nodes : List Node) (s : Value) (words : ℕ → Word) (k : ℕ) → slice_get nodes k ≡ None → value_by_words channels nodes s words (operand.Node k) ≡ no_value
missing channels nodes s words k e = get_or_past (node_values (setting_by channels s words) nodes) k no_value (omega (arith, past_end nodes k e, value_count (setting_by channels s words) nodes))

nodes_agree_below : (channels : List Channel) (nodes : List Node) (s : Value) (words words' : ℕ → Word) (stage : Operand → ℕ) (site_stage : ℕ → ℕ) (j : ℕ) → AreStaged nodes stage site_stage
    → ((i : ℕ) → site_stage i < j → words i ≡ words' i) → (bound k : ℕ) → k < bound → stage (operand.Node k) < j
    → value_by_words channels nodes s words (operand.Node k) ≡ value_by_words channels nodes s words' (operand.Node k)
nodes_agree_below channels nodes s words words' stage site_stage j staged same zero k l early = absurd (omega (arith, l))
nodes_agree_below channels nodes s words words' stage site_stage j staged same (suc bound) k l early =
    by (slice_get nodes k) refl (λ i less before. nodes_agree_below channels nodes s words words' stage site_stage j staged same bound i (omega (arith, less, l)) before)
  where
    by : (o : Option Node) → slice_get nodes k ≡ o
        → ((i : ℕ) → i < k → stage (operand.Node i) < j → value_by_words channels nodes s words (operand.Node i) ≡ value_by_words channels nodes s words' (operand.Node i))
        → value_by_words channels nodes s words (operand.Node k) ≡ value_by_words channels nodes s words' (operand.Node k)
    by None e ih = missing channels nodes s words k e ∙ sym (missing channels nodes s words' k e)
    by (Some n) e ih =
        node_equation channels nodes s words staged.earlier k n e
        ∙ value_agrees channels s s (node_values (setting_by channels s words) nodes) (node_values (setting_by channels s words') nodes) words words' (site_index nodes k) n
        (operands_agree channels nodes s words words' stage j k (stage (operand.Node k)) early ih (operands_read n) (staged.earlier k n e) (staged.operands k n e))
        (site_agrees stage site_stage words words' j k (site_index nodes k) (role_of n) same early (staged.sites k n e))
        ∙ sym (node_equation channels nodes s words' staged.earlier k n e)

-- what stands in an earlier stage has the same value by words that agree at the sites of earlier stages
pub values_agree : (channels : List Channel) (nodes : List Node) (s : Value) (words words' : ℕ → Word) (stage : Operand → ℕ) (site_stage : ℕ → ℕ) (j : ℕ) → AreStaged nodes stage site_stage
    → ((i : ℕ) → site_stage i < j → words i ≡ words' i) → (o : Operand) → stage o < j
    → value_by_words channels nodes s words o ≡ value_by_words channels nodes s words' o
values_agree channels nodes s words words' stage site_stage j staged same operand.State early = refl
values_agree channels nodes s words words' stage site_stage j staged same (operand.Node k) early =
    nodes_agree_below channels nodes s words words' stage site_stage j staged same (suc k) k (omega arith) early
