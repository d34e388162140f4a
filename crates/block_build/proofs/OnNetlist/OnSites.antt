-- The signals of a stage's sites say what the proc does there by the words on signals.
use Rattle.std.proofs.Common.{◌≡◌, ℕ, zero, suc, ◌+◌, ◌<◌, ◌^◌, List, [], ◌∷◌, ◌++◌, take, get_or, refl, sym, ap, ap₂, ◌∙◌, subst, arith, cond, Bool, true, false, Option, Some, None}
use Rattle.std.specs.Prelude.{slice_get, is_some, ◌==◌}
use Rattle.std.specs.List.{AllByRecursion}
use Rattle.xb_bits.specs.Word.{Word, word}
use Rattle.xb_value.specs.declared.ty.Ty as ty
use Rattle.xb_value.specs.declared.value.Value.{Value, out-Value}
use Rattle.xb_value.specs.declared.value.Value.TheViews.{outs-Bits}
use Rattle.xb_value.specs.Typing.{IsOfType}
use Rattle.net_core.specs.Behavior.{Turn, Skip, Receive, Give}
use Rattle.delay_model.specs.declared.op.Op.{Op}
use Rattle.delay_model.specs.declared.op.Op.TheVariants as op
use Rattle.ir_tree.specs.declared.ir_type.IrType.{IrType}
use Rattle.ir_tree.specs.declared.node.Attributes.{Attributes}
use Rattle.ir_tree.specs.declared.node.Attributes.TheVariants as attributes
use Rattle.ir_tree.specs.declared.node.Node.{Node}
use Rattle.ir_tree.specs.declared.node.Operand.{Operand}
use Rattle.ir_tree.specs.declared.node.Role.{Role}
use Rattle.ir_tree.specs.declared.node.Role.TheVariants as role
use Rattle.ir_tree.specs.declared.package.Channel.{Channel}
use Rattle.ir_tree.specs.declared.package.Proc.{Proc}
use Rattle.ir_tree.specs.Activations.{turns_from, turns_by, sent_by}
use Rattle.ir_tree.specs.NodeValues.{Setting, operand_value, role_of, role_by, role_at, value_by, is_on, is_one, next_site, values_from, node_values, count_sites}
use Rattle.vlog_tree.specs.declared.expression.Atom.{Atom}
use Rattle.vlog_tree.specs.Value.{Values, bit, atom_value}
use Rattle.block_build.specs.Netlist.Handshakes.{SiteNets}
use Rattle.block_build.specs.Netlist.Leaves.{ShowsValue}
use Rattle.block_build.specs.Netlist.Nodes.{optional_read, attributes_read, operands_read, ReadEarlierNodes, site_index, value_by_words, HaveOperandTypes, IsOnSignal, IsPartnerSignal, predicate_of, turn_of}
use Rattle.block_build.specs.Netlist.Procs.{setting_by, turns_by_words}
use Rattle.block_build.specs.Netlist.Walks.{TurnIs}
use Rattle.block_build.proofs.OnNetlist.OnLeaves.{has_signal, only_signal}
use Rattle.block_build.proofs.OnNetlist.OnProcs.{count_grows}
use Rattle.block_build.proofs.OnNetlist.OnNodeValues.{PredicateRead, role_on_agrees, on_agrees, sent_agrees, before_agrees}

-- ---- the turn at a node's site

-- a node is a site
abbrev pub IsSiteRole : Role → Type 0
IsSiteRole role.Pure = ⊥
IsSiteRole (role.Receive predicate c) = Unit {0}
IsSiteRole (role.Send predicate c) = Unit {0}

first_turn : (m : Setting) (values : List Value) (n : Node) (rl : Role) (rest : List Turn) → IsSiteRole rl → get_or (turns_by m values n rl rest) 0 Skip ≡ turn_of m.state values n rl
first_turn m values n role.Pure rest is = absurd is
first_turn m values n (role.Receive predicate c) rest is = refl
first_turn m values n (role.Send predicate c) rest is = refl

later_turn : (m : Setting) (values : List Value) (i : ℕ) (n : Node) (rl : Role) (rest : List Turn) (ys : List Node) (goal : Turn) (r : ℕ) → count_sites (next_site i rl) ys ≡ i + r
    → ((x : ℕ) → count_sites (next_site i rl) ys ≡ next_site i rl + x → get_or rest x Skip ≡ goal) → get_or (turns_by m values n rl rest) r Skip ≡ goal
later_turn m values i n role.Pure rest ys goal r c ih = ih r c
later_turn m values i n (role.Receive predicate d) rest ys goal zero c ih = absurd (let g = count_grows (suc i) ys in omega (arith, g, c))
later_turn m values i n (role.Receive predicate d) rest ys goal (suc r) c ih = ih r (omega (arith, c))
later_turn m values i n (role.Send predicate d) rest ys goal zero c ih = absurd (let g = count_grows (suc i) ys in omega (arith, g, c))
later_turn m values i n (role.Send predicate d) rest ys goal (suc r) c ih = ih r (omega (arith, c))

turn_there : (m : Setting) (values : List Value) (i : ℕ) (nodes : List Node) (k : ℕ) (n : Node) → slice_get nodes k ≡ Some n → IsSiteRole (role_of n) → (r : ℕ) → count_sites i (take k nodes) ≡ i + r
    → get_or (turns_from m values i nodes) r Skip ≡ turn_of m.state (values_from m values i (take k nodes)) n (role_of n)
unfolding turns_from count_sites values_from
turn_there m values i [] k n e is r c = absurd (cc)
turn_there m values i (x ∷ ns) zero n e is r c =
    let same : x ≡ n = cc in
    let none : r ≡ 0 = omega (arith, c) in
    let first = first_turn m values x (role_of x) (turns_from m (values ++ value_by m values i x ∷ []) (next_site i (role_of x)) ns) (subst (λ y. IsSiteRole (role_of y)) (sym same) is) in
    ap (λ j. get_or (turns_from m values i (x ∷ ns)) j Skip) none ∙ first ∙ ap (λ y. turn_of m.state values y (role_of y)) same
turn_there m values i (x ∷ ns) (suc k) n e is r c =
    let later = values ++ value_by m values i x ∷ [] in
    later_turn m values i x (role_of x) (turns_from m later (next_site i (role_of x)) ns) (take k ns) _ r c
    (λ y d. turn_there m later (next_site i (role_of x)) ns k n e is y d)

turn_agrees : (s : Value) (values values' : List Value) (n : Node) (rl : Role) → PredicateRead (operand_value s values) (operand_value s values') rl → sent_by n s values ≡ sent_by n s values'
    → turn_of s values n rl ≡ turn_of s values' n rl
turn_agrees s values values' n role.Pure p e = refl
turn_agrees s values values' n (role.Receive predicate c) p e = ap (λ t. cond t Receive Skip) (on_agrees s s values values' predicate p)
turn_agrees s values values' n (role.Send predicate c) p e = ap₂ (λ t w. cond t (Give w) Skip) (on_agrees s s values values' predicate p) e

pub turn_is_the_nodes : (channels : List Channel) (nodes : List Node) (s : Value) (words : ℕ → Word) → ReadEarlierNodes nodes → (k : ℕ) (n : Node) → slice_get nodes k ≡ Some n → IsSiteRole (role_of n)
    → turns_by_words channels nodes s words (site_index nodes k) ≡ turn_of s (node_values (setting_by channels s words) nodes) n (role_of n)
turn_is_the_nodes channels nodes s words earlier k n e is =
    let m = setting_by channels s words in
    let agree = before_agrees m nodes k (operands_read n) (earlier k n e) in
    let at : site_index nodes k ≡ 0 + site_index nodes k = omega arith in
    turn_there m [] 0 nodes k n e is (site_index nodes k) at
    ∙ turn_agrees s (values_from m [] 0 (take k nodes)) (node_values m nodes) n (role_of n) (role_on_agrees s s (values_from m [] 0 (take k nodes)) (node_values m nodes) n agree)
    (sent_agrees s s (values_from m [] 0 (take k nodes)) (node_values m nodes) n agree)

-- ---- what its signals say

bit_of : (n : ℕ) → n < 2 → word 1 n ≡ bit (n == 1)
bit_of zero l = refl
bit_of (suc zero) l = refl
bit_of (suc (suc n)) l = absurd (omega (arith, l))

pub on_shown : (v : Values) (on : Atom) (value : Value) → IsOfType (ty.Bits 1) value → ShowsValue v (on ∷ []) value → atom_value v on ≡ bit (is_one (out-Value value))
on_shown v on value t h =
    let g = has_signal v 1 on value t h in
    let range : g.word.value < 2 = subst (λ w. g.word.value < 2 ^ w) g.of.fits g.of.word.in_range in
    g.carries ∙ ap (λ w. word w g.word.value) g.of.fits ∙ bit_of g.word.value range ∙ sym (ap (λ x. bit (is_one (out-Value x))) g.is ∙ ap (λ x. bit (is_one x)) (outs-Bits g.word))

pub on_is : (v : Values) (state : IrType) (nodes : List Node) (shown : Operand → List Atom) (s : Value) (values : List Value) (predicate : Option Operand) (on : Atom) → IsOnSignal v state nodes shown predicate on
    → HaveOperandTypes state nodes s values → AllByRecursion (λ o. ShowsValue v (shown o) (operand_value s values o)) (optional_read predicate) → atom_value v on ≡ bit (is_on s values predicate)
on_is v state nodes shown s values None on is typed h = is
on_is v state nodes shown s values (Some o) on is typed h =
    let of = subst (λ t. IsOfType t (operand_value s values o)) is.1 (typed o) in
    let single = only_signal v 1 (shown o) (operand_value s values o) of h.0 ∙ ap (λ a. a ∷ []) (sym is.0) in
    on_shown v on (operand_value s values o) of (subst (λ atoms. ShowsValue v atoms (operand_value s values o)) single h.0)

turn_said : (v : Values) (site : SiteNets) (valid_word : Option Word) (room : Bool) (s : Value) (values : List Value) (n : Node) (rl : Role) → IsPartnerSignal v valid_word room site.partner rl
    → atom_value v site.on ≡ bit (is_on s values (predicate_of rl)) → TurnIs v site valid_word room (turn_of s values n rl)
turn_said v site valid_word room s values n role.Pure p o = absurd p
turn_said v site valid_word room s values n (role.Receive predicate c) p o = go (is_on s values predicate) o
  where
    go : (t : Bool) → atom_value v site.on ≡ bit t → TurnIs v site valid_word room (cond t Receive Skip)
    go true o = (o, p)
    go false o = (o, is_some valid_word, p)
turn_said v site valid_word room s values n (role.Send predicate c) p o = go (is_on s values predicate) o
  where
    go : (t : Bool) → atom_value v site.on ≡ bit t → TurnIs v site valid_word room (cond t (Give (sent_by n s values)) Skip)
    go true o = (o, p)
    go false o = (o, room, p)

pub partner_is_a_sites : (v : Values) (valid_word : Option Word) (room : Bool) (partner : Atom) (rl : Role) → IsPartnerSignal v valid_word room partner rl → IsSiteRole rl
partner_is_a_sites v valid_word room partner role.Pure p = p
partner_is_a_sites v valid_word room partner (role.Receive predicate c) p = tt
partner_is_a_sites v valid_word room partner (role.Send predicate c) p = tt

-- what a list shows of its parts
shown_rest : (P : Operand → Type 0) (xs ys : List Operand) → AllByRecursion P (xs ++ ys) → AllByRecursion P ys
shown_rest P [] ys h = h
shown_rest P (x ∷ xs) ys h = shown_rest P xs ys h.1

pub predicate_shown : (P : Operand → Type 0) (n : Node) → AllByRecursion P (operands_read n) → AllByRecursion P (optional_read (predicate_of (role_of n)))
predicate_shown P n h = by n.attributes (shown_rest P n.operands (attributes_read n.attributes) h)
  where
    at : (o : Op) (predicate : Option Operand) (c : ℕ) → AllByRecursion P (optional_read predicate) → AllByRecursion P (optional_read (predicate_of (role_at o predicate c)))
    at op.Receive predicate c h = h
    at op.Send predicate c h = h
    at _ predicate c h = tt

    by : (a : Attributes) → AllByRecursion P (attributes_read a) → AllByRecursion P (optional_read (predicate_of (role_by n.op a)))
    by (attributes.Channel predicate c) h = at n.op predicate c h
    by _ h = tt

pub turn_is_said : (v : Values) (channels : List Channel) (proc : Proc) (shown : Operand → List Atom) (s : Value) (words : ℕ → Word) (k : ℕ) (n : Node) (site : SiteNets) (valid_word : Option Word) (room : Bool)
    → ReadEarlierNodes proc.nodes → slice_get proc.nodes k ≡ Some n → HaveOperandTypes proc.state proc.nodes s (node_values (setting_by channels s words) proc.nodes)
    → AllByRecursion (λ o. ShowsValue v (shown o) (value_by_words channels proc.nodes s words o)) (operands_read n)
    → IsOnSignal v proc.state proc.nodes shown (predicate_of (role_of n)) site.on → IsPartnerSignal v valid_word room site.partner (role_of n)
    → TurnIs v site valid_word room (turns_by_words channels proc.nodes s words (site_index proc.nodes k))
turn_is_said v channels proc shown s words k n site valid_word room earlier e typed operands on partner =
    let values = node_values (setting_by channels s words) proc.nodes in
    let predicate = predicate_shown (λ o. ShowsValue v (shown o) (operand_value s values o)) n operands in
    subst (TurnIs v site valid_word room)
    (sym (turn_is_the_nodes channels proc.nodes s words earlier k n e (partner_is_a_sites v valid_word room site.partner (role_of n) partner)))
    (turn_said v site valid_word room s values n (role_of n) partner (on_is v proc.state proc.nodes shown s values (predicate_of (role_of n)) site.on on typed predicate))
