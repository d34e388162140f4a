-- What rules and limits say of all nodes of a proc: their values have their types, and their sites keep widths and directions.
use Rattle.std.proofs.Common.{◌≡◌, ℕ, zero, suc, List, [], ◌∷◌, ◌++◌, length, get_or, Bool, true, false, IsTrue, Option, Some, None, refl, sym, ap, subst}
use Rattle.std.specs.Prelude.{slice_get, if◌then◌else◌, not}
use Rattle.std.proofs.lemmas.List.{append-nil, append_assoc}
use Rattle.xb_bits.specs.Word.{Word}
use Rattle.xb_span.specs.declared.span.Span.{Span}
use Rattle.xb_span.specs.Spans.{nowhere}
use Rattle.xb_value.specs.declared.value.Value.{Value}
use Rattle.xb_value.specs.Typing.{IsOfType}
use Rattle.net_core.specs.declared.net.Site.{Site}
use Rattle.net_core.specs.Behavior.{Turn, Skip, Receive, Give, IsWordOf, IsInDirection, TurnFits, KeepsTypes}
use Rattle.ir_tree.specs.declared.ir_type.IrType.{IrType}
use Rattle.ir_tree.specs.declared.node.Operand.{Operand}
use Rattle.ir_tree.specs.declared.node.Node.{Node}
use Rattle.ir_tree.specs.declared.node.Role.{Role}
use Rattle.ir_tree.specs.declared.node.Role.TheVariants as role
use Rattle.ir_tree.specs.declared.package.Channel.{Channel}
use Rattle.ir_tree.specs.declared.package.Proc.{Proc}
use Rattle.ir_tree.specs.Types.{ty_of}
use Rattle.ir_tree.specs.NodeValues.{operand_value, role_of, Setting, is_on, channel_type, value_by, values_from, node_values, next_site}
use Rattle.ir_tree.specs.Activations.{sites_by, sites_of, sent_by, turns_by, turns_from, turns_of, setting_of, width_at, activation}
use Rattle.ir_tree.specs.Rules.Fitting.{types_behind, type_in}
use Rattle.ir_tree.specs.NodeTypes.Types.{same_type, marks_of}
use Rattle.ir_tree.specs.Rules.Lines.{Seen, see, node_checks, is_proc_named, is_state, is_value_of, is_there}
use Rattle.ir_tree.specs.Rules.Verified.{nodes_checks}
use Rattle.ir_tree.specs.Rules.Typed.Typed.{none_broken, AreChannels, IsVerifiedProc}
use Rattle.ir_tree.proofs.Lemmas.Rules.Typed.Checked.{both_true, parts_not, not_not_true}
use Rattle.ir_tree.proofs.Lemmas.Rules.Typed.Tests.{IsSound, same_is}
use Rattle.ir_tree.proofs.Lemmas.Rules.Typed.Scopes.{IsOperand, AreTyped, none_typed, more_typed, operands_typed}
use Rattle.ir_tree.proofs.Lemmas.Rules.Typed.Nodes.{no_fault, node_typed, send_fits}

values_end : (m : Setting) (values : List Value) (j : ℕ) → values_from m values j [] ≡ values
unfolding values_from
values_end m values j = refl

values_more : (m : Setting) (values : List Value) (j : ℕ) (n : Node) (ns : List Node) → values_from m values j (n ∷ ns) ≡ values_from m (values ++ value_by m values j n ∷ []) (next_site j (role_of n)) ns
unfolding values_from
values_more m values j n ns = refl

turns_end : (m : Setting) (values : List Value) (j : ℕ) → turns_from m values j [] ≡ []
unfolding turns_from
turns_end m values j = refl

turns_more : (m : Setting) (values : List Value) (j : ℕ) (n : Node) (ns : List Node) → turns_from m values j (n ∷ ns) ≡ turns_by m values n (role_of n) (turns_from m (values ++ value_by m values j n ∷ []) (next_site j (role_of n)) ns)
unfolding turns_from
turns_more m values j n ns = refl

-- ---- values

pub all_typed : (m : Setting) (state : IrType) (spans : List Span) (opened : IsOperand state m.state) (word_types : AreChannels m.channels) (nodes before : List Node) (values : List Value) (i j : ℕ) (seen : Seen) → AreTyped before values → IsTrue (none_broken (nodes_checks m.channels state spans before i seen nodes)) → AreTyped (before ++ nodes) (values_from m values j nodes)
all_typed m state spans opened w [] before values i j seen k h =
    subst (AreTyped (before ++ [])) (sym (values_end m values j)) (subst (λ ns. AreTyped ns values) (sym (append-nil before)) k)
all_typed m state spans opened w (n ∷ ns) before values i j seen k h =
    let parts = parts_not (node_checks m.channels state before (get_or spans i nowhere) i seen n) (nodes_checks m.channels state spans (before ++ n ∷ []) (suc i) (see i n seen) ns) h in
    let free = no_fault m.channels state before (get_or spans i nowhere) i seen n parts.0 in
    let v = value_by m values j n in
    let typed = node_typed m (types_behind state before) values j (operands_typed state m.state before values opened k) w n free in
    let more = more_typed before values n v k (record { value = typed; sound = free.limits.sound }) in
    subst (AreTyped (before ++ n ∷ ns)) (sym (values_more m values j n ns))
    (subst (λ xs. AreTyped xs (values_from m (values ++ v ∷ []) (next_site j (role_of n)) ns)) (append_assoc before (n ∷ []) ns)
    (all_typed m state spans opened w ns (before ++ n ∷ []) (values ++ v ∷ []) (suc i) (next_site j (role_of n)) (see i n seen) more parts.1))

-- ---- turns

-- a word that is sent is as wide as the channel's
abbrev pub TurnTyped : List Channel → Site → Turn → Type 0
TurnTyped channels site Skip = Unit {0}
TurnTyped channels site Receive = Unit {0}
TurnTyped channels site (Give w) = IsWordOf (width_at (channel_type channels site.chan)) w

receives_typed : (channels : List Channel) (site : Site) (on : Bool) → TurnTyped channels site (if on then Receive else Skip)
receives_typed channels site true = tt
receives_typed channels site false = tt

gives_typed : (channels : List Channel) (site : Site) (on : Bool) (w : Word) → IsWordOf (width_at (channel_type channels site.chan)) w → TurnTyped channels site (if on then Give w else Skip)
gives_typed channels site true w h = h
gives_typed channels site false w h = tt

abbrev TurnsTyped : List Channel → List Site → List Turn → Type 0
TurnsTyped channels sites turns = (p : ℕ) (site : Site) → slice_get sites p ≡ Some site → TurnTyped channels site (get_or turns p Skip)

role_turns : (m : Setting) (values : List Value) (n : Node) (r : Role) (sites : List Site) (turns : List Turn) → ((predicate : Option Operand) (c : ℕ) → r ≡ role.Send predicate c → IsWordOf (width_at (channel_type m.channels c)) (sent_by n m.state values)) → TurnsTyped m.channels sites turns → TurnsTyped m.channels (sites_by r sites) (turns_by m values n r turns)
role_turns m values n role.Pure sites turns sends rest p site e = rest p site e
role_turns m values n (role.Receive predicate c) sites turns sends rest zero site e = receives_typed m.channels site (is_on m.state values predicate)
role_turns m values n (role.Receive predicate c) sites turns sends rest (suc p) site e = rest p site e
role_turns m values n (role.Send predicate c) sites turns sends rest zero site e =
    let same : c ≡ site.chan = ap chan_of_some e in
    gives_typed m.channels site (is_on m.state values predicate) (sent_by n m.state values) (subst (λ d. IsWordOf (width_at (channel_type m.channels d)) (sent_by n m.state values)) same (sends predicate c refl))
  where
    chan_of_some : Option Site → ℕ
    chan_of_some None = 0
    chan_of_some (Some site) = site.chan
role_turns m values n (role.Send predicate c) sites turns sends rest (suc p) site e = rest p site e

pub turns_typed : (m : Setting) (state : IrType) (spans : List Span) (opened : IsOperand state m.state) (word_types : AreChannels m.channels) (nodes before : List Node) (values : List Value) (i j : ℕ) (seen : Seen) → AreTyped before values → IsTrue (none_broken (nodes_checks m.channels state spans before i seen nodes)) → TurnsTyped m.channels (sites_of nodes) (turns_from m values j nodes)
turns_typed m state spans opened w [] before values i j seen k h p site e = absurd (cc)
turns_typed m state spans opened w (n ∷ ns) before values i j seen k h p site e =
    let parts = parts_not (node_checks m.channels state before (get_or spans i nowhere) i seen n) (nodes_checks m.channels state spans (before ++ n ∷ []) (suc i) (see i n seen) ns) h in
    let free = no_fault m.channels state before (get_or spans i nowhere) i seen n parts.0 in
    let v = value_by m values j n in
    let there = operands_typed state m.state before values opened k in
    let typed = node_typed m (types_behind state before) values j there w n free in
    let more = more_typed before values n v k (record { value = typed; sound = free.limits.sound }) in
    let all : TurnsTyped m.channels (sites_of (n ∷ ns)) (turns_from m values j (n ∷ ns)) = subst (TurnsTyped m.channels (sites_of (n ∷ ns))) (sym (turns_more m values j n ns))
    (role_turns m values n (role_of n) (sites_of ns) (turns_from m (values ++ v ∷ []) (next_site j (role_of n)) ns)
    (λ predicate c e. send_fits m.channels (types_behind state before) m.state values there w n predicate c e free)
    (turns_typed m state spans opened w ns (before ++ n ∷ []) (values ++ v ∷ []) (suc i) (next_site j (role_of n)) (see i n seen) more parts.1)) in
    all p site e

-- ---- directions

abbrev TurnsDirected : List Site → List Turn → Type 0
TurnsDirected sites turns = (p : ℕ) (site : Site) → slice_get sites p ≡ Some site → IsInDirection site (get_or turns p Skip)

sends_of_some : Option Site → Bool
sends_of_some None = false
sends_of_some (Some site) = site.sends

receives_directed : (site : Site) (on : Bool) → site.sends ≡ false → IsInDirection site (if on then Receive else Skip)
receives_directed site true h = h
receives_directed site false h = tt

gives_directed : (site : Site) (on : Bool) (w : Word) → site.sends ≡ true → IsInDirection site (if on then Give w else Skip)
gives_directed site true w h = h
gives_directed site false w h = tt

role_directed : (m : Setting) (values : List Value) (n : Node) (r : Role) (sites : List Site) (turns : List Turn) → TurnsDirected sites turns → TurnsDirected (sites_by r sites) (turns_by m values n r turns)
unfolding sends_of_some
role_directed m values n role.Pure sites turns rest p site e = rest p site e
role_directed m values n (role.Receive predicate c) sites turns rest zero site e = receives_directed site (is_on m.state values predicate) (sym (ap sends_of_some e))
role_directed m values n (role.Receive predicate c) sites turns rest (suc p) site e = rest p site e
role_directed m values n (role.Send predicate c) sites turns rest zero site e = gives_directed site (is_on m.state values predicate) (sent_by n m.state values) (sym (ap sends_of_some e))
role_directed m values n (role.Send predicate c) sites turns rest (suc p) site e = rest p site e

turns_directed : (m : Setting) (values : List Value) (j : ℕ) (nodes : List Node) → TurnsDirected (sites_of nodes) (turns_from m values j nodes)
turns_directed m values j [] p site e = absurd (cc)
turns_directed m values j (n ∷ ns) p site e =
    let all : TurnsDirected (sites_of (n ∷ ns)) (turns_from m values j (n ∷ ns)) = subst (TurnsDirected (sites_of (n ∷ ns))) (sym (turns_more m values j n ns))
    (role_directed m values n (role_of n) (sites_of ns) (turns_from m (values ++ value_by m values j n ∷ []) (next_site j (role_of n)) ns)
    (turns_directed m (values ++ value_by m values j n ∷ []) (next_site j (role_of n)) ns)) in
    all p site e

-- ---- a proc

-- the type of the states is sound
state_sound : (channels : List Channel) (proc : Proc) → IsVerifiedProc channels proc → IsSound proc.state
state_sound channels proc v =
    let a = both_true (not (not (is_proc_named v.names proc))) _ v.head in
    let b = both_true (not (not (is_state proc))) _ a.1 in
    (both_true (marks_of proc.state).sound (is_value_of proc.state proc.init) (not_not_true (is_state proc) b.0)).0

pub proc_typed : (channels : List Channel) (proc : Proc) → IsVerifiedProc channels proc → (s : Value) (words : ℕ → Word) → IsOfType (ty_of proc.state) s → AreTyped proc.nodes (node_values (record { channels = channels; state = s; words = words }) proc.nodes)
proc_typed channels proc v s words h =
    all_typed (record { channels = channels; state = s; words = words }) proc.state v.spans (record { value = h; sound = state_sound channels proc v }) v.word_types proc.nodes [] [] 0 0 v.seen none_typed v.nodes

next_typed : (channels : List Channel) (proc : Proc) → IsVerifiedProc channels proc → (s : Value) (words : ℕ → Word) → IsOfType (ty_of proc.state) s → IsOfType (ty_of proc.state) (operand_value s (node_values (record { channels = channels; state = s; words = words }) proc.nodes) proc.next)
next_typed channels proc v s words h =
    let a = both_true (not (not (is_there (length proc.nodes) proc.next))) _ v.next in
    let b = both_true (not (not (same_type proc.state (type_in (types_behind proc.state proc.nodes) proc.next)))) _ a.1 in
    let same = same_is proc.state (type_in (types_behind proc.state proc.nodes) proc.next) (not_not_true _ b.0) in
    let values = node_values (record { channels = channels; state = s; words = words }) proc.nodes in
    let there = operands_typed proc.state s proc.nodes values (record { value = h; sound = state_sound channels proc v }) (proc_typed channels proc v s words h) proc.next in
    subst (λ t. IsOfType (ty_of t) (operand_value s values proc.next)) (sym same) there.value

fits_turn : (channels : List Channel) (proc : Proc) (site : Site) (t : Turn) → TurnTyped channels site t → TurnFits (activation channels proc) site t
unfolding activation
fits_turn channels proc site Skip h = tt
fits_turn channels proc site Receive h = tt
fits_turn channels proc site (Give w) h = h

-- a proc of a verified package keeps its types
pub keeps_types : (channels : List Channel) (proc : Proc) → IsVerifiedProc channels proc → KeepsTypes (activation channels proc)
unfolding activation
keeps_types channels proc v = record {
  directions = λ s got i site e. turns_directed (setting_of channels proc.nodes s got) [] 0 proc.nodes i site e;
  turns = λ s got i site opened e.
      fits_turn channels proc site (get_or (turns_of channels proc.nodes s got) i Skip)
      (turns_typed (setting_of channels proc.nodes s got) proc.state v.spans (record { value = opened.state; sound = state_sound channels proc v }) v.word_types proc.nodes [] [] 0 0 v.seen none_typed v.nodes i site e);
  state = λ s got opened. next_typed channels proc v s (setting_of channels proc.nodes s got).words opened.state;
}
