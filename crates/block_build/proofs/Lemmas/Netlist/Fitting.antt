-- The nodes of verified procs fit, and so their signals show their values.
use Rattle.std.proofs.Common.{◌≡◌, ℕ, zero, suc, ◌+◌, ◌<◌, ◌≤◌, List, [], ◌∷◌, ◌++◌, length, take, get_or, true, ◌&&◌, IsTrue, Option, Some, None, refl, sym, ap, ap₂, ◌∙◌, subst, arith, length-append, ⊎_elim}
use Rattle.std.specs.Prelude.{slice_get, not, option_map}
use Rattle.std.specs.List.{AllByRecursion, list_all}
use Rattle.std.proofs.lemmas.Bool.{cases_lt}
use Rattle.std.proofs.lemmas.List.{append_assoc, append-nil, get_or_append_left}
use Rattle.xb_span.specs.declared.span.Span.{Span}
use Rattle.xb_span.specs.Spans.{nowhere}
use Rattle.xb_value.specs.declared.ty.Ty as ty
use Rattle.xb_value.specs.declared.value.Value.{Value}
use Rattle.xb_value.specs.Typing.{IsOfType}
use Rattle.xb_value.specs.Width.{width_of}
use Rattle.net_core.specs.Behavior.{IsWordOf}
use Rattle.delay_model.specs.declared.op.Op.{Op}
use Rattle.delay_model.specs.declared.op.Op.TheVariants as op
use Rattle.delay_model.specs.Signatures.{is_met, count_of}
use Rattle.ir_tree.specs.Activations.{sent, width_at}
use Rattle.ir_tree.specs.Constants.{no_value}
use Rattle.ir_tree.specs.declared.ir_type.IrType.{IrType}
use Rattle.ir_tree.specs.declared.node.Attributes.{Attributes}
use Rattle.ir_tree.specs.declared.node.Attributes.TheVariants as attributes
use Rattle.ir_tree.specs.declared.node.Node.{Node}
use Rattle.ir_tree.specs.declared.node.Operand.{Operand}
use Rattle.ir_tree.specs.declared.node.Operand.TheVariants as operand
use Rattle.ir_tree.specs.declared.node.Role.TheVariants as role
use Rattle.ir_tree.specs.declared.package.Channel.{Channel}
use Rattle.ir_tree.specs.declared.package.Package.{Package}
use Rattle.ir_tree.specs.declared.package.Proc.{Proc}
use Rattle.ir_tree.specs.NodeTypes.Types.{marks_of, is_bits_of, is_token, same_type}
use Rattle.ir_tree.specs.NodeValues.{channel_type, is_on, operand_value, pure_value, received, role_at, role_by, role_of, role_value, value_by}
use Rattle.ir_tree.specs.Types.{ty_of, bounded}
use Rattle.ir_tree.proofs.Lemmas.NodeTypes.IrTypes.{ty_of-Bits}
use Rattle.ir_tree.specs.Rules.Fitting.{Types, first_is_token, node_fits, predicate_fits, rest_of, sends_type, site_fits, type_in, type_or, types_behind, types_fit}
use Rattle.ir_tree.specs.Rules.Lines.{Seen, see, node_checks, is_proc_named, is_state, is_value_of}
use Rattle.ir_tree.specs.Rules.Typed.Typed.{none_broken, IsVerifiedProc, IsWordType}
use Rattle.ir_tree.specs.Rules.Verified.{IsVerified, nodes_checks}
use Rattle.ir_tree.proofs.Lemmas.Rules.Typed.{verified_proc}
use Rattle.ir_tree.proofs.Lemmas.Rules.Typed.Checked.{both_true, not_not_true, parts_not}
use Rattle.ir_tree.proofs.Lemmas.Rules.Typed.Nodes.{HasChannel, HasNoFault, no_fault, node_typed}
use Rattle.ir_tree.proofs.Lemmas.Rules.Typed.Scopes.{AreTyped, operands_typed}
use Rattle.ir_tree.proofs.Lemmas.Rules.Typed.Tests.{IsSound, same_is}
use Rattle.vlog_tree.specs.declared.expression.Atom.{Atom}
use Rattle.vlog_tree.specs.Value.{Values, atom_value}
use Rattle.block_build.specs.declared.netlist.scopes.Scope.{Scope}
use Rattle.block_build.specs.Netlist.Leaves.{first_or, ShowsValue}
use Rattle.block_build.specs.Netlist.Nodes.{attributes_read, operands_read, optional_read, predicate_of, site_index, IsEarlier, IsHeard, IsOnSignal, HaveOperandTypes, NodeShows}
use Rattle.block_build.specs.Netlist.Procs.{setting_by}
use Rattle.block_build.specs.Netlist.Pure.{scope_types, shown_in, IsOperandShown, PureShows, IsScopeOf}
use Rattle.block_build.specs.Netlist.Words.{on_signal, CarriesSent, ShowsReceived}
use Rattle.block_build.proofs.OnNetlist.OnAdded.{literal_value}
use Rattle.block_build.proofs.OnNetlist.OnLeaves.{nothing_shown}
use Rattle.block_build.proofs.OnNetlist.OnNodeValues.{Agree, SameWord, value_agrees}
use Rattle.block_build.proofs.OnNetlist.OnNumbers.{bits_like, two_of}
use Rattle.block_build.proofs.OnNetlist.OnSites.{on_is, predicate_shown}
use Rattle.block_build.proofs.OnNetlist.OnVerified.{verified_nodes_read_earlier}

-- ---- a node has no fault, where those before it stand before it

faultless : (channels : List Channel) (state : IrType) (spans : List Span) (nodes before : List Node) (i : ℕ) (seen : Seen) → IsTrue (none_broken (nodes_checks channels state spans before i seen nodes))
    → (k : ℕ) (n : Node) → slice_get nodes k ≡ Some n → HasNoFault channels (types_behind state (before ++ take k nodes)) n
faultless channels state spans [] before i seen h k n e = absurd (cc)
faultless channels state spans (x ∷ nodes) before i seen h zero n e =
    let same : x ≡ n = cc in
    let parts = parts_not (node_checks channels state before (get_or spans i nowhere) i seen x) (nodes_checks channels state spans (before ++ x ∷ []) (suc i) (see i x seen) nodes) h in
    subst (λ y. HasNoFault channels (types_behind state (before ++ [])) y) same
    (subst (λ ns. HasNoFault channels (types_behind state ns) x) (sym (append-nil before)) (no_fault channels state before (get_or spans i nowhere) i seen x parts.0))
faultless channels state spans (x ∷ nodes) before i seen h (suc k) n e =
    let parts = parts_not (node_checks channels state before (get_or spans i nowhere) i seen x) (nodes_checks channels state spans (before ++ x ∷ []) (suc i) (see i x seen) nodes) h in
    subst (λ ns. HasNoFault channels (types_behind state ns) n) (append_assoc before (x ∷ []) (take k nodes)) (faultless channels state spans nodes (before ++ x ∷ []) (suc i) (see i x seen) parts.1 k n e)

pub verified_nodes_fit : (ir : Package) (p : ℕ) (proc : Proc) → IsVerified ir → slice_get ir.procs p ≡ Some proc → (k : ℕ) (n : Node) → slice_get proc.nodes k ≡ Some n
    → IsTrue (node_fits ir.channels (types_behind proc.state (take k proc.nodes)) n)
verified_nodes_fit ir p proc h e k n there = let v = verified_proc ir h p proc e in (faultless ir.channels proc.state v.spans proc.nodes [] 0 v.seen v.nodes k n there).fits

-- ---- its operands

take_get : {A : Type 0} (k j : ℕ) (xs : List A) → j < k → slice_get (take k xs) j ≡ slice_get xs j
take_get zero j xs l = absurd (omega (arith, l))
take_get (suc k) j [] l = refl
take_get (suc k) zero (x ∷ xs) l = refl
take_get (suc k) (suc j) (x ∷ xs) l = take_get k j xs (omega (arith, l))

type_before : (state : IrType) (nodes : List Node) (k : ℕ) (o : Operand) → IsEarlier k o → type_in (types_behind state (take k nodes)) o ≡ type_in (types_behind state nodes) o
type_before state nodes k operand.State early = refl
type_before state nodes k (operand.Node j) early = ap (type_or (types_behind state nodes).missing) (take_get k j nodes early)

are_read : (v : Values) (scope : Scope) (state : IrType) (nodes : List Node) (k : ℕ) (shown : Operand → List Atom) (s : Value) (values : List Value) → scope_types scope ≡ types_behind state (take k nodes) → ((o : Operand) → IsEarlier k o → shown o ≡ shown_in scope o)
    → HaveOperandTypes state nodes s values → (os : List Operand) → AllByRecursion (IsEarlier k) os → AllByRecursion (λ o. ShowsValue v (shown o) (operand_value s values o)) os → AllByRecursion (IsOperandShown v scope s values) os
are_read v scope state nodes k shown s values same agree types [] early all = tt
are_read v scope state nodes k shown s values same agree types (o ∷ os) early all = (
  record {
    typed = subst (λ t. IsOfType (ty_of t) (operand_value s values o)) (sym (ap (λ z. type_in z o) same ∙ type_before state nodes k o early.0)) (types o);
    shows = subst (λ atoms. ShowsValue v atoms (operand_value s values o)) (agree o early.0) all.0;
  },
  are_read v scope state nodes k shown s values same agree types os early.1 all.1,
)

-- ---- the values of the nodes before it

abbrev first_values : ℕ → List Value → List Value
first_values zero values = []
first_values (suc k) values = first_values k values ++ get_or values k no_value ∷ []

count_values : (k : ℕ) (values : List Value) → length (first_values k values) ≡ k
count_values zero values = refl
count_values (suc k) values = let e = length-append (first_values k values) (get_or values k no_value ∷ []) in let rest = count_values k values in omega (arith, e, rest)

last_value : (xs : List Value) (x : Value) (j : ℕ) → j ≡ length xs → get_or (xs ++ x ∷ []) j no_value ≡ x
last_value [] x zero e = refl
last_value [] x (suc j) e = absurd (omega (arith, e))
last_value (y ∷ xs) x zero e = absurd (omega (arith, e))
last_value (y ∷ xs) x (suc j) e = last_value xs x j (omega (arith, e))

value_before : (k j : ℕ) (values : List Value) → j < k → get_or (first_values k values) j no_value ≡ get_or values j no_value
value_before zero j values l = absurd (omega (arith, l))
value_before (suc k) j values l =
    let count = count_values k values in
    ⊎_elim
    (λ less. get_or_append_left (first_values k values) (get_or values k no_value ∷ []) no_value j (omega (arith, less, count)) ∙ value_before k j values less)
    (λ past.
    let same : j ≡ k = omega (arith, past, l) in
    last_value (first_values k values) (get_or values k no_value) j (omega (arith, same, count)) ∙ ap (λ i. get_or values i no_value) (sym same))
    (cases_lt j k)

operands_agree : (s : Value) (values : List Value) (k : ℕ) (os : List Operand) → AllByRecursion (IsEarlier k) os → Agree (operand_value s (first_values k values)) (operand_value s values) os
operands_agree s values k [] early = tt
operands_agree s values k (operand.State ∷ os) early = (refl, operands_agree s values k os early.1)
operands_agree s values k (operand.Node j ∷ os) early = (value_before k j values early.0, operands_agree s values k os early.1)

take_count : {A : Type 0} (k : ℕ) (xs : List A) (x : A) → slice_get xs k ≡ Some x → length (take k xs) ≡ k
take_count zero xs x e = refl
take_count (suc k) [] x e = absurd (cc)
take_count (suc k) (y ∷ xs) x e = ap suc (take_count k xs x e)

take_within : {A : Type 0} (k j : ℕ) (xs : List A) (x : A) → slice_get (take k xs) j ≡ Some x → j < k
take_within zero j xs x e = absurd (cc)
take_within (suc k) j [] x e = absurd (cc)
take_within (suc k) zero (y ∷ xs) x e = omega arith
take_within (suc k) (suc j) (y ∷ xs) x e = let l = take_within k j xs x e in omega (arith, l)

state_sound : (channels : List Channel) (proc : Proc) → IsVerifiedProc channels proc → IsSound proc.state
state_sound channels proc v =
    let a = both_true (not (not (is_proc_named v.names proc))) _ v.head in
    let b = both_true (not (not (is_state proc))) _ a.1 in
    (both_true (marks_of proc.state).sound (is_value_of proc.state proc.init) (not_not_true (is_state proc) b.0)).0

are_typed : (channels : List Channel) (proc : Proc) → IsVerifiedProc channels proc → (k : ℕ) (n : Node) → slice_get proc.nodes k ≡ Some n → (s : Value) (values : List Value) → HaveOperandTypes proc.state proc.nodes s values
    → AreTyped (take k proc.nodes) (first_values k values)
are_typed channels proc v k n there s values types = record {
  count = count_values k values ∙ sym (take_count k proc.nodes n there);
  each = λ j m e.
      let within = take_within k j proc.nodes m e in
      let at : slice_get proc.nodes j ≡ Some m = sym (take_get k j proc.nodes within) ∙ e in
      record {
        value = subst (λ x. IsOfType (ty_of m.ty) x) (sym (value_before k j values within))
            (subst (λ o. IsOfType (ty_of (type_or (types_behind proc.state proc.nodes).missing o)) (get_or values j no_value)) at (types (operand.Node j)));
        sound = (faultless channels proc.state v.spans proc.nodes [] 0 v.seen v.nodes j m at).limits.sound;
      };
}

pub verified_node_shows : (ir : Package) (p : ℕ) (proc : Proc) → IsVerified ir → slice_get ir.procs p ≡ Some proc → (k : ℕ) (n : Node) → slice_get proc.nodes k ≡ Some n → (v : Values) (scope : Scope) (shown : Operand → List Atom)
    → IsScopeOf scope ir.channels proc k shown → role_of n ≡ role.Pure → (has : ℕ → ℕ) → PureShows v scope n (shown (operand.Node k)) → NodeShows v ir.channels proc.state proc.nodes has shown k n
verified_node_shows ir p proc h e k n there v scope shown stands pure has own_shows = λ s values words types all heard.
    let own = shown (operand.Node k) in
    let w = verified_proc ir h p proc e in
    let early = verified_nodes_read_earlier ir p proc h e k n there in
    let fault = faultless ir.channels proc.state w.spans proc.nodes [] 0 w.seen w.nodes k n there in
    let same : scope_types scope ≡ types_behind proc.state (take k proc.nodes) = ap₂ types_behind stands.state stands.before in
    let fits : IsTrue (node_fits scope.channels.now (scope_types scope) n) = subst (λ cs. IsTrue (node_fits cs (scope_types scope) n)) (sym stands.of) (subst (λ z. IsTrue (node_fits ir.channels z n)) (sym same) fault.fits) in
    let i = site_index proc.nodes k in
    let m = setting_by ir.channels s words in
    let firsts = first_values k values in
    let operands = operands_typed proc.state s (take k proc.nodes) firsts (record { value = types operand.State; sound = state_sound ir.channels proc w }) (are_typed ir.channels proc w k n there s values types) in
    let typed = node_typed m (types_behind proc.state (take k proc.nodes)) firsts i operands w.word_types n fault in
    let unsaid = subst (λ r. SameWord words words i r) (sym pure) tt in
    let equal = value_agrees ir.channels s s firsts values words words i n (operands_agree s values k (operands_read n) early) unsaid in
    let plain : value_by m values i n ≡ pure_value n s values = ap (role_value m values i n) pure in
    let of : IsOfType (ty_of n.ty) (pure_value n s values) = subst (IsOfType (ty_of n.ty)) (equal ∙ plain) typed in
    subst (ShowsValue v own) (sym plain) (own_shows s values (are_read v scope proc.state proc.nodes k shown s values same stands.earlier types (operands_read n) early all) fits of)

-- ---- sites

-- a predicate is a bit
fits_predicate : (channels : List Channel) (z : Types) (n : Node) → IsTrue (node_fits channels z n) → IsTrue (predicate_fits z (predicate_of (role_of n)))
fits_predicate channels z n fit = by n.attributes (both_true (is_met (count_of n.op) (length n.operands)) (types_fit channels z n n.attributes) fit).1
  where
    at : (o : Op) (predicate : Option Operand) (c : ℕ) → IsTrue (predicate_fits z predicate) → IsTrue (predicate_fits z (predicate_of (role_at o predicate c)))
    at op.Receive predicate c h = h
    at op.Send predicate c h = h
    at _ predicate c h = refl

    by : (a : Attributes) → IsTrue (types_fit channels z n a) → IsTrue (predicate_fits z (predicate_of (role_by n.op a)))
    by (attributes.Channel predicate c) h = at n.op predicate c (both_true (predicate_fits z predicate) (first_is_token z n.operands && site_fits n.op (channel_type channels c) z n.operands n.ty) h).0
    by _ h = refl

bit_type : (t : IrType) → IsTrue (is_bits_of 1 t) → ty_of t ≡ ty.Bits 1
bit_type t h = let one : bounded 1 ≡ 1 = omega arith in ap ty_of (bits_like t 1 h) ∙ ty_of-Bits 1 [] ∙ ap ty.Bits one

on_by : (v : Values) (scope : Scope) (state : IrType) (nodes : List Node) (k : ℕ) (shown : Operand → List Atom) (predicate : Option Operand) (on : Atom) → on ≡ on_signal scope predicate → AllByRecursion (IsEarlier k) (optional_read predicate)
    → ((o : Operand) → IsEarlier k o → shown o ≡ shown_in scope o) → IsTrue (predicate_fits (types_behind state (take k nodes)) predicate) → IsOnSignal v state nodes shown predicate on
on_by v scope state nodes k shown None on is early agree fit = ap (atom_value v) is ∙ literal_value v 1 1 (omega arith) (omega arith) (let l : 1 < 2 = omega arith in l)
on_by v scope state nodes k shown (Some o) on is early agree fit =
    (is ∙ ap first_or (sym (agree o early.0)), ap ty_of (sym (type_before state nodes k o early.0)) ∙ bit_type (type_in (types_behind state (take k nodes)) o) fit)

pub verified_site_is_on : (ir : Package) (p : ℕ) (proc : Proc) → IsVerified ir → slice_get ir.procs p ≡ Some proc → (k : ℕ) (n : Node) → slice_get proc.nodes k ≡ Some n → (v : Values) (scope : Scope) (shown : Operand → List Atom)
    → IsScopeOf scope ir.channels proc k shown → (on : Atom) → on ≡ on_signal scope (predicate_of (role_of n)) → IsOnSignal v proc.state proc.nodes shown (predicate_of (role_of n)) on
verified_site_is_on ir p proc h e k n there v scope shown stands on is =
    on_by v scope proc.state proc.nodes k shown (predicate_of (role_of n)) on is (predicate_shown (IsEarlier k) n (verified_nodes_read_earlier ir p proc h e k n there)) stands.earlier
    (fits_predicate ir.channels (types_behind proc.state (take k proc.nodes)) n (verified_nodes_fit ir p proc h e k n there))

-- a receive
pub verified_receive_shows : (ir : Package) (p : ℕ) (proc : Proc) → IsVerified ir → slice_get ir.procs p ≡ Some proc → (k : ℕ) (n : Node) → slice_get proc.nodes k ≡ Some n → (v : Values) (scope : Scope) (shown : Operand → List Atom)
    → IsScopeOf scope ir.channels proc k shown → (predicate : Option Operand) (c : ℕ) → role_of n ≡ role.Receive predicate c → (has : ℕ → ℕ)
    → ShowsReceived v ir.channels c (has (site_index proc.nodes k)) (on_signal scope predicate) (shown (operand.Node k)) → NodeShows v ir.channels proc.state proc.nodes has shown k n
verified_receive_shows ir p proc h e k n there v scope shown stands predicate c is has own_shows = λ s values words types all heard.
    let own = shown (operand.Node k) in
    let i = site_index proc.nodes k in
    let w = verified_proc ir h p proc e in
    let fault = faultless ir.channels proc.state w.spans proc.nodes [] 0 w.seen w.nodes k n there in
    let comes : (v (has i) ≡ words i) × IsWordOf (width_at (channel_type ir.channels c)) (words i) = subst (λ r. IsHeard v ir.channels has words i r) is heard in
    let signal : IsOnSignal v proc.state proc.nodes shown predicate (on_signal scope predicate) =
    subst (λ r. IsOnSignal v proc.state proc.nodes shown (predicate_of r) (on_signal scope (predicate_of r))) is
    (verified_site_is_on ir p proc h e k n there v scope shown stands (on_signal scope (predicate_of (role_of n))) refl) in
    let read = subst (λ r. AllByRecursion (λ o. ShowsValue v (shown o) (operand_value s values o)) (optional_read (predicate_of r))) is (predicate_shown (λ o. ShowsValue v (shown o) (operand_value s values o)) n all) in
    let on = on_is v proc.state proc.nodes shown s values predicate (on_signal scope predicate) signal types read in
    let channel : HasChannel ir.channels (role.Receive predicate c) = subst (HasChannel ir.channels) is fault.channel in
    let typed : channel_type ir.channels c ≡ Some channel.0.ty = ap (option_map (λ (channel : Channel). channel.ty)) channel.1 in
    let of : IsWordOf (width_of (ty_of channel.0.ty)) (words i) = subst (λ o. IsWordOf (width_at o) (words i)) typed comes.1 in
    let given : ShowsValue v own (received ir.channels c (is_on s values predicate) (words i)) =
    own_shows channel.0.ty (is_on s values predicate) (words i) typed (w.word_types c channel.0 channel.1).widths comes.0 of on in
    subst (ShowsValue v own) (sym (ap (role_value (setting_by ir.channels s words) values i n) is)) given

-- a send
pub verified_send_shows : (ir : Package) (proc : Proc) (k : ℕ) (n : Node) (v : Values) (shown : Operand → List Atom) (predicate : Option Operand) (c : ℕ) → role_of n ≡ role.Send predicate c → (has : ℕ → ℕ)
    → shown (operand.Node k) ≡ [] → NodeShows v ir.channels proc.state proc.nodes has shown k n
verified_send_shows ir proc k n v shown predicate c is has none = λ s values words types all heard.
    let i = site_index proc.nodes k in
    subst (λ atoms. ShowsValue v atoms (value_by (setting_by ir.channels s words) values i n)) (sym none)
    (subst (ShowsValue v []) (sym (ap (role_value (setting_by ir.channels s words) values i n) is)) (nothing_shown v))

-- what it sends
record SendsSecond (channels : List Channel) (z : Types) (os : List Operand) (c : ℕ) : Type 0 where
  second : Operand
  there : slice_get os 1 ≡ Some second
  typed : (t : IrType) → channel_type channels c ≡ Some t → t ≡ type_in z second

send_at : (channels : List Channel) (z : Types) (result : IrType) (o : Op) (os : List Operand) (p : Option Operand) (c : ℕ) (predicate : Option Operand) (d : ℕ) → role_at o p c ≡ role.Send predicate d → IsTrue (is_met (count_of o) (length os))
    → IsTrue (site_fits o (channel_type channels c) z os result) → SendsSecond channels z os d
send_at channels z result op.Send os p c predicate d e met h =
    let same : c ≡ d = cc in
    let two = two_of os met in
    record {
      second = two.second;
      there = ap (λ us. slice_get us 1) two.are;
      typed = λ t is.
          let there : IsTrue (sends_type (Some t) z (rest_of (two.first ∷ two.second ∷ [])) result) =
          subst (λ us. IsTrue (sends_type (Some t) z (rest_of us) result)) two.are (subst (λ x. IsTrue (sends_type x z (rest_of os) result)) (ap (channel_type channels) same ∙ is) h) in
          let rest = both_true (is_token result) (list_all (λ o. same_type t (type_in z o)) (two.second ∷ [])) there in
          same_is t (type_in z two.second) (both_true (same_type t (type_in z two.second)) true rest.1).0;
    }
send_at channels z result _ os p c predicate d e met h = absurd (cc)

send_by : (channels : List Channel) (z : Types) (n : Node) (a : Attributes) (predicate : Option Operand) (d : ℕ) → role_by n.op a ≡ role.Send predicate d → IsTrue (is_met (count_of n.op) (length n.operands) && types_fit channels z n a)
    → SendsSecond channels z n.operands d
send_by channels z n (attributes.Channel p c) predicate d e fit =
    let both = both_true (is_met (count_of n.op) (length n.operands)) (predicate_fits z p && (first_is_token z n.operands && site_fits n.op (channel_type channels c) z n.operands n.ty)) fit in
    let rest = both_true (predicate_fits z p) (first_is_token z n.operands && site_fits n.op (channel_type channels c) z n.operands n.ty) both.1 in
    send_at channels z n.ty n.op n.operands p c predicate d e both.0 (both_true (first_is_token z n.operands) (site_fits n.op (channel_type channels c) z n.operands n.ty) rest.1).1
send_by channels z n _ predicate d e fit = absurd (cc)

pub verified_send_carries : (ir : Package) (p : ℕ) (proc : Proc) → IsVerified ir → slice_get ir.procs p ≡ Some proc → (k : ℕ) (n : Node) → slice_get proc.nodes k ≡ Some n → (v : Values) (scope : Scope) (shown : Operand → List Atom)
    → IsScopeOf scope ir.channels proc k shown → (predicate : Option Operand) (c : ℕ) → role_of n ≡ role.Send predicate c → (word : Atom) → CarriesSent v scope n.operands word
    → (o : Operand) × (slice_get n.operands 1 ≡ Some o) × ((value : Value) → IsOfType (ty_of (type_in (types_behind proc.state proc.nodes) o)) value → ShowsValue v (shown o) value → atom_value v word ≡ sent value)
verified_send_carries ir p proc h e k n there v scope shown stands predicate c is word carries =
    let w = verified_proc ir h p proc e in
    let z = types_behind proc.state (take k proc.nodes) in
    let fault = faultless ir.channels proc.state w.spans proc.nodes [] 0 w.seen w.nodes k n there in
    let second = send_by ir.channels z n n.attributes predicate c is fault.fits in
    let o = second.second in
    let early = operand_read (IsEarlier k) n.operands (attributes_read n.attributes) 1 o second.there (verified_nodes_read_earlier ir p proc h e k n there) in
    let channel : HasChannel ir.channels (role.Send predicate c) = subst (HasChannel ir.channels) is fault.channel in
    let typed : channel_type ir.channels c ≡ Some channel.0.ty = ap (option_map (λ (channel : Channel). channel.ty)) channel.1 in
    let of : channel.0.ty ≡ type_in z o = second.typed channel.0.ty typed in
    let words : IsWordType (ty_of (type_in z o)) = subst (λ t. IsWordType (ty_of t)) of (w.word_types c channel.0 channel.1) in
    let same : scope_types scope ≡ z = ap₂ types_behind stands.state stands.before in
    let here : type_in (scope_types scope) o ≡ type_in z o = ap (λ y. type_in y o) same in (
      o,
      second.there,
      λ value fits shows.
          carries o value second.there (subst (λ t. IsOfType (ty_of t) value) (sym (here ∙ type_before proc.state proc.nodes k o early)) fits)
          (subst (λ t. 1 ≤ width_of (ty_of t)) (sym here) words.some_width) (subst (λ t. width_of (ty_of t) ≤ 128) (sym here) words.most_width)
          (subst (λ atoms. ShowsValue v atoms value) (stands.earlier o early) shows),
    )
  where
    operand_read : (P : Operand → Type 0) (xs ys : List Operand) (i : ℕ) (o : Operand) → slice_get xs i ≡ Some o → AllByRecursion P (xs ++ ys) → P o
    operand_read P [] ys i o e h = absurd (cc)
    operand_read P (x ∷ xs) ys zero o e h = let same : x ≡ o = cc in subst P same h.0
    operand_read P (x ∷ xs) ys (suc i) o e h = operand_read P xs ys i o e h.1
