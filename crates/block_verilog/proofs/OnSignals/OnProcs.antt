-- The signals of a proc's nodes and sites, one node behind another.
use Rattle.std.proofs.Common.{◌≡◌, ℕ, zero, suc, ◌+◌, ◌<◌, ◌≤◌, List, [], ◌∷◌, ◌++◌, length, take, get_or, Bool, false, Option, Some, None, Result, Ok, Err, refl, sym, ap, ap₂, ◌∙◌, subst, arith, ⊎_elim}
use Rattle.std.specs.Prelude.{IfOk, OnOk, slice_get, option_to_list}
use Rattle.std.proofs.lemmas.Bool.{cases_lt}
use Rattle.std.proofs.lemmas.List.{length-append, take_all}
use Rattle.base.proofs.Lemmas.Lists.Indices.{slice_get-append_left, slice_get-append_right}
use Rattle.ir_tree.specs.declared.ir_type.IrType.{IrType}
use Rattle.ir_tree.specs.declared.node.Attributes.{Attributes}
use Rattle.ir_tree.specs.declared.node.Attributes.TheVariants as attributes
use Rattle.ir_tree.specs.declared.node.Node.{Node}
use Rattle.ir_tree.specs.declared.node.Operand.{Operand}
use Rattle.ir_tree.specs.declared.node.Operand.TheVariants as operand
use Rattle.ir_tree.specs.declared.node.Role.{Role}
use Rattle.ir_tree.specs.declared.node.Role.TheVariants as role
use Rattle.ir_tree.specs.declared.package.Channel.{Channel}
use Rattle.ir_tree.specs.declared.package.Proc.{Proc}
use Rattle.ir_tree.specs.NodeValues.{role_of, next_site, count_sites}
use Rattle.ir_tree.specs.Types.{ty_of}
use Rattle.vlog_tree.specs.declared.expression.Atom.{Atom}
use Rattle.vlog_tree.specs.declared.expression.Atom.TheVariants as atom
use Rattle.vlog_tree.specs.declared.signal.Signal.{Signal}
use Rattle.vlog_tree.specs.Value.{Values}
use Rattle.block_build.specs.declared.netlist.fifos.ChannelView.{ChannelView}
use Rattle.block_build.specs.declared.netlist.places.Place.{Place}
use Rattle.block_build.specs.declared.netlist.scopes.Scope.{Scope}
use Rattle.block_build.specs.declared.netlist.sites.Site.{Site}
use Rattle.block_build.specs.declared.netlist.wires.WireList.{WireList}
use Rattle.block_build.specs.Netlist.Added.{next_number, AddsWires, Puts}
use Rattle.block_build.specs.Netlist.Gates.{choice_gate}
use Rattle.block_build.specs.Netlist.Leaves.{leaf_widths, nets}
use Rattle.block_build.specs.Netlist.Nodes.{site_index, IsEarlier}
use Rattle.block_build.specs.Netlist.Places.{optional_at, shown_at}
use Rattle.block_build.specs.Netlist.Pure.{PureShows}
use Rattle.block_build.specs.Netlist.Wires.{AreWired}
use Rattle.block_build.specs.Netlist.Words.{on_signal, CarriesSent, ShowsReceived}
use Rattle.block_verilog.specs.declared.signals.layout.ProcRegisters.{ProcRegisters}
use Rattle.block_build.specs.declared.netlist.layout.SiteRegisters.{SiteRegisters}
use Rattle.block_verilog.specs.declared.signals.procs.NodeWires.{NodeWires}
use Rattle.block_verilog.specs.declared.signals.procs.OwnSignals.{OwnSignals}
use Rattle.block_verilog.specs.Signals.Nodes.{channel_view, receive_site_of, send_site_of, place_of, with_node, IsSiteAt, PurePut, ReceivePut, SendPut, NodePut, NodeMade, FirstMade, NodesMade}
use Rattle.block_verilog.specs.Signals.Registers.{stage_at, registers_of_site, copies_from, state_place}
use Rattle.block_build.specs.Netlist.Nexts.{is_literal}
use Rattle.block_build.specs.Netlist.ProcRegisters.{channel_bits}

-- ---- lists

-- an item of a list
pub item_there : {A : Type 0} (xs : List A) (i : ℕ) (x : A) → i < length xs → x ≡ get_or xs i x → slice_get xs i ≡ Some x
item_there [] i x l is = absurd (omega (arith, l))
item_there (y ∷ xs) zero x l is = ap Some (sym is)
item_there (y ∷ xs) (suc i) x l is = item_there xs i x (omega (arith, l)) is

pub there_within : {A : Type 0} (xs : List A) (i : ℕ) (x : A) → slice_get xs i ≡ Some x → i < length xs
there_within [] i x e = absurd (cc)
there_within (y ∷ xs) zero x e = omega arith
there_within (y ∷ xs) (suc i) x e = let l = there_within xs i x e in omega (arith, l)

-- it is still there with more behind
there_before : {A : Type 0} (xs ys : List A) (i : ℕ) (x : A) → slice_get xs i ≡ Some x → slice_get (xs ++ ys) i ≡ Some x
there_before xs ys i x e = slice_get-append_left xs ys i (there_within xs i x e) ∙ e

there_behind : {A : Type 0} (xs : List A) (x : A) (i : ℕ) → length xs ≡ i → slice_get (xs ++ x ∷ []) i ≡ Some x
there_behind xs x i e = slice_get-append_right xs (x ∷ []) i 0 (omega (arith, e))

-- ---- where the state stands

pub place_is : (t : IrType) (registers : ProcRegisters) (own new old : List Atom) (count : ℕ) (ws : List ℕ) → own ≡ new → new ≡ old ++ nets registers.state count → old ≡ [] → count ≡ length ws → ws ≡ leaf_widths (ty_of t)
    → ◌≡◌ {A = Place} (record { stage = 0; own = own; copies = registers.state_copies; constant = false }) (state_place t registers)
place_is t registers own new old count ws e put none many is =
    let whole : own ≡ nets registers.state (length (leaf_widths (ty_of t))) = e ∙ put ∙ ap (λ xs. xs ++ nets registers.state count) none ∙ ap (nets registers.state) (many ∙ ap length is) in
    λ i. record { stage = 0; own = whole i; copies = registers.state_copies; constant = false }

-- ---- the signals of a node

pub pure_made : (a c : WireList) (scope : Scope) (n : Node) (signals : List Atom) → AddsWires a c (λ v. PureShows v scope n signals) → AddsWires a c (λ v. PurePut v scope n (record { signals = signals; site = None }))
pure_made a c scope n signals p = λ v h. let both = p v h in (both.0, record { shows = both.1; site = refl })

pub receive_made : (a b c : WireList) (scope : Scope) (registers : SiteRegisters) (views : List ChannelView) (view : ChannelView) (predicate : Option Operand) (ch : ℕ) (on : Atom) (width : ℕ) (has : Signal) (signals : List Atom) (site : Site)
    → on ≡ on_signal scope predicate → view ≡ channel_view views ch → width ≡ channel_bits scope.channels.now ch → has.0 ≡ next_number a
    → Puts a b (choice_gate width (atom.Signal registers.done) (atom.Signal registers.kept) view.word ∷ []) → AddsWires b c (λ v. ShowsReceived v scope.channels.now ch has.0 on signals)
    → site ≡ receive_site_of scope.stage registers view ch width on has
    → AddsWires a c (λ v. ReceivePut v scope registers (channel_view views ch) predicate ch (record { signals = signals; site = Some site }))
receive_made a b c scope registers views view predicate ch on width has signals site on_is view_is width_is number p q is = λ v h.
    let later = q v h in
    let sooner = p.wired v later.0 in
    let wire : (w : ℕ) → ChannelView → Type 0 = λ w x. AreWired v has.0 (choice_gate w (atom.Signal registers.done) (atom.Signal registers.kept) x.word ∷ []) in
    let here : wire width view = subst (λ k. AreWired v k (choice_gate width (atom.Signal registers.done) (atom.Signal registers.kept) view.word ∷ [])) (sym number) sooner.1 in (
      sooner.0,
      record {
        has = has;
        wired = subst (λ x. wire (channel_bits scope.channels.now ch) x) view_is (subst (λ w. wire w view) width_is here);
        shows = subst (λ t. ShowsReceived v scope.channels.now ch has.0 t signals) on_is later.1;
        site = ap Some (is ∙ ap (λ x. receive_site_of scope.stage registers x ch width on has) view_is ∙ ap₂ (λ w t. receive_site_of scope.stage registers (channel_view views ch) ch w t has) width_is on_is);
      },
    )

pub send_made : (a c : WireList) (scope : Scope) (registers : SiteRegisters) (views : List ChannelView) (view : ChannelView) (operands : List Operand) (predicate : Option Operand) (ch : ℕ) (on : Atom) (width : ℕ) (word : Atom) (signals : List Atom) (site : Site)
    → on ≡ on_signal scope predicate → view ≡ channel_view views ch → width ≡ channel_bits scope.channels.now ch → AddsWires a c (λ v. CarriesSent v scope operands word) → signals ≡ []
    → site ≡ send_site_of scope.stage registers view ch width on word
    → AddsWires a c (λ v. SendPut v scope registers (channel_view views ch) operands predicate ch (record { signals = signals; site = Some site }))
send_made a c scope registers views view operands predicate ch on width word signals site on_is view_is width_is q none is = λ v h.
    let both = q v h in (
      both.0,
      record {
        word = word;
        carries = both.1;
        none = none;
        site = ap Some (is ∙ ap (λ x. send_site_of scope.stage registers x ch width on word) view_is ∙ ap₂ (λ w t. send_site_of scope.stage registers (channel_view views ch) ch w t word) width_is on_is);
      },
    )

-- by what it is to the outside
pub by_role : {E : Type 0} (o : Result OwnSignals E) (a c : WireList) (scope : Scope) (registers : SiteRegisters) (views : List ChannelView) (n : Node) (q r : Role) → q ≡ role_of n → q ≡ r
    → IfOk o (λ own. AddsWires a c (λ v. NodePut v scope registers views n own r)) → IfOk o (λ own. AddsWires a c (λ v. NodePut v scope registers views n own (role_of n)))
by_role o a c scope registers views n q r e is p = subst (λ x. IfOk o (λ own. AddsWires a c (λ v. NodePut v scope registers views n own x))) (sym is ∙ e) p

pub send_role : {E : Type 0} (o : Result OwnSignals E) (a c : WireList) (scope : Scope) (registers : SiteRegisters) (views : List ChannelView) (n : Node) (q : Role) (predicate : Option Operand) (ch : ℕ) (operands : List Operand) → q ≡ role_of n → q ≡ role.Send predicate ch
    → operands ≡ n.operands → IfOk o (λ own. AddsWires a c (λ v. SendPut v scope registers (channel_view views ch) operands predicate ch own))
    → IfOk o (λ own. AddsWires a c (λ v. NodePut v scope registers views n own (role_of n)))
send_role o a c scope registers views n q predicate ch operands e is same p =
    by_role o a c scope registers views n q (role.Send predicate ch) e is (subst (λ os. IfOk o (λ own. AddsWires a c (λ v. SendPut v scope registers (channel_view views ch) os predicate ch own))) same p)

-- as many as there are to be
pub counted_put : {E : Type 0} (o : Result OwnSignals E) (a c : WireList) (scope : Scope) (registers : SiteRegisters) (views : List ChannelView) (n : Node) (own : OwnSignals) → IfOk o (λ x. x ≡ own) → AddsWires a c (λ v. NodePut v scope registers views n own (role_of n))
    → IfOk o (λ x. AddsWires a c (λ v. NodePut v scope registers views n x (role_of n)))
counted_put (Ok x) a c scope registers views n own is p = subst (λ y. AddsWires a c (λ v. NodePut v scope registers views n y (role_of n))) (sym is) p
counted_put (Err e) a c scope registers views n own is p = tt

pub counted_long : {E : Type 0} (o : Result OwnSignals E) (count : ℕ) (ws all : List ℕ) → count ≡ length ws → ws ≡ all → IfOk o (λ x. length x.signals ≡ count) → IfOk o (λ x. length x.signals ≡ length all)
counted_long (Ok x) count ws all many is p = p ∙ many ∙ ap length is
counted_long (Err e) count ws all many is p = tt

-- ---- a node is kept

pub kept_site : {A E : Type 0} (o : Result A E) (made : NodeWires) (own : OwnSignals) (stage copies : ℕ) (constant : Bool) (site : Site) (nodes : List Place) (sites : List Site) → own.site ≡ Some site
    → nodes ≡ made.places.nodes ++ place_of own stage copies constant ∷ [] → OnOk o (sites ≡ made.sites ++ site ∷ [])
    → OnOk o (◌≡◌ {A = NodeWires} (record { places = record { state = made.places.state; nodes = nodes }; sites = sites }) (with_node made own stage copies constant))
kept_site (Ok u) made own stage copies constant site nodes sites is e f =
    let whole : sites ≡ made.sites ++ option_to_list own.site = f ∙ ap (λ x. made.sites ++ option_to_list x) (sym is) in
    λ i. record { places = record { state = made.places.state; nodes = e i }; sites = whole i }
kept_site (Err z) made own stage copies constant site nodes sites is e f = tt

pub kept_none : (made : NodeWires) (own : OwnSignals) (stage copies : ℕ) (constant : Bool) (nodes : List Place) → own.site ≡ None → nodes ≡ made.places.nodes ++ place_of own stage copies constant ∷ []
    → ◌≡◌ {A = NodeWires} (record { places = record { state = made.places.state; nodes = nodes }; sites = made.sites }) (with_node made own stage copies constant)
kept_none made own stage copies constant nodes is e =
    let whole : made.sites ≡ made.sites ++ option_to_list own.site = sym (none_more made.sites) ∙ ap (λ x. made.sites ++ option_to_list x) (sym is) in
    λ i. record { places = record { state = made.places.state; nodes = e i }; sites = whole i }
  where
    none_more : (xs : List Site) → xs ++ [] ≡ xs
    none_more [] = refl
    none_more (x ∷ xs) = ap (λ ys. x ∷ ys) (none_more xs)

-- ---- one node behind another

-- the signals of operands before a node stay
shown_kept : (made : NodeWires) (own : OwnSignals) (stage copies : ℕ) (constant : Bool) (j k : ℕ) (o : Operand) → IsEarlier k o → k ≤ length made.places.nodes
    → shown_at (with_node made own stage copies constant).places j o ≡ shown_at made.places j o
shown_kept made own stage copies constant j k operand.State early l = refl
shown_kept made own stage copies constant j k (operand.Node m) early l = ap (optional_at j) (slice_get-append_left made.places.nodes (place_of own stage copies constant ∷ []) m (omega (arith, early, l)))

site_kept : (xs ys : List Site) (i : ℕ) (site : Option Site) → IsSiteAt xs i site → IsSiteAt (xs ++ ys) i site
site_kept xs ys i None h = tt
site_kept xs ys i (Some site) h = there_before xs ys i site h

site_new : (xs : List Site) (i : ℕ) (site : Option Site) → length xs ≡ i → IsSiteAt (xs ++ option_to_list site) i site
site_new xs i None e = tt
site_new xs i (Some site) e = there_behind xs site i e

node_kept : (v : Values) (channels : List Channel) (proc : Proc) (stages : List ℕ) (registers : ProcRegisters) (views : List ChannelView) (made : NodeWires) (own : OwnSignals) (stage copies : ℕ) (constant : Bool) (k : ℕ) (n : Node)
    → k ≤ length made.places.nodes → NodeMade v channels proc stages registers views made k n → NodeMade v channels proc stages registers views (with_node made own stage copies constant) k n
node_kept v channels proc stages registers views made own stage copies constant k n l m = record {
  scope = m.scope;
  own = m.own;
  stands = record {
    of = m.stands.of;
    state = m.stands.state;
    before = m.stands.before;
    earlier = λ o early. shown_kept made own stage copies constant (stage_at stages k) k o early l ∙ m.stands.earlier o early;
  };
  stage = m.stage;
  place = there_before made.places.nodes (place_of own stage copies constant ∷ []) k (place_of m.own (stage_at stages k) (copies_from registers k) (is_literal n.attributes)) m.place;
  site = site_kept made.sites (option_to_list own.site) (site_index proc.nodes k) m.own.site m.site;
  put = m.put;
  count = m.count;
}

-- where a node stands that is put behind those that there are
pub record PutBehind (scope : Scope) (channels : List Channel) (proc : Proc) (stages : List ℕ) (made : NodeWires) (k : ℕ) : Type 0 where
  pub of : scope.channels.now ≡ channels
  pub state : scope.state.now ≡ proc.state
  pub before : scope.before.now ≡ take k proc.nodes
  pub places : scope.places.now ≡ made.places
  pub stage : scope.stage ≡ stage_at stages k

node_new : (v : Values) (channels : List Channel) (proc : Proc) (stages : List ℕ) (registers : ProcRegisters) (views : List ChannelView) (made : NodeWires) (scope : Scope) (own : OwnSignals) (k : ℕ) (n : Node)
    → length made.places.nodes ≡ k → length made.sites ≡ site_index proc.nodes k → PutBehind scope channels proc stages made k
    → NodePut v scope (registers_of_site registers (length made.sites)) views n own (role_of n) → length own.signals ≡ length (leaf_widths (ty_of n.ty))
    → NodeMade v channels proc stages registers views (with_node made own (stage_at stages k) (copies_from registers k) (is_literal n.attributes)) k n
node_new v channels proc stages registers views made scope own k n count sites b put long =
    let within : k ≤ length made.places.nodes = omega (arith, count) in
    record {
      scope = scope;
      own = own;
      stands = record {
        of = b.of;
        state = b.state;
        before = b.before;
        earlier = λ o early.
            shown_kept made own (stage_at stages k) (copies_from registers k) (is_literal n.attributes) (stage_at stages k) k o early within
            ∙ ap₂ (λ ps j. shown_at ps j o) (sym b.places) (sym b.stage);
      };
      stage = b.stage;
      place = there_behind made.places.nodes (place_of own (stage_at stages k) (copies_from registers k) (is_literal n.attributes)) k count;
      site = site_new made.sites (site_index proc.nodes k) own.site sites;
      put = subst (λ i. NodePut v scope (registers_of_site registers i) views n own (role_of n)) sites put;
      count = long;
    }

-- how many sites there are
count_more : (k : ℕ) (nodes : List Node) (n : Node) (i : ℕ) → slice_get nodes k ≡ Some n → count_sites i (take (suc k) nodes) ≡ next_site (count_sites i (take k nodes)) (role_of n)
unfolding count_sites
count_more k [] n i e = absurd (cc)
count_more zero (x ∷ nodes) n i e = let same : x ≡ n = cc in ap (λ y. next_site i (role_of y)) same
count_more (suc k) (x ∷ nodes) n i e = count_more k nodes n (next_site i (role_of x)) e

sites_more : (v : Values) (scope : Scope) (registers : SiteRegisters) (views : List ChannelView) (n : Node) (own : OwnSignals) (r : Role) (sites : List Site) (i : ℕ) → length sites ≡ i → NodePut v scope registers views n own r
    → length (sites ++ option_to_list own.site) ≡ next_site i r
sites_more v scope registers views n own role.Pure sites i e put =
    ap (λ x. length (sites ++ option_to_list x)) put.site ∙ (let l = length-append sites [] in omega (arith, e, l))
sites_more v scope registers views n own (role.Receive predicate c) sites i e put =
    ap (λ x. length (sites ++ option_to_list x)) put.site ∙ one_more sites (receive_site_of scope.stage registers (channel_view views c) c (channel_bits scope.channels.now c) (on_signal scope predicate) put.has) i e
  where
    one_more : (xs : List Site) (x : Site) (i : ℕ) → length xs ≡ i → length (xs ++ x ∷ []) ≡ suc i
    one_more xs x i e = let l = length-append xs (x ∷ []) in omega (arith, e, l)
sites_more v scope registers views n own (role.Send predicate c) sites i e put =
    ap (λ x. length (sites ++ option_to_list x)) put.site ∙ one_more sites (send_site_of scope.stage registers (channel_view views c) c (channel_bits scope.channels.now c) (on_signal scope predicate) put.word) i e
  where
    one_more : (xs : List Site) (x : Site) (i : ℕ) → length xs ≡ i → length (xs ++ x ∷ []) ≡ suc i
    one_more xs x i e = let l = length-append xs (x ∷ []) in omega (arith, e, l)

first_more : (v : Values) (channels : List Channel) (proc : Proc) (stages : List ℕ) (registers : ProcRegisters) (views : List ChannelView) (made : NodeWires) (scope : Scope) (own : OwnSignals) (k : ℕ) (n : Node) → slice_get proc.nodes k ≡ Some n
    → PutBehind scope channels proc stages made k → FirstMade v channels proc stages registers views made k → NodePut v scope (registers_of_site registers (length made.sites)) views n own (role_of n)
    → length own.signals ≡ length (leaf_widths (ty_of n.ty))
    → FirstMade v channels proc stages registers views (with_node made own (stage_at stages k) (copies_from registers k) (is_literal n.attributes)) (suc k)
first_more v channels proc stages registers views made scope own k n there b f put long =
    let count = f.count in
    let more = length-append made.places.nodes (place_of own (stage_at stages k) (copies_from registers k) (is_literal n.attributes) ∷ []) in
    record {
      state = f.state;
      count = omega (arith, count, more);
      site_count = sites_more v scope (registers_of_site registers (length made.sites)) views n own (role_of n) made.sites (site_index proc.nodes k) f.site_count put ∙ sym (count_more k proc.nodes n 0 there);
      each = λ j m l e. ⊎_elim
          (λ less. node_kept v channels proc stages registers views made own (stage_at stages k) (copies_from registers k) (is_literal n.attributes) j m (omega (arith, less, count)) (f.each j m less e))
          (λ past.
          let same : k ≡ j = omega (arith, past, l) in
          let node : n ≡ m = (let x : Some n ≡ Some m = sym there ∙ ap (slice_get proc.nodes) same ∙ e in cc) in
          subst (λ y. NodeMade v channels proc stages registers views (with_node made own (stage_at stages k) (copies_from registers k) (is_literal n.attributes)) j y) node
          (subst (λ i. NodeMade v channels proc stages registers views (with_node made own (stage_at stages k) (copies_from registers k) (is_literal n.attributes)) i n) same
          (node_new v channels proc stages registers views made scope own k n count f.site_count b put long)))
          (cases_lt j k);
    }

none_counted : (nodes : List Node) → 0 ≡ site_index nodes 0
unfolding count_sites
none_counted nodes = refl

pub none_made : (a : WireList) (channels : List Channel) (proc : Proc) (stages : List ℕ) (registers : ProcRegisters) (views : List ChannelView) (made : NodeWires) → made.places.state ≡ state_place proc.state registers → made.places.nodes ≡ [] → made.sites ≡ []
    → AddsWires a a (λ v. FirstMade v channels proc stages registers views made 0)
none_made a channels proc stages registers views made state nodes sites = λ v h.
    (h, record { state = state; count = ap length nodes; site_count = ap length sites ∙ none_counted proc.nodes; each = λ k n l e. absurd (omega (arith, l)) })

pub one_made : (a b c : WireList) (channels : List Channel) (proc : Proc) (stages : List ℕ) (registers : ProcRegisters) (views : List ChannelView) (made new : NodeWires) (scope : Scope) (site : SiteRegisters) (own : OwnSignals) (k stage copies sites : ℕ) (constant : Bool) (n : Node)
    (nodes : List Node) → nodes ≡ proc.nodes → k < length nodes → n ≡ get_or nodes k n → PutBehind scope channels proc stages made k → sites ≡ length made.sites → site ≡ registers_of_site registers sites → stage ≡ stage_at stages k
    → copies ≡ copies_from registers k → constant ≡ is_literal n.attributes → new ≡ with_node made own stage copies constant
    → AddsWires a b (λ v. FirstMade v channels proc stages registers views made k) → AddsWires b c (λ v. NodePut v scope site views n own (role_of n))
    → length own.signals ≡ length (leaf_widths (ty_of n.ty)) → AddsWires a c (λ v. FirstMade v channels proc stages registers views new (k + 1))
one_made a b c channels proc stages registers views made new scope site own k stage copies sites constant n nodes same within item behind many site_is stage_is copies_are constant_is is p q long = λ v h.
    let later = q v h in
    let sooner = p v later.0 in
    let there : slice_get proc.nodes k ≡ Some n = subst (λ ns. slice_get ns k ≡ Some n) same (item_there nodes k n within item) in
    let put = subst (λ r. NodePut v scope r views n own (role_of n)) (site_is ∙ ap (registers_of_site registers) many) later.1 in
    let step = first_more v channels proc stages registers views made scope own k n there behind sooner.1 put long in
    let whole : with_node made own (stage_at stages k) (copies_from registers k) (is_literal n.attributes) ≡ new =
    ap (λ x. with_node made own x (copies_from registers k) (is_literal n.attributes)) (sym stage_is) ∙ ap₂ (λ x y. with_node made own stage x y) (sym copies_are) (sym constant_is) ∙ sym is in
    let one : suc k ≡ k + 1 = omega arith in
    (sooner.0, subst (λ i. FirstMade v channels proc stages registers views new i) one (subst (λ m. FirstMade v channels proc stages registers views m (suc k)) whole step))

pub all_made : (a b : WireList) (channels : List Channel) (proc : Proc) (stages : List ℕ) (registers : ProcRegisters) (views : List ChannelView) (made : NodeWires) (i : ℕ) (nodes : List Node) → nodes ≡ proc.nodes → i ≡ length nodes
    → AddsWires a b (λ v. FirstMade v channels proc stages registers views made i) → AddsWires a b (λ v. NodesMade v channels proc stages registers views made)
all_made a b channels proc stages registers views made i nodes same end p = λ v h.
    let both = p v h in
    let f = both.1 in
    let whole : i ≡ length proc.nodes = end ∙ ap length same in
    let all : take i proc.nodes ≡ proc.nodes = take_all i proc.nodes (omega (arith, whole)) in (
      both.0,
      record {
        state = f.state;
        count = f.count ∙ whole;
        site_count = f.site_count ∙ ap (count_sites 0) all;
        each = λ k n e. f.each k n (let l = there_within proc.nodes k n e in omega (arith, l, whole)) e;
      },
    )
