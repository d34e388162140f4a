-- Which proc has sites at an end of a channel.
use Rattle.std.proofs.Common.{◌≡◌, ℕ, zero, suc, ◌+◌, ◌<◌, ◌≤◌, Bool, true, false, List, [], ◌∷◌, ◌++◌, length, drop, get_or, Result, Ok, Err, refl, sym, ap, ap₂, ◌∙◌, subst, arith}
use Rattle.std.specs.Prelude.{slice_get, Option, Some, None, IfOk, OnOk, not, ◌&&◌, ◌||◌, ◌==◌, if◌then◌else◌}
use Rattle.std.specs.List.{list_any}
use Rattle.std.proofs.lemmas.List.{drop_all}
use Rattle.std.proofs.lemmas.Option.{slice_get-get_or}
use Rattle.net_core.specs.Cuts.{index_of}
use Rattle.net_core.specs.declared.net.Site.{Site}
use Rattle.ir_tree.specs.declared.node.Node.{Node}
use Rattle.ir_tree.specs.declared.node.Role.{Role}
use Rattle.ir_tree.specs.declared.node.Role.TheVariants as role
use Rattle.ir_tree.specs.declared.package.Channel.{Channel}
use Rattle.ir_tree.specs.declared.package.Proc.{Proc}
use Rattle.ir_tree.specs.Activations.{sites_of, sites_by}
use Rattle.ir_tree.specs.NodeValues.{role_of}
use Rattle.vlog_tree.specs.declared.expression.Atom.{Atom}
use Rattle.vlog_tree.specs.Value.{Values}
use Rattle.block_build.specs.declared.netlist.fifos.ChannelEnds.{ChannelEnds}
use Rattle.block_build.specs.declared.netlist.sites.Handshake.{Handshake}
use Rattle.block_build.specs.declared.netlist.sites.Site.{Site as SiteSignals}
use Rattle.block_build.specs.declared.netlist.wires.WireList.{WireList}
use Rattle.block_build.specs.Netlist.Added.{next_number, AddsWires, Puts}
use Rattle.block_build.specs.Netlist.Ends.{some_wires, some_net, word_wires, word_net}
use Rattle.block_build.specs.Netlist.Literals.{literal_atom}
use Rattle.block_build.specs.Netlist.Requests.{requests_at}
use Rattle.block_build.specs.Netlist.Wires.{AreWired}
use Rattle.block_verilog.specs.declared.pipelines.pipelines.ProcWires.{ProcWires}
use Rattle.block_verilog.specs.Ports.{flat_bits}
use Rattle.block_verilog.proofs.Lemmas.Each.{behind_there}
use Rattle.block_verilog.specs.Sides.{stands_at, has_site, proc_at, SomeStands, WordStands, SomeAt, WordAt, EndsAt, IsEnd}

or_false : (b : Bool) → b ≡ (b || false)
or_false true = refl
or_false false = refl

pub receive_stands : (sends : Bool) (own c : ℕ) → (not sends && (own == c)) ≡ list_any (stands_at sends c) (record { chan = own; sends = false } ∷ [])
receive_stands true own c = refl
receive_stands false own c = or_false (own == c)

pub send_stands : (sends : Bool) (own c : ℕ) → (sends && (own == c)) ≡ list_any (stands_at sends c) (record { chan = own; sends = true } ∷ [])
send_stands true own c = or_false (own == c)
send_stands false own c = refl

-- ---- a proc's sites

any_split : (test : Site → Bool) (r : Role) (sites : List Site) → list_any test (sites_by r sites) ≡ (list_any test (sites_by r []) || list_any test sites)
any_split test role.Pure sites = refl
any_split test (role.Receive predicate c) sites = assoc (test (record { chan = c; sends = false })) (list_any test sites)
  where
    assoc : (a b : Bool) → (a || b) ≡ ((a || false) || b)
    assoc true b = refl
    assoc false b = refl
any_split test (role.Send predicate c) sites = assoc (test (record { chan = c; sends = true })) (list_any test sites)
  where
    assoc : (a b : Bool) → (a || b) ≡ ((a || false) || b)
    assoc true b = refl
    assoc false b = refl

-- those behind a node that isn't one
pub none_so_far : (test : Site → Bool) (nodes : List Node) (i : ℕ) (n : Node) (here whole : Bool) → i < length nodes → n ≡ get_or nodes i n → here ≡ list_any test (sites_by (role_of n) []) → here ≡ false → list_any test (sites_of (drop i nodes)) ≡ whole
    → list_any test (sites_of (drop (i + 1) nodes)) ≡ whole
none_so_far test nodes i n here whole l is at not_it before =
    let e : list_any test (sites_by (role_of n) []) ≡ false = sym at ∙ not_it in
    ap (λ b. b || list_any test (sites_of (drop (i + 1) nodes))) (sym e) ∙ sym (any_split test (role_of n) (sites_of (drop (i + 1) nodes))) ∙ ap (λ ns. list_any test (sites_of ns)) (sym (behind_there nodes i n l is)) ∙ before

pub one_found : (test : Site → Bool) (nodes : List Node) (i : ℕ) (n : Node) (here whole : Bool) → i < length nodes → n ≡ get_or nodes i n → here ≡ list_any test (sites_by (role_of n) []) → here ≡ true → list_any test (sites_of (drop i nodes)) ≡ whole → true ≡ whole
one_found test nodes i n here whole l is at is_it before =
    let e : list_any test (sites_by (role_of n) []) ≡ true = sym at ∙ is_it in
    ap (λ b. b || list_any test (sites_of (drop (i + 1) nodes))) (sym e) ∙ sym (any_split test (role_of n) (sites_of (drop (i + 1) nodes))) ∙ ap (λ ns. list_any test (sites_of ns)) (sym (behind_there nodes i n l is)) ∙ before

pub none_found : (test : Site → Bool) (nodes : List Node) (i : ℕ) (whole : Bool) → length nodes ≤ i → list_any test (sites_of (drop i nodes)) ≡ whole → false ≡ whole
none_found test nodes i whole l before = ap (λ ns. list_any test (sites_of ns)) (sym (drop_all i nodes l)) ∙ before

-- ---- procs

pub index_more : (test : Proc → Bool) (procs : List Proc) (i : ℕ) (proc : Proc) (here : Bool) (whole : ℕ) → i < length procs → proc ≡ get_or procs i proc → here ≡ test proc → here ≡ false → i + index_of test (drop i procs) ≡ whole
    → i + 1 + index_of test (drop (i + 1) procs) ≡ whole
index_more test procs i proc here whole l is at not_it before =
    let e : test proc ≡ false = sym at ∙ not_it in
    let next : i + 1 + index_of test (drop (i + 1) procs) ≡ i + suc (index_of test (drop (i + 1) procs)) = omega arith in
    next ∙ ap (λ b. i + (if b then 0 else suc (index_of test (drop (i + 1) procs)))) (sym e) ∙ ap (λ ps. i + index_of test ps) (sym (behind_there procs i proc l is)) ∙ before

pub index_found : (test : Proc → Bool) (procs : List Proc) (i : ℕ) (proc : Proc) (here : Bool) (whole : ℕ) → i < length procs → proc ≡ get_or procs i proc → here ≡ test proc → here ≡ true → i + index_of test (drop i procs) ≡ whole → i ≡ whole
index_found test procs i proc here whole l is at is_it before =
    let e : test proc ≡ true = sym at ∙ is_it in
    let none : i ≡ i + 0 = omega arith in
    none ∙ ap (λ b. i + (if b then 0 else suc (index_of test (drop (i + 1) procs)))) (sym e) ∙ ap (λ ps. i + index_of test ps) (sym (behind_there procs i proc l is)) ∙ before

pub index_none : (test : Proc → Bool) (procs : List Proc) (i whole : ℕ) → length procs ≤ i → i ≤ length procs → i + index_of test (drop i procs) ≡ whole → length procs ≡ whole
index_none test procs i whole l m before =
    let e : length procs ≡ i + 0 = omega (arith, l, m) in
    e ∙ ap (λ ps. i + index_of test ps) (sym (drop_all i procs l)) ∙ before

-- ---- what stands there

pub some_put : {E : Type 0} (o : Result Atom E) (a b : WireList) (one : ProcWires) (c : ℕ) (sends : Bool) (sites : List SiteSignals) (shaken : List Handshake) → sites ≡ one.nodes.sites → shaken ≡ one.stages.handshakes.items
    → IfOk o (λ some. some ≡ some_net (next_number a) (literal_atom 1 0) (requests_at c sends sites shaken)) → OnOk o (Puts a b (some_wires (next_number a) (literal_atom 1 0) (requests_at c sends sites shaken)))
    → IfOk o (λ signal. AddsWires a b (λ v. SomeAt v (Some one) c sends signal))
some_put (Err e) a b one c sends sites shaken s h is puts = tt
some_put (Ok signal) a b one c sends sites shaken s h is puts = λ v carries.
    let same = ap₂ (requests_at c sends) s h in
    let both = puts.wired v carries in (
      both.0,
      record {
        from = next_number a;
        wired = subst (λ rs. AreWired v (next_number a) (some_wires (next_number a) (literal_atom 1 0) rs)) same both.1;
        is = is ∙ ap (some_net (next_number a) (literal_atom 1 0)) same;
      },
    )

pub word_put : {E : Type 0} (o : Result Atom E) (a b : WireList) (one : ProcWires) (c width : ℕ) (sites : List SiteSignals) (shaken : List Handshake) → sites ≡ one.nodes.sites → shaken ≡ one.stages.handshakes.items
    → IfOk o (λ word. word ≡ word_net (next_number a) (literal_atom width 0) (requests_at c true sites shaken)) → OnOk o (Puts a b (word_wires width (next_number a) (literal_atom width 0) (requests_at c true sites shaken)))
    → IfOk o (λ signal. AddsWires a b (λ v. WordAt v (Some one) c width signal))
word_put (Err e) a b one c width sites shaken s h is puts = tt
word_put (Ok signal) a b one c width sites shaken s h is puts = λ v carries.
    let same = ap₂ (requests_at c true) s h in
    let both = puts.wired v carries in (
      both.0,
      record {
        from = next_number a;
        wired = subst (λ rs. AreWired v (next_number a) (word_wires width (next_number a) (literal_atom width 0) rs)) same both.1;
        is = is ∙ ap (word_net (next_number a) (literal_atom width 0)) same;
      },
    )

pub ends_put : (a b c d : WireList) (made : List ProcWires) (reader writer channel width : ℕ) (ready offered word : Atom) → AddsWires a b (λ v. SomeAt v (slice_get made reader) channel false ready)
    → AddsWires b c (λ v. SomeAt v (slice_get made writer) channel true offered) → AddsWires c d (λ v. WordAt v (slice_get made writer) channel width word)
    → AddsWires a d (λ v. EndsAt v made reader writer channel width (record { ready = ready; offered = offered; word = word }))
ends_put a b c d made reader writer channel width ready offered word p q r = λ v h.
    let third = r v h in
    let second = q v third.0 in
    let first = p v second.0 in
    (first.0, record { ready = first.1; offered = second.1; word = third.1 })

pub end_is : (a b : WireList) (procs : List Proc) (made : List ProcWires) (channels : List Channel) (i reader writer number width : ℕ) (channel : Channel) (end : ChannelEnds) → i < length channels → channel ≡ get_or channels i channel → number ≡ i
    → reader ≡ proc_at procs false number → writer ≡ proc_at procs true number → width ≡ flat_bits channel → AddsWires a b (λ v. EndsAt v made reader writer number width end) → AddsWires a b (λ v. IsEnd v procs made channels i end)
end_is a b procs made channels i reader writer number width channel end l is at r w wide p = λ v h. (
  (p v h).0,
  λ other there.
      let here = slice_get-get_or channels i channel l ∙ ap Some (sym is) in
      let same : channel ≡ other = (let both : Some channel ≡ Some other = sym here ∙ there in cc) in
      let r' : reader ≡ proc_at procs false i = r ∙ ap (proc_at procs false) at in
      let w' : writer ≡ proc_at procs true i = w ∙ ap (proc_at procs true) at in
      let wide' : width ≡ flat_bits other = wide ∙ ap flat_bits same in
      subst (λ k. EndsAt v made (proc_at procs false i) (proc_at procs true i) k (flat_bits other) end) at
      (subst (λ k. EndsAt v made (proc_at procs false i) (proc_at procs true i) number k end) wide'
      (subst (λ k. EndsAt v made (proc_at procs false i) k number width end) w' (subst (λ k. EndsAt v made k writer number width end) r' (p v h).1))),
)
