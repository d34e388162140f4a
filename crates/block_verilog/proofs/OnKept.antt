-- The words that receives keep, and those that they find at their channels, are words of the channels.
use Rattle.std.proofs.Common.{◌≡◌, ℕ, zero, suc, ◌+◌, ◌-◌, ◌<◌, ◌≤◌, ◌^◌, max, min, List, [], ◌∷◌, ◌++◌, length, take, get_or, refl, sym, ap, ◌∙◌, subst, arith}
use Rattle.std.specs.Prelude.{slice_get, Option, Some, None, option_map, unwrap_or}
use Rattle.std.proofs.lemmas.List.{append_assoc, length-append}
use Rattle.xb_bits.specs.Word.{Word, IsWord}
use Rattle.net_core.specs.Behavior.{IsWordOf}
use Rattle.ir_tree.specs.declared.node.Node.{Node}
use Rattle.ir_tree.specs.declared.node.Operand.{Operand}
use Rattle.ir_tree.specs.declared.node.Role.{Role}
use Rattle.ir_tree.specs.declared.node.Role.TheVariants as role
use Rattle.ir_tree.specs.declared.package.Channel.{Channel}
use Rattle.ir_tree.specs.declared.package.Package.{Package}
use Rattle.ir_tree.specs.Activations.{width_at}
use Rattle.ir_tree.specs.NodeValues.{channel_type, role_of, count_sites, next_site}
use Rattle.vlog_tree.specs.declared.expression.Atom.{Atom}
use Rattle.vlog_tree.specs.Value.{Values, atom_value}
use Rattle.block_build.specs.declared.netlist.fifos.ChannelView.{ChannelView}
use Rattle.block_build.specs.declared.netlist.layout.SiteRegisters.{SiteRegisters}
use Rattle.block_build.specs.declared.netlist.registers.Register.{Register}
use Rattle.block_build.specs.declared.netlist.sites.Site.{Site}
use Rattle.block_build.specs.Netlist.Nodes.{site_index}
use Rattle.block_build.specs.Netlist.ProcRegisters.{channel_bits, site_registers, sites_registers, site_at, sites_at}
use Rattle.block_build.specs.Netlist.Registers.{zero_register}
use Rattle.block_verilog.specs.Signals.Nodes.{channel_view, NodeMade, NodePut, IsSiteAt}
use Rattle.block_verilog.specs.Signals.Registers.{registers_of_site, no_registers, given_or}
use Rattle.block_verilog.specs.Pipelines.Nets.{ProcParts, ArePut, PartsDriven, KeepsWord, KeepsWords, proc_nets, no_site, pipeline_nets}
use Rattle.block_verilog.specs.Pipelines.Pipelines.{proc_registers, RegistersStand}

-- ---- lists

pub left_there : {A : Type 0} (xs ys : List A) (i : ℕ) (x : A) → slice_get xs i ≡ Some x → slice_get (xs ++ ys) i ≡ Some x
left_there [] ys i x e = absurd (cc)
left_there (y ∷ xs) ys zero x e = e
left_there (y ∷ xs) ys (suc i) x e = left_there xs ys i x e

pub right_there : {A : Type 0} (xs ys : List A) (i : ℕ) → slice_get (xs ++ ys) (length xs + i) ≡ slice_get ys i
right_there [] ys i = let e : 0 + i ≡ i = omega arith in ap (slice_get ys) e
right_there (x ∷ xs) ys i = let e : suc (length xs) + i ≡ suc (length xs + i) = omega arith in ap (slice_get (x ∷ xs ++ ys)) e ∙ right_there xs ys i

-- ---- the register of the word that a receive keeps

-- it stands behind that of its done bit, and is as wide as the channel
pub record KeptThere (channels : List Channel) (k : ℕ) (nodes : List Node) (before : List SiteRegisters) (i c : ℕ) : Type 0 where
  pub offset : ℕ
  pub site : slice_get (before ++ sites_at channels k nodes) i ≡ Some (record { done = record { 0 = k + offset }; kept = record { 0 = k + suc offset } })
  pub register : slice_get (sites_registers channels nodes) (suc offset) ≡ Some (zero_register (channel_bits channels c))

-- as many sites as there are among the nodes before
sites_long : (k i : ℕ) (r : Role) (before : List SiteRegisters) → i ≡ length before → next_site i r ≡ length (before ++ site_at k r)
sites_long k i role.Pure before e = let l = length-append before [] in omega (arith, e, l)
sites_long k i (role.Receive predicate c) before e = let l = length-append before (site_at k (role.Receive predicate c)) in omega (arith, e, l)
sites_long k i (role.Send predicate c) before e = let l = length-append before (site_at k (role.Send predicate c)) in omega (arith, e, l)

first_kept : (channels : List Channel) (k : ℕ) (r : Role) (nodes : List Node) (before : List SiteRegisters) (predicate : Option Operand) (c : ℕ) → r ≡ role.Receive predicate c
    → slice_get (before ++ (site_at k r ++ sites_at channels (k + length (site_registers channels r)) nodes)) (length before + 0) ≡ Some (record { done = record { 0 = k + 0 }; kept = record { 0 = k + 1 } })
    × slice_get (site_registers channels r ++ sites_registers channels nodes) 1 ≡ Some (zero_register (channel_bits channels c))
first_kept channels k r nodes before predicate c e =
    let none : k ≡ k + 0 = omega arith in
    let one : suc k ≡ k + 1 = omega arith in (
      right_there before (site_at k r ++ sites_at channels (k + length (site_registers channels r)) nodes) 0
          ∙ ap (λ x. slice_get (site_at k x ++ sites_at channels (k + length (site_registers channels r)) nodes) 0) e
          ∙ ap (λ n. Some (record { done = record { 0 = n }; kept = record { 0 = suc k } })) none
          ∙ ap (λ n. Some (record { done = record { 0 = k + 0 }; kept = record { 0 = n } })) one,
      ap (λ x. slice_get (site_registers channels x ++ sites_registers channels nodes) 1) e,
    )

pub kept_there : (channels : List Channel) (k : ℕ) (nodes : List Node) (before : List SiteRegisters) (i j : ℕ) (n : Node) (predicate : Option Operand) (c : ℕ) → i ≡ length before → slice_get nodes j ≡ Some n → role_of n ≡ role.Receive predicate c
    → KeptThere channels k nodes before (count_sites i (take j nodes)) c
unfolding count_sites
kept_there channels k [] before i j n predicate c e there role = absurd (cc)
kept_there channels k (x ∷ nodes) before i zero n predicate c e there is =
    let same : x ≡ n = cc in
    let own = first_kept channels k (role_of x) nodes before predicate c (ap role_of same ∙ is) in
    let at : i ≡ length before + 0 = omega (arith, e) in
    record { offset = 0; site = ap (slice_get (before ++ sites_at channels k (x ∷ nodes))) at ∙ own.0; register = own.1 }
kept_there channels k (x ∷ nodes) before i (suc j) n predicate c e there is =
    let own = site_registers channels (role_of x) in
    let rest = kept_there channels (k + length own) nodes (before ++ site_at k (role_of x)) (next_site i (role_of x)) j n predicate c (sites_long k i (role_of x) before e) there is in
    let one : k + length own + rest.offset ≡ k + (length own + rest.offset) = omega arith in
    let two : k + length own + suc rest.offset ≡ k + suc (length own + rest.offset) = omega arith in
    let far : suc (length own + rest.offset) ≡ length own + suc rest.offset = omega arith in
    record {
      offset = length own + rest.offset;
      site = ap (λ xs. slice_get xs (count_sites (next_site i (role_of x)) (take j nodes))) (sym (append_assoc before (site_at k (role_of x)) (sites_at channels (k + length own) nodes)))
          ∙ rest.site
          ∙ ap (λ m. Some (record { done = record { 0 = m }; kept = record { 0 = k + length own + suc rest.offset } })) one
          ∙ ap (λ m. Some (record { done = record { 0 = k + (length own + rest.offset) }; kept = record { 0 = m } })) two;
      register = ap (slice_get (own ++ sites_registers channels nodes)) far ∙ right_there own (sites_registers channels nodes) (suc rest.offset) ∙ rest.register;
    }

none_counted : (nodes : List Node) (j : ℕ) → site_index nodes j ≡ count_sites 0 (take j nodes)
none_counted nodes j = refl

-- among all registers of its proc
pub record KeptOf (one : ProcParts) (k i c : ℕ) : Type 0 where
  pub offset : ℕ
  pub is : (registers_of_site one.layout.registers i).kept ≡ record { 0 = k + offset }
  pub register : slice_get (proc_registers one.scheduled one.layout.reads) offset ≡ Some (zero_register (channel_bits one.scheduled.channels c))

abbrev WidthOf : (ℕ → ℕ) → ℕ → ℕ → Type 0
WidthOf widths s w = widths s ≡ w

-- ---- numbers of channels' widths

-- a number as wide as a channel is one of its words
pub word_of : (w : ℕ) (x : Word) → 1 ≤ w → w ≤ 128 → (x.width ≡ w) × (x.value < 2 ^ w) → IsWordOf w x
word_of w x some most h = record {
  word = record { some_width = subst (λ n. 1 ≤ n) (sym h.0) some; most_width = subst (λ n. n ≤ 128) (sym h.0) most; in_range = subst (λ n. x.value < 2 ^ n) (sym h.0) h.1 };
  fits = h.0;
}

-- ---- a proc's receives

-- what they read carries words of the channels
pub record ReadsWords (v : Values) (views : List ChannelView) (one : ProcParts) : Type 0 where
  pub kept : (i c : ℕ) (w : ℕ) → width_at (channel_type one.scheduled.channels c) ≡ w → (k : ℕ) (n : Node) (predicate : Option Operand) → slice_get one.scheduled.proc.nodes k ≡ Some n → role_of n ≡ role.Receive predicate c → i ≡ site_index one.scheduled.proc.nodes k
      → IsWordOf w (v (registers_of_site one.layout.registers i).kept.0)
  pub found : (c : ℕ) (k : ℕ) (n : Node) (predicate : Option Operand) → slice_get one.scheduled.proc.nodes k ≡ Some n → role_of n ≡ role.Receive predicate c → IsWordOf (width_at (channel_type one.scheduled.channels c)) (atom_value v (channel_view views c).word)

site_got : (sites : List Site) (i : ℕ) (site : Site) → slice_get sites i ≡ Some site → get_or sites i no_site ≡ site
site_got [] i site e = absurd (cc)
site_got (s ∷ sites) zero site e = cc
site_got (s ∷ sites) (suc i) site e = site_got sites i site e

pub keeps_words : (v : Values) (run : Atom) (views : List ChannelView) (one : ProcParts) → PartsDriven v run views one → ReadsWords v views one → KeepsWords v one.scheduled.channels one.scheduled.proc (proc_nets one)
keeps_words v run views one driven reads k n there = by (role_of n) refl
  where
    made : NodeMade v one.scheduled.channels one.scheduled.proc one.scheduled.stages one.layout.registers views one.made.nodes k n
    made = driven.now.nodes.each k n there

    receive : (predicate : Option Operand) (c : ℕ) → role_of n ≡ role.Receive predicate c → KeepsWord v one.scheduled.channels (proc_nets one) (site_index one.scheduled.proc.nodes k) (role.Receive predicate c)
    receive predicate c e =
        let i = site_index one.scheduled.proc.nodes k in
        let put = subst (NodePut v made.scope (registers_of_site one.layout.registers i) views n made.own) e made.put in
        let stands = subst (IsSiteAt one.made.nodes.sites i) put.site made.site in
        let same = site_got one.made.nodes.sites i _ stands in
        let kept = ap (λ (s : Site). s.kept) same in
        let word = ap (λ (s : Site). s.word) same in (
          subst (λ a. IsWordOf (width_at (channel_type one.scheduled.channels c)) (atom_value v a)) (sym kept) (reads.kept i c (width_at (channel_type one.scheduled.channels c)) refl k n predicate there e refl),
          subst (λ a. IsWordOf (width_at (channel_type one.scheduled.channels c)) (atom_value v a)) (sym word) (reads.found c k n predicate there e),
        )

    by : (r : Role) → role_of n ≡ r → KeepsWord v one.scheduled.channels (proc_nets one) (site_index one.scheduled.proc.nodes k) r
    by role.Pure e = tt
    by (role.Receive predicate c) e = receive predicate c e
    by (role.Send predicate c) e = tt
