-- The registers of a proc's sites, one behind another.
use Rattle.std.proofs.Common.{◌≡◌, ℕ, zero, suc, ◌+◌, List, [], ◌∷◌, ◌++◌, length, Bool, true, false, cond, Some, refl, sym, ap, ◌∙◌, subst, arith}
use Rattle.std.specs.Prelude.{slice_get}
use Rattle.std.proofs.lemmas.List.{length-append}
use Rattle.net_core.specs.declared.net.Site as net_site
use Rattle.ir_tree.specs.declared.node.Node.{Node}
use Rattle.ir_tree.specs.declared.node.Role.{Role}
use Rattle.ir_tree.specs.declared.node.Role.TheVariants as role
use Rattle.ir_tree.specs.declared.package.Channel.{Channel}
use Rattle.ir_tree.specs.Activations.{sites_by, sites_of}
use Rattle.ir_tree.specs.NodeValues.{role_of}
use Rattle.vlog_tree.specs.declared.expression.Atom.{Atom}
use Rattle.vlog_tree.specs.declared.expression.Atom.TheVariants as atom
use Rattle.vlog_tree.specs.Value.{Values, atom_value}
use Rattle.block_build.specs.declared.netlist.layout.SiteRegisters.{SiteRegisters}
use Rattle.block_build.specs.declared.netlist.registers.Register.{Register}
use Rattle.block_build.specs.declared.netlist.sites.Handshake.{Handshake}
use Rattle.block_build.specs.declared.netlist.sites.Site.{Site}
use Rattle.block_build.specs.Netlist.Gates.{net}
use Rattle.block_build.specs.Netlist.Nexts.{kept_nets, site_next_nets, site_next_count, sites_next_nets, done_at}
use Rattle.block_build.specs.Netlist.ProcRegisters.{site_registers, sites_registers, site_at, sites_at}
use Rattle.block_build.specs.Netlist.Registers.{AreTaken}
use Rattle.block_verilog.specs.Signals.Registers.{given_or, no_registers}
use Rattle.block_verilog.proofs.OnPipelines.OnTaken.{taken_parts}

-- a send has one register, a receive two
abbrev pub registers_count : Site → ℕ
registers_count site = cond site.sends 1 2

-- those of sites stand from one on
abbrev pub StandFrom : ℕ → List Site → Type 0
StandFrom k [] = Unit {0}
StandFrom k (site ∷ sites) = (site.done ≡ net k) × (site.sends ≡ false → site.kept ≡ net (suc k)) × StandFrom (k + registers_count site) sites

-- a site has these registers, and the direction of this one
pub record HasRegisters (site : Site) (registers : SiteRegisters) (end : net_site.Site) : Type 0 where
  pub sends : site.sends ≡ end.sends
  pub done : site.done ≡ atom.Signal registers.done
  pub kept : site.kept ≡ atom.Signal registers.kept

abbrev pub HaveRegisters : List Site → List SiteRegisters → List net_site.Site → Type 0
HaveRegisters sites laid ends = (i : ℕ) (site : Site) (end : net_site.Site) → slice_get sites i ≡ Some site → slice_get ends i ≡ Some end → HasRegisters site (given_or no_registers (slice_get laid i)) end

stand_by : (k : ℕ) (r : Role) (rest : List SiteRegisters) (ends : List net_site.Site) (sites : List Site) (channels : List Channel) → length sites ≡ length (sites_by r ends) → HaveRegisters sites (site_at k r ++ rest) (sites_by r ends)
    → ((m : ℕ) (more : List Site) → m ≡ k + length (site_registers channels r) → length more ≡ length ends → HaveRegisters more rest ends → StandFrom m more) → StandFrom k sites
stand_by k role.Pure rest ends sites channels long h ih = ih k sites (omega arith) long h
stand_by k (role.Receive predicate c) rest ends [] channels long h ih = tt
stand_by k (role.Receive predicate c) rest ends (site ∷ sites) channels long h ih =
    let own = h 0 site (record { chan = c; sends = false }) refl refl in
    let two : k + 2 ≡ k + registers_count site = ap (λ t. k + cond t 1 2) (sym own.sends) in (
      own.done,
      (λ receives. own.kept),
      subst (λ m. StandFrom m sites) two (ih (k + 2) sites refl (omega (arith, long)) (λ i s e f g. h (suc i) s e f g)),
    )
stand_by k (role.Send predicate c) rest ends [] channels long h ih = tt
stand_by k (role.Send predicate c) rest ends (site ∷ sites) channels long h ih =
    let own = h 0 site (record { chan = c; sends = true }) refl refl in
    let one : k + 1 ≡ k + registers_count site = ap (λ t. k + cond t 1 2) (sym own.sends) in (
      own.done,
      (λ receives. absurd (clash site.sends own.sends receives)),
      subst (λ m. StandFrom m sites) one (ih (k + 1) sites refl (omega (arith, long)) (λ i s e f g. h (suc i) s e f g)),
    )
  where
    clash : (t : Bool) → t ≡ true → t ≡ false → ⊥
    clash t a b = cc

pub sites_stand : (channels : List Channel) (k : ℕ) (nodes : List Node) (sites : List Site) → length sites ≡ length (sites_of nodes) → HaveRegisters sites (sites_at channels k nodes) (sites_of nodes) → StandFrom k sites
sites_stand channels k [] [] long h = tt
sites_stand channels k [] (site ∷ sites) long h = absurd (omega (arith, long))
sites_stand channels k (n ∷ nodes) sites long h =
    stand_by k (role_of n) (sites_at channels (k + length (site_registers channels (role_of n))) nodes) (sites_of nodes) sites channels long h
    (λ m more e l g. subst (λ x. StandFrom x more) (sym e) (sites_stand channels (k + length (site_registers channels (role_of n))) nodes more l g))

-- ---- what they hold next

-- the done bit of each, and the word of a receive, from one wire on
abbrev pub SitesTaken : Values → Values → ℕ → List Site → Type 0
SitesTaken v next at [] = Unit {0}
SitesTaken v next at (site ∷ sites) =
    (atom_value next site.done ≡ v (suc (suc at))) × (site.sends ≡ false → atom_value next site.kept ≡ v (suc (suc (suc at)))) × SitesTaken v next (at + site_next_count site) sites

sends_taken : (v next : Values) (k at : ℕ) (site : Site) (rest : List Atom) → site.sends ≡ true → AreTaken v next k (site_next_nets at site ++ rest) → (next k ≡ v (suc (suc at))) × AreTaken v next (k + registers_count site) rest
sends_taken v next k at site rest is h =
    let none : kept_nets (suc (suc (suc at))) site ≡ [] = ap (λ t. cond t [] (net (suc (suc (suc at))) ∷ [])) is in
    let parts = taken_parts v next k (net (suc (suc at)) ∷ []) rest (subst (λ xs. AreTaken v next k ((net (suc (suc at)) ∷ xs) ++ rest)) none h) in
    (parts.0.0, subst (λ m. AreTaken v next m rest) (ap (λ t. k + cond t 1 2) (sym is)) parts.1)

receives_taken : (v next : Values) (k at : ℕ) (site : Site) (rest : List Atom) → site.sends ≡ false → AreTaken v next k (site_next_nets at site ++ rest)
    → (next k ≡ v (suc (suc at))) × (next (suc k) ≡ v (suc (suc (suc at)))) × AreTaken v next (k + registers_count site) rest
receives_taken v next k at site rest is h =
    let some : kept_nets (suc (suc (suc at))) site ≡ net (suc (suc (suc at))) ∷ [] = ap (λ t. cond t [] (net (suc (suc (suc at))) ∷ [])) is in
    let parts = taken_parts v next k (net (suc (suc at)) ∷ net (suc (suc (suc at))) ∷ []) rest (subst (λ xs. AreTaken v next k ((net (suc (suc at)) ∷ xs) ++ rest)) some h) in
    (parts.0.0, parts.0.1.0, subst (λ m. AreTaken v next m rest) (ap (λ t. k + cond t 1 2) (sym is)) parts.1)

pub sites_taken : (v next : Values) (k at : ℕ) (sites : List Site) (shaken : List Handshake) → length shaken ≡ length sites → StandFrom k sites → AreTaken v next k (sites_next_nets at sites shaken) → SitesTaken v next at sites
sites_taken v next k at [] shaken long stand h = tt
sites_taken v next k at (site ∷ sites) [] long stand h = absurd (omega (arith, long))
sites_taken v next k at (site ∷ sites) (hand ∷ shaken) long stand h =
    go site.sends refl (λ t. sites_taken v next (k + registers_count site) (at + site_next_count site) sites shaken (omega (arith, long)) stand.2 t)
  where
    rest : List Atom
    rest = sites_next_nets (at + site_next_count site) sites shaken

    clash : site.sends ≡ true → site.sends ≡ false → ⊥
    clash a b = cc

    go : (t : Bool) → site.sends ≡ t → (AreTaken v next (k + registers_count site) rest → SitesTaken v next (at + site_next_count site) sites) → SitesTaken v next at (site ∷ sites)
    go true is ih = let own = sends_taken v next k at site rest is h in (ap (atom_value next) stand.0 ∙ own.0, (λ receives. absurd (clash is receives)), ih own.1)
    go false is ih = let own = receives_taken v next k at site rest is h in (ap (atom_value next) stand.0 ∙ own.0, (λ receives. ap (atom_value next) (stand.1 receives) ∙ own.1), ih own.2)

-- by its index
pub record SiteTaken (v next : Values) (at : ℕ) (site : Site) : Type 0 where
  pub done : atom_value next site.done ≡ v (suc (suc at))
  pub kept : site.sends ≡ false → atom_value next site.kept ≡ v (suc (suc (suc at)))

pub site_taken : (v next : Values) (at : ℕ) (sites : List Site) (i : ℕ) (site : Site) → SitesTaken v next at sites → slice_get sites i ≡ Some site → SiteTaken v next (done_at at sites i) site
site_taken v next at [] i site h e = absurd (cc)
site_taken v next at (x ∷ sites) zero site h e = let same : x ≡ site = cc in subst (SiteTaken v next at) same (record { done = h.0; kept = h.1 })
site_taken v next at (x ∷ sites) (suc i) site h e = site_taken v next (at + site_next_count x) sites i site h.2 e

-- ---- how many they are

abbrev pub SameWays : List Site → List net_site.Site → Type 0
SameWays sites ends = (i : ℕ) (site : Site) (end : net_site.Site) → slice_get sites i ≡ Some site → slice_get ends i ≡ Some end → site.sends ≡ end.sends

one_long : (at : ℕ) (site : Site) → length (site_next_nets at site) ≡ registers_count site
one_long at site = go site.sends
  where
    go : (t : Bool) → suc (length (cond t [] (net (suc (suc (suc at))) ∷ []))) ≡ cond t 1 2
    go true = refl
    go false = refl

long_by : (channels : List Channel) (at : ℕ) (r : Role) (rest : List Register) (ends : List net_site.Site) (sites : List Site) (shaken : List Handshake) → length sites ≡ length (sites_by r ends) → length shaken ≡ length sites → SameWays sites (sites_by r ends)
    → ((m : ℕ) (more : List Site) (hands : List Handshake) → length more ≡ length ends → length hands ≡ length more → SameWays more ends → length (sites_next_nets m more hands) ≡ length rest)
    → length (sites_next_nets at sites shaken) ≡ length (site_registers channels r ++ rest)
long_by channels at role.Pure rest ends sites shaken long same ways ih = ih at sites shaken long same ways
long_by channels at (role.Receive predicate c) rest ends [] shaken long same ways ih = absurd (omega (arith, long))
long_by channels at (role.Receive predicate c) rest ends (site ∷ sites) [] long same ways ih = absurd (omega (arith, same))
long_by channels at (role.Receive predicate c) rest ends (site ∷ sites) (hand ∷ shaken) long same ways ih =
    let own : length (site_next_nets at site) ≡ 2 = one_long at site ∙ ap (λ t. cond t 1 2) (ways 0 site (record { chan = c; sends = false }) refl refl) in
    let more = ih (at + site_next_count site) sites shaken (omega (arith, long)) (omega (arith, same)) (λ i s e f g. ways (suc i) s e f g) in
    let both : length (sites_next_nets at (site ∷ sites) (hand ∷ shaken)) ≡ length (site_next_nets at site) + length (sites_next_nets (at + site_next_count site) sites shaken) =
    length-append (site_next_nets at site) (sites_next_nets (at + site_next_count site) sites shaken) in
    let registers : length (site_registers channels (role.Receive predicate c) ++ rest) ≡ suc (suc (length rest)) = refl in
    omega (arith, own, more, both, registers)
long_by channels at (role.Send predicate c) rest ends [] shaken long same ways ih = absurd (omega (arith, long))
long_by channels at (role.Send predicate c) rest ends (site ∷ sites) [] long same ways ih = absurd (omega (arith, same))
long_by channels at (role.Send predicate c) rest ends (site ∷ sites) (hand ∷ shaken) long same ways ih =
    let own : length (site_next_nets at site) ≡ 1 = one_long at site ∙ ap (λ t. cond t 1 2) (ways 0 site (record { chan = c; sends = true }) refl refl) in
    let more = ih (at + site_next_count site) sites shaken (omega (arith, long)) (omega (arith, same)) (λ i s e f g. ways (suc i) s e f g) in
    let both : length (sites_next_nets at (site ∷ sites) (hand ∷ shaken)) ≡ length (site_next_nets at site) + length (sites_next_nets (at + site_next_count site) sites shaken) =
    length-append (site_next_nets at site) (sites_next_nets (at + site_next_count site) sites shaken) in
    let registers : length (site_registers channels (role.Send predicate c) ++ rest) ≡ suc (length rest) = refl in
    omega (arith, own, more, both, registers)

pub sites_long : (channels : List Channel) (at : ℕ) (nodes : List Node) (sites : List Site) (shaken : List Handshake) → length sites ≡ length (sites_of nodes) → length shaken ≡ length sites → SameWays sites (sites_of nodes)
    → length (sites_next_nets at sites shaken) ≡ length (sites_registers channels nodes)
sites_long channels at [] [] shaken long same ways = refl
sites_long channels at [] (site ∷ sites) shaken long same ways = absurd (omega (arith, long))
sites_long channels at (n ∷ nodes) sites shaken long same ways =
    long_by channels at (role_of n) (sites_registers channels nodes) (sites_of nodes) sites shaken long same ways (λ m more hands l h w. sites_long channels m nodes more hands l h w)
