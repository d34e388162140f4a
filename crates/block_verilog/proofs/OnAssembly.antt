-- Declarations and assignments that are put one after another.
use Rattle.std.proofs.Common.{◌≡◌, ℕ, zero, suc, ◌+◌, ◌<◌, ◌≤◌, List, [], ◌∷◌, ◌++◌, length, drop, get_or, map, min, refl, sym, ap, ap₂, ◌∙◌, arith}
use Rattle.std.proofs.lemmas.List.{append_assoc, append-nil, drop_all}
use Rattle.ir_tree.specs.declared.package.Channel.{Channel}
use Rattle.vlog_tree.specs.declared.module.Assignment.{Assignment}
use Rattle.vlog_tree.specs.declared.module.Declaration.{Declaration}
use Rattle.vlog_tree.specs.Signals.{Declared, declared_own}
use Rattle.block_build.specs.declared.netlist.fifos.ChannelEnds.{ChannelEnds}
use Rattle.block_build.specs.Netlist.Wires.{Wire, assigned}
use Rattle.block_verilog.specs.Assembly.{drivers_by, port_drivers}
use Rattle.block_verilog.proofs.Lemmas.Each.{behind_there}

-- ---- lists that are put behind what was there: what is left completes the whole

module _ {A : Type 0} (F : ℕ → List A → List Declared) (one : ℕ → A → Declared) (cons : (n : ℕ) (x : A) (xs : List A) → F n (x ∷ xs) ≡ one n x ∷ F (suc n) xs) (nil : (n : ℕ) → F n [] ≡ []) where
  pub declared_begun : (first : ℕ) (xs : List A) (old : List Declaration) → map declared_own old ++ F (first + 0) xs ≡ map declared_own old ++ F first xs
  declared_begun first xs old = let e : first + 0 ≡ first = omega arith in ap (λ k. map declared_own old ++ F k xs) e

  pub declared_more : (first i number : ℕ) (xs : List A) (x : A) (old before more : List Declaration) → i < length xs → x ≡ get_or xs i x → number ≡ first + i
      → map declared_own before ++ F (first + i) (drop i xs) ≡ map declared_own old ++ F first xs → map declared_own more ≡ map declared_own before ++ one number x ∷ []
      → map declared_own more ++ F (first + (i + 1)) (drop (i + 1) xs) ≡ map declared_own old ++ F first xs
  declared_more first i number xs x old before more l is at left put =
      let next : first + (i + 1) ≡ suc (first + i) = omega arith in
      ap₂ (λ ds k. ds ++ F k (drop (i + 1) xs)) (put ∙ ap (λ n. map declared_own before ++ one n x ∷ []) at) next
      ∙ append_assoc (map declared_own before) (one (first + i) x ∷ []) (F (suc (first + i)) (drop (i + 1) xs))
      ∙ ap (λ ds. map declared_own before ++ ds) (sym (cons (first + i) x (drop (i + 1) xs)) ∙ ap (F (first + i)) (sym (behind_there xs i x l is)))
      ∙ left

  pub declared_done : (first i : ℕ) (xs : List A) (old before : List Declaration) → length xs ≤ i
      → map declared_own before ++ F (first + i) (drop i xs) ≡ map declared_own old ++ F first xs → map declared_own before ≡ map declared_own old ++ F first xs
  declared_done first i xs old before l left =
      sym (append-nil (map declared_own before)) ∙ ap (λ ds. map declared_own before ++ ds) (sym (ap (F (first + i)) (drop_all i xs l) ∙ nil (first + i))) ∙ left

-- ---- assignments of wires

pub assigned_more : (first : ℕ) (wires : List Wire) (wire : Wire) → assigned first (wires ++ wire ∷ []) ≡ assigned first wires ++ record { target = record { 0 = first + length wires }; value = wire.driver } ∷ []
assigned_more first [] wire = let e : first ≡ first + 0 = omega arith in ap (λ k. record { target = record { 0 = k }; value = wire.driver } ∷ []) e
assigned_more first (x ∷ wires) wire =
    let e : suc first + length wires ≡ first + suc (length wires) = omega arith in
    ap (λ xs. record { target = record { 0 = first }; value = x.driver } ∷ xs)
    (assigned_more (suc first) wires wire ∙ ap (λ k. assigned (suc first) wires ++ record { target = record { 0 = k }; value = wire.driver } ∷ []) e)

assigned_long : (first : ℕ) (wires : List Wire) → length (assigned first wires) ≡ length wires
assigned_long first [] = refl
assigned_long first (x ∷ wires) = ap suc (assigned_long (suc first) wires)

pub one_assigned : (first count : ℕ) (done : List Wire) (wire : Wire) (made more : List Assignment) (a : Assignment) → made ≡ assigned first done → count ≡ length made → a ≡ record { target = record { 0 = first + count }; value = wire.driver }
    → more ≡ made ++ a ∷ [] → more ≡ assigned first (done ++ wire ∷ [])
one_assigned first count done wire made more a before counted is put =
    let many : count ≡ length done = counted ∙ ap length before ∙ assigned_long first done in
    put ∙ ap₂ (λ xs b. xs ++ b ∷ []) before (is ∙ ap (λ k. record { target = record { 0 = first + k }; value = wire.driver }) many) ∙ sym (assigned_more first done wire)

-- ---- what drives ports

-- there are no more drivers than channels, ports and sides
no_more_drivers : (channels : List Channel) (ports : List ℕ) (sides : List ChannelEnds) (i : ℕ) → min (min (length channels) (length ports)) (length sides) ≤ i → port_drivers (drop i channels) (drop i ports) (drop i sides) ≡ []
no_more_drivers [] ports sides i l = ap (λ cs. port_drivers cs (drop i ports) (drop i sides)) (drop_all i [] (omega arith))
no_more_drivers (channel ∷ channels) [] sides i l = ap (λ ps. port_drivers (drop i (channel ∷ channels)) ps (drop i sides)) (drop_all i [] (omega arith)) ∙ no_ports (drop i (channel ∷ channels)) (drop i sides)
  where
    no_ports : (cs : List Channel) (ss : List ChannelEnds) → port_drivers cs [] ss ≡ []
    no_ports [] ss = refl
    no_ports (c ∷ cs) ss = refl
no_more_drivers (channel ∷ channels) (port ∷ ports) [] i l = ap (port_drivers (drop i (channel ∷ channels)) (drop i (port ∷ ports))) (drop_all i [] (omega arith)) ∙ no_sides (drop i (channel ∷ channels)) (drop i (port ∷ ports))
  where
    no_sides : (cs : List Channel) (ps : List ℕ) → port_drivers cs ps [] ≡ []
    no_sides [] ps = refl
    no_sides (c ∷ cs) [] = refl
    no_sides (c ∷ cs) (p ∷ ps) = refl
no_more_drivers (channel ∷ channels) (port ∷ ports) (end ∷ sides) zero l = absurd (omega (arith, l))
no_more_drivers (channel ∷ channels) (port ∷ ports) (end ∷ sides) (suc i) l = no_more_drivers channels ports sides i (omega (arith, l))

pub drivers_begun : (made drivers : List Assignment) → made ++ drivers ≡ made ++ drivers
drivers_begun made drivers = refl

pub drivers_more : (channels : List Channel) (ports : List ℕ) (sides : List ChannelEnds) (i : ℕ) (channel : Channel) (port : ℕ) (end : ChannelEnds) (old before more : List Assignment)
    → i < length channels → i < length ports → i < length sides → channel ≡ get_or channels i channel → port ≡ get_or ports i port → end ≡ get_or sides i end
    → before ++ port_drivers (drop i channels) (drop i ports) (drop i sides) ≡ old ++ port_drivers channels ports sides → more ≡ before ++ drivers_by port channel.ends end
    → more ++ port_drivers (drop (i + 1) channels) (drop (i + 1) ports) (drop (i + 1) sides) ≡ old ++ port_drivers channels ports sides
drivers_more channels ports sides i channel port end old before more l m n c_is p_is e_is left put =
    let rest = port_drivers (drop (i + 1) channels) (drop (i + 1) ports) (drop (i + 1) sides) in
    ap (λ xs. xs ++ rest) put
    ∙ append_assoc before (drivers_by port channel.ends end) rest
    ∙ ap (λ xs. before ++ xs) (sym (
    ap (λ cs. port_drivers cs (drop i ports) (drop i sides)) (behind_there channels i channel l c_is)
    ∙ ap (λ ps. port_drivers (channel ∷ drop (i + 1) channels) ps (drop i sides)) (behind_there ports i port m p_is)
    ∙ ap (port_drivers (channel ∷ drop (i + 1) channels) (port ∷ drop (i + 1) ports)) (behind_there sides i end n e_is)
    ))
    ∙ left

pub drivers_done : (channels : List Channel) (ports : List ℕ) (sides : List ChannelEnds) (i : ℕ) (old before : List Assignment) → min (min (length channels) (length ports)) (length sides) ≤ i
    → before ++ port_drivers (drop i channels) (drop i ports) (drop i sides) ≡ old ++ port_drivers channels ports sides → before ≡ old ++ port_drivers channels ports sides
drivers_done channels ports sides i old before l left = sym (append-nil before) ∙ ap (λ xs. before ++ xs) (sym (no_more_drivers channels ports sides i l)) ∙ left
