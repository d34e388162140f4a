-- Copies of values that are carried on from stage to stage.
use Rattle.std.proofs.Common.{◌≡◌, ℕ, zero, suc, ◌+◌, ◌-◌, ◌*◌, ◌<◌, ◌≤◌, List, [], ◌∷◌, length, map, Bool, true, false, cond, Some, refl, sym, ap, ◌∙◌, subst, arith}
use Rattle.std.specs.Prelude.{slice_get}
use Rattle.std.proofs.lemmas.List.{length-append, length-map}
use Rattle.std.proofs.lemmas.Nat.{row_fits}
use Rattle.ir_tree.specs.declared.node.Node.{Node}
use Rattle.ir_tree.specs.Types.{ty_of}
use Rattle.vlog_tree.specs.declared.expression.Atom.{Atom}
use Rattle.vlog_tree.specs.Value.{Values, atom_value}
use Rattle.block_build.specs.declared.netlist.places.Place.{Place}
use Rattle.block_build.specs.Netlist.Choices.{choice_wires}
use Rattle.block_build.specs.Netlist.Holding.{AreCarriedOn}
use Rattle.block_build.specs.Netlist.Leaves.{leaf_widths, nets, repeated}
use Rattle.block_build.specs.Netlist.Nexts.{move_of, copies_wires, node_copies, nodes_copies, is_literal}
use Rattle.block_build.specs.Netlist.Places.{place_at}
use Rattle.block_build.specs.Netlist.ProcRegisters.{copy_registers, node_registers, nodes_registers, copies_at}
use Rattle.block_build.specs.Netlist.Registers.{zero_register}
use Rattle.block_build.specs.Netlist.Wires.{AreWired}
use Rattle.block_verilog.proofs.OnPipelines.OnPlaces.{place_long, place_behind}
use Rattle.block_verilog.proofs.OnPipelines.OnTaken.{TakeWires, wires_within, wires_map, wired_parts}

-- registers that take what the wires of a choice carry go on with them
abbrev pub CarryLaw : Type 0
CarryLaw =
    (v next : Values) (k : ℕ) (moves : Atom) (ws : List ℕ) (source registers : List Atom) → AreWired v k (choice_wires moves ws source registers)
    → length source ≡ length ws → length registers ≡ length ws → map (atom_value next) registers ≡ map (atom_value v) (nets k (length ws)) → AreCarriedOn v next moves source registers

pub choice_long : (c : Atom) (ws : List ℕ) (firsts seconds : List Atom) → length firsts ≡ length ws → length seconds ≡ length ws → length (choice_wires c ws firsts seconds) ≡ length ws
choice_long c [] firsts seconds l m = refl
choice_long c (w ∷ ws) [] seconds l m = absurd (omega (arith, l))
choice_long c (w ∷ ws) (a ∷ firsts) [] l m = absurd (omega (arith, m))
choice_long c (w ∷ ws) (a ∷ firsts) (b ∷ seconds) l m = ap suc (choice_long c ws firsts seconds (omega (arith, l)) (omega (arith, m)))

-- ---- of one value

step_long : (ws : List ℕ) (place : Place) (moves : List Atom) (j : ℕ) → length place.own ≡ length ws → length (choice_wires (move_of moves j) ws (place_at j place) (place_at (suc j) place)) ≡ length ws
step_long ws place moves j long = choice_long (move_of moves j) ws (place_at j place) (place_at (suc j) place) (place_long j place ∙ long) (place_long (suc j) place ∙ long)

pub copies_long : (ws : List ℕ) (place : Place) (moves : List Atom) (j n : ℕ) → length place.own ≡ length ws → length (copies_wires ws place moves j n) ≡ n * length ws
copies_long ws place moves j zero long = omega arith
copies_long ws place moves j (suc n) long =
    let both = length-append (choice_wires (move_of moves j) ws (place_at j place) (place_at (suc j) place)) (copies_wires ws place moves (suc j) n) in
    let here = step_long ws place moves j long in
    let rest = copies_long ws place moves (suc j) n long in
    let all : suc n * length ws ≡ length ws + n * length ws = omega arith in
    omega (arith, both, here, rest, all)

copy_wired : (v : Values) (ws : List ℕ) (place : Place) (moves : List Atom) (j n a : ℕ) → length place.own ≡ length ws → AreWired v a (copies_wires ws place moves j n)
    → (x : ℕ) → x < n → AreWired v (a + x * length ws) (choice_wires (move_of moves (j + x)) ws (place_at (j + x) place) (place_at (suc (j + x)) place))
copy_wired v ws place moves j zero a long h x l = absurd (omega (arith, l))
copy_wired v ws place moves j (suc n) a long h zero l =
    let parts = wired_parts v a (choice_wires (move_of moves j) ws (place_at j place) (place_at (suc j) place)) (copies_wires ws place moves (suc j) n) h in
    let at : a ≡ a + 0 * length ws = omega arith in
    let here : j ≡ j + 0 = omega arith in
    subst (λ k. AreWired v k (choice_wires (move_of moves (j + 0)) ws (place_at (j + 0) place) (place_at (suc (j + 0)) place))) at
    (subst (λ i. AreWired v a (choice_wires (move_of moves i) ws (place_at i place) (place_at (suc i) place))) here parts.0)
copy_wired v ws place moves j (suc n) a long h (suc x) l =
    let first = choice_wires (move_of moves j) ws (place_at j place) (place_at (suc j) place) in
    let parts = wired_parts v a first (copies_wires ws place moves (suc j) n) h in
    let step = step_long ws place moves j long in
    let rest = copy_wired v ws place moves (suc j) n (a + length first) long parts.1 x (omega (arith, l)) in
    let here : suc j + x ≡ j + suc x = omega arith in
    let all : suc x * length ws ≡ length ws + x * length ws = omega arith in
    let at : a + length first + x * length ws ≡ a + suc x * length ws = omega (arith, step, all) in
    subst (λ k. AreWired v k (choice_wires (move_of moves (j + suc x)) ws (place_at (j + suc x) place) (place_at (suc (j + suc x)) place))) at
    (subst (λ i. AreWired v (a + length first + x * length ws) (choice_wires (move_of moves i) ws (place_at i place) (place_at (suc i) place))) here rest)

-- its registers take the wires of its copies
pub copies_carried : CarryLaw → (v next : Values) (ws : List ℕ) (place : Place) (moves : List Atom) (n a : ℕ) → length place.own ≡ length ws → place.constant ≡ false → AreWired v a (copies_wires ws place moves place.stage n)
    → TakeWires v next place.copies a (n * length ws) → (j : ℕ) → place.stage ≤ j → j - place.stage < n → AreCarriedOn v next (move_of moves j) (place_at j place) (place_at (suc j) place)
copies_carried law v next ws place moves n a long is wired taken j from within =
    let x = j - place.stage in
    let at : place.stage + x ≡ j = omega (arith, from) in
    let own : AreWired v (a + x * length ws) (choice_wires (move_of moves j) ws (place_at j place) (place_at (suc j) place)) =
    subst (λ i. AreWired v (a + x * length ws) (choice_wires (move_of moves i) ws (place_at i place) (place_at (suc i) place))) at (copy_wired v ws place moves place.stage n a long wired x within) in
    let fits = row_fits x (length ws) n (length ws) within (omega arith) in
    let behind : place_at (suc j) place ≡ nets (place.copies + x * length ws) (length ws) = place_behind j place from is ∙ ap (λ m. nets (place.copies + x * m) m) long in
    law v next (a + x * length ws) (move_of moves j) ws (place_at j place) (place_at (suc j) place) own (place_long j place ∙ long) (place_long (suc j) place ∙ long)
    (ap (map (atom_value next)) behind ∙ wires_map v next (place.copies + x * length ws) (a + x * length ws) (length ws) (wires_within v next place.copies a (n * length ws) (x * length ws) (length ws) taken fits))

-- ---- how many registers there are

repeated_long : {A : Type 0} (n : ℕ) (xs : List A) → length (repeated n xs) ≡ n * length xs
repeated_long zero xs = omega arith
repeated_long (suc n) xs =
    let both = length-append xs (repeated n xs) in
    let rest = repeated_long n xs in
    let all : suc n * length xs ≡ length xs + n * length xs = omega arith in
    omega (arith, both, rest, all)

pub copy_registers_long : (ws : List ℕ) (n : ℕ) → length (copy_registers ws n) ≡ n * length ws
copy_registers_long ws n = repeated_long n (map zero_register ws) ∙ ap (λ m. n * m) (length-map ws zero_register)

-- ---- of all nodes

-- a node's copies are as many as its registers
pub node_copies_long : (moves : List Atom) (n : Node) (place : Place) (stage last : ℕ) → place.stage ≡ stage → length place.own ≡ length (leaf_widths (ty_of n.ty)) → length (node_copies moves n place last) ≡ length (node_registers n stage last)
node_copies_long moves n place stage last at long = go (is_literal n.attributes)
  where
    go : (t : Bool) → length (cond t [] (copies_wires (leaf_widths (ty_of n.ty)) place moves place.stage (last - place.stage))) ≡ length (cond t [] (copy_registers (leaf_widths (ty_of n.ty)) (last - stage)))
    go true = refl
    go false =
        copies_long (leaf_widths (ty_of n.ty)) place moves place.stage (last - place.stage) long ∙ ap (λ s. (last - s) * length (leaf_widths (ty_of n.ty))) at
        ∙ sym (copy_registers_long (leaf_widths (ty_of n.ty)) (last - stage))

-- where its copies stand among those of all, and its wires among those of all
pub record CopiesStand (v : Values) (moves : List Atom) (nodes : List Node) (places : List Place) (stages lasts : List ℕ) (c a k : ℕ) (n : Node) (place : Place) (last : ℕ) : Type 0 where
  pub from : ℕ
  pub first : slice_get (copies_at c nodes stages lasts) k ≡ Some (c + from)
  pub wired : AreWired v (a + from) (node_copies moves n place last)
  pub within : from + length (node_copies moves n place last) ≤ length (nodes_copies moves nodes places lasts)

-- each node's are as many as its registers
abbrev pub AreMatched : List Atom → List Node → List Place → List ℕ → List ℕ → Type 0
AreMatched moves nodes places stages lasts =
    (k : ℕ) (n : Node) (place : Place) (stage last : ℕ) → slice_get nodes k ≡ Some n → slice_get places k ≡ Some place → slice_get stages k ≡ Some stage → slice_get lasts k ≡ Some last
    → length (node_copies moves n place last) ≡ length (node_registers n stage last)

pub copies_stand : (v : Values) (moves : List Atom) (nodes : List Node) (places : List Place) (stages lasts : List ℕ) (c a : ℕ) → AreMatched moves nodes places stages lasts → AreWired v a (nodes_copies moves nodes places lasts)
    → length stages ≡ length nodes → (k : ℕ) (n : Node) (place : Place) (last : ℕ) → slice_get nodes k ≡ Some n → slice_get places k ≡ Some place → slice_get lasts k ≡ Some last
    → CopiesStand v moves nodes places stages lasts c a k n place last
copies_stand v moves [] places stages lasts c a match h long k n place last e f g = absurd (cc)
copies_stand v moves (x ∷ nodes) [] stages lasts c a match h long k n place last e f g = absurd (cc)
copies_stand v moves (x ∷ nodes) (y ∷ places) [] lasts c a match h long k n place last e f g = absurd (omega (arith, long))
copies_stand v moves (x ∷ nodes) (y ∷ places) (stage ∷ stages) [] c a match h long k n place last e f g = absurd (cc)
copies_stand v moves (x ∷ nodes) (y ∷ places) (stage ∷ stages) (z ∷ lasts) c a match h long zero n place last e f g =
    let parts = wired_parts v a (node_copies moves x y z) (nodes_copies moves nodes places lasts) h in
    let both : length (nodes_copies moves (x ∷ nodes) (y ∷ places) (z ∷ lasts)) ≡ length (node_copies moves x y z) + length (nodes_copies moves nodes places lasts) =
    length-append (node_copies moves x y z) (nodes_copies moves nodes places lasts) in
    let none : c ≡ c + 0 = omega arith in
    let at : a ≡ a + 0 = omega arith in
    let one : x ≡ n = cc in
    let two : y ≡ place = cc in
    let three : z ≡ last = cc in
    subst (λ m. CopiesStand v moves (x ∷ nodes) (y ∷ places) (stage ∷ stages) (z ∷ lasts) c a 0 m place last) one
    (subst (λ m. CopiesStand v moves (x ∷ nodes) (y ∷ places) (stage ∷ stages) (z ∷ lasts) c a 0 x m last) two
    (subst (CopiesStand v moves (x ∷ nodes) (y ∷ places) (stage ∷ stages) (z ∷ lasts) c a 0 x y) three
    (record { from = 0; first = ap Some none; wired = subst (λ m. AreWired v m (node_copies moves x y z)) at parts.0; within = omega (arith, both) })))
copies_stand v moves (x ∷ nodes) (y ∷ places) (stage ∷ stages) (z ∷ lasts) c a match h long (suc k) n place last e f g =
    let parts = wired_parts v a (node_copies moves x y z) (nodes_copies moves nodes places lasts) h in
    let both : length (nodes_copies moves (x ∷ nodes) (y ∷ places) (z ∷ lasts)) ≡ length (node_copies moves x y z) + length (nodes_copies moves nodes places lasts) =
    length-append (node_copies moves x y z) (nodes_copies moves nodes places lasts) in
    let same = match 0 x y stage z refl refl refl refl in
    let more = copies_stand v moves nodes places stages lasts (c + length (node_registers x stage z)) (a + length (node_copies moves x y z)) (λ j m p s l. match (suc j) m p s l) parts.1 (omega (arith, long)) k n place last e f g in
    let within = more.within in
    let sum : c + length (node_registers x stage z) + more.from ≡ c + (length (node_copies moves x y z) + more.from) = omega (arith, same) in
    let at : a + length (node_copies moves x y z) + more.from ≡ a + (length (node_copies moves x y z) + more.from) = omega arith in
    record {
      from = length (node_copies moves x y z) + more.from;
      first = more.first ∙ ap Some sum;
      wired = subst (λ m. AreWired v m (node_copies moves n place last)) at more.wired;
      within = omega (arith, within, both);
    }

pub nodes_long : (moves : List Atom) (nodes : List Node) (places : List Place) (stages lasts : List ℕ) → AreMatched moves nodes places stages lasts → length places ≡ length nodes → length stages ≡ length nodes → length lasts ≡ length nodes
    → length (nodes_copies moves nodes places lasts) ≡ length (nodes_registers nodes stages lasts)
nodes_long moves [] places stages lasts match a b c = refl
nodes_long moves (x ∷ nodes) [] stages lasts match a b c = absurd (omega (arith, a))
nodes_long moves (x ∷ nodes) (y ∷ places) [] lasts match a b c = absurd (omega (arith, b))
nodes_long moves (x ∷ nodes) (y ∷ places) (stage ∷ stages) [] match a b c = absurd (omega (arith, c))
nodes_long moves (x ∷ nodes) (y ∷ places) (stage ∷ stages) (z ∷ lasts) match a b c =
    let one : length (nodes_copies moves (x ∷ nodes) (y ∷ places) (z ∷ lasts)) ≡ length (node_copies moves x y z) + length (nodes_copies moves nodes places lasts) =
    length-append (node_copies moves x y z) (nodes_copies moves nodes places lasts) in
    let two : length (nodes_registers (x ∷ nodes) (stage ∷ stages) (z ∷ lasts)) ≡ length (node_registers x stage z) + length (nodes_registers nodes stages lasts) =
    length-append (node_registers x stage z) (nodes_registers nodes stages lasts) in
    let here = match 0 x y stage z refl refl refl refl in
    let rest = nodes_long moves nodes places stages lasts (λ j m p s l. match (suc j) m p s l) (omega (arith, a)) (omega (arith, b)) (omega (arith, c)) in
    omega (arith, one, two, here, rest)
