-- What is put for a pipeline's stages.
use Rattle.std.proofs.Common.{◌≡◌, ℕ, zero, suc, ◌+◌, ◌-◌, ◌*◌, ◌<◌, ◌≤◌, Bool, true, false, cond, List, [], ◌∷◌, ◌++◌, length, take, drop, get_or, map, Option, Some, None, Result, Ok, Err, refl, sym, ap, ap₂, ◌∙◌, subst, arith}
use Rattle.std.specs.Prelude.{IfOk, OnOk, slice_get, option_map, reverse, ◌==◌}
use Rattle.std.proofs.Math.Seq.{drop-cons}
use Rattle.std.proofs.lemmas.Grind.{reverse_onto}
use Rattle.std.proofs.lemmas.List.{append_assoc, append-nil, map-append, reverse-reverse, length-map, length-take-le, drop_all}
use Rattle.std.proofs.lemmas.Option.{slice_get-map, slice_get_within, get_or_from_slice_get}
use Rattle.vlog_tree.specs.declared.expression.Atom.{Atom}
use Rattle.vlog_tree.specs.Value.{Values}
use Rattle.block_build.specs.declared.netlist.sites.Handshake.{Handshake}
use Rattle.block_build.specs.declared.netlist.sites.Site.{Site}
use Rattle.block_build.specs.declared.netlist.wires.WireList.{WireList}
use Rattle.block_build.specs.Netlist.Added.{Carries, next_number, AddsWires, Puts, PutsNet}
use Rattle.block_build.specs.Netlist.Ends.{all_sites}
use Rattle.block_build.specs.Netlist.Gates.{net, not_gate, and_gate, or_gate}
use Rattle.block_build.specs.Netlist.Handshakes.{AreSites, chain_ready}
use Rattle.block_build.specs.Netlist.Sites.{handshake_at, nets_from, handshakes_from}
use Rattle.block_build.specs.Netlist.Stages.{StageNets, passed, move_net, keep_wires, AreMoving, AreStages}
use Rattle.block_build.specs.Netlist.Staging.{Later, full_bit, leading_sites, stage_nets, stages_from, IsActing, AreActing, shaken_at, move_nets, AreAllMoving, IsMove, MoveFrom, KeepFrom, FullBitsGoOn, kept_net}
use Rattle.block_build.specs.Netlist.Wires.{Wire, AreWired}
use Rattle.block_build.proofs.OnNetlist.OnAdded.{puts_both, number_behind, next_behind, puts_nothing, puts_more}

-- ---- lists

-- an element, with what is behind it
pub record Split {A : Type 0} (xs : List A) (j : ℕ) : Type 0 where
  pub one : A
  pub there : slice_get xs j ≡ Some one
  pub parts : drop j xs ≡ one ∷ drop (suc j) xs

pub split : {A : Type 0} (xs : List A) (j : ℕ) → j < length xs → Split xs j
split [] j l = absurd (omega (arith, l))
split (x ∷ xs) zero l = record { one = x; there = refl; parts = refl }
split (x ∷ xs) (suc j) l = let s = split xs j (omega (arith, l)) in record { one = s.one; there = s.there; parts = s.parts }

-- ---- one stage

pub leading_few : (stage : ℕ) (sites : List Site) → leading_sites stage sites ≤ length sites
leading_few stage [] = omega arith
leading_few stage (site ∷ sites) = go (site.stage == stage) (leading_few stage sites)
  where
    go : (t : Bool) → leading_sites stage sites ≤ length sites → cond t (suc (leading_sites stage sites)) 0 ≤ suc (length sites)
    go true l = omega (arith, l)
    go false l = omega arith

pub shaken_are : (k : ℕ) (next : ℕ → ℕ) (i : ℕ) (sites : List Site) → handshakes_from k sites ≡ map shaken_at (nets_from k next i sites)
shaken_are k next i [] = refl
shaken_are k next i (site ∷ sites) = ap (λ xs. handshake_at k ∷ xs) (shaken_are (k + 7) next (suc i) sites)

pub record Acted (a c : WireList) (run : Atom) (full stage : ℕ) (sites : List Site) (old new : List Handshake) (passes : Atom) : Type 0 where
  pub handshakes : (later : Later) (i : ℕ) → new ≡ old ++ map shaken_at (stage_nets full later (next_number a) i stage sites).sites
  pub passes_are : (later : Later) (i : ℕ) → passes ≡ passed (stage_nets full later (next_number a) i stage sites)
  pub wired : (later : Later) (i : ℕ) → AddsWires a c (λ v. IsActing v run (stage_nets full later (next_number a) i stage sites))
  pub number : next_number c ≡ suc (next_number a) + 7 * length sites

pub acted : (a b c : WireList) (run : Atom) (full stage : ℕ) (sites : List Site) (old new : List Handshake) (bit acts passes : Atom) → bit ≡ full_bit full stage → PutsNet a b (and_gate run bit) acts
    → new ≡ old ++ handshakes_from (next_number b) sites
    → ((next : ℕ → ℕ) (i : ℕ) → AddsWires b c (λ v. AreSites v acts (nets_from (next_number b) next i sites)))
    → ((next : ℕ → ℕ) (i : ℕ) → passes ≡ chain_ready acts (nets_from (next_number b) next i sites))
    → next_number c ≡ next_number b + 7 * length sites → Acted a c run full stage sites old new passes
acted a b c run full stage sites old new bit acts passes bit_is p shaken wired ready number =
    let k = next_number a in
    let put = subst (λ t. PutsNet a b (and_gate run t) acts) bit_is p in
    let behind : next_number b ≡ suc k = next_behind a b (and_gate run (full_bit full stage)) put.puts in
    let acts_is : acts ≡ net k = put.number in
    record {
      handshakes = λ later i. shaken ∙ ap (λ n. old ++ handshakes_from n sites) behind ∙ ap (λ xs. old ++ xs) (shaken_are (suc k) later.done i sites);
      passes_are = λ later i. ready later.done i ∙ ap₂ (λ t n. chain_ready t (nets_from n later.done i sites)) acts_is behind;
      wired = λ later i v h.
          let after = wired later.done i v h in
          let before = put.puts.wired v after.0 in
          (before.0, (before.1, subst (λ t. AreSites v t (nets_from (suc k) later.done i sites)) acts_is (subst (λ n. AreSites v acts (nets_from n later.done i sites)) behind after.1)));
      number = number ∙ ap (λ n. n + 7 * length sites) behind;
    }

-- ---- one stage behind another

-- what is put so far for the first stages of a pipeline, and what is left
pub record Completes (a b : WireList) (run : Atom) (left whole : Later → List StageNets) (shaken : List Handshake) (passes : List Atom) : Type 0 where
  pub handshakes : (later : Later) → shaken ++ map shaken_at (all_sites (left later)) ≡ map shaken_at (all_sites (whole later))
  pub passes_are : (later : Later) → passes ++ map passed (left later) ≡ map passed (whole later)
  pub wired : (later : Later) → AddsWires a b (λ v. AreActing v run (left later) → AreActing v run (whole later))

pub nothing_completes : (a : WireList) (run : Atom) (whole : Later → List StageNets) → Completes a a run whole whole [] []
nothing_completes a run whole = record { handshakes = λ later. refl; passes_are = λ later. refl; wired = λ later v h. (h, λ x. x) }

pub one_completes : (a b c : WireList) (run : Atom) (first : Later → StageNets) (left whole : Later → List StageNets) (shaken more : List Handshake) (passes : List Atom) (pass : Atom)
    → Completes a b run (λ later. first later ∷ left later) whole shaken passes → ((later : Later) → more ≡ shaken ++ map shaken_at (first later).sites) → ((later : Later) → pass ≡ passed (first later))
    → ((later : Later) → AddsWires b c (λ v. IsActing v run (first later))) → Completes a c run left whole more (passes ++ pass ∷ [])
one_completes a b c run first left whole shaken more passes pass p s e w = record {
  handshakes = λ later.
      ap (λ xs. xs ++ map shaken_at (all_sites (left later))) (s later)
      ∙ append_assoc shaken (map shaken_at (first later).sites) (map shaken_at (all_sites (left later)))
      ∙ ap (λ xs. shaken ++ xs) (sym (map-append shaken_at (first later).sites (all_sites (left later))))
      ∙ p.handshakes later;
  passes_are = λ later.
      append_assoc passes (pass ∷ []) (map passed (left later)) ∙ ap (λ x. passes ++ x ∷ map passed (left later)) (e later) ∙ p.passes_are later;
  wired = λ later v h.
      let after = w later v h in
      let before = p.wired later v after.0 in
      (before.0, λ rest. before.1 (after.1, rest));
}

pub record ActingLeft (a b : WireList) (run : Atom) (full n : ℕ) (sites : List Site) (stage : ℕ) (rest : List Site) (shaken : List Handshake) (passes : List Atom) : Type 0 where
  pub i : ℕ
  pub completes : Completes a b run (λ later. stages_from full later (next_number b) i stage (n - stage) rest) (λ later. stages_from full later (next_number a) 0 0 n sites) shaken passes

pub acting_begun : (a : WireList) (run : Atom) (full n : ℕ) (sites : List Site) (shaken : List Handshake) (passes : List Atom) → [] ≡ shaken → [] ≡ passes → ActingLeft a a run full n sites 0 sites shaken passes
acting_begun a run full n sites shaken passes shaken_is passes_is =
    let whole : n - 0 ≡ n = omega arith in
    let all = λ (later : Later). stages_from full later (next_number a) 0 0 n sites in
    let begun = subst (λ m. Completes a a run (λ later. stages_from full later (next_number a) 0 0 m sites) all [] []) (sym whole) (nothing_completes a run all) in
    record {
      i = 0;
      completes = subst (λ xs. Completes a a run (λ later. stages_from full later (next_number a) 0 0 (n - 0) sites) all shaken xs) passes_is
          (subst (λ hs. Completes a a run (λ later. stages_from full later (next_number a) 0 0 (n - 0) sites) all hs []) shaken_is begun);
    }

pub acting_more : (a b c : WireList) (run : Atom) (full n : ℕ) (sites : List Site) (stage : ℕ) (rest own behind : List Site) (count : ℕ) (shaken more : List Handshake) (passes all : List Atom) (pass : Atom) → stage < n
    → count ≡ leading_sites stage rest → own ≡ take count rest → behind ≡ drop count rest → ActingLeft a b run full n sites stage rest shaken passes → Acted b c run full stage own shaken more pass → all ≡ passes ++ pass ∷ []
    → ActingLeft a c run full n sites (stage + 1) behind more all
acting_more a b c run full n sites stage rest own behind count shaken more passes all pass l count_is own_is behind_is p q all_are =
    let k = next_number b in
    let lead = leading_sites stage rest in
    let some : n - stage ≡ suc (n - (stage + 1)) = omega (arith, l) in
    let one : suc stage ≡ stage + 1 = omega arith in
    let own_are : own ≡ take lead rest = own_is ∙ ap (λ m. take m rest) count_is in
    let long : length own ≡ lead = ap length own_are ∙ length-take-le lead rest (leading_few stage rest) in
    let number : next_number c ≡ suc k + 7 * lead = q.number ∙ ap (λ m. suc k + 7 * m) long in
    let before = subst (λ m. Completes a b run (λ later. stages_from full later k p.i stage m rest) (λ later. stages_from full later (next_number a) 0 0 n sites) shaken passes) some p.completes in
    let own_acted = subst (λ xs. Acted b c run full stage xs shaken more pass) own_are q in
    let after = one_completes a b c run (λ later. stage_nets full later k p.i stage (take lead rest)) (λ later. stages_from full later (suc k + 7 * lead) (p.i + lead) (suc stage) (n - (stage + 1)) (drop lead rest))
    (λ later. stages_from full later (next_number a) 0 0 n sites) shaken more passes pass before (λ later. own_acted.handshakes later p.i) (λ later. own_acted.passes_are later p.i) (λ later. own_acted.wired later p.i) in
    let numbered = subst (λ m. Completes a c run (λ later. stages_from full later m (p.i + lead) (suc stage) (n - (stage + 1)) (drop lead rest)) (λ later. stages_from full later (next_number a) 0 0 n sites) more (passes ++ pass ∷ [])) (sym number) after in
    let staged = subst (λ m. Completes a c run (λ later. stages_from full later (next_number c) (p.i + lead) m (n - (stage + 1)) (drop lead rest)) (λ later. stages_from full later (next_number a) 0 0 n sites) more (passes ++ pass ∷ [])) one numbered in
    let left = subst (λ xs. Completes a c run (λ later. stages_from full later (next_number c) (p.i + lead) (stage + 1) (n - (stage + 1)) xs) (λ later. stages_from full later (next_number a) 0 0 n sites) more (passes ++ pass ∷ []))
    (ap (λ m. drop m rest) (sym count_is) ∙ sym behind_is) staged in
    record {
      i = p.i + lead;
      completes = subst (λ xs. Completes a c run (λ later. stages_from full later (next_number c) (p.i + lead) (stage + 1) (n - (stage + 1)) behind) (λ later. stages_from full later (next_number a) 0 0 n sites) more xs) (sym all_are) left;
    }

pub record AllActed (a b : WireList) (run : Atom) (full n : ℕ) (sites : List Site) (shaken : List Handshake) (passes : List Atom) : Type 0 where
  pub handshakes : (later : Later) → shaken ≡ map shaken_at (all_sites (stages_from full later (next_number a) 0 0 n sites))
  pub passes_are : (later : Later) → passes ≡ map passed (stages_from full later (next_number a) 0 0 n sites)
  pub wired : (later : Later) → AddsWires a b (λ v. AreActing v run (stages_from full later (next_number a) 0 0 n sites))

pub acting_done : (a b : WireList) (run : Atom) (full n : ℕ) (sites : List Site) (stage : ℕ) (rest : List Site) (shaken : List Handshake) (passes : List Atom) → n ≤ stage → ActingLeft a b run full n sites stage rest shaken passes
    → AllActed a b run full n sites shaken passes
acting_done a b run full n sites stage rest shaken passes l p =
    let none : n - stage ≡ 0 = omega (arith, l) in
    let whole = λ (later : Later). stages_from full later (next_number a) 0 0 n sites in
    let at_end = subst (λ m. Completes a b run (λ later. stages_from full later (next_number b) p.i stage m rest) whole shaken passes) none p.completes in
    record {
      handshakes = λ later. sym (append-nil shaken) ∙ at_end.handshakes later;
      passes_are = λ later. sym (append-nil passes) ∙ at_end.passes_are later;
      wired = λ later v h. let both = at_end.wired later v h in (both.0, both.1 tt);
    }

-- ---- which move

pub moved_put : {E : Type 0} (o : Result Atom E) (a b c d : WireList) (full pass behind free clear : Atom) → PutsNet a b (not_gate full) free → PutsNet b c (or_gate free behind) clear → IfOk o (PutsNet c d (and_gate pass clear))
    → IfOk o (IsMove a d full pass (Some behind))
moved_put (Ok r) a b c d full pass behind free clear p q g =
    let k = next_number a in
    let one = puts_more a a b [] (not_gate full) free k (puts_nothing a) p in
    let two = puts_more a b c (not_gate full ∷ []) (or_gate (net k) behind) clear (suc k) one.1 (subst (λ t. PutsNet b c (or_gate t behind) clear) one.0 q) in
    let three = puts_more a c d (not_gate full ∷ or_gate (net k) behind ∷ []) (and_gate pass (net (suc k))) r (suc (suc k)) two.1 (subst (λ t. PutsNet c d (and_gate pass t) r) two.0 g) in
    (three.0, three.1.puts)
moved_put (Err z) a b c d full pass behind free clear p q g = tt

-- the first stage that is looked at has none behind it
abbrev pub IsBehind : ℕ → Option Atom → Type 0
IsBehind i None = i ≡ 0
IsBehind i (Some moves) = 0 < i

-- which of the last stages move, so far
pub record MovesLeft (a b : WireList) (full : ℕ) (passes : List Atom) (i : ℕ) (behind : Option Atom) (moves : List Atom) : Type 0 where
  pub number : next_number b ≡ next_number a + 3 * (i - 1)
  pub which : IsBehind i behind
  pub gone : (stages : List StageNets) → map passed stages ≡ passes → MoveFrom full (next_number a) stages
      → (moves ≡ reverse (move_nets (drop (length passes - i) stages))) × (behind ≡ slice_get (move_nets (drop (length passes - i) stages)) 0) × AddsWires a b (λ v. AreAllMoving v (drop (length passes - i) stages))

long_as : (stages : List StageNets) (passes : List Atom) → map passed stages ≡ passes → length stages ≡ length passes
long_as stages passes e = sym (length-map stages passed) ∙ ap length e

pub moves_begun : (a : WireList) (full : ℕ) (passes moves : List Atom) → moves ≡ [] → MovesLeft a a full passes 0 None moves
moves_begun a full passes moves moves_are = record {
  number = nothing (next_number a);
  which = refl;
  gone = λ stages e from.
      let long = long_as stages passes e in
      let none : drop (length passes - 0) stages ≡ [] = drop_all (length passes - 0) stages (omega (arith, long)) in (
        moves_are ∙ ap (λ xs. reverse (move_nets xs)) (sym none),
        ap (λ xs. slice_get (move_nets xs) 0) (sym none),
        λ v h. (h, subst (AreAllMoving v) (sym none) tt),
      );
}
  where
    nothing : (n : ℕ) → n ≡ n + 3 * (0 - 1)
    nothing n = omega arith

-- a stage before those behind it
moves_before : (a b c : WireList) (full k : ℕ) (one : StageNets) (more : List StageNets) (pass own full_behind : Atom) (behind : Option Atom) → pass ≡ passed one → behind ≡ slice_get (move_nets more) 0
    → ((two : StageNets) → slice_get more 0 ≡ Some two → (two.full ≡ full_behind) × (one.moving ≡ next_number b)) → AddsWires a b (λ v. AreAllMoving v more) → IsMove b c full_behind pass behind own
    → (own ≡ move_net one more) × AddsWires a c (λ v. AreAllMoving v (one ∷ more))
moves_before a b c full k one [] pass own full_behind behind pass_is behind_is at p q =
    let alone = subst (λ o. IsMove b c full_behind pass o own) behind_is q in
    (alone.0 ∙ pass_is, λ v h. let before = p v (subst (Carries v) alone.1 h) in (before.0, (tt, tt)))
moves_before a b c full k one (two ∷ more) pass own full_behind behind pass_is behind_is at p q =
    let both = subst (λ o. IsMove b c full_behind pass o own) behind_is q in
    let here = at two refl in
    let m = next_number b in
    let put = subst (λ t. Puts b c (not_gate t ∷ or_gate (net m) (move_net two more) ∷ and_gate pass (net (suc m)) ∷ [])) (sym here.0) both.1 in
    let passing = subst (λ t. Puts b c (not_gate two.full ∷ or_gate (net m) (move_net two more) ∷ and_gate t (net (suc m)) ∷ [])) pass_is put in (
      both.0 ∙ ap (λ n. net (suc (suc n))) (sym here.1),
      λ v h.
          let after = passing.wired v h in
          let before = p v after.0 in
          (before.0, (subst (λ n. AreWired v n (not_gate two.full ∷ or_gate (net n) (move_net two more) ∷ and_gate (passed one) (net (suc n)) ∷ [])) (sym here.1) after.1, before.1)),
    )

pub moves_more : (a b c : WireList) (full : ℕ) (passes : List Atom) (i before : ℕ) (behind : Option Atom) (moves all : List Atom) (pass own full_behind : Atom) → i < length passes → before ≡ length passes - i - 1 → pass ≡ get_or passes before pass
    → full_behind ≡ full_bit full (before + 1) → MovesLeft a b full passes i behind moves → IsMove b c full_behind pass behind own → all ≡ moves ++ own ∷ [] → MovesLeft a c full passes (i + 1) (Some own) all
moves_more a b c full passes i before behind moves all pass own full_behind l before_is pass_is full_is p q all_are = record {
  which = omega arith;
  number = numbered behind refl;
  gone = λ stages e from.
      let long = long_as stages passes e in
      let here = split stages before (omega (arith, l, long, before_is)) in
      let next : suc before ≡ length passes - i = omega (arith, l, before_is) in
      let behind_is : before + 1 ≡ length passes - i = omega (arith, l, before_is) in
      let now : length passes - (i + 1) ≡ before = omega (arith, l, before_is) in
      let parts : drop before stages ≡ here.one ∷ drop (length passes - i) stages = here.parts ∙ ap (λ n. here.one ∷ drop n stages) next in
      let old = p.gone stages e from in
      let passes_here : pass ≡ passed here.one =
      pass_is ∙ get_or_from_slice_get passes before (passed here.one) pass (ap (λ xs. slice_get xs before) (sym e) ∙ slice_get-map passed stages before ∙ ap (option_map passed) here.there) in
      let at : (two : StageNets) → slice_get (drop (length passes - i) stages) 0 ≡ Some two → (two.full ≡ full_behind) × (here.one.moving ≡ next_number b) = λ two there.
      let two_there = sym (first_behind stages (length passes - i)) ∙ there in
      let within = slice_get_within stages (length passes - i) two two_there in (
        from.full_are (length passes - i) two two_there ∙ ap (full_bit full) (sym behind_is) ∙ sym full_is,
        from.moving before here.one here.there ∙ moving_at (length stages) (length passes) before (next_number a) long l within now ∙ sym p.number,
      ) in
      let made = moves_before a b c full (next_number a) here.one (drop (length passes - i) stages) pass own full_behind behind passes_here old.1 at old.2 q in
      let all_there = ap (λ n. drop n stages) now ∙ parts in (
        all_are
            ∙ ap₂ (λ xs x. xs ++ x ∷ []) old.0 made.0
            ∙ sym (reverse_onto (move_nets (drop (length passes - i) stages)) (move_net here.one (drop (length passes - i) stages)) [])
            ∙ ap (λ xs. reverse (move_nets xs)) (sym all_there),
        ap Some made.0 ∙ ap (λ xs. slice_get (move_nets xs) 0) (sym all_there),
        subst (λ xs. AddsWires a c (λ v. AreAllMoving v xs)) (sym all_there) made.1,
      );
}
  where
    first_behind : {A : Type 0} (xs : List A) (n : ℕ) → slice_get (drop n xs) 0 ≡ slice_get xs n
    first_behind [] zero = refl
    first_behind [] (suc n) = refl
    first_behind (x ∷ xs) zero = refl
    first_behind (x ∷ xs) (suc n) = first_behind xs n

    moving_at : (m n j k : ℕ) → m ≡ n → i < n → n - i < m → n - (i + 1) ≡ j → k + 3 * (m - 2 - j) ≡ k + 3 * (i - 1)
    moving_at m n j k e few w now = omega (arith, e, few, w, now)

    numbered : (o : Option Atom) → behind ≡ o → next_number c ≡ next_number a + 3 * (i + 1 - 1)
    numbered None e =
        let alone = subst (λ o. IsMove b c full_behind pass o own) e q in
        let first : i ≡ 0 = subst (IsBehind i) e p.which in
        let number : next_number c ≡ next_number a + 3 * (i - 1) = ap next_number alone.1 ∙ p.number in
        omega (arith, number, first)
    numbered (Some t) e =
        let both = subst (λ o. IsMove b c full_behind pass o own) e q in
        let later : 0 < i = subst (IsBehind i) e p.which in
        let number = number_behind b c (not_gate full_behind ∷ or_gate (net (next_number b)) t ∷ and_gate pass (net (suc (next_number b))) ∷ []) both.1 in
        let before = p.number in
        omega (arith, number, before, later)

pub record AllMoved (a b : WireList) (full : ℕ) (passes moves : List Atom) : Type 0 where
  pub moves_are : (stages : List StageNets) → map passed stages ≡ passes → MoveFrom full (next_number a) stages → moves ≡ move_nets stages
  pub wired : (stages : List StageNets) → map passed stages ≡ passes → MoveFrom full (next_number a) stages → AddsWires a b (λ v. AreAllMoving v stages)

pub moves_done : (a b : WireList) (full : ℕ) (passes : List Atom) (i : ℕ) (behind : Option Atom) (moves all : List Atom) → length passes ≤ i → MovesLeft a b full passes i behind moves → all ≡ reverse moves → AllMoved a b full passes all
moves_done a b full passes i behind moves all l p turned =
    let none : length passes - i ≡ 0 = omega (arith, l) in
    record {
      moves_are = λ stages e from. turned ∙ ap reverse ((p.gone stages e from).0 ∙ ap (λ n. reverse (move_nets (drop n stages))) none) ∙ reverse-reverse (move_nets stages);
      wired = λ stages e from. subst (λ n. AddsWires a b (λ v. AreAllMoving v (drop n stages))) none (p.gone stages e from).2;
    }

-- ---- all of it

pub acting_moving : (v : Values) (run : Atom) (stages : List StageNets) → AreActing v run stages → AreAllMoving v stages → AreStages v run stages
acting_moving v run [] acting moving = tt
acting_moving v run (stage ∷ more) acting moving = (acting.0.0, acting.0.1, moving.0, acting_moving v run more acting.1 moving.1)

-- what stands at an index
pub record StageAt (full stage : ℕ) (later : Later) (one : StageNets) : Type 0 where
  pub full_is : one.full ≡ full_bit full stage
  pub moving : one.moving ≡ later.moving stage
  pub next : one.next ≡ later.next stage

pub stage_at : (full : ℕ) (later : Later) (k i stage n : ℕ) (sites : List Site) (j : ℕ) (one : StageNets) → slice_get (stages_from full later k i stage n sites) j ≡ Some one → StageAt full (stage + j) later one
stage_at full later k i stage zero sites j one e = absurd (nothing j e)
  where
    nothing : (j : ℕ) → slice_get {X = StageNets} [] j ≡ Some one → ⊥
    nothing zero e = cc
    nothing (suc j) e = cc
stage_at full later k i stage (suc n) sites zero one e =
    let here : one ≡ stage_nets full later k i stage (take (leading_sites stage sites) sites) = some_same e in
    let at : stage + 0 ≡ stage = omega arith in
    subst (λ m. StageAt full m later one) (sym at) (subst (StageAt full stage later) (sym here) (record { full_is = refl; moving = refl; next = refl }))
  where
    some_same : {x y : StageNets} → Some x ≡ Some y → y ≡ x
    some_same e = cc
stage_at full later k i stage (suc n) sites (suc j) one e =
    let at : suc stage + j ≡ stage + suc j = omega arith in
    subst (λ m. StageAt full m later one) at
    (stage_at full later (suc k + 7 * leading_sites stage sites) (i + leading_sites stage sites) (suc stage) n (drop (leading_sites stage sites) sites) j one e)

pub stages_count : (full : ℕ) (later : Later) (k i stage n : ℕ) (sites : List Site) → length (stages_from full later k i stage n sites) ≡ n
stages_count full later k i stage zero sites = refl
stages_count full later k i stage (suc n) sites =
    ap suc (stages_count full later (suc k + 7 * leading_sites stage sites) (i + leading_sites stage sites) (suc stage) n (drop (leading_sites stage sites) sites))

pub record StagesMade (a b : WireList) (run : Atom) (full n : ℕ) (sites : List Site) (shaken : List Handshake) (moves : List Atom) (moving next done : ℕ → ℕ) : Type 0 where
  pub handshakes : shaken ≡ map shaken_at (all_sites (stages_from full (record { moving = moving; next = next; done = done }) (next_number a) 0 0 n sites))
  pub moves_are : moves ≡ move_nets (stages_from full (record { moving = moving; next = next; done = done }) (next_number a) 0 0 n sites)
  pub wired : AddsWires a b (λ v. AreStages v run (stages_from full (record { moving = moving; next = next; done = done }) (next_number a) 0 0 n sites))

pub stages_made : (a b c : WireList) (run : Atom) (full n : ℕ) (sites : List Site) (shaken : List Handshake) (passes slice moves : List Atom) → AllActed a b run full n sites shaken passes → slice ≡ passes → AllMoved b c full slice moves
    → (next done : ℕ → ℕ) → StagesMade a c run full n sites shaken moves (λ j. next_number b + 3 * (n - 2 - j)) next done
stages_made a b c run full n sites shaken passes slice moves p slice_is q next done =
    let later : Later = record { moving = λ j. next_number b + 3 * (n - 2 - j); next = next; done = done } in
    let stages = stages_from full later (next_number a) 0 0 n sites in
    let at_index : (j : ℕ) (one : StageNets) → slice_get stages j ≡ Some one → StageAt full j later one = λ j one e.
    let same : 0 + j ≡ j = omega arith in
    subst (λ m. StageAt full m later one) same (stage_at full later (next_number a) 0 0 n sites j one e) in
    let from : MoveFrom full (next_number b) stages = record {
      full_are = λ j one e. (at_index j one e).full_is;
      moving = λ j one e. (at_index j one e).moving ∙ ap (λ m. next_number b + 3 * (m - 2 - j)) (sym (stages_count full later (next_number a) 0 0 n sites));
    } in
    let e = sym (p.passes_are later) ∙ sym slice_is in
    record {
      handshakes = p.handshakes later;
      moves_are = q.moves_are stages e from;
      wired = λ v h.
          let after = q.wired stages e from v h in
          let before = p.wired later v after.0 in
          (before.0, acting_moving v run stages before.1 after.1);
    }

-- ---- what the bits of stages are next

pub kept_put : {E : Type 0} (o : Result Atom E) (a b c d : WireList) (comes full moves stays keeps : Atom) → PutsNet a b (not_gate moves) stays → PutsNet b c (and_gate full stays) keeps → IfOk o (PutsNet c d (or_gate comes keeps))
    → IfOk o (λ next. next ≡ net (suc (suc (next_number a)))) × OnOk o (Puts a d (keep_wires (next_number a) comes full moves))
kept_put (Ok r) a b c d comes full moves stays keeps p q g =
    let k = next_number a in
    let one = puts_more a a b [] (not_gate moves) stays k (puts_nothing a) p in
    let two = puts_more a b c (not_gate moves ∷ []) (and_gate full (net k)) keeps (suc k) one.1 (subst (λ t. PutsNet b c (and_gate full t) keeps) one.0 q) in
    let three = puts_more a c d (not_gate moves ∷ and_gate full (net k) ∷ []) (or_gate comes (net (suc k))) r (suc (suc k)) two.1 (subst (λ t. PutsNet c d (or_gate comes t) r) two.0 g) in
    (three.0, three.1.puts)
kept_put (Err z) a b c d comes full moves stays keeps p q g = (tt, tt)

-- those of the first stages, and what is left
pub record KeptLeft (a b : WireList) (full : ℕ) (comes now : Atom) (moves : List Atom) (i : ℕ) (old nexts : List Atom) : Type 0 where
  pub number : next_number b ≡ next_number a + 3 * i
  pub few : i ≤ length moves
  pub gone : (stages : List StageNets) → moves ≡ move_nets stages → KeepFrom full (next_number a) stages
      → (nexts ++ map kept_net (drop i stages) ≡ old ++ map kept_net stages) × AddsWires a b (λ v. FullBitsGoOn v now (drop i stages) → FullBitsGoOn v comes stages)

pub kept_begun : (a : WireList) (full : ℕ) (comes : Atom) (moves old : List Atom) → KeptLeft a a full comes comes moves 0 old old
kept_begun a full comes moves old = record { number = nothing (next_number a); few = omega arith; gone = λ stages e from. (refl, λ v h. (h, λ x. x)) }
  where
    nothing : (n : ℕ) → n ≡ n + 3 * 0
    nothing n = omega arith

moves_long : (stages : List StageNets) → length (move_nets stages) ≡ length stages
moves_long [] = refl
moves_long (stage ∷ more) = ap suc (moves_long more)

-- the stage of an index moves by what stands there
move_there : (stages : List StageNets) (i : ℕ) (one : StageNets) → slice_get stages i ≡ Some one → slice_get (move_nets stages) i ≡ Some (move_net one (drop (suc i) stages))
move_there [] zero one e = cc
move_there [] (suc i) one e = cc
move_there (stage ∷ more) zero one e = ap (option_map (λ (s : StageNets). move_net s more)) e
move_there (stage ∷ more) (suc i) one e = move_there more i one e

pub kept_more : (a b c : WireList) (full : ℕ) (comes now : Atom) (moves : List Atom) (i : ℕ) (old nexts all : List Atom) (leaves bit next : Atom) → i < length moves → leaves ≡ get_or moves i leaves → bit ≡ full_bit full i
    → KeptLeft a b full comes now moves i old nexts → next ≡ net (suc (suc (next_number b))) → Puts b c (keep_wires (next_number b) now bit leaves) → all ≡ nexts ++ next ∷ [] → KeptLeft a c full comes leaves moves (i + 1) old all
kept_more a b c full comes now moves i old nexts all leaves bit next l leaves_is bit_is p next_is put all_are =
    let behind = number_behind b c (keep_wires (next_number b) now bit leaves) put in
    let before = p.number in
    let one : suc i ≡ i + 1 = omega arith in
    record {
      number = omega (arith, behind, before);
      few = omega (arith, l);
      gone = λ stages e from.
          let long : length moves ≡ length stages = ap length e ∙ moves_long stages in
          let here = split stages i (omega (arith, l, long)) in
          let parts : drop i stages ≡ here.one ∷ drop (i + 1) stages = here.parts ∙ ap (λ n. here.one ∷ drop n stages) one in
          let sooner = p.gone stages e from in
          let leaves_here : leaves ≡ move_net here.one (drop (i + 1) stages) =
          leaves_is ∙ get_or_from_slice_get moves i (move_net here.one (drop (suc i) stages)) leaves (ap (λ xs. slice_get xs i) e ∙ move_there stages i here.one here.there) ∙ ap (λ n. move_net here.one (drop n stages)) one in
          let at : next_number b ≡ here.one.next = p.number ∙ sym (from.next i here.one here.there) in
          let full_here : bit ≡ here.one.full = bit_is ∙ sym (from.full_are i here.one here.there) in (
            ap (λ xs. xs ++ map kept_net (drop (i + 1) stages)) all_are
                ∙ append_assoc nexts (next ∷ []) (map kept_net (drop (i + 1) stages))
                ∙ ap (λ x. nexts ++ x ∷ map kept_net (drop (i + 1) stages)) (next_is ∙ ap (λ n. net (suc (suc n))) at)
                ∙ ap (λ xs. nexts ++ map kept_net xs) (sym parts)
                ∙ sooner.0,
            λ v h.
                let later = put.wired v h in
                let early = sooner.1 v later.0 in (
                  early.0,
                  λ rest.
                      let numbered = subst (λ n. AreWired v n (keep_wires n now bit leaves)) at later.1 in
                      let filled = subst (λ t. AreWired v here.one.next (keep_wires here.one.next now t leaves)) full_here numbered in
                      let left = subst (λ t. AreWired v here.one.next (keep_wires here.one.next now here.one.full t)) leaves_here filled in
                      early.1 (subst (FullBitsGoOn v now) (sym parts) (left, subst (λ t. FullBitsGoOn v t (drop (i + 1) stages)) leaves_here rest)),
                ),
          );
    }

pub record AllKept (a b : WireList) (full : ℕ) (comes : Atom) (moves old nexts : List Atom) : Type 0 where
  pub nexts_are : (stages : List StageNets) → moves ≡ move_nets stages → KeepFrom full (next_number a) stages → nexts ≡ old ++ map kept_net stages
  pub wired : (stages : List StageNets) → moves ≡ move_nets stages → KeepFrom full (next_number a) stages → AddsWires a b (λ v. FullBitsGoOn v comes stages)
  pub number : next_number b ≡ next_number a + 3 * length moves

pub kept_done : (a b : WireList) (full : ℕ) (comes now : Atom) (moves : List Atom) (i : ℕ) (old nexts : List Atom) → length moves ≤ i → KeptLeft a b full comes now moves i old nexts → AllKept a b full comes moves old nexts
kept_done a b full comes now moves i old nexts l p = record {
  nexts_are = λ stages e from. sym (append-nil nexts) ∙ ap (λ xs. nexts ++ map kept_net xs) (sym (none stages e)) ∙ (p.gone stages e from).0;
  wired = λ stages e from v h.
      let both = (p.gone stages e from).1 v h in
      (both.0, both.1 (subst (FullBitsGoOn v now) (sym (none stages e)) tt));
  number = let before = p.number in let few = p.few in omega (arith, before, l, few);
}
  where
    none : (stages : List StageNets) → moves ≡ move_nets stages → drop i stages ≡ []
    none stages e = let long : length moves ≡ length stages = ap length e ∙ moves_long stages in drop_all i stages (omega (arith, l, long))
