-- What is put for a stage's sites.
use Rattle.std.proofs.Common.{◌≡◌, ℕ, zero, suc, ◌+◌, ◌*◌, ◌<◌, ◌≤◌, List, [], ◌∷◌, ◌++◌, length, drop, get_or, Result, Ok, Err, refl, sym, ap, ap₂, ◌∙◌, subst, arith}
use Rattle.std.specs.Prelude.{IfOk, OnOk}
use Rattle.std.proofs.Math.Seq.{drop-cons}
use Rattle.std.proofs.lemmas.List.{append_assoc, append-nil}
use Rattle.vlog_tree.specs.declared.expression.Atom.{Atom}
use Rattle.block_build.specs.declared.netlist.sites.Handshake.{Handshake}
use Rattle.block_build.specs.declared.netlist.sites.Site.{Site}
use Rattle.block_build.specs.declared.netlist.wires.WireList.{WireList}
use Rattle.block_build.specs.Netlist.Added.{next_number, AddsWires, Puts, PutsNet}
use Rattle.block_build.specs.Netlist.Gates.{net, not_gate, and_gate, or_gate}
use Rattle.block_build.specs.Netlist.Handshakes.{site_wires, AreSites, chain_ready}
use Rattle.block_build.specs.Netlist.Sites.{site_nets, handshake_at, nets_from, handshakes_from}
use Rattle.block_build.proofs.OnNetlist.OnAdded.{puts_both, number_behind, puts_nothing, puts_more}

-- ---- one site

pub pass_put : {E : Type 0} (o : Result Atom E) (a b c d : WireList) (ready due goes closed passed : Atom) → PutsNet a b (not_gate due) closed → PutsNet b c (or_gate closed goes) passed → IfOk o (PutsNet c d (and_gate ready passed))
    → IfOk o (λ r. r ≡ net (suc (suc (next_number a)))) × OnOk o (Puts a d (not_gate due ∷ or_gate (net (next_number a)) goes ∷ and_gate ready (net (suc (next_number a))) ∷ []))
pass_put (Ok r) a b c d ready due goes closed passed p q g =
    let one = puts_more a a b [] (not_gate due) closed (next_number a) (puts_nothing a) p in
    let two = puts_more a b c (not_gate due ∷ []) (or_gate (net (next_number a)) goes) passed (suc (next_number a)) one.1 (subst (λ t. PutsNet b c (or_gate t goes) passed) one.0 q) in
    let three = puts_more a c d (not_gate due ∷ or_gate (net (next_number a)) goes ∷ []) (and_gate ready (net (suc (next_number a)))) r (suc (suc (next_number a))) two.1 (subst (λ t. PutsNet c d (and_gate ready t) r) two.0 g) in
    (three.0, three.1.puts)
pass_put (Err z) a b c d ready due goes closed passed p q g = (tt, tt)

pub record Shaken (a f : WireList) (ready : Atom) (site : Site) (asserted goes passed : Atom) : Type 0 where
  pub signals : ◌≡◌ {A = Handshake} (record { asserted = asserted; goes = goes; ready = passed }) (handshake_at (next_number a))
  pub puts : Puts a f (site_wires (next_number a) ready (site_nets site (next_number a) 0))

pub shake_put : (a b c d e f : WireList) (ready : Atom) (site : Site) (undone due asserted goes passed : Atom) → PutsNet a b (not_gate site.done) undone → PutsNet b c (and_gate site.on undone) due
    → PutsNet c d (and_gate ready due) asserted → PutsNet d e (and_gate asserted site.partner) goes → passed ≡ net (suc (suc (next_number e)))
    → Puts e f (not_gate due ∷ or_gate (net (next_number e)) goes ∷ and_gate ready (net (suc (next_number e))) ∷ []) → Shaken a f ready site asserted goes passed
shake_put a b c d e f ready site undone due asserted goes passed p q g h is rest =
    let k = next_number a in
    let w1 = not_gate site.done in
    let w2 = and_gate site.on (net k) in
    let w3 = and_gate ready (net (suc k)) in
    let w4 = and_gate (net (suc (suc k))) site.partner in
    let one = puts_more a a b [] w1 undone k (puts_nothing a) p in
    let two = puts_more a b c (w1 ∷ []) w2 due (suc k) one.1 (subst (λ t. PutsNet b c (and_gate site.on t) due) one.0 q) in
    let three = puts_more a c d (w1 ∷ w2 ∷ []) w3 asserted (suc (suc k)) two.1 (subst (λ t. PutsNet c d (and_gate ready t) asserted) two.0 g) in
    let four = puts_more a d e (w1 ∷ w2 ∷ w3 ∷ []) w4 goes (suc (suc (suc k))) three.1 (subst (λ t. PutsNet d e (and_gate t site.partner) goes) three.0 h) in
    let behind : next_number e ≡ suc (suc (suc (suc k))) = four.1.next in
    let opened = subst (λ t. Puts e f (not_gate t ∷ or_gate (net (next_number e)) goes ∷ and_gate ready (net (suc (next_number e))) ∷ [])) two.0 rest in
    let gone = subst (λ t. Puts e f (not_gate (net (suc k)) ∷ or_gate (net (next_number e)) t ∷ and_gate ready (net (suc (next_number e))) ∷ [])) four.0 opened in
    let numbered = subst (λ n. Puts e f (not_gate (net (suc k)) ∷ or_gate (net n) (net (suc (suc (suc k)))) ∷ and_gate ready (net (suc n)) ∷ [])) behind gone in
    record {
      signals = λ i. record { asserted = three.0 i; goes = four.0 i; ready = (is ∙ ap (λ n. net (suc (suc n))) behind) i };
      puts = puts_both a e f (w1 ∷ w2 ∷ w3 ∷ w4 ∷ []) (not_gate (net (suc k)) ∷ or_gate (net (suc (suc (suc (suc k))))) (net (suc (suc (suc k)))) ∷ and_gate ready (net (suc (suc (suc (suc (suc k)))))) ∷ []) four.1.puts numbered;
    }

-- ---- one site behind another

-- what is so far put for the first sites of a stage, and what is left
pub record ChainLeft (a b : WireList) (acts ready : Atom) (sites : List Site) (i : ℕ) (old shaken : List Handshake) : Type 0 where
  pub signals : shaken ++ handshakes_from (next_number b) (drop i sites) ≡ old ++ handshakes_from (next_number a) sites
  pub number : next_number b + 7 * length (drop i sites) ≡ next_number a + 7 * length sites
  pub wired : (next : ℕ → ℕ) (j : ℕ) → AddsWires a b (λ v. AreSites v ready (nets_from (next_number b) next (j + i) (drop i sites)) → AreSites v acts (nets_from (next_number a) next j sites))
  pub passed : (next : ℕ → ℕ) (j : ℕ) → chain_ready ready (nets_from (next_number b) next (j + i) (drop i sites)) ≡ chain_ready acts (nets_from (next_number a) next j sites)

zero_behind : (j : ℕ) → j ≡ j + 0
zero_behind j = omega arith

one_behind : (j i : ℕ) → suc (j + i) ≡ j + (i + 1)
one_behind j i = omega arith

pub chain_begun : (a : WireList) (acts : Atom) (sites : List Site) (old : List Handshake) → ChainLeft a a acts acts sites 0 old old
chain_begun a acts sites old =
    record {
      signals = refl;
      number = refl;
      wired = λ next j v h. (h, subst (λ k. AreSites v acts (nets_from (next_number a) next k sites) → AreSites v acts (nets_from (next_number a) next j sites)) (zero_behind j) (λ x. x));
      passed = λ next j. ap (λ k. chain_ready acts (nets_from (next_number a) next k sites)) (sym (zero_behind j));
    }

pub chain_more : (a b c : WireList) (acts ready : Atom) (sites : List Site) (i : ℕ) (site : Site) (old shaken new : List Handshake) (handshake : Handshake) → i < length sites → site ≡ get_or sites i site
    → ChainLeft a b acts ready sites i old shaken → handshake ≡ handshake_at (next_number b) → Puts b c (site_wires (next_number b) ready (site_nets site (next_number b) 0)) → new ≡ shaken ++ handshake ∷ []
    → ChainLeft a c acts handshake.ready sites (i + 1) old new
chain_more a b c acts ready sites i site old shaken new handshake l is p signals put grown =
    let k = next_number b in
    let one : suc i ≡ i + 1 = omega arith in
    let behind : next_number c ≡ k + 7 = number_behind b c (site_wires k ready (site_nets site k 0)) put in
    let left : drop i sites ≡ site ∷ drop (i + 1) sites = drop-cons sites i site l ∙ ap (λ x. x ∷ drop (suc i) sites) (sym is) ∙ ap (λ n. site ∷ drop n sites) one in
    let ready_is : handshake.ready ≡ net (suc (suc (suc (suc (suc (suc k)))))) = ap (λ (s : Handshake). s.ready) signals in
    let fewer : length (drop i sites) ≡ suc (length (drop (i + 1) sites)) = ap length left in
    let so_far = p.number in
    let ahead : next_number c ≡ next_number b + 7 = behind in
    record {
      number = omega (arith, ahead, fewer, so_far);
      signals =
          ap (λ xs. xs ++ handshakes_from (next_number c) (drop (i + 1) sites)) grown
          ∙ append_assoc shaken (handshake ∷ []) (handshakes_from (next_number c) (drop (i + 1) sites))
          ∙ ap₂ (λ x n. shaken ++ x ∷ handshakes_from n (drop (i + 1) sites)) signals behind
          ∙ ap (λ xs. shaken ++ handshakes_from k xs) (sym left)
          ∙ p.signals;
      wired = λ next j v h.
          let later = put.wired v h in
          let sooner = p.wired next j v later.0 in (
            sooner.0,
            λ rest.
                let there = subst (λ n. AreSites v handshake.ready (nets_from n next (j + (i + 1)) (drop (i + 1) sites))) behind rest in
                let here = subst (λ t. AreSites v t (nets_from (k + 7) next (j + (i + 1)) (drop (i + 1) sites))) ready_is there in
                let from = subst (λ n. AreSites v (net (suc (suc (suc (suc (suc (suc k))))))) (nets_from (k + 7) next n (drop (i + 1) sites))) (sym (one_behind j i)) here in
                sooner.1 (subst (λ xs. AreSites v ready (nets_from k next (j + i) xs)) (sym left) (later.1, from)),
          );
      passed = λ next j.
          ap (λ n. chain_ready handshake.ready (nets_from n next (j + (i + 1)) (drop (i + 1) sites))) behind
          ∙ ap₂ (λ t n. chain_ready t (nets_from (k + 7) next n (drop (i + 1) sites))) ready_is (sym (one_behind j i))
          ∙ ap (λ xs. chain_ready ready (nets_from k next (j + i) xs)) (sym left)
          ∙ p.passed next j;
    }

none_behind : {A : Type 0} (xs : List A) (i : ℕ) → length xs ≤ i → drop i xs ≡ []
none_behind [] zero l = refl
none_behind [] (suc i) l = refl
none_behind (x ∷ xs) zero l = absurd (omega (arith, l))
none_behind (x ∷ xs) (suc i) l = none_behind xs i (omega (arith, l))

pub record Chained (a b : WireList) (acts ready : Atom) (sites : List Site) (old shaken : List Handshake) : Type 0 where
  pub signals : shaken ≡ old ++ handshakes_from (next_number a) sites
  pub number : next_number b ≡ next_number a + 7 * length sites
  pub wired : (next : ℕ → ℕ) (j : ℕ) → AddsWires a b (λ v. AreSites v acts (nets_from (next_number a) next j sites))
  pub passed : (next : ℕ → ℕ) (j : ℕ) → ready ≡ chain_ready acts (nets_from (next_number a) next j sites)

pub chain_done : (a b : WireList) (acts ready : Atom) (sites : List Site) (i : ℕ) (old shaken : List Handshake) → length sites ≤ i → ChainLeft a b acts ready sites i old shaken → Chained a b acts ready sites old shaken
chain_done a b acts ready sites i old shaken l p =
    let none : drop i sites ≡ [] = none_behind sites i l in
    let nothing : length (drop i sites) ≡ 0 = ap length none in
    let so_far = p.number in
    record {
      number = omega (arith, nothing, so_far);
      signals = sym (append-nil shaken) ∙ ap (λ xs. shaken ++ handshakes_from (next_number b) xs) (sym none) ∙ p.signals;
      wired = λ next j v h.
          let both = p.wired next j v h in
          (both.0, both.1 (subst (λ xs. AreSites v ready (nets_from (next_number b) next (j + i) xs)) (sym none) tt));
      passed = λ next j. ap (λ xs. chain_ready ready (nets_from (next_number b) next (j + i) xs)) (sym none) ∙ p.passed next j;
    }
