-- What is put for what registers hold next.
use Rattle.std.proofs.Common.{◌≡◌, ℕ, zero, suc, ◌+◌, ◌-◌, ◌<◌, ◌≤◌, Bool, true, false, cond, List, [], ◌∷◌, ◌++◌, length, drop, get_or, min, Result, Ok, Err, refl, sym, ap, ap₂, ◌∙◌, subst, arith}
use Rattle.std.specs.Prelude.{IfOk, OnOk}
use Rattle.std.proofs.Math.Seq.{drop-cons}
use Rattle.std.proofs.lemmas.List.{append_assoc, append-nil, length-append, drop_all}
use Rattle.vlog_tree.specs.declared.expression.Atom.{Atom}
use Rattle.ir_tree.specs.declared.node.Node.{Node}
use Rattle.ir_tree.specs.Types.{ty_of}
use Rattle.block_build.specs.declared.netlist.places.Place.{Place}
use Rattle.block_build.specs.declared.netlist.sites.Handshake.{Handshake}
use Rattle.block_build.specs.declared.netlist.sites.Site.{Site}
use Rattle.block_build.specs.declared.netlist.wires.WireList.{WireList}
use Rattle.block_build.specs.Netlist.Added.{next_number, Puts, PutsNet}
use Rattle.block_build.specs.Netlist.Choices.{choice_wires}
use Rattle.block_build.specs.Netlist.Gates.{net, not_gate, and_gate, or_gate, choice_gate}
use Rattle.block_build.specs.Netlist.Leaves.{leaf_widths, nets}
use Rattle.block_build.specs.Netlist.Nexts.{move_of, done_next_wires, kept_wires, kept_nets, site_next_wires, site_next_nets, site_next_count, sites_next_wires, sites_next_nets, copies_wires, is_literal, node_copies, nodes_copies}
use Rattle.block_build.specs.Netlist.Places.{place_at}
use Rattle.block_build.specs.Netlist.Wires.{Wire}
use Rattle.block_build.proofs.OnNetlist.OnAdded.{puts_both, number_behind, next_behind, puts_nothing, puts_more}
use Rattle.block_build.proofs.OnNetlist.OnRequests.{nothing_put}

-- ---- what is put so far, and what is left

pub record Left (a b : WireList) (wires whole : List Wire) (old nexts rest all : List Atom) : Type 0 where
  pub nexts_are : nexts ++ rest ≡ old ++ all
  pub put : (c : WireList) → Puts b c wires → Puts a c whole

pub nothing_left : (a : WireList) (whole : List Wire) (old all : List Atom) → Left a a whole whole old old all all
nothing_left a whole old all = record { nexts_are = refl; put = λ c p. p }

pub some_left : (a b c : WireList) (xs ys whole : List Wire) (old nexts more r s all : List Atom) → Left a b (xs ++ ys) whole old nexts (r ++ s) all → Puts b c xs → more ≡ nexts ++ r → Left a c ys whole old more s all
some_left a b c xs ys whole old nexts more r s all p put e = record {
  nexts_are = ap (λ ns. ns ++ s) e ∙ append_assoc nexts r s ∙ p.nexts_are;
  put = λ d q. p.put d (puts_both b c d xs ys put q);
}

pub all_put : (a b : WireList) (whole : List Wire) (old nexts all : List Atom) → Left a b [] whole old nexts [] all → (nexts ≡ old ++ all) × Puts a b whole
all_put a b whole old nexts all p = (sym (append-nil nexts) ∙ p.nexts_are, p.put b (nothing_put b))

-- where each wire that is put is one of what registers hold next
abbrev pub NetsLeft : WireList → WireList → List Wire → List Wire → List Atom → List Atom → Type 0
NetsLeft a b wires whole old nexts = Left a b wires whole old nexts (nets (next_number b) (length wires)) (nets (next_number a) (length whole))

nets_add : (k m n : ℕ) → nets k (m + n) ≡ nets k m ++ nets (k + m) n
nets_add k zero n =
    let none : 0 + n ≡ n = omega arith in
    let e : k ≡ k + 0 = omega arith in
    ap (nets k) none ∙ ap (λ i. nets i n) e
nets_add k (suc m) n =
    let some : suc m + n ≡ suc (m + n) = omega arith in
    let e : suc k + m ≡ k + suc m = omega arith in
    ap (nets k) some ∙ ap (λ xs. net k ∷ xs) (nets_add (suc k) m n ∙ ap (λ i. nets (suc k) m ++ nets i n) e)

pub nets_left : (a b c : WireList) (xs ys whole : List Wire) (old nexts more : List Atom) → NetsLeft a b (xs ++ ys) whole old nexts → Puts b c xs → more ≡ nexts ++ nets (next_number b) (length xs) → NetsLeft a c ys whole old more
nets_left a b c xs ys whole old nexts more p put e =
    let k = next_number b in
    let parts : nets k (length (xs ++ ys)) ≡ nets k (length xs) ++ nets (next_number c) (length ys) =
    ap (nets k) (length-append xs ys) ∙ nets_add k (length xs) (length ys) ∙ ap (λ n. nets k (length xs) ++ nets n (length ys)) (sym (number_behind b c xs put)) in
    some_left a b c xs ys whole old nexts more (nets k (length xs)) (nets (next_number c) (length ys)) (nets (next_number a) (length whole))
    (subst (λ ns. Left a b (xs ++ ys) whole old nexts ns (nets (next_number a) (length whole))) parts p) put e

-- ---- one site

pub done_put : {E : Type 0} (o : Result Atom E) (a b c d : WireList) (done goes moves acts stays : Atom) → PutsNet a b (or_gate done goes) acts → PutsNet b c (not_gate moves) stays → IfOk o (PutsNet c d (and_gate acts stays))
    → IfOk o (λ next. next ≡ net (suc (suc (next_number a)))) × OnOk o (Puts a d (done_next_wires (next_number a) done goes moves))
done_put (Ok r) a b c d done goes moves acts stays p q g =
    let k = next_number a in
    let one = puts_more a a b [] (or_gate done goes) acts k (puts_nothing a) p in
    let two = puts_more a b c (or_gate done goes ∷ []) (not_gate moves) stays (suc k) one.1 q in
    let read = subst (λ t. PutsNet c d (and_gate (net k) t) r) two.0 (subst (λ t. PutsNet c d (and_gate t stays) r) one.0 g) in
    let three = puts_more a c d (or_gate done goes ∷ not_gate moves ∷ []) (and_gate (net k) (net (suc k))) r (suc (suc k)) two.1 read in
    (three.0, three.1.puts)
done_put (Err z) a b c d done goes moves acts stays p q g = (tt, tt)

pub record KeptNext (a b : WireList) (site : Site) (goes : Atom) (old new : List Atom) : Type 0 where
  pub nexts_are : new ≡ old ++ kept_nets (next_number a) site
  pub puts : Puts a b (kept_wires site goes)

pub sent_keeps_nothing : (a : WireList) (site : Site) (goes : Atom) (old : List Atom) → site.sends ≡ true → KeptNext a a site goes old old
sent_keeps_nothing a site goes old e = record {
  nexts_are = sym (append-nil old) ∙ ap (λ t. old ++ cond t [] (net (next_number a) ∷ [])) (sym e);
  puts = subst (λ t. Puts a a (cond t [] (choice_gate site.width goes site.word site.kept ∷ []))) (sym e) (nothing_put a);
}

pub received_keeps : (a b : WireList) (site : Site) (goes kept : Atom) (old new : List Atom) → site.sends ≡ false → PutsNet a b (choice_gate site.width goes site.word site.kept) kept → new ≡ old ++ kept ∷ [] → KeptNext a b site goes old new
received_keeps a b site goes kept old new e p grown = record {
  nexts_are = grown ∙ ap (λ x. old ++ x ∷ []) p.number ∙ ap (λ t. old ++ cond t [] (net (next_number a) ∷ [])) (sym e);
  puts = subst (λ t. Puts a b (cond t [] (choice_gate site.width goes site.word site.kept ∷ []))) (sym e) p.puts;
}

pub site_put : {A E : Type 0} (o : Result A E) (a b c : WireList) (site : Site) (goes moves done : Atom) (old mid new : List Atom) → done ≡ net (suc (suc (next_number a))) → Puts a b (done_next_wires (next_number a) site.done goes moves) → mid ≡ old ++ done ∷ []
    → OnOk o (new ≡ mid ++ kept_nets (next_number b) site) → OnOk o (Puts b c (kept_wires site goes))
    → OnOk o (new ≡ old ++ site_next_nets (next_number a) site) × OnOk o (Puts a c (site_next_wires (next_number a) site goes moves))
site_put (Ok r) a b c site goes moves done old mid new done_is p grown kept q =
    let k = next_number a in
    let behind : next_number b ≡ suc (suc (suc k)) = number_behind a b (done_next_wires k site.done goes moves) p ∙ three k in (
      kept
          ∙ ap₂ (λ xs n. xs ++ kept_nets n site) (grown ∙ ap (λ x. old ++ x ∷ []) done_is) behind
          ∙ append_assoc old (net (suc (suc k)) ∷ []) (kept_nets (suc (suc (suc k))) site),
      puts_both a b c (done_next_wires k site.done goes moves) (kept_wires site goes) p q,
    )
  where
    three : (n : ℕ) → n + 3 ≡ suc (suc (suc n))
    three n = omega arith
site_put (Err z) a b c site goes moves done old mid new done_is p grown kept q = (tt, tt)

-- ---- all sites

pub site_long : (k : ℕ) (site : Site) (goes moves : Atom) → length (site_next_wires k site goes moves) ≡ site_next_count site
site_long k site goes moves = go site.sends
  where
    go : (t : Bool) → suc (suc (suc (length (cond t [] (choice_gate site.width goes site.word site.kept ∷ []))))) ≡ cond t 3 4
    go true = refl
    go false = refl

abbrev pub SitesLeft : WireList → WireList → List Atom → List Site → List Handshake → ℕ → List Atom → List Atom → Type 0
SitesLeft a b moves sites shaken i old nexts =
    Left a b (sites_next_wires (next_number b) moves (drop i sites) (drop i shaken)) (sites_next_wires (next_number a) moves sites shaken) old nexts
    (sites_next_nets (next_number b) (drop i sites) (drop i shaken)) (sites_next_nets (next_number a) sites shaken)

pub sites_more : (a b c : WireList) (moves : List Atom) (sites : List Site) (shaken : List Handshake) (i : ℕ) (old nexts more : List Atom) (site : Site) (handshake : Handshake) (leaves : Atom) → i < length sites → i < length shaken
    → site ≡ get_or sites i site → handshake ≡ get_or shaken i handshake → leaves ≡ move_of moves site.stage → SitesLeft a b moves sites shaken i old nexts
    → more ≡ nexts ++ site_next_nets (next_number b) site → Puts b c (site_next_wires (next_number b) site handshake.goes leaves) → SitesLeft a c moves sites shaken (i + 1) old more
sites_more a b c moves sites shaken i old nexts more site handshake leaves l m site_is handshake_is leaves_is p grown put =
    let k = next_number b in
    let one : suc i ≡ i + 1 = omega arith in
    let sites_left : drop i sites ≡ site ∷ drop (i + 1) sites = drop-cons sites i site l ∙ ap (λ x. x ∷ drop (suc i) sites) (sym site_is) ∙ ap (λ n. site ∷ drop n sites) one in
    let shaken_left : drop i shaken ≡ handshake ∷ drop (i + 1) shaken = drop-cons shaken i handshake m ∙ ap (λ x. x ∷ drop (suc i) shaken) (sym handshake_is) ∙ ap (λ n. handshake ∷ drop n shaken) one in
    let here = subst (λ t. Puts b c (site_next_wires k site handshake.goes t)) leaves_is put in
    let behind : next_number c ≡ k + site_next_count site =
    number_behind b c (site_next_wires k site handshake.goes (move_of moves site.stage)) here ∙ ap (λ n. k + n) (site_long k site handshake.goes (move_of moves site.stage)) in
    let whole_wires = sites_next_wires (next_number a) moves sites shaken in
    let whole_nets = sites_next_nets (next_number a) sites shaken in
    let there = subst (λ xs. Left a b (sites_next_wires k moves xs (drop i shaken)) whole_wires old nexts (sites_next_nets k xs (drop i shaken)) whole_nets) sites_left p in
    let both = subst (λ hs. Left a b (sites_next_wires k moves (site ∷ drop (i + 1) sites) hs) whole_wires old nexts (sites_next_nets k (site ∷ drop (i + 1) sites) hs) whole_nets) shaken_left there in
    let left = some_left a b c (site_next_wires k site handshake.goes (move_of moves site.stage)) (sites_next_wires (k + site_next_count site) moves (drop (i + 1) sites) (drop (i + 1) shaken)) whole_wires old nexts more
    (site_next_nets k site) (sites_next_nets (k + site_next_count site) (drop (i + 1) sites) (drop (i + 1) shaken)) whole_nets both here grown in
    subst (λ n. Left a c (sites_next_wires n moves (drop (i + 1) sites) (drop (i + 1) shaken)) whole_wires old more (sites_next_nets n (drop (i + 1) sites) (drop (i + 1) shaken)) whole_nets) (sym behind) left

no_hands : (moves : List Atom) (xs : List Site) (k : ℕ) → sites_next_wires k moves xs [] ≡ []
no_hands moves [] k = refl
no_hands moves (x ∷ xs) k = refl

no_nets : (xs : List Site) (k : ℕ) → sites_next_nets k xs [] ≡ []
no_nets [] k = refl
no_nets (x ∷ xs) k = refl

pub sites_done : (a b : WireList) (moves : List Atom) (sites : List Site) (shaken : List Handshake) (i : ℕ) (old nexts : List Atom) → min (length sites) (length shaken) ≤ i → SitesLeft a b moves sites shaken i old nexts
    → (nexts ≡ old ++ sites_next_nets (next_number a) sites shaken) × Puts a b (sites_next_wires (next_number a) moves sites shaken)
sites_done a b moves sites shaken i old nexts l p =
    let k = next_number b in
    let whole_wires = sites_next_wires (next_number a) moves sites shaken in
    let whole_nets = sites_next_nets (next_number a) sites shaken in
    let none = none_left sites shaken i l in
    all_put a b whole_wires old nexts whole_nets
    (subst (λ ns. Left a b [] whole_wires old nexts ns whole_nets) (none.1 k) (subst (λ ws. Left a b ws whole_wires old nexts (sites_next_nets k (drop i sites) (drop i shaken)) whole_nets) (none.0 k) p))
  where
    none_left : (xs : List Site) (hs : List Handshake) (i : ℕ) → min (length xs) (length hs) ≤ i
        → ((k : ℕ) → sites_next_wires k moves (drop i xs) (drop i hs) ≡ []) × ((k : ℕ) → sites_next_nets k (drop i xs) (drop i hs) ≡ [])
    none_left [] hs zero l = (λ k. refl, λ k. refl)
    none_left [] hs (suc i) l = (λ k. refl, λ k. refl)
    none_left (x ∷ xs) [] zero l = (λ k. refl, λ k. refl)
    none_left (x ∷ xs) [] (suc i) l = (λ k. no_hands moves (drop i xs) k, λ k. no_nets (drop i xs) k)
    none_left (x ∷ xs) (h ∷ hs) zero l = absurd (omega (arith, l))
    none_left (x ∷ xs) (h ∷ hs) (suc i) l = none_left xs hs i (omega (arith, l))

-- ---- copies

abbrev pub CopiesLeft : WireList → WireList → List ℕ → Place → List Atom → ℕ → ℕ → List Atom → List Atom → Type 0
CopiesLeft a b ws place moves last j old nexts = NetsLeft a b (copies_wires ws place moves j (last - j)) (copies_wires ws place moves place.stage (last - place.stage)) old nexts

pub copies_more : (a b c : WireList) (ws : List ℕ) (place : Place) (moves : List Atom) (last j : ℕ) (old nexts more : List Atom) (leaves : Atom) → j < last → leaves ≡ move_of moves j → CopiesLeft a b ws place moves last j old nexts
    → more ≡ nexts ++ nets (next_number b) (length (choice_wires leaves ws (place_at j place) (place_at (suc j) place))) → Puts b c (choice_wires leaves ws (place_at j place) (place_at (suc j) place)) → CopiesLeft a c ws place moves last (j + 1) old more
copies_more a b c ws place moves last j old nexts more leaves l leaves_is p grown put =
    let one : suc j ≡ j + 1 = omega arith in
    let some : last - j ≡ suc (last - (j + 1)) = omega (arith, l) in
    let here = choice_wires (move_of moves j) ws (place_at j place) (place_at (suc j) place) in
    let whole = copies_wires ws place moves place.stage (last - place.stage) in
    let before = subst (λ n. NetsLeft a b (copies_wires ws place moves j n) whole old nexts) some p in
    let there = subst (λ t. Puts b c (choice_wires t ws (place_at j place) (place_at (suc j) place))) leaves_is put in
    let nets_there = grown ∙ ap (λ t. nexts ++ nets (next_number b) (length (choice_wires t ws (place_at j place) (place_at (suc j) place)))) leaves_is in
    subst (λ n. NetsLeft a c (copies_wires ws place moves n (last - (j + 1))) whole old more) one
    (nets_left a b c here (copies_wires ws place moves (suc j) (last - (j + 1))) whole old nexts more before there nets_there)

pub copies_done : (a b : WireList) (ws : List ℕ) (place : Place) (moves : List Atom) (last j : ℕ) (old nexts : List Atom) → last ≤ j → CopiesLeft a b ws place moves last j old nexts
    → (nexts ≡ old ++ nets (next_number a) (length (copies_wires ws place moves place.stage (last - place.stage)))) × Puts a b (copies_wires ws place moves place.stage (last - place.stage))
copies_done a b ws place moves last j old nexts l p =
    let none : last - j ≡ 0 = omega (arith, l) in
    let whole = copies_wires ws place moves place.stage (last - place.stage) in
    all_put a b whole old nexts (nets (next_number a) (length whole)) (subst (λ n. NetsLeft a b (copies_wires ws place moves j n) whole old nexts) none p)

-- ---- nodes

pub record NodePut (a b : WireList) (moves : List Atom) (n : Node) (place : Place) (last : ℕ) (old new : List Atom) : Type 0 where
  pub nexts_are : new ≡ old ++ nets (next_number a) (length (node_copies moves n place last))
  pub puts : Puts a b (node_copies moves n place last)

pub literal_put : (a : WireList) (moves : List Atom) (n : Node) (place : Place) (last : ℕ) (old : List Atom) → is_literal n.attributes ≡ true → NodePut a a moves n place last old old
literal_put a moves n place last old e =
    let none : [] ≡ node_copies moves n place last = ap (λ t. cond t [] (copies_wires (leaf_widths (ty_of n.ty)) place moves place.stage (last - place.stage))) (sym e) in
    record {
      nexts_are = sym (append-nil old) ∙ ap (λ (ws : List Wire). old ++ nets (next_number a) (length ws)) none;
      puts = subst (Puts a a) none (nothing_put a);
    }

pub value_put : {A E : Type 0} (o : Result A E) (a b : WireList) (moves : List Atom) (n : Node) (place : Place) (last : ℕ) (ws : List ℕ) (old new : List Atom) → is_literal n.attributes ≡ false → ws ≡ leaf_widths (ty_of n.ty)
    → OnOk o (new ≡ old ++ nets (next_number a) (length (copies_wires ws place moves place.stage (last - place.stage)))) → OnOk o (Puts a b (copies_wires ws place moves place.stage (last - place.stage)))
    → OnOk o (new ≡ old ++ nets (next_number a) (length (node_copies moves n place last))) × OnOk o (Puts a b (node_copies moves n place last))
value_put (Ok r) a b moves n place last ws old new e widths grown put =
    let all : copies_wires ws place moves place.stage (last - place.stage) ≡ node_copies moves n place last =
    ap (λ us. copies_wires us place moves place.stage (last - place.stage)) widths ∙ ap (λ t. cond t [] (copies_wires (leaf_widths (ty_of n.ty)) place moves place.stage (last - place.stage))) (sym e) in
    (grown ∙ ap (λ (us : List Wire). old ++ nets (next_number a) (length us)) all, subst (Puts a b) all put)
value_put (Err z) a b moves n place last ws old new e widths grown put = (tt, tt)

abbrev pub NodesLeft : WireList → WireList → List Atom → List Node → List Place → List ℕ → ℕ → List Atom → List Atom → Type 0
NodesLeft a b moves nodes places lasts i old nexts = NetsLeft a b (nodes_copies moves (drop i nodes) (drop i places) (drop i lasts)) (nodes_copies moves nodes places lasts) old nexts

pub nodes_more : (a b c : WireList) (moves : List Atom) (nodes : List Node) (places : List Place) (lasts : List ℕ) (i : ℕ) (old nexts more : List Atom) (n : Node) (place : Place) → i < length nodes → i < length places → i < length lasts
    → n ≡ get_or nodes i n → place ≡ get_or places i place → NodesLeft a b moves nodes places lasts i old nexts → more ≡ nexts ++ nets (next_number b) (length (node_copies moves n place (get_or lasts i 0)))
    → Puts b c (node_copies moves n place (get_or lasts i 0)) → NodesLeft a c moves nodes places lasts (i + 1) old more
nodes_more a b c moves nodes places lasts i old nexts more n place l m o n_is place_is p grown put =
    let one : suc i ≡ i + 1 = omega arith in
    let last = get_or lasts i 0 in
    let whole = nodes_copies moves nodes places lasts in
    let nodes_left : drop i nodes ≡ n ∷ drop (i + 1) nodes = drop-cons nodes i n l ∙ ap (λ x. x ∷ drop (suc i) nodes) (sym n_is) ∙ ap (λ k. n ∷ drop k nodes) one in
    let places_left : drop i places ≡ place ∷ drop (i + 1) places = drop-cons places i place m ∙ ap (λ x. x ∷ drop (suc i) places) (sym place_is) ∙ ap (λ k. place ∷ drop k places) one in
    let lasts_left : drop i lasts ≡ last ∷ drop (i + 1) lasts = drop-cons lasts i 0 o ∙ ap (λ k. last ∷ drop k lasts) one in
    let all : nodes_copies moves (drop i nodes) (drop i places) (drop i lasts) ≡ node_copies moves n place last ++ nodes_copies moves (drop (i + 1) nodes) (drop (i + 1) places) (drop (i + 1) lasts) =
    ap₂ (λ xs ys. nodes_copies moves xs ys (drop i lasts)) nodes_left places_left ∙ ap (nodes_copies moves (n ∷ drop (i + 1) nodes) (place ∷ drop (i + 1) places)) lasts_left in
    nets_left a b c (node_copies moves n place last) (nodes_copies moves (drop (i + 1) nodes) (drop (i + 1) places) (drop (i + 1) lasts)) whole old nexts more (subst (λ ws. NetsLeft a b ws whole old nexts) all p) put grown

no_places : (moves : List Atom) (xs : List Node) (zs : List ℕ) → nodes_copies moves xs [] zs ≡ []
no_places moves [] zs = refl
no_places moves (x ∷ xs) zs = refl

no_lasts : (moves : List Atom) (xs : List Node) (ys : List Place) → nodes_copies moves xs ys [] ≡ []
no_lasts moves [] ys = refl
no_lasts moves (x ∷ xs) [] = refl
no_lasts moves (x ∷ xs) (y ∷ ys) = refl

pub nodes_done : (a b : WireList) (moves : List Atom) (nodes : List Node) (places : List Place) (lasts : List ℕ) (i : ℕ) (old nexts : List Atom) → min (min (length nodes) (length places)) (length lasts) ≤ i → NodesLeft a b moves nodes places lasts i old nexts
    → (nexts ≡ old ++ nets (next_number a) (length (nodes_copies moves nodes places lasts))) × Puts a b (nodes_copies moves nodes places lasts)
nodes_done a b moves nodes places lasts i old nexts l p =
    let whole = nodes_copies moves nodes places lasts in
    all_put a b whole old nexts (nets (next_number a) (length whole)) (subst (λ ws. NetsLeft a b ws whole old nexts) (none_left nodes places lasts i l) p)
  where
    none_left : (xs : List Node) (ys : List Place) (zs : List ℕ) (i : ℕ) → min (min (length xs) (length ys)) (length zs) ≤ i → nodes_copies moves (drop i xs) (drop i ys) (drop i zs) ≡ []
    none_left [] ys zs zero l = refl
    none_left [] ys zs (suc i) l = refl
    none_left (x ∷ xs) [] zs zero l = refl
    none_left (x ∷ xs) [] zs (suc i) l = no_places moves (drop i xs) (drop (suc i) zs)
    none_left (x ∷ xs) (y ∷ ys) [] zero l = refl
    none_left (x ∷ xs) (y ∷ ys) [] (suc i) l = no_lasts moves (drop i xs) (drop i ys)
    none_left (x ∷ xs) (y ∷ ys) (z ∷ zs) zero l = absurd (omega (arith, l))
    none_left (x ∷ xs) (y ∷ ys) (z ∷ zs) (suc i) l = none_left xs ys zs i (omega (arith, l))
