-- What is put for the ends of channels.
use Rattle.std.proofs.Common.{◌≡◌, ℕ, zero, suc, ◌+◌, ◌<◌, ◌≤◌, min, List, [], ◌∷◌, ◌++◌, length, drop, get_or, Bool, true, false, cond, Result, Ok, Err, refl, sym, ap, ap₂, ◌∙◌, subst, arith}
use Rattle.std.specs.Prelude.{IfOk, OnOk}
use Rattle.std.proofs.Math.Seq.{drop-cons}
use Rattle.std.proofs.lemmas.List.{append-nil}
use Rattle.vlog_tree.specs.declared.expression.Atom.{Atom}
use Rattle.block_build.specs.declared.netlist.sites.Handshake.{Handshake}
use Rattle.block_build.specs.declared.netlist.sites.Site.{Site}
use Rattle.block_build.specs.declared.netlist.wires.WireList.{WireList}
use Rattle.block_build.specs.Netlist.Added.{next_number, Puts, PutsNet}
use Rattle.block_build.specs.Netlist.Ends.{RequestNets, some_wires, some_net, word_wires, word_net}
use Rattle.block_build.specs.Netlist.Gates.{net, or_gate, choice_gate}
use Rattle.block_build.specs.Netlist.Requests.{is_end, request_of, requests_at}
use Rattle.block_build.proofs.OnNetlist.OnAdded.{puts, puts_both, number_behind}

-- an element, whatever stands for one that isn't there
pub get_same : {A : Type 0} (xs : List A) (i : ℕ) (d e : A) → i < length xs → get_or xs i d ≡ get_or xs i e
get_same [] i d e l = absurd (omega (arith, l))
get_same (x ∷ xs) zero d e l = refl
get_same (x ∷ xs) (suc i) d e l = get_same xs i d e (omega (arith, l))

-- ---- one site

requests_there : (chan : ℕ) (sends : Bool) (site : Site) (handshake : Handshake) → is_end chan sends site ≡ true → requests_at chan sends (site ∷ []) (handshake ∷ []) ≡ request_of site handshake ∷ []
requests_there chan sends site handshake e = ap (λ t. cond t (request_of site handshake ∷ []) []) e

requests_apart : (chan : ℕ) (sends : Bool) (site : Site) (handshake : Handshake) → is_end chan sends site ≡ false → requests_at chan sends (site ∷ []) (handshake ∷ []) ≡ []
requests_apart chan sends site handshake e = ap (λ t. cond t (request_of site handshake ∷ []) []) e

pub nothing_put : (a : WireList) → Puts a a []
nothing_put a = puts a a [] refl (sym (append-nil a.wires.items))

pub some_there : {E : Type 0} (o : Result Atom E) (a b : WireList) (chan : ℕ) (sends : Bool) (some : Atom) (site : Site) (handshake : Handshake) → is_end chan sends site ≡ true → IfOk o (PutsNet a b (or_gate some handshake.asserted))
    → IfOk o (λ more. more ≡ some_net (next_number a) some (requests_at chan sends (site ∷ []) (handshake ∷ []))) × OnOk o (Puts a b (some_wires (next_number a) some (requests_at chan sends (site ∷ []) (handshake ∷ []))))
some_there (Ok r) a b chan sends some site handshake e p =
    let there = sym (requests_there chan sends site handshake e) in
    (p.number ∙ ap (some_net (next_number a) some) there, subst (λ rs. Puts a b (some_wires (next_number a) some rs)) there p.puts)
some_there (Err z) a b chan sends some site handshake e p = (tt, tt)

pub some_apart : (a : WireList) (chan : ℕ) (sends : Bool) (some : Atom) (site : Site) (handshake : Handshake) → is_end chan sends site ≡ false
    → (some ≡ some_net (next_number a) some (requests_at chan sends (site ∷ []) (handshake ∷ []))) × Puts a a (some_wires (next_number a) some (requests_at chan sends (site ∷ []) (handshake ∷ [])))
some_apart a chan sends some site handshake e =
    let none = sym (requests_apart chan sends site handshake e) in
    (ap (some_net (next_number a) some) none, subst (λ rs. Puts a a (some_wires (next_number a) some rs)) none (nothing_put a))

pub word_there : {E : Type 0} (o : Result Atom E) (a b : WireList) (chan width : ℕ) (word : Atom) (site : Site) (handshake : Handshake) → is_end chan true site ≡ true → IfOk o (PutsNet a b (choice_gate width handshake.asserted site.own word))
    → IfOk o (λ more. more ≡ word_net (next_number a) word (requests_at chan true (site ∷ []) (handshake ∷ []))) × OnOk o (Puts a b (word_wires width (next_number a) word (requests_at chan true (site ∷ []) (handshake ∷ []))))
word_there (Ok r) a b chan width word site handshake e p =
    let there = sym (requests_there chan true site handshake e) in
    (p.number ∙ ap (word_net (next_number a) word) there, subst (λ rs. Puts a b (word_wires width (next_number a) word rs)) there p.puts)
word_there (Err z) a b chan width word site handshake e p = (tt, tt)

pub word_apart : (a : WireList) (chan width : ℕ) (word : Atom) (site : Site) (handshake : Handshake) → is_end chan true site ≡ false
    → (word ≡ word_net (next_number a) word (requests_at chan true (site ∷ []) (handshake ∷ []))) × Puts a a (word_wires width (next_number a) word (requests_at chan true (site ∷ []) (handshake ∷ [])))
word_apart a chan width word site handshake e =
    let none = sym (requests_apart chan true site handshake e) in
    (ap (word_net (next_number a) word) none, subst (λ rs. Puts a a (word_wires width (next_number a) word rs)) none (nothing_put a))

-- ---- one behind another

-- the requests of the first site and of the rest
requests_cons : (chan : ℕ) (sends : Bool) (site : Site) (sites : List Site) (handshake : Handshake) (shaken : List Handshake)
    → requests_at chan sends (site ∷ sites) (handshake ∷ shaken) ≡ requests_at chan sends (site ∷ []) (handshake ∷ []) ++ requests_at chan sends sites shaken
requests_cons chan sends site sites handshake shaken = go (is_end chan sends site)
  where
    go : (t : Bool) → cond t (request_of site handshake ∷ requests_at chan sends sites shaken) (requests_at chan sends sites shaken) ≡ cond t (request_of site handshake ∷ []) [] ++ requests_at chan sends sites shaken
    go true = refl
    go false = refl

some-append : (k : ℕ) (some : Atom) (rs qs : List RequestNets) → some_wires k some (rs ++ qs) ≡ some_wires k some rs ++ some_wires (k + length (some_wires k some rs)) (some_net k some rs) qs
some-append k some [] qs = let e : k ≡ k + 0 = omega arith in ap (λ n. some_wires n some qs) e
some-append k some (r ∷ rs) qs =
    let e : suc k + length (some_wires (suc k) (net k) rs) ≡ k + suc (length (some_wires (suc k) (net k) rs)) = omega arith in
    ap (λ ws. or_gate some r.ask ∷ ws) (some-append (suc k) (net k) rs qs ∙ ap (λ n. some_wires (suc k) (net k) rs ++ some_wires n (some_net (suc k) (net k) rs) qs) e)

some_net-append : (k : ℕ) (some : Atom) (rs qs : List RequestNets) → some_net k some (rs ++ qs) ≡ some_net (k + length (some_wires k some rs)) (some_net k some rs) qs
some_net-append k some [] qs = let e : k ≡ k + 0 = omega arith in ap (λ n. some_net n some qs) e
some_net-append k some (r ∷ rs) qs =
    let e : suc k + length (some_wires (suc k) (net k) rs) ≡ k + suc (length (some_wires (suc k) (net k) rs)) = omega arith in
    some_net-append (suc k) (net k) rs qs ∙ ap (λ n. some_net n (some_net (suc k) (net k) rs) qs) e

word-append : (width k : ℕ) (word : Atom) (rs qs : List RequestNets) → word_wires width k word (rs ++ qs) ≡ word_wires width k word rs ++ word_wires width (k + length (word_wires width k word rs)) (word_net k word rs) qs
word-append width k word [] qs = let e : k ≡ k + 0 = omega arith in ap (λ n. word_wires width n word qs) e
word-append width k word (r ∷ rs) qs =
    let e : suc k + length (word_wires width (suc k) (net k) rs) ≡ k + suc (length (word_wires width (suc k) (net k) rs)) = omega arith in
    ap (λ ws. choice_gate width r.ask r.word word ∷ ws) (word-append width (suc k) (net k) rs qs ∙ ap (λ n. word_wires width (suc k) (net k) rs ++ word_wires width n (word_net (suc k) (net k) rs) qs) e)

word_net-append : (width k : ℕ) (word : Atom) (rs qs : List RequestNets) → word_net k word (rs ++ qs) ≡ word_net (k + length (word_wires width k word rs)) (word_net k word rs) qs
word_net-append width k word [] qs = let e : k ≡ k + 0 = omega arith in ap (λ n. word_net n word qs) e
word_net-append width k word (r ∷ rs) qs =
    let e : suc k + length (word_wires width (suc k) (net k) rs) ≡ k + suc (length (word_wires width (suc k) (net k) rs)) = omega arith in
    word_net-append width (suc k) (net k) rs qs ∙ ap (λ n. word_net n (word_net (suc k) (net k) rs) qs) e

-- what is put so far, and what is left
pub record SomeLeft (a b : WireList) (chan : ℕ) (sends : Bool) (sites : List Site) (shaken : List Handshake) (i : ℕ) (zeros some : Atom) : Type 0 where
  pub signal : some_net (next_number b) some (requests_at chan sends (drop i sites) (drop i shaken)) ≡ some_net (next_number a) zeros (requests_at chan sends sites shaken)
  pub put : (c : WireList) → Puts b c (some_wires (next_number b) some (requests_at chan sends (drop i sites) (drop i shaken))) → Puts a c (some_wires (next_number a) zeros (requests_at chan sends sites shaken))

pub some_begun : (a : WireList) (chan : ℕ) (sends : Bool) (sites : List Site) (shaken : List Handshake) (zeros : Atom) → SomeLeft a a chan sends sites shaken 0 zeros zeros
some_begun a chan sends sites shaken zeros = record { signal = refl; put = λ c p. p }

left_requests : (chan : ℕ) (sends : Bool) (sites : List Site) (shaken : List Handshake) (i : ℕ) (site : Site) (handshake : Handshake) → i < length sites → i < length shaken → site ≡ get_or sites i site → handshake ≡ get_or shaken i handshake
    → requests_at chan sends (drop i sites) (drop i shaken) ≡ requests_at chan sends (site ∷ []) (handshake ∷ []) ++ requests_at chan sends (drop (i + 1) sites) (drop (i + 1) shaken)
left_requests chan sends sites shaken i site handshake l m e f =
    let one : suc i ≡ i + 1 = omega arith in
    ap₂ (requests_at chan sends) (drop-cons sites i site l ∙ ap (λ x. x ∷ drop (suc i) sites) (sym e) ∙ ap (λ n. site ∷ drop n sites) one)
    (drop-cons shaken i handshake m ∙ ap (λ x. x ∷ drop (suc i) shaken) (sym f) ∙ ap (λ n. handshake ∷ drop n shaken) one)
    ∙ requests_cons chan sends site (drop (i + 1) sites) handshake (drop (i + 1) shaken)

pub some_step : (a b c : WireList) (chan : ℕ) (sends : Bool) (sites : List Site) (shaken : List Handshake) (i : ℕ) (zeros some more : Atom) (site : Site) (handshake : Handshake) → i < length sites → i < length shaken
    → site ≡ get_or sites i site → handshake ≡ get_or shaken i handshake → SomeLeft a b chan sends sites shaken i zeros some
    → more ≡ some_net (next_number b) some (requests_at chan sends (site ∷ []) (handshake ∷ [])) → Puts b c (some_wires (next_number b) some (requests_at chan sends (site ∷ []) (handshake ∷ [])))
    → SomeLeft a c chan sends sites shaken (i + 1) zeros more
some_step a b c chan sends sites shaken i zeros some more site handshake l m e f p is put =
    let k = next_number b in
    let here = requests_at chan sends (site ∷ []) (handshake ∷ []) in
    let rest = requests_at chan sends (drop (i + 1) sites) (drop (i + 1) shaken) in
    let left = left_requests chan sends sites shaken i site handshake l m e f in
    let behind = number_behind b c (some_wires k some here) put in
    record {
      signal =
          ap₂ (λ n t. some_net n t rest) behind is ∙ sym (some_net-append k some here rest) ∙ ap (some_net k some) (sym left) ∙ p.signal;
      put = λ d q.
          let there = subst (λ t. Puts c d (some_wires (next_number c) t rest)) is q in
          let numbered = subst (λ n. Puts c d (some_wires n (some_net k some here) rest)) behind there in
          let both = puts_both b c d (some_wires k some here) (some_wires (k + length (some_wires k some here)) (some_net k some here) rest) put numbered in
          p.put d (subst (λ rs. Puts b d (some_wires k some rs)) (sym left) (subst (Puts b d) (sym (some-append k some here rest)) both));
    }

-- where one of the lists has ended
none_left : (chan : ℕ) (sends : Bool) (sites : List Site) (shaken : List Handshake) (i : ℕ) → min (length sites) (length shaken) ≤ i → requests_at chan sends (drop i sites) (drop i shaken) ≡ []
none_left chan sends [] shaken zero l = refl
none_left chan sends [] shaken (suc i) l = refl
none_left chan sends (site ∷ sites) [] zero l = refl
none_left chan sends (site ∷ sites) [] (suc i) l = ending (drop i sites)
  where
    ending : (sites : List Site) → requests_at chan sends sites [] ≡ []
    ending [] = refl
    ending (site ∷ sites) = refl
none_left chan sends (site ∷ sites) (handshake ∷ shaken) zero l = absurd (omega (arith, l))
none_left chan sends (site ∷ sites) (handshake ∷ shaken) (suc i) l = none_left chan sends sites shaken i (omega (arith, l))

pub some_done : (a b : WireList) (chan : ℕ) (sends : Bool) (sites : List Site) (shaken : List Handshake) (i : ℕ) (zeros some : Atom) → min (length sites) (length shaken) ≤ i → SomeLeft a b chan sends sites shaken i zeros some
    → (some ≡ some_net (next_number a) zeros (requests_at chan sends sites shaken)) × Puts a b (some_wires (next_number a) zeros (requests_at chan sends sites shaken))
some_done a b chan sends sites shaken i zeros some l p =
    let none = none_left chan sends sites shaken i l in
    (ap (some_net (next_number b) some) (sym none) ∙ p.signal, p.put b (subst (λ rs. Puts b b (some_wires (next_number b) some rs)) (sym none) (nothing_put b)))

pub record WordLeft (a b : WireList) (chan width : ℕ) (sites : List Site) (shaken : List Handshake) (i : ℕ) (zeros word : Atom) : Type 0 where
  pub signal : word_net (next_number b) word (requests_at chan true (drop i sites) (drop i shaken)) ≡ word_net (next_number a) zeros (requests_at chan true sites shaken)
  pub put : (c : WireList) → Puts b c (word_wires width (next_number b) word (requests_at chan true (drop i sites) (drop i shaken))) → Puts a c (word_wires width (next_number a) zeros (requests_at chan true sites shaken))

pub word_begun : (a : WireList) (chan width : ℕ) (sites : List Site) (shaken : List Handshake) (zeros : Atom) → WordLeft a a chan width sites shaken 0 zeros zeros
word_begun a chan width sites shaken zeros = record { signal = refl; put = λ c p. p }

pub word_step : (a b c : WireList) (chan width : ℕ) (sites : List Site) (shaken : List Handshake) (i : ℕ) (zeros word more : Atom) (site : Site) (handshake : Handshake) → i < length sites → i < length shaken
    → site ≡ get_or sites i site → handshake ≡ get_or shaken i handshake → WordLeft a b chan width sites shaken i zeros word
    → more ≡ word_net (next_number b) word (requests_at chan true (site ∷ []) (handshake ∷ [])) → Puts b c (word_wires width (next_number b) word (requests_at chan true (site ∷ []) (handshake ∷ [])))
    → WordLeft a c chan width sites shaken (i + 1) zeros more
word_step a b c chan width sites shaken i zeros word more site handshake l m e f p is put =
    let k = next_number b in
    let here = requests_at chan true (site ∷ []) (handshake ∷ []) in
    let rest = requests_at chan true (drop (i + 1) sites) (drop (i + 1) shaken) in
    let left = left_requests chan true sites shaken i site handshake l m e f in
    let behind = number_behind b c (word_wires width k word here) put in
    record {
      signal =
          ap₂ (λ n t. word_net n t rest) behind is ∙ sym (word_net-append width k word here rest) ∙ ap (word_net k word) (sym left) ∙ p.signal;
      put = λ d q.
          let there = subst (λ t. Puts c d (word_wires width (next_number c) t rest)) is q in
          let numbered = subst (λ n. Puts c d (word_wires width n (word_net k word here) rest)) behind there in
          let both = puts_both b c d (word_wires width k word here) (word_wires width (k + length (word_wires width k word here)) (word_net k word here) rest) put numbered in
          p.put d (subst (λ rs. Puts b d (word_wires width k word rs)) (sym left) (subst (Puts b d) (sym (word-append width k word here rest)) both));
    }

pub word_done : (a b : WireList) (chan width : ℕ) (sites : List Site) (shaken : List Handshake) (i : ℕ) (zeros word : Atom) → min (length sites) (length shaken) ≤ i → WordLeft a b chan width sites shaken i zeros word
    → (word ≡ word_net (next_number a) zeros (requests_at chan true sites shaken)) × Puts a b (word_wires width (next_number a) zeros (requests_at chan true sites shaken))
word_done a b chan width sites shaken i zeros word l p =
    let none = none_left chan true sites shaken i l in
    (ap (word_net (next_number b) word) (sym none) ∙ p.signal, p.put b (subst (λ rs. Puts b b (word_wires width (next_number b) word rs)) (sym none) (nothing_put b)))
