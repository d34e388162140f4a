-- The wires of stages and of what their registers hold next are a pipeline's control.
use Rattle.std.proofs.Common.{◌≡◌, ℕ, zero, suc, ◌+◌, ◌*◌, ◌<◌, ◌≤◌, Bool, true, false, cond, eqb, List, [], ◌∷◌, ◌++◌, length, take, drop, get_or, map, Option, Some, None, refl, sym, ap, ap₂, ◌∙◌, subst, arith}
use Rattle.std.specs.Prelude.{slice_get, ◌==◌}
use Rattle.std.specs.List.{AllByRecursion}
use Rattle.std.proofs.lemmas.Bool.Decides.{nat_tests}
use Rattle.std.proofs.lemmas.List.{append_assoc, append-nil, map-append, take-append-drop, length-take-le}
use Rattle.vlog_tree.specs.declared.expression.Atom.{Atom}
use Rattle.vlog_tree.specs.Value.{Values}
use Rattle.block_build.specs.declared.netlist.sites.Handshake.{Handshake}
use Rattle.block_build.specs.declared.netlist.sites.Site.{Site}
use Rattle.block_build.specs.Netlist.Ends.{all_sites}
use Rattle.block_build.specs.Netlist.Gates.{net, choice_gate}
use Rattle.block_build.specs.Netlist.Literals.{literal_atom}
use Rattle.block_build.specs.Netlist.Nexts.{move_of, done_next_wires, kept_wires, site_next_wires, site_next_count, sites_next_wires, done_at, KeepWords}
use Rattle.block_build.specs.Netlist.Sites.{handshake_at, nets_from, handshakes_from}
use Rattle.block_build.specs.Netlist.Stages.{StageNets, move_net, done_wires, AreDone, AreNext}
use Rattle.block_build.specs.Netlist.Staging.{Later, leading_sites, stage_nets, stages_from, shaken_at, move_nets, FullBitsGoOn, AreAllDone, AllKeepWords}
use Rattle.block_build.specs.Netlist.Wires.{Wire, AreWired}
use Rattle.block_build.proofs.OnNetlist.OnAdded.{wired_behind}
use Rattle.block_build.proofs.OnNetlist.OnNexts.{site_long}
use Rattle.block_build.proofs.OnNetlist.OnStaging.{shaken_are, leading_few}

-- ---- a stage's sites

-- all of them move by this
abbrev pub MoveBy : List Atom → Atom → List Site → Type 0
MoveBy moves m sites = AllByRecursion (λ (site : Site). move_of moves site.stage ≡ m) sites

kept_there : (v : Values) (k : ℕ) (site : Site) (goes : Atom) → site.sends ≡ false → AreWired v k (kept_wires site goes) → AreWired v k (choice_gate site.width goes site.word site.kept ∷ [])
kept_there v k site goes e h = subst (λ t. AreWired v k (cond t [] (choice_gate site.width goes site.word site.kept ∷ []))) e h

pub record SitesDone (v : Values) (moves : List Atom) (m : Atom) (done : ℕ → ℕ) (k i at : ℕ) (own rest : List Site) (shaken : List Handshake) : Type 0 where
  pub bits : AreDone v m (nets_from k done i own)
  pub words : KeepWords v done k i own
  pub left : AreWired v (done_at at own (length own)) (sites_next_wires (done_at at own (length own)) moves rest shaken)

pub sites_done : (v : Values) (moves : List Atom) (m : Atom) (done : ℕ → ℕ) (k i at : ℕ) (own rest : List Site) (shaken : List Handshake) → MoveBy moves m own → ((j : ℕ) → j < length own → done (i + j) ≡ done_at at own j)
    → AreWired v at (sites_next_wires at moves (own ++ rest) (handshakes_from k own ++ shaken)) → SitesDone v moves m done k i at own rest shaken
sites_done v moves m done k i at [] rest shaken by numbers h = record { bits = tt; words = tt; left = h }
sites_done v moves m done k i at (site ∷ own) rest shaken by numbers h =
    let goes = net (suc (suc (suc k))) in
    let both = wired_behind v at (site_next_wires at site goes (move_of moves site.stage)) (sites_next_wires (at + site_next_count site) moves (own ++ rest) (handshakes_from (k + 7) own ++ shaken)) h in
    let parts = wired_behind v at (done_next_wires at site.done goes (move_of moves site.stage)) (kept_wires site goes) both.0 in
    let first : done i ≡ at = let e : i ≡ i + 0 = omega arith in ap done e ∙ numbers 0 (omega arith) in
    let behind = subst (λ n. AreWired v (at + n) (sites_next_wires (at + site_next_count site) moves (own ++ rest) (handshakes_from (k + 7) own ++ shaken))) (site_long at site goes (move_of moves site.stage)) both.1 in
    let more = sites_done v moves m done (k + 7) (suc i) (at + site_next_count site) own rest shaken by.1
    (λ j l. let e : suc i + j ≡ i + suc j = omega arith in ap done e ∙ numbers (suc j) (omega (arith, l))) behind in
    let three : at + 3 ≡ suc (suc (suc at)) = omega arith in
    record {
      bits = (
        subst (λ n. AreWired v n (done_wires n (record { on = site.on; done = site.done; partner = site.partner; first = k; next = done i }) m)) (sym first)
            (subst (λ t. AreWired v at (done_next_wires at site.done goes t)) by.0 parts.0),
        more.bits,
      );
      words = (
        λ e. subst (λ n. AreWired v (suc (suc (suc n))) (choice_gate site.width goes site.word site.kept ∷ [])) (sym first)
            (subst (λ n. AreWired v n (choice_gate site.width goes site.word site.kept ∷ [])) three (kept_there v (at + 3) site goes e parts.1)),
        more.words,
      );
      left = more.left;
    }

-- ---- all stages

-- the leading sites stand in the stage
leading_there : (moves : List Atom) (stage : ℕ) (sites : List Site) → MoveBy moves (move_of moves stage) (take (leading_sites stage sites) sites)
leading_there moves stage [] = tt
leading_there moves stage (site ∷ sites) = go (site.stage == stage) refl (leading_there moves stage sites)
  where
    go : (t : Bool) → (site.stage == stage) ≡ t → MoveBy moves (move_of moves stage) (take (leading_sites stage sites) sites) → MoveBy moves (move_of moves stage) (take (cond t (suc (leading_sites stage sites)) 0) (site ∷ sites))
    go true e more = let same : site.stage ≡ stage = grind (arith, nat_tests) in (ap (move_of moves) same, more)
    go false e more = tt

done_behind : (at : ℕ) (own rest : List Site) (j : ℕ) → done_at at (own ++ rest) (length own + j) ≡ done_at (done_at at own (length own)) rest j
done_behind at [] rest j = let e : 0 + j ≡ j = omega arith in ap (done_at at rest) e
done_behind at (site ∷ own) rest j =
    let e : suc (length own) + j ≡ suc (length own + j) = omega arith in
    ap (done_at at (site ∷ own ++ rest)) e ∙ done_behind (at + site_next_count site) own rest j

done_within : (at : ℕ) (own rest : List Site) (j : ℕ) → j < length own → done_at at (own ++ rest) j ≡ done_at at own j
done_within at [] rest j l = absurd (omega (arith, l))
done_within at (site ∷ own) rest zero l = refl
done_within at (site ∷ own) rest (suc j) l = done_within (at + site_next_count site) own rest j (omega (arith, l))

pub record StagesDone (v : Values) (later : Later) (k i stage n : ℕ) (sites : List Site) (full : ℕ) : Type 0 where
  pub bits : AreAllDone v (stages_from full later k i stage n sites)
  pub words : AllKeepWords v later.done k i stage n sites

-- what moves the stages from one on
abbrev pub MovesFrom : List Atom → ℕ → List StageNets → Type 0
MovesFrom moves stage [] = Unit {0}
MovesFrom moves stage (one ∷ more) = (move_of moves stage ≡ move_net one more) × MovesFrom moves (suc stage) more

pub stages_done : (v : Values) (moves : List Atom) (full : ℕ) (later : Later) (k i stage n at : ℕ) (sites : List Site) → MovesFrom moves stage (stages_from full later k i stage n sites)
    → ((j : ℕ) → later.done (i + j) ≡ done_at at sites j) → AreWired v at (sites_next_wires at moves sites (map shaken_at (all_sites (stages_from full later k i stage n sites)))) → StagesDone v later k i stage n sites full
stages_done v moves full later k i stage zero at sites by numbers h = record { bits = tt; words = tt }
stages_done v moves full later k i stage (suc n) at sites by numbers h =
    let count = leading_sites stage sites in
    let own = take count sites in
    let rest = drop count sites in
    let whole : own ++ rest ≡ sites = take-append-drop count sites in
    let long : length own ≡ count = length-take-le count sites (leading_few stage sites) in
    let more = stages_from full later (suc k + 7 * count) (i + count) (suc stage) n rest in
    let shaken : map shaken_at (nets_from (suc k) later.done i own ++ all_sites more) ≡ handshakes_from (suc k) own ++ map shaken_at (all_sites more) =
    map-append shaken_at (nets_from (suc k) later.done i own) (all_sites more) ∙ ap (λ xs. xs ++ map shaken_at (all_sites more)) (sym (shaken_are (suc k) later.done i own)) in
    let there = subst (λ hs. AreWired v at (sites_next_wires at moves sites hs)) shaken h in
    let split = subst (λ xs. AreWired v at (sites_next_wires at moves xs (handshakes_from (suc k) own ++ map shaken_at (all_sites more)))) (sym whole) there in
    let mine = subst (λ t. MoveBy moves t own) by.0 (leading_there moves stage sites) in
    let numbered : (j : ℕ) → later.done (i + j) ≡ done_at at (own ++ rest) j = λ j. numbers j ∙ ap (λ xs. done_at at xs j) (sym whole) in
    let here = sites_done v moves (move_net (stage_nets full later k i stage own) more) later.done (suc k) i at own rest (map shaken_at (all_sites more)) mine (λ j l. numbered j ∙ done_within at own rest j l) split in
    let behind = stages_done v moves full later (suc k + 7 * count) (i + count) (suc stage) n (done_at at own (length own)) rest by.1
    (λ j. let e : i + count + j ≡ i + (count + j) = omega arith in ap later.done e ∙ numbered (count + j) ∙ ap (λ m. done_at at (own ++ rest) (m + j)) (sym long) ∙ done_behind at own rest j) here.left in
    record { bits = (here.bits, behind.bits); words = (here.words, behind.words) }

moves_are : (before : List Atom) (stages : List StageNets) → MovesFrom (before ++ move_nets stages) (length before) stages
moves_are before [] = tt
moves_are before (one ∷ more) = (
  at before,
  subst (λ n. MovesFrom (before ++ move_nets (one ∷ more)) n more) (longer before)
      (subst (λ xs. MovesFrom xs (length (before ++ move_net one more ∷ [])) more) (append_assoc before (move_net one more ∷ []) (move_nets more)) (moves_are (before ++ move_net one more ∷ []) more)),
)
  where
    at : (xs : List Atom) → get_or (xs ++ move_net one more ∷ move_nets more) (length xs) (literal_atom 1 0) ≡ move_net one more
    at [] = refl
    at (x ∷ xs) = at xs

    longer : (xs : List Atom) → length (xs ++ move_net one more ∷ []) ≡ suc (length xs)
    longer [] = refl
    longer (x ∷ xs) = ap suc (longer xs)

next_joined : (v : Values) (comes : Atom) (stages : List StageNets) → FullBitsGoOn v comes stages → AreAllDone v stages → AreNext v comes stages
next_joined v comes [] kept done = tt
next_joined v comes (one ∷ more) kept done = (kept.0, done.0, next_joined v (move_net one more) more kept.1 done.1)

-- so their registers go on by their wires
pub stages_go : (v : Values) (full k n at : ℕ) (sites : List Site) (comes : Atom) (moving next : ℕ → ℕ) → let later : Later = record { moving = moving; next = next; done = done_at at sites } in let stages = stages_from full later k 0 0 n sites in
    FullBitsGoOn v comes stages → AreWired v at (sites_next_wires at (move_nets stages) sites (map shaken_at (all_sites stages))) → AreNext v comes stages × AllKeepWords v (done_at at sites) k 0 0 n sites
stages_go v full k n at sites comes moving next kept h =
    let later : Later = record { moving = moving; next = next; done = done_at at sites } in
    let stages = stages_from full later k 0 0 n sites in
    let done = stages_done v (move_nets stages) full later k 0 0 n at sites (moves_are [] stages) (λ j. let e : 0 + j ≡ j = omega arith in ap (done_at at sites) e) h in
    (next_joined v comes stages kept done.bits, done.words)
