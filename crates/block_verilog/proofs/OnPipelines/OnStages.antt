-- The stages of a pipeline, and the sites that stand in each.
use Rattle.std.proofs.Common.{◌≡◌, ℕ, zero, suc, ◌+◌, ◌-◌, ◌*◌, ◌<◌, ◌≤◌, List, [], ◌∷◌, ◌++◌, length, take, drop, Bool, true, false, cond, Some, refl, sym, ap, ◌∙◌, subst, arith, ⊎_elim}
use Rattle.std.specs.Prelude.{slice_get, nat_lt, ◌==◌}
use Rattle.std.proofs.lemmas.Bool.{cases_lt}
use Rattle.std.proofs.lemmas.Bool.Decides.{nat_tests}
use Rattle.std.proofs.lemmas.List.{length-append, length-drop, length-take-le}
use Rattle.std.proofs.lemmas.Option.{slice_get_within}
use Rattle.base.proofs.Lemmas.Lists.Indices.{slice_get-append_left, slice_get-append_right}
use Rattle.block_stage.specs.Machine.Pipeline.{Pipeline, IsPipeline, count_before, first}
use Rattle.block_stage.proofs.Lemmas.Machine.{stage_at, first_grows}
use Rattle.vlog_tree.specs.Value.{Values}
use Rattle.block_build.specs.declared.netlist.sites.Site.{Site}
use Rattle.block_build.specs.Netlist.Ends.{all_sites}
use Rattle.block_build.specs.Netlist.Gates.{net, choice_gate}
use Rattle.block_build.specs.Netlist.Handshakes.{SiteNets, go_net}
use Rattle.block_build.specs.Netlist.Nexts.{KeepWords}
use Rattle.block_build.specs.Netlist.Sites.{site_nets, nets_from}
use Rattle.block_build.specs.Netlist.Stages.{StageNets}
use Rattle.block_build.specs.Netlist.Staging.{Later, full_bit, leading_sites, stage_nets, stages_from, AllKeepWords}
use Rattle.block_build.specs.Netlist.Wires.{AreWired}

-- ---- how many sites stand before a stage

count_none : (stage : ℕ → ℕ) (n : ℕ) → count_before stage 0 n ≡ 0
count_none stage zero = refl
count_none stage (suc n) = let e : nat_lt (stage n) 0 ≡ false = grind (arith, nat_tests) in rw e (count_none stage n)

pub first_none : (q : Pipeline) → first q 0 ≡ 0
unfolding first
first_none q = count_none q.stage (length q.proc.behavior.sites)

count_all : (stage : ℕ → ℕ) (j n : ℕ) → ((i : ℕ) → i < n → stage i < j) → count_before stage j n ≡ n
count_all stage j zero h = refl
count_all stage j (suc n) h =
    let l = h n (omega arith) in
    let here : nat_lt (stage n) j ≡ true = grind (arith, nat_tests, l) in
    let ih = count_all stage j n (λ i x. h i (omega (arith, x))) in
    rw here (omega (arith, ih))

pub first_whole : (q : Pipeline) → IsPipeline q → first q q.stages ≡ length q.proc.behavior.sites
unfolding first
first_whole q is = count_all q.stage q.stages (length q.proc.behavior.sites) is.within

-- the stage of a site is the one between whose firsts it is
pub stage_between : (q : Pipeline) → IsPipeline q → (i j : ℕ) → i < first q q.stages → q.stage i ≡ j → (first q j ≤ i) × (i < first q (suc j))
stage_between q is i j within at = (lower, upper)
  where
    search_down : (n : ℕ) → i < first q n → (m : ℕ) × (first q m ≤ i) × (i < first q (suc m))
    search_down zero l = absurd (let z = first_none q in omega (arith, l, z))
    search_down (suc n) l = ⊎_elim (λ less. search_down n less) (λ past. (n, past, l)) (cases_lt i (first q n))

    own : (m : ℕ) × (first q m ≤ i) × (i < first q (suc m))
    own = search_down q.stages within

    same : own.0 ≡ j
    same = sym (stage_at q is i own.0 own.1 own.2) ∙ at

    lower : first q j ≤ i
    lower = subst (λ m. first q m ≤ i) same own.1

    upper : i < first q (suc j)
    upper = subst (λ m. i < first q (suc m)) same own.2

-- ---- the first sites of a list

equal_test : (m n : ℕ) → m ≡ n → (m == n) ≡ true
equal_test m n h = grind (arith, nat_tests, h)

other_test : (m n : ℕ) → (m ≡ n → ⊥) → (m == n) ≡ false
other_test m n h = go (m == n) refl
  where
    go : (t : Bool) → (m == n) ≡ t → (m == n) ≡ false
    go false e = e
    go true e = absurd (h (grind (arith, nat_tests, e)))

leading_is : (j m : ℕ) (sites : List Site) → m ≤ length sites → ((x : ℕ) (site : Site) → x < m → slice_get sites x ≡ Some site → site.stage ≡ j) → ((site : Site) → slice_get sites m ≡ Some site → site.stage ≡ j → ⊥)
    → leading_sites j sites ≡ m
leading_is j zero [] l all last = refl
leading_is j (suc m) [] l all last = absurd (omega (arith, l))
leading_is j zero (site ∷ sites) l all last = ap (λ t. cond t (suc (leading_sites j sites)) 0) (other_test site.stage j (last site refl))
leading_is j (suc m) (site ∷ sites) l all last =
    ap (λ t. cond t (suc (leading_sites j sites)) 0) (equal_test site.stage j (all 0 site (omega arith) refl))
    ∙ ap suc (leading_is j m sites (omega (arith, l)) (λ x s b e. all (suc x) s (omega (arith, b)) e) last)

get-take : {A : Type 0} (n : ℕ) (xs : List A) (i : ℕ) (x : A) → slice_get (take n xs) i ≡ Some x → slice_get xs i ≡ Some x
get-take zero xs i x e = absurd (cc)
get-take (suc n) [] i x e = absurd (cc)
get-take (suc n) (y ∷ xs) zero x e = e
get-take (suc n) (y ∷ xs) (suc i) x e = get-take n xs i x e

get-drop : {A : Type 0} (n : ℕ) (xs : List A) (i : ℕ) → slice_get (drop n xs) i ≡ slice_get xs (n + i)
get-drop zero xs i = let e : i ≡ 0 + i = omega arith in ap (slice_get xs) e
get-drop (suc n) [] i = refl
get-drop (suc n) (y ∷ xs) i = let e : suc (n + i) ≡ suc n + i = omega arith in get-drop n xs i ∙ ap (slice_get (y ∷ xs)) e

-- ---- the signals of the sites of a stage

record OneNet (done : ℕ → ℕ) (i : ℕ) (sites : List Site) (m : ℕ) (own : SiteNets) : Type 0 where
  site : Site
  at : slice_get sites m ≡ Some site
  is : own ≡ site_nets site own.first (done (i + m))

one_net : (k : ℕ) (done : ℕ → ℕ) (i : ℕ) (sites : List Site) (m : ℕ) (own : SiteNets) → slice_get (nets_from k done i sites) m ≡ Some own → OneNet done i sites m own
one_net k done i [] m own e = absurd (cc)
one_net k done i (site ∷ sites) zero own e =
    let same : site_nets site k (done i) ≡ own = cc in
    let at : i ≡ i + 0 = omega arith in
    record { site = site; at = refl; is = sym same ∙ ap (λ (s : SiteNets). site_nets site s.first (done i)) same ∙ ap (λ j. site_nets site own.first (done j)) at }
one_net k done i (site ∷ sites) (suc m) own e =
    let o = one_net (k + 7) done (suc i) sites m own e in
    let at : suc i + m ≡ i + suc m = omega arith in
    record { site = o.site; at = o.at; is = o.is ∙ ap (λ j. site_nets o.site own.first (done j)) at }

net_count : (k : ℕ) (done : ℕ → ℕ) (i : ℕ) (sites : List Site) → length (nets_from k done i sites) ≡ length sites
net_count k done i [] = refl
net_count k done i (site ∷ sites) = ap suc (net_count (k + 7) done (suc i) sites)

-- a receive keeps its word by a wire behind those of its done bit
abbrev pub KeepsBy : Values → (ℕ → ℕ) → ℕ → Site → SiteNets → Type 0
KeepsBy v done i site own = site.sends ≡ false → AreWired v (suc (suc (suc (done i)))) (choice_gate site.width (net (go_net own)) site.word site.kept ∷ [])

one_keeps : (v : Values) (k : ℕ) (done : ℕ → ℕ) (i : ℕ) (sites : List Site) (m : ℕ) (own : SiteNets) (site : Site) → slice_get (nets_from k done i sites) m ≡ Some own → slice_get sites m ≡ Some site → KeepWords v done k i sites → KeepsBy v done (i + m) site own
one_keeps v k done i [] m own site e f h = absurd (cc)
one_keeps v k done i (x ∷ sites) zero own site e f h =
    let same : site_nets x k (done i) ≡ own = cc in
    let is : x ≡ site = cc in
    let at : i ≡ i + 0 = omega arith in
    subst (λ s. KeepsBy v done (i + 0) s own) is (subst (KeepsBy v done (i + 0) x) same (subst (λ j. KeepsBy v done j x (site_nets x k (done i))) at h.0))
one_keeps v k done i (x ∷ sites) (suc m) own site e f h =
    let at : suc i + m ≡ i + suc m = omega arith in
    subst (λ j. KeepsBy v done j site own) at (one_keeps v (k + 7) done (suc i) sites m own site e f h.1)

-- ---- all stages

-- a site, the index of which this is, of a stage
pub record SiteOfStage (v : Values) (q : Pipeline) (sites : List Site) (done : ℕ → ℕ) (whole : List SiteNets) (j i : ℕ) (own : SiteNets) : Type 0 where
  pub site : Site
  pub at : slice_get sites i ≡ Some site
  pub stands : q.stage i ≡ j
  pub is : own ≡ site_nets site own.first (done i)
  pub place : slice_get whole i ≡ Some own
  pub keeps : KeepsBy v done i site own

pub record OfStage (v : Values) (q : Pipeline) (sites : List Site) (full : ℕ) (later : Later) (whole : List SiteNets) (j : ℕ) (one : StageNets) : Type 0 where
  pub full_is : one.full ≡ full_bit full j
  pub next_is : one.next ≡ later.next j
  pub count : length one.sites ≡ first q (suc j) - first q j
  pub each : (m : ℕ) (own : SiteNets) → slice_get one.sites m ≡ Some own → SiteOfStage v q sites later.done whole j (first q j + m) own

-- the sites stand in the order of their stages
pub record AreOrdered (q : Pipeline) (sites : List Site) : Type 0 where
  pub is : IsPipeline q
  pub count : length sites ≡ length q.proc.behavior.sites
  pub stage : (i : ℕ) (site : Site) → slice_get sites i ≡ Some site → site.stage ≡ q.stage i

-- those behind an index are left
record AreLeft (q : Pipeline) (sites : List Site) (j i : ℕ) (rest : List Site) : Type 0 where
  first_is : i ≡ first q j
  count : i + length rest ≡ length sites
  at : (m : ℕ) → slice_get rest m ≡ slice_get sites (i + m)

led_by : (q : Pipeline) (sites : List Site) (j i m : ℕ) (rest : List Site) → AreOrdered q sites → AreLeft q sites j i rest → j < q.stages → i + m ≡ first q (suc j) → leading_sites j rest ≡ m
led_by q sites j i m rest o a l e =
    let begin = a.first_is in
    let most = first_grows q o.is (suc j) q.stages (omega (arith, l)) in
    let whole = first_whole q o.is in
    let all = a.count in
    let long = o.count in
    leading_is j m rest (omega (arith, begin, e, most, whole, all, long))
    (λ x site b f.
    let there : slice_get sites (i + x) ≡ Some site = sym (a.at x) ∙ f in
    o.stage (i + x) site there ∙ stage_at q o.is (i + x) j (omega (arith, begin)) (omega (arith, b, e)))
    (λ site f same.
    let there : slice_get sites (i + m) ≡ Some site = sym (a.at m) ∙ f in
    let within = slice_get_within sites (i + m) site there in
    let between = stage_between q o.is (i + m) j (omega (arith, within, whole, long)) (sym (o.stage (i + m) site there) ∙ same) in
    let upper = between.1 in
    omega (arith, upper, e))

led : (q : Pipeline) (sites : List Site) (j i : ℕ) (rest : List Site) → AreOrdered q sites → AreLeft q sites j i rest → j < q.stages → i + leading_sites j rest ≡ first q (suc j)
led q sites j i rest o a l =
    let begin = a.first_is in
    let grows = first_grows q o.is j (suc j) (omega arith) in
    let sum : i + (first q (suc j) - i) ≡ first q (suc j) = omega (arith, begin, grows) in
    let is = led_by q sites j i (first q (suc j) - i) rest o a l sum in
    ap (λ n. i + n) is ∙ sum

few_lead : (stage : ℕ) (xs : List Site) → leading_sites stage xs ≤ length xs
few_lead stage [] = omega arith
few_lead stage (x ∷ xs) = go (x.stage == stage) (few_lead stage xs)
  where
    go : (t : Bool) → leading_sites stage xs ≤ length xs → cond t (suc (leading_sites stage xs)) 0 ≤ suc (length xs)
    go true h = omega (arith, h)
    go false h = omega arith

left_behind : (q : Pipeline) (sites : List Site) (j i : ℕ) (rest : List Site) → AreOrdered q sites → AreLeft q sites j i rest → j < q.stages → AreLeft q sites (suc j) (i + leading_sites j rest) (drop (leading_sites j rest) rest)
left_behind q sites j i rest o a l =
    record {
      first_is = led q sites j i rest o a l;
      count = still_all (leading_sites j rest) i rest (length sites) (few_lead j rest) a.count;
      at = λ m. let e : i + (leading_sites j rest + m) ≡ i + leading_sites j rest + m = omega arith in get-drop (leading_sites j rest) rest m ∙ a.at (leading_sites j rest + m) ∙ ap (slice_get sites) e;
    }
  where
    still_all : (n k : ℕ) (xs : List Site) (count : ℕ) → n ≤ length xs → k + length xs ≡ count → k + n + length (drop n xs) ≡ count
    still_all n k xs count few all = let less = length-drop n xs in omega (arith, few, all, less)

-- the first of the stages that are left
first_of_stage : (v : Values) (q : Pipeline) (sites : List Site) (full : ℕ) (later : Later) (whole : List SiteNets) (k i j : ℕ) (rest : List Site) → AreOrdered q sites → AreLeft q sites j i rest → j < q.stages
    → ((m : ℕ) (own : SiteNets) → slice_get (nets_from (suc k) later.done i (take (leading_sites j rest) rest)) m ≡ Some own → slice_get whole (i + m) ≡ Some own)
    → KeepWords v later.done (suc k) i (take (leading_sites j rest) rest) → OfStage v q sites full later whole j (stage_nets full later k i j (take (leading_sites j rest) rest))
first_of_stage v q sites full later whole k i j rest o a l place keep =
    let begin = a.first_is in
    let to = led q sites j i rest o a l in
    let long = length-take-le (leading_sites j rest) rest (few_lead j rest) in
    let own_long : length (take (leading_sites j rest) rest) ≡ first q (suc j) - first q j = omega (arith, long, to, begin) in
    record {
      full_is = refl;
      next_is = refl;
      count = net_count (suc k) later.done i (take (leading_sites j rest) rest) ∙ own_long;
      each = λ m own e.
          let one = one_net (suc k) later.done i (take (leading_sites j rest) rest) m own e in
          let within = slice_get_within (take (leading_sites j rest) rest) m one.site one.at in
          let there = get-take (leading_sites j rest) rest m one.site one.at in
          let site_there : slice_get sites (i + m) ≡ Some one.site = sym (a.at m) ∙ there in
          let stands = stage_at q o.is (i + m) j (omega (arith, begin)) (omega (arith, within, long, to)) in
          subst (λ b. SiteOfStage v q sites later.done whole j (b + m) own) begin
          (record {
            site = one.site;
            at = site_there;
            stands = stands;
            is = one.is;
            place = place m own e;
            keeps = one_keeps v (suc k) later.done i (take (leading_sites j rest) rest) m own one.site e one.at keep;
          });
    }

stages_are_of : (v : Values) (q : Pipeline) (sites : List Site) (full : ℕ) (later : Later) (whole : List SiteNets) (n k i j : ℕ) (rest : List Site) → AreOrdered q sites → AreLeft q sites j i rest → j + n ≡ q.stages
    → ((m : ℕ) (own : SiteNets) → slice_get (all_sites (stages_from full later k i j n rest)) m ≡ Some own → slice_get whole (i + m) ≡ Some own) → AllKeepWords v later.done k i j n rest
    → (x : ℕ) (one : StageNets) → slice_get (stages_from full later k i j n rest) x ≡ Some one → OfStage v q sites full later whole (j + x) one
stages_are_of v q sites full later whole zero k i j rest o a e place keep x one there = absurd (cc)
stages_are_of v q sites full later whole (suc n) k i j rest o a e place keep zero one there =
    let own = nets_from (suc k) later.done i (take (leading_sites j rest) rest) in
    let more = all_sites (stages_from full later (suc k + 7 * leading_sites j rest) (i + leading_sites j rest) (suc j) n (drop (leading_sites j rest) rest)) in
    let same : stage_nets full later k i j (take (leading_sites j rest) rest) ≡ one = cc in
    let at : j ≡ j + 0 = omega arith in
    subst (λ y. OfStage v q sites full later whole y one) at
    (subst (OfStage v q sites full later whole j) same
    (first_of_stage v q sites full later whole k i j rest o a (omega (arith, e))
    (λ m s h. place m s (slice_get-append_left own more m (slice_get_within own m s h) ∙ h)) keep.0))
stages_are_of v q sites full later whole (suc n) k i j rest o a e place keep (suc x) one there =
    let own = nets_from (suc k) later.done i (take (leading_sites j rest) rest) in
    let more = all_sites (stages_from full later (suc k + 7 * leading_sites j rest) (i + leading_sites j rest) (suc j) n (drop (leading_sites j rest) rest)) in
    let count : length (nets_from (suc k) later.done i (take (leading_sites j rest) rest)) ≡ leading_sites j rest =
    net_count (suc k) later.done i (take (leading_sites j rest) rest) ∙ length-take-le (leading_sites j rest) rest (few_lead j rest) in
    let at : suc j + x ≡ j + suc x = omega arith in
    subst (λ y. OfStage v q sites full later whole y one) at
    (stages_are_of v q sites full later whole n (suc k + 7 * leading_sites j rest) (i + leading_sites j rest) (suc j) (drop (leading_sites j rest) rest) o (left_behind q sites j i rest o a (omega (arith, e))) (omega (arith, e))
    (λ m s h.
    let sum : i + (leading_sites j rest + m) ≡ i + leading_sites j rest + m = omega arith in
    let past : leading_sites j rest + m ≡ length (nets_from (suc k) later.done i (take (leading_sites j rest) rest)) + m = ap (λ y. y + m) (sym count) in
    subst (λ y. slice_get whole y ≡ Some s) sum (place (leading_sites j rest + m) s (slice_get-append_right own more (leading_sites j rest + m) m past ∙ h))) keep.1 x one there)

all_left : (q : Pipeline) (sites : List Site) → AreLeft q sites 0 0 sites
all_left q sites = record { first_is = sym (first_none q); count = omega arith; at = λ m. let e : m ≡ 0 + m = omega arith in ap (slice_get sites) e }

pub stages_stand : (v : Values) (q : Pipeline) (sites : List Site) (full : ℕ) (later : Later) (n k : ℕ) → AreOrdered q sites → n ≡ q.stages → AllKeepWords v later.done k 0 0 n sites
    → (x : ℕ) (one : StageNets) → slice_get (stages_from full later k 0 0 n sites) x ≡ Some one → OfStage v q sites full later (all_sites (stages_from full later k 0 0 n sites)) x one
stages_stand v q sites full later n k o e keep x one there =
    let at : 0 + x ≡ x = omega arith in
    subst (λ y. OfStage v q sites full later (all_sites (stages_from full later k 0 0 n sites)) y one) at
    (stages_are_of v q sites full later (all_sites (stages_from full later k 0 0 n sites)) n k 0 0 sites o (all_left q sites) (omega (arith, e))
    (λ m s h. let sum : m ≡ 0 + m = omega arith in subst (λ y. slice_get (all_sites (stages_from full later k 0 0 n sites)) y ≡ Some s) sum h) keep x one there)

-- ---- how many

pub stages_count : (full : ℕ) (later : Later) (k i j n : ℕ) (sites : List Site) → length (stages_from full later k i j n sites) ≡ n
stages_count full later k i j zero sites = refl
stages_count full later k i j (suc n) sites =
    ap suc (stages_count full later (suc k + 7 * leading_sites j sites) (i + leading_sites j sites) (suc j) n (drop (leading_sites j sites) sites))

sites_left : (q : Pipeline) (sites : List Site) (full : ℕ) (later : Later) (n k i j : ℕ) (rest : List Site) → AreOrdered q sites → AreLeft q sites j i rest → j + n ≡ q.stages
    → i + length (all_sites (stages_from full later k i j n rest)) ≡ length sites
sites_left q sites full later zero k i j rest o a e =
    let at : j ≡ q.stages = omega (arith, e) in
    let begin = a.first_is in
    let same = ap (first q) at in
    let whole = first_whole q o.is in
    let long = o.count in
    omega (arith, begin, same, whole, long)
sites_left q sites full later (suc n) k i j rest o a e =
    let ih = sites_left q sites full later n (suc k + 7 * leading_sites j rest) (i + leading_sites j rest) (suc j) (drop (leading_sites j rest) rest) o (left_behind q sites j i rest o a (omega (arith, e))) (omega (arith, e)) in
    joined i (leading_sites j rest) (length sites) (nets_from (suc k) later.done i (take (leading_sites j rest) rest))
    (all_sites (stages_from full later (suc k + 7 * leading_sites j rest) (i + leading_sites j rest) (suc j) n (drop (leading_sites j rest) rest)))
    (net_count (suc k) later.done i (take (leading_sites j rest) rest) ∙ length-take-le (leading_sites j rest) rest (few_lead j rest)) ih
  where
    joined : (b c count : ℕ) (own more : List SiteNets) → length own ≡ c → b + c + length more ≡ count → b + length (own ++ more) ≡ count
    joined b c count own more long h = let both = length-append own more in omega (arith, both, long, h)

pub all_sites_count : (q : Pipeline) (sites : List Site) (full : ℕ) (later : Later) (n k : ℕ) → AreOrdered q sites → n ≡ q.stages → length (all_sites (stages_from full later k 0 0 n sites)) ≡ length sites
all_sites_count q sites full later n k o e = let whole = sites_left q sites full later n k 0 0 sites o (all_left q sites) (omega (arith, e)) in omega (arith, whole)
