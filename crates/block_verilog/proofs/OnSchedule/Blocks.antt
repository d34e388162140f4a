-- A scheduled package is a block.
use Rattle.std.proofs.Common.{◌≡◌, ◌≢◌, ℕ, zero, suc, ◌<◌, ◌≤◌, Bool, true, false, cond, eqb, List, [], ◌∷◌, length, map, Option, Some, None, refl, sym, ap, ◌∙◌, subst, arith}
use Rattle.std.specs.Prelude.{slice_get, option_map, not, ◌&&◌, ◌||◌, ◌==◌}
use Rattle.std.specs.List.{list_any}
use Rattle.std.proofs.lemmas.Bool.Decides.{nat_tests}
use Rattle.std.proofs.lemmas.Option.{slice_get-map, slice_get_within}
use Rattle.net_core.specs.declared.net.Chan.{Chan}
use Rattle.net_core.specs.declared.net.Kind.TheVariants.{Output}
use Rattle.net_core.specs.declared.net.Site.{Site}
use Rattle.net_core.specs.Cuts.{Proc as NetProc, index_of, receives_on, receiver}
use Rattle.net_core.specs.WellFormed.{IsNet, IsSiteOf}
use Rattle.ir_tree.specs.declared.package.Channel.{Channel}
use Rattle.ir_tree.specs.declared.package.Package.{Package}
use Rattle.ir_tree.specs.declared.package.Proc.{Proc}
use Rattle.ir_tree.specs.Activations.{activation, sites_of}
use Rattle.ir_tree.specs.Networks.{network_of, head_of, chan_of}
use Rattle.block_stage.specs.Machine.Pipeline.{Pipeline, IsPipeline}
use Rattle.block_build.specs.Block.{Block, IsBlock, receiver_of, run_of}
use Rattle.pipe_schedule.specs.Legal.{IsLegalAt}
use Rattle.pipe_schedule.specs.Timed.{timed_nodes}
use Rattle.block_verilog.specs.Schedule.Pipelines.{pipeline_of, pipelines_of, block_of, AreLegal}

-- the pipeline of an index
pub record PipelineAt (channels : List Channel) (clock : ℕ) (procs : List Proc) (p : ℕ) (q : Pipeline) : Type 0 where
  pub proc : Proc
  pub stages : List ℕ
  pub there : slice_get procs p ≡ Some proc
  pub legal : IsLegalAt (timed_nodes proc) clock stages
  pub is : pipeline_of channels proc stages ≡ q

nothing_at : {A : Type 0} (p : ℕ) (x : A) → slice_get {X = A} [] p ≡ Some x → ⊥
nothing_at zero x e = cc
nothing_at (suc p) x e = cc

pub pipeline_at : (channels : List Channel) (clock : ℕ) (procs : List Proc) (schedules : List (List ℕ)) → AreLegal clock procs schedules → (p : ℕ) (q : Pipeline) → slice_get (pipelines_of channels procs schedules) p ≡ Some q → PipelineAt channels clock procs p q
pipeline_at channels clock [] schedules legal p q e = absurd (nothing_at p q e)
pipeline_at channels clock (proc ∷ procs) [] legal p q e = absurd legal
pipeline_at channels clock (proc ∷ procs) (stages ∷ schedules) legal zero q e = record { proc = proc; stages = stages; there = refl; legal = legal.0; is = some_same e }
  where
    some_same : {x y : Pipeline} → Some x ≡ Some y → x ≡ y
    some_same f = cc
pipeline_at channels clock (proc ∷ procs) (stages ∷ schedules) legal (suc p) q e =
    let rest = pipeline_at channels clock procs schedules legal.1 p q e in
    record { proc = rest.proc; stages = rest.stages; there = rest.there; legal = rest.legal; is = rest.is }

-- ---- lists

-- the only one that passes a test is the first
only_one : {A : Type 0} (test : A → Bool) (xs : List A) (p : ℕ) (x : A) → slice_get xs p ≡ Some x → test x ≡ true → ((q : ℕ) (y : A) → slice_get xs q ≡ Some y → test y ≡ true → q ≡ p) → p ≡ index_of test xs
only_one test [] p x e is only = absurd (nothing_at p x e)
only_one test (y ∷ ys) zero x e is only = let same : y ≡ x = cc in sym (ap (λ b. cond b 0 (suc (index_of test ys))) (ap test same ∙ is))
only_one test (y ∷ ys) (suc p) x e is only =
    go (test y) refl (only_one test ys p x e is (λ q z f h. let later = only (suc q) z f h in omega (arith, later)))
  where
    go : (t : Bool) → test y ≡ t → p ≡ index_of test ys → suc p ≡ cond t 0 (suc (index_of test ys))
    go true f rest = let first : 0 ≡ suc p = only 0 y refl f in absurd (omega (arith, first))
    go false f rest = ap suc rest

any_there : {A : Type 0} (test : A → Bool) (xs : List A) (i : ℕ) (x : A) → slice_get xs i ≡ Some x → test x ≡ true → list_any test xs ≡ true
any_there test [] i x e is = absurd (nothing_at i x e)
any_there test (y ∷ ys) zero x e is = let same : y ≡ x = cc in ap (λ b. b || list_any test ys) (ap test same ∙ is)
any_there test (y ∷ ys) (suc i) x e is = ap (λ b. test y || b) (any_there test ys i x e is) ∙ or_true (test y)
  where
    or_true : (b : Bool) → (b || true) ≡ true
    or_true true = refl
    or_true false = refl

any_gives : {A : Type 0} (test : A → Bool) (xs : List A) → list_any test xs ≡ true → (i : ℕ) × (x : A) × (slice_get xs i ≡ Some x) × (test x ≡ true)
any_gives test [] e = absurd (never e)
  where
    never : false ≡ true → ⊥
    never f = cc
any_gives test (y ∷ ys) e = go (test y) refl e (λ f. any_gives test ys f)
  where
    go : (t : Bool) → test y ≡ t → (t || list_any test ys) ≡ true → (list_any test ys ≡ true → (i : ℕ) × (x : _) × (slice_get ys i ≡ Some x) × (test x ≡ true)) → (i : ℕ) × (x : _) × (slice_get (y ∷ ys) i ≡ Some x) × (test x ≡ true)
    go true f g rest = (0, y, refl, f)
    go false f g rest = let more = rest g in (suc more.0, more.1, more.2, more.3)

map_there : {A B : Type 0} (f : A → B) (xs : List A) (i : ℕ) (y : B) → slice_get (map f xs) i ≡ Some y → (x : A) × (slice_get xs i ≡ Some x) × (f x ≡ y)
map_there f [] i y e = absurd (nothing_at i y e)
map_there f (x ∷ xs) zero y e = (x, refl, cc)
map_there f (x ∷ xs) (suc i) y e = map_there f xs i y e

there_at : {A : Type 0} (xs : List A) (i : ℕ) → i < length xs → (x : A) × (slice_get xs i ≡ Some x)
there_at [] i l = absurd (omega (arith, l))
there_at (x ∷ xs) zero l = (x, refl)
there_at (x ∷ xs) (suc i) l = there_at xs i (omega (arith, l))

-- ---- a site that receives

receives_test : (site : Site) → site.sends ≡ false → (not site.sends && (site.chan == site.chan)) ≡ true
receives_test site e = ap (λ b. not b && (site.chan == site.chan)) e ∙ same site.chan
  where
    same : (n : ℕ) → (n == n) ≡ true
    same n = grind (arith, nat_tests)

receives_there : (c : ℕ) (site : Site) → (not site.sends && (site.chan == c)) ≡ true → (site.sends ≡ false) × (site.chan ≡ c)
receives_there c site e = go site.sends refl e
  where
    go : (b : Bool) → site.sends ≡ b → (not b && (site.chan == c)) ≡ true → (site.sends ≡ false) × (site.chan ≡ c)
    go true f g = absurd (never g)
      where
        never : false ≡ true → ⊥
        never h = cc
    go false f g = (f, grind (arith, nat_tests))

pub package_is_block : (ir : Package) (clock : ℕ) (schedules : List (List ℕ)) (depths : List ℕ)
    → ((p : ℕ) (proc : Proc) (stages : List ℕ) → slice_get ir.procs p ≡ Some proc → IsLegalAt (timed_nodes proc) clock stages → IsPipeline (pipeline_of ir.channels proc stages)) → IsNet (network_of ir) → AreLegal clock ir.procs schedules
    → IsBlock (block_of ir schedules depths)
unfolding activation
package_is_block ir clock schedules depths pipelines net legal = record {
  legal = λ p q e. let a = at p q e in subst IsPipeline a.is (pipelines p a.proc a.stages a.there a.legal);
  receivers = λ p i q site e f g. receives p i q site e f g;
  sources = λ p i q site e f g.
      let own = site_of p i q site e f in
      let chan = there_at (map chan_of ir.channels) site.chan (net.site p i site own) in
      (chan.0, chan.1, net.no_receive p i site chan.0 own g chan.1);
}
  where
    at : (p : ℕ) (q : Pipeline) → slice_get (pipelines_of ir.channels ir.procs schedules) p ≡ Some q → PipelineAt ir.channels clock ir.procs p q
    at p q e = pipeline_at ir.channels clock ir.procs schedules legal p q e

    site_of : (p i : ℕ) (q : Pipeline) (site : Site) → slice_get (pipelines_of ir.channels ir.procs schedules) p ≡ Some q → slice_get q.proc.behavior.sites i ≡ Some site → IsSiteOf (network_of ir) p i site
    site_of p i q site e f =
        let a = at p q e in
        record { head = head_of a.proc; proc = slice_get-map head_of ir.procs p ∙ ap (λ o. option_map head_of o) a.there; place = subst (λ (r : Pipeline). slice_get r.proc.behavior.sites i ≡ Some site) (sym a.is) f }

    procs : List NetProc
    procs = map (λ (q : Pipeline). q.proc) (pipelines_of ir.channels ir.procs schedules)

    other : (p i : ℕ) (q : Pipeline) (site : Site) → slice_get (pipelines_of ir.channels ir.procs schedules) p ≡ Some q → slice_get q.proc.behavior.sites i ≡ Some site → site.sends ≡ false
        → (r : ℕ) (y : NetProc) → slice_get procs r ≡ Some y → receives_on site.chan y ≡ true → r ≡ p
    other p i q site e f g r y h k =
        let there = map_there (λ (o : Pipeline). o.proc) (pipelines_of ir.channels ir.procs schedules) r y h in
        let any = any_gives (λ (s : Site). not s.sends && (s.chan == site.chan)) y.behavior.sites k in
        let is = receives_there site.chan any.1 any.3 in
        let place : slice_get (there.0).proc.behavior.sites any.0 ≡ Some any.1 = ap (λ (o : NetProc). slice_get o.behavior.sites any.0) there.2 ∙ any.2 in
        net.one_proc r p any.0 i any.1 site (site_of r any.0 there.0 any.1 there.1 place) (site_of p i q site e f) is.1 (is.0 ∙ sym g)

    receives : (p i : ℕ) (q : Pipeline) (site : Site) → slice_get (pipelines_of ir.channels ir.procs schedules) p ≡ Some q → slice_get q.proc.behavior.sites i ≡ Some site → site.sends ≡ false → p ≡ index_of (receives_on site.chan) procs
    receives p i q site e f g =
        only_one (receives_on site.chan) procs p q.proc (slice_get-map (λ (r : Pipeline). r.proc) (pipelines_of ir.channels ir.procs schedules) p ∙ ap (λ o. option_map (λ (r : Pipeline). r.proc) o) e)
        (any_there (λ (s : Site). not s.sends && (s.chan == site.chan)) q.proc.behavior.sites i site f (receives_test site g))
        (λ r y h k. other p i q site e f g r y h k)
