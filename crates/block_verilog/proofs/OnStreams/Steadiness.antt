-- Words of a module that is always fed move in their rows.
use Rattle.std.proofs.Common.{◌≡◌, ℕ, zero, suc, ◌+◌, ◌*◌, ◌-◌, ◌<◌, ◌≤◌, Bool, true, false, List, [], ◌∷◌, ◌++◌, length, map, get_or, refl, sym, ap, ◌∙◌, subst, arith}
use Rattle.std.specs.Prelude.{slice_get, option_map, nat_lt, ◌&&◌, ◌||◌, ◌==◌, if◌then◌else◌, Option, Some, None}
use Rattle.std.specs.List.{list_any, AllByRecursion}
use Rattle.std.proofs.lemmas.Bool.{eqb-true, eq-eqb, and_parts}
use Rattle.std.proofs.lemmas.Bool.Decides.{nat_tests}
use Rattle.std.proofs.lemmas.Option.{slice_get-map}
use Rattle.xb_bits.specs.Word.{Word}
use Rattle.xb_value.specs.declared.value.Value.{Value}
use Rattle.net_core.specs.declared.net.Chan.{Chan}
use Rattle.net_core.specs.declared.net.Kind.{Kind}
use Rattle.net_core.specs.declared.net.Kind.TheVariants as kind
use Rattle.net_core.specs.declared.net.Site.{Site}
use Rattle.net_core.specs.Behavior.{Turn, Skip, Give}
use Rattle.net_core.specs.Cuts.{Proc as NetProc, index_of, sends_on}
use Rattle.net_core.specs.WellFormed.{IsNet, IsSiteOf}
use Rattle.ir_tree.specs.declared.node.Node.{Node}
use Rattle.ir_tree.specs.declared.node.Operand.{Operand}
use Rattle.ir_tree.specs.declared.node.Role.{Role}
use Rattle.ir_tree.specs.declared.node.Role.TheVariants as role
use Rattle.ir_tree.specs.declared.package.Channel.{Channel}
use Rattle.ir_tree.specs.declared.package.Ends.{Ends}
use Rattle.ir_tree.specs.declared.package.Ends.TheVariants as ends
use Rattle.ir_tree.specs.declared.package.Package.{Package}
use Rattle.ir_tree.specs.declared.package.Proc.{Proc}
use Rattle.ir_tree.specs.Activations.{activation, sites_by, sites_of, turns_by, turns_from, sent_by, setting_of}
use Rattle.ir_tree.specs.Networks.{network_of, head_of, chan_of, kind_of}
use Rattle.ir_tree.specs.NodeValues.{role_of, Setting, value_by, next_site}
use Rattle.pipe_schedule.specs.Legal.{IsLegalAt, stage_of, depth_of, greatest, interval_of}
use Rattle.pipe_schedule.specs.Timed.{timed_nodes, timed_proc}
use Rattle.ir_tree.specs.Rules.Verified.{IsVerified}
use Rattle.vlog_tree.specs.declared.module.Direction.TheVariants as direction
use Rattle.vlog_tree.specs.declared.module.VModule.{VModule}
use Rattle.vlog_tree.specs.declared.row.Drive.{Drive}
use Rattle.vlog_tree.specs.declared.row.Drive.TheVariants.{Offer, Ready}
use Rattle.vlog_tree.specs.declared.row.Outs.{Outs}
use Rattle.vlog_tree.specs.declared.row.Row.{Row}
use Rattle.vlog_tree.specs.Rows.{Runs, IsDriveOf, AreDrivesOf, zeros}
use Rattle.vlog_tree.specs.Signals as verilog
use Rattle.vlog_tree.specs.Signals.{channels_of}
use Rattle.vlog_tree.specs.Value.{Values}
use Rattle.block_stage.specs.Machine.Pipeline.{Pipeline}
use Rattle.block_stage.specs.Machine.Steady.{SendsOnce}
use Rattle.block_build.specs.Block.{Block, IsBlock}
use Rattle.block_build.specs.Fed.{IsOuter, IsRowFed, AreRowsFed}
use Rattle.block_build.specs.Rows.{State, InputRow, HasReset, state_after, sender_of, since_reset, moved_out}
use Rattle.block_verilog.specs.Outside.{word_offered, room_given, row_ports, input_row}
use Rattle.block_verilog.specs.Widths.{IsInputRow, AreInputRows}
use Rattle.block_verilog.specs.Schedule.Pipelines.{with_site, site_stages, pipeline_of, pipelines_of, block_of, AreLegal}
use Rattle.block_verilog.specs.Streams.Steadily.{IsSteady, AreSteady, NoneIsInner, IsOnlySend}
use Rattle.block_verilog.specs.Streams.Streams.{IsHardwareOf, SomeResets, rows_since, place_of, words_moved}
use Rattle.block_verilog.proofs.OnStreams.Moving.{IsMoved}
use Rattle.block_verilog.proofs.OnStreams.OnNetworks.{OutMoves, InMoves, at_power, module_moves, map_there}
use Rattle.block_verilog.proofs.OnStreams.OnPlaces.{IsOuterEnd, IsDirected, drive_there, directed_there}
use Rattle.block_verilog.proofs.OnStreams.OnRows.{resets_alike, since_alike, since_long, each_since, map_long}

-- ---- the site of a node

-- how many sites stand before a node
pub place_by : Role → ℕ → ℕ
place_by role.Pure i = i
place_by (role.Receive predicate c) i = suc i
place_by (role.Send predicate c) i = suc i

pub site_at : List Node → ℕ → ℕ
site_at [] i = 0
site_at (n ∷ nodes) zero = 0
site_at (n ∷ nodes) (suc i) = place_by (role_of n) (site_at nodes i)

first_sends : (r : Role) (c : ℕ) (sites : List Site) → r ≡ role.Send None c → slice_get (sites_by r sites) 0 ≡ Some (record { chan = c; sends = true })
first_sends r c sites e = ap (λ x. slice_get (sites_by x sites) 0) e

site_behind : (r : Role) (sites : List Site) (i : ℕ) → slice_get (sites_by r sites) (place_by r i) ≡ slice_get sites i
unfolding place_by
site_behind role.Pure sites i = refl
site_behind (role.Receive predicate c) sites i = refl
site_behind (role.Send predicate c) sites i = refl

site_there : (nodes : List Node) (i c : ℕ) (node : Node) → slice_get nodes i ≡ Some node → role_of node ≡ role.Send None c → slice_get (sites_of nodes) (site_at nodes i) ≡ Some (record { chan = c; sends = true })
unfolding site_at
site_there [] i c node there e = absurd (cc)
site_there (n ∷ nodes) zero c node there e = let same : n ≡ node = cc in first_sends (role_of n) c (sites_of nodes) (ap role_of same ∙ e)
site_there (n ∷ nodes) (suc i) c node there e = site_behind (role_of n) (sites_of nodes) (site_at nodes i) ∙ site_there nodes i c node there e

-- its stage is the node's
first_stage : (r : Role) (c stage : ℕ) (stages : List ℕ) → r ≡ role.Send None c → get_or (with_site r stage stages) 0 0 ≡ stage
first_stage r c stage stages e = ap (λ x. get_or (with_site x stage stages) 0 0) e

stage_behind : (r : Role) (stage : ℕ) (stages : List ℕ) (i : ℕ) → get_or (with_site r stage stages) (place_by r i) 0 ≡ get_or stages i 0
unfolding place_by
stage_behind role.Pure stage stages i = refl
stage_behind (role.Receive predicate c) stage stages i = refl
stage_behind (role.Send predicate c) stage stages i = refl

stage_there : (nodes : List Node) (stages : List ℕ) (i c : ℕ) (node : Node) → length stages ≡ length nodes → slice_get nodes i ≡ Some node → role_of node ≡ role.Send None c → get_or (site_stages nodes stages) (site_at nodes i) 0 ≡ get_or stages i 0
unfolding site_at
stage_there [] stages i c node long there e = absurd (cc)
stage_there (n ∷ nodes) [] i c node long there e = absurd (omega (arith, long))
stage_there (n ∷ nodes) (stage ∷ stages) zero c node long there e = let same : n ≡ node = cc in first_stage (role_of n) c stage (site_stages nodes stages) (ap role_of same ∙ e)
stage_there (n ∷ nodes) (stage ∷ stages) (suc i) c node long there e = stage_behind (role_of n) stage (site_stages nodes stages) (site_at nodes i) ∙ stage_there nodes stages i c node (omega (arith, long)) there e

-- it sends in each activation
abbrev Gives : Turn → Type 0
Gives turn = (w : Word) × (turn ≡ Give w)

first_gives : (m : Setting) (values : List Value) (n : Node) (r : Role) (c : ℕ) (turns : List Turn) → r ≡ role.Send None c → Gives (get_or (turns_by m values n r turns) 0 Skip)
first_gives m values n r c turns e = subst (λ x. Gives (get_or (turns_by m values n x turns) 0 Skip)) (sym e) (sent_by n m.state values, refl)

turn_behind : (m : Setting) (values : List Value) (n : Node) (r : Role) (turns : List Turn) (i : ℕ) → get_or (turns_by m values n r turns) (place_by r i) Skip ≡ get_or turns i Skip
unfolding place_by
turn_behind m values n role.Pure turns i = refl
turn_behind m values n (role.Receive predicate c) turns i = refl
turn_behind m values n (role.Send predicate c) turns i = refl

turn_there : (m : Setting) (values : List Value) (k : ℕ) (nodes : List Node) (i c : ℕ) (node : Node) → slice_get nodes i ≡ Some node → role_of node ≡ role.Send None c → Gives (get_or (turns_from m values k nodes) (site_at nodes i) Skip)
unfolding site_at turns_from
turn_there m values k [] i c node there e = absurd (cc)
turn_there m values k (n ∷ nodes) zero c node there e =
    let same : n ≡ node = cc in
    first_gives m values n (role_of n) c (turns_from m (values ++ value_by m values k n ∷ []) (next_site k (role_of n)) nodes) (ap role_of same ∙ e)
turn_there m values k (n ∷ nodes) (suc i) c node there e =
    let more = values ++ value_by m values k n ∷ [] in
    let next = next_site k (role_of n) in
    subst Gives (sym (turn_behind m values n (role_of n) (turns_from m more next nodes) (site_at nodes i))) (turn_there m more next nodes i c node there e)

-- and no other sends on its channel
record SendingNode (nodes : List Node) (c k : ℕ) : Type 0 where
  pub index : ℕ
  pub node : Node
  pub predicate : Option Operand
  pub there : slice_get nodes index ≡ Some node
  pub sends : role_of node ≡ role.Send predicate c
  pub place : site_at nodes index ≡ k

sending_behind : (n : Node) (nodes : List Node) (c k : ℕ) → SendingNode nodes c k → SendingNode (n ∷ nodes) c (place_by (role_of n) k)
unfolding site_at
sending_behind n nodes c k s = record { index = suc s.index; node = s.node; predicate = s.predicate; there = s.there; sends = s.sends; place = ap (place_by (role_of n)) s.place }

sending_node : (nodes : List Node) (k c : ℕ) (site : Site) → slice_get (sites_of nodes) k ≡ Some site → site.sends ≡ true → site.chan ≡ c → SendingNode nodes c k
unfolding site_at place_by
sending_node [] k c site there sends same = absurd (cc)
sending_node (n ∷ nodes) k c site there sends same = at (role_of n) refl k there (λ j here. sending_node nodes j c site here sends same)
  where
    at : (r : Role) → role_of n ≡ r → (j : ℕ) → slice_get (sites_by r (sites_of nodes)) j ≡ Some site → ((i : ℕ) → slice_get (sites_of nodes) i ≡ Some site → SendingNode nodes c i) → SendingNode (n ∷ nodes) c j
    at role.Pure e j here rest = subst (λ x. SendingNode (n ∷ nodes) c (place_by x j)) e (sending_behind n nodes c j (rest j here))
    at (role.Receive predicate d) e zero here rest =
        let off : false ≡ true = ap sends_or here ∙ sends in
        absurd (cc)
      where
        sends_or : Option Site → Bool
        sends_or None = false
        sends_or (Some s) = s.sends
    at (role.Receive predicate d) e (suc j) here rest = subst (λ x. SendingNode (n ∷ nodes) c (place_by x j)) e (sending_behind n nodes c j (rest j here))
    at (role.Send predicate d) e zero here rest =
        let chan : d ≡ c = ap (λ o. chan_or o) here ∙ same in
        record { index = 0; node = n; predicate = predicate; there = refl; sends = e ∙ ap (role.Send predicate) chan; place = refl }
      where
        chan_or : Option Site → ℕ
        chan_or None = 0
        chan_or (Some s) = s.chan
    at (role.Send predicate d) e (suc j) here rest = subst (λ x. SendingNode (n ∷ nodes) c (place_by x j)) e (sending_behind n nodes c j (rest j here))

pub sends_once : (channels : List Channel) (proc : Proc) (stages : List ℕ) (i c : ℕ) → IsOnlySend proc i c → SendsOnce (pipeline_of channels proc stages) c (site_at proc.nodes i)
unfolding activation
sends_once channels proc stages i c only = record {
  site = record { chan = c; sends = true };
  here = site_there proc.nodes i c only.node only.there only.sends;
  chan_is = refl;
  on = λ s got. turn_there (setting_of channels proc.nodes s got) [] 0 proc.nodes i c only.node only.there only.sends;
  alone = λ k other there sends same.
      let own = sending_node proc.nodes k c other there sends same in
      sym own.place ∙ ap (site_at proc.nodes) (only.alone own.index own.node own.predicate own.there own.sends);
}

-- ---- the proc of a channel

-- the only one that passes a test is the first
only_one : {A : Type 0} (test : A → Bool) (xs : List A) (p : ℕ) (x : A) → slice_get xs p ≡ Some x → test x ≡ true → ((q : ℕ) (y : A) → slice_get xs q ≡ Some y → test y ≡ true → q ≡ p) → index_of test xs ≡ p
only_one test [] p x e is only = absurd (cc)
only_one test (y ∷ ys) zero x e is only = let same : y ≡ x = cc in ap (λ b. if b then 0 else suc (index_of test ys)) (ap test same ∙ is)
only_one test (y ∷ ys) (suc p) x e is only =
    go (test y) refl (only_one test ys p x e is (λ q z f h. let later = only (suc q) z f h in omega (arith, later)))
  where
    go : (t : Bool) → test y ≡ t → index_of test ys ≡ p → (if t then 0 else suc (index_of test ys)) ≡ suc p
    go true f rest = let first : 0 ≡ suc p = only 0 y refl f in absurd (omega (arith, first))
    go false f rest = ap suc rest

any_there : {A : Type 0} (test : A → Bool) (xs : List A) (i : ℕ) (x : A) → slice_get xs i ≡ Some x → test x ≡ true → list_any test xs ≡ true
any_there test [] i x e is = absurd (cc)
any_there test (y ∷ ys) zero x e is = let same : y ≡ x = cc in ap (λ b. b || list_any test ys) (ap test same ∙ is)
any_there test (y ∷ ys) (suc i) x e is = ap (λ b. test y || b) (any_there test ys i x e is) ∙ or_true (test y)
  where
    or_true : (b : Bool) → (b || true) ≡ true
    or_true true = refl
    or_true false = refl

any_gives : {A : Type 0} (test : A → Bool) (xs : List A) → list_any test xs ≡ true → (i : ℕ) × (x : A) × (slice_get xs i ≡ Some x) × (test x ≡ true)
any_gives test [] e = absurd (cc)
any_gives test (y ∷ ys) e = go (test y) refl e (λ f. any_gives test ys f)
  where
    go : (t : Bool) → test y ≡ t → (t || list_any test ys) ≡ true → (list_any test ys ≡ true → (i : ℕ) × (x : _) × (slice_get ys i ≡ Some x) × (test x ≡ true)) → (i : ℕ) × (x : _) × (slice_get (y ∷ ys) i ≡ Some x) × (test x ≡ true)
    go true f g rest = (0, y, refl, f)
    go false f g rest = let more = rest g in (suc more.0, more.1, more.2, more.3)

abbrev sends_at : ℕ → Site → Bool
sends_at c site = site.sends && (site.chan == c)

sends_there : (c : ℕ) (site : Site) → sends_at c site ≡ true → (site.sends ≡ true) × (site.chan ≡ c)
sends_there c site e = let both = and_parts site.sends (site.chan == c) e in (both.0, eqb-true site.chan c both.1)

pipeline_there : (channels : List Channel) (procs : List Proc) (schedules : List (List ℕ)) (p : ℕ) (proc : Proc) (stages : List ℕ) → slice_get procs p ≡ Some proc → slice_get schedules p ≡ Some stages
    → slice_get (pipelines_of channels procs schedules) p ≡ Some (pipeline_of channels proc stages)
pipeline_there channels [] schedules p proc stages there at = absurd (cc)
pipeline_there channels (x ∷ procs) [] p proc stages there at = absurd (cc)
pipeline_there channels (x ∷ procs) (s ∷ schedules) zero proc stages there at =
    let same : x ≡ proc = cc in
    let other : s ≡ stages = cc in
    ap (λ y. Some (pipeline_of channels y s)) same ∙ ap (λ y. Some (pipeline_of channels proc y)) other
pipeline_there channels (x ∷ procs) (s ∷ schedules) (suc p) proc stages there at = pipeline_there channels procs schedules p proc stages there at

legal_there : (clock : ℕ) (procs : List Proc) (schedules : List (List ℕ)) → AreLegal clock procs schedules → (p : ℕ) (proc : Proc) (stages : List ℕ) → slice_get procs p ≡ Some proc → slice_get schedules p ≡ Some stages → IsLegalAt (timed_nodes proc) clock stages
legal_there clock [] schedules legal p proc stages there at = absurd (cc)
legal_there clock (x ∷ procs) [] legal p proc stages there at = absurd (cc)
legal_there clock (x ∷ procs) (s ∷ schedules) legal zero proc stages there at =
    let same : x ≡ proc = cc in
    let other : s ≡ stages = cc in
    subst (λ y. IsLegalAt (timed_nodes y) clock stages) same (subst (IsLegalAt (timed_nodes x) clock) other legal.0)
legal_there clock (x ∷ procs) (s ∷ schedules) legal (suc p) proc stages there at = legal_there clock procs schedules legal.1 p proc stages there at

-- what is known of the pipeline of an index
record AtPipeline (channels : List Channel) (procs : List Proc) (p : ℕ) (q : Pipeline) : Type 0 where
  pub proc : Proc
  pub stages : List ℕ
  pub there : slice_get procs p ≡ Some proc
  pub is : pipeline_of channels proc stages ≡ q

at_pipeline : (channels : List Channel) (procs : List Proc) (schedules : List (List ℕ)) (p : ℕ) (q : Pipeline) → slice_get (pipelines_of channels procs schedules) p ≡ Some q → AtPipeline channels procs p q
at_pipeline channels [] schedules p q e = absurd (cc)
at_pipeline channels (proc ∷ procs) [] p q e = absurd (cc)
at_pipeline channels (proc ∷ procs) (stages ∷ schedules) zero q e = record { proc = proc; stages = stages; there = refl; is = cc }
at_pipeline channels (proc ∷ procs) (stages ∷ schedules) (suc p) q e =
    let rest = at_pipeline channels procs schedules p q e in
    record { proc = rest.proc; stages = rest.stages; there = rest.there; is = rest.is }

module _ (ir : Package) (schedules : List (List ℕ)) (depths : List ℕ) (net : IsNet (network_of ir)) where
  abbrev block : Block
  block = block_of ir schedules depths

  site_of_net : (p : ℕ) (proc : Proc) (i : ℕ) (site : Site) → slice_get ir.procs p ≡ Some proc → slice_get (sites_of proc.nodes) i ≡ Some site → IsSiteOf (network_of ir) p i site
  site_of_net p proc i site there here = record { head = head_of proc; proc = slice_get-map head_of ir.procs p ∙ ap (option_map head_of) there; place = here }

  -- the proc with a send on a channel is the one that the block takes to send there
  pub sender_is : (p : ℕ) (proc : Proc) (stages : List ℕ) (i : ℕ) (site : Site) → slice_get ir.procs p ≡ Some proc → slice_get schedules p ≡ Some stages → slice_get (sites_of proc.nodes) i ≡ Some site → site.sends ≡ true → sender_of block site.chan ≡ p
  unfolding activation
  sender_is p proc stages i site there at here sends =
      only_one (sends_on site.chan) (map (λ (q : Pipeline). q.proc) (pipelines_of ir.channels ir.procs schedules)) p (pipeline_of ir.channels proc stages).proc
      (slice_get-map (λ (q : Pipeline). q.proc) (pipelines_of ir.channels ir.procs schedules) p ∙ ap (option_map (λ (q : Pipeline). q.proc)) (pipeline_there ir.channels ir.procs schedules p proc stages there at))
      (any_there (sends_at site.chan) (sites_of proc.nodes) i site here (ap (λ b. b && (site.chan == site.chan)) sends ∙ eq-eqb site.chan site.chan refl))
      other
    where
      other : (r : ℕ) (y : NetProc) → slice_get (map (λ (q : Pipeline). q.proc) (pipelines_of ir.channels ir.procs schedules)) r ≡ Some y → sends_on site.chan y ≡ true → r ≡ p
      other r y e h =
          let own = map_there (λ (q : Pipeline). q.proc) (pipelines_of ir.channels ir.procs schedules) r y e in
          let known = at_pipeline ir.channels ir.procs schedules r own.0 own.1 in
          let same : (pipeline_of ir.channels known.proc known.stages).proc ≡ y = ap (λ (q : Pipeline). q.proc) known.is ∙ own.2 in
          let any = any_gives (sends_at site.chan) (sites_of known.proc.nodes) (ap (λ (x : NetProc). sends_on site.chan x) same ∙ h) in
          let is = sends_there site.chan any.1 any.3 in
          net.one_proc r p any.0 i any.1 site (site_of_net r known.proc any.0 any.1 known.there any.2) (site_of_net p proc i site there here) is.1 (is.0 ∙ sym sends)

  -- without inner channels a proc's ends are outside
  pub proc_is_outer : NoneIsInner ir.channels → (p : ℕ) (proc : Proc) (stages : List ℕ) → slice_get ir.procs p ≡ Some proc → IsOuter block (pipeline_of ir.channels proc stages)
  unfolding activation
  proc_is_outer none p proc stages there i site here =
      let own = site_of_net p proc i site there here in
      let chan = chan_within (map chan_of ir.channels) site.chan (net.site p i site own) in
      (chan.0, chan.1, by_kind (chan.0).kind site.sends (not_inner chan.0 chan.1) (λ f k. net.no_send p i site chan.0 own f chan.1 k) (λ f k. net.no_receive p i site chan.0 own f chan.1 k))
    where
      chan_within : (xs : List Chan) (k : ℕ) → k < length xs → (x : Chan) × (slice_get xs k ≡ Some x)
      chan_within [] k l = absurd (omega (arith, l))
      chan_within (x ∷ xs) zero l = (x, refl)
      chan_within (x ∷ xs) (suc k) l = chan_within xs k (omega (arith, l))

      not_inner : (chan : Chan) → slice_get (map chan_of ir.channels) site.chan ≡ Some chan → chan.kind ≡ kind.Inner → ⊥
      not_inner chan at k =
          let channel = map_there chan_of ir.channels site.chan chan at in
          none site.chan channel.0 channel.1 (ap (λ (x : Chan). x.kind) channel.2 ∙ k)

      by_kind : (k : Kind) (b : Bool) → (k ≡ kind.Inner → ⊥) → (b ≡ true → k ≡ kind.Input → ⊥) → (b ≡ false → k ≡ kind.Output → ⊥) → k ≡ (if b then kind.Output else kind.Input)
      by_kind kind.Input true x y z = absurd (y refl refl)
      by_kind kind.Input false x y z = refl
      by_kind kind.Output true x y z = refl
      by_kind kind.Output false x y z = absurd (z refl refl)
      by_kind kind.Inner b x y z = absurd (x refl)

-- ---- rows that are fed

drive_within : (channels : List verilog.Channel) (drives : List Drive) → AreDrivesOf channels drives → (k : ℕ) (own : verilog.Channel) → slice_get channels k ≡ Some own → (d : Drive) × (slice_get drives k ≡ Some d) × IsDriveOf own d
drive_within [] drives fit k own there = absurd (cc)
drive_within (x ∷ channels) [] fit k own there = absurd fit
drive_within (x ∷ channels) (d ∷ drives) fit zero own there = let same : x ≡ own = cc in (d, refl, subst (λ y. IsDriveOf y d) same fit.0)
drive_within (x ∷ channels) (d ∷ drives) fit (suc k) own there = drive_within channels drives fit.1 k own there

each_there : {A : Type 0} (P : A → Type 0) (xs : List A) (k : ℕ) (x : A) → AllByRecursion P xs → slice_get xs k ≡ Some x → P x
each_there P [] k x h there = absurd (cc)
each_there P (y ∷ xs) zero x h there = let same : y ≡ x = cc in subst P same h.0
each_there P (y ∷ xs) (suc k) x h there = each_there P xs k x h.1 there

word_there : (d : Drive) (own : verilog.Channel) → IsDriveOf own d → IsSteady d → own.direction ≡ direction.Input → (w : Word) × (word_offered (Some d) ≡ Some w)
word_there (Offer None) own fit steady e = absurd steady
word_there (Offer (Some w)) own fit steady e = (w, refl)
word_there (Ready ready) own fit steady e = absurd (let both = sym e ∙ fit in cc)

room_there : (d : Drive) (own : verilog.Channel) → IsDriveOf own d → IsSteady d → own.direction ≡ direction.Output → room_given (Some d) ≡ true
room_there (Offer None) own fit steady e = absurd steady
room_there (Offer (Some w)) own fit steady e = absurd (let both = sym e ∙ fit.0 in cc)
room_there (Ready ready) own fit steady e = steady

is_input : (e : Ends) → kind_of e ≡ kind.Input → e ≡ ends.Input
is_input ends.Input h = refl
is_input ends.Output h = absurd (cc)
is_input (ends.Inner depth) h = absurd (cc)

is_output : (e : Ends) → kind_of e ≡ kind.Output → e ≡ ends.Output
is_output ends.Input h = absurd (cc)
is_output ends.Output h = refl
is_output (ends.Inner depth) h = absurd (cc)

row_fed : (m : VModule) (ir : Package) (schedules : List (List ℕ)) (depths : List ℕ) → IsHardwareOf m ir schedules depths → (row : Row) → IsInputRow m row → AllByRecursion IsSteady row.channels → IsRowFed (block_of ir schedules depths) (row_ports ir.channels row)
row_fed m ir schedules depths is row fits steady = record {
  offers = λ c chan there k.
      let channel = map_there chan_of ir.channels c chan there in
      let e = is_input (channel.0).ends (ap (λ (x : Chan). x.kind) channel.2 ∙ k) in
      let own = subst (λ x. IsDirected channel.0 x (slice_get (channels_of m) (place_of ir.channels c))) e (directed_there m (zeros m) ir.channels is.made.ports c channel.0 channel.1) in
      let d = drive_within (channels_of m) row.channels fits.fits (place_of ir.channels c) own.0 own.1 in
      let w = word_there d.0 own.0 d.2 (each_there IsSteady row.channels (place_of ir.channels c) d.0 steady d.1) own.2 in
      (w.0, ap word_offered (drive_there ir.channels row.channels c channel.0 channel.1 (subst IsOuterEnd (sym e) tt) ∙ d.1) ∙ w.1);
  ready = λ c chan there k.
      let channel = map_there chan_of ir.channels c chan there in
      let e = is_output (channel.0).ends (ap (λ (x : Chan). x.kind) channel.2 ∙ k) in
      let own = subst (λ x. IsDirected channel.0 x (slice_get (channels_of m) (place_of ir.channels c))) e (directed_there m (zeros m) ir.channels is.made.ports c channel.0 channel.1) in
      let d = drive_within (channels_of m) row.channels fits.fits (place_of ir.channels c) own.0 own.1 in
      let ready = room_there d.0 own.0 d.2 (each_there IsSteady row.channels (place_of ir.channels c) d.0 steady d.1) own.2 in
      ap room_given (drive_there ir.channels row.channels c channel.0 channel.1 (subst IsOuterEnd (sym e) tt) ∙ d.1) ∙ ready;
}

rows_fed : (m : VModule) (ir : Package) (schedules : List (List ℕ)) (depths : List ℕ) → IsHardwareOf m ir schedules depths → (rows : List Row) → AreInputRows m rows → AreSteady rows → AreRowsFed (block_of ir schedules depths) (map (row_ports ir.channels) rows)
rows_fed m ir schedules depths is [] fit steady = tt
rows_fed m ir schedules depths is (row ∷ rows) fit steady = (row_fed m ir schedules depths is row fit.0 steady.0, rows_fed m ir schedules depths is rows fit.1 steady.1)

-- ---- numbers

at_most : (stages : List ℕ) (i : ℕ) → get_or stages i 0 ≤ greatest stages
at_most [] zero = omega arith
at_most [] (suc i) = omega arith
at_most (k ∷ stages) zero = omega arith
at_most (k ∷ stages) (suc i) = let h = at_most stages i in omega (arith, h)

pub within_depth : (stages : List ℕ) (i : ℕ) → stage_of stages i < depth_of stages
within_depth stages i = let l = at_most stages i in omega (arith, l)

is_less : (a b : ℕ) → nat_lt a b ≡ true → a < b
is_less a b e = grind (arith, nat_tests)

is_no_less : (a b : ℕ) → nat_lt a b ≡ false → b ≤ a
is_no_less a b e = grind (arith, nat_tests)

-- how many pass a test is known by the tests
count_is : (count rows s : ℕ) → ((k : ℕ) → nat_lt k count ≡ nat_lt (k + s) rows) → count ≡ rows - s
count_is count rows s h = at (nat_lt count (rows - s)) refl (nat_lt (rows - s) count) refl
  where
    never_less : (a : ℕ) → nat_lt a a ≡ false
    never_less a = grind (arith, nat_tests)

    not_past : nat_lt (rows - s + s) rows ≡ true → ⊥
    not_past e = let l = is_less (rows - s + s) rows e in absurd (omega (arith, l))

    at : (b : Bool) → nat_lt count (rows - s) ≡ b → (d : Bool) → nat_lt (rows - s) count ≡ d → count ≡ rows - s
    at true e d f =
        let l = is_less count (rows - s) e in
        let inside : count + s < rows = omega (arith, l) in
        let g : nat_lt (count + s) rows ≡ false = sym (h count) ∙ never_less count in
        let past = is_no_less (count + s) rows g in
        absurd (omega (arith, inside, past))
    at false e true f = absurd (not_past (sym (h (rows - s)) ∙ f))
    at false e false f = let a = is_no_less count (rows - s) e in let b = is_no_less (rows - s) count f in omega (arith, a, b)

-- ---- the law

abbrev pub FedLaw : Type 0
FedLaw =
    (block : Block) → IsBlock block → (chan place : ℕ) (q : Pipeline) → slice_get block.pipelines (sender_of block chan) ≡ Some q → IsOuter block q → SendsOnce q chan place
    → (power : State) (rows : List InputRow) → HasReset rows → AreRowsFed block (since_reset [] rows)
    → (i : ℕ) → nat_lt i (length (moved_out block (state_after block power rows) chan)) ≡ nat_lt (i * suc q.last + q.stage place) (length (since_reset [] rows))

module _ (out_law : OutMoves) (in_law : InMoves) (fed_law : FedLaw) (net_law : (ir : Package) → IsVerified ir → IsNet (network_of ir)) (m : VModule) (ir : Package) (schedules : List (List ℕ)) (depths : List ℕ) (is : IsHardwareOf m ir schedules depths) (legal : IsBlock (block_of ir schedules depths))
    (none : NoneIsInner ir.channels) (rows : List Row) (outs : List Outs) (held : Values) (fit : AreInputRows m rows) (run : Runs m rows outs held) (resets : SomeResets rows) (steady : AreSteady (rows_since [] rows))
    (p i c : ℕ) (proc : Proc) (stages : List ℕ) (there : slice_get ir.procs p ≡ Some proc) (at : slice_get schedules p ≡ Some stages) (only : IsOnlySend proc i c) where
  abbrev fed_block : Block
  fed_block = block_of ir schedules depths

  abbrev q : Pipeline
  q = pipeline_of ir.channels proc stages

  abbrev block_rows : List InputRow
  block_rows = map (input_row ir.channels) rows

  abbrev state : State
  state = state_after fed_block (at_power fed_block) block_rows

  net : IsNet (network_of ir)
  net = net_law ir is.verified

  here : slice_get (sites_of proc.nodes) (site_at proc.nodes i) ≡ Some (record { chan = c; sends = true })
  here = site_there proc.nodes i c only.node only.there only.sends

  outer : IsOuter fed_block q
  outer = proc_is_outer ir schedules depths net none p proc stages there

  fed : AreRowsFed fed_block (since_reset [] block_rows)
  fed = subst (AreRowsFed fed_block) (sym (since_alike ir.channels rows)) (rows_fed m ir schedules depths is (rows_since [] rows) (each_since (IsInputRow m) [] rows tt fit) steady)

  sender : slice_get fed_block.pipelines (sender_of fed_block c) ≡ Some q
  sender =
      ap (slice_get (pipelines_of ir.channels ir.procs schedules)) (sender_is ir schedules depths net p proc stages (site_at proc.nodes i) (record { chan = c; sends = true }) there at here refl)
      ∙ pipeline_there ir.channels ir.procs schedules p proc stages there at

  -- what the channel moved is what the block moved there
  moved_is : words_moved m ir.channels rows outs c ≡ moved_out fed_block state c
  unfolding activation
  moved_is =
      let chan = outer (site_at proc.nodes i) (record { chan = c; sends = true }) here in
      let channel = map_there chan_of ir.channels c chan.0 chan.1 in
      let e = is_output (channel.0).ends (ap (λ (x : Chan). x.kind) channel.2 ∙ chan.2) in
      subst (λ x. IsMoved fed_block state c x (words_moved m ir.channels rows outs c)) e (module_moves out_law in_law m ir schedules depths is legal rows outs held fit run resets c channel.0 channel.1)

  stage_is : q.stage (site_at proc.nodes i) ≡ stage_of stages i
  stage_is =
      let count = (legal_there is.clock ir.procs schedules is.legal p proc stages there at).count in
      stage_there proc.nodes stages i c only.node (count ∙ map_long _ proc.nodes) only.there only.sends

  pub each_in_its_row : (k : ℕ) → nat_lt k (length (words_moved m ir.channels rows outs c)) ≡ nat_lt (k * interval_of (timed_proc proc) stages + stage_of stages i) (length (rows_since [] rows))
  each_in_its_row k =
      ap (λ ws. nat_lt k (length ws)) moved_is
      ∙ fed_law fed_block legal c (site_at proc.nodes i) q sender outer (sends_once ir.channels proc stages i c only) (at_power fed_block) block_rows (resets_alike ir.channels rows resets) fed k
      ∙ ap (λ s. nat_lt (k * interval_of (timed_proc proc) stages + s) (length (since_reset [] block_rows))) stage_is
      ∙ ap (nat_lt (k * interval_of (timed_proc proc) stages + stage_of stages i)) (since_long ir.channels rows)

  pub all_in_their_rows : interval_of (timed_proc proc) stages ≡ 1 → length (words_moved m ir.channels rows outs c) ≡ length (rows_since [] rows) - stage_of stages i
  all_in_their_rows one =
      count_is (length (words_moved m ir.channels rows outs c)) (length (rows_since [] rows)) (stage_of stages i)
      (λ k. each_in_its_row k ∙ ap (λ n. nat_lt (k * n + stage_of stages i) (length (rows_since [] rows))) one ∙ ap (λ n. nat_lt (n + stage_of stages i) (length (rows_since [] rows))) (let e : k * 1 ≡ k = omega arith in e))
