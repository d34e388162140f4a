-- What stands at the place of a package's channel among its module's.
use Rattle.std.proofs.Common.{◌≡◌, ℕ, zero, suc, ◌+◌, ◌<◌, Bool, List, [], ◌∷◌, ◌++◌, length, map, get_or, refl, sym, ap, ap₂, ◌∙◌, subst, arith}
use Rattle.std.specs.Prelude.{slice_get, codes, drop, take, ◌-◌, Option, Some}
use Rattle.std.proofs.lemmas.List.{length-append}
use Rattle.std.proofs.Math.Seq.{take-append_seam}
use Rattle.std.proofs.lemmas.Option.{slice_get_within}
use Rattle.xb_bits.specs.Word.{Word}
use Rattle.ir_tree.specs.declared.package.Channel.{Channel}
use Rattle.ir_tree.specs.declared.package.Ends.{Ends}
use Rattle.ir_tree.specs.declared.package.Ends.TheVariants as ends
use Rattle.vlog_tree.specs.declared.module.Direction.{Direction}
use Rattle.vlog_tree.specs.declared.module.Direction.TheVariants as direction
use Rattle.vlog_tree.specs.declared.module.Port.{Port}
use Rattle.vlog_tree.specs.declared.module.VModule.{VModule}
use Rattle.vlog_tree.specs.declared.row.Drive.{Drive}
use Rattle.vlog_tree.specs.declared.row.Outs.{Outs}
use Rattle.vlog_tree.specs.declared.row.Row.{Row}
use Rattle.vlog_tree.specs.declared.row.Shown.{Shown}
use Rattle.vlog_tree.specs.declared.row.Shown.TheVariants as shown
use Rattle.vlog_tree.specs.declared.signal.Role.{Role}
use Rattle.vlog_tree.specs.declared.signal.Role.TheVariants.{InputSignal, WireSignal}
use Rattle.vlog_tree.specs.Rows.{is_one, shown_channel, shown_at, outs_of}
use Rattle.vlog_tree.specs.Signals.{Declared, declared_port, port_role, channel_of, channels_at, channels_of}
use Rattle.vlog_tree.specs.Signals as verilog
use Rattle.vlog_tree.specs.Value.{Values}
use Rattle.cycle_sim.specs.Cycles.CycleText.{moved_at, moved_by, moved_over}
use Rattle.block_verilog.specs.Outside.{drive_by, drives_behind, drive_at}
use Rattle.block_verilog.specs.Ports.{declared, data_bits, channel_ports, ports_by, ports_of, module_ports, count_ports, ports_from}
use Rattle.block_verilog.specs.Streams.Streams.{behind, place_of}

abbrev pub IsOuterEnd : Ends → Type 0
IsOuterEnd ends.Input = Unit {0}
IsOuterEnd ends.Output = Unit {0}
IsOuterEnd (ends.Inner depth) = ⊥

-- ---- what the outside does there

drive_first : (e : Ends) (drives : List Drive) → IsOuterEnd e → drive_by e drives ≡ slice_get drives 0
drive_first ends.Input drives outer = refl
drive_first ends.Output drives outer = refl
drive_first (ends.Inner depth) drives outer = absurd outer

drive_behind : (e : Ends) (drives : List Drive) (k : ℕ) → slice_get (drives_behind e drives) k ≡ slice_get drives (behind e k)
drive_behind ends.Input [] k = refl
drive_behind ends.Input (d ∷ drives) k = refl
drive_behind ends.Output [] k = refl
drive_behind ends.Output (d ∷ drives) k = refl
drive_behind (ends.Inner depth) drives k = refl

pub drive_there : (channels : List Channel) (drives : List Drive) (c : ℕ) (channel : Channel) → slice_get channels c ≡ Some channel → IsOuterEnd channel.ends → drive_at channels drives c ≡ slice_get drives (place_of channels c)
drive_there [] drives c channel there outer = absurd (cc)
drive_there (x ∷ channels) drives zero channel there outer = let same : x ≡ channel = cc in drive_first x.ends drives (subst (λ (y : Channel). IsOuterEnd y.ends) (sym same) outer)
drive_there (x ∷ channels) drives (suc c) channel there outer = drive_there channels (drives_behind x.ends drives) c channel there outer ∙ drive_behind x.ends drives (place_of channels c)

-- ---- the module's channels

-- the first of these is that of an outer channel, and others stand behind it
record FirstPorts (ports : List Port) (channel : Channel) (there : Role) (rest : List Declared) : Type 0 where
  pub word : Port
  pub valid : Port
  pub ready : Port
  pub left : List Port
  pub are : ports ≡ word ∷ valid ∷ ready ∷ left
  pub rest_are : map declared_port left ≡ rest
  pub role_is : port_role word.direction ≡ there
  pub name_is : (channel_of word).name ≡ channel.name

-- a data port's name is its channel's, and five bytes more
name_of : (name found : List ℕ) → found ≡ name ++ codes "_data" → take (length found - 5) found ≡ name
name_of name found e =
    let five : length (codes "_data") ≡ 5 = refl in
    let long = length-append name (codes "_data") in
    let rest : length (name ++ codes "_data") - 5 ≡ length name = omega (arith, five, long) in
    ap (λ x. take (length x - 5) x) e ∙ ap (λ n. take n (name ++ codes "_data")) rest ∙ take-append_seam name (codes "_data")

first_ports : (ports : List Port) (channel : Channel) (there back : Role) (rest : List Declared) → map declared_port ports ≡ channel_ports channel there back ++ rest → FirstPorts ports channel there rest
first_ports [] channel there back rest e = absurd (cc)
first_ports (p ∷ []) channel there back rest e = absurd (cc)
first_ports (p ∷ q ∷ []) channel there back rest e = absurd (cc)
first_ports (p ∷ q ∷ r ∷ ports) channel there back rest e =
    let first : declared_port p ≡ declared (channel.name ++ codes "_data") there (data_bits channel) = cc in
    let left : map declared_port ports ≡ rest = cc in
    record { word = p; valid = q; ready = r; left = ports; are = refl; rest_are = left; role_is = ap (λ (x : Declared). x.role) first; name_is = name_of channel.name p.name (ap (λ (x : Declared). x.name) first) }

input_of : (x : Direction) → port_role x ≡ InputSignal → x ≡ direction.Input
input_of direction.Input e = refl
input_of direction.Output e = absurd (cc)

output_of : (x : Direction) → port_role x ≡ WireSignal → x ≡ direction.Output
output_of direction.Input e = absurd (cc)
output_of direction.Output e = refl

-- what a module with these values shows at the ports from one on
abbrev pub IsShown : Values → Ends → ℕ → Option Shown → Type 0
IsShown v ends.Input port s = s ≡ Some (shown.Input (is_one (v (port + 2))))
IsShown v ends.Output port s = s ≡ Some (shown.Output (v port) (is_one (v (port + 1))))
IsShown v (ends.Inner depth) port s = Unit {0}

-- one of its channels, with this direction and name
abbrev pub IsDirected : Channel → Ends → Option verilog.Channel → Type 0
IsDirected channel ends.Input found = (own : verilog.Channel) × (found ≡ Some own) × (own.direction ≡ direction.Input) × (own.name ≡ channel.name)
IsDirected channel ends.Output found = (own : verilog.Channel) × (found ≡ Some own) × (own.direction ≡ direction.Output) × (own.name ≡ channel.name)
IsDirected channel (ends.Inner depth) found = Unit {0}

record HeadShown (v : Values) (k : ℕ) (channel : Channel) (e : Ends) (ports : List Port) (rest : List Declared) : Type 0 where
  pub here : IsShown v e k (slice_get (shown_at v k (channels_at ports)) 0)
  pub directed : IsDirected channel e (slice_get (channels_at ports) 0)
  pub left : List Port
  pub are : map declared_port left ≡ rest
  pub shown_left : (i : ℕ) → slice_get (shown_at v k (channels_at ports)) (behind e i) ≡ slice_get (shown_at v (k + count_ports e) (channels_at left)) i
  pub channels_left : (i : ℕ) → slice_get (channels_at ports) (behind e i) ≡ slice_get (channels_at left) i

head_shown : (v : Values) (k : ℕ) (channel : Channel) (e : Ends) (ports : List Port) (rest : List Declared) → map declared_port ports ≡ ports_by channel e ++ rest → HeadShown v k channel e ports rest
head_shown v k channel ends.Input ports rest are =
    let h = first_ports ports channel InputSignal WireSignal rest are in
    let dir = input_of h.word.direction h.role_is in
    subst (λ ps. HeadShown v k channel ends.Input ps rest) (sym h.are) (record {
      here = ap (λ d. Some (shown_channel v k d)) dir;
      directed = (channel_of h.word, refl, dir, h.name_is);
      left = h.left;
      are = h.rest_are;
      shown_left = λ i. refl;
      channels_left = λ i. refl;
    })
head_shown v k channel ends.Output ports rest are =
    let h = first_ports ports channel WireSignal InputSignal rest are in
    let dir = output_of h.word.direction h.role_is in
    subst (λ ps. HeadShown v k channel ends.Output ps rest) (sym h.are) (record {
      here = ap (λ d. Some (shown_channel v k d)) dir;
      directed = (channel_of h.word, refl, dir, h.name_is);
      left = h.left;
      are = h.rest_are;
      shown_left = λ i. refl;
      channels_left = λ i. refl;
    })
head_shown v k channel (ends.Inner depth) ports rest are =
    let none : k ≡ k + 0 = omega arith in
    record {
      here = tt;
      directed = tt;
      left = ports;
      are = are;
      shown_left = λ i. ap (λ n. slice_get (shown_at v n (channels_at ports)) i) none;
      channels_left = λ i. refl;
    }

shown_through : (v : Values) (e : Ends) (port : ℕ) (a b : Option Shown) → a ≡ b → IsShown v e port b → IsShown v e port a
shown_through v e port a b same h = subst (IsShown v e port) (sym same) h

ports_shown : (v : Values) (k : ℕ) (channels : List Channel) (ports : List Port) → map declared_port ports ≡ ports_of channels
    → (c : ℕ) (channel : Channel) (port : ℕ) → slice_get channels c ≡ Some channel → slice_get (ports_from k channels) c ≡ Some port → IsShown v channel.ends port (slice_get (shown_at v k (channels_at ports)) (place_of channels c))
ports_shown v k [] ports are c channel port there at = absurd (cc)
ports_shown v k (x ∷ channels) ports are zero channel port there at =
    let same : x ≡ channel = cc in
    let first : k ≡ port = cc in
    subst (λ n. IsShown v channel.ends n (slice_get (shown_at v k (channels_at ports)) 0)) first
    (subst (λ (y : Channel). IsShown v y.ends k (slice_get (shown_at v k (channels_at ports)) 0)) same (head_shown v k x x.ends ports (ports_of channels) are).here)
ports_shown v k (x ∷ channels) ports are (suc c) channel port there at =
    let h = head_shown v k x x.ends ports (ports_of channels) are in
    shown_through v channel.ends port _ _ (h.shown_left (place_of channels c)) (ports_shown v (k + count_ports x.ends) channels h.left h.are c channel port there at)

-- any values show the directions
ports_directed : (v : Values) (channels : List Channel) (ports : List Port) → map declared_port ports ≡ ports_of channels
    → (c : ℕ) (channel : Channel) → slice_get channels c ≡ Some channel → IsDirected channel channel.ends (slice_get (channels_at ports) (place_of channels c))
ports_directed v [] ports are c channel there = absurd (cc)
ports_directed v (x ∷ channels) ports are zero channel there =
    let same : x ≡ channel = cc in
    subst (λ (y : Channel). IsDirected y y.ends (slice_get (channels_at ports) 0)) same (head_shown v 0 x x.ends ports (ports_of channels) are).directed
ports_directed v (x ∷ channels) ports are (suc c) channel there =
    let h = head_shown v 0 x x.ends ports (ports_of channels) are in
    subst (IsDirected channel channel.ends) (sym (h.channels_left (place_of channels c))) (ports_directed v channels h.left h.are c channel there)

-- behind `clk` and `rst`
record BehindFirst (m : VModule) (channels : List Channel) : Type 0 where
  pub ports : List Port
  pub are : map declared_port ports ≡ ports_of channels
  pub channels_are : channels_of m ≡ channels_at ports

behind_first : (m : VModule) (channels : List Channel) (ports : List Port) → m.ports ≡ ports → map declared_port ports ≡ module_ports channels → BehindFirst m channels
behind_first m channels [] same are = absurd (cc)
behind_first m channels (clk ∷ []) same are = absurd (cc)
behind_first m channels (clk ∷ rst ∷ ports) same are = let left : map declared_port ports ≡ ports_of channels = cc in record { ports = ports; are = left; channels_are = ap (λ ps. channels_at (drop 2 ps)) same }

pub shown_there : (m : VModule) (v : Values) (channels : List Channel) → map declared_port m.ports ≡ module_ports channels
    → (c : ℕ) (channel : Channel) (port : ℕ) → slice_get channels c ≡ Some channel → slice_get (ports_from 2 channels) c ≡ Some port → IsShown v channel.ends port (slice_get (outs_of m v).channels (place_of channels c))
shown_there m v channels are c channel port there at =
    let b = behind_first m channels m.ports refl are in
    subst (λ cs. IsShown v channel.ends port (slice_get (shown_at v 2 cs) (place_of channels c))) (sym b.channels_are) (ports_shown v 2 channels b.ports b.are c channel port there at)

pub directed_there : (m : VModule) (v : Values) (channels : List Channel) → map declared_port m.ports ≡ module_ports channels
    → (c : ℕ) (channel : Channel) → slice_get channels c ≡ Some channel → IsDirected channel channel.ends (slice_get (channels_of m) (place_of channels c))
directed_there m v channels are c channel there =
    let b = behind_first m channels m.ports refl are in
    subst (λ cs. IsDirected channel channel.ends (slice_get cs (place_of channels c))) (sym b.channels_are) (ports_directed v channels b.ports b.are c channel there)

-- a channel's first port
pub port_there : (k : ℕ) (channels : List Channel) (c : ℕ) (channel : Channel) → slice_get channels c ≡ Some channel → (port : ℕ) × (slice_get (ports_from k channels) c ≡ Some port)
port_there k [] c channel there = absurd (cc)
port_there k (x ∷ channels) zero channel there = (k, refl)
port_there k (x ∷ channels) (suc c) channel there = port_there (k + count_ports x.ends) channels c channel there

-- ---- the words that moved there

pub moved_there : (reset : Bool) (drives : List Drive) (outs : List Shown) (moved : List (List Word)) (k : ℕ) (d : Drive) (s : Shown) → slice_get drives k ≡ Some d → slice_get outs k ≡ Some s → k < length moved
    → get_or (moved_by reset drives outs moved) k [] ≡ moved_at reset d s (get_or moved k [])
moved_there reset [] outs moved k d s there at l = absurd (cc)
moved_there reset (x ∷ drives) [] moved k d s there at l = absurd (cc)
moved_there reset (x ∷ drives) (y ∷ outs) [] k d s there at l = absurd (omega (arith, l))
moved_there reset (x ∷ drives) (y ∷ outs) (words ∷ moved) zero d s there at l =
    let same : x ≡ d = cc in
    let other : y ≡ s = cc in
    ap₂ (λ a b. moved_at reset a b words) same other
moved_there reset (x ∷ drives) (y ∷ outs) (words ∷ moved) (suc k) d s there at l = moved_there reset drives outs moved k d s there at (omega (arith, l))

pub moved_long : (reset : Bool) (drives : List Drive) (outs : List Shown) (moved : List (List Word)) → length (moved_by reset drives outs moved) ≡ length moved
moved_long reset [] outs moved = refl
moved_long reset (x ∷ drives) [] moved = refl
moved_long reset (x ∷ drives) (y ∷ outs) [] = refl
moved_long reset (x ∷ drives) (y ∷ outs) (words ∷ moved) = ap suc (moved_long reset drives outs moved)

pub moved_more : (rows : List Row) (outs : List Outs) (row : Row) (now : Outs) (moved : List (List Word)) → length outs ≡ length rows
    → moved_over (rows ++ row ∷ []) (outs ++ now ∷ []) moved ≡ moved_by row.reset row.channels now.channels (moved_over rows outs moved)
moved_more [] [] row now moved long = refl
moved_more [] (o ∷ outs) row now moved long = absurd (omega (arith, long))
moved_more (r ∷ rows) [] row now moved long = absurd (omega (arith, long))
moved_more (r ∷ rows) (o ∷ outs) row now moved long = moved_more rows outs row now (moved_by r.reset r.channels o.channels moved) (omega (arith, long))

-- ---- a place is one of the module's channels

shown_long : (v : Values) (k : ℕ) (channels : List verilog.Channel) → length (shown_at v k channels) ≡ length channels
shown_long v k [] = refl
shown_long v k (x ∷ channels) = ap suc (shown_long v (k + 3) channels)

pub shown_within : (m : VModule) (v : Values) (k : ℕ) (s : Shown) → slice_get (outs_of m v).channels k ≡ Some s → k < length (channels_of m)
shown_within m v k s there =
    let l = slice_get_within (outs_of m v).channels k s there in
    let long = shown_long v 2 (channels_of m) in
    omega (arith, l, long)
