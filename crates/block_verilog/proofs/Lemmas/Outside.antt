-- What stands at the ports of a module in a row, channel by channel.
use Rattle.std.proofs.Common.{◌≡◌, ℕ, zero, suc, ◌+◌, List, [], ◌∷◌, ◌++◌, map, refl, sym, ap, ◌∙◌, subst, arith}
use Rattle.std.specs.Prelude.{slice_get, codes, drop, Some, None}
use Rattle.base.proofs.Lemmas.Lists.Indices.{slice_get-append_left}
use Rattle.std.proofs.lemmas.Option.{slice_get_within}
use Rattle.ir_tree.specs.declared.package.Channel.{Channel}
use Rattle.ir_tree.specs.declared.package.Ends.{Ends}
use Rattle.ir_tree.specs.declared.package.Ends.TheVariants as ends
use Rattle.vlog_tree.specs.declared.module.Assignment.{Assignment}
use Rattle.vlog_tree.specs.declared.module.Direction.{Direction}
use Rattle.vlog_tree.specs.declared.module.Direction.TheVariants as direction
use Rattle.vlog_tree.specs.declared.module.Port.{Port}
use Rattle.vlog_tree.specs.declared.module.VModule.{VModule}
use Rattle.vlog_tree.specs.declared.row.Drive.{Drive}
use Rattle.vlog_tree.specs.declared.row.Drive.TheVariants.{Offer, Ready}
use Rattle.vlog_tree.specs.declared.row.Row.{Row}
use Rattle.vlog_tree.specs.declared.signal.Role.{Role}
use Rattle.vlog_tree.specs.declared.signal.Role.TheVariants.{InputSignal, WireSignal}
use Rattle.vlog_tree.specs.Meaning.{IsNow, AreDriven}
use Rattle.vlog_tree.specs.Rows.{given, given_at, data_given, AreDrivesOf, IsRowOf}
use Rattle.vlog_tree.specs.Signals.{Declared, signals, declared_port, declared_own, port_role, channels_at, channel_of}
use Rattle.vlog_tree.specs.Signals as verilog
use Rattle.vlog_tree.specs.Value.{Values, expr_value}
use Rattle.vlog_tree.proofs.Lemmas.Settling.{each_prefix, each_back}
use Rattle.block_build.specs.declared.netlist.fifos.ChannelEnds.{ChannelEnds}
use Rattle.block_verilog.specs.Assembly.{drivers_by, port_drivers}
use Rattle.block_verilog.specs.Outside.{drive_by, drives_behind, drive_at, PortGiven, PortDriven}
use Rattle.block_verilog.specs.Ports.{declared, data_bits, channel_ports, ports_by, ports_of, module_ports, count_ports, ports_from}

-- ---- the ports of an outer channel, and those behind them

record ChannelThere (ports : List Port) (channel : Channel) (there back : Role) (rest : List Declared) : Type 0 where
  pub word : Port
  pub valid : Port
  pub ready : Port
  pub behind : List Port
  pub are : ports ≡ word ∷ valid ∷ ready ∷ behind
  pub rest_are : map declared_port behind ≡ rest
  pub word_role : port_role word.direction ≡ there
  pub valid_role : port_role valid.direction ≡ there
  pub ready_role : port_role ready.direction ≡ back
  pub wide : word.width ≡ data_bits channel

channel_there : (ports : List Port) (channel : Channel) (there back : Role) (rest : List Declared) → map declared_port ports ≡ channel_ports channel there back ++ rest → ChannelThere ports channel there back rest
channel_there [] channel there back rest e = absurd (cc)
channel_there (p ∷ []) channel there back rest e = absurd (cc)
channel_there (p ∷ q ∷ []) channel there back rest e = absurd (cc)
channel_there (p ∷ q ∷ r ∷ ports) channel there back rest e =
    let first : declared_port p ≡ declared (channel.name ++ codes "_data") there (data_bits channel) = cc in
    let second : declared_port q ≡ declared (channel.name ++ codes "_vld") there 1 = cc in
    let third : declared_port r ≡ declared (channel.name ++ codes "_rdy") back 1 = cc in
    let behind : map declared_port ports ≡ rest = cc in
    record {
      word = p;
      valid = q;
      ready = r;
      behind = ports;
      are = refl;
      rest_are = behind;
      word_role = ap (λ (x : Declared). x.role) first;
      valid_role = ap (λ (x : Declared). x.role) second;
      ready_role = ap (λ (x : Declared). x.role) third;
      wide = ap (λ (x : Declared). x.width) first;
    }

input_of : (x : Direction) → port_role x ≡ InputSignal → x ≡ direction.Input
input_of direction.Input e = refl
input_of direction.Output e = absurd (cc)

output_of : (x : Direction) → port_role x ≡ WireSignal → x ≡ direction.Output
output_of direction.Input e = absurd (cc)
output_of direction.Output e = refl

-- ---- what is given there

-- at those among ports from number k on that are inputs these values have what is given
abbrev GivenFrom : Values → ℕ → List Port → List Drive → Type 0
GivenFrom v k ports drives = (j : ℕ) (d : Declared) → slice_get (map declared_port ports) j ≡ Some d → d.role ≡ InputSignal → v (k + j) ≡ given_at (channels_at ports) drives j

input_given : (v : Values) (k : ℕ) (channel : Channel) (p q r : Port) (ports : List Port) (drives : List Drive) → port_role p.direction ≡ InputSignal → port_role q.direction ≡ InputSignal → p.width ≡ data_bits channel
    → AreDrivesOf (channels_at (p ∷ q ∷ r ∷ ports)) drives → GivenFrom v k (p ∷ q ∷ r ∷ ports) drives → PortGiven v channel ends.Input k (slice_get drives 0)
input_given v k channel p q r ports [] word valid wide fit given = absurd fit
input_given v k channel p q r ports (Offer o ∷ drives) word valid wide fit given =
    let none : k + 0 ≡ k = omega arith in (
      o,
      refl,
      ap v (sym none) ∙ given 0 (declared_port p) refl word ∙ ap (λ w. data_given w (Offer o)) wide,
      given 1 (declared_port q) refl valid,
    )
input_given v k channel p q r ports (Ready b ∷ drives) word valid wide fit given = absurd (let e = sym (input_of p.direction word) ∙ fit.0 in cc)

output_given : (v : Values) (k : ℕ) (channel : Channel) (p q r : Port) (ports : List Port) (drives : List Drive) → port_role p.direction ≡ WireSignal → port_role r.direction ≡ InputSignal
    → AreDrivesOf (channels_at (p ∷ q ∷ r ∷ ports)) drives → GivenFrom v k (p ∷ q ∷ r ∷ ports) drives → PortGiven v channel ends.Output k (slice_get drives 0)
output_given v k channel p q r ports [] word ready fit given = absurd fit
output_given v k channel p q r ports (Offer None ∷ drives) word ready fit given = absurd (let e = sym (output_of p.direction word) ∙ fit.0 in cc)
output_given v k channel p q r ports (Offer (Some w) ∷ drives) word ready fit given = absurd (let e = sym (output_of p.direction word) ∙ fit.0.0 in cc)
output_given v k channel p q r ports (Ready b ∷ drives) word ready fit given = (b, refl, given 2 (declared_port r) refl ready)

-- behind the ports of an outer channel
record BehindGiven (v : Values) (k : ℕ) (rest : List Declared) (drives : List Drive) : Type 0 where
  pub ports : List Port
  pub are : map declared_port ports ≡ rest
  pub fit : AreDrivesOf (channels_at ports) drives
  pub given : GivenFrom v k ports drives

outer_behind : (v : Values) (k : ℕ) (rest : List Declared) (p q r : Port) (ports : List Port) (drives : List Drive) → map declared_port ports ≡ rest → AreDrivesOf (channels_at (p ∷ q ∷ r ∷ ports)) drives → GivenFrom v k (p ∷ q ∷ r ∷ ports) drives
    → BehindGiven v (k + 3) rest (drop 1 drives)
outer_behind v k rest p q r ports [] are fit given = absurd fit
outer_behind v k rest p q r ports (d ∷ drives) are fit given = record {
  ports = ports;
  are = are;
  fit = fit.1;
  given = λ j e there role. let same : k + 3 + j ≡ k + suc (suc (suc j)) = omega arith in ap v same ∙ given (suc (suc (suc j))) e there role;
}

head_given : (v : Values) (k : ℕ) (channel : Channel) (e : Ends) (rest : List Declared) (ports : List Port) (drives : List Drive) → map declared_port ports ≡ ports_by channel e ++ rest → AreDrivesOf (channels_at ports) drives → GivenFrom v k ports drives
    → PortGiven v channel e k (drive_by e drives) × BehindGiven v (k + count_ports e) rest (drives_behind e drives)
head_given v k channel ends.Input rest ports drives are fit given =
    let h = channel_there ports channel InputSignal WireSignal rest are in
    let fit' = subst (λ ps. AreDrivesOf (channels_at ps) drives) h.are fit in
    let given' = subst (λ ps. GivenFrom v k ps drives) h.are given in
    (input_given v k channel h.word h.valid h.ready h.behind drives h.word_role h.valid_role h.wide fit' given', outer_behind v k rest h.word h.valid h.ready h.behind drives h.rest_are fit' given')
head_given v k channel ends.Output rest ports drives are fit given =
    let h = channel_there ports channel WireSignal InputSignal rest are in
    let fit' = subst (λ ps. AreDrivesOf (channels_at ps) drives) h.are fit in
    let given' = subst (λ ps. GivenFrom v k ps drives) h.are given in
    (output_given v k channel h.word h.valid h.ready h.behind drives h.word_role h.ready_role fit' given', outer_behind v k rest h.word h.valid h.ready h.behind drives h.rest_are fit' given')
head_given v k channel (ends.Inner depth) rest ports drives are fit given =
    let none : k + 0 ≡ k = omega arith in
    (tt, record { ports = ports; are = are; fit = fit; given = λ j d there role. ap (λ i. v (i + j)) none ∙ given j d there role })

channels_given : (v : Values) (k : ℕ) (channels : List Channel) (drives : List Drive) → BehindGiven v k (ports_of channels) drives
    → (c : ℕ) (channel : Channel) (port : ℕ) → slice_get channels c ≡ Some channel → slice_get (ports_from k channels) c ≡ Some port → PortGiven v channel channel.ends port (drive_at channels drives c)
channels_given v k [] drives h c channel port there at = absurd (cc)
channels_given v k (x ∷ channels) drives h zero channel port there at =
    let same : x ≡ channel = cc in
    let first : k ≡ port = cc in
    subst (λ n. PortGiven v channel channel.ends n (drive_by x.ends drives)) first
    (subst (λ (y : Channel). PortGiven v y y.ends k (drive_by x.ends drives)) same (head_given v k x x.ends (ports_of channels) h.ports drives h.are h.fit h.given).0)
channels_given v k (x ∷ channels) drives h (suc c) channel port there at =
    channels_given v (k + count_ports x.ends) channels (drives_behind x.ends drives) (head_given v k x x.ends (ports_of channels) h.ports drives h.are h.fit h.given).1 c channel port there at

-- behind `clk` and `rst`
first_given : (m : VModule) (row : Row) (held v : Values) (channels : List Channel) (ports : List Port) → m.ports ≡ ports → map declared_port ports ≡ module_ports channels → IsRowOf m row → IsNow m held (given m row) v
    → BehindGiven v 2 (ports_of channels) row.channels
first_given m row held v channels [] same are fit now = absurd (cc)
first_given m row held v channels (clk ∷ []) same are fit now = absurd (cc)
first_given m row held v channels (clk ∷ rst ∷ ports) same are fit now =
    let behind : map declared_port ports ≡ ports_of channels = cc in
    let all : channels_at ports ≡ verilog_channels = ap (λ ps. channels_at (drop 2 ps)) (sym same) in
    record {
      ports = ports;
      are = behind;
      fit = subst (λ cs. AreDrivesOf cs row.channels) (sym all) fit;
      given = λ j d there role.
          let at : 2 + j ≡ suc (suc j) = omega arith in
          let signal = ap (λ ps. slice_get (map declared_port ps ++ map declared_own m.declarations) (suc (suc j))) same
          ∙ slice_get-append_left (map declared_port ports) (map declared_own m.declarations) j (slice_get_within (map declared_port ports) j d there) ∙ there in
          ap v at ∙ now.inputs (suc (suc j)) d signal role ∙ ap (λ cs. given_at cs row.channels j) (sym all);
    }
  where
    verilog_channels : List verilog.Channel
    verilog_channels = verilog.channels_of m

pub ports_given : (m : VModule) (row : Row) (held v : Values) (channels : List Channel) → map declared_port m.ports ≡ module_ports channels → IsRowOf m row → IsNow m held (given m row) v
    → (c : ℕ) (channel : Channel) (port : ℕ) → slice_get channels c ≡ Some channel → slice_get (ports_from 2 channels) c ≡ Some port → PortGiven v channel channel.ends port (drive_at channels row.channels c)
ports_given m row held v channels are fit now = channels_given v 2 channels row.channels (first_given m row held v channels m.ports refl are fit now)

-- ---- what is driven there

one_driven : (v : Values) (e : Ends) (port : ℕ) (end : ChannelEnds) → AreDriven v (drivers_by port e end) → PortDriven v e port end
one_driven v ends.Input port end h = h.0
one_driven v ends.Output port end h = (h.0, h.1.0)
one_driven v (ends.Inner depth) port end h = tt

pub ports_driven : (v : Values) (channels : List Channel) (ports : List ℕ) (sides : List ChannelEnds) → AreDriven v (port_drivers channels ports sides)
    → (c : ℕ) (channel : Channel) (port : ℕ) (end : ChannelEnds) → slice_get channels c ≡ Some channel → slice_get ports c ≡ Some port → slice_get sides c ≡ Some end → PortDriven v channel.ends port end
ports_driven v [] ports sides h c channel port end there at said = absurd (cc)
ports_driven v (x ∷ channels) [] sides h c channel port end there at said = absurd (cc)
ports_driven v (x ∷ channels) (p ∷ ports) [] h c channel port end there at said = absurd (cc)
ports_driven v (x ∷ channels) (p ∷ ports) (s ∷ sides) h zero channel port end there at said =
    let e1 : x ≡ channel = cc in
    let e2 : p ≡ port = cc in
    let e3 : s ≡ end = cc in
    subst (λ (y : Channel). PortDriven v y.ends port end) e1
    (subst (λ n. PortDriven v x.ends n end) e2 (subst (PortDriven v x.ends p) e3 (one_driven v x.ends p s (each_prefix (λ (a : Assignment). v a.target.0 ≡ expr_value v a.value) (drivers_by p x.ends s) (port_drivers channels ports sides) h))))
ports_driven v (x ∷ channels) (p ∷ ports) (s ∷ sides) h (suc c) channel port end there at said =
    ports_driven v channels ports sides (each_back (λ (a : Assignment). v a.target.0 ≡ expr_value v a.value) (drivers_by p x.ends s) (port_drivers channels ports sides) h) c channel port end there at said
