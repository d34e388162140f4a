-- A verified package that can be written can be read.
use Rattle.std.proofs.Common.{◌≡◌, ◌<◌, ◌≤◌, ℕ, zero, suc, ◌+◌, ◌-◌, ◌^◌, min, Bool, true, false, ◌&&◌, List, [], ◌∷◌, ◌++◌, map, length, codes, IsTrue, Some, Ok, refl, sym, ap, subst, ◌∙◌, arith}
use Rattle.std.specs.Prelude.{nat_eq, nat_lt, not, slice_get, get_or}
use Rattle.std.specs.List.{list_all}
use Rattle.std.proofs.lemmas.Bool.{and_parts}
use Rattle.std.proofs.lemmas.Bool.Decides.{nat_tests}
use Rattle.xb_span.specs.declared.span.Span.{Span}
use Rattle.xb_span.specs.declared.fault.Fault.TheVariants.{Passed}
use Rattle.xb_span.specs.declared.limit.What.TheVariants as what
use Rattle.xb_span.specs.Spans.{nowhere}
use Rattle.xb_value.specs.Width.{width_of}
use Rattle.ir_tree.specs.declared.package.Channel.{Channel}
use Rattle.ir_tree.specs.declared.package.Ends.{Ends}
use Rattle.ir_tree.specs.declared.package.Ends.TheVariants as ends
use Rattle.ir_tree.specs.declared.package.Package.{Package}
use Rattle.ir_tree.specs.declared.package.Proc.{Proc}
use Rattle.ir_tree.specs.Activations.{sites_of}
use Rattle.ir_tree.specs.Networks.{chan_of}
use Rattle.ir_tree.specs.Types.{ty_of}
use Rattle.ir_tree.specs.declared.rules.line_spans.ProcSpans.{ProcSpans}
use Rattle.ir_tree.specs.Rules.Checks.{Check, bounded}
use Rattle.ir_tree.specs.NodeTypes.Constants.{constant_fits}
use Rattle.ir_tree.specs.Rules.Fitting.{type_in, types_behind}
use Rattle.ir_tree.specs.Rules.Lines.{Seen, channel_checks, depth_in, head_checks, is_among, is_channel_named, is_channel_typed, is_name, is_named_well, is_proc_named, is_state, is_there, is_value_of, next_checks, package_checks, type_limits}
use Rattle.ir_tree.specs.NodeTypes.Types.{marks_of, same_type}
use Rattle.ir_tree.specs.Rules.Verified.{IsVerified, at_start, channels_checks, checks_of, count_check, first_fault, nodes_checks, nothing_seen, nowhere_at_all, nowhere_proc, proc_checks, procs_checks, seen_after}
use Rattle.ir_tree.specs.Rules.Typed.Typed.{none_broken}
use Rattle.ir_tree.proofs.Lemmas.Rules.Typed.Checked.{both_true, none_noted, not_not_true, parts_not}
use Rattle.ir_tree.proofs.Lemmas.Rules.Typed.{network_fits}
use Rattle.ir_tree.proofs.Lemmas.Rules.Typed.Tests.{nat_same}
use Rattle.ir_text.specs.Printer.Lines.{channel_text, lines_text, package_text, proc_text}
use Rattle.ir_builder.specs.Building.{package_of, spanned_of, spans_of}
use Rattle.ir_text.specs.Parser.Texts.{GivesPackage, accepted}
use Rattle.ir_text.specs.RoundTrip.InRange.{IsInRange}
use Rattle.ir_text.proofs.OnRoundTrip.Writable.{IsWritable, channel_writable, is_one_word, proc_writable, verified_writable}
use Rattle.ir_text.proofs.OnRoundTrip.Shortness.{IsBrief, channels_brief, parts_brief, procs_brief}
use Rattle.ir_text.proofs.OnRoundTrip.Held.{channel_held, constant_held, is_short, node_held, proc_held, type_held}
use Rattle.ir_text.proofs.OnRoundTrip.Walks.{IsReadTo}
use Rattle.ir_text.proofs.OnRoundTrip.Lists.{onto}
use Rattle.ir_text.proofs.OnRoundTrip.TypeTexts.{short_below}
use Rattle.ir_text.proofs.OnRoundTrip.ChannelTexts.{AreChannelsSaid, IsChannelSaid, IsDepthSaid, names_of}
use Rattle.ir_text.proofs.OnRoundTrip.ProcTexts.{AreProcsSaid, IsEnd, IsPackageSaid, IsProcSaid, package_reads}
use Rattle.ir_text.proofs.OnRoundTrip.Depths.{constant_flat, few_levels, type_flat}
use Rattle.ir_text.proofs.OnRoundTrip.LineSpans.{below_there, map_at, map_from, spanned}
use Rattle.ir_text.proofs.OnRoundTrip.VerifiedNodes.{AreChannelsNamed, proc_nodes}
use Rattle.ir_text.proofs.OnRoundTrip.Anywhere.{verified_there}

-- ---- channels

depth_small : (x : Ends) → nat_lt 4096 (min (depth_in x) (2 ^ 64 - 1)) ≡ false → IsDepthSaid x
depth_small ends.Input h = tt
depth_small ends.Output h = tt
depth_small (ends.Inner depth) h =
    let few : min depth (2 ^ 64 - 1) ≤ 4096 = grind (arith, nat_tests) in
    omega (arith, few)

not_of : (b : Bool) → IsTrue (not b) → b ≡ false
not_of true h = absurd (cc)
not_of false h = refl

channel_said : (span : Span) (names : List (List ℕ)) (place : ℕ) (ch : Channel) → place < 2 ^ 32 → IsTrue (none_broken (channel_checks span names place ch)) → channel_held ch ≡ true → IsChannelSaid 127 ch
channel_said span names place ch small h held =
    let a = both_true (not (not (is_channel_named names place ch))) _ h in
    let b = both_true (not (not (is_channel_typed ch))) _ a.1 in
    let c = both_true (not (nat_lt 128 (bounded (width_of (ty_of ch.ty))))) (not (nat_lt 4096 (bounded (depth_in ch.ends))) && none_broken (type_limits span.to ch.ty 0)) b.1 in
    let d = both_true (not (nat_lt 4096 (bounded (depth_in ch.ends)))) (none_broken (type_limits span.to ch.ty 0)) c.1 in
    let named = both_true (not (is_among names ch.name)) (nat_eq ch.id place && (is_name ch.name && is_named_well ch.ends ch.name)) (not_not_true (is_channel_named names place ch) a.0) in
    let id = nat_same ch.id place (both_true (nat_eq ch.id place) (is_name ch.name && is_named_well ch.ends ch.name) named.1).0 in
    let parts = and_parts (is_one_word ch.name) (type_held ch.ty) held in
    let levels = few_levels span.to ch.ty 0 (omega arith) d.1 in
    let flat = type_flat ch.ty in
    record {
      one = parts.0;
      id = omega (arith, id, small);
      ty = parts.1;
      nesting = omega (arith, levels, flat);
      ends = depth_small ch.ends (not_of _ d.0);
    }

channels_said : (spans : List Span) (names : List (List ℕ)) (place : ℕ) (chs : List Channel) → place + length chs < 2 ^ 32 → IsTrue (none_broken (channels_checks spans names place chs)) → list_all channel_held chs ≡ true → AreChannelsSaid 127 chs
channels_said spans names place [] few h held = tt
channels_said spans names place (ch ∷ chs) few h held =
    let parts = parts_not (channel_checks (get_or spans place nowhere) names place ch) (channels_checks spans (names ++ ch.name ∷ []) (suc place) chs) h in
    let held_parts = and_parts (channel_held ch) (list_all channel_held chs) held in
    (channel_said (get_or spans place nowhere) names place ch (omega arith) parts.0 held_parts.0, channels_said spans (names ++ ch.name ∷ []) (suc place) chs (omega arith) parts.1 held_parts.1)

each_held : (chs : List Channel) → list_all channel_held chs ≡ true → (i : ℕ) (ch : Channel) → slice_get chs i ≡ Some ch → channel_held ch ≡ true
each_held [] held i ch e = absurd (cc)
each_held (x ∷ xs) held zero ch e =
    let same : x ≡ ch = cc in
    subst (λ y. channel_held y ≡ true) same (and_parts (channel_held x) (list_all channel_held xs) held).0
each_held (x ∷ xs) held (suc i) ch e = each_held xs (and_parts (channel_held x) (list_all channel_held xs) held).1 i ch e

channels_named : (chs : List Channel) → length chs < 2 ^ 32 → list_all channel_held chs ≡ true → ((c d : ℕ) (a b : Channel) → slice_get chs c ≡ Some a → slice_get chs d ≡ Some b → a.name ≡ b.name → c ≡ d) → AreChannelsNamed chs (onto (names_of chs) [])
channels_named chs few held own place ch e = record {
  channel = ch;
  there = e;
  named = spanned (names_of chs) [] place ch.name (map_at (λ (x : Channel). x.name) chs place ch e) only ∙ ap Some (omega arith);
  small = let less = below_there chs place ch e in omega (arith, less, few);
  one = (and_parts (is_one_word ch.name) (type_held ch.ty) (each_held chs held place ch e)).0;
}
  where
    only : (j : ℕ) → place < j → slice_get (names_of chs) j ≡ Some ch.name → ⊥
    only j later f =
        let other = map_from (λ (x : Channel). x.name) chs j ch.name f in
        let same : place ≡ j = own place j ch other.0 e other.1 (sym other.2) in
        omega (arith, same, later)

own_channels : (ir : Package) → IsVerified ir → (c d : ℕ) (a b : Channel) → slice_get ir.channels c ≡ Some a → slice_get ir.channels d ≡ Some b → a.name ≡ b.name → c ≡ d
own_channels ir h c d a b e f g =
    (network_fits ir h).own_names c d (chan_of a) (chan_of b) (map_at chan_of ir.channels c a e) (map_at chan_of ir.channels d b f) g

-- ---- procs

proc_said : (channels : List Channel) (channel_names : List (List ℕ)) (line_spans : ProcSpans) (names : List (List ℕ)) (seen : Seen) (p : Proc) → AreChannelsNamed channels channel_names → IsTrue (none_broken (proc_checks channels line_spans names seen p)) → proc_held p ≡ true → IsProcSaid channels channel_names [] 126 p
proc_said channels channel_names line_spans names seen p named h held =
    let a = parts_not (head_checks line_spans.head names p) _ h in
    let b = parts_not (nodes_checks channels p.state line_spans.nodes [] 0 (at_start seen) p.nodes) _ a.1 in
    let c = parts_not (next_checks line_spans.next p) (count_check (Passed line_spans.end (record { what = what.Sites; found = 33; most = 32 })) 32 (length (sites_of p.nodes)) ∷ []) b.1 in
    let d = both_true (not (not (is_proc_named names p))) _ a.0 in
    let e = both_true (not (not (is_state p))) (none_broken (type_limits line_spans.head.to p.state 0)) d.1 in
    let state = both_true (marks_of p.state).sound (is_value_of p.state p.init) (not_not_true (is_state p) e.0) in
    let value = both_true (not (marks_of p.state).token) (constant_fits (ty_of p.state) p.init) state.1 in
    let next = both_true (not (not (is_there (length p.nodes) p.next))) (not (not (same_type p.state (type_in (types_behind p.state p.nodes) p.next))) && true) c.0 in
    let levels = few_levels line_spans.head.to p.state 0 (omega arith) e.1 in
    let flat = type_flat p.state in
    let deep = constant_flat p.state p.init value.1 in
    let first = and_parts (is_one_word p.name && (type_held p.state && constant_held p.init)) (list_all node_held p.nodes && is_short p.nodes) held in
    let one = and_parts (is_one_word p.name) (type_held p.state && constant_held p.init) first.0 in
    let two = and_parts (type_held p.state) (constant_held p.init) one.1 in
    let three = and_parts (list_all node_held p.nodes) (is_short p.nodes) first.1 in
    let nodes = proc_nodes channels channel_names p.state line_spans.nodes p.nodes (at_start seen) named b.0 three.0 in
    record {
      one = one.0;
      state = two.0;
      state_nesting = omega (arith, levels, flat);
      init = two.1;
      init_nesting = omega (arith, levels, deep);
      nodes = nodes.said;
      few = short_below p.nodes three.1;
      next = nodes.operand p.next (not_not_true (is_there (length p.nodes) p.next) next.0);
    }

procs_said : (channels : List Channel) (channel_names : List (List ℕ)) (line_spans : List ProcSpans) (names : List (List ℕ)) (place : ℕ) (seen : Seen) (ps : List Proc) → AreChannelsNamed channels channel_names → IsTrue (none_broken (procs_checks channels line_spans names place seen ps)) → list_all proc_held ps ≡ true → AreProcsSaid channels channel_names [] 126 ps
procs_said channels channel_names line_spans names place seen [] named h held = tt
procs_said channels channel_names line_spans names place seen (p ∷ ps) named h held =
    let parts = parts_not (proc_checks channels (get_or line_spans place nowhere_proc) names seen p) (procs_checks channels line_spans (names ++ p.name ∷ []) (suc place) (seen_after 0 (at_start seen) p.nodes) ps) h in
    let held_parts = and_parts (proc_held p) (list_all proc_held ps) held in (
      proc_said channels channel_names (get_or line_spans place nowhere_proc) names seen p named parts.0 held_parts.0,
      procs_said channels channel_names line_spans (names ++ p.name ∷ []) (suc place) (seen_after 0 (at_start seen) p.nodes) ps named parts.1 held_parts.1,
    )

-- ---- packages

verified_checks : (ir : Package) → IsVerified ir → IsTrue (none_broken (checks_of ir nowhere_at_all))
unfolding first_fault
verified_checks ir h = none_noted (checks_of ir nowhere_at_all) h

abbrev counts : Package → List Check
counts ir =
    count_check (Passed 0 (record { what = what.Procs; found = 257; most = 256 })) 256 (length ir.procs)
    ∷ count_check (Passed 0 (record { what = what.Channels; found = 1025; most = 1024 })) 1024 (length ir.channels)
    ∷ []

abbrev all_procs : Package → List Check
all_procs ir = procs_checks ir.channels [] [] 0 (nothing_seen ir.channels) ir.procs ++ counts ir

few_of : (n : ℕ) → IsTrue (not (nat_lt 1024 n)) → n ≤ 1024
few_of n h = grind (arith, nat_tests)

package_said : (name : List ℕ) (channels : List Channel) (p : Proc) (ps : List Proc) → IsVerified (record { name = name; channels = channels; procs = p ∷ ps }) → IsWritable (record { name = name; channels = channels; procs = p ∷ ps }) → IsBrief (package_text (record { name = name; channels = channels; procs = p ∷ ps })) → IsPackageSaid name channels p ps
package_said name channels p ps h writable brief =
    let ir : Package = record { name = name; channels = channels; procs = p ∷ ps } in
    let a = parts_not (package_checks nowhere name (p ∷ ps)) (channels_checks [] [] 0 channels ++ all_procs ir) (verified_checks ir h) in
    let b = parts_not (channels_checks [] [] 0 channels) (all_procs ir) a.1 in
    let c = parts_not (procs_checks channels [] [] 0 (nothing_seen channels) (p ∷ ps)) (counts ir) b.1 in
    let d = both_true (not (nat_lt 256 (length (p ∷ ps)))) (not (nat_lt 1024 (length channels)) && true) c.1 in
    let few = few_of (length channels) (both_true (not (nat_lt 1024 (length channels))) true d.1).0 in
    let first = and_parts (is_one_word name && list_all channel_writable channels) (list_all proc_writable (p ∷ ps) && true) writable in
    let one = and_parts (is_one_word name) (list_all channel_writable channels) first.0 in
    let two = and_parts (list_all proc_writable (p ∷ ps)) true first.1 in
    let chan_lines = lines_text (map channel_text channels) in
    let proc_lines = lines_text (map (proc_text channels) (p ∷ ps)) in
    let e = parts_brief (codes "package ") (name ++ (codes "\n" ++ (chan_lines ++ proc_lines))) brief in
    let f = parts_brief name (codes "\n" ++ (chan_lines ++ proc_lines)) e.1 in
    let g = parts_brief (codes "\n") (chan_lines ++ proc_lines) f.1 in
    let i = parts_brief chan_lines proc_lines g.1 in
    let chan_held = channels_brief channels one.1 i.0 in
    let held = procs_brief channels (p ∷ ps) two.0 i.1 in
    let named = channels_named channels (omega arith) chan_held (own_channels ir h) in
    let procs = procs_said channels (onto (names_of channels) []) [] [] 0 (nothing_seen channels) (p ∷ ps) named c.0 held in
    record {
      one = one.0;
      lines = channels_said [] [] 0 channels (omega arith) b.0 chan_held;
      head = procs.0;
      tail = procs.1;
    }

gives : (name : List ℕ) (channels : List Channel) (p : Proc) (ps : List Proc) → IsVerified (record { name = name; channels = channels; procs = p ∷ ps }) → IsReadTo (package_text (record { name = name; channels = channels; procs = p ∷ ps })) (IsEnd (record { name = name; channels = channels; procs = p ∷ ps })) → GivesPackage (package_text (record { name = name; channels = channels; procs = p ∷ ps })) (Ok (record { name = name; channels = channels; procs = p ∷ ps }))
gives name channels p ps h r =
    let ir : Package = record { name = name; channels = channels; procs = p ∷ ps } in
    let built = (r.last).state in
    let same : package_of built ≡ ir = (r.holds).1 in
    subst (λ x. GivesPackage (package_text ir) (Ok x)) same
    (accepted (spanned_of built) r.is (verified_there (package_of built) (spans_of built) (subst IsVerified (sym same) h)))

of_procs : (name : List ℕ) (channels : List Channel) (procs : List Proc) → IsVerified (record { name = name; channels = channels; procs = procs }) → IsWritable (record { name = name; channels = channels; procs = procs }) → IsBrief (package_text (record { name = name; channels = channels; procs = procs })) → GivesPackage (package_text (record { name = name; channels = channels; procs = procs })) (Ok (record { name = name; channels = channels; procs = procs }))
of_procs name channels [] h writable brief =
    let first = and_parts (is_one_word name && list_all channel_writable channels) (true && false) writable in
    absurd (let never = first.1 in cc)
of_procs name channels (p ∷ ps) h writable brief = gives name channels p ps h (package_reads name channels p ps (package_said name channels p ps h writable brief))

-- the text of a verified package is that package
pub printed_reads : (ir : Package) → IsVerified ir → IsInRange ir → length (package_text ir) < 2 ^ 32 → GivesPackage (package_text ir) (Ok ir)
printed_reads ir h range brief = of_procs ir.name ir.channels ir.procs h (verified_writable ir h range) brief
