-- What is known of a verified package: each of its procs, and that its network fits its procs' bodies.
use Rattle.std.proofs.Common.{◌≡◌, ℕ, zero, suc, ◌^◌, ◌<◌, ◌≤◌, List, [], ◌∷◌, ◌++◌, map, length, get_or, Bool, true, false, ◌&&◌, IsTrue, Some, refl, sym, ap, subst, ◌∙◌, arith}
use Rattle.std.specs.Prelude.{slice_get, not, nat_lt, ◌||◌, option_map}
use Rattle.std.specs.Str.{bytes_eq}
use Rattle.std.proofs.lemmas.Bool.Decides.{nat_tests}
use Rattle.std.proofs.lemmas.List.{length-map, length-replicate}
use Rattle.std.proofs.lemmas.List.Folds.{list_any-append}
use Rattle.std.proofs.lemmas.Slice.Eq.{bytes_eq-Decides}
use Rattle.xb_span.specs.declared.span.Span.{Span}
use Rattle.xb_value.specs.Typing.{IsOfType}
use Rattle.xb_value.specs.Width.{width_of}
use Rattle.xb_value.specs.Width as widths
use Rattle.net_core.specs.declared.net.Site.{Site}
use Rattle.net_core.specs.declared.net.Chan.{Chan}
use Rattle.net_core.specs.declared.net.ProcHead.{ProcHead}
use Rattle.net_core.specs.declared.net.Kind.TheVariants as kind
use Rattle.net_core.specs.Behavior.{Behavior, KeepsTypes}
use Rattle.net_core.specs.WellFormed.{IsNet, IsSiteOf, IsBehaviorFor, AreBehaviorsOf, EachKeepsTypes}
use Rattle.ir_tree.specs.declared.package.Channel.{Channel}
use Rattle.ir_tree.specs.declared.package.Ends.{Ends}
use Rattle.ir_tree.specs.declared.package.Ends.TheVariants as ends
use Rattle.ir_tree.specs.declared.package.Proc.{Proc}
use Rattle.ir_tree.specs.declared.package.Package.{Package}
use Rattle.ir_tree.specs.Types.{ty_of}
use Rattle.ir_tree.specs.Constants.{constant_value}
use Rattle.ir_tree.specs.NodeValues.{channel_type}
use Rattle.ir_tree.specs.Activations.{sites_of, width_at, activation}
use Rattle.ir_tree.specs.Networks.{kind_of, chan_of, head_of, network_of, behaviors_of}
use Rattle.ir_tree.specs.declared.rules.line_spans.ProcSpans.{ProcSpans}
use Rattle.xb_span.specs.declared.fault.Fault.TheVariants.{Passed}
use Rattle.xb_span.specs.declared.limit.What.TheVariants as what
use Rattle.xb_span.specs.Spans.{nowhere}
use Rattle.ir_tree.specs.Rules.Checks.{Check, bounded}
use Rattle.ir_tree.specs.NodeTypes.Constants.{constant_fits}
use Rattle.ir_tree.specs.NodeTypes.Types.{marks_of}
use Rattle.ir_tree.specs.Rules.Lines.{Seen, package_checks, channel_checks, head_checks, next_checks, is_among, is_channel_named, is_proc_named, is_channel_typed, depth_in, type_limits, is_state, is_value_of}
use Rattle.ir_tree.specs.Rules.Verified.{IsVerified, first_fault, nowhere_proc, nowhere_at_all, count_check, channels_checks, nodes_checks, proc_checks, procs_checks, nothing_seen, at_start, seen_after, checks_of}
use Rattle.ir_tree.specs.Rules.Typed.Typed.{none_broken, IsWordType, AreChannels, IsVerifiedProc}
use Rattle.ir_tree.proofs.Lemmas.Rules.Typed.Checked.{both_true, not_true, not_not_true, none_noted, parts_not}
use Rattle.ir_tree.proofs.Lemmas.Rules.Typed.Tests.{IsLimited, limited, limited_widths, has_some, widths_count}
use Rattle.ir_tree.proofs.OnRules.OnTyped.Operations.{constant_typed}
use Rattle.ir_tree.proofs.OnRules.OnTyped.Walks.{keeps_types}
use Rattle.ir_tree.proofs.OnRules.OnTyped.Ends.{HasEnds, IsAllowed, nodes_allowed, one_proc, procs_once}

-- ---- the parts of a package

verified_checks : (ir : Package) → IsVerified ir → IsTrue (none_broken (checks_of ir nowhere_at_all))
unfolding first_fault
verified_checks ir h = none_noted (checks_of ir nowhere_at_all) h

pub record AreChecked (ir : Package) : Type 0 where
  pub channels : IsTrue (none_broken (channels_checks [] [] 0 ir.channels))
  pub procs : IsTrue (none_broken (procs_checks ir.channels [] [] 0 (nothing_seen ir.channels) ir.procs))
  pub few_procs : length ir.procs ≤ 256
  pub few_channels : length ir.channels ≤ 1024

abbrev counts : Package → List Check
counts ir =
    count_check (Passed 0 (record { what = what.Procs; found = 257; most = 256 })) 256 (length ir.procs)
    ∷ count_check (Passed 0 (record { what = what.Channels; found = 1025; most = 1024 })) 1024 (length ir.channels)
    ∷ []

abbrev all_procs : Package → List Check
all_procs ir = procs_checks ir.channels [] [] 0 (nothing_seen ir.channels) ir.procs ++ counts ir

pub checked : (ir : Package) → IsVerified ir → AreChecked ir
checked ir h =
    let a = parts_not (package_checks nowhere ir.name ir.procs) (channels_checks [] [] 0 ir.channels ++ all_procs ir) (verified_checks ir h) in
    let b = parts_not (channels_checks [] [] 0 ir.channels) (all_procs ir) a.1 in
    let c = parts_not (procs_checks ir.channels [] [] 0 (nothing_seen ir.channels) ir.procs) (counts ir) b.1 in
    let d = both_true (not (nat_lt 256 (length ir.procs))) (not (nat_lt 1024 (length ir.channels)) && true) c.1 in
    let e = both_true (not (nat_lt 1024 (length ir.channels))) true d.1 in
    record {
      channels = b.0;
      procs = c.0;
      few_procs = grind (arith, nat_tests, d.0);
      few_channels = grind (arith, nat_tests, e.0);
    }

-- ---- channels

word_type : (span : Span) (names : List (List ℕ)) (place : ℕ) (c : Channel) → IsTrue (none_broken (channel_checks span names place c)) → IsWordType (ty_of c.ty)
word_type span names place c h =
    let a = both_true (not (not (is_channel_named names place c))) _ h in
    let b = both_true (not (not (is_channel_typed c))) _ a.1 in
    let typed = both_true (marks_of c.ty).sound _ (not_not_true (is_channel_typed c) b.0) in
    let bits = both_true (marks_of c.ty).bits _ typed.1 in
    let d = both_true (not (nat_lt 128 (bounded (width_of (ty_of c.ty))))) (not (nat_lt 4096 (bounded (depth_in c.ends))) && none_broken (type_limits span.to c.ty 0)) b.1 in
    let e = both_true (not (nat_lt 4096 (bounded (depth_in c.ends)))) (none_broken (type_limits span.to c.ty 0)) d.1 in
    let limits = limited span.to c.ty 0 typed.0 e.1 in
    record {
      widths = limited_widths c.ty limits;
      some_width = has_some width_of widths_count c.ty typed.0 bits.0;
      most_width = grind (arith, nat_tests, d.0);
    }

channels_words : (spans : List Span) (names : List (List ℕ)) (i : ℕ) (cs : List Channel) → IsTrue (none_broken (channels_checks spans names i cs)) → AreChannels cs
channels_words spans names i [] h c channel e = absurd (cc)
channels_words spans names i (x ∷ xs) h zero channel e =
    let parts = parts_not (channel_checks (get_or spans i nowhere) names i x) (channels_checks spans (names ++ x.name ∷ []) (suc i) xs) h in
    let same : x ≡ channel = cc in
    subst (λ (y : Channel). IsWordType (ty_of y.ty)) same (word_type (get_or spans i nowhere) names i x parts.0)
channels_words spans names i (x ∷ xs) h (suc c) channel e =
    let parts = parts_not (channel_checks (get_or spans i nowhere) names i x) (channels_checks spans (names ++ x.name ∷ []) (suc i) xs) h in
    channels_words spans (names ++ x.name ∷ []) (suc i) xs parts.1 c channel e

or_left : (a b : Bool) → IsTrue a → IsTrue (a || b)
or_left true b h = refl
or_left false b h = absurd (cc)

or_right : (a b : Bool) → IsTrue b → IsTrue (a || b)
or_right true b h = refl
or_right false b h = h

among_more : (names : List (List ℕ)) (x name : List ℕ) → IsTrue (is_among names name) → IsTrue (is_among (names ++ x ∷ []) name)
among_more names x name h = list_any-append (λ n. bytes_eq n name) names (x ∷ []) ∙ or_left _ _ h

same_text : (x : List ℕ) → IsTrue (bytes_eq x x)
same_text x = grind (arith, bytes_eq-Decides x x)

among_last : (names : List (List ℕ)) (x : List ℕ) → IsTrue (is_among (names ++ x ∷ []) x)
among_last names x = list_any-append (λ n. bytes_eq n x) names (x ∷ []) ∙ or_right _ _ (or_left _ _ (same_text x))

new_name : (span : Span) (names : List (List ℕ)) (place : ℕ) (c : Channel) → IsTrue (none_broken (channel_checks span names place c)) → is_among names c.name ≡ false
new_name span names place c h =
    let a = both_true (not (not (is_channel_named names place c))) _ h in
    not_true (is_among names c.name) (both_true (not (is_among names c.name)) _ (not_not_true (is_channel_named names place c) a.0)).0

name_taken : (spans : List Span) (names : List (List ℕ)) (i : ℕ) (cs : List Channel) (name : List ℕ) → IsTrue (none_broken (channels_checks spans names i cs)) → IsTrue (is_among names name) → (c : ℕ) (channel : Channel) → slice_get cs c ≡ Some channel → channel.name ≡ name → ⊥
name_taken spans names i [] name h k c channel e f = cc
name_taken spans names i (x ∷ xs) name h k zero channel e f =
    let parts = parts_not (channel_checks (get_or spans i nowhere) names i x) (channels_checks spans (names ++ x.name ∷ []) (suc i) xs) h in
    let free = new_name (get_or spans i nowhere) names i x parts.0 in
    let same : x ≡ channel = cc in
    let taken : IsTrue (is_among names x.name) = subst (λ n. IsTrue (is_among names n)) (sym (ap (λ (y : Channel). y.name) same ∙ f)) k in
    cc
name_taken spans names i (x ∷ xs) name h k (suc c) channel e f =
    let parts = parts_not (channel_checks (get_or spans i nowhere) names i x) (channels_checks spans (names ++ x.name ∷ []) (suc i) xs) h in
    name_taken spans (names ++ x.name ∷ []) (suc i) xs name parts.1 (among_more names x.name name k) c channel e f

own_names : (spans : List Span) (names : List (List ℕ)) (i : ℕ) (cs : List Channel) → IsTrue (none_broken (channels_checks spans names i cs)) → (c d : ℕ) (a b : Channel) → slice_get cs c ≡ Some a → slice_get cs d ≡ Some b → a.name ≡ b.name → c ≡ d
own_names spans names i [] h c d a b e f g = absurd (cc)
own_names spans names i (x ∷ xs) h zero zero a b e f g = refl
own_names spans names i (x ∷ xs) h zero (suc d) a b e f g =
    let parts = parts_not (channel_checks (get_or spans i nowhere) names i x) (channels_checks spans (names ++ x.name ∷ []) (suc i) xs) h in
    let same : x ≡ a = cc in
    absurd (name_taken spans (names ++ x.name ∷ []) (suc i) xs x.name parts.1 (among_last names x.name) d b f (sym g ∙ ap (λ (y : Channel). y.name) (sym same)))
own_names spans names i (x ∷ xs) h (suc c) zero a b e f g =
    let parts = parts_not (channel_checks (get_or spans i nowhere) names i x) (channels_checks spans (names ++ x.name ∷ []) (suc i) xs) h in
    let same : x ≡ b = cc in
    absurd (name_taken spans (names ++ x.name ∷ []) (suc i) xs x.name parts.1 (among_last names x.name) c a e (g ∙ ap (λ (y : Channel). y.name) (sym same)))
own_names spans names i (x ∷ xs) h (suc c) (suc d) a b e f g =
    let parts = parts_not (channel_checks (get_or spans i nowhere) names i x) (channels_checks spans (names ++ x.name ∷ []) (suc i) xs) h in
    ap suc (own_names spans (names ++ x.name ∷ []) (suc i) xs parts.1 c d a b e f g)

-- ---- procs

verified_proc : (channels : List Channel) (word_types : AreChannels channels) (line_spans : ProcSpans) (names : List (List ℕ)) (seen : Seen) (p : Proc) → IsTrue (none_broken (proc_checks channels line_spans names seen p)) → IsVerifiedProc channels p
verified_proc channels w line_spans names seen p h =
    let a = parts_not (head_checks line_spans.head names p) _ h in
    let b = parts_not (nodes_checks channels p.state line_spans.nodes [] 0 (at_start seen) p.nodes) _ a.1 in
    let c = parts_not (next_checks line_spans.next p) (count_check (Passed line_spans.end (record { what = what.Sites; found = 33; most = 32 })) 32 (length (sites_of p.nodes)) ∷ []) b.1 in
    let d = both_true (not (nat_lt 32 (length (sites_of p.nodes)))) true c.1 in
    record {
      word_types = w;
      head_span = line_spans.head;
      names = names;
      head = a.0;
      spans = line_spans.nodes;
      seen = at_start seen;
      nodes = b.0;
      next_span = line_spans.next;
      next = c.0;
      sites = grind (arith, nat_tests, d.0);
    }

procs_verified : (channels : List Channel) (word_types : AreChannels channels) (line_spans : List ProcSpans) (names : List (List ℕ)) (i : ℕ) (seen : Seen) (procs : List Proc) → IsTrue (none_broken (procs_checks channels line_spans names i seen procs)) → (q : ℕ) (proc : Proc) → slice_get procs q ≡ Some proc → IsVerifiedProc channels proc
procs_verified channels w line_spans names i seen [] h q proc e = absurd (cc)
procs_verified channels w line_spans names i seen (x ∷ xs) h zero proc e =
    let parts = parts_not (proc_checks channels (get_or line_spans i nowhere_proc) names seen x) (procs_checks channels line_spans (names ++ x.name ∷ []) (suc i) (seen_after 0 (at_start seen) x.nodes) xs) h in
    let same : x ≡ proc = cc in
    subst (IsVerifiedProc channels) same (verified_proc channels w (get_or line_spans i nowhere_proc) names seen x parts.0)
procs_verified channels w line_spans names i seen (x ∷ xs) h (suc q) proc e =
    let parts = parts_not (proc_checks channels (get_or line_spans i nowhere_proc) names seen x) (procs_checks channels line_spans (names ++ x.name ∷ []) (suc i) (seen_after 0 (at_start seen) x.nodes) xs) h in
    procs_verified channels w line_spans (names ++ x.name ∷ []) (suc i) (seen_after 0 (at_start seen) x.nodes) xs parts.1 q proc e

-- each proc of a verified package is verified
pub proc_of : (ir : Package) → IsVerified ir → (q : ℕ) (proc : Proc) → slice_get ir.procs q ≡ Some proc → IsVerifiedProc ir.channels proc
proc_of ir h q proc e =
    let c = checked ir h in
    procs_verified ir.channels (channels_words [] [] 0 ir.channels c.channels) [] [] 0 (nothing_seen ir.channels) ir.procs c.procs q proc e

-- ---- its network

map_there : {A B : Type 0} (f : A → B) (xs : List A) (i : ℕ) (y : B) → slice_get (map f xs) i ≡ Some y → (x : A) × (slice_get xs i ≡ Some x) × (f x ≡ y)
map_there f [] i y e = absurd (cc)
map_there f (x ∷ xs) zero y e = (x, refl, cc)
map_there f (x ∷ xs) (suc i) y e = map_there f xs i y e

pub keep_types : (ir : Package) → IsVerified ir → EachKeepsTypes (behaviors_of ir)
keep_types ir h p b e =
    let there = map_there (activation ir.channels) ir.procs p b e in
    subst KeepsTypes there.2 (keeps_types ir.channels there.0 (proc_of ir h p there.0 there.1))

width_there : (channels : List Channel) (c : ℕ) (channel : Channel) (chan : Chan) → slice_get channels c ≡ Some channel → chan_of channel ≡ chan → width_at (channel_type channels c) ≡ width_of chan.ty
width_there channels c channel chan e f =
    ap (λ o. width_at (option_map (λ (channel : Channel). channel.ty) o)) e ∙ ap (λ (x : Chan). width_of x.ty) f

behavior_for : (ir : Package) (proc : Proc) → IsBehaviorFor (network_of ir) (head_of proc) (activation ir.channels proc)
unfolding activation
behavior_for ir proc = record {
  state = refl;
  sites = refl;
  widths = λ i site chan e f.
      let there = map_there chan_of ir.channels site.chan chan f in
      width_there ir.channels site.chan there.0 chan there.1 there.2;
}

-- what the procs do is what the network's procs do
pub are_behaviors : (ir : Package) → AreBehaviorsOf (network_of ir) (behaviors_of ir)
are_behaviors ir = record {
  count = length-map ir.procs (activation ir.channels) ∙ sym (length-map ir.procs head_of);
  each = each;
}
  where
    each : (p : ℕ) (head : ProcHead) (b : Behavior) → slice_get (map head_of ir.procs) p ≡ Some head → slice_get (map (activation ir.channels) ir.procs) p ≡ Some b → IsBehaviorFor (network_of ir) head b
    each p head b e f =
        let x = map_there head_of ir.procs p head e in
        let y = map_there (activation ir.channels) ir.procs p b f in
        let same : x.0 ≡ y.0 = let one = x.1 in let other = y.1 in cc in
        subst (λ u. IsBehaviorFor (network_of ir) u b) x.2
        (subst (λ u. IsBehaviorFor (network_of ir) (head_of x.0) u) (ap (activation ir.channels) same ∙ y.2) (behavior_for ir x.0))

pub record IsHead (channels : List Channel) (proc : Proc) : Type 0 where
  pub limits : IsLimited proc.state
  pub opening : IsOfType (ty_of proc.state) (constant_value (ty_of proc.state) proc.init)

head_facts : (channels : List Channel) (proc : Proc) → IsVerifiedProc channels proc → IsHead channels proc
head_facts channels proc v =
    let a = both_true (not (not (is_proc_named v.names proc))) _ v.head in
    let b = both_true (not (not (is_state proc))) _ a.1 in
    let c = both_true (marks_of proc.state).sound (is_value_of proc.state proc.init) (not_not_true (is_state proc) b.0) in
    let limits = limited v.head_span.to proc.state 0 c.0 b.1 in
    let value = both_true (not (marks_of proc.state).token) (constant_fits (ty_of proc.state) proc.init) c.1 in
    record { limits = limits; opening = constant_typed (ty_of proc.state) (limited_widths proc.state limits) proc.init value.1 }

pub record IsSiteIn (ir : Package) (p i : ℕ) (site : Site) : Type 0 where
  pub proc : Proc
  pub there : slice_get ir.procs p ≡ Some proc
  pub place : slice_get (sites_of proc.nodes) i ≡ Some site
  pub allowed : IsAllowed ir.channels site

site_in : (ir : Package) → IsVerified ir → (p i : ℕ) (site : Site) → IsSiteOf (network_of ir) p i site → IsSiteIn ir p i site
site_in ir h p i site is =
    let x = map_there head_of ir.procs p is.head is.proc in
    let place : slice_get (sites_of (x.0).nodes) i ≡ Some site = ap (λ (u : ProcHead). slice_get u.sites i) x.2 ∙ is.place in
    let v = proc_of ir h p x.0 x.1 in
    record { proc = x.0; there = x.1; place = place; allowed = nodes_allowed ir.channels (x.0).state v.spans (x.0).nodes [] 0 v.seen site v.nodes i place }

within : {A : Type 0} (xs : List A) (i : ℕ) (x : A) → slice_get xs i ≡ Some x → i < length xs
within [] i x e = absurd (cc)
within (y ∷ ys) zero x e = omega arith
within (y ∷ ys) (suc i) x e = let less = within ys i x e in omega arith

input_is : (e : Ends) → kind_of e ≡ kind.Input → e ≡ ends.Input
input_is ends.Input h = refl
input_is ends.Output h = absurd (cc)
input_is (ends.Inner depth) h = absurd (cc)

output_is : (e : Ends) → kind_of e ≡ kind.Output → e ≡ ends.Output
output_is ends.Input h = absurd (cc)
output_is ends.Output h = refl
output_is (ends.Inner depth) h = absurd (cc)

pub record IsChanIn (ir : Package) (c : ℕ) (chan : Chan) : Type 0 where
  pub channel : Channel
  pub there : slice_get ir.channels c ≡ Some channel
  pub is : chan_of channel ≡ chan
  pub words : IsWordType chan.ty

chan_in : (ir : Package) → IsVerified ir → (c : ℕ) (chan : Chan) → slice_get (map chan_of ir.channels) c ≡ Some chan → IsChanIn ir c chan
chan_in ir h c chan e =
    let x = map_there chan_of ir.channels c chan e in
    record {
      channel = x.0;
      there = x.1;
      is = x.2;
      words = subst (λ (u : Chan). IsWordType u.ty) x.2 (channels_words [] [] 0 ir.channels (checked ir h).channels c x.0 x.1);
    }

no_ends : (channels : List Channel) → HasEnds (length channels) (nothing_seen channels)
no_ends channels = record { received = length-replicate (length channels) false; sent = length-replicate (length channels) false }

-- the network of a verified package fits
pub is_net : (ir : Package) → IsVerified ir → IsNet (network_of ir)
is_net ir h = record {
  few_procs = let few = (checked ir h).few_procs in omega (arith, length-map ir.procs head_of);
  few_chans = let few = (checked ir h).few_channels in omega (arith, length-map ir.channels chan_of);
  few_sites = λ p head e.
      let x = map_there head_of ir.procs p head e in
      let few = (proc_of ir h p x.0 x.1).sites in
      let less : length (sites_of (x.0).nodes) < 2 ^ 30 = omega arith in
      subst (λ (u : ProcHead). length u.sites < 2 ^ 30) x.2 less;
  opening = λ p head e.
      let x = map_there head_of ir.procs p head e in
      subst (λ (u : ProcHead). IsOfType u.state u.init) x.2 (head_facts ir.channels x.0 (proc_of ir h p x.0 x.1)).opening;
  state_widths = λ p head e.
      let x = map_there head_of ir.procs p head e in
      subst (λ (u : ProcHead). widths.HasWidths u.state) x.2 (limited_widths (x.0).state (head_facts ir.channels x.0 (proc_of ir h p x.0 x.1)).limits);
  chan_widths = λ c chan e. (chan_in ir h c chan e).words.widths;
  site = λ p i site is.
      let x = site_in ir h p i site is in
      let less = within ir.channels site.chan x.allowed.channel x.allowed.there in
      omega (arith, length-map ir.channels chan_of);
  no_send = λ p i site chan is sends e k.
      let x = site_in ir h p i site is in
      let y = chan_in ir h site.chan chan e in
      let same : x.allowed.channel ≡ y.channel = let one = x.allowed.there in let other = y.there in cc in
      x.allowed.no_send sends (ap (λ (u : Channel). u.ends) same ∙ input_is (y.channel).ends (ap (λ (u : Chan). u.kind) y.is ∙ k));
  no_receive = λ p i site chan is sends e k.
      let x = site_in ir h p i site is in
      let y = chan_in ir h site.chan chan e in
      let same : x.allowed.channel ≡ y.channel = let one = x.allowed.there in let other = y.there in cc in
      x.allowed.no_receive sends (ap (λ (u : Channel). u.ends) same ∙ output_is (y.channel).ends (ap (λ (u : Chan). u.kind) y.is ∙ k));
  one_proc = λ p q i j a b is js same_chan same_end.
      let x = site_in ir h p i a is in
      let y = site_in ir h q j b js in
      let same : a ≡ b = sites_same a b same_chan same_end in
      one_proc ir.channels [] [] 0 (nothing_seen ir.channels) ir.procs a (checked ir h).procs (no_ends ir.channels) p q x.proc y.proc x.there y.there i j x.place (y.place ∙ ap Some (sym same)) x.allowed;
  some_width = λ c chan e. (chan_in ir h c chan e).words.some_width;
  most_width = λ c chan e. (chan_in ir h c chan e).words.most_width;
  own_names = λ c d a b e f g.
      let x = map_there chan_of ir.channels c a e in
      let y = map_there chan_of ir.channels d b f in
      own_names [] [] 0 ir.channels (checked ir h).channels c d x.0 y.0 x.1 y.1 (ap (λ (u : Chan). u.name) x.2 ∙ g ∙ sym (ap (λ (u : Chan). u.name) y.2));
}
  where
    sites_same : (a b : Site) → a.chan ≡ b.chan → a.sends ≡ b.sends → a ≡ b
    sites_same a b e f = λ i. record { chan = e i; sends = f i }

-- and a site is the only one of its end
pub only_site : (ir : Package) → IsVerified ir → (p q i j : ℕ) (site : Site) → IsSiteOf (network_of ir) p i site → IsSiteOf (network_of ir) q j site → (p ≡ q) × (i ≡ j)
only_site ir h p q i j site is js =
    let x = site_in ir h p i site is in
    let y = site_in ir h q j site js in
    let procs : p ≡ q = one_proc ir.channels [] [] 0 (nothing_seen ir.channels) ir.procs site (checked ir h).procs (no_ends ir.channels) p q x.proc y.proc x.there y.there i j x.place y.place x.allowed in
    let there : slice_get ir.procs p ≡ Some y.proc = subst (λ k. slice_get ir.procs k ≡ Some y.proc) (sym procs) y.there in
    let same : y.proc ≡ x.proc = let one = x.there in cc in (
      procs,
      procs_once ir.channels [] [] 0 (nothing_seen ir.channels) ir.procs site (checked ir h).procs x.allowed (no_ends ir.channels) p x.proc x.there i j x.place (subst (λ (u : Proc). slice_get (sites_of u.nodes) j ≡ Some site) same y.place),
    )
