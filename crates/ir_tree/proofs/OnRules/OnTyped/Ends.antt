-- Each end of a channel has at most one site in a verified package.
use Rattle.std.proofs.Common.{◌≡◌, ℕ, zero, suc, ◌-◌, ◌<◌, List, [], ◌∷◌, ◌++◌, length, get_or, Bool, true, false, IsTrue, Option, Some, None, refl, sym, ap, subst, ◌∙◌, arith}
use Rattle.std.specs.Prelude.{slice_get, slice_set, not}
use Rattle.xb_span.specs.declared.span.Span.{Span}
use Rattle.xb_span.specs.Spans.{nowhere}
use Rattle.net_core.specs.declared.net.Site.{Site}
use Rattle.delay_model.specs.declared.op.Op.{Op}
use Rattle.ir_tree.specs.declared.ir_type.IrType.{IrType}
use Rattle.ir_tree.specs.declared.node.Node.{Node}
use Rattle.ir_tree.specs.declared.node.Role.{Role}
use Rattle.ir_tree.specs.declared.node.Role.TheVariants as role
use Rattle.ir_tree.specs.declared.package.Channel.{Channel}
use Rattle.ir_tree.specs.declared.package.Ends.TheVariants as ends
use Rattle.ir_tree.specs.declared.package.Proc.{Proc}
use Rattle.ir_tree.specs.NodeValues.{role_of}
use Rattle.ir_tree.specs.Activations.{sites_by, sites_of}
use Rattle.ir_tree.specs.declared.rules.line_spans.ProcSpans.{ProcSpans}
use Rattle.ir_tree.specs.Rules.Fitting.{types_behind, node_fits}
use Rattle.ir_tree.specs.Rules.Lines.{Seen, see, see_role, see_op, node_checks, head_checks, is_named, is_chained, is_at_end, is_free, may_receive, may_send}
use Rattle.ir_tree.specs.Rules.Verified.{nowhere_proc, nodes_checks, seen_after, at_start, proc_checks, procs_checks}
use Rattle.ir_tree.specs.Rules.Typed.Typed.{none_broken}
use Rattle.ir_tree.proofs.Lemmas.Rules.Typed.Checked.{both_true, parts_not, not_not_true}

-- ---- which ends have a site

abbrev pub ends_in : Bool → Seen → List Bool
ends_in true seen = seen.sent
ends_in false seen = seen.received

-- the end of the channel has a site
abbrev pub HasSite : Seen → Bool → ℕ → Type 0
HasSite seen sends c = slice_get (ends_in sends seen) c ≡ Some true

-- as many ends as channels
pub record HasEnds (n : ℕ) (seen : Seen) : Type 0 where
  pub received : length seen.received ≡ n
  pub sent : length seen.sent ≡ n

set_stays : (xs : List Bool) (c d : ℕ) → slice_get xs c ≡ Some true → slice_get (slice_set xs d true) c ≡ Some true
set_stays [] c d e = e
set_stays (x ∷ xs) zero zero e = refl
set_stays (x ∷ xs) zero (suc d) e = e
set_stays (x ∷ xs) (suc c) zero e = e
set_stays (x ∷ xs) (suc c) (suc d) e = set_stays xs c d e

set_there : (xs : List Bool) (c : ℕ) → c < length xs → slice_get (slice_set xs c true) c ≡ Some true
set_there [] c h = absurd (omega arith)
set_there (x ∷ xs) zero h = refl
set_there (x ∷ xs) (suc c) h = set_there xs c (omega (arith, h))

set_length : (xs : List Bool) (c : ℕ) → length (slice_set xs c true) ≡ length xs
set_length [] c = refl
set_length (x ∷ xs) zero = refl
set_length (x ∷ xs) (suc c) = ap suc (set_length xs c)

role_stays : (sends : Bool) (c i : ℕ) (o : Op) (r : Role) (seen : Seen) → HasSite seen sends c → HasSite (see_op o (see_role i r seen)) sends c
role_stays true c i o role.Pure seen h = h
role_stays true c i o (role.Receive p d) seen h = h
role_stays true c i o (role.Send p d) seen h = set_stays seen.sent c d h
role_stays false c i o role.Pure seen h = h
role_stays false c i o (role.Receive p d) seen h = set_stays seen.received c d h
role_stays false c i o (role.Send p d) seen h = h

role_ends : (n i : ℕ) (o : Op) (r : Role) (seen : Seen) → HasEnds n seen → HasEnds n (see_op o (see_role i r seen))
role_ends n i o role.Pure seen h = record { received = h.received; sent = h.sent }
role_ends n i o (role.Receive p d) seen h = record { received = set_length seen.received d ∙ h.received; sent = h.sent }
role_ends n i o (role.Send p d) seen h = record { received = h.received; sent = set_length seen.sent d ∙ h.sent }

-- ---- the sites of a role

none_there : {A : Type 0} (x : A) (i : ℕ) → slice_get [] i ≡ Some x → ⊥
none_there x i e = cc

chan_of_some : Option Site → ℕ
chan_of_some None = 0
chan_of_some (Some site) = site.chan

sends_of_some : Option Site → Bool
sends_of_some None = false
sends_of_some (Some site) = site.sends

chan_is : (c : ℕ) (b : Bool) (site : Site) (sites : List Site) → slice_get (record { chan = c; sends = b } ∷ sites) 0 ≡ Some site → c ≡ site.chan
unfolding chan_of_some
chan_is c b site sites e = ap chan_of_some e

sends_is : (c : ℕ) (b : Bool) (site : Site) (sites : List Site) → slice_get (record { chan = c; sends = b } ∷ sites) 0 ≡ Some site → b ≡ site.sends
unfolding sends_of_some
sends_is c b site sites e = ap sends_of_some e

free_not : (taken : List Bool) (c : ℕ) → slice_get taken c ≡ Some true → IsTrue (is_free taken c) → ⊥
free_not taken c e h = let never = rw e at h in cc

-- a site at an end that has one breaks a rule, and a site takes its end
role_free : (channels : List Channel) (r : Role) (seen : Seen) (sites : List Site) (site : Site) → IsTrue (is_at_end channels seen r) → HasSite seen site.sends site.chan → ((p : ℕ) → slice_get sites p ≡ Some site → ⊥) → (p : ℕ) → slice_get (sites_by r sites) p ≡ Some site → ⊥
role_free channels role.Pure seen sites site h taken rest p e = rest p e
role_free channels (role.Receive q c) seen sites site h taken rest zero e =
    let own : slice_get seen.received c ≡ Some true = subst (λ d. slice_get seen.received d ≡ Some true) (sym (chan_is c false site sites e)) (subst (λ b. slice_get (ends_in b seen) site.chan ≡ Some true) (sym (sends_is c false site sites e)) taken) in
    free_not seen.received c own (both_true (may_receive (slice_get channels c)) (is_free seen.received c) h).1
role_free channels (role.Receive q c) seen sites site h taken rest (suc p) e = rest p e
role_free channels (role.Send q c) seen sites site h taken rest zero e =
    let own : slice_get seen.sent c ≡ Some true = subst (λ d. slice_get seen.sent d ≡ Some true) (sym (chan_is c true site sites e)) (subst (λ b. slice_get (ends_in b seen) site.chan ≡ Some true) (sym (sends_is c true site sites e)) taken) in
    free_not seen.sent c own (both_true (may_send (slice_get channels c)) (is_free seen.sent c) h).1
role_free channels (role.Send q c) seen sites site h taken rest (suc p) e = rest p e

pub end_there : (channels : List Channel) (state : IrType) (before : List Node) (span : Span) (i : ℕ) (seen : Seen) (n : Node) → IsTrue (none_broken (node_checks channels state before span i seen n)) → IsTrue (is_at_end channels seen (role_of n))
end_there channels state before span i seen n h =
    let a = both_true (not (not (is_named (slice_get before (i - 1)) i n))) _ h in
    let b = both_true (not (not (node_fits channels (types_behind state before) n))) _ a.1 in
    let c = both_true (not (not (is_chained before seen n))) _ b.1 in
    let d = both_true (not (not (is_at_end channels seen (role_of n)))) _ c.1 in
    not_not_true (is_at_end channels seen (role_of n)) d.0

pub nodes_free : (channels : List Channel) (state : IrType) (spans : List Span) (nodes before : List Node) (i : ℕ) (seen : Seen) (site : Site) → IsTrue (none_broken (nodes_checks channels state spans before i seen nodes)) → HasSite seen site.sends site.chan → (p : ℕ) → slice_get (sites_of nodes) p ≡ Some site → ⊥
nodes_free channels state spans [] before i seen site h taken p e = none_there site p e
nodes_free channels state spans (n ∷ ns) before i seen site h taken p e =
    let parts = parts_not (node_checks channels state before (get_or spans i nowhere) i seen n) (nodes_checks channels state spans (before ++ n ∷ []) (suc i) (see i n seen) ns) h in
    role_free channels (role_of n) seen (sites_of ns) site (end_there channels state before (get_or spans i nowhere) i seen n parts.0) taken
    (λ q f. nodes_free channels state spans ns (before ++ n ∷ []) (suc i) (see i n seen) site parts.1 (role_stays site.sends site.chan i n.op (role_of n) seen taken) q f) p e

-- ---- what a site is

-- the channel of a site is there, and its ends let it
pub record IsAllowed (channels : List Channel) (site : Site) : Type 0 where
  pub channel : Channel
  pub there : slice_get channels site.chan ≡ Some channel
  pub no_send : site.sends ≡ true → (channel.ends ≡ ends.Input) → ⊥
  pub no_receive : site.sends ≡ false → (channel.ends ≡ ends.Output) → ⊥

receives_some : (o : Option Channel) → IsTrue (may_receive o) → (channel : Channel) × (o ≡ Some channel) × (channel.ends ≡ ends.Output → ⊥)
receives_some None h = absurd (cc)
receives_some (Some c) h = (c, refl, λ e. let never = rw e at h in cc)

sends_some : (o : Option Channel) → IsTrue (may_send o) → (channel : Channel) × (o ≡ Some channel) × (channel.ends ≡ ends.Input → ⊥)
sends_some None h = absurd (cc)
sends_some (Some c) h = (c, refl, λ e. let never = rw e at h in cc)

role_allowed : (channels : List Channel) (r : Role) (seen : Seen) (sites : List Site) (site : Site) → IsTrue (is_at_end channels seen r) → ((p : ℕ) → slice_get sites p ≡ Some site → IsAllowed channels site) → (p : ℕ) → slice_get (sites_by r sites) p ≡ Some site → IsAllowed channels site
role_allowed channels role.Pure seen sites site h rest p e = rest p e
role_allowed channels (role.Receive q c) seen sites site h rest zero e =
    let c_is = chan_is c false site sites e in
    let s_is = sends_is c false site sites e in
    let some = receives_some (slice_get channels c) (both_true (may_receive (slice_get channels c)) (is_free seen.received c) h).0 in
    record { channel = some.0; there = subst (λ d. slice_get channels d ≡ Some some.0) c_is some.1; no_send = λ f. absurd (cc); no_receive = λ f. some.2 }
role_allowed channels (role.Receive q c) seen sites site h rest (suc p) e = rest p e
role_allowed channels (role.Send q c) seen sites site h rest zero e =
    let c_is = chan_is c true site sites e in
    let s_is = sends_is c true site sites e in
    let some = sends_some (slice_get channels c) (both_true (may_send (slice_get channels c)) (is_free seen.sent c) h).0 in
    record { channel = some.0; there = subst (λ d. slice_get channels d ≡ Some some.0) c_is some.1; no_send = λ f. some.2; no_receive = λ f. absurd (cc) }
role_allowed channels (role.Send q c) seen sites site h rest (suc p) e = rest p e

pub nodes_allowed : (channels : List Channel) (state : IrType) (spans : List Span) (nodes before : List Node) (i : ℕ) (seen : Seen) (site : Site) → IsTrue (none_broken (nodes_checks channels state spans before i seen nodes)) → (p : ℕ) → slice_get (sites_of nodes) p ≡ Some site → IsAllowed channels site
nodes_allowed channels state spans [] before i seen site h p e = absurd (cc)
nodes_allowed channels state spans (n ∷ ns) before i seen site h p e =
    let parts = parts_not (node_checks channels state before (get_or spans i nowhere) i seen n) (nodes_checks channels state spans (before ++ n ∷ []) (suc i) (see i n seen) ns) h in
    role_allowed channels (role_of n) seen (sites_of ns) site (end_there channels state before (get_or spans i nowhere) i seen n parts.0)
    (λ q f. nodes_allowed channels state spans ns (before ++ n ∷ []) (suc i) (see i n seen) site parts.1 q f) p e

-- ---- what nodes leave

within_some : {A : Type 0} (xs : List A) (i : ℕ) (x : A) → slice_get xs i ≡ Some x → i < length xs
within_some [] i x e = absurd (cc)
within_some (y ∷ ys) zero x e = omega arith
within_some (y ∷ ys) (suc i) x e = let less = within_some ys i x e in omega arith

pub after_stays : (nodes : List Node) (i : ℕ) (seen : Seen) (sends : Bool) (c : ℕ) → HasSite seen sends c → HasSite (seen_after i seen nodes) sends c
after_stays [] i seen sends c h = h
after_stays (n ∷ ns) i seen sends c h = after_stays ns (suc i) (see i n seen) sends c (role_stays sends c i n.op (role_of n) seen h)

pub after_ends : (k : ℕ) (nodes : List Node) (i : ℕ) (seen : Seen) → HasEnds k seen → HasEnds k (seen_after i seen nodes)
after_ends k [] i seen h = h
after_ends k (n ∷ ns) i seen h = after_ends k ns (suc i) (see i n seen) (role_ends k i n.op (role_of n) seen h)

role_taken : (channels : List Channel) (i : ℕ) (o : Op) (r : Role) (seen after : Seen) (sites : List Site) (site : Site) → IsAllowed channels site → HasEnds (length channels) seen → (HasSite (see_op o (see_role i r seen)) site.sends site.chan → HasSite after site.sends site.chan) → ((p : ℕ) → slice_get sites p ≡ Some site → HasSite after site.sends site.chan) → (p : ℕ) → slice_get (sites_by r sites) p ≡ Some site → HasSite after site.sends site.chan
role_taken channels i o role.Pure seen after sites site a h later rest p e = rest p e
role_taken channels i o (role.Receive q c) seen after sites site a h later rest zero e =
    let less : site.chan < length channels = within_some channels site.chan a.channel a.there in
    let ends = h.received in
    let within : site.chan < length seen.received = omega arith in
    let there : slice_get (slice_set seen.received site.chan true) site.chan ≡ Some true = set_there seen.received site.chan within in
    later (subst (λ b. slice_get (ends_in b (see_op o (see_role i (role.Receive q c) seen))) site.chan ≡ Some true) (sends_is c false site sites e)
    (subst (λ d. slice_get (slice_set seen.received d true) site.chan ≡ Some true) (sym (chan_is c false site sites e)) there))
role_taken channels i o (role.Receive q c) seen after sites site a h later rest (suc p) e = rest p e
role_taken channels i o (role.Send q c) seen after sites site a h later rest zero e =
    let less : site.chan < length channels = within_some channels site.chan a.channel a.there in
    let ends = h.sent in
    let within : site.chan < length seen.sent = omega arith in
    let there : slice_get (slice_set seen.sent site.chan true) site.chan ≡ Some true = set_there seen.sent site.chan within in
    later (subst (λ b. slice_get (ends_in b (see_op o (see_role i (role.Send q c) seen))) site.chan ≡ Some true) (sends_is c true site sites e)
    (subst (λ d. slice_get (slice_set seen.sent d true) site.chan ≡ Some true) (sym (chan_is c true site sites e)) there))
role_taken channels i o (role.Send q c) seen after sites site a h later rest (suc p) e = rest p e

pub nodes_taken : (channels : List Channel) (nodes : List Node) (i : ℕ) (seen : Seen) (site : Site) → IsAllowed channels site → HasEnds (length channels) seen → (p : ℕ) → slice_get (sites_of nodes) p ≡ Some site → HasSite (seen_after i seen nodes) site.sends site.chan
nodes_taken channels [] i seen site a h p e = absurd (none_there site p e)
nodes_taken channels (n ∷ ns) i seen site a h p e =
    role_taken channels i n.op (role_of n) seen (seen_after (suc i) (see i n seen) ns) (sites_of ns) site a h
    (λ there. after_stays ns (suc i) (see i n seen) site.sends site.chan there)
    (λ q f. nodes_taken channels ns (suc i) (see i n seen) site a (role_ends (length channels) i n.op (role_of n) seen h) q f) p e

-- ---- procs

pub start_stays : (seen : Seen) (sends : Bool) (c : ℕ) → HasSite seen sends c → HasSite (at_start seen) sends c
start_stays seen true c h = h
start_stays seen false c h = h

pub start_ends : (k : ℕ) (seen : Seen) → HasEnds k seen → HasEnds k (at_start seen)
start_ends k seen h = record { received = h.received; sent = h.sent }

pub procs_free : (channels : List Channel) (line_spans : List ProcSpans) (names : List (List ℕ)) (i : ℕ) (seen : Seen) (procs : List Proc) (site : Site) → IsTrue (none_broken (procs_checks channels line_spans names i seen procs)) → HasSite seen site.sends site.chan → (q : ℕ) (proc : Proc) → slice_get procs q ≡ Some proc → (p : ℕ) → slice_get (sites_of proc.nodes) p ≡ Some site → ⊥
procs_free channels line_spans names i seen [] site h taken q proc e p f = none_there proc q e
procs_free channels line_spans names i seen (x ∷ xs) site h taken zero proc e p f =
    let parts = parts_not (proc_checks channels (get_or line_spans i nowhere_proc) names seen x) (procs_checks channels line_spans (names ++ x.name ∷ []) (suc i) (seen_after 0 (at_start seen) x.nodes) xs) h in
    let place = get_or line_spans i nowhere_proc in
    let a = parts_not (head_checks place.head names x) _ parts.0 in
    let b = parts_not (nodes_checks channels x.state place.nodes [] 0 (at_start seen) x.nodes) _ a.1 in
    let same : x ≡ proc = cc in
    nodes_free channels x.state place.nodes x.nodes [] 0 (at_start seen) site b.0 (start_stays seen site.sends site.chan taken) p (subst (λ y. slice_get (sites_of y.nodes) p ≡ Some site) (sym same) f)
procs_free channels line_spans names i seen (x ∷ xs) site h taken (suc q) proc e p f =
    let parts = parts_not (proc_checks channels (get_or line_spans i nowhere_proc) names seen x) (procs_checks channels line_spans (names ++ x.name ∷ []) (suc i) (seen_after 0 (at_start seen) x.nodes) xs) h in
    procs_free channels line_spans (names ++ x.name ∷ []) (suc i) (seen_after 0 (at_start seen) x.nodes) xs site parts.1
    (after_stays x.nodes 0 (at_start seen) site.sends site.chan (start_stays seen site.sends site.chan taken)) q proc e p f

-- the procs with a site at an end are one
pub one_proc : (channels : List Channel) (line_spans : List ProcSpans) (names : List (List ℕ)) (i : ℕ) (seen : Seen) (procs : List Proc) (site : Site) → IsTrue (none_broken (procs_checks channels line_spans names i seen procs)) → HasEnds (length channels) seen → (q r : ℕ) (a b : Proc) → slice_get procs q ≡ Some a → slice_get procs r ≡ Some b → (j k : ℕ) → slice_get (sites_of a.nodes) j ≡ Some site → slice_get (sites_of b.nodes) k ≡ Some site → IsAllowed channels site → q ≡ r
one_proc channels line_spans names i seen [] site h fits q r a b e f j k g l allowed = absurd (none_there a q e)
one_proc channels line_spans names i seen (x ∷ xs) site h fits zero zero a b e f j k g l allowed = refl
one_proc channels line_spans names i seen (x ∷ xs) site h fits zero (suc r) a b e f j k g l allowed =
    let parts = parts_not (proc_checks channels (get_or line_spans i nowhere_proc) names seen x) (procs_checks channels line_spans (names ++ x.name ∷ []) (suc i) (seen_after 0 (at_start seen) x.nodes) xs) h in
    let same : x ≡ a = cc in
    let own : slice_get (sites_of x.nodes) j ≡ Some site = subst (λ y. slice_get (sites_of y.nodes) j ≡ Some site) (sym same) g in
    absurd (procs_free channels line_spans (names ++ x.name ∷ []) (suc i) (seen_after 0 (at_start seen) x.nodes) xs site parts.1
    (nodes_taken channels x.nodes 0 (at_start seen) site allowed (start_ends (length channels) seen fits) j own) r b f k l)
one_proc channels line_spans names i seen (x ∷ xs) site h fits (suc q) zero a b e f j k g l allowed =
    let parts = parts_not (proc_checks channels (get_or line_spans i nowhere_proc) names seen x) (procs_checks channels line_spans (names ++ x.name ∷ []) (suc i) (seen_after 0 (at_start seen) x.nodes) xs) h in
    let same : x ≡ b = cc in
    let own : slice_get (sites_of x.nodes) k ≡ Some site = subst (λ y. slice_get (sites_of y.nodes) k ≡ Some site) (sym same) l in
    absurd (procs_free channels line_spans (names ++ x.name ∷ []) (suc i) (seen_after 0 (at_start seen) x.nodes) xs site parts.1
    (nodes_taken channels x.nodes 0 (at_start seen) site allowed (start_ends (length channels) seen fits) k own) q a e j g)
one_proc channels line_spans names i seen (x ∷ xs) site h fits (suc q) (suc r) a b e f j k g l allowed =
    let parts = parts_not (proc_checks channels (get_or line_spans i nowhere_proc) names seen x) (procs_checks channels line_spans (names ++ x.name ∷ []) (suc i) (seen_after 0 (at_start seen) x.nodes) xs) h in
    ap suc (one_proc channels line_spans (names ++ x.name ∷ []) (suc i) (seen_after 0 (at_start seen) x.nodes) xs site parts.1
    (after_ends (length channels) x.nodes 0 (at_start seen) (start_ends (length channels) seen fits)) q r a b e f j k g l allowed)

-- ---- one site an end

site_once : (channels : List Channel) (i : ℕ) (o : Op) (r : Role) (seen : Seen) (sites : List Site) (site : Site) → IsAllowed channels site → HasEnds (length channels) seen
    → (HasSite (see_op o (see_role i r seen)) site.sends site.chan → (p : ℕ) → slice_get sites p ≡ Some site → ⊥) → ((j k : ℕ) → slice_get sites j ≡ Some site → slice_get sites k ≡ Some site → j ≡ k)
    → (j k : ℕ) → slice_get (sites_by r sites) j ≡ Some site → slice_get (sites_by r sites) k ≡ Some site → j ≡ k
site_once channels i o role.Pure seen sites site a h free once j k e f = once j k e f
site_once channels i o (role.Receive q c) seen sites site a h free once zero zero e f = refl
site_once channels i o (role.Receive q c) seen sites site a h free once zero (suc k) e f =
    absurd (free (role_taken channels i o (role.Receive q c) seen (see_op o (see_role i (role.Receive q c) seen)) [] site a h (λ x. x) (λ p g. absurd (none_there site p g)) 0 e) k f)
site_once channels i o (role.Receive q c) seen sites site a h free once (suc j) zero e f =
    absurd (free (role_taken channels i o (role.Receive q c) seen (see_op o (see_role i (role.Receive q c) seen)) [] site a h (λ x. x) (λ p g. absurd (none_there site p g)) 0 f) j e)
site_once channels i o (role.Receive q c) seen sites site a h free once (suc j) (suc k) e f = ap suc (once j k e f)
site_once channels i o (role.Send q c) seen sites site a h free once zero zero e f = refl
site_once channels i o (role.Send q c) seen sites site a h free once zero (suc k) e f =
    absurd (free (role_taken channels i o (role.Send q c) seen (see_op o (see_role i (role.Send q c) seen)) [] site a h (λ x. x) (λ p g. absurd (none_there site p g)) 0 e) k f)
site_once channels i o (role.Send q c) seen sites site a h free once (suc j) zero e f =
    absurd (free (role_taken channels i o (role.Send q c) seen (see_op o (see_role i (role.Send q c) seen)) [] site a h (λ x. x) (λ p g. absurd (none_there site p g)) 0 f) j e)
site_once channels i o (role.Send q c) seen sites site a h free once (suc j) (suc k) e f = ap suc (once j k e f)

nodes_once : (channels : List Channel) (state : IrType) (spans : List Span) (nodes before : List Node) (i : ℕ) (seen : Seen) (site : Site) → IsTrue (none_broken (nodes_checks channels state spans before i seen nodes)) → IsAllowed channels site → HasEnds (length channels) seen
    → (j k : ℕ) → slice_get (sites_of nodes) j ≡ Some site → slice_get (sites_of nodes) k ≡ Some site → j ≡ k
nodes_once channels state spans [] before i seen site h a fits j k e f = absurd (none_there site j e)
nodes_once channels state spans (n ∷ ns) before i seen site h a fits j k e f =
    let parts = parts_not (node_checks channels state before (get_or spans i nowhere) i seen n) (nodes_checks channels state spans (before ++ n ∷ []) (suc i) (see i n seen) ns) h in
    site_once channels i n.op (role_of n) seen (sites_of ns) site a fits (nodes_free channels state spans ns (before ++ n ∷ []) (suc i) (see i n seen) site parts.1)
    (nodes_once channels state spans ns (before ++ n ∷ []) (suc i) (see i n seen) site parts.1 a (role_ends (length channels) i n.op (role_of n) seen fits)) j k e f

pub procs_once : (channels : List Channel) (line_spans : List ProcSpans) (names : List (List ℕ)) (i : ℕ) (seen : Seen) (procs : List Proc) (site : Site) → IsTrue (none_broken (procs_checks channels line_spans names i seen procs)) → IsAllowed channels site → HasEnds (length channels) seen
    → (q : ℕ) (proc : Proc) → slice_get procs q ≡ Some proc → (j k : ℕ) → slice_get (sites_of proc.nodes) j ≡ Some site → slice_get (sites_of proc.nodes) k ≡ Some site → j ≡ k
procs_once channels line_spans names i seen [] site h a fits q proc e j k f g = absurd (none_there proc q e)
procs_once channels line_spans names i seen (x ∷ xs) site h a fits zero proc e j k f g =
    let parts = parts_not (proc_checks channels (get_or line_spans i nowhere_proc) names seen x) (procs_checks channels line_spans (names ++ x.name ∷ []) (suc i) (seen_after 0 (at_start seen) x.nodes) xs) h in
    let place = get_or line_spans i nowhere_proc in
    let head = parts_not (head_checks place.head names x) _ parts.0 in
    let own = parts_not (nodes_checks channels x.state place.nodes [] 0 (at_start seen) x.nodes) _ head.1 in
    let same : x ≡ proc = cc in
    nodes_once channels x.state place.nodes x.nodes [] 0 (at_start seen) site own.0 a (start_ends (length channels) seen fits) j k (subst (λ y. slice_get (sites_of y.nodes) j ≡ Some site) (sym same) f)
    (subst (λ y. slice_get (sites_of y.nodes) k ≡ Some site) (sym same) g)
procs_once channels line_spans names i seen (x ∷ xs) site h a fits (suc q) proc e j k f g =
    let parts = parts_not (proc_checks channels (get_or line_spans i nowhere_proc) names seen x) (procs_checks channels line_spans (names ++ x.name ∷ []) (suc i) (seen_after 0 (at_start seen) x.nodes) xs) h in
    procs_once channels line_spans (names ++ x.name ∷ []) (suc i) (seen_after 0 (at_start seen) x.nodes) xs site parts.1 a (after_ends (length channels) x.nodes 0 (at_start seen) (start_ends (length channels) seen fits)) q proc e j k f g
