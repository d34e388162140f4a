-- All procs of a package were rebuilt.
use Rattle.std.proofs.Common.{◌≡◌, ℕ, zero, suc, ◌+◌, ◌<◌, ◌≤◌, List, [], ◌∷◌, ◌++◌, map, length, get_or, take, true, ◌&&◌, Some, refl, sym, ap, ap₂, subst, ◌∙◌, arith}
use Rattle.std.specs.Prelude.{slice_get, not, nat_lt}
use Rattle.net_core.specs.Behavior.{Behavior}
use Rattle.ir_tree.specs.declared.package.Channel.{Channel}
use Rattle.ir_tree.specs.declared.package.Proc.{Proc}
use Rattle.ir_tree.specs.declared.package.Package.{Package}
use Rattle.ir_tree.specs.Types.{ty_of}
use Rattle.ir_tree.specs.Constants.{constant_value}
use Rattle.ir_tree.specs.Activations.{activation, sites_of}
use Rattle.ir_tree.specs.Networks.{head_of, chan_of}
use Rattle.ir_tree.specs.SameBehavior.{SameActivations, SameBehavior}
use Rattle.ir_tree.specs.Rules.Checks.{Check, rule_at}
use Rattle.ir_tree.specs.Rules.RuleNumbers as rule
use Rattle.ir_tree.specs.Rules.Lines.{Seen, package_checks, head_checks, next_checks, is_name, is_plain, is_some_proc}
use Rattle.xb_span.specs.declared.fault.Fault.TheVariants.{Passed}
use Rattle.xb_span.specs.declared.limit.What.TheVariants as what
use Rattle.xb_span.specs.Spans.{nowhere}
use Rattle.ir_tree.specs.Rules.Verified.{IsVerified, first_fault, nowhere_proc, nowhere_at_all, channels_checks, procs_checks, proc_checks, seen_after, at_start, nothing_seen, checks_of, nodes_checks, count_check}
use Rattle.ir_tree.specs.Rules.Typed.Typed.{none_broken}
use Rattle.ir_tree.proofs.Lemmas.Rules.Typed.Checked.{none_noted}
use Rattle.ir_tree.proofs.Lemmas.Rules.Typed.{verified_proc}
use Rattle.ir_rebuild.specs.Inner.Rebuilt.{IsCheckedBehind, IsCheckedProc, IsRebuilt}
use Rattle.ir_rebuild.proofs.Moving.{both, and_both}
use Rattle.ir_rebuild.proofs.Finishing.{take_one, all_taken}
use Rattle.ir_rebuild.proofs.NodeChecks.{quiet_parts, quiet_join, none_named}

-- each proc was rebuilt
abbrev pub AllRebuilt : List Channel → List Proc → List Proc → Type 0
AllRebuilt channels [] [] = Unit {0}
AllRebuilt channels [] (q ∷ qs) = ⊥
AllRebuilt channels (p ∷ ps) [] = ⊥
AllRebuilt channels (p ∷ ps) (q ∷ qs) = IsRebuilt channels p q × AllRebuilt channels ps qs

pub one_rebuilt : (channels : List Channel) (ps qs : List Proc) (p q : Proc) → AllRebuilt channels ps qs → IsRebuilt channels p q → AllRebuilt channels (ps ++ p ∷ []) (qs ++ q ∷ [])
one_rebuilt channels [] [] p q h r = (r, tt)
one_rebuilt channels [] (x ∷ qs) p q h r = absurd h
one_rebuilt channels (x ∷ ps) [] p q h r = absurd h
one_rebuilt channels (x ∷ ps) (y ∷ qs) p q h r = (h.0, one_rebuilt channels ps qs p q h.1 r)

-- ---- checks

verified_checks : (ir : Package) → IsVerified ir → none_broken (checks_of ir nowhere_at_all) ≡ true
unfolding first_fault
verified_checks ir h = none_noted (checks_of ir nowhere_at_all) h

checks_verified : (ir : Package) → none_broken (checks_of ir nowhere_at_all) ≡ true → IsVerified ir
unfolding first_fault
checks_verified ir h = none_named (checks_of ir nowhere_at_all) h

abbrev counts : List Channel → List Proc → List Check
counts channels procs =
    count_check (Passed 0 (record { what = what.Procs; found = 257; most = 256 })) 256 (length procs)
    ∷ count_check (Passed 0 (record { what = what.Channels; found = 1025; most = 1024 })) 1024 (length channels)
    ∷ []

abbrev behind_package : Package → List Check
behind_package ir = channels_checks [] [] 0 ir.channels ++ (procs_checks ir.channels [] [] 0 (nothing_seen ir.channels) ir.procs ++ counts ir.channels ir.procs)

record Parts (ir : Package) : Type 0 where
  name : none_broken (package_checks nowhere ir.name ir.procs) ≡ true
  channels : none_broken (channels_checks [] [] 0 ir.channels) ≡ true
  procs : none_broken (procs_checks ir.channels [] [] 0 (nothing_seen ir.channels) ir.procs) ≡ true
  few : none_broken (counts ir.channels ir.procs) ≡ true

parts : (ir : Package) → IsVerified ir → Parts ir
parts ir h =
    let a = quiet_parts (package_checks nowhere ir.name ir.procs) (behind_package ir) (verified_checks ir h) in
    let b = quiet_parts (channels_checks [] [] 0 ir.channels) (procs_checks ir.channels [] [] 0 (nothing_seen ir.channels) ir.procs ++ counts ir.channels ir.procs) a.1 in
    let c = quiet_parts (procs_checks ir.channels [] [] 0 (nothing_seen ir.channels) ir.procs) (counts ir.channels ir.procs) b.1 in
    record { name = a.0; channels = b.0; procs = c.0; few = c.1 }

record IsAt (channels : List Channel) (proc : Proc) : Type 0 where
  names : List (List ℕ)
  seen : Seen
  checked : IsCheckedBehind channels names seen proc

proc_at : (channels : List Channel) (names : List (List ℕ)) (i : ℕ) (seen : Seen) (procs : List Proc) → none_broken (procs_checks channels [] names i seen procs) ≡ true → (q : ℕ) (proc : Proc) → slice_get procs q ≡ Some proc → IsAt channels proc
proc_at channels names i seen [] h q proc e = absurd (cc)
proc_at channels names i seen (p ∷ ps) h zero proc e =
    let sides = quiet_parts (proc_checks channels nowhere_proc names seen p) _ h in
    let same : p ≡ proc = cc in
    subst (IsAt channels) same (record { names = names; seen = seen; checked = sides.0 })
proc_at channels names i seen (p ∷ ps) h (suc q) proc e =
    let sides = quiet_parts (proc_checks channels nowhere_proc names seen p) _ h in
    proc_at channels (names ++ p.name ∷ []) (suc i) (seen_after 0 (at_start seen) p.nodes) ps sides.1 q proc e

pub checked_proc : (ir : Package) → IsVerified ir → (q : ℕ) (proc : Proc) → slice_get ir.procs q ≡ Some proc → IsCheckedProc ir.channels proc
checked_proc ir h q proc e =
    let at = proc_at ir.channels [] 0 (nothing_seen ir.channels) ir.procs (parts ir h).procs q proc e in
    record { word_types = (verified_proc ir h q proc e).word_types; names = at.names; seen = at.seen; checked = at.checked }

-- behind procs that leave the same
behind_same : (channels : List Channel) (names : List (List ℕ)) (a b : Seen) (p : Proc) → at_start a ≡ at_start b → IsCheckedBehind channels names a p → IsCheckedBehind channels names b p
behind_same channels names a b p e h =
    subst (λ s. none_broken (head_checks nowhere names p ++ (nodes_checks channels p.state [] [] 0 s p.nodes ++ (next_checks nowhere p ++ count_check (Passed 0 (record { what = what.Sites; found = 33; most = 32 })) 32 (length (sites_of p.nodes)) ∷ []))) ≡ true) e h

procs_same : (channels : List Channel) (names : List (List ℕ)) (i : ℕ) (a b : Seen) (ps qs : List Proc) → at_start a ≡ at_start b → AllRebuilt channels ps qs → none_broken (procs_checks channels [] names i a ps) ≡ true → none_broken (procs_checks channels [] names i b qs) ≡ true
procs_same channels names i a b [] [] e r h = refl
procs_same channels names i a b [] (q ∷ qs) e r h = absurd r
procs_same channels names i a b (p ∷ ps) [] e r h = absurd r
procs_same channels names i a b (p ∷ ps) (q ∷ qs) e r h =
    let sides = quiet_parts (proc_checks channels nowhere_proc names a p) _ h in
    let first = behind_same channels names a b q e (r.0.checked names a sides.0) in
    let leaves : at_start (seen_after 0 (at_start a) p.nodes) ≡ at_start (seen_after 0 (at_start b) q.nodes) =
    sym (r.0.leaves names a sides.0) ∙ ap (λ s. at_start (seen_after 0 s q.nodes)) e in
    let rest = procs_same channels (names ++ p.name ∷ []) (suc i) (seen_after 0 (at_start a) p.nodes) (seen_after 0 (at_start b) q.nodes) ps qs leaves r.1 sides.1 in
    quiet_join (proc_checks channels nowhere_proc names b q) (procs_checks channels [] (names ++ q.name ∷ []) (suc i) (seen_after 0 (at_start b) q.nodes) qs) first
    (subst (λ n. none_broken (procs_checks channels [] (names ++ n ∷ []) (suc i) (seen_after 0 (at_start b) q.nodes) qs) ≡ true) (sym r.0.name) rest)

count_same : (channels : List Channel) (ps qs : List Proc) → AllRebuilt channels ps qs → length qs ≡ length ps
count_same channels [] [] r = refl
count_same channels [] (q ∷ qs) r = absurd r
count_same channels (p ∷ ps) [] r = absurd r
count_same channels (p ∷ ps) (q ∷ qs) r = ap suc (count_same channels ps qs r.1)

some_same : (channels : List Channel) (ps qs : List Proc) → AllRebuilt channels ps qs → is_some_proc ps ≡ is_some_proc qs
some_same channels [] [] r = refl
some_same channels [] (q ∷ qs) r = absurd r
some_same channels (p ∷ ps) [] r = absurd r
some_same channels (p ∷ ps) (q ∷ qs) r = refl

-- ---- the package

abbrev pub with_procs : Package → List Proc → Package
with_procs ir qs = record { name = ir.name; channels = ir.channels; procs = qs }

pub all_verified : (ir : Package) (qs : List Proc) → IsVerified ir → AllRebuilt ir.channels ir.procs qs → IsVerified (with_procs ir qs)
all_verified ir qs h r =
    let all = parts ir h in
    let d = both (not (nat_lt 256 (length ir.procs))) (not (nat_lt 1024 (length ir.channels)) && true) all.few in
    let procs = procs_same ir.channels [] 0 (nothing_seen ir.channels) (nothing_seen ir.channels) ir.procs qs refl r all.procs in
    let count : none_broken (counts ir.channels qs) ≡ true = and_both _ _ (ap (λ n. not (nat_lt 256 n)) (count_same ir.channels ir.procs qs r) ∙ d.0) d.1 in
    let last = quiet_join (procs_checks ir.channels [] [] 0 (nothing_seen ir.channels) qs) (counts ir.channels qs) procs count in
    let next = quiet_join (channels_checks [] [] 0 ir.channels) (procs_checks ir.channels [] [] 0 (nothing_seen ir.channels) qs ++ counts ir.channels qs) all.channels last in
    let name : none_broken (package_checks nowhere ir.name qs) ≡ true = subst (λ b. none_broken (rule_at nowhere rule.NODES_ARE_NAMED (not (is_name ir.name && (is_plain ir.name && b))) ∷ []) ≡ true) (some_same ir.channels ir.procs qs r) all.name in
    checks_verified (with_procs ir qs)
    (quiet_join (package_checks nowhere ir.name qs) (channels_checks [] [] 0 ir.channels ++ (procs_checks ir.channels [] [] 0 (nothing_seen ir.channels) qs ++ counts ir.channels qs)) name next)

heads_same : (channels : List Channel) (ps qs : List Proc) → AllRebuilt channels ps qs → map head_of ps ≡ map head_of qs
heads_same channels [] [] r = refl
heads_same channels [] (q ∷ qs) r = absurd r
heads_same channels (p ∷ ps) [] r = absurd r
heads_same channels (p ∷ ps) (q ∷ qs) r =
    let one : head_of p ≡ head_of q = λ i. record { path = sym r.0.name i; state = ty_of (sym r.0.state i); init = constant_value (ty_of (sym r.0.state i)) (sym r.0.init i); sites = sym r.0.sites i } in
    ap₂ (λ x xs. x ∷ xs) one (heads_same channels ps qs r.1)

each_same : (channels : List Channel) (ps qs : List Proc) → AllRebuilt channels ps qs → (k : ℕ) (a b : Behavior) → slice_get (map (activation channels) ps) k ≡ Some a → slice_get (map (activation channels) qs) k ≡ Some b → SameActivations a b
each_same channels [] [] r k a b e f = absurd (cc)
each_same channels [] (q ∷ qs) r k a b e f = absurd r
each_same channels (p ∷ ps) [] r k a b e f = absurd r
each_same channels (p ∷ ps) (q ∷ qs) r zero a b e f =
    let first : activation channels p ≡ a = cc in
    let second : activation channels q ≡ b = cc in
    subst (λ x. SameActivations x b) first (subst (SameActivations (activation channels p)) second r.0.same)
each_same channels (p ∷ ps) (q ∷ qs) r (suc k) a b e f = each_same channels ps qs r.1 k a b e f

behaviors_count : (channels : List Channel) (ps qs : List Proc) → AllRebuilt channels ps qs → length (map (activation channels) ps) ≡ length (map (activation channels) qs)
behaviors_count channels [] [] r = refl
behaviors_count channels [] (q ∷ qs) r = absurd r
behaviors_count channels (p ∷ ps) [] r = absurd r
behaviors_count channels (p ∷ ps) (q ∷ qs) r = ap suc (behaviors_count channels ps qs r.1)

pub all_same : (ir : Package) (qs : List Proc) → AllRebuilt ir.channels ir.procs qs → SameBehavior ir (with_procs ir qs)
all_same ir qs r = record {
  network = λ i. record { name = ir.name; procs = heads_same ir.channels ir.procs qs r i; chans = map chan_of ir.channels };
  activations = record { count = behaviors_count ir.channels ir.procs qs r; each = each_same ir.channels ir.procs qs r };
}

-- ---- the loop over the procs

pub item_there : (xs : List Proc) (i : ℕ) (x : Proc) → i < length xs → x ≡ get_or xs i x → slice_get xs i ≡ Some x
item_there [] i x h e = absurd (omega arith)
item_there (y ∷ ys) zero x h e = ap Some (sym e)
item_there (y ∷ ys) (suc i) x h e = item_there ys i x (omega arith) e

pub read_more : (channels : List Channel) (ps qs all : List Proc) (i : ℕ) (p q : Proc) → i < length ps → p ≡ get_or ps i p → all ≡ qs ++ q ∷ [] → AllRebuilt channels (take i ps) qs → IsRebuilt channels p q → AllRebuilt channels (take (i + 1) ps) all
read_more channels ps qs all i p q h e longer r one =
    subst (λ xs. AllRebuilt channels xs all) (sym (take_one ps i p h e))
    (subst (AllRebuilt channels (take i ps ++ p ∷ [])) (sym longer) (one_rebuilt channels (take i ps) qs p q r one))

pub all_procs : (channels : List Channel) (ps qs : List Proc) (i : ℕ) → length ps ≤ i → AllRebuilt channels (take i ps) qs → AllRebuilt channels ps qs
all_procs channels ps qs i h r = subst (λ xs. AllRebuilt channels xs qs) (all_taken ps i h) r
