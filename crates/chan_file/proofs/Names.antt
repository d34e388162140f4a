-- The inputs of a network by their names.
use Rattle.std.proofs.Common.{◌≡◌, ℕ, zero, suc, ◌+◌, ◌<◌, List, [], ◌∷◌, length, drop, get_or, Bool, true, false, if◌then◌else◌, Option, Some, None, Result, Ok, Err, IfOk, refl, sym, ap, ◌∙◌, arith}
use Rattle.std.specs.Prelude.{slice_get}
use Rattle.std.proofs.lemmas.List.{drop_more}
use Rattle.std.proofs.lemmas.Option.{slice_get_within}
use Rattle.std.specs.Prelude.{bytes_eq, ◌&&◌}
use Rattle.std.specs.BTreeMap.{BTreeMap, get_by, UpdatesBy}
use Rattle.std.specs.Cmp.Lexicographic.{slice_cmp}
use Rattle.std.specs.Ordering.{nat_cmp}
use Rattle.std.proofs.lemmas.Map.Text.{btree_map_updates_str}
use denote.Ref.{Bor}
use Rattle.net_core.specs.declared.net.Net.{Net}
use Rattle.net_core.specs.declared.net.Chan.{Chan}
use Rattle.chan_file.specs.ChannelFile.{input_from, input_named, is_input, is_input_named, says_input, was_named}
use Rattle.chan_file.specs.Inner.Named.{last_of}
use Rattle.chan_file.specs.OutcomeText.{chan_name}
use Rattle.chan_file.specs.declared.line.Said.TheVariants.{Channel, Fault}
use Rattle.chan_file.specs.declared.refusal.Cause.TheVariants as cause

-- the channel that was found
pub record IsFound (i : ℕ) (chans : List Chan) (name : List ℕ) (c : ℕ) : Type 0 where
  pub chan : Chan
  pub place : ℕ
  pub number : c ≡ i + place
  pub there : slice_get chans place ≡ Some chan
  pub named : is_input_named name chan ≡ true

pub input_from-is : (i : ℕ) (chans : List Chan) (name : List ℕ) (c : ℕ) → input_from i chans name ≡ Some c → IsFound i chans name c
input_from-is i [] name c e = absurd (cc)
input_from-is i (chan ∷ chans) name c e = by_case (is_input_named name chan) refl e (λ f. input_from-is (suc i) chans name c f)
  where
    by_case : (t : Bool) → is_input_named name chan ≡ t → (if t then (Some i) else (input_from (suc i) chans name)) ≡ Some c
        → (input_from (suc i) chans name ≡ Some c → IsFound (suc i) chans name c) → IsFound i (chan ∷ chans) name c
    by_case true t f later = let same : i ≡ c = (cc) in record { chan = chan; place = 0; number = omega arith; there = refl; named = t }
    by_case false t f later =
        let x = later f in
        let number = x.number in
        record { chan = x.chan; place = suc x.place; number = omega arith; there = x.there; named = x.named }

pub input_named-within : (net : Net) (name : List ℕ) (c : ℕ) → input_named net name ≡ Some c → c < length net.chans
input_named-within net name c e =
    let x = input_from-is 0 net.chans name c e in
    let place = slice_get_within net.chans x.place x.chan x.there in
    let number = x.number in
    omega arith

-- one channel more, from the last on
pub input_from-step : (chans : List Chan) (c : ℕ) (chan : Chan) (name : List ℕ) → c < length chans → chan ≡ get_or chans c chan
    → input_from c (drop c chans) name ≡ (if is_input_named name chan then (Some c) else (input_from (c + 1) (drop (c + 1) chans) name))
input_from-step chans c chan name h is =
    let more : drop c chans ≡ get_or chans c chan ∷ drop (c + 1) chans = drop_more chans c chan h in
    let next : suc c ≡ c + 1 = omega arith in
    ap (λ xs. input_from c xs name) (more ∙ ap (λ x. x ∷ drop (c + 1) chans) (sym is))
    ∙ ap (λ k. if is_input_named name chan then (Some c) else (input_from k (drop (c + 1) chans) name)) next

-- a map with the inputs from channel c on, by their names
abbrev pub KnowsFrom : List Chan → ℕ → BTreeMap (Bor (List ℕ)) ℕ → Type 0
KnowsFrom chans c m = (name : List ℕ) → get_by (λ k. slice_cmp nat_cmp name k.now) m ≡ input_from c (drop c chans) name

-- a channel that is no input
pub knows_past : (chans : List Chan) (c : ℕ) (chan : Chan) (m : BTreeMap (Bor (List ℕ)) ℕ) → c < length chans → chan ≡ get_or chans c chan
    → is_input chan.kind ≡ false → KnowsFrom chans (c + 1) m → KnowsFrom chans c m
knows_past chans c chan m h is none known name =
    known name
    ∙ sym (input_from-step chans c chan name h is
    ∙ ap (λ t. if t && bytes_eq chan.name name then (Some c) else (input_from (c + 1) (drop (c + 1) chans) name)) none)

-- an input
pub knows_more : (chans : List Chan) (c : ℕ) (chan : Chan) (m n : BTreeMap (Bor (List ℕ)) ℕ) (key : List ℕ) (v : ℕ) → c < length chans → chan ≡ get_or chans c chan
    → is_input chan.kind ≡ true → key ≡ chan.name → v ≡ c → UpdatesBy (λ x y. slice_cmp nat_cmp x.now y.now) (λ k. slice_cmp nat_cmp key k.now) m n (Some v)
    → KnowsFrom chans (c + 1) m → KnowsFrom chans c n
knows_more chans c chan m n key v h is some named number updates known name =
    btree_map_updates_str key m n (Some v) updates name
    ∙ ap (λ r. if bytes_eq key name then (Some v) else r) (known name)
    ∙ ap (λ k. if bytes_eq k name then (Some v) else (input_from (c + 1) (drop (c + 1) chans) name)) named
    ∙ ap (λ x. if bytes_eq chan.name name then (Some x) else (input_from (c + 1) (drop (c + 1) chans) name)) number
    ∙ sym (input_from-step chans c chan name h is
    ∙ ap (λ t. if t && bytes_eq chan.name name then (Some c) else (input_from (c + 1) (drop (c + 1) chans) name)) some)

-- ---- which were named

pub says_twice : (before : List ℕ) (o : Option ℕ) (c : ℕ) → o ≡ Some c → was_named c before ≡ true → Fault cause.Twice ≡ says_input before o
says_twice before o c e h = sym (ap (says_input before) e ∙ ap (λ t. if t then (Fault cause.Twice) else (Channel c)) h)

pub says_channel : (before : List ℕ) (o : Option ℕ) (c : ℕ) → o ≡ Some c → was_named c before ≡ false → Channel c ≡ says_input before o
says_channel before o c e h = sym (ap (says_input before) e ∙ ap (λ t. if t then (Fault cause.Twice) else (Channel c)) h)

pub last_none : (cs : List ℕ) → last_of cs ≡ None → cs ≡ []
last_none [] e = refl
last_none (c ∷ cs) e = absurd (cc)

pub last_some : (cs : List ℕ) (c : ℕ) → last_of cs ≡ Some c → (rest : List ℕ) × (cs ≡ c ∷ rest)
last_some [] c e = absurd (cc)
last_some (d ∷ cs) c e = (cs, (let same : d ≡ c = (cc) in ap (λ x. x ∷ cs) same))

pub there : {A : Type 0} (xs : List A) (i : ℕ) → i < length xs → slice_get xs i ≡ None → ⊥
there [] i h e = absurd (omega arith)
there (x ∷ xs) zero h e = absurd (cc)
there (x ∷ xs) (suc i) h e = there xs i (omega arith) e

pub ok_map : {A E : Type 0} (P Q : A → Type 0) (r : Result A E) → ((a : A) → P a → Q a) → IfOk r P → IfOk r Q
ok_map P Q (Ok a) f h = f a h
ok_map P Q (Err e) f h = tt

-- the name of a channel by its number
pub chan_name-there : (chans : List Chan) (c : ℕ) (chan : Chan) → slice_get chans c ≡ Some chan → chan.name ≡ chan_name chans c
chan_name-there [] c chan e = absurd (cc)
chan_name-there (x ∷ chans) zero chan e = let same : x ≡ chan = (cc) in ap (λ (y : Chan). y.name) (sym same)
chan_name-there (x ∷ chans) (suc c) chan e = chan_name-there chans c chan e

pub chan_name-past : (chans : List Chan) (c : ℕ) → slice_get chans c ≡ None → ◌≡◌ {A = List ℕ} [] (chan_name chans c)
chan_name-past [] c e = refl
chan_name-past (x ∷ chans) zero e = absurd (cc)
chan_name-past (x ∷ chans) (suc c) e = chan_name-past chans c e
