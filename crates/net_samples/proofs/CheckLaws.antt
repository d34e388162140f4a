-- What the tests say where they are passed.
use Rattle.std.proofs.Common.{◌≡◌, ◌≢◌, ℕ, zero, suc, ◌<◌, ◌≤◌, ◌^◌, List, [], ◌∷◌, length, map, get_or, refl, sym, ap, ◌∙◌, subst, arith, true, false, Bool, not, eqb, Some, None, Option, inl, inr}
use Rattle.std.specs.Prelude.{slice_get, ◌&&◌, ◌||◌, ◌⊎◌, nat_lt, nat_le}
use Rattle.std.specs.List.{list_all}
use Rattle.std.specs.Str.{bytes_eq}
use Rattle.std.proofs.lemmas.Bool.{cases_lt}
use Rattle.std.proofs.lemmas.Bool.Decides.{nat_tests}
use Rattle.xb_bits.specs.Word.{Word}
use Rattle.xb_value.specs.declared.ty.Ty.{Ty, out-Ty}
use Rattle.xb_value.specs.declared.ty.Ty as ty
use Rattle.xb_value.specs.declared.ty.Ty.TheViews.{outs-Bits, outs-Tuple, outs-Array}
use Rattle.xb_value.proofs.Lemmas.Types as types
use Rattle.xb_value.proofs.Lemmas.Types.{ty_induction}
use Rattle.xb_value.proofs.Lemmas.Typing.{fits-Bits}
use Rattle.xb_value.specs.declared.ty.Ty.TheOpen.{Ty-F}
use Rattle.xb_value.specs.declared.value.Value.{Value, out-Value}
use Rattle.xb_value.specs.declared.value.Value.TheOpen.{Value-F}
use Rattle.xb_value.specs.Typing.{IsOfType, is_word_of, bits_fit}
use Rattle.xb_value.specs.Width.{width_of, HasWidths, widths_step}
use Rattle.net_core.specs.declared.net.Net.{Net}
use Rattle.net_core.specs.declared.net.ProcHead.{ProcHead}
use Rattle.net_core.specs.declared.net.Site.{Site}
use Rattle.net_core.specs.declared.net.Chan.{Chan}
use Rattle.net_core.specs.declared.net.Kind.{Kind}
use Rattle.net_core.specs.declared.net.Kind.TheVariants.{Input, Output, Inner}
use Rattle.net_core.specs.Behavior.{Behavior, IsWordOf}
use Rattle.net_core.specs.WellFormed.{IsNet, IsSiteOf, IsInputs, IsBehaviorFor, AreBehaviorsOf}
use Rattle.net_samples.specs.declared.sample.Port.{Port}
use Rattle.net_samples.specs.declared.sample.Sample.{Sample}
use Rattle.net_samples.specs.declared.sample.Step.{Step}
use Rattle.net_samples.specs.declared.sample.Step.TheVariants.{Stay, Count, Flip}
use Rattle.net_samples.specs.Behaviors.{behavior_of, type_of}
use Rattle.net_samples.specs.Checks.{bits_open, opens_well, may_use, chan_used, site_fits, head_fits, eight_bits, chan_fits, differ, differ_sends, apart, own_ends, other_name, own_names, width_after, bits_of, same_sites, body_fits, each_fits, is_empty, may_give, given, each_given}

pub both : (a b : Bool) → a && b ≡ true → (a ≡ true) × (b ≡ true)
both true b h = (refl, h)
both false b h = cc

-- an element of a list that passes
all_at : {A : Type 0} (test : A → Bool) (xs : List A) (k : ℕ) (x : A) → list_all test xs ≡ true → slice_get xs k ≡ Some x → test x ≡ true
all_at test [] k x h e = cc
all_at test (y ∷ ys) zero x h e =
    let same : y ≡ x = cc in
    ap test (sym same) ∙ (both (test y) (list_all test ys) h).0
all_at test (y ∷ ys) (suc k) x h e = all_at test ys k x (both (test y) (list_all test ys) h).1 e

lt_of : (m n : ℕ) → nat_lt m n ≡ true → m < n
lt_of m n h = grind (arith, nat_tests)

eq_of : (m n : ℕ) → eqb m n ≡ true → m ≡ n
eq_of m n h = grind (arith, nat_tests)

-- opening states
same_fit : (w : ℕ) (u : Value-F Value) → bits_open (Ty-F.Bits w) u ≡ bits_fit w u
same_fit w (Value-F.Bits x) = refl
same_fit w (Value-F.Tuple vs) = refl
same_fit w (Value-F.Array vs) = refl

width_fits : (w : ℕ) (u : Value-F Value) → bits_fit w u ≡ true → nat_le 1 w && nat_le w 128 ≡ true
width_fits w (Value-F.Bits x) h =
    let c = both (eqb x.width w && nat_le 1 w && nat_le w 128) _ h in
    let d = both (eqb x.width w && nat_le 1 w) (nat_le w 128) c.0 in
    let e = both (eqb x.width w) (nat_le 1 w) d.0 in
    ap (λ b. b && nat_le w 128) e.1 ∙ d.1
width_fits w (Value-F.Tuple vs) h = cc
width_fits w (Value-F.Array vs) h = cc

opens_at : (t : Ty) (v : Value) → bits_open (out-Ty t) (out-Value v) ≡ true → IsOfType t v × HasWidths t
opens_at = ty_induction (λ t. (v : Value) → bits_open (out-Ty t) (out-Value v) ≡ true → IsOfType t v × HasWidths t)
    (λ w v h.
    let fit : bits_fit w (out-Value v) ≡ true = sym (same_fit w (out-Value v)) ∙ (ap (λ u. bits_open u (out-Value v)) (sym (outs-Bits w)) ∙ h) in
    (fits-Bits w v ∙ fit, types.fold-Bits Bool widths_step w ∙ width_fits w (out-Value v) fit))
    (λ ts each v h. let never : false ≡ true = ap (λ u. bits_open u (out-Value v)) (sym (outs-Tuple ts)) ∙ h in absurd (cc))
    (λ t n each v h. let never : false ≡ true = ap (λ u. bits_open u (out-Value v)) (sym (outs-Array t n)) ∙ h in absurd (cc))

opens : (head : ProcHead) → opens_well head ≡ true → IsOfType head.state head.init × HasWidths head.state
opens head h = opens_at head.state head.init h

-- a type of bits of some width
bits_at : (t : Ty) (width : ℕ) → bits_of (out-Ty t) width ≡ true → t ≡ ty.Bits width
bits_at = ty_induction (λ t. (width : ℕ) → bits_of (out-Ty t) width ≡ true → t ≡ ty.Bits width)
    (λ w width h.
    let e : eqb w width ≡ true = ap (λ u. bits_of u width) (sym (outs-Bits w)) ∙ h in
    ap ty.Bits (eq_of w width e))
    (λ ts each width h. let never : false ≡ true = ap (λ u. bits_of u width) (sym (outs-Tuple ts)) ∙ h in absurd (cc))
    (λ t n each width h. let never : false ≡ true = ap (λ u. bits_of u width) (sym (outs-Array t n)) ∙ h in absurd (cc))

eight_is : (u : Ty-F Ty) → eight_bits u ≡ true → bits_of u 8 ≡ true
eight_is (Ty-F.Bits w) h = h
eight_is (Ty-F.Tuple ts) h = cc
eight_is (Ty-F.Array t n) h = cc

chan_is : (chan : Chan) → chan_fits chan ≡ true → (width_of chan.ty ≡ 8) × HasWidths chan.ty
chan_is chan h =
    let e = bits_at chan.ty 8 (eight_is (out-Ty chan.ty) h) in
    (ap width_of e ∙ types.width_of-Bits 8, subst (λ t. HasWidths t) (sym e) (types.fold-Bits Bool widths_step 8))

-- a site's channel
used : (o : Option Chan) (sends : Bool) → chan_used o sends ≡ true → (chan : Chan) × (o ≡ Some chan) × (may_use chan.kind sends ≡ true)
used None sends h = cc
used (Some chan) sends h = (chan, refl, h)

within : {A : Type 0} (xs : List A) (k : ℕ) (x : A) → slice_get xs k ≡ Some x → k < length xs
within [] k x e = cc
within (y ∷ ys) zero x e = omega arith
within (y ∷ ys) (suc k) x e = omega (arith, within ys k x e)

no_input : (kind : Kind) (sends : Bool) → may_use kind sends ≡ true → sends ≡ true → kind ≢ Input
no_input Input true h e = cc
no_input Input false h e = cc
no_input Output sends h e = λ x. let f = x in cc
no_input Inner sends h e = λ x. let f = x in cc

no_output : (kind : Kind) (sends : Bool) → may_use kind sends ≡ true → sends ≡ false → kind ≢ Output
no_output Output true h e = cc
no_output Output false h e = cc
no_output Input sends h e = λ x. let f = x in cc
no_output Inner sends h e = λ x. let f = x in cc

or_false : (a b : Bool) → a || b ≡ true → a ≡ false → b ≡ true
or_false true b h e = cc
or_false false b h e = h

sends_apart : (a b : Bool) → differ_sends a b ≡ true → a ≡ b → ⊥
sends_apart true true h e = cc
sends_apart true false h e = cc
sends_apart false true h e = cc
sends_apart false false h e = cc

-- different ends are different
ends_apart : (a b : Site) → differ a b ≡ true → a.chan ≡ b.chan → a.sends ≡ b.sends → ⊥
ends_apart a b h e f =
    let t : eqb a.chan b.chan ≡ true = grind (arith, nat_tests) in
    sends_apart a.sends b.sends (or_false (not (eqb a.chan b.chan)) (differ_sends a.sends b.sends) h (ap not t)) f

later_apart : (heads : List ProcHead) (p q : ℕ) (a b : ProcHead) → own_ends heads ≡ true → slice_get heads p ≡ Some a → slice_get heads q ≡ Some b → p < q → apart a.sites b.sites ≡ true
later_apart [] p q a b h e f l = cc
later_apart (x ∷ xs) zero zero a b h e f l = absurd (omega (arith, l))
later_apart (x ∷ xs) zero (suc q) a b h e f l =
    let same : x ≡ a = cc in
    let t = all_at (λ (other : ProcHead). apart x.sites other.sites) xs q b (both _ _ h).0 f in
    ap (λ (y : ProcHead). apart y.sites b.sites) (sym same) ∙ t
later_apart (x ∷ xs) (suc p) zero a b h e f l = absurd (omega (arith, l))
later_apart (x ∷ xs) (suc p) (suc q) a b h e f l = later_apart xs p q a b (both _ _ h).1 e f (omega (arith, l))

sites_apart : (ones bs : List Site) (i j : ℕ) (a b : Site) → apart ones bs ≡ true → slice_get ones i ≡ Some a → slice_get bs j ≡ Some b → a.chan ≡ b.chan → a.sends ≡ b.sends → ⊥
sites_apart ones bs i j a b h e f c s = ends_apart a b (all_at (differ a) bs j b (all_at (λ (site : Site). list_all (differ site) bs) ones i a h e) f) c s

one_proc : (net : Net) → own_ends net.procs ≡ true → (p q i j : ℕ) (a b : Site) → IsSiteOf net p i a → IsSiteOf net q j b → a.chan ≡ b.chan → a.sends ≡ b.sends → p ≡ q
one_proc net h p q i j a b x y c s = go (cases_lt p q) (cases_lt q p)
  where
    go : (p < q) ⊎ (q ≤ p) → (q < p) ⊎ (p ≤ q) → p ≡ q
    go (inl l) _ = absurd (sites_apart x.head.sites y.head.sites i j a b (later_apart net.procs p q x.head y.head h x.proc y.proc l) x.place y.place c s)
    go (inr k) (inl l) = absurd (sites_apart y.head.sites x.head.sites j i b a (later_apart net.procs q p y.head x.head h y.proc x.proc l) y.place x.place (sym c) (sym s))
    go (inr k) (inr l) = omega (arith, k, l)

bytes_itself : (xs : List ℕ) → bytes_eq xs xs ≡ true
bytes_itself [] = refl
bytes_itself (x ∷ xs) =
    let t : eqb x x ≡ true = grind (arith, nat_tests) in
    ap (λ b. b && bytes_eq xs xs) t ∙ bytes_itself xs

later_name : (chans : List Chan) (c d : ℕ) (a b : Chan) → own_names chans ≡ true → slice_get chans c ≡ Some a → slice_get chans d ≡ Some b → c < d → a.name ≡ b.name → ⊥
later_name [] c d a b h e f l n = cc
later_name (x ∷ xs) zero zero a b h e f l n = omega (arith, l)
later_name (x ∷ xs) zero (suc d) a b h e f l n =
    let same : x ≡ a = cc in
    let t = all_at (other_name x) xs d b (both _ _ h).0 f in
    let u : bytes_eq x.name b.name ≡ true = ap (λ m. bytes_eq x.name m) (sym (ap (λ (y : Chan). y.name) same ∙ n)) ∙ bytes_itself x.name in
    let never : false ≡ true = sym (ap not u) ∙ t in
    cc
later_name (x ∷ xs) (suc c) zero a b h e f l n = omega (arith, l)
later_name (x ∷ xs) (suc c) (suc d) a b h e f l n = later_name xs c d a b (both _ _ h).1 e f (omega (arith, l)) n

own_names_apart : (chans : List Chan) → own_names chans ≡ true → (c d : ℕ) (a b : Chan) → slice_get chans c ≡ Some a → slice_get chans d ≡ Some b → a.name ≡ b.name → c ≡ d
own_names_apart chans h c d a b e f n = go (cases_lt c d) (cases_lt d c)
  where
    go : (c < d) ⊎ (d ≤ c) → (d < c) ⊎ (c ≤ d) → c ≡ d
    go (inl l) _ = absurd (later_name chans c d a b h e f l n)
    go (inr k) (inl l) = absurd (later_name chans d c b a h f e l (sym n))
    go (inr k) (inr l) = omega (arith, k, l)

head_parts : (chans : List Chan) (head : ProcHead) → head_fits chans head ≡ true
    → (length head.sites < 2 ^ 30) × (opens_well head ≡ true) × (list_all (site_fits chans) head.sites ≡ true)
head_parts chans head h =
    let t = both (nat_lt (length head.sites) (2 ^ 30)) (opens_well head && list_all (site_fits chans) head.sites) h in
    let u = both (opens_well head) (list_all (site_fits chans) head.sites) t.1 in
    (lt_of _ _ t.0, u.0, u.1)

-- the parts of a network that passes fit
pub is_net : (net : Net) → length net.procs < 2 ^ 32 → length net.chans < 2 ^ 32 → list_all (head_fits net.chans) net.procs ≡ true → list_all chan_fits net.chans ≡ true
    → own_ends net.procs ≡ true → own_names net.chans ≡ true → IsNet net
is_net net few_procs few_chans heads chans ends names =
    record {
      few_procs = few_procs;
      few_chans = few_chans;
      few_sites = λ p head e. (head_parts net.chans head (at_head p head e)).0;
      opening = λ p head e. (opens head (head_parts net.chans head (at_head p head e)).1).0;
      state_widths = λ p head e. (opens head (head_parts net.chans head (at_head p head e)).1).1;
      chan_widths = λ c chan e. (chan_is chan (all_at chan_fits net.chans c chan chans e)).1;
      site = λ p i site at. let u = at_site p i site at in within net.chans site.chan u.0 u.1;
      no_send = λ p i site chan at s e.
          let u = at_site p i site at in
          let same : u.0 ≡ chan = let a = u.1 in cc in
          subst (λ (x : Chan). x.kind ≢ Input) same (no_input u.0.kind site.sends u.2 s);
      no_receive = λ p i site chan at s e.
          let u = at_site p i site at in
          let same : u.0 ≡ chan = let a = u.1 in cc in
          subst (λ (x : Chan). x.kind ≢ Output) same (no_output u.0.kind site.sends u.2 s);
      one_proc = one_proc net ends;
      some_width = λ c chan e. omega (arith, (chan_is chan (all_at chan_fits net.chans c chan chans e)).0);
      most_width = λ c chan e. omega (arith, (chan_is chan (all_at chan_fits net.chans c chan chans e)).0);
      own_names = own_names_apart net.chans names;
    }
  where
    at_head : (p : ℕ) (head : ProcHead) → slice_get net.procs p ≡ Some head → head_fits net.chans head ≡ true
    at_head p head e = all_at (head_fits net.chans) net.procs p head heads e

    at_site : (p i : ℕ) (site : Site) → IsSiteOf net p i site → (chan : Chan) × (slice_get net.chans site.chan ≡ Some chan) × (may_use chan.kind site.sends ≡ true)
    at_site p i site at =
        used (slice_get net.chans site.chan) site.sends
        (all_at (site_fits net.chans) at.head.sites i site (head_parts net.chans at.head (at_head p at.head at.proc)).2 at.place)

same : {a b : Site} → a.chan ≡ b.chan → a.sends ≡ b.sends → a ≡ b
same {a} {b} e f = ap (λ c. record { chan = c; sends = a.sends }) e ∙ ap (λ s. record { chan = b.chan; sends = s }) f

site_same : (a b : Site) → not (differ a b) ≡ true → a ≡ b
site_same a b h = go (eqb a.chan b.chan) refl a.sends b.sends refl refl h
  where
    go : (t : Bool) → eqb a.chan b.chan ≡ t → (s r : Bool) → a.sends ≡ s → b.sends ≡ r → not (not t || differ_sends s r) ≡ true → a ≡ b
    go false e s r f g k = cc
    go true e true true f g k = same (eq_of _ _ e) (f ∙ sym g)
    go true e true false f g k = cc
    go true e false true f g k = cc
    go true e false false f g k = same (eq_of _ _ e) (f ∙ sym g)

sites_same : (sites : List Site) (ports : List Port) → same_sites sites ports ≡ true → map (λ (port : Port). port.site) ports ≡ sites
sites_same [] [] h = refl
sites_same [] (port ∷ ports) h = cc
sites_same (site ∷ sites) [] h = cc
sites_same (site ∷ sites) (port ∷ ports) h =
    let t = both (not (differ site port.site)) (same_sites sites ports) h in
    let first = sym (site_same site port.site t.0) in
    let rest = sites_same sites ports t.1 in
    cc

width_type : (step : Step) → ty.Bits (width_after step) ≡ type_of step
width_type Stay = refl
width_type (Count source) = refl
width_type Flip = refl

fits_at : (heads : List ProcHead) (samples : List Sample) (p : ℕ) (head : ProcHead) (b : Behavior) → each_fits heads samples ≡ true → slice_get heads p ≡ Some head
    → slice_get (map behavior_of samples) p ≡ Some b → (sample : Sample) × (behavior_of sample ≡ b) × (body_fits head sample ≡ true)
fits_at [] samples p head b h e f = cc
fits_at (x ∷ xs) [] p head b h e f = cc
fits_at (x ∷ xs) (y ∷ ys) zero head b h e f =
    let same : x ≡ head = cc in
    let is : behavior_of y ≡ b = cc in
    (y, is, subst (λ (z : ProcHead). body_fits z y ≡ true) same (both (body_fits x y) (each_fits xs ys) h).0)
fits_at (x ∷ xs) (y ∷ ys) (suc p) head b h e f = fits_at xs ys p head b (both (body_fits x y) (each_fits xs ys) h).1 e f

same_count : (heads : List ProcHead) (samples : List Sample) → each_fits heads samples ≡ true → length (map behavior_of samples) ≡ length heads
same_count [] [] h = refl
same_count [] (y ∷ ys) h = cc
same_count (x ∷ xs) [] h = cc
same_count (x ∷ xs) (y ∷ ys) h = ap suc (same_count xs ys (both (body_fits x y) (each_fits xs ys) h).1)

pub are_behaviors : (net : Net) (samples : List Sample) → list_all chan_fits net.chans ≡ true → each_fits net.procs samples ≡ true → AreBehaviorsOf net (map behavior_of samples)
are_behaviors net samples chans h =
    record {
      count = same_count net.procs samples h;
      each = λ p head b e f.
          let at = fits_at net.procs samples p head b h e f in
          let t = both (bits_of (out-Ty head.state) (width_after at.0.step)) (same_sites head.sites at.0.ports) at.2 in
          let fits : IsBehaviorFor net head (behavior_of at.0) = record {
            state = sym (width_type at.0.step) ∙ sym (bits_at head.state (width_after at.0.step) t.0);
            sites = sites_same head.sites at.0.ports t.1;
            widths = λ i site chan place g. sym (chan_is chan (all_at chan_fits net.chans site.chan chan chans g)).0;
          } in
          subst (λ (x : Behavior). IsBehaviorFor net head x) at.1 fits;
    }

word_is : (w : Word) → is_word_of 8 w ≡ true → IsWordOf 8 w
word_is w h =
    let c = both (eqb w.width 8 && true && true) (nat_lt w.value (2 ^ 8)) h in
    let width = eq_of w.width 8 (both (eqb w.width 8) true (both (eqb w.width 8 && true) true c.0).0).0 in
    record { word = record { some_width = omega (arith, width); most_width = omega (arith, width); in_range = subst (λ k. w.value < 2 ^ k) (sym width) (lt_of _ _ c.1) }; fits = width }

empty_nil : (ws : List Word) → is_empty ws ≡ true → ws ≡ []
empty_nil [] h = refl
empty_nil (w ∷ ws) h = cc

none_given : (kind : Kind) (ws : List Word) → may_give kind ws ≡ true → kind ≢ Input → ws ≡ []
none_given Input ws h e = absurd (e refl)
none_given Output ws h e = empty_nil ws h
none_given Inner ws h e = empty_nil ws h

given_at : (chans : List Chan) (inputs : List (List Word)) (c : ℕ) (chan : Chan) → each_given chans inputs ≡ true → slice_get chans c ≡ Some chan → given chan (get_or inputs c []) ≡ true
given_at [] inputs c chan h e = cc
given_at (x ∷ xs) [] c chan h e = cc
given_at (x ∷ xs) (ws ∷ wss) zero chan h e =
    let same : x ≡ chan = cc in
    ap (λ (y : Chan). given y ws) (sym same) ∙ (both (given x ws) (each_given xs wss) h).0
given_at (x ∷ xs) (ws ∷ wss) (suc c) chan h e = given_at xs wss c chan (both (given x ws) (each_given xs wss) h).1 e

given_count : (chans : List Chan) (inputs : List (List Word)) → each_given chans inputs ≡ true → length inputs ≡ length chans
given_count [] [] h = refl
given_count [] (ws ∷ wss) h = cc
given_count (x ∷ xs) [] h = cc
given_count (x ∷ xs) (ws ∷ wss) h = ap suc (given_count xs wss (both (given x ws) (each_given xs wss) h).1)

pub are_inputs : (net : Net) (inputs : List (List Word)) → list_all chan_fits net.chans ≡ true → each_given net.chans inputs ≡ true → IsInputs net inputs
are_inputs net inputs chans h =
    record {
      count = given_count net.chans inputs h;
      words = λ c chan e k w g.
          let t = both (may_give chan.kind (get_or inputs c [])) (list_all (is_word_of 8) (get_or inputs c [])) (given_at net.chans inputs c chan h e) in
          subst (λ width. IsWordOf width w) (sym (chan_is chan (all_at chan_fits net.chans c chan chans e)).0) (word_is w (all_at (is_word_of 8) (get_or inputs c []) k w t.1 g));
      only = λ c chan e no.
          none_given chan.kind (get_or inputs c []) (both (may_give chan.kind (get_or inputs c [])) (list_all (is_word_of 8) (get_or inputs c [])) (given_at net.chans inputs c chan h e)).0 no;
    }

pub are_positive : (depths : List ℕ) → list_all (nat_le 1) depths ≡ true → (c : ℕ) → c < length depths → 1 ≤ get_or depths c 0
are_positive [] h c l = absurd (omega (arith, l))
are_positive (d ∷ ds) h zero l =
    let t = (both (nat_le 1 d) (list_all (nat_le 1) ds) h).0 in
    grind (arith, nat_tests)
are_positive (d ∷ ds) h (suc c) l = are_positive ds (both (nat_le 1 d) (list_all (nat_le 1) ds) h).1 c (omega (arith, l))
