-- What one event more adds to the words that were sent and received.
use Rattle.std.proofs.Common.{◌≡◌, ◌≢◌, ℕ, suc, ◌+◌, List, [], ◌∷◌, ◌++◌, refl, sym, ap, ◌∙◌, subst, arith, true, false, Bool, cond, eqb, Some, None, Option}
use Rattle.std.specs.Prelude.{slice_get, get_or}
use Rattle.std.proofs.lemmas.Bool.Decides.{nat_tests}
use Rattle.std.proofs.lemmas.List.{append-nil}
use Rattle.xb_bits.specs.Word.{Word}
use Rattle.xb_value.specs.declared.value.Value.{Value}
use Rattle.net_core.specs.declared.net.Site.{Site}
use Rattle.net_core.specs.declared.net.Chan.{Chan}
use Rattle.net_core.specs.declared.net.Kind.{Kind}
use Rattle.net_core.specs.declared.net.Kind.TheVariants.{Input, Output, Inner}
use Rattle.net_core.specs.declared.event.Event.{Event}
use Rattle.net_core.specs.declared.event.Event.TheVariants.{Recv, Send, End}
use Rattle.net_core.specs.Behavior.{chan_at}
use Rattle.net_core.specs.Cuts.{Proc, Run, Cut, sites_of, sites_at, sender, receiver, words_sent, count_received, words_by, words_at, received_at}
use Rattle.net_core.specs.Machine.{with_event}
use Rattle.net_core.proofs.Confluence.{eqb-same}

pub same_there : {A : Type 0} (o : Option A) (x y : A) → o ≡ Some x → o ≡ Some y → x ≡ y
same_there o x y e f = cc

if_append : (b : Bool) (w : Word) (xs ys zs : List Word) → zs ≡ xs ++ ys → cond b (w ∷ zs) zs ≡ cond b (w ∷ xs) xs ++ ys
if_append true w xs ys zs e = ap (λ us. w ∷ us) e
if_append false w xs ys zs e = e

pub words_sent-append : (sites : List Site) (c : ℕ) (xs ys : List Event) → words_sent sites c (xs ++ ys) ≡ words_sent sites c xs ++ words_sent sites c ys
unfolding words_sent
words_sent-append sites c [] ys = refl
words_sent-append sites c (Recv i ∷ xs) ys = words_sent-append sites c xs ys
words_sent-append sites c (Send i w ∷ xs) ys = if_append (eqb (chan_at sites i) c) w _ _ _ (words_sent-append sites c xs ys)
words_sent-append sites c (End s ∷ xs) ys = words_sent-append sites c xs ys

if_add : (b : Bool) (m n k : ℕ) → k ≡ m + n → cond b (suc k) k ≡ cond b (suc m) m + n
if_add true m n k e = omega (arith, e)
if_add false m n k e = e

pub count_received-append : (sites : List Site) (c : ℕ) (xs ys : List Event) → count_received sites c (xs ++ ys) ≡ count_received sites c xs + count_received sites c ys
unfolding count_received
count_received-append sites c [] ys = omega arith
count_received-append sites c (Recv i ∷ xs) ys = if_add (eqb (chan_at sites i) c) _ _ _ (count_received-append sites c xs ys)
count_received-append sites c (Send i w ∷ xs) ys = count_received-append sites c xs ys
count_received-append sites c (End s ∷ xs) ys = count_received-append sites c xs ys

-- what one event adds, if it is this proc's
sent_with : (run : Run) (cut : Cut) (p q c : ℕ) (e : Event)
    → words_sent (sites_at run q) c (with_event cut p e q) ≡ words_sent (sites_at run q) c (cut q) ++ cond (eqb q p) (words_sent (sites_at run q) c (e ∷ [])) []
sent_with run cut p q c e = go (eqb q p)
  where
    go : (b : Bool) → words_sent (sites_at run q) c (cond b (cut q ++ e ∷ []) (cut q)) ≡ words_sent (sites_at run q) c (cut q) ++ cond b (words_sent (sites_at run q) c (e ∷ [])) []
    go true = words_sent-append (sites_at run q) c (cut q) (e ∷ [])
    go false = sym (append-nil _)

received_with : (run : Run) (cut : Cut) (p q c : ℕ) (e : Event)
    → count_received (sites_at run q) c (with_event cut p e q) ≡ count_received (sites_at run q) c (cut q) + cond (eqb q p) (count_received (sites_at run q) c (e ∷ [])) 0
received_with run cut p q c e = go (eqb q p)
  where
    go : (b : Bool) → count_received (sites_at run q) c (cond b (cut q ++ e ∷ []) (cut q)) ≡ count_received (sites_at run q) c (cut q) + cond b (count_received (sites_at run q) c (e ∷ [])) 0
    go true = count_received-append (sites_at run q) c (cut q) (e ∷ [])
    go false = omega arith

-- the words on a channel, by those that its sender sent
by_kind : Kind → List Word → List Word → List Word
by_kind kind outside sent = elim kind [ Input ↦ outside | Output ↦ sent | Inner ↦ sent ]

words_by_kind : (run : Run) (cut : Cut) (c : ℕ) (chan : Chan) → slice_get run.chans c ≡ Some chan
    → words_at run cut c ≡ by_kind chan.kind (get_or run.inputs c []) (words_sent (sites_at run (sender run c)) c (cut (sender run c)))
unfolding words_at words_by by_kind
words_by_kind run cut c chan e = ap (λ o. words_by run cut c o) e

-- what holds of the words of the outside and of those of the sender holds of the channel's
pub words_either : (run : Run) (cut : Cut) (c : ℕ) (chan : Chan) → slice_get run.chans c ≡ Some chan → (P : List Word → Type 0)
    → P (get_or run.inputs c []) → P (words_sent (sites_at run (sender run c)) c (cut (sender run c))) → P (words_at run cut c)
unfolding by_kind
words_either run cut c chan e P outside sent = subst P (sym (words_by_kind run cut c chan e)) (go chan.kind)
  where
    go : (kind : Kind) → P (by_kind kind (get_or run.inputs c []) (words_sent (sites_at run (sender run c)) c (cut (sender run c))))
    go Input = outside
    go Output = sent
    go Inner = sent

same_by : (run : Run) (cut more : Cut) (c : ℕ) (o : Option Chan) → words_sent (sites_at run (sender run c)) c (more (sender run c)) ≡ words_sent (sites_at run (sender run c)) c (cut (sender run c))
    → words_by run more c o ≡ words_by run cut c o
unfolding words_by by_kind
same_by run cut more c None e = refl
same_by run cut more c (Some chan) e = ap (λ xs. by_kind chan.kind (get_or run.inputs c []) xs) e

-- where the sender sent nothing more, no word is more
same_words : (run : Run) (cut more : Cut) (c : ℕ) → words_sent (sites_at run (sender run c)) c (more (sender run c)) ≡ words_sent (sites_at run (sender run c)) c (cut (sender run c))
    → words_at run more c ≡ words_at run cut c
unfolding words_at
same_words run cut more c e = same_by run cut more c (slice_get run.chans c) e

cond_nil : (b : Bool) → ◌≡◌ {A = List Word} (cond b [] []) []
cond_nil true = refl
cond_nil false = refl

cond_zero : (b : Bool) → ◌≡◌ {A = ℕ} (cond b 0 0) 0
cond_zero true = refl
cond_zero false = refl

eqb-differs : (m n : ℕ) → m ≢ n → eqb m n ≡ false
eqb-differs m n h = grind (arith, nat_tests)

pub eqb-itself : (m n : ℕ) → m ≡ n → eqb m n ≡ true
eqb-itself m n h = grind (arith, nat_tests)

-- a receive and an end send nothing
pub words_at-receive : (run : Run) (cut : Cut) (p i c : ℕ) → words_at run (with_event cut p (Recv i)) c ≡ words_at run cut c
words_at-receive run cut p i c =
    let none : cond (eqb (sender run c) p) (words_sent (sites_at run (sender run c)) c (Recv i ∷ [])) [] ≡ [] = unfold words_sent in cond_nil (eqb (sender run c) p) in
    same_words run cut (with_event cut p (Recv i)) c
    (sent_with run cut p (sender run c) c (Recv i) ∙ (ap (λ xs. words_sent (sites_at run (sender run c)) c (cut (sender run c)) ++ xs) none ∙ append-nil _))

pub words_at-end : (run : Run) (cut : Cut) (p c : ℕ) (s : Value) → words_at run (with_event cut p (End s)) c ≡ words_at run cut c
words_at-end run cut p c s =
    let none : cond (eqb (sender run c) p) (words_sent (sites_at run (sender run c)) c (End s ∷ [])) [] ≡ [] = unfold words_sent in cond_nil (eqb (sender run c) p) in
    same_words run cut (with_event cut p (End s)) c
    (sent_with run cut p (sender run c) c (End s) ∙ (ap (λ xs. words_sent (sites_at run (sender run c)) c (cut (sender run c)) ++ xs) none ∙ append-nil _))

-- a send adds its word to its channel
sent_other : (sites : List Site) (b : Bool) (i c : ℕ) (w : Word) → chan_at sites i ≢ c → cond b (words_sent sites c (Send i w ∷ [])) [] ≡ []
unfolding words_sent
sent_other sites true i c w h = ap (λ b. cond b (w ∷ []) []) (eqb-differs _ _ h)
sent_other sites false i c w h = refl

-- the same for a send by a proc that isn't the channel's sender
other_sender : (run : Run) (cut : Cut) (p i c : ℕ) (w : Word) (proc : Proc) → slice_get run.procs p ≡ Some proc → chan_at proc.behavior.sites i ≢ c
    → cond (eqb (sender run c) p) (words_sent (sites_at run (sender run c)) c (Send i w ∷ [])) [] ≡ []
other_sender run cut p i c w proc e h = go (eqb (sender run c) p) refl
  where
    go : (b : Bool) → eqb (sender run c) p ≡ b → cond b (words_sent (sites_at run (sender run c)) c (Send i w ∷ [])) [] ≡ []
    go true t =
        let same : sender run c ≡ p = eqb-same _ _ t in
        let sites : sites_at run (sender run c) ≡ proc.behavior.sites = ap (λ q. sites_at run q) same ∙ ap sites_of e in
        ap (λ ss. words_sent ss c (Send i w ∷ [])) sites ∙ sent_other proc.behavior.sites true i c w h
    go false t = refl

pub words_at-send_other : (run : Run) (cut : Cut) (p i c : ℕ) (w : Word) (proc : Proc) → slice_get run.procs p ≡ Some proc → chan_at proc.behavior.sites i ≢ c
    → words_at run (with_event cut p (Send i w)) c ≡ words_at run cut c
words_at-send_other run cut p i c w proc e h =
    same_words run cut (with_event cut p (Send i w)) c
    (sent_with run cut p (sender run c) c (Send i w) ∙ (ap (λ xs. words_sent (sites_at run (sender run c)) c (cut (sender run c)) ++ xs) (other_sender run cut p i c w proc e h) ∙ append-nil _))

not_input : (kind : Kind) (outside xs : List Word) → kind ≢ Input → by_kind kind outside xs ≡ xs
unfolding by_kind
not_input Input outside xs h = absurd (h refl)
not_input Output outside xs h = refl
not_input Inner outside xs h = refl

-- the words on a channel that isn't an input are those of its sender
pub words_at-sent : (run : Run) (cut : Cut) (p c : ℕ) (proc : Proc) (chan : Chan) → slice_get run.procs p ≡ Some proc → slice_get run.chans c ≡ Some chan → chan.kind ≢ Input
    → sender run c ≡ p → words_at run cut c ≡ words_sent proc.behavior.sites c (cut p)
words_at-sent run cut p c proc chan e f h s =
    words_by_kind run cut c chan f ∙ (not_input chan.kind _ _ h ∙ (ap (λ q. words_sent (sites_at run q) c (cut q)) s ∙ ap (λ o. words_sent (sites_of o) c (cut p)) e))

pub received_at-by : (run : Run) (cut : Cut) (p c : ℕ) (proc : Proc) → slice_get run.procs p ≡ Some proc
    → receiver run c ≡ p → received_at run cut c ≡ count_received proc.behavior.sites c (cut p)
unfolding received_at
received_at-by run cut p c proc e s = ap (λ q. count_received (sites_at run q) c (cut q)) s ∙ ap (λ o. count_received (sites_of o) c (cut p)) e

pub with_event-here : (cut : Cut) (p : ℕ) (e : Event) → with_event cut p e p ≡ cut p ++ e ∷ []
with_event-here cut p e = ap (λ b. cond b (cut p ++ e ∷ []) (cut p)) (eqb-itself p p refl)

pub with_event-other : (cut : Cut) (p q : ℕ) (e : Event) → q ≢ p → with_event cut p e q ≡ cut q
with_event-other cut p q e h = ap (λ b. cond b (cut q ++ e ∷ []) (cut q)) (eqb-differs q p h)

pub words_at-send : (run : Run) (cut : Cut) (p i c : ℕ) (w : Word) (proc : Proc) (chan : Chan) → slice_get run.procs p ≡ Some proc → slice_get run.chans c ≡ Some chan → chan.kind ≢ Input
    → sender run c ≡ p → chan_at proc.behavior.sites i ≡ c
    → words_at run (with_event cut p (Send i w)) c ≡ words_at run cut c ++ w ∷ []
words_at-send run cut p i c w proc chan e f h s t =
    let here : words_sent proc.behavior.sites c (Send i w ∷ []) ≡ w ∷ [] = unfold words_sent in ap (λ b. cond b (w ∷ []) []) (eqb-itself _ _ t) in
    words_at-sent run (with_event cut p (Send i w)) p c proc chan e f h s
    ∙ (ap (λ es. words_sent proc.behavior.sites c es) (with_event-here cut p (Send i w))
    ∙ (words_sent-append proc.behavior.sites c (cut p) (Send i w ∷ [])
    ∙ (ap (λ xs. words_sent proc.behavior.sites c (cut p) ++ xs) here
    ∙ ap (λ xs. xs ++ w ∷ []) (sym (words_at-sent run cut p c proc chan e f h s)))))

-- a send and an end receive nothing
pub received_at-send : (run : Run) (cut : Cut) (p i c : ℕ) (w : Word) → received_at run (with_event cut p (Send i w)) c ≡ received_at run cut c
unfolding received_at
received_at-send run cut p i c w =
    let none : cond (eqb (receiver run c) p) (count_received (sites_at run (receiver run c)) c (Send i w ∷ [])) 0 ≡ 0 = unfold count_received in cond_zero (eqb (receiver run c) p) in
    omega (arith, received_with run cut p (receiver run c) c (Send i w), none)

pub received_at-end : (run : Run) (cut : Cut) (p c : ℕ) (s : Value) → received_at run (with_event cut p (End s)) c ≡ received_at run cut c
unfolding received_at
received_at-end run cut p c s =
    let none : cond (eqb (receiver run c) p) (count_received (sites_at run (receiver run c)) c (End s ∷ [])) 0 ≡ 0 = unfold count_received in cond_zero (eqb (receiver run c) p) in
    omega (arith, received_with run cut p (receiver run c) c (End s), none)

abbrev one_if : Bool → ℕ
one_if b = cond b 1 0

-- a receive is counted at its channel
other_receiver : (run : Run) (p i c : ℕ) (proc : Proc) → slice_get run.procs p ≡ Some proc → chan_at proc.behavior.sites i ≢ c
    → cond (eqb (receiver run c) p) (count_received (sites_at run (receiver run c)) c (Recv i ∷ [])) 0 ≡ 0
unfolding count_received
other_receiver run p i c proc e h = go (eqb (receiver run c) p) refl
  where
    go : (b : Bool) → eqb (receiver run c) p ≡ b → cond b (count_received (sites_at run (receiver run c)) c (Recv i ∷ [])) 0 ≡ 0
    go true t =
        let same : receiver run c ≡ p = eqb-same _ _ t in
        let sites : sites_at run (receiver run c) ≡ proc.behavior.sites = ap (λ q. sites_at run q) same ∙ ap sites_of e in
        ap (λ ss. count_received ss c (Recv i ∷ [])) sites ∙ ap one_if (eqb-differs _ _ h)
    go false t = refl

pub received_at-receive_other : (run : Run) (cut : Cut) (p i c : ℕ) (proc : Proc) → slice_get run.procs p ≡ Some proc → chan_at proc.behavior.sites i ≢ c
    → received_at run (with_event cut p (Recv i)) c ≡ received_at run cut c
unfolding received_at
received_at-receive_other run cut p i c proc e h =
    omega (arith, received_with run cut p (receiver run c) c (Recv i), other_receiver run p i c proc e h)

pub received_at-receive : (run : Run) (cut : Cut) (p i c : ℕ) (proc : Proc) → slice_get run.procs p ≡ Some proc → receiver run c ≡ p → chan_at proc.behavior.sites i ≡ c
    → received_at run (with_event cut p (Recv i)) c ≡ suc (received_at run cut c)
received_at-receive run cut p i c proc e s t =
    let here : count_received proc.behavior.sites c (Recv i ∷ []) ≡ 1 = unfold count_received in ap one_if (eqb-itself _ _ t) in
    let more = received_at-by run (with_event cut p (Recv i)) p c proc e s ∙ (ap (λ es. count_received proc.behavior.sites c es) (with_event-here cut p (Recv i)) ∙ count_received-append proc.behavior.sites c (cut p) (Recv i ∷ [])) in
    omega (arith, here, more, received_at-by run cut p c proc e s)
