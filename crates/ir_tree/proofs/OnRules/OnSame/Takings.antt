-- Words that sites receive, one site more.
use Rattle.std.proofs.Common.{◌≡◌, ℕ, suc, ◌+◌, List, [], ◌∷◌, ◌++◌, length, refl, sym, ap, subst, ◌∙◌, arith}
use Rattle.std.proofs.lemmas.List.{append-nil, append_assoc}
use Rattle.xb_bits.specs.Word.{Word}
use Rattle.xb_value.specs.declared.value.Value.{Value}
use Rattle.net_core.specs.declared.net.Site.{Site}
use Rattle.net_core.specs.Behavior.{Behavior, Turn, Skip, Receive, Give, IsWordOf, Takes}

-- what the first site does decides what it and those behind it take
abbrev pub TakesBy : Behavior → Value → List Word → ℕ → Site → List Site → List Word → Turn → Type 0
TakesBy b s g i site sites words Skip = Takes b s g (suc i) sites words
TakesBy b s g i site sites words Receive = (w : Word) × (rest : List Word) × (words ≡ w ∷ rest) × IsWordOf (b.width site.chan) w × Takes b s (g ++ w ∷ []) (suc i) sites rest
TakesBy b s g i site sites words (Give w) = Takes b s g (suc i) sites words

pub to_by : (b : Behavior) (s : Value) (g : List Word) (i : ℕ) (site : Site) (sites : List Site) (words : List Word) (t : Turn) → b.turn s g i ≡ t → Takes b s g i (site ∷ sites) words → TakesBy b s g i site sites words t
to_by b s g i site sites words Skip e h = rw (e, Takes) at h
to_by b s g i site sites words Receive e h = rw (e, Takes) at h
to_by b s g i site sites words (Give w) e h = rw (e, Takes) at h

pub from_by : (b : Behavior) (s : Value) (g : List Word) (i : ℕ) (site : Site) (sites : List Site) (words : List Word) (t : Turn) → b.turn s g i ≡ t → TakesBy b s g i site sites words t → Takes b s g i (site ∷ sites) words
from_by b s g i site sites words Skip e h = rw (e, Takes) h
from_by b s g i site sites words Receive e h = rw (e, Takes) h
from_by b s g i site sites words (Give w) e h = rw (e, Takes) h

-- what a site adds to the words, where it does this
abbrev pub Adds : Behavior → Site → Turn → List Word → Type 0
Adds b site Skip more = more ≡ []
Adds b site Receive more = (w : Word) × (more ≡ w ∷ []) × IsWordOf (b.width site.chan) w
Adds b site (Give w) more = more ≡ []

alone : (b : Behavior) (s : Value) (g : List Word) (i : ℕ) (site : Site) (more : List Word) (t : Turn) → Adds b site t more → TakesBy b s g i site [] more t
alone b s g i site more Skip h = h
alone b s g i site more Receive h = (h.0, [], h.1, h.2, refl)
alone b s g i site more (Give w) h = h

-- one site more
pub takes_more : (b : Behavior) (s : Value) (sites : List Site) (x : Site) (g words more : List Word) (i k : ℕ) (h : List Word) → k ≡ i + length sites → h ≡ g ++ words → Takes b s g i sites words → Adds b x (b.turn s h k) more → Takes b s g i (sites ++ x ∷ []) (words ++ more)
takes_more b s [] x g words more i k h e f none adds =
    let place : k ≡ i = omega (arith, e) in
    let history : h ≡ g = f ∙ ap (λ ws. g ++ ws) none ∙ append-nil g in
    let here : Adds b x (b.turn s g i) more = subst (λ n. Adds b x (b.turn s g n) more) place (subst (λ ws. Adds b x (b.turn s ws k) more) history adds) in
    subst (λ ws. Takes b s g i (x ∷ []) (ws ++ more)) (sym none)
    (from_by b s g i x [] more (b.turn s g i) refl (alone b s g i x more (b.turn s g i) here))
takes_more b s (y ∷ ys) x g words more i k h e f takes adds =
    from_by b s g i y (ys ++ x ∷ []) (words ++ more) (b.turn s g i) refl
    (by (b.turn s g i) (to_by b s g i y ys words (b.turn s g i) refl takes) (λ v rest. takes_more b s ys x v rest more (suc i) k h))
  where
    by : (t : Turn) → TakesBy b s g i y ys words t → ((v rest : List Word) → k ≡ suc i + length ys → h ≡ v ++ rest → Takes b s v (suc i) ys rest → Adds b x (b.turn s h k) more → Takes b s v (suc i) (ys ++ x ∷ []) (rest ++ more)) → TakesBy b s g i y (ys ++ x ∷ []) (words ++ more) t
    by Skip z again = again g words (omega (arith, e)) f z adds
    by Receive z again =
        (z.0, z.1 ++ more, ap (λ ws. ws ++ more) z.2, z.3, again (g ++ z.0 ∷ []) z.1 (omega (arith, e)) (f ∙ ap (λ ws. g ++ ws) z.2 ∙ sym (append_assoc g (z.0 ∷ []) z.1)) z.4 adds)
    by (Give w) z again = again g words (omega (arith, e)) f z adds
