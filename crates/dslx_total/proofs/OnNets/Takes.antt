-- What sites take, by what the first of them does.
use Rattle.std.proofs.Common.{◌≡◌, ℕ, suc, List, [], ◌∷◌, ◌++◌}
use Rattle.xb_bits.specs.Word.{Word}
use Rattle.xb_value.specs.declared.value.Value.{Value}
use Rattle.net_core.specs.Behavior.{Behavior, IsWordOf, Takes, Turn, Skip, Receive, Give}
use Rattle.net_core.specs.declared.net.Site.{Site}

abbrev pub TakesFirst : Behavior → Value → List Word → ℕ → Site → List Site → List Word → Turn → Type 0
TakesFirst b s g i site sites words Skip = Takes b s g (suc i) sites words
TakesFirst b s g i site sites words Receive = (w : Word) × (rest : List Word) × (words ≡ w ∷ rest) × IsWordOf (b.width site.chan) w × Takes b s (g ++ w ∷ []) (suc i) sites rest
TakesFirst b s g i site sites words (Give w) = Takes b s g (suc i) sites words

pub to_first : (b : Behavior) (s : Value) (g : List Word) (i : ℕ) (site : Site) (sites : List Site) (words : List Word) (u : Turn) → b.turn s g i ≡ u → Takes b s g i (site ∷ sites) words → TakesFirst b s g i site sites words u
to_first b s g i site sites words Skip e k = rw (e, Takes) at k
to_first b s g i site sites words Receive e k = rw (e, Takes) at k
to_first b s g i site sites words (Give w) e k = rw (e, Takes) at k

pub from_first : (b : Behavior) (s : Value) (g : List Word) (i : ℕ) (site : Site) (sites : List Site) (words : List Word) (u : Turn) → b.turn s g i ≡ u → TakesFirst b s g i site sites words u → Takes b s g i (site ∷ sites) words
from_first b s g i site sites words Skip e k = rw (e, Takes) k
from_first b s g i site sites words Receive e k = rw (e, Takes) k
from_first b s g i site sites words (Give w) e k = rw (e, Takes) k
