-- Ports that are put one channel after another.
use Rattle.std.proofs.Common.{◌≡◌, ℕ, ◌+◌, ◌<◌, ◌≤◌, List, [], ◌∷◌, ◌++◌, length, drop, get_or, map, sym, ap, ap₂, ◌∙◌}
use Rattle.std.proofs.lemmas.List.{append_assoc, append-nil, drop_all}
use Rattle.ir_tree.specs.declared.package.Channel.{Channel}
use Rattle.vlog_tree.specs.declared.module.Port.{Port}
use Rattle.vlog_tree.specs.Signals.{Declared, declared_port}
use Rattle.block_verilog.proofs.Lemmas.Each.{behind_there}
use Rattle.block_verilog.specs.Ports.{ports_by, ports_of, count_ports, ports_from}

pub ports_begun : (clk rst : Declared) (channels : List Channel) (none one two : List Port) → none ≡ [] → map declared_port one ≡ map declared_port none ++ clk ∷ [] → map declared_port two ≡ map declared_port one ++ rst ∷ []
    → map declared_port two ++ ports_of channels ≡ clk ∷ rst ∷ ports_of channels
ports_begun clk rst channels none one two e p q =
    ap (λ ds. ds ++ ports_of channels) (q ∙ ap (λ ds. ds ++ rst ∷ []) (p ∙ ap (λ ps. map declared_port ps ++ clk ∷ []) e))

pub ports_more : (channels : List Channel) (i : ℕ) (channel : Channel) (ports more : List Port) (whole : List Declared) → i < length channels → channel ≡ get_or channels i channel
    → map declared_port ports ++ ports_of (drop i channels) ≡ whole → map declared_port more ≡ map declared_port ports ++ ports_by channel channel.ends → map declared_port more ++ ports_of (drop (i + 1) channels) ≡ whole
ports_more channels i channel ports more whole l is before put =
    ap (λ ds. ds ++ ports_of (drop (i + 1) channels)) put
    ∙ append_assoc (map declared_port ports) (ports_by channel channel.ends) (ports_of (drop (i + 1) channels))
    ∙ ap (λ cs. map declared_port ports ++ ports_of cs) (sym (behind_there channels i channel l is))
    ∙ before

pub ports_done : (channels : List Channel) (i : ℕ) (ports : List Port) (whole : List Declared) → length channels ≤ i → map declared_port ports ++ ports_of (drop i channels) ≡ whole → map declared_port ports ≡ whole
ports_done channels i ports whole l before =
    sym (append-nil (map declared_port ports)) ∙ ap (λ cs. map declared_port ports ++ ports_of cs) (sym (drop_all i channels l)) ∙ before

-- ---- their numbers

pub numbers_begun : (first : ℕ) (channels : List Channel) (numbers : List ℕ) → numbers ≡ [] → numbers ++ ports_from first channels ≡ ports_from first channels
numbers_begun first channels numbers e = ap (λ ns. ns ++ ports_from first channels) e

pub numbers_more : (first next behind : ℕ) (channels : List Channel) (i : ℕ) (channel : Channel) (numbers more : List ℕ) → i < length channels → channel ≡ get_or channels i channel
    → numbers ++ ports_from next (drop i channels) ≡ ports_from first channels → more ≡ numbers ++ next ∷ [] → behind ≡ next + count_ports channel.ends
    → more ++ ports_from behind (drop (i + 1) channels) ≡ ports_from first channels
numbers_more first next behind channels i channel numbers more l is before put far =
    ap₂ (λ ns k. ns ++ ports_from k (drop (i + 1) channels)) put far
    ∙ append_assoc numbers (next ∷ []) (ports_from (next + count_ports channel.ends) (drop (i + 1) channels))
    ∙ ap (λ cs. numbers ++ ports_from next cs) (sym (behind_there channels i channel l is))
    ∙ before

pub numbers_done : (first next : ℕ) (channels : List Channel) (i : ℕ) (numbers : List ℕ) → length channels ≤ i → numbers ++ ports_from next (drop i channels) ≡ ports_from first channels → numbers ≡ ports_from first channels
numbers_done first next channels i numbers l before =
    sym (append-nil numbers) ∙ ap (λ cs. numbers ++ ports_from next cs) (sym (drop_all i channels l)) ∙ before
