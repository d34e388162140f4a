use Rattle.std.proofs.Common.{◌≡◌, ◌<◌, ℕ, zero, suc, false, List, [], ◌∷◌, length, refl, ap, ◌∙◌, arith, slice_index_or}
use Rattle.net_core.specs.declared.net.Site.{Site}
use Rattle.net_core.specs.Behavior.{chan_at}
use Rattle.net_core.proofs.progress.Progress.chan_at.Goals as goal

read_chan : (sites : List Site) (i : ℕ) (d : Site) → i < length sites → (slice_index_or sites i d).chan ≡ chan_at sites i
read_chan [] i d l = absurd (omega (arith, l))
read_chan (x ∷ xs) zero d l = refl
read_chan (x ∷ xs) (suc i) d l = read_chan xs i d (omega (arith, l))

pub returns : goal.returns
returns c =
    ap (λ (sites : List Site). (slice_index_or sites c.args.site (record { chan = 0; sends = false })).chan) c.as_slice.ensures
    ∙ read_chan c.args.self.now.sites c.args.site (record { chan = 0; sends = false }) c.requires
