-- The wires of a pipeline's control read smaller numbers, and their widths fit.
use Rattle.std.proofs.Common.{◌≡◌, ℕ, suc, ◌<◌, ◌≤◌, List, [], ◌∷◌, ◌++◌, refl, arith, true}
use Rattle.std.specs.List.{AllByRecursion}
use Rattle.vlog_tree.specs.declared.expression.Atom.{Atom}
use Rattle.vlog_tree.specs.Forms.{Widths, atom_reads, fits}
use Rattle.vlog_tree.proofs.Lemmas.Settling.{each_other}
use Rattle.block_build.specs.Netlist.Gates.{net, not_gate, and_gate, or_gate}
use Rattle.block_build.specs.Netlist.Handshakes.{SiteNets, site_wires, go_net}
use Rattle.block_build.specs.Netlist.Stages.{StageNets, passed, move_net, move_wires, keep_wires, done_wires}
use Rattle.block_build.specs.Netlist.Order.{IsBelow, IsBit, AreSized, AreSound, SiteReads}

both : (P : ℕ → Type 0) (xs ys : List ℕ) → AllByRecursion P xs → AllByRecursion P ys → AllByRecursion P (xs ++ ys)
both P [] ys p q = q
both P (x ∷ xs) ys p q = (p.0, both P xs ys p.1 q)

below_more : (n m : ℕ) (a : Atom) → n ≤ m → IsBelow n a → IsBelow m a
below_more n m a l h = each_other (λ s. s < n) (λ s. s < m) (λ s k. omega arith) (atom_reads a) h

not_fits : (widths : Widths) (a : Atom) → IsBit widths a → fits widths 1 (not_gate a).driver ≡ true
not_fits widths a e = rw e refl

and_fits : (widths : Widths) (a b : Atom) → IsBit widths a → IsBit widths b → fits widths 1 (and_gate a b).driver ≡ true
and_fits widths a b e f = rw (e, f) refl

or_fits : (widths : Widths) (a b : Atom) → IsBit widths a → IsBit widths b → fits widths 1 (or_gate a b).driver ≡ true
or_fits widths a b e f = rw (e, f) refl

reads_two : (n : ℕ) (a b : Atom) → IsBelow n a → IsBelow n b → AllByRecursion (λ s. s < n) (atom_reads a ++ atom_reads b)
reads_two n a b p q = both (λ s. s < n) (atom_reads a) (atom_reads b) p q

net_below : (n k : ℕ) → k < n → IsBelow n (net k)
net_below n k l = (l, tt)

pub site_is_sound : (widths : Widths) (n : ℕ) (ready : Atom) (site : SiteNets) → AreSized widths n (site_wires n ready site) → SiteReads widths n ready site → AreSound widths n (site_wires n ready site)
site_is_sound widths n ready site sized r = record {
  order = (
    r.done_below,
    (
      reads_two (suc n) site.on (net n) (below_more n (suc n) site.on (omega arith) r.on_below) (net_below (suc n) n (omega arith)),
      (
        reads_two (suc (suc n)) ready (net (suc n)) (below_more n (suc (suc n)) ready (omega arith) r.ready_below) (net_below (suc (suc n)) (suc n) (omega arith)),
        (
          reads_two (suc (suc (suc n))) (net (suc (suc n))) site.partner (net_below (suc (suc (suc n))) (suc (suc n)) (omega arith)) (below_more n (suc (suc (suc n))) site.partner (omega arith) r.partner_below),
          (
            net_below (suc (suc (suc (suc n)))) (suc n) (omega arith),
            (
              reads_two (suc (suc (suc (suc (suc n))))) (net (suc (suc (suc (suc n))))) (net (suc (suc (suc n)))) (net_below _ _ (omega arith)) (net_below _ _ (omega arith)),
              (
                reads_two (suc (suc (suc (suc (suc (suc n)))))) ready (net (suc (suc (suc (suc (suc n)))))) (below_more n (suc (suc (suc (suc (suc (suc n)))))) ready (omega arith) r.ready_below) (net_below _ _ (omega arith)),
                tt,
              ),
            ),
          ),
        ),
      ),
    ),
  );
  fit = (
    not_fits widths site.done r.done_bit,
    (
      and_fits widths site.on (net n) r.on_bit sized.0,
      (
        and_fits widths ready (net (suc n)) r.ready_bit sized.1.0,
        (
          and_fits widths (net (suc (suc n))) site.partner sized.1.1.0 r.partner_bit,
          (
            not_fits widths (net (suc n)) sized.1.0,
            (
              or_fits widths (net (suc (suc (suc (suc n))))) (net (suc (suc (suc n)))) sized.1.1.1.1.0 sized.1.1.1.0,
              (
                and_fits widths ready (net (suc (suc (suc (suc (suc n)))))) r.ready_bit sized.1.1.1.1.1.0,
                tt,
              ),
            ),
          ),
        ),
      ),
    ),
  );
}

-- three wires of which the second reads the first, and the third both
pub move_is_sound : (widths : Widths) (stage behind : StageNets) (more : List StageNets) → AreSized widths stage.moving (move_wires stage behind more)
    → IsBelow stage.moving behind.full → IsBit widths behind.full → IsBelow stage.moving (move_net behind more) → IsBit widths (move_net behind more)
    → IsBelow stage.moving (passed stage) → IsBit widths (passed stage) → AreSound widths stage.moving (move_wires stage behind more)
move_is_sound widths stage behind more sized fb fw mb mw pb pw =
    let n = stage.moving in
    record {
      order = (
        fb,
        (
          reads_two (suc n) (net n) (move_net behind more) (net_below (suc n) n (omega arith)) (below_more n (suc n) (move_net behind more) (omega arith) mb),
          (
            reads_two (suc (suc n)) (passed stage) (net (suc n)) (below_more n (suc (suc n)) (passed stage) (omega arith) pb) (net_below (suc (suc n)) (suc n) (omega arith)),
            tt,
          ),
        ),
      );
      fit = (
        not_fits widths behind.full fw,
        (
          or_fits widths (net n) (move_net behind more) sized.0 mw,
          (
            and_fits widths (passed stage) (net (suc n)) pw sized.1.0,
            tt,
          ),
        ),
      );
    }

pub keep_is_sound : (widths : Widths) (n : ℕ) (comes full moves : Atom) → AreSized widths n (keep_wires n comes full moves)
    → IsBelow n comes → IsBit widths comes → IsBelow n full → IsBit widths full → IsBelow n moves → IsBit widths moves → AreSound widths n (keep_wires n comes full moves)
keep_is_sound widths n comes full moves sized cb cw fb fw mb mw = record {
  order = (
    mb,
    (
      reads_two (suc n) full (net n) (below_more n (suc n) full (omega arith) fb) (net_below (suc n) n (omega arith)),
      (
        reads_two (suc (suc n)) comes (net (suc n)) (below_more n (suc (suc n)) comes (omega arith) cb) (net_below (suc (suc n)) (suc n) (omega arith)),
        tt,
      ),
    ),
  );
  fit = (
    not_fits widths moves mw,
    (
      and_fits widths full (net n) fw sized.0,
      (
        or_fits widths comes (net (suc n)) cw sized.1.0,
        tt,
      ),
    ),
  );
}

pub done_is_sound : (widths : Widths) (n : ℕ) (site : SiteNets) (moves : Atom) → AreSized widths n (done_wires n site moves)
    → IsBelow n site.done → IsBit widths site.done → go_net site < n → widths (go_net site) ≡ 1 → IsBelow n moves → IsBit widths moves → AreSound widths n (done_wires n site moves)
done_is_sound widths n site moves sized db dw gb gw mb mw = record {
  order = (
    reads_two n site.done (net (go_net site)) db (net_below n (go_net site) gb),
    (
      below_more n (suc n) moves (omega arith) mb,
      (
        reads_two (suc (suc n)) (net n) (net (suc n)) (net_below (suc (suc n)) n (omega arith)) (net_below (suc (suc n)) (suc n) (omega arith)),
        tt,
      ),
    ),
  );
  fit = (
    or_fits widths site.done (net (go_net site)) dw gw,
    (
      not_fits widths moves mw,
      (
        and_fits widths (net n) (net (suc n)) sized.0 sized.1.0,
        tt,
      ),
    ),
  );
}
