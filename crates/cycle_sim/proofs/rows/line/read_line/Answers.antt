use Rattle.std.proofs.Common.{◌≡◌, ◌<◌, ◌^◌, ◌∷◌, ◌∙◌, ℕ, List, length, ap, sym, subst, Ok, Err, Result}
use Rattle.std.specs.Prelude.{IfOk}
use Rattle.std.specs.List.{AllByRecursion}
use Rattle.chan_file.specs.declared.refusal.Cause.TheVariants.{Syntax}
use Rattle.cycle_sim.specs.declared.rows.line.LineSaid.TheVariants.{Fault}
use Rattle.cycle_sim.specs.Rows.Forms.{times_of}
use Rattle.cycle_sim.specs.Rows.RowFile.{SaysRow, a_row, no_row, other, remark, row_by}
use Rattle.cycle_sim.proofs.OnRows.Items.{pieces_short}
use Rattle.cycle_sim.proofs.rows.line.read_line.Goals as goal

if_ok : {A E : Type 0} {P Q : A → Type 0} (r : Result A E) → ((x : A) → P x → Q x) → IfOk r P → IfOk r Q
if_ok (Ok x) f h = f x h
if_ok (Err e) f h = tt

pub returns-then-is_remark : goal.returns-then-is_remark
returns-then-is_remark c = λ channels known. remark (sym c.is_remark.ensures ∙ c.if-is_remark.true)

pub read_row-requires : goal.read_row-requires
read_row-requires c =
    (subst (AllByRecursion (λ piece. length piece < 4294967296)) (sym c.new-pieces.ensures ∙ c.in-Some.ensures) (pieces_short (2 ^ 32) c.args.line.now c.requires)).1

pub returns-in-None-reset_of : goal.returns-in-None-reset_of
returns-in-None-reset_of c = λ channels known.
    other (Fault Syntax) (sym c.is_remark.ensures ∙ c.if-is_remark.false)
    (subst (λ ps. SaysRow channels ps (Fault Syntax)) (sym (sym c.new-pieces.ensures ∙ c.in-Some.ensures)) (no_row c.in-Some.head.now c.next.new.self (sym c.reset_of.ensures ∙ c.in-None-reset_of.is)))

pub returns-in-Some-reset_of : goal.returns-in-Some-reset_of
returns-in-Some-reset_of c =
    if_ok c.read_row.result
    (λ said says channels known.
    let row = says channels known in
    other said (sym c.is_remark.ensures ∙ c.if-is_remark.false)
    (subst (λ ps. SaysRow channels ps said) (sym (sym c.new-pieces.ensures ∙ c.in-Some.ensures))
    (subst (SaysRow channels (c.in-Some.head.now ∷ c.next.new.self)) (sym row.is) (a_row c.in-Some.head.now c.next.new.self c.in-Some-reset_of.reset row.draft (sym c.reset_of.ensures ∙ c.in-Some-reset_of.is) row.says))))
    c.read_row.ensures
