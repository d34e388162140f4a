use Rattle.std.proofs.Common.{refl, ap, subst, sym, ◌∙◌}
use Rattle.std.proofs.lemmas.Result.{IfOk-weaker}
use Rattle.xb_bits.specs.Operations as op
use Rattle.delay_model.specs.declared.op.Binary.TheVariants as binary
use Rattle.delay_model.specs.declared.op.Compare.TheVariants as compare
use Rattle.delay_model.specs.declared.op.Shift.TheVariants as shift
use Rattle.ir_tree.specs.Operations.{bit, holds, shift_word}
use Rattle.dslx_core.specs.declared.expr.CoreBinary.TheVariants as b
use Rattle.dslx_core.specs.CoreValues.{binary_words, where_alike}
use Rattle.ir_lower_nodes.specs.Words.Signs.{less, not_less}
use Rattle.ir_lower_nodes.proofs.OnWords.OnWords.{BinaryTo, alike_put, turned_put, concat_put, shift_put, equal_words, unequal_words, less_words, not_less_words, right_words}
use Rattle.ir_lower_nodes.proofs.words.words.binary.Goals as goal

pub returns-in-Mul : goal.returns-in-Mul
returns-in-Mul c =
    IfOk-weaker c.binary.result _ _
    (λ o call. subst (λ k. BinaryTo k c.args.nodes.now c.binary.new.self c.args.a c.args.b o) (sym c.in-Mul.is) (alike_put c.args.nodes.now c.binary.new.self c.args.a c.args.b o op.mul (λ w. w) (binary_words b.Mul) (λ x y. refl) call))
    c.binary.ensures

pub returns-in-Div : goal.returns-in-Div
returns-in-Div c =
    IfOk-weaker c.binary-in-Div.result _ _
    (λ o call. subst (λ k. BinaryTo k c.args.nodes.now c.binary-in-Div.new.self c.args.a c.args.b o) (sym c.in-Div.is) (alike_put c.args.nodes.now c.binary-in-Div.new.self c.args.a c.args.b o op.udiv (λ w. w) (binary_words b.Div) (λ x y. refl) call))
    c.binary-in-Div.ensures

pub returns-in-Rem : goal.returns-in-Rem
returns-in-Rem c =
    IfOk-weaker c.binary-in-Rem.result _ _
    (λ o call. subst (λ k. BinaryTo k c.args.nodes.now c.binary-in-Rem.new.self c.args.a c.args.b o) (sym c.in-Rem.is) (alike_put c.args.nodes.now c.binary-in-Rem.new.self c.args.a c.args.b o op.umod (λ w. w) (binary_words b.Rem) (λ x y. refl) call))
    c.binary-in-Rem.ensures

pub returns-in-Add : goal.returns-in-Add
returns-in-Add c =
    IfOk-weaker c.binary-in-Add.result _ _
    (λ o call. subst (λ k. BinaryTo k c.args.nodes.now c.binary-in-Add.new.self c.args.a c.args.b o) (sym c.in-Add.is) (alike_put c.args.nodes.now c.binary-in-Add.new.self c.args.a c.args.b o op.add (λ w. w) (binary_words b.Add) (λ x y. refl) call))
    c.binary-in-Add.ensures

pub returns-in-Sub : goal.returns-in-Sub
returns-in-Sub c =
    IfOk-weaker c.binary-in-Sub.result _ _
    (λ o call. subst (λ k. BinaryTo k c.args.nodes.now c.binary-in-Sub.new.self c.args.a c.args.b o) (sym c.in-Sub.is) (alike_put c.args.nodes.now c.binary-in-Sub.new.self c.args.a c.args.b o op.sub (λ w. w) (binary_words b.Sub) (λ x y. refl) call))
    c.binary-in-Sub.ensures

pub returns-in-And : goal.returns-in-And
returns-in-And c =
    IfOk-weaker c.binary-in-And.result _ _
    (λ o call. subst (λ k. BinaryTo k c.args.nodes.now c.binary-in-And.new.self c.args.a c.args.b o) (sym c.in-And.is) (alike_put c.args.nodes.now c.binary-in-And.new.self c.args.a c.args.b o op.and (λ w. w) (binary_words b.And) (λ x y. refl) call))
    c.binary-in-And.ensures

pub returns-in-Xor : goal.returns-in-Xor
returns-in-Xor c =
    IfOk-weaker c.binary-in-Xor.result _ _
    (λ o call. subst (λ k. BinaryTo k c.args.nodes.now c.binary-in-Xor.new.self c.args.a c.args.b o) (sym c.in-Xor.is) (alike_put c.args.nodes.now c.binary-in-Xor.new.self c.args.a c.args.b o op.xor (λ w. w) (binary_words b.Xor) (λ x y. refl) call))
    c.binary-in-Xor.ensures

pub returns-in-Or : goal.returns-in-Or
returns-in-Or c =
    IfOk-weaker c.binary-in-Or.result _ _
    (λ o call. subst (λ k. BinaryTo k c.args.nodes.now c.binary-in-Or.new.self c.args.a c.args.b o) (sym c.in-Or.is) (alike_put c.args.nodes.now c.binary-in-Or.new.self c.args.a c.args.b o op.or (λ w. w) (binary_words b.Or) (λ x y. refl) call))
    c.binary-in-Or.ensures

pub returns-in-Eq : goal.returns-in-Eq
returns-in-Eq c =
    IfOk-weaker c.compare.result _ _
    (λ o call. subst (λ k. BinaryTo k c.args.nodes.now c.compare.new.self c.args.a c.args.b o) (sym c.in-Eq.is) (alike_put c.args.nodes.now c.compare.new.self c.args.a c.args.b o (λ x y. bit (holds compare.Eq x y)) (λ w. 1) (binary_words b.Eq) equal_words call))
    c.compare.ensures

pub returns-in-Ne : goal.returns-in-Ne
returns-in-Ne c =
    IfOk-weaker c.compare-in-Ne.result _ _
    (λ o call. subst (λ k. BinaryTo k c.args.nodes.now c.compare-in-Ne.new.self c.args.a c.args.b o) (sym c.in-Ne.is) (alike_put c.args.nodes.now c.compare-in-Ne.new.self c.args.a c.args.b o (λ x y. bit (holds compare.Ne x y)) (λ w. 1) (binary_words b.Ne) unequal_words call))
    c.compare-in-Ne.ensures

pub returns-in-Concat : goal.returns-in-Concat
returns-in-Concat c =
    IfOk-weaker c.concat.result _ _
    (λ o call. subst (λ k. BinaryTo k c.args.nodes.now c.concat.new.self c.args.a c.args.b o) (sym c.in-Concat.is) (concat_put c.args.nodes.now c.concat.new.self c.args.a c.args.b o call))
    c.concat.ensures

pub returns-in-Shl : goal.returns-in-Shl
returns-in-Shl c =
    IfOk-weaker c.shift.result _ _
    (λ o call. subst (λ k. BinaryTo k c.args.nodes.now c.shift.new.self c.args.a c.args.b o) (sym (c.in-Shl.is)) (shift_put c.args.nodes.now c.shift.new.self c.args.a c.args.b o op.shll (binary_words (b.Shl)) (λ x y. refl) call))
    c.shift.ensures

pub returns-in-Shr : goal.returns-in-Shr
returns-in-Shr c =
    IfOk-weaker c.shift-in-Shr.result _ _
    (λ o call. subst (λ k. BinaryTo k c.args.nodes.now c.shift-in-Shr.new.self c.args.a c.args.b o) (sym c.in-Shr.is) (shift_put c.args.nodes.now c.shift-in-Shr.new.self c.args.a c.args.b o (shift_word c.right.result) (binary_words (b.Shr c.in-Shr.sign)) (right_words c.in-Shr.sign c.right.result c.right.ensures) call))
    c.shift-in-Shr.ensures

pub returns-in-Lt : goal.returns-in-Lt
returns-in-Lt c =
    IfOk-weaker c.compare-in-Lt.result _ _
    (λ o call. subst (λ k. BinaryTo k c.args.nodes.now c.compare-in-Lt.new.self c.args.a c.args.b o) (sym c.in-Lt.is)
    (alike_put c.args.nodes.now c.compare-in-Lt.new.self c.args.a c.args.b o (λ x y. bit (holds c.less.result x y)) (λ w. 1) (binary_words (b.Lt c.in-Lt.sign))
    (λ x y. less_words c.in-Lt.sign x y x y ∙ ap (λ k. where_alike x y (bit (holds k x y))) (sym c.less.ensures)) call))
    c.compare-in-Lt.ensures

pub returns-in-Le : goal.returns-in-Le
returns-in-Le c =
    IfOk-weaker c.compare-in-Le.result _ _
    (λ o call. subst (λ k. BinaryTo k c.args.nodes.now c.compare-in-Le.new.self c.args.a c.args.b o) (sym c.in-Le.is)
    (turned_put c.args.nodes.now c.compare-in-Le.new.self c.args.a c.args.b o (λ x y. bit (holds c.not_less.result x y)) (λ w. 1) (binary_words (b.Le c.in-Le.sign))
    (λ x y. not_less_words c.in-Le.sign y x x y ∙ ap (λ k. where_alike x y (bit (holds k y x))) (sym c.not_less.ensures)) call))
    c.compare-in-Le.ensures

pub returns-in-Gt : goal.returns-in-Gt
returns-in-Gt c =
    IfOk-weaker c.compare-in-Gt.result _ _
    (λ o call. subst (λ k. BinaryTo k c.args.nodes.now c.compare-in-Gt.new.self c.args.a c.args.b o) (sym c.in-Gt.is)
    (turned_put c.args.nodes.now c.compare-in-Gt.new.self c.args.a c.args.b o (λ x y. bit (holds c.less-in-Gt.result x y)) (λ w. 1) (binary_words (b.Gt c.in-Gt.sign))
    (λ x y. less_words c.in-Gt.sign y x x y ∙ ap (λ k. where_alike x y (bit (holds k y x))) (sym c.less-in-Gt.ensures)) call))
    c.compare-in-Gt.ensures

pub returns-in-Ge : goal.returns-in-Ge
returns-in-Ge c =
    IfOk-weaker c.compare-in-Ge.result _ _
    (λ o call. subst (λ k. BinaryTo k c.args.nodes.now c.compare-in-Ge.new.self c.args.a c.args.b o) (sym c.in-Ge.is)
    (alike_put c.args.nodes.now c.compare-in-Ge.new.self c.args.a c.args.b o (λ x y. bit (holds c.not_less-in-Ge.result x y)) (λ w. 1) (binary_words (b.Ge c.in-Ge.sign))
    (λ x y. not_less_words c.in-Ge.sign x y x y ∙ ap (λ k. where_alike x y (bit (holds k x y))) (sym c.not_less-in-Ge.ensures)) call))
    c.compare-in-Ge.ensures
