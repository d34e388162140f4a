-- The induction on patterns: a value that fits a pattern fits what the pattern is lowered to.
use Rattle.std.proofs.Common.{Option, ◌≡◌, List, None, Some, [], ◌∷◌, map, subst, sym}
use Rattle.dslx_tree.proofs.Lemmas.Folds.Levels.{Carriers, Maps, trees, NumberLevel, ShapeLevel, map_number, map_pattern, map_shape}
use Rattle.dslx_tree.proofs.Lemmas.Folds.Folds.{Steps, folds, fold_number, fold_number-roll, fold_pattern, fold_pattern-roll, fold_shape, fold_shape-roll, fold_type_expr}
use Rattle.dslx_tree.specs.declared.block.Stmt.TheOpen.{Shape-F}
use Rattle.dslx_tree.specs.declared.pattern.Pattern.{Pattern}
use Rattle.dslx_meaning.specs.Meaning as m
use Rattle.dslx_meaning.specs.Meaning.{ArmDen, ExprDen, FieldDen, PatternDen, StmtDen, TypeDen, ValueDen, pattern_denotation}
use Rattle.dslx_meaning.specs.Operators.{number_value}
use Rattle.dslx_meaning.specs.Values.{bool_value}
use Rattle.dslx_meaning.specs.declared.value.UntypedLiteral.{UntypedLiteral}
use Rattle.dslx_core.proofs.Lemmas.Lowering.{from_then}
use Rattle.dslx_core.proofs.Lemmas.Typing.Sound.{HoldOn, TreeClaims, held, held_tree, holds_pattern, paired, pairing}
use Rattle.dslx_core.proofs.Lemmas.Typing.Typed.{none_some}
use Rattle.dslx_core.specs.Lowering.Trees.{lowering_sorts, lowering_steps, second_parts}
use Rattle.dslx_total.proofs.OnTyped.OnFits.{EachFitsBeside, FitsBeside, OneNumber, member_fits, name_fits, number_fits, one_value_fits, tuple_fits, wild_fits}
use Rattle.dslx_total.proofs.OnTyped.OnPatterns.{bool_owns}
use Rattle.dslx_total.proofs.OnTyped.OnSame.{one_number}

abbrev become : Carriers
become = paired lowering_sorts

abbrev becoming : Steps become
becoming = pairing lowering_sorts lowering_steps

-- what parts mean
abbrev meanings : Carriers
meanings = record {
  stmt = StmtDen;
  node = ExprDen;
  shape = PatternDen;
  type_node = TypeDen;
  block = ValueDen;
  bind = StmtDen;
  arg = ExprDen;
  arm = ArmDen;
  expr = ExprDen;
  field = FieldDen;
  loop = ValueDen;
  number = ExprDen;
  pattern = PatternDen;
  type_expr = TypeDen;
}

abbrev meaning : Steps meanings
meaning = record {
  stmt = m.stmt_den;
  node = m.node_den;
  shape = m.shape_den;
  type_node = m.type_den;
  block = m.block_den;
  bind = m.let_den;
  arg = m.arg_den;
  arm = m.arm_den;
  expr = m.expr_den;
  field = m.field_den;
  loop = m.for_den;
  number = m.number_node;
  pattern = m.pattern_den;
  type_expr = m.type_expr_den;
}

abbrev fits_beside : TreeClaims
fits_beside = record {
  stmt = λ x. Unit {0};
  node = λ x. Unit {0};
  shape = λ x. FitsBeside (fold_shape become becoming x).1 (fold_shape meanings meaning x);
  type_node = λ x. Unit {0};
  block = λ x. Unit {0};
  bind = λ x. Unit {0};
  arg = λ x. Unit {0};
  arm = λ x. Unit {0};
  expr = λ x. Unit {0};
  field = λ x. Unit {0};
  loop = λ x. Unit {0};
  number = λ x. OneNumber (fold_number become becoming x).1 (fold_number meanings meaning x);
  pattern = λ x. FitsBeside (fold_pattern become becoming x).1 (fold_pattern meanings meaning x);
  type_expr = λ x. Unit {0};
}

abbrev Held : Carriers
Held = held fits_beside

abbrev tree : Maps Held trees
tree = held_tree fits_beside

abbrev PatternPart : Type 0
PatternPart = Held.pattern

abbrev TypePart : Type 0
TypePart = Held.type_expr

each_pattern : (ps : List PatternPart) → EachFitsBeside (second_parts (map (fold_pattern become becoming) (map (λ (p : PatternPart). p.0) ps))) (map (fold_pattern meanings meaning) (map (λ (p : PatternPart). p.0) ps))
each_pattern [] = tt
each_pattern (p ∷ ps) = (p.1, each_pattern ps)

shape_claim : (y : ShapeLevel Held) → FitsBeside (becoming.shape (map_shape trees become (folds become becoming) (map_shape Held trees tree y))).1 (meaning.shape (map_shape trees meanings (folds meanings meaning) (map_shape Held trees tree y)))
shape_claim Shape-F.Wild = record { fits = (wild_fits []).fits }
shape_claim (Shape-F.Shape::Bool b) = record { fits = (one_value_fits [] (bool_value b) (bool_owns b)).fits }
shape_claim (Shape-F.Shape::Number n) = record { fits = (number_fits [] (fold_number become becoming n.0).1 (fold_number meanings meaning n.0) n.1).fits }
shape_claim (Shape-F.Shape::Name name) = record { fits = (name_fits [] name).fits }
shape_claim (Shape-F.Shape::Member e a) = record { fits = (member_fits [] e a).fits }
shape_claim (Shape-F.Shape::Tuple ps) =
    record { fits = (tuple_fits [] [] (second_parts (map (fold_pattern become becoming) (map (λ (p : PatternPart). p.0) ps))) (map (fold_pattern meanings meaning) (map (λ (p : PatternPart). p.0) ps)) (each_pattern ps)).fits }

number_claim : (y : NumberLevel Held) → OneNumber (becoming.number (map_number trees become (folds become becoming) (map_number Held trees tree y))).1 (meaning.number (map_number trees meanings (folds meanings meaning) (map_number Held trees tree y)))
number_claim y = by_type y.ty
  where
    number : UntypedLiteral
    number = record { is_negative = y.is_negative; value = y.value }

    with_type : Option TypePart → NumberLevel Held
    with_type o = record { ty = o; is_negative = y.is_negative; value = y.value }

    by_type : (o : Option TypePart) → OneNumber (becoming.number (map_number trees become (folds become becoming) (map_number Held trees tree (with_type o)))).1 (meaning.number (map_number trees meanings (folds meanings meaning) (map_number Held trees tree (with_type o))))
    by_type None = λ scope env u w v e f of same. none_some u e
    by_type (Some t) = λ scope env u w v e f of same.
        let a = from_then ((fold_type_expr become becoming t.0).1 scope) (λ t. number_value t number) u e in
        let b = from_then (fold_type_expr meanings meaning t.0 env) (λ t. number_value t number) w f in
        one_number number a.0 b.0 u w v a.2 b.2 of same

moved : {A B : Type 0} (R : A → B → Type 0) {a a' : A} {b b' : B} → a ≡ a' → b ≡ b' → R a' b' → R a b
moved R {a' = a'} {b = b} e f h = subst (λ x. R x b) (sym e) (subst (λ y. R a' y) (sym f) h)

all_fits : HoldOn fits_beside
all_fits = record {
  stmt = λ y. tt;
  node = λ y. tt;
  shape = λ y. moved (λ p q. FitsBeside p.1 q) (fold_shape-roll become becoming (map_shape Held trees tree y)) (fold_shape-roll meanings meaning (map_shape Held trees tree y)) (shape_claim y);
  type_node = λ y. tt;
  block = λ y. tt;
  bind = λ y. tt;
  arg = λ y. tt;
  arm = λ y. tt;
  expr = λ y. tt;
  field = λ y. tt;
  loop = λ y. tt;
  number = λ y. moved (λ p q. OneNumber p.1 q) (fold_number-roll become becoming (map_number Held trees tree y)) (fold_number-roll meanings meaning (map_number Held trees tree y)) (number_claim y);
  pattern = λ y. moved (λ p q. FitsBeside p.1 q) (fold_pattern-roll become becoming (map_pattern Held trees tree y)) (fold_pattern-roll meanings meaning (map_pattern Held trees tree y)) y.shape.1;
  type_expr = λ y. tt;
}

pub pattern_fits : (p : Pattern) → FitsBeside (fold_pattern become becoming p).1 (pattern_denotation p)
pattern_fits = holds_pattern fits_beside all_fits
