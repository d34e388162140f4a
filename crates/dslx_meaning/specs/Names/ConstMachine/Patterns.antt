-- What steps do with patterns: what fits is bound, and what comes behind goes on; else it is tried otherwise.
use Rattle.std.specs.Prelude.{ℕ, List, [], ◌∷◌, length, Bool, true, false, Option, Some, None, if◌then◌else◌}
use Rattle.xb_bits.specs.Word.{Word, word}
use Rattle.xb_bits.specs.Operations.{add}
use Rattle.dslx_tree.specs.declared.block.Stmt.TheOpen.{Shape-F}
use Rattle.dslx_tree.specs.declared.expr.Arm.{Arm, out-Arm}
use Rattle.dslx_tree.specs.declared.expr.Expr.{Expr}
use Rattle.dslx_tree.specs.declared.expr.For.{For, out-For}
use Rattle.dslx_tree.specs.declared.expr.Number.{Number, out-Number}
use Rattle.dslx_tree.specs.declared.pattern.Pattern.{Pattern}
use Rattle.dslx_tree.specs.declared.type_expr.TypeExpr.{TypeExpr}
use Rattle.dslx_meaning.specs.Environment.{Given}
use Rattle.dslx_meaning.specs.Meaning.{turn_count}
use Rattle.dslx_meaning.specs.Operators.{of_one_type}
use Rattle.dslx_meaning.specs.Values.{same_value, bool_value, elements_of}
use Rattle.dslx_meaning.specs.declared.value.UntypedLiteral.{UntypedLiteral}
use Rattle.dslx_meaning.specs.declared.value.DslxValue.{DslxValue, Bits}
use Rattle.dslx_meaning.specs.declared.value.SignedWord.{SignedWord}
use Rattle.dslx_meaning.specs.Names.ConstMachine.Tasks.{ConstState, Waiting, Sequel, ThenStatements, ThenAccumulator, ThenBody, ThenArm, ValueDen, DoesBlock, DoesStatements, Numbers, FindsType, Tries, BindsNothing, Fits, Compares, Forgets, FindsFirst, FindsLast, Turns}
use Rattle.dslx_meaning.specs.Names.ConstMachine.Layers.{PatternLayer, shape_of, written}
use Rattle.dslx_meaning.specs.Names.ConstMachine.States.{finds_value, doing, forgetting, binding_all, one_less}
use Rattle.dslx_meaning.specs.Names.ConstMachine.Items.{is_constant_within, uses_constant, uses_member}

-- ---- what comes behind a pattern

-- it doesn't fit: then the index of a loop is bound no more, if there is one
abbrev pub fails : Sequel → ConstState → ConstState
fails (ThenStatements ss last) run = finds_value None run
fails (ThenAccumulator p v b) run = finds_value None run
fails (ThenBody k b) run = finds_value None (forgetting k run)
fails (ThenArm ps a rest v) run = doing (Tries ps a rest v ∷ []) run

-- ---- one pattern

-- a number, whose type is found first
abbrev pub number_begins : Option TypeExpr → UntypedLiteral → ConstState → ConstState
number_begins None b run = finds_value None run
number_begins (Some t) b run = doing (FindsType t ∷ Numbers b ∷ []) run

abbrev pub uses_number : Number → ConstState → ConstState
uses_number n run = number_begins (out-Number n).ty (written n) run

-- a value that fits if the two are one
abbrev pub fits_if : Bool → List Waiting → List Given → Sequel → ConstState → ConstState
fits_if true work names next run = doing (Fits work names next ∷ []) run
fits_if false work names next run = fails next run

abbrev pub fits_if_same : Option DslxValue → DslxValue → List Waiting → List Given → Sequel → ConstState → ConstState
fits_if_same None v work names next run = fails next run
fits_if_same (Some w) v work names next run = fits_if (same_value v w) work names next run

-- the name of a constant is compared with, any other one is bound
abbrev pub fits_name : Bool → List ℕ → DslxValue → List Waiting → List Given → Sequel → ConstState → ConstState
fits_name true name v work names next run = uses_constant name (doing (Compares v work names next ∷ []) run)
fits_name false name v work names next run = doing (Fits work (record { name = name; value = v } ∷ names) next ∷ []) run

abbrev pub fits_parts : Option (List DslxValue) → List Pattern → List Waiting → List Given → Sequel → ConstState → ConstState
fits_parts None ps work names next run = fails next run
fits_parts (Some vs) ps work names next run = doing (Fits (record { patterns = ps; values = vs } ∷ work) names next ∷ []) run

abbrev pub fits_shape : PatternLayer → DslxValue → List Waiting → List Given → Sequel → ConstState → ConstState
fits_shape Shape-F.Wild v work names next run = doing (Fits work names next ∷ []) run
fits_shape (Shape-F.Shape::Bool b) v work names next run = fits_if (same_value v (bool_value b)) work names next run
fits_shape (Shape-F.Shape::Number n) v work names next run = uses_number n (doing (Compares v work names next ∷ []) run)
fits_shape (Shape-F.Shape::Name name) v work names next run = fits_name (is_constant_within run.text run.left name) name v work names next run
fits_shape (Shape-F.Shape::Member e a) v work names next run = uses_member e.name a.name (doing (Compares v work names next ∷ []) run)
fits_shape (Shape-F.Shape::Tuple ps) v work names next run = fits_parts (elements_of v) ps work names next run

-- a value is to fit a pattern, and then what waits
abbrev pub fits_one : Pattern → DslxValue → List Waiting → List Given → Sequel → ConstState → ConstState
fits_one p v work names next run = fits_shape (shape_of p) v work names next run

-- all fit, and what the pattern binds is bound until what comes behind is done
abbrev pub goes_on : List Given → Sequel → ConstState → ConstState
goes_on names (ThenStatements ss last) run = doing (DoesStatements ss last ∷ Forgets (length names) ∷ []) (binding_all names run)
goes_on names (ThenAccumulator p v b) run = fits_one p v [] [] (ThenBody (length names) b) (binding_all names run)
goes_on names (ThenBody k b) run = doing (DoesBlock b ∷ Forgets (length names) ∷ Forgets k ∷ []) (binding_all names run)
goes_on names (ThenArm ps a rest v) run = doing (ValueDen (out-Arm a).value ∷ Forgets (length names) ∷ []) (binding_all names run)

-- the first that waits
abbrev pub fits_first : List Pattern → List DslxValue → List Waiting → List Given → Sequel → ConstState → ConstState
fits_first [] [] work names next run = doing (Fits work names next ∷ []) run
fits_first [] (v ∷ vs) work names next run = fails next run
fits_first (p ∷ ps) [] work names next run = fails next run
fits_first (p ∷ ps) (v ∷ vs) work names next run = fits_one p v (record { patterns = ps; values = vs } ∷ work) names next run

abbrev pub fits_all : List Waiting → List Given → Sequel → ConstState → ConstState
fits_all [] names next run = goes_on names next run
fits_all (w ∷ work) names next run = fits_first w.patterns w.values work names next run

-- ---- matches

-- the last arm, which fits nothing
abbrev pub last_or_next : Arm → List Arm → DslxValue → ConstState → ConstState
last_or_next a [] v run = doing (BindsNothing ((out-Arm a).patterns ∷ []) (out-Arm a).value ∷ []) run
last_or_next a (b ∷ rest) v run = doing (Tries (out-Arm b).patterns b rest v ∷ []) run

abbrev pub tries : List Pattern → Arm → List Arm → DslxValue → ConstState → ConstState
tries [] a rest v run = last_or_next a rest v run
tries (p ∷ ps) a rest v run = fits_one p v [] [] (ThenArm ps a rest v) run

abbrev pub selects : List Arm → DslxValue → ConstState → ConstState
selects [] v run = finds_value None run
selects (a ∷ rest) v run = doing (Tries (out-Arm a).patterns a rest v ∷ []) run

-- a pattern that may bind nothing
abbrev pub binds_nothing : PatternLayer → List (List Pattern) → Expr → ConstState → ConstState
binds_nothing (Shape-F.Shape::Name name) pss e run =
    if is_constant_within run.text run.left name then doing (BindsNothing pss e ∷ []) run else finds_value None run
binds_nothing (Shape-F.Shape::Tuple ps) pss e run = doing (BindsNothing (ps ∷ pss) e ∷ []) run
binds_nothing _ pss e run = doing (BindsNothing pss e ∷ []) run

abbrev pub all_bind_nothing : List (List Pattern) → Expr → ConstState → ConstState
all_bind_nothing [] e run = doing (ValueDen e ∷ []) run
all_bind_nothing ([] ∷ pss) e run = doing (BindsNothing pss e ∷ []) run
all_bind_nothing ((p ∷ ps) ∷ pss) e run = binds_nothing (shape_of p) (ps ∷ pss) e run

-- ---- loops

abbrev pub loop_begins : For → Option DslxValue → ConstState → ConstState
loop_begins f None run = finds_value None run
loop_begins f (Some start) run = doing (ValueDen (out-For f).from ∷ FindsFirst f start ∷ []) run

abbrev pub first_found : For → DslxValue → Option SignedWord → ConstState → ConstState
first_found f start None run = finds_value None run
first_found f start (Some a) run = doing (ValueDen (out-For f).to ∷ FindsLast f start a ∷ []) run

abbrev pub last_found : For → DslxValue → SignedWord → Option SignedWord → ConstState → ConstState
last_found f start a None run = finds_value None run
last_found f start a (Some b) run =
    if of_one_type a b then doing (Turns f a.signed (turn_count a b) a.word ∷ []) (finds_value (Some start) run) else finds_value None run

-- a turn, and those behind it
abbrev pub turns_on : Option ℕ → For → Bool → Word → DslxValue → ConstState → ConstState
turns_on None f signed i v run = finds_value (Some v) run
turns_on (Some n) f signed i v run =
    fits_one (out-For f).index (Bits signed i) [] [] (ThenAccumulator (out-For f).accumulator v (out-For f).body)
    (doing (Turns f signed n (add i (word i.width 1)) ∷ []) run)

abbrev pub turns : For → Bool → ℕ → Word → Option DslxValue → ConstState → ConstState
turns f signed n i None run = finds_value None run
turns f signed n i (Some v) run = turns_on (one_less n) f signed i v run
