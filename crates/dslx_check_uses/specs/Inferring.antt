-- What operands infer for parametrics, and names that expressions are.
use Rattle.std.specs.Prelude.{ℕ, List, [], ◌∷◌, Option, Some, None}
use Rattle.std.specs.Borrow.{Bor}
use Rattle.dslx_tree.specs.declared.expr.Expr.{Expr}
use Rattle.dslx_meaning.specs.Activation.{name_in_node, node_of}
use Rattle.dslx_meaning.specs.Inference.{Inferred as InferredNumber}
use Rattle.dslx_check_uses.specs.declared.inference.Inferred.{Inferred}

abbrev pub number_of : Inferred → InferredNumber
number_of i = record { name = i.name.now; number = i.number }

abbrev pub name_lent : Bor (List ℕ) → List ℕ
name_lent n = n.now

-- the name that an expression is alone
abbrev pub the_name : Expr → Option (List ℕ)
the_name e = name_in_node (node_of e)

-- the first one, if there is one
abbrev pub first_number : List ℕ → Option ℕ
first_number [] = None
first_number (n ∷ ns) = Some n
