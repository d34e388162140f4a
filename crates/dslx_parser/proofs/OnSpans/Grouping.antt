-- What stands in parentheses.
use Rattle.std.proofs.Common.{◌≤◌, ℕ, arith}
use Rattle.xb_span.specs.declared.span.Span.{Span}
use Rattle.dslx_token.specs.Lexeme.{Lexeme}
use Rattle.dslx_tree.specs.declared.operators.chain.Operand.{Operand}
use Rattle.dslx_parser.specs.Syntax.Nodes.{from_to}
use Rattle.dslx_parser.proofs.OnSpans.Fits.{IsTokenAt}
use Rattle.dslx_parser.proofs.OnSpans.Standing.{IsOperand, Within, widened}

pub closes : {kind : ℕ} {opening : Span} {l : Lexeme} {a b c : ℕ} → Within opening a b → IsTokenAt kind l b c → opening.from ≤ l.span.to
closes w t = let p = w.goes in let q = w.last in let r = t.within.first in let s = t.within.goes in omega (arith, p, q, r, s)

-- the expression stays, and its place takes in the parentheses
pub grouped : {kind : ℕ} {opening : Span} {l : Lexeme} {o : Operand} {a b c d : ℕ} → Within opening a b → IsOperand o b c → IsTokenAt kind l c d → IsOperand (record { span = from_to opening l.span; expr = o.expr }) a d
grouped {opening = opening} {l = l} {o = o} w s t =
    let p = w.goes in let q = w.last in let r = s.within.first in let u = s.within.goes in let v = s.within.last in let x = t.within.first in let y = t.within.goes in
    record {
      within = record { first = w.first; goes = omega (arith, p, q, r, u, v, x, y); last = t.within.last };
      there = widened opening.from l.span.to s.there (omega (arith, p, q, r)) (omega (arith, v, x, y));
    }
