use Rattle.std.proofs.Common.{◌≡◌, ◌<◌, ◌^◌, List, ℕ, length, Result, Ok, subst}
use Rattle.ir_tree.specs.declared.package.Package.{Package}
use Rattle.xb_span.specs.declared.read_error.ReadError.{ReadError}
use Rattle.ir_text.specs.Printer.Lines.{package_text}
use Rattle.ir_text.specs.Parser.Texts.{GivesPackage}
use Rattle.ir_text.proofs.OnRoundTrip.VerifiedPackages.{printed_reads}
use Rattle.ir_text.proofs.OnRoundTrip.Ranges.{read_reads}
use Rattle.ir_text.proofs.round_trip.laws.printed_packages_are_read.Goals as goal

pub returns-clause-read : goal.returns-clause-read
returns-clause-read c = printed_reads

pub returns-clause-again : goal.returns-clause-again
returns-clause-again c = read_reads

-- what two readings are is one package
one_of : (p q : Package) → ◌≡◌ {A = Result Package ReadError} (Ok p) (Ok q) → p ≡ q
one_of p q e = cc

pub returns-clause-apart : goal.returns-clause-apart
returns-clause-apart c = λ p q h range k also brief e.
    one_of p q (c.one_package.ensures (package_text q) (Ok p) (Ok q)
    (subst (λ text. GivesPackage text (Ok p)) e (printed_reads p h range brief))
    (printed_reads q k also (subst (λ (text : List ℕ). length text < 2 ^ 32) e brief)))
