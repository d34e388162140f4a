-- What words say, by what `clap` answered.
use Rattle.std.proofs.Common.{◌≡◌, inl, inr, List, [], ◌∷◌, true, Option, None, refl, sym, ap, ◌∙◌, subst}
use Rattle.std.specs.Prelude.{option_and_then}
use Rattle.clap.specs.Words.{App, HasKind, HasMatchesOf, Kinds, Row, Text, fault_of, is_simple, is_simple_and_free, kind_of, subcommand_of, subcommand_rows_of}
use Rattle.clap.specs.declared.ArgMatches.{ArgMatches}
use Rattle.clap.specs.declared.Error.{Error}
use Rattle.clap.specs.declared.error.ErrorKind.TheVariants as kind
use Rattle.cmd_line.specs.CommandLine.{arguments_of, subcommand_arguments, arguments_where, xls}

pub simple : is_simple xls ≡ true
unfolding xls
simple = refl

pub simple_and_free : is_simple_and_free xls ≡ true
unfolding xls
simple_and_free = refl

-- where `clap` gave matches, the words say what those of their subcommand say
pub arguments_of_matches : (app : App) (words : List Text) (m : ArgMatches) → app ≡ xls → (is_simple_and_free app ≡ true → fault_of app words ≡ []) → HasMatchesOf app words m →
    option_and_then subcommand_arguments (subcommand_rows_of m) ≡ arguments_of words
unfolding arguments_of
arguments_of_matches app words m is none matches =
    let free : is_simple_and_free app ≡ true = ap is_simple_and_free is ∙ simple_and_free in
    let plain : is_simple app ≡ true = ap is_simple is ∙ simple in
    let faults : fault_of xls words ≡ [] = ap (λ (a : App). fault_of a words) (sym is) ∙ none free in
    let found : subcommand_rows_of m ≡ subcommand_of xls words = (matches plain).1 ∙ ap (λ (a : App). subcommand_of a words) is in
    ap (option_and_then subcommand_arguments) found ∙ sym (ap (λ (kinds : Kinds). arguments_where kinds (subcommand_of xls words)) faults)

refused_where : (kinds : Kinds) (e : Error) (found : Option (Text × List Row)) → HasKind kinds e → (kind_of e ≡ kind.OutOfMemory → ⊥) → None ≡ arguments_where kinds found
refused_where [] e found (inl memory) other = absurd (other memory)
refused_where [] e found (inr among) other = absurd among
refused_where (k ∷ ks) e found has other = refl

-- where `clap` refused them for another cause than memory, they say nothing
pub said_nothing : (app : App) (words : List Text) (e : Error) → app ≡ xls → (is_simple_and_free app ≡ true → HasKind (fault_of app words) e) → (kind_of e ≡ kind.OutOfMemory → ⊥) → None ≡ arguments_of words
unfolding arguments_of
said_nothing app words e is fails other =
    let free : is_simple_and_free app ≡ true = ap is_simple_and_free is ∙ simple_and_free in
    let has : HasKind (fault_of xls words) e = subst (λ (a : App). HasKind (fault_of a words) e) is (fails free) in
    refused_where (fault_of xls words) e (subcommand_of xls words) has other
