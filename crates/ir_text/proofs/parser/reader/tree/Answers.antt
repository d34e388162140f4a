use Rattle.std.proofs.Common.{◌∙◌, subst}
use Rattle.base.specs.Grammar.Derivation.{IsDerivation}
use Rattle.ir_builder.specs.Token.Rules.Ir.{ir}
use Rattle.ir_text.specs.Parser.Reads.{kinds_of}
use Rattle.ir_text.proofs.OnParser.OneTree.{tree_reads}
use Rattle.ir_text.proofs.parser.reader.tree.Goals as goal

pub returns : goal.returns
returns c =
    let t = c.one_tree.ensures.tree ir c.args.productions.now (kinds_of c.args.tokens.now) (subst (λ ks. IsDerivation ir c.args.productions.now ks) c.requires.same c.requires.derived) in
    tree_reads c.args.tokens.now c.args.productions.now c.deref.result.now t.0 c.build.result t.1 (c.deref.ensures.value ∙ (c.in_ok-steps.ensures {u = tt}) (kinds_of c.args.tokens.now) t.0 t.1) c.build.ensures
