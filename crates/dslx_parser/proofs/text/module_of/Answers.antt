use Rattle.std.proofs.Common.{◌∙◌, inl, subst, sym}
use Rattle.base.specs.Grammar.Answer.{EndsWith}
use Rattle.dslx_token.specs.declared.rules.generated.kind.TheConstants.{END}
use Rattle.dslx_token.specs.Tokens.{Tokens}
use Rattle.dslx_parser.specs.Reads.{kinds_of}
use Rattle.dslx_parser.proofs.Texts.{text_lacks, text_only, text_reads, text_refused}
use Rattle.dslx_parser.proofs.text.module_of.Goals as goal

pub parse-requires : goal.parse-requires
parse-requires c = subst (λ ls. EndsWith (kinds_of ls) END) (sym c.deref.ensures.value) c.in-Ok.ensures.ended

pub returns-in-Ok-clause-reads : goal.returns-in-Ok-clause-reads
returns-in-Ok-clause-reads c =
    text_reads c.args.text.now c.deref.result.now (subst (Tokens c.args.text.now) (sym c.deref.ensures.value) c.in-Ok.ensures.found) c.parse.result
    c.parse.ensures.reads c.parse.ensures.within

pub returns-in-Ok-clause-only : goal.returns-in-Ok-clause-only
returns-in-Ok-clause-only c =
    text_only c.args.text.now c.deref.result.now c.parse.result (λ ks cut. c.deref.ensures.value ∙ c.in-Ok.ensures.only ks cut) c.parse.ensures.only

pub returns-in-Ok-clause-refused : goal.returns-in-Ok-clause-refused
returns-in-Ok-clause-refused c =
    text_refused c.args.text.now c.deref.result.now (subst (Tokens c.args.text.now) (sym c.deref.ensures.value) c.in-Ok.ensures.found) c.parse.result
    c.parse.ensures.refused

pub returns-in-Err-clause-only : goal.returns-in-Err-clause-only
returns-in-Err-clause-only c = text_lacks c.args.text.now c.in-Err.e c.in-Err.ensures.only

pub returns-in-Err-clause-refused : goal.returns-in-Err-clause-refused
returns-in-Err-clause-refused c = inl c.in-Err.ensures.refused
