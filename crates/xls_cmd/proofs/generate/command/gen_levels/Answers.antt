use Rattle.std.proofs.Common.{List, None, Ok, subst}
use Rattle.xb_bits.specs.Word.{Word}
use Rattle.net_core.specs.WellFormed.{IsInputs}
use Rattle.net_core.specs.declared.net.Net.{Net}
use Rattle.xls_gen.specs.Design.Text.{design_text}
use Rattle.xls_gen.specs.Design.Words.{design_words}
use Rattle.xls_cmd.specs.Design.Commands.{ReadsModule}
use Rattle.xls_cmd.specs.Gen.Commands.{gen, gen_name}
use Rattle.xls_cmd.specs.Gen.Inner.{StepsOfModule, StepsOfPackage}
use Rattle.xls_cmd.specs.Lowered.Commands.{LowersModule}
use Rattle.xls_cmd.specs.Shared.Done.{StopsBy}
use Rattle.xls_cmd.specs.Shared.Loads.{OfText, accepts}
use Rattle.xls_cmd.specs.Shared.Step.{goes_on}
use Rattle.xls_cmd.proofs.Lemmas.Shared.{err_handed, stops_in_first, stops_in_next}
use Rattle.xls_cmd.proofs.OnGen.Steps.{denoted, is_made_of, is_of_accepted, levels_given}
use Rattle.xls_cmd.proofs.generate.command.gen_levels.Goals as goal

pub returns-in_err-made-clause-refused : goal.returns-in_err-made-clause-refused
returns-in_err-made-clause-refused g c =
    let text = design_text c.args.arguments.seed c.args.arguments.procs in
    err_handed c.from_residual.result c.in_err-made.field-0.0 (StopsBy (gen c.args.arguments)) c.from_residual.ensures.1
    (stops_in_first (ReadsModule gen_name None text) (λ m. StepsOfModule (design_words c.args.arguments.procs) m) c.in_err-made.field-0.0 c.in_err-made.ensures.refused)

pub source_lines-requires-clause-design : goal.source_lines-requires-clause-design
source_lines-requires-clause-design g c κs within = is_of_accepted (design_text c.args.arguments.seed c.args.arguments.procs) c.in_ok-made.made.design c.in_ok-made.ensures.reads

pub lowered-requires : goal.lowered-requires
lowered-requires g c = is_of_accepted (design_text c.args.arguments.seed c.args.arguments.procs) c.in_ok-made.made.design c.in_ok-made.ensures.reads

pub returns-in_err-ir-clause-refused : goal.returns-in_err-ir-clause-refused
returns-in_err-ir-clause-refused g c =
    let text = design_text c.args.arguments.seed c.args.arguments.procs in
    let words = design_words c.args.arguments.procs in
    let is = c.in_ok-made.ensures.reads in
    err_handed c.from_residual-in_err-ir.result c.in_err-ir.field-0.0 (StopsBy (gen c.args.arguments)) c.from_residual-in_err-ir.ensures.1
    (stops_in_next (ReadsModule gen_name None text) (λ m. StepsOfModule words m) is.tree c.in_err-ir.field-0.0 is.reads
    (stops_in_first (OfText gen_name (LowersModule is.tree None)) (λ ir. StepsOfPackage words is.tree ir) c.in_err-ir.field-0.0 (c.in_err-ir.ensures.refused is.tree (is_made_of text c.in_ok-made.made.design is))))

pub package_lines-requires-clause-inputs : goal.package_lines-requires-clause-inputs
package_lines-requires-clause-inputs g c =
    let text = design_text c.args.arguments.seed c.args.arguments.procs in
    let is = c.in_ok-made.ensures.reads in
    let from = is_made_of text c.in_ok-made.made.design is in
    subst (λ (n : Net). IsInputs n c.in_ok-made.made.inputs.words) (denoted is.tree c.in_ok-ir.ir (c.in_ok-ir.ensures.gives is.tree from)).network (c.in_ok-source.ensures is.tree from).takes.inputs

pub returns-in_err-lines-clause-refused : goal.returns-in_err-lines-clause-refused
returns-in_err-lines-clause-refused g c =
    let text = design_text c.args.arguments.seed c.args.arguments.procs in
    let words = design_words c.args.arguments.procs in
    let is = c.in_ok-made.ensures.reads in
    let from = is_made_of text c.in_ok-made.made.design is in
    err_handed c.from_residual-in_err-lines.result c.in_err-lines.field-0.0 (StopsBy (gen c.args.arguments)) c.from_residual-in_err-lines.ensures.1
    (stops_in_next (ReadsModule gen_name None text) (λ m. StepsOfModule words m) is.tree c.in_err-lines.field-0.0 is.reads
    (stops_in_next (OfText gen_name (LowersModule is.tree None)) (λ ir. StepsOfPackage words is.tree ir) c.in_ok-ir.ir c.in_err-lines.field-0.0 (accepts c.in_ok-ir.ir (c.in_ok-ir.ensures.gives is.tree from))
    (subst (λ (w : List (List Word)). StopsBy (StepsOfPackage w is.tree c.in_ok-ir.ir) c.in_err-lines.field-0.0) c.in_ok-made.ensures.words (c.in_err-lines.ensures.refused is.tree))))

pub returns-clause-gives : goal.returns-clause-gives
returns-clause-gives g c =
    let written = design_text c.args.arguments.seed c.args.arguments.procs in
    let is = c.in_ok-made.ensures.reads in
    let from = is_made_of written c.in_ok-made.made.design is in
    let text = c.in_ok-text.text.items in
    goes_on is.tree (Ok text) is.reads
    (subst (λ (w : List (List Word)). StepsOfModule w is.tree (Ok text)) c.in_ok-made.ensures.words
    (levels_given is.tree c.in_ok-ir.ir c.in_ok-made.made.inputs.words c.in_ok-source.source c.in_ok-lines.lines text (c.in_ok-ir.ensures.gives is.tree from) (c.in_ok-source.ensures is.tree from) c.in_ok-lines.ensures.tells c.in_ok-text.ensures))
