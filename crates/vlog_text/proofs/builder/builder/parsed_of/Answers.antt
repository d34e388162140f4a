use Rattle.std.proofs.Common.{rules}
use Rattle.vlog_text.proofs.OnBuilder.Stepping.{parsed_parts}
use Rattle.vlog_text.proofs.builder.builder.parsed_of.Goals as goal

pub returns : goal.returns
returns c = parsed_parts c.args.state.now c.spans_of-part_spans.new.state c.from_string-name.result c.design_of-design.result c.spans_of-part_spans.result c.design_of-design.ensures c.spans_of-part_spans.ensures.design (search rules) c.spans_of-part_spans.ensures.part_spans
