-- The form of a line, without where its name lies in memory.
use Rattle.chan_file.specs.declared.line.LineForm.{LineForm}
use Rattle.chan_file.specs.declared.line.LineForm.TheVariants.{Blank, Channel, Other}
use Rattle.chan_file.specs.Line.{LineShape, blank, channel, other}

abbrev pub form_of : LineForm → LineShape
form_of Blank = blank
form_of (Channel name) = channel name.now
form_of Other = other
