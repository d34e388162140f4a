-- What called names stand for.
use Rattle.dslx_meaning.specs.Callees.{CallKind, Joins, Receives, ReceivesIf, Sends, SendsIf, CountsLeading, CountsTrailing, Reverses, AllOnes, SomeOne, Parity, Updates, Calls}
use Rattle.dslx_meaning.specs.declared.names.callee.Callee.{Callee}
use Rattle.dslx_meaning.specs.declared.names.callee.Callee.TheVariants as c

abbrev pub kind_of : Callee → CallKind
kind_of c.Join = Joins
kind_of c.Receive = Receives
kind_of c.ReceiveIf = ReceivesIf
kind_of c.Send = Sends
kind_of c.SendIf = SendsIf
kind_of c.CountLeading = CountsLeading
kind_of c.CountTrailing = CountsTrailing
kind_of c.Reverse = Reverses
kind_of c.AllOnes = AllOnes
kind_of c.SomeOne = SomeOne
kind_of c.Parity = Parity
kind_of c.Update = Updates
kind_of c.Function = Calls
