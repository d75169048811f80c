-- Four texts one after another.
use Rattle.rules.specs.Text.{text}
use Rattle.rules.specs.Report.{field, heading}
use Rattle.text.specs.Puts.{taken_then}
use Rattle.report.proofs.put_heading.Goals as goal

pub returns : goal.returns
unfolding heading field text
returns g c = search (taken_then, g.met.S.Sink.goes_on)
