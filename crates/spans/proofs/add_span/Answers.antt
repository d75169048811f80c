-- `spans::add_span` meets its contract. Assumes nothing.
use Rattle.spans.proofs.Written.{span_added}
use Rattle.spans.proofs.add_span.Goals as goal

pub returns : goal.returns
returns c = span_added _ c.push.ensures.items c.clear_span.ensures
