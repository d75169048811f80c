-- `spans::clear_span` meets its contract. Assumes nothing.
use Rattle.spans.proofs.Written.{clear_is}
use Rattle.spans.proofs.clear_span.Goals as goal

pub returns : goal.returns
returns c = clear_is c.default.ensures.1.1.1.0 c.default.ensures.1.1.1.1
