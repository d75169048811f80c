-- What `exact::Parts::plus` leaves: the whole parts of two numbers, with one more where their remainders pass the divisor, are no more than the
-- quotient of the sum. Assumes nothing.
use Rattle.std.proofs.Common.{◌+◌, arith}
use Rattle.exact.proofs.Laws.{quotient_fits}
use Rattle.exact.proofs.Parts.plus.Goals as goal

pub overflow_add-result : goal.overflow_add-result
overflow_add-result c = omega (arith, quotient_fits (c.args.self.whole + c.args.more.whole) c.requires.2 (omega arith) (omega arith))

pub overflow_add-result-else-self-room : goal.overflow_add-result-else-self-room
overflow_add-result-else-self-room c = omega (arith, quotient_fits (c.args.self.whole + c.args.more.whole) c.requires.2 (omega arith) (omega arith))

pub overflow_add-result-else-self-room-2 : goal.overflow_add-result-else-self-room-2
overflow_add-result-else-self-room-2 c = omega (arith, quotient_fits (c.args.self.whole + c.args.more.whole + 1) c.requires.2 (omega arith) (omega arith))
