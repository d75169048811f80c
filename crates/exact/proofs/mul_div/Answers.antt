-- What `exact::mul_div` leaves: a product that fits by the binary digits of its factors. Assumes nothing.
use Rattle.std.proofs.Common.{arith}
use Rattle.exact.proofs.Laws.{product_fits}
use Rattle.exact.proofs.mul_div.Goals as goal

pub overflow_mul-result : goal.overflow_mul-result
overflow_mul-result c = omega (arith, product_fits c.args.a c.args.b (omega arith) (omega arith) (omega arith))
