use Rattle.unit.proofs.Places.{AtPlace}
use Rattle.unit.proofs.statement_at.Given as goal

abbrev pub invariant-loop : goal.invariant-loop
invariant-loop l = AtPlace l.file l.place l.counter l.next.at
