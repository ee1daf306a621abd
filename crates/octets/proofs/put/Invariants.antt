use Rattle.octets.proofs.Written.{Down}
use Rattle.octets.proofs.put.Given as goal

abbrev pub invariant-loop-i : goal.invariant-loop-i
invariant-loop-i l = Down l.initial.buf l.at l.k l.n l.buf l.rest l.i
