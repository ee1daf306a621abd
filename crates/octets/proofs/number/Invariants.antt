use Rattle.std.proofs.Common.{◌≡◌, ◌%◌, ◌^◌, take}
use Rattle.octets.specs.Basics.{number}
use Rattle.octets.proofs.number.Given as goal

abbrev pub invariant-loop-octet : goal.invariant-loop-octet
invariant-loop-octet g l = l.number ≡ number (take l.octet-index l.octet-items) % 2 ^ 64
