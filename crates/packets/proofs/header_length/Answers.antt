use Rattle.std.proofs.Common.{◌≡◌, refl, ap, ◌∙◌, ℕ, zero, suc, ◌^◌, arith}
use Prim.Native.Nat.{min}
use Rattle.words.proofs.Fields.{one_up}
use Rattle.packets.specs.Packet.{header_length}
use Rattle.packets.proofs.header_length.Goals as goal

-- one octet, doubled as often as the field says, has the table's length; past the field's two bits, doubled three times
doubled : (n : ℕ) → 2 ^ min n 3 ≡ header_length n
unfolding header_length
doubled zero = refl
doubled (suc zero) = refl
doubled (suc (suc zero)) = refl
doubled (suc (suc (suc n))) =
    let thrice : min (suc (suc (suc n))) 3 ≡ 3 = omega arith in
    ap (λ (d : ℕ). 2 ^ d) thrice

pub returns : goal.returns
returns c =
    let often : c.least.result ≡ min c.args.code 3 = omega (arith, c.least.ensures) in
    one_up 64 c.least.result (omega (arith, often)) ∙ ap (λ (d : ℕ). 2 ^ d) often ∙ doubled c.args.code
