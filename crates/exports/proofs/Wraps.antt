-- A protocol or an extension that fits no octet is out of range, and so is 255.
-- Assumes nothing.
use Rattle.std.proofs.Common.{◌≡◌, ℕ, List, true, false, min, ◌∙◌, arith}
use Rattle.std.proofs.lemmas.Bool.Decides.{nat_tests}
use Rattle.octets.specs.Basics.{first}
use Rattle.octets.proofs.Tests.{test}
use Rattle.wrapping.specs.Wrap.{wrap_in_range, wrap_rows, wrapping}

module _ (limit p e : ℕ) where
  same_range : wrap_in_range limit (min p 255) (min e 255) ≡ wrap_in_range limit p e
  unfolding wrap_in_range
  same_range = grind (arith, nat_tests)

  uncut : wrap_in_range limit p e ≡ true → (min p 255 ≡ p) × (min e 255 ≡ e)
  unfolding wrap_in_range
  uncut t = grind (arith, nat_tests)

-- so both may be cut to an octet
pub wrapping_cut : (limit : ℕ) (unit output : List ℕ) (p e : ℕ) → wrapping limit (min p 255) (min e 255) unit output ≡ wrapping limit p e unit output
unfolding wrapping wrap_rows first
wrapping_cut limit unit output p e =
    test (wrap_in_range limit p e) (λ t. rw ((uncut limit p e t).0, (uncut limit p e t).1))
    (λ t. let beyond : wrap_in_range limit (min p 255) (min e 255) ≡ false = same_range limit p e ∙ t in rw (t, beyond))
