-- Unwrapping: what is answered where no row holds.
-- Assumes nothing.
use mathlib.Core.Path.{◌≡◌, refl}
use mathlib.Core.List.{List}
use mathlib.Core.Bool.{true}
use Prim.Native.Nat.{ℕ, ◌-◌}
use lib.ListN.{length, get_or}
use borrow.Author.Tests.{eq-eqb}
use Rattle.octets.specs.Basics.{first}
use Rattle.packets.specs.Packet.{protocol_of, header_length}
use Rattle.packets.specs.Unwrap.{its_length_of_length, extension_of, unwrap_rows, unwrapping}

module _ (limit : ℕ) (p : List ℕ) where
  pub unwrapping_done : first (unwrap_rows limit p) ≡ 0
      → unwrapping limit p
      ≡ record {
        accepted = true;
        refusal = 0;
        damage = 0;
        protocol = protocol_of (get_or p 0 0);
        extension = extension_of p;
        start = header_length (its_length_of_length p);
        size = length p - header_length (its_length_of_length p);
      }
  unfolding unwrapping
  unwrapping_done h = rw (eq-eqb (first (unwrap_rows limit p)) 0 h) refl
