-- The promises of `packets`.
-- Assumes nothing.
use Prim.Native.Nat.{ℕ}
use mathlib.Core.Path.{◌≡◌, refl}
use mathlib.Core.List.{List, [], ◌∷◌}
use mathlib.Core.Bool.{false, not}
use Rattle.std.specs.Prelude.{Option}
use Rattle.octets.specs.Basics.{row, first}
use Rattle.octets.proofs.Tests.{test}
use Rattle.packets.specs.Packet.{Look, more, damaged, whole, look, carried, limit_in_range}
use Rattle.packets.specs.Damage.{damage_or_0}
use Rattle.packets.specs.Header.{bare}
use Rattle.packets.specs.Header as header
use Rattle.packets.specs.Unwrap.{unwrap_rows, unwrapping, unwraps, unit_part}
use Rattle.packets.specs.declared.damage.Damage.{Damage}
use Rattle.packets.proofs.Determined.{same_told, header_determined, seen_determined, unwrapped_determined}
use Rattle.demands.specs.Promises.{as_read}
use Rattle.demands.specs.calls.Packets.{Tells, OfPackets}
use Rattle.demands.proofs.Promised.{by_rows, promised, exactly}

-- a limit out of range is the reader's only refusal
pub reading_by_row : (limit : ℕ) (os : List ℕ)
    → header.reading limit os ≡ by_rows (row 1 (not (limit_in_range limit)) ∷ []) (header.told os (look limit os)) (λ n. bare n 0 0)
unfolding header.reading first
reading_by_row limit os = test (limit_in_range limit) (λ t. rw t refl) (λ t. rw t refl)

pub told_unrefused : (os : List ℕ) (k : Look) → (header.told os k).refusal ≡ 0
unfolding header.told
told_unrefused os more = refl
told_unrefused os (damaged d) = refl
told_unrefused os (whole l) = refl

-- a call whose contract is the number of what is wrong
tells : {given : ℕ} → Tells (as_read (Unit {0}) (λ (r : Option Damage). damage_or_0 r ≡ given)) given
tells = record { free = tt; gives = λ r m. m; one = λ r r' p q. same_told p q }

pub of_packets : OfPackets
unfolding unwrapping unit_part
of_packets = record {
  damage_number = λ d. exactly;
  in_range = λ limit. exactly;
  unwrap = λ κs limit p.
      promised unwraps (λ a. a.refusal) (unwrap_rows limit p.now) _
      (λ n. record { accepted = false; refusal = n; damage = carried n limit p.now; protocol = 0; extension = 0; start = 0; size = 0 }) refl refl (λ n. refl)
      (record { free = tt; gives = λ o m. m; one = λ o o' e d. unwrapped_determined e d });
  unit_part = λ κs p u part. exactly;
  no_unit = λ p r. refl;
  read_header = λ κs limit os-lent.
      let os : List ℕ = os-lent.now in
      promised header.answer (λ a. a.refusal) (row 1 (not (limit_in_range limit)) ∷ []) (header.told os (look limit os)) (λ n. bare n 0 0)
      (reading_by_row limit os) (told_unrefused os (look limit os)) (λ n. refl)
      (record { free = tt; gives = λ o m. m; one = λ o o' p q. header_determined p q });
  read_length = λ κs limit os. record { free = tt; gives = λ o m. m; one = λ o o' p q. seen_determined p q };
  damage_in = λ found. tells;
  header_damage = λ h. tells;
  carried = λ κs refusal limit p. tells;
  is_idle = λ κs os. exactly;
  header_length = λ code. exactly;
  well_formed = λ κs limit p. exactly;
}
