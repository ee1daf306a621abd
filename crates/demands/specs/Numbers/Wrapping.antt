-- Wrapping and unwrapping: refusals, the header that is chosen, and its octets.
use Rattle.std.specs.Prelude.{ℕ, ◌+◌, ◌≡◌, List, [], ◌∷◌, map, true, false, replicate, take, Option, None, Some, Result, Ok, Err}
use Rattle.octets.specs.declared.refusals.Refusal.{Refusal}
use Rattle.wrapping.specs.Wrap.{wrapping}
use Rattle.packets.specs.Unwrap.{Unwrapping, unwrapping, unit_part}
use Rattle.packets.specs.declared.damage.Damage.{Damage}
use Rattle.packets.specs.declared.damage.Refused.{Refused}
use Rattle.packets.specs.declared.unwrapping.Unit as held
use Rattle.demands.specs.Numbers.Samples.{lent, seven}

pub record Refusals : Type 0 where
  -- each number alone: 1, 8, 2 and none; 8 for an empty data unit and for one that would pass M
  pub wrap : (wrapping 12 0 0 (lent 1) (lent 3)).refusal
      ∷ (wrapping 12 2 0 [] (lent 3)).refusal
      ∷ (wrapping 12 2 0 (lent 11) (lent 13)).refusal
      ∷ (wrapping 12 6 0 (lent 9) (lent 13)).refusal
      ∷ (wrapping 12 2 0 (lent 1) (lent 2)).refusal
      ∷ (wrapping 12 2 0 (lent 10) (lent 12)).refusal
      ∷ (wrapping 12 6 0 (lent 8) (lent 12)).refusal
      ∷ []
      ≡ 1 ∷ 8 ∷ 8 ∷ 8 ∷ 2 ∷ 0 ∷ 0 ∷ []
  -- 1, 8, 6 and none; 8 for a space packet and for one that is not well formed; 6 for an extension without protocol 6 and reserved bits
  pub unwrap : (unwrapping 6 (0xE9 ∷ 2 ∷ [])).refusal
      ∷ (unwrapping 12 seven).refusal
      ∷ (unwrapping 12 (0xE9 ∷ 3 ∷ [])).refusal
      ∷ (unwrapping 12 (0xE9 ∷ 13 ∷ lent 11)).refusal
      ∷ (unwrapping 12 []).refusal
      ∷ (unwrapping 12 (0xEA ∷ 0x01 ∷ 0 ∷ 4 ∷ [])).refusal
      ∷ (unwrapping 12 (0xEA ∷ 0x08 ∷ 0 ∷ 4 ∷ [])).refusal
      ∷ (unwrapping 12 (0xEB ∷ 0 ∷ 0x80 ∷ 0x00 ∷ 0 ∷ 0 ∷ 0 ∷ 8 ∷ [])).refusal
      ∷ (unwrapping 12 (0xFB ∷ 0 ∷ 0x00 ∷ 0x01 ∷ 0 ∷ 0 ∷ 0 ∷ 8 ∷ [])).refusal
      ∷ (unwrapping 12 (0xE9 ∷ 12 ∷ lent 10)).refusal
      ∷ []
      ≡ 1 ∷ 8 ∷ 8 ∷ 8 ∷ 8 ∷ 6 ∷ 6 ∷ 6 ∷ 6 ∷ 0 ∷ []
  -- the order: all that is wrong at once, and then one thing after another put right
  pub wrap_order : (wrapping 6 2 0 [] []).refusal ∷ (wrapping 12 2 0 [] []).refusal ∷ (wrapping 12 2 0 (lent 11) []).refusal ∷ [] ≡ 1 ∷ 8 ∷ 8 ∷ []
  pub unwrap_order : (unwrapping 6 (0xEA ∷ 0x01 ∷ 0 ∷ 5 ∷ [])).refusal ∷ (unwrapping 12 (0xEA ∷ 0x01 ∷ 0 ∷ 5 ∷ [])).refusal ∷ [] ≡ 1 ∷ 8 ∷ []

-- the first eight octets of the packet that n octets AA are wrapped in
abbrev pub wraps : ℕ → ℕ → ℕ → List ℕ
wraps protocol extension n = take 8 (wrapping 65542 protocol extension (replicate n 0xAA) (lent (n + 8))).output

pub record Wrapped : Type 0 where
  -- what is written: the packet and nothing else
  pub two : wrapping 12 2 0 (0xAA ∷ 0xBB ∷ []) (lent 5) ≡ record { accepted = true; refusal = 0; damage = 0; total = 4; output = 0xE9 ∷ 4 ∷ 0xAA ∷ 0xBB ∷ 0xFF ∷ [] }
  pub refused : wrapping 12 2 0 [] (lent 2) ≡ record { accepted = false; refusal = 8; damage = 0; total = 0; output = lent 2 }
  -- protocol and extension at their places; protocol 6 has four octets at least, and user is written 0
  pub protocols : map (λ protocol. wraps protocol 0 6) (1 ∷ 4 ∷ 7 ∷ []) ≡ map (λ o. o ∷ 8 ∷ replicate 6 0xAA) (0xE5 ∷ 0xF1 ∷ 0xFD ∷ [])
  pub extensions : map (λ extension. wraps 6 extension 4) (0 ∷ 1 ∷ 8 ∷ 15 ∷ []) ≡ map (λ o. 0xFA ∷ o ∷ 0 ∷ 8 ∷ replicate 4 0xAA) (0 ∷ 1 ∷ 8 ∷ 15 ∷ [])
  -- the header: two octets to a total of 255, then four to 65,535, then eight
  pub pass_10 : map (wraps 2 0) (253 ∷ 254 ∷ []) ≡ (0xE9 ∷ 0xFF ∷ replicate 6 0xAA) ∷ (0xEA ∷ 0 ∷ 0x01 ∷ 0x02 ∷ replicate 4 0xAA) ∷ []
  pub pass_11 : map (wraps 2 0) (65531 ∷ 65532 ∷ []) ≡ (0xEA ∷ 0 ∷ 0xFF ∷ 0xFF ∷ replicate 4 0xAA) ∷ (0xEB ∷ 0 ∷ 0 ∷ 0 ∷ 0x00 ∷ 0x01 ∷ 0x00 ∷ 0x04 ∷ []) ∷ []
  pub extended : wraps 6 9 65532 ≡ 0xFB ∷ 9 ∷ 0 ∷ 0 ∷ 0x00 ∷ 0x01 ∷ 0x00 ∷ 0x04 ∷ []

-- what unwrapping answers: protocol, extension, where the unit starts and how long it is
abbrev pub says : ℕ → ℕ → ℕ → ℕ → Unwrapping
says protocol extension start size = record { accepted = true; refusal = 0; damage = 0; protocol = protocol; extension = extension; start = start; size = size }

-- the same as it is answered, and a refusal with what is wrong with the packet's header
abbrev pub unit : ℕ → ℕ → ℕ → ℕ → Result held.Unit Refused
unit protocol extension start size = Ok (record { protocol = protocol; extension = extension; start = start; size = size })

abbrev pub refused : Refusal → Option Damage → Refused
refused refusal damage = record { refusal = refusal; damage = damage }

pub record Units : Type 0 where
  pub each : map (unwrapping 12)
      ((0xE0 ∷ [])
      ∷ (0xE9 ∷ 4 ∷ 0xAA ∷ 0xBB ∷ [])
      ∷ (0xEA ∷ 0xF0 ∷ 0 ∷ 5 ∷ 0xAA ∷ [])
      ∷ (0xFA ∷ 0x01 ∷ 0 ∷ 5 ∷ 0xAA ∷ [])
      ∷ (0xFA ∷ 0x08 ∷ 0 ∷ 5 ∷ 0xAA ∷ [])
      ∷ (0xFB ∷ 0xFF ∷ 0 ∷ 0 ∷ 0 ∷ 0 ∷ 0 ∷ 9 ∷ 0xAA ∷ [])
      ∷ [])
      ≡ says 0 0 1 0 ∷ says 2 0 2 2 ∷ says 2 0 4 1 ∷ says 6 1 4 1 ∷ says 6 8 4 1 ∷ says 6 15 8 1 ∷ []
  -- the part of the packet that holds the unit; none where it would run past the end, or after a refusal
  pub part : map (unit_part (0xE9 ∷ 4 ∷ 0xAA ∷ 0xBB ∷ []))
      (unit 2 0 2 2 ∷ unit 2 0 2 1 ∷ unit 2 0 2 3 ∷ Err (refused Refusal.Packet None) ∷ Err (refused Refusal.Packet (Some Damage.OverLimit)) ∷ [])
      ≡ (0xAA ∷ 0xBB ∷ []) ∷ (0xAA ∷ []) ∷ [] ∷ [] ∷ [] ∷ []
