-- Which records calls lead to.
use Rattle.std.specs.Prelude.{◌≡◌, List, [], ◌∷◌, ◌++◌, Bool, true, ℕ, zero, suc, ◌+◌, ◌/◌, length, take, replicate, leb, ltb, eqb}
use Rattle.octets.specs.Basics.{pick, and, or, number, part, AllOctets}
use Rattle.packets.specs.Packet.{look, Undamaged, header_length, packet_version, length_of_length}
use Rattle.frames.specs.declared.Settings.{Settings}
use Rattle.extractor.specs.Records.{held_in, step_call}
use Rattle.extractor.specs.Answers.{enter_answer}
use Rattle.extractor.specs.declared.Extractor.{Extractor}
use Rattle.extractor.specs.declared.Extractor.TheVariants.{Fresh, Astray, InStep, Walking, Leaving}

-- any calls, from a fresh record on, refused or not, with any frames; and a store may be lent anew whose first octets are
-- those that the record speaks of
pub data Reached (s : Settings) : Extractor → List ℕ → Type 0 where
  begins : {store : List ℕ} → Reached s Fresh store
  enters : {x : Extractor} {store : List ℕ} (f : List ℕ) → AllOctets f → Reached s x store
      → Reached s (enter_answer s x store f).next store
  steps : {x : Extractor} {store : List ℕ} (f : List ℕ) → AllOctets f → Reached s x store
      → Reached s (step_call s x store f).next (step_call s x store f).store
  lent : {x : Extractor} {store st : List ℕ} → take (held_in x) st ≡ take (held_in x) store → Reached s x store → Reached s x st

-- some zone goes on with these octets
abbrev pub CanGoOn : Settings → List ℕ → Type 0
CanGoOn s held = (z : List ℕ) × AllOctets z × (length z ≡ s.zone) × Undamaged (look s.limit (held ++ z))

-- The one kind of record that the test for refusal 10 lets through and no call leads to: a frame is entered before whose zone
-- octets are held, and no zone leaves their header undamaged. Entering would have dropped them.
abbrev pub Continues : Settings → List ℕ → Extractor → Type 0
Continues s store Fresh = Unit {0}
Continues s store (Astray last) = Unit {0}
Continues s store (InStep last h) = Unit {0}
Continues s store (Walking last zero at) = Unit {0}
Continues s store (Walking last (suc h) at) = CanGoOn s (take (suc h) store)
Continues s store (Leaving last) = Unit {0}

-- ---- the same as a test that computes

-- a zone of zeros
abbrev pub zeros : Settings → List ℕ
zeros s = replicate s.zone 0

-- A header of `size` octets, of which those from `half` on state the length less `plus`: it is not whole after the zone, or the
-- least length that it can state is within the limit. The octets that it lacks may be zero, and it states its own size at least.
unfoldable pub room_to_state : Settings → ℕ → ℕ → ℕ → List ℕ → Bool
room_to_state s size half plus held =
    or (ltb (length (held ++ zeros s)) size)
    (and (leb size s.limit) (leb (number (part half size (held ++ zeros s)) + plus) s.limit))

-- the same of an encapsulation packet, by its length-of-length
unfoldable pub encapsulation_goes_on : Settings → ℕ → List ℕ → Bool
encapsulation_goes_on s zero held = true
encapsulation_goes_on s (suc n) held = room_to_state s (header_length (suc n)) (header_length (suc n) / 2) 0 held

-- some zone goes on with these octets, which begin a packet and are not damaged
unfoldable pub can_go_on : Settings → List ℕ → Bool
can_go_on s [] = true
can_go_on s (o ∷ os) =
    pick (eqb (packet_version o) 0) (room_to_state s 6 4 7 (o ∷ os)) (encapsulation_goes_on s (length_of_length o) (o ∷ os))

-- `Continues` as a test
unfoldable pub held_goes_on : Settings → List ℕ → Extractor → Bool
held_goes_on s store Fresh = true
held_goes_on s store (Astray last) = true
held_goes_on s store (InStep last h) = true
held_goes_on s store (Walking last zero at) = true
held_goes_on s store (Walking last (suc h) at) = can_go_on s (take (suc h) store)
held_goes_on s store (Leaving last) = true
