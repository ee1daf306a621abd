-- What is wrong with a packet's header by examples: each of the four in each octet where it is seen, and each answer that carries it.
use Rattle.std.specs.Prelude.{ℕ, ◌-◌, ◌≡◌, List, [], ◌∷◌, ◌++◌, map, Bool, true, false, replicate}
use Rattle.packets.specs.Packet.{look, damage_in}
use Rattle.packets.specs.Damage.{wrong_version, not_idle, below_its_header, over_limit}
use Rattle.packets.specs.Unwrap.{unwrapping}
use Rattle.wrapping.specs.Wrap.{wrapping}
use Rattle.relay.specs.Table.{empty}
use Rattle.relay.specs.Route.{routing}
use Rattle.multiplexer.specs.Multiplex.{begun}
use Rattle.multiplexer.specs.Calls.{to_put, to_flush, to_idle, Answer, answer}
use Rattle.extractor.specs.Answers.{enter_answer, step_answer}
use Rattle.extractor.specs.declared.Extractor.TheVariants.{InStep, Walking}
use Rattle.demands.specs.Numbers.Samples.{set, small, small_trailed, least, frame, from, lent, ten}

-- what the reader finds wrong, 0 for nothing
abbrev pub damage : ℕ → List ℕ → ℕ
damage limit os = damage_in (look limit os)

-- every first octet: versions 000 and 111 are sound, but for a header of one octet whose protocol is not 0
abbrev pub first_octets : List ℕ
first_octets = replicate 32 0 ++ (replicate 192 1 ++ (replicate 4 0 ++ (2 ∷ 0 ∷ 0 ∷ 0 ∷ 2 ∷ 0 ∷ 0 ∷ 0 ∷ 2 ∷ 0 ∷ 0 ∷ 0 ∷ 2 ∷ 0 ∷ 0 ∷ 0 ∷ 2 ∷ 0 ∷ 0 ∷ 0 ∷ 2 ∷ 0 ∷ 0 ∷ 0 ∷ 2 ∷ 0 ∷ 0 ∷ 0 ∷ [])))

-- a space packet's header by its length field; encapsulation headers of two, four and eight octets by their length
abbrev pub space : ℕ → ℕ → List ℕ
space high low = 0x00 ∷ 0x05 ∷ 0xC0 ∷ 0x00 ∷ high ∷ low ∷ []

abbrev pub two : ℕ → List ℕ
two low = 0xE9 ∷ low ∷ []

abbrev pub four : ℕ → ℕ → List ℕ
four high low = 0xEA ∷ 0x00 ∷ high ∷ low ∷ []

abbrev pub eight : ℕ → ℕ → ℕ → ℕ → List ℕ
eight a b c d = 0xEB ∷ 0x00 ∷ 0x00 ∷ 0x00 ∷ a ∷ b ∷ c ∷ d ∷ []

pub record Headers : Type 0 where
  -- alone, and with octets behind that would say otherwise
  pub firsts : map (λ o. damage 65542 (o ∷ [])) (from 0 256) ≡ first_octets
  pub cut : map (λ o. damage 7 (o ∷ 0xFF ∷ [])) (from 0 256)
      ≡ replicate 32 0 ++ (replicate 192 1 ++ (0 ∷ 4 ∷ 0 ∷ 0 ∷ 2 ∷ 4 ∷ 0 ∷ 0 ∷ 2 ∷ 4 ∷ 0 ∷ 0 ∷ 2 ∷ 4 ∷ 0 ∷ 0 ∷ 2 ∷ 4 ∷ 0 ∷ 0 ∷ 2 ∷ 4 ∷ 0 ∷ 0 ∷ 2 ∷ 4 ∷ 0 ∷ 0 ∷ 2 ∷ 4 ∷ 0 ∷ 0 ∷ []))
  -- a length below its header, which a space packet's never is
  pub below : map (λ n. damage 65542 (two n)) (0 ∷ 1 ∷ 2 ∷ 255 ∷ []) ≡ 3 ∷ 3 ∷ 0 ∷ 0 ∷ []
  pub below_four : map (λ n. damage 65542 (four 0 n)) (from 0 5) ++ (damage 65542 (four 1 0) ∷ []) ≡ 3 ∷ 3 ∷ 3 ∷ 3 ∷ 0 ∷ 0 ∷ []
  pub below_eight : map (λ n. damage 65542 (eight 0 0 0 n)) (from 0 9) ++ (damage 65542 (eight 0 0 1 0) ∷ []) ≡ replicate 8 3 ++ (0 ∷ 0 ∷ [])
  pub spaces : map (λ n. damage 65542 (space 0 n)) (0 ∷ 1 ∷ 255 ∷ []) ≡ 0 ∷ 0 ∷ 0 ∷ []
  -- a length over the limit, at the limit and below it; in every octet of the length
  pub over_two : map (λ limit. damage limit (two 12)) (7 ∷ 11 ∷ 12 ∷ 13 ∷ 65542 ∷ []) ≡ 4 ∷ 4 ∷ 0 ∷ 0 ∷ 0 ∷ []
  pub over_four : map (λ limit. damage limit (four 0x04 0x01)) (7 ∷ 1024 ∷ 1025 ∷ 65542 ∷ []) ≡ 4 ∷ 4 ∷ 0 ∷ 0 ∷ []
  pub over_eight : map (damage 65542) (eight 0 1 0 6 ∷ eight 0 1 0 7 ∷ eight 0 1 1 0 ∷ eight 0 2 0 0 ∷ eight 1 0 0 0 ∷ eight 0x80 0 0 8 ∷ []) ≡ 0 ∷ 4 ∷ 4 ∷ 4 ∷ 4 ∷ 4 ∷ []
  pub over_space : map (λ limit. damage limit (space 0xFF 0xFF)) (7 ∷ 65541 ∷ 65542 ∷ []) ++ map (λ limit. damage limit (space 0x00 0x05)) (11 ∷ 12 ∷ []) ≡ 4 ∷ 4 ∷ 0 ∷ 4 ∷ 0 ∷ []
  -- M = 7 and a header of eight octets: 7 is below the header, 8 over the limit
  pub least : map (λ n. damage 7 (eight 0 0 0 n)) (6 ∷ 7 ∷ 8 ∷ []) ≡ 3 ∷ 3 ∷ 4 ∷ []
  -- a header that is not whole has no damage, whatever its last octet will be
  pub unfinished : map (damage 7) ([] ∷ (0x00 ∷ []) ∷ (0x00 ∷ 0x05 ∷ 0xC0 ∷ 0x00 ∷ 0xFF ∷ []) ∷ (0xE9 ∷ []) ∷ (0xEA ∷ 0xFF ∷ 0xFF ∷ []) ∷ (0xEB ∷ replicate 6 0xFF) ∷ []) ≡ replicate 6 0
  -- octets behind the header do not count
  pub behind : map (λ (p : List ℕ). damage 12 (p ++ lent 9)) ((0x20 ∷ []) ∷ (0xEC ∷ []) ∷ two 1 ∷ two 13 ∷ four 0 3 ∷ eight 0 0 0 7 ∷ space 0 6 ∷ space 0 5 ∷ []) ≡ 1 ∷ 2 ∷ 3 ∷ 4 ∷ 3 ∷ 3 ∷ 4 ∷ 0 ∷ []

-- the four tests of a header at M = 12, in their order
abbrev pub tests : List ℕ → List Bool
tests os = wrong_version os ∷ not_idle os ∷ below_its_header os ∷ over_limit 12 os ∷ []

pub record Tests : Type 0 where
  pub version : map (λ o. wrong_version (o ∷ [])) (0x00 ∷ 0x1F ∷ 0x20 ∷ 0x7F ∷ 0x80 ∷ 0xDF ∷ 0xE0 ∷ 0xFF ∷ []) ≡ false ∷ false ∷ true ∷ true ∷ true ∷ true ∷ false ∷ false ∷ []
  pub one_octet : map (λ o. not_idle (o ∷ [])) (0xE0 ∷ 0xE4 ∷ 0xE5 ∷ 0xE8 ∷ 0xF0 ∷ 0xFC ∷ 0xFD ∷ 0x04 ∷ 0x24 ∷ []) ≡ false ∷ true ∷ false ∷ true ∷ true ∷ true ∷ false ∷ false ∷ false ∷ []
  pub each : map tests ((0x20 ∷ two 1) ∷ (0xEC ∷ 1 ∷ []) ∷ two 1 ∷ two 13 ∷ [])
      ≡ (true ∷ false ∷ false ∷ false ∷ []) ∷ (false ∷ true ∷ false ∷ false ∷ []) ∷ (false ∷ false ∷ true ∷ false ∷ []) ∷ (false ∷ false ∷ false ∷ true ∷ []) ∷ []
  pub longer : map tests (four 0 3 ∷ four 0 13 ∷ eight 0 0 0 7 ∷ eight 1 0 0 0 ∷ space 0 6 ∷ [])
      ≡ (false ∷ false ∷ true ∷ false ∷ []) ∷ (false ∷ false ∷ false ∷ true ∷ []) ∷ (false ∷ false ∷ true ∷ false ∷ []) ∷ (false ∷ false ∷ false ∷ true ∷ []) ∷ (false ∷ false ∷ false ∷ true ∷ []) ∷ []
  pub sound : map tests ([] ∷ two 2 ∷ two 12 ∷ four 0 4 ∷ eight 0 0 0 8 ∷ space 0 5 ∷ (0xE0 ∷ []) ∷ (0xE9 ∷ []) ∷ (0xEA ∷ 0 ∷ 0 ∷ []) ∷ replicate 5 0 ∷ []) ≡ replicate 10 (false ∷ false ∷ false ∷ false ∷ [])

-- Refusal 8 at M = 12. Damage 1 to 4; then 0: an empty packet, a header that is cut, another length than the stated one, shorter and longer. And
-- damage before these: a cut header whose first octet is wrong, and a packet over the limit whose length is another too.
abbrev pub packets : List (List ℕ)
packets =
    (0x20 ∷ [])
    ∷ (0xEC ∷ [])
    ∷ two 1
    ∷ (two 13 ++ lent 11)
    ∷ []
    ∷ (0xEA ∷ 0x00 ∷ [])
    ∷ two 3
    ∷ (two 3 ++ lent 2)
    ∷ (0x20 ∷ 0x05 ∷ [])
    ∷ (0xEC ∷ 0x01 ∷ [])
    ∷ two 13
    ∷ (space 0 6 ++ lent 1)
    ∷ []

abbrev pub carried : List ℕ
carried = 1 ∷ 2 ∷ 3 ∷ 4 ∷ 0 ∷ 0 ∷ 0 ∷ 0 ∷ 1 ∷ 2 ∷ 4 ∷ 4 ∷ []

-- puts of a damaged packet that are refused for something else
abbrev pub refused_puts : List Answer
refused_puts =
    answer (set 66 3 0 12) begun (to_put (0x20 ∷ [])) (lent 18)
    ∷ answer (set 66 3 10 70000) begun (to_put (0x20 ∷ [])) (lent 18)
    ∷ answer small begun (to_put (0x20 ∷ [])) (lent 17)
    ∷ answer small (record { count = 16777216; filled = 0; first = 2047; taken = 0 }) (to_put (0x20 ∷ [])) (lent 18)
    ∷ answer small (record { count = 0; filled = 0; first = 2047; taken = 1 }) (to_put (0x20 ∷ [])) (lent 18)
    ∷ []

pub record Refusals : Type 0 where
  pub put : map (λ (p : List ℕ). (answer small begun (to_put p) (lent 18)).damage) packets ≡ carried
  pub put_eight : map (λ (p : List ℕ). (answer small begun (to_put p) (lent 18)).refusal) packets ≡ replicate 12 8
  pub unwrapped : map (λ (p : List ℕ). (unwrapping 12 p).damage) packets ≡ carried
  pub unwrapped_eight : map (λ (p : List ℕ). (unwrapping 12 p).refusal) packets ≡ replicate 12 8
  pub routed : map (λ (p : List ℕ). (routing 12 empty p []).damage) packets ≡ carried
  pub routed_eight : map (λ (p : List ℕ). (routing 12 empty p []).refusal) packets ≡ replicate 12 8
  -- a space packet to be unwrapped: 0; and 4 where it is over the limit
  pub space_packets : map (λ limit. (unwrapping limit ten).damage) (12 ∷ 10 ∷ 9 ∷ 7 ∷ []) ∷ map (λ limit. (unwrapping limit ten).refusal) (12 ∷ 10 ∷ 9 ∷ 7 ∷ []) ∷ []
      ≡ (0 ∷ 0 ∷ 4 ∷ 4 ∷ []) ∷ (8 ∷ 8 ∷ 8 ∷ 8 ∷ []) ∷ []
  -- source 001's packet of line 2831 states 12 and has 8: 4 at M = 10, 0 at 12 and at 1,024
  pub line_2831 : map (λ limit. (routing limit empty (0x00 ∷ 0x04 ∷ 0xC0 ∷ 0x00 ∷ 0x00 ∷ 0x05 ∷ 0x01 ∷ 0x02 ∷ []) []).damage) (10 ∷ 12 ∷ 1024 ∷ []) ≡ 4 ∷ 0 ∷ 0 ∷ []
  -- an empty data unit, and one that would pass M
  pub wrapped : (wrapping 12 2 0 [] (lent 12)).damage ∷ (wrapping 12 2 0 (lent 11) (lent 12)).damage ∷ [] ≡ 0 ∷ 0 ∷ []
  -- with another refusal a damaged packet carries none: 1, 2, 10 and 9 of a put; 1 of unwrapping, below the limits and above; 1 and 10 of routing
  pub puts : map (λ (a : Answer). a.refusal) refused_puts ∷ map (λ (a : Answer). a.damage) refused_puts ∷ [] ≡ (1 ∷ 1 ∷ 2 ∷ 10 ∷ 9 ∷ []) ∷ replicate 5 0 ∷ []
  pub limits : map (λ limit. (unwrapping limit (0x20 ∷ [])).damage) (6 ∷ 65543 ∷ 70000 ∷ []) ∷ map (λ limit. (routing limit empty (0x20 ∷ []) []).damage) (6 ∷ 65543 ∷ 70000 ∷ []) ∷ []
      ≡ replicate 3 0 ∷ replicate 3 0 ∷ []
  pub unmade : routing 12 (record { count = 33; entries = [] }) (0x20 ∷ []) [] ≡ record { refusal = 10; damage = 0; outcome = 0; count = 0; output = [] }
  pub sound : (answer small begun (to_put ten) (lent 18)).damage ∷ (answer small begun to_flush (lent 18)).damage ∷ (answer small begun to_idle (lent 18)).damage ∷ (routing 12 empty ten []).damage ∷ (unwrapping 12 (two 2)).damage ∷ []
      ≡ replicate 5 0

-- a step at the front of a zone of ten octets that begins so, at M = 12, with trailers and without; and one behind octets held
abbrev pub steps : List ℕ → ℕ
steps zone = (step_answer small (Walking 0 0 0) (lent 12) (frame 0 0 0 zone)).answer.damage

abbrev pub trailed_steps : List ℕ → ℕ
trailed_steps zone = (step_answer small_trailed (Walking 0 0 0) (lent 12) (frame 0 0 0 (zone ++ lent 2))).answer.damage

abbrev pub behind : List ℕ → List ℕ → ℕ → ℕ
behind held zone h = (step_answer small (Walking 1 h 0) (held ++ lent 12) (frame 1 0 3 zone)).answer.damage

-- zones with each damage, and without any: a packet, a packet that goes on, and a header that is not whole
abbrev pub zones : List (List ℕ)
zones =
    (0x40 ∷ lent 9)
    ∷ (0xF8 ∷ lent 9)
    ∷ (two 1 ++ lent 8)
    ∷ (two 13 ++ lent 8)
    ∷ (four 0 3 ++ lent 6)
    ∷ (four 0 13 ++ lent 6)
    ∷ (eight 0 0 0 7 ++ lent 2)
    ∷ (eight 0 0 0 13 ++ lent 2)
    ∷ (space 0 6 ++ lent 4)
    ∷ ten
    ∷ (two 12 ++ lent 8)
    ∷ []

abbrev pub in_zones : List ℕ
in_zones = 1 ∷ 2 ∷ 3 ∷ 4 ∷ 3 ∷ 4 ∷ 3 ∷ 4 ∷ 4 ∷ 0 ∷ 0 ∷ []

-- entering a frame whose zone goes on with the octets held, at M = 12; count 1 follows 0
abbrev pub enters : List ℕ → ℕ → List ℕ → ℕ
enters held h zone = (enter_answer small (InStep 0 h) (held ++ lent 12) (frame 1 0x07 0xFF (zone ++ lent 2))).answer.damage

pub record Walks : Type 0 where
  pub in_zone : map steps zones ≡ in_zones
  pub trailed : map trailed_steps zones ≡ in_zones
  -- at the zone's end, octet by octet: a first octet that is wrong, and a header that ends there
  pub at_the_end : map (λ at. (step_answer small (Walking 0 0 at) (lent 12) (frame 0 0 0 (replicate 8 0xE0 ++ (0xE9 ∷ 0x01 ∷ [])))).answer.damage) (7 ∷ 8 ∷ 9 ∷ [])
      ≡ 0 ∷ 3 ∷ 0 ∷ []
  pub last_octet : map (λ o. (step_answer small (Walking 0 0 9) (lent 12) (frame 0 0 0 (lent 9 ++ (o ∷ [])))).answer.damage) (0x00 ∷ 0x3F ∷ 0xDF ∷ 0xE4 ∷ 0xFC ∷ 0xFF ∷ []) ≡ 0 ∷ 1 ∷ 1 ∷ 2 ∷ 2 ∷ 0 ∷ []
  -- behind octets held, which another frame damages
  pub held : behind (0xE9 ∷ []) (1 ∷ lent 9) 1 ∷ behind (0xE9 ∷ []) (13 ∷ lent 9) 1 ∷ behind (0x00 ∷ 0x05 ∷ 0xC0 ∷ 0x00 ∷ []) (0 ∷ 6 ∷ lent 8) 4 ∷ behind (0xE9 ∷ []) (5 ∷ lent 9) 1 ∷ [] ≡ 3 ∷ 4 ∷ 4 ∷ 0 ∷ []
  -- entering with a header of eight octets cut behind each of its octets, and one of four and of two: below the header, and over the limit
  pub cut_eight : map (λ h. enters (0xEB ∷ replicate 6 0) h (replicate (7 - h) 0 ++ (7 ∷ lent h))) (1 ∷ 2 ∷ 3 ∷ 4 ∷ 5 ∷ 6 ∷ 7 ∷ []) ≡ replicate 7 3
  pub cut_eight_over : map (λ h. enters (0xEB ∷ replicate 6 0) h (replicate (7 - h) 0 ++ (13 ∷ lent h))) (1 ∷ 2 ∷ 3 ∷ 4 ∷ 5 ∷ 6 ∷ 7 ∷ []) ≡ replicate 7 4
  pub cut_four : enters (0xEA ∷ []) 1 (0 ∷ 0 ∷ 3 ∷ lent 5)
      ∷ enters (0xEA ∷ 0 ∷ []) 2 (0 ∷ 3 ∷ lent 6)
      ∷ enters (0xEA ∷ 0 ∷ 0 ∷ []) 3 (3 ∷ lent 7)
      ∷ enters (0xEA ∷ []) 1 (0 ∷ 0 ∷ 13 ∷ lent 5)
      ∷ enters (0xEA ∷ 0 ∷ []) 2 (1 ∷ 0 ∷ lent 6)
      ∷ enters (0xEA ∷ 0 ∷ 0 ∷ []) 3 (13 ∷ lent 7)
      ∷ []
      ≡ 3 ∷ 3 ∷ 3 ∷ 4 ∷ 4 ∷ 4 ∷ []
  pub cut_space : map (λ h. enters (0x00 ∷ 0x05 ∷ 0xC0 ∷ 0x00 ∷ 0x01 ∷ []) h (replicate 8 1)) (1 ∷ 2 ∷ 3 ∷ 4 ∷ 5 ∷ []) ≡ replicate 5 4
  -- with any other reason none: lost frames before a damaged header, a pointer that differs, nothing held, and a pointer that agrees
  pub other_reasons : (enter_answer small (InStep 0 1) (0xE9 ∷ lent 12) (frame 2 0x07 0xFF (1 ∷ lent 9))).answer.damage
      ∷ (enter_answer small (InStep 0 1) (0xE9 ∷ lent 12) (frame 1 0x00 0x00 (5 ∷ lent 9))).answer.damage
      ∷ (enter_answer small (InStep 0 0) (lent 12) (frame 1 0x07 0xFF (0x20 ∷ lent 9))).answer.damage
      ∷ (enter_answer small (InStep 0 1) (0xE9 ∷ lent 12) (frame 1 0x00 0x04 (5 ∷ lent 9))).answer.damage
      ∷ []
      ≡ replicate 4 0
  -- the least zone and limit: a header of eight octets that the last zone ends
  pub tight : map (λ o. (enter_answer least (InStep 0 7) (0xEB ∷ replicate 6 0) (frame 1 0x07 0xFF (o ∷ []))).answer.damage) (6 ∷ 7 ∷ 8 ∷ 255 ∷ []) ≡ 3 ∷ 3 ∷ 4 ∷ 4 ∷ []
