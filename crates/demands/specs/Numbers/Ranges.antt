-- The two edges of every range, from inside and from outside, for every call that has it.
use Rattle.std.specs.Prelude.{ℕ, ◌≡◌, List, [], ◌∷◌, map, Bool, true, false, replicate}
use Rattle.octets.specs.Basics.{and, first}
use Rattle.packets.specs.Packet.{limit_in_range, well_formed}
use Rattle.packets.specs.Header.{reading}
use Rattle.wrapping.specs.Wrap.{wrapping}
use Rattle.packets.specs.Unwrap.{unwrapping}
use Rattle.frames.specs.Frame.{in_range, heading, head_rows}
use Rattle.frames.specs.BitFrame.{bits_in_range, bit_heading, bit_head_rows}
use Rattle.frames.specs.Editions.{settings_by, bit_settings_by}
use Rattle.frames.specs.declared.Edition.{Edition}
use Rattle.frames.specs.declared.Settings.{Settings}
use Rattle.frames.specs.declared.bits.BitSettings.{BitSettings}
use Rattle.multiplexer.specs.Multiplex.{begun}
use Rattle.multiplexer.specs.Calls.{to_put, to_flush, to_idle, answer}
use Rattle.extractor.specs.Records.{checked}
use Rattle.extractor.specs.Answers.{enter_answer, step_answer}
use Rattle.extractor.specs.declared.Extractor.TheVariants.{Fresh}
use Rattle.judge.specs.Calls.{frame_call, close_call}
use Rattle.judge.specs.declared.Judge.TheVariants.{Open}
use Rattle.bitstream.specs.Bitstream.{written}
use Rattle.bitstream.specs.Bitstream as bits
use Rattle.bitstream.specs.declared.Reader.TheVariants as reader
use Rattle.demands.specs.Numbers.Samples.{set, set_bits, trailing, bit_trailing, small, two_octets, lent}

-- Z 1 to 2,046; M from the greater of 7 and Z to 65,542; spacecraft 0 to 255; channel 0 to 62
abbrev pub inside : List Settings
inside = set 0 0 1 7 ∷ set 255 62 2046 2046 ∷ set 0 0 2046 65542 ∷ []

abbrev pub outside : List Settings
outside =
    set 256 0 1 7 ∷ set 0 63 1 7 ∷ set 0 0 0 7 ∷ set 0 0 1 6 ∷ set 0 0 2046 2045 ∷ set 0 0 2047 65542 ∷ set 0 0 2046 65543 ∷ []

-- what each call is refused for where it is lent no octet: 1 where the settings are out of range, else 2
abbrev pub calls : Settings → List ℕ
calls s =
    (answer s begun (to_put []) []).refusal
    ∷ (answer s begun to_flush []).refusal
    ∷ (answer s begun to_idle []).refusal
    ∷ (enter_answer s Fresh [] []).answer.refusal
    ∷ (step_answer s Fresh [] []).answer.refusal
    ∷ first (checked s Fresh [] [])
    ∷ (frame_call s [] Open []).refusal
    ∷ (close_call s [] Open).refusal
    ∷ first (head_rows s 0 0 [])
    ∷ []

-- W 1 to 2,047; the two readers are lent nothing to write, and find the frame too short: 3
abbrev pub bit_calls : BitSettings → List ℕ
bit_calls s =
    (written s (record { count = 0 }) [] 0 []).said.refusal
    ∷ first (bit_head_rows s 0 0 [])
    ∷ (bits.reading s reader.Fresh []).refusal
    ∷ (bit_heading s []).refusal
    ∷ []

-- M alone: the header reader, wrapping and unwrapping; these refuse nothing at all by 8
abbrev pub limit_calls : ℕ → List ℕ
limit_calls limit = (reading limit []).refusal ∷ (wrapping limit 1 0 [] []).refusal ∷ (unwrapping limit []).refusal ∷ []

pub record Edges : Type 0 where
  pub settings_in : map calls inside ≡ replicate 3 (replicate 9 2)
  pub settings_out : map calls outside ≡ replicate 7 (replicate 9 1)
  -- a frame's header that is read is lent nothing to write either
  pub heads_in : map (λ s. (heading s []).refusal) inside ≡ replicate 3 3
  pub heads_out : map (λ s. (heading s []).refusal) outside ≡ replicate 7 1
  pub tests : map in_range inside ≡ replicate 3 true
  pub tests_out : map in_range outside ≡ replicate 7 false
  pub bits_in : map bit_calls (set_bits 0 0 1 ∷ set_bits 255 62 2047 ∷ []) ≡ replicate 2 (2 ∷ 2 ∷ 3 ∷ 3 ∷ [])
  pub bits_out : map bit_calls (set_bits 0 0 0 ∷ set_bits 0 0 2048 ∷ set_bits 256 0 1 ∷ set_bits 0 63 1 ∷ []) ≡ replicate 4 (1 ∷ 1 ∷ 1 ∷ 1 ∷ [])
  pub bit_tests : map bits_in_range (set_bits 0 0 1 ∷ set_bits 0 0 2047 ∷ set_bits 0 0 0 ∷ set_bits 0 0 2048 ∷ []) ≡ true ∷ true ∷ false ∷ false ∷ []
  -- the trailer's setting and the edition have no part in it
  pub trailers : (s : Settings) (on : Bool) → in_range (trailing on s) ≡ in_range s
  pub bit_trailers : (s : BitSettings) (on : Bool) → bits_in_range (bit_trailing on s) ≡ bits_in_range s
  pub editions : (s : Settings) (e : Edition) → in_range (settings_by e s) ≡ in_range s
  pub bit_editions : (s : BitSettings) (e : Edition) → bits_in_range (bit_settings_by e s) ≡ bits_in_range s
  pub limits : map limit_calls (7 ∷ 65542 ∷ 6 ∷ 65543 ∷ []) ≡ (0 ∷ 8 ∷ 8 ∷ []) ∷ (0 ∷ 8 ∷ 8 ∷ []) ∷ (1 ∷ 1 ∷ 1 ∷ []) ∷ (1 ∷ 1 ∷ 1 ∷ []) ∷ []
  pub formed : map (λ limit. and (limit_in_range limit) (well_formed limit (0xE0 ∷ []))) (7 ∷ 65542 ∷ 6 ∷ 65543 ∷ []) ≡ true ∷ true ∷ false ∷ false ∷ []
  -- protocol 1 to 7; extension to 15 with protocol 6, and else 0; again nothing at all is refused by 8
  pub protocols : map (λ protocol. (wrapping 12 protocol 0 [] []).refusal) (0 ∷ 1 ∷ 7 ∷ 8 ∷ []) ≡ 1 ∷ 8 ∷ 8 ∷ 1 ∷ []
  pub extensions : map (λ extension. (wrapping 12 6 extension [] []).refusal) (0 ∷ 15 ∷ 16 ∷ []) ≡ 8 ∷ 8 ∷ 1 ∷ []
  pub extended : map (λ protocol. (wrapping 12 protocol 1 [] []).refusal) (1 ∷ 2 ∷ 3 ∷ 4 ∷ 5 ∷ 6 ∷ 7 ∷ []) ≡ 1 ∷ 1 ∷ 1 ∷ 1 ∷ 1 ∷ 8 ∷ 1 ∷ []
  -- no more than 8W bits
  pub most_bits : map (λ n. (written two_octets (record { count = 0 }) (lent 3) n (lent 10)).said.refusal) (16 ∷ 17 ∷ []) ≡ 0 ∷ 1 ∷ []
  -- a count of 24 bits to be written
  pub counts : map (λ c. first (head_rows (set 0 0 1 7) c 0 (lent 8))) (16777215 ∷ 16777216 ∷ []) ≡ 0 ∷ 1 ∷ []
  pub bit_counts : map (λ c. first (bit_head_rows two_octets c 0 (lent 8))) (16777215 ∷ 16777216 ∷ []) ≡ 0 ∷ 1 ∷ []
  -- a pointer to be written is one that reading takes
  pub pointers : map (λ p. first (head_rows small 0 p (lent 8))) (9 ∷ 10 ∷ 2045 ∷ 2046 ∷ 2047 ∷ 2048 ∷ []) ≡ 0 ∷ 1 ∷ 1 ∷ 0 ∷ 0 ∷ 1 ∷ []
  pub bit_pointers : map (λ p. first (bit_head_rows two_octets 0 p (lent 8))) (14 ∷ 15 ∷ 16381 ∷ 16382 ∷ 16383 ∷ 16384 ∷ []) ≡ 0 ∷ 1 ∷ 1 ∷ 0 ∷ 0 ∷ 1 ∷ []
