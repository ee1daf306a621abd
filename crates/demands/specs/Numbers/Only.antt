-- Whatever a call is given, it answers one of its numbers, or 0.
use Rattle.std.specs.Prelude.{ℕ, List, [], ◌∷◌}
use Rattle.octets.specs.Basics.{first}
use Rattle.packets.specs.Header.{reading}
use Rattle.wrapping.specs.Idle.{idle_packet_rows}
use Rattle.wrapping.specs.Wrap.{wrapping}
use Rattle.packets.specs.Unwrap.{unwrapping}
use Rattle.space.specs.Space.{space_reading, space_writing}
use Rattle.space.specs.declared.SpaceHeader.{SpaceHeader}
use Rattle.relay.specs.Table.{loading}
use Rattle.relay.specs.Route.{routing}
use Rattle.relay.specs.declared.Entry.{Entry}
use Rattle.relay.specs.declared.Table.{Table}
use Rattle.frames.specs.Frame.{heading, head_rows}
use Rattle.frames.specs.BitFrame.{bit_heading, bit_head_rows}
use Rattle.frames.specs.declared.Settings.{Settings}
use Rattle.frames.specs.declared.bits.BitSettings.{BitSettings}
use Rattle.multiplexer.specs.Calls.{to_put, to_flush, to_idle, answer}
use Rattle.multiplexer.specs.declared.Mux.{Mux}
use Rattle.extractor.specs.Records.{checked}
use Rattle.extractor.specs.Answers.{enter_answer, step_answer}
use Rattle.extractor.specs.Calls.{spend_answer}
use Rattle.extractor.specs.declared.Extractor.{Extractor}
use Rattle.judge.specs.Calls.{frame_call, close_call}
use Rattle.judge.specs.Tapes.{tape_call}
use Rattle.judge.specs.declared.Judge.{Judge}
use Rattle.bitstream.specs.Bitstream.{written}
use Rattle.bitstream.specs.Bitstream as bits
use Rattle.bitstream.specs.declared.Writer.{Writer}
use Rattle.bitstream.specs.declared.Reader.{Reader}
use Rattle.carries.specs.Carries.{Among}

pub record OnlyThese : Type 0 where
  pub put : (s : Settings) (m : Mux) (p frame : List ℕ) → Among (answer s m (to_put p) frame).refusal (0 ∷ 1 ∷ 2 ∷ 10 ∷ 9 ∷ 8 ∷ [])
  pub flush : (s : Settings) (m : Mux) (frame : List ℕ) → Among (answer s m to_flush frame).refusal (0 ∷ 1 ∷ 2 ∷ 10 ∷ 9 ∷ [])
  pub idle : (s : Settings) (m : Mux) (frame : List ℕ) → Among (answer s m to_idle frame).refusal (0 ∷ 1 ∷ 2 ∷ 10 ∷ 9 ∷ [])
  pub enter : (s : Settings) (x : Extractor) (store f : List ℕ)
      → Among (enter_answer s x store f).answer.refusal (0 ∷ 1 ∷ 2 ∷ 10 ∷ 9 ∷ 3 ∷ 13 ∷ 4 ∷ 5 ∷ 6 ∷ 7 ∷ [])
  pub step : (s : Settings) (x : Extractor) (store f : List ℕ) → Among (step_answer s x store f).answer.refusal (0 ∷ 1 ∷ 2 ∷ 10 ∷ 9 ∷ 3 ∷ [])
  pub spend : (s : Settings) (x : Extractor) (store f : List ℕ) → Among (spend_answer s x store f).refusal (0 ∷ 1 ∷ 2 ∷ 10 ∷ 9 ∷ 3 ∷ [])
  pub held : (s : Settings) (x : Extractor) (store : List ℕ) → Among (first (checked s x store [])) (0 ∷ 1 ∷ 2 ∷ 10 ∷ [])
  pub judge : (s : Settings) (store : List ℕ) (j : Judge) (f : List ℕ) → Among (frame_call s store j f).refusal (0 ∷ 1 ∷ 2 ∷ 10 ∷ 11 ∷ [])
  pub tape : (s : Settings) (store : List ℕ) (j : Judge) (t : List ℕ) → Among (tape_call s store j t).refusal (0 ∷ 1 ∷ 2 ∷ 10 ∷ 11 ∷ 3 ∷ [])
  pub close : (s : Settings) (store : List ℕ) (j : Judge) → Among (close_call s store j).refusal (0 ∷ 1 ∷ 2 ∷ 10 ∷ [])
  pub wrap : (limit protocol extension : ℕ) (unit output : List ℕ)
      → Among (wrapping limit protocol extension unit output).refusal (0 ∷ 1 ∷ 8 ∷ 2 ∷ [])
  pub unwrap : (limit : ℕ) (p : List ℕ) → Among (unwrapping limit p).refusal (0 ∷ 1 ∷ 8 ∷ 6 ∷ [])
  pub load : (old : Table) (count : ℕ) (lent : List Entry) → Among (loading old count lent).refusal (0 ∷ 12 ∷ [])
  pub route : (limit : ℕ) (t : Table) (p output : List ℕ) → Among (routing limit t p output).refusal (0 ∷ 1 ∷ 10 ∷ 8 ∷ 2 ∷ [])
  pub header : (limit : ℕ) (os : List ℕ) → Among (reading limit os).refusal (0 ∷ 1 ∷ [])
  pub write_idle : (r room : ℕ) → Among (first (idle_packet_rows r room)) (0 ∷ 1 ∷ 2 ∷ [])
  pub read_space : (os : List ℕ) → Among (space_reading os).refusal (0 ∷ 8 ∷ [])
  pub write_space : (h : SpaceHeader) (output : List ℕ) → Among (space_writing h output).refusal (0 ∷ 1 ∷ 2 ∷ [])
  pub write_bits : (s : BitSettings) (w : Writer) (bits : List ℕ) (n : ℕ) (frame : List ℕ)
      → Among (written s w bits n frame).said.refusal (0 ∷ 1 ∷ 2 ∷ 10 ∷ [])
  pub read_bits : (s : BitSettings) (x : Reader) (f : List ℕ) → Among (bits.reading s x f).refusal (0 ∷ 1 ∷ 10 ∷ 3 ∷ 13 ∷ 4 ∷ 5 ∷ 6 ∷ 7 ∷ [])
  pub read_head : (s : Settings) (f : List ℕ) → Among (heading s f).refusal (0 ∷ 1 ∷ 3 ∷ 13 ∷ 4 ∷ 5 ∷ 6 ∷ 7 ∷ [])
  pub read_bit_head : (s : BitSettings) (f : List ℕ) → Among (bit_heading s f).refusal (0 ∷ 1 ∷ 3 ∷ 13 ∷ 4 ∷ 5 ∷ 6 ∷ 7 ∷ [])
  pub write_head : (s : Settings) (c p : ℕ) (buffer : List ℕ) → Among (first (head_rows s c p buffer)) (0 ∷ 1 ∷ 2 ∷ [])
  pub write_bit_head : (s : BitSettings) (c p : ℕ) (buffer : List ℕ) → Among (first (bit_head_rows s c p buffer)) (0 ∷ 1 ∷ 2 ∷ [])
