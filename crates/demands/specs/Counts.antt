-- What the calls say of a frame's count, at every edition: the one that its header has, and how many frames are missing before it round the channel's wheel.
use Rattle.std.specs.Prelude.{ℕ, ◌≡◌, ◌↔◌, List, [], ◌∷◌}
use Rattle.std.proofs.Math.Option.{some}
use Rattle.frames.specs.Link.{count_width, next_count, missing}
use Rattle.frames.specs.Frame.{count, heading}
use Rattle.frames.specs.BitFrame.{bit_heading}
use Rattle.frames.specs.declared.Settings.{Settings}
use Rattle.frames.specs.declared.bits.BitSettings.{BitSettings}
use Rattle.extractor.specs.Records.{last_count}
use Rattle.extractor.specs.Answers.{enter_answer}
use Rattle.extractor.specs.declared.Extractor.{Extractor}
use Rattle.extractor.specs.declared.Extractor.TheVariants.{Fresh}
use Rattle.bitstream.specs.Bitstream.{written, reading}
use Rattle.bitstream.specs.declared.Writer.{Writer}
use Rattle.bitstream.specs.declared.Reader.{Reader}
use Rattle.carries.specs.Carries.{Rising}

-- entering a frame that is not refused: its count and replay flag; none missing before a first frame, and else as many as the wheel says; the count goes on as the
-- last one
pub record Entered (s : Settings) (x : Extractor) (store f : List ℕ) : Type 0 where
  pub count : (enter_answer s x store f).answer.count ≡ (heading s f).count
  pub replay : (enter_answer s x store f).answer.replay ≡ (heading s f).replay
  pub first : x ≡ Fresh → (enter_answer s x store f).answer.lost ≡ 0
  pub lost : (last : ℕ) → last_count x ≡ some last → (enter_answer s x store f).answer.lost ≡ missing (count_width s.link) last (heading s f).count
  pub goes_on : last_count (enter_answer s x store f).next ≡ some (heading s f).count

-- the same of a frame of bits, whose losses `LossesWait` tells
pub record BitsRead (s : BitSettings) (x : Reader) (f : List ℕ) : Type 0 where
  pub count : (reading s x f).count ≡ (bit_heading s f).count
  pub replay : (reading s x f).replay ≡ (bit_heading s f).replay

-- and of one that is written: the next count is the one after it
pub record BitsWritten (s : BitSettings) (w : Writer) (bits : List ℕ) (n : ℕ) (buffer : List ℕ) : Type 0 where
  pub goes_on : (written s w bits n buffer).said.writer.count ≡ next_count (count_width s.link) w.count

-- the counts of a run that Demand 3 asks for: each frame's is the one after that of the frame before it
pub record Rises : Type 0 where
  pub none : (s : Settings) → Rising s []
  pub one : (s : Settings) (f : List ℕ) → Rising s (f ∷ [])
  pub more : (s : Settings) (f g : List ℕ) (fs : List (List ℕ))
      → Rising s (f ∷ g ∷ fs) ↔ ((count s g ≡ next_count (count_width s.link) (count s f)) × Rising s (g ∷ fs))

pub record CountsTold : Type 0 where
  pub entered : (s : Settings) (x : Extractor) (store f : List ℕ) → (enter_answer s x store f).answer.refusal ≡ 0 → Entered s x store f
  pub bits_written : (s : BitSettings) (w : Writer) (bits : List ℕ) (n : ℕ) (buffer : List ℕ) → (written s w bits n buffer).said.refusal ≡ 0
      → BitsWritten s w bits n buffer
  pub rises : Rises
  pub bits_read : (s : BitSettings) (x : Reader) (f : List ℕ) → (reading s x f).refusal ≡ 0 → BitsRead s x f
