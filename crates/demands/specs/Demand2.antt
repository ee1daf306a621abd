-- Demand 2: what is written means what documents 01 and 02 say when it is read, the list, and the events.
use Rattle.std.specs.Prelude.{ℕ, ◌+◌, ◌%◌, ◌^◌, ◌≤◌, ◌<◌, ◌≡◌, List, true, length, take}
use Rattle.octets.specs.Basics.{AllOctets, first}
use Rattle.words.specs.Fields.{field, placed}
use Rattle.wrapping.specs.Wrap.{wrapped_total, wrap_rows}
use Rattle.wrapping.specs.Wrap as wrapping
use Rattle.space.specs.Space.{space_read_rows, space_rows, space_reading, space_writing}
use Rattle.space.specs.declared.SpaceHeader.{SpaceHeader}
use Rattle.trailer.specs.Printed.{AsPrinted, Syndrome}
use Rattle.trailer.specs.WrongBits.{Sharp}
use Rattle.frames.specs.Statements.{HeadersRead}
use Rattle.frames.specs.Editions.{Editions}
use Rattle.frames.specs.Worth.{Worth}
use Rattle.frames.specs.BitFrame.{bit_frame_length}
use Rattle.frames.specs.declared.bits.BitSettings.{BitSettings}
use Rattle.bitstream.specs.Bitstream.{written, reader_reachable, reading}
use Rattle.bitstream.specs.Statements.{ReadBack, HasBits, LossesWait}
use Rattle.bitstream.specs.declared.Writer.{Writer}
use Rattle.bitstream.specs.declared.Reader.{Reader}
use Rattle.extractor.specs.Statements.{SaysTheRules, SpendsInTime}
use Rattle.runfile.specs.Statements.{ReadsRunFiles}
use Rattle.carries.specs.Demand2List.{OrdersCarried, ListCarried}
use Rattle.demands.specs.RoundTrip.{OrdersHandedOver, ListHandedOver}
use Rattle.demands.specs.SpaceAndPackets.{SameHeader}
use Rattle.demands.specs.Damage.{Damages}
use Rattle.demands.specs.Counts.{CountsTold}

-- fields, once for any place and width of a word: what is put in is read back there, and every field below or above it stays
pub record Fields : Type 0 where
  pub read : (word place width value : ℕ) → word < 2 ^ 64 → place + width ≤ 64
      → field (placed word place width value) place width ≡ value % 2 ^ width
  pub below : (word place width value : ℕ) → word < 2 ^ 64 → place + width ≤ 64 → (other size : ℕ) → other + size ≤ place
      → field (placed word place width value) other size ≡ field word other size
  pub above : (word place width value : ℕ) → word < 2 ^ 64 → place + width ≤ 64 → (other size : ℕ) → place + width ≤ other
      → field (placed word place width value) other size ≡ field word other size

-- a data unit that is wrapped, and a space packet's header that is written, are read back; that header the other way round; it says the same to
-- the one header reader; and what is wrong with a header is told by each answer that carries it
pub record Packets : Type 0 where
  pub wrapped : (limit protocol extension : ℕ) (unit output : List ℕ)
      → first (wrap_rows limit protocol extension (length unit) (wrapped_total protocol (length unit)) (length output)) ≡ 0
      → wrapping.RoundTrip limit protocol extension unit output
  pub space : (h : SpaceHeader) (output : List ℕ) → first (space_rows h (length output)) ≡ 0
      → space_reading (space_writing h output).output ≡ record { accepted = true; refusal = 0; header = h }
  pub space_again : (os : List ℕ) → AllOctets os → first (space_read_rows os) ≡ 0
      → space_writing (space_reading os).header os ≡ record { refusal = 0; output = os }
  pub space_same : SameHeader
  pub damages : Damages

-- the trailer is the remainder that source 004 prints, and right where its syndrome is zero; a frame with wrong bits of some kinds is refused by
-- it, and of a burst one bit longer and of one wrong bit more not each is
pub record Trailers : Type 0 where
  pub as_printed : AsPrinted
  pub syndrome : Syndrome
  pub worth : Worth
  pub sharp : Sharp

-- bits that are written are read back, a frame that is read has its bits where the promise says, and the loss flag waits for bits
pub record Bits : Type 0 where
  pub written_read : (s : BitSettings) (w : Writer) (bits : List ℕ) (n : ℕ) (buffer : List ℕ) → (written s w bits n buffer).said.refusal ≡ 0
      → AllOctets bits → (x : Reader) → reader_reachable s x ≡ true
      → ReadBack s x w.count n bits (take (bit_frame_length s) (written s w bits n buffer).frame)
  pub read_has : (s : BitSettings) (x : Reader) (f : List ℕ) → AllOctets f → (reading s x f).refusal ≡ 0 → HasBits s (reading s x f).bits f
  pub losses : LossesWait

-- and with these the list, carried and handed over, every event of the extractor, how soon a frame is spent, and run files
pub record Demand2 : Type 0 where
  pub fields : Fields
  pub headers_read : HeadersRead
  pub editions : Editions
  pub counts : CountsTold
  pub trailers : Trailers
  pub packets_read : Packets
  pub bits_read : Bits
  pub orders : OrdersCarried
  pub orders_back : OrdersHandedOver
  pub list : ListCarried
  pub list_back : ListHandedOver
  pub events : SaysTheRules
  pub in_time : SpendsInTime
  pub run_files : ReadsRunFiles
