-- What the public functions of `bitstream` promise.
use Rattle.std.specs.Prelude.{ℕ, ◌≡◌, List, true, Result, length}
use contract.Lifetimes.{Lfts}
use denote.Ref.{at_last}
use Rattle.octets.specs.declared.refusals.Refusal.{Refusal}
use Rattle.frames.specs.declared.bits.BitSettings.{BitSettings}
use Rattle.bitstream.specs.Bitstream.{begun, writer_reachable, write_rows, no_writing, writes, wrote, written, reader_reachable, read_rows, no_reading, reads, reading, leading_octets}
use Rattle.bitstream.specs.Statements.{ReachesAll}
use Rattle.bitstream.specs.declared.Writer.{Writer}
use Rattle.bitstream.specs.declared.Reader.{Reader}
use Rattle.bitstream.specs.declared.Reading.{Reading}
use Rattle.bitstream.proofs.begin.Reads as begin_fn
use Rattle.bitstream.proofs.write.Reads as write_fn
use Rattle.bitstream.proofs.read.Reads as read_fn
use Rattle.bitstream.proofs.leading_octets.Reads as leading_octets_fn
use Rattle.demands.specs.Promises.{Slice, MutSlice, lying, Left, as_read, Is, Promised}

-- the first record, writing and reading bits, and the octets that hold them; the records that are handed back pass the check for refusal 10, and it is exact
pub record OfBitstream : Type 0 where
  pub begin : Is (as_read (begin_fn.Pre tt tt) (λ r. begin_fn.Post tt tt r tt)) begun
  pub write : (κs : Lfts 2) (s : BitSettings) (w : Writer) (bits : Slice) (n : ℕ) (frame : MutSlice)
      → Promised (as_read (write_fn.Pre κs (s, (w, (bits, (n, (frame, tt))))))
      (λ (o : Left (Result Writer Refusal)). write_fn.Post κs (s, (w, (bits, (n, (frame, tt))))) o.answer (s, (w, (bits, (n, (at_last frame o.lent, tt)))))))
      (written s w bits.now n frame.now) (write_rows s w n (length bits.now) (length frame.now))
      (λ o. wrote (writes w o.answer) o.lent) (λ a. a.said.refusal) (λ r. wrote (no_writing r w) frame.now)
  pub read : (κs : Lfts 1) (s : BitSettings) (x : Reader) (f : Slice)
      → Promised (as_read (read_fn.Pre κs (s, (x, (f, tt)))) (λ (r : Result Reading Refusal). read_fn.Post κs (s, (x, (f, tt))) r (s, (x, (f, tt)))))
      (reading s x f.now) (read_rows s x f.now)
      (reads x) (λ a. a.refusal) (λ n. no_reading n x)
  -- a part that is handed back lies somewhere: an outcome is its octets
  pub leading_octets : (κs : Lfts 1) (s : BitSettings) (n : ℕ) (f part : Slice)
      → Is (as_read (leading_octets_fn.Pre κs (s, (n, (f, tt)))) (λ r. leading_octets_fn.Post κs (s, (n, (f, tt))) (lying part r) (s, (n, (f, tt)))))
      (leading_octets s n f.now)
  pub keeps_writer : (s : BitSettings) (w : Writer) (bits : List ℕ) (n : ℕ) (frame : List ℕ) → writer_reachable s w ≡ true
      → writer_reachable s (written s w bits n frame).said.writer ≡ true
  pub keeps_reader : (s : BitSettings) (x : Reader) (f : List ℕ) → reader_reachable s x ≡ true
      → reader_reachable s (reading s x f).reader ≡ true
  pub exact : ReachesAll
