-- The promises of `bitstream`.
-- Assumes nothing.
use Prim.Native.Nat.{ℕ}
use mathlib.Core.Path.{◌≡◌, refl, sym, ap, ◌∙◌}
use mathlib.Core.List.{List}
use lib.ListN.{length}
use Rattle.std.specs.Prelude.{Result}
use Rattle.octets.specs.declared.refusals.Refusal.{Refusal}
use Rattle.bitstream.specs.Bitstream.{write_rows, no_writing, writes, Wrote, wrote, written, read_rows, no_reading, reads, reading}
use Rattle.bitstream.specs.declared.Writer.{Writer}
use Rattle.bitstream.proofs.Determined.{writes_determined, reads_determined}
use Rattle.bitstream.proofs.Reached.{writer_kept, reader_kept, reaches_all}
use Rattle.demands.specs.Promises.{Left}
use Rattle.demands.specs.calls.Bitstream.{OfBitstream}
use Rattle.demands.proofs.Promised.{promised, left_same, exactly}

pub of_bitstream : OfBitstream
unfolding written reading
of_bitstream = record {
  begin = exactly;
  write = λ κs s w bits-lent n frame-lent.
      let bits : List ℕ = bits-lent.now in
      let frame : List ℕ = frame-lent.now in
      promised (λ (o : Left (Result Writer Refusal)). wrote (writes w o.answer) o.lent) (λ a. a.said.refusal)
      (write_rows s w n (length bits) (length frame)) _ (λ r. wrote (no_writing r w) frame) refl refl (λ r. refl)
      (record {
        free = tt;
        gives = λ o m. m;
        one = λ o o' p q.
            let same : wrote (writes w o.answer) o.lent ≡ wrote (writes w o'.answer) o'.lent = p ∙ sym q in
            left_same o o' (writes_determined w (ap (λ (a : Wrote). a.said) same) refl) (ap (λ (a : Wrote). a.frame) same);
      });
  read = λ κs s x f-lent.
      let f : List ℕ = f-lent.now in
      promised (reads x) (λ a. a.refusal) (read_rows s x f) _ (λ n. no_reading n x) refl refl (λ n. refl)
      (record { free = tt; gives = λ r m. m; one = λ r r' p q. reads_determined x p q });
  leading_octets = λ κs s n f part. exactly;
  keeps_writer = writer_kept;
  keeps_reader = reader_kept;
  exact = reaches_all;
}
