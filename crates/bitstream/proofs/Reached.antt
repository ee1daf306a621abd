-- The records that pass the checks of refusal 10 are exactly those that calls reach.
-- Assumes nothing.
use mathlib.Core.Path.{◌≡◌, refl, sym, ap, ◌∙◌, subst}
use mathlib.Core.List.{List, [], ◌++◌}
use mathlib.Core.Bool.{Bool, true, false}
use Prim.Native.Nat.{ℕ, zero, suc, ◌+◌, ◌^◌, ◌<◌}
use native.Mathlib.Nat.{mod-lt, mod-eq_of_lt}
use native.Mathlib.Omega.{arith}
use lib.ListN.{length, replicate, length-append, length-replicate}
use lib.Dec.{eqb}
use lib.Seq.{take_at}
use lib.Pow.{pow_pos}
use borrow.Author.Tests.{le-leb, lt-ltb, le-ltb, ltb-true, ne_eqb}
use Rattle.octets.specs.Basics.{AllOctets, octets, first}
use Rattle.octets.proofs.Fronts.{all_append, all_zeros, all_octets}
use Rattle.trailer.specs.Trailer.{sent}
use Rattle.trailer.proofs.Setting.{length-sent, sent_octets, sent_front, sent_right}
use Rattle.frames.specs.Link.{count_width, next_count, primary, head_word, headers}
use Rattle.frames.specs.BitFrame.{bits_in_range, bit_frame_length, bit_count, most_bits, fill_only, bit_head, bit_pointer_word}
use Rattle.frames.specs.declared.bits.BitSettings.{BitSettings}
use Rattle.frames.proofs.Wheel.{count_lt, count_wide, starts_on_wheel, follows_another}
use Rattle.frames.proofs.bits.Settled.{bits_settled}
use Rattle.frames.proofs.bits.Heads.{length-bit_head, bit_head_back, bit_frame_taken}
use Rattle.bitstream.specs.Bitstream.{octets_for, writer_reachable, write_rows, pointer_for, valid_bits, Wrote, written, reader_reachable, read_rows, untold, next_reader, reading}
use Rattle.bitstream.specs.Statements.{WriterReached, nothing_written, wrote_more, ReaderReached, nothing_read, read_more, ReachesAll}
use Rattle.bitstream.specs.declared.Writer.{Writer}
use Rattle.bitstream.specs.declared.Reader.{Reader}
use Rattle.bitstream.specs.declared.Reader.TheVariants.{Fresh, Last}
use Rattle.bitstream.proofs.Writes.{write_done}
use Rattle.bitstream.proofs.Pointers.{pointer_used}

-- ---- what a call hands back passes its own check

pub writer_kept : (s : BitSettings) (w : Writer) (bits : List ℕ) (n : ℕ) (d : List ℕ) → writer_reachable s w ≡ true
    → writer_reachable s (written s w bits n d).said.writer ≡ true
unfolding written writer_reachable next_count
writer_kept s w bits n d h = go (eqb (first (write_rows s w n (length bits) (length d))) 0) refl
  where
    go : (t : Bool) → eqb (first (write_rows s w n (length bits) (length d))) 0 ≡ t → writer_reachable s (written s w bits n d).said.writer ≡ true
    go true e = rw e (lt-ltb (next_count (count_width s.link) w.count) (2 ^ count_width s.link) (mod-lt (w.count + 1) (pow_pos (count_width s.link))))
    go false e = rw e h

pub reader_kept : (s : BitSettings) (x : Reader) (f : List ℕ) → reader_reachable s x ≡ true → reader_reachable s (reading s x f).reader ≡ true
unfolding reading reader_reachable next_reader
reader_kept s x f h = go (eqb (first (read_rows s x f)) 0) refl
  where
    go : (t : Bool) → eqb (first (read_rows s x f)) 0 ≡ t → reader_reachable s (reading s x f).reader ≡ true
    go true e = rw e (lt-ltb (bit_count s f) (2 ^ count_width s.link) (count_lt s.link (primary s.link f)))
    go false e = rw e h

pub writer_passes : (s : BitSettings) (w : Writer) → WriterReached s w → writer_reachable s w ≡ true
unfolding writer_reachable
writer_passes s w nothing_written = starts_on_wheel s.link
writer_passes s w (wrote_more {w = v} bits n d _ _ r) = writer_kept s v bits n d (writer_passes s v r)

pub reader_passes : (s : BitSettings) (x : Reader) → ReaderReached s x → reader_reachable s x ≡ true
unfolding reader_reachable
reader_passes s x nothing_read = refl
reader_passes s x (read_more {x = y} f _ r) = reader_kept s y f (reader_passes s y r)

-- ---- what passes is reached, where the settings are in range: a writer by so many calls with no bits, a reader by two frames at most

module _ (s : BitSettings) (range : bits_in_range s ≡ true) where
  -- a call with no bits
  abbrev frame : List ℕ
  frame = replicate (bit_frame_length s) 0

  abbrev counted : ℕ → Writer
  counted c = record { count = c }

  none : (c : ℕ) → c < 2 ^ count_width s.link → first (write_rows s (counted c) 0 0 (length frame)) ≡ 0
  unfolding first write_rows octets_for writer_reachable
  none c h = rw (range, le-leb 0 (most_bits s) (omega arith), length-replicate {A = ℕ} (bit_frame_length s) 0, le-ltb (bit_frame_length s) (bit_frame_length s) (omega arith), lt-ltb c (2 ^ count_width s.link) h) refl

  writes : (c : ℕ) → suc c < 2 ^ count_width s.link → WriterReached s (counted c) → WriterReached s (counted (suc c))
  unfolding next_count
  writes c h r =
      let n : first (write_rows s (counted c) 0 0 (length frame)) ≡ 0 = none c (omega arith) in
      let small : c + 1 < 2 ^ count_width s.link = omega arith in
      let next : suc c ≡ next_count (count_width s.link) c = omega (arith, mod-eq_of_lt small) in
      subst (WriterReached s) (sym (ap (λ (a : Wrote). a.said.writer) (write_done s (counted c) 0 [] frame (suc c) _ n next refl)))
      (wrote_more [] 0 frame tt (all_zeros (bit_frame_length s)) r)

  counts : (c : ℕ) → c < 2 ^ count_width s.link → WriterReached s (counted c)
  counts zero h = nothing_written
  counts (suc c) h = writes c h (counts c (omega arith))

  pub writer_reached : (w : Writer) → writer_reachable s w ≡ true → WriterReached s w
  unfolding writer_reachable
  writer_reached w h = counts w.count (ltb-true _ _ h)

  -- a frame of fill alone
  abbrev blank : List ℕ
  blank = replicate s.width 0

  abbrev unsent : ℕ → List ℕ
  unsent c = bit_head s c fill_only ++ blank

  abbrev idle : ℕ → List ℕ
  idle c = sent s.link.trailed (unsent c)

  all_idle : (c : ℕ) → AllOctets (idle c)
  unfolding bit_head headers
  all_idle c =
      sent_octets s.link.trailed (unsent c)
      (all_append (bit_head s c fill_only) blank
      (all_append (octets 6 (head_word s.link c 0)) (octets 2 (bit_pointer_word fill_only)) (all_octets 6 _) (all_octets 2 _)) (all_zeros s.width))

  reads : (x : Reader) (c : ℕ) → reader_reachable s x ≡ true → c < 2 ^ count_width s.link → (reading s x (idle c)).reader ≡ next_reader s x c 0
  unfolding reading read_rows first bit_frame_length pointer_for valid_bits
  reads x c passes h =
      let eight : length (bit_head s c fill_only) ≡ 8 = length-bit_head s c fill_only in
      let before : length (unsent c) ≡ 8 + s.width = rw (length-append, length-replicate) (omega arith) in
      let long : length (idle c) ≡ bit_frame_length s = omega (arith, length-sent s.link.trailed (unsent c)) in
      let headed = sent_front s.link.trailed (unsent c) 8 (omega arith) ∙ take_at (bit_head s c fill_only) blank 8 eight in
      let back = bit_head_back s c fill_only (idle c) range h (omega arith) headed in
      let taken = bit_frame_taken s back long (sent_right s.link.trailed (unsent c)) (pointer_used s (bits_settled s range) 0 (omega arith)) in
      rw (range, passes, taken, back.count_back, back.pointer_back) refl

  -- it leaves its count, and no loss where it is the first; the same frame again does not follow, and its loss waits
  once : (c : ℕ) → c < 2 ^ count_width s.link → ReaderReached s (Last c false)
  unfolding reader_reachable next_reader untold
  once c h = subst (ReaderReached s) (reads Fresh c refl h) (read_more (idle c) (all_idle c) nothing_read)

  twice : (c : ℕ) → c < 2 ^ count_width s.link → ReaderReached s (Last c true)
  unfolding reader_reachable next_reader untold
  twice c h =
      let other : eqb c (next_count (count_width s.link) c) ≡ false = ne_eqb _ _ (λ e. follows_another _ c (count_wide s.link) h (sym e)) in
      rw other at (subst (ReaderReached s) (reads (Last c false) c (lt-ltb _ _ h) h) (read_more (idle c) (all_idle c) (once c h)))

  pub reader_reached : (x : Reader) → reader_reachable s x ≡ true → ReaderReached s x
  unfolding reader_reachable
  reader_reached Fresh h = nothing_read
  reader_reached (Last c false) h = once c (ltb-true _ _ h)
  reader_reached (Last c true) h = twice c (ltb-true _ _ h)

-- CALLS LEAD EXACTLY TO THE RECORDS THAT PASS
pub reaches_all : ReachesAll
reaches_all = record {
  writers = λ s range w. (writer_passes s w, writer_reached s range w);
  readers = λ s range x. (reader_passes s x, reader_reached s range x);
}
