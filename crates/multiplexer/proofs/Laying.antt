-- Octets laid into a zone and counted: what the record and the frame are then.
-- Assumes nothing.
use mathlib.Core.Path.{◌≡◌, refl, ap, ◌∙◌}
use mathlib.Core.List.{List}
use mathlib.Core.Bool.{true, false}
use Prim.Native.Nat.{ℕ, ◌+◌, ◌^◌, ◌≤◌, ◌<◌}
use native.Mathlib.Nat.{add-sub_cancel_left}
use native.Mathlib.Omega.{arith}
use lib.ListN.{length, take, drop, replicate, length-replicate}
use Rattle.std.specs.Prelude.{Result, IsOk}
use lib.Dec.{eqb}
use lib.Seq.{take-length}
use borrow.Author.Tests.{eq-eqb, ne_eqb}
use Rattle.octets.specs.Basics.{pick, part, over, laid, laid_part, first}
use Rattle.octets.specs.Refusals.{refusal_of}
use Rattle.octets.specs.declared.refusals.Refusal.{Refusal}
use Rattle.octets.proofs.Written.{length_run, laid_within, part_within}
use Rattle.wrapping.proofs.Fits.{accepted}
use Rattle.trailer.specs.Trailer.{ended}
use Rattle.frames.specs.Link.{zone_at, count_width, next_count}
use Rattle.frames.specs.Frame.{frame_length, head, head_rows, no_start, idle_zone}
use Rattle.frames.specs.declared.Settings.{Settings}
use Rattle.frames.proofs.Framed.{Used}
use Rattle.frames.proofs.Heads.{none_refused}
use Rattle.multiplexer.specs.Multiplex.{filled_frame, filled_mux, start_now, put, idle_frame}
use Rattle.multiplexer.specs.Laying.{Fills, LaidOver, Counted, PacketLaid}
use Rattle.multiplexer.specs.Calls.{left_by}
use Rattle.multiplexer.specs.declared.Mux.{Mux}
use Rattle.multiplexer.proofs.Rows.{Accepted}

-- a call that is not refused may lay what stays within the zone
pub accepted_fills : {s : Settings} {m : Mux} {room : ℕ} (start n : ℕ) (frame : List ℕ) → Accepted s m room → length frame ≡ room
    → start < 2 ^ 11 → Used s start → m.filled + n ≤ s.zone → Fills s m start n frame
accepted_fills start n frame w e p u h = record {
  settled = w.lent.in_ranges;
  room = omega (arith, w.lent.enough);
  counted = w.passes.wheel;
  pointed = p;
  used = u;
  inside = h;
}

-- the headers of a full zone's frame are not refused
pub head_accepted : {s : Settings} {m : Mux} {start n : ℕ} {d : List ℕ} (r : Result (Unit {0}) Refusal) → Fills s m start n d
    → refusal_of r ≡ first (head_rows s m.count start d) → IsOk r
unfolding frame_length
head_accepted {s} {m} {start} {n} {d} r w t =
    accepted r {room = true} (t ∙ none_refused s m.count start d w.settled w.counted w.pointed w.used (omega (arith, w.room))) refl

module _ {s : Settings} {m : Mux} {start n : ℕ} {d : List ℕ} (taken : ℕ) where
  -- octets that leave room in the zone
  pub counted_more : (m.filled + n ≡ s.zone → ⊥)
      → Counted s m start n taken (record { count = m.count; filled = m.filled + n; first = start; taken = taken }) d d
  unfolding filled_mux filled_frame
  counted_more q = record {
    mux = rw (ne_eqb _ _ q) refl;
    frame = λ os frame l e. rw (l, ne_eqb _ _ q) e;
  }

  -- octets that fill it
  pub counted_full : {r : ℕ} {f g : List ℕ} → Fills s m start n d → m.filled + n ≡ s.zone → r ≡ first (head_rows s m.count start d)
      → f ≡ pick (eqb r 0) (over d 0 (head s m.count start)) d → g ≡ ended s.link.trailed f (zone_at s.link + s.zone)
      → Counted s m start n taken (record { count = next_count (count_width s.link) m.count; filled = 0; first = no_start; taken = taken }) d g
  unfolding filled_mux filled_frame frame_length
  counted_full {r} {f} {g} w q t v u =
      let z : r ≡ 0 = t ∙ none_refused s m.count start d w.settled w.counted w.pointed w.used (omega (arith, w.room)) in
      record {
        mux = rw (eq-eqb _ _ q) refl;
        frame = λ os frame l e. rw (l, eq-eqb (m.filled + n) s.zone q, ← e, u, v, eq-eqb r 0 z) refl;
      }

-- ---- what each call lays

pub part_run : (p : List ℕ) (from n : ℕ) → part from (from + n) p ≡ take n (drop from p)
unfolding part
part_run p from n = ap (λ (k : ℕ). take k (drop from p)) (add-sub_cancel_left from n)

-- the next octets of a packet are as many as are put
pub length-next : (p : List ℕ) (taken n : ℕ) → taken + n ≤ length p → length (part taken (taken + n) p) ≡ n
length-next p taken n h = ap length (part_run p taken n) ∙ length_run p taken n h

-- a packet of which nothing is taken is put whole where it fits
pub part_all : (p : List ℕ) (taken n : ℕ) → taken ≡ 0 → length p ≡ n → part taken (taken + n) p ≡ p
part_all p taken n e l = part_run p taken n ∙ rw (e, ← l) (take-length p)

module _ (s : Settings) (m : Mux) {x : Mux} {laid left : List ℕ} where
  -- a packet's next octets, laid and counted, are what the rules put
  pub put_laid : (n len start taken : ℕ) → m.taken + n ≤ len → start ≡ start_now m → taken ≡ pick (eqb (m.taken + n) len) 0 (m.taken + n)
      → Counted s m start n taken x laid left
      → PacketLaid s m n len (record { full = eqb (m.filled + n) s.zone; taken = eqb (m.taken + n) len; mux = x }) laid left
  unfolding put
  put_laid n len start taken h t u w p frame e k q =
      let os : List ℕ = part m.taken (m.taken + n) p in
      rw (w.mux, w.frame os frame (length-next p m.taken n (omega arith)) q, u, t, ← e, k) refl

  -- the fill octets of an idle zone, the same
  pub zone_laid : (frame : List ℕ) → LaidOver s m (replicate s.zone s.fill) frame laid → Counted s m idle_zone s.zone 0 x laid left
      → left_by (record { full = true; taken = false; mux = x }) left ≡ idle_frame s m frame
  unfolding idle_frame
  zone_laid frame q w =
      rw (w.mux, w.frame (replicate s.zone s.fill) frame (length-replicate s.zone s.fill) q) refl

module _ {s : Settings} {m : Mux} (frame : List ℕ) {d : List ℕ} (w : Accepted s m (length frame)) where
  -- octets that stay within the zone are laid over it
  pub laid_in : (os : List ℕ) → m.filled + length os ≤ s.zone → d ≡ laid frame (zone_at s.link + m.filled) os → LaidOver s m os frame d
  unfolding frame_length
  laid_in os h q = q ∙ laid_within frame (zone_at s.link + m.filled) os (omega (arith, w.lent.enough))

  -- the same of a part of a packet
  pub part_laid_in : (p : List ℕ) (from n : ℕ) → from + n ≤ length p → m.filled + n ≤ s.zone
      → d ≡ laid_part frame (zone_at s.link + m.filled) from (from + n) p → LaidOver s m (part from (from + n) p) frame d
  unfolding part frame_length
  part_laid_in p from n h k q =
      q ∙ part_within frame (zone_at s.link + m.filled) from (from + n) p (omega arith) h (omega (arith, w.lent.enough))
