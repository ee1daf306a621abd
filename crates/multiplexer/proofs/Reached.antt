-- The records that calls lead to are those that pass refusal 10's test.
-- Assumes nothing.
use mathlib.Core.Path.{◌≡◌, refl, sym, ap, ◌∙◌, subst}
use mathlib.Core.List.{List}
use mathlib.Core.Bool.{true, false}
use Prim.Native.Nat.{ℕ, zero, suc, ◌+◌, ◌-◌, ◌%◌, ◌^◌, ◌≤◌, ◌<◌}
use native.Mathlib.Nat.{mod-lt, mod-eq_of_lt, mod-add-mod, add-mod_right}
use native.Mathlib.Omega.{arith}
use lib.ListN.{length, replicate, length-replicate}
use lib.Dec.{eqb}
use lib.Pow.{pow_pos}
use borrow.Author.Tests.{eqb-true, eqb-false, eq-eqb, ne_eqb}
use Rattle.octets.specs.Basics.{AllOctets, first}
use Rattle.octets.proofs.Choices.{split}
use Rattle.octets.proofs.Fronts.{all_zeros}
use Rattle.octets.proofs.Tests.{test}
use Rattle.packets.specs.Packet.{WellFormed}
use Rattle.frames.specs.Link.{count_width, next_count}
use Rattle.frames.specs.Frame.{no_start, in_range, frame_length}
use Rattle.frames.specs.declared.Settings.{Settings}
use Rattle.frames.proofs.Settled.{Settled, settled}
use Rattle.multiplexer.specs.Multiplex.{mux_reachable, filled_mux, start_now, fits_now, put, idle_frame}
use Rattle.multiplexer.specs.Calls.{Call, to_put, to_idle, call_rows, call, Answer, answer}
use Rattle.multiplexer.specs.Reach.{OctetsLent, Reached, begins, calls, ReachesAll}
use Rattle.multiplexer.specs.declared.Mux.{Mux}
use Rattle.multiplexer.proofs.Answers.{refused, done}
use Rattle.multiplexer.proofs.Lengths.{Sample, sample}
use Rattle.multiplexer.proofs.Putting.{call_reachable}
use Rattle.multiplexer.proofs.Records.{Inside, by_inside, by_passing, empty_passes}
use Rattle.multiplexer.proofs.Rows.{Lent}
use Rattle.multiplexer.proofs.Unrefused.{put_unrefused, idle_unrefused}

-- ---- what calls lead to passes

answer_passes : (s : Settings) (m : Mux) (c : Call) (frame : List ℕ) → mux_reachable s m ≡ true → mux_reachable s (answer s m c frame).mux ≡ true
answer_passes s m c frame e =
    let n : ℕ = first (call_rows s m c (length frame)) in
    test (eqb n 0)
    (λ t. call_reachable s m c frame (eqb-true n 0 t))
    (λ t. ap (λ (a : Answer). mux_reachable s a.mux) (refused s m c frame refl (eqb-false n 0 t) refl) ∙ e)

reached_passes : {s : Settings} {m : Mux} → Settled s → Reached s m → mux_reachable s m ≡ true
reached_passes {s} range begins = empty_passes s range 0 0 (pow_pos (count_width s.link)) (omega (arith, range.limit_least))
reached_passes {s} range (calls {m} c frame o p r) = answer_passes s m c frame (reached_passes range r)

-- ---- what passes is led to, each packet being lent until it is taken

-- the records of an empty zone, and of one that is begun between packets
abbrev empty : ℕ → ℕ → Mux
empty c t = record { count = c; filled = 0; first = no_start; taken = t }

abbrev between : ℕ → ℕ → ℕ → Mux
between c filled start = record { count = c; filled = filled; first = start; taken = 0 }

-- what a put leaves that ends the packet within the zone, and what one leaves that fills the zone within the packet
put_ends : (s : Settings) (m : Mux) (p frame : List ℕ) (filled : ℕ) → m.filled + (length p - m.taken) ≡ filled → m.taken < length p → filled < s.zone
    → (put s m p frame).mux ≡ between m.count filled (start_now m)
unfolding put filled_mux fits_now
put_ends s m p frame filled at left room =
    let n : ℕ = fits_now s m p in
    let part-full : eqb (m.filled + n) s.zone ≡ false = ne_eqb (m.filled + n) s.zone (λ e. omega arith) in
    let whole-packet : eqb (m.taken + n) (length p) ≡ true = eq-eqb (m.taken + n) (length p) (omega arith) in
    let now : m.filled + n ≡ filled = omega arith in
    rw (part-full, whole-packet, now)

put_fills : (s : Settings) (m : Mux) (p frame : List ℕ) (taken : ℕ) → m.taken + (s.zone - m.filled) ≡ taken → m.filled < s.zone → taken < length p
    → (put s m p frame).mux ≡ empty (next_count (count_width s.link) m.count) taken
unfolding put filled_mux fits_now
put_fills s m p frame taken at room left =
    let n : ℕ = fits_now s m p in
    let full : eqb (m.filled + n) s.zone ≡ true = eq-eqb (m.filled + n) s.zone (omega arith) in
    let part-packet : eqb (m.taken + n) (length p) ≡ false = ne_eqb (m.taken + n) (length p) (λ e. omega arith) in
    let now : m.taken + n ≡ taken = omega arith in
    rw (full, part-packet, now)

module _ (s : Settings) (ok : in_range s ≡ true) (range : Settled s) where
  abbrev wheel : ℕ
  wheel = 2 ^ count_width s.link

  abbrev next : ℕ → ℕ
  next c = next_count (count_width s.link) c

  -- a frame to write
  blank : List ℕ
  blank = replicate (frame_length s) 0

  lent_blank : (m : Mux) → Reached s m → Lent s m (length blank)
  unfolding blank
  lent_blank m r = record {
    in_ranges = ok;
    enough = omega (arith, length-replicate {A = ℕ} (frame_length s) 0);
    reachable = reached_passes range r;
  }

  -- one more call that is not refused
  on_call : (m : Mux) (c : Call) → OctetsLent c → first (call_rows s m c (length blank)) ≡ 0 → Reached s m → Reached s (call s m c blank).mux
  unfolding blank
  on_call m c small e r =
      subst (λ (a : Answer). Reached s a.mux) (done s m c blank refl e) (calls c blank small (all_zeros (frame_length s)) r)

  on_put : (m : Mux) (p : List ℕ) → AllOctets p → WellFormed s.limit p → m.taken < length p → Reached s m → Reached s (put s m p blank).mux
  on_put m p small formed left r = on_call m (to_put p) small (put_unrefused s m (length blank) (lent_blank m r) p left formed) r

  on_idle : (c : ℕ) → Reached s (empty c 0) → Reached s (empty (next c) 0)
  unfolding idle_frame filled_mux
  on_idle c r =
      let m : Reached s (idle_frame s (empty c 0) blank).mux =
      on_call (empty c 0) to_idle tt (idle_unrefused s (empty c 0) (length blank) (lent_blank (empty c 0) r) refl refl) r in
      rw (eq-eqb (0 + s.zone) s.zone (omega arith)) at m

  -- by idle zones the count goes as far as one likes
  reached_empty : (c : ℕ) → c < wheel → Reached s (empty c 0)
  unfolding next_count
  reached_empty zero h = begins
  reached_empty (suc c) h =
      let up : (c + 1) % wheel ≡ suc c = ap (λ (k : ℕ). k % wheel) (omega arith) ∙ mod-eq_of_lt h in
      rw up at (on_idle c (reached_empty c (omega arith)))

  -- the count before c on the wheel
  before : ℕ → ℕ
  before c = (c + (wheel - 1)) % wheel

  before_small : (c : ℕ) → before c < wheel
  unfolding before
  before_small c = mod-lt (c + (wheel - 1)) (pow_pos (count_width s.link))

  before_next : (c : ℕ) → c < wheel → next (before c) ≡ c
  unfolding before next_count
  before_next c h =
      mod-add-mod (c + (wheel - 1)) wheel 1 ∙ ap (λ (k : ℕ). k % wheel) (omega arith) ∙ add-mod_right c wheel ∙ mod-eq_of_lt h

  -- a packet of so many octets
  of_length : (l : ℕ) → 1 ≤ l → l ≤ s.limit → Sample s.limit l
  of_length l some fits = sample s.limit l some fits range.limit_most

  -- octets of a packet that ends within the zone
  reached_ending : (m : Mux) (p : List ℕ) (filled : ℕ) → AllOctets p → WellFormed s.limit p → m.filled + (length p - m.taken) ≡ filled → m.taken < length p
      → filled < s.zone → Reached s m → Reached s (between m.count filled (start_now m))
  reached_ending m p filled small formed at left room r = rw (put_ends s m p blank filled at left room) at (on_put m p small formed left r)

  -- octets that fill the zone, of a packet that goes on
  reached_filling : (m : Mux) (p : List ℕ) (c taken : ℕ) → AllOctets p → WellFormed s.limit p → m.taken + (s.zone - m.filled) ≡ taken → m.filled < s.zone
      → taken < length p → c < wheel → m.count ≡ before c → Reached s m → Reached s (empty c taken)
  reached_filling m p c taken small formed at room left h counted r =
      let left-now : m.taken < length p = omega arith in
      let up : next m.count ≡ c = ap next counted ∙ before_next c h in
      rw (put_fills s m p blank taken at room left, up) at (on_put m p small formed left-now r)

  -- a zone that begins with a packet
  reached_start : (c filled : ℕ) → c < wheel → 1 ≤ filled → filled < s.zone → Reached s (between c filled 0)
  unfolding start_now
  reached_start c filled h some room =
      let p : Sample s.limit filled = of_length filled some (omega (arith, range.zone_limit)) in
      reached_ending (empty c 0) p.packet filled p.small p.formed (omega (arith, p.long)) (omega (arith, p.long)) room (reached_empty c h)

  -- a zone filled but for so many octets, none where it is empty
  reached_room : (c left : ℕ) → c < wheel → 1 ≤ left → left ≤ s.zone
      → (m : Mux) × Reached s m × (m.count ≡ c) × (m.filled ≡ s.zone - left) × (m.taken ≡ 0)
  reached_room c left h some fits =
      split s.zone left
      (λ all. (empty c 0, reached_empty c h, refl, omega arith, refl))
      (λ part. (between c (s.zone - left) 0, reached_start c (s.zone - left) h (omega arith) (omega arith), refl, refl, refl))

  -- an empty zone within a packet p
  reached_within : (p : List ℕ) → AllOctets p → WellFormed s.limit p → (n c t : ℕ) → t ≤ n → c < wheel → 1 ≤ t → t < length p → Reached s (empty c t)
  reached_within p small formed zero c t fuel h some left = absurd (omega arith)
  reached_within p small formed (suc n) c t fuel h some left =
      split t s.zone
      (λ first. let (m, r, counted, filled, none) = reached_room (before c) t (before_small c) some first in
      reached_filling m p c t small formed (omega arith) (omega arith) left h counted r)
      (λ later. reached_filling (empty (before c) (t - s.zone)) p c t small formed (omega arith) range.zone_least left h refl
      (reached_within p small formed n (before c) (t - s.zone) (omega (arith, range.zone_least)) (before_small c) (omega arith) (omega arith)))

  reached_during : (c t : ℕ) → c < wheel → 1 ≤ t → t < s.limit → Reached s (empty c t)
  reached_during c t h some fits =
      let p : Sample s.limit (t + 1) = of_length (t + 1) (omega arith) (omega arith) in
      reached_within p.packet p.small p.formed t c t (omega arith) h some (omega (arith, p.long))

  -- a zone that begins with the end of a packet, and has no start yet
  reached_tail : (c filled : ℕ) → c < wheel → 1 ≤ filled → filled < s.zone → Reached s (between c filled no_start)
  unfolding start_now
  reached_tail c filled h some room =
      let p : Sample s.limit (filled + 1) = of_length (filled + 1) (omega arith) (omega (arith, range.zone_limit)) in
      reached_ending (empty c 1) p.packet filled p.small p.formed (omega (arith, p.long)) (omega (arith, p.long)) room
      (reached_within p.packet p.small p.formed 1 c 1 (omega arith) h (omega arith) (omega (arith, p.long)))

  -- a zone that begins with the end of a packet, behind which another starts
  reached_later : (c filled start : ℕ) → c < wheel → 1 ≤ start → start < filled → filled < s.zone → Reached s (between c filled start)
  unfolding start_now
  reached_later c filled start h some inside room =
      let p : Sample s.limit (filled - start) = of_length (filled - start) (omega arith) (omega (arith, range.zone_limit)) in
      reached_ending (between c start no_start) p.packet filled p.small p.formed (omega (arith, p.long)) (omega (arith, p.long)) room
      (reached_tail c start h some (omega arith))

  reached_between : (c filled start : ℕ) → c < wheel → filled < s.zone → Inside start filled → Reached s (between c filled start)
  reached_between c zero start h room inside =
      by_inside start 0 inside (λ none. rw none (reached_empty c h)) (λ below. absurd (omega arith))
  reached_between c (suc filled) zero h room inside = reached_start c (suc filled) h (omega arith) room
  reached_between c (suc filled) (suc start) h room inside =
      by_inside (suc start) (suc filled) inside (λ none. rw none (reached_tail c (suc filled) h (omega arith) room))
      (λ below. reached_later c (suc filled) (suc start) h (omega arith) below room)

  passes_reached : (m : Mux) → mux_reachable s m ≡ true → Reached s m
  passes_reached m e =
      by_passing s m e
      (λ h none room inside.
      subst (λ (t : ℕ). Reached s (record { count = m.count; filled = m.filled; first = m.first; taken = t })) (sym none)
      (reached_between m.count m.filled m.first h room inside))
      (λ h some empty none fits.
      subst (λ (f : ℕ). Reached s (record { count = m.count; filled = f; first = m.first; taken = m.taken })) (sym empty)
      (subst (λ (f : ℕ). Reached s (record { count = m.count; filled = 0; first = f; taken = m.taken })) (sym none)
      (reached_during m.count m.taken h some fits)))

pub mux_reached_exactly : ReachesAll
mux_reached_exactly s ok m = (reached_passes (settled s ok), passes_reached s ok (settled s ok) m)
