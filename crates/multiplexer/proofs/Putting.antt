-- What a call puts, and that it hands back a record that passes refusal 10's test.
-- Assumes nothing.
use mathlib.Core.Path.{◌≡◌, refl, ap, ◌∙◌}
use mathlib.Core.List.{List}
use mathlib.Core.Bool.{Bool, true, false}
use Prim.Native.Nat.{ℕ, ◌+◌, ◌-◌, ◌≤◌, ◌<◌}
use native.Mathlib.Omega.{arith}
use lib.ListN.{length}
use lib.Dec.{leb, ltb, eqb}
use borrow.Author.Tests.{leb-false, ltb-false, eqb-false, eq-eqb, not-false}
use Rattle.octets.specs.Basics.{pick, and, first}
use Rattle.octets.proofs.Choices.{none_holds}
use Rattle.packets.specs.Packet.{WellFormed}
use Rattle.wrapping.specs.Idle.{idle_packet}
use Rattle.packets.proofs.Grown.{look_bounds}
use Rattle.wrapping.proofs.Idles.{idle-length}
use Rattle.packets.proofs.Readings.{test_formed}
use Rattle.frames.specs.Link.{count_width, next_count}
use Rattle.frames.specs.Frame.{no_start}
use Rattle.frames.specs.declared.Settings.{Settings}
use Rattle.frames.proofs.Settled.{Settled}
use Rattle.multiplexer.specs.Multiplex.{mux_reachable, put_rows, filled_mux, start_now, fits_now, put, flush_rows, flush, idle_rows, idle_frame}
use Rattle.multiplexer.specs.Calls.{Call, to_put, to_flush, to_idle, call_rows, call, Answer}
use Rattle.multiplexer.specs.Reach.{KeepsToTheTest}
use Rattle.multiplexer.specs.declared.Mux.{Mux}
use Rattle.multiplexer.proofs.Answers.{done}
use Rattle.multiplexer.proofs.Records.{Passing, start_inside, empty_passes, begun_passes, next_on_wheel}
use Rattle.multiplexer.proofs.Rows.{Accepted, lent_passed, put_passed, flush_passed, idle_passed}

-- how many octets of a packet are put now
pub record Fitting (s : Settings) (m : Mux) (p : List ℕ) : Type 0 where
  pub some : 0 < fits_now s m p
  pub in_zone : m.filled + fits_now s m p ≤ s.zone
  pub in_packet : m.taken + fits_now s m p ≤ length p
  pub not_full : m.filled + fits_now s m p < s.zone → m.taken + fits_now s m p ≡ length p

pub fitting : (s : Settings) (m : Mux) (p : List ℕ) → m.filled < s.zone → m.taken < length p → Fitting s m p
unfolding fits_now
fitting s m p h k = record { some = omega arith; in_zone = omega arith; in_packet = omega arith; not_full = λ l. omega arith }

-- a put of a packet within the limit, of which octets are left
module _ (s : Settings) (range : Settled s) (m : Mux) (passes : Passing s m) (p frame : List ℕ) (left : m.taken < length p) (short : length p ≤ s.limit) where
  abbrev n : ℕ
  n = fits_now s m p

  fit : Fitting s m p
  fit = fitting s m p passes.room left

  abbrev taken_by : Bool → ℕ
  taken_by b = pick b 0 (m.taken + n)

  taken_short : (b : Bool) → eqb (m.taken + n) (length p) ≡ b → taken_by b < s.limit
  taken_short true e = omega (arith, range.limit_least)
  taken_short false e = omega (arith, eqb-false (m.taken + n) (length p) e, fit.in_packet)

  pub put_passes : mux_reachable s (put s m p frame).mux ≡ true
  unfolding put filled_mux
  put_passes = go (eqb (m.filled + n) s.zone) refl
    where
      taken : ℕ
      taken = taken_by (eqb (m.taken + n) (length p))

      go : (b : Bool) → eqb (m.filled + n) s.zone ≡ b
          → mux_reachable s
          (pick b
          (record { count = next_count (count_width s.link) m.count; filled = 0; first = no_start; taken = taken })
          (record { count = m.count; filled = m.filled + n; first = start_now m; taken = taken })) ≡ true
      go true e = empty_passes s range _ taken (next_on_wheel s m.count) (taken_short (eqb (m.taken + n) (length p)) refl)
      go false e =
          let under : m.filled + n < s.zone = omega (arith, eqb-false (m.filled + n) s.zone e, fit.in_zone) in
          ap (λ (b : Bool). mux_reachable s (record { count = m.count; filled = m.filled + n; first = start_now m; taken = taken_by b }))
          (eq-eqb (m.taken + n) (length p) (fit.not_full under))
          ∙ begun_passes s m.count (m.filled + n) (start_now m) passes.wheel under (start_inside s m n passes fit.some)

-- ---- each call that is not refused

put_reachable : (s : Settings) (m : Mux) (p frame : List ℕ) (room : ℕ) → first (put_rows s m p room) ≡ 0 → mux_reachable s (put s m p frame).mux ≡ true
unfolding put_rows
put_reachable s m p frame room e =
    let a : Accepted s m room = (put_passed s m p room e).0 in
    let b = none_holds 8 _ _ (lent_passed s m room _ e).1 in
    let formed : WellFormed s.limit p = test_formed s.limit p (not-false _ (none_holds 7 _ _ b.1).0) in
    let fits = look_bounds s.limit p (omega (arith, a.range.limit_least)) formed in
    put_passes s a.range m a.passes p frame (go fits.0 (ltb 0 m.taken) refl b.0) fits.1
  where
    go : 1 ≤ length p → (t : Bool) → ltb 0 m.taken ≡ t → and t (leb (length p) m.taken) ≡ false → m.taken < length p
    go some true x y = leb-false (length p) m.taken y
    go some false x y = omega (arith, ltb-false 0 m.taken x)

flush_reachable : (s : Settings) (m : Mux) (frame : List ℕ) (room : ℕ) → first (flush_rows s m room) ≡ 0 → mux_reachable s (flush s m frame).mux ≡ true
unfolding flush
flush_reachable s m frame room e =
    let (a, none) = flush_passed s m room e in
    let left : m.filled < s.zone = a.passes.room in
    let long : length p ≡ s.zone - m.filled = idle-length s.fill (s.zone - m.filled) (omega arith) in
    go (eqb m.filled 0) a.lent.reachable
    (put_passes s a.range m a.passes p frame (omega arith) (omega (arith, a.range.zone_limit)))
  where
    p : List ℕ
    p = idle_packet s.fill (s.zone - m.filled)

    go : (b : Bool) → mux_reachable s m ≡ true → mux_reachable s (put s m p frame).mux ≡ true
        → mux_reachable s (pick b (record { full = false; taken = false; mux = m; frame = frame }) (put s m p frame)).mux ≡ true
    go true x y = x
    go false x y = y

idle_reachable : (s : Settings) (m : Mux) (frame : List ℕ) (room : ℕ) → first (idle_rows s m room) ≡ 0 → mux_reachable s (idle_frame s m frame).mux ≡ true
unfolding idle_frame filled_mux
idle_reachable s m frame room e =
    let (a, empty) = idle_passed s m room e in
    rw (eq-eqb (m.filled + s.zone) s.zone (omega arith))
    (empty_passes s a.range _ 0 (next_on_wheel s m.count) (omega (arith, a.range.limit_least)))

call_passes : (s : Settings) (m : Mux) (c : Call) (frame : List ℕ) → first (call_rows s m c (length frame)) ≡ 0
    → mux_reachable s (call s m c frame).mux ≡ true
call_passes s m (to_put p) frame e = put_reachable s m p frame (length frame) e
call_passes s m to_flush frame e = flush_reachable s m frame (length frame) e
call_passes s m to_idle frame e = idle_reachable s m frame (length frame) e

pub call_reachable : KeepsToTheTest
call_reachable s m c frame e =
    ap (λ (a : Answer). mux_reachable s a.mux) (done s m c frame refl e) ∙ call_passes s m c frame e
