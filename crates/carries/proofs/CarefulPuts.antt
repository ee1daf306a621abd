-- A packet put with care: where a run stands before and after a call, and the calls until the packet is taken.
-- Assumes nothing.
use mathlib.Core.Path.{◌≡◌, refl, sym, ap, ap₂, ◌∙◌, subst}
use mathlib.Core.Logic.{◌⊎◌, inl, inr}
use mathlib.Core.List.{List, [], ◌∷◌, ◌++◌, append_assoc, append-nil}
use mathlib.Core.Bool.{Bool, true, false}
use Prim.Native.Nat.{ℕ, zero, suc, ◌+◌, ◌-◌, ◌*◌, ◌%◌, ◌≤◌, ◌<◌}
use native.Mathlib.Omega.{arith}
use lib.Arith.{digits_mod}
use lib.ListN.{length, take, drop, length-append, length-take, length-drop}
use lib.Dec.{eqb}
use lib.Seq.{take-add, drop-drop, drop-append-add, drop-append-le, take-append-le}
use borrow.Author.Tests.{eqb-true, eqb-false, eq-eqb}
use Rattle.octets.specs.Basics.{pick, and, All, part, first}
use Rattle.octets.proofs.Written.{length_over}
use Rattle.packets.specs.Packet.{WellFormed, end_to_end}
use Rattle.frames.specs.Link.{zone_at, count_width, next_count}
use Rattle.frames.specs.Frame.{no_start, in_range, frame_length}
use Rattle.frames.specs.declared.Settings.{Settings}
use Rattle.frames.proofs.Framed.{framed, Used, Framed, framed_is, pointer_inside, pointer_beyond}
use Rattle.frames.proofs.Settled.{Settled}
use Rattle.multiplexer.specs.Multiplex.{mux_reachable, put_rows, filled_frame, filled_mux, start_now, fits_now, put}
use Rattle.multiplexer.specs.Calls.{Answer, to_put, doing}
use Rattle.multiplexer.specs.declared.Mux.{Mux}
use Rattle.multiplexer.proofs.Answers.{done}
use Rattle.multiplexer.proofs.Filling.{zone_grown, frame_written, frame_kept}
use Rattle.multiplexer.proofs.Laying.{part_run, length-next}
use Rattle.multiplexer.proofs.Putting.{Fitting, fitting, put_passes}
use Rattle.multiplexer.proofs.Records.{Passing, passing, start_fits}
use Rattle.multiplexer.proofs.Rows.{Lent}
use Rattle.multiplexer.proofs.Unrefused.{put_unrefused}
use Rattle.carries.specs.Carries.{starts, first_start}
use Rattle.carries.specs.Careful.{Sending, answered, until_taken}
use Rattle.carries.proofs.FirstStarts.{Some, or_else, first_start_empty, first_start_new, first_start_on}
use Rattle.carries.proofs.FrameRuns.{Runs, runs_data}
use Rattle.carries.proofs.Joins.{end-to-end-append}
use Rattle.carries.proofs.Laid.{first_start_range}

-- ---- octets of the packet that is put now

pub length_snoc : (ps : List (List ℕ)) (p : List ℕ) → length (end_to_end (ps ++ (p ∷ []))) ≡ length (end_to_end ps) + length p
length_snoc ps p =
    ap length (end-to-end-append ps (p ∷ []))
    ∙ length-append (end_to_end ps) (p ++ [])
    ∙ ap (λ (l : List ℕ). length (end_to_end ps) + length l) (append-nil p)

-- the part of p from t on, among the octets of all
part_among : (qs : List (List ℕ)) (p : List ℕ) (rest : List (List ℕ)) (t n : ℕ) → t + n ≤ length p
    → part t (t + n) p ≡ take n (drop (length (end_to_end qs) + t) (end_to_end (qs ++ (p ∷ rest))))
part_among qs p rest t n h =
    part_run p t n
    ∙ sym
    (ap (λ (l : List ℕ). take n (drop (length (end_to_end qs) + t) l)) (end-to-end-append qs (p ∷ rest))
    ∙ ap (take n) (drop-append-add (end_to_end qs) (p ++ end_to_end rest) t ∙ drop-append-le t p (end_to_end rest) (omega arith))
    ∙ take-append-le n (drop t p) (end_to_end rest) (rw length-drop (omega arith)))

-- the pointer of a zone is one that is used
start_used : (s : Settings) (o : ℕ) (xs : List ℕ) → Used s (first_start s.zone o xs)
start_used s o xs = go (first_start_range s.zone o xs)
  where
    go : (first_start s.zone o xs < s.zone) ⊎ (first_start s.zone o xs ≡ no_start) → Used s (first_start s.zone o xs)
    go (inl low) = pointer_inside s _ low
    go (inr none) = pointer_beyond s _ (omega arith)

-- ---- where a run stands

-- g octets of the packets ws are put: those of the frames written, whole zones of them, and those that the lent frame's zone holds
-- from `base` on; and no call was refused
pub record At (s : Settings) (ws : List (List ℕ)) (x : Sending) (g : ℕ) : Type 0 where
  pub base : ℕ
  pub zones : ℕ
  pub cut : base ≡ zones * s.zone
  pub here : base + x.mux.filled ≡ g
  pub reach : mux_reachable s x.mux ≡ true
  pub long : frame_length s ≤ length x.frame
  pub held : take x.mux.filled (drop (zone_at s.link) x.frame) ≡ take x.mux.filled (drop base (end_to_end ws))
  pub begins : x.mux.first ≡ first_start x.mux.filled base (starts 0 ws)
  pub before : (fs : List (List ℕ)) → Runs s ws x.mux.count base fs → Runs s ws 0 0 (x.written ++ fs)
  pub accepted : All (λ refusal. refusal ≡ 0) x.refusals

pub at_by : {s : Settings} {ws : List (List ℕ)} {x : Sending} {g h : ℕ} → g ≡ h → At s ws x g → At s ws x h
at_by {s} {ws} {x} e at = subst (At s ws x) e at

-- the same between packets, and there with an empty zone
pub record Rests (s : Settings) (ws : List (List ℕ)) (x : Sending) (g : ℕ) : Type 0 where
  pub at : At s ws x g
  pub none : x.mux.taken ≡ 0

pub record Flushed (s : Settings) (ws : List (List ℕ)) (x : Sending) (g : ℕ) : Type 0 where
  pub rests : Rests s ws x g
  pub empty : x.mux.filled ≡ 0

-- ---- what a put leaves

-- the octets that it takes of the packet, and what it has then taken
abbrev octets_now : Settings → Mux → List ℕ → List ℕ
octets_now s m p = part m.taken (m.taken + fits_now s m p) p

abbrev taken_now : Settings → Mux → List ℕ → ℕ
taken_now s m p = pick (eqb (m.taken + fits_now s m p) (length p)) 0 (m.taken + fits_now s m p)

module _ (s : Settings) (lend : ℕ → List ℕ) (x : Sending) (p : List ℕ) where
  abbrev m : Mux
  m = x.mux

  -- whether it fills the zone
  abbrev fills : Bool
  fills = eqb (m.filled + fits_now s m p) s.zone

  abbrev next_frame : List ℕ
  next_frame = filled_frame s m (start_now m) (octets_now s m p) x.frame

  -- a put that is carried out
  abbrev pub put_now : Sending
  put_now = answered s lend x (doing (put s m p x.frame))

  -- the same, by whether it fills the zone
  after_put : Bool → Sending
  after_put true =
      record {
        mux = record { count = next_count (count_width s.link) m.count; filled = 0; first = no_start; taken = taken_now s m p };
        frame = lend (suc (length x.written));
        written = x.written ++ (take (frame_length s) next_frame ∷ []);
        refusals = 0 ∷ x.refusals;
      }
  after_put false =
      record {
        mux = record { count = m.count; filled = m.filled + fits_now s m p; first = start_now m; taken = taken_now s m p };
        frame = next_frame;
        written = x.written;
        refusals = 0 ∷ x.refusals;
      }

  put_cases : (b : Bool) → fills ≡ b → put_now ≡ after_put b
  unfolding put filled_mux after_put
  put_cases true e = rw e refl
  put_cases false e = rw e refl

  put_mux : (b : Bool) → fills ≡ b → (put s m p x.frame).mux ≡ (after_put b).mux
  unfolding put filled_mux after_put
  put_mux true e = rw e refl
  put_mux false e = rw e refl

  -- whether it takes the packet, and what is then taken
  put_over : eqb (m.taken + fits_now s m p) (length p) ≡ (put s m p x.frame).taken
  unfolding put
  put_over = refl

  put_taken : put_now.mux.taken ≡ pick (put s m p x.frame).taken 0 (m.taken + fits_now s m p)
  unfolding after_put put
  put_taken = go fills refl
    where
      go : (b : Bool) → fills ≡ b → put_now.mux.taken ≡ pick (put s m p x.frame).taken 0 (m.taken + fits_now s m p)
      go true e = ap (λ (y : Sending). y.mux.taken) (put_cases true e)
      go false e = ap (λ (y : Sending). y.mux.taken) (put_cases false e)

module _ (s : Settings) (e : in_range s ≡ true) (range : Settled s) (lend : ℕ → List ℕ) (lent : (n : ℕ) → frame_length s ≤ length (lend n)) where
  -- so many octets of the zone that is begun
  pub filled_at : (ws : List (List ℕ)) (x : Sending) (g : ℕ) → At s ws x g → x.mux.filled ≡ g % s.zone
  filled_at ws x g at =
      let room : x.mux.filled < s.zone = (passing s range x.mux at.reach).room in
      sym (ap (λ (k : ℕ). k % s.zone) (sym at.here ∙ ap (λ (k : ℕ). k + x.mux.filled) at.cut) ∙ digits_mod at.zones room)

  -- what every call needs
  pub lent_now : (ws : List (List ℕ)) (x : Sending) (g : ℕ) → At s ws x g → Lent s x.mux (length x.frame)
  lent_now ws x g at = record { in_ranges = e; enough = at.long; reachable = at.reach }

  -- ---- one put with the packet p, which stands behind qs and of which octets are left

  module _ (ws qs : List (List ℕ)) (p : List ℕ) (rest : List (List ℕ)) (cut : ws ≡ qs ++ (p ∷ rest)) (some : Some qs)
      (x : Sending) (at : At s ws x (length (end_to_end qs) + x.mux.taken)) (left : x.mux.taken < length p) where
    -- how many octets it puts
    abbrev size_now : ℕ
    size_now = fits_now s x.mux p

    passing_now : Passing s x.mux
    passing_now = passing s range x.mux at.reach

    fit_now : Fitting s x.mux p
    fit_now = fitting s x.mux p passing_now.room left

    length_now : length (octets_now s x.mux p) ≡ size_now
    length_now = length-next p x.mux.taken size_now fit_now.in_packet

    small_now : x.mux.filled + size_now ≤ no_start
    small_now = omega (arith, fit_now.in_zone, range.zone_most)

    -- the first start of the zone, with the octets that are put now
    start_right : start_now x.mux ≡ first_start (x.mux.filled + size_now) at.base (starts 0 ws)
    unfolding start_now
    start_right = go (eqb x.mux.taken 0) refl
      where
        go : (b : Bool) → eqb x.mux.taken 0 ≡ b
            → pick (and b (eqb x.mux.first no_start)) x.mux.filled x.mux.first ≡ first_start (x.mux.filled + size_now) at.base (starts 0 ws)
        go true t =
            let none : x.mux.taken ≡ 0 = eqb-true _ _ t in
            let at-end : at.base + x.mux.filled ≡ length (end_to_end qs) = omega (arith, at.here) in
            ap (λ (u : ℕ). or_else u x.mux.filled) at.begins
            ∙ sym (rw cut (first_start_new qs p rest some at.base x.mux.filled size_now at-end fit_now.some small_now))
        go false t =
            let begun : 0 < x.mux.taken = omega (arith, eqb-false x.mux.taken 0 t) in
            at.begins
            ∙ sym (rw cut (first_start_on qs p rest some at.base x.mux.filled size_now x.mux.taken at.here begun fit_now.in_packet small_now))

    -- the zone's octets, with those that are put now
    zone_right : take x.mux.filled (drop (zone_at s.link) x.frame) ++ octets_now s x.mux p
        ≡ take (x.mux.filled + size_now) (drop at.base (end_to_end ws))
    zone_right =
        let all : List ℕ = drop at.base (end_to_end ws) in
        let new : octets_now s x.mux p ≡ take size_now (drop (at.base + x.mux.filled) (end_to_end ws)) =
        rw (at.here, cut) (part_among qs p rest x.mux.taken size_now fit_now.in_packet) in
        ap₂ (λ (a b : List ℕ). a ++ b) at.held (new ∙ ap (take size_now) (sym (drop-drop x.mux.filled at.base (end_to_end ws))))
        ∙ sym (take-add x.mux.filled size_now all)

    -- the frame that it writes if it fills the zone
    frame_right : x.mux.filled + size_now ≡ s.zone
        → Framed s x.mux.count (first_start s.zone at.base (starts 0 ws)) (take s.zone (drop at.base (end_to_end ws)))
        (take (frame_length s) (next_frame s lend x p))
    unfolding framed frame_length
    frame_right full =
        let c : ℕ = x.mux.count in
        let start : ℕ = first_start s.zone at.base (starts 0 ws) in
        let z : List ℕ = take s.zone (drop at.base (end_to_end ws)) in
        let pointed : start_now x.mux ≡ start =
        start_right ∙ ap (λ (k : ℕ). first_start k at.base (starts 0 ws)) full in
        let zoned : take x.mux.filled (drop (zone_at s.link) x.frame) ++ octets_now s x.mux p ≡ z =
        zone_right ∙ ap (λ (k : ℕ). take k (drop at.base (end_to_end ws))) full in
        let long : length z ≡ s.zone =
        ap length (sym zoned) ∙ simp (length-append, length-take, length-drop, length_now) (omega (arith, at.long)) in
        let written : take (frame_length s) (next_frame s lend x p) ≡ framed s c start z =
        frame_written s x.mux (start_now x.mux) (octets_now s x.mux p) x.frame (omega (arith, length_now)) at.long
        ∙ ap₂ (framed s c) pointed zoned in
        rw written
        (framed_is s c start z e passing_now.wheel (omega (arith, start_fits s range x.mux passing_now)) long (start_used s at.base (starts 0 ws)))

    step_full : x.mux.filled + size_now ≡ s.zone → mux_reachable s (after_put s lend x p true).mux ≡ true
        → At s ws (after_put s lend x p true) (length (end_to_end qs) + (x.mux.taken + size_now))
    unfolding after_put
    step_full full reach =
        record {
          base = at.base + s.zone;
          zones = suc at.zones;
          cut = omega (arith, at.cut);
          here = omega (arith, at.here);
          reach = reach;
          long = lent (suc (length x.written));
          held = refl;
          begins = sym (first_start_empty (at.base + s.zone) (starts 0 ws));
          before = λ fs r.
              rw (append_assoc x.written) (at.before (_ ∷ fs) (runs_data s range ws x.mux.count at.base _ fs (frame_right full) r));
          accepted = (refl, at.accepted);
        }

    step_not_full : x.mux.filled + size_now < s.zone → mux_reachable s (after_put s lend x p false).mux ≡ true
        → At s ws (after_put s lend x p false) (length (end_to_end qs) + (x.mux.taken + size_now))
    unfolding after_put frame_length
    step_not_full under reach =
        let os : List ℕ = octets_now s x.mux p in
        let kept = frame_kept s x.mux (start_now x.mux) os x.frame (omega (arith, length_now)) in
        let fits : zone_at s.link + x.mux.filled + length os ≤ length x.frame = omega (arith, at.long, length_now) in
        record {
          base = at.base;
          zones = at.zones;
          cut = at.cut;
          here = omega (arith, at.here);
          reach = reach;
          long = rw (kept, length_over x.frame (zone_at s.link + x.mux.filled) os fits) at.long;
          held =
              ap₂ (λ (k : ℕ) (f : List ℕ). take (x.mux.filled + k) (drop (zone_at s.link) f)) (sym length_now) kept
              ∙ zone_grown x.frame (zone_at s.link) x.mux.filled os fits
              ∙ zone_right;
          begins = start_right;
          before = at.before;
          accepted = (refl, at.accepted);
        }

    -- after it the octets that it put are accounted for
    put_step : length p ≤ s.limit → At s ws (put_now s lend x p) (length (end_to_end qs) + (x.mux.taken + size_now))
    put_step short = go (fills s lend x p) refl
      where
        reach : mux_reachable s (put s x.mux p x.frame).mux ≡ true
        reach = put_passes s range x.mux passing_now p x.frame left short

        go : (b : Bool) → fills s lend x p ≡ b → At s ws (put_now s lend x p) (length (end_to_end qs) + (x.mux.taken + size_now))
        go true t = rw (put_cases s lend x p true t) (step_full (eqb-true _ _ t) (rw (put_mux s lend x p true t) at reach))
        go false t =
            let under : x.mux.filled + size_now < s.zone = omega (arith, eqb-false (x.mux.filled + size_now) s.zone t, fit_now.in_zone) in
            rw (put_cases s lend x p false t) (step_not_full under (rw (put_mux s lend x p false t) at reach))

  -- ---- the puts with one packet: in the end it is taken

  module _ (ws qs : List (List ℕ)) (p : List ℕ) (rest : List (List ℕ)) (cut : ws ≡ qs ++ (p ∷ rest))
      (some : Some qs) (formed : WellFormed s.limit p) (short : length p ≤ s.limit) where
    -- a put after which k octets of the packet are put, and those that follow it where that is not all
    put_ends : (n k : ℕ) (y : Sending) (b : Bool) → eqb k (length p) ≡ b → k ≤ length p → At s ws y (length (end_to_end qs) + k) → y.mux.taken ≡ pick b 0 k
        → length p ≤ n + k
        → (At s ws y (length (end_to_end qs) + y.mux.taken) → y.mux.taken < length p → length p ≤ n + y.mux.taken
        → Rests s ws (until_taken n s lend p y) (length (end_to_end qs) + length p))
        → Rests s ws (pick b y (until_taken n s lend p y)) (length (end_to_end qs) + length p)
    put_ends n k y true d fits at t fuel on = record { at = rw (eqb-true k (length p) d) at at; none = t }
    put_ends n k y false d fits at t fuel on =
        on (subst (λ (j : ℕ). At s ws y (length (end_to_end qs) + j)) (sym t) at) (omega (arith, eqb-false k (length p) d)) (omega arith)

    -- a put that is not refused, and those that follow it
    put_first : (n : ℕ) (x : Sending) → first (put_rows s x.mux p (length x.frame)) ≡ 0
        → until_taken (suc n) s lend p x
        ≡ pick (put s x.mux p x.frame).taken (put_now s lend x p) (until_taken n s lend p (put_now s lend x p))
    unfolding until_taken
    put_first n x none =
        ap (λ (a : Answer). pick a.taken (answered s lend x a) (until_taken n s lend p (answered s lend x a)))
        (done s x.mux (to_put p) x.frame refl none)

    pub puts_end : (n : ℕ) (x : Sending) → At s ws x (length (end_to_end qs) + x.mux.taken) → x.mux.taken < length p → length p ≤ n + x.mux.taken
        → Rests s ws (until_taken n s lend p x) (length (end_to_end qs) + length p)
    puts_end zero x at left fuel = absurd (omega arith)
    puts_end (suc n) x at left fuel =
        let k : ℕ = x.mux.taken + fits_now s x.mux p in
        let fit : Fitting s x.mux p = fitting s x.mux p (passing s range x.mux at.reach).room left in
        rw (put_first n x (put_unrefused s x.mux (length x.frame) (lent_now ws x _ at) p left formed))
        (put_ends n k (put_now s lend x p) (put s x.mux p x.frame).taken (put_over s lend x p) fit.in_packet
        (put_step ws qs p rest cut some x at left short) (put_taken s lend x p)
        (omega (arith, fit.some)) (puts_end n (put_now s lend x p)))

  -- a packet that just fills the zone, where none was begun
  pub put_closes : (ws qs rest : List (List ℕ)) (x : Sending) → Some qs → Rests s ws x (length (end_to_end qs))
      → (p : List ℕ) → length p ≡ s.zone - x.mux.filled → ws ≡ qs ++ (p ∷ rest)
      → Flushed s ws (put_now s lend x p) (length (end_to_end (qs ++ (p ∷ []))))
  unfolding after_put fits_now
  put_closes ws qs rest x some rests p long cut =
      let room : x.mux.filled < s.zone = (passing s range x.mux rests.at.reach).room in
      let all : x.mux.taken + fits_now s x.mux p ≡ length p = omega (arith, rests.none) in
      let full : x.mux.filled + fits_now s x.mux p ≡ s.zone = omega (arith, rests.none) in
      let step =
      put_step ws qs p rest cut some x (at_by (omega (arith, rests.none)) rests.at) (omega (arith, rests.none)) (omega (arith, range.zone_limit)) in
      record {
        rests =
            record {
              at = at_by (omega (arith, length_snoc qs p)) step;
              none =
                  put_taken s lend x p
                  ∙ ap (λ (b : Bool). pick b 0 (x.mux.taken + fits_now s x.mux p)) (sym (put_over s lend x p) ∙ eq-eqb _ _ all);
            };
        empty = ap (λ (y : Sending). y.mux.filled) (put_cases s lend x p true (eq-eqb _ _ full));
      }
