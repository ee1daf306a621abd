-- A multiplexer used with care: no call is refused, the frames carry the packets, and their counts go round the wheel.
-- Assumes nothing.
use mathlib.Core.Path.{◌≡◌, refl, sym, ap, ◌∙◌}
use mathlib.Core.List.{List, [], ◌∷◌, ◌++◌, map, append_assoc, append-nil}
use mathlib.Core.Bool.{Bool, true, false}
use Prim.Native.Nat.{ℕ, suc, ◌+◌, ◌-◌, ◌%◌, ◌≤◌, ◌<◌}
use native.Mathlib.Nat.{add-zero, zero-add, mod-lt, mod-add-mod, mod-eq_of_lt}
use native.Mathlib.Omega.{arith}
use lib.ListN.{length, take, replicate, length-append, length-replicate}
use lib.Dec.{eqb, lit<}
use lib.Pow.{pow_pos}
use borrow.Author.Tests.{eqb-true, eq-eqb}
use Rattle.octets.specs.Basics.{pick, All}
use Rattle.octets.proofs.Fronts.{all_joined}
use Rattle.packets.specs.Packet.{WellFormed, end_to_end}
use Rattle.wrapping.specs.Idle.{idle_packet}
use Rattle.packets.proofs.Grown.{look_bounds}
use Rattle.wrapping.proofs.Idles.{idle-length, idle_formed}
use Rattle.frames.specs.Link.{count_width, next_count}
use Rattle.frames.specs.Frame.{idle_zone, no_start, in_range, frame_length}
use Rattle.frames.specs.declared.Settings.{Settings}
use Rattle.frames.proofs.Framed.{framed, Framed, framed_is, pointer_beyond}
use Rattle.frames.proofs.Settled.{Settled, settled}
use Rattle.multiplexer.specs.Multiplex.{filled_frame, filled_mux, put, flush, idle_frame}
use Rattle.multiplexer.specs.Calls.{Call, to_put, to_flush, to_idle, doing}
use Rattle.multiplexer.proofs.Answers.{done}
use Rattle.multiplexer.proofs.Filling.{frame_written}
use Rattle.multiplexer.proofs.Records.{passing, empty_passes, next_on_wheel}
use Rattle.multiplexer.proofs.Unrefused.{flush_unrefused, idle_unrefused}
use Rattle.carries.specs.Carries.{starts, Between}
use Rattle.carries.specs.Careful.{Sending, set_out, answered, after, until_taken, with_care, run_from, run, filler, offered, Formed}
use Rattle.carries.specs.Demand2List.{Delivers, OrdersCarried, ListCarried}
use Rattle.carries.proofs.CarefulPuts.{length_snoc, At, Rests, Flushed, at_by, filled_at, lent_now, put_closes, puts_end}
use Rattle.carries.proofs.FirstStarts.{Some, first_start_empty, between_ends}
use Rattle.carries.proofs.FrameRuns.{count_at, Runs, runs_end, runs_idle, runs_carry}

-- a run at its end, where all of ws is put
record Ended (s : Settings) (ws : List (List ℕ)) (x : Sending) : Type 0 where
  accepted : All (λ refusal. refusal ≡ 0) x.refusals
  runs : Runs s ws 0 0 x.written

module _ (s : Settings) (e : in_range s ≡ true) (range : Settled s) (lend : ℕ → List ℕ) (lent : (n : ℕ) → frame_length s ≤ length (lend n)) where
  -- ---- a flush leaves an empty zone

  module _ (ws qs rest : List (List ℕ)) (x : Sending) (some : Some qs) (rests : Rests s ws x (length (end_to_end qs))) where
    -- where it writes nothing
    flush_empty : x.mux.filled ≡ 0
        → Flushed s ws (answered s lend x (doing (record { full = false; taken = false; mux = x.mux; frame = x.frame }))) (length (end_to_end qs))
    flush_empty empty =
        let at : At s ws x (length (end_to_end qs)) = rests.at in
        record {
          rests =
              record {
                at =
                    record {
                      base = at.base;
                      zones = at.zones;
                      cut = at.cut;
                      here = at.here;
                      reach = at.reach;
                      long = at.long;
                      held = at.held;
                      begins = at.begins;
                      before = at.before;
                      accepted = (refl, at.accepted);
                    };
                none = rests.none;
              };
          empty = empty;
        }

    flush_done : after s lend x to_flush ≡ answered s lend x (doing (flush s x.mux x.frame))
    flush_done =
        ap (answered s lend x)
        (done s x.mux to_flush x.frame refl
        (flush_unrefused s x.mux (length x.frame) (lent_now s e range lend lent ws x _ rests.at) rests.none))

    flush_step : ws ≡ qs ++ (filler s x.mux.filled ++ rest)
        → Flushed s ws (answered s lend x (doing (flush s x.mux x.frame))) (length (end_to_end (qs ++ filler s x.mux.filled)))
    unfolding filler flush
    flush_step = go (eqb x.mux.filled 0) refl
      where
        p : List ℕ
        p = idle_packet s.fill (s.zone - x.mux.filled)

        room : x.mux.filled < s.zone
        room = (passing s range x.mux rests.at.reach).room

        go : (b : Bool) → eqb x.mux.filled 0 ≡ b → ws ≡ qs ++ (pick b [] (p ∷ []) ++ rest)
            → Flushed s ws (answered s lend x (doing (pick b (record { full = false; taken = false; mux = x.mux; frame = x.frame }) (put s x.mux p x.frame))))
            (length (end_to_end (qs ++ pick b [] (p ∷ []))))
        go true d cut = rw (append-nil qs) (flush_empty (eqb-true _ _ d))
        go false d cut = put_closes s e range lend lent ws qs rest x some rests p (idle-length s.fill (s.zone - x.mux.filled) (omega (arith, room))) cut

  -- ---- an idle zone puts no octet of the packets

  module _ (ws qs rest : List (List ℕ)) (cut : ws ≡ qs ++ rest) (x : Sending) (flushed : Flushed s ws x (length (end_to_end qs))) where
    at_now : At s ws x (length (end_to_end qs))
    at_now = flushed.rests.at

    abbrev zone_now : List ℕ
    zone_now = replicate s.zone s.fill

    abbrev frame_now : List ℕ
    frame_now = take (frame_length s) (filled_frame s x.mux idle_zone zone_now x.frame)

    after_idle : Sending
    after_idle =
        record {
          mux = record { count = next_count (count_width s.link) x.mux.count; filled = 0; first = no_start; taken = 0 };
          frame = lend (suc (length x.written));
          written = x.written ++ (frame_now ∷ []);
          refusals = 0 ∷ x.refusals;
        }

    idle_done : after s lend x to_idle ≡ answered s lend x (doing (idle_frame s x.mux x.frame))
    idle_done =
        ap (answered s lend x)
        (done s x.mux to_idle x.frame refl
        (idle_unrefused s x.mux (length x.frame) (lent_now s e range lend lent ws x _ at_now) flushed.rests.none flushed.empty))

    idle_cases : answered s lend x (doing (idle_frame s x.mux x.frame)) ≡ after_idle
    unfolding idle_frame filled_mux after_idle
    idle_cases = rw (eq-eqb (x.mux.filled + s.zone) s.zone (omega (arith, flushed.empty))) refl

    idle_framed : Framed s x.mux.count idle_zone zone_now frame_now
    unfolding framed
    idle_framed =
        let long : length zone_now ≡ s.zone = length-replicate s.zone s.fill in
        let written : frame_now ≡ framed s x.mux.count idle_zone zone_now =
        frame_written s x.mux idle_zone zone_now x.frame (omega (arith, flushed.empty)) at_now.long ∙ rw flushed.empty refl in
        rw written
        (framed_is s x.mux.count idle_zone zone_now e (passing s range x.mux at_now.reach).wheel (lit< tt) long
        (pointer_beyond s idle_zone (lit< tt)))

    -- the octets of the frames written end where a packet ends
    between_now : Between ws at_now.base
    between_now =
        let ended : at_now.base ≡ length (end_to_end qs) = omega (arith, at_now.here, flushed.empty) in
        rw (ended, cut) (between_ends qs rest)

    after_idle_flushed : Flushed s ws after_idle (length (end_to_end qs))
    unfolding after_idle
    after_idle_flushed =
        record {
          rests =
              record {
                at =
                    record {
                      base = at_now.base;
                      zones = at_now.zones;
                      cut = at_now.cut;
                      here = omega (arith, at_now.here, flushed.empty);
                      reach = empty_passes s range _ 0 (next_on_wheel s x.mux.count) (omega (arith, range.limit_least));
                      long = lent (suc (length x.written));
                      held = refl;
                      begins = sym (first_start_empty at_now.base (starts 0 ws));
                      before = λ fs r.
                          rw (append_assoc x.written)
                          (at_now.before (frame_now ∷ fs)
                          (runs_idle s range ws x.mux.count at_now.base frame_now fs zone_now idle_framed between_now r));
                      accepted = (refl, at_now.accepted);
                    };
                none = refl;
              };
          empty = refl;
        }

    idle_step : Flushed s ws (after s lend x to_idle) (length (end_to_end qs))
    idle_step = rw (idle_done ∙ idle_cases) after_idle_flushed

  -- ---- the run

  -- what holds of the idle packet holds of all that a flush writes
  filler_all : (P : List ℕ → Type 0) (filled : ℕ) → P (idle_packet s.fill (s.zone - filled)) → All P (filler s filled)
  unfolding filler
  filler_all P filled h = go (eqb filled 0)
    where
      go : (b : Bool) → All P (pick b [] (idle_packet s.fill (s.zone - filled) ∷ []))
      go true = tt
      go false = (h, tt)

  ended : (ws : List (List ℕ)) (x : Sending) → Flushed s ws x (length (end_to_end ws)) → Ended s ws x
  ended ws x flushed =
      let at : At s ws x (length (end_to_end ws)) = flushed.rests.at in
      let last : Runs s ws 0 0 (x.written ++ []) =
      at.before [] (runs_end s ws x.mux.count at.base (omega (arith, at.here, flushed.empty))) in
      record { accepted = at.accepted; runs = rw append-nil at last }

  -- the orders cs, from any place between packets on, put what they offer
  abbrev Ends : List Call → Type 0
  Ends cs =
      (ws qs : List (List ℕ)) (x : Sending) → ws ≡ qs ++ offered s x.mux.filled cs → Some qs → Rests s ws x (length (end_to_end qs))
      → Ended s ws (run_from s lend x cs)

  ends_put : (p : List ℕ) (cs : List Call) → WellFormed s.limit p → Ends cs → Ends (to_put p ∷ cs)
  unfolding run_from with_care offered
  ends_put p cs formed on ws qs x cut some rests =
      let fits = look_bounds s.limit p (omega (arith, range.limit_least)) formed in
      let one : Some (p ∷ []) = (fits.0, tt) in
      let filled : ℕ = (x.mux.filled + length p) % s.zone in
      let y : Sending = until_taken (length p) s lend p x in
      let end : Rests s ws y (length (end_to_end qs) + length p) =
      puts_end s e range lend lent ws qs p (offered s filled cs) cut some formed fits.1 (length p) x
      (at_by (omega (arith, rests.none)) rests.at) (omega (arith, fits.0, rests.none)) (omega arith) in
      let same : filled ≡ y.mux.filled =
      ap (λ (k : ℕ). (k + length p) % s.zone) (filled_at s e range lend lent ws x _ rests.at)
      ∙ mod-add-mod (length (end_to_end qs)) s.zone (length p)
      ∙ sym (filled_at s e range lend lent ws y _ end.at) in
      on ws (qs ++ (p ∷ [])) y
      (cut ∙ sym (append_assoc qs (p ∷ []) (offered s filled cs)) ∙ ap (λ (k : ℕ). (qs ++ (p ∷ [])) ++ offered s k cs) same)
      (all_joined (λ q. 0 < length q) qs (p ∷ []) some one)
      (record { at = at_by (sym (length_snoc qs p)) end.at; none = end.none })

  -- a flush puts its idle packet, and the rest is offered to an empty zone
  record Flushes (ws qs rest : List (List ℕ)) (x : Sending) : Type 0 where
    whole : ws ≡ (qs ++ filler s x.mux.filled) ++ rest
    all : Some (qs ++ filler s x.mux.filled)
    flushed : Flushed s ws (after s lend x to_flush) (length (end_to_end (qs ++ filler s x.mux.filled)))

  flushes : (rest ws qs : List (List ℕ)) (x : Sending) → ws ≡ qs ++ (filler s x.mux.filled ++ rest) → Some qs
      → Rests s ws x (length (end_to_end qs)) → Flushes ws qs rest x
  flushes rest ws qs x cut some rests =
      let idle : List (List ℕ) = filler s x.mux.filled in
      let room : x.mux.filled < s.zone = (passing s range x.mux rests.at.reach).room in
      let some-idle : Some idle =
      filler_all (λ q. 0 < length q) x.mux.filled (omega (arith, idle-length s.fill (s.zone - x.mux.filled) (omega arith))) in
      record {
        whole = cut ∙ sym (append_assoc qs idle rest);
        all = all_joined (λ q. 0 < length q) qs idle some some-idle;
        flushed = rw (flush_done ws qs rest x some rests) (flush_step ws qs rest x some rests cut);
      }

  go_on : (cs : List Call) → Ends cs → (ws qs : List (List ℕ)) (x : Sending) → ws ≡ qs ++ offered s 0 cs → Some qs
      → Flushed s ws x (length (end_to_end qs)) → Ended s ws (run_from s lend x cs)
  go_on cs on ws qs x cut some flushed = on ws qs x (rw flushed.empty cut) some flushed.rests

  ends_none : Ends []
  unfolding run_from offered
  ends_none ws qs x cut some rests =
      let idle : List (List ℕ) = filler s x.mux.filled in
      let f : Flushes ws qs [] x = flushes [] ws qs x (cut ∙ ap (λ (l : List (List ℕ)). qs ++ l) (sym (append-nil idle))) some rests in
      ended ws (after s lend x to_flush) (rw (← cut) at f.flushed)

  ends_flush : (cs : List Call) → Ends cs → Ends (to_flush ∷ cs)
  unfolding run_from with_care offered
  ends_flush cs on ws qs x cut some rests =
      let f : Flushes ws qs (offered s 0 cs) x = flushes (offered s 0 cs) ws qs x cut some rests in
      go_on cs on ws (qs ++ filler s x.mux.filled) (after s lend x to_flush) f.whole f.all f.flushed

  ends_idle : (cs : List Call) → Ends cs → Ends (to_idle ∷ cs)
  unfolding run_from with_care offered
  ends_idle cs on ws qs x cut some rests =
      let y : Sending = after s lend x to_flush in
      let now : List (List ℕ) = qs ++ filler s x.mux.filled in
      let f : Flushes ws qs (offered s 0 cs) x = flushes (offered s 0 cs) ws qs x cut some rests in
      go_on cs on ws now (after s lend y to_idle) f.whole f.all (idle_step ws now (offered s 0 cs) f.whole y f.flushed)

  ends : (cs : List Call) → All (Formed s) cs → Ends cs
  ends [] formed = ends_none
  ends (to_put p ∷ cs) formed = ends_put p cs formed.0 (ends cs formed.1)
  ends (to_flush ∷ cs) formed = ends_flush cs (ends cs formed.1)
  ends (to_idle ∷ cs) formed = ends_idle cs (ends cs formed.1)

  run_ends : (cs : List Call) → All (Formed s) cs → Ended s (offered s 0 cs) (run s lend cs)
  run_ends cs formed =
      ends cs formed (offered s 0 cs) [] (set_out lend) refl tt
      (record {
        at =
            record {
              base = 0;
              zones = 0;
              cut = omega arith;
              here = refl;
              reach = empty_passes s range 0 0 (pow_pos (count_width s.link)) (omega (arith, range.limit_least));
              long = lent 0;
              held = refl;
              begins = sym (first_start_empty 0 (starts 0 (offered s 0 cs)));
              before = λ fs r. r;
              accepted = tt;
            };
        none = refl;
      })

  -- ---- what is offered is well formed

  filler_formed : (filled : ℕ) → filled < s.zone → All (WellFormed s.limit) (filler s filled)
  filler_formed filled room =
      filler_all (WellFormed s.limit) filled
      (idle_formed s.fill (s.zone - filled) (omega arith) s.limit (omega (arith, range.zone_limit)) (omega (arith, range.zone_most)))

  offered_formed : (filled : ℕ) (cs : List Call) → filled < s.zone → All (Formed s) cs → All (WellFormed s.limit) (offered s filled cs)
  unfolding offered
  offered_formed filled [] room formed = filler_formed filled room
  offered_formed filled (to_put p ∷ cs) room formed =
      (formed.0, offered_formed ((filled + length p) % s.zone) cs (mod-lt (filled + length p) range.zone_least) formed.1)
  offered_formed filled (to_flush ∷ cs) room formed =
      all_joined (WellFormed s.limit) (filler s filled) (offered s 0 cs) (filler_formed filled room) (offered_formed 0 cs range.zone_least formed.1)
  offered_formed filled (to_idle ∷ cs) room formed =
      all_joined (WellFormed s.limit) (filler s filled) (offered s 0 cs) (filler_formed filled room) (offered_formed 0 cs range.zone_least formed.1)

-- a run with care delivers, whatever is lent for its frames
pub run_delivers : OrdersCarried
run_delivers s lend cs lends formed =
    let e : in_range s ≡ true = lends.ranged in
    let range : Settled s = settled s e in
    let end : Ended s (offered s 0 cs) (run s lend cs) = run_ends s e range lend lends.enough cs formed in
    record {
      accepted = end.accepted;
      carries =
          runs_carry s (offered s 0 cs) 0 (run s lend cs).written end.runs
          (offered_formed s e range lend lends.enough 0 cs range.zone_least formed);
      counted = λ i h. count_at s i (run s lend cs).written end.runs.counts h;
    }

-- ---- a list of packets

-- it is offered as it stands, with the idle packet of the flush at its end
list_offered : (s : Settings) (filled : ℕ) (ps : List (List ℕ)) → filled < s.zone
    → offered s filled (map to_put ps) ≡ ps ++ filler s ((filled + length (end_to_end ps)) % s.zone)
unfolding offered
list_offered s filled [] room = ap (filler s) (sym (ap (λ (k : ℕ). k % s.zone) (add-zero filled) ∙ mod-eq_of_lt room))
list_offered s filled (p ∷ ps) room =
    let some-zone : 0 < s.zone = omega arith in
    ap (λ (l : List (List ℕ)). p ∷ l)
    (list_offered s ((filled + length p) % s.zone) ps (mod-lt (filled + length p) some-zone)
    ∙ ap (λ (k : ℕ). ps ++ filler s k)
    (mod-add-mod (filled + length p) s.zone (length (end_to_end ps))
    ∙ ap (λ (k : ℕ). k % s.zone) (omega (arith, length-append p (end_to_end ps)))))

list_formed : (s : Settings) (ps : List (List ℕ)) → All (WellFormed s.limit) ps → All (Formed s) (map to_put ps)
list_formed s [] formed = tt
list_formed s (p ∷ ps) formed = (formed.0, list_formed s ps formed.1)

pub list_carried : ListCarried
list_carried s lend ps lends formed =
    let d : Delivers s (map to_put ps) (run s lend (map to_put ps)) = run_delivers s lend (map to_put ps) lends (list_formed s ps formed) in
    rw (list_offered s 0 ps (settled s lends.ranged).zone_least, zero-add (length (end_to_end ps))) at d.carries
