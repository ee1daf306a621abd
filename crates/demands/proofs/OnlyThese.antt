-- Every call answers one of its numbers: the first row that holds is one of the rows.
-- Assumes nothing.
use Prim.Native.Nat.{ℕ}
use mathlib.Core.Path.{◌≡◌, refl, sym, ap, subst, ◌∙◌}
use mathlib.Core.List.{List, [], ◌∷◌, map}
use mathlib.Core.Bool.{Bool, true, false, not}
use lib.ListN.{length, take}
use lib.Dec.{eqb}
use borrow.Author.Tests.{eq-eqb}
use Rattle.octets.specs.Basics.{pick, Row, row, first}
use Rattle.octets.proofs.Choices.{refusal_kept}
use Rattle.packets.specs.Packet.{carried, limit_in_range, look}
use Rattle.packets.specs.Header.{bare, told}
use Rattle.wrapping.specs.Idle.{idle_packet_rows}
use Rattle.wrapping.specs.Wrap.{wrapped_total, wrap_rows, Wrapping, wrapping}
use Rattle.packets.specs.Unwrap.{unwrap_rows, Unwrapping, unwrapping}
use Rattle.relay.specs.Table.{load_rows, table_of, entries_of, Loaded}
use Rattle.relay.specs.Route.{path, route_rows, Routing, routing}
use Rattle.relay.specs.Route as relay
use Rattle.relay.proofs.Ways.{written_unrefused}
use Rattle.space.specs.Space.{SpaceReading, space_read_rows, space_refused, space_reading, space_reads, space_rows, space_writing}
use Rattle.frames.specs.Link.{header_rows, written_rows}
use Rattle.frames.specs.Frame.{count, replay, pointer, frame_rows, heading_rows, heading_of, heading, head_rows}
use Rattle.frames.specs.BitFrame.{bit_count, bit_replay, bit_pointer, bit_frame_rows, bit_heading_rows, bit_heading, bit_head_rows}
use Rattle.frames.specs.Shape.{Heading}
use Rattle.frames.specs.declared.Settings.{Settings}
use Rattle.multiplexer.specs.Multiplex.{put_rows, flush_rows, idle_rows}
use Rattle.multiplexer.specs.Calls.{Call, to_put, to_flush, to_idle, call_rows, call, call_damage, refusing, doing, answer}
use Rattle.multiplexer.specs.declared.Mux.{Mux}
use Rattle.extractor.specs.Records.{checked, enter_rows, steps_to, step_rows, step, step_call}
use Rattle.extractor.specs.Answers.{refused_enter, entered_as, enter_answer, refused_step, said, found_numbers, step_answer}
use Rattle.extractor.specs.Calls.{spend_answer}
use Rattle.extractor.specs.Found.{Refused}
use Rattle.judge.specs.Calls.{judge_frame, frame_refusals, judge_answers, judge_refused, frame_call, judge_close, close_rows, close_refused, close_says, closes_with, close_call}
use Rattle.judge.specs.Tapes.{tape_refusals, tape_call}
use Rattle.bitstream.specs.Bitstream.{write_rows, no_writing, Wrote, wrote, written, read_rows, Reading, no_reading, reading}
use Rattle.carries.specs.Carries.{Among}
use Rattle.demands.specs.Numbers.Only.{OnlyThese}
use Rattle.demands.proofs.Promised.{by_rows, through}
use Rattle.demands.proofs.calls.Extractor.{unrefused}
use Rattle.demands.proofs.calls.Judge.{closes_unrefused}
use Rattle.demands.proofs.calls.Packets.{told_unrefused, reading_by_row}
use Rattle.demands.proofs.calls.Relay.{loading_by_row}

abbrev numbers : List Row → List ℕ
numbers rows = map (λ (r : Row). r.refusal) rows

-- a list that is longer has it too, and a list that begins with it
later : (n m : ℕ) (ms : List ℕ) → Among n ms → Among n (m ∷ ms)
later n m ms h = go (eqb n m)
  where
    go : (t : Bool) → pick t (Unit {0}) (Among n ms)
    go true = tt
    go false = h

here : (n : ℕ) (ms : List ℕ) → Among n (n ∷ ms)
here n ms = subst (λ (t : Bool). pick t (Unit {0}) (Among n ms)) (sym (eq-eqb n n refl)) tt

behind : (n a b : ℕ) (ms : List ℕ) → Among n (a ∷ ms) → Among n (a ∷ b ∷ ms)
behind n a b ms h = go (eqb n a) h
  where
    go : (t : Bool) → pick t (Unit {0}) (Among n ms) → pick t (Unit {0}) (Among n (b ∷ ms))
    go true g = tt
    go false g = later n b ms g

first_among : (rows : List Row) → Among (first rows) (0 ∷ numbers rows)
unfolding first
first_among [] = tt
first_among (r ∷ rs) = go r.holds (first_among rs)
  where
    go : (t : Bool) → Among (first rs) (0 ∷ numbers rs) → Among (pick t r.refusal (first rs)) (0 ∷ r.refusal ∷ numbers rs)
    go true h = later r.refusal 0 (r.refusal ∷ numbers rs) (here r.refusal (numbers rs))
    go false h = behind (first rs) 0 r.refusal (numbers rs) h

-- so where what is said goes by the rows
among : {B : Type 0} (number : B → ℕ) (rows : List Row) (done : B) (refused : ℕ → B) {given : B}
    → given ≡ by_rows rows done refused → number done ≡ 0 → ((n : ℕ) → number (refused n) ≡ n) → Among (number given) (0 ∷ numbers rows)
among number rows done refused rule none own =
    subst (λ (n : ℕ). Among n (0 ∷ numbers rows))
    (sym (ap number rule ∙ refusal_kept number (first rows) done (refused (first rows)) none (own (first rows))))
    (first_among rows)

called : (s : Settings) (m : Mux) (c : Call) (frame : List ℕ) → Among (answer s m c frame).refusal (0 ∷ numbers (call_rows s m c (length frame)))
unfolding answer
called s m c frame =
    among (λ a. a.refusal) (call_rows s m c (length frame)) (doing (call s m c frame)) (λ n. refusing n (call_damage s c n) m frame) refl refl (λ n. refl)

headed : (rows : List Row) (c r p : ℕ) → Among (heading_of (first rows) c r p).refusal (0 ∷ numbers rows)
unfolding heading_of
headed rows c r p =
    among (λ (h : Heading). h.refusal) rows (record { refusal = 0; count = c; replay = r; pointer = p })
    (λ n. record { refusal = n; count = 0; replay = 0; pointer = 0 }) refl refl (λ n. refl)

pub only_these : OnlyThese
unfolding put_rows flush_rows idle_rows enter_rows frame_rows header_rows step_rows frame_refusals tape_refusals close_rows wrap_rows unwrap_rows space_rows write_rows read_rows bit_frame_rows heading_rows bit_heading_rows written_rows head_rows bit_head_rows heading bit_heading idle_packet_rows space_read_rows space_reading space_reads enter_answer step_answer step_call found_numbers spend_answer frame_call tape_call close_call close_says wrapping unwrapping space_writing load_rows route_rows routing written reading
only_these = record {
  put = λ s m p frame. called s m (to_put p) frame;
  flush = λ s m frame. called s m to_flush frame;
  idle = λ s m frame. called s m to_idle frame;
  enter = λ s x store f.
      among (λ a. a.answer.refusal) (enter_rows s x store f) (entered_as s x store f) (refused_enter x) refl refl (λ n. refl);
  step = λ s x store f.
      among (λ a. a.answer.refusal) (step_rows s x store f) (said f (step s f store x))
      (λ n. record { answer = refused_step n; next = x; store = store })
      (through (said f) (eqb (first (step_rows s x store f)) 0) (step s f store x) (steps_to (Refused (first (step_rows s x store f))) x store))
      (unrefused s f store x) (λ n. refl);
  spend = λ s x store f. first_among (step_rows s x store f);
  held = λ s x store. first_among (checked s x store []);
  judge = λ s store j f.
      among (λ a. a.refusal) (frame_refusals s store j) (judge_answers 0 (judge_frame s store j f)) (judge_refused j store) refl refl (λ n. refl);
  tape = λ s store j t.
      among (λ a. a.refusal) (tape_refusals s store j t) _ (judge_refused j store) refl refl (λ n. refl);
  close = λ s store j.
      among (λ a. a.refusal) (close_rows s store j) (close_says (closes_with (judge_close j))) close_refused refl (closes_unrefused (judge_close j)) (λ n. refl);
  wrap = λ limit protocol extension unit output.
      among (λ (a : Wrapping). a.refusal) (wrap_rows limit protocol extension (length unit) (wrapped_total protocol (length unit)) (length output))
      _ (λ n. record { accepted = false; refusal = n; damage = 0; total = 0; output = output }) refl refl (λ n. refl);
  unwrap = λ limit p.
      among (λ (a : Unwrapping). a.refusal) (unwrap_rows limit p) _
      (λ n. record { accepted = false; refusal = n; damage = carried n limit p; protocol = 0; extension = 0; start = 0; size = 0 }) refl refl (λ n. refl);
  load = λ old count lent.
      among (λ (a : Loaded). a.refusal) (load_rows count (take count lent)) (record { refusal = 0; table = table_of (take count lent) })
      (λ n. record { refusal = n; table = old }) (loading_by_row old count lent) refl (λ n. refl);
  route = λ limit t p output.
      among (λ (a : Routing). a.refusal) (route_rows limit t p (length output)) (relay.written (path (entries_of t) p) output) (λ n. relay.refused n (carried n limit p) output)
      refl (written_unrefused (path (entries_of t) p) output) (λ n. refl);
  header = λ limit os.
      among (λ a. a.refusal) (row 1 (not (limit_in_range limit)) ∷ []) (told os (look limit os)) (λ n. bare n 0 0)
      (reading_by_row limit os) (told_unrefused os (look limit os)) (λ n. refl);
  write_idle = λ r room. first_among (idle_packet_rows r room);
  read_space = λ os.
      among (λ (a : SpaceReading). a.refusal) (space_read_rows os) _ space_refused refl refl (λ n. refl);
  write_space = λ h output. first_among (space_rows h (length output));
  write_bits = λ s w bits n frame.
      among (λ (a : Wrote). a.said.refusal) (write_rows s w n (length bits) (length frame)) _ (λ r. wrote (no_writing r w) frame)
      refl refl (λ r. refl);
  read_bits = λ s x f.
      among (λ (a : Reading). a.refusal) (read_rows s x f) _ (λ n. no_reading n x) refl refl (λ n. refl);
  read_head = λ s f. headed (heading_rows s f) (count s f) (replay s f) (pointer s f);
  read_bit_head = λ s f. headed (bit_heading_rows s f) (bit_count s f) (bit_replay s f) (bit_pointer s f);
  write_head = λ s c p buffer. first_among (head_rows s c p buffer);
  write_bit_head = λ s c p buffer. first_among (bit_head_rows s c p buffer);
}
