-- Demand 2's list, events and loss flags, and Demand 3, hold of the C calls: their runs are the library's.
-- Assumes nothing.
use mathlib.Core.Path.{◌≡◌, refl, sym, ap, ◌∙◌, subst}
use mathlib.Core.List.{List, ◌∷◌, map}
use mathlib.Core.Bool.{Bool, true, false}
use mathlib.Core.Logic.{◌⊎◌, inl, inr}
use Prim.Native.Nat.{ℕ, ◌≤◌, ◌<◌, min}
use native.Mathlib.Omega.{arith}
use lib.ListN.{length, get_or}
use lib.Dec.{leb}
use borrow.Author.Tests.{lt-leb, le-leb}
use Rattle.octets.specs.Basics.{All}
use Rattle.frames.specs.Frame.{in_range}
use Rattle.frames.specs.BitFrame.{bits_in_range}
use Rattle.octets.proofs.Choices.{and_false}
use Rattle.frames.specs.Link.{link_in_range}
use Rattle.frames.specs.declared.Edition.{Edition}
use Rattle.frames.specs.declared.Edition.TheVariants.{Former, CycleUnused, CycleUsed}
use Rattle.frames.specs.declared.Link.{Link}
use Rattle.frames.specs.declared.Settings.{Settings}
use Rattle.frames.specs.declared.bits.BitSettings.{BitSettings}
use Rattle.frames.proofs.Settled.{Linked, settled}
use Rattle.frames.proofs.bits.Settled.{bits_settled}
use Rattle.multiplexer.specs.Calls.{Call, to_put}
use Rattle.extractor.specs.Extract.{events_in}
use Rattle.extractor.specs.Calls.{Listened}
use Rattle.extractor.proofs.Theorems.{says_the_rules}
use Rattle.judge.specs.Calls.{frame_call, CloseSaid, RunCalls}
use Rattle.judge.specs.Tapes.{tape_call}
use Rattle.judge.proofs.Theorems.{keeps_to_the_test}
use Rattle.arrays.specs.Arrays.{bit}
use Rattle.exports.specs.Channel.{settings_numbers, edition_number, edition_of, zone_for, link_of, settings_of}
use Rattle.exports.specs.Bits.{bit_settings_of}
use Rattle.carries.specs.Careful.{Sending, run}
use Rattle.carries.specs.Demand2List.{Delivers}
use Rattle.demands.specs.Demand3.{HandsOver}
use Rattle.demands.specs.OverC.Sending.{run_in_c}
use Rattle.demands.specs.OverC.{Long, RunsInC, HandedOverInC, Demand2InC, Demand3InC, OverC}
use Rattle.carries.proofs.CarefulRuns.{run_delivers, list_carried}
use Rattle.demands.proofs.Demand3.{demand_3}
use Rattle.demands.proofs.OverC.Arrays.{flag_back}
use Rattle.demands.proofs.OverC.Judges.{judged_in_c, closed_in_c}
use Rattle.demands.proofs.OverC.Listens.{names_inside, listens_in_c, smooth_in_c}
use Rattle.demands.proofs.RoundTrips.{orders_handed_over, list_handed_over}
use Rattle.demands.proofs.OverC.Sends.{sends_in_c}
use Rattle.demands.proofs.OverC.Reads.{losses_in_c}
pub mod Arrays
pub mod Sends
pub mod Names
pub mod Listens
pub mod Judges
pub mod Reads

uncut : (n most : ℕ) → n ≤ most → min n most ≡ n
uncut n most h = omega arith

-- a flag as a number is 0 or 1
flag_fits : (b : Bool) → leb (bit b) 1 ≡ true
flag_fits true = refl
flag_fits false = refl

-- and an edition's number is one of three
edition_fits : (e : Edition) → leb (edition_number e) 2 ≡ true
edition_fits Former = refl
edition_fits CycleUnused = refl
edition_fits CycleUsed = refl

edition_back : (e : Edition) → edition_of (edition_number e) ≡ e
unfolding edition_of
edition_back Former = refl
edition_back CycleUnused = refl
edition_back CycleUsed = refl

-- the link, and the octets of the zone, behind the numbers that state them
link_stated : (l : Link) (rest : List ℕ) → Linked l
    → link_of (l.spacecraft ∷ l.channel ∷ rest) (bit l.trailed) (edition_number l.edition) ≡ l
unfolding link_of
link_stated l rest range =
    rw (
      uncut l.spacecraft 4294967295 (omega arith),
      uncut l.channel 4294967295 (omega arith),
      flag_back l.trailed,
      edition_back l.edition,
    )
    refl

zone_stated : (zone fill : ℕ) (on : Bool) (e : Edition) → fill ≤ 255 → zone_for zone fill (bit on) (edition_number e) ≡ zone
unfolding zone_for
zone_stated zone fill on e octet = rw (le-leb fill 255 octet, flag_fits on, edition_fits e) refl

states : (s : Settings) (rest : List ℕ) → in_range s ≡ true → s.fill ≤ 255
    → settings_of (s.link.spacecraft ∷ s.link.channel ∷ s.zone ∷ s.limit ∷ s.fill ∷ bit s.link.trailed ∷ edition_number s.link.edition ∷ rest) ≡ s
unfolding settings_of
states s rest ok octet =
    rw (link_stated s.link _ (settled s ok).on_link, zone_stated s.zone s.fill s.link.trailed s.link.edition octet, uncut s.fill 255 octet) refl

bits_state : (s : BitSettings) (rest : List ℕ) → bits_in_range s ≡ true → s.fill ≤ 255
    → bit_settings_of (s.link.spacecraft ∷ s.link.channel ∷ s.width ∷ s.fill ∷ bit s.link.trailed ∷ edition_number s.link.edition ∷ rest) ≡ s
unfolding bit_settings_of
bits_state s rest ok octet =
    rw (link_stated s.link _ (bits_settled s ok).on_link, zone_stated s.width s.fill s.link.trailed s.link.edition octet, uncut s.fill 255 octet) refl

-- numbers that state none leave a zone of no octets, which is out of range
zone_unstated : (zone fill trailer edition : ℕ) → (255 < fill) ⊎ (1 < trailer) ⊎ (2 < edition) → zone_for zone fill trailer edition ≡ 0
unfolding zone_for
zone_unstated zone fill trailer edition (inl h) = rw (lt-leb fill 255 h) refl
zone_unstated zone fill trailer edition (inr (inl h)) = rw (lt-leb trailer 1 h, and_false (leb fill 255)) refl
zone_unstated zone fill trailer edition (inr (inr h)) = rw (lt-leb edition 2 h, and_false (leb trailer 1), and_false (leb fill 255)) refl

unstated : (settings : List ℕ) → (255 < get_or settings 4 0) ⊎ (1 < get_or settings 5 0) ⊎ (2 < get_or settings 6 0) → in_range (settings_of settings) ≡ false
unfolding settings_of in_range
unstated settings h =
    rw (zone_unstated (get_or settings 2 0) (get_or settings 4 0) (get_or settings 5 0) (get_or settings 6 0) h)
    (and_false (link_in_range (link_of settings (get_or settings 5 0) (get_or settings 6 0))))

bits_unstated : (settings : List ℕ) → (255 < get_or settings 3 0) ⊎ (1 < get_or settings 4 0) ⊎ (2 < get_or settings 5 0) → bits_in_range (bit_settings_of settings) ≡ false
unfolding bit_settings_of bits_in_range
bits_unstated settings h =
    rw (zone_unstated (get_or settings 2 0) (get_or settings 3 0) (get_or settings 4 0) (get_or settings 5 0) h)
    (and_false (link_in_range (link_of settings (get_or settings 4 0) (get_or settings 5 0))))

module _ (settings : List ℕ) (stated : settings_numbers ≤ length settings) where
  abbrev s : Settings
  s = settings_of settings

  runs_in_c : RunsInC settings s
  runs_in_c = record {
    sending = λ array answer lend cs l. sends_in_c settings stated array answer lend cs l.numbers l.answers;
    listening = λ array store answer fs l. listens_in_c settings stated array store answer l.numbers l.answers fs;
    judging = λ array store fs l. judged_in_c frame_call keeps_to_the_test.frame settings stated array store l fs;
    closing = λ array store answer fs l. closed_in_c frame_call keeps_to_the_test.frame settings stated array store l.numbers fs answer l.answers;
    judging_tapes = λ array store ts l. judged_in_c tape_call keeps_to_the_test.tape settings stated array store l ts;
    closing_tapes = λ array store answer ts l. closed_in_c tape_call keeps_to_the_test.tape settings stated array store l.numbers ts answer l.answers;
    naming = λ numbers store f answer l. names_inside settings stated f numbers store answer l;
  }

  -- the frames that C calls wrote
  same_frames : (array answer : List ℕ) (lend : ℕ → List ℕ) (cs : List Call) → Long array answer 3
      → (run_in_c settings array answer lend cs).written ≡ (run s lend cs).written
  same_frames array answer lend cs l = ap (λ (x : Sending). x.written) (runs_in_c.sending array answer lend cs l)

  -- what the library's extractor hands over, C calls hand over
  hand_over : (fs ps : List (List ℕ)) → ((store : List ℕ) → s.limit ≤ length store → HandsOver s store fs ps) → HandedOverInC settings s fs ps
  hand_over fs ps over array store answer l room =
      let h : HandsOver s store fs ps = over store room in
      record {
        smooth = smooth_in_c settings stated array store answer l.numbers l.answers fs h.smooth;
        exactly = ap (λ (r : Listened). events_in r.told) (runs_in_c.listening array store answer fs l) ∙ h.exactly;
      }

  demand_2_in_c : Demand2InC settings s
  demand_2_in_c = record {
    orders = λ array answer lend cs l lends formed.
        subst (λ (x : Sending). Delivers s cs x) (sym (runs_in_c.sending array answer lend cs l)) (run_delivers s lend cs lends formed);
    orders_back = λ array answer lend cs l lends formed.
        rw (same_frames array answer lend cs l) (hand_over _ _ (λ store room. orders_handed_over s lend store cs lends room formed));
    list = λ array answer lend ps l lends formed.
        rw (same_frames array answer lend (map to_put ps) l) (list_carried s lend ps lends formed);
    list_back = λ array answer lend ps l lends formed.
        rw (same_frames array answer lend (map to_put ps) l) (hand_over _ _ (λ store room. list_handed_over s lend store ps lends room formed));
    events = λ array store answer fs l fit.
        ap (λ (r : Listened). r.told) (runs_in_c.listening array store answer fs l) ∙ says_the_rules s store fs fit;
  }

  demand_3_in_c : Demand3InC settings s
  demand_3_in_c array store answer fs l fit few =
      let d = demand_3 s store fs fit.0 fit.1 few in
      let closed = runs_in_c.closing array store answer fs l in
      let passed = ap (λ (c : CloseSaid). c.passes) closed in
      record {
        frames_accepted = subst (λ (r : RunCalls). All (λ n. n ≡ 0) r.refusals) (sym (runs_in_c.judging array store fs l.numbers)) d.frames_accepted;
        close_accepted = ap (λ (c : CloseSaid). c.refusal) closed ∙ d.close_accepted;
        passes_exactly = ((λ e. d.passes_exactly.0 (sym passed ∙ e)), (λ c. passed ∙ d.passes_exactly.1 c));
        handed_over = λ ps c. hand_over fs ps (d.handed_over ps c);
        tapes_accepted = λ ts c.
            subst (λ (r : RunCalls). All (λ n. n ≡ 0) r.refusals) (sym (runs_in_c.judging_tapes array store ts l.numbers)) (d.in_tapes ts c).tapes_taken;
        tapes_close = λ ts c. runs_in_c.closing_tapes array store answer ts l ∙ d.tapes_close ts c ∙ sym closed;
      }

pub over_c : OverC
over_c = record { runs = runs_in_c; demand_2 = demand_2_in_c; losses = losses_in_c; demand_3 = demand_3_in_c; stated = states; bits_stated = bits_state; unstated = unstated; bits_unstated = bits_unstated }
