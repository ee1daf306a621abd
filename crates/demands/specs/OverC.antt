-- Demand 2's list, events and loss flags, and Demand 3, of the C interface. The arrays that a call leaves state the record that the library hands
-- on, so a run of C calls is the library's run.
use Rattle.std.specs.Prelude.{ℕ, ◌%◌, ◌≤◌, ◌<◌, ◌↔◌, ◌⊎◌, ◌≡◌, List, [], ◌∷◌, ◌++◌, map, true, false, length, get_or}
use Rattle.octets.specs.Basics.{All}
use Rattle.packets.specs.Packet.{WellFormed, end_to_end}
use Rattle.frames.specs.Frame.{in_range, most_frames}
use Rattle.frames.specs.BitFrame.{bits_in_range}
use Rattle.frames.specs.declared.Settings.{Settings}
use Rattle.frames.specs.declared.bits.BitSettings.{BitSettings}
use Rattle.multiplexer.specs.Calls.{Call, to_put}
use Rattle.bitstream.specs.Loss.{run_said}
use Rattle.extractor.specs.Extract.{fresh, marked, told, events_in}
use Rattle.extractor.specs.Calls.{listen}
use Rattle.extractor.specs.Statements.{Fit}
use Rattle.extractor.specs.declared.Extractor.TheVariants.{Fresh}
use Rattle.judge.specs.Calls.{judge_calls, judge_run}
use Rattle.judge.specs.Tapes.{tape_calls, tape_run, CutInto}
use Rattle.judge.specs.declared.Judge.TheVariants.{Open}
use Rattle.arrays.specs.Arrays.{bit}
use Rattle.exports.specs.Left.{Left}
use Rattle.exports.specs.Channel.{settings_numbers, edition_number, settings_of}
use Rattle.exports.specs.Extract.{step_leaves}
use Rattle.exports.specs.Bits.{bit_settings_numbers, bit_settings_of}
use Rattle.carries.specs.Carries.{Carries}
use Rattle.carries.specs.Careful.{run, filler, offered, Formed}
use Rattle.carries.specs.Demand2List.{Lends, Delivers}
use Rattle.demands.specs.Demand3.{Smooth}
use Rattle.demands.specs.OverC.Sending.{as_sending, run_in_c}
use Rattle.demands.specs.OverC.Listening.{Holding, holding, zeroed, Inside, as_finds, FrameInC, frame_in_c, as_listened, listen_in_c}
use Rattle.demands.specs.OverC.Judging.{as_calls, judge_in_c, tapes_in_c, close_in_c, close_tapes_in_c}
use Rattle.demands.specs.OverC.Reading.{reader_zeroed, read_in_c}
pub mod Sending
pub mod Listening
pub mod Judging
pub mod Reading

-- a record's four numbers at least, and so many of an answer
pub record Long (array answer : List ℕ) (room : ℕ) : Type 0 where
  pub numbers : 4 ≤ length array
  pub answers : room ≤ length answer

-- ---- the runs

-- A run of C calls over these settings is the library's run, whatever else the arrays hold: what each call is refused for, the
-- frames written, all that is said of each frame, the verdict, and the record and the store after it. And what any step names lies
-- inside the buffer that it names.
pub record RunsInC (settings : List ℕ) (s : Settings) : Type 0 where
  pub sending : (array answer : List ℕ) (lend : ℕ → List ℕ) (cs : List Call) → Long array answer 3
      → as_sending (run_in_c settings array answer lend cs) ≡ run s lend cs
  pub listening : (array store answer : List ℕ) (fs : List (List ℕ)) → Long array answer 7
      → as_listened (listen_in_c settings (holding (zeroed array) store answer) fs) ≡ listen s Fresh store fs
  pub judging : (array store : List ℕ) (fs : List (List ℕ)) → 4 ≤ length array
      → as_calls (judge_in_c settings (zeroed array) store fs) ≡ judge_calls s store Open fs
  pub closing : (array store answer : List ℕ) (fs : List (List ℕ)) → Long array answer 2
      → close_in_c settings array store answer fs ≡ judge_run s store fs
  pub judging_tapes : (array store : List ℕ) (ts : List (List ℕ)) → 4 ≤ length array
      → as_calls (tapes_in_c settings (zeroed array) store ts) ≡ tape_calls s store Open ts
  pub closing_tapes : (array store answer : List ℕ) (ts : List (List ℕ)) → Long array answer 2
      → close_tapes_in_c settings array store answer ts ≡ tape_run s store ts
  pub naming : (numbers store f answer : List ℕ) → Long numbers answer 5
      → (let l : Left = step_leaves settings numbers store f answer in Inside f l.octets l.answer)

-- ---- the demands

-- all goes well with a run: each frame is entered with nothing lost and nothing dropped, no step is refused or damaged, and the
-- last spends it
unfoldable pub SmoothInC : List ℕ → Holding → List (List ℕ) → Type 0
SmoothInC settings h [] = Unit {0}
SmoothInC settings h (f ∷ fs) =
    let w : FrameInC = frame_in_c settings h f in
    Smooth w.entered (as_finds w.stepped) × SmoothInC settings w.stepped.held fs

-- an extractor, fed the run, hands over exactly these packets, idle ones marked
pub record HandsOverInC (settings : List ℕ) (h : Holding) (fs ps : List (List ℕ)) : Type 0 where
  pub smooth : SmoothInC settings h fs
  pub exactly : events_in (listen_in_c settings h fs).told ≡ marked ps

-- the same of any arrays, and any store, that are long enough
abbrev pub HandedOverInC : List ℕ → Settings → List (List ℕ) → List (List ℕ) → Type 0
HandedOverInC settings s fs ps =
    (array store answer : List ℕ) → Long array answer 7 → s.limit ≤ length store
    → HandsOverInC settings (holding (zeroed array) store answer) fs ps

-- Demand 2: the packets of any orders are carried, and handed over; a list of packets alone; and every event
pub record Demand2InC (settings : List ℕ) (s : Settings) : Type 0 where
  pub orders : (array answer : List ℕ) (lend : ℕ → List ℕ) (cs : List Call) → Long array answer 3 → Lends s lend → All (Formed s) cs
      → Delivers s cs (as_sending (run_in_c settings array answer lend cs))
  pub orders_back : (array answer : List ℕ) (lend : ℕ → List ℕ) (cs : List Call) → Long array answer 3 → Lends s lend
      → All (Formed s) cs → HandedOverInC settings s (run_in_c settings array answer lend cs).written (offered s 0 cs)
  pub list : (array answer : List ℕ) (lend : ℕ → List ℕ) (ps : List (List ℕ)) → Long array answer 3 → Lends s lend
      → All (WellFormed s.limit) ps
      → Carries s (run_in_c settings array answer lend (map to_put ps)).written (ps ++ filler s (length (end_to_end ps) % s.zone))
  pub list_back : (array answer : List ℕ) (lend : ℕ → List ℕ) (ps : List (List ℕ)) → Long array answer 3 → Lends s lend
      → All (WellFormed s.limit) ps
      → HandedOverInC settings s (run_in_c settings array answer lend (map to_put ps)).written
      (ps ++ filler s (length (end_to_end ps) % s.zone))
  pub events : (array store answer : List ℕ) (fs : List (List ℕ)) → Long array answer 7 → Fit s store
      → (listen_in_c settings (holding (zeroed array) store answer) fs).told ≡ told s fresh fs

-- and of a bitstream channel: what a caller reads of each frame of any run, its loss flag included, is what the rule over the whole run gives
abbrev pub LossesInC : List ℕ → BitSettings → Type 0
LossesInC settings s =
    (array answer : List ℕ) (fs : List (List ℕ)) → 3 ≤ length array → 6 ≤ length answer
    → read_in_c settings (reader_zeroed array) answer fs ≡ run_said s [] fs

-- Demand 3: no call of the judge is refused; the answer says pass exactly when some list is carried; that list is handed over; and so it is
-- in tapes, cut anywhere
pub record JudgesInC (settings : List ℕ) (s : Settings) (array store answer : List ℕ) (fs : List (List ℕ)) : Type 0 where
  pub frames_accepted : All (λ n. n ≡ 0) (judge_in_c settings (zeroed array) store fs).refusals
  pub close_accepted : (close_in_c settings array store answer fs).refusal ≡ 0
  pub passes_exactly : ((close_in_c settings array store answer fs).passes ≡ true) ↔ ((ps : List (List ℕ)) × Carries s fs ps)
  pub handed_over : (ps : List (List ℕ)) → Carries s fs ps → HandedOverInC settings s fs ps
  pub tapes_accepted : (ts : List (List ℕ)) → CutInto s fs ts → All (λ n. n ≡ 0) (tapes_in_c settings (zeroed array) store ts).refusals
  pub tapes_close : (ts : List (List ℕ)) → CutInto s fs ts → close_tapes_in_c settings array store answer ts ≡ close_in_c settings array store answer fs

abbrev pub Demand3InC : List ℕ → Settings → Type 0
Demand3InC settings s =
    (array store answer : List ℕ) (fs : List (List ℕ)) → Long array answer 2 → Fit s store → length fs ≤ most_frames
    → JudgesInC settings s array store answer fs

-- So it is with every array that is long enough, and the settings that it states; and all settings in range can be stated, those of a bitstream channel too.
pub record OverC : Type 0 where
  pub runs : (settings : List ℕ) → settings_numbers ≤ length settings → RunsInC settings (settings_of settings)
  pub demand_2 : (settings : List ℕ) → settings_numbers ≤ length settings → Demand2InC settings (settings_of settings)
  pub losses : (settings : List ℕ) → bit_settings_numbers ≤ length settings → LossesInC settings (bit_settings_of settings)
  pub demand_3 : (settings : List ℕ) → settings_numbers ≤ length settings → Demand3InC settings (settings_of settings)
  pub stated : (s : Settings) (rest : List ℕ) → in_range s ≡ true → s.fill ≤ 255
      → settings_of (s.link.spacecraft ∷ s.link.channel ∷ s.zone ∷ s.limit ∷ s.fill ∷ bit s.link.trailed ∷ edition_number s.link.edition ∷ rest) ≡ s
  pub bits_stated : (s : BitSettings) (rest : List ℕ) → bits_in_range s ≡ true → s.fill ≤ 255
      → bit_settings_of (s.link.spacecraft ∷ s.link.channel ∷ s.width ∷ s.fill ∷ bit s.link.trailed ∷ edition_number s.link.edition ∷ rest) ≡ s
  -- and numbers that state no fill octet, no trailer's flag or no edition are out of range, whatever the others are
  pub unstated : (settings : List ℕ) → (255 < get_or settings 4 0) ⊎ (1 < get_or settings 5 0) ⊎ (2 < get_or settings 6 0) → in_range (settings_of settings) ≡ false
  pub bits_unstated : (settings : List ℕ) → (255 < get_or settings 3 0) ⊎ (1 < get_or settings 4 0) ⊎ (2 < get_or settings 5 0) → bits_in_range (bit_settings_of settings) ≡ false
