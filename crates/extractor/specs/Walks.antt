-- What the parts of a call that is not refused go by.
use Rattle.std.specs.Prelude.{◌≡◌, List, ◌++◌, Bool, true, ℕ, ◌≤◌, length, take, leb, ltb, eqb, Option}
use Rattle.octets.specs.Basics.{pick, and}
use Rattle.frames.specs.Frame.{in_range, frame_length}
use Rattle.frames.specs.declared.Settings.{Settings}
use Rattle.extractor.specs.Extract.{agreed, reason_by}
use Rattle.extractor.specs.Records.{holds_well, on_wheel, is_in_step}
use Rattle.extractor.specs.Answers.{reason_number, reason_damage}
use Rattle.extractor.specs.declared.Reason.{Reason}
use Rattle.packets.specs.Packet.{look, damage_in}
use Rattle.packets.specs.Header.{seen}
use Rattle.packets.specs.declared.Seen.{Seen}
use Rattle.packets.specs.declared.Seen.TheVariants.{More, Damaged, Whole}
use Rattle.extractor.specs.declared.Extractor.{Extractor}
use Rattle.extractor.specs.declared.Extractor.TheVariants.{Fresh, Astray, InStep, Walking, Leaving}

-- the numbers of a record, 0 where it has none: the count of its last frame, and how far its zone is walked
abbrev pub last_in : Extractor → ℕ
last_in Fresh = 0
last_in (Astray last) = last
last_in (InStep last h) = last
last_in (Walking last h at) = last
last_in (Leaving last) = last

abbrev pub at_in : Extractor → ℕ
at_in Fresh = 0
at_in (Astray last) = 0
at_in (InStep last h) = 0
at_in (Walking last h at) = at
at_in (Leaving last) = 0

-- what the octets held say of their packet's length, as many as the store has
abbrev pub Says : Settings → List ℕ → ℕ → Seen → Type 0
Says s store h r = seen r ≡ look s.limit (take h store)

-- what octets say of their packet's length where n of them are at hand: a packet that is longer is not whole yet
unfoldable pub at_hand : ℕ → Seen → Seen
at_hand n More = More
at_hand n (Damaged d) = Damaged d
at_hand n (Whole total) = pick (ltb n total) More (Whole total)

-- whether the rules can reach a record with these numbers
unfoldable pub reached : Settings → List ℕ → ℕ → ℕ → ℕ → Bool
reached s store last h at = and (on_wheel s last) (pick (eqb h 0) (leb at s.zone) (and (eqb at 0) (holds_well s store h)))

-- a walk of a zone
pub record Walks (s : Settings) (h at : ℕ) (store f : List ℕ) : Type 0 where
  pub ranged : in_range s ≡ true
  pub room : s.limit ≤ length store
  pub inside : at ≤ s.zone
  pub holds : h ≤ length store
  pub framed : length f ≡ frame_length s

-- the record of a frame of which nothing is left to walk: damage leaves it out of step
abbrev pub at_rest : Extractor → Extractor
at_rest Fresh = Fresh
at_rest (Astray last) = Astray last
at_rest (InStep last h) = InStep last h
at_rest (Walking last h at) = Walking last h at
at_rest (Leaving last) = Astray last

-- a reason by its number, and what is wrong with a header that it names
abbrev pub Named : Option Reason → ℕ → ℕ → Type 0
Named r n d = (reason_number r ≡ n) × (reason_damage r ≡ d)

-- what is wrong with the header of the octets held, where the reason of this number is that
abbrev pub damage_by : Settings → ℕ → List ℕ → List ℕ → ℕ
damage_by s n held zone = pick (eqb n 3) (damage_in (look s.limit (held ++ zone))) 0

-- the number of the reason, by what is missing and by the pointer
abbrev pub reason_for : Settings → Extractor → ℕ → List ℕ → ℕ → List ℕ → ℕ
reason_for s x lost held p zone = pick (eqb lost 0) (pick (is_in_step x) (reason_by p (agreed s held zone)) 0) 1
