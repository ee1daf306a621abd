-- What is wrong with a packet's header, in each answer that carries it, by the tests of document 02's four damages.
use Rattle.std.specs.Prelude.{ℕ, suc, ◌+◌, ◌^◌, ◌≤◌, ◌<◌, ◌↔◌, ◌≡◌, List, [], ◌∷◌, ◌++◌, true, length, take, drop, get_or}
use Rattle.octets.specs.Basics.{octets, first}
use Rattle.packets.specs.Packet.{more, damaged, whole, look, limit_in_range, header_length, packet_version}
use Rattle.packets.specs.Header.{Reading, reading}
use Rattle.packets.specs.Unwrap.{Unwrapping, unwrapping}
use Rattle.packets.specs.Damage.{applies, DamageNamed, Tells}
use Rattle.wrapping.specs.Front.{first_octet, half}
use Rattle.wrapping.specs.Wrap.{Wrapping, wrapping}
use Rattle.relay.specs.Route.{Routing, routing}
use Rattle.relay.specs.declared.Table.{Table}
use Rattle.frames.specs.Frame.{zone_of}
use Rattle.frames.specs.declared.Settings.{Settings}
use Rattle.multiplexer.specs.Calls.{Answer, to_put, answer}
use Rattle.multiplexer.specs.declared.Mux.{Mux}
use Rattle.extractor.specs.Extract.{State, astray, torn, ends, held_of, walk, take_in}
use Rattle.extractor.specs.Calls.{event_at}
use Rattle.extractor.specs.Records.{step_rows}
use Rattle.extractor.specs.Answers.{EnterNumbers, StepNumbers, step_answer}
use Rattle.extractor.specs.declared.Extractor.TheVariants.{Walking}
use Rattle.extractor.specs.Found.{Damaged}
use Rattle.exports.specs.Packet.{header_numbers, wrap_numbers, unwrap_numbers}
use Rattle.exports.specs.Mux.{put_numbers}
use Rattle.exports.specs.Extract.{enter_numbers, step_numbers}
use Rattle.exports.specs.Relaying.{route_numbers}

-- The reader by headers as they are written, at any limit, and with any octets behind: an encapsulation header by its protocol, its
-- length-of-length, which is `code` here, what stands between its first octet and its length field, and the length in that field.
abbrev pub header : ℕ → ℕ → List ℕ → ℕ → List ℕ → List ℕ
header protocol code between total rest = first_octet protocol code ∷ (between ++ (octets (half code) total ++ rest))

-- these can be written: a header that has a length field, whose first half is the first octet and what stands between, and a length that fits it
pub record Written (code : ℕ) (between : List ℕ) (total : ℕ) : Type 0 where
  pub least : 1 ≤ code
  pub most : code ≤ 3
  pub opens : suc (length between) ≡ half code
  pub stated : total < 256 ^ half code

-- a space packet's header by its first four octets and its length field
abbrev pub space_header : ℕ → ℕ → ℕ → ℕ → ℕ → List ℕ → List ℕ
space_header o a b c field rest = o ∷ a ∷ b ∷ c ∷ (octets 2 field ++ rest)

pub record AsWritten (limit : ℕ) : Type 0 where
  -- 1, whatever follows; and 2, with every protocol but 0
  pub version : (o : ℕ) (rest : List ℕ) → 1 ≤ packet_version o → packet_version o ≤ 6 → look limit (o ∷ rest) ≡ damaged 1
  pub one_octet : (protocol : ℕ) (rest : List ℕ) → 1 ≤ protocol → protocol ≤ 7 → look limit (first_octet protocol 0 ∷ rest) ≡ damaged 2
  -- 3, 4, or the length; and no octet less than the header tells any of these
  pub below : (protocol code total : ℕ) (between rest : List ℕ) → Written code between total
      → total < header_length code → look limit (header protocol code between total rest) ≡ damaged 3
  pub over : (protocol code total : ℕ) (between rest : List ℕ) → Written code between total
      → header_length code ≤ total → limit < total → look limit (header protocol code between total rest) ≡ damaged 4
  pub within : (protocol code total : ℕ) (between rest : List ℕ) → Written code between total
      → header_length code ≤ total → total ≤ limit → look limit (header protocol code between total rest) ≡ whole total
  pub cut : (protocol code total : ℕ) (between rest : List ℕ) → Written code between total → (k : ℕ)
      → k < header_length code → look limit (take k (header protocol code between total rest)) ≡ more
  -- a space packet has 7 octets more than its field says
  pub space_over : (o a b c field : ℕ) (rest : List ℕ) → packet_version o ≡ 0 → field < 256 ^ 2
      → limit < field + 7 → look limit (space_header o a b c field rest) ≡ damaged 4
  pub space_within : (o a b c field : ℕ) (rest : List ℕ) → packet_version o ≡ 0 → field < 256 ^ 2
      → field + 7 ≤ limit → look limit (space_header o a b c field rest) ≡ whole (field + 7)
  pub space_cut : (o a b c field : ℕ) (rest : List ℕ) → packet_version o ≡ 0 → (k : ℕ) → k < 6
      → look limit (take k (space_header o a b c field rest)) ≡ more

-- a refusal of a call that is lent a packet: with 8 its damage is told, whatever else may be the matter; with any other number, or none, nothing
pub record Refusal (limit : ℕ) (p : List ℕ) (refusal damage : ℕ) : Type 0 where
  pub of_packet : limit_in_range limit ≡ true → refusal ≡ 8 → Tells limit p damage
  pub of_others : (refusal ≡ 8 → ⊥) → damage ≡ 0

-- the damage stands last in each array of an answer that carries it
pub record LastInC : Type 0 where
  pub header : (r : Reading) → get_or (header_numbers r) 6 0 ≡ r.damage
  pub wrapped : (w : Wrapping) → get_or (wrap_numbers w) 1 0 ≡ w.damage
  pub unwrapped : (u : Unwrapping) → get_or (unwrap_numbers u) 4 0 ≡ u.damage
  pub put : (a : Answer) → get_or (put_numbers a) 2 0 ≡ a.damage
  pub entered : (a : EnterNumbers) → get_or (enter_numbers a) 6 0 ≡ a.damage
  pub stepped : (a : StepNumbers) → get_or (step_numbers a) 4 0 ≡ a.damage
  pub routed : (r : Routing) → get_or (route_numbers r) 2 0 ≡ r.damage

-- what is wrong with a header, by the reader and by every answer that tells it
pub record Damages : Type 0 where
  pub as_written : (limit : ℕ) → AsWritten limit
  -- at every limit that can be set: at most one applies, and the reader names it; it finds a header damaged exactly where one does
  pub named : DamageNamed
  pub read : (limit : ℕ) (os : List ℕ) → limit_in_range limit ≡ true → Tells limit os (reading limit os).damage
  pub found : (limit : ℕ) (os : List ℕ) → limit_in_range limit ≡ true → ((reading limit os).outcome ≡ 2) ↔ ((d : ℕ) × (applies limit os d ≡ true))
  -- refusal 8
  pub put : (s : Settings) (m : Mux) (p frame : List ℕ)
      → Refusal s.limit p (answer s m (to_put p) frame).refusal (answer s m (to_put p) frame).damage
  pub unwrapped : (limit : ℕ) (p : List ℕ) → Refusal limit p (unwrapping limit p).refusal (unwrapping limit p).damage
  pub routed : (limit : ℕ) (t : Table) (p output : List ℕ)
      → Refusal limit p (routing limit t p output).refusal (routing limit t p output).damage
  pub wrapped : (limit protocol extension : ℕ) (unit output : List ℕ) → (wrapping limit protocol extension unit output).damage ≡ 0
  -- the events of the written rules, and of the calls
  pub walked : (limit d : ℕ) (os : List ℕ) → limit_in_range limit ≡ true → applies limit os d ≡ true → walk limit os ≡ ends (torn d ∷ []) astray
  pub event : (d : ℕ) (p : List ℕ) → event_at (Damaged d) p ≡ torn d ∷ []
  -- in C it is the last number of each answer that carries it
  pub in_c : LastInC
  -- entering: with reason 3 the damage of the octets held and the zone behind them, and with any other nothing
  pub entered : (s : Settings) (x : State) (f : List ℕ) → limit_in_range s.limit ≡ true → (take_in s x f).reason ≡ 3
      → Tells s.limit (held_of x.step ++ zone_of s f) (take_in s x f).damage
  pub undropped : (s : Settings) (x : State) (f : List ℕ) → ((take_in s x f).reason ≡ 3 → ⊥) → (take_in s x f).damage ≡ 0
  -- a step at `at`: the damage of the octets held and what is left of the zone
  pub stepped : (s : Settings) (last h at : ℕ) (store f : List ℕ) → limit_in_range s.limit ≡ true
      → first (step_rows s (Walking last h at) store f) ≡ 0
      → Tells s.limit (take h store ++ drop at (zone_of s f)) (step_answer s (Walking last h at) store f).answer.damage
