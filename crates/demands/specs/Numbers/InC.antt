-- The arrays of the C interface by examples: what stands in each entry of settings, records and answers.
use Rattle.std.specs.Prelude.{ℕ, zero, suc, ◌-◌, ◌≡◌, List, [], ◌∷◌, ◌++◌, map, length, replicate}
use Rattle.multiplexer.specs.Calls.{to_put, to_flush, to_idle}
use Rattle.exports.specs.Left.{left}
use Rattle.exports.specs.Channel.{settings_of}
use Rattle.exports.specs.Packet.{header_leaves, formed_leaves, wrap_leaves, unwrap_leaves, unit_leaves}
use Rattle.exports.specs.Spaces.{read_space_leaves, write_space_leaves}
use Rattle.exports.specs.Mux.{put_numbers, flush_numbers, no_numbers, begin_leaves, mux_leaves}
use Rattle.exports.specs.Extract.{enter_leaves, step_leaves, show_leaves}
use Rattle.exports.specs.Judging.{judge_leaves, tape_leaves, close_leaves}
use Rattle.exports.specs.Bits.{bit_settings_of, write_leaves, read_leaves}
use Rattle.exports.specs.Relaying.{load_leaves, route_leaves}
use Rattle.demands.specs.Numbers.Editions.{editions}
use Rattle.demands.specs.Numbers.Samples.{small, small_trailed, small_by, two_octets, two_trailed, two_by, frame, lent, ten, seven, each}

-- spacecraft, channel, Z, M, fill, trailer and edition; and spacecraft, channel, W, fill, trailer and edition
abbrev pub stating : ℕ → List ℕ
stating edition = 66 ∷ 3 ∷ 10 ∷ 12 ∷ 0x55 ∷ 0 ∷ edition ∷ []

abbrev pub settings : List ℕ
settings = stating 0

abbrev pub settings_trailed : List ℕ
settings_trailed = 66 ∷ 3 ∷ 10 ∷ 12 ∷ 0x55 ∷ 1 ∷ 0 ∷ []

abbrev pub bits_stating : ℕ → List ℕ
bits_stating edition = 66 ∷ 3 ∷ 2 ∷ 0x55 ∷ 0 ∷ edition ∷ []

abbrev pub bit_settings : List ℕ
bit_settings = bits_stating 0

abbrev pub bit_settings_trailed : List ℕ
bit_settings_trailed = 66 ∷ 3 ∷ 2 ∷ 0x55 ∷ 1 ∷ 0 ∷ []

pub record Settings : Type 0 where
  pub packets : map settings_of (settings ∷ settings_trailed ∷ []) ≡ small ∷ small_trailed ∷ []
  pub bits : map bit_settings_of (bit_settings ∷ bit_settings_trailed ∷ []) ≡ two_octets ∷ two_trailed ∷ []
  pub by_edition : map (λ n. settings_of (stating n)) (0 ∷ 1 ∷ 2 ∷ []) ≡ map small_by editions
  pub bits_by_edition : map (λ n. bit_settings_of (bits_stating n)) (0 ∷ 1 ∷ 2 ∷ []) ≡ map two_by editions

-- a data unit of two octets in a packet of protocol 6, extension 5
abbrev pub six : List ℕ
six = 0xFA ∷ 0x05 ∷ 0x00 ∷ 0x06 ∷ 0xAA ∷ 0xBB ∷ []

-- packets that are damaged: each of the four
abbrev pub damaged_packets : List (List ℕ)
damaged_packets = (0x20 ∷ []) ∷ (0xEC ∷ []) ∷ (0xE9 ∷ 0x01 ∷ []) ∷ (0xE9 ∷ 0x0D ∷ []) ∷ []

-- headers: more octets needed, a space packet, an idle packet, damaged; a limit that cannot be, and an array that is short
pub record Packets : Type 0 where
  pub headers : map (λ (os : List ℕ). header_leaves 12 os (lent 8)) ([] ∷ ten ∷ (0xE1 ∷ 0x07 ∷ []) ∷ [])
      ≡ left 0 [] [] (1 ∷ 0 ∷ 0 ∷ 0 ∷ 0 ∷ 0 ∷ 0 ∷ 0xFF ∷ [])
      ∷ left 0 [] [] (3 ∷ 1 ∷ 0 ∷ 5 ∷ 6 ∷ 10 ∷ 0 ∷ 0xFF ∷ [])
      ∷ left 0 [] [] (3 ∷ 2 ∷ 1 ∷ 0 ∷ 2 ∷ 7 ∷ 0 ∷ 0xFF ∷ [])
      ∷ []
  -- damage 1 to 4
  pub damaged : map (λ (os : List ℕ). header_leaves 12 os (lent 8)) damaged_packets ≡ map (λ (d : ℕ). left 0 [] [] (2 ∷ 0 ∷ 0 ∷ 0 ∷ 0 ∷ 0 ∷ d ∷ 0xFF ∷ [])) (1 ∷ 2 ∷ 3 ∷ 4 ∷ [])
  pub refused : header_leaves 6 ten (lent 7) ≡ left 1 [] [] (0 ∷ 0 ∷ 0 ∷ 0 ∷ 0 ∷ 0 ∷ 0 ∷ [])
  pub short : header_leaves 6 ten (lent 6) ≡ left 2 [] [] (lent 6)
  pub formed : map (λ (p : List ℕ). formed_leaves 12 p (lent 1)) (ten ∷ six ∷ [] ∷ [])
      ≡ left 0 [] [] (1 ∷ []) ∷ left 0 [] [] (1 ∷ []) ∷ left 0 [] [] (2 ∷ []) ∷ []
  pub wrapped : wrap_leaves 12 6 5 (0xAA ∷ 0xBB ∷ []) (lent 7) (lent 2) ≡ left 0 [] (six ++ (0xFF ∷ [])) (6 ∷ 0 ∷ [])
  pub not_wrapped : wrap_leaves 12 6 5 [] (lent 7) (lent 2) ∷ wrap_leaves 12 6 5 (lent 9) (lent 7) (lent 2) ∷ [] ≡ each (lent 2) (left 8 [] (lent 7) (0 ∷ 0 ∷ []))
  pub unwrapped : unwrap_leaves 12 six (lent 5) ≡ left 0 [] [] (6 ∷ 5 ∷ 4 ∷ 2 ∷ 0 ∷ [])
  -- damage 1 to 4; and 0 for a space packet
  pub not_unwrapped : map (λ (p : List ℕ). unwrap_leaves 12 p (lent 6)) (damaged_packets ++ (ten ∷ [])) ≡ map (λ (d : ℕ). left 8 [] [] (0 ∷ 0 ∷ 0 ∷ 0 ∷ d ∷ 0xFF ∷ [])) (1 ∷ 2 ∷ 3 ∷ 4 ∷ 0 ∷ [])
  pub unit : unit_leaves (6 ∷ 5 ∷ 4 ∷ 2 ∷ 0 ∷ []) six (lent 2) ≡ left 0 [] [] (4 ∷ 2 ∷ [])
  pub no_unit : unit_leaves (6 ∷ 5 ∷ 4 ∷ 3 ∷ 0 ∷ []) six (lent 2) ≡ left 0 [] [] (0 ∷ 0 ∷ [])
  -- a space packet's header: total; version, type, secondary header, APID, flags, count, length field
  pub space_read : read_space_leaves (0x10 ∷ 0x05 ∷ 0xC0 ∷ 0x09 ∷ 0x00 ∷ 0x01 ∷ []) (lent 8) ≡ left 0 [] [] (8 ∷ 0 ∷ 1 ∷ 0 ∷ 5 ∷ 3 ∷ 9 ∷ 1 ∷ [])
  pub space_written : write_space_leaves (0 ∷ 1 ∷ 0 ∷ 5 ∷ 3 ∷ 9 ∷ 1 ∷ []) (lent 7)
      ≡ left 0 [] (0x10 ∷ 0x05 ∷ 0xC0 ∷ 0x09 ∷ 0x00 ∷ 0x01 ∷ 0xFF ∷ []) []

-- the multiplexer's record: count, octets laid, first start, octets taken; an answer: full, taken, damage; a flush: nothing begun, or a frame
pub record Multiplexer : Type 0 where
  pub begun : begin_leaves (lent 5) ≡ left 0 (0 ∷ 0 ∷ 2047 ∷ 0 ∷ 0xFF ∷ []) [] []
  pub taken : mux_leaves (to_put seven) 3 put_numbers settings (4 ∷ 0 ∷ 2047 ∷ 0 ∷ []) (lent 18) (lent 3)
      ≡ left 0 (4 ∷ 7 ∷ 0 ∷ 0 ∷ []) (lent 8 ++ (seven ++ lent 3)) (0 ∷ 1 ∷ 0 ∷ [])
  pub full : mux_leaves (to_put seven) 3 put_numbers settings (4 ∷ 5 ∷ 0 ∷ 0 ∷ []) (lent 18) (lent 3)
      ≡ left 0 (5 ∷ 0 ∷ 2047 ∷ 5 ∷ []) (frame 4 0x00 0x00 (lent 5 ++ (0x00 ∷ 0x05 ∷ 0xC0 ∷ 0x00 ∷ 0x00 ∷ []))) (1 ∷ 0 ∷ 0 ∷ [])
  -- damage 1 to 4
  pub damaged : map (λ (p : List ℕ). mux_leaves (to_put p) 3 put_numbers settings (4 ∷ 0 ∷ 2047 ∷ 0 ∷ []) (lent 18) (lent 3)) damaged_packets
      ≡ map (λ (d : ℕ). left 8 (4 ∷ 0 ∷ 2047 ∷ 0 ∷ []) (lent 18) (0 ∷ 0 ∷ d ∷ [])) (1 ∷ 2 ∷ 3 ∷ 4 ∷ [])
  pub nothing : mux_leaves to_flush 1 flush_numbers settings (4 ∷ 0 ∷ 2047 ∷ 0 ∷ []) (lent 18) (lent 1)
      ≡ left 0 (4 ∷ 0 ∷ 2047 ∷ 0 ∷ []) (lent 18) (1 ∷ [])
  pub flushed : mux_leaves to_flush 1 flush_numbers settings (4 ∷ 8 ∷ 0 ∷ 0 ∷ []) (lent 18) (lent 1)
      ≡ left 0 (5 ∷ 0 ∷ 2047 ∷ 0 ∷ []) (frame 4 0x00 0x00 (lent 8 ++ (0xE1 ∷ 0x02 ∷ []))) (2 ∷ [])
  pub refused : mux_leaves to_flush 1 flush_numbers settings (0 ∷ 0 ∷ 0 ∷ 0 ∷ []) (lent 18) (lent 1)
      ≡ left 10 (0 ∷ 0 ∷ 0 ∷ 0 ∷ []) (lent 18) (0 ∷ [])

-- a store that holds the first two octets of a packet of five, and a frame with its last three and an idle packet
abbrev pub store : List ℕ
store = 0xE9 ∷ 0x05 ∷ lent 10

abbrev pub rest : List ℕ
rest = 0x11 ∷ 0x22 ∷ 0x33 ∷ 0xE1 ∷ 0x07 ∷ 0x55 ∷ 0x55 ∷ 0x55 ∷ 0x55 ∷ 0x55 ∷ []

-- the extractor's record: kind, last count, octets held, place of the walk; entering: entered, count, replay, lost, dropped, reason, damage;
-- a step: what it was, where the packet lies, its start, its size, damage
pub record Extractor : Type 0 where
  pub entered : enter_leaves settings (2 ∷ 0 ∷ 2 ∷ 0 ∷ []) store (frame 1 0x00 0x03 rest) (lent 7)
      ≡ left 0 (3 ∷ 1 ∷ 2 ∷ 0 ∷ []) [] (1 ∷ 1 ∷ 0 ∷ 0 ∷ 0 ∷ 0 ∷ 0 ∷ [])
  pub lost : enter_leaves settings (2 ∷ 0 ∷ 2 ∷ 0 ∷ []) store (frame 5 0x00 0x03 rest) (lent 7)
      ≡ left 0 (3 ∷ 5 ∷ 0 ∷ 3 ∷ []) [] (1 ∷ 5 ∷ 0 ∷ 4 ∷ 2 ∷ 1 ∷ 0 ∷ [])
  pub early : enter_leaves settings (3 ∷ 1 ∷ 2 ∷ 0 ∷ []) store (frame 1 0x00 0x03 rest) (lent 7)
      ≡ left 9 (3 ∷ 1 ∷ 2 ∷ 0 ∷ []) [] (0 ∷ 0 ∷ 0 ∷ 0 ∷ 0 ∷ 0 ∷ 0 ∷ [])
  pub in_store : step_leaves settings (3 ∷ 1 ∷ 2 ∷ 0 ∷ []) store (frame 1 0x00 0x03 rest) (lent 5)
      ≡ left 0 (3 ∷ 1 ∷ 0 ∷ 3 ∷ []) (0xE9 ∷ 0x05 ∷ 0x11 ∷ 0x22 ∷ 0x33 ∷ lent 7) (1 ∷ 2 ∷ 0 ∷ 5 ∷ 0 ∷ [])
  pub in_frame : step_leaves settings (3 ∷ 1 ∷ 0 ∷ 3 ∷ []) store (frame 1 0x00 0x03 rest) (lent 5)
      ≡ left 0 (3 ∷ 1 ∷ 0 ∷ 10 ∷ []) store (2 ∷ 1 ∷ 11 ∷ 7 ∷ 0 ∷ [])
  pub spent : step_leaves settings (3 ∷ 1 ∷ 0 ∷ 10 ∷ []) store (frame 1 0x00 0x03 rest) (lent 5)
      ≡ left 0 (2 ∷ 1 ∷ 0 ∷ 0 ∷ []) store (4 ∷ 0 ∷ 0 ∷ 0 ∷ 0 ∷ [])
  -- damage 1 to 4 of a step; and 3 and 4 at entering, where the header of an octet held goes on with 1 and with 13
  pub damaged : map (λ (p : List ℕ). step_leaves settings (3 ∷ 1 ∷ 0 ∷ 0 ∷ []) store (frame 1 0x00 0x00 (p ++ lent (10 - length p))) (lent 5)) damaged_packets
      ≡ map (λ (d : ℕ). left 0 (4 ∷ 1 ∷ 0 ∷ 0 ∷ []) store (3 ∷ 0 ∷ 0 ∷ 0 ∷ d ∷ [])) (1 ∷ 2 ∷ 3 ∷ 4 ∷ [])
  pub dropped : map (λ (stated : ℕ). enter_leaves settings (2 ∷ 0 ∷ 1 ∷ 0 ∷ []) store (frame 1 0x07 0xFF (stated ∷ lent 9)) (lent 7)) (1 ∷ 13 ∷ [])
      ≡ map (λ (d : ℕ). left 0 (4 ∷ 1 ∷ 0 ∷ 0 ∷ []) [] (1 ∷ 1 ∷ 0 ∷ 0 ∷ 1 ∷ 3 ∷ d ∷ [])) (3 ∷ 4 ∷ [])
  pub shown : map (λ (step : List ℕ). show_leaves step (frame 1 0x00 0x03 rest) store (lent 3)) ((1 ∷ 2 ∷ 0 ∷ 5 ∷ 0 ∷ []) ∷ (2 ∷ 1 ∷ 11 ∷ 7 ∷ 0 ∷ []) ∷ (2 ∷ 1 ∷ 11 ∷ 8 ∷ 0 ∷ []) ∷ [])
      ≡ left 0 [] [] (2 ∷ 0 ∷ 5 ∷ []) ∷ left 0 [] [] (1 ∷ 11 ∷ 7 ∷ []) ∷ left 0 [] [] (0 ∷ 0 ∷ 0 ∷ []) ∷ []

-- the judge's record: kind, tally, last count or first fault, octets held; the close: pass or fault, and its index
pub record Judge : Type 0 where
  pub judged : judge_leaves settings (1 ∷ 1 ∷ 0 ∷ 2 ∷ []) store (frame 1 0x00 0x03 rest)
      ≡ left 0 (1 ∷ 2 ∷ 1 ∷ 0 ∷ []) (0xE9 ∷ 0x05 ∷ 0x11 ∷ 0x22 ∷ 0x33 ∷ lent 7) []
  pub faulted : judge_leaves settings (1 ∷ 1 ∷ 0 ∷ 2 ∷ []) store (frame 2 0x00 0x03 rest) ≡ left 0 (2 ∷ 2 ∷ 1 ∷ 0 ∷ []) store []
  -- a tape of two frames, the second in order and a fault; and at a full tally none, a frame too many and a rest, which change nothing
  pub taped : map (λ (count : ℕ). tape_leaves settings (1 ∷ 1 ∷ 0 ∷ 2 ∷ []) store (frame 1 0x00 0x03 rest ++ frame count 0x00 0x00 ten)) (2 ∷ 3 ∷ [])
      ≡ left 0 (1 ∷ 3 ∷ 2 ∷ 0 ∷ []) (0xE9 ∷ 0x05 ∷ 0x11 ∷ 0x22 ∷ 0x33 ∷ lent 7) [] ∷ left 0 (2 ∷ 3 ∷ 2 ∷ 0 ∷ []) (0xE9 ∷ 0x05 ∷ 0x11 ∷ 0x22 ∷ 0x33 ∷ lent 7) [] ∷ []
  pub tape_edges : map (λ (os : List ℕ). tape_leaves settings (1 ∷ 16777216 ∷ 0 ∷ 2 ∷ []) store os) ([] ∷ frame 1 0x00 0x03 rest ∷ lent 17 ∷ [])
      ≡ map (λ (n : ℕ). left n (1 ∷ 16777216 ∷ 0 ∷ 2 ∷ []) store []) (0 ∷ 11 ∷ 3 ∷ [])
  pub closed : map (λ (record_array : List ℕ). close_leaves settings record_array store (lent 2)) ((0 ∷ 0 ∷ 0 ∷ 0 ∷ []) ∷ (1 ∷ 1 ∷ 0 ∷ 2 ∷ []) ∷ (2 ∷ 5 ∷ 3 ∷ 0 ∷ []) ∷ (3 ∷ 0 ∷ 0 ∷ 0 ∷ []) ∷ [])
      ≡ left 0 [] [] (1 ∷ 0 ∷ []) ∷ left 0 [] [] (2 ∷ 1 ∷ []) ∷ left 0 [] [] (2 ∷ 3 ∷ []) ∷ left 10 [] [] (0 ∷ 0 ∷ []) ∷ []

-- a writer's record: the count; a reader's: whether a frame was read, its count, and whether a loss waits; an answer: count, replay, loss, bits,
-- where they lie and in how many octets
pub record Bits : Type 0 where
  pub written : write_leaves bit_settings (4 ∷ []) (0xAB ∷ []) 8 (lent 11) ≡ left 0 (5 ∷ []) (frame 4 0x00 0x07 (0xAB ∷ 0x55 ∷ 0xFF ∷ [])) []
  pub read : read_leaves bit_settings (1 ∷ 2 ∷ 0 ∷ []) (0x50 ∷ 0x83 ∷ 0x00 ∷ 0x00 ∷ 0x04 ∷ 0x80 ∷ 0x00 ∷ 0x08 ∷ 0xAB ∷ 0x55 ∷ []) (lent 6)
      ≡ left 0 (1 ∷ 4 ∷ 0 ∷ []) [] (4 ∷ 1 ∷ 1 ∷ 9 ∷ 8 ∷ 2 ∷ [])
  -- fill alone, with a loss that waits and without, where the count follows and where it does not; then bits
  pub fill : map (λ (r : List ℕ). read_leaves bit_settings r (frame 4 0x3F 0xFE (lent 2)) (lent 6)) ((1 ∷ 3 ∷ 0 ∷ []) ∷ (1 ∷ 3 ∷ 1 ∷ []) ∷ (1 ∷ 2 ∷ 0 ∷ []) ∷ [])
      ≡ map (λ waiting. left 0 (1 ∷ 4 ∷ waiting ∷ []) [] (4 ∷ 0 ∷ 0 ∷ 0 ∷ 8 ∷ 0 ∷ [])) (0 ∷ 1 ∷ 1 ∷ [])
  pub waited : map (λ waiting. read_leaves bit_settings (1 ∷ 3 ∷ waiting ∷ []) (frame 4 0x00 0x08 (lent 2)) (lent 6)) (0 ∷ 1 ∷ [])
      ≡ map (λ lost. left 0 (1 ∷ 4 ∷ 0 ∷ []) [] (4 ∷ 0 ∷ lost ∷ 9 ∷ 8 ∷ 2 ∷ [])) (0 ∷ 1 ∷ [])

-- a relay table's array: how many entries, then an APID and a destination for each, and 0 past the last; an answer: whether there is a path, how many
-- destinations, and damage
abbrev pub table : List ℕ → List ℕ
table ns = ns ++ replicate (65 - length ns) 0

abbrev pub paths : List ℕ
paths = table (3 ∷ 5 ∷ 7 ∷ 3 ∷ 9 ∷ 5 ∷ 2 ∷ [])

-- so many entries, each with its own APID, and one behind them
abbrev pub many : ℕ → List ℕ → List ℕ
many zero last = last
many (suc n) last = n ∷ 7 ∷ many n last

pub record Relay : Type 0 where
  pub loaded : load_leaves (5 ∷ 7 ∷ 3 ∷ 9 ∷ 5 ∷ 2 ∷ []) (lent 66) ≡ left 0 (paths ++ (0xFF ∷ [])) [] []
  pub emptied : load_leaves [] paths ≡ left 0 (table []) [] []
  pub full : load_leaves (many 32 []) paths ≡ left 0 (32 ∷ many 32 []) [] []
  -- 12, also for an APID that fits no field; 1 for a destination above 255, before it and behind the last entry that a table has
  pub no_table : map (λ (es : List ℕ). load_leaves es paths) ((2047 ∷ 0 ∷ []) ∷ (65536 ∷ 0 ∷ []) ∷ (4294967301 ∷ 7 ∷ 5 ∷ 9 ∷ []) ∷ (5 ∷ 7 ∷ 5 ∷ 7 ∷ []) ∷ many 33 [] ∷ []) ≡ each (lent 5) (left 12 paths [] [])
  pub no_destination : map (λ (es : List ℕ). load_leaves es paths) ((2047 ∷ 256 ∷ []) ∷ (5 ∷ 256 ∷ 6 ∷ 7 ∷ []) ∷ (5 ∷ 4294967303 ∷ []) ∷ many 33 (5 ∷ 256 ∷ []) ∷ []) ≡ each (lent 4) (left 1 paths [] [])
  pub path : route_leaves 12 paths ten (lent 3) (lent 4) ≡ left 0 [] (7 ∷ 2 ∷ 0xFF ∷ []) (2 ∷ 2 ∷ 0 ∷ 0xFF ∷ [])
  -- all zeros are the table that a caller starts with
  pub no_path : route_leaves 12 paths (0xE0 ∷ []) [] (lent 3) ∷ route_leaves 12 (table []) ten [] (lent 3) ∷ [] ≡ each (lent 2) (left 0 [] [] (1 ∷ 0 ∷ 0 ∷ []))
  pub no_room : route_leaves 12 paths ten (lent 1) (lent 3) ≡ left 2 [] (lent 1) (0 ∷ 0 ∷ 0 ∷ [])
  -- 1 and 8 in their turn, 8 with damage 1 to 4; 10 for more entries than 32, an APID above 2,046, a destination above 255, the same pair twice, and a number past the entries
  pub refused : route_leaves 6 paths ten (lent 2) (lent 3) ∷ route_leaves 4294967308 paths ten (lent 2) (lent 3) ∷ [] ≡ each (lent 2) (left 1 [] (lent 2) (0 ∷ 0 ∷ 0 ∷ []))
  pub damaged : map (λ (p : List ℕ). route_leaves 12 paths p (lent 2) (lent 3)) damaged_packets ≡ map (λ (d : ℕ). left 8 [] (lent 2) (0 ∷ 0 ∷ d ∷ [])) (1 ∷ 2 ∷ 3 ∷ 4 ∷ [])
  pub unmade : map (λ (ns : List ℕ). route_leaves 12 ns ten (lent 2) (lent 3))
      ((33 ∷ many 32 [])
      ∷ table (1 ∷ 2047 ∷ 0 ∷ [])
      ∷ table (1 ∷ 65541 ∷ 0 ∷ [])
      ∷ table (1 ∷ 4294967301 ∷ 0 ∷ [])
      ∷ table (1 ∷ 5 ∷ 256 ∷ [])
      ∷ table (1 ∷ 5 ∷ 4294967303 ∷ [])
      ∷ table (4294967297 ∷ 5 ∷ 7 ∷ [])
      ∷ table (2 ∷ 5 ∷ 7 ∷ 5 ∷ 7 ∷ [])
      ∷ table (1 ∷ 5 ∷ 7 ∷ 0 ∷ 1 ∷ [])
      ∷ (0 ∷ replicate 63 0 ++ (256 ∷ []))
      ∷ [])
      ≡ each (lent 10) (left 10 [] (lent 2) (0 ∷ 0 ∷ 0 ∷ []))

-- An array that is one short is refused by 2 before all else, and nothing is written.
pub record Short : Type 0 where
  pub packets : formed_leaves 6 ten [] ∷ wrap_leaves 6 0 0 [] (lent 2) (lent 1) ∷ unwrap_leaves 6 ten (lent 4) ∷ unit_leaves (lent 4) ten (lent 2) ∷ unit_leaves (lent 5) ten (lent 1) ∷ []
      ≡ left 2 [] [] [] ∷ left 2 [] (lent 2) (lent 1) ∷ left 2 [] [] (lent 4) ∷ left 2 [] [] (lent 2) ∷ left 2 [] [] (lent 1) ∷ []
  pub space : read_space_leaves [] (lent 7) ∷ write_space_leaves (lent 6) (lent 6) ∷ [] ≡ left 2 [] [] (lent 7) ∷ left 2 [] (lent 6) [] ∷ []
  -- of settings, of a record and of an answer
  pub mux : begin_leaves (lent 3)
      ∷ mux_leaves to_flush 1 flush_numbers (lent 6) (lent 4) (lent 2) (lent 1)
      ∷ mux_leaves to_flush 1 flush_numbers (lent 7) (lent 3) (lent 2) (lent 1)
      ∷ mux_leaves to_flush 1 flush_numbers (lent 7) (lent 4) (lent 2) []
      ∷ mux_leaves (to_put []) 3 put_numbers (lent 7) (lent 4) (lent 2) (lent 2)
      ∷ []
      ≡ left 2 (lent 3) [] [] ∷ left 2 (lent 4) (lent 2) (lent 1) ∷ left 2 (lent 3) (lent 2) (lent 1) ∷ left 2 (lent 4) (lent 2) [] ∷ left 2 (lent 4) (lent 2) (lent 2) ∷ []
  pub extractor : enter_leaves (lent 6) (lent 4) [] [] (lent 7) ∷ enter_leaves (lent 7) (lent 3) [] [] (lent 7) ∷ enter_leaves (lent 7) (lent 4) [] [] (lent 6) ∷ step_leaves (lent 7) (lent 4) (lent 2) [] (lent 4) ∷ show_leaves (lent 4) [] [] (lent 3) ∷ show_leaves (lent 5) [] [] (lent 2) ∷ []
      ≡ left 2 (lent 4) [] (lent 7) ∷ left 2 (lent 3) [] (lent 7) ∷ left 2 (lent 4) [] (lent 6) ∷ left 2 (lent 4) (lent 2) (lent 4) ∷ left 2 [] [] (lent 3) ∷ left 2 [] [] (lent 2) ∷ []
  pub judge : judge_leaves (lent 6) (lent 4) (lent 2) [] ∷ judge_leaves (lent 7) (lent 3) (lent 2) [] ∷ close_leaves (lent 7) (lent 4) [] (lent 1) ∷ []
      ≡ left 2 (lent 4) (lent 2) [] ∷ left 2 (lent 3) (lent 2) [] ∷ left 2 [] [] (lent 1) ∷ []
  pub tape : tape_leaves (lent 6) (lent 4) (lent 2) [] ∷ tape_leaves (lent 7) (lent 3) (lent 2) [] ∷ []
      ≡ left 2 (lent 4) (lent 2) [] ∷ left 2 (lent 3) (lent 2) [] ∷ []
  pub bits : write_leaves (lent 5) (lent 1) [] 0 (lent 2) ∷ write_leaves (lent 6) [] [] 0 (lent 2) ∷ read_leaves (lent 5) (lent 3) [] (lent 6) ∷ read_leaves (lent 6) (lent 2) [] (lent 6) ∷ read_leaves (lent 6) (lent 3) [] (lent 5) ∷ []
      ≡ left 2 (lent 1) (lent 2) [] ∷ left 2 [] (lent 2) [] ∷ left 2 (lent 3) [] (lent 6) ∷ left 2 (lent 2) [] (lent 6) ∷ left 2 (lent 3) [] (lent 5) ∷ []
  -- a list that ends within an entry is short too
  pub relay : load_leaves (5 ∷ 256 ∷ 5 ∷ []) paths ∷ load_leaves (5 ∷ 256 ∷ []) (lent 64) ∷ []
      ≡ left 2 paths [] [] ∷ left 2 (lent 64) [] [] ∷ []
  pub route : route_leaves 6 (lent 64) ten (lent 2) (lent 3) ∷ route_leaves 6 paths ten (lent 2) (lent 2) ∷ []
      ≡ left 2 [] (lent 2) (lent 3) ∷ left 2 [] (lent 2) (lent 2) ∷ []

-- Settings that cannot be are refused by 1, in every call that takes them: a spacecraft above 255, a channel above 62, a fill above 255, a trailer's
-- number above 1 and an edition's above 2, however great; and all stays as it was.
abbrev pub outside : List (List ℕ)
outside =
    (256 ∷ 3 ∷ 10 ∷ 12 ∷ 0x55 ∷ 0 ∷ 0 ∷ [])
    ∷ (4294967362 ∷ 3 ∷ 10 ∷ 12 ∷ 0x55 ∷ 0 ∷ 0 ∷ [])
    ∷ (66 ∷ 63 ∷ 10 ∷ 12 ∷ 0x55 ∷ 0 ∷ 0 ∷ [])
    ∷ (66 ∷ 4294967299 ∷ 10 ∷ 12 ∷ 0x55 ∷ 0 ∷ 0 ∷ [])
    ∷ (66 ∷ 3 ∷ 10 ∷ 12 ∷ 256 ∷ 0 ∷ 0 ∷ [])
    ∷ (66 ∷ 3 ∷ 10 ∷ 12 ∷ 4294967381 ∷ 0 ∷ 0 ∷ [])
    ∷ (66 ∷ 3 ∷ 10 ∷ 12 ∷ 0x55 ∷ 2 ∷ 0 ∷ [])
    ∷ (66 ∷ 3 ∷ 10 ∷ 12 ∷ 0x55 ∷ 4294967297 ∷ 0 ∷ [])
    ∷ (66 ∷ 3 ∷ 10 ∷ 12 ∷ 0x55 ∷ 0 ∷ 3 ∷ [])
    ∷ (66 ∷ 3 ∷ 10 ∷ 12 ∷ 0x55 ∷ 0 ∷ 4294967296 ∷ [])
    ∷ (66 ∷ 3 ∷ 10 ∷ 12 ∷ 0x55 ∷ 0 ∷ 4294967298 ∷ [])
    ∷ []

abbrev pub bits_outside : List (List ℕ)
bits_outside =
    (256 ∷ 3 ∷ 2 ∷ 0x55 ∷ 0 ∷ 0 ∷ [])
    ∷ (66 ∷ 63 ∷ 2 ∷ 0x55 ∷ 0 ∷ 0 ∷ [])
    ∷ (4294967362 ∷ 3 ∷ 2 ∷ 0x55 ∷ 0 ∷ 0 ∷ [])
    ∷ (66 ∷ 3 ∷ 2 ∷ 256 ∷ 0 ∷ 0 ∷ [])
    ∷ (66 ∷ 3 ∷ 2 ∷ 0x55 ∷ 2 ∷ 0 ∷ [])
    ∷ (66 ∷ 3 ∷ 2 ∷ 0x55 ∷ 4294967297 ∷ 0 ∷ [])
    ∷ (66 ∷ 3 ∷ 2 ∷ 0x55 ∷ 0 ∷ 3 ∷ [])
    ∷ (66 ∷ 3 ∷ 2 ∷ 0x55 ∷ 0 ∷ 4294967296 ∷ [])
    ∷ (66 ∷ 3 ∷ 2 ∷ 0x55 ∷ 0 ∷ 4294967298 ∷ [])
    ∷ []

pub record Outside : Type 0 where
  pub put : map (λ (s : List ℕ). mux_leaves (to_put seven) 3 put_numbers s (4 ∷ 0 ∷ 2047 ∷ 0 ∷ []) (lent 18) (lent 3)) outside
      ≡ each outside (left 1 (4 ∷ 0 ∷ 2047 ∷ 0 ∷ []) (lent 18) (0 ∷ 0 ∷ 0 ∷ []))
  pub flush : map (λ (s : List ℕ). mux_leaves to_flush 1 flush_numbers s (4 ∷ 8 ∷ 0 ∷ 0 ∷ []) (lent 18) (lent 1)) outside
      ≡ each outside (left 1 (4 ∷ 8 ∷ 0 ∷ 0 ∷ []) (lent 18) (0 ∷ []))
  pub idle : map (λ (s : List ℕ). mux_leaves to_idle 0 no_numbers s (4 ∷ 0 ∷ 2047 ∷ 0 ∷ []) (lent 18) []) outside
      ≡ each outside (left 1 (4 ∷ 0 ∷ 2047 ∷ 0 ∷ []) (lent 18) [])
  pub enter : map (λ (s : List ℕ). enter_leaves s (2 ∷ 0 ∷ 2 ∷ 0 ∷ []) store (frame 1 0x00 0x03 rest) (lent 7)) outside
      ≡ each outside (left 1 (2 ∷ 0 ∷ 2 ∷ 0 ∷ []) [] (0 ∷ 0 ∷ 0 ∷ 0 ∷ 0 ∷ 0 ∷ 0 ∷ []))
  pub step : map (λ (s : List ℕ). step_leaves s (3 ∷ 1 ∷ 2 ∷ 0 ∷ []) store (frame 1 0x00 0x03 rest) (lent 5)) outside
      ≡ each outside (left 1 (3 ∷ 1 ∷ 2 ∷ 0 ∷ []) store (0 ∷ 0 ∷ 0 ∷ 0 ∷ 0 ∷ []))
  pub judge : map (λ (s : List ℕ). judge_leaves s (1 ∷ 1 ∷ 0 ∷ 2 ∷ []) store (frame 1 0x00 0x03 rest)) outside ≡ each outside (left 1 (1 ∷ 1 ∷ 0 ∷ 2 ∷ []) store [])
  pub tape : map (λ (s : List ℕ). tape_leaves s (1 ∷ 1 ∷ 0 ∷ 2 ∷ []) store (frame 1 0x00 0x03 rest)) outside ≡ each outside (left 1 (1 ∷ 1 ∷ 0 ∷ 2 ∷ []) store [])
  pub close : map (λ (s : List ℕ). close_leaves s (1 ∷ 1 ∷ 0 ∷ 2 ∷ []) store (lent 2)) outside ≡ each outside (left 1 [] [] (0 ∷ 0 ∷ []))
  pub write : map (λ (s : List ℕ). write_leaves s (4 ∷ []) [] 0 (lent 10)) bits_outside ≡ each bits_outside (left 1 (4 ∷ []) (lent 10) [])
  pub read : map (λ (s : List ℕ). read_leaves s (1 ∷ 2 ∷ 1 ∷ []) (frame 4 0x00 0x08 (lent 2)) (lent 6)) bits_outside
      ≡ each bits_outside (left 1 (1 ∷ 2 ∷ 1 ∷ []) [] (0 ∷ 0 ∷ 0 ∷ 0 ∷ 0 ∷ 0 ∷ []))
  -- a limit that cannot be; a protocol and an extension that are no octets; a field of a space packet's header that is too great, each in its turn
  pub limit : formed_leaves 6 ten (lent 1) ∷ unwrap_leaves 6 six (lent 5) ∷ [] ≡ left 1 [] [] (0 ∷ []) ∷ left 1 [] [] (0 ∷ 0 ∷ 0 ∷ 0 ∷ 0 ∷ []) ∷ []
  pub wrap : wrap_leaves 12 258 0 (0xAA ∷ []) (lent 4) (lent 2) ∷ wrap_leaves 12 6 261 (0xAA ∷ []) (lent 6) (lent 2) ∷ []
      ≡ left 1 [] (lent 4) (0 ∷ 0 ∷ []) ∷ left 1 [] (lent 6) (0 ∷ 0 ∷ []) ∷ []
  pub space : map (λ (h : List ℕ). write_space_leaves h (lent 7))
      ((65536 ∷ 1 ∷ 0 ∷ 5 ∷ 3 ∷ 9 ∷ 1 ∷ [])
      ∷ (0 ∷ 65537 ∷ 0 ∷ 5 ∷ 3 ∷ 9 ∷ 1 ∷ [])
      ∷ (0 ∷ 1 ∷ 65536 ∷ 5 ∷ 3 ∷ 9 ∷ 1 ∷ [])
      ∷ (0 ∷ 1 ∷ 0 ∷ 65541 ∷ 3 ∷ 9 ∷ 1 ∷ [])
      ∷ (0 ∷ 1 ∷ 0 ∷ 5 ∷ 65539 ∷ 9 ∷ 1 ∷ [])
      ∷ (0 ∷ 1 ∷ 0 ∷ 5 ∷ 3 ∷ 65545 ∷ 1 ∷ [])
      ∷ (0 ∷ 1 ∷ 0 ∷ 5 ∷ 3 ∷ 9 ∷ 65537 ∷ [])
      ∷ [])
      ≡ each (lent 7) (left 1 [] (lent 7) [])

-- Records of the extractor that are refused by 10: of no kind, with an entry that the kind does not use, or with a count too great.
abbrev pub unmade : List (List ℕ)
unmade =
    (5 ∷ 0 ∷ 0 ∷ 0 ∷ [])
    ∷ (0 ∷ 1 ∷ 0 ∷ 0 ∷ [])
    ∷ (0 ∷ 0 ∷ 1 ∷ 0 ∷ [])
    ∷ (0 ∷ 0 ∷ 0 ∷ 1 ∷ [])
    ∷ (1 ∷ 0 ∷ 1 ∷ 0 ∷ [])
    ∷ (1 ∷ 0 ∷ 0 ∷ 1 ∷ [])
    ∷ (2 ∷ 0 ∷ 0 ∷ 1 ∷ [])
    ∷ (4 ∷ 0 ∷ 1 ∷ 0 ∷ [])
    ∷ (4 ∷ 0 ∷ 0 ∷ 1 ∷ [])
    ∷ (1 ∷ 4294967296 ∷ 0 ∷ 0 ∷ [])
    ∷ (2 ∷ 4294967296 ∷ 0 ∷ 0 ∷ [])
    ∷ (3 ∷ 4294967296 ∷ 0 ∷ 0 ∷ [])
    ∷ (4 ∷ 4294967296 ∷ 0 ∷ 0 ∷ [])
    ∷ []

-- so for the judge, with its tally, its last count and the index of its fault
abbrev pub unjudged : List (List ℕ)
unjudged =
    (3 ∷ 0 ∷ 0 ∷ 0 ∷ [])
    ∷ (0 ∷ 1 ∷ 0 ∷ 0 ∷ [])
    ∷ (0 ∷ 0 ∷ 1 ∷ 0 ∷ [])
    ∷ (0 ∷ 0 ∷ 0 ∷ 1 ∷ [])
    ∷ (2 ∷ 1 ∷ 0 ∷ 1 ∷ [])
    ∷ (1 ∷ 4294967297 ∷ 0 ∷ 0 ∷ [])
    ∷ (1 ∷ 1 ∷ 4294967296 ∷ 0 ∷ [])
    ∷ (2 ∷ 4294967297 ∷ 0 ∷ 0 ∷ [])
    ∷ (2 ∷ 1 ∷ 4294967296 ∷ 0 ∷ [])
    ∷ []

-- and for a reader of bits, with its flag, which is 0 or 1, and 0 before the first frame
abbrev pub unread : List (List ℕ)
unread =
    (2 ∷ 0 ∷ 0 ∷ [])
    ∷ (2 ∷ 7 ∷ 0 ∷ [])
    ∷ (2 ∷ 0 ∷ 1 ∷ [])
    ∷ (0 ∷ 7 ∷ 0 ∷ [])
    ∷ (0 ∷ 0 ∷ 1 ∷ [])
    ∷ (0 ∷ 0 ∷ 2 ∷ [])
    ∷ (1 ∷ 4294967296 ∷ 0 ∷ [])
    ∷ (1 ∷ 16777216 ∷ 1 ∷ [])
    ∷ (1 ∷ 3 ∷ 2 ∷ [])
    ∷ (1 ∷ 3 ∷ 256 ∷ [])
    ∷ (1 ∷ 3 ∷ 4294967297 ∷ [])
    ∷ []

-- Each is refused by 10 and stays as it was.
pub record Refused : Type 0 where
  pub entered : map (λ (r : List ℕ). enter_leaves settings r store (frame 1 0x00 0x03 rest) (lent 7)) unmade
      ≡ map (λ (r : List ℕ). left 10 r [] (0 ∷ 0 ∷ 0 ∷ 0 ∷ 0 ∷ 0 ∷ 0 ∷ [])) unmade
  pub stepped : map (λ (r : List ℕ). step_leaves settings r store (frame 1 0x00 0x03 rest) (lent 5)) unmade
      ≡ map (λ (r : List ℕ). left 10 r store (0 ∷ 0 ∷ 0 ∷ 0 ∷ 0 ∷ [])) unmade
  pub judged : map (λ (r : List ℕ). judge_leaves settings r store (frame 1 0x00 0x03 rest)) unjudged ≡ map (λ (r : List ℕ). left 10 r store []) unjudged
  pub taped : map (λ (r : List ℕ). tape_leaves settings r store (frame 1 0x00 0x03 rest)) unjudged ≡ map (λ (r : List ℕ). left 10 r store []) unjudged
  pub closed : map (λ (r : List ℕ). close_leaves settings r store (lent 2)) unjudged ≡ each unjudged (left 10 [] [] (0 ∷ 0 ∷ []))
  pub flushed : mux_leaves to_flush 1 flush_numbers settings (4294967296 ∷ 8 ∷ 0 ∷ 0 ∷ []) (lent 18) (lent 1)
      ≡ left 10 (4294967296 ∷ 8 ∷ 0 ∷ 0 ∷ []) (lent 18) (0 ∷ [])
  pub written : write_leaves bit_settings (4294967296 ∷ []) [] 0 (lent 10) ≡ left 10 (4294967296 ∷ []) (lent 10) []
  pub read : map (λ (r : List ℕ). read_leaves bit_settings r (frame 4 0x00 0x08 (lent 2)) (lent 6)) unread
      ≡ map (λ (r : List ℕ). left 10 r [] (0 ∷ 0 ∷ 0 ∷ 0 ∷ 0 ∷ 0 ∷ [])) unread
  -- no space packet's header: all is 0
  pub no_space : read_space_leaves (0x10 ∷ 0x05 ∷ 0xC0 ∷ 0x09 ∷ 0x00 ∷ []) (lent 8) ≡ left 8 [] [] (0 ∷ 0 ∷ 0 ∷ 0 ∷ 0 ∷ 0 ∷ 0 ∷ 0 ∷ [])
  -- the first frame that a reader of bits reads
  pub first_read : read_leaves bit_settings (0 ∷ 0 ∷ 0 ∷ []) (frame 4 0x00 0x08 (lent 2)) (lent 6) ≡ left 0 (1 ∷ 4 ∷ 0 ∷ []) [] (4 ∷ 0 ∷ 0 ∷ 9 ∷ 8 ∷ 2 ∷ [])

-- frames with a trailer: written when the zone is full, and until then as lent; refused by 13, by which nothing changes; a fault for the judge
pub record Trailers : Type 0 where
  pub begun : mux_leaves (to_put seven) 3 put_numbers settings_trailed (4 ∷ 0 ∷ 2047 ∷ 0 ∷ []) (lent 20) (lent 3)
      ≡ left 0 (4 ∷ 7 ∷ 0 ∷ 0 ∷ []) (lent 8 ++ (seven ++ lent 5)) (0 ∷ 1 ∷ 0 ∷ [])
  pub flushed : mux_leaves to_flush 1 flush_numbers settings_trailed (4 ∷ 8 ∷ 0 ∷ 0 ∷ []) (lent 21) (lent 1)
      ≡ left 0 (5 ∷ 0 ∷ 2047 ∷ 0 ∷ []) (frame 4 0x00 0x00 (lent 8 ++ (0xE1 ∷ 0x02 ∷ 0x29 ∷ 0x56 ∷ 0xFF ∷ []))) (2 ∷ [])
  pub no_room : mux_leaves to_flush 1 flush_numbers settings_trailed (4 ∷ 8 ∷ 0 ∷ 0 ∷ []) (lent 19) (lent 1) ≡ left 2 (4 ∷ 8 ∷ 0 ∷ 0 ∷ []) (lent 19) (0 ∷ [])
  pub entered : map (λ (low : ℕ). enter_leaves settings_trailed (2 ∷ 0 ∷ 2 ∷ 0 ∷ []) store (frame 1 0x00 0x03 (rest ++ (0x43 ∷ low ∷ []))) (lent 7)) (0x63 ∷ 0x62 ∷ [])
      ≡ left 0 (3 ∷ 1 ∷ 2 ∷ 0 ∷ []) [] (1 ∷ 1 ∷ 0 ∷ 0 ∷ 0 ∷ 0 ∷ 0 ∷ []) ∷ left 13 (2 ∷ 0 ∷ 2 ∷ 0 ∷ []) [] (0 ∷ 0 ∷ 0 ∷ 0 ∷ 0 ∷ 0 ∷ 0 ∷ []) ∷ []
  pub stepped : step_leaves settings_trailed (3 ∷ 1 ∷ 0 ∷ 3 ∷ []) store (frame 1 0x00 0x03 (rest ++ lent 2)) (lent 5)
      ≡ left 0 (3 ∷ 1 ∷ 0 ∷ 10 ∷ []) store (2 ∷ 1 ∷ 11 ∷ 7 ∷ 0 ∷ [])
  pub judged : map (λ (low : ℕ). judge_leaves settings_trailed (1 ∷ 1 ∷ 0 ∷ 2 ∷ []) store (frame 1 0x00 0x03 (rest ++ (0x43 ∷ low ∷ [])))) (0x63 ∷ 0x62 ∷ [])
      ≡ left 0 (1 ∷ 2 ∷ 1 ∷ 0 ∷ []) (0xE9 ∷ 0x05 ∷ 0x11 ∷ 0x22 ∷ 0x33 ∷ lent 7) [] ∷ left 0 (2 ∷ 2 ∷ 1 ∷ 0 ∷ []) store [] ∷ []
  pub written : write_leaves bit_settings_trailed (4 ∷ []) (0xAB ∷ []) 8 (lent 13)
      ≡ left 0 (5 ∷ []) (frame 4 0x00 0x07 (0xAB ∷ 0x55 ∷ 0xDD ∷ 0xA6 ∷ 0xFF ∷ [])) []
  pub read : map (λ (low : ℕ). read_leaves bit_settings_trailed (1 ∷ 3 ∷ 1 ∷ []) (frame 4 0x00 0x07 (0xAB ∷ 0x55 ∷ 0xDD ∷ low ∷ [])) (lent 6)) (0xA6 ∷ 0xA7 ∷ [])
      ≡ left 0 (1 ∷ 4 ∷ 0 ∷ []) [] (4 ∷ 0 ∷ 1 ∷ 8 ∷ 8 ∷ 1 ∷ []) ∷ left 13 (1 ∷ 3 ∷ 1 ∷ []) [] (0 ∷ 0 ∷ 0 ∷ 0 ∷ 0 ∷ 0 ∷ []) ∷ []

-- the count of 28 bits, through each call: written, entered, judged and read; and frames without usage 1, by which nothing changes
pub record Editions : Type 0 where
  pub flushed : mux_leaves to_flush 1 flush_numbers (stating 2) (268435455 ∷ 8 ∷ 0 ∷ 0 ∷ []) (lent 18) (lent 1)
      ≡ left 0 (0 ∷ 0 ∷ 2047 ∷ 0 ∷ []) (0x50 ∷ 0x83 ∷ 0xFF ∷ 0xFF ∷ 0xFF ∷ 0x4F ∷ 0 ∷ 0 ∷ (lent 8 ++ (0xE1 ∷ 0x02 ∷ []))) (2 ∷ [])
  pub entered : map (λ (o : ℕ). enter_leaves (stating 2) (2 ∷ 16777215 ∷ 0 ∷ 0 ∷ []) store (0x50 ∷ 0x83 ∷ 0 ∷ 0 ∷ 0 ∷ o ∷ 0 ∷ 3 ∷ rest) (lent 7)) (0x41 ∷ 0xC3 ∷ 0x01 ∷ [])
      ≡ left 0 (3 ∷ 16777216 ∷ 0 ∷ 3 ∷ []) [] (1 ∷ 16777216 ∷ 0 ∷ 0 ∷ 0 ∷ 2 ∷ 0 ∷ [])
      ∷ left 0 (3 ∷ 50331648 ∷ 0 ∷ 3 ∷ []) [] (1 ∷ 50331648 ∷ 1 ∷ 33554432 ∷ 0 ∷ 1 ∷ 0 ∷ [])
      ∷ left 6 (2 ∷ 16777215 ∷ 0 ∷ 0 ∷ []) [] (0 ∷ 0 ∷ 0 ∷ 0 ∷ 0 ∷ 0 ∷ 0 ∷ [])
      ∷ []
  pub judged : map (λ (o : ℕ). judge_leaves (stating 2) (1 ∷ 1 ∷ 16777215 ∷ 0 ∷ []) store (0x50 ∷ 0x83 ∷ 0 ∷ 0 ∷ 0 ∷ o ∷ 0x07 ∷ 0xFE ∷ rest)) (0x41 ∷ 0x40 ∷ 0x01 ∷ [])
      ≡ left 0 (1 ∷ 2 ∷ 16777216 ∷ 0 ∷ []) store [] ∷ left 0 (2 ∷ 2 ∷ 1 ∷ 0 ∷ []) store [] ∷ left 0 (2 ∷ 2 ∷ 1 ∷ 0 ∷ []) store [] ∷ []
  pub written : write_leaves (bits_stating 2) (16777216 ∷ []) (0xAB ∷ []) 8 (lent 10)
      ≡ left 0 (16777217 ∷ []) (0x50 ∷ 0x83 ∷ 0 ∷ 0 ∷ 0 ∷ 0x41 ∷ 0x00 ∷ 0x07 ∷ 0xAB ∷ 0x55 ∷ []) []
  pub read : map (λ (o : ℕ). read_leaves (bits_stating 2) (1 ∷ 268435455 ∷ 0 ∷ []) (0x50 ∷ 0x83 ∷ 0 ∷ 0 ∷ 0 ∷ o ∷ 0x00 ∷ 0x07 ∷ lent 2) (lent 6)) (0x40 ∷ 0x41 ∷ 0x00 ∷ [])
      ≡ left 0 (1 ∷ 0 ∷ 0 ∷ []) [] (0 ∷ 0 ∷ 0 ∷ 8 ∷ 8 ∷ 1 ∷ [])
      ∷ left 0 (1 ∷ 16777216 ∷ 0 ∷ []) [] (16777216 ∷ 0 ∷ 1 ∷ 8 ∷ 8 ∷ 1 ∷ [])
      ∷ left 6 (1 ∷ 268435455 ∷ 0 ∷ []) [] (0 ∷ 0 ∷ 0 ∷ 0 ∷ 0 ∷ 0 ∷ [])
      ∷ []
  -- with usage 0 the same numbers are those of 701.0-B-2
  pub unused : map (λ (n : ℕ). mux_leaves to_flush 1 flush_numbers (stating n) (16777215 ∷ 8 ∷ 0 ∷ 0 ∷ []) (lent 18) (lent 1)) (0 ∷ 1 ∷ [])
      ≡ replicate 2 (left 0 (0 ∷ 0 ∷ 2047 ∷ 0 ∷ []) (0x50 ∷ 0x83 ∷ 0xFF ∷ 0xFF ∷ 0xFF ∷ 0x00 ∷ 0 ∷ 0 ∷ (lent 8 ++ (0xE1 ∷ 0x02 ∷ []))) (2 ∷ []))

pub record InC : Type 0 where
  pub short : Short
  pub outside : Outside
  pub refused : Refused
  pub stated : Settings
  pub packets : Packets
  pub multiplexer : Multiplexer
  pub extractor : Extractor
  pub judge : Judge
  pub bits : Bits
  pub relay : Relay
  pub trailers : Trailers
  pub editions : Editions
