-- Document 01's numbers and layouts hold, by computing.
-- Assumes nothing.
use mathlib.Core.Path.{refl}
use Rattle.packets.specs.Header.{seen}
use Rattle.packets.specs.Damage.{wrong_version, not_idle, states_length, below_its_header, over_limit}
use Rattle.space.specs.Space.{space_writes}
use Rattle.trailer.proofs.Vectors.{vectors}
use Rattle.demands.specs.Numbers.{Numbers}
use Rattle.demands.specs.Numbers.Ranges.{Edges}
use Rattle.demands.specs.Numbers.Octets as octets
use Rattle.demands.specs.Numbers.FrameFields as frames
use Rattle.demands.specs.Numbers.PacketFields.{SpacePackets, EncapsulationPackets, Parts, IdlePackets}
use Rattle.demands.specs.Numbers.SpaceFields as space
use Rattle.demands.specs.Numbers.Damages as damages
use Rattle.demands.specs.Numbers.Wrapping as wrapping
use Rattle.demands.specs.Numbers.Relaying as relaying
use Rattle.demands.specs.Numbers.Multiplexing as multiplexing
use Rattle.demands.specs.Numbers.Entering as entering
use Rattle.demands.specs.Numbers.Stepping as stepping
use Rattle.demands.specs.Numbers.Judging as judging
use Rattle.demands.specs.Numbers.Bits as bits
use Rattle.demands.specs.Numbers.RunFiles as runs
use Rattle.demands.specs.Numbers.Trailers as trailers
use Rattle.demands.specs.Numbers.Editions as editions
use Rattle.demands.specs.Numbers.Answers.{Cases, Together}
use Rattle.demands.proofs.Computing as computing
use Rattle.demands.proofs.NumbersInC.{in_c}
use Rattle.demands.proofs.OnlyThese.{only_these}

ranges : Edges
unfolding computing.multiplexing computing.judging computing.bitstreams
ranges = record {
  settings_in = refl;
  settings_out = refl;
  heads_in = refl;
  heads_out = refl;
  tests = refl;
  tests_out = refl;
  bits_in = refl;
  bits_out = refl;
  bit_tests = refl;
  trailers = λ s on. refl;
  bit_trailers = λ s on. refl;
  editions = λ s e. refl;
  bit_editions = λ s e. refl;
  limits = refl;
  formed = refl;
  protocols = refl;
  extensions = refl;
  extended = refl;
  most_bits = refl;
  counts = refl;
  bit_counts = refl;
  pointers = refl;
  bit_pointers = refl;
}

octets_laid : octets.Octets
unfolding computing.packets
octets_laid = record {
  read = refl;
  longer = refl;
  written = refl;
  fields = refl;
  room = refl;
  over = refl;
  part = refl;
  part_over = refl;
  handed_back = refl;
}

arrays_left : octets.Arrays
unfolding computing.packets
arrays_left = record {
  flags = refl;
  octets_of = refl;
  counts_of = refl;
  written = refl;
  record_after = refl;
  record_short = refl;
  answers = refl;
  answers_short = refl;
}

frame_read : frames.Read
unfolding computing.frames
frame_read = record {
  each = refl;
  each_bits = refl;
  versions = refl;
  others = refl;
  signals = refl;
  bit_versions = refl;
  bit_others = refl;
  bit_signals = refl;
  spares = refl;
  bit_spares = refl;
  unused = refl;
  bit_unused = refl;
  order = refl;
  bit_order = refl;
  lengths = refl;
  other_lengths = refl;
  other_bit_lengths = refl;
}

frame_written : frames.Written
unfolding computing.frames
frame_written = record { each = refl; each_bits = refl; highest = refl; refusals = refl; bit_refusals = refl }

wheel : frames.Wheel
unfolding computing.frames
wheel = record { missing_before = refl; off_the_wheel = refl }

space_packets : SpacePackets
unfolding computing.packets
space_packets = record { apids = refl; lengths = refl; others = refl; unfinished = refl; limits = refl; pass_12 = refl }

encapsulation_packets : EncapsulationPackets
unfolding computing.packets
encapsulation_packets = record {
  protocols = refl;
  one_octet = refl;
  lengths = refl;
  past_the_limit = refl;
  others = refl;
  below = refl;
  unfinished = refl;
  limits = refl;
  versions = refl;
  stated = refl;
}

parts : Parts
unfolding computing.packets
parts = record { headers = refl; unfinished = refl; totals = refl; damaged = refl; idle = refl; not_idle = refl }

space_headers : space.Headers
unfolding computing.packets
space_headers = record { read = refl; written = refl; too_great = refl; no_room = refl; versions = refl; not_read = refl }

multiplexer : multiplexing.Refusals
unfolding computing.multiplexing
multiplexer = record {
  begins = refl;
  put = refl;
  flush = refl;
  idle = refl;
  just_begun = refl;
  put_order = refl;
  flush_order = refl;
  idle_order = refl;
  reached = refl;
  not_reached = refl;
}

enter : entering.Refusals
unfolding computing.extracting
enter = record { each = refl; order = refl }

records : entering.Records
unfolding computing.extracting
records = record { reached = refl; not_reached = refl; longer = refl; damaged = refl }

step : stepping.Refusals
unfolding computing.extracting
step = record { each = refl; order = refl }

judge : judging.Refusals
unfolding computing.judging
judge = record {
  each = refl;
  close_each = refl;
  order = refl;
  close_order = refl;
  last_frames = refl;
  past_the_last = refl;
  reached = refl;
  not_reached = refl;
}

tape : judging.TapeRefusals
unfolding computing.judging
tape = record { each = refl; order = refl; last_frames = refl; with_a_rest = refl; past_the_last = refl; trailed = refl }

wrap : wrapping.Refusals
unfolding computing.packets
wrap = record { wrap = refl; unwrap = refl; wrap_order = refl; unwrap_order = refl }

write_idle : IdlePackets
unfolding computing.packets
write_idle = record { longest = refl; its_length = refl; lengths = refl; rooms = refl; order = refl }

bitstream : bits.Refusals
unfolding computing.bitstreams
bitstream = record { write = refl; write_order = refl; read = refl; read_order = refl }

multiplexed : multiplexing.Frames
unfolding computing.multiplexing
multiplexed = record {
  begun_zone = refl;
  full_zone = refl;
  cut = refl;
  rest = refl;
  next_start = refl;
  no_start = refl;
  empty_flush = refl;
  three_left = refl;
  one_left = refl;
  idle_zone = refl;
}

entered : entering.Reasons
unfolding computing.extracting
entered = record {
  fresh = refl;
  astray = refl;
  lost = refl;
  lost_astray = refl;
  lost_first = refl;
  none_held = refl;
  held_agrees = refl;
  held_differs = refl;
  held_reserved = refl;
  unfinished = refl;
  damaged = refl;
  too_long = refl;
  damaged_reserved = refl;
  replayed = refl;
}

stepped : stepping.Events
unfolding computing.extracting
stepped = record {
  completed = refl;
  in_frame = refl;
  spent = refl;
  damaged = refl;
  lengths = refl;
  damaged_held = refl;
  left = refl;
  appended = refl;
  begun = refl;
  idle = refl;
  not_idle = refl;
}

spent : stepping.Spending
unfolding computing.extracting
spent = record {
  refused = refl;
  order = refl;
  completed = refl;
  walked = refl;
  damaged = refl;
  damaged_held = refl;
  left = refl;
  appended = refl;
  begun = refl;
}

judged : judging.Faults
unfolding computing.judging
judged = record {
  sound = refl;
  holding = refl;
  refused = refl;
  next = refl;
  later = refl;
  held = refl;
  replayed = refl;
}

taped : judging.Tapes
unfolding computing.judging
taped = record {
  cut = refl;
  taken = refl;
  first_taken = refl;
  second_taken = refl;
  faulted = refl;
  later = refl;
  none = refl;
  refused = refl;
}

closed : judging.Verdicts
unfolding computing.judging
closed = record { each = refl; refused = refl }

wrapped : wrapping.Wrapped
unfolding computing.packets
wrapped = record {
  two = refl;
  refused = refl;
  protocols = refl;
  extensions = refl;
  pass_10 = refl;
  pass_11 = refl;
  extended = refl;
}

unwrapped : wrapping.Units
unfolding computing.packets
unwrapped = record { each = refl; part = refl }

losses_told : bits.Losses
unfolding computing.bitstreams
losses_told = record {
  in_step = refl;
  wheel = refl;
  in_fill = refl;
  long_fill = refl;
  channels = refl;
  two = refl;
  own = refl;
  each_bits = refl;
  from_the_start = refl;
  again = refl;
  few = refl;
  all = refl;
  replays = refl;
  refusals = refl;
  refused = refl;
  refused_waits = refl;
  left = refl;
}

bits_carried : bits.Frames
unfolding computing.bitstreams
bits_carried = record {
  begins = refl;
  none = refl;
  some = refl;
  longer = refl;
  wheel = refl;
  valid = refl;
  reserved = refl;
  replayed = refl;
  follows = refl;
  waited = refl;
  fill_alone = refl;
  fill_waits = refl;
  leading = refl;
  other_length = refl;
}

run_files : runs.Records
unfolding computing.run_files
run_files = record {
  setups = refl;
  no_trailer = refl;
  no_edition = refl;
  bodies = refl;
  first = refl;
  frame = refl;
  end = refl;
  after = refl;
  last_frame = refl;
  last_body = refl;
  last_end = refl;
  cut = refl;
  stays = refl;
  no_bodies = refl;
  whole = refl;
  written = refl;
  bad_records = refl;
  bad_after = refl;
  bad_frames = refl;
}

answers : Cases
unfolding computing.multiplexing computing.judging seen
answers = record {
  entering = refl;
  refused_step = refl;
  in_frame = refl;
  in_store = refl;
  no_part = refl;
  shows = refl;
  shows_found = refl;
  closing = refl;
  headers = refl;
  refused_header = refl;
  put = refl;
  refused_put = refl;
  flushed = refl;
  refused_flush = refl;
  wrapped = refl;
  unwrapped = refl;
  space_read = refl;
  damage_found = λ d. refl;
  damage_read = λ d. refl;
  damage_seen = λ d. refl;
  damage_put = λ r d. refl;
  damage_wrapped = λ r. refl;
  damage_unwrapped = λ r d. refl;
  damage_entered = λ d. refl;
  lengths = refl;
}

together : Together
unfolding computing.judging space_writes
together = record {
  entering = refl;
  stepping = refl;
  spending = refl;
  spent = refl;
  judging = refl;
  writing_bits = refl;
  reading_bits = refl;
  writing_space = refl;
  in_c = refl;
}

loaded : relaying.Tables
unfolding computing.relays
loaded = record {
  none = refl;
  counts = refl;
  apids = refl;
  places = refl;
  pairs = refl;
  first = refl;
  replaced = refl;
  emptied = refl;
  kept = refl;
  made = refl;
  not_made = refl;
}

routed : relaying.Ways
unfolding computing.relays
routed = record {
  path = refl;
  one = refl;
  most = refl;
  no_path = refl;
  no_entries = refl;
  limits = refl;
  unmade = refl;
  malformed = refl;
  no_room = refl;
  order = refl;
  damage_routed = λ r d. refl;
  cases = refl;
}

trailer_octets : trailers.Octets
unfolding computing.trailers
trailer_octets = record {
  vectors = vectors;
  longer = refl;
  right = refl;
  wrong_ones = refl;
  none = refl;
  written = refl;
  far = refl;
  unwritten = refl;
}

trailers_refused : trailers.Refusals
unfolding computing.judging computing.bitstreams
trailers_refused = record {
  lengths = refl;
  other_lengths = refl;
  other_bit_lengths = refl;
  before = refl;
  behind = refl;
  bits_before = refl;
  bits_behind = refl;
  last = refl;
  bits_last = refl;
}

trailed : trailers.Outcomes
unfolding computing.multiplexing computing.judging computing.bitstreams
trailed = record {
  begun_zone = refl;
  full_zone = refl;
  flushed = refl;
  idle_zone = refl;
  room = refl;
  entered = refl;
  stepped = refl;
  judged = refl;
  bits_written = refl;
  bits_room = refl;
  bits_read = refl;
  bits_refused = refl;
  leading = refl;
}

edition_layouts : editions.Layouts
unfolding computing.bitstreams
edition_layouts = record {
  widths = refl;
  bit_widths = refl;
  signals = refl;
  bit_signals = refl;
  cycles = refl;
  bit_cycles = refl;
  edges = refl;
  written = refl;
  bits_written = refl;
  unused_written = refl;
  greatest = refl;
  bits_greatest = refl;
  missing_before = refl;
  next = refl;
}

edition_refusals : editions.Refusals
unfolding computing.multiplexing computing.judging computing.bitstreams
edition_refusals = record {
  order = refl;
  bit_order = refl;
  entered = refl;
  kept = refl;
  judged = refl;
  bits_read = refl;
  multiplexer = refl;
  extractor = refl;
  judge = refl;
  writer = refl;
  reader = refl;
  most_frames = refl;
}

edition_outcomes : editions.Outcomes
unfolding computing.multiplexing computing.judging computing.bitstreams
edition_outcomes = record {
  put = refl;
  flushed = refl;
  idle = refl;
  unused = refl;
  entered = refl;
  turned = refl;
  judged = refl;
  bits_written = refl;
  bits_read = refl;
}

damaged_headers : damages.Headers
unfolding computing.packets
damaged_headers = record {
  firsts = refl;
  cut = refl;
  below = refl;
  below_four = refl;
  below_eight = refl;
  spaces = refl;
  over_two = refl;
  over_four = refl;
  over_eight = refl;
  over_space = refl;
  least = refl;
  unfinished = refl;
  behind = refl;
}

damage_tests : damages.Tests
unfolding computing.packets wrong_version not_idle states_length below_its_header over_limit
damage_tests = record { version = refl; one_octet = refl; each = refl; longer = refl; sound = refl }

damage_carried : damages.Refusals
unfolding computing.multiplexing computing.relays
damage_carried = record {
  put = refl;
  put_eight = refl;
  unwrapped = refl;
  unwrapped_eight = refl;
  routed = refl;
  routed_eight = refl;
  space_packets = refl;
  line_2831 = refl;
  wrapped = refl;
  puts = refl;
  limits = refl;
  unmade = refl;
  sound = refl;
}

damaged_walks : damages.Walks
unfolding computing.extracting
damaged_walks = record {
  in_zone = refl;
  trailed = refl;
  at_the_end = refl;
  last_octet = refl;
  held = refl;
  cut_eight = refl;
  cut_eight_over = refl;
  cut_four = refl;
  cut_space = refl;
  other_reasons = refl;
  tight = refl;
}

pub numbers : Numbers
numbers = record {
  ranges = ranges;
  layouts = record {
    arrays = arrays_left;
    octets = octets_laid;
    frame_read = frame_read;
    frame_written = frame_written;
    wheel = wheel;
    trailers = trailer_octets;
    editions = edition_layouts;
    space_packets = space_packets;
    encapsulation_packets = encapsulation_packets;
    parts = parts;
    damaged = damaged_headers;
    damage_tests = damage_tests;
    space_headers = space_headers;
  };
  refusals = record {
    only = only_these;
    multiplexer = multiplexer;
    enter = enter;
    records = records;
    step = step;
    judge = judge;
    tape = tape;
    wrap = wrap;
    damage = damage_carried;
    write_idle = write_idle;
    bitstream = bitstream;
    trailers = trailers_refused;
    editions = edition_refusals;
  };
  outcomes = record {
    multiplexed = multiplexed;
    entered = entered;
    stepped = stepped;
    damaged = damaged_walks;
    spent = spent;
    judged = judged;
    taped = taped;
    closed = closed;
    wrapped = wrapped;
    unwrapped = unwrapped;
    losses = losses_told;
    bits = bits_carried;
    loaded = loaded;
    routed = routed;
    trailed = trailed;
    editions = edition_outcomes;
  };
  run_files = run_files;
  answers = answers;
  together = together;
  in_c = in_c;
}
