-- The arrays of the C interface hold what the examples say, by computing.
-- Assumes nothing.
use mathlib.Core.Path.{refl}
use Rattle.demands.specs.Numbers.InC as arrays
use Rattle.demands.proofs.Computing as computing

stated : arrays.Settings
unfolding computing.arrays
stated = record {
  packets = refl;
  bits = refl;
  by_edition = refl;
  bits_by_edition = refl;
}

packets : arrays.Packets
unfolding computing.arrays
packets = record {
  headers = refl;
  damaged = refl;
  refused = refl;
  short = refl;
  formed = refl;
  wrapped = refl;
  not_wrapped = refl;
  unwrapped = refl;
  not_unwrapped = refl;
  unit = refl;
  no_unit = refl;
  space_read = refl;
  space_written = refl;
}

multiplexer : arrays.Multiplexer
unfolding computing.arrays
multiplexer = record {
  begun = refl;
  taken = refl;
  full = refl;
  damaged = refl;
  nothing = refl;
  flushed = refl;
  refused = refl;
}

extractor : arrays.Extractor
unfolding computing.arrays
extractor = record {
  entered = refl;
  lost = refl;
  early = refl;
  in_store = refl;
  in_frame = refl;
  spent = refl;
  damaged = refl;
  dropped = refl;
  shown = refl;
}

judge : arrays.Judge
unfolding computing.arrays
judge = record {
  judged = refl;
  faulted = refl;
  taped = refl;
  tape_edges = refl;
  closed = refl;
}

bits : arrays.Bits
unfolding computing.arrays
bits = record {
  written = refl;
  read = refl;
  fill = refl;
  waited = refl;
}

relay : arrays.Relay
unfolding computing.arrays
relay = record {
  loaded = refl;
  emptied = refl;
  full = refl;
  no_table = refl;
  no_destination = refl;
  path = refl;
  no_path = refl;
  no_room = refl;
  refused = refl;
  damaged = refl;
  unmade = refl;
}

short : arrays.Short
unfolding computing.arrays
short = record { packets = refl; space = refl; mux = refl; extractor = refl; judge = refl; tape = refl; bits = refl; relay = refl; route = refl }

outside : arrays.Outside
unfolding computing.arrays
outside = record {
  put = refl;
  flush = refl;
  idle = refl;
  enter = refl;
  step = refl;
  judge = refl;
  tape = refl;
  close = refl;
  write = refl;
  read = refl;
  limit = refl;
  wrap = refl;
  space = refl;
}

refused : arrays.Refused
unfolding computing.arrays
refused = record {
  entered = refl;
  stepped = refl;
  judged = refl;
  taped = refl;
  closed = refl;
  flushed = refl;
  written = refl;
  read = refl;
  no_space = refl;
  first_read = refl;
}

trailers : arrays.Trailers
unfolding computing.arrays
trailers = record {
  begun = refl;
  flushed = refl;
  no_room = refl;
  entered = refl;
  stepped = refl;
  judged = refl;
  written = refl;
  read = refl;
}

editions : arrays.Editions
unfolding computing.arrays
editions = record { flushed = refl; entered = refl; judged = refl; written = refl; read = refl; unused = refl }

pub in_c : arrays.InC
in_c = record { short = short; outside = outside; refused = refused; stated = stated; packets = packets; multiplexer = multiplexer; extractor = extractor; judge = judge; bits = bits; relay = relay; trailers = trailers; editions = editions }
