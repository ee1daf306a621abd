-- A multiplexer used with care: each packet lent until it is taken, each frame until it is full, flushes and idle zones
-- anywhere between packets, and a flush at the end.
use Rattle.std.specs.Prelude.{ℕ, zero, suc, ◌+◌, ◌-◌, ◌%◌, List, [], ◌∷◌, ◌++◌, length, take, eqb}
use Rattle.octets.specs.Basics.{pick}
use Rattle.packets.specs.Packet.{WellFormed}
use Rattle.wrapping.specs.Idle.{idle_packet}
use Rattle.frames.specs.Frame.{frame_length}
use Rattle.frames.specs.declared.Settings.{Settings}
use Rattle.multiplexer.specs.Multiplex.{begun}
use Rattle.multiplexer.specs.Calls.{Call, to_put, to_flush, to_idle, Answer, answer}
use Rattle.multiplexer.specs.declared.Mux.{Mux}

-- ---- the calls

-- where a run stands: the record, the frame that is lent now, the frames that are written, and what each call was refused for
pub record Sending : Type 0 where
  pub mux : Mux
  pub frame : List ℕ
  pub written : List (List ℕ)
  pub refusals : List ℕ

-- `lend n` is the buffer that is lent once n frames are written
abbrev pub set_out : (ℕ → List ℕ) → Sending
set_out lend = record { mux = begun; frame = lend 0; written = []; refusals = [] }

-- a frame that is full is written, and the next is lent
abbrev pub answered : Settings → (ℕ → List ℕ) → Sending → Answer → Sending
answered s lend x a =
    pick a.full
    (record {
      mux = a.mux;
      frame = lend (suc (length x.written));
      written = x.written ++ (take (frame_length s) a.frame ∷ []);
      refusals = a.refusal ∷ x.refusals;
    })
    (record { mux = a.mux; frame = a.frame; written = x.written; refusals = a.refusal ∷ x.refusals })

abbrev pub after : Settings → (ℕ → List ℕ) → Sending → Call → Sending
after s lend x c = answered s lend x (answer s x.mux c x.frame)

-- calls with one packet until it is taken: each takes an octet at least, so as many as it has octets are enough
unfoldable pub until_taken : ℕ → Settings → (ℕ → List ℕ) → List ℕ → Sending → Sending
until_taken zero s lend p x = x
until_taken (suc n) s lend p x =
    let y : Sending = after s lend x (to_put p) in
    pick (answer s x.mux (to_put p) x.frame).taken y (until_taken n s lend p y)

-- one order: a packet, until it is taken; a flush; an idle zone, before which a begun one is flushed
unfoldable pub with_care : Settings → (ℕ → List ℕ) → Sending → Call → Sending
with_care s lend x (to_put p) = until_taken (length p) s lend p x
with_care s lend x to_flush = after s lend x to_flush
with_care s lend x to_idle = after s lend (after s lend x to_flush) to_idle

-- the orders of a list, closed by a flush
unfoldable pub run_from : Settings → (ℕ → List ℕ) → Sending → List Call → Sending
run_from s lend x [] = after s lend x to_flush
run_from s lend x (c ∷ cs) = run_from s lend (with_care s lend x c) cs

abbrev pub run : Settings → (ℕ → List ℕ) → List Call → Sending
run s lend cs = run_from s lend (set_out lend) cs

-- ---- what they are to carry

-- the idle packet that a flush writes behind so many octets of a zone, if it writes one
unfoldable pub filler : Settings → ℕ → List (List ℕ)
filler s filled = pick (eqb filled 0) [] (idle_packet s.fill (s.zone - filled) ∷ [])

-- the packets of the orders, the idle packets of the flushes in their places, where the first zone has so many octets already
unfoldable pub offered : Settings → ℕ → List Call → List (List ℕ)
offered s filled [] = filler s filled
offered s filled (to_put p ∷ cs) = p ∷ offered s ((filled + length p) % s.zone) cs
offered s filled (to_flush ∷ cs) = filler s filled ++ offered s 0 cs
offered s filled (to_idle ∷ cs) = filler s filled ++ offered s 0 cs

-- each packet is well formed
abbrev pub Formed : Settings → Call → Type 0
Formed s (to_put p) = WellFormed s.limit p
Formed s to_flush = Unit {0}
Formed s to_idle = Unit {0}
