-- What the functions of the C interface promise.
use Rattle.std.specs.Prelude.{ℕ, ◌≡◌, List, []}
use contract.Lifetimes.{Lfts}
use denote.Ref.{at_last}
use Rattle.multiplexer.specs.Calls.{Call, to_put, to_flush, to_idle, Answer}
use Rattle.exports.specs.Left.{Left}
use Rattle.exports.specs.Packet.{header_leaves, formed_leaves, wrap_leaves, unwrap_leaves, unit_leaves}
use Rattle.exports.specs.Spaces.{read_space_leaves, write_space_leaves}
use Rattle.exports.specs.Mux.{begin_leaves, mux_leaves, put_numbers, flush_numbers, no_numbers}
use Rattle.exports.specs.Extract.{enter_leaves, step_leaves, show_leaves}
use Rattle.exports.specs.Judging.{judge_leaves, tape_leaves, close_leaves}
use Rattle.exports.specs.Bits.{write_leaves, read_leaves}
use Rattle.exports.specs.Relaying.{load_leaves, route_leaves}
use Rattle.exports.specs.Statements.{StatedAgain, ReadersExact, TablesLoaded, PartsNamed, ZeroIsRefused}
use Rattle.exports.proofs.itz_read_header.Reads as read_header_fn
use Rattle.exports.proofs.itz_well_formed.Reads as well_formed_fn
use Rattle.exports.proofs.itz_wrap.Reads as wrap_fn
use Rattle.exports.proofs.itz_unwrap.Reads as unwrap_fn
use Rattle.exports.proofs.itz_unit_part.Reads as unit_part_fn
use Rattle.exports.proofs.itz_read_space.Reads as read_space_fn
use Rattle.exports.proofs.itz_write_space.Reads as write_space_fn
use Rattle.exports.proofs.itz_mux_begin.Reads as mux_begin_fn
use Rattle.exports.proofs.itz_mux_put.Reads as mux_put_fn
use Rattle.exports.proofs.itz_mux_flush.Reads as mux_flush_fn
use Rattle.exports.proofs.itz_mux_idle.Reads as mux_idle_fn
use Rattle.exports.proofs.itz_extractor_enter.Reads as extractor_enter_fn
use Rattle.exports.proofs.itz_extractor_step.Reads as extractor_step_fn
use Rattle.exports.proofs.itz_show.Reads as show_fn
use Rattle.exports.proofs.itz_judge_frame.Reads as judge_frame_fn
use Rattle.exports.proofs.itz_judge_tape.Reads as judge_tape_fn
use Rattle.exports.proofs.itz_judge_close.Reads as judge_close_fn
use Rattle.exports.proofs.itz_bits_write.Reads as bits_write_fn
use Rattle.exports.proofs.itz_bits_read.Reads as bits_read_fn
use Rattle.exports.proofs.itz_relay_load.Reads as relay_load_fn
use Rattle.exports.proofs.itz_relay_route.Reads as relay_route_fn
use Rattle.demands.specs.Promises.{Slice, MutSlice, Contract, as_read, Is}

-- What a call leaves is its refusal, its record's array, its octets and its answer's array. One that the call has not is empty.
abbrev pub Each : Left → Type 0
Each o = Unit {0}

abbrev pub NoNumbers : Left → Type 0
NoNumbers o = o.numbers ≡ []

abbrev pub NoOctets : Left → Type 0
NoOctets o = o.octets ≡ []

abbrev pub NoAnswer : Left → Type 0
NoAnswer o = o.answer ≡ []

abbrev pub NumbersAlone : Left → Type 0
NumbersAlone o = NoOctets o × NoAnswer o

abbrev pub OctetsAlone : Left → Type 0
OctetsAlone o = NoNumbers o × NoAnswer o

abbrev pub AnswerAlone : Left → Type 0
AnswerAlone o = NoNumbers o × NoOctets o

-- a contract over what is left, with what the call has not
abbrev pub leaving : (Left → Type 0) → Type 0 → (Left → Type 0) → Contract Left
leaving lacks asks meets = as_read asks (λ o. meets o × lacks o)

-- a refused call leaves its record's array and its octets as they were lent
abbrev pub Keeps : Left → List ℕ → List ℕ → Type 0
Keeps l numbers octets = (l.refusal ≡ 0 → ⊥) → (l.numbers ≡ numbers) × (l.octets ≡ octets)

-- each call that writes a record or octets
pub record RefusedKeep : Type 0 where
  pub mux : (call : Call) (room : ℕ) (said : Answer → List ℕ) (settings numbers frame answer : List ℕ)
      → Keeps (mux_leaves call room said settings numbers frame answer) numbers frame
  pub enter : (settings numbers store frame answer : List ℕ) → Keeps (enter_leaves settings numbers store frame answer) numbers []
  pub step : (settings numbers store frame answer : List ℕ) → Keeps (step_leaves settings numbers store frame answer) numbers store
  pub judge : (settings numbers store frame : List ℕ) → Keeps (judge_leaves settings numbers store frame) numbers store
  pub tape : (settings numbers store tape : List ℕ) → Keeps (tape_leaves settings numbers store tape) numbers store
  pub bits_written : (settings numbers bits : List ℕ) (n : ℕ) (frame : List ℕ) → Keeps (write_leaves settings numbers bits n frame) numbers frame
  pub bits_read : (settings numbers frame answer : List ℕ) → Keeps (read_leaves settings numbers frame answer) numbers []
  pub wrapped : (limit protocol extension : ℕ) (unit packet answer : List ℕ) → Keeps (wrap_leaves limit protocol extension unit packet answer) [] packet
  pub space_written : (header octets : List ℕ) → Keeps (write_space_leaves header octets) [] octets
  pub loaded : (entries table : List ℕ) → Keeps (load_leaves entries table) table []
  pub routed : (limit : ℕ) (table packet destinations answer : List ℕ) → Keeps (route_leaves limit table packet destinations answer) [] destinations

-- Each call leaves what the rules give. What it leaves in a record's array states the record again, routing takes exactly the tables that loading leaves, the
-- parts that it names are those that the library hands back, a refused call leaves its record and its octets as they were lent, and an answer of all zeros is a refused one.
pub record OfExports : Type 0 where
  pub read_header : (κs : Lfts 2) (limit : ℕ) (octets : Slice) (answer : MutSlice)
      → Is (leaving AnswerAlone (read_header_fn.Pre κs (limit, (octets, (answer, tt)))) (λ o. read_header_fn.Post κs (limit, (octets, (answer, tt))) o.refusal (limit, (octets, (at_last answer o.answer, tt)))))
      (header_leaves limit octets.now answer.now)
  pub well_formed : (κs : Lfts 2) (limit : ℕ) (packet : Slice) (answer : MutSlice)
      → Is (leaving AnswerAlone (well_formed_fn.Pre κs (limit, (packet, (answer, tt)))) (λ o. well_formed_fn.Post κs (limit, (packet, (answer, tt))) o.refusal (limit, (packet, (at_last answer o.answer, tt)))))
      (formed_leaves limit packet.now answer.now)
  pub wrap : (κs : Lfts 3) (limit protocol extension : ℕ) (unit : Slice) (packet answer : MutSlice)
      → Is (leaving NoNumbers (wrap_fn.Pre κs (limit, (protocol, (extension, (unit, (packet, (answer, tt))))))) (λ o. wrap_fn.Post κs (limit, (protocol, (extension, (unit, (packet, (answer, tt)))))) o.refusal (limit, (protocol, (extension, (unit, (at_last packet o.octets, (at_last answer o.answer, tt))))))))
      (wrap_leaves limit protocol extension unit.now packet.now answer.now)
  pub unwrap : (κs : Lfts 2) (limit : ℕ) (packet : Slice) (answer : MutSlice)
      → Is (leaving AnswerAlone (unwrap_fn.Pre κs (limit, (packet, (answer, tt)))) (λ o. unwrap_fn.Post κs (limit, (packet, (answer, tt))) o.refusal (limit, (packet, (at_last answer o.answer, tt)))))
      (unwrap_leaves limit packet.now answer.now)
  pub unit_part : (κs : Lfts 3) (unwrapped packet : Slice) (answer : MutSlice)
      → Is (leaving AnswerAlone (unit_part_fn.Pre κs (unwrapped, (packet, (answer, tt)))) (λ o. unit_part_fn.Post κs (unwrapped, (packet, (answer, tt))) o.refusal (unwrapped, (packet, (at_last answer o.answer, tt)))))
      (unit_leaves unwrapped.now packet.now answer.now)
  pub read_space : (κs : Lfts 2) (octets : Slice) (answer : MutSlice)
      → Is (leaving AnswerAlone (read_space_fn.Pre κs (octets, (answer, tt))) (λ o. read_space_fn.Post κs (octets, (answer, tt)) o.refusal (octets, (at_last answer o.answer, tt))))
      (read_space_leaves octets.now answer.now)
  pub write_space : (κs : Lfts 2) (header : Slice) (octets : MutSlice)
      → Is (leaving OctetsAlone (write_space_fn.Pre κs (header, (octets, tt))) (λ o. write_space_fn.Post κs (header, (octets, tt)) o.refusal (header, (at_last octets o.octets, tt))))
      (write_space_leaves header.now octets.now)
  pub mux_begin : (κs : Lfts 1) (array : MutSlice)
      → Is (leaving NumbersAlone (mux_begin_fn.Pre κs (array, tt)) (λ o. mux_begin_fn.Post κs (array, tt) o.refusal (at_last array o.numbers, tt)))
      (begin_leaves array.now)
  pub mux_put : (κs : Lfts 5) (settings : Slice) (array : MutSlice) (packet : Slice) (frame answer : MutSlice)
      → Is (leaving Each (mux_put_fn.Pre κs (settings, (array, (packet, (frame, (answer, tt)))))) (λ o. mux_put_fn.Post κs (settings, (array, (packet, (frame, (answer, tt))))) o.refusal (settings, (at_last array o.numbers, (packet, (at_last frame o.octets, (at_last answer o.answer, tt)))))))
      (mux_leaves (to_put packet.now) 3 put_numbers settings.now array.now frame.now answer.now)
  pub mux_flush : (κs : Lfts 4) (settings : Slice) (array frame answer : MutSlice)
      → Is (leaving Each (mux_flush_fn.Pre κs (settings, (array, (frame, (answer, tt))))) (λ o. mux_flush_fn.Post κs (settings, (array, (frame, (answer, tt)))) o.refusal (settings, (at_last array o.numbers, (at_last frame o.octets, (at_last answer o.answer, tt))))))
      (mux_leaves to_flush 1 flush_numbers settings.now array.now frame.now answer.now)
  pub mux_idle : (κs : Lfts 3) (settings : Slice) (array frame : MutSlice)
      → Is (leaving NoAnswer (mux_idle_fn.Pre κs (settings, (array, (frame, tt)))) (λ o. mux_idle_fn.Post κs (settings, (array, (frame, tt))) o.refusal (settings, (at_last array o.numbers, (at_last frame o.octets, tt)))))
      (mux_leaves to_idle 0 no_numbers settings.now array.now frame.now [])
  pub extractor_enter : (κs : Lfts 5) (settings : Slice) (array : MutSlice) (store frame : Slice) (answer : MutSlice)
      → Is (leaving NoOctets (extractor_enter_fn.Pre κs (settings, (array, (store, (frame, (answer, tt)))))) (λ o. extractor_enter_fn.Post κs (settings, (array, (store, (frame, (answer, tt))))) o.refusal (settings, (at_last array o.numbers, (store, (frame, (at_last answer o.answer, tt)))))))
      (enter_leaves settings.now array.now store.now frame.now answer.now)
  pub extractor_step : (κs : Lfts 5) (settings : Slice) (array store : MutSlice) (frame : Slice) (answer : MutSlice)
      → Is (leaving Each (extractor_step_fn.Pre κs (settings, (array, (store, (frame, (answer, tt)))))) (λ o. extractor_step_fn.Post κs (settings, (array, (store, (frame, (answer, tt))))) o.refusal (settings, (at_last array o.numbers, (at_last store o.octets, (frame, (at_last answer o.answer, tt)))))))
      (step_leaves settings.now array.now store.now frame.now answer.now)
  pub show : (κs : Lfts 4) (step frame store : Slice) (answer : MutSlice)
      → Is (leaving AnswerAlone (show_fn.Pre κs (step, (frame, (store, (answer, tt))))) (λ o. show_fn.Post κs (step, (frame, (store, (answer, tt)))) o.refusal (step, (frame, (store, (at_last answer o.answer, tt))))))
      (show_leaves step.now frame.now store.now answer.now)
  pub judge_frame : (κs : Lfts 4) (settings : Slice) (array store : MutSlice) (frame : Slice)
      → Is (leaving NoAnswer (judge_frame_fn.Pre κs (settings, (array, (store, (frame, tt))))) (λ o. judge_frame_fn.Post κs (settings, (array, (store, (frame, tt)))) o.refusal (settings, (at_last array o.numbers, (at_last store o.octets, (frame, tt))))))
      (judge_leaves settings.now array.now store.now frame.now)
  pub judge_tape : (κs : Lfts 4) (settings : Slice) (array store : MutSlice) (tape : Slice)
      → Is (leaving NoAnswer (judge_tape_fn.Pre κs (settings, (array, (store, (tape, tt))))) (λ o. judge_tape_fn.Post κs (settings, (array, (store, (tape, tt)))) o.refusal (settings, (at_last array o.numbers, (at_last store o.octets, (tape, tt))))))
      (tape_leaves settings.now array.now store.now tape.now)
  pub judge_close : (κs : Lfts 4) (settings array store : Slice) (answer : MutSlice)
      → Is (leaving AnswerAlone (judge_close_fn.Pre κs (settings, (array, (store, (answer, tt))))) (λ o. judge_close_fn.Post κs (settings, (array, (store, (answer, tt)))) o.refusal (settings, (array, (store, (at_last answer o.answer, tt))))))
      (close_leaves settings.now array.now store.now answer.now)
  pub bits_write : (κs : Lfts 4) (settings : Slice) (array : MutSlice) (bits : Slice) (n : ℕ) (frame : MutSlice)
      → Is (leaving NoAnswer (bits_write_fn.Pre κs (settings, (array, (bits, (n, (frame, tt)))))) (λ o. bits_write_fn.Post κs (settings, (array, (bits, (n, (frame, tt))))) o.refusal (settings, (at_last array o.numbers, (bits, (n, (at_last frame o.octets, tt)))))))
      (write_leaves settings.now array.now bits.now n frame.now)
  pub bits_read : (κs : Lfts 4) (settings : Slice) (array : MutSlice) (frame : Slice) (answer : MutSlice)
      → Is (leaving NoOctets (bits_read_fn.Pre κs (settings, (array, (frame, (answer, tt))))) (λ o. bits_read_fn.Post κs (settings, (array, (frame, (answer, tt)))) o.refusal (settings, (at_last array o.numbers, (frame, (at_last answer o.answer, tt))))))
      (read_leaves settings.now array.now frame.now answer.now)
  pub relay_load : (κs : Lfts 2) (entries : Slice) (table : MutSlice)
      → Is (leaving NumbersAlone (relay_load_fn.Pre κs (entries, (table, tt))) (λ o. relay_load_fn.Post κs (entries, (table, tt)) o.refusal (entries, (at_last table o.numbers, tt))))
      (load_leaves entries.now table.now)
  pub relay_route : (κs : Lfts 4) (limit : ℕ) (table packet : Slice) (destinations answer : MutSlice)
      → Is (leaving NoNumbers (relay_route_fn.Pre κs (limit, (table, (packet, (destinations, (answer, tt)))))) (λ o. relay_route_fn.Post κs (limit, (table, (packet, (destinations, (answer, tt))))) o.refusal (limit, (table, (packet, (at_last destinations o.octets, (at_last answer o.answer, tt)))))))
      (route_leaves limit table.now packet.now destinations.now answer.now)
  pub stated_again : (array : List ℕ) → StatedAgain array
  pub readers_exact : ReadersExact
  pub tables_loaded : TablesLoaded
  pub parts_named : (array : List ℕ) → PartsNamed array
  pub refused_keep : RefusedKeep
  pub zero_is_refused : ZeroIsRefused
