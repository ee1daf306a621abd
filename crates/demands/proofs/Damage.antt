-- What is wrong with a packet's header is told by each answer that carries it.
-- Assumes nothing.
use mathlib.Core.Logic.{◌↔◌}
use mathlib.Core.Path.{◌≡◌, refl}
use mathlib.Core.List.{List, [], ◌∷◌, ◌++◌}
use mathlib.Core.Bool.{true}
use Prim.Native.Nat.{ℕ, ◌+◌}
use native.Mathlib.Omega.{arith}
use lib.ListN.{length, take, drop}
use lib.Dec.{leb, eqb}
use borrow.Author.Tests.{eq-eqb, ne_eqb}
use Rattle.octets.specs.Basics.{first}
use Rattle.octets.proofs.Tests.{test}
use Rattle.packets.specs.Packet.{Look, more, damaged, whole, look, damage_in, carried, limit_in_range}
use Rattle.packets.specs.Header.{told, reading}
use Rattle.packets.specs.Unwrap.{unwrap_rows, unwrapping}
use Rattle.packets.specs.Damage.{applies, Tells}
use Rattle.packets.proofs.Begun.{damaged_some}
use Rattle.packets.proofs.Damages.{damage_named, look_tells}
use Rattle.wrapping.specs.Wrap.{wrap_rows, wrapped_total, wrapping}
use Rattle.relay.specs.Table.{entries_of}
use Rattle.relay.specs.Route.{path, route_rows, written, routing}
use Rattle.relay.specs.declared.Table.{Table}
use Rattle.frames.specs.Frame.{zone_of}
use Rattle.frames.specs.declared.Settings.{Settings}
use Rattle.multiplexer.specs.Calls.{to_put, call_rows, answer}
use Rattle.multiplexer.specs.declared.Mux.{Mux}
use Rattle.extractor.specs.Extract.{State, astray, torn, ends, walk, walk_turns, held_of, reason_of, damage_of, take_in}
use Rattle.extractor.specs.Records.{step_rows, handed_over, step_look, step, step_call}
use Rattle.extractor.specs.Calls.{event_at}
use Rattle.extractor.specs.Answers.{found_numbers, step_answer}
use Rattle.extractor.specs.declared.Extractor.TheVariants.{Walking}
use Rattle.extractor.proofs.Walked.{walk_torn}
use Rattle.exports.specs.Packet.{header_numbers, wrap_numbers, unwrap_numbers}
use Rattle.exports.specs.Mux.{put_numbers}
use Rattle.exports.specs.Extract.{enter_numbers, step_numbers}
use Rattle.exports.specs.Relaying.{route_numbers}
use Rattle.demands.specs.Damage.{Refusal, Damages}
use Rattle.demands.proofs.AsWritten.{as_written}

-- ---- the header reader

told_damage : (os : List ℕ) (l : Look) → (told os l).damage ≡ damage_in l
unfolding told damage_in
told_damage os more = refl
told_damage os (damaged d) = refl
told_damage os (whole total) = refl

read : (limit : ℕ) (os : List ℕ) → limit_in_range limit ≡ true → Tells limit os (reading limit os).damage
unfolding reading
read limit os ranged = rw (ranged, told_damage os (look limit os)) (look_tells limit os ranged)

found : (limit : ℕ) (os : List ℕ) → limit_in_range limit ≡ true → ((reading limit os).outcome ≡ 2) ↔ ((d : ℕ) × (applies limit os d ≡ true))
unfolding reading told
found limit os ranged = (
  (λ e. go (look limit os) refl (rw ranged at e)),
  (λ (d, t). rw (ranged, ((damage_named limit os ranged).exactly d).1 t) refl),
)
  where
    go : (l : Look) → look limit os ≡ l → (told os l).outcome ≡ 2 → (d : ℕ) × (applies limit os d ≡ true)
    go more q e = absurd (omega arith)
    go (damaged d) q e = (d, ((damage_named limit os ranged).exactly d).0 q)
    go (whole total) q e = absurd (omega arith)

-- ---- refusals

carried_tells : (limit : ℕ) (p : List ℕ) (n : ℕ) → Refusal limit p n (carried n limit p)
unfolding carried
carried_tells limit p n = record {
  of_packet = λ ranged e. rw (eq-eqb n 8 e) (look_tells limit p ranged);
  of_others = λ e. rw (ne_eqb n 8 e) refl;
}

-- nothing is wrong where nothing is refused
accepted : (limit : ℕ) (p : List ℕ) → Refusal limit p 0 0
accepted limit p = record { of_packet = λ ranged e. absurd (omega arith); of_others = λ e. refl }

put : (s : Settings) (m : Mux) (p frame : List ℕ)
    → Refusal s.limit p (answer s m (to_put p) frame).refusal (answer s m (to_put p) frame).damage
unfolding answer
put s m p frame =
    test (eqb (first (call_rows s m (to_put p) (length frame))) 0)
    (λ t. rw t (accepted s.limit p))
    (λ t. rw t (carried_tells s.limit p _))

unwrapped : (limit : ℕ) (p : List ℕ) → Refusal limit p (unwrapping limit p).refusal (unwrapping limit p).damage
unfolding unwrapping
unwrapped limit p =
    test (eqb (first (unwrap_rows limit p)) 0) (λ t. rw t (accepted limit p)) (λ t. rw t (carried_tells limit p _))

written_sound : (limit : ℕ) (p ds output : List ℕ) → Refusal limit p (written ds output).refusal (written ds output).damage
unfolding written
written_sound limit p [] output = accepted limit p
written_sound limit p (d ∷ ds) output = accepted limit p

routed : (limit : ℕ) (t : Table) (p output : List ℕ)
    → Refusal limit p (routing limit t p output).refusal (routing limit t p output).damage
unfolding routing
routed limit t p output =
    test (eqb (first (route_rows limit t p (length output))) 0)
    (λ e. rw e (written_sound limit p (path (entries_of t) p) output))
    (λ e. rw e (carried_tells limit p _))

wrapped : (limit protocol extension : ℕ) (unit output : List ℕ) → (wrapping limit protocol extension unit output).damage ≡ 0
unfolding wrapping
wrapped limit protocol extension unit output =
    test (eqb (first (wrap_rows limit protocol extension (length unit) (wrapped_total protocol (length unit)) (length output))) 0) (λ t. rw t refl) (λ t. rw t refl)

-- ---- events

walked : (limit d : ℕ) (os : List ℕ) → limit_in_range limit ≡ true → applies limit os d ≡ true → walk limit os ≡ ends (torn d ∷ []) astray
unfolding walk
walked limit d os ranged t = go os (((damage_named limit os ranged).exactly d).1 t)
  where
    go : (xs : List ℕ) → look limit xs ≡ damaged d → walk_turns (length xs) limit xs ≡ ends (torn d ∷ []) astray
    go [] e = absurd (omega (arith, damaged_some limit [] e))
    go (x ∷ xs) e = walk_torn (length xs) limit (x ∷ xs) e

-- ---- entering

entered : (s : Settings) (x : State) (f : List ℕ) → limit_in_range s.limit ≡ true → (take_in s x f).reason ≡ 3
    → Tells s.limit (held_of x.step ++ zone_of s f) (take_in s x f).damage
unfolding take_in damage_of
entered s x f ranged e = rw (eq-eqb (reason_of s x f) 3 e) (look_tells s.limit (held_of x.step ++ zone_of s f) ranged)

undropped : (s : Settings) (x : State) (f : List ℕ) → ((take_in s x f).reason ≡ 3 → ⊥) → (take_in s x f).damage ≡ 0
unfolding take_in damage_of
undropped s x f e = rw (ne_eqb (reason_of s x f) 3 e) refl

-- ---- a step

looked : (s : Settings) (f store : List ℕ) (last h at : ℕ) (rest : List ℕ) (l : Look)
    → (found_numbers f (step_look s store last h at rest l).store (step_look s store last h at rest l).found).damage ≡ damage_in l
unfolding step_look found_numbers damage_in handed_over
looked s f store last h at rest more = refl
looked s f store last h at rest (damaged d) = refl
looked s f store last h at rest (whole l) =
    test (leb l (h + length rest))
    (λ t. test (eqb h 0) (λ u. rw (t, u) refl) (λ u. rw (t, u) refl))
    (λ t. rw t refl)

stepped : (s : Settings) (last h at : ℕ) (store f : List ℕ) → limit_in_range s.limit ≡ true
    → first (step_rows s (Walking last h at) store f) ≡ 0
    → Tells s.limit (take h store ++ drop at (zone_of s f)) (step_answer s (Walking last h at) store f).answer.damage
unfolding step_answer step_call step
stepped s last h at store f ranged e =
    let rest : List ℕ = drop at (zone_of s f) in
    rw (eq-eqb (first (step_rows s (Walking last h at) store f)) 0 e, looked s f store last h at rest (look s.limit (take h store ++ rest)))
    (look_tells s.limit (take h store ++ rest) ranged)

pub damages : Damages
unfolding event_at header_numbers wrap_numbers unwrap_numbers put_numbers enter_numbers step_numbers route_numbers
damages = record {
  as_written = as_written;
  named = damage_named;
  read = read;
  found = found;
  put = put;
  unwrapped = unwrapped;
  routed = routed;
  wrapped = wrapped;
  walked = walked;
  event = λ d p. refl;
  in_c = record {
    header = λ r. refl;
    wrapped = λ w. refl;
    unwrapped = λ u. refl;
    put = λ a. refl;
    entered = λ a. refl;
    stepped = λ a. refl;
    routed = λ r. refl;
  };
  entered = entered;
  undropped = undropped;
  stepped = stepped;
}
