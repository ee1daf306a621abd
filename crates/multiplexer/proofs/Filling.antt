-- Octets put into a lent frame: what its zone then holds, and the whole frame once the zone is full.
-- Assumes nothing.
use mathlib.Core.Path.{◌≡◌, sym, ap, ap₂, ◌∙◌}
use mathlib.Core.List.{List, ◌++◌, append_assoc}
use mathlib.Core.Bool.{Bool}
use Prim.Native.Nat.{ℕ, ◌+◌, ◌≤◌, ◌<◌}
use native.Mathlib.Nat.{add_comm}
use native.Mathlib.Omega.{arith}
use lib.ListN.{length, take, drop, length-append, length-drop}
use lib.Seq.{length-take-le, take_at, drop_at, take-add, take-append-add}
use borrow.Author.Tests.{eq-eqb, ne_eqb}
use Rattle.octets.specs.Basics.{pick, over}
use Rattle.octets.proofs.Written.{length_over}
use Rattle.trailer.specs.Trailer.{extra, sent, ended}
use Rattle.trailer.proofs.Setting.{ended_frame}
use Rattle.frames.specs.Link.{zone_at}
use Rattle.frames.specs.Frame.{frame_length, head}
use Rattle.frames.specs.declared.Settings.{Settings}
use Rattle.frames.proofs.ReadBack.{length-head}
use Rattle.multiplexer.specs.Multiplex.{filled_frame}
use Rattle.multiplexer.specs.declared.Mux.{Mux}

-- octets written behind the first a of a zone that begins at z
pub zone_grown : (b : List ℕ) (z a : ℕ) (os : List ℕ) → z + a + length os ≤ length b
    → take (a + length os) (drop z (over b (z + a) os)) ≡ take a (drop z b) ++ os
unfolding over
zone_grown b z a os h =
    ap (λ (l : List ℕ). take (a + length os) (drop z l)) cut
    ∙ ap (take (a + length os)) (drop_at (take z b) (held ++ rest) z (length-take-le z b (omega arith)))
    ∙ take_at held rest (a + length os) long
  where
    held : List ℕ
    held = take a (drop z b) ++ os

    rest : List ℕ
    rest = drop (z + a + length os) b

    cut : take (z + a) b ++ (os ++ rest) ≡ take z b ++ (held ++ rest)
    cut = rw (take-add z a b) (simp append_assoc)

    long : length held ≡ a + length os
    long =
        length-append (take a (drop z b)) os
        ∙ ap (λ (k : ℕ). k + length os) (length-take-le a (drop z b) (rw length-drop (omega arith)))

-- a header written over the front
head_over : (b hd : List ℕ) (z n : ℕ) → length hd ≡ z → take (n + z) (over b 0 hd) ≡ hd ++ take n (drop z b)
unfolding over
head_over b hd z n e =
    let whole : n + z ≡ length hd + n = omega arith in
    let behind : 0 + length hd ≡ z = omega arith in
    ap₂ (λ (k j : ℕ). take k (hd ++ drop j b)) whole behind
    ∙ take-append-add hd (drop z b) n

module _ (s : Settings) (m : Mux) (start : ℕ) (os frame : List ℕ) where
  abbrev put_in : List ℕ
  put_in = over frame (zone_at s.link + m.filled) os

  -- the frame that a full zone makes
  pub frame_written : m.filled + length os ≡ s.zone → frame_length s ≤ length frame
      → take (frame_length s) (filled_frame s m start os frame)
      ≡ sent s.link.trailed (head s m.count start ++ (take m.filled (drop (zone_at s.link) frame) ++ os))
  unfolding filled_frame frame_length
  frame_written full long =
      let hd : List ℕ = head s m.count start in
      let z : ℕ = zone_at s.link in
      let on : Bool = s.link.trailed in
      let whole : s.zone + (z + extra on) ≡ z + s.zone + extra on = omega arith in
      let in_place : length put_in ≡ length frame = length_over frame (z + m.filled) os (omega arith) in
      let eight : length hd ≡ z = length-head s m.count start in
      let headed : length (over put_in 0 hd) ≡ length frame = length_over put_in 0 hd (omega arith) ∙ in_place in
      ap (λ (b : Bool). take (s.zone + (z + extra on)) (pick b (ended on (over put_in 0 hd) (z + s.zone)) put_in)) (eq-eqb (m.filled + length os) s.zone full)
      ∙ ap (λ (k : ℕ). take k (ended on (over put_in 0 hd) (z + s.zone))) whole
      ∙ ended_frame on (over put_in 0 hd) (z + s.zone) (omega arith)
      ∙ ap (sent on) (ap (λ (k : ℕ). take k (over put_in 0 hd)) (add_comm z s.zone)
      ∙ head_over put_in hd z s.zone eight
      ∙ ap (λ (k : ℕ). hd ++ take k (drop z put_in)) (sym full)
      ∙ ap (λ (l : List ℕ). hd ++ l) (zone_grown frame z m.filled os (omega arith)))

  -- the frame while the zone is not full
  pub frame_kept : m.filled + length os < s.zone → filled_frame s m start os frame ≡ put_in
  unfolding filled_frame
  frame_kept part-full =
      ap (λ (b : Bool). pick b (ended s.link.trailed (over put_in 0 (head s m.count start)) (zone_at s.link + s.zone)) put_in) (ne_eqb (m.filled + length os) s.zone (omega arith))
