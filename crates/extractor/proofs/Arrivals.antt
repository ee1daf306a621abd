-- Entering a frame that is not refused: what is said of it, and where its walk sets out.
-- Assumes nothing.
use mathlib.Core.Path.{◌≡◌, refl, sym, ap, ◌∙◌}
use mathlib.Core.List.{List, ◌++◌}
use mathlib.Core.Bool.{Bool, true, false}
use Prim.Native.Nat.{ℕ, ◌≤◌}
use lib.ListN.{length, take}
use lib.Seq.{length-take-le}
use lib.Dec.{eqb}
use Rattle.std.specs.Prelude.{is_some, unwrap_or, Option, None, Some, Ok}
use Rattle.std.specs.Bool.{then_some}
use borrow.Author.Tests.{ne_eqb}
use Rattle.octets.specs.Basics.{pick}
use Rattle.octets.proofs.Choices.{apart}
use Rattle.octets.proofs.Tests.{test}
use Rattle.packets.specs.Packet.{look, damage_in}
use Rattle.frames.specs.Frame.{zone_of, count, replay, pointer, heading}
use Rattle.frames.specs.declared.Settings.{Settings}
use Rattle.frames.specs.Shape.{Heading, tells}
use Rattle.frames.specs.declared.Heading as read
use Rattle.frames.proofs.Accepted.{accepted_heading}
use Rattle.extractor.specs.Extract.{astray, in_step, agreed, reason_by, held_of, lost_since, reason_in, reason_of, damage_of, step_of, take_in}
use Rattle.extractor.specs.Records.{last_count, step_in, is_in_step, held_in, stands_for, set_off, set_out, enter}
use Rattle.extractor.specs.Answers.{reason_number, reason_damage, entered_numbers, EnterSaid, entering_says, entered_as}
use Rattle.extractor.specs.Walks.{Named, damage_by, reason_for}
use Rattle.extractor.specs.declared.Reason.{Reason}
use Rattle.extractor.specs.declared.Entering.{Entering}
use Rattle.extractor.specs.declared.Extractor.{Extractor}
use Rattle.extractor.specs.declared.Extractor.TheVariants.{Fresh, Astray, InStep, Walking, Leaving}
use Rattle.extractor.proofs.Unrefused.{Arrives, held_fits}

-- ---- the step that a record is in

pub in_step_is : (store : List ℕ) (x : Extractor) → is_in_step x ≡ true → step_in store x ≡ in_step (take (held_in x) store)
in_step_is store Fresh e = apart (cc)
in_step_is store (Astray last) e = apart (cc)
in_step_is store (InStep last h) e = refl
in_step_is store (Walking last h at) e = refl
in_step_is store (Leaving last) e = apart (cc)

pub astray_is : (store : List ℕ) (x : Extractor) → is_in_step x ≡ false → step_in store x ≡ astray
astray_is store Fresh e = refl
astray_is store (Astray last) e = refl
astray_is store (InStep last h) e = apart (cc)
astray_is store (Walking last h at) e = apart (cc)
astray_is store (Leaving last) e = refl

length-held : (store : List ℕ) (x : Extractor) → held_in x ≤ length store → length (held_of (step_in store x)) ≡ held_in x
length-held store Fresh h = refl
length-held store (Astray last) h = refl
length-held store (InStep last n) h = length-take-le n store h
length-held store (Walking last n at) h = length-take-le n store h
length-held store (Leaving last) h = refl

set_out_is : (s : Settings) (c p : ℕ) (store : List ℕ) (x : Extractor) → held_in x ≤ length store
    → set_out s c p (step_in store x) ≡ set_off s c p (is_in_step x) (held_in x)
set_out_is s c p store Fresh h = refl
set_out_is s c p store (Astray last) h = refl
set_out_is s c p store (InStep last n) h = ap (set_off s c p true) (length-take-le n store h)
set_out_is s c p store (Walking last n at) h = ap (set_off s c p true) (length-take-le n store h)
set_out_is s c p store (Leaving last) h = refl

-- what the code sets out from: in step with so many octets held, or out of step
pub set_off_is : (s : Settings) (c p : ℕ) (x : Extractor)
    → set_off s c p (is_some (then_some (is_in_step x) (held_in x))) (unwrap_or (then_some (is_in_step x) (held_in x)) 0)
    ≡ set_off s c p (is_in_step x) (held_in x)
set_off_is s c p Fresh = refl
set_off_is s c p (Astray last) = refl
set_off_is s c p (InStep last h) = refl
set_off_is s c p (Walking last h at) = refl
set_off_is s c p (Leaving last) = refl

-- ---- the reason, and what is wrong with the header of the octets held

held_octets : (store : List ℕ) (x : Extractor) → held_of (step_in store x) ≡ take (held_in x) store
held_octets store Fresh = refl
held_octets store (Astray last) = refl
held_octets store (InStep last h) = refl
held_octets store (Walking last h at) = refl
held_octets store (Leaving last) = refl

module _ (s : Settings) (x : Extractor) (store f : List ℕ) where
  -- the reason of the step that the record is in
  abbrev its_reason : Bool → ℕ
  its_reason inside = pick inside (reason_by (pointer s f) (agreed s (take (held_in x) store) (zone_of s f))) 0

  reason_within : its_reason (is_in_step x) ≡ reason_in s (step_in store x) f
  unfolding reason_in
  reason_within =
      test (is_in_step x)
      (λ t. rw (t, in_step_is store x t) refl)
      (λ t. rw (t, astray_is store x t) refl)

  pub reason_is : {lost p reason : ℕ} → lost ≡ lost_since s (last_count x) (count s f) → p ≡ pointer s f
      → reason ≡ pick (eqb lost 0) (pick (is_in_step x) (reason_by p (agreed s (take (held_in x) store) (zone_of s f))) 0) 1
      → reason ≡ reason_of s (stands_for store x) f
  unfolding reason_of stands_for
  reason_is l q e = rw (e, l, q, reason_within) refl

  pub damage_is : {reason damage : ℕ} → reason ≡ reason_of s (stands_for store x) f
      → damage ≡ pick (eqb reason 3) (damage_in (look s.limit (take (held_in x) store ++ zone_of s f))) 0
      → damage ≡ damage_of s (stands_for store x) f
  unfolding damage_of stands_for
  damage_is r e = rw (e, r, held_octets store x) refl

-- ---- what is said

module _ {s : Settings} {x : Extractor} {store f : List ℕ} (a : Arrives s x store f)
    (c r p lost reason damage : ℕ) (counted : c ≡ count s f) (replayed : r ≡ replay s f) (pointed : p ≡ pointer s f)
    (missed : lost ≡ lost_since s (last_count x) c) (reasoned : reason ≡ reason_of s (stands_for store x) f)
    (named : damage ≡ damage_of s (stands_for store x) f) where
  -- with so many octets dropped and this record after it
  abbrev says_so : ℕ → Extractor → EnterSaid
  says_so dropped next = record {
    answer = record { refusal = 0; outcome = 1; count = c; replay = r; lost = lost; dropped = dropped; reason = reason; damage = damage };
    next = next;
  }

  fits : held_in x ≤ length store
  fits = held_fits s store x a.reached a.between

  pub nothing_dropped : (next : Extractor) → reason ≡ 0 → next ≡ set_off s c p (is_in_step x) (held_in x)
      → says_so 0 next ≡ entered_as s x store f
  unfolding take_in enter step_of stands_for
  nothing_dropped next none set =
      rw (set, missed, counted, replayed, pointed, named, reasoned, sym reasoned ∙ none, set_out_is s (count s f) (pointer s f) store x fits) refl

  pub all_dropped : (dropped : ℕ) (next : Extractor) → dropped ≡ held_in x → (reason ≡ 0 → ⊥) → next ≡ set_off s c p false 0
      → says_so dropped next ≡ entered_as s x store f
  unfolding take_in enter step_of stands_for
  all_dropped dropped next held some set =
      rw (held, set, missed, counted, replayed, pointed, named, reasoned, ne_eqb _ 0 (λ e. some (reasoned ∙ e)), length-held store x fits) refl

-- a frame that is taken, and the record after it
abbrev pub answered : read.Heading → ℕ → ℕ → Option Reason → Extractor → Entering
answered h lost dropped reason next =
    record { entry = record { count = h.count; replay = h.replay; lost = lost; dropped = dropped; reason = reason }; next = next }

-- the same by what the calls of the code give
module _ {s : Settings} {x : Extractor} {store f : List ℕ} (a : Arrives s x store f) (h : read.Heading) (says : tells (Ok h) ≡ heading s f)
    {lost : ℕ} (reason : Option Reason) (missed : lost ≡ lost_since s (last_count x) h.count)
    (named : Named reason (reason_for s x lost (take (held_in x) store) h.pointer (zone_of s f))
    (damage_by s (reason_for s x lost (take (held_in x) store) h.pointer (zone_of s f)) (take (held_in x) store) (zone_of s f))) where
  heads : tells (Ok h) ≡ record { refusal = 0; count = count s f; replay = replay s f; pointer = pointer s f }
  heads = says ∙ accepted_heading s f a.ranged a.accepts

  counts : h.count ≡ count s f
  counts = ap (λ (g : Heading). g.count) heads

  replays : h.replay ≡ replay s f
  replays = ap (λ (g : Heading). g.replay) heads

  points : h.pointer ≡ pointer s f
  points = ap (λ (g : Heading). g.pointer) heads

  right : reason_number reason ≡ reason_of s (stands_for store x) f
  right = reason_is s x store f (missed ∙ ap (lost_since s (last_count x)) counts) points named.0

  wrong : reason_damage reason ≡ damage_of s (stands_for store x) f
  wrong = damage_is s x store f right (named.1 ∙ ap (λ (n : ℕ). damage_by s n (take (held_in x) store) (zone_of s f)) (sym named.0))

  pub taken_kept : {next : Extractor} → reason_number reason ≡ 0 → next ≡ set_off s h.count h.pointer (is_in_step x) (held_in x)
      → entering_says (answered h lost 0 reason next) ≡ entered_as s x store f
  unfolding entered_numbers
  taken_kept none set = nothing_dropped a _ _ _ _ _ _ counts replays points missed right wrong _ none set

  pub taken_lost : {dropped : ℕ} {next : Extractor} → (reason_number reason ≡ 0 → ⊥) → dropped ≡ held_in x
      → next ≡ set_off s h.count h.pointer false 0
      → entering_says (answered h lost dropped reason next) ≡ entered_as s x store f
  unfolding entered_numbers
  taken_lost some held set = all_dropped a _ _ _ _ _ _ counts replays points missed right wrong _ _ held some set

-- a reason has no number 0
pub none_is_0 : (r : Option Reason) → is_some r ≡ false → reason_number r ≡ 0
none_is_0 None e = refl
none_is_0 (Some r) e = apart (cc)

pub some_is_not_0 : (r : Option Reason) → is_some r ≡ true → reason_number r ≡ 0 → ⊥
some_is_not_0 None e h = apart (cc)
some_is_not_0 (Some Reason.FramesMissing) e h = apart (cc)
some_is_not_0 (Some Reason.PointerDiffers) e h = apart (cc)
some_is_not_0 (Some (Reason.HeaderDamaged d)) e h = apart (cc)
