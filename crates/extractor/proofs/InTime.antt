-- An entered frame is spent in time: each step moves the walk on, whatever frame of the right length it is lent.
-- Assumes nothing.
use mathlib.Core.Path.{◌≡◌, refl, ap}
use mathlib.Core.List.{List, [], ◌∷◌}
use mathlib.Core.Bool.{true}
use Prim.Native.Nat.{ℕ, suc, ◌-◌, ◌≤◌}
use native.Mathlib.Omega.{arith}
use lib.ListN.{length}
use Rattle.octets.specs.Basics.{pick, All}
use Rattle.frames.specs.Frame.{in_range, frame_length}
use Rattle.frames.specs.declared.Settings.{Settings}
use Rattle.extractor.specs.Found.{Found}
use Rattle.extractor.specs.Records.{reachable, is_entered, Stepped}
use Rattle.extractor.specs.Calls.{goes_on, answers_to, SpentLast}
use Rattle.extractor.specs.declared.Extractor.{Extractor}
use Rattle.extractor.specs.declared.Extractor.TheVariants.{Fresh, Astray, InStep, Walking, Leaving}
use Rattle.extractor.proofs.Settles.{Keeps, packed_goes_on, step_keeps, call_is_step}
use Rattle.extractor.proofs.Turns.{Turn, leave, keep, break, give, turn}

-- so many steps a record has left at most: one for each octet that the walk has before it, and one more
abbrev left : Settings → Extractor → ℕ
left s Fresh = 1
left s (Astray last) = 1
left s (InStep last h) = 1
left s (Walking last h at) = suc (s.zone - at)
left s (Leaving last) = 1

left_most : (s : Settings) (x : Extractor) → left s x ≤ suc s.zone
left_most s Fresh = omega arith
left_most s (Astray last) = omega arith
left_most s (InStep last h) = omega arith
left_most s (Walking last h at) = omega arith
left_most s (Leaving last) = omega arith

one_more_spent : {a : Found} {rest : List Found} → goes_on a ≡ true → SpentLast rest → SpentLast (a ∷ rest)
one_more_spent {a} on (before, e, all-on) = (a ∷ before, ap (λ (l : List Found). a ∷ l) e, (on, all-on))

module _ (s : Settings) (ok : in_range s ≡ true) where
  -- what a record that is entered comes to with these frames
  abbrev InTime : List (List ℕ) → Type 0
  InTime gs = (x : Extractor) (store : List ℕ) → All (λ (g : List ℕ). length g ≡ frame_length s) gs → s.limit ≤ length store
      → reachable s store x ≡ true → is_entered x ≡ true → left s x ≤ length gs → SpentLast (answers_to s x store gs)

  -- one step, by what it does
  turned : (g : List ℕ) (gs : List (List ℕ)) → InTime gs → All (λ (g : List ℕ). length g ≡ frame_length s) gs
      → (x : Extractor) (store : List ℕ) {w : Stepped} → s.limit ≤ length store → left s x ≤ suc (length gs)
      → Keeps s store (goes_on w.found) w.next w.store → Turn s g store x w
      → SpentLast (w.found ∷ pick (goes_on w.found) (answers_to s w.next w.store gs) [])
  unfolding is_entered
  turned g gs again right x store room time k leave = ([], refl, tt)
  turned g gs again right x store room time k (keep begun fits) = ([], refl, tt)
  turned g gs again right x store room time k (break {last} {h} {at} e before) =
      one_more_spent refl (again (Leaving last) store right room k.reach refl (omega arith))
  turned g gs again right x store room time k (give {last} {h} {at} {next} {l} {a} {st} packed e fits seen rest low high same far) =
      let on = packed_goes_on packed in
      rw on (one_more_spent on (again (Walking last 0 next) st right (omega arith) k.reach refl (omega arith)))

  in_time : (gs : List (List ℕ)) → InTime gs
  unfolding answers_to
  in_time [] x store right room reach entered time = absurd (none x time)
    where
      none : (x : Extractor) → left s x ≤ 0 → ⊥
      none Fresh h = omega arith
      none (Astray last) h = omega arith
      none (InStep last held) h = omega arith
      none (Walking last held at) h = omega arith
      none (Leaving last) h = omega arith
  in_time (g ∷ gs) x store (here, later) room reach entered time =
      rw (call_is_step s x store g ok room reach entered here)
      (turned g gs (in_time gs) later x store room time (step_keeps s g store x ok here room reach entered) (turn s g store ok here room x reach entered))

  pub entered_in_time : (gs : List (List ℕ)) (x : Extractor) (store : List ℕ) → All (λ (g : List ℕ). length g ≡ frame_length s) gs
      → s.limit ≤ length store → reachable s store x ≡ true → is_entered x ≡ true → length gs ≡ suc s.zone → SpentLast (answers_to s x store gs)
  entered_in_time gs x store right room reach entered many = in_time gs x store right room reach entered (omega (arith, left_most s x))
