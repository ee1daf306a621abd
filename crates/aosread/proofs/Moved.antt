-- Octets moved to the front of their buffer, and others read behind them.
-- Assumes nothing.
use Rattle.std.proofs.Common.{◌≡◌, ◌≤◌, ◌∙◌, List, ℕ, ap, length, take, take-take}
use Rattle.std.specs.Prelude.{slice_range}
use native.Mathlib.Nat.{sub-zero}
use mathlib.Core.Path.{subst⁻¹}
use Rattle.aosread.specs.Input.{StandFirst}

-- while octets are read behind the unread ones, which stand first: all up to `to` are read
pub record Waiting (unread : List ℕ) (to : ℕ) (buf : List ℕ) : Type 0 where
  pub first : length unread ≤ to
  pub inside : to ≤ length buf
  pub front : take (length unread) buf ≡ unread

-- the unread ones then stand first in all that are read, also where the octets behind these have changed
pub waited : {unread buf : List ℕ} {from to : ℕ} (after : List ℕ) → from ≡ 0 → Waiting unread to buf → take to after ≡ take to buf
    → StandFirst unread (slice_range after from to)
waited {unread} {buf} {from} {to} after none w kept =
    subst⁻¹ (λ (n : ℕ). StandFirst unread (slice_range after n to)) none
    (ap (λ (n : ℕ). take (length unread) (take n after)) (sub-zero to) ∙ ap (take (length unread)) kept
    ∙ take-take (length unread) to buf w.first ∙ w.front)
