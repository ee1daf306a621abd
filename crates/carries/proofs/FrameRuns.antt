-- Frames that follow each other carry packets: one frame more at the front, and the counts round the wheel.
-- Assumes nothing.
use mathlib.Core.Path.{◌≡◌, sym, ap, ◌∙◌}
use mathlib.Core.List.{List, [], ◌∷◌}
use Prim.Native.Nat.{ℕ, zero, suc, ◌+◌, ◌%◌, ◌^◌, ◌<◌}
use native.Mathlib.Nat.{zero-add, zero-mod, mod-add-mod}
use native.Mathlib.Omega.{arith}
use lib.ListN.{length, take, drop, get_or}
use Rattle.octets.specs.Basics.{All}
use Rattle.packets.specs.Packet.{WellFormed, end_to_end}
use Rattle.frames.specs.Link.{count_width, next_count}
use Rattle.frames.specs.Frame.{idle_zone, count, pointer}
use Rattle.frames.specs.declared.Settings.{Settings}
use Rattle.frames.proofs.Framed.{Framed}
use Rattle.frames.proofs.Settled.{Settled}
use Rattle.carries.specs.Carries.{starts, first_start, Between, LaidFrom, Bears, Rising, Carries}
use Rattle.carries.proofs.Bearing.{rows_bear}
use Rattle.carries.proofs.FirstStarts.{first_start_not_idle}
use Rattle.carries.proofs.Laid.{laid_idle, laid_data}

-- ---- counts

-- they go round the wheel from c
abbrev pub CountsFrom : Settings → ℕ → List (List ℕ) → Type 0
CountsFrom s c [] = Unit {0}
CountsFrom s c (f ∷ fs) = (count s f ≡ c) × CountsFrom s (next_count (count_width s.link) c) fs

counts_rise : (s : Settings) (c : ℕ) (fs : List (List ℕ)) → CountsFrom s c fs → Rising s fs
unfolding Rising
counts_rise s c [] k = tt
counts_rise s c (f ∷ []) k = tt
counts_rise s c (f ∷ (g ∷ fs)) k = (k.1.0 ∙ ap (next_count (count_width s.link)) (sym k.0), counts_rise s (next_count (count_width s.link) c) (g ∷ fs) k.1)

-- the count of the frame with i before it, where the first is n on the wheel
count_on : (s : Settings) (n c i : ℕ) (fs : List (List ℕ)) → c ≡ n % 2 ^ count_width s.link → CountsFrom s c fs → i < length fs
    → count s (get_or fs i []) ≡ (n + i) % 2 ^ count_width s.link
unfolding next_count
count_on s n c i [] e k h = absurd (omega arith)
count_on s n c zero (f ∷ fs) e k h = k.0 ∙ e ∙ ap (λ (j : ℕ). j % 2 ^ count_width s.link) (omega arith)
count_on s n c (suc i) (f ∷ fs) e k h =
    let wheel : ℕ = 2 ^ count_width s.link in
    count_on s (n + 1) _ i fs (ap (λ (j : ℕ). (j + 1) % wheel) e ∙ mod-add-mod n wheel 1) k.1 (omega arith)
    ∙ ap (λ (j : ℕ). j % wheel) (omega arith)

pub count_at : (s : Settings) (i : ℕ) (fs : List (List ℕ)) → CountsFrom s 0 fs → i < length fs
    → count s (get_or fs i []) ≡ i % 2 ^ count_width s.link
count_at s i fs k h =
    let wheel : ℕ = 2 ^ count_width s.link in
    count_on s 0 0 i fs (sym (zero-mod wheel)) k h ∙ ap (λ (j : ℕ). j % wheel) (zero-add i)

-- ---- frames

-- the frames from count c and from octet o of the packets ps on, up to their end
pub record Runs (s : Settings) (ps : List (List ℕ)) (c o : ℕ) (fs : List (List ℕ)) : Type 0 where
  pub bear : All (Bears s) fs
  pub counts : CountsFrom s c fs
  pub laid : LaidFrom s ps o fs

pub runs_end : (s : Settings) (ps : List (List ℕ)) (c o : ℕ) → o ≡ length (end_to_end ps) → Runs s ps c o []
unfolding LaidFrom
runs_end s ps c o e = record { bear = tt; counts = tt; laid = e }

module _ (s : Settings) (range : Settled s) (ps : List (List ℕ)) (c o : ℕ) (f : List ℕ) (fs : List (List ℕ)) where
  -- a frame before them whose zone holds the octets of ps from o on
  pub runs_data : Framed s c (first_start s.zone o (starts 0 ps)) (take s.zone (drop o (end_to_end ps))) f
      → Runs s ps (next_count (count_width s.link) c) (o + s.zone) fs → Runs s ps c o (f ∷ fs)
  runs_data r on =
      let busy : pointer s f ≡ idle_zone → ⊥ =
      λ e. first_start_not_idle s.zone o (starts 0 ps) range.zone_most (sym r.its_pointer ∙ e) in
      record {
        bear = (rows_bear s f r.taken, on.bear);
        counts = (r.its_count, on.counts);
        laid = laid_data s ps o f fs busy r.its_pointer r.its_zone on.laid;
      }

  -- an idle zone before them, where no packet is open
  pub runs_idle : (z : List ℕ) → Framed s c idle_zone z f → Between ps o
      → Runs s ps (next_count (count_width s.link) c) o fs → Runs s ps c o (f ∷ fs)
  runs_idle z r between on = record {
    bear = (rows_bear s f r.taken, on.bear);
    counts = (r.its_count, on.counts);
    laid = laid_idle s ps o f fs r.its_pointer between on.laid;
  }

pub runs_carry : (s : Settings) (ps : List (List ℕ)) (c : ℕ) (fs : List (List ℕ)) → Runs s ps c 0 fs → All (WellFormed s.limit) ps → Carries s fs ps
runs_carry s ps c fs r formed = record { bear = r.bear; rise = counts_rise s c fs r.counts; formed = formed; laid = r.laid }
