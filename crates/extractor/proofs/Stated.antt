-- What the octets held state, where the store has them; and the test of a record by it.
-- Assumes nothing.
use mathlib.Core.Path.{◌≡◌, refl, sym, ap, ◌∙◌}
use mathlib.Core.List.{List, ◌++◌}
use Prim.Native.Nat.{ℕ, ◌≤◌, ◌<◌}
use native.Mathlib.Omega.{arith}
use lib.ListN.{length}
use lib.Dec.{leb}
use borrow.Author.Tests.{ne_eqb}
use Rattle.packets.specs.Packet.{look}
use Rattle.packets.specs.Header.{seen}
use Rattle.packets.specs.declared.Seen.{Seen}
use Rattle.packets.specs.declared.Seen.TheVariants.{More, Damaged, Whole}
use Rattle.packets.proofs.Begun.{more_short, damaged-append}
use Rattle.packets.proofs.Grown.{look-append}
use Rattle.frames.specs.declared.Settings.{Settings}
use Rattle.extractor.specs.Records.{unfinished, holds_well}
use Rattle.octets.specs.Basics.{and}
use Rattle.extractor.specs.Walks.{Says}

module _ (s : Settings) (store : List ℕ) (h : ℕ) (r : Seen) (says : Says s store h r) where
  -- octets that are held begin a packet and do not end it, exactly where they state so and the store has them
  pub holds_by : (h ≡ 0 → ⊥) → and (leb h (length store)) (unfinished h (seen r)) ≡ holds_well s store h
  unfolding holds_well
  holds_by some = rw (says, ne_eqb h 0 some) refl

-- a header that is damaged or whole says it all, whatever follows
pub known_across : (limit : ℕ) (held more : List ℕ) (r : Seen) → 1 ≤ limit → (r ≡ More → ⊥) → seen r ≡ look limit held → seen r ≡ look limit (held ++ more)
unfolding seen
known_across limit held more More least known e = absurd (known refl)
known_across limit held more (Damaged d) least known e = sym (damaged-append limit held more least (sym e))
known_across limit held more (Whole l) least known e = sym (look-append limit held more least (sym e))

-- fewer than eight octets are held where their header is not whole
pub held_short : (limit : ℕ) (held : List ℕ) (r : Seen) → 1 ≤ limit → r ≡ More → seen r ≡ look limit held → length held ≤ 8
unfolding seen
held_short limit held r least q e =
    let short : length held < 8 = more_short limit held least (sym e ∙ ap seen q) in
    omega arith
