-- A field of a space header that fits no octet, or no two, is out of range, and so is the greatest that does.
-- Assumes nothing.
use Rattle.std.proofs.Common.{◌≡◌, ℕ, List, true, false, min, leb, ap, ◌∙◌, arith}
use Rattle.std.proofs.lemmas.Bool.Decides.{nat_tests}
use Rattle.octets.specs.Basics.{pick, first}
use Rattle.octets.proofs.Tests.{test}
use Rattle.space.specs.Space.{space_in_range, space_rows, space_writing}
use Rattle.space.specs.declared.SpaceHeader.{SpaceHeader}

module _ (h : SpaceHeader) where
  -- each field cut to what holds it
  abbrev cut : SpaceHeader
  cut = record {
    version = pick (leb h.length 65535) (min h.version 255) 255;
    packet_type = min h.packet_type 255;
    secondary = min h.secondary 255;
    apid = min h.apid 65535;
    flags = min h.flags 255;
    count = min h.count 65535;
    length = min h.length 65535;
  }

  same_range : space_in_range cut ≡ space_in_range h
  unfolding space_in_range
  same_range = grind (arith, nat_tests)

  uncut : space_in_range h ≡ true → cut ≡ h
  unfolding space_in_range
  uncut t = grind (arith, nat_tests)

  writing_cut : (octets : List ℕ) → space_writing cut octets ≡ space_writing h octets
  unfolding space_writing space_rows first
  writing_cut octets =
      test (space_in_range h) (λ t. rw (uncut t))
      (λ t. let beyond : space_in_range cut ≡ false = same_range ∙ t in rw (t, beyond))

  -- so a header of cut fields is written as the one of the fields themselves
  pub written_alike : (k : SpaceHeader) → k ≡ cut → (octets : List ℕ) → space_writing k octets ≡ space_writing h octets
  written_alike k e octets = ap (λ (x : SpaceHeader). space_writing x octets) e ∙ writing_cut octets
