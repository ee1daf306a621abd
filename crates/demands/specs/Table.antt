-- Document 01's starred sample passes, 1 to 9 and 13, and its numbers and layouts, as one statement over the rules together.
use Rattle.std.specs.Prelude.{ℕ, ◌≡◌, List, [], ◌∷◌, map, replicate, Bool, true, false}
use Rattle.packets.specs.Header.{Reading, reading}
use Rattle.packets.specs.Passes as packets
use Rattle.wrapping.specs.Passes as wrapping
use Rattle.frames.specs.Passes as frames
use Rattle.frames.specs.declared.Settings.{Settings}
use Rattle.multiplexer.specs.Passes as multiplexer
use Rattle.frames.specs.declared.Edition.{Edition}
use Rattle.frames.specs.declared.Edition.TheVariants.{Former, CycleUnused, CycleUsed}
use Rattle.extractor.specs.Passes.{sample, first_frame, second_frame, Pass, passes, SamplePasses, cycle_passes, CyclePasses, SpoiltPasses, trailed_sample, trailed_passes, trailed_cycle_passes, TrailedPasses}
use Rattle.judge.specs.Judge.{Verdict, pass, fault, verdict}
use Rattle.bitstream.specs.Passes as bitstream
use Rattle.demands.specs.Numbers.{Numbers}
use Rattle.carries.specs.Weaker.{Weaker}

-- what is shown of a packet: its kind, version 0 for a space packet and 7 for an encapsulation packet; its APID or protocol; whether
-- it is idle; and its length
pub record Shown : Type 0 where
  pub version : ℕ
  pub key : ℕ
  pub idle : Bool
  pub length : ℕ

abbrev pub shows : List ℕ → Shown
shows p =
    let r : Reading = reading (sample Former).limit p in
    record { version = r.version; key = r.key; idle = r.idle; length = r.total }

-- the two frames of the sample run octet by octet, at each edition, and its three packets: `space 5 8`, `encap 2 5`, `idle 7`
pub record Pass1 : Type 0 where
  pub first_octets : first_frame Former
      ≡ 0x50 ∷ 0x83 ∷ 0x00 ∷ 0x00 ∷ 0x00 ∷ 0x00 ∷ 0x00 ∷ 0x00
      ∷ 0x00 ∷ 0x05 ∷ 0xC0 ∷ 0x00 ∷ 0x00 ∷ 0x01 ∷ 0xAA ∷ 0xBB ∷ 0xE9 ∷ 0x05 ∷ []
  pub second_octets : second_frame Former 1 3
      ≡ 0x50 ∷ 0x83 ∷ 0x00 ∷ 0x00 ∷ 0x01 ∷ 0x00 ∷ 0x00 ∷ 0x03
      ∷ 0x11 ∷ 0x22 ∷ 0x33 ∷ 0xE1 ∷ 0x07 ∷ 0x55 ∷ 0x55 ∷ 0x55 ∷ 0x55 ∷ 0x55 ∷ []
  pub unused_octets : first_frame CycleUnused ∷ second_frame CycleUnused 1 3 ∷ [] ≡ first_frame Former ∷ second_frame Former 1 3 ∷ []
  pub used_octets : first_frame CycleUsed ∷ second_frame CycleUsed 1 3 ∷ []
      ≡ (0x50 ∷ 0x83 ∷ 0x00 ∷ 0x00 ∷ 0x00 ∷ 0x40 ∷ 0x00 ∷ 0x00
      ∷ 0x00 ∷ 0x05 ∷ 0xC0 ∷ 0x00 ∷ 0x00 ∷ 0x01 ∷ 0xAA ∷ 0xBB ∷ 0xE9 ∷ 0x05 ∷ [])
      ∷ (0x50 ∷ 0x83 ∷ 0x00 ∷ 0x00 ∷ 0x01 ∷ 0x40 ∷ 0x00 ∷ 0x03
      ∷ 0x11 ∷ 0x22 ∷ 0x33 ∷ 0xE1 ∷ 0x07 ∷ 0x55 ∷ 0x55 ∷ 0x55 ∷ 0x55 ∷ 0x55 ∷ [])
      ∷ []
  pub space_5_8 : shows (0x00 ∷ 0x05 ∷ 0xC0 ∷ 0x00 ∷ 0x00 ∷ 0x01 ∷ 0xAA ∷ 0xBB ∷ []) ≡ record { version = 0; key = 5; idle = false; length = 8 }
  pub encap_2_5 : shows (0xE9 ∷ 0x05 ∷ 0x11 ∷ 0x22 ∷ 0x33 ∷ []) ≡ record { version = 7; key = 2; idle = false; length = 5 }
  pub idle_7 : shows (0xE1 ∷ 0x07 ∷ 0x55 ∷ 0x55 ∷ 0x55 ∷ 0x55 ∷ 0x55 ∷ []) ≡ record { version = 7; key = 0; idle = true; length = 7 }

-- what the judge says of each of some runs under these settings
abbrev pub verdicts : Settings → List Pass → List Verdict
verdicts s [] = []
verdicts s (p ∷ ps) = verdict s p.frames ∷ verdicts s ps

-- what it says of the sample passes, at each edition
abbrev pub JudgedPasses : Type 0
JudgedPasses = (e : Edition) → verdicts (sample e) (passes e)
    ≡ pass ∷ fault 0 ∷ fault 1 ∷ fault 1 ∷ fault 1 ∷ fault 1 ∷ fault 0 ∷ fault 0 ∷ fault 1 ∷ fault 2 ∷ fault 0 ∷ []

-- THE TABLE. The extractor's lines and the judge's verdicts are over one list of runs: the run of pass 1; 2 its second frame alone;
-- 3 count 2; 4 pointer 2; 5 pointer 9, pointer 10, and both alone; 6 pointer 2,047; 7 the wheel with idle zones and with packets. They are so at
-- each edition of the header.
pub record Table : Type 0 where
  pub pass_1 : Pass1
  pub passes_1_to_7 : SamplePasses
  pub judged_1_to_7 : JudgedPasses
  -- the count of 28 bits beyond its own octets and round its wheel, and each wrong bit of the signalling octet
  pub passes_cycle : CyclePasses
  pub judged_cycle : verdicts (sample CycleUsed) cycle_passes ≡ pass ∷ fault 1 ∷ fault 1 ∷ pass ∷ []
  pub passes_spoilt : SpoiltPasses
  -- the run of pass 1 with trailers, and one after another of what can be wrong with them
  pub passes_trailed : TrailedPasses
  pub judged_trailed : map (λ (e : Edition). verdicts (trailed_sample e) trailed_passes) (Former ∷ CycleUnused ∷ [])
      ≡ replicate 2 (pass ∷ fault 1 ∷ fault 1 ∷ fault 1 ∷ fault 1 ∷ fault 1 ∷ fault 1 ∷ [])
  pub judged_trailed_cycle : verdicts (trailed_sample CycleUsed) trailed_cycle_passes ≡ pass ∷ fault 1 ∷ fault 1 ∷ fault 1 ∷ fault 1 ∷ []
  pub pass_5_pointers : (e : Edition) → frames.Pass5 e
  pub pass_8 : packets.Pass8
  pub pass_9_packets : wrapping.Pass9
  pub pass_9_flushes : (e : Edition) → multiplexer.Pass9 e
  pub pass_13_pointers : (e : Edition) → frames.Pass13 e
  pub pass_13 : (e : Edition) → bitstream.Pass13 e
  pub numbers : Numbers
  -- and each part of the rule for "some list" is needed
  pub needed : Weaker
