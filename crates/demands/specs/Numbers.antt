-- The documents' numbers and layouts, once, by examples that compute: a rule that code and definitions have wrong together fails here.
use Rattle.demands.specs.Numbers.Ranges.{Edges}
use Rattle.demands.specs.Numbers.Only.{OnlyThese}
use Rattle.demands.specs.Numbers.Octets as octets
use Rattle.demands.specs.Numbers.FrameFields as frames
use Rattle.demands.specs.Numbers.PacketFields.{SpacePackets, EncapsulationPackets, Parts, IdlePackets}
use Rattle.demands.specs.Numbers.SpaceFields as space
use Rattle.demands.specs.Numbers.Damages as damages
use Rattle.demands.specs.Numbers.Wrapping as wrapping
use Rattle.demands.specs.Numbers.Relaying as relaying
use Rattle.demands.specs.Numbers.Multiplexing as multiplexing
use Rattle.demands.specs.Numbers.Entering as entering
use Rattle.demands.specs.Numbers.Stepping as stepping
use Rattle.demands.specs.Numbers.Judging as judging
use Rattle.demands.specs.Numbers.Bits as bits
use Rattle.demands.specs.Numbers.RunFiles as runs
use Rattle.demands.specs.Numbers.Answers.{Cases, Together}
use Rattle.demands.specs.Numbers.Trailers as trailers
use Rattle.demands.specs.Numbers.Editions as editions
use Rattle.demands.specs.Numbers.InC as arrays
pub mod Samples
pub mod Octets
pub mod Ranges
pub mod Only
pub mod FrameFields
pub mod PacketFields
pub mod SpaceFields
pub mod Damages
pub mod Wrapping
pub mod Relaying
pub mod Multiplexing
pub mod Entering
pub mod Stepping
pub mod Judging
pub mod Bits
pub mod Trailers
pub mod Editions
pub mod RunFiles
pub mod Answers
pub mod InC

-- layouts
pub record Layouts : Type 0 where
  pub arrays : octets.Arrays
  pub octets : octets.Octets
  pub frame_read : frames.Read
  pub frame_written : frames.Written
  pub wheel : frames.Wheel
  pub trailers : trailers.Octets
  pub editions : editions.Layouts
  pub space_packets : SpacePackets
  pub encapsulation_packets : EncapsulationPackets
  pub parts : Parts
  pub damaged : damages.Headers
  pub damage_tests : damages.Tests
  pub space_headers : space.Headers

-- what each call is refused for, and in which order
pub record Refusals : Type 0 where
  pub only : OnlyThese
  pub multiplexer : multiplexing.Refusals
  pub enter : entering.Refusals
  pub records : entering.Records
  pub step : stepping.Refusals
  pub judge : judging.Refusals
  pub tape : judging.TapeRefusals
  pub wrap : wrapping.Refusals
  pub damage : damages.Refusals
  pub write_idle : IdlePackets
  pub bitstream : bits.Refusals
  pub trailers : trailers.Refusals
  pub editions : editions.Refusals

-- what each call does and leaves
pub record Outcomes : Type 0 where
  pub multiplexed : multiplexing.Frames
  pub entered : entering.Reasons
  pub stepped : stepping.Events
  pub damaged : damages.Walks
  pub spent : stepping.Spending
  pub judged : judging.Faults
  pub taped : judging.Tapes
  pub closed : judging.Verdicts
  pub wrapped : wrapping.Wrapped
  pub unwrapped : wrapping.Units
  pub losses : bits.Losses
  pub bits : bits.Frames
  pub loaded : relaying.Tables
  pub routed : relaying.Ways
  pub trailed : trailers.Outcomes
  pub editions : editions.Outcomes

pub record Numbers : Type 0 where
  pub ranges : Edges
  pub layouts : Layouts
  pub refusals : Refusals
  pub outcomes : Outcomes
  pub run_files : runs.Records
  pub answers : Cases
  pub together : Together
  pub in_c : arrays.InC
