-- What the public functions of `frames` promise.
use Rattle.std.specs.Prelude.{ℕ, ◌^◌, Bool, List, Result, ltb, eqb, refl}
use contract.Lifetimes.{Lfts}
use denote.Exit.{no}
use denote.Param.{arg}
use denote.Param.Laws.{Laws, IsCopy, arg_laws, arg_copy}
use denote.RattleType.{RattleType}
use denote.Ref.{at_last}
use mir.Syntax.{Dict}
use Rattle.std.specs.declared.clone.Clone as copied
use Rattle.std.below.core.specs.contracts.clone.Clone+copy.TheImpl as any_copied
use Rattle.octets.specs.Basics.{over, Row}
use Rattle.octets.specs.declared.refusals.Refusal.{Refusal}
use Rattle.frames.specs.Link.{around, count_width, next_count, missing}
use Rattle.frames.specs.Frame.{in_range, frame_length, unused, heading_rows, heading, head, head_rows}
use Rattle.frames.specs.BitFrame.{bits_in_range, bit_frame_length, bit_unused, bit_heading_rows, bit_heading, bit_head, bit_head_rows}
use Rattle.frames.specs.declared.Link.{Link}
use Rattle.frames.specs.declared.Settings.{Settings}
use Rattle.frames.specs.declared.bits.BitSettings.{BitSettings}
use Rattle.frames.specs.Shape.{tells}
use Rattle.frames.specs.Shape as told
use Rattle.frames.specs.declared.Heading.{Heading}
use Rattle.frames.specs.declared.channel.Channel as channel
use Rattle.frames.specs.contracts.Settings as packet_type
use Rattle.frames.specs.contracts.SettingsChannel.TheImpl as packet_channel
use Rattle.frames.specs.contracts.bits.BitSettings as bit_type
use Rattle.frames.specs.contracts.bits.BitSettingsChannel.TheImpl as bit_channel
use Rattle.frames.proofs.Settings.TheLaws as packet_laws
use Rattle.frames.proofs.bits.BitSettings.TheLaws as bit_laws
use Rattle.frames.proofs.SettingsChannel.in_range.Reads as in_range_fn
use Rattle.frames.proofs.SettingsChannel.link.Reads as link_fn
use Rattle.frames.proofs.SettingsChannel.zone_length.Reads as zone_length_fn
use Rattle.frames.proofs.SettingsChannel.is_unused.Reads as is_unused_fn
use Rattle.frames.proofs.bits.BitSettingsChannel.in_range.Reads as bits_in_range_fn
use Rattle.frames.proofs.bits.BitSettingsChannel.link.Reads as bits_link_fn
use Rattle.frames.proofs.bits.BitSettingsChannel.zone_length.Reads as bits_zone_length_fn
use Rattle.frames.proofs.bits.BitSettingsChannel.is_unused.Reads as bits_is_unused_fn
use Rattle.frames.proofs.around.Reads as around_fn
use Rattle.frames.proofs.has_length.Reads as has_length_fn
use Rattle.frames.proofs.is_short.Reads as is_short_fn
use Rattle.frames.proofs.read_head.Reads as read_head_fn
use Rattle.frames.proofs.write_head.Reads as write_head_fn
use Rattle.frames.proofs.wheel_of.Reads as wheel_of_fn
use Rattle.frames.proofs.next_count.Reads as next_count_fn
use Rattle.frames.proofs.missing.Reads as missing_fn
use Rattle.demands.specs.Promises.{Slice, MutSlice, Contract, Left, as_read, Is, Promised, Writes}

-- a header that is read
abbrev pub Reads : Contract (Result Heading Refusal) → List Row → told.Heading → Type 0
Reads c rows given = Promised c given rows tells (λ h. h.refusal) (λ n. record { refusal = n; count = 0; replay = 0; pointer = 0 })

-- what a function over any channel is called with besides its arguments
pub record Called : Type 2 where
  -- the type of the settings, what holds of its values, and that they are copied
  pub row : RattleType
  pub laws : Laws row
  pub copies : IsCopy row
  -- what the type says of itself as a channel, by which methods, and the same of copying
  pub says : channel.Ghosts row.Denot
  pub methods : Dict
  pub clones : copied.Ghosts row.Denot
  pub cloning : Dict

-- as a call passes them with the settings of a packet channel, and of a bitstream channel
abbrev pub packets : Called
packets = record {
  row = arg packet_laws.mir no packet_type.the_row;
  laws = arg_laws packet_laws.mir no packet_type.the_row packet_laws.the_row_laws refl;
  copies = arg_copy packet_laws.mir no packet_type.the_row packet_laws.the_row_copy refl;
  says = packet_channel.ghosts;
  methods = packet_channel.dict;
  clones = any_copied.ghosts packet_type.the_row;
  cloning = any_copied.dict packet_type.the_row;
}

abbrev pub bits : Called
bits = record {
  row = arg bit_laws.mir no bit_type.the_row;
  laws = arg_laws bit_laws.mir no bit_type.the_row bit_laws.the_row_laws refl;
  copies = arg_copy bit_laws.mir no bit_type.the_row bit_laws.the_row_copy refl;
  says = bit_channel.ghosts;
  methods = bit_channel.dict;
  clones = any_copied.ghosts bit_type.the_row;
  cloning = any_copied.dict bit_type.the_row;
}

-- the contracts of such functions
module _ (t : Called) (κs : Lfts 1) (s : t.row.Denot) where
  abbrev pub has_length_of : ℕ → Contract Bool
  has_length_of len =
      as_read (has_length_fn.Pre t.row t.laws t.copies t.says t.methods t.clones t.cloning κs (s, (len, tt)))
      (λ r. has_length_fn.Post t.row t.laws t.copies t.says t.methods t.clones t.cloning κs (s, (len, tt)) r (s, (len, tt)))

  abbrev pub is_short_of : ℕ → Contract Bool
  is_short_of len =
      as_read (is_short_fn.Pre t.row t.laws t.copies t.says t.methods t.clones t.cloning κs (s, (len, tt)))
      (λ r. is_short_fn.Post t.row t.laws t.copies t.says t.methods t.clones t.cloning κs (s, (len, tt)) r (s, (len, tt)))

module _ (t : Called) (κs : Lfts 2) (s : t.row.Denot) where
  abbrev pub read_head_of : Slice → Contract (Result Heading Refusal)
  read_head_of f =
      as_read (read_head_fn.Pre t.row t.laws t.copies t.says t.methods t.clones t.cloning κs (s, (f, tt)))
      (λ r. read_head_fn.Post t.row t.laws t.copies t.says t.methods t.clones t.cloning κs (s, (f, tt)) r (s, (f, tt)))

  abbrev pub write_head_of : ℕ → ℕ → MutSlice → Contract (Left (Result (Unit {0}) Refusal))
  write_head_of c p buf =
      as_read (write_head_fn.Pre t.row t.laws t.copies t.says t.methods t.clones t.cloning κs (s, (c, (p, (buf, tt)))))
      (λ o. write_head_fn.Post t.row t.laws t.copies t.says t.methods t.clones t.cloning κs (s, (c, (p, (buf, tt)))) o.answer (s, (c, (p, (at_last buf o.lent, tt)))))

-- ranges, lengths, the wheel, and the headers of packet frames and of bitstream frames
pub record OfFrames : Type 0 where
  pub in_range : (s : Settings) → Is (as_read (in_range_fn.Pre tt (s, tt)) (λ r. in_range_fn.Post tt (s, tt) r (s, tt))) (in_range s)
  pub link : (s : Settings) → Is (as_read (link_fn.Pre tt (s, tt)) (λ r. link_fn.Post tt (s, tt) r (s, tt))) s.link
  pub zone_length : (s : Settings) → Is (as_read (zone_length_fn.Pre tt (s, tt)) (λ r. zone_length_fn.Post tt (s, tt) r (s, tt))) s.zone
  pub is_unused : (s : Settings) (p : ℕ)
      → Is (as_read (is_unused_fn.Pre tt (s, (p, tt))) (λ r. is_unused_fn.Post tt (s, (p, tt)) r (s, (p, tt)))) (unused s p)
  pub around : (l : Link) → Is (as_read (around_fn.Pre tt (l, tt)) (λ r. around_fn.Post tt (l, tt) r (l, tt))) (around l)
  pub has_length : (κs : Lfts 1) (s : Settings) (len : ℕ) → Is (has_length_of packets κs s len) (eqb len (frame_length s))
  pub is_short : (κs : Lfts 1) (s : Settings) (len : ℕ) → Is (is_short_of packets κs s len) (ltb len (frame_length s))
  pub wheel_of : (l : Link) → Is (as_read (wheel_of_fn.Pre tt (l, tt)) (λ r. wheel_of_fn.Post tt (l, tt) r (l, tt))) (2 ^ count_width l)
  pub next_count : (l : Link) (c : ℕ)
      → Is (as_read (next_count_fn.Pre tt (l, (c, tt))) (λ r. next_count_fn.Post tt (l, (c, tt)) r (l, (c, tt)))) (next_count (count_width l) c)
  pub missing : (l : Link) (last c : ℕ)
      → Is (as_read (missing_fn.Pre tt (l, (last, (c, tt)))) (λ r. missing_fn.Post tt (l, (last, (c, tt))) r (l, (last, (c, tt))))) (missing (count_width l) last c)
  pub read_head : (κs : Lfts 2) (s : Settings) (f : Slice) → Reads (read_head_of packets κs s f) (heading_rows s f.now) (heading s f.now)
  pub write_head : (κs : Lfts 2) (s : Settings) (c p : ℕ) (buf : MutSlice)
      → Writes (write_head_of packets κs s c p buf) (head_rows s c p buf.now) (over buf.now 0 (head s c p)) buf.now
  pub bits_in_range : (s : BitSettings)
      → Is (as_read (bits_in_range_fn.Pre tt (s, tt)) (λ r. bits_in_range_fn.Post tt (s, tt) r (s, tt))) (bits_in_range s)
  pub bits_link : (s : BitSettings) → Is (as_read (bits_link_fn.Pre tt (s, tt)) (λ r. bits_link_fn.Post tt (s, tt) r (s, tt))) s.link
  pub bits_zone_length : (s : BitSettings)
      → Is (as_read (bits_zone_length_fn.Pre tt (s, tt)) (λ r. bits_zone_length_fn.Post tt (s, tt) r (s, tt))) s.width
  pub bits_is_unused : (s : BitSettings) (p : ℕ)
      → Is (as_read (bits_is_unused_fn.Pre tt (s, (p, tt))) (λ r. bits_is_unused_fn.Post tt (s, (p, tt)) r (s, (p, tt)))) (bit_unused s p)
  pub bits_has_length : (κs : Lfts 1) (s : BitSettings) (len : ℕ) → Is (has_length_of bits κs s len) (eqb len (bit_frame_length s))
  pub bits_is_short : (κs : Lfts 1) (s : BitSettings) (len : ℕ) → Is (is_short_of bits κs s len) (ltb len (bit_frame_length s))
  pub bits_read_head : (κs : Lfts 2) (s : BitSettings) (f : Slice)
      → Reads (read_head_of bits κs s f) (bit_heading_rows s f.now) (bit_heading s f.now)
  pub bits_write_head : (κs : Lfts 2) (s : BitSettings) (c p : ℕ) (buf : MutSlice)
      → Writes (write_head_of bits κs s c p buf) (bit_head_rows s c p buf.now) (over buf.now 0 (bit_head s c p)) buf.now
