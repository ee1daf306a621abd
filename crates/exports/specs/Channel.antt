-- The settings of a packet channel as numbers.
use Rattle.std.specs.Prelude.{ℕ, List, Bool, get_or, leb, ltb, eqb}
use Rattle.octets.specs.Basics.{pick, and, or}
use Rattle.frames.specs.declared.Edition.{Edition}
use Rattle.frames.specs.declared.Edition.TheVariants.{Former, CycleUnused, CycleUsed}
use Rattle.frames.specs.declared.Link.{Link}
use Rattle.frames.specs.declared.Settings.{Settings}
use Rattle.arrays.specs.Arrays.{octet_of, count_of}

-- so many numbers state the settings
abbrev pub settings_numbers : ℕ
settings_numbers = 7

-- whether an array is short: of settings, of a record's four numbers, or of an answer's
unfoldable pub short : ℕ → ℕ → ℕ → ℕ → Bool
short settings numbers answer room = or (ltb settings settings_numbers) (or (ltb numbers 4) (ltb answer room))

-- the numbers of the editions: 701.0-B-2, and 732.0-B-3 with usage 0 and with usage 1
abbrev pub edition_number : Edition → ℕ
edition_number Former = 0
edition_number CycleUnused = 1
edition_number CycleUsed = 2

-- the edition of a number; of one that is no edition's, which is out of range, the last
unfoldable pub edition_of : ℕ → Edition
edition_of n = pick (eqb n 0) Former (pick (eqb n 1) CycleUnused CycleUsed)

-- the octets of a zone: none, which is out of range, where the fill is no octet, the trailer's number neither 0 nor 1, or the edition's
-- none of the three
unfoldable pub zone_for : ℕ → ℕ → ℕ → ℕ → ℕ
zone_for zone fill trailer edition = pick (and (leb fill 255) (and (leb trailer 1) (leb edition 2))) zone 0

-- spacecraft and channel, the trailer's number, which is 1 where frames have one, and the edition's
unfoldable pub link_of : List ℕ → ℕ → ℕ → Link
link_of ns trailer edition = record {
  spacecraft = count_of (get_or ns 0 0);
  channel = count_of (get_or ns 1 0);
  trailed = eqb trailer 1;
  edition = edition_of edition;
}

-- spacecraft, channel, Z, M, the fill octet, the trailer and the edition
unfoldable pub settings_of : List ℕ → Settings
settings_of ns = record {
  link = link_of ns (get_or ns 5 0) (get_or ns 6 0);
  zone = zone_for (get_or ns 2 0) (get_or ns 4 0) (get_or ns 5 0) (get_or ns 6 0);
  limit = get_or ns 3 0;
  fill = octet_of (get_or ns 4 0);
}
