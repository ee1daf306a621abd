-- What settings in range are bounded by.
-- Assumes nothing.
use Rattle.std.proofs.Common.{◌≡◌, ◌≤◌, true, leb-true}
use Rattle.octets.proofs.Choices.{and_true}
use Rattle.frames.specs.Link.{link_in_range}
use Rattle.frames.specs.Frame.{in_range}
use Rattle.frames.specs.declared.Link.{Link}
use Rattle.frames.specs.declared.Settings.{Settings}

pub record Linked (l : Link) : Type 0 where
  pub spacecraft_most : l.spacecraft ≤ 255
  pub channel_most : l.channel ≤ 62

pub linked : (l : Link) → link_in_range l ≡ true → Linked l
unfolding link_in_range
linked l e =
    let a = and_true _ _ e in
    record { spacecraft_most = leb-true _ _ a.0; channel_most = leb-true _ _ a.1 }

pub record Settled (s : Settings) : Type 0 where
  pub on_link : Linked s.link
  pub zone_least : 1 ≤ s.zone
  pub zone_most : s.zone ≤ 2046
  pub zone_limit : s.zone ≤ s.limit
  pub limit_least : 7 ≤ s.limit
  pub limit_most : s.limit ≤ 65542

pub settled : (s : Settings) → in_range s ≡ true → Settled s
unfolding in_range
settled s e =
    let a = and_true _ _ e in
    let b = and_true _ _ a.1 in
    let c = and_true _ _ b.1 in
    let d = and_true _ _ c.1 in
    let f = and_true _ _ d.1 in
    record {
      on_link = linked s.link a.0;
      zone_least = leb-true _ _ b.0;
      zone_most = leb-true _ _ c.0;
      zone_limit = leb-true _ _ d.0;
      limit_least = leb-true _ _ f.0;
      limit_most = leb-true _ _ f.1;
    }
