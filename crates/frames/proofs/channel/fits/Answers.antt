-- `fits` meets its contract: a number is its own foot where it has no bit above it.
use Rattle.std.proofs.Common.{rules}
use Rattle.frames.proofs.Headings.{foot_fits}
use Rattle.frames.proofs.channel.fits.Goals as goal

pub returns : goal.returns
returns g c = search (rules, foot_fits)
