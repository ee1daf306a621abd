-- What loading and routing keep to.
-- Assumes nothing.
use Rattle.relay.specs.Laws.{Relays}
use Rattle.relay.proofs.Entries.{destines}
use Rattle.relay.proofs.Tables.{loads, reached}
use Rattle.relay.proofs.Ways.{routes}

pub relays : Relays
relays = record { loads = loads; reached = reached; destines = destines; routes = routes }
