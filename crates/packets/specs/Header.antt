-- What the header reader answers, in numbers.
use Rattle.std.specs.Prelude.{ℕ, List, Bool, false, Result, Ok, Err, get_or}
use Rattle.octets.specs.Basics.{pick}
use Rattle.octets.specs.Refusals.{number_of}
use Rattle.octets.specs.declared.refusals.Refusal.{Refusal}
use Rattle.packets.specs.Packet.{Look, more, damaged, whole, look, limit_in_range, packet_version, key_of, is_idle, size_of}
use Rattle.packets.specs.declared.Seen.{Seen}
use Rattle.packets.specs.declared.Kind.{Kind}
use Rattle.packets.specs.declared.Kind.TheVariants.{Space, Encapsulation}
use Rattle.packets.specs.declared.Header.{Header}
use Rattle.packets.specs.Damage.{damage_number}

-- what is answered of octets that begin a packet
pub record Reading : Type 0 where
  -- the refusal, or 0
  pub refusal : ℕ
  -- 1: more octets are needed; 2: damaged; 3: whole; 0 where the call is refused
  pub outcome : ℕ
  -- of a whole header: the packet's version, its APID or protocol, whether it is idle, the header's length and the packet's
  pub version : ℕ
  pub key : ℕ
  pub idle : Bool
  pub size : ℕ
  pub total : ℕ
  -- of a damaged header: 1 the version, 2 a packet of one octet is not idle, 3 the length is below its header, 4 it is over the limit
  pub damage : ℕ

-- an answer that tells nothing of the packet but its damage
abbrev pub bare : ℕ → ℕ → ℕ → Reading
bare refusal outcome damage = record {
  refusal = refusal;
  outcome = outcome;
  version = 0;
  key = 0;
  idle = false;
  size = 0;
  total = 0;
  damage = damage;
}

-- what is told of octets that say so much of their packet's length
unfoldable pub told : List ℕ → Look → Reading
told os more = bare 0 1 0
told os (damaged d) = bare 0 2 d
told os (whole total) = record {
  refusal = 0;
  outcome = 3;
  version = packet_version (get_or os 0 0);
  key = key_of os;
  idle = is_idle os;
  size = size_of os;
  total = total;
  damage = 0;
}

-- the rule: a limit out of range is refused
unfoldable pub reading : ℕ → List ℕ → Reading
reading limit os = pick (limit_in_range limit) (told os (look limit os)) (bare 1 0 0)

-- the version of each kind of packet
unfoldable pub version_of : Kind → ℕ
version_of Space = 0
version_of Encapsulation = 7

-- an answer in numbers
unfoldable pub answer : Result Header Refusal → Reading
answer (Err r) = bare (number_of r) 0 0
answer (Ok Header.More) = bare 0 1 0
answer (Ok (Header.Damaged d)) = bare 0 2 (damage_number d)
answer (Ok (Header.Whole kind key idle size total)) = record {
  refusal = 0;
  outcome = 3;
  version = version_of kind;
  key = key;
  idle = idle;
  size = size;
  total = total;
  damage = 0;
}

-- what an answer of the length alone says
unfoldable pub seen : Seen → Look
seen Seen.More = more
seen (Seen.Damaged d) = damaged (damage_number d)
seen (Seen.Whole total) = whole total
