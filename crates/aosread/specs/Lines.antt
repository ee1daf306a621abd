-- The lines of the output.
use Rattle.std.specs.Prelude.{ℕ, zero, suc, ◌+◌, ◌/◌, ◌%◌, ◌≤◌, List, [], ◌∷◌, ◌++◌, true, false, Result, Ok, Err, length, leb, ltb}
use Prim.Native.Char.{code}
use Prim.Native.String.{String, [] as no_more, ◌∷◌ as ◌then◌}
use Rattle.octets.specs.Basics.{pick}
use Rattle.octets.specs.Refusals.{number_of}
use Rattle.octets.specs.declared.refusals.Refusal.{Refusal}
use Rattle.packets.specs.Damage.{damage_number}
use Rattle.packets.specs.declared.Kind.TheVariants.{Space, Encapsulation}
use Rattle.packets.specs.declared.Header.{Header}
use Rattle.frames.specs.declared.Settings.{Settings}
use Rattle.extractor.specs.Answers.{reason_number}
use Rattle.extractor.specs.declared.Entry.{Entry}
use Rattle.extractor.specs.declared.Entering.{Entering}
use Rattle.extractor.specs.declared.Found.{Found}
use Rattle.judge.specs.declared.Verdict.{Verdict}

-- a text's octets
abbrev pub ascii : String → List ℕ
ascii no_more = []
ascii (c then cs) = code c ∷ ascii cs

-- the decimal digits of a number, so many at most
unfoldable pub digits : ℕ → ℕ → List ℕ
digits zero n = []
digits (suc k) n = pick (ltb n 10) [] (digits k (n / 10)) ++ ((48 + n % 10) ∷ [])

-- twenty hold every number of 64 bits
abbrev pub decimal : ℕ → List ℕ
decimal n = digits 20 n

-- a number behind its name, and the same at the end of a line
abbrev pub named : List ℕ → ℕ → List ℕ
named name n = name ++ decimal n

abbrev pub last : List ℕ → ℕ → List ℕ
last name n = named name n ++ ascii "\n"

-- two numbers, the second at the end of a line
abbrev pub two : List ℕ → ℕ → List ℕ → ℕ → List ℕ
two first a second b = named first a ++ last second b

unfoldable pub setup_line : Settings → List ℕ
setup_line s =
    named (ascii "setup ") s.link.spacecraft
    ++ (named (ascii " ") s.link.channel ++ two (ascii " zone ") s.zone (ascii " limit ") s.limit)

-- of a frame that is entered
unfoldable pub taken_line : Entry → List ℕ
taken_line e =
    named (ascii "frame ") e.count
    ++ (named (ascii " lost ") e.lost ++ two (ascii " dropped ") e.dropped (ascii " reason ") (reason_number e.reason))

-- of what entering a frame answers
unfoldable pub entered_line : Result Entering Refusal → List ℕ
entered_line (Err refusal) = last (ascii "refused ") (number_of refusal)
entered_line (Ok entering) = taken_line entering.entry

-- of a packet, by what its header tells
unfoldable pub packet_line : Result Header Refusal → List ℕ
packet_line (Ok (Header.Whole kind key true size total)) = last (ascii "idle ") total
packet_line (Ok (Header.Whole Space key false size total)) = two (ascii "space ") key (ascii " ") total
packet_line (Ok (Header.Whole Encapsulation key false size total)) = two (ascii "encap ") key (ascii " ") total
packet_line (Ok Header.More) = []
packet_line (Ok (Header.Damaged damage)) = []
packet_line (Err refusal) = []

-- of what a step found: damage, or a packet
unfoldable pub step_line : Found → Result Header Refusal → List ℕ
step_line (Found.InFrame start size idle) header = packet_line header
step_line (Found.InStore size idle) header = packet_line header
step_line (Found.Damaged damage) header = last (ascii "damaged ") (damage_number damage)
step_line Found.Spent header = packet_line header

-- of the verdict
unfoldable pub verdict_line : Result Verdict Refusal → List ℕ
verdict_line (Ok Verdict.Pass) = ascii "pass\n"
verdict_line (Ok (Verdict.Fault at)) = last (ascii "fault ") at
verdict_line (Err refusal) = []

-- so much text may wait that a line, which has 128 octets at most, has room behind it
abbrev pub Room : List ℕ → Type 0
Room text = length text + 128 ≤ 65536

-- the text that waits once a line is printed: the line behind the others, or nothing, as all is written where no other has room behind it
abbrev pub printed : List ℕ → List ℕ → List ℕ
printed text line = pick (leb (length (text ++ line) + 128) 65536) (text ++ line) []
