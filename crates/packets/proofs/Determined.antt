-- The answers in numbers tell the answers apart: two outcomes that meet a promise are equal.
-- Assumes nothing.
use mathlib.Core.Path.{◌≡◌, refl, sym, ap, ap₂, ◌∙◌}
use Prim.Native.Nat.{ℕ}
use Rattle.std.specs.Prelude.{Option, None, Some, Result, Ok, Err}
use lib.Dec.{eqb}
use Rattle.octets.specs.Basics.{pick}
use Rattle.octets.specs.Refusals.{number_of}
use Rattle.octets.specs.declared.refusals.Refusal.{Refusal}
use Rattle.octets.proofs.ByNumber.{same_number, refused_not_0}
use Rattle.octets.proofs.Tests.{told_apart}
use Rattle.packets.specs.declared.Kind.{Kind}
use Rattle.packets.specs.declared.Header.{Header}
use Rattle.packets.specs.declared.Seen.{Seen}
use Rattle.packets.specs.declared.damage.Damage.{Damage}
use Rattle.packets.specs.declared.damage.Refused.{Refused}
use Rattle.packets.specs.declared.unwrapping.Unit.{Unit}
use Rattle.packets.specs.Packet.{Look, more, damaged, whole}
use Rattle.packets.specs.Damage.{damage_number, damage_or_0}
use Rattle.packets.specs.Header.{Reading, answer, version_of, seen}
use Rattle.packets.specs.Unwrap.{Unwrapping, unwraps}

-- ---- damage by its number

pub damage_back : ℕ → Damage
damage_back n = pick (eqb n 1) Damage.Version (pick (eqb n 2) Damage.NotIdle (pick (eqb n 3) Damage.BelowHeader Damage.OverLimit))

pub damage_undo : (d : Damage) → damage_back (damage_number d) ≡ d
unfolding damage_back
damage_undo Damage.Version = refl
damage_undo Damage.NotIdle = refl
damage_undo Damage.BelowHeader = refl
damage_undo Damage.OverLimit = refl

told_back : ℕ → Option Damage
told_back n = pick (eqb n 0) None (Some (damage_back n))

told_undo : (d : Option Damage) → told_back (damage_or_0 d) ≡ d
unfolding told_back damage_back
told_undo None = refl
told_undo (Some Damage.Version) = refl
told_undo (Some Damage.NotIdle) = refl
told_undo (Some Damage.BelowHeader) = refl
told_undo (Some Damage.OverLimit) = refl

pub same_damage : {a b : Damage} {n : ℕ} → damage_number a ≡ n → damage_number b ≡ n → a ≡ b
same_damage = told_apart damage_number damage_back damage_undo

pub same_told : {a b : Option Damage} {n : ℕ} → damage_or_0 a ≡ n → damage_or_0 b ≡ n → a ≡ b
same_told = told_apart damage_or_0 told_back told_undo

pub same_refused : (r q : Refused) → number_of r.refusal ≡ number_of q.refusal → damage_or_0 r.damage ≡ damage_or_0 q.damage → r ≡ q
same_refused r q e f =
    ap₂ (λ (n : Refusal) (d : Option Damage). record { refusal = n; damage = d }) (same_number r.refusal q.refusal e) (same_told f refl)

-- ---- a header that was read, and its refusal

header_back : Reading → Header
header_back r =
    pick (eqb r.outcome 1) Header.More
    (pick (eqb r.outcome 2) (Header.Damaged (damage_back r.damage))
    (Header.Whole (pick (eqb r.version 0) Kind.Space Kind.Encapsulation) r.key r.idle r.size r.total))

header_undo : (h : Header) → header_back (answer (Ok h)) ≡ h
unfolding header_back answer version_of
header_undo Header.More = refl
header_undo (Header.Damaged d) = ap Header.Damaged (damage_undo d)
header_undo (Header.Whole Kind.Space key idle size total) = refl
header_undo (Header.Whole Kind.Encapsulation key idle size total) = refl

header_accepted : (h : Header) → (answer (Ok h)).refusal ≡ 0
unfolding answer
header_accepted Header.More = refl
header_accepted (Header.Damaged d) = refl
header_accepted (Header.Whole kind key idle size total) = refl

same_header : (a b : Result Header Refusal) → answer a ≡ answer b → a ≡ b
unfolding answer
same_header (Ok h) (Ok k) e = ap Ok (sym (header_undo h) ∙ ap header_back e ∙ header_undo k)
same_header (Ok h) (Err q) e = absurd (refused_not_0 q (sym (ap (λ (r : Reading). r.refusal) e) ∙ header_accepted h))
same_header (Err r) (Ok k) e = absurd (refused_not_0 r (ap (λ (r : Reading). r.refusal) e ∙ header_accepted k))
same_header (Err r) (Err q) e = ap Err (same_number r q (ap (λ (r : Reading). r.refusal) e))

pub header_determined : {a b : Result Header Refusal} {x : Reading} → answer a ≡ x → answer b ≡ x → a ≡ b
header_determined {a} {b} e f = same_header a b (e ∙ sym f)

-- ---- what is seen of a length

seen_back : Look → Seen
seen_back more = Seen.More
seen_back (damaged d) = Seen.Damaged (damage_back d)
seen_back (whole total) = Seen.Whole total

seen_undo : (r : Seen) → seen_back (seen r) ≡ r
unfolding seen_back seen
seen_undo Seen.More = refl
seen_undo (Seen.Damaged d) = ap Seen.Damaged (damage_undo d)
seen_undo (Seen.Whole total) = refl

pub seen_determined : {a b : Seen} {x : Look} → seen a ≡ x → seen b ≡ x → a ≡ b
seen_determined = told_apart seen seen_back seen_undo

-- ---- what unwrapping answers

same_unwrapped : (a b : Result Unit Refused) → unwraps a ≡ unwraps b → a ≡ b
unfolding unwraps
same_unwrapped (Ok u) (Ok v) e =
    ap (λ (x : Unwrapping). Ok (record { protocol = x.protocol; extension = x.extension; start = x.start; size = x.size })) e
same_unwrapped (Ok u) (Err q) e = absurd (refused_not_0 q.refusal (sym (ap (λ (x : Unwrapping). x.refusal) e)))
same_unwrapped (Err r) (Ok v) e = absurd (refused_not_0 r.refusal (ap (λ (x : Unwrapping). x.refusal) e))
same_unwrapped (Err r) (Err q) e =
    ap Err (same_refused r q (ap (λ (x : Unwrapping). x.refusal) e) (ap (λ (x : Unwrapping). x.damage) e))

pub unwrapped_determined : {a b : Result Unit Refused} {x : Unwrapping} → unwraps a ≡ x → unwraps b ≡ x → a ≡ b
unwrapped_determined {a} {b} e f = same_unwrapped a b (e ∙ sym f)
