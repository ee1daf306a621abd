-- What the header reader's answer says of routing its packet.
-- Assumes nothing.
use mathlib.Core.Path.{◌≡◌, refl, sym, ap, ◌∙◌}
use mathlib.Core.List.{List}
use mathlib.Core.Bool.{Bool, true, false}
use Prim.Native.Nat.{ℕ}
use native.Mathlib.Omega.{arith}
use lib.ListN.{length, get_or}
use borrow.Author.Tests.{eq-eqb, ne_eqb}
use Rattle.std.specs.Prelude.{Ok, Err}
use Rattle.octets.specs.Basics.{first}
use Rattle.octets.specs.Refusals.{number_of}
use Rattle.octets.specs.declared.refusals.Refusal.{Refusal}
use Rattle.octets.proofs.Tests.{test}
use Rattle.octets.proofs.Choices.{apart}
use Rattle.packets.specs.Packet.{Look, more, damaged, whole, look, damage_in, carried, limit_in_range, states, well_formed, packet_version, key_of, apid}
use Rattle.packets.specs.Header.{Reading, bare, told, reading, version_of, answer}
use Rattle.packets.specs.declared.Header.{Header}
use Rattle.packets.specs.declared.Header.TheVariants.{More, Damaged, Whole}
use Rattle.packets.specs.declared.Kind.{Kind}
use Rattle.relay.specs.Table.{entries_of, is_table}
use Rattle.relay.specs.Route.{destinations, route_rows, refused, no_path, handed, routing}
use Rattle.relay.specs.declared.Table.{Table}
use Rattle.relay.proofs.Tables.{its_entries}
use Rattle.relay.proofs.Ways.{path_encapsulation, path_apid, malformed, formed, nowhere}

-- an answer that tells no whole header
abbrev pub NotWhole : Header → Type 0
NotWhole h = (kind : Kind) (key : ℕ) (idle : Bool) (size total : ℕ) → h ≡ Whole kind key idle size total → ⊥

-- a limit in range is never refused, and one out of range always
told_something : (os : List ℕ) (l : Look) → (told os l).outcome ≡ 0 → ⊥
unfolding told
told_something os more e = omega (arith, e)
told_something os (damaged d) e = omega (arith, e)
told_something os (whole n) e = omega (arith, e)

answer_something : (h : Header) → (answer (Ok h)).outcome ≡ 0 → ⊥
unfolding answer
answer_something More e = omega (arith, e)
answer_something (Damaged d) e = omega (arith, e)
answer_something (Whole kind key idle size total) e = omega (arith, e)

module _ (limit : ℕ) (p : List ℕ) where
  out_of_range : {n : ℕ} → bare n 0 0 ≡ reading limit p → (limit_in_range limit ≡ false) × (n ≡ 1)
  unfolding reading
  out_of_range {n} e =
      test (limit_in_range limit)
      (λ t. absurd (told_something p (look limit p) (sym (ap (λ (r : Reading). r.outcome) (rw t at e)))))
      (λ t. (t, ap (λ (r : Reading). r.refusal) (rw t at e)))

  pub in_range : (h : Header) → answer (Ok h) ≡ reading limit p → limit_in_range limit ≡ true
  unfolding reading
  in_range h e = test (limit_in_range limit) (λ t. t) (λ t. absurd (answer_something h (ap (λ (r : Reading). r.outcome) (rw t at e))))

  as_told : (h : Header) → answer (Ok h) ≡ reading limit p → answer (Ok h) ≡ told p (look limit p)
  unfolding reading
  as_told h e = let l = in_range h e in rw l at e

  its_damage : (h : Header) → answer (Ok h) ≡ reading limit p → (answer (Ok h)).damage ≡ damage_in (look limit p)
  unfolding told damage_in
  its_damage h e = ap (λ (r : Reading). r.damage) (as_told h e) ∙ go (look limit p)
    where
      go : (a : Look) → (told p a).damage ≡ damage_in a
      go more = refl
      go (damaged d) = refl
      go (whole n) = refl

  not_whole : (h : Header) → NotWhole h → answer (Ok h) ≡ reading limit p → well_formed limit p ≡ false
  unfolding answer told well_formed states
  not_whole h k e = go (look limit p) h k (as_told h e)
    where
      go : (a : Look) (h : Header) → NotWhole h → answer (Ok h) ≡ told p a → states (length p) a ≡ false
      go more h k e = refl
      go (damaged d) h k e = refl
      go (whole n) More k e = apart (let z : ◌≡◌ {A = ℕ} 1 3 = ap (λ (r : Reading). r.outcome) e in omega arith)
      go (whole n) (Damaged d) k e = apart (let z : ◌≡◌ {A = ℕ} 2 3 = ap (λ (r : Reading). r.outcome) e in omega arith)
      go (whole n) (Whole kind key idle size total) k e = absurd (k kind key idle size total refl)

  -- a whole header
  module _ {kind : Kind} {key : ℕ} {idle : Bool} {size total : ℕ} (h : Header) (is : h ≡ Whole kind key idle size total) (e : answer (Ok h) ≡ reading limit p) where
    -- says the packet's length, its kind and its APID or protocol
    says : (look limit p ≡ whole total) × ((version_of kind ≡ packet_version (get_or p 0 0)) × (key ≡ key_of p))
    unfolding answer told
    says = go (look limit p) (ap (λ g. answer (Ok g)) (sym is) ∙ as_told h e)
      where
        go : (a : Look) → answer (Ok (Whole kind key idle size total)) ≡ told p a → (a ≡ whole total) × ((version_of kind ≡ packet_version (get_or p 0 0)) × (key ≡ key_of p))
        go more d = apart (let z : ◌≡◌ {A = ℕ} 3 1 = ap (λ (r : Reading). r.outcome) d in omega arith)
        go (damaged n) d = apart (let z : ◌≡◌ {A = ℕ} 3 2 = ap (λ (r : Reading). r.outcome) d in omega arith)
        go (whole n) d = (ap whole (sym (ap (λ (r : Reading). r.total) d)), (ap (λ (r : Reading). r.version) d, ap (λ (r : Reading). r.key) d))

    another_length : (total ≡ length p → ⊥) → well_formed limit p ≡ false
    unfolding well_formed states
    another_length n = rw says.0 (ne_eqb total (length p) n)

    its_length : total ≡ length p → well_formed limit p ≡ true
    unfolding well_formed states
    its_length n = rw says.0 (eq-eqb total (length p) n)

    its_apid : version_of kind ≡ 0 → key ≡ apid p
    unfolding key_of
    its_apid v = says.1.1 ∙ rw (sym says.1.0 ∙ v) refl

    module _ (t : Table) (out : List ℕ) (m : is_table t ≡ true) where
      pub torn : (total ≡ length p → ⊥) → refused 8 0 out ≡ routing limit t p out
      unfolding damage_in
      torn n = sym (malformed limit t p out (in_range h e) m (another_length n) ∙ ap (λ (a : Look). refused 8 (damage_in a) out) says.0)

      pub to_nowhere : total ≡ length p → version_of kind ≡ 7 → no_path out ≡ routing limit t p out
      to_nowhere n v = sym (nowhere limit t p out (in_range h e) m (its_length n) (path_encapsulation (entries_of t) p (sym says.1.0 ∙ v)))

      pub by_apid : total ≡ length p → version_of kind ≡ 0 → handed (destinations key (entries_of t)) out ≡ routing limit t p out
      by_apid n v =
          sym
          (formed limit t p out (in_range h e) m (its_length n)
          ∙ ap (λ (ds : List ℕ). handed ds out)
          (path_apid (entries_of t) p (its_entries t m).1 (sym says.1.0 ∙ v) ∙ ap (λ (a : ℕ). destinations a (entries_of t)) (sym (its_apid v))))

module _ (limit : ℕ) (t : Table) (p out : List ℕ) where
  pub turned_away : (r : Refusal) → answer (Err r) ≡ reading limit p → refused (number_of r) 0 out ≡ routing limit t p out
  unfolding answer routing route_rows first carried
  turned_away r e = let k = out_of_range limit p e in rw (k.0, k.1) refl

  pub no_table : (h : Header) → answer (Ok h) ≡ reading limit p → is_table t ≡ false → refused 10 0 out ≡ routing limit t p out
  unfolding routing route_rows first carried
  no_table h e m = let l = in_range limit p h e in rw (l, m) refl

  pub no_packet : {d : ℕ} → is_table t ≡ true → (h : Header) → NotWhole h → answer (Ok h) ≡ reading limit p → d ≡ (answer (Ok h)).damage
      → refused 8 d out ≡ routing limit t p out
  no_packet m h k e q =
      ap (λ (d : ℕ). refused 8 d out) (q ∙ its_damage limit p h e) ∙ sym (malformed limit t p out (in_range limit p h e) m (not_whole limit p h k e))
