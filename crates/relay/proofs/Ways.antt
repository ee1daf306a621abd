-- The ways of packets by a table.
-- Assumes nothing.
use mathlib.Core.Path.{◌≡◌, refl, sym, ap, ◌∙◌}
use mathlib.Core.List.{List, [], ◌∷◌, ◌++◌, Memᴰ}
use mathlib.Core.Bool.{true, false}
use Prim.Native.Nat.{ℕ, ◌≤◌, ◌<◌}
use native.Mathlib.Omega.{arith}
use lib.ListN.{length, drop, get_or}
use lib.Dec.{ltb, eqb}
use borrow.Author.Tests.{lt-ltb, le-ltb, eqb-true}
use Rattle.octets.specs.Basics.{first}
use Rattle.octets.proofs.Tests.{test}
use Rattle.octets.proofs.Choices.{or_false}
use Rattle.packets.specs.Packet.{limit_in_range, look, damage_in, carried, well_formed, packet_version, apid, is_idle}
use Rattle.relay.specs.Table.{pair, above, unfit, entries_of, is_table}
use Rattle.relay.specs.Route.{destinations, path, route_rows, refused, no_path, written, handed, routing}
use Rattle.relay.specs.Laws.{Routes}
use Rattle.relay.specs.declared.Entry.{Entry}
use Rattle.relay.specs.declared.Table.{Table}
use Rattle.relay.proofs.Entries.{none_idle, destines}

-- ---- where a packet goes

path_idle : (es : List Entry) (p : List ℕ) → is_idle p ≡ true → path es p ≡ []
unfolding path
path_idle es p i = rw i refl

pub path_encapsulation : (es : List Entry) (p : List ℕ) → packet_version (get_or p 0 0) ≡ 7 → path es p ≡ []
unfolding path
path_encapsulation es p v = test (is_idle p) (λ i. rw i refl) (λ i. rw (i, v) refl)

path_space : (es : List Entry) (p : List ℕ) → is_idle p ≡ false → packet_version (get_or p 0 0) ≡ 0 → path es p ≡ destinations (apid p) es
unfolding path
path_space es p i v = rw (i, v) refl

idle_apid : (p : List ℕ) → packet_version (get_or p 0 0) ≡ 0 → is_idle p ≡ true → apid p ≡ 2047
unfolding is_idle
idle_apid p v i = eqb-true (apid p) 2047 (rw v at i)

pub none_above : (es : List Entry) → unfit es ≡ false → above es ≡ false
unfolding unfit
none_above es u = (or_false _ _ u).0

-- no entry of a table is for idle packets, so that nothing has to be asked of a space packet but its APID
pub path_apid : (es : List Entry) (p : List ℕ) → unfit es ≡ false → packet_version (get_or p 0 0) ≡ 0 → path es p ≡ destinations (apid p) es
path_apid es p u v =
    test (is_idle p)
    (λ i. path_idle es p i ∙ sym (ap (λ (a : ℕ). destinations a es) (idle_apid p v i) ∙ none_idle es (none_above es u)))
    (λ i. path_space es p i v)

path_none : (es : List Entry) (p : List ℕ) → destinations (apid p) es ≡ [] → path es p ≡ []
unfolding path
path_none es p e = rw e (test (is_idle p) (λ i. rw i refl) (λ i. rw i (test (eqb (packet_version (get_or p 0 0)) 0) (λ t. rw t refl) (λ t. rw t refl))))

none_listed : (apid : ℕ) (es : List Entry) → ((d : ℕ) → Memᴰ (pair apid d) es → ⊥) → destinations apid es ≡ []
none_listed apid es none = go (destinations apid es) refl
  where
    go : (ds : List ℕ) → destinations apid es ≡ ds → ds ≡ []
    go [] e = refl
    go (d ∷ ds) e = absurd (none d ((destines apid es).no_other d (rw e (Memᴰ.head refl))))

-- ---- routing

pub written_unrefused : (ds output : List ℕ) → (written ds output).refusal ≡ 0
unfolding written
written_unrefused [] output = refl
written_unrefused (d ∷ ds) output = refl

-- n destinations: no room for them, none, and some
module _ (ds output : List ℕ) {n : ℕ} (many : n ≡ length ds) where
  pub not_sent : length output < n → handed ds output ≡ refused 2 0 output
  unfolding handed
  not_sent h = rw (lt-ltb (length output) (length ds) (omega (arith, many))) refl

  pub sent_nowhere : n ≡ 0 → handed ds output ≡ no_path output
  unfolding handed written
  sent_nowhere z = go ds (sym many ∙ z)
    where
      go : (ds : List ℕ) → length ds ≡ 0 → handed ds output ≡ no_path output
      go [] e = rw (le-ltb (length output) 0 (omega arith)) refl
      go (d ∷ ds) e = absurd (omega (arith, e))

  pub sent : (n ≡ 0 → ⊥) → n ≤ length output
      → handed ds output ≡ record { refusal = 0; damage = 0; outcome = 2; count = n; output = ds ++ drop (length ds) output }
  unfolding handed written
  sent z h = rw many (go ds (λ e. z (many ∙ e)) (omega (arith, many)))
    where
      go : (ds : List ℕ) → (length ds ≡ 0 → ⊥) → length ds ≤ length output
          → handed ds output ≡ record { refusal = 0; damage = 0; outcome = 2; count = length ds; output = ds ++ drop (length ds) output }
      go [] z h = absurd (z refl)
      go (d ∷ ds) z h = rw (le-ltb (length output) (length (d ∷ ds)) h) refl

-- where limit and table are in order
module _ (limit : ℕ) (t : Table) (p output : List ℕ) (l : limit_in_range limit ≡ true) (m : is_table t ≡ true) where
  pub malformed : well_formed limit p ≡ false → routing limit t p output ≡ refused 8 (damage_in (look limit p)) output
  unfolding routing route_rows first carried
  malformed w = rw (l, m, w) refl

  pub formed : well_formed limit p ≡ true → routing limit t p output ≡ handed (path (entries_of t) p) output
  unfolding routing route_rows first handed carried
  formed w = rw (l, m, w) (test (ltb (length output) (length (path (entries_of t) p))) (λ r. rw r refl) (λ r. rw r refl))

  pub nowhere : well_formed limit p ≡ true → path (entries_of t) p ≡ [] → routing limit t p output ≡ no_path output
  unfolding handed written
  nowhere w e = formed w ∙ rw (e, le-ltb (length output) 0 (omega arith)) refl

  by_space : well_formed limit p ≡ true → is_idle p ≡ false → packet_version (get_or p 0 0) ≡ 0
      → routing limit t p output ≡ handed (destinations (apid p) (entries_of t)) output
  by_space w i v = formed w ∙ ap (λ (ds : List ℕ). handed ds output) (path_space (entries_of t) p i v)

  pub routes : Routes limit t p output
  unfolding handed written
  routes = record {
    malformed = malformed;
    idle = λ w i. nowhere w (path_idle (entries_of t) p i);
    encapsulation = λ w v. nowhere w (path_encapsulation (entries_of t) p v);
    no_entry = λ w none. nowhere w (path_none (entries_of t) p (none_listed (apid p) (entries_of t) none));
    no_room = λ w i v r. by_space w i v ∙ not_sent (destinations (apid p) (entries_of t)) output refl r;
    path = λ w i v h r. by_space w i v ∙ sent (destinations (apid p) (entries_of t)) output refl (λ z. omega (arith, z, h)) r;
  }
