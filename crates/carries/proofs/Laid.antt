-- Packets laid end to end: what the rule `LaidFrom` says from any packet on, where no packet lies, and which pointer agrees.
-- Assumes nothing.
use mathlib.Core.Path.{◌≡◌, refl, sym, ap, ◌∙◌, transport}
use mathlib.Core.Logic.Iff
use mathlib.Core.Logic.{◌⊎◌, inl, inr, ◌↔◌}
use mathlib.Core.List.{List, [], ◌∷◌, ◌++◌}
use mathlib.Core.Option.{Option, some}
use mathlib.Core.Bool.{Bool, true, false}
use Prim.Native.Nat.{ℕ, suc, ◌+◌, ◌-◌, ◌≤◌, ◌<◌}
use native.Mathlib.Nat.{zero-add}
use native.Mathlib.Omega.{arith}
use lib.ListN.{length, take, drop, length-append, length-drop}
use lib.Seq.{drop-append-add}
use lib.Dec.{leb, ltb, eqb}
use borrow.Author.Tests.{leb-true, le-leb, lt-leb, ltb-true, lt-ltb, le-ltb, eqb-true, eq-eqb, ne_eqb}
use Rattle.octets.specs.Basics.{pick, and, or, All}
use Rattle.octets.proofs.Choices.{apart, and_true, split, leb_iff, eqb_iff}
use Rattle.packets.specs.Packet.{Look, more, damaged, whole, look, WellFormed, end_to_end}
use Rattle.packets.proofs.Grown.{look_bounds, look-append, look_prefix}
use Rattle.frames.specs.Frame.{idle_zone, no_start, pointer, zone_of}
use Rattle.frames.specs.declared.Settings.{Settings}
use Rattle.extractor.specs.Extract.{agreed_look, agreed, member, reason_by}
use Rattle.extractor.proofs.Walked.{BeginsFirst, cut_inside, nil-of-length}
use Rattle.carries.specs.Carries.{starts, first_start, Among, Between, LaidFrom}

-- ---- starts

-- what starts in a zone is told from where one counts
first_start_shift : (z a o b : ℕ) (ps : List (List ℕ)) → first_start z (a + o) (starts (a + b) ps) ≡ first_start z o (starts b ps)
unfolding first_start starts
first_start_shift z a o b [] = refl
first_start_shift z a o b (p ∷ ps) =
    let e₁ : leb (a + o) (a + b) ≡ leb o b = leb_iff (a + o) (a + b) o b (λ h. omega arith) (λ h. omega arith) in
    let e₂ : ltb (a + b) (a + o + z) ≡ ltb b (o + z) = leb_iff (suc (a + b)) (a + o + z) (suc b) (o + z) (λ h. omega arith) (λ h. omega arith) in
    let e₃ : a + b - (a + o) ≡ b - o = omega arith in
    let e₄ : a + b + length p ≡ a + (b + length p) = omega arith in
    rw (e₁, e₂, e₃, e₄, first_start_shift z a o (b + length p) ps)

-- nothing starts in a zone that ends before the first start
pub first_start_later : (z o b : ℕ) (ps : List (List ℕ)) → o + z ≤ b → first_start z o (starts b ps) ≡ no_start
unfolding first_start starts
first_start_later z o b [] h = refl
first_start_later z o b (p ∷ ps) h =
    rw (le-leb o b (omega arith), le-ltb b (o + z) h) (first_start_later z o (b + length p) ps (omega arith))

-- a start before the zone is none in it
first_start_before : (z o b : ℕ) (xs : List ℕ) → b < o → first_start z o (b ∷ xs) ≡ first_start z o xs
unfolding first_start
first_start_before z o b xs h = rw (lt-leb o b h)

pub first_start_there : (z o b : ℕ) (xs : List ℕ) → o ≤ b → b < o + z → first_start z o (b ∷ xs) ≡ b - o
unfolding first_start
first_start_there z o b xs h k = rw (le-leb o b h, lt-ltb b (o + z) k)

-- a start is told by an offset inside the zone
pub first_start_range : (z o : ℕ) (xs : List ℕ) → (first_start z o xs < z) ⊎ (first_start z o xs ≡ no_start)
unfolding first_start
first_start_range z o [] = inr refl
first_start_range z o (x ∷ xs) = go (and (leb o x) (ltb x (o + z))) refl (first_start_range z o xs)
  where
    go : (b : Bool) → and (leb o x) (ltb x (o + z)) ≡ b → (first_start z o xs < z) ⊎ (first_start z o xs ≡ no_start)
        → (pick b (x - o) (first_start z o xs) < z) ⊎ (pick b (x - o) (first_start z o xs) ≡ no_start)
    go true e h = let t : (leb o x ≡ true) × (ltb x (o + z) ≡ true) = and_true (leb o x) (ltb x (o + z)) e in
        inl (omega (arith, leb-true o x t.0, ltb-true x (o + z) t.1))
    go false e h = h

-- ---- where no packet lies

-- an equation between types, so that it goes both ways
among_shift : (a o b e : ℕ) (ps : List (List ℕ))
    → ◌≡◌ {A = Type 0} (Among (a + o) (starts (a + b) ps ++ ((a + e) ∷ []))) (Among o (starts b ps ++ (e ∷ [])))
unfolding starts
among_shift a o b e [] = rw (eqb_iff (a + o) (a + e) o e (λ h. omega arith) (λ h. omega arith))
among_shift a o b e (p ∷ ps) =
    let q : a + b + length p ≡ a + (b + length p) = omega arith in
    rw (eqb_iff (a + o) (a + b) o b (λ h. omega arith) (λ h. omega arith), q, among_shift a o (b + length p) e ps)

-- what stands among the starts from b on, and their end, does not stand before b
among_from : (n b e : ℕ) (ps : List (List ℕ)) → b + length (end_to_end ps) ≤ e → Among n (starts b ps ++ (e ∷ [])) → b ≤ n
unfolding starts
among_from n b e [] h m = go (eqb n e) refl m
  where
    go : (t : Bool) → eqb n e ≡ t → pick t (Unit {0}) ⊥ → b ≤ n
    go true q m = omega (arith, eqb-true n e q)
    go false q m = absurd m
among_from n b e (p ∷ ps) h m = go (eqb n b) refl m (among_from n (b + length p) e ps (omega (arith, length-append p (end_to_end ps))))
  where
    rest : Type 0
    rest = Among n (starts (b + length p) ps ++ (e ∷ []))

    go : (t : Bool) → eqb n b ≡ t → pick t (Unit {0}) rest → (rest → b + length p ≤ n) → b ≤ n
    go true q m f = omega (arith, eqb-true n b q)
    go false q m f = omega (arith, f m)

between-zero : (ps : List (List ℕ)) → Between ps 0
unfolding starts
between-zero [] = tt
between-zero (p ∷ ps) = tt

-- where nothing is begun no packet lies
pub between-nil : (held : List ℕ) (ps : List (List ℕ)) → held ≡ [] → Between ps (length held)
between-nil held ps e = rw e (between-zero ps)

-- inside a packet is not between packets
pub between_begun : (held : List ℕ) (ps : List (List ℕ)) → BeginsFirst held ps → Between ps (length held) → held ≡ []
unfolding starts
between_begun held [] b m = b
between_begun held (p ∷ ps) b m = go (eqb (length held) 0) refl m
  where
    go : (t : Bool) → eqb (length held) 0 ≡ t → pick t (Unit {0}) (Among (length held) (starts (0 + length p) ps ++ (length (p ++ end_to_end ps) ∷ []))) → held ≡ []
    go true q m = nil-of-length held (omega (arith, eqb-true (length held) 0 q))
    go false q m =
        let k : 0 + length p ≤ length held = among_from (length held) (0 + length p) (length (p ++ end_to_end ps)) ps (omega (arith, length-append p (end_to_end ps))) m in
        absurd (omega arith)

-- ---- the rule at one frame: what it says of an idle zone and of one with data, and back

pub idle_laid : (s : Settings) (ps : List (List ℕ)) (o : ℕ) (f : List ℕ) (fs : List (List ℕ)) → pointer s f ≡ idle_zone
    → LaidFrom s ps o (f ∷ fs) → Between ps o × LaidFrom s ps o fs
unfolding LaidFrom
idle_laid s ps o f fs e l = rw (eq-eqb (pointer s f) idle_zone e) at l

pub data_laid : (s : Settings) (ps : List (List ℕ)) (o : ℕ) (f : List ℕ) (fs : List (List ℕ)) → (pointer s f ≡ idle_zone → ⊥)
    → LaidFrom s ps o (f ∷ fs)
    → (pointer s f ≡ first_start s.zone o (starts 0 ps)) × (zone_of s f ≡ take s.zone (drop o (end_to_end ps)))
    × LaidFrom s ps (o + s.zone) fs
unfolding LaidFrom
data_laid s ps o f fs h l = rw (ne_eqb (pointer s f) idle_zone h) at l

pub laid_idle : (s : Settings) (ps : List (List ℕ)) (o : ℕ) (f : List ℕ) (fs : List (List ℕ)) → pointer s f ≡ idle_zone
    → Between ps o → LaidFrom s ps o fs → LaidFrom s ps o (f ∷ fs)
unfolding LaidFrom
laid_idle s ps o f fs e b l = rw (eq-eqb (pointer s f) idle_zone e) (b, l)

pub laid_data : (s : Settings) (ps : List (List ℕ)) (o : ℕ) (f : List ℕ) (fs : List (List ℕ)) → (pointer s f ≡ idle_zone → ⊥)
    → pointer s f ≡ first_start s.zone o (starts 0 ps) → zone_of s f ≡ take s.zone (drop o (end_to_end ps))
    → LaidFrom s ps (o + s.zone) fs → LaidFrom s ps o (f ∷ fs)
unfolding LaidFrom
laid_data s ps o f fs h e z l = rw (ne_eqb (pointer s f) idle_zone h) (e, z, l)

-- ---- the rule, from any packet on

pick_iff : (b : Bool) {A B C D : Type 0} → A ↔ C → B ↔ D → pick b A B ↔ pick b C D
pick_iff true f g = f
pick_iff false f g = g

between_shift : (p : List ℕ) (ps : List (List ℕ)) (o : ℕ) → 1 ≤ length p → ◌≡◌ {A = Type 0} (Between (p ∷ ps) (length p + o)) (Between ps o)
unfolding starts
between_shift p ps o h =
    let q : 0 + length p ≡ length p + 0 = omega arith in
    rw (ne_eqb (length p + o) 0 (λ e. omega arith), q, length-append p (end_to_end ps)) (among_shift (length p) o 0 (length (end_to_end ps)) ps)

starts_shift : (z : ℕ) (p : List ℕ) (ps : List (List ℕ)) (o : ℕ) → 1 ≤ length p
    → first_start z (length p + o) (starts 0 (p ∷ ps)) ≡ first_start z o (starts 0 ps)
unfolding starts
starts_shift z p ps o h =
    let q : 0 + length p ≡ length p + 0 = omega arith in
    first_start_before z (length p + o) 0 (starts (0 + length p) ps) (omega arith)
    ∙ ap (λ b. first_start z (length p + o) (starts b ps)) q
    ∙ first_start_shift z (length p) o 0 ps

-- the first packet may be left out, and the octets counted from where it ends
laid_shift_one : (s : Settings) (p : List ℕ) (ps : List (List ℕ)) (o : ℕ) (fs : List (List ℕ)) → 1 ≤ length p
    → LaidFrom s (p ∷ ps) (length p + o) fs ↔ LaidFrom s ps o fs
unfolding LaidFrom
laid_shift_one s p ps o [] h = (λ e. omega (arith, length-append p (end_to_end ps)), λ e. omega (arith, length-append p (end_to_end ps)))
laid_shift_one s p ps o (f ∷ fs) h =
    pick_iff (eqb (pointer s f) idle_zone)
    (with_between (between_shift p ps o h) (laid_shift_one s p ps o fs h))
    (rw (starts_shift s.zone p ps o h, drop-append-add p (end_to_end ps) o, over_zone)
    (with_frame (laid_shift_one s p ps (o + s.zone) fs h)))
  where
    over_zone : length p + o + s.zone ≡ length p + (o + s.zone)
    over_zone = omega arith

    with_between : {A B C D : Type 0} → ◌≡◌ {A = Type 0} A B → C ↔ D → (A × C) ↔ (B × D)
    with_between e i = (λ x. (transport e x.0, i.0 x.1), λ x. (transport (sym e) x.0, i.1 x.1))

    with_frame : {A B C D : Type 0} → C ↔ D → (A × B × C) ↔ (A × B × D)
    with_frame i = (λ x. (x.0, x.1, i.0 x.2), λ x. (x.0, x.1, i.1 x.2))

-- packets that are done with may be left out, and the octets counted from where they end
pub laid_shift : (s : Settings) (limit : ℕ) (done rest : List (List ℕ)) (o : ℕ) (fs : List (List ℕ)) → 1 ≤ limit
    → All (WellFormed limit) done → LaidFrom s (done ++ rest) (length (end_to_end done) + o) fs ↔ LaidFrom s rest o fs
laid_shift s limit [] rest o fs h wf = rw zero-add Iff.rfl
laid_shift s limit (p ∷ done) rest o fs h wf =
    let e : length (p ++ end_to_end done) + o ≡ length p + (length (end_to_end done) + o) = omega (arith, length-append p (end_to_end done)) in
    rw e
    (Iff.trans
    (laid_shift_one s p (done ++ rest) (length (end_to_end done) + o) fs (look_bounds limit p h wf.0).0)
    (laid_shift s limit done rest o fs h wf.1))

-- ---- the pointer that agrees

-- the packet that `held` begins does not end inside the zone
agreed_far : (s : Settings) (held : List ℕ) (l : ℕ) (seen : Look) → length held + s.zone ≤ l → (seen ≡ more) ⊎ (seen ≡ whole l)
    → agreed_look s held seen ≡ some (no_start ∷ [])
unfolding agreed_look
agreed_far s held l seen h (inl e) = rw e
agreed_far s held l seen h (inr e) = rw (e, le-ltb (l - length held) s.zone (omega arith))

-- it does
agreed_near : (s : Settings) (held : List ℕ) (l : ℕ) → length held ≤ l → l < length held + s.zone
    → agreed_look s held (whole l) ≡ some ((l - length held) ∷ [])
unfolding agreed_look
agreed_near s held l h k = rw (lt-ltb (l - length held) s.zone (omega arith))

-- the packets go on, so that one starts where the last one ended
first_start_next : (z o b : ℕ) (ps : List (List ℕ)) → 1 ≤ length (end_to_end ps) → o ≤ b → b < o + z → first_start z o (starts b ps) ≡ b - o
unfolding starts
first_start_next z o b [] h k l = absurd (omega arith)
first_start_next z o b (p ∷ ps) h k l = first_start_there z o b (starts (b + length p) ps) k l

-- with a packet begun: what the extractor works out from its header is where the next packet starts
agreed_inside : (s : Settings) (held z rest p : List ℕ) (ps : List (List ℕ)) → 1 ≤ s.limit → 1 ≤ length held → length z ≡ s.zone
    → WellFormed s.limit p → (held ++ z) ++ rest ≡ p ++ end_to_end ps → length held < length p
    → agreed_look s held (look s.limit (held ++ z)) ≡ some (first_start s.zone (length held) (starts 0 (p ∷ ps)) ∷ [])
unfolding starts
agreed_inside s held z rest p ps hl hh e wf j k = split (length held + s.zone) (length p) far near
  where
    seam : length (held ++ z) ≡ length held + s.zone
    seam = length-append held z ∙ ap (λ n. length held + n) e

    past_first : first_start s.zone (length held) (0 ∷ starts (0 + length p) ps) ≡ first_start s.zone (length held) (starts (0 + length p) ps)
    past_first = first_start_before s.zone (length held) 0 (starts (0 + length p) ps) hh

    far : length held + s.zone ≤ length p
        → agreed_look s held (look s.limit (held ++ z)) ≡ some (first_start s.zone (length held) (0 ∷ starts (0 + length p) ps) ∷ [])
    far h =
        agreed_far s held (length p) (look s.limit (held ++ z)) h
        (look_prefix s.limit (held ++ z) (drop (length (held ++ z)) p) hl
        (rw (← (cut_inside (held ++ z) rest p (end_to_end ps) (sym j) (omega (arith, seam))).0) wf))
        ∙ ap (λ v. some (v ∷ [])) (sym (past_first ∙ first_start_later s.zone (length held) (0 + length p) ps (omega arith)))

    near : length p < length held + s.zone
        → agreed_look s held (look s.limit (held ++ z)) ≡ some (first_start s.zone (length held) (0 ∷ starts (0 + length p) ps) ∷ [])
    near h =
        let c : (held ++ z ≡ p ++ drop (length p) (held ++ z)) × (drop (length p) (held ++ z) ++ rest ≡ end_to_end ps) = cut_inside p (end_to_end ps) (held ++ z) rest j (omega (arith, seam)) in
        let q : 0 + length p ≡ length p = omega arith in
        ap (agreed_look s held) (ap (look s.limit) c.0 ∙ look-append s.limit p (drop (length p) (held ++ z)) hl wf)
        ∙ agreed_near s held (length p) (omega arith) h
        ∙ ap (λ v. some (v ∷ []))
        (sym (past_first ∙ ap (λ b. first_start s.zone (length held) (starts b ps)) q
        ∙ first_start_next s.zone (length held) (length p) ps
        (omega (arith, seam, length-drop (length p) (held ++ z), simp length-append at (ap length c.1))) (omega arith) h))

-- the pointers that agree beside the start: an idle zone, where no packet is begun
abbrev pub or_idle : List ℕ → List ℕ
or_idle [] = idle_zone ∷ []
or_idle (o ∷ os) = []

-- The pointer that the extractor expects is the one that the rule of demand 3 states.
pub agreed_start : (s : Settings) (held z rest : List ℕ) (ps : List (List ℕ)) → 1 ≤ s.limit → 1 ≤ s.zone → length z ≡ s.zone
    → All (WellFormed s.limit) ps → (held ++ z) ++ rest ≡ end_to_end ps → BeginsFirst held ps
    → agreed s held z ≡ some (first_start s.zone (length held) (starts 0 ps) ∷ or_idle held)
unfolding agreed starts
agreed_start s [] z rest [] hl hz e wf j b = absurd (omega (arith, simp length-append at (ap length j)))
agreed_start s [] z rest (p ∷ ps) hl hz e wf j b = ap (λ v. some (v ∷ idle_zone ∷ [])) (sym (first_start_there s.zone 0 0 (starts (0 + length p) ps) (omega arith) (omega arith)))
agreed_start s (o ∷ os) z rest [] hl hz e wf j b = apart (cc)
agreed_start s (o ∷ os) z rest (p ∷ ps) hl hz e wf j b = agreed_inside s (o ∷ os) z rest p ps hl (omega arith) e wf.0 j b.2

-- a pointer that is that start agrees, and a pointer that agrees and is not the idle zone's is that start
pub start_agrees : (p v : ℕ) (held : List ℕ) (ok : Option (List ℕ)) → ok ≡ some (v ∷ or_idle held) → p ≡ v → reason_by p ok ≡ 0
unfolding reason_by
start_agrees p v held ok e q = rw (e, eq-eqb p v q)

pub agrees_start : (p v : ℕ) (held : List ℕ) (ok : Option (List ℕ)) → ok ≡ some (v ∷ or_idle held) → (p ≡ idle_zone → ⊥)
    → reason_by p ok ≡ 0 → p ≡ v
unfolding reason_by
agrees_start p v held ok e ni r = go held (eqb p v) refl (rw e at r)
  where
    go : (h : List ℕ) (t : Bool) → eqb p v ≡ t → pick {A = ℕ} (or t (member p (or_idle h))) 0 2 ≡ 0 → p ≡ v
    go h true q r = eqb-true p v q
    go [] false q r = let z : ◌≡◌ {A = ℕ} 2 0 = rw (ne_eqb p idle_zone ni) at r in absurd (omega arith)
    go (o ∷ os) false q r = absurd (omega arith)

-- an idle zone agrees where no packet is begun, and nowhere else
pub idle_agrees : (s : Settings) (z : List ℕ) (p : ℕ) → p ≡ idle_zone → reason_by p (agreed s [] z) ≡ 0
unfolding reason_by agreed
idle_agrees s z p e = rw e

agrees_idle_look : (s : Settings) (held : List ℕ) (seen : Look) → s.zone ≤ idle_zone → reason_by idle_zone (agreed_look s held seen) ≡ 0 → ⊥
unfolding reason_by agreed_look
agrees_idle_look s held more h r = omega arith
agrees_idle_look s held (damaged d) h r = omega arith
agrees_idle_look s held (whole l) h r = go (ltb (l - length held) s.zone) refl r
  where
    go : (t : Bool) → ltb (l - length held) s.zone ≡ t → pick {A = ℕ} (or (eqb idle_zone (pick t (l - length held) no_start)) false) 0 2 ≡ 0 → ⊥
    go true q r =
        let k : l - length held < s.zone = ltb-true (l - length held) s.zone q in
        let z : ◌≡◌ {A = ℕ} 2 0 = rw (ne_eqb idle_zone (l - length held) (λ e. omega arith)) at r in
        omega arith
    go false q r = omega arith

pub agrees_idle : (s : Settings) (held z : List ℕ) → s.zone ≤ idle_zone → reason_by idle_zone (agreed s held z) ≡ 0 → held ≡ []
unfolding agreed
agrees_idle s [] z h r = refl
agrees_idle s (o ∷ os) z h r = absurd (agrees_idle_look s (o ∷ os) (look s.limit ((o ∷ os) ++ z)) h r)
