-- The walk of octets, turn by turn; and of octets that are packets laid end to end: it gives those packets, and leaves the
-- beginning of the next.
-- Assumes nothing.
use mathlib.Core.Path.{◌≡◌, refl, sym, ap, ap₂, ◌∙◌}
use mathlib.Core.Logic.{◌⊎◌, inl, inr}
use mathlib.Core.List.{List, [], ◌∷◌, ◌++◌, append_assoc}
use mathlib.Core.Bool.{Bool, true, false}
use Prim.Native.Nat.{ℕ, zero, suc, ◌≤◌, ◌<◌}
use native.Mathlib.Omega.{arith}
use lib.ListN.{length, take, drop, length-append, length-drop, take-append-drop}
use lib.Seq.{take-append-le, drop-append-le, take-append_seam, drop-append_seam}
use borrow.Author.Tests.{ltb-true, lt-ltb, le-leb, lt-leb}
use Rattle.octets.specs.Basics.{All}
use Rattle.octets.proofs.Choices.{apart, split}
use Rattle.packets.specs.Packet.{Look, more, damaged, whole, look, WellFormed, is_idle, end_to_end}
use Rattle.packets.proofs.Grown.{look_bounds, look-append, look_prefix, look-take}
use Rattle.extractor.specs.Extract.{astray, in_step, Event, torn, as_event, event_of, marked, any_torn, Walked, after, ends, walk_look, walk_turns}
use Rattle.extractor.specs.Records.{unfinished}
use Rattle.extractor.proofs.Places.{Begun}

-- ---- a turn of the walk

-- octets that begin a packet and do not end it are left
pub walk_begun : (n limit : ℕ) (os : List ℕ) → Begun limit os → walk_turns n limit os ≡ ends [] (in_step os)
unfolding walk_turns walk_look unfinished
walk_begun zero limit os begun = refl
walk_begun (suc n) limit os begun = go (look limit os) begun
  where
    go : (r : Look) → unfinished (length os) r ≡ true → walk_look (λ rest. walk_turns n limit rest) os r ≡ ends [] (in_step os)
    go more e = refl
    go (damaged d) e = apart (cc)
    go (whole l) e = rw (lt-leb l (length os) (ltb-true (length os) l e))

pub walk_torn : (n limit : ℕ) (os : List ℕ) {d : ℕ} → look limit os ≡ damaged d → walk_turns (suc n) limit os ≡ ends (torn d ∷ []) astray
unfolding walk_turns walk_look
walk_torn n limit os e = rw e

pub walk_packet : (n limit : ℕ) (os : List ℕ) (l : ℕ) → look limit os ≡ whole l → l ≤ length os
    → walk_turns (suc n) limit os ≡ after (event_of (take l os)) (walk_turns n limit (drop l os))
unfolding walk_turns walk_look
walk_packet n limit os l e fits = rw (e, le-leb l (length os) fits)

-- ---- lists

-- of two ways to cut a list, the shorter beginning begins the longer
pub cut_inside : (p q xs ys : List ℕ) → xs ++ ys ≡ p ++ q → length p ≤ length xs
    → (xs ≡ p ++ drop (length p) xs) × (drop (length p) xs ++ ys ≡ q)
cut_inside p q xs ys e h =
    let front : take (length p) xs ≡ p = sym (take-append-le (length p) xs ys h) ∙ ap (take (length p)) e ∙ take-append_seam p q in (
      sym (take-append-drop (length p) xs) ∙ ap (λ (r : List ℕ). r ++ drop (length p) xs) front,
      sym (drop-append-le (length p) xs ys h) ∙ ap (drop (length p)) e ∙ drop-append_seam p q,
    )

pub nil-of-length : (xs : List ℕ) → length xs ≤ 0 → xs ≡ []
nil-of-length [] h = refl
nil-of-length (x ∷ xs) h = absurd (omega arith)

-- ---- events

pub event_whole : (mark : Bool) (p : List ℕ) (es : List Event) → any_torn (as_event mark p ∷ es) ≡ any_torn es
event_whole true p es = refl
event_whole false p es = refl

pub any_torn_marked : (ps : List (List ℕ)) → any_torn (marked ps) ≡ false
any_torn_marked [] = refl
any_torn_marked (p ∷ ps) = event_whole (is_idle p) p (marked ps) ∙ any_torn_marked ps

-- ---- octets that packets are laid in

-- `held` is a part, and not the whole, of the first of the packets; it is empty where there are none
abbrev pub BeginsFirst : List ℕ → List (List ℕ) → Type 0
BeginsFirst held [] = held ≡ []
BeginsFirst held (p ∷ ps) = (t : List ℕ) × (p ≡ held ++ t) × (length held < length p)

begun_seen : (n l : ℕ) (seen : Look) → (seen ≡ more) ⊎ (seen ≡ whole l) → n < l → unfinished n seen ≡ true
unfolding unfinished
begun_seen n l seen (inl e) h = rw e refl
begun_seen n l seen (inr e) h = rw e (lt-ltb n l h)

pub begun-nil : (limit : ℕ) → Begun limit []
unfolding look unfinished
begun-nil limit = refl

-- a part of a well-formed packet is begun
part_begun : (limit : ℕ) (p held t : List ℕ) → 1 ≤ limit → WellFormed limit p → p ≡ held ++ t → length held < length p → Begun limit held
part_begun limit p held t h wf e k =
    begun_seen (length held) (length p) (look limit held) (look_prefix limit held t h (rw (← e) wf)) k

-- what is begun is no packet, nor more than one
not_begun : (limit : ℕ) (p t : List ℕ) → 1 ≤ limit → WellFormed limit p → Begun limit (p ++ t) → ⊥
unfolding unfinished
not_begun limit p t h wf o =
    omega (arith, ltb-true (length (p ++ t)) (length p) (rw (look-append limit p t h wf) at o), length-append p t)

-- what is begun and begins the octets of packets begins the first of them
pub begun_first : (limit : ℕ) (held ys : List ℕ) (ps : List (List ℕ)) → 1 ≤ limit → All (WellFormed limit) ps
    → held ++ ys ≡ end_to_end ps → Begun limit held → BeginsFirst held ps
begun_first limit [] ys [] h wf e o = refl
begun_first limit (x ∷ held) ys [] h wf e o = cc
begun_first limit held ys (p ∷ ps) h wf e o = split (length p) (length held) beyond inside
  where
    beyond : length p ≤ length held → (t : List ℕ) × (p ≡ held ++ t) × (length held < length p)
    beyond k = absurd (not_begun limit p (drop (length p) held) h wf.0 (rw (cut_inside p (end_to_end ps) held ys e k).0 at o))

    inside : length held < length p → (t : List ℕ) × (p ≡ held ++ t) × (length held < length p)
    inside k = (drop (length held) p, (cut_inside held ys p (end_to_end ps) (sym e) (omega arith)).0, k)

-- The walk of `xs`, with which the octets of `ps` begin: of `ps` it gives the packets `done`, and it leaves `held`, which begins the `rest`.
pub record Cut (limit : ℕ) (xs : List ℕ) (ps : List (List ℕ)) (w : Walked) : Type 0 where
  pub done : List (List ℕ)
  pub rest : List (List ℕ)
  pub held : List ℕ
  pub packets : ps ≡ done ++ rest
  pub octets : xs ≡ end_to_end done ++ held
  pub formed_done : All (WellFormed limit) done
  pub formed_rest : All (WellFormed limit) rest
  pub begun : BeginsFirst held rest
  pub gives : w ≡ ends (marked done) (in_step held)

cut_none : (n limit : ℕ) (ps : List (List ℕ)) (xs : List ℕ) → All (WellFormed limit) ps → BeginsFirst xs ps → Begun limit xs
    → Cut limit xs ps (walk_turns n limit xs)
cut_none n limit ps xs wf b o = record {
  done = [];
  rest = ps;
  held = xs;
  packets = refl;
  octets = refl;
  formed_done = tt;
  formed_rest = wf;
  begun = b;
  gives = walk_begun n limit xs o;
}

-- the octets end inside the first packet
cut_inside_first : (n limit : ℕ) (p : List ℕ) (ps : List (List ℕ)) (xs ys : List ℕ) → 1 ≤ limit → All (WellFormed limit) (p ∷ ps)
    → xs ++ ys ≡ p ++ end_to_end ps → length xs < length p → Cut limit xs (p ∷ ps) (walk_turns n limit xs)
cut_inside_first n limit p ps xs ys h wf e k =
    let e' : p ≡ xs ++ drop (length xs) p = (cut_inside xs ys p (end_to_end ps) (sym e) (omega arith)).0 in
    cut_none n limit (p ∷ ps) xs wf (drop (length xs) p, e', k) (part_begun limit p xs (drop (length xs) p) h wf.0 e' k)

-- the octets go past the first packet
cut_packet : (n limit : ℕ) (p : List ℕ) (ps : List (List ℕ)) (xs : List ℕ) → 1 ≤ limit → WellFormed limit p → xs ≡ p ++ drop (length p) xs
    → Cut limit (drop (length p) xs) ps (walk_turns n limit (drop (length p) xs)) → Cut limit xs (p ∷ ps) (walk_turns (suc n) limit xs)
cut_packet n limit p ps xs h wf e c = record {
  done = p ∷ c.done;
  rest = c.rest;
  held = c.held;
  packets = ap (λ qs. p ∷ qs) c.packets;
  octets = e ∙ ap (λ r. p ++ r) c.octets ∙ sym (append_assoc p (end_to_end c.done) c.held);
  formed_done = (wf, c.formed_done);
  formed_rest = c.formed_rest;
  begun = c.begun;
  gives =
      walk_packet n limit xs (length p) said (omega (arith, simp length-append at (ap length e)))
      ∙ ap₂ (λ q w. after (event_of q) w) first_taken c.gives;
}
  where
    said : look limit xs ≡ whole (length p)
    said = ap (look limit) e ∙ look-append limit p (drop (length p) xs) h wf

    first_taken : take (length p) xs ≡ p
    first_taken = ap (take (length p)) e ∙ take-append_seam p (drop (length p) xs)

-- Complete: a walk of octets with which well-formed packets begin, on any fuel that is enough.
pub walk_cut : (n limit : ℕ) (ps : List (List ℕ)) (xs ys : List ℕ) → 1 ≤ limit → All (WellFormed limit) ps
    → xs ++ ys ≡ end_to_end ps → length xs ≤ n → Cut limit xs ps (walk_turns n limit xs)
walk_cut n limit [] xs ys h wf e k =
    let nil : xs ≡ [] = nil-of-length xs (omega (arith, simp length-append at (ap length e))) in
    cut_none n limit [] xs tt nil (rw nil (begun-nil limit))
walk_cut zero limit (p ∷ ps) xs ys h wf e k =
    let i : length xs < length p = omega (arith, look_bounds limit p h wf.0) in
    cut_inside_first zero limit p ps xs ys h wf e i
walk_cut (suc n) limit (p ∷ ps) xs ys h wf e k =
    split (length p) (length xs)
    (λ b. cut_packet n limit p ps xs h wf.0 (cut_inside p (end_to_end ps) xs ys e b).0
    (walk_cut n limit ps (drop (length p) xs) ys h wf.1 (cut_inside p (end_to_end ps) xs ys e b).1
    (omega (arith, look_bounds limit p h wf.0, length-drop (length p) xs))))
    (cut_inside_first (suc n) limit p ps xs ys h wf e)

-- What a walk that tears nothing gives and leaves: well-formed packets, and octets that are begun.
pub record Clean (limit : ℕ) (xs : List ℕ) (w : Walked) : Type 0 where
  pub done : List (List ℕ)
  pub held : List ℕ
  pub octets : xs ≡ end_to_end done ++ held
  pub formed : All (WellFormed limit) done
  pub left_begun : Begun limit held
  pub gives : w ≡ ends (marked done) (in_step held)

clean_begun : (n limit : ℕ) (xs : List ℕ) → Begun limit xs → Clean limit xs (walk_turns n limit xs)
clean_begun n limit xs o = record { done = []; held = xs; octets = refl; formed = tt; left_begun = o; gives = walk_begun n limit xs o }

clean_packet : (n limit l : ℕ) (xs : List ℕ) → 1 ≤ limit → look limit xs ≡ whole l → l ≤ length xs
    → Clean limit (drop l xs) (walk_turns n limit (drop l xs)) → Clean limit xs (walk_turns (suc n) limit xs)
clean_packet n limit l xs h e k c = record {
  done = take l xs ∷ c.done;
  held = c.held;
  octets = sym (take-append-drop l xs) ∙ ap (λ r. take l xs ++ r) c.octets ∙ sym (append_assoc (take l xs) (end_to_end c.done) c.held);
  formed = (look-take limit l xs h e k, c.formed);
  left_begun = c.left_begun;
  gives = walk_packet n limit xs l e k ∙ ap (after (event_of (take l xs))) c.gives;
}

-- a turn of the walk, by what `look` says, where the turns after it are known to be clean
clean_turn : (n limit : ℕ) (xs : List ℕ) → 1 ≤ limit → length xs ≤ suc n
    → ((ys : List ℕ) → length ys ≤ n → any_torn (walk_turns n limit ys).events ≡ false → Clean limit ys (walk_turns n limit ys))
    → any_torn (walk_turns (suc n) limit xs).events ≡ false → (seen : Look) → look limit xs ≡ seen
    → Clean limit xs (walk_turns (suc n) limit xs)
unfolding unfinished
clean_turn n limit xs h k again t more e = clean_begun (suc n) limit xs (rw e refl)
clean_turn n limit xs h k again t (damaged d) e =
    let torn-here : true ≡ false = sym (ap (λ w. any_torn w.events) (walk_torn n limit xs e)) ∙ t in
    apart (cc)
clean_turn n limit xs h k again t (whole l) e =
    split l (length xs)
    (λ b. clean_packet n limit l xs h e b (again (drop l xs) (omega (arith, look_bounds limit xs h e, length-drop l xs)) (untorn b)))
    (λ b. clean_begun (suc n) limit xs (rw e (lt-ltb (length xs) l b)))
  where
    untorn : l ≤ length xs → any_torn (walk_turns n limit (drop l xs)).events ≡ false
    untorn b =
        sym (event_whole (is_idle (take l xs)) (take l xs) (walk_turns n limit (drop l xs)).events)
        ∙ sym (ap (λ w. any_torn w.events) (walk_packet n limit xs l e b))
        ∙ t

-- Sound: a walk that tears nothing is clean, on any fuel that is enough.
pub walk_clean : (n limit : ℕ) (xs : List ℕ) → 1 ≤ limit → length xs ≤ n → any_torn (walk_turns n limit xs).events ≡ false
    → Clean limit xs (walk_turns n limit xs)
walk_clean zero limit xs h k t = clean_begun zero limit xs (rw (nil-of-length xs k) (begun-nil limit))
walk_clean (suc n) limit xs h k t = clean_turn n limit xs h k (λ ys. walk_clean n limit ys h) t (look limit xs) refl
