use Rattle.std.proofs.Common.{◌≡◌, refl, sym, ap, ◌∙◌, ℕ, ◌+◌, List, length, true, Result}
use borrow.Author.Tests.{le-leb, lt-leb, le-ltb, lt-ltb}
use Rattle.octets.specs.Basics.{first, fits, laid, octets, Lays}
use Rattle.octets.specs.Refusals.{refusal_of}
use Rattle.octets.specs.declared.refusals.Refusal.{Refusal}
use Rattle.octets.proofs.Choices.{split}
use Rattle.octets.proofs.Written.{length-octets, laid_within, laid_past}
use Rattle.space.specs.declared.SpaceHeader.{SpaceHeader}
use Rattle.space.specs.Space.{space_word, space_in_range, space_rows, space_writing, space_writes}
use Rattle.space.proofs.write_space.Goals as goal

pub returns-then-not-in_range : goal.returns-then-not-in_range
unfolding space_writes space_writing space_rows first
returns-then-not-in_range c = rw (← c.in_range.ensures, c.if-not-in_range.true) refl

-- what is left to the call that writes: whether there is room
wrote : (h : SpaceHeader) (out left : List ℕ) (word : ℕ) (answer : Result (Unit {0}) Refusal) → space_in_range h ≡ true → word ≡ space_word h
    → Lays (fits out 0 6) (laid out 0 (octets 6 word)) (refusal_of answer) left → space_writes answer left ≡ space_writing h out
unfolding space_writes space_writing space_rows first
wrote h out left word answer r e w =
    split (0 + 6) (length out)
    (λ room. rw (r, w.answer, w.left, le-leb _ _ room, le-ltb _ _ room, ← e)
    (ap (λ (os : List ℕ). record { refusal = 0; output = os }) (laid_within out 0 (octets 6 word) (rw length-octets room))))
    (λ past. rw (r, w.answer, w.left, lt-leb _ _ past, lt-ltb _ _ past)
    (ap (λ (os : List ℕ). record { refusal = 2; output = os }) (laid_past out 0 (octets 6 word) (rw length-octets past))))

pub returns : goal.returns
returns c =
    wrote c.args.h c.args.out.now c.put.new.buf c.word_of.result c.put.result (sym c.in_range.ensures ∙ c.if-not-in_range.false) c.word_of.ensures c.put.ensures
