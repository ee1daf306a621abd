-- What the public functions of `words` promise.
use Rattle.std.specs.Prelude.{ℕ}
use Rattle.words.specs.Fields.{field, placed}
use Rattle.words.specs.declared.Place.{Place}
use Rattle.words.proofs.field.Reads as field_fn
use Rattle.words.proofs.placed.Reads as placed_fn
use Rattle.demands.specs.Promises.{as_read, Is}

-- fields of a word
pub record OfWords : Type 0 where
  pub field : (word : ℕ) (at : Place)
      → Is (as_read (field_fn.Pre tt (word, (at, tt))) (λ r. field_fn.Post tt (word, (at, tt)) r (word, (at, tt))))
      (field word at.below at.width)
  pub placed : (word : ℕ) (at : Place) (value : ℕ)
      → Is (as_read (placed_fn.Pre tt (word, (at, (value, tt)))) (λ r. placed_fn.Post tt (word, (at, (value, tt))) r (word, (at, (value, tt)))))
      (placed word at.below at.width value)
