-- The promises of `words`.
-- Assumes nothing.
use Rattle.demands.specs.calls.Words.{OfWords}
use Rattle.demands.proofs.Promised.{exactly}

pub of_words : OfWords
of_words = record { field = λ word at. exactly; placed = λ word at value. exactly }
