-- Fields of a word.
use Rattle.std.specs.Prelude.{ℕ, ◌+◌, ◌*◌, ◌/◌, ◌%◌, ◌^◌}
use Rattle.words.specs.declared.Place.{Place}

-- the field of `width` bits that has `place` bits below it
unfoldable pub field : ℕ → ℕ → ℕ → ℕ
field word place width = word / 2 ^ place % 2 ^ width

-- a word moved up by `width` bits, with the low bits of another below it
unfoldable pub join : ℕ → ℕ → ℕ → ℕ
join high width low = high * 2 ^ width % 2 ^ 64 + low % 2 ^ width

-- the word with a field of it replaced: the bits above the field, the low bits of a value, and the bits below the field
unfoldable pub placed : ℕ → ℕ → ℕ → ℕ → ℕ
placed word place width value = join (join (word / 2 ^ (place + width)) width value) place word

-- the same by the field's place
abbrev pub read : Place → ℕ → ℕ
read at word = field word at.below at.width

abbrev pub write : Place → ℕ → ℕ → ℕ
write at value word = placed word at.below at.width value
