-- Octets and numbers by examples: the most significant octet first, and nothing written or read past an end.
use Rattle.std.specs.Prelude.{◌≡◌, [], ◌∷◌, map, true, false}
use Rattle.octets.specs.Basics.{octets, number_at, part_of, fits, laid, part_fits, laid_part}
use Rattle.words.specs.Fields.{field, placed}
use Rattle.arrays.specs.Arrays.{told, kept, handed_on, bit, octet_of, count_of}
use Rattle.demands.specs.Numbers.Samples.{lent}

pub record Octets : Type 0 where
  pub read : map (λ at. number_at 2 at (1 ∷ 2 ∷ 3 ∷ [])) (0 ∷ 1 ∷ 2 ∷ []) ≡ 0x0102 ∷ 0x0203 ∷ 0 ∷ []
  pub longer : map (λ n. number_at n 1 (1 ∷ 2 ∷ 3 ∷ 4 ∷ 5 ∷ 6 ∷ 7 ∷ [])) (3 ∷ 4 ∷ 6 ∷ 7 ∷ []) ≡ 0x020304 ∷ 0x02030405 ∷ 0x020304050607 ∷ 0 ∷ []
  pub written : octets 3 0x010203 ∷ octets 2 0x010203 ∷ [] ≡ (1 ∷ 2 ∷ 3 ∷ []) ∷ (2 ∷ 3 ∷ []) ∷ []
  pub fields : field 0xABCD 4 8 ∷ placed 0xABCD 4 8 0x112 ∷ [] ≡ 0xBC ∷ 0xA12D ∷ []
  -- a run that ends with its buffer fits; one that ends behind it is not written
  pub room : map (λ at. fits (lent 4) at 2) (0 ∷ 2 ∷ 3 ∷ []) ≡ true ∷ true ∷ false ∷ []
  pub over : map (λ at. laid (lent 4) at (1 ∷ 2 ∷ [])) (0 ∷ 2 ∷ 3 ∷ []) ≡ (1 ∷ 2 ∷ 0xFF ∷ 0xFF ∷ []) ∷ (0xFF ∷ 0xFF ∷ 1 ∷ 2 ∷ []) ∷ lent 4 ∷ []
  -- a part is there from its start up to its end, and both lie within their octets
  pub part : part_fits (lent 4) 2 1 3 (7 ∷ 8 ∷ 9 ∷ [])
      ∷ part_fits (lent 4) 3 1 3 (7 ∷ 8 ∷ 9 ∷ [])
      ∷ part_fits (lent 4) 2 1 4 (7 ∷ 8 ∷ 9 ∷ [])
      ∷ part_fits (lent 4) 2 3 1 (7 ∷ 8 ∷ 9 ∷ [])
      ∷ []
      ≡ true ∷ false ∷ false ∷ false ∷ []
  pub part_over : laid_part (lent 4) 2 1 3 (7 ∷ 8 ∷ 9 ∷ []) ∷ laid_part (lent 4) 3 1 3 (7 ∷ 8 ∷ 9 ∷ []) ∷ []
      ≡ (0xFF ∷ 0xFF ∷ 8 ∷ 9 ∷ []) ∷ lent 4 ∷ []
  pub handed_back : map (λ start. part_of (7 ∷ 8 ∷ 9 ∷ []) start 2) (0 ∷ 1 ∷ 2 ∷ []) ≡ (7 ∷ 8 ∷ []) ∷ (8 ∷ 9 ∷ []) ∷ [] ∷ []

-- numbers in lent arrays: one that does not fit is the greatest that does; a record stays where the call is refused or it does not fit
pub record Arrays : Type 0 where
  pub flags : map bit (true ∷ false ∷ []) ≡ 1 ∷ 0 ∷ []
  pub octets_of : map octet_of (0 ∷ 254 ∷ 255 ∷ 256 ∷ 510 ∷ []) ≡ 0 ∷ 254 ∷ 255 ∷ 255 ∷ 255 ∷ []
  pub counts_of : map count_of (0 ∷ 4294967294 ∷ 4294967295 ∷ 4294967296 ∷ []) ≡ 0 ∷ 4294967294 ∷ 4294967295 ∷ 4294967295 ∷ []
  pub written : map (told (9 ∷ 9 ∷ [])) ([] ∷ (1 ∷ []) ∷ (1 ∷ 2 ∷ []) ∷ (1 ∷ 2 ∷ 3 ∷ []) ∷ []) ≡ (9 ∷ 9 ∷ []) ∷ (1 ∷ 9 ∷ []) ∷ (1 ∷ 2 ∷ []) ∷ (9 ∷ 9 ∷ []) ∷ []
  pub record_after : map (λ refusal. kept refusal (9 ∷ 9 ∷ 9 ∷ []) (1 ∷ 2 ∷ [])) (0 ∷ 1 ∷ 8 ∷ []) ≡ (1 ∷ 2 ∷ 9 ∷ []) ∷ (9 ∷ 9 ∷ 9 ∷ []) ∷ (9 ∷ 9 ∷ 9 ∷ []) ∷ []
  pub record_short : kept 0 (9 ∷ []) (1 ∷ 2 ∷ []) ≡ 9 ∷ []
  pub answers : map (λ refusal. handed_on refusal (9 ∷ 9 ∷ []) (1 ∷ 2 ∷ [])) (0 ∷ 1 ∷ 8 ∷ []) ≡ 0 ∷ 1 ∷ 8 ∷ []
  pub answers_short : map (λ refusal. handed_on refusal (9 ∷ []) (1 ∷ 2 ∷ [])) (0 ∷ 1 ∷ 8 ∷ []) ≡ 2 ∷ 1 ∷ 8 ∷ []
