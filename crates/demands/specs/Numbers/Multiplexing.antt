-- The multiplexer's refusals, and the frames that it writes octet by octet.
use Rattle.std.specs.Prelude.{ℕ, ◌≡◌, List, [], ◌∷◌, ◌++◌, map, Bool, true, false, replicate}
use Rattle.frames.specs.declared.Settings.{Settings}
use Rattle.multiplexer.specs.Multiplex.{begun}
use Rattle.multiplexer.specs.Calls.{Call, to_put, to_flush, to_idle, Answer, answer}
use Rattle.multiplexer.specs.declared.Mux.{Mux}
use Rattle.demands.specs.Numbers.Samples.{small, broken, least, lent, ten, seven}

abbrev pub mux : ℕ → ℕ → ℕ → ℕ → Mux
mux count filled first taken = record { count = count; filled = filled; first = first; taken = taken }

-- a call's refusal
abbrev pub refuses : Settings → Mux → Call → List ℕ → ℕ
refuses s m c frame = (answer s m c frame).refusal

-- during a packet of which seven octets are taken; and a record that no call leads to, during a packet too
abbrev pub during : Mux
during = mux 0 0 2047 7

abbrev pub wrong : Mux
wrong = mux 16777216 0 2047 7

pub record Refusals : Type 0 where
  pub begins : begun ≡ mux 0 0 2047 0
  -- each number alone: 1, 2, 10, 9, 8 and none; 8 also past M; the 9 of an idle zone is given during a packet and in a begun zone
  pub put : refuses broken begun (to_put seven) (lent 18)
      ∷ refuses small begun (to_put seven) (lent 17)
      ∷ refuses small (mux 16777216 0 2047 0) (to_put seven) (lent 18)
      ∷ refuses small during (to_put seven) (lent 18)
      ∷ refuses small begun (to_put (0x20 ∷ [])) (lent 18)
      ∷ refuses small begun (to_put (0xE5 ∷ 13 ∷ lent 11)) (lent 18)
      ∷ refuses small begun (to_put (0xE5 ∷ 12 ∷ lent 10)) (lent 18)
      ∷ refuses small during (to_put ten) (lent 18)
      ∷ []
      ≡ 1 ∷ 2 ∷ 10 ∷ 9 ∷ 8 ∷ 8 ∷ 0 ∷ 0 ∷ []
  pub flush : refuses broken begun to_flush (lent 18)
      ∷ refuses small begun to_flush (lent 17)
      ∷ refuses small (mux 16777216 0 2047 0) to_flush (lent 18)
      ∷ refuses small during to_flush (lent 18)
      ∷ refuses small (mux 0 7 0 0) to_flush (lent 18)
      ∷ []
      ≡ 1 ∷ 2 ∷ 10 ∷ 9 ∷ 0 ∷ []
  pub idle : refuses broken begun to_idle (lent 18)
      ∷ refuses small begun to_idle (lent 17)
      ∷ refuses small (mux 16777216 0 2047 0) to_idle (lent 18)
      ∷ refuses small during to_idle (lent 18)
      ∷ refuses small (mux 0 1 0 0) to_idle (lent 18)
      ∷ refuses small begun to_idle (lent 18)
      ∷ []
      ≡ 1 ∷ 2 ∷ 10 ∷ 9 ∷ 9 ∷ 0 ∷ []
  -- a packet is begun as soon as one octet of it is taken
  pub just_begun : map (λ c. refuses small (mux 0 0 2047 1) c (lent 18)) (to_put (0xE0 ∷ []) ∷ to_flush ∷ to_idle ∷ []) ≡ 9 ∷ 9 ∷ 9 ∷ []
  -- the order: all that is wrong at once, and then one thing after another put right
  pub put_order : refuses broken wrong (to_put []) []
      ∷ refuses small wrong (to_put []) []
      ∷ refuses small wrong (to_put []) (lent 18)
      ∷ refuses small during (to_put []) (lent 18)
      ∷ refuses small begun (to_put []) (lent 18)
      ∷ []
      ≡ 1 ∷ 2 ∷ 10 ∷ 9 ∷ 8 ∷ []
  pub flush_order : refuses broken wrong to_flush [] ∷ refuses small wrong to_flush [] ∷ refuses small wrong to_flush (lent 18) ∷ [] ≡ 1 ∷ 2 ∷ 10 ∷ []
  pub idle_order : refuses broken wrong to_idle [] ∷ refuses small wrong to_idle [] ∷ refuses small wrong to_idle (lent 18) ∷ [] ≡ 1 ∷ 2 ∷ 10 ∷ []
  -- the records that calls lead to, at their edges
  pub reached : map (λ m. refuses small m (to_put (0xE5 ∷ 12 ∷ lent 10)) (lent 18))
      (mux 16777215 9 8 0 ∷ mux 0 9 2047 0 ∷ mux 0 0 2047 11 ∷ [])
      ≡ 0 ∷ 0 ∷ 0 ∷ []
  pub not_reached : map (λ m. refuses small m (to_put seven) (lent 18))
      (mux 0 10 0 0 ∷ mux 0 5 5 0 ∷ mux 0 5 2046 0 ∷ mux 0 0 2047 12 ∷ mux 0 1 2047 1 ∷ mux 0 0 0 1 ∷ [])
      ≡ 10 ∷ 10 ∷ 10 ∷ 10 ∷ 10 ∷ 10 ∷ []

-- an accepted call
abbrev pub done : Bool → Bool → Mux → List ℕ → Answer
done full taken m frame = record { accepted = true; refusal = 0; damage = 0; full = full; taken = taken; mux = m; frame = frame }

-- twenty octets are lent, two more than a frame has
abbrev pub calls : Mux → Call → Answer
calls m c = answer small m c (lent 20)

pub record Frames : Type 0 where
  -- a packet that does not fill the zone: nothing else is written
  pub begun_zone : calls begun (to_put seven) ≡ done false true (mux 0 7 0 0) (lent 8 ++ (seven ++ lent 5))
  -- one that fills it: the header is written, and the count goes on
  pub full_zone : calls begun (to_put ten)
      ≡ done true true (mux 1 0 2047 0) (0x50 ∷ 0x83 ∷ 0 ∷ 0 ∷ 0 ∷ 0 ∷ 0 ∷ 0 ∷ (ten ++ lent 2))
  -- one that is cut; its rest, which starts nothing; and the pointer of the next, and of a zone in which none starts
  pub cut : calls (mux 0x010203 7 4 0) (to_put ten)
      ≡ done true false (mux 0x010204 0 2047 3)
      (0x50 ∷ 0x83 ∷ 1 ∷ 2 ∷ 3 ∷ 0 ∷ 0 ∷ 4 ∷ (lent 7 ++ (0x00 ∷ 0x05 ∷ 0xC0 ∷ lent 2)))
  pub rest : calls (mux 4 0 2047 3) (to_put ten)
      ≡ done false true (mux 4 7 2047 0) (lent 8 ++ (0x00 ∷ 0x00 ∷ 0x03 ∷ 0xA1 ∷ 0xA2 ∷ 0xA3 ∷ 0xA4 ∷ lent 5))
  pub next_start : calls (mux 4 7 2047 0) (to_put seven)
      ≡ done true false (mux 5 0 2047 3) (0x50 ∷ 0x83 ∷ 0 ∷ 0 ∷ 4 ∷ 0 ∷ 0 ∷ 7 ∷ (lent 7 ++ (0x00 ∷ 0x05 ∷ 0xC0 ∷ lent 2)))
  pub no_start : answer least (mux 4 0 2047 3) (to_put seven) (lent 9)
      ≡ done true false (mux 5 0 2047 4) (0x50 ∷ 0x83 ∷ 0 ∷ 0 ∷ 4 ∷ 0 ∷ 0x07 ∷ 0xFF ∷ 0x00 ∷ [])
  -- a flush of an empty zone writes nothing; else one idle packet, and the greatest count is followed by 0
  pub empty_flush : calls begun to_flush ≡ done false false begun (lent 20)
  pub three_left : calls (mux 16777215 7 0 0) to_flush
      ≡ done true true (mux 0 0 2047 0) (0x50 ∷ 0x83 ∷ 0xFF ∷ 0xFF ∷ 0xFF ∷ 0 ∷ 0 ∷ 0 ∷ (lent 7 ++ (0xE1 ∷ 3 ∷ 0x55 ∷ lent 2)))
  pub one_left : calls (mux 0 9 2047 0) to_flush
      ≡ done true true (mux 1 0 2047 0) (0x50 ∷ 0x83 ∷ 0 ∷ 0 ∷ 0 ∷ 0 ∷ 0 ∷ 9 ∷ (lent 9 ++ (0xE0 ∷ lent 2)))
  -- an idle zone: pointer 2,046, and the fill octet throughout
  pub idle_zone : calls (mux 16777215 0 2047 0) to_idle
      ≡ done true false (mux 0 0 2047 0) (0x50 ∷ 0x83 ∷ 0xFF ∷ 0xFF ∷ 0xFF ∷ 0 ∷ 0x07 ∷ 0xFE ∷ (replicate 10 0x55 ++ lent 2))
