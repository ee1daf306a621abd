-- Packets laid end to end.
-- Assumes nothing.
use mathlib.Core.Path.{◌≡◌, refl, sym, ap, ◌∙◌}
use mathlib.Core.List.{List, [], ◌∷◌, ◌++◌, append_assoc}
use Prim.Native.Nat.{ℕ}
use Rattle.packets.specs.Packet.{end_to_end}

pub end-to-end-append : (ps qs : List (List ℕ)) → end_to_end (ps ++ qs) ≡ end_to_end ps ++ end_to_end qs
end-to-end-append [] qs = refl
end-to-end-append (p ∷ ps) qs =
    ap (λ (r : List ℕ). p ++ r) (end-to-end-append ps qs) ∙ sym (append_assoc p (end_to_end ps) (end_to_end qs))
