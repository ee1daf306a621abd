-- `text::Text::append` meets its contract: of the buffer that is copied the text alone counts.
use Rattle.std.proofs.Common.{◌≡◌, ◌+◌, ◌≤◌, ◌++◌, ◌∙◌, List, ℕ, refl, sym, ap, length, take, arith, length-take-le, take-take}
use Rattle.std.proofs.Math.Seq.{take-append-add}
use Rattle.std.proofs.lemmas.Slice.{take-put_mid}
use Rattle.aosread.proofs.text.Text.append.Goals as goal

-- so many octets of those that lie over others from `a` on
front_laid : (a m : ℕ) (xs ys laid : List ℕ) → a ≤ length xs → m ≤ length ys → take (a + length ys) laid ≡ take a xs ++ ys
    → take (a + m) laid ≡ take a xs ++ take m ys
front_laid a m xs ys laid h j e =
    let here : length (take a xs) ≡ a = length-take-le a xs h in
    sym (take-take (a + m) (a + length ys) laid (omega arith)) ∙ ap (take (a + m)) e
    ∙ ap (λ (n : ℕ). take (n + m) (take a xs ++ ys)) (sym here) ∙ take-append-add (take a xs) ys m

pub returns : goal.returns
returns g c =
    let t = c.self.inside in
    let more = c.more.inside in
    let over : List ℕ = c.copy_from_slice.new.self in
    let whole : length over ≡ g.row.M = ap length c.copy_from_slice.ensures.after ∙ c.more.told in
    let room : t.length ≤ length t.octets = omega (arith, c.self.invariant, c.self.told) in
    front_laid t.length more.length t.octets over _ room (omega (arith, whole, c.more.invariant))
    (take-put_mid t.length _ t.octets over (t.length + length over) refl room)
    ∙ ap (λ (l : List ℕ). take t.length t.octets ++ take more.length l) c.copy_from_slice.ensures.after
    ∙ ap (λ (l : List ℕ). l ++ take more.length more.octets) c.self.view_is
    ∙ ap (λ (l : List ℕ). c.args.self.now ++ l) c.more.view_is
