-- The sections that stand in a room end to end are handed out, all of them and in order.
use Prim.Native.Nat.{ℕ, ◌+◌}
use mathlib.Core.Path.{◌≡◌, refl, ap, ◌∙◌, sym}
use mathlib.Core.List.{List, [], ◌∷◌, ◌++◌, flatten}
use native.Mathlib.Omega.{arith}
use lib.ListN.{length, length-append}
use Rattle.std.specs.Prelude.{Some, None}
use Rattle.wire.specs.Bytes.{len12_at}
use Rattle.parts.specs.Parts.{behind, Is}
use Rattle.parts.specs.Room.{one_section, next_section, Whole, AllWhole, HandsSections}
use Rattle.parts.specs.Room as room
use Rattle.parts.specs.declared.Part.{Part}
use Rattle.parts.proofs.Fronts.{is_in, section_in, section_whole, section_short}
use Rattle.parts.proofs.Handed.{is_front, is_behind, is_inside, length_of}

module _ {s : List ℕ} where
  first_section : {r : Part} (x y : List ℕ) → Whole x → Is s r (x ++ y) → next_section s r ≡ Some (one_section (length x) r)
  first_section {r} x y w h =
      let n : len12_at x 1 ≡ len12_at s (r.start + 1) = sym (length_of x (is_front x y h) 1 (omega (arith, w.header))) in
      section_in s r (sym (is_in s r (is_inside (x ++ y) h))) refl
      ∙ section_whole s r (len12_at x 1) n (omega (arith, h.sized, w.size, length-append x y))
      ∙ ap (λ k. Some (one_section k r)) (sym w.size)

  no_more : {r : Part} → Is s r [] → next_section s r ≡ None
  no_more {r} h = section_in s r (sym (is_in s r (is_inside [] h))) refl ∙ section_short s r (omega (arith, h.sized))

  -- whole sections, put end to end, are cut as they were
  pub sections_handed : (r : Part) (ls : List (List ℕ)) → AllWhole ls → Is s r (flatten ls) → HandsSections s r ls
  unfolding flatten
  sections_handed r [] w h = room.HandsSections.none (no_more h) (sym h.sized)
  sections_handed r (l ∷ ls) (room.AllWhole.more w ws) h =
      room.HandsSections.one (one_section (length l) r) l (first_section l (flatten ls) w h) (is_front l (flatten ls) h)
      (sections_handed (behind (length l) r) ls ws (is_behind l (flatten ls) h))
