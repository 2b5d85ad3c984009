-- Bytes laid in a room, and the copies that lay them.
use Rattle.std.proofs.Common.{◌≡◌, ℕ, ◌+◌, ◌≤◌, List, ◌++◌, length, take, drop, sym, ap, ◌∙◌, append_assoc, arith, length-take-le, take_all}
use lib.Seq.{paste}
use Rattle.copy.specs.Copy.{copied}
use Rattle.copy.specs.Laid.{laid}
use Rattle.copy.proofs.Copies.{copied_yes}

-- the first bytes of a run
pub laid_part : (room : List ℕ) (at : ℕ) (l : List ℕ) (j : ℕ) → j ≤ length l → laid room at (take j l) ≡ paste room at l j
laid_part room at l j w =
    ap (λ (m : ℕ). take at room ++ (take j l ++ drop (at + m) room)) (length-take-le j l w)
    ∙ sym (append_assoc (take at room) (take j l) (drop (at + j) room))

-- all of it
pub copied_all : (part room : List ℕ) (at n : ℕ) → length part ≡ n → at + length part ≤ length room
    → copied part 0 n room at ≡ laid room at part
copied_all part room at n e w =
    copied_yes part 0 n room at (omega arith) (omega arith)
    ∙ sym (laid_part room at part n (omega arith))
    ∙ ap (laid room at) (take_all n part (omega arith))
