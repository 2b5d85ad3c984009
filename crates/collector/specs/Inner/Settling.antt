-- What the functions of settling.rt say of their arguments and answers.
use Rattle.std.specs.Prelude.{ℕ, ◌-◌, ◌%◌, min, List, nat_le, if◌then◌else◌}
use Rattle.verdict.specs.Verdict.{is_accepted}
use Rattle.section.specs.Reading.{judged}
use Rattle.copy.specs.Laid.{laid}

-- a room after a whole section, which stands in it from index at on if the judge accepts it
abbrev pub handedOut : List ℕ → ℕ → List ℕ → List ℕ
handedOut room at s = if is_accepted (judged s) then laid room at s else room

-- where the window of 224 bytes begins in a room of this size, for bytes from index n on: at the multiple of 32 before n, or
-- where it ends with the room
abbrev pub window_at : ℕ → ℕ → ℕ
window_at n size = min (n - n % 32) (size - 224)

-- how many of the bytes left are laid where there is this room: all, or just the k that are asked for
abbrev pub laid_of : ℕ → ℕ → ℕ → ℕ
laid_of k left room = if nat_le left room then left else k
