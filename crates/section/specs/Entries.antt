-- Entries, one after the other: "An entry's fixed bytes end in its own loop length."
use Rattle.std.specs.Prelude.{ℕ, ◌+◌, ◌-◌, List, [], ◌∷◌, length, take, drop, ltb, if◌then◌else◌}
use Rattle.wire.specs.Bytes.{len12_at}
use Rattle.wire.specs.Trail.{Pace, on, stop, Trail, trail}
use Rattle.verdict.specs.Verdict.{Said, accepted, refused, is_accepted}
use Rattle.loops.specs.Descriptors.{Placed, Rest, rest, descriptors}

-- behind an entry, whose descriptors are d: on to what is left, l from the place p on; or the fault in them
abbrev pub past : ℕ → List ℕ → Trail Placed Said → Pace Rest (List Placed) Said
past p l d = if is_accepted d.ends then on d.items (rest p l) else stop d.ends

-- an entry of fixed bytes and a loop of n. 10: "fewer bytes left than an entry's fixed part .. place of the first of them"; 8: "a loop reaches past
-- its container; place of its length"
abbrev pub whole : ℕ → ℕ → ℕ → List ℕ → Pace Rest (List Placed) Said
whole fixed n p l =
    if ltb (length l) fixed then stop (refused 10 p)
    else if ltb (length l) (fixed + n) then stop (refused 8 (p + (fixed - 2)))
    else past (p + fixed + n) (drop (fixed + n) l) (descriptors (p + fixed) (take n (drop fixed l)))

-- the first entry, whose loop length is the last two of its fixed bytes; the end where no byte is left
abbrev pub first_of : ℕ → ℕ → List ℕ → Pace Rest (List Placed) Said
first_of fixed p [] = stop accepted
first_of fixed p (b ∷ l) = whole fixed (len12_at (b ∷ l) (fixed - 2)) p (b ∷ l)

-- the descriptors of each entry, in reading order, and whether entries and loops fill the bytes to the last; p is the place of the first byte
unfoldable pub entries : ℕ → ℕ → List ℕ → Trail (List Placed) Said
entries fixed p l = trail (λ r. first_of fixed r.place r.bytes) (refused 10 0) (λ r. length r.bytes) (rest p l)
