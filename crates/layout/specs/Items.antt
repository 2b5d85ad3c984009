-- Lists: a body of items of k bytes.
use Rattle.std.specs.Prelude.{List, ℕ, ◌+◌, ◌*◌, ◌/◌, ◌%◌, eqb, ltb, length, take, drop, if◌then◌else◌}
use Rattle.wire.specs.Reading.{value, refused, ◌>>=◌}
use Rattle.clock.specs.Fault.{Answered, plain}
use Rattle.layout.specs.Body.{framed, fit}

-- 62, "body doesn't fit the layout exactly": its size is no multiple of k
unfoldable pub items : List ℕ → ℕ → ℕ → Answered (List ℕ)
items s tag k = framed s tag >>= λ body. fit (eqb (length body % k) 0) body

-- how many items there are
unfoldable pub count : List ℕ → ℕ → ℕ → Answered ℕ
count s tag k = items s tag k >>= λ body. value (length body / k)

-- "66 index past the end": where the item of an index counted from 0 starts, counted from the tag as 0
unfoldable pub place : List ℕ → ℕ → ℕ → ℕ → Answered ℕ
place s tag k index =
    items s tag k >>= λ body. if ltb index (length body / k) then value (2 + k * index) else refused (plain 66)

-- the bytes of that item
unfoldable pub item : List ℕ → ℕ → ℕ → ℕ → Answered (List ℕ)
item s tag k index = place s tag k index >>= λ at. value (take k (drop at s))
