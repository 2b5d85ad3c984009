-- The tag and the length in front of a body.
use Rattle.std.specs.Prelude.{Bool, List, [], ◌∷◌, ℕ, eqb, length, if◌then◌else◌}
use Rattle.wire.specs.Reading.{value, refused, ◌>>=◌}
use Rattle.clock.specs.Fault.{Answered, plain}

-- "62 length byte missing or not the number of bytes after it"
abbrev pub lengthed : List ℕ → Answered (List ℕ)
lengthed [] = refused (plain 62)
lengthed (n ∷ body) = if eqb n (length body) then value body else refused (plain 62)

-- "A reading takes a descriptor's bytes from its tag on. 61 no byte, or tag differs"
unfoldable pub framed : List ℕ → ℕ → Answered (List ℕ)
framed [] tag = refused (plain 61)
framed (t ∷ rest) tag = if eqb t tag then lengthed rest else refused (plain 61)

-- "or body doesn't fit the layout exactly"
abbrev pub fit : Bool → List ℕ → Answered (List ℕ)
fit fits body = if fits then value body else refused (plain 62)

-- a body of n bytes
unfoldable pub fixed : List ℕ → ℕ → ℕ → Answered (List ℕ)
fixed s tag n = framed s tag >>= λ body. fit (eqb (length body) n) body
