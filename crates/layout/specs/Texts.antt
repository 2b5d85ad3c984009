-- Two texts, each after the byte that gives its length.
use Rattle.std.specs.Prelude.{◌≡◌, List, ◌∷◌, ◌++◌, ℕ, ◌+◌, eqb, length, get_or, take, drop, if◌then◌else◌}
use Rattle.wire.specs.Reading.{value, refused}
use Rattle.clock.specs.Fault.{Answered, plain}
use Rattle.layout.specs.Refusal.{part_at, bytes_of}
use Rattle.layout.specs.declared.texts.TwoTexts.{TwoTexts}

-- a body of h bytes, then a length a and a bytes of text, then a length n and n bytes of text, and nothing after
unfoldable pub two_texts : List ℕ → ℕ → Answered TwoTexts
two_texts body h =
    let a = get_or body h 0 in
    let n = get_or body (h + 1 + a) 0 in
    if eqb (length body) (h + 2 + a + n) then value (record { first = part_at (h + 1) a; second = part_at (h + 2 + a) n })
    else refused (plain 62)

-- the bytes of s behind the first two are h bytes, and then each text of t after its length, and nothing else
abbrev pub Filled : ℕ → List ℕ → TwoTexts → Type 0
Filled h s t =
    drop 2 s
    ≡ take h (drop 2 s) ++ (t.first.length ∷ (bytes_of s t.first ++ (t.second.length ∷ bytes_of s t.second)))
