-- What a writer promises, answer by answer.
use mathlib.Core.Path.{◌≡◌, refl}
use mathlib.Core.List.{List, ◌∷◌}
use Prim.Native.Nat.{ℕ, ◌<◌, ◌≤◌}
use borrow.Author.Tests.{lt-ltb, le-ltb}
use lib.ListN.{length}
use Rattle.wire.specs.Reading.{Reading, value, refused}
use Rattle.forms.specs.Room.{put}
use Rattle.std.specs.Prelude.{Result, Ok, Err, IsErrAnd}
use Rattle.writing.specs.Written.{headed, into, Writes}
use Rattle.writing.specs.declared.Refusal.{Refusal}
use Rattle.writing.specs.declared.Refusal.TheVariants.{Room, Field, Long}

-- a body of at most 255 bytes, and a longer one
pub headed-value : (tag : ℕ) (body : List ℕ) → length body ≤ 255 → headed tag body ≡ value (tag ∷ length body ∷ body)
headed-value tag body h = rw (le-ltb 255 (length body) h)

pub headed_long : (tag : ℕ) (body : List ℕ) → 255 < length body → headed tag body ≡ refused 113
headed_long tag body h = rw (lt-ltb 255 (length body) h)

module _ (d : Reading (List ℕ)) (o : List ℕ) where
  -- "111 room under 257"
  pub room_short : length o < 257 → Writes d o (Err Room) o
  unfolding into
  room_short h = rw (lt-ltb (length o) 257 h) (refl, refl)

  -- the same, handed on
  pub room_refused : {k : Refusal} → (k ≡ Room) × (length o < 257) → (q : Result ℕ Refusal) → IsErrAnd q (λ e. e ≡ k)
      → Writes d o q o
  room_refused h (Err k) e = rw (e, h.0) (room_short h.1)
  room_refused h (Ok n) e = absurd e

  module _ (room : 257 ≤ length o) where
    -- "112 a field outside its layout"
    pub field-outside : d ≡ refused 112 → Writes d o (Err Field) o
    unfolding into
    field-outside e = rw (le-ltb (length o) 257 room, e) (refl, refl)

    -- "113 body over 255 bytes"
    pub body-long : d ≡ refused 113 → Writes d o (Err Long) o
    unfolding into
    body-long e = rw (le-ltb (length o) 257 room, e) (refl, refl)

    -- "Success writes the first n bytes and tells n; later bytes stay."
    pub written : (s o' : List ℕ) → d ≡ value s → o' ≡ put o 0 s → Writes d o (Ok (length s)) o'
    unfolding into
    written s o' e h = rw (le-ltb (length o) 257 room, e) (refl, h)
