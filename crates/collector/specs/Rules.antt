-- Document 01's rules for the payload of the packets taken, a byte at a time, and the fate that each byte has "as they stand after the packets
-- so far". They rest on the packets alone: no record, no hold, no room. They look at a byte's value and at nothing else, so a byte may be any
-- thing that has a value; a run of calls takes bytes that know their packet, and one call takes bare numbers.
use Rattle.std.specs.Prelude.{ℕ, ◌+◌, Bool, true, false, ltb, List, [], ◌∷◌, ◌++◌, map, length, take, drop, ◌==◌, nat_eq, nat_lt, if◌then◌else◌}
use Rattle.std.proofs.Math.Option.{Option}
use Rattle.wire.specs.Sections.{total_of}
use Rattle.packet.specs.Ruling.{joins, Carried}

-- "one fate ..: pointer, accepted, rejected, broken off, filler, skipped, or in hand": of what kind a byte is once it is done with
pub data Kind : Type 0 where
  pointer : Kind
  accepted : Kind
  rejected : Kind
  broken : Kind
  filler : Kind
  skipped : Kind

-- kind by kind: there is no other
abbrev pub by_kind : (P : Kind → Type 0) → P pointer → P accepted → P rejected → P broken → P filler → P skipped → (k : Kind) → P k
by_kind P p a r b f s pointer = p
by_kind P p a r b f s accepted = a
by_kind P p a r b f s rejected = r
by_kind P p a r b f s broken = b
by_kind P p a r b f s filler = f
by_kind P p a r b f s skipped = s

pub data Fate : Type 0 where
  in-hand : Fate
  done : Kind → Fate

pub record Mark (A : Type 0) : Type 0 where
  pub byte : A
  pub fate : Fate

-- marks: one for each byte of payload so far, in order, which tells its fate, and is not the mark of a splice, which a
-- record has; sections: those that came whole so far, in order, each with its bytes
pub record Story (A : Type 0) : Type 0 where
  pub marks : List (Mark A)
  pub sections : List (List A)

-- ---- what the marks say

abbrev pub kind_number : Kind → ℕ
kind_number pointer = 0
kind_number accepted = 1
kind_number rejected = 2
kind_number broken = 3
kind_number filler = 4
kind_number skipped = 5

abbrev pub sameKind : Kind → Kind → Bool
sameKind j k = kind_number j == kind_number k

abbrev pub same_fate : Fate → Fate → Bool
same_fate in-hand in-hand = true
same_fate in-hand (done k) = false
same_fate (done j) in-hand = false
same_fate (done j) (done k) = sameKind j k

-- a byte's fate, once what was in hand has the fate f
abbrev pub out_of_hand : Fate → Fate → Fate
out_of_hand f in-hand = f
out_of_hand f (done k) = done k

-- each kind, once
abbrev pub kinds : List Kind
kinds = pointer ∷ accepted ∷ rejected ∷ broken ∷ filler ∷ skipped ∷ []

abbrev pub sum_in : (Kind → ℕ) → List Kind → ℕ
sum_in n [] = 0
sum_in n (k ∷ ks) = n k + sum_in n ks

-- a number for each fate, all of them together
abbrev pub sum_of : (Fate → ℕ) → ℕ
sum_of n = sum_in (λ k. n (done k)) kinds + n in-hand

module _ {A : Type 0} where
  -- the bytes of one fate, in order
  abbrev pub bytes_of : Fate → List (Mark A) → List A
  bytes_of f [] = []
  bytes_of f (m ∷ ms) = if same_fate f m.fate then m.byte ∷ bytes_of f ms else bytes_of f ms

  abbrev pub count_of : Fate → List (Mark A) → ℕ
  count_of f ms = length (bytes_of f ms)

  abbrev pub hand_of : Story A → List A
  hand_of s = bytes_of in-hand s.marks

  -- ---- what can happen to a byte

  -- bytes whose fate is f
  abbrev pub marked : Fate → List A → List (Mark A)
  marked f bs = map (λ b. record { byte = b; fate = f }) bs

  -- the next byte has the fate f
  abbrev pub given : Fate → A → Story A → Story A
  given f b s = record { marks = s.marks ++ (record { byte = b; fate = f } ∷ []); sections = s.sections }

  -- what was in hand has the fate f
  abbrev pub settled : Fate → List (Mark A) → List (Mark A)
  settled f ms = map (λ m. record { byte = m.byte; fate = out_of_hand f m.fate }) ms

  -- nothing but what is in hand
  abbrev pub holding : List A → Story A
  holding bs = record { marks = marked in-hand bs; sections = [] }

  -- what is in hand is broken off
  abbrev pub broken_off : Story A → Story A
  broken_off s = record { marks = settled (done broken) s.marks; sections = s.sections }

  -- what is in hand is a whole section, which comes to the kind k
  abbrev pub finished : Kind → Story A → Story A
  finished k s = record { marks = settled (done k) s.marks; sections = s.sections ++ (hand_of s ∷ []) }

-- ---- one byte

-- how the rest of a stretch goes once no section is in it, and the kind that its bytes have
pub data Rest : Type 0 where
  filling : Rest
  skipping : Rest
  breaking : Rest

abbrev pub kind_of : Rest → Kind
kind_of filling = filler
kind_of skipping = skipped
kind_of breaking = broken

-- what the next byte of a stretch is: where a section would begin, one of the section in hand, or one of the stretch's rest
pub data Mode : Type 0 where
  begin : Mode
  inside : Mode
  outside : Rest → Mode

-- a place in a stretch: what the next byte is, and the story up to it
pub record Next (A : Type 0) : Type 0 where
  pub mode : Mode
  pub story : Story A

-- what has come of a section so far: it goes on, it is whole, or it declares too much
pub data Size : Type 0 where
  going : Size
  whole : Size
  too_long : Size

-- "A section_length above 4,093, known at its third byte"
unfoldable pub size_of : List ℕ → Size
size_of s = if nat_lt (length s) 3 then going else (if ltb 4096 (total_of s) then too_long else (if nat_eq (length s) (total_of s) then whole else going))

-- the value of a bare byte is the byte
abbrev pub plain : ℕ → ℕ
plain b = b

module _ {A : Type 0} where
  -- "until 0xFF stands where one would begin (the rest is filler)"
  abbrev pub begun : Bool → A → Story A → Next A
  begun true b s = record { mode = outside filling; story = given (done filler) b s }
  begun false b s = record { mode = inside; story = given in-hand b s }

  -- after is the mode that a section's end leads to, and k what the section comes to. "the section and the rest of its stretch .. are broken off"
  abbrev pub grown : Mode → Kind → Size → Story A → Next A
  grown after k going s = record { mode = inside; story = s }
  grown after k whole s = record { mode = after; story = finished k s }
  grown after k too_long s = record { mode = outside breaking; story = broken_off s }

  -- "bytes go to the section in hand .. Nothing in hand: skipped."
  abbrev pub resumed : List A → Mode
  resumed [] = outside skipping
  resumed (b ∷ bs) = inside

  abbrev pub joined : Bool → Story A → Story A
  joined true s = s
  joined false s = broken_off s

-- What a whole section comes to is told by its bytes, and the rules go by whatever tells it.
module _ (comes : List ℕ → Kind) {A : Type 0} (value : A → ℕ) where
  -- the whole sections that come to the kind k, in order
  abbrev pub sections_of : Kind → List (List A) → List (List A)
  sections_of k [] = []
  sections_of k (s ∷ secs) = if sameKind k (comes (map value s)) then s ∷ sections_of k secs else sections_of k secs

  abbrev pub byte_in : Mode → Mode → A → Story A → Next A
  byte_in after begin b s = begun (value b == 255) b s
  byte_in after inside b s =
      grown after (comes (map value (hand_of s ++ (b ∷ [])))) (size_of (map value (hand_of s ++ (b ∷ [])))) (given in-hand b s)
  byte_in after (outside m) b s = record { mode = outside m; story = given (done (kind_of m)) b s }

  -- ---- a stretch of payload

  abbrev pub stretch : Mode → Next A → List A → Next A
  stretch after n [] = n
  stretch after n (b ∷ bs) = stretch after (byte_in after n.mode b n.story) bs

  -- "bytes go to the section in hand; after its end, filler. Nothing in hand: skipped."
  abbrev pub goesOn : Story A → List A → Story A
  goesOn s bs = (stretch (outside filling) (record { mode = resumed (hand_of s); story = s }) bs).story

  -- "Then sections follow end to end until 0xFF stands where one would begin (the rest is filler) or the payload ends"
  abbrev pub sections_in : Story A → List A → Story A
  sections_in s bs = (stretch begin (record { mode = begin; story = s }) bs).story

  -- ---- a packet

  -- "Start flag: one pointer byte p. The next p bytes go as above; a section still unfinished after them is broken off."
  abbrev pub started : Story A → List A → Story A
  started s [] = s
  started s (p ∷ bs) = sections_in (broken_off (goesOn (given (done pointer) p s) (take (value p) bs))) (drop (value p) bs)

  abbrev pub payload : Bool → Story A → List A → Story A
  payload true s bs = started s bs
  payload false s bs = goesOn s bs

  -- a packet that is taken, after the last counter or none and the story so far
  abbrev pub story_after : Option ℕ → Story A → Carried A → Story A
  story_after last s q = payload q.start (joined (joins last q.spliced q.counter) s) q.bytes
