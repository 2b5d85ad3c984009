-- What the functions of stretch.rt say of their arguments and answers.
use Rattle.std.specs.Prelude.{◌≡◌, ℕ, ◌+◌, ◌<◌, ◌≤◌, ltb, ◌⊎◌, List, length, ◌==◌, nat_lt, if◌then◌else◌}
use mathlib.Core.List.{flatten}
use Rattle.wire.specs.Sections.{total_of}
use Rattle.copy.specs.Laid.{over, laid}
use Rattle.collector.specs.Rules.{done, Story, count_of, hand_of, Rest, filling, skipping, breaking, kind_of}
use Rattle.collector.specs.Judged.{delivered_of, rejected_of, last_number}
use Rattle.collector.specs.declared.stretch.Look.{Look}
use Rattle.collector.specs.declared.stretch.Look.TheVariants.{Going, Over, Whole}
use Rattle.collector.specs.declared.stretch.Gain.{Gain}

-- of bytes of which the first is a section's first
abbrev pub LookSays : List ℕ → Look → Type 0
LookSays bs Going = (length bs < 3) ⊎ ((3 ≤ length bs) × (total_of bs ≤ 4096) × (length bs < total_of bs))
LookSays bs Over = (3 ≤ length bs) × (4096 < total_of bs)
LookSays bs (Whole t) = (3 ≤ length bs) × (t ≡ total_of bs) × (t ≤ 4096) × (t ≤ length bs)

-- by the bytes that its header declares in all, and those that are there
abbrev pub sized_as : ℕ → ℕ → Look
sized_as total size = if nat_lt 4096 total then Over else (if ltb size total then Going else Whole total)

-- an answer's bytes by how the rest of a stretch went; the pointer byte is in none
abbrev pub gain_of : Gain → Rest → ℕ
gain_of r filling = r.filling
gain_of r skipping = r.skipping
gain_of r breaking = r.breaking

-- an answer by the bytes in hand, the accepted sections' number and bytes, the rejected ones' bytes and last number, and the other bytes by how
-- the rest went
abbrev pub gain_with : ℕ → ℕ → ℕ → ℕ → ℕ → (Rest → ℕ) → Gain
gain_with held sections bytes rejected rejection n = record {
  in_hand = held;
  sections = sections;
  bytes = bytes;
  rejected = rejected;
  rejection = rejection;
  breaking = n breaking;
  filling = n filling;
  skipping = n skipping;
}

abbrev pub nothing : ℕ → Gain
nothing was = gain_with 0 0 0 0 was (λ rest. 0)

-- a whole section of t bytes more, with its rejection's number, 0 where it is accepted
abbrev pub with_section : Gain → ℕ → ℕ → Gain
with_section g t number =
    if number == 0 then gain_with g.in_hand (g.sections + 1) (g.bytes + t) g.rejected g.rejection (gain_of g)
    else gain_with g.in_hand g.sections g.bytes (g.rejected + t) number (gain_of g)

-- it can be counted
pub record Few (g : Gain) (t : ℕ) : Type 0 where
  pub sections : g.sections < 5000
  pub bytes : g.bytes + t ≤ 5000
  pub rejected : g.rejected + t ≤ 5000

-- the code's numbers and rooms are those of a story, where was is the number of the section rejected last before it: hold begins with what is in
-- hand, out has the accepted sections from index at on, and the rest of both is as it was
pub record Ends (s : Story ℕ) (was : ℕ) (hold out : List ℕ) (at : ℕ) (hold' out' : List ℕ) (r : Gain) : Type 0 where
  pub in-hand : r.in_hand ≡ length (hand_of s)
  pub sections : r.sections ≡ length (delivered_of s)
  pub bytes : r.bytes ≡ length (flatten (delivered_of s))
  pub rejected : r.rejected ≡ length (flatten (rejected_of s))
  pub rejection : r.rejection ≡ last_number was (rejected_of s)
  pub counts : (rest : Rest) → gain_of r rest ≡ count_of (done (kind_of rest)) s.marks
  pub the_hold : hold' ≡ over (hand_of s) hold
  pub the_out : out' ≡ laid out at (flatten (delivered_of s))

-- one stretch after another
abbrev pub both_of : Gain → Gain → Gain
both_of a b =
    gain_with b.in_hand (a.sections + b.sections) (a.bytes + b.bytes) (a.rejected + b.rejected) b.rejection
    (λ rest. gain_of a rest + gain_of b rest)

-- numbers that can be added with room to spare
pub record Small (a : Gain) : Type 0 where
  pub sections : a.sections ≤ 5000
  pub bytes : a.bytes ≤ 5000
  pub rejected : a.rejected ≤ 5000
  pub breaking : a.breaking ≤ 5000
  pub filling : a.filling ≤ 5000
  pub skipping : a.skipping ≤ 5000
