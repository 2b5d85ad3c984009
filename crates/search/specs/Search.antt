-- "A search for a tag leaves its nested walk at the first hit, in reading order, and gives the body as a part of the caller's bytes, with 0 for the
-- top loop or the entry's number from 1; or "none". It refuses 1 to 10 first."
use Rattle.std.specs.Prelude.{ℕ, ◌+◌, ◌≡◌, List, [], ◌∷◌, length, take, drop, eqb, if◌then◌else◌}
use Rattle.std.specs.Prelude.{Option, Some, None, Result, Ok, Err}
use Rattle.verdict.specs.Verdict.{told_refusal, is_accepted, number_of, place_of}
use Rattle.verdict.specs.declared.Refusal.{Refusal}
use Rattle.loops.specs.Descriptors.{Placed}
use Rattle.section.specs.Reading.{read, judged}
use Rattle.section.specs.Grammar.{Section}
use Rattle.section.specs.Faults.{First}
use Rattle.search.specs.declared.Hit.{Hit}

-- what may be said of a search: a refusal's number and place; a hit, by the loop's number, the place of the body and its size; none
pub data Outcome : Type 0 where
  refusing : ℕ → ℕ → Outcome
  hit : ℕ → ℕ → ℕ → Outcome
  none : Outcome

-- what a search answers: a hit or none, or why not
abbrev pub Found : Type 0
Found = Result (Option Hit) Refusal

-- document 01's values for what was found
abbrev pub told_hit : Option Hit → Outcome
told_hit (Some h) = hit h.number h.start h.size
told_hit None = none

-- and its number and values for every answer
abbrev pub told_found : Found → Outcome
told_found (Ok o) = told_hit o
told_found (Err r) = refusing (number_of (told_refusal r)) (place_of (told_refusal r))

-- the first descriptor with the tag in the loop of number k, else what the search of the later loops gives
abbrev pub hit_in : ℕ → ℕ → List Placed → Outcome → Outcome
hit_in tag k [] later = later
hit_in tag k (d ∷ ds) later = if eqb d.tag tag then hit k (d.place + 2) (length d.body) else hit_in tag k ds later

-- the loops from number k on
abbrev pub hit_from : ℕ → ℕ → List (List Placed) → Outcome
hit_from tag k [] = none
hit_from tag k (ds ∷ loops) = hit_in tag k ds (hit_from tag (k + 1) loops)

-- "It refuses 1 to 10 first."; else all loops are searched, the top loop as number 0
unfoldable pub sought : List ℕ → ℕ → Outcome
sought s tag =
    if is_accepted (judged s) then hit_from tag 0 (read s).items
    else refusing (number_of (judged s)) (place_of (judged s))

-- the part of s that an outcome names; nothing where it names none
abbrev pub body_of : List ℕ → Outcome → List ℕ
body_of s (hit k b n) = take n (drop b s)
body_of s none = []
body_of s (refusing k p) = []

-- no descriptor of the loop has the tag
pub data Without (tag : ℕ) : List Placed → Type 0 where
  none : Without tag []
  more : (d : Placed) {ds : List Placed} → (d.tag ≡ tag → ⊥) → Without tag ds → Without tag (d ∷ ds)

-- d is the first with the tag in the loop
pub data FirstIn (tag : ℕ) : List Placed → Placed → Type 0 where
  here : (d : Placed) {ds : List Placed} → d.tag ≡ tag → FirstIn tag (d ∷ ds) d
  later : (e : Placed) {ds : List Placed} {d : Placed} → (e.tag ≡ tag → ⊥) → FirstIn tag ds d → FirstIn tag (e ∷ ds) d

-- d is the first with the tag in the loops from number k on, and stands in the loop of number j: "the first hit, in reading order"
pub data FirstHit (tag : ℕ) : ℕ → List (List Placed) → ℕ → Placed → Type 0 where
  here : {k : ℕ} {ds : List Placed} {loops : List (List Placed)} {d : Placed} → FirstIn tag ds d → FirstHit tag k (ds ∷ loops) k d
  later : {k j : ℕ} {ds : List Placed} {loops : List (List Placed)} {d : Placed} → Without tag ds → FirstHit tag (k + 1) loops j d
      → FirstHit tag k (ds ∷ loops) j d

-- no descriptor of the section has the tag
pub data Nowhere (tag : ℕ) : List (List Placed) → Type 0 where
  none : Nowhere tag []
  more : {ds : List Placed} {loops : List (List Placed)} → Without tag ds → Nowhere tag loops → Nowhere tag (ds ∷ loops)

-- what an outcome claims of the bytes
abbrev pub Claims : List ℕ → ℕ → Outcome → Type 0
Claims s tag (hit k b n) =
    (loops : List (List Placed)) × (d : Placed) × Section s loops × FirstHit tag 0 loops k d × (b ≡ d.place + 2) × (n ≡ length d.body)
Claims s tag none = (loops : List (List Placed)) × Section s loops × Nowhere tag loops
Claims s tag (refusing k q) = First s k q
