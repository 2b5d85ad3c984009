-- What is handed out is what the grammar has: entries, loops and descriptors, all of them and in order.
use Rattle.std.specs.Prelude.{ℕ, ◌≡◌, Some, None, List, [], ◌∷◌, ◌++◌, length}
use Rattle.verdict.specs.Verdict.{accepted, refused}
use Rattle.loops.specs.Descriptors.{Placed}
use Rattle.section.specs.Reading.{row_for}
use Rattle.section.specs.Grammar.{Head}
use Rattle.parts.specs.Parts.{no_part, Is}
use Rattle.parts.specs.Entries.{next_entry}
use Rattle.parts.specs.Descriptors.{next_descriptor}
use Rattle.parts.specs.declared.Part.{Part}
use Rattle.parts.specs.declared.entries.Entry.{Entry}
use Rattle.parts.specs.declared.descriptors.Descriptor.{Descriptor}
use Rattle.parts.specs.Opening.{Answer, said, handed}

-- the walk from r on hands out these descriptors, one a step, each with its tag and its body where it stands, and then none; end to end
-- they are the bytes of r
pub data HandsDescriptors (s : List ℕ) : Part → List ℕ → List Placed → Type 0 where
  none : {r : Part} → next_descriptor s r ≡ None → r.size ≡ 0 → HandsDescriptors s r [] []
  one : {r : Part} (x : Descriptor) (d : Placed) {l : List ℕ} {ds : List Placed} → next_descriptor s r ≡ Some x
      → x.tag ≡ d.tag → x.whole.start ≡ d.place → Is s x.body d.body → Is s x.whole (d.tag ∷ length d.body ∷ d.body)
      → HandsDescriptors s x.rest l ds → HandsDescriptors s r (d.tag ∷ length d.body ∷ (d.body ++ l)) (d ∷ ds)

-- the walk from r on hands out entries, one a step, each its fixed bytes and its loop, of which the walk hands out its descriptors, and then
-- none; end to end they are the bytes of r
pub data HandsEntries (s : List ℕ) : Part → List ℕ → List (List Placed) → Type 0 where
  none : {r : Part} → next_entry s r ≡ None → r.size ≡ 0 → HandsEntries s r [] []
  one : {r : Part} (x : Entry) (head body : List ℕ) {l : List ℕ} {ds : List Placed} {loops : List (List Placed)} → next_entry s r ≡ Some x
      → Head (row_for s).fixed head body → Is s x.fixed head → Is s x.descriptors body
      → HandsDescriptors s x.descriptors body ds → HandsEntries s x.rest l loops
      → HandsEntries s r (head ++ (body ++ l)) (ds ∷ loops)

-- of a section's loops the top loop's descriptors, which come first; and those of each entry
abbrev pub top_ones : List (List Placed) → List Placed
top_ones [] = []
top_ones (ds ∷ loops) = ds

abbrev pub entry_ones : List (List Placed) → List (List Placed)
entry_ones [] = []
entry_ones (ds ∷ loops) = loops

-- a section that was opened: accepted, and its loops are handed out from the parts that were given
pub record Through (s : List ℕ) (loops : List (List Placed)) (o : Answer) : Type 0 where
  pub says : said o ≡ accepted
  pub top_bytes : List ℕ
  pub top : HandsDescriptors s (handed o).top top_bytes (top_ones loops)
  pub entry_bytes : List ℕ
  pub entries : HandsEntries s (handed o).entries entry_bytes (entry_ones loops)

-- one that was refused: the refusal, and nothing handed out
pub record Nothing (k q : ℕ) (o : Answer) : Type 0 where
  pub says : said o ≡ refused k q
  pub utc_time_lem : (handed o).utc_time ≡ no_part
  pub top : (handed o).top ≡ no_part
  pub entries : (handed o).entries ≡ no_part
