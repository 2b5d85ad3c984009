-- The two ways of a turn. On the way to a section (true) sheets are read and sections are written; on the way to a sheet (false) the reverse.
use Rattle.std.specs.Prelude.{ℕ, ◌+◌, ◌-◌, ◌/◌, ◌%◌, ◌≤◌, ◌<◌, ◌≡◌, List, [], ◌∷◌, Bool, true, false, not, length, if◌then◌else◌}
use Rattle.wire.specs.Bytes.{len12_at}
use Rattle.wire.specs.Parts.{Part}
use Rattle.tables.specs.Tables.{TDT, row_at}
use Rattle.forms.specs.Form.{Form, mute, ◌then◌, each}
use Rattle.forms.specs.Fields.{Field, sheet_field}
use Rattle.forms.specs.Lists.{all, All, counted_show}
use Rattle.forms.specs.Room.{put, sum}
use Rattle.forms.specs.Inner.Turning.{Done, Turned}
use Rattle.sheet.specs.Content.{Item, packed, bare, entry_of, TableShape, entries_only, both, side_of, Fields, Descriptor, Loop, Entry, Entries}
use Rattle.sheet.specs.Sheet.{descriptor, sheet_item, sheet_loop, entries_for_by}
use Rattle.sheet.specs.Section.{section_item, section_loop, section_entries_by}
use Rattle.turn.specs.Inner.Fields.{Shape}
use Rattle.forms.specs.declared.Place.{Place}
use Rattle.wire.specs.If.{choose◌then◌else◌}

-- of a form in sheets and a form in sections the one that is read; of what a sheet has it is known that a section can hold it
abbrev pub from : {A : Type 0} → Bool → Form A → Form A → Form A
from true c d = record { read = c.read; show = c.show; Ok = λ a. c.Ok a × d.Ok a }
from false c d = d

-- the form that is read
abbrev pub item_from : Bool → Item → Form (List ℕ)
item_from true = sheet_item
item_from false = section_item

-- a loop
abbrev pub loop_from : Bool → List Field → Form Loop
loop_from b fs = from b (sheet_loop fs) (section_loop fs)

-- the items of a head or an entry
abbrev pub items_from : Bool → List Item → Form Fields
items_from b = each (item_from b)

-- a whole entry
abbrev pub entry_from : Bool → ℕ → Form Entry
entry_from b row = items_from b (entry_of row) then loop_from b (side_of row)

-- the form that is written
abbrev pub item_to : Bool → Item → Form (List ℕ)
item_to b = item_from (not b)

-- the items
abbrev pub items_to : Bool → List Item → Form Fields
items_to b = items_from (not b)

-- the loop
abbrev pub loop_to : Bool → List Field → Form Loop
loop_to b = loop_from (not b)

-- the entry
abbrev pub entry_to : Bool → ℕ → Form Entry
entry_to b = entry_from (not b)

-- k is the number of items that fill the bytes l, where such items do
abbrev pub NumberIn : {A : Type 0} → Form A → List ℕ → ℕ → Type 0
NumberIn {A} c l k = (m : List A) → All c m → all c m ≡ l → k ≡ length m

-- n is the number of bytes of the descriptors whose list stands at the place `at` of s, where one does
abbrev pub SizeAt : List ℕ → ℕ → ℕ → Type 0
SizeAt s at n = (m : List Descriptor) → All descriptor m → length m < 65536 → Part s at (counted_show descriptor m) → n ≡ length (all descriptor m)

-- the fixed bytes of the entries of a row
pub record EntrySizes (fixed row : ℕ) : Type 0 where
  pub has : fixed ≡ (row_at row).fixed
  pub known : row < TDT

-- a byte of fields is turned, by their span
pub record ByteTurned (forth : Bool) (span : ℕ) (s : List ℕ) (p : Place) (o : List ℕ) (q : Place) (o' : List ℕ) : Type 0 where
  pub turned : {fs : List Field} → Shape fs span 256
      → Turned (item_from forth (packed fs)) (item_to forth (packed fs)) s p o q o'

-- ---- loops of descriptors

-- a number of two bytes, written
abbrev pub put_number : List ℕ → ℕ → ℕ → List ℕ
put_number o to n = put (put o to (n / 256 % 256 ∷ [])) (sum to 1) (n % 256 ∷ [])

-- a number of two bytes and n bytes that stand at p's first place are put at its second
pub record Numbered (number n : ℕ) (s : List ℕ) (p : Place) (o : List ℕ) (q : Place) (o' : List ℕ) : Type 0 where
  pub turned : (l : List ℕ) → length l ≡ n → number < 65536 → Part s p.at l → p.to + (2 + n) ≤ length o
      → Done p l (number / 256 ∷ number % 256 ∷ l) o q o'

-- a loop is turned, by the span of the fields beside its length
pub record LoopTurned (forth : Bool) (span : ℕ) (s : List ℕ) (p : Place) (o : List ℕ) (q : Place) (o' : List ℕ) : Type 0 where
  pub turned : {fs : List Field} → Shape fs span 16 → Turned (loop_from forth fs) (loop_to forth fs) s p o q o'

-- ---- top loop and entries

-- the top loop that is read, where the table has one
abbrev pub top_if : Bool → Bool → Form Loop
top_if b top = from b (choose top then sheet_loop bare else mute ([], [])) (choose top then section_loop bare else mute ([], []))

-- the place behind the entries' own length, where they have one
abbrev pub behind_own : Bool → ℕ → ℕ
behind_own top at = if top then sum at 2 else at

-- the bytes of a section's entries: by that length, or up to `end`
abbrev pub own_size : Bool → List ℕ → ℕ → ℕ → ℕ
own_size top s at end = if top then len12_at s at else end - at

-- that length put, where the entries go up to `end`
abbrev pub ownPut : Bool → List ℕ → ℕ → ℕ → List ℕ
ownPut top o to end = if top then put_number o to (sum 0xF000 (end - sum to 2)) else o

-- entries as a section has them, in as many bytes as they are
abbrev pub owned : (ℕ → Form Entries) → Form Entries
owned f = record { read = (f 0).read; show = (f 0).show; Ok = λ e. (f (length ((f 0).show e))).Ok e }

-- the entries that are read, in a table of that shape
abbrev pub entries_from : Bool → TableShape → ℕ → Form Entries
entries_from b x row = from b (entries_for_by sheet_field x row) (owned (section_entries_by x row))

-- a table that has entries, by whether they have a length of their own
abbrev pub withEntries : Bool → TableShape
withEntries top = if top then both else entries_only

-- of what is read and what is written that which is the section's
abbrev pub in_section : {A : Type 0} → Bool → A → A → A
in_section true read written = written
in_section false read written = read

-- a value is turned whose bytes in the section end at the place `end`
pub record TurnedTo {A : Type 0} (b : Bool) (c d : Form A) (s : List ℕ) (p : Place) (end : ℕ) (o : List ℕ) (q : Place) (o' : List ℕ) : Type 0 where
  pub turned : (a : A) → c.Ok a → Part s p.at (c.show a) → p.to + length (d.show a) ≤ length o
      → in_section b p.at p.to + length (in_section b (c.show a) (d.show a)) ≡ end → end ≤ 4096 → Done p (c.show a) (d.show a) o q o'

-- the entries of a table of that shape
abbrev pub EntriesTurned : Bool → TableShape → ℕ → List ℕ → Place → ℕ → List ℕ → Place → List ℕ → Type 0
EntriesTurned b x row = TurnedTo b (entries_from b x row) (entries_from (not b) x row)
