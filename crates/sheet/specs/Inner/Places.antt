-- A sheet read from left to right, by places: what the parts of the judge promise each other.
use Rattle.std.specs.Prelude.{ℕ, ◌≤◌, ◌<◌, ◌≡◌, List, length, get_or, drop, Result, Ok, Err}
use Rattle.wire.specs.Reading.{value, refused}
use Rattle.tables.specs.Tables.{row_of}
use Rattle.forms.specs.Form.{Form, each}
use Rattle.sheet.specs.Content.{Item, common}
use Rattle.sheet.specs.Sheet.{sheet_item}
use Rattle.sheet.specs.declared.Fault.{Fault}
use Rattle.sheet.specs.declared.Fault.TheVariants.{EndsEarly, TooWide}

-- the sheet has the table_id of this row
pub record Known (s : List ℕ) (row : ℕ) : Type 0 where
  pub there : 0 < length s
  pub has : row_of (get_or s 0 0) ≡ row

-- a value was read in the form c from the place `at` of s, and what is left begins at the place e
pub record Ends {A : Type 0} (c : Form A) (s : List ℕ) (at e : ℕ) : Type 0 where
  pub value_read : A
  pub reads : c.read (drop at s) ≡ value (value_read, drop e s)
  pub from : at ≤ e
  pub within : e ≤ length s

-- the refusal's number
abbrev pub number_of : Fault → ℕ
number_of EndsEarly = 22
number_of TooWide = 24

-- the place behind what was read, or why reading stopped
abbrev pub Reached : Type 0
Reached = Result ℕ Fault

-- how a reading from the place `at` of s ended
abbrev pub Reads : {A : Type 0} → Form A → List ℕ → ℕ → Reached → Type 0
Reads c s at (Ok e) = Ends c s at e
Reads c s at (Err f) = c.read (drop at s) ≡ refused (number_of f)

-- a function that reads on from the place `at` and ends so has read the form c
pub record Follows {A : Type 0} (c : Form A) (s : List ℕ) (at : ℕ) (r : Reached) : Type 0 where
  pub onward : at ≤ length s → Reads c s at r

-- the fields that four tables have in common were read: a head goes on behind them
abbrev pub Common : List ℕ → ℕ → Reached → Type 0
Common s at (Ok b) = (more : List Item) (r : Reached) → Follows (each sheet_item more) s b r → Follows (each sheet_item (common more)) s at r
Common s at (Err f) = (more : List Item) → Follows (each sheet_item (common more)) s at (Err f)
