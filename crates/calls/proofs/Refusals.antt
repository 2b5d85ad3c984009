-- No refusal of a section or a sheet has the number 0.
use Prim.{Unit, tt}
use Prim.Native.Nat.{ℕ, zero, suc, ◌^◌}
use mathlib.Core.Path.{◌≡◌, subst}
use mathlib.Core.Bool.{Bool}
use mathlib.Core.List.{List, [], ◌∷◌}
use native.Mathlib.Omega.{arith}
use lib.ListN.{length, get_or}
use lib.Dec.{ltb, leb}
use Rattle.wire.specs.Reading.{Reading, value, refused, ◌>>=◌}
use Rattle.wire.specs.Number.{number}
use Rattle.wire.proofs.IfLaws.{if-case, choose-case}
use Rattle.tables.specs.Tables.{row_of, row_at}
use Rattle.section.specs.Faults.{First}
use Rattle.forms.specs.Form.{Form, raw_read, raw, both_read, ◌then◌, such_read, such, each_read, each}
use Rattle.forms.specs.Fields.{Field, kept, reserved, below_read, sheet_field, sheet_fields}
use Rattle.forms.specs.Lists.{times_read, counted_read, counted}
use Rattle.sheet.specs.Content.{Item, plain, numbers, packed, bare, frame, head_of, entry_of, shape_of, has_top, has_entries, side_of, row_in}
use Rattle.sheet.specs.Sheet.{inOrder, sheet_item, descriptor_read, descriptor, sheet_loop, sheet_entry, sheet_top, sheet_entries, sheet_body, behind_id, sheet_read, read_for}
use Rattle.sheet.specs.Section.{section_length, read_sheet, read_sheet_for}
use Rattle.round_trips.proofs.Numbers.{section_numbers}

-- ---- a sheet's

abbrev Numbered : {A : Type 0} → Reading A → Type 0
Numbered (value a) = Unit {0}
Numbered (refused k) = k ≡ 0 → ⊥

then-numbered : {A B : Type 0} (x : Reading A) (f : A → Reading B) → Numbered x → ((a : A) → Numbered (f a))
    → Numbered (x >>= f)
then-numbered (value a) f h g = g a
then-numbered (refused k) f h g = h

abbrev Reads : {A : Type 0} → Form A → Type 0
Reads c = (s : List ℕ) → Numbered (c.read s)

raw_numbered : (n : ℕ) → Reads (raw n)
unfolding raw_read
raw_numbered n s = if-case Numbered (leb n (length s)) (λ _. tt) (λ _ e. omega arith)

both_numbered : {A B : Type 0} (c : Form A) (d : Form B) → Reads c → Reads d → Reads (c then d)
unfolding both_read
both_numbered c d x y s = then-numbered (c.read s) _ (x s) (λ a. then-numbered (d.read a.1) _ (y a.1) (λ b. tt))

such_numbered : {A : Type 0} (c : Form A) (k : ℕ) (test : A → Bool) → (k ≡ 0 → ⊥) → Reads c → Reads (such c k test)
unfolding such_read
such_numbered c k test n x s =
    then-numbered (c.read s) _ (x s) (λ a. if-case Numbered (test a.0) (λ _. tt) (λ _. n))

each_numbered : {X A : Type 0} (f : X → Form A) → ((x : X) → Reads (f x)) → (xs : List X) → Reads (each f xs)
unfolding each_read
each_numbered f h [] s = tt
each_numbered f h (x ∷ xs) s =
    then-numbered ((f x).read s) _ (h x s)
    (λ a. then-numbered (each_read f xs a.1) _ (each_numbered f h xs a.1) (λ l. tt))

times_numbered : {A : Type 0} (c : Form A) → Reads c → (k : ℕ) (s : List ℕ) → Numbered (times_read c k s)
unfolding times_read
times_numbered c h zero s = tt
times_numbered c h (suc k) s =
    then-numbered (c.read s) _ (h s)
    (λ a. then-numbered (times_read c k a.1) _ (times_numbered c h k a.1) (λ l. tt))

counted_numbered : {A : Type 0} (c : Form A) → Reads c → Reads (counted c)
unfolding counted_read
counted_numbered c h s =
    then-numbered (raw_read 2 s) _ (raw_numbered 2 s) (λ n. times_numbered c h (number n.0) n.1)

field_numbered : (f : Field) → Reads (sheet_field f)
unfolding below_read
field_numbered (kept w) s =
    then-numbered (raw_read 1 s) _ (raw_numbered 1 s)
    (λ a. if-case Numbered (ltb (get_or a.0 0 0) (2 ^ w)) (λ _. tt) (λ _ e. omega arith))
field_numbered (reserved w) s = tt

fields_numbered : (fs : List Field) → Reads (sheet_fields fs)
fields_numbered fs = each_numbered sheet_field field_numbered fs

item_numbered : (x : Item) → Reads (sheet_item x)
item_numbered (plain n) = raw_numbered n
item_numbered numbers = such_numbered (raw 2) 24 inOrder (λ e. omega arith) (raw_numbered 2)
item_numbered (packed fs) = fields_numbered fs

descriptor_numbered : Reads descriptor
unfolding descriptor_read
descriptor_numbered s =
    then-numbered (raw_read 2 s) _ (raw_numbered 2 s)
    (λ h. then-numbered (raw_read _ h.1) _ (raw_numbered _ h.1) (λ b. tt))

loop-numbered : (fs : List Field) → Reads (sheet_loop fs)
loop-numbered fs =
    both_numbered (sheet_fields fs) (counted descriptor) (fields_numbered fs)
    (counted_numbered descriptor descriptor_numbered)

entry_numbered : (row : ℕ) → Reads (sheet_entry row)
entry_numbered row =
    both_numbered (each sheet_item (entry_of row)) (sheet_loop (side_of row))
    (each_numbered sheet_item item_numbered (entry_of row)) (loop-numbered (side_of row))

top_numbered : (row : ℕ) → Reads (sheet_top row)
top_numbered row = choose-case Reads (has_top (shape_of row)) (λ _. loop-numbered bare) (λ _ s. tt)

entries_numbered : (row : ℕ) → Reads (sheet_entries row)
entries_numbered row =
    choose-case Reads (has_entries (shape_of row))
    (λ _. both_numbered (sheet_fields _) (counted (sheet_entry row)) (fields_numbered _)
    (counted_numbered (sheet_entry row) (entry_numbered row))) (λ _ s. tt)

behind_numbered : (row : ℕ) → Reads (behind_id row)
behind_numbered row =
    both_numbered (sheet_fields frame) (sheet_body row) (fields_numbered frame)
    (both_numbered (each sheet_item (head_of row)) (sheet_top row then sheet_entries row)
    (each_numbered sheet_item item_numbered (head_of row))
    (both_numbered (sheet_top row) (sheet_entries row) (top_numbered row) (entries_numbered row)))

pub sheet_numbered : (s : List ℕ) → Numbered (read_sheet s)
unfolding read_sheet_for read_for
sheet_numbered s =
    then-numbered (sheet_read s) _
    (then-numbered ((such (raw 1) 23 (λ id. ltb (row_of (get_or id 0 0)) 6)).read s) _
    (such_numbered (raw 1) 23 (λ id. ltb (row_of (get_or id 0 0)) 6) (λ e. omega arith) (raw_numbered 1) s)
    (λ id. then-numbered ((behind_id (row_of (get_or id.0 0 0))).read id.1) _
    (behind_numbered (row_of (get_or id.0 0 0)) id.1) (λ c. tt)))
    (λ c. if-case Numbered (ltb 0 (length c.1)) (λ _ e. omega arith)
    (λ _. if-case Numbered (ltb (row_at (row_in c.0)).most (section_length c.0)) (λ _ e. omega arith)
    (λ _. tt)))

pub sheet_refusal : (s : List ℕ) (k : ℕ) → read_sheet s ≡ refused k → k ≡ 0 → ⊥
sheet_refusal s k e = subst Numbered e (sheet_numbered s)

-- ---- a section's

pub first_numbered : {s : List ℕ} {k q : ℕ} → First s k q → k ≡ 0 → ⊥
first_numbered f e = let n = (section_numbers f).0 in omega arith
