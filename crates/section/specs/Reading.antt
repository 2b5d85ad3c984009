-- Reading a section: document 01, "Judging a section", in its order.
use Rattle.std.specs.Prelude.{ℕ, ◌+◌, ◌-◌, ◌/◌, List, [], Bool, not, ◌&&◌, ◌||◌, length, get_or, take, drop, ltb, leb, eqb, if◌then◌else◌}
use Rattle.wire.specs.Bytes.{len12_at}
use Rattle.wire.specs.Trail.{Trail, ended, before}
use Rattle.crc.specs.Crc.{crc}
use Rattle.tables.specs.Tables.{UNKNOWN, row_of, row_at}
use Rattle.verdict.specs.Verdict.{Said, accepted, refused, is_accepted}
use Rattle.loops.specs.Descriptors.{Placed, descriptors}
use Rattle.section.specs.Entries.{entries}
use Rattle.tables.specs.declared.Row.{Row}

-- what reading a section gives: the descriptors of each loop, the top loop's first (none where the table has no top loop), then each entry's;
-- and the verdict
abbrev pub LoopsRead : Type 0
LoopsRead = Trail (List Placed) Said

-- "no. | given when"; "refusals 8 to 10 carry a place ..; the others place 0"
infix 1 given◌when◌otherwise◌
abbrev pub given◌when◌otherwise◌ : ℕ → Bool → Said → Said
given k when b otherwise v = if b then refused k 0 else v

-- reading goes on where nothing is refused
infixr 2 ◌and_then◌
unfoldable pub ◌and_then◌ : Said → LoopsRead → LoopsRead
v and_then x = if is_accepted v then x else ended v

-- bytes that a loop takes whose 12-bit length stands at the front of m
abbrev pub size_of : List ℕ → ℕ
size_of m = 2 + len12_at m 0

-- "Second loop and TOT loop must end at the CRC: 8 if beyond, 10 if short, judged before what they hold."
unfoldable pub fills : ℕ → List ℕ → Said
fills p m =
    if ltb (length m) (size_of m) then refused 8 p
    else if ltb (size_of m) (length m) then refused 10 (p + size_of m)
    else accepted

-- "The top loop of NIT and BAT must leave room for the second length."
unfoldable pub leaves_room : ℕ → List ℕ → Said
leaves_room p m = if ltb (length m) (size_of m + 2) then refused 8 p else accepted

-- a loop's descriptors, and what is read behind the loop
abbrev pub loop_then : Trail Placed Said → LoopsRead → LoopsRead
loop_then d x = d.ends and_then before d.items x

-- TOT: a top loop up to the CRC
unfoldable pub one_loop : ℕ → List ℕ → LoopsRead
one_loop p m = fills p m and_then loop_then (descriptors (p + 2) (drop 2 m)) (ended accepted)

-- the second loop of NIT and BAT: entries up to the CRC
unfoldable pub second_loop : ℕ → ℕ → List ℕ → LoopsRead
second_loop fixed p m = fills p m and_then entries fixed (p + 2) (drop 2 m)

-- "NIT and BAT have a second length after the top loop, over the entries."
unfoldable pub two_loops : ℕ → ℕ → List ℕ → LoopsRead
two_loops fixed p m =
    leaves_room p m and_then
    loop_then (descriptors (p + 2) (take (len12_at m 0) (drop 2 m))) (second_loop fixed (p + size_of m) (drop (size_of m) m))

-- tables with a top loop: TOT has no entries, NIT and BAT have
unfoldable pub topped : ℕ → ℕ → List ℕ → LoopsRead
topped fixed p m = if eqb fixed 0 then one_loop p m else two_loops fixed p m

-- tables without one: TDT has no entries, SDT and EIT have
unfoldable pub plain : ℕ → ℕ → List ℕ → LoopsRead
plain fixed p m = if eqb fixed 0 then ended accepted else before [] (entries fixed p m)

-- what stands between a section's head and its CRC_32
unfoldable pub inside : Row → ℕ → List ℕ → LoopsRead
inside row p m = if eqb row.top 1 then topped row.fixed p m else plain row.fixed p m

-- "All but TDT end in CRC_32": the bytes of s before it, all of them where the table has none
abbrev pub body : Row → List ℕ → List ℕ
body row s = if eqb row.crc 1 then take (length s - 4) s else s

-- 1: "fewer than 3 bytes"; 2: "table_id not in the table"
unfoldable pub opening : List ℕ → Said
opening s =
    given 1 when ltb (length s) 3 otherwise
    given 2 when leb UNKNOWN (row_of (get_or s 0 0)) otherwise
    accepted

-- 3: "wrong syntax bit"
unfoldable pub wrong_syntax : Row → List ℕ → Bool
wrong_syntax row s = not (eqb (get_or s 1 0 / 128) row.syntax)

-- 4: "section_length outside its row"
unfoldable pub length_outside : Row → List ℕ → Bool
length_outside row s = ltb (len12_at s 1) row.least || ltb row.most (len12_at s 1)

-- 5: "bytes given are not 3 + section_length"
unfoldable pub size_differs : List ℕ → Bool
size_differs s = not (eqb (length s) (3 + len12_at s 1))

-- 6: "CRC register not zero", where the table has one
unfoldable pub crc_fails : Row → List ℕ → Bool
crc_fails row s = eqb row.crc 1 && not (eqb (crc s) 0)

-- 7: "section_number above last_section_number (NIT, SDT, BAT, EIT)", the four whose syntax bit is 1
unfoldable pub above_last : Row → List ℕ → Bool
above_last row s = eqb row.syntax 1 && ltb (get_or s 7 0) (get_or s 6 0)

-- 3 to 7, in this order
unfoldable pub header : Row → List ℕ → Said
header row s =
    given 3 when wrong_syntax row s otherwise
    given 4 when length_outside row s otherwise
    given 5 when size_differs s otherwise
    given 6 when crc_fails row s otherwise
    given 7 when above_last row s otherwise
    accepted

-- the row of the section's table
abbrev pub row_for : List ℕ → Row
row_for s = row_at (row_of (get_or s 0 0))

-- "Checked in this order": 1 and 2, 3 to 7 by the row, and what stands inside
unfoldable pub read : List ℕ → LoopsRead
read s =
    opening s and_then
    header (row_for s) s and_then
    inside (row_for s) (row_for s).before (drop (row_for s).before (body (row_for s) s))

-- the judge's verdict: accepted, or the first refusal and its place
unfoldable pub judged : List ℕ → Said
judged s = (read s).ends
