-- Where the time, the top loop and the entries of a section stand that the judge accepts; nothing of any other.
use Rattle.std.specs.Prelude.{ℕ, ◌+◌, ◌-◌, ◌≡◌, List, length, get_or, eqb, if◌then◌else◌}
use Rattle.wire.specs.Bytes.{len12_at}
use Rattle.std.specs.Prelude.{Result, Ok, Err}
use Rattle.verdict.specs.Verdict.{Said, accepted, told_refusal, is_accepted}
use Rattle.verdict.specs.declared.Refusal.{Refusal}
use Rattle.tables.specs.Tables.{is_numbered, row_of}
use Rattle.section.specs.Reading.{body, row_for, judged}
use Rattle.parts.specs.Parts.{part, no_part}
use Rattle.tables.specs.declared.Row.{Row}
use Rattle.parts.specs.declared.Part.{Part}
use Rattle.parts.specs.declared.opening.Opened.{Opened}

-- UTC_time of TDT and TOT, of which neither has an extension, a version or section numbers: bytes 3 to 7
unfoldable pub utc_of : ℕ → Part
utc_of row = if is_numbered row then no_part else part 3 5

-- the top loop, behind its length
unfoldable pub top_of : Row → List ℕ → Part
top_of row s = if eqb row.top 1 then part (row.before + 2) (len12_at s row.before) else no_part

-- from a place to another
abbrev pub up_to : ℕ → ℕ → Part
up_to end a = part a (end - a)

-- the entries, behind the top loop and the second length where the table has those, and up to the CRC_32
unfoldable pub entries_of : Row → List ℕ → Part
entries_of row s =
    if eqb row.fixed 0 then no_part
    else if eqb row.top 1 then up_to (length (body row s)) (row.before + 2 + len12_at s row.before + 2)
    else up_to (length (body row s)) row.before

-- a part of a section that is accepted; of one that is refused nothing is handed out
abbrev pub if_accepted : List ℕ → Part → Part
if_accepted s p = if is_accepted (judged s) then p else no_part

-- UTC_time
abbrev pub utcTime : List ℕ → Part
utcTime s = if_accepted s (utc_of (row_of (get_or s 0 0)))

-- the top loop
abbrev pub top_loop : List ℕ → Part
top_loop s = if_accepted s (top_of (row_for s) s)

-- all entries
abbrev pub entries_in : List ℕ → Part
entries_in s = if_accepted s (entries_of (row_for s) s)

-- what opening answers: the parts, or why not
abbrev pub Answer : Type 0
Answer = Result Opened Refusal

-- the judge's verdict in it
abbrev pub said : Answer → Said
said (Ok o) = accepted
said (Err r) = told_refusal r

-- the parts in it; of one that is refused nothing is handed out
abbrev pub handed : Answer → Opened
handed (Ok o) = o
handed (Err r) = record { utc_time = no_part; top = no_part; entries = no_part }

-- what opening bytes gives: the judge's verdict, and the parts
pub record Opens (s : List ℕ) (o : Answer) : Type 0 where
  pub verdict : said o ≡ judged s
  pub utc_time_lem : (handed o).utc_time ≡ utcTime s
  pub top : (handed o).top ≡ top_loop s
  pub entries : (handed o).entries ≡ entries_in s
