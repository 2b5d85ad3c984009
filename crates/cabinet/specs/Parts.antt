-- What the parts of a section say in numbers: each id under its name in its table, and 0 for what the table does not have.
use Rattle.std.specs.Prelude.{ℕ, Bool, List, Option, Some, None, get_or, if◌then◌else◌}
use Rattle.verdict.specs.Verdict.{is_accepted, number_of, place_of}
use Rattle.tables.specs.Tables.{NIT, SDT, BAT, EIT, is_numbered, row_of}
use Rattle.section.specs.Reading.{judged}
use Rattle.head.specs.Head.{extension_in, version_in, is_current, number_in, last_in}
use Rattle.head.specs.SubTable.{sub_table_of}
use Rattle.parts.specs.Opening.{utcTime, top_loop, entries_in}
use Rattle.parts.specs.Names.{is_of, id_in, network_in, start_in, duration_in}
use Rattle.parts.specs.declared.Part as beneath
use Rattle.parts.specs.declared.entries.Entry.{Entry}
use Rattle.parts.specs.declared.descriptors.Descriptor.{Descriptor}
use Rattle.parts.specs.declared.room.Section.{Section}
use Rattle.cabinet.specs.Numbers.{bit}
use Rattle.cabinet.specs.declared.text_readings.Part.{Part}
use Rattle.cabinet.specs.declared.section_parts.Head.{Head}
use Rattle.cabinet.specs.declared.section_parts.OpenAnswer.{OpenAnswer}
use Rattle.cabinet.specs.declared.section_parts.SectionStep.{SectionStep}
use Rattle.cabinet.specs.declared.section_parts.EntryStep.{EntryStep}
use Rattle.cabinet.specs.declared.section_parts.DescriptorStep.{DescriptorStep}

-- a number that counts only where a test holds
abbrev pub only : Bool → ℕ → ℕ
only b n = if b then n else 0

-- a part, both ways
abbrev pub part_in : Part → beneath.Part
part_in p = record { start = p.start; size = p.size }

abbrev pub says : beneath.Part → Part
says p = record { start = p.start; size = p.size }

-- the extension of a table in the row r
abbrev pub extension_if : List ℕ → ℕ → ℕ
extension_if s r = only (is_of r s) (extension_in s)

-- transport_stream_id: SDT's extension, and EIT's own
unfoldable pub transport_in : List ℕ → ℕ
transport_in s = if is_of SDT s then extension_in s else (sub_table_of s).transport_stream_id

-- NIT, SDT, BAT, EIT: network_id, bouquet_id and service_id are the extensions of NIT, BAT and EIT
abbrev pub numbered : List ℕ → Head
numbered s = record {
  table_id = get_or s 0 0;
  network_id = extension_if s NIT;
  bouquet_id = extension_if s BAT;
  service_id = extension_if s EIT;
  transport_stream_id = transport_in s;
  original_network_id = (sub_table_of s).original_network_id;
  version_number = version_in s;
  current_next_indicator = bit (is_current s);
  section_number = number_in s;
  last_section_number = last_in s;
}

-- a table_id alone
abbrev pub bare : ℕ → Head
bare id = record {
  table_id = id;
  network_id = 0;
  bouquet_id = 0;
  service_id = 0;
  transport_stream_id = 0;
  original_network_id = 0;
  version_number = 0;
  current_next_indicator = 0;
  section_number = 0;
  last_section_number = 0;
}

-- TDT and TOT have no more
unfoldable pub head_of : List ℕ → Head
head_of s = if is_numbered (row_of (get_or s 0 0)) then numbered s else bare (get_or s 0 0)

-- of a section that is refused nothing is told
unfoldable pub head_if : Bool → List ℕ → Head
head_if b s = if b then head_of s else bare 0

-- the judge's word, and what an opened section hands out
unfoldable pub open_says : List ℕ → OpenAnswer
open_says s = record {
  number = number_of (judged s);
  place = place_of (judged s);
  head = head_if (is_accepted (judged s)) s;
  utc_time = says (utcTime s);
  top = says (top_loop s);
  entries = says (entries_in s);
}

-- in the place of a part where there is none
abbrev pub no_part : Part
no_part = record { start = 0; size = 0 }

-- a section of a room, and what is left; where r has none, r is left
abbrev pub section_says : Part → Option Section → SectionStep
section_says r (Some x) = record { found = 1; section = says x.whole; rest = says x.rest }
section_says r None = record { found = 0; section = no_part; rest = r }

-- the id of an entry of a table in the row r
abbrev pub id_if : List ℕ → ℕ → beneath.Part → ℕ
id_if s r f = only (is_of r s) (id_in s f)

-- the transport_stream_id of an entry of NIT or BAT
unfoldable pub stream_in : List ℕ → beneath.Part → ℕ
stream_in s f = if is_of NIT s then id_in s f else id_if s BAT f

-- an entry of s, and what is left
abbrev pub one_entry_says : List ℕ → Entry → EntryStep
one_entry_says s x = record {
  found = 1;
  service_id = id_if s SDT x.fixed;
  event_id = id_if s EIT x.fixed;
  transport_stream_id = stream_in s x.fixed;
  original_network_id = network_in s x.fixed;
  fixed = says x.fixed;
  start_time = says (start_in s x.fixed);
  duration = says (duration_in s x.fixed);
  descriptors = says x.descriptors;
  rest = says x.rest;
}

-- the same; where r has none, r is left
abbrev pub entry_says : List ℕ → Part → Option Entry → EntryStep
entry_says s r (Some x) = one_entry_says s x
entry_says s r None = record {
  found = 0;
  service_id = 0;
  event_id = 0;
  transport_stream_id = 0;
  original_network_id = 0;
  fixed = no_part;
  start_time = no_part;
  duration = no_part;
  descriptors = no_part;
  rest = r;
}

-- a descriptor, and what is left; where r has none, r is left
abbrev pub descriptor_says : Part → Option Descriptor → DescriptorStep
descriptor_says r (Some x) = record { found = 1; tag = x.tag; descriptor = says x.whole; body = says x.body; rest = says x.rest }
descriptor_says r None = record { found = 0; tag = 0; descriptor = no_part; body = no_part; rest = r }
