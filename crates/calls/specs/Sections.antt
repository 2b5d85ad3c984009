-- The sections of the out room. A call of the collector tells how many sections it accepted, and of how many bytes; the walk over the part of the
-- out room that has so many bytes hands out those sections, all of them and in order.
use Rattle.std.specs.Prelude.{◌≡◌, List, ℕ, take}
use Rattle.history.specs.Run.{cut}
use Rattle.parts.specs.Parts.{part}
use Rattle.parts.specs.Room.{next_section, HandsSections}
use Rattle.parts.specs.Entries.{next_entry}
use Rattle.parts.specs.Descriptors.{next_descriptor}
use Rattle.cabinet.specs.Collect.{Outcome}
use Rattle.cabinet.specs.Parts.{part_in, open_says, section_says, entry_says, descriptor_says}
use Rattle.cabinet.specs.declared.collect.Record.{Record}
use Rattle.cabinet.specs.declared.text_readings.Part.{Part}
use Rattle.cabinet.specs.declared.section_parts.OpenAnswer.{OpenAnswer}
use Rattle.cabinet.specs.declared.section_parts.SectionStep.{SectionStep}
use Rattle.cabinet.specs.declared.section_parts.EntryStep.{EntryStep}
use Rattle.cabinet.specs.declared.section_parts.DescriptorStep.{DescriptorStep}
use Rattle.calls.specs.Collects.{Collector}

-- what the calls that hand out parts promise
abbrev pub PromisedOpen : List ℕ → OpenAnswer → Type 0
PromisedOpen s a = a ≡ open_says s

abbrev pub PromisedSection : List ℕ → Part → SectionStep → Type 0
PromisedSection room rest a = a ≡ section_says rest (next_section room (part_in rest))

abbrev pub PromisedEntry : List ℕ → Part → EntryStep → Type 0
PromisedEntry s rest a = a ≡ entry_says s rest (next_entry s (part_in rest))

abbrev pub PromisedDescriptor : List ℕ → Part → DescriptorStep → Type 0
PromisedDescriptor s rest a = a ≡ descriptor_says rest (next_descriptor s (part_in rest))

-- of any call, with any record, hold, out room and packet; `cut` is what demand 3 says of the sections that a call hands out
abbrev pub HandsOutAll : Collector → Type 0
HandsOutAll C =
    (r : Record) (hold out packet : List ℕ) (o : Outcome) → C r hold out packet o
    → HandsSections o.out (part 0 o.answer.size) (cut o.answer.sections (take o.answer.size o.out))
