-- The promises that the statements speak of are the `ensures` of the calls, to the letter.
use mathlib.Core.Path.{◌≡◌, refl}
use seplogic.Ra.Ura.{Ura}
use base.Logic.{SProp}
use prog.Memory.{Memory}
use prog.Routine.{Routine}
use types.Logic.{Logic}
use contract.Monad.{Fun, fact}
use contract.Lifetimes.{Lfts}
use denote.Triple.Entry.{Args, Res}
use denote.Triple.Clauses.{Lasts, at_exit}
use Rattle.cabinet.specs.Collect.{leaves}
use Rattle.cabinet.specs.Roll.{holds}
use Rattle.calls.specs.Sections as sections
use Rattle.calls.specs.Collects as collects
use Rattle.calls.specs.Judges as judges
use Rattle.calls.specs.Rolls as rolls
use Rattle.calls.specs.Sheets as sheets
use Rattle.calls.specs.Packets as packets
use Rattle.calls.specs.Readings as readings
use Rattle.cabinet.specs.contracts.collect.lohitunga_fresh as fresh
use Rattle.cabinet.specs.contracts.collect.lohitunga_collect as collect
use Rattle.cabinet.specs.contracts.judge.lohitunga_judge as judge
use Rattle.cabinet.specs.contracts.rolls.lohitunga_roll_empty as roll-empty
use Rattle.cabinet.specs.contracts.rolls.lohitunga_roll_ask as roll-ask
use Rattle.cabinet.specs.contracts.rolls.lohitunga_roll_take as roll-take
use Rattle.cabinet.specs.contracts.sheets.lohitunga_to_sheet as to_sheet_lem
use Rattle.cabinet.specs.contracts.sheets.lohitunga_to_section as to_section_lem
use Rattle.cabinet.specs.contracts.packets.lohitunga_packets as to-packets
use Rattle.cabinet.specs.contracts.section_parts.lohitunga_open as opening
use Rattle.cabinet.specs.contracts.section_parts.lohitunga_next_section as next-section
use Rattle.cabinet.specs.contracts.section_parts.lohitunga_next_entry as next-entry
use Rattle.cabinet.specs.contracts.section_parts.lohitunga_next_descriptor as next-descriptor
use Rattle.cabinet.specs.contracts.delivery_readings.lohitunga_read_satellite as satellite
use Rattle.cabinet.specs.contracts.delivery_readings.lohitunga_read_cable as cable
use Rattle.cabinet.specs.contracts.list_readings.lohitunga_read_local_time_offset as item
use Rattle.cabinet.specs.contracts.section_parts.lohitunga_time_from as time-from
use Rattle.cabinet.specs.contracts.section_parts.lohitunga_duration_from as duration-from
use Rattle.cabinet.specs.contracts.times.lohitunga_read_time as time
use Rattle.cabinet.specs.contracts.times.lohitunga_read_duration as duration
use Rattle.cabinet.specs.contracts.times.lohitunga_read_offset as offset
use Rattle.cabinet.specs.contracts.times.lohitunga_read_date as date

module _ {M : Type 1} {𝓤 : Ura M} (𝓛 : Logic 𝓤) (at_mem : Memory → SProp 𝓤) (run : Routine → Fun 𝓤) where
  pub fresh_promises : (κs : Lfts (fresh.ended).signature.lifetimes) (a : Args (fresh.ended).signature κs)
      (x : Res (fresh.ended).signature κs)
      (ws : Lasts fresh.ended κs a)
      → (fresh.clauses 𝓛 at_mem run κs a).ensures tt x (at_exit fresh.ended κs a ws)
      ≡ fact 𝓤 (collects.PromisedFresh a.0 x)
  fresh_promises κs a x ws = refl

  pub collect_promises : (κs : Lfts (collect.ended).signature.lifetimes) (a : Args (collect.ended).signature κs)
      (x : Res (collect.ended).signature κs) (ws : Lasts collect.ended κs a)
      → (collect.clauses 𝓛 at_mem run κs a).ensures tt x (at_exit collect.ended κs a ws)
      ≡ fact 𝓤
      (collects.Promised a.0.now a.1.0.now a.1.1.0.now a.1.1.1.0.now
      (leaves ws.0 ws.1.0 ws.1.1.0 x))
  collect_promises κs a x ws = refl

  pub judge_promises : (κs : Lfts (judge.ended).signature.lifetimes) (a : Args (judge.ended).signature κs)
      (x : Res (judge.ended).signature κs) (ws : Lasts judge.ended κs a)
      → (judge.clauses 𝓛 at_mem run κs a).ensures tt x (at_exit judge.ended κs a ws)
      ≡ fact 𝓤 (judges.Promised a.0.now x)
  judge_promises κs a x ws = refl

  pub roll_empty_promises : (κs : Lfts (roll-empty.ended).signature.lifetimes)
      (a : Args (roll-empty.ended).signature κs)
      (x : Res (roll-empty.ended).signature κs) (ws : Lasts roll-empty.ended κs a)
      → (roll-empty.clauses 𝓛 at_mem run κs a).ensures tt x (at_exit roll-empty.ended κs a ws)
      ≡ fact 𝓤 (rolls.PromisedEmpty x)
  roll_empty_promises κs a x ws = refl

  pub roll_ask_promises : (κs : Lfts (roll-ask.ended).signature.lifetimes) (a : Args (roll-ask.ended).signature κs)
      (x : Res (roll-ask.ended).signature κs) (ws : Lasts roll-ask.ended κs a)
      → (roll-ask.clauses 𝓛 at_mem run κs a).ensures tt x (at_exit roll-ask.ended κs a ws)
      ≡ fact 𝓤 (rolls.PromisedAsked a.0.now x)
  roll_ask_promises κs a x ws = refl

  pub roll_take_promises : (κs : Lfts (roll-take.ended).signature.lifetimes)
      (a : Args (roll-take.ended).signature κs)
      (x : Res (roll-take.ended).signature κs) (ws : Lasts roll-take.ended κs a)
      → (roll-take.clauses 𝓛 at_mem run κs a).ensures tt x (at_exit roll-take.ended κs a ws)
      ≡ fact 𝓤 (rolls.Promised a.0.now a.1.0.now (holds ws.0 x))
  roll_take_promises κs a x ws = refl

  pub to_sheet_promises : (κs : Lfts (to_sheet_lem.ended).signature.lifetimes) (a : Args (to_sheet_lem.ended).signature κs)
      (x : Res (to_sheet_lem.ended).signature κs) (ws : Lasts to_sheet_lem.ended κs a)
      → (to_sheet_lem.clauses 𝓛 at_mem run κs a).ensures tt x (at_exit to_sheet_lem.ended κs a ws)
      ≡ fact 𝓤 (sheets.ToSheet a.0.now a.1.0.now x ws.1.0)
  to_sheet_promises κs a x ws = refl

  pub to_section_promises : (κs : Lfts (to_section_lem.ended).signature.lifetimes)
      (a : Args (to_section_lem.ended).signature κs)
      (x : Res (to_section_lem.ended).signature κs) (ws : Lasts to_section_lem.ended κs a)
      → (to_section_lem.clauses 𝓛 at_mem run κs a).ensures tt x (at_exit to_section_lem.ended κs a ws)
      ≡ fact 𝓤 (sheets.ToSection a.0.now a.1.0.now x ws.1.0)
  to_section_promises κs a x ws = refl

  pub packets_promises : (κs : Lfts (to-packets.ended).signature.lifetimes)
      (a : Args (to-packets.ended).signature κs)
      (x : Res (to-packets.ended).signature κs) (ws : Lasts to-packets.ended κs a)
      → (to-packets.clauses 𝓛 at_mem run κs a).ensures tt x (at_exit to-packets.ended κs a ws)
      ≡ fact 𝓤
      (packets.Packets a.0 a.1.0 a.1.1.0.now a.1.1.1.0.now a.1.1.1.1.0.now x
      ws.1.1.1.1.0)
  packets_promises κs a x ws = refl

  pub open_promises : (κs : Lfts (opening.ended).signature.lifetimes) (a : Args (opening.ended).signature κs)
      (x : Res (opening.ended).signature κs) (ws : Lasts opening.ended κs a)
      → (opening.clauses 𝓛 at_mem run κs a).ensures tt x (at_exit opening.ended κs a ws)
      ≡ fact 𝓤 (sections.PromisedOpen a.0.now x)
  open_promises κs a x ws = refl

  pub next_section_promises : (κs : Lfts (next-section.ended).signature.lifetimes)
      (a : Args (next-section.ended).signature κs)
      (x : Res (next-section.ended).signature κs) (ws : Lasts next-section.ended κs a)
      → (next-section.clauses 𝓛 at_mem run κs a).ensures tt x (at_exit next-section.ended κs a ws)
      ≡ fact 𝓤 (sections.PromisedSection a.0.now a.1.0 x)
  next_section_promises κs a x ws = refl

  pub next_entry_promises : (κs : Lfts (next-entry.ended).signature.lifetimes)
      (a : Args (next-entry.ended).signature κs)
      (x : Res (next-entry.ended).signature κs) (ws : Lasts next-entry.ended κs a)
      → (next-entry.clauses 𝓛 at_mem run κs a).ensures tt x (at_exit next-entry.ended κs a ws)
      ≡ fact 𝓤 (sections.PromisedEntry a.0.now a.1.0 x)
  next_entry_promises κs a x ws = refl

  pub next_descriptor_promises : (κs : Lfts (next-descriptor.ended).signature.lifetimes)
      (a : Args (next-descriptor.ended).signature κs)
      (x : Res (next-descriptor.ended).signature κs) (ws : Lasts next-descriptor.ended κs a)
      → (next-descriptor.clauses 𝓛 at_mem run κs a).ensures tt x (at_exit next-descriptor.ended κs a ws)
      ≡ fact 𝓤 (sections.PromisedDescriptor a.0.now a.1.0 x)
  next_descriptor_promises κs a x ws = refl

  pub satellite_promises : (κs : Lfts (satellite.ended).signature.lifetimes)
      (a : Args (satellite.ended).signature κs)
      (x : Res (satellite.ended).signature κs) (ws : Lasts satellite.ended κs a)
      → (satellite.clauses 𝓛 at_mem run κs a).ensures tt x (at_exit satellite.ended κs a ws)
      ≡ fact 𝓤 (readings.PromisedSatellite a.0.now x)
  satellite_promises κs a x ws = refl

  pub cable_promises : (κs : Lfts (cable.ended).signature.lifetimes) (a : Args (cable.ended).signature κs)
      (x : Res (cable.ended).signature κs) (ws : Lasts cable.ended κs a)
      → (cable.clauses 𝓛 at_mem run κs a).ensures tt x (at_exit cable.ended κs a ws)
      ≡ fact 𝓤 (readings.PromisedCable a.0.now x)
  cable_promises κs a x ws = refl

  pub item_promises : (κs : Lfts (item.ended).signature.lifetimes) (a : Args (item.ended).signature κs)
      (x : Res (item.ended).signature κs) (ws : Lasts item.ended κs a)
      → (item.clauses 𝓛 at_mem run κs a).ensures tt x (at_exit item.ended κs a ws)
      ≡ fact 𝓤 (readings.PromisedItem a.0.now a.1.0 x)
  item_promises κs a x ws = refl

  pub time_from_promises : (κs : Lfts (time-from.ended).signature.lifetimes)
      (a : Args (time-from.ended).signature κs)
      (x : Res (time-from.ended).signature κs) (ws : Lasts time-from.ended κs a)
      → (time-from.clauses 𝓛 at_mem run κs a).ensures tt x (at_exit time-from.ended κs a ws)
      ≡ fact 𝓤 (readings.PromisedTimeFrom a.0.now x)
  time_from_promises κs a x ws = refl

  pub duration_from_promises : (κs : Lfts (duration-from.ended).signature.lifetimes)
      (a : Args (duration-from.ended).signature κs)
      (x : Res (duration-from.ended).signature κs) (ws : Lasts duration-from.ended κs a)
      → (duration-from.clauses 𝓛 at_mem run κs a).ensures tt x (at_exit duration-from.ended κs a ws)
      ≡ fact 𝓤 (readings.PromisedDurationFrom a.0.now x)
  duration_from_promises κs a x ws = refl

  pub time_promises : (κs : Lfts (time.ended).signature.lifetimes) (a : Args (time.ended).signature κs)
      (x : Res (time.ended).signature κs) (ws : Lasts time.ended κs a)
      → (time.clauses 𝓛 at_mem run κs a).ensures tt x (at_exit time.ended κs a ws)
      ≡ fact 𝓤 (readings.PromisedTime a.0 a.1.0 a.1.1.0 a.1.1.1.0 x)
  time_promises κs a x ws = refl

  pub duration_promises : (κs : Lfts (duration.ended).signature.lifetimes) (a : Args (duration.ended).signature κs)
      (x : Res (duration.ended).signature κs) (ws : Lasts duration.ended κs a)
      → (duration.clauses 𝓛 at_mem run κs a).ensures tt x (at_exit duration.ended κs a ws)
      ≡ fact 𝓤 (readings.PromisedDuration a.0 a.1.0 a.1.1.0 x)
  duration_promises κs a x ws = refl

  pub offset_promises : (κs : Lfts (offset.ended).signature.lifetimes) (a : Args (offset.ended).signature κs)
      (x : Res (offset.ended).signature κs) (ws : Lasts offset.ended κs a)
      → (offset.clauses 𝓛 at_mem run κs a).ensures tt x (at_exit offset.ended κs a ws)
      ≡ fact 𝓤 (readings.PromisedOffset a.0 a.1.0 a.1.1.0 x)
  offset_promises κs a x ws = refl

  pub date_promises : (κs : Lfts (date.ended).signature.lifetimes) (a : Args (date.ended).signature κs)
      (x : Res (date.ended).signature κs) (ws : Lasts date.ended κs a)
      → (date.clauses 𝓛 at_mem run κs a).ensures tt x (at_exit date.ended κs a ws)
      ≡ fact 𝓤 (readings.PromisedDate a.0 x)
  date_promises κs a x ws = refl
